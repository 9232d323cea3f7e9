-- Nodes that are counted one after the other, wherever their lines begin.
use Rattle.std.proofs.Common.{◌≡◌, ℕ, ◌+◌, ◌<◌, ◌≤◌, List, [], ◌∷◌, ◌++◌, length, length-append, get_or, drop, map, refl, ap, sym, ◌∙◌, arith}
use Rattle.std.specs.Prelude.{Some, None}
use Rattle.std.proofs.lemmas.List.{at_drop_more, at_drop_all}
use Rattle.g_diagram.specs.declared.node.Branch.{Branch}
use Rattle.g_diagram.specs.declared.node.SequenceFrame.{SequenceFrame}
use Rattle.g_diagram.specs.declared.panel.PanelItem.{PanelItem}
use Rattle.g_diagram.specs.declared.panel.PanelItem.TheVariants.{Control, Indicator}
use Rattle.g_diagram.specs.Lines.{Entry, lines_of, branch_lines, frame_lines, entries_in, in_order, panel_entries}
use Rattle.g_diagram.specs.Sizes.{told}
use Rattle.g_diagram.proofs.LineLemmas.{lines-branch, lines-frame, lines-diagram}

-- so many were counted, and the rest begins on some line
pub record Counted (total : ℕ) (rest : (line : ℕ) → List Entry) (whole : ℕ) : Type 0 where
  pub line : ℕ
  pub kept : total ≤ 4294967295
  pub is : told (total + length (rest line)) ≡ told whole

more : (t k s g r w : ℕ) → s ≡ told (t + k) → k ≡ told g → told (t + (g + r)) ≡ told w → told (s + r) ≡ told w
more t k s g r w e f h = omega (arith, e, f, h)

-- one more element, as at a step of a loop
pub one_more : {X : Type 0} (F : List X → (line : ℕ) → List Entry) (g : (line : ℕ) → List Entry) (next : ℕ → ℕ) (xs : List X) (i : ℕ) (x : X) (total k sum whole : ℕ)
    → i < length xs → x ≡ get_or xs i x → sum ≡ told (total + k) → ((line : ℕ) → k ≡ told (length (g line)))
    → ((line : ℕ) → F (x ∷ drop (i + 1) xs) line ≡ g line ++ F (drop (i + 1) xs) (next line))
    → Counted total (F (drop i xs)) whole → Counted sum (F (drop (i + 1) xs)) whole
one_more F g next xs i x total k sum whole lt is added counts step c = record {
  line = next c.line;
  kept = omega (arith, added);
  is =
      let rest = F (drop (i + 1) xs) (next c.line) in
      let here : length (F (drop i xs) c.line) ≡ length (g c.line) + length rest =
      at_drop_more (λ ys. length (F ys c.line)) xs i x lt ∙ ap (λ y. length (F (y ∷ drop (i + 1) xs) c.line)) (sym is)
      ∙ ap length (step c.line) ∙ length-append (g c.line) rest in
      more total k sum (length (g c.line)) (length rest) whole added (counts c.line) (ap (λ n. told (total + n)) (sym here) ∙ c.is);
}

pub all_counted : {X : Type 0} (F : List X → (line : ℕ) → List Entry) (xs : List X) (i total whole : ℕ)
    → length xs ≤ i → ((line : ℕ) → F [] line ≡ []) → Counted total (F (drop i xs)) whole → total ≡ told whole
all_counted F xs i total whole le none_left c =
    let rest : length (F (drop i xs) c.line) ≡ 0 = at_drop_all (λ ys. length (F ys c.line)) xs i le ∙ ap length (none_left c.line) in
    let e : told (total + length (F (drop i xs) c.line)) ≡ told whole = c.is in
    omega (arith, rest, e, c.kept)

pub both : (r p n a b w : ℕ) → r ≡ told (p + n) → p ≡ told a → n ≡ told b → w ≡ a + b → r ≡ told w
both r p n a b w e f g h = omega (arith, e, f, g, h)

pub branch_body : (b : Branch) → (branch_lines b).body ≡ in_order (map lines_of b.body.nodes)
branch_body b = ap (λ x. x.body) (lines-branch b) ∙ lines-diagram b.body

pub frame_body : (f : SequenceFrame) → (frame_lines f).body ≡ in_order (map lines_of f.body.nodes)
frame_body f = ap (λ x. x.body) (lines-frame f) ∙ lines-diagram f.body

pub panel_step : (x : PanelItem) (items : List PanelItem) (line : ℕ) → panel_entries (x ∷ items) line ≡ panel_entries (x ∷ []) line ++ panel_entries items (line + 1)
panel_step (Control name t required default out) items line = refl
panel_step (Indicator name t None) items line = refl
panel_step (Indicator name t (Some w)) items line = refl
