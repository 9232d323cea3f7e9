-- What a program's VIs have, and what is gathered of them.
use Rattle.std.proofs.Common.{◌≡◌, ℕ, suc, ◌+◌, ◌==◌, ◌<◌, Bool, false, List, [], ◌∷◌, ◌++◌, drop, drop-cons, get_or, length, append_assoc, refl, sym, ap, ◌∙◌, arith}
use Rattle.std.specs.Prelude.{if◌then◌else◌}
use Rattle.std.specs.List.{list_any}
use Rattle.g_values.specs.declared.value.Value.{Value}
use Rattle.g_diagram.specs.declared.panel.PanelItem.{PanelItem}
use Rattle.g_hier.specs.declared.linked.Space.{Space}
use Rattle.g_frames.specs.declared.state.DiagramSources.{DiagramSources}
use Rattle.g_frames.specs.Contents.{Content}
use Rattle.g_frames.specs.Panels.{control_defaults}
use Rattle.g_frames.specs.Program.{FlatVi, Program}
use Rattle.g_frames.specs.State.{all_sources, first_panel, first_panels, panel_items, vi_sources}
use Rattle.g_start.specs.Panels.{default_panels}

-- only the first panel has its controls set
not_first : (k : ℕ) → (suc k == 0) ≡ false
not_first k = grind arith

pub other_panels : (p : Program) (controls : List Value) (k : ℕ) (ss : List Space) → first_panels p controls (suc k) ss ≡ default_panels p ss
other_panels p controls k [] = refl
other_panels p controls k (s ∷ ss) =
    let items : List PanelItem = panel_items p s.vi in
    ap (λ b. first_panel (if b then controls else control_defaults items) items ∷ first_panels p controls (suc (suc k)) ss) (not_first k)
    ∙ ap (λ cs. first_panel (control_defaults items) items ∷ cs) (other_panels p controls (suc k) ss)

pub all_panels : (p : Program) (controls : List Value) (ss : List Space) (d : Space) (items : List PanelItem) (old more new : List Content) → (length ss == 0) ≡ false
    → items ≡ panel_items p (get_or ss 0 d).vi → more ≡ old ++ first_panel controls items ∷ [] → new ≡ more ++ default_panels p (drop 1 ss) → new ≡ old ++ first_panels p controls 0 ss
all_panels p controls [] d items old more new some is first rest = absurd cc
all_panels p controls (x ∷ ss) d items old more new some is first rest =
    rest ∙ ap (λ cs. cs ++ default_panels p ss) first ∙ append_assoc old (first_panel controls items ∷ []) (default_panels p ss)
    ∙ ap (λ xs. old ++ (first_panel controls xs ∷ default_panels p ss)) is
    ∙ ap (λ cs. old ++ (first_panel controls (panel_items p x.vi) ∷ cs)) (sym (other_panels p controls 0 ss))

pub sources_next : (p : Program) (n m i : ℕ) (f : FlatVi) (b : Bool) (old new total : List DiagramSources) → m ≡ n + 1 → drop i p.vis ≡ f ∷ drop (i + 1) p.vis
    → b ≡ list_any (λ s. s.vi == n) p.spaces → new ≡ old ++ (if b then vi_sources n f else []) → old ++ all_sources p n (drop i p.vis) ≡ total
    → new ++ all_sources p m (drop (i + 1) p.vis) ≡ total
sources_next p n m i f b old new total e d used more so_far =
    let rest : List FlatVi = drop (i + 1) p.vis in
    let here : List DiagramSources = if list_any (λ s. s.vi == n) p.spaces then vi_sources n f else [] in
    ap (λ xs. xs ++ all_sources p m rest) (more ∙ ap (λ x. old ++ (if x then vi_sources n f else [])) used)
    ∙ append_assoc old here (all_sources p m rest)
    ∙ (let s : m ≡ suc n = omega arith in ap (λ k. old ++ (here ++ all_sources p k rest)) s)
    ∙ ap (λ vis. old ++ all_sources p n vis) (sym d) ∙ so_far

-- the rest from an item on
pub drop_at : {X : Type 0} (xs : List X) (i : ℕ) (d : X) → i < length xs → drop i xs ≡ get_or xs i d ∷ drop (i + 1) xs
drop_at xs i d lt = drop-cons xs i d lt ∙ (let e : suc i ≡ i + 1 = omega arith in ap (λ n. get_or xs i d ∷ drop n xs) e)
