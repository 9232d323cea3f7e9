-- What a search for a node that can fire comes to.
use Rattle.std.proofs.Common.{◌≡◌, Bool, true, false, ◌||◌, ℕ, zero, suc, ◌+◌, ◌<◌, ◌≤◌, List, [], ◌∷◌, map, drop, Option, Some, None, refl, ap, ◌∙◌, sym, arith}
use Rattle.std.specs.Prelude.{not, nat_lt}
use Rattle.std.specs.List.{list_any}
use Rattle.std.specs.Option.{option_map_or}
use Rattle.g_diagram.specs.Lines.{Entry}
use Rattle.g_frames.specs.declared.firing.Firing.{Firing}
use Rattle.g_frames.specs.declared.state.Frame.{Frame}
use Rattle.g_frames.specs.declared.state.Progress.{Progress}
use Rattle.g_frames.specs.Program.{FlatVi, Program}
use Rattle.g_frames.specs.State.{FireState, nodes_in}
use Rattle.g_frames.specs.Run.{all_nodes, frame_nodes, from_to, is_at_rest, nodes_from}
use Rattle.g_vi_tables.specs.declared.table.ViTable.{ViTable}
use Rattle.g_vi_tables.specs.Tables.{IsViTable}
use Rattle.g_program.specs.Tables.{AreTables}
use Rattle.g_runs.specs.Scans.{Finds, goes_on, line_goes_on}

-- ---- clones

pub any_next : (test : Option ℕ → Bool) (k n i : ℕ) → i < n
    → list_any test (map Some (drop i (from_to k n))) ≡ (test (Some (k + i)) || list_any test (map Some (drop (i + 1) (from_to k n))))
any_next test k zero i lt = absurd (omega (arith, lt))
any_next test k (suc n) zero lt = ap (λ m. test (Some m) || list_any test (map Some (from_to (suc k) n))) (omega arith)
any_next test k (suc n) (suc i) lt =
    any_next test (suc k) n i (omega (arith, lt))
    ∙ (let m : suc k + i ≡ k + suc i = omega arith in ap (λ m. test (Some m) || list_any test (map Some (drop (i + 1) (from_to (suc k) n)))) m)
    ∙ (let j : suc (i + 1) ≡ suc i + 1 = omega arith in ap (λ j. test (Some (k + suc i)) || list_any test (map Some (drop j (from_to k (suc n))))) j)

pub any_at : (test : Option ℕ → Bool) (n i : ℕ) → i < n
    → list_any test (map Some (drop i (from_to 0 n))) ≡ (test (Some i) || list_any test (map Some (drop (i + 1) (from_to 0 n))))
any_at test n i lt =
    any_next test 0 n i lt
    ∙ (let m : 0 + i ≡ i = omega arith in ap (λ m. test (Some m) || list_any test (map Some (drop (i + 1) (from_to 0 n)))) m)

pub none_left : (test : Option ℕ → Bool) (k n i : ℕ) → n ≤ i → list_any test (map Some (drop i (from_to k n))) ≡ false
none_left test k zero zero ge = refl
none_left test k zero (suc i) ge = refl
none_left test k (suc n) zero ge = absurd (omega (arith, ge))
none_left test k (suc n) (suc i) ge = none_left test (suc k) n i (omega (arith, ge))

-- ---- nodes of a frame

neither : (x y : Bool) → (x || y) ≡ false → (x ≡ false) × (y ≡ false)
neither false y h = (refl, h)
neither true y h = absurd cc

none_in : (p : Program) (room : Bool) (s : FireState) (k : ℕ) (f : Frame) (vi : FlatVi) (es : List Entry) (qs : List Progress)
    → list_any (line_goes_on p room s k) es ≡ false → list_any (goes_on p room s) (nodes_from k f vi es qs) ≡ false
none_in p room s k f vi [] qs h = refl
none_in p room s k f vi (e ∷ es) [] h = refl
none_in p room s k f vi (e ∷ es) (q ∷ qs) h =
    let both = neither (line_goes_on p room s k e) (list_any (line_goes_on p room s k) es) h in
    ap (λ b. b || list_any (goes_on p room s) (nodes_from k f vi es qs)) both.0 ∙ none_in p room s k f vi es qs both.1

pub in_frame : (p : Program) (room : Bool) (s : FireState) (k : ℕ) (f : Frame) (o : Option FlatVi) (t : ViTable) (es : List Entry) (r : Option Firing) → AreTables o (Some t)
    → ((vi : FlatVi) → IsViTable vi t → es ≡ nodes_in vi f.diagram) → Finds p room s (list_any (line_goes_on p room s k) es) r
    → Finds p room s (list_any (goes_on p room s) (option_map_or (frame_nodes k f) o [])) r
in_frame p room s k f None t es r are all found = absurd are
in_frame p room s k f (Some vi) t es None are all found =
    none_in p room s k f vi (nodes_in vi f.diagram) f.nodes (ap (λ xs. list_any (line_goes_on p room s k) xs) (sym (all vi are)) ∙ found)
in_frame p room s k f (Some vi) t es (Some x) are all found = found

pub rests : (p : Program) (room : Bool) (s : FireState) (r : Option Firing) → room ≡ nat_lt s.begun s.limit
    → Finds p room s (list_any (goes_on p room s) (all_nodes p s)) r → r ≡ None → is_at_rest p s ≡ true
rests p room s None e f h = ap (λ b. not (list_any (goes_on p b s) (all_nodes p s))) (sym e) ∙ ap not f
rests p room s (Some x) e f h = absurd cc
