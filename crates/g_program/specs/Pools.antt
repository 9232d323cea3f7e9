-- Inner: the VIs whose calls take a clone, of those that a test finds.
use Rattle.std.specs.Prelude.{ℕ, suc, ◌==◌, ◌&&◌, Bool, not, List, [], ◌∷◌, ◌++◌, if◌then◌else◌}
use Rattle.g_frames.specs.Program.{FlatVi, takes_clone}

abbrev pub pooled : (test : ℕ → Bool) → (main vi : ℕ) → List FlatVi → List ℕ
pooled test main v [] = []
pooled test main v (vi ∷ vis) = (if test v && (not (v == main) && takes_clone vi.clones) then v ∷ [] else []) ++ pooled test main (suc v) vis
