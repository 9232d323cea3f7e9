-- A name added to a set.
use Rattle.std.proofs.Common.{◌≡◌, ℕ, Bool, true, false, cond, ◌||◌, List, refl, ap, ◌∙◌}
use Rattle.std.specs.Ordering.{nat_cmp}
use Rattle.std.specs.Cmp.Lexicographic.{slice_cmp}
use Rattle.std.specs.Str.{bytes_eq}
use Rattle.std.specs.BTreeSet.{Updates}
use Rattle.std.proofs.lemmas.Map.Text.{is_eq-slice_cmp}
use denote.Ref.{Bor}
use Rattle.g_rules_lines.specs.Names.{Names, has_name}

cond_or : (a b : Bool) → cond a true b ≡ (b || a)
cond_or true true = refl
cond_or true false = refl
cond_or false true = refl
cond_or false false = refl

pub name_added : (s t : Names) (x : Bor (List ℕ)) → Updates (λ x y. slice_cmp nat_cmp x.now y.now) s t x true → (name : List ℕ) → has_name t name ≡ (has_name s name || bytes_eq x.now name)
name_added s t x u name =
    u.0 (record { ref_ptr = (0, 0); now = name }) ∙ ap (λ b. cond b true (has_name s name)) (is_eq-slice_cmp x.now name) ∙ cond_or (bytes_eq x.now name) (has_name s name)
