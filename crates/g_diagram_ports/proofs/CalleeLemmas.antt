-- A VI added to those that calls mean.
use Rattle.std.proofs.Common.{◌≡◌, ℕ, Bool, true, false, cond, List, refl, ap, ◌∙◌, subst}
use Rattle.std.specs.Prelude.{if◌then◌else◌, Option, Some, None, is_some, Vec}
use Rattle.std.specs.Ordering.{nat_cmp}
use Rattle.std.specs.Cmp.Lexicographic.{slice_cmp}
use Rattle.std.specs.Str.{bytes_eq}
use Rattle.std.specs.Map.{update}
use Rattle.std.specs.Option.{option_map, option_or}
use Rattle.std.specs.BTreeMap.{get_by}
use Rattle.std.specs.declared.alloc.Global.{Global}
use Rattle.std.proofs.lemmas.Slice.Eq.{bytes_eq-Decides}
use Rattle.g_diagram_ports.specs.Callees.{Table, required_in}

abbrev pub found : Table → List ℕ → Option (Vec Bool Global)
found m name = get_by (λ k. slice_cmp nat_cmp name k.now) m

step : (b : Bool) (o : Option (Vec Bool Global)) (flags : Vec Bool Global) (controls : List Bool) → flags.items ≡ controls → (b ≡ true → o ≡ None)
    → option_map (λ v. v.items) (cond b (Some flags) o) ≡ option_or (option_map (λ v. v.items) o) (if b then Some controls else None)
step true None flags controls e h = ap Some e
step true (Some v) flags controls e h = let absurd_case : Some v ≡ None = h refl in cc
step false None flags controls e h = refl
step false (Some v) flags controls e h = refl

none_of : (o : Option (Vec Bool Global)) → is_some o ≡ false → o ≡ None
none_of None h = refl
none_of (Some v) h = cc

-- what is known after a VI of a name is added
abbrev pub required_by : (old new : Table) → (controls : List Bool) → List ℕ → Type 0
required_by old new controls bs = (name : List ℕ) → required_in new name ≡ option_or (required_in old name) (if bytes_eq bs name then Some controls else None)

pub added : (old new : Table) (bs : List ℕ) (flags : Vec Bool Global) (controls : List Bool) → flags.items ≡ controls
    → ((cs : List ℕ) → found new cs ≡ update bytes_eq (found old) bs (Some flags) cs) → is_some (found old bs) ≡ false
    → required_by old new controls bs
added old new bs flags controls e updates absent name =
    ap (option_map (λ v. v.items)) (updates name)
    ∙ step (bytes_eq bs name) (found old name) flags controls e
    (λ same. let P : List ℕ → Type 0 = λ cs. found old cs ≡ None in subst P ((bytes_eq-Decides bs name).0 same) (none_of (found old bs) absent))
