-- A VI added to those that calls mean.
use Rattle.std.proofs.Common.{◌≡◌, ℕ, Bool, true, false, cond, List, refl, ap, ◌∙◌, subst}
use Rattle.std.specs.Prelude.{if◌then◌else◌, Option, Some, None, is_some}
use Rattle.std.specs.Ordering.{nat_cmp}
use Rattle.std.specs.Cmp.Lexicographic.{slice_cmp}
use Rattle.std.specs.Str.{bytes_eq}
use Rattle.std.specs.Map.{update}
use Rattle.std.specs.Option.{option_map, option_or}
use Rattle.std.specs.BTreeMap.{get_by}
use Rattle.std.proofs.lemmas.Slice.Eq.{bytes_eq-Decides}
use Rattle.g_rules_lines.specs.declared.callees.Arity.{Arity}
use Rattle.g_rules_lines.specs.Names.{Table, seen_arity, arity_in}

abbrev pub arity_found : Table → List ℕ → Option Arity
arity_found m name = get_by (λ k. slice_cmp nat_cmp name k.now) m

step : (b : Bool) (o : Option Arity) (a : Arity) (counts : ℕ × ℕ) → seen_arity a ≡ counts → (b ≡ true → o ≡ None)
    → option_map seen_arity (cond b (Some a) o) ≡ option_or (option_map seen_arity o) (if b then Some counts else None)
step true None a counts e h = ap Some e
step true (Some v) a counts e h = let absurd_case : Some v ≡ None = h refl in cc
step false None a counts e h = refl
step false (Some v) a counts e h = refl

none_of : (o : Option Arity) → is_some o ≡ false → o ≡ None
none_of None h = refl
none_of (Some v) h = cc

-- what is known after a VI of a name is added
abbrev pub arity_by : (old new : Table) → (counts : ℕ × ℕ) → List ℕ → Type 0
arity_by old new counts bs = (name : List ℕ) → arity_in new name ≡ option_or (arity_in old name) (if bytes_eq bs name then Some counts else None)

pub arity_added : (old new : Table) (bs : List ℕ) (a : Arity) (counts : ℕ × ℕ) → seen_arity a ≡ counts
    → ((cs : List ℕ) → arity_found new cs ≡ update bytes_eq (arity_found old) bs (Some a) cs) → is_some (arity_found old bs) ≡ false
    → arity_by old new counts bs
arity_added old new bs a counts e updates absent name =
    ap (option_map seen_arity) (updates name)
    ∙ step (bytes_eq bs name) (arity_found old name) a counts e
    (λ same. let P : List ℕ → Type 0 = λ cs. arity_found old cs ≡ None in subst P ((bytes_eq-Decides bs name).0 same) (none_of (arity_found old bs) absent))
