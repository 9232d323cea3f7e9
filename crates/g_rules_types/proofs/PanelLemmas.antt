-- A name added to those that mean something: the first thing of a name stays.
use Rattle.std.proofs.Common.{◌≡◌, ℕ, Bool, true, false, cond, List, refl, ap, ◌∙◌, subst}
use Rattle.std.specs.Prelude.{if◌then◌else◌, Option, Some, None, is_some}
use Rattle.std.specs.Str.{bytes_eq}
use Rattle.std.specs.Map.{update}
use Rattle.std.specs.Option.{option_map, option_or}
use Rattle.std.specs.BTreeMap.{BTreeMap}
use Rattle.std.proofs.lemmas.Slice.Eq.{bytes_eq-Decides}
use denote.Ref.{Bor}
use Rattle.g_rules_types.specs.Panels.{found}

step : {V W : Type 0} (f : V → W) (b : Bool) (o : Option V) (v : V) (w : W) → f v ≡ w → (b ≡ true → o ≡ None)
    → option_map f (cond b (Some v) o) ≡ option_or (option_map f o) (if b then Some w else None)
step f true None v w e h = ap Some e
step f true (Some u) v w e h = let absurd_case : Some u ≡ None = h refl in cc
step f false None v w e h = refl
step f false (Some u) v w e h = refl

none_of : {V : Type 0} (o : Option V) → is_some o ≡ false → o ≡ None
none_of None h = refl
none_of (Some v) h = cc

abbrev pub adds : {V W : Type 0} → (f : V → W) → (old new : BTreeMap (Bor (List ℕ)) V) → W → List ℕ → Type 0
adds f old new w bs = (name : List ℕ) → option_map f (found new name) ≡ option_or (option_map f (found old name)) (if bytes_eq bs name then Some w else None)

pub added : {V W : Type 0} (f : V → W) (old new : BTreeMap (Bor (List ℕ)) V) (bs : List ℕ) (v : V) (w : W) → f v ≡ w
    → ((cs : List ℕ) → found new cs ≡ update bytes_eq (found old) bs (Some v) cs) → is_some (found old bs) ≡ false
    → adds f old new w bs
added {V} f old new bs v w e updates absent name =
    ap (option_map f) (updates name)
    ∙ step f (bytes_eq bs name) (found old name) v w e
    (λ same. let P : List ℕ → Type 0 = λ cs. found {V = V} old cs ≡ None in subst P ((bytes_eq-Decides bs name).0 same) (none_of (found old bs) absent))

-- a name that means something already
pub kept : {W : Type 0} (o : Option W) (b : Bool) (w : W) → (b ≡ true → is_some o ≡ true) → o ≡ option_or o (if b then Some w else None)
kept None true w h = let e : false ≡ true = h refl in cc
kept None false w h = refl
kept (Some u) b w h = refl
