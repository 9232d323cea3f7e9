-- How many inputs a row takes, and what each has to be.
use Rattle.std.proofs.Common.{◌≡◌, Bool, true, false, cond, List, [], ◌∷◌, map, Option, None, Some, refl}
use Rattle.g_types.specs.declared.ty.Ty.{Ty}
use Rattle.g_values.specs.Value.{type_of}
use Rattle.g_values.specs.declared.value.Value.{Value}
use Rattle.g_prims_definitions.specs.Row.{Row, read, given, another, ends, one, two, three}
use Rattle.g_prims_definitions.specs.Rows.{single, twice, when}
use Rattle.g_prims_laws.proofs.Levels.{known}

pub passed : (b : Bool) (row : Row) (ts os : List Ty) → read (given b row) ts ≡ Some os → (b ≡ true) × (read row ts ≡ Some os)
passed true row ts os h = (refl, h)
passed false row ts os h = absurd cc

ended : (o : Option (List Ty)) (os : List Ty) → read (ends o) [] ≡ Some os → o ≡ Some os
ended None os h = absurd cc
ended (Some ts) os h = h

no_more : (o : Option (List Ty)) (t : Ty) (ts os : List Ty) → read (ends o) (t ∷ ts) ≡ Some os → ⊥
no_more None t ts os h = absurd cc
no_more (Some us) t ts os h = cc

pub one_input : (P : List Value → Type 0) (outs : Ty → Option (List Ty)) (os : List Ty) → ((x : Value) → outs (type_of x) ≡ Some os → P (x ∷ []))
    → (vs : List Value) → read (one outs) (map type_of vs) ≡ Some os → P vs
one_input P outs os f [] h = absurd cc
one_input P outs os f (x ∷ []) h = f x (ended (outs (type_of x)) os h)
one_input P outs os f (x ∷ y ∷ vs) h = absurd (no_more (outs (type_of x)) (type_of y) (map type_of vs) os h)

pub two_inputs : (P : List Value → Type 0) (first : Ty → Bool) (outs : Ty → Ty → Option (List Ty)) (os : List Ty)
    → ((x y : Value) → first (type_of x) ≡ true → outs (type_of x) (type_of y) ≡ Some os → P (x ∷ y ∷ []))
    → (vs : List Value) → read (two first outs) (map type_of vs) ≡ Some os → P vs
two_inputs P first outs os f [] h = absurd cc
two_inputs P first outs os f (x ∷ []) h =
    let b = passed (first (type_of x)) (another (λ y. ends (outs (type_of x) y))) [] os h in
    let n = b.1 in
    absurd cc
two_inputs P first outs os f (x ∷ y ∷ []) h =
    let b = passed (first (type_of x)) (another (λ y. ends (outs (type_of x) y))) (type_of y ∷ []) os h in
    f x y b.0 (ended (outs (type_of x) (type_of y)) os b.1)
two_inputs P first outs os f (x ∷ y ∷ z ∷ vs) h =
    let b = passed (first (type_of x)) (another (λ y. ends (outs (type_of x) y))) (type_of y ∷ type_of z ∷ map type_of vs) os h in
    absurd (no_more (outs (type_of x) (type_of y)) (type_of z) (map type_of vs) os b.1)

pub three_inputs : (P : List Value → Type 0) (first : Ty → Bool) (second : Ty → Ty → Bool) (outs : Ty → Ty → Ty → Option (List Ty)) (os : List Ty)
    → ((x y z : Value) → first (type_of x) ≡ true → second (type_of x) (type_of y) ≡ true → outs (type_of x) (type_of y) (type_of z) ≡ Some os → P (x ∷ y ∷ z ∷ []))
    → (vs : List Value) → read (three first second outs) (map type_of vs) ≡ Some os → P vs
three_inputs P first second outs os f [] h = absurd cc
three_inputs P first second outs os f (x ∷ vs) h = from vs b.1
  where
    rest : (y : Ty) → Row
    rest y = given (second (type_of x) y) (another (λ z. ends (outs (type_of x) y z)))

    b : (first (type_of x) ≡ true) × (read (another (λ y. given (second (type_of x) y) (another (λ z. ends (outs (type_of x) y z))))) (map type_of vs) ≡ Some os)
    b = passed (first (type_of x)) (another (λ y. given (second (type_of x) y) (another (λ z. ends (outs (type_of x) y z))))) (map type_of vs) os h

    from : (ws : List Value) → read (another (λ y. given (second (type_of x) y) (another (λ z. ends (outs (type_of x) y z))))) (map type_of ws) ≡ Some os → P (x ∷ ws)
    from [] k = absurd cc
    from (y ∷ ws) k = last ws c.1
      where
        c : (second (type_of x) (type_of y) ≡ true) × (read (another (λ z. ends (outs (type_of x) (type_of y) z))) (map type_of ws) ≡ Some os)
        c = passed (second (type_of x) (type_of y)) (another (λ z. ends (outs (type_of x) (type_of y) z))) (map type_of ws) os k

        last : (us : List Value) → read (another (λ z. ends (outs (type_of x) (type_of y) z))) (map type_of us) ≡ Some os → P (x ∷ y ∷ us)
        last [] m = absurd cc
        last (z ∷ []) m = f x y z b.0 c.0 (ended (outs (type_of x) (type_of y) (type_of z)) os m)
        last (z ∷ u ∷ us) m = absurd (no_more (outs (type_of x) (type_of y) (type_of z)) (type_of u) (map type_of us) os m)

-- what is given

pub when_is : (b : Bool) (ts os : List Ty) → when b ts ≡ Some os → (b ≡ true) × (ts ≡ os)
when_is true ts os h = (refl, known ts os h)
when_is false ts os h = absurd cc

pub single_is : (o : Option Ty) (os : List Ty) → single o ≡ Some os → (t : Ty) × (o ≡ Some t) × (t ∷ [] ≡ os)
single_is None os h = absurd cc
single_is (Some t) os h = (t, refl, known (t ∷ []) os h)

pub twice_is : (o : Option Ty) (os : List Ty) → twice o ≡ Some os → (t : Ty) × (o ≡ Some t) × (t ∷ t ∷ [] ≡ os)
twice_is None os h = absurd cc
twice_is (Some t) os h = (t, refl, known (t ∷ t ∷ []) os h)

pub cond_is : (b : Bool) (o : Option (List Ty)) (os : List Ty) → cond b o None ≡ Some os → (b ≡ true) × (o ≡ Some os)
cond_is true o os h = (refl, h)
cond_is false o os h = absurd cc
