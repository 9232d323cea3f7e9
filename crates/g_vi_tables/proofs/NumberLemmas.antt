-- The number of a name is the place of the first of this name, or how many there are.
use Rattle.std.proofs.Common.{◌≡◌, ℕ, suc, ◌+◌, Bool, true, false, List, [], ◌∷◌, length, refl, ap, ◌∙◌, arith}
use Rattle.std.specs.Prelude.{if◌then◌else◌, Option, Some, None}
use Rattle.std.specs.Option.{option_or, unwrap_or}
use Rattle.std.specs.Str.{bytes_eq}
use Rattle.g_frames.specs.Panels.{place_of}
use Rattle.g_vi_tables.specs.Numbers.{number_from}

pub number-place : (n m : ℕ) (q : List ℕ) (xs : List (List ℕ)) → m ≡ n + length xs → unwrap_or (number_from n q xs) m ≡ n + place_of q xs
number-place n m q [] h = omega (arith, h)
number-place n m q (x ∷ xs) h = by (bytes_eq x q) (number-place (n + 1) m q xs (omega (arith, h)))
  where
    by : (b : Bool) → unwrap_or (number_from (n + 1) q xs) m ≡ n + 1 + place_of q xs
        → unwrap_or (if b then Some n else number_from (n + 1) q xs) m ≡ n + (if b then 0 else suc (place_of q xs))
    by true e = omega arith
    by false e = e ∙ (let f : n + 1 + place_of q xs ≡ n + suc (place_of q xs) = omega arith in f)

or_cons : (b : Bool) (n : ℕ) (rest : Option ℕ) → (if b then Some n else rest) ≡ option_or (if b then Some n else None) rest
or_cons true n rest = refl
or_cons false n rest = refl

-- the first of a name, and the others
pub number-cons : (n : ℕ) (q x : List ℕ) (xs : List (List ℕ)) → number_from n q (x ∷ xs) ≡ option_or (if bytes_eq x q then Some n else None) (number_from (n + 1) q xs)
number-cons n q x xs = or_cons (bytes_eq x q) n (number_from (n + 1) q xs)

-- what is found, or the count where nothing is
pub place-found : (count : ℕ) (q : List ℕ) (names : List (List ℕ)) (o : Option ℕ) → count ≡ length names → o ≡ number_from 0 q names → unwrap_or o count ≡ place_of q names
place-found count q names o e f =
    let g : unwrap_or (number_from 0 q names) count ≡ 0 + place_of q names = number-place 0 count q names (omega (arith, e)) in
    ap (λ x. unwrap_or x count) f ∙ (let h : unwrap_or (number_from 0 q names) count ≡ place_of q names = omega (arith, g) in h)
