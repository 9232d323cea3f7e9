-- A list that is cut at an item in two ways.
use Rattle.std.proofs.Common.{◌≡◌, List, [], ◌∷◌, ◌++◌, refl}

-- of the two items the one stands at the other's place, or before it, or behind it
pub data Splits {A : Type 0} (xs us : List A) (x u : A) : Type 0 where
  together : xs ≡ us → x ≡ u → Splits xs us x u
  ahead : (more : List A) → us ≡ xs ++ x ∷ more → Splits xs us x u
  behind : (more : List A) → xs ≡ us ++ u ∷ more → Splits xs us x u

one_before : {A : Type 0} (a b : A) (xs us : List A) (x u : A) → a ≡ b → Splits xs us x u → Splits (a ∷ xs) (b ∷ us) x u
one_before a b xs us x u e (together p q) = let same : a ∷ xs ≡ b ∷ us = cc in together same q
one_before a b xs us x u e (ahead more p) = ahead more cc
one_before a b xs us x u e (behind more p) = behind more cc

pub splits : {A : Type 0} (xs us : List A) (x u : A) (ys vs : List A) → xs ++ x ∷ ys ≡ us ++ u ∷ vs → Splits xs us x u
splits [] [] x u ys vs e = together refl cc
splits [] (b ∷ us) x u ys vs e = let same : x ≡ b = cc in ahead us cc
splits (a ∷ xs) [] x u ys vs e = let same : a ≡ u = cc in behind xs cc
splits (a ∷ xs) (b ∷ us) x u ys vs e =
    let head : a ≡ b = cc in
    let tail : xs ++ x ∷ ys ≡ us ++ u ∷ vs = cc in
    one_before a b xs us x u head (splits xs us x u ys vs tail)
