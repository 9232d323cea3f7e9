-- The types that a listing has: there is a level for each type inside another, no array for the element of an array, and an end to the
-- parts of a cluster.
use Rattle.std.proofs.Common.{◌≡◌, ◌≤◌, ℕ, zero, suc, Bool, true, false, List, [], ◌∷◌, length, map, Option, Some, None, refl, ap, subst, arith}
use Rattle.std.specs.Prelude.{if◌then◌else◌}
use Rattle.std.specs.List.{All}
use Rattle.std.specs.Str.{bytes_eq}
use Rattle.std.proofs.lemmas.List.Elements.{All-nil, All-cons, All-head, All-tail}
use Rattle.g_grammar.specs.Grammar.{Grammar}
use Rattle.g_types.specs.declared.ty.Ty.{Ty}
use Rattle.g_types.specs.declared.ty.Ty.TheVariants as ty
use Rattle.g_types.specs.Ty.{depth, greatest}
use Rattle.g_types.proofs.Depths.{depth-Num, depth-Bool, depth-Str, depth-Arr, depth-QueueRef, depth-ValueRef, depth-Cluster}
use Rattle.g_values.specs.Spelled.{IsSpelled, is_array, is_array_at}
use Rattle.g_values.proofs.SpelledTypes.{spelled_num, spelled_bool, spelled_text, spelled_array, spelled_queue, spelled_cell, spelled_cluster}
use Rattle.g_tokens.specs.declared.token.Token.{Token}
use Rattle.g_tokens.specs.declared.token.Token.TheVariants as token
use Rattle.g_tokens.specs.declared.token.Mark.TheVariants as mark
use Rattle.g_listing_words.specs.Operations.{lookup}
use Rattle.g_listing_grammar.specs.declared.TypeWord.{TypeWord}
use Rattle.g_listing_grammar.specs.declared.TypeWord.TheVariants as type
use Rattle.g_listing_grammar.specs.Words.{type_words}
use Rattle.g_listing_grammar.specs.Types.{types, type_rest, type_first, type_word, fitting, holds_others, is_above, others, more_others}
use Rattle.g_listing_laws.proofs.Gives.{Gives, gives_give, gives_take, gives_bind, gives_after}

-- ---- how an array begins

opens_array : TypeWord → Bool
opens_array type.Array = true
opens_array _ = false

some_is : {A : Type 0} {x y : A} → Some x ≡ Some y → x ≡ y
some_is e = cc

-- no word of the table opens an array
abbrev NoArrays : List (List ℕ × TypeWord) → Type 0
NoArrays [] = Unit {0}
NoArrays (row ∷ rows) = (opens_array row.1 ≡ false) × NoArrays rows

word_step : (b : Bool) (v w : TypeWord) (o : Option TypeWord) → opens_array v ≡ false → (o ≡ Some w → opens_array w ≡ false) → (if b then Some v else o) ≡ Some w → opens_array w ≡ false
word_step true v w o here there e = subst (λ x. opens_array x ≡ false) (some_is e) here
word_step false v w o here there e = there e

word_by : (rows : List (List ℕ × TypeWord)) → NoArrays rows → (s : List ℕ) (w : TypeWord) → lookup rows s ≡ Some w → opens_array w ≡ false
word_by [] apart s w e = absurd cc
word_by (row ∷ rows) apart s w e = word_step (bytes_eq s row.0) row.1 w (lookup rows s) apart.0 (word_by rows apart.1 s w) e

words_apart : NoArrays type_words
unfolding opens_array
words_apart = (refl, (refl, (refl, (refl, (refl, (refl, (refl, (refl, (refl, (refl, (refl, (refl, tt))))))))))))

begins_apart : (t : Token) (w : TypeWord) → type_word false t ≡ Some w → opens_array w ≡ false
unfolding opens_array
begins_apart (token.Word s) w e = word_by type_words words_apart s w e
begins_apart (token.Mark mark.OpenBrace) w e = subst (λ x. opens_array x ≡ false) (some_is e) refl
begins_apart _ w e = absurd cc

fits_step : (holds above : Bool) (v w : TypeWord) → (if holds then (if above then Some v else None) else Some v) ≡ Some w → v ≡ w
fits_step true true v w e = some_is e
fits_step true false v w e = absurd cc
fits_step false above v w e = some_is e

fits : (n : ℕ) (o : Option TypeWord) (w : TypeWord) → fitting n o ≡ Some w → o ≡ Some w
fits n None w e = absurd cc
fits n (Some v) w e = ap Some (fits_step (holds_others v) (is_above n) v w e)

-- ---- the types of one level more

-- of at most so many levels, and an array only where it may be one
pub record IsRead (n : ℕ) (arrays : Bool) (t : Ty) : Type 0 where
  pub spelled : IsSpelled t
  pub shallow : depth t ≤ n
  pub apart : arrays ≡ false → is_array t ≡ false

pub record AtMost {A : Type 0} (P : A → Type 0) (n : ℕ) (xs : List A) : Type 0 where
  pub all : All P xs
  pub few : length xs ≤ n

none_yet : {A : Type 0} (P : A → Type 0) (n : ℕ) → AtMost P n []
none_yet P n = record { all = All-nil P; few = omega arith }

one_more : {A : Type 0} (P : A → Type 0) (n : ℕ) (x : A) (xs : List A) → P x → AtMost P n xs → AtMost P (suc n) (x ∷ xs)
one_more P n x xs p m = let le = m.few in record { all = All-cons P x xs p m.all; few = omega arith }

more_given : {A : Type 0} (P : A → Type 0) (n : ℕ) (g : Grammar Token A) (rest : Grammar Token (List A)) → Gives P g → Gives (AtMost P n) rest → (again : Bool) → Gives (AtMost P (suc n)) (more_others g rest again)
more_given P n g rest item next true = gives_bind item λ x p. gives_bind next λ xs m. gives_give (x ∷ xs) (one_more P n x xs p m)
more_given P n g rest item next false = gives_give [] (none_yet P (suc n))

others_given : {A : Type 0} (P : A → Type 0) (g : Grammar Token A) → Gives P g → (n : ℕ) → Gives (AtMost P n) (others g n)
others_given P g given zero = gives_after λ x. gives_give [] (none_yet P 0)
others_given P g given (suc n) = gives_after (more_given P n g (others g n) given (others_given P g given n))

greatest_below : (n : ℕ) (arrays : Bool) (ts : List Ty) → All (IsRead n arrays) ts → greatest (map depth ts) ≤ n
greatest_below n arrays [] a = omega arith
greatest_below n arrays (t ∷ ts) a =
    let here = (All-head (IsRead n arrays) t ts a).shallow in
    let there = greatest_below n arrays ts (All-tail (IsRead n arrays) t ts a) in
    omega arith

cluster_read : (n : ℕ) (arrays : Bool) (ts : List Ty) → suc n ≤ 8 → 1 ≤ length ts → AtMost (IsRead n true) 64 ts → IsRead (suc n) arrays (ty.Cluster ts)
cluster_read n arrays ts le some m =
    let few = m.few in
    let below = greatest_below n true ts m.all in
    let deep = depth-Cluster ts in
    record {
      spelled = spelled_cluster ts (record { some = some; few = few }) (omega arith) (λ k d lt. (m.all k d lt).spelled);
      shallow = omega arith;
      apart = λ e. ap is_array_at (ty.outs-Cluster ts);
    }

array_read : (n : ℕ) (arrays : Bool) (t : Ty) → suc n ≤ 8 → (arrays ≡ false → ⊥) → IsRead n false t → IsRead (suc n) arrays (ty.Arr t)
array_read n arrays t le may r =
    let shallow = r.shallow in
    let deep = depth-Arr t in
    record { spelled = spelled_array t (r.apart refl) (omega arith) r.spelled; shallow = omega arith; apart = λ e. absurd (may e) }

queue_read : (n : ℕ) (arrays : Bool) (t : Ty) → suc n ≤ 8 → IsRead n true t → IsRead (suc n) arrays (ty.QueueRef t)
queue_read n arrays t le r =
    let shallow = r.shallow in
    let deep = depth-QueueRef t in
    record { spelled = spelled_queue t (omega arith) r.spelled; shallow = omega arith; apart = λ e. ap is_array_at (ty.outs-QueueRef t) }

cell_read : (n : ℕ) (arrays : Bool) (t : Ty) → suc n ≤ 8 → IsRead n true t → IsRead (suc n) arrays (ty.ValueRef t)
cell_read n arrays t le r =
    let shallow = r.shallow in
    let deep = depth-ValueRef t in
    record { spelled = spelled_cell t (omega arith) r.spelled; shallow = omega arith; apart = λ e. ap is_array_at (ty.outs-ValueRef t) }

rest_given : (n : ℕ) (inside : Bool → Grammar Token Ty) → suc n ≤ 8 → ((arrays : Bool) → Gives (IsRead n arrays) (inside arrays))
    → (arrays : Bool) (w : TypeWord) → (arrays ≡ false → opens_array w ≡ false) → Gives (IsRead (suc n) arrays) (type_rest inside w)
unfolding opens_array
rest_given n inside le given arrays (type.Number r) may =
    let deep = depth-Num r in
    gives_give (ty.Num r) (record { spelled = spelled_num r; shallow = omega arith; apart = λ e. ap is_array_at (ty.outs-Num r) })
rest_given n inside le given arrays type.Truth may =
    let deep = depth-Bool in
    gives_give ty.Bool (record { spelled = spelled_bool; shallow = omega arith; apart = λ e. ap is_array_at ty.outs-Bool })
rest_given n inside le given arrays type.Text may =
    let deep = depth-Str in
    gives_give ty.Str (record { spelled = spelled_text; shallow = omega arith; apart = λ e. ap is_array_at ty.outs-Str })
rest_given n inside le given arrays type.Array may =
    gives_bind (given false) λ t r. gives_after λ x. gives_give (ty.Arr t) (array_read n arrays t le (λ e. let f : true ≡ false = may e in cc) r)
rest_given n inside le given arrays type.Cluster may =
    gives_bind (given true) λ t r.
    gives_bind (others_given (IsRead n true) (inside true) (given true) 63) λ ts m.
    gives_give (ty.Cluster (t ∷ ts)) (cluster_read n arrays (t ∷ ts) le (omega arith) (one_more (IsRead n true) 63 t ts r m))
rest_given n inside le given arrays type.Queue may =
    gives_after λ x. gives_bind (given true) λ t r. gives_after λ y. gives_give (ty.QueueRef t) (queue_read n arrays t le r)
rest_given n inside le given arrays type.Ref may =
    gives_after λ x. gives_bind (given true) λ t r. gives_after λ y. gives_give (ty.ValueRef t) (cell_read n arrays t le r)

-- ---- all types

abbrev Apart : Bool → TypeWord → Type 0
Apart arrays w = arrays ≡ false → opens_array w ≡ false

first_apart : (n : ℕ) (arrays : Bool) (t : Token) (w : TypeWord) → type_first n arrays t ≡ Some w → Apart arrays w
first_apart n true t w e f = absurd cc
first_apart n false t w e f = begins_apart t w (fits n (type_word false t) w e)

pub types_given : (n : ℕ) → n ≤ 8 → (arrays : Bool) → Gives (IsRead n arrays) (types n arrays)
unfolding types
types_given zero le arrays = gives_take λ t a e. absurd cc
types_given (suc n) le arrays =
    gives_bind {Q = Apart arrays} (gives_take (first_apart n arrays)) (rest_given n (types n) le (types_given n (omega arith)) arrays)

pub type_given : Gives IsSpelled (types 8 true)
type_given = record { each = λ ts t rest h. ((types_given 8 (omega arith) true).each ts t rest h).spelled }
