-- Tokens that have a type that a listing can write.
use Rattle.std.proofs.Common.{◌≡◌, ◌≤◌, ℕ, zero, suc, Bool, true, false, List, [], ◌∷◌, length, get_or, Some, refl, sym, ap, ◌∙◌, subst, arith, codes}
use Rattle.std.specs.List.{All}
use Rattle.std.proofs.lemmas.List.Elements.{All-head, All-tail}
use Rattle.g_grammar.specs.Grammar.{Grammar}
use Rattle.g_types.specs.declared.rep.Rep.{Rep}
use Rattle.g_types.specs.declared.rep.Rep.TheVariants.{I8, I16, I32, I64, U8, U16, U32, U64}
use Rattle.g_types.specs.declared.ty.Ty.{Ty, out-Ty}
use Rattle.g_types.specs.declared.ty.Ty.TheVariants as ty
use Rattle.g_types.specs.declared.ty.Ty.TheOpen.{Ty-F}
use Rattle.g_types.specs.declared.ty.Ty.TheFolds.{map-Ty, every_held-Ty}
use Rattle.g_types.specs.declared.ty.Ty.TheViews.{roll-Ty, roll-out-Ty}
use Rattle.g_types.specs.Ty.{depth, rep_text}
use Rattle.g_types.proofs.Depths.{depth-Arr, depth-QueueRef, depth-ValueRef, depth-Cluster, depth_some, greatest_at}
use Rattle.g_values.specs.Spelled.{IsSpelled, IsWholeType, IsTypeLayer, is_array_at}
use Rattle.g_values.proofs.SpelledTypes.{layer-Arr, layer-Cluster, spelled_item, spelled_parts}
use Rattle.g_tokens.specs.declared.token.Token.{Token}
use Rattle.g_tokens.specs.declared.token.Token.TheVariants as token
use Rattle.g_tokens.specs.declared.token.Mark.TheVariants as mark
use Rattle.g_listing_grammar.specs.declared.TypeWord.{TypeWord}
use Rattle.g_listing_grammar.specs.declared.TypeWord.TheVariants as type
use Rattle.g_listing_grammar.specs.Types.{types, type_first, others, in_parens}
use Rattle.g_listing_laws.proofs.TypesGiven.{IsRead}
use Rattle.g_listing_listable.specs.Listable.{IsName}
use Rattle.g_listing_listable.proofs.MakePhrases.{Makes, makes_give, makes_bind}
use Rattle.g_listing_listable.proofs.MakeTokens.{makes_word, makes_mark, above}

-- ---- what a type holds

abbrev Holds : Ty-F Ty → Type 0
Holds (Ty-F.QueueRef t) = IsWholeType t
Holds (Ty-F.ValueRef t) = IsWholeType t
Holds _ = Unit {0}

holds_held : (y : Ty-F ((t : Ty) × IsWholeType t)) → Holds (map-Ty ((t : Ty) × IsWholeType t) Ty (λ p. p.0) y)
holds_held (Ty-F.Num r) = tt
holds_held Ty-F.Bool = tt
holds_held Ty-F.Str = tt
holds_held (Ty-F.Arr p) = tt
holds_held (Ty-F.Cluster ps) = tt
holds_held (Ty-F.QueueRef p) = p.1
holds_held (Ty-F.ValueRef p) = p.1

holds : (t : Ty) → IsWholeType t → Holds (out-Ty t)
holds t w = let h = every_held-Ty IsTypeLayer t w in subst Holds h.1 (holds_held h.0)

-- ---- clusters

pub makes_others : {A : Type 0} {g : Grammar Token A} (n : ℕ) (xs : List A) → length xs ≤ n → All (Makes g) xs → Makes (others g n) xs
makes_others zero [] le all = makes_bind (makes_mark mark.CloseBrace tt refl) (makes_give [])
makes_others zero (x ∷ xs) le all = absurd (omega arith)
makes_others (suc n) [] le all = makes_bind (makes_mark mark.CloseBrace false refl) (makes_give [])
makes_others {A} {g} (suc n) (x ∷ xs) le all =
    makes_bind (makes_mark mark.Comma true refl)
    (makes_bind (All-head (Makes g) x xs all) (makes_bind (makes_others n xs (omega arith) (All-tail (Makes g) x xs all)) (makes_give (x ∷ xs))))

-- ---- levels

abbrev Made : ℕ → Bool → Ty → Type 0
Made n arrays t = IsRead n arrays t → Makes (types n arrays) t

abbrev pub Written : List ℕ → TypeWord → Type 0
Written u w = IsName u × ((n : ℕ) (arrays : Bool) → type_first n arrays (token.Word u) ≡ Some w)

pub rep_written : (r : Rep) → Written (rep_text r) (type.Number r)
rep_written I8 = (refl, λ n arrays. refl)
rep_written I16 = (refl, λ n arrays. refl)
rep_written I32 = (refl, λ n arrays. refl)
rep_written I64 = (refl, λ n arrays. refl)
rep_written U8 = (refl, λ n arrays. refl)
rep_written U16 = (refl, λ n arrays. refl)
rep_written U32 = (refl, λ n arrays. refl)
rep_written U64 = (refl, λ n arrays. refl)

-- a type that holds others has a level for them
open_bracket : (n : ℕ) → 1 ≤ n → type_first n true (token.Mark mark.OpenBracket) ≡ Some type.Array
open_bracket n h = rw (above n h) refl

open_brace : (n : ℕ) (arrays : Bool) → 1 ≤ n → type_first n arrays (token.Mark mark.OpenBrace) ≡ Some type.Cluster
open_brace n arrays h = rw (above n h) refl

queue_word : (n : ℕ) (arrays : Bool) → 1 ≤ n → type_first n arrays (token.Word (codes "queue")) ≡ Some type.Queue
queue_word n arrays h = rw (above n h) refl

ref_word : (n : ℕ) (arrays : Bool) → 1 ≤ n → type_first n arrays (token.Word (codes "ref")) ≡ Some type.Ref
ref_word n arrays h = rw (above n h) refl

makes_parens : (n : ℕ) (f : Ty → Ty) (t : Ty) → Makes (types n true) t → Makes (in_parens f (types n true)) (f t)
makes_parens n f t m = makes_bind (makes_mark mark.OpenParen tt refl) (makes_bind m (makes_bind (makes_mark mark.CloseParen tt refl) (makes_give (f t))))

pub true_is_not : true ≡ false → ⊥
true_is_not e = cc

-- a type inside another, where an array may stand
inner_read : (n : ℕ) (t : Ty) → IsSpelled t → depth t ≤ n → IsRead n true t
inner_read n t is le = record { spelled = is; shallow = le; apart = λ e. absurd (true_is_not e) }

module _ (n : ℕ) (inside : (arrays : Bool) (t : Ty) → Made n arrays t) where
  number_made : (arrays : Bool) (r : Rep) → Made (suc n) arrays (ty.Num r)
  unfolding types
  number_made arrays r is = let w = rep_written r in makes_bind (makes_word (rep_text r) (type.Number r) w.0 (w.1 n arrays)) (makes_give (ty.Num r))

  truth_made : (arrays : Bool) → Made (suc n) arrays ty.Bool
  unfolding types
  truth_made arrays is = makes_bind (makes_word (codes "bool") type.Truth refl refl) (makes_give ty.Bool)

  text_made : (arrays : Bool) → Made (suc n) arrays ty.Str
  unfolding types
  text_made arrays is = makes_bind (makes_word (codes "str") type.Text refl refl) (makes_give ty.Str)

  array_made : (arrays : Bool) (t : Ty) → Made (suc n) arrays (ty.Arr t)
  unfolding types
  array_made true t is =
      let le : depth t ≤ n = omega (arith, depth-Arr t, is.shallow) in
      let some : 1 ≤ n = omega (arith, le, depth_some t) in
      let item : IsRead n false t = record { spelled = spelled_item t is.spelled; shallow = le; apart = λ e. layer-Arr t is.spelled.whole } in
      makes_bind (makes_mark mark.OpenBracket type.Array (open_bracket n some)) (makes_bind (inside false t item) (makes_bind (makes_mark mark.CloseBracket tt refl) (makes_give (ty.Arr t))))
  array_made false t is = absurd (true_is_not (ap is_array_at (sym (ty.outs-Arr t)) ∙ is.apart refl))

  cluster_made : (arrays : Bool) (ts : List Ty) → Made (suc n) arrays (ty.Cluster ts)
  unfolding types
  cluster_made arrays [] is = absurd (let some = (layer-Cluster [] is.spelled.whole).some in omega arith)
  cluster_made arrays (t ∷ ts) is =
      let few = (layer-Cluster (t ∷ ts) is.spelled.whole).few in
      let all : All (Makes (types n true)) (t ∷ ts) = λ k d lt. inside true (get_or (t ∷ ts) k d) (inner_read n (get_or (t ∷ ts) k d) (spelled_parts (t ∷ ts) is.spelled k d lt) (omega (arith, greatest_at (t ∷ ts) k d lt, depth-Cluster (t ∷ ts), is.shallow))) in
      let some : 1 ≤ n = omega (arith, depth-Cluster (t ∷ ts), is.shallow, depth_some t) in
      makes_bind (makes_mark mark.OpenBrace type.Cluster (open_brace n arrays some))
      (makes_bind (All-head (Makes (types n true)) t ts all) (makes_bind (makes_others 63 ts (omega arith) (All-tail (Makes (types n true)) t ts all)) (makes_give (ty.Cluster (t ∷ ts)))))

  queue_made : (arrays : Bool) (t : Ty) → Made (suc n) arrays (ty.QueueRef t)
  unfolding types
  queue_made arrays t is =
      let le : depth t ≤ n = omega (arith, depth-QueueRef t, is.shallow) in
      let some : 1 ≤ n = omega (arith, le, depth_some t) in
      let whole : IsWholeType t = subst Holds (ty.outs-QueueRef t) (holds (ty.QueueRef t) is.spelled.whole) in
      let shallow : depth t ≤ 8 = omega (arith, depth-QueueRef t, is.spelled.shallow) in
      makes_bind (makes_word (codes "queue") type.Queue refl (queue_word n arrays some)) (makes_parens n (λ (t : Ty). ty.QueueRef t) t (inside true t (inner_read n t (record { whole = whole; shallow = shallow }) le)))

  ref_made : (arrays : Bool) (t : Ty) → Made (suc n) arrays (ty.ValueRef t)
  unfolding types
  ref_made arrays t is =
      let le : depth t ≤ n = omega (arith, depth-ValueRef t, is.shallow) in
      let some : 1 ≤ n = omega (arith, le, depth_some t) in
      let whole : IsWholeType t = subst Holds (ty.outs-ValueRef t) (holds (ty.ValueRef t) is.spelled.whole) in
      let shallow : depth t ≤ 8 = omega (arith, depth-ValueRef t, is.spelled.shallow) in
      makes_bind (makes_word (codes "ref") type.Ref refl (ref_word n arrays some)) (makes_parens n (λ (t : Ty). ty.ValueRef t) t (inside true t (inner_read n t (record { whole = whole; shallow = shallow }) le)))

  level_made : (arrays : Bool) (l : Ty-F Ty) → Made (suc n) arrays (roll-Ty l)
  level_made arrays (Ty-F.Num r) = subst (Made (suc n) arrays) (sym (ty.rolls-Num r)) (number_made arrays r)
  level_made arrays Ty-F.Bool = subst (Made (suc n) arrays) (sym ty.rolls-Bool) (truth_made arrays)
  level_made arrays Ty-F.Str = subst (Made (suc n) arrays) (sym ty.rolls-Str) (text_made arrays)
  level_made arrays (Ty-F.Arr t) = subst (Made (suc n) arrays) (sym (ty.rolls-Arr t)) (array_made arrays t)
  level_made arrays (Ty-F.Cluster ts) = subst (Made (suc n) arrays) (sym (ty.rolls-Cluster ts)) (cluster_made arrays ts)
  level_made arrays (Ty-F.QueueRef t) = subst (Made (suc n) arrays) (sym (ty.rolls-QueueRef t)) (queue_made arrays t)
  level_made arrays (Ty-F.ValueRef t) = subst (Made (suc n) arrays) (sym (ty.rolls-ValueRef t)) (ref_made arrays t)

types_made : (n : ℕ) (arrays : Bool) (t : Ty) → Made n arrays t
types_made zero arrays t is = absurd (omega (arith, depth_some t, is.shallow))
types_made (suc n) arrays t is = subst (Made (suc n) arrays) (roll-out-Ty t) (level_made n (types_made n) arrays (out-Ty t)) is

pub makes_type : (t : Ty) → IsSpelled t → Makes (types 8 true) t
makes_type t is = types_made 8 true t (inner_read 8 t is is.shallow)
