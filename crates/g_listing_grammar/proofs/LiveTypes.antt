-- Types can be completed wherever a token is refused.
use Rattle.std.proofs.Common.{◌≡◌, ℕ, zero, suc, Bool, true, false, List, [], ◌∷◌, Option, Some, None, refl, sym, ap, ◌∙◌, cond}
use Rattle.std.specs.Prelude.{codes}
use Rattle.g_grammar.specs.Grammar.{Grammar}
use Rattle.g_grammar.proofs.Live.{Live, live_give, live_take, live_bind, live_choice}
use Rattle.g_types.specs.declared.ty.Ty.{Ty}
use Rattle.g_types.specs.declared.ty.Ty.TheVariants as ty
use Rattle.g_tokens.specs.declared.token.Token.{Token}
use Rattle.g_tokens.specs.declared.token.Token.TheVariants as token
use Rattle.g_tokens.specs.declared.token.Mark.TheVariants as mark
use Rattle.g_listing_grammar.specs.declared.TypeWord.{TypeWord}
use Rattle.g_listing_grammar.specs.declared.TypeWord.TheVariants as type
use Rattle.g_listing_grammar.specs.Types.{types, type_rest, type_first, type_word, fitting, holds_others, is_above, others, more_others, in_parens}

live_more : {A : Type 0} (g : Grammar Token A) (rest : Grammar Token (List A)) → Live g → Live rest → (again : Bool) → Live (more_others g rest again)
live_more g rest lg lrest true = live_bind lg λ x. live_bind lrest λ xs. live_give (x ∷ xs)
live_more g rest lg lrest false = live_give []

pub live_others : {A : Type 0} (g : Grammar Token A) → Live g → (n : ℕ) → Live (others g n)
live_others g lg zero = live_bind (live_take (token.Mark mark.CloseBrace) tt refl) λ x. live_give []
live_others g lg (suc n) = live_bind (live_take (token.Mark mark.CloseBrace) false refl) (live_more g (others g n) lg (live_others g lg n))

live_parens : {A B : Type 0} (f : A → B) (g : Grammar Token A) → Live g → Live (in_parens f g)
live_parens f g lg =
    live_bind (live_take (token.Mark mark.OpenParen) tt refl) λ x.
    live_bind lg λ a.
    live_bind (live_take (token.Mark mark.CloseParen) tt refl) λ y.
    live_give (f a)

-- where types can stand inside
live_rest : (inside : Bool → Grammar Token Ty) → ((arrays : Bool) → Live (inside arrays)) → (w : TypeWord) → Live (type_rest inside w)
live_rest inside live (type.Number r) = live_give (ty.Num r)
live_rest inside live type.Truth = live_give ty.Bool
live_rest inside live type.Text = live_give ty.Str
live_rest inside live type.Array =
    live_bind (live false) λ t.
    live_bind (live_take (token.Mark mark.CloseBracket) tt refl) λ x.
    live_give (ty.Arr t)
live_rest inside live type.Cluster =
    live_bind (live true) λ t.
    live_bind (live_others (inside true) (live true) 63) λ ts.
    live_give (ty.Cluster (t ∷ ts))
live_rest inside live type.Queue = live_parens (λ (t : Ty). ty.QueueRef t) (inside true) (live true)
live_rest inside live type.Ref = live_parens (λ (t : Ty). ty.ValueRef t) (inside true) (live true)

-- where none can
live_leaf : (inside : Bool → Grammar Token Ty) (w : TypeWord) → holds_others w ≡ false → Live (type_rest inside w)
live_leaf inside (type.Number r) e = live_give (ty.Num r)
live_leaf inside type.Truth e = live_give ty.Bool
live_leaf inside type.Text e = live_give ty.Str
live_leaf inside type.Array e = absurd cc
live_leaf inside type.Cluster e = absurd cc
live_leaf inside type.Queue e = absurd cc
live_leaf inside type.Ref e = absurd cc

leaf_of : (b : Bool) (w v : TypeWord) → holds_others w ≡ b → cond b (cond (is_above 0) (Some w) None) (Some w) ≡ Some v → holds_others v ≡ false
leaf_of true w v is e = absurd cc
leaf_of false w v is e = let f : w ≡ v = cc in ap holds_others (sym f) ∙ is

leaf : (o : Option TypeWord) (v : TypeWord) → fitting 0 o ≡ Some v → holds_others v ≡ false
leaf None v e = absurd cc
leaf (Some w) v e = leaf_of (holds_others w) w v refl e

pub live_types : (n : ℕ) (arrays : Bool) → Live (types (suc n) arrays)
unfolding types
live_types zero arrays = live_choice (type_first 0 arrays) (type_rest (types 0)) (token.Word (codes "bool")) type.Truth refl (λ t w e. live_leaf (types 0) w (leaf (type_word arrays t) w e))
live_types (suc n) arrays = live_choice (type_first (suc n) arrays) (type_rest (types (suc n))) (token.Word (codes "bool")) type.Truth refl (λ t w e. live_rest (types (suc n)) (live_types n) w)
