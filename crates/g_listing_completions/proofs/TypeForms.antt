-- Types can be completed wherever a token is refused.
use Rattle.std.proofs.Common.{◌≡◌, ℕ, zero, suc, Bool, true, false, List, [], ◌∷◌, Option, Some, None, refl, sym, ap, ◌∙◌, cond}
use Rattle.std.specs.Prelude.{codes}
use Rattle.g_grammar.specs.Grammar.{Grammar}
use Rattle.g_types.specs.declared.ty.Ty.{Ty}
use Rattle.g_types.specs.declared.ty.Ty.TheVariants as ty
use Rattle.g_tokens.specs.declared.token.Token.{Token}
use Rattle.g_tokens.specs.declared.token.Token.TheVariants as token
use Rattle.g_tokens.specs.declared.token.Mark.TheVariants as mark
use Rattle.g_listing_grammar.specs.declared.TypeWord.{TypeWord}
use Rattle.g_listing_grammar.specs.declared.TypeWord.TheVariants as type
use Rattle.g_listing_grammar.specs.Words.{close_bracket, close_paren, open_paren, close_brace, comma_or_brace}
use Rattle.g_listing_grammar.specs.Types.{types, type_rest, type_first, type_word, fitting, holds_others, is_above, others, more_others, in_parens}
use Rattle.g_listing_completions.proofs.Good.{good_word}
use Rattle.g_listing_completions.proofs.Forms.{midway, Form, form_give, form_bind, form_choice, form_in, in_line}

-- a form that begins and ends inside a line
abbrev pub Inline : {A : Type 0} → Grammar Token A → Type 0
Inline {A} g = Form g (λ (a : A). midway) midway

more_form : {A : Type 0} (g : Grammar Token A) (rest : Grammar Token (List A)) → Inline g → Inline rest → (again : Bool) → Inline (more_others g rest again)
more_form g rest fg frest true = form_bind fg λ x. form_bind frest λ xs. form_give (x ∷ xs)
more_form g rest fg frest false = form_give []

pub others_form : {A : Type 0} (g : Grammar Token A) → Inline g → (n : ℕ) → Inline (others g n)
others_form g fg zero = form_bind (form_in close_brace (token.Mark mark.CloseBrace) tt tt refl refl refl refl) λ x. form_give []
others_form g fg (suc n) = form_bind (form_in comma_or_brace (token.Mark mark.CloseBrace) tt false refl refl refl refl) (more_form g (others g n) fg (others_form g fg n))

parens_form : {A B : Type 0} (f : A → B) (g : Grammar Token A) → Inline g → Inline (in_parens f g)
parens_form f g fg =
    form_bind (form_in open_paren (token.Mark mark.OpenParen) tt tt refl refl refl refl) λ x.
    form_bind fg λ a.
    form_bind (form_in close_paren (token.Mark mark.CloseParen) tt tt refl refl refl refl) λ y.
    form_give (f a)

-- where types can stand inside
rest_form : (inner : Bool → Grammar Token Ty) → ((arrays : Bool) → Inline (inner arrays)) → (w : TypeWord) → Inline (type_rest inner w)
rest_form inner form (type.Number r) = form_give (ty.Num r)
rest_form inner form type.Truth = form_give ty.Bool
rest_form inner form type.Text = form_give ty.Str
rest_form inner form type.Array =
    form_bind (form false) λ t.
    form_bind (form_in close_bracket (token.Mark mark.CloseBracket) tt tt refl refl refl refl) λ x.
    form_give (ty.Arr t)
rest_form inner form type.Cluster =
    form_bind (form true) λ t.
    form_bind (others_form (inner true) (form true) 63) λ ts.
    form_give (ty.Cluster (t ∷ ts))
rest_form inner form type.Queue = parens_form (λ (t : Ty). ty.QueueRef t) (inner true) (form true)
rest_form inner form type.Ref = parens_form (λ (t : Ty). ty.ValueRef t) (inner true) (form true)

-- where none can
leaf_form : (inner : Bool → Grammar Token Ty) (w : TypeWord) → holds_others w ≡ false → Inline (type_rest inner w)
leaf_form inner (type.Number r) e = form_give (ty.Num r)
leaf_form inner type.Truth e = form_give ty.Bool
leaf_form inner type.Text e = form_give ty.Str
leaf_form inner type.Array e = absurd cc
leaf_form inner type.Cluster e = absurd cc
leaf_form inner type.Queue e = absurd cc
leaf_form inner type.Ref e = absurd cc

leaf_of : (b : Bool) (w v : TypeWord) → holds_others w ≡ b → cond b (cond (is_above 0) (Some w) None) (Some w) ≡ Some v → holds_others v ≡ false
leaf_of true w v is e = absurd cc
leaf_of false w v is e = let f : w ≡ v = cc in ap holds_others (sym f) ∙ is

leaf : (o : Option TypeWord) (v : TypeWord) → fitting 0 o ≡ Some v → holds_others v ≡ false
leaf None v e = absurd cc
leaf (Some w) v e = leaf_of (holds_others w) w v refl e

pub types_form : (n : ℕ) (arrays : Bool) → Inline (types (suc n) arrays)
unfolding types
types_form zero arrays =
    form_choice (type_first 0 arrays) (type_rest (types 0)) (λ w. midway) (λ t. midway) midway (in_line (type_first 0 arrays) refl refl refl)
    (token.Word (codes "bool")) (good_word (codes "bool") refl refl refl) type.Truth refl (λ t w e. leaf_form (types 0) w (leaf (type_word arrays t) w e))
types_form (suc n) arrays =
    form_choice (type_first (suc n) arrays) (type_rest (types (suc n))) (λ w. midway) (λ t. midway) midway (in_line (type_first (suc n) arrays) refl refl refl)
    (token.Word (codes "bool")) (good_word (codes "bool") refl refl refl) type.Truth refl (λ t w e. rest_form (types (suc n)) (types_form n) w)
