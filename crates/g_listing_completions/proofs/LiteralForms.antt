-- Literals can be completed wherever a token is refused.
use Rattle.std.proofs.Common.{◌≡◌, ℕ, zero, suc, Bool, true, false, [], ◌∷◌, Option, Some, None, refl, inl, inr, ◌⊎◌, arith}
use Rattle.std.specs.Prelude.{pos}
use Rattle.std.proofs.lemmas.Bool.{lt-ltb}
use Rattle.g_grammar.specs.Grammar.{Grammar, take, loop, ◌>>=◌, or_else}
use Rattle.g_grammar.proofs.Live.{either_left}
use Rattle.g_diagram.specs.declared.panel.Lit.{Lit}
use Rattle.g_diagram.specs.declared.panel.Lit.TheVariants as lit
use Rattle.g_tokens.specs.declared.token.Token.{Token}
use Rattle.g_tokens.specs.declared.token.Token.TheVariants as token
use Rattle.g_tokens.specs.declared.token.Mark.TheVariants as mark
use Rattle.g_listing_grammar.specs.declared.LiteralFirst.{LiteralFirst}
use Rattle.g_listing_grammar.specs.declared.LiteralFirst.TheVariants as begin
use Rattle.g_listing_grammar.specs.Words.{close_bracket, comma_or_bracket}
use Rattle.g_listing_grammar.specs.Types.{is_above}
use Rattle.g_listing_grammar.specs.Literals.{literal_first, literal_word, fitting_literal, next_item, array_rest, literal_rest, literals}
use Rattle.g_listing_completions.proofs.Forms.{midway, Form, sides, form_give, form_bind, form_choice, form_loop, in_line}
use Rattle.g_listing_completions.proofs.TypeForms.{Inline, others_form}

next_form : (g : Grammar Token Lit) → Inline g → (again : Bool) → Form (next_item g again) (sides (λ (a : Lit). midway) (λ (d : Unit {0}). midway)) midway
next_form g form true = form_bind form λ x. form_give (inl x)
next_form g form false = form_give (inr tt)

items_form : (g : Grammar Token Lit) → Inline g → Inline (loop comma_or_bracket (next_item g))
items_form g form =
    form_loop comma_or_bracket (next_item g) (λ again. midway) (λ e. midway) midway (in_line comma_or_bracket refl refl refl) (λ t again e. next_form g form again)
    (token.Mark mark.CloseBracket) tt false [] tt refl (refl, refl)

-- a literal after its first token, where literals can stand inside, or none can
array_form : (inner : Token → Option LiteralFirst) (rest : LiteralFirst → Grammar Token Lit) → ((t : Token) (c : LiteralFirst) → inner t ≡ Some c → Inline (rest c))
    → ((t : Token) (c : LiteralFirst) → inner t ≡ Some c → Inline (take inner >>= rest))
    → (t : Token) (c : LiteralFirst ⊎ Unit {0}) → or_else inner close_bracket t ≡ Some c → Inline (array_rest rest (take inner >>= rest) c)
array_form inner rest form more t (inr end) e = form_give (lit.Array [])
array_form inner rest form more t (inl c) e =
    let f = either_left (inner t) (close_bracket t) c e in
    form_bind (form t c f) λ x. form_bind (items_form (take inner >>= rest) (more t c f)) λ xs. form_give (lit.Array (x ∷ xs.0))

fits_none : (o : Option LiteralFirst) (c : LiteralFirst) → fitting_literal 0 o ≡ Some c → ⊥
fits_none None c e = cc
fits_none (Some (begin.Whole l)) c e = cc
fits_none (Some begin.Array) c e = cc
fits_none (Some begin.Cluster) c e = cc

no_cluster : (o : Option LiteralFirst) → fitting_literal 1 o ≡ Some begin.Cluster → ⊥
no_cluster None e = cc
no_cluster (Some (begin.Whole l)) e = let f : begin.Whole l ≡ begin.Cluster = cc in cc
no_cluster (Some begin.Array) e = let f : begin.Array ≡ begin.Cluster = cc in cc
no_cluster (Some begin.Cluster) e = cc

above : (n : ℕ) → is_above (suc n) ≡ true
above n = lt-ltb 0 (suc n) (omega arith)

fits : (n : ℕ) (arrays : Bool) → literal_first (suc n) arrays (token.Number (pos 0)) ≡ Some (begin.Whole (lit.Number (pos 0)))
fits n arrays = rw (above n) refl

-- where literals of so many levels go on
go_form : (n : ℕ) (arrays : Bool) → ((t : Token) (arrays : Bool) (c : LiteralFirst) → literal_first (suc n) arrays t ≡ Some c → Inline (literal_rest (suc n) c)) → Inline (literals (suc n) arrays)
go_form n arrays form =
    form_choice (literal_first (suc n) arrays) (literal_rest (suc n)) (λ c. midway) (λ l. midway) midway (in_line (literal_first (suc n) arrays) refl refl refl)
    (token.Number (pos 0)) (omega arith) (begin.Whole (lit.Number (pos 0))) (fits n arrays) (λ t c e. form t arrays c e)

-- an array after its bracket, whose elements may have so many levels
elements_form : (n : ℕ) → ((t : Token) (c : LiteralFirst ⊎ Unit {0}) → or_else (literal_first n false) close_bracket t ≡ Some c → Inline (array_rest (literal_rest n) (literals n false) c))
    → Inline (take (or_else (literal_first n false) close_bracket) >>= array_rest (literal_rest n) (literals n false))
elements_form n form =
    form_choice (or_else (literal_first n false) close_bracket) (array_rest (literal_rest n) (literals n false)) (λ c. midway) (λ l. midway) midway
    (in_line (or_else (literal_first n false) close_bracket) refl refl refl) (token.Mark mark.CloseBracket) tt (inr tt) refl form

pub literal_rest_form : (n : ℕ) (t : Token) (arrays : Bool) (c : LiteralFirst) → literal_first (suc n) arrays t ≡ Some c → Inline (literal_rest (suc n) c)
unfolding literal_rest
literal_rest_form n t arrays (begin.Whole l) e = form_give l
literal_rest_form zero t arrays begin.Array e =
    elements_form 0 (array_form (literal_first 0 false) (literal_rest 0) (λ t c f. absurd (fits_none (literal_word false t) c f)) (λ t c f. absurd (fits_none (literal_word false t) c f)))
literal_rest_form (suc n) t arrays begin.Array e =
    elements_form (suc n) (array_form (literal_first (suc n) false) (literal_rest (suc n)) (λ t c f. literal_rest_form n t false c f) (λ t c f. go_form n false (literal_rest_form n)))
literal_rest_form zero t arrays begin.Cluster e = absurd (no_cluster (literal_word arrays t) e)
literal_rest_form (suc n) t arrays begin.Cluster e =
    form_bind (go_form n true (literal_rest_form n)) λ x. form_bind (others_form (literals (suc n) true) (go_form n true (literal_rest_form n)) 63) λ xs. form_give (lit.Cluster (x ∷ xs))

pub literals_form : (n : ℕ) (arrays : Bool) → Inline (literals (suc n) arrays)
literals_form n arrays = go_form n arrays (literal_rest_form n)
