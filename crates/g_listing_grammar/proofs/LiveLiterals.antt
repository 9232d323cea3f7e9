-- Literals can be completed wherever a token is refused.
use Rattle.std.proofs.Common.{◌≡◌, ℕ, zero, suc, Bool, true, false, [], ◌∷◌, Option, Some, None, refl, inl, inr, ◌⊎◌, arith}
use Rattle.std.specs.Prelude.{pos}
use Rattle.std.proofs.lemmas.Bool.{lt-ltb}
use Rattle.g_grammar.specs.Grammar.{Grammar, take, loop, ◌>>=◌, or_else}
use Rattle.g_grammar.proofs.Live.{Live, either_left, live_give, live_bind, live_loop, live_choice}
use Rattle.g_diagram.specs.declared.panel.Lit.{Lit}
use Rattle.g_listing_grammar.specs.declared.LiteralFirst.{LiteralFirst}
use Rattle.g_listing_grammar.specs.declared.LiteralFirst.TheVariants as begin
use Rattle.g_diagram.specs.declared.panel.Lit.TheVariants as lit
use Rattle.g_tokens.specs.declared.token.Token.{Token}
use Rattle.g_tokens.specs.declared.token.Token.TheVariants as token
use Rattle.g_tokens.specs.declared.token.Mark.TheVariants as mark
use Rattle.g_listing_grammar.specs.Words.{close_bracket, comma_or_bracket}
use Rattle.g_listing_grammar.specs.Types.{is_above}
use Rattle.g_listing_grammar.specs.Literals.{literal_first, literal_word, fitting_literal, next_item, array_rest, literal_rest, literals}
use Rattle.g_listing_grammar.proofs.LiveTypes.{live_others}

live_next : (g : Grammar Token Lit) → Live g → (again : Bool) → Live (next_item g again)
live_next g live true = live_bind live λ x. live_give (inl x)
live_next g live false = live_give (inr tt)

live_items : (g : Grammar Token Lit) → Live g → Live (loop comma_or_bracket (next_item g))
live_items g live = live_loop comma_or_bracket (next_item g) (λ t again e. live_next g live again) (token.Mark mark.CloseBracket) false [] tt refl (refl, refl)

-- a literal after its first token, where literals can stand inside, or none can
live_array : (inside : Token → Option LiteralFirst) (rest : LiteralFirst → Grammar Token Lit) → ((t : Token) (c : LiteralFirst) → inside t ≡ Some c → Live (rest c))
    → ((t : Token) (c : LiteralFirst) → inside t ≡ Some c → Live (take inside >>= rest))
    → (t : Token) (c : LiteralFirst ⊎ Unit {0}) → or_else inside close_bracket t ≡ Some c → Live (array_rest rest (take inside >>= rest) c)
live_array inside rest live more t (inr end) e = live_give (lit.Array [])
live_array inside rest live more t (inl c) e =
    let f = either_left (inside t) (close_bracket t) c e in
    live_bind (live t c f) λ x. live_bind (live_items (take inside >>= rest) (more t c f)) λ xs. live_give (lit.Array (x ∷ xs.0))

fits_none : (o : Option LiteralFirst) (c : LiteralFirst) → fitting_literal 0 o ≡ Some c → ⊥
fits_none None c e = cc
fits_none (Some (begin.Whole l)) c e = cc
fits_none (Some begin.Array) c e = cc
fits_none (Some begin.Cluster) c e = cc

no_cluster : (o : Option LiteralFirst) → fitting_literal 1 o ≡ Some begin.Cluster → ⊥
no_cluster None e = cc
no_cluster (Some (begin.Whole l)) e = let f : begin.Whole l ≡ begin.Cluster = cc in cc
no_cluster (Some begin.Array) e = let f : begin.Array ≡ begin.Cluster = cc in cc
no_cluster (Some begin.Cluster) e = cc

above : (n : ℕ) → is_above (suc n) ≡ true
above n = lt-ltb 0 (suc n) (omega arith)

fits : (n : ℕ) (arrays : Bool) → literal_first (suc n) arrays (token.Number (pos 0)) ≡ Some (begin.Whole (lit.Number (pos 0)))
fits n arrays = rw (above n) refl

-- a bracket begins no element of an array
closes : (n : ℕ) → or_else (literal_first n false) close_bracket (token.Mark mark.CloseBracket) ≡ Some (inr tt)
closes n = refl

-- where literals of so many levels go on
live_go : (n : ℕ) (arrays : Bool) → ((t : Token) (arrays : Bool) (c : LiteralFirst) → literal_first (suc n) arrays t ≡ Some c → Live (literal_rest (suc n) c)) → Live (literals (suc n) arrays)
live_go n arrays live =
    live_choice (literal_first (suc n) arrays) (literal_rest (suc n)) (token.Number (pos 0)) (begin.Whole (lit.Number (pos 0))) (fits n arrays) (λ t c e. live t arrays c e)

pub live_literal_rest : (n : ℕ) (t : Token) (arrays : Bool) (c : LiteralFirst) → literal_first (suc n) arrays t ≡ Some c → Live (literal_rest (suc n) c)
unfolding literal_rest
live_literal_rest n t arrays (begin.Whole l) e = live_give l
live_literal_rest zero t arrays begin.Array e =
    live_choice (or_else (literal_first 0 false) close_bracket) (array_rest (literal_rest 0) (literals 0 false)) (token.Mark mark.CloseBracket) (inr tt) (closes 0)
    (live_array (literal_first 0 false) (literal_rest 0) (λ t c f. absurd (fits_none (literal_word false t) c f)) (λ t c f. absurd (fits_none (literal_word false t) c f)))
live_literal_rest (suc n) t arrays begin.Array e =
    live_choice (or_else (literal_first (suc n) false) close_bracket) (array_rest (literal_rest (suc n)) (literals (suc n) false)) (token.Mark mark.CloseBracket) (inr tt) (closes (suc n))
    (live_array (literal_first (suc n) false) (literal_rest (suc n)) (λ t c f. live_literal_rest n t false c f) (λ t c f. live_go n false (live_literal_rest n)))
live_literal_rest zero t arrays begin.Cluster e = absurd (no_cluster (literal_word arrays t) e)
live_literal_rest (suc n) t arrays begin.Cluster e =
    live_bind (live_go n true (live_literal_rest n)) λ x. live_bind (live_others (literals (suc n) true) (live_go n true (live_literal_rest n)) 63) λ xs. live_give (lit.Cluster (x ∷ xs))

pub live_literals : (n : ℕ) (arrays : Bool) → Live (literals (suc n) arrays)
live_literals n arrays = live_go n arrays (live_literal_rest n)
