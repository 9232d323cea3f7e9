-- A refusal, said of bytes.
use Rattle.std.specs.Prelude.{◌≡◌, ℕ, suc, ◌==◌, List, [], ◌∷◌, ◌++◌, if◌then◌else◌}
use Rattle.g_diagram.specs.declared.hierarchy.Hierarchy.{Hierarchy}
use Rattle.g_tokens.specs.declared.token.Token.{Token}
use Rattle.g_tokens.specs.declared.token.Token.TheVariants.{End}
use Rattle.g_tokens.specs.declared.token.Spot.{Spot}
use Rattle.g_tokens.specs.Tokens.{placed_tokens, tokens_of}
use Rattle.g_listing_grammar.specs.Listing.{IsListing}
use Rattle.g_print_laws.specs.Bytes.{IsBytes}

-- the place just after a byte at this place: after a line feed a new line begins
abbrev pub next_place : Spot → ℕ → Spot
next_place s b = if b == 10 then record { line = suc s.line; column = 1 } else record { line = s.line; column = suc s.column }

-- the place just after bytes of which the first is at this place
abbrev pub place_after : Spot → List ℕ → Spot
place_after s [] = s
place_after s (b ∷ bytes) = place_after (next_place s b) bytes

abbrev pub first_place : Spot
first_place = record { line = 1; column = 1 }

-- The token at this place is the first that no listing has after the bytes before it. No bytes are a listing whose tokens begin with those
-- before it and it. Some bytes, put behind exactly the bytes that stand before the place, make a listing, in which the tokens before the place
-- are as they were. The token may be the end of a line, the end of the bytes or a bad one.
pub record IsFirstRefusedInBytes (bytes : List ℕ) (spot : Spot) : Type 0 where
  pub before : List (Token × Spot)
  pub token : Token
  pub after : List (Token × Spot)
  pub split : placed_tokens bytes ≡ before ++ (token, spot) ∷ after
  pub refused : (others : List ℕ) (more : List Token) (h : Hierarchy) → tokens_of (placed_tokens others) ≡ tokens_of before ++ token ∷ more → IsListing others h → ⊥
  -- the bytes before the place, and no others; all bytes stand before their end
  pub front : List ℕ
  pub back : List ℕ
  pub parts : bytes ≡ front ++ back
  pub place : place_after first_place front ≡ spot
  pub all : token ≡ End → back ≡ []
  pub only : (other back : List ℕ) → bytes ≡ other ++ back → place_after first_place other ≡ spot → other ≡ front
  -- what makes a listing of them
  pub completion : List ℕ
  pub are_bytes : IsBytes completion
  pub hierarchy : Hierarchy
  pub completed : IsListing (front ++ completion) hierarchy
  pub further : List Token
  pub kept : tokens_of (placed_tokens (front ++ completion)) ≡ tokens_of before ++ further
