-- When a listing is refused, and where.
use Rattle.std.specs.Prelude.{◌≡◌, ℕ, List, ◌∷◌, ◌++◌}
use Rattle.g_diagram.specs.declared.hierarchy.Hierarchy.{Hierarchy}
use Rattle.g_tokens.specs.declared.token.Token.{Token}
use Rattle.g_tokens.specs.declared.token.Spot.{Spot}
use Rattle.g_tokens.specs.Tokens.{placed_tokens, tokens_of}
use Rattle.g_listing_grammar.specs.Listing.{HasHierarchy, IsListing}
use Rattle.g_listing.specs.declared.listing.ListingRefused.{ListingRefused}
use Rattle.g_listing.specs.declared.listing.ListingRefused.TheVariants as refused

-- The token at this place is the first that no listing has after the tokens before it: no listing goes on with it, whatever follows, and
-- some listing goes on from what stands before it.
pub record IsFirstRefused (bytes : List ℕ) (spot : Spot) : Type 0 where
  pub before : List (Token × Spot)
  pub token : Token
  pub after : List (Token × Spot)
  pub split : placed_tokens bytes ≡ before ++ (token, spot) ∷ after
  pub refused : (more : List Token) (h : Hierarchy) → HasHierarchy (tokens_of before ++ token ∷ more) h → ⊥
  pub completion : List Token
  pub hierarchy : Hierarchy
  pub completed : HasHierarchy (tokens_of before ++ completion) hierarchy

-- no other hierarchy is that of the bytes
abbrev pub IsOnly : List ℕ → Hierarchy → Type 0
IsOnly bytes h = (other : Hierarchy) → IsListing bytes other → other ≡ h

-- no hierarchy is that of the bytes, and the place is that of the first refused token; want of memory is free
abbrev pub IsRefusal : List ℕ → ListingRefused → Type 0
IsRefusal bytes (refused.Syntax spot) = ((h : Hierarchy) → IsListing bytes h → ⊥) × IsFirstRefused bytes spot
IsRefusal bytes (refused.Memory e) = Unit {0}
