-- Places, computed.
use Rattle.std.proofs.Common.{◌≡◌, refl}
use Rattle.std.specs.Prelude.{codes, [], ◌∷◌, ◌++◌}
use Rattle.g_listing_completions.specs.Completion.{place_after, first_place}

nothing : place_after first_place [] ≡ record { line = 1; column = 1 }
nothing = refl

inside_a_line : place_after first_place (codes "glisting 1 # one\n\n vi ") ≡ record { line = 3; column = 5 }
inside_a_line = refl

after_a_feed : place_after first_place (codes "glisting 1\n") ≡ record { line = 2; column = 1 }
after_a_feed = refl

-- a carriage return is a byte of its line
after_a_return : place_after first_place (codes "glisting 1" ++ 13 ∷ []) ≡ record { line = 1; column = 12 }
after_a_return = refl
