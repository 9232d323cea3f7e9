-- Inner: the search for a node that can fire, where the limit leaves room for an iteration or not.
use Rattle.std.specs.Prelude.{◌≡◌, ℕ, Bool, true, false, Option, Some, None, is_some, ⊤}
use Rattle.std.specs.List.{list_any}
use Rattle.g_diagram.specs.Lines.{Entry}
use Rattle.g_frames.specs.declared.firing.Firing.{Firing}
use Rattle.g_frames.specs.Program.{Program}
use Rattle.g_frames.specs.State.{FireState}
use Rattle.g_frames.specs.Fire.{effect_with}
use Rattle.g_frames.specs.Run.{Standing, choices_of, firing}

abbrev pub fires_with : Program → (has_room : Bool) → FireState → (frame line : ℕ) → (choice : Option ℕ) → Bool
fires_with p has_room s k l choice = is_some (effect_with p has_room s (firing k l choice))

-- whether a node of a frame can fire with one of its choices
abbrev pub line_goes_on : Program → (has_room : Bool) → FireState → (frame : ℕ) → Entry → Bool
line_goes_on p has_room s k e = list_any (fires_with p has_room s k e.line) (choices_of p s.objects e.kind)

abbrev pub goes_on : Program → (has_room : Bool) → FireState → Standing → Bool
goes_on p has_room s n = line_goes_on p has_room s n.number n.entry

-- a firing that can be done is found, exactly where there is any
abbrev pub Picks : Program → (has_room : Bool) → FireState → (any : Bool) → Option Firing → Type 0
Picks p has_room s any None = any ≡ false
Picks p has_room s any (Some x) = (any ≡ true) × (is_some (effect_with p has_room s x) ≡ true)

-- a firing that can be done is found, and if none is found there is none
abbrev pub Finds : Program → (has_room : Bool) → FireState → (any : Bool) → Option Firing → Type 0
Finds p has_room s any None = any ≡ false
Finds p has_room s any (Some x) = is_some (effect_with p has_room s x) ≡ true

-- what is found can be done; that nothing is found says nothing
abbrev pub Hints : Program → (has_room : Bool) → FireState → Option Firing → Type 0
Hints p has_room s None = ⊤
Hints p has_room s (Some x) = is_some (effect_with p has_room s x) ≡ true
