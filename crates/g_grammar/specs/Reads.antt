-- What a reader answers, against what the grammar reads.
use Rattle.std.specs.Prelude.{◌≡◌, List, ◌++◌, Result, Ok, Err, ◌⊎◌}
use Rattle.std.proofs.Common.{inl, inr}
use Rattle.std.specs.Borrow.{Bor}
use Rattle.g_grammar.specs.Grammar.{Grammar, Read, IsSpot}
use Rattle.g_grammar.specs.declared.Stop.{Stop}
use Rattle.g_grammar.specs.declared.Stop.TheVariants as stop
use Rattle.g_grammar.specs.declared.Turn.{Turn}
use Rattle.g_grammar.specs.declared.Turn.TheVariants as turn

-- reading was refused at this rest, unless memory ran out
abbrev pub Stops : {T A : Type 0} → Stop T → Read T A → Type 0
Stops (stop.Memory e) r = Unit {0}
Stops (stop.At bad) r = r ≡ Err bad.now

-- the value and the rest are those that were read
abbrev pub Gives : {T A : Type 0} → Result (A × Bor (List T)) (Stop T) → Read T A → Type 0
Gives (Ok x) r = r ≡ Ok (x.0, x.1.now)
Gives (Err e) r = Stops e r

-- the same where the value says nothing
abbrev pub Passes : {T : Type 0} → Result (Bor (List T)) (Stop T) → Read T (Unit {0}) → Type 0
Passes (Ok rest) r = r ≡ Ok (tt, rest.now)
Passes (Err e) r = Stops e r

-- it was refused at the first token that no phrase has after the tokens before it, unless memory ran out
abbrev pub StopsAt : {T A : Type 0} → Grammar T A → List T → Result (A × Bor (List T)) (Stop T) → Type 0
StopsAt g ts (Ok x) = Unit {0}
StopsAt g ts (Err (stop.Memory e)) = Unit {0}
StopsAt g ts (Err (stop.At bad)) = IsSpot g ts bad.now

-- ---- loops

abbrev pub sum_of : {A D : Type 0} → Turn A D → A ⊎ D
sum_of (turn.More a) = inl a
sum_of (turn.Last d) = inr d

-- one turn of a loop is what was read
abbrev pub Turns : {T A D : Type 0} → Result (Turn A D × Bor (List T)) (Stop T) → Read T (A ⊎ D) → Type 0
Turns (Ok x) r = r ≡ Ok (sum_of x.0, x.1.now)
Turns (Err e) r = Stops e r

-- these, and then those that are read
abbrev pub with_front : {T A : Type 0} → List A → Read T (List A) → Read T (List A)
with_front front (Ok x) = Ok (front ++ x.0, x.1)
with_front front (Err bad) = Err bad

-- these, and then those that a loop reads
abbrev pub fronts : {T A D : Type 0} → List A → Read T (List A × D) → Read T (List A)
fronts front (Ok x) = Ok (front ++ x.0.0, x.1)
fronts front (Err bad) = Err bad

-- these, and then those that a loop reads, with what ended it
abbrev pub ended : {T A D : Type 0} → List A → Read T (List A × D) → Read T (List A × D)
ended front (Ok x) = Ok ((front ++ x.0.0, x.0.1), x.1)
ended front (Err bad) = Err bad
