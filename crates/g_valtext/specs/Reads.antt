-- Inner: what readers of arrays of numbers answer.
use Rattle.std.specs.Prelude.{◌≡◌, ℤ, List, Option, IfSome, Result, Ok, Err}
use Rattle.std.specs.Option.{option_map}
use Rattle.std.specs.Borrow.{Bor}
use Rattle.g_grammar.specs.Grammar.{Read}
use Rattle.g_grammar.specs.Reads.{Stops}
use Rattle.g_grammar.specs.declared.Stop.{Stop}
use Rattle.g_grammar.specs.declared.Stop.TheVariants as stop
use Rattle.g_tokens.specs.declared.token.Token.{Token}
use Rattle.g_types.specs.declared.rep.Rep.{Rep}
use Rattle.g_values.specs.declared.num.Num.{Num}
use Rattle.g_values.specs.Number.{num_of}
use Rattle.g_values.specs.Numbers.{Numbers}

-- the number, of this representation, and the rest are those that were read
abbrev pub GivesNumber : Rep → Result (Num × Bor (List Token)) (Stop Token) → Read Token ℤ → Type 0
GivesNumber rep (Ok x) r = (x.0 ≡ num_of rep x.0.n) × (r ≡ Ok (x.0.n, x.1.now))
GivesNumber rep (Err e) r = Stops e r

-- the same where there may be none
abbrev pub GivesNext : Rep → Result (Option Num × Bor (List Token)) (Stop Token) → Read Token (Option ℤ) → Type 0
GivesNext rep (Ok x) r = IfSome x.0 (λ number. number.rep ≡ rep) × (r ≡ Ok (option_map (λ number. number.n) x.0, x.1.now))
GivesNext rep (Err e) r = Stops e r

-- numbers of this representation and the rest are those that were read
abbrev pub GivesNumbers : Rep → Result (Numbers × Bor (List Token)) (Stop Token) → Read Token (List ℤ) → Type 0
GivesNumbers rep (Ok x) r = (x.0.rep ≡ rep) × (r ≡ Ok (x.0.all, x.1.now))
GivesNumbers rep (Err e) r = Stops e r

-- all of the tokens are this value, or reading was refused at this rest, unless memory ran out
abbrev pub GivesAll : {A : Type 0} → Result A (Stop Token) → Result A (List Token) → Type 0
GivesAll (Ok a) r = r ≡ Ok a
GivesAll (Err (stop.Memory e)) r = Unit {0}
GivesAll (Err (stop.At bad)) r = r ≡ Err bad.now
