-- What a public call says, from what the grammar reads.
use Rattle.std.proofs.Common.{List, subst, Bor}
use Rattle.std.specs.Prelude.{Result, Ok, Err, IfOk}
use Rattle.g_grammar.specs.Grammar.{Grammar, Has, read}
use Rattle.g_grammar.proofs.Laws.{takes, again}
use Rattle.g_grammar.proofs.Live.{Live, spot}
use Rattle.g_grammar.specs.declared.Stop.{Stop}
use Rattle.g_grammar.specs.declared.Stop.TheVariants as stop
use Rattle.g_grammar.specs.Reads.{Gives, StopsAt}

pub found_by : {T A : Type 0} (g : Grammar T A) (ts : List T) (result : Result (A × Bor (List T)) (Stop T)) → Gives result (read g ts) → IfOk result (λ x. Has g ts x.0 x.1.now)
found_by g ts (Ok x) h = takes g ts x.0 x.1.now h
found_by g ts (Err e) h = tt

pub only_by : {T A : Type 0} (g : Grammar T A) (ts : List T) (result : Result (A × Bor (List T)) (Stop T)) → Gives result (read g ts) → (a : A) (rest : List T) → Has g ts a rest → Gives result (Ok (a, rest))
only_by g ts result h a rest has = subst (λ r. Gives result r) (again g ts a rest has) h

pub spot_by : {T A : Type 0} (g : Grammar T A) → Live g → (ts : List T) (result : Result (A × Bor (List T)) (Stop T)) → Gives result (read g ts) → StopsAt g ts result
spot_by g live ts (Ok x) h = tt
spot_by g live ts (Err (stop.Memory e)) h = tt
spot_by g live ts (Err (stop.At bad)) h = spot g live ts bad.now h
