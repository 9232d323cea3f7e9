-- The answer to words that are no run: nothing fired.
use Rattle.std.proofs.Common.{◌≡◌, ℕ, List, Option, None, Some, false, codes, refl, sym, ap, ◌∙◌, true≢false}
use Rattle.std.proofs.lemmas.Slice.Eq.{bytes_eq-Decides}
use Rattle.g_frames.specs.declared.firing.Firing.{Firing}
use Rattle.g_line.specs.declared.forms.Line.TheVariants.{Run}
use Rattle.g_line.specs.declared.forms.Setting.{Setting}
use Rattle.g_line.specs.Forms.{HasLine}
use Rattle.grun.specs.Answer.{Reply, IsAnswer, usage, too_long, syntax, printed, checked_broken, checked_ok, runs}
use Rattle.grun.specs.Call.{Answers, Found, answer, fault, begins_run}

abbrev pub IsNoRun : List (List ℕ) → Type 0
IsNoRun words = (main : List ℕ) (settings : List Setting) (limit : ℕ) → HasLine words (Run main settings limit) → ⊥

plain_answer : (words : List (List ℕ)) (bytes : List ℕ) (trace : Option (List Firing)) (r : Reply) → IsNoRun words → IsAnswer words bytes trace r → IsAnswer words bytes None r
plain_answer words bytes trace r no_run (usage k wrong) = usage k wrong
plain_answer words bytes trace r no_run (too_long line has long) = too_long line has long
plain_answer words bytes trace r no_run (syntax line spot has short refused) = syntax line spot has short refused
plain_answer words bytes trace r no_run (printed h has short is) = printed h has short is
plain_answer words bytes trace r no_run (checked_broken main h bs has short is lists some) = checked_broken main h bs has short is lists some
plain_answer words bytes trace r no_run (checked_ok main h has short is unbroken) = checked_ok main h has short is unbroken
plain_answer words bytes trace r no_run (runs main settings limit h t x has short is answered) = absurd (no_run main settings limit has)

plain_answers : (words : List (List ℕ)) (left : Option (List ℕ)) (trace : Option (List Firing)) (r : Reply) → IsNoRun words → Answers words left trace r → Answers words left None r
plain_answers words None trace r no_run is = (is.0, plain_answer words is.0 trace r no_run is.1)
plain_answers words (Some bytes) trace r no_run is = plain_answer words bytes trace r no_run is

pub plain_found : (words : List (List ℕ)) (left : Option (List ℕ)) (old new : ℕ) (trace : Option (List Firing)) (r : Reply) → IsNoRun words → Found words left old new trace r → Found words left old new None r
plain_found words left old new trace r no_run (answer is) = answer (plain_answers words left trace r no_run is)
plain_found words left old new trace r no_run (fault line has none rose is) = fault line has refl rose is

-- words that don't begin with `run` are no run
pub no_run_here : (words : List (List ℕ)) → begins_run words ≡ false → IsNoRun words
no_run_here words not main settings limit has = true≢false (sym (ap begins_run has.1.written ∙ (bytes_eq-Decides (codes "run") (codes "run")).1 refl) ∙ not)
