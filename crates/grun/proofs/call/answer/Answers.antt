-- proofs/call/answer/Answers.antt
use Rattle.std.proofs.Common.{ℕ, zero, suc, ◌<◌, List, [], ◌∷◌, length, Option, Some, None, Err, map, refl, ap, sym, subst, ◌++◌, codes, arith}
use Rattle.std.specs.String.{string_bytes}
use Rattle.std.specs.Fmt.{decimal}
use Rattle.g_frames.specs.declared.firing.Firing.{Firing}
use Rattle.g_io.specs.Reading.{IsAllOf, IsLonger}
use Rattle.g_line.specs.declared.forms.Line.{Line}
use Rattle.g_line.specs.Forms.{HasLine}
use Rattle.g_line.specs.Usage.{IsFirstWrong, IsRefusal}
use Rattle.grun.specs.Texts.{line_of}
use Rattle.grun.specs.Answer.{Reply, IsAnswer, reply, LIMIT, usage, too_long}
use Rattle.grun.specs.Call.{Answers, answer, fault}
use Rattle.grun.proofs.call.answer.Goals as goal

usage_answers : (words : List (List ℕ)) (left : Option (List ℕ)) (k : ℕ) → IsFirstWrong words k → Answers words left None (reply 1 (line_of (codes "usage at word " ++ decimal k)))
usage_answers words None k wrong = ([], usage k wrong)
usage_answers words (Some bytes) k wrong = usage k wrong

longer_bytes : (n : ℕ) → (bytes : List ℕ) × (n < length bytes)
longer_bytes zero = (0 ∷ [], omega arith)
longer_bytes (suc n) = let bytes = longer_bytes n in (0 ∷ bytes.0, omega (arith, bytes.1))

read_answers : (words : List (List ℕ)) (left : Option (List ℕ)) (bytes : List ℕ) (trace : Option (List Firing)) (r : Reply) → IsAllOf bytes left → IsAnswer words bytes trace r → Answers words left trace r
read_answers words None bytes trace r all is = (bytes, is)
read_answers words (Some others) bytes trace r all is = subst (λ (bytes : List ℕ). IsAnswer words bytes trace r) (sym all) is

long_answers : (words : List (List ℕ)) (line : Line) (left : Option (List ℕ)) → HasLine words line → IsLonger left LIMIT → Answers words left None (reply 10 (line_of (codes "too long")))
long_answers words line None has longer = let bytes = longer_bytes LIMIT in (bytes.0, too_long line has bytes.1)
long_answers words line (Some bytes) has longer = too_long line has longer

pub returns-in-Err-Usage-clause-answer : goal.returns-in-Err-Usage-clause-answer
returns-in-Err-Usage-clause-answer g c =
    let words = map string_bytes c.args.words.now.items in
    rw (c.plain.ensures.trace, c.plain.ensures.status, c.plain.ensures.text, c.in_ok-numbered-in-Err-Usage.ensures)
    (answer (usage_answers words (g.S.Source.left c.args.source.now) c.in-Err-Usage.k (subst (IsRefusal words) c.in-Err-Usage.field-0-is c.in-Err-Usage.ensures.refused)))

pub returns-in-Err-Fault-clause-answer : goal.returns-in-Err-Fault-clause-answer
returns-in-Err-Fault-clause-answer g c =
    rw (c.plain-in-Err-Fault.ensures.trace, c.plain-in-Err-Fault.ensures.status, c.plain-in-Err-Fault.ensures.text, c.in_ok-fixed-in-Err-Fault.ensures)
    (fault c.in-Ok.line c.in-Ok.ensures.has refl (c.in-Err-Fault.ensures.fault (ap Err c.in-Err-Fault.field-0-is)) refl)

pub returns-in-Err-TooLong-clause-answer : goal.returns-in-Err-TooLong-clause-answer
returns-in-Err-TooLong-clause-answer g c =
    let words = map string_bytes c.args.words.now.items in
    rw (c.plain-in-Err-TooLong.ensures.trace, c.plain-in-Err-TooLong.ensures.status, c.plain-in-Err-TooLong.ensures.text, c.in_ok-fixed-in-Err-TooLong.ensures)
    (answer (long_answers words c.in-Ok.line (g.S.Source.left c.args.source.now) c.in-Ok.ensures.has (c.in-Err-TooLong.ensures.too_long (ap Err c.in-Err-TooLong.field-0-is))))
