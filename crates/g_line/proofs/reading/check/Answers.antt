use Rattle.std.proofs.Common.{sym, subst, map, arith}
use Rattle.std.specs.String.{string_bytes}
use Rattle.std.proofs.lemmas.List.{length-map}
use Rattle.g_line.specs.Usage.{IsRefusal, IsFirstWrong}
use Rattle.g_line.specs.Reading.{IsNoMain}
use Rattle.g_line.proofs.Stops.{stops_unnamed, stops_check, has_check, only_line, refusal_at, if_err}
use Rattle.g_line.proofs.reading.check.Goals as goal

pub returns-in_err-main-clause-refused : goal.returns-in_err-main-clause-refused
returns-in_err-main-clause-refused c =
    let words = map string_bytes c.args.words.now in
    if_err (IsRefusal words) c.from_residual.result c.in_err-main.field-0.0 c.from_residual.ensures.1
    (refusal_at (IsNoMain words) words c.in_err-main.field-0.0 (λ k no. subst (IsFirstWrong words) (sym no.second) (stops_unnamed words c.requires no.other)) c.in_err-main.ensures.refused)

pub returns-then-words-gt2-clause-refused : goal.returns-then-words-gt2-clause-refused
returns-then-words-gt2-clause-refused c =
    stops_check (map string_bytes c.args.words.now) c.in_ok-main.main c.requires c.in_ok-main.ensures.read (omega (arith, c.if-words-gt2.true, length-map c.args.words.now string_bytes))

pub returns-clause-has : goal.returns-clause-has
returns-clause-has c =
    has_check (map string_bytes c.args.words.now) c.in_ok-main.main c.requires c.in_ok-main.ensures.read (omega (arith, c.if-words-gt2.false, length-map c.args.words.now string_bytes))

pub returns-clause-only : goal.returns-clause-only
returns-clause-only c =
    let line = has_check (map string_bytes c.args.words.now) c.in_ok-main.main c.requires c.in_ok-main.ensures.read (omega (arith, c.if-words-gt2.false, length-map c.args.words.now string_bytes)) in
    only_line (map string_bytes c.args.words.now) _ line
