use Rattle.std.proofs.Common.{◌+◌, map, sym, subst, arith}
use Rattle.std.specs.String.{string_bytes}
use Rattle.std.proofs.lemmas.List.{length-map}
use Rattle.std.proofs.lemmas.Option.{slice_get_within}
use Rattle.g_line.specs.declared.forms.Line.TheVariants.{Run}
use Rattle.g_line.specs.Forms.{HasLine}
use Rattle.g_line.specs.Usage.{IsRefusal}
use Rattle.g_line.specs.Reading.{IsNoLimitAt}
use Rattle.g_line.proofs.Stops.{only_line, refusal_at, if_err}
use Rattle.g_line.proofs.Runs.{stops_limit, stops_later, has_limited}
use Rattle.g_line.proofs.reading.run_limited.Goals as goal

pub returns-in_err-limit-clause-refused : goal.returns-in_err-limit-clause-refused
returns-in_err-limit-clause-refused c =
    let words = map string_bytes c.args.words.now in
    if_err (IsRefusal words) c.from_residual.result c.in_err-limit.field-0.0 c.from_residual.ensures.1
    (refusal_at (IsNoLimitAt words (c.args.at + 1)) words c.in_err-limit.field-0.0 (λ k no. stops_limit words c.args.main c.args.settings.items c.args.at k c.requires no) c.in_err-limit.ensures.refused)

pub read_settings-requires : goal.read_settings-requires
read_settings-requires c =
    let words = map string_bytes c.args.words.now in
    let limit = c.in_ok-limit.ensures.read in
    omega (arith, slice_get_within words (c.args.at + 1) limit.word limit.here, length-map c.args.words.now string_bytes)

pub returns-then-end-words-clause-refused : goal.returns-then-end-words-clause-refused
returns-then-end-words-clause-refused c =
    let words = map string_bytes c.args.words.now in
    stops_later words c.args.main c.args.settings.items c.read_settings.new.settings.items c.args.at c.in_ok-limit.limit c.in_ok-end.end c.requires c.in_ok-limit.ensures.read c.in_ok-end.ensures
    (omega (arith, c.if-end-words.true, length-map c.args.words.now string_bytes))

pub returns-clause-has : goal.returns-clause-has
returns-clause-has c =
    let words = map string_bytes c.args.words.now in
    subst (λ l. HasLine words (Run c.args.main l c.in_ok-limit.limit)) (sym c.from_vec.ensures)
    (has_limited words c.args.main c.args.settings.items c.read_settings.new.settings.items c.args.at c.in_ok-limit.limit c.in_ok-end.end c.requires c.in_ok-limit.ensures.read c.in_ok-end.ensures
    (omega (arith, c.if-end-words.false, length-map c.args.words.now string_bytes)))

pub returns-clause-only : goal.returns-clause-only
returns-clause-only c =
    let words = map string_bytes c.args.words.now in
    only_line words _ (subst (λ l. HasLine words (Run c.args.main l c.in_ok-limit.limit)) (sym c.from_vec.ensures)
    (has_limited words c.args.main c.args.settings.items c.read_settings.new.settings.items c.args.at c.in_ok-limit.limit c.in_ok-end.end c.requires c.in_ok-limit.ensures.read c.in_ok-end.ensures
    (omega (arith, c.if-end-words.false, length-map c.args.words.now string_bytes))))
