use Rattle.std.proofs.Common.{◌≡◌, ◌≢◌, ◌≤◌, ◌∙◌, Some, map, length, sym, subst, ap, slice_get, arith, rules}
use Rattle.std.specs.String.{string_bytes}
use Rattle.std.proofs.lemmas.List.{length-map}
use Rattle.std.proofs.lemmas.Option.{slice_get_within}
use Rattle.g_line.specs.declared.forms.Line.TheVariants.{Run}
use Rattle.g_line.specs.Forms.{HasLine, option_word}
use Rattle.g_line.specs.Usage.{IsRefusal, IsFirstWrong}
use Rattle.g_line.specs.Reading.{AreRead, IsNoMain}
use Rattle.g_line.proofs.Stops.{stops_second, only_line, refusal_at, if_err}
use Rattle.g_line.proofs.Runs.{has_read, is_set, stops_word}
use Rattle.g_line.proofs.reading.run.Goals as goal

pub returns-in_err-main-clause-refused : goal.returns-in_err-main-clause-refused
returns-in_err-main-clause-refused c =
    let words = map string_bytes c.args.words.now in
    if_err (IsRefusal words) c.from_residual.result c.in_err-main.field-0.0 c.from_residual.ensures.1
    (refusal_at (IsNoMain words) words c.in_err-main.field-0.0 (λ k no. subst (IsFirstWrong words) (sym no.second) (stops_second words c.requires no.other)) c.in_err-main.ensures.refused)

pub read_settings-requires : goal.read_settings-requires
read_settings-requires c =
    let words = map string_bytes c.args.words.now in
    omega (arith, slice_get_within words 1 c.in_ok-main.main c.in_ok-main.ensures.read.second, length-map c.args.words.now string_bytes)

pub returns-in_default-clause-has : goal.returns-in_default-clause-has
returns-in_default-clause-has c =
    let words = map string_bytes c.args.words.now in
    let read = subst (λ l. AreRead words 2 l c.read_settings.new.settings.items c.in_ok-end.end) c.new-settings.ensures.items c.in_ok-end.ensures in
    let long : length c.args.words.now ≤ c.in_ok-end.end = search rules in
    subst (λ l. HasLine words (Run c.in_ok-main.main l 100_000)) (sym c.from_vec.ensures)
    (has_read words c.in_ok-main.main c.read_settings.new.settings.items c.in_ok-end.end c.requires c.in_ok-main.ensures.read read (omega (arith, long, length-map c.args.words.now string_bytes)))

pub returns-in_default-clause-only : goal.returns-in_default-clause-only
returns-in_default-clause-only c =
    let words = map string_bytes c.args.words.now in
    let read = subst (λ l. AreRead words 2 l c.read_settings.new.settings.items c.in_ok-end.end) c.new-settings.ensures.items c.in_ok-end.ensures in
    let long : length c.args.words.now ≤ c.in_ok-end.end = search rules in
    only_line words _ (subst (λ l. HasLine words (Run c.in_ok-main.main l 100_000)) (sym c.from_vec.ensures)
    (has_read words c.in_ok-main.main c.read_settings.new.settings.items c.in_ok-end.end c.requires c.in_ok-main.ensures.read read (omega (arith, long, length-map c.args.words.now string_bytes))))

pub returns-then-not-is_option-clause-refused : goal.returns-then-not-is_option-clause-refused
returns-then-not-is_option-clause-refused c =
    let words = map string_bytes c.args.words.now in
    let read = subst (λ l. AreRead words 2 l c.read_settings.new.settings.items c.in_ok-end.end) c.new-settings.ensures.items c.in_ok-end.ensures in
    let other : c.in-Some.word.now ≢ option_word = search rules in
    stops_word words c.in_ok-main.main c.read_settings.new.settings.items c.in_ok-end.end c.in-Some.word.now c.requires c.in_ok-main.ensures.read read (search rules) other

pub run_limited-requires : goal.run_limited-requires
run_limited-requires c =
    let words = map string_bytes c.args.words.now in
    let read = subst (λ l. AreRead words 2 l c.read_settings.new.settings.items c.in_ok-end.end) c.new-settings.ensures.items c.in_ok-end.ensures in
    let same : c.in-Some.word.now ≡ option_word = search rules in
    let there : slice_get words c.in_ok-end.end ≡ Some c.in-Some.word.now = search rules in
    let here = there ∙ ap Some same in
    is_set words c.in_ok-main.main c.read_settings.new.settings.items c.in_ok-end.end c.requires c.in_ok-main.ensures.read read here
