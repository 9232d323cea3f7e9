use Rattle.std.proofs.Common.{◌≡◌, ap, sym, ◌∙◌, map, slice_get}
use Rattle.std.specs.Option.{option_map}
use Rattle.std.specs.String.{string_bytes}
use Rattle.std.proofs.lemmas.Option.{slice_get-map}
use Rattle.g_line.proofs.Stops.{stops_first, other_command}
use Rattle.g_line.proofs.reading.line.Goals as goal

pub returns-in_default-clause-refused : goal.returns-in_default-clause-refused
returns-in_default-clause-refused c =
    let words = c.args.words.now.items in
    let none = c.in_default.ensures.value ∙ ap (λ l. slice_get l 0) c.as_slice-words.ensures.value in
    stops_first (map string_bytes words) (λ w e line. let no_word = ap (option_map string_bytes) none ∙ sym (slice_get-map string_bytes words 0) ∙ e in absurd cc)

pub returns-in_default-as_str-clause-refused : goal.returns-in_default-as_str-clause-refused
returns-in_default-as_str-clause-refused c =
    let words = c.args.words.now.items in
    let first = c.in-Some.ensures.value ∙ ap (λ l. slice_get l 0) c.as_slice-words.ensures.value in
    stops_first (map string_bytes words) (λ w e.
    let same = ap (option_map string_bytes) first ∙ sym (slice_get-map string_bytes words 0) ∙ e in
    let word : string_bytes c.in-Some.command.now ≡ w = cc in
    other_command w (λ is. c.in_default-as_str.not-run (c.as_str.ensures.value ∙ word ∙ is)) (λ is. c.in_default-as_str.not-check (c.as_str.ensures.value ∙ word ∙ is)) (λ is. c.in_default-as_str.not-print (c.as_str.ensures.value ∙ word ∙ is)))
