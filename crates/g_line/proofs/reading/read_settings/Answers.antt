use Rattle.std.proofs.Common.{◌≡◌, ◌++◌, ◌∷◌, [], ap, sym, ◌∙◌, refl, subst, append_assoc, map, Some, slice_get, length, arith, rules}
use Rattle.std.specs.Option.{option_map}
use Rattle.std.specs.String.{string_bytes}
use Rattle.std.proofs.lemmas.List.{length-map}
use Rattle.std.proofs.lemmas.Option.{slice_get-map, slice_get_read}
use Rattle.g_line.specs.Forms.{setting_word}
use Rattle.g_line.specs.Reading.{AreSettings}
use Rattle.g_line.proofs.Arguments.{settings_more, all_read}
use Rattle.g_line.proofs.reading.read_settings.Goals as goal

pub loop-at-preserved : goal.loop-at-preserved
loop-at-preserved c =
    let words = c.args.words.now in
    let at = c.loop-at.at in
    let added = c.loop-at.invariant.0 in
    let read = rw c.in-Some.is at c.in_ok-setting.ensures in
    let word = slice_get_read words _ at c.index-words-at.result refl (omega arith) c.index-words-at.is in
    let here : slice_get (map string_bytes words) at ≡ Some (setting_word c.in-Some.setting) =
    slice_get-map string_bytes words at ∙ ap (option_map string_bytes) word ∙ ap Some (sym c.as_str.ensures.value ∙ read.2) in
    let pushed : c.push.new.self.items ≡ c.loop-at.settings.items ++ c.in-Some.setting ∷ [] = search rules in (
      added ++ c.in-Some.setting ∷ [],
      (
        pushed ∙ ap (λ l. l ++ c.in-Some.setting ∷ []) c.loop-at.invariant.1.0 ∙ append_assoc c.args.settings.now.items added (c.in-Some.setting ∷ []),
        settings_more (map string_bytes words) c.args.first at added c.in-Some.setting c.loop-at.invariant.1.1 read.0 here read.1,
      ),
    )

pub returns : goal.returns
returns c =
    let words = c.args.words.now in
    let n = length-map words string_bytes in
    all_read (map string_bytes words) c.args.first c.args.settings.now.items c.loop-at.settings.items c.loop-at.invariant.0 (length words) c.loop-at.invariant.1.0 (subst (λ n. AreSettings (map string_bytes words) c.args.first n c.loop-at.invariant.0) (search rules) c.loop-at.invariant.1.1) n
