use Rattle.std.proofs.Common.{◌≡◌, ◌∙◌, map, ap, sym, subst}
use Rattle.std.proofs.lemmas.Simd.{map-map}
use Rattle.std.specs.Fmt.{signed_decimal}
use Rattle.g_values.specs.Numbers.{Numbers, number}
use Rattle.g_valtext.specs.Words.{word_text}
use Rattle.g_valtext.specs.Spellings.{is_within}
use Rattle.g_valtext.proofs.Ranged.{words_fit}
use Rattle.std.specs.List.{list_all}
use Rattle.std.specs.Prelude.{true}
use Rattle.g_valtext.proofs.print.push_numbers.Goals as goal

pub returns-clause-text : goal.returns-clause-text
returns-clause-text c =
    let kept = c.numbers.inside in
    let all : map signed_decimal c.args.numbers.now.all ≡ map (word_text kept.rep) kept.words.items = ap (λ (n : Numbers). map signed_decimal n.all) (sym c.numbers.view_is) ∙ map-map signed_decimal (number kept.rep) kept.words.items in
    rw (all, ← c.as_slice.ensures.value) c.push_words.ensures

pub returns-clause-ranged : goal.returns-clause-ranged
returns-clause-ranged c =
    let kept = c.numbers.inside in
    subst (λ (n : Numbers). list_all (is_within n.rep) n.all ≡ true) c.numbers.view_is (words_fit kept.rep kept.words.items)
