use Rattle.std.proofs.Common.{ap, ◌∙◌, pos}
use Rattle.g_values.specs.Number.{num_of}
use Rattle.g_values.specs.Numbers.{word}
use Rattle.g_prims_edits.specs.Words.{result_word}
use Rattle.g_prims_edits.proofs.NumLemmas.{num_of_result}
use Rattle.g_prims_edits.proofs.words.combined_number.Goals as goal

pub returns : goal.returns
returns c =
    let o = c.args.operator in
    let r = c.args.rep in
    c.number_of_word.ensures
    ∙ ap (λ w. num_of r (pos w)) (c.combined_word.ensures ∙ ap (λ a. result_word o r a c.word_of-2.result) c.word_of.ensures ∙ ap (result_word o r (word c.args.x.n)) c.word_of-2.ensures)
    ∙ num_of_result o r c.args.x.n c.args.y.n
