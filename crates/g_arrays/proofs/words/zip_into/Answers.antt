use Rattle.std.proofs.Common.{ap, ◌∙◌, arith}
use Rattle.std.proofs.lemmas.List.{take_at}
use Rattle.std.specs.Simd.Lanes.{zip2}
use Rattle.g_prims_edits.specs.Words.{result_word}
use Rattle.g_arrays.proofs.Loops.{zip2-take}
use Rattle.g_arrays.proofs.words.zip_into.Goals as goal

pub returns : goal.returns
returns c =
    let other = c.args.other.now in
    let f = result_word c.args.operator c.args.rep in
    let cut = c.as_mut_slice.ensures.value ∙ c.truncate.ensures.items in
    take_at c.zip_words.new.into _ _ (omega arith)
    ∙ c.zip_words.ensures
    ∙ ap (λ l. zip2 f l other) cut
    ∙ zip2-take f c.args.words.now.items other
