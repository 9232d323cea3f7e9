use Rattle.std.proofs.Common.{ap, ◌∙◌, arith, map}
use Rattle.std.proofs.lemmas.List.{take_at}
use Rattle.g_arrays.specs.Lanes.{with_word}
use Rattle.g_arrays.proofs.words.each_into.Goals as goal

pub returns : goal.returns
returns c =
    let f = with_word c.args.operator c.args.rep c.args.before c.args.by in
    take_at c.each_word.new.into _ _ (omega arith)
    ∙ c.each_word.ensures
    ∙ ap (map f) c.as_mut_slice.ensures.value
