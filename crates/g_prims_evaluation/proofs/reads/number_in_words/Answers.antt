use Rattle.std.proofs.Common.{◌∙◌, ap, length}
use Rattle.g_values.specs.declared.value.Value.TheVariants as value
use Rattle.g_prims_evaluation.proofs.ReadLemmas.{is_below, is_past, there, past}
use Rattle.g_prims_evaluation.proofs.reads.number_in_words.Goals as goal

pub returns-in-Some : goal.returns-in-Some
returns-in-Some c =
    ap value.Num c.number_of_word.ensures
    ∙ there c.args.rep c.args.words.now c.args.at c.in-Some.word.now _ (is_below c.args.at (length c.args.words.now) c.in-Some.ensures.lookup.0) c.in-Some.ensures.lookup.1

pub returns-in-None : goal.returns-in-None
returns-in-None c =
    ap value.Num c.wrapped.ensures
    ∙ past c.args.rep c.args.words.now c.args.at (is_past c.args.at (length c.args.words.now) c.in-None.ensures.lookup.0)
