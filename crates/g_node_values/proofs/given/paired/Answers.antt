use Rattle.std.proofs.Common.{drop, length, sym, ◌∙◌}
use Rattle.g_node_values.proofs.GivenLemmas.{all_given}
use Rattle.g_node_values.proofs.given.paired.Goals as goal

pub returns : goal.returns
returns c =
    c.from_vec-2.ensures
    ∙ all_given c.loop-value.given.items (drop (length c.loop-value.given.items) c.args.places.now) c.loop-value.value-iterator.rest.items
    (sym c.loop-value.value-iterator.rest.ok.0 ∙ c.in-None.ensures.steps.0)
    ∙ c.loop-value.invariant
