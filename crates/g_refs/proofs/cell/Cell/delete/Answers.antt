use Rattle.g_refs.proofs.Holds.{content_spelled}
use Rattle.g_refs.proofs.cell.Cell.delete.Goals as goal

pub two_values-requires-clause-first : goal.two_values-requires-clause-first
two_values-requires-clause-first c = c.in_ok-value.ensures.proper (content_spelled c.self.inside.content c.self.inside.kept c.self.invariant)
