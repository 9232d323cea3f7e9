use Rattle.g_infer.proofs.InferLemmas.{types_told}
use Rattle.g_infer.proofs.infer.listed_types.Goals as goal

pub returns : goal.returns
returns c = λ d name.
    types_told c.args.types (record { sources = c.in_ok-sources.sources; cases = c.in_ok-cases.cases; branches = c.in_ok-branches.branches }) c.in_ok-sources.ensures c.in_ok-cases.ensures c.in_ok-branches.ensures d name
