use Rattle.std.proofs.Common.{◌<◌, All, take, length}
use Rattle.g_hier.specs.declared.linked.CallLine.{CallLine}
use Rattle.g_hier.specs.declared.linked.Outline.{Outline}
use Rattle.g_hier.proofs.outlines.are_known.Given as goal

abbrev pub invariant-loop-outline : goal.invariant-loop-outline
invariant-loop-outline l = All (λ (o : Outline). All (λ (c : CallLine). c.vi < length l.outlines) o.calls) (take l.outline-index l.outlines)
