use Rattle.std.proofs.Common.{◌≡◌, take, false}
use Rattle.std.specs.List.{list_any}
use Rattle.g_prims_definitions.specs.Kinds.{has_reference}
use Rattle.g_prims.proofs.kinds.+has_reference.Given as goal

abbrev pub invariant-some_reference-loop-i : goal.invariant-some_reference-loop-i
invariant-some_reference-loop-i l = list_any has_reference (take l.i l.items) ≡ false
