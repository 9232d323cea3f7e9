use Rattle.std.specs.Prelude.{None}
use Rattle.std.proofs.Common.{◌≡◌, ◌++◌, drop, map}
use Rattle.g_diagram_table.specs.Seen.{seen_part}
use Rattle.g_infer.specs.Steps.{seen_step, parts_forms}
use Rattle.g_infer.proofs.steps.push_parts.Given as goal

abbrev pub invariant-loop-part : goal.invariant-loop-part
invariant-loop-part l =
    map seen_step l.steps.items ++ parts_forms l.outer l.before (map seen_part (drop l.part-index l.parts))
    ≡ map seen_step l.fn.steps.items ++ parts_forms l.outer None (map seen_part l.parts)
