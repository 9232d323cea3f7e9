use Rattle.std.specs.Prelude.{None}
use Rattle.std.proofs.Common.{◌≡◌, ◌++◌, drop, map}
use Rattle.g_diagram_table.specs.Seen.{seen_part}
use Rattle.g_infer.specs.Given.{seen_given}
use Rattle.g_rules_types.specs.Known.{types_of}
use Rattle.g_typing.specs.Typing.{parts_given}
use Rattle.g_infer.proofs.giving.push_parts.Given as goal

abbrev pub invariant-loop-part : goal.invariant-loop-part
invariant-loop-part l =
    map seen_given l.givens.items ++ parts_given (types_of l.types) l.outside l.before (map seen_part (drop l.part-index l.parts))
    ≡ map seen_given l.fn.givens.items ++ parts_given (types_of l.types) l.outside None (map seen_part l.parts)
