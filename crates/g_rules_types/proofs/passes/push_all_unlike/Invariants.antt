use Rattle.std.proofs.Common.{◌≡◌, ◌++◌, drop, map}
use Rattle.g_diagram_table.specs.Seen.{seen}
use Rattle.g_typing.specs.Assigned.{unassignable}
use Rattle.g_rules_types.specs.Known.{types_of}
use Rattle.g_rules_types.specs.Panels.{callees_in, objects_in}
use Rattle.g_rules_types.proofs.passes.push_all_unlike.Given as goal

abbrev pub invariant-loop-entry : goal.invariant-loop-entry
invariant-loop-entry l = l.places.items ++ unassignable (callees_in l.panels) (objects_in l.objects) (types_of l.types) l.vi (map seen (drop l.entry-index l.entries)) ≡ l.fn.places.items ++ unassignable (callees_in l.panels) (objects_in l.objects) (types_of l.types) l.vi (map seen l.entries)
