use Rattle.std.proofs.Common.{map}
use Rattle.g_diagram_table.specs.Seen.{seen}
use Rattle.g_rules_types.specs.Known.{types_of}
use Rattle.g_rules_types.specs.Panels.{callees_in, objects_in}
use Rattle.g_infer.proofs.InferLemmas.{typing_told, breaks_told}
use Rattle.g_infer.proofs.infer.infer_wires.Goals as goal

pub returns : goal.returns
returns c = record {
  typing = typing_told (callees_in c.args.panels.now) c.args.panel.now (map seen c.args.entries.now) c.in_ok-found.found (types_of c.in_ok-types.types) c.in_ok-found.ensures c.in_ok-types.ensures;
  breaks = breaks_told (callees_in c.args.panels.now) (objects_in c.args.objects.now) c.args.panel.now (map seen c.args.entries.now) c.in_ok-found.found (types_of c.in_ok-types.types) c.args.number
      c.args.breaks.now.items c.push_type_breaks.new.breaks.items c.requires.objects c.in_ok-found.ensures c.in_ok-push_type_breaks.ensures;
}
