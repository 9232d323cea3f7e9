use Rattle.std.proofs.Common.{◌≡◌, ℕ, ◌+◌, length, take}
use Rattle.std.specs.List.{list_any}
use Rattle.g_graph.specs.Graph.{has_edge, InRange}
use Rattle.g_wires.specs.Marks.{is_edge}
use Rattle.g_wires.proofs.edges.graph_of.Given as goal

abbrev pub invariant-loop-port : goal.invariant-loop-port
invariant-loop-port l = record {
  len : length l.graph.items ≡ l.lines + l.count;
  in_range : InRange l.graph.items;
  edges : (a b : ℕ) → has_edge l.graph.items a b ≡ list_any (is_edge l.lines a b) (take l.port-index l.ports);
}
