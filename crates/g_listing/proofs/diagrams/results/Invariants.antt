use Rattle.std.proofs.Common.{◌≡◌, ◌≤◌, ◌+◌, drop}
use Rattle.g_listing_grammar.specs.Nodes.{results}
use Rattle.g_listing.proofs.diagrams.results.Given as goal

abbrev pub invariant-loop-line : goal.invariant-loop-line
invariant-loop-line l = record {
  few : l.count ≤ l.line-index;
  so_far : l.count + results (drop l.line-index l.lines) ≡ results l.lines;
}
