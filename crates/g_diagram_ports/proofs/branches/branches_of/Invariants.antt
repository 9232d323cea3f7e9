use Rattle.std.proofs.Common.{◌≡◌, ℕ, List, map, drop}
use Rattle.g_diagram_table.specs.Seen as table
use Rattle.g_diagram_ports.specs.Branches.{AreNumbered, is_branch, look_in}
use Rattle.g_diagram_ports.specs.Tunnels.{HaveOwnBranches, look_after, no_branch, nowhere}
use Rattle.g_diagram_ports.proofs.branches.branches_of.Given as goal

abbrev pub invariant-loop-entry : goal.invariant-loop-entry
invariant-loop-entry l = record {
  numbered : AreNumbered l.known;
  look : (d : ℕ) (name : List ℕ) → look_after (look_in l.known) (map table.seen (drop l.entry-index l.entries)) d name ≡ look_after nowhere (map table.seen l.entries) d name;
  own : HaveOwnBranches (is_branch l.known) (map table.seen (drop l.entry-index l.entries)) → HaveOwnBranches no_branch (map table.seen l.entries);
}
