use Rattle.std.proofs.Common.{sym}
use Rattle.std.specs.Prelude.{Some, None}
use Rattle.g_frames.specs.State.{nodes_in}
use Rattle.g_diagram_table.specs.Seen.{seen}
use Rattle.g_firing.proofs.StandingLemmas.{no_place, no_entry, no_node, node_is, entries_get}
use Rattle.g_firing.proofs.standing.node_in.Goals as goal

pub returns-in-None : goal.returns-in-None
returns-in-None c vi is = no_place c.args.line (nodes_in vi c.args.frame.now.diagram) c.args.frame.now.nodes (c.in-None.ensures vi is)

pub returns-in-None-entry_at : goal.returns-in-None-entry_at
returns-in-None-entry_at c vi is =
    no_entry c.args.line (nodes_in vi c.args.frame.now.diagram) c.args.frame.now.nodes c.in-Some.at (c.in-Some.ensures vi is)
    (entries_get c.entries.result.now (nodes_in vi c.args.frame.now.diagram) c.in-Some.at None (c.entries.ensures vi is) c.in-None-entry_at.ensures)

pub returns-in-Some-get : goal.returns-in-Some-get
returns-in-Some-get c vi is =
    node_is c.args.line (nodes_in vi c.args.frame.now.diagram) c.args.frame.now.nodes c.in-Some.at (seen c.in-Some-entry_at.entry.now) c.in-Some-get.progress.now
    (c.in-Some.ensures vi is)
    (entries_get c.entries.result.now (nodes_in vi c.args.frame.now.diagram) c.in-Some.at (Some c.in-Some-entry_at.entry.now) (c.entries.ensures vi is) c.in-Some-entry_at.ensures)
    (sym c.in-Some-get.ensures.value)

pub returns-in-None-get : goal.returns-in-None-get
returns-in-None-get c vi is =
    no_node c.args.line (nodes_in vi c.args.frame.now.diagram) c.args.frame.now.nodes c.in-Some.at (c.in-Some.ensures vi is) (sym c.in-None-get.ensures.value)
