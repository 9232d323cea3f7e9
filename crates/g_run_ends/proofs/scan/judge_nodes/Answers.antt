use Rattle.std.proofs.Common.{◌≡◌, List, length, subst, get_or, ◌≤◌, ◌<◌, drop}
use Rattle.g_frames.specs.declared.state.Progress.{Progress}
use Rattle.g_wire_values.specs.Wires.{reader}
use Rattle.g_diagram_table.specs.Seen.{seen}
use Rattle.g_run_ends.specs.Verdicts.{judged}
use Rattle.g_run_ends.proofs.ScanLemmas.{nodes_done, nodes_next, verdict_is}
use Rattle.g_run_ends.proofs.scan.judge_nodes.Goals as goal

pub returns-then-at-nodes : goal.returns-then-at-nodes
returns-then-at-nodes c = λ p are vi reads.
    nodes_done (judged p c.args.has_room c.args.state.now) c.args.number c.args.frame.now vi (drop c.loop-at.at c.args.entries.now) c.args.frame.now.nodes c.loop-at.at
    c.loop-at.verdicts.items _
    (subst (λ (qs : List Progress). length qs ≤ c.loop-at.at) c.as_slice-nodes.ensures c.if-at-nodes.true)
    (c.loop-at.invariant p are vi reads)

pub goes_on-requires : goal.goes_on-requires
goes_on-requires c = (c.requires.0, (c.requires.1.0, c.requires.1.1 c.args.number c.index-entries-at.result.line))

pub loop-at-preserved : goal.loop-at-preserved
loop-at-preserved c = λ p are vi reads.
    nodes_next (judged p c.args.has_room c.args.state.now) c.args.number c.args.frame.now vi c.args.entries.now c.args.frame.now.nodes c.loop-at.at
    c.index-entries-at.result c.index-nodes-at.result c.loop-at.verdicts.items c.push.new.self.items _
    (record { frame = c.args.number; node = c.index-entries-at.result.line; goes = c.in_ok-goes.goes; waits = c.is_waiting-waits.result })
    c.loop-at-test.true c.index-entries-at.is
    (subst (λ (qs : List Progress). c.loop-at.at < length qs) c.as_slice-nodes.ensures c.if-at-nodes.false)
    (subst (λ (qs : List Progress). c.index-nodes-at.result ≡ get_or qs c.loop-at.at c.index-nodes-at.result) c.as_slice-nodes.ensures c.index-nodes-at.is)
    c.in_ok-push.ensures.items
    (verdict_is p c.args.has_room c.args.state.now
    (record { number = c.args.number; frame = c.args.frame.now; vi = vi; entry = seen c.index-entries-at.result; progress = c.index-nodes-at.result })
    c.in_ok-goes.goes c.is_waiting-waits.result (reader c.args.wires.now) reads (c.in_ok-goes.ensures p are) (c.is_waiting-waits.ensures p are))
    (c.loop-at.invariant p are vi reads)
