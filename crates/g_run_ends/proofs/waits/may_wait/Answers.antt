use Rattle.std.proofs.Common.{ℕ, List, ap, sym, ◌∙◌}
use Rattle.g_diagram.specs.Lines as lines
use Rattle.g_diagram_table.specs.declared.entry.Kind.{Kind}
use Rattle.g_diagram_table.specs.Seen.{seen_kind}
use Rattle.g_frames.specs.Run as spec
use Rattle.g_run_ends.proofs.waits.may_wait.Goals as goal

pub returns-in-Shared : goal.returns-in-Shared
returns-in-Shared c = λ p are.
    c.is_queued.ensures p c.in-Shared.inputs.now c.in-Shared.outputs.now c.args.progress.now
    ∙ ap (λ (k : Kind). spec.may_wait p (seen_kind k) c.args.progress.now) (sym c.in-Shared.is)

pub returns-in-Call : goal.returns-in-Call
returns-in-Call c = λ p are.
    c.is_call_waiting.ensures p are c.in-Call.inputs.now c.in-Call.outputs.now
    ∙ ap (λ (name : List ℕ). spec.may_wait p (lines.Call name c.in-Call.inputs.now c.in-Call.outputs.now) c.args.progress.now) c.as_slice.ensures
    ∙ ap (λ (k : Kind). spec.may_wait p (seen_kind k) c.args.progress.now) (sym c.in-Call.is)
