use Rattle.std.proofs.Common.{List, ◌++◌, ap, sym, ◌∙◌}
use Rattle.std.specs.Prelude.{None}
use Rattle.std.proofs.lemmas.Result.{on_ok_weaker}
use Rattle.g_hier.specs.declared.linked.Space.{Space}
use Rattle.g_frames.specs.State.{first_panels}
use Rattle.g_start.proofs.StartLemmas.{all_panels}
use Rattle.g_start.proofs.panels.push_panels.Goals as goal

pub returns : goal.returns
returns c =
    let spaces : List Space = c.spaces-spaces.result.now in
    let none : Space = record { vi = 0; clone = 0; caller = None } in
    on_ok_weaker c.push_other_panels.result
    (λ rest p are. all_panels p c.args.controls spaces none c.panel_of.result.now c.args.objects.now.items c.push_panel.new.objects.items c.push_other_panels.new.objects.items
    (sym c.if-is_empty.ensures) (c.panel_of.ensures p are) c.in_ok-push_panel.ensures (rest p are)
    ∙ ap (λ (ss : List Space). c.args.objects.now.items ++ first_panels p c.args.controls 0 ss) (c.spaces-spaces.ensures p are))
    c.push_other_panels.ensures
