use Rattle.std.proofs.Common.{ℕ, ◌+◌, Bool, List, ◌++◌, ◌∷◌, [], length, map, ap, sym, ◌∙◌}
use Rattle.std.specs.Prelude.{if◌then◌else◌, Option, Some}
use Rattle.g_diagram_table.specs.Seen as table
use Rattle.g_diagram_ports.specs.Branches.{CaseLines, case_at, line_at}
use Rattle.g_diagram_ports.specs.Tunnels.{is_arm, named_line}
use Rattle.g_diagram_ports.proofs.BranchLemmas.{look_pushed, all_new}
use Rattle.g_diagram_ports.proofs.branches.add_case.Goals as goal

pub returns-clause-look : goal.returns-clause-look
returns-clause-look c = λ d name.
    let cases : List CaseLines = c.args.known.now.cases.items in
    let more : List CaseLines = cases ++ c.in_ok-names.names ∷ [] in
    let arm : Bool = is_arm (map table.seen_arm c.args.arms.now) d in
    let old : Option ℕ = case_at c.args.known.now.branches d in
    ap (λ (cs : List CaseLines). line_at cs (case_at c.add_branches.new.branches d) name) c.in_ok-push.ensures.items
    ∙ ap (λ (o : Option ℕ). line_at more o name) (c.in_ok-add_branches.ensures d)
    ∙ ap (λ (k : ℕ). line_at more (if arm then Some k else old) name) (ap length c.as_slice-case.ensures.value)
    ∙ look_pushed cases c.in_ok-names.names old arm name (named_line (c.args.line + 1) c.args.lines.now name)
    (c.in_ok-names.ensures name ∙ ap (λ l. named_line l c.args.lines.now name) c.in_ok-next.ensures) (λ k e. c.requires d k e)

pub returns-clause-new : goal.returns-clause-new
returns-clause-new c = λ d any. all_new c.args.known.now.branches c.args.arms.now d (sym c.are_new.ensures ∙ c.if-not-are_new.false) any
