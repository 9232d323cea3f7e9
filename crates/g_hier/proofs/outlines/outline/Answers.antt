use Rattle.std.proofs.Common.{◌<◌, ◌++◌, ℕ, length, map, take, get_or, ap, sym, ◌∙◌, arith}
use Rattle.std.proofs.lemmas.List.{map_more}
use Rattle.g_hier.specs.Outlines.{call_on, calls_on}
use Rattle.g_diagram_table.specs.declared.entry.Entry.{Entry}
use Rattle.g_diagram_table.specs.Seen.{seen, seen_kind}
use Rattle.g_hier.proofs.Names.{calls_push}
use Rattle.g_hier.proofs.outlines.outline.Goals as goal

pub loop-entry-preserved : goal.loop-entry-preserved
loop-entry-preserved c =
    let vis = c.args.vis.now in
    let xs = c.as_slice-entry-items.result.now in
    let i : ℕ = c.loop-entry.entry-index in
    let e : Entry = c.entry-item.result in
    let lt : i < length xs = omega arith in
    c.in_ok-push_call.ensures
    ∙ ap (λ cs. cs ++ call_on vis e.line (seen_kind e.kind)) c.loop-entry.invariant
    ∙ ap (λ (y : Entry). calls_on vis (map seen (take i xs)) ++ call_on vis y.line (seen_kind y.kind)) c.entry-item.is
    ∙ sym (calls_push vis (map seen (take i xs)) (seen (get_or xs i e)))
    ∙ ap (calls_on vis) (sym (map_more seen xs i e lt))
