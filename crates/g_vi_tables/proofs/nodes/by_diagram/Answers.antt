use Rattle.std.proofs.Common.{◌≡◌, List, [], ◌++◌, map, sym, ap, ◌∙◌, arith}
use Rattle.std.specs.Vec.Iter.{into_iter_items}
use Rattle.std.proofs.lemmas.List.{append-nil}
use Rattle.g_diagram.specs.Lines as lines
use Rattle.g_diagram.specs.Lines.{nodes_of}
use Rattle.g_diagram_table.specs.declared.entry.Entry.{Entry}
use Rattle.g_diagram_table.specs.Seen.{seen}
use Rattle.g_vi_tables.specs.Tables.{nodes_at}
use Rattle.g_vi_tables.proofs.Growing.{none_left}
use Rattle.g_vi_tables.proofs.nodes.by_diagram.Goals as goal

pub returns-clause-nodes : goal.returns-clause-nodes
returns-clause-nodes c = λ d.
    let left : List Entry = into_iter_items c.loop-entry.entry-iterator in
    let kept : List lines.Entry = map seen (nodes_at c.loop-entry.nodes d) in
    let over = c.in-None.ensures.steps.0 in
    let len = c.loop-entry.invariant.len in
    let none : left ≡ [] = none_left left (omega (arith, over, len)) in
    sym (append-nil kept) ∙ ap (λ (es : List Entry). kept ++ nodes_of d (map seen es)) (sym none) ∙ c.loop-entry.invariant.nodes d
    ∙ ap (λ (es : List Entry). nodes_of d (map seen es)) c.into_iter-entry-iterator.ensures.into_iter_gives.0
