use Rattle.std.proofs.Common.{◌≡◌, ℕ, ◌+◌, List, ◌∷◌, drop, map, ap, sym, ◌∙◌}
use Rattle.std.proofs.lemmas.List.{at_drop_more}
use Rattle.g_diagram.specs.Lines as lines
use Rattle.g_diagram_table.specs.declared.entry.Entry.{Entry}
use Rattle.g_diagram_table.specs.Seen.{seen}
use Rattle.g_diagram_ports.specs.Branches.{is_branch, look_in}
use Rattle.g_diagram_ports.specs.Tunnels.{look_after, nowhere}
use Rattle.g_diagram_ports.proofs.BranchLemmas.{looks_more, own_more}
use Rattle.g_diagram_ports.proofs.branches.branches_of.Goals as goal

pub loop-entry-preserved : goal.loop-entry-preserved
loop-entry-preserved c =
    let es : List Entry = c.args.entries.now in
    let i : ℕ = c.loop-entry.entry-index in
    let e : Entry = c.entry-item.result in
    let rest : List lines.Entry = map seen (drop (i + 1) es) in
    let is : map seen (drop i es) ≡ seen e ∷ rest = at_drop_more (map seen) es i e c.loop-entry-test.true ∙ ap (λ y. map seen (y ∷ drop (i + 1) es)) (sym c.entry-item.is) in
    record {
      numbered = c.in_ok-add_entry.ensures.numbered;
      look = looks_more (map seen (drop i es)) rest (seen e) (look_in c.loop-entry.known) (look_in c.add_entry.new.known) (look_after nowhere (map seen es)) is
          c.in_ok-add_entry.ensures.look c.loop-entry.invariant.look;
      own = own_more (map seen (drop i es)) rest (seen e) (is_branch c.loop-entry.known) (is_branch c.add_entry.new.known) is c.in_ok-add_entry.ensures.branches
          c.in_ok-add_entry.ensures.new c.loop-entry.invariant.own;
    }
