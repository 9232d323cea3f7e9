use Rattle.std.proofs.Common.{◌≡◌, ◌≤◌, ℕ, ◌-◌, List, length, map, take, drop, ap, ◌∙◌, subst, sym}
use Rattle.std.specs.List.Sorted.{IsNonDecreasingBy, IsPartitionPoint}
use Rattle.std.proofs.lemmas.List.Sorted.{IsNonDecreasingBy-drop}
use Rattle.std.proofs.Common.{ltb, true, false}
use Rattle.g_diagram_table.specs.declared.entry.Entry.{Entry}
use Rattle.g_diagram_table.specs.Seen.{seen}
use Rattle.g_vi_tables.proofs.Inside.{inside_is, rest_of}
use Rattle.g_vi_tables.proofs.table.between.Goals as goal

pub returns : goal.returns
returns c = λ rise.
    let es : List Entry = c.args.entries.now in
    let i : ℕ = c.count_to-first.result in
    let n : ℕ = c.count_before-count.result in
    let rest : List Entry = take (length es - i) (drop i es) in
    let same : rest ≡ drop i es = rest_of i es in
    let short : n ≤ length (drop i es) = subst (λ (xs : List Entry). n ≤ length xs) same c.count_before-count.ensures.bound in
    let rises : IsNonDecreasingBy (λ (e : Entry). e.line) rest =
    subst (IsNonDecreasingBy (λ (e : Entry). e.line)) (sym same) (IsNonDecreasingBy-drop (λ (e : Entry). e.line) i es rise) in
    let end : IsPartitionPoint (λ (e : Entry). ltb e.line c.args.finish ≡ true) (λ (e : Entry). ltb e.line c.args.finish ≡ false) (drop i es) n =
    subst (λ (xs : List Entry). IsPartitionPoint (λ (e : Entry). ltb e.line c.args.finish ≡ true) (λ (e : Entry). ltb e.line c.args.finish ≡ false) xs n) same (c.count_before-count.ensures.point rises) in
    ap (λ (xs : List Entry). map seen (take n xs)) same ∙ inside_is es i n c.args.body c.args.finish c.count_to-first.ensures.bound short (c.count_to-first.ensures.point rise) end
