use Rattle.std.proofs.Common.{rules, leb}
use Rattle.std.proofs.lemmas.List.Sorted.{IsPartitionPoint-from_clause, IsPartitionedBy-leb}
use Rattle.g_diagram_table.specs.declared.entry.Entry.{Entry}
use Rattle.g_vi_tables.proofs.table.count_to.Goals as goal

pub returns-clause-point : goal.returns-clause-point
returns-clause-point c = λ rise.
    IsPartitionPoint-from_clause (λ (e : Entry). leb e.line c.args.line) _ _ c.partition_point.ensures.partitioned (IsPartitionedBy-leb (λ (e : Entry). e.line) c.args.entries.now c.args.line rise)
    (λ a r q k. search rules)
