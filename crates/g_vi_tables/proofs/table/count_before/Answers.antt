use Rattle.std.proofs.Common.{rules, ltb}
use Rattle.std.proofs.lemmas.List.Sorted.{IsPartitionPoint-from_clause, IsPartitionedBy-ltb}
use Rattle.g_diagram_table.specs.declared.entry.Entry.{Entry}
use Rattle.g_vi_tables.proofs.table.count_before.Goals as goal

pub returns-clause-point : goal.returns-clause-point
returns-clause-point c = λ rise.
    IsPartitionPoint-from_clause (λ (e : Entry). ltb e.line c.args.line) _ _ c.partition_point.ensures.partitioned (IsPartitionedBy-ltb (λ (e : Entry). e.line) c.args.entries.now c.args.line rise)
    (λ a r q k. search rules)
