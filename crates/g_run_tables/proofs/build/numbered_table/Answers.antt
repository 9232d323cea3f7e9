use Rattle.std.proofs.Common.{List}
use Rattle.std.specs.Option.{option_copied}
use Rattle.std.proofs.lemmas.Result.{IfOk-weaker}
use Rattle.g_diagram.specs.declared.hierarchy.Vi.{Vi}
use Rattle.g_frames.specs.Program.{flat_vi}
use Rattle.g_vi_tables.specs.declared.table.ViTable.{ViTable}
use Rattle.g_vi_tables.specs.Tables.{IsViTable}
use Rattle.g_vi_tables.specs.Types.{types_of}
use Rattle.g_run_tables.specs.Types.{types_by}
use Rattle.g_run_tables.proofs.Tables.{told_table}
use Rattle.g_run_tables.proofs.build.numbered_table.Goals as goal

pub returns : goal.returns
returns c =
    let P : ViTable → Type 0 = λ table. (all : List Vi) → IsViTable (flat_vi all (types_of c.in_ok-types.types) c.args.vi.now) table in
    let Q : ViTable → Type 0 = λ table. (all : List Vi) → IsViTable (flat_vi all (types_by c.args.typed.now c.args.number) c.args.vi.now) table in
    IfOk-weaker c.vi_table.result P Q
    (λ table is all. told_table all c.args.vi.now c.in_ok-types.types (option_copied c.told_at.result) c.args.typed.now c.args.number table c.in_ok-types.ensures c.told_at.ensures (is all))
    c.vi_table.ensures
