use Rattle.g_run_tables.proofs.Programs.{has_program, is_table_of}
use Rattle.g_run_tables.proofs.build.run_tables.Goals as goal

pub returns-clause-program : goal.returns-clause-program
returns-clause-program c =
    has_program c.args.h.now c.args.typed.now c.args.linked.now c.as_slice.result.now c.as_slice-2.result.now c.in_ok-vis.vis.items c.requires.typed c.as_slice.ensures c.as_slice-2.ensures
    (c.in_ok-vis.ensures c.args.h.now.vis) c.program_tables.result c.program_tables.ensures

pub returns-clause-tables : goal.returns-clause-tables
returns-clause-tables c =
    is_table_of c.args.h.now c.args.typed.now c.args.linked.now c.as_slice.result.now c.as_slice-2.result.now c.in_ok-vis.vis.items c.requires.typed c.as_slice.ensures c.as_slice-2.ensures
    (c.in_ok-vis.ensures c.args.h.now.vis) c.program_tables.result c.program_tables.ensures
