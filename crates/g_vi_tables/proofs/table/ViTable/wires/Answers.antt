use Rattle.g_vi_tables.proofs.table.ViTable.wires.Goals as goal

pub returns : goal.returns
returns c = λ vi is. c.names.ensures vi is c.args.values.now
