use Rattle.g_runs.proofs.scan.find_on_line.Goals as goal

pub can_fire-requires : goal.can_fire-requires
can_fire-requires c = let r = c.requires in (r.0, (r.1.0, r.1.1 c.args.frame c.args.entry.now.line))
