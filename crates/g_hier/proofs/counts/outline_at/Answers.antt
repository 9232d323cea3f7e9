use Rattle.std.proofs.Common.{length, refl, arith}
use Rattle.std.proofs.lemmas.Option.{slice_get_read}
use Rattle.g_hier.proofs.counts.outline_at.Goals as goal

pub returns : goal.returns
returns c = slice_get_read c.args.outlines.now (length c.args.outlines.now) c.args.vi c.index-outlines-vi.result refl (omega arith) c.index-outlines-vi.is
