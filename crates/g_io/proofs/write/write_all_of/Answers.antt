use Rattle.std.proofs.Common.{◌-◌, drop, length, arith, ◌∙◌, length-drop}
use Rattle.std.proofs.lemmas.List.{length-take}
use Rattle.std.proofs.KnownBytes.{Appends-trans}
use Rattle.g_io.proofs.Pieces.{take-grown}
use Rattle.g_io.proofs.write.write_all_of.Goals as goal

pub loop-written-preserved : goal.loop-written-preserved
loop-written-preserved g c =
    let wrote = Appends-trans _ _ _ _ _ c.loop-written.invariant.wrote c.in-Ok.ensures.bytes in
    record {
      later = omega (arith, c.in-Ok.ensures.cause.later, c.loop-written.invariant.later);
      kept = c.in-Ok.ensures.kept ∙ c.loop-written.invariant.kept;
      wrote = rw take-grown wrote;
      within = omega (arith, c.in-Ok.ensures.bound, length-take (length c.args.bytes.now - c.loop-written.written) (drop c.loop-written.written c.args.bytes.now), length-drop c.loop-written.written c.args.bytes.now);
    }
