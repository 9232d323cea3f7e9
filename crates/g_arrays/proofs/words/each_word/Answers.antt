use Rattle.std.proofs.Common.{◌≡◌, ◌≤◌, length, drop, ap, ◌∙◌, sym, arith, set, length-take, length-drop}
use Rattle.std.specs.Simd.Lanes.{chunk, put_chunk}
use Rattle.g_arrays.specs.Lanes.{with_word}
use Rattle.g_arrays.proofs.Loops.{alone, block_step, one_step, all_done, map-is_zip2}
use Rattle.g_arrays.proofs.words.each_word.Goals as goal

pub loop-at-preserved : goal.loop-at-preserved
loop-at-preserved c =
    let f = with_word c.args.operator c.args.rep c.args.before c.args.by in
    let xs = c.args.into.now in
    let into = c.loop-at.into in
    let at = c.loop-at.at in
    let same : length into ≡ length xs = omega arith in
    let long : length (chunk at 8 into) ≤ length (chunk at 8 xs) = omega (arith, length-take 8 (drop at into), length-take 8 (drop at xs), length-drop at into, length-drop at xs) in (
      omega arith,
      c.each_block.ensures
          ∙ ap (put_chunk at into) (sym (map-is_zip2 f (chunk at 8 into) (chunk at 8 xs) long))
          ∙ block_step (alone f) xs xs into 8 at (omega arith) (omega arith) c.loop-at.invariant.1,
    )

pub loop-at-2-preserved : goal.loop-at-2-preserved
loop-at-2-preserved c =
    let f = with_word c.args.operator c.args.rep c.args.before c.args.by in
    (omega arith, ap (set c.loop-at-2.into c.loop-at-2.at) c.one_word.ensures ∙ one_step (alone f) c.args.into.now c.args.into.now c.loop-at-2.into c.loop-at-2.at 0 0 (omega arith) (omega arith) c.loop-at-2.invariant.1)

pub returns : goal.returns
returns c =
    let f = with_word c.args.operator c.args.rep c.args.before c.args.by in
    let xs = c.args.into.now in
    c.loop-at-2.invariant.1 ∙ all_done (alone f) xs xs c.loop-at-2.at (omega arith) (omega arith) ∙ map-is_zip2 f xs xs (omega arith)
