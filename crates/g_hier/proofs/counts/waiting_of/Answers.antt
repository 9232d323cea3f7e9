use Rattle.std.proofs.Common.{◌≡◌, ◌<◌, ℕ, length, get_or, sym, ap, arith}
use Rattle.g_hier.specs.declared.linked.Outline.{Outline}
use Rattle.g_hier.specs.Counts.{calls_to}
use Rattle.g_hier.proofs.Calls.{all_calls_more}
use Rattle.g_hier.proofs.counts.waiting_of.Goals as goal

pub loop-outline-preserved : goal.loop-outline-preserved
loop-outline-preserved c =
    let os = c.args.outlines.now in
    let i : ℕ = c.loop-outline.outline-index in
    let o : Outline = c.outline-item.result in
    let lt : i < length os = omega arith in
    let is : get_or os i o ≡ o = sym c.outline-item.is in
    record {
      len = let e = c.in_ok-await_calls.ensures.len in let f = c.loop-outline.invariant.len in omega (arith, e, f);
      waits = λ v below.
          let e = c.in_ok-await_calls.ensures.waiting v (let f = c.loop-outline.invariant.len in omega (arith, f, below)) in
          let f = c.loop-outline.invariant.waits v below in
          let g = all_calls_more v os i o lt in
          let h : calls_to v (get_or os i o).calls ≡ calls_to v o.calls = ap (λ (p : Outline). calls_to v p.calls) is in
          let k = ap (calls_to v) c.as_slice.ensures in
          omega (arith, e, f, g, h, k);
    }
