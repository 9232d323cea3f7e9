use Rattle.std.proofs.Common.{◌≡◌, ◌<◌, ◌≤◌, ◌==◌, ℕ, List, length, subst, arith}
use Rattle.std.specs.Prelude.{slice_index}
use Rattle.g_hier.specs.Counts.{one_if}
use Rattle.g_hier.specs.Settling.{times}
use Rattle.g_hier.proofs.CallsBack.{acyclic}
use Rattle.g_hier.proofs.SettlingSteps.{ready_below}
use Rattle.g_hier.proofs.SettlingEnds.{settling_start, settling_end}
use Rattle.g_hier.proofs.counts.count_spaces.Goals as goal

pub loop-vi-init : goal.loop-vi-init
loop-vi-init c =
    let B : List ℕ → Type 0 = λ ws. (v : ℕ) → v < length ws → times v c.in_ok-ready.ready.items ≡ one_if (slice_index ws v == 0) in
    let O : List ℕ → Type 0 = λ ws. (v : ℕ) → length ws ≤ v → times v c.in_ok-ready.ready.items ≡ 0 in
    settling_start c.args.outlines.now c.args.main c.in_ok-waiting.waiting.items c.in_ok-incoming.incoming.items c.in_ok-counts.counts.items c.in_ok-ready.ready.items
    c.in_ok-waiting.ensures.len c.in_ok-incoming.ensures.len c.in_ok-counts.ensures.len c.in_ok-waiting.ensures.waiting c.in_ok-incoming.ensures.zero c.in_ok-counts.ensures.zero
    (subst B c.as_slice.ensures.value c.in_ok-ready.ensures.below) (subst O c.as_slice.ensures.value c.in_ok-ready.ensures.beyond)

pub settle-requires-clause-below : goal.settle-requires-clause-below
settle-requires-clause-below c = ready_below c.args.outlines.now c.args.main c.loop-vi.waiting.items c.loop-vi.incoming.items c.loop-vi.counts.items c.loop-vi.ready.items c.pop.new.self.items c.in-Some.vi c.loop-vi.invariant c.in-Some.ensures.items

pub returns : goal.returns
returns c =
    let e : length c.loop-vi.ready.items ≡ 0 = omega (arith, c.in_default.ensures.cases.0) in
    settling_end c.args.outlines.now c.args.main c.loop-vi.waiting.items c.loop-vi.incoming.items c.loop-vi.counts.items c.loop-vi.ready.items (acyclic c.args.outlines.now c.requires.ends) c.loop-vi.invariant e
