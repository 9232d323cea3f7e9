use Rattle.std.proofs.Common.{◌≡◌, ℕ, ◌+◌, length, ap, ◌∙◌, refl, subst, arith}
use Rattle.std.proofs.lemmas.Option.{slice_get_read}
use Rattle.g_typing.specs.Typing.{called_panel}
use Rattle.g_infer.specs.Inferred.{Inferred}
use Rattle.g_rules_types.specs.Panels.{callees_in, or_nothing}
use Rattle.g_infer.proofs.InferLemmas.{callees_same, inferred_none, inferred_next, typable_by}
use Rattle.g_infer.proofs.infer.infer_vis.Goals as goal

pub infer_vi-requires : goal.infer_vi-requires
infer_vi-requires c =
    typable_by (callees_in c.in_ok-known.known) c.args.vis.now c.vi-item.result (callees_same (callees_in c.in_ok-known.known) c.args.vis.now (λ name. ap or_nothing (c.in_ok-known.ensures name)))
    (c.requires c.loop-vi.vi-index c.vi-item.result (slice_get_read c.args.vis.now (length c.args.vis.now) c.loop-vi.vi-index c.vi-item.result refl c.loop-vi-test.true c.vi-item.is))

pub loop-vi-init : goal.loop-vi-init
loop-vi-init c = record {
  number = refl;
  inferred = inferred_none (called_panel c.args.vis.now) c.args.vis.now c.new.result.items c.new-2.result.items c.new.ensures.items c.new-2.ensures.items;
}

pub loop-vi-preserved : goal.loop-vi-preserved
loop-vi-preserved c = record {
  number = c.in_ok-number.ensures ∙ ap (λ (n : ℕ). n + 1) c.loop-vi.invariant.number;
  inferred = inferred_next (callees_in c.in_ok-known.known) c.args.vis.now c.loop-vi.vi-index c.loop-vi.number c.vi-item.result c.in_ok-types.types c.loop-vi.found.vis.items c.push.new.self.items
      c.loop-vi.found.breaks.items c.infer_vi.new.breaks.items (callees_same (callees_in c.in_ok-known.known) c.args.vis.now (λ name. ap or_nothing (c.in_ok-known.ensures name))) c.loop-vi.invariant.number
      (slice_get_read c.args.vis.now (length c.args.vis.now) c.loop-vi.vi-index c.vi-item.result refl c.loop-vi-test.true c.vi-item.is) c.loop-vi.invariant.inferred c.in_ok-push.ensures.items
      c.in_ok-types.ensures.typing c.in_ok-types.ensures.breaks;
}

pub returns : goal.returns
returns c =
    let P : ℕ → Type 0 = λ n. Inferred (called_panel c.args.vis.now) c.args.vis.now n c.loop-vi.found.vis.items c.loop-vi.found.breaks.items in
    let end : c.loop-vi.vi-index ≡ length c.args.vis.now = omega (arith, c.loop-vi-test.false, c.loop-vi.auto.vi-index-end) in
    subst P end c.loop-vi.invariant.inferred
