use Rattle.std.proofs.Common.{rules, ◌≡◌, ◌++◌, List, reverse, length, ap, sym, ◌∙◌, subst, arith}
use Rattle.std.specs.BTreeSet.{contains}
use Rattle.g_hier.specs.declared.linked.Placed.{Placed}
use Rattle.g_hier.specs.Outlines.{calls_at}
use Rattle.g_hier.specs.LinkOrder.{entered_by, has_met}
use Rattle.g_hier.specs.Walking.{space_cmp, Continues}
use Rattle.g_hier.proofs.Walks.{walk_start, walk_more, walk_end, met_more, unmet_same}
use Rattle.g_hier.proofs.spaces.spaces_of.Goals as goal

pub loop-turn-init : goal.loop-turn-init
loop-turn-init c =
    let os = c.args.outlines.now in
    let P : List Placed → Type 0 = λ ms. Continues os c.args.main ms (reverse c.in_ok-pending.pending.items) in
    record {
      walked = subst P (sym c.new-met.ensures.items) (walk_start os c.args.main c.in_ok-pending.pending.items c.in_ok-pending.ensures);
      seen = λ s. search rules;
      long = ap length c.new-met.ensures.items;
    }

pub loop-turn-preserved : goal.loop-turn-preserved
loop-turn-preserved c =
    let os = c.args.outlines.now in
    let met = c.loop-turn.met.items in
    let p : Placed = c.in-Some.placed in
    let long : c.len.result ≡ length met = omega arith in
    let P : List Placed → Type 0 = λ ms. Continues os c.args.main ms (reverse c.push_entered.new.pending.items) in
    record {
      walked = subst P (sym c.in_ok-push-in-Some.ensures.items)
          (walk_more os c.args.main met c.loop-turn.pending.items c.next_unmet.new.pending.items c.push_entered.new.pending.items p
          c.loop-turn.invariant.walked
          (sym (unmet_same (λ s. contains space_cmp c.loop-turn.seen s) (has_met met) c.loop-turn.invariant.seen (reverse c.loop-turn.pending.items)) ∙ c.in-Some.ensures)
          (c.in_ok-push_entered-in-Some.ensures ∙ ap (λ n. c.next_unmet.new.pending.items ++ reverse (entered_by os n p.system (calls_at os p.space.vi))) long));
      seen = λ s. met_more met p c.loop-turn.seen c.insert.new.self c.in_ok-_is_new-in-Some.ensures.updates c.loop-turn.invariant.seen s
          ∙ ap (λ ms. has_met ms s) (sym c.in_ok-push-in-Some.ensures.items);
      long = let e = c.in_ok-push-in-Some.ensures.len in let f = c.loop-turn.invariant.long in omega (arith, e, f);
    }

pub returns-in-None : goal.returns-in-None
returns-in-None c =
    walk_end c.args.outlines.now c.args.main c.loop-turn.met.items c.loop-turn.pending.items c.loop-turn.invariant.walked
    (sym (unmet_same (λ s. contains space_cmp c.loop-turn.seen s) (has_met c.loop-turn.met.items) c.loop-turn.invariant.seen (reverse c.loop-turn.pending.items)) ∙ c.in-None.ensures)
