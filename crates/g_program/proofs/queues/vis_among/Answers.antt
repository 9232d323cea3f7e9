use Rattle.std.proofs.Common.{◌≡◌, ℕ, suc, ◌+◌, ◌||◌, List, ◌∷◌, drop, get_or, drop-cons, ap, sym, ◌∙◌, arith}
use Rattle.g_hier.specs.LinkOrder.{has_vi}
use Rattle.g_program.specs.Queues.{is_in}
use Rattle.g_program.proofs.QueueLemmas.{among_next}
use Rattle.g_program.proofs.queues.vis_among.Goals as goal

pub loop-vi-preserved : goal.loop-vi-preserved
loop-vi-preserved c = λ v.
    let i : ℕ = c.loop-vi.vi-index in
    let order : List ℕ = c.args.order.now in
    let x : ℕ = get_or order i 0 in
    let there : x ∷ drop (i + 1) order ≡ drop i order = (let e : i + 1 ≡ suc i = omega arith in ap (λ n. x ∷ drop n order) e) ∙ sym (drop-cons order i 0 c.loop-vi-test.true) in
    among_next x v (is_in c.loop-vi.vis v) (is_in c.insert.new.self v) (has_vi (drop (i + 1) order) v) (c.in_ok-_is_new.ensures.updates.0 v)
    ∙ ap (λ (vs : List ℕ). is_in c.loop-vi.vis v || has_vi vs v) there ∙ c.loop-vi.invariant v
