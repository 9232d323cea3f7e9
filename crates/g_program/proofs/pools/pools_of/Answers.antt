use Rattle.std.proofs.Common.{ℕ, List, ◌++◌, ◌∷◌, [], ◌==◌, ◌&&◌, not, ap, sym, ◌∙◌}
use Rattle.std.specs.Prelude.{if◌then◌else◌}
use Rattle.std.proofs.lemmas.List.{append-nil}
use Rattle.g_diagram.specs.declared.hierarchy.Clones.{Clones}
use Rattle.g_frames.specs.Program.{FlatVi, takes_clone}
use Rattle.g_program.specs.Pools.{pooled}
use Rattle.g_program.specs.Queues.{is_in}
use Rattle.g_program.proofs.TableLemmas.{Next, next_of, none_after, pooled_next}
use Rattle.g_program.proofs.pools.pools_of.Goals as goal

pub loop-vi-preserved : goal.loop-vi-preserved
loop-vi-preserved c = λ flat are.
    let n : Next flat c.loop-vi.vi-index c.vi-item.result = next_of flat c.args.vis.now c.loop-vi.vi-index c.vi-item.result are c.loop-vi-test.true c.vi-item.is in
    let old : List ℕ = c.loop-vi.pools.items in
    let k : ℕ = c.loop-vi.number in
    pooled_next (is_in c.args.reached.now) c.args.main k c.in_ok-number.number c.loop-vi.vi-index n.vi flat old c.push_vi.new.pools.items (pooled (is_in c.args.reached.now) c.args.main 0 flat)
    c.in_ok-number.ensures n.first
    (c.in_ok-push_vi.ensures ∙ ap (λ (x : Clones). old ++ (if is_in c.args.reached.now k && (not (k == c.args.main) && takes_clone x) then k ∷ [] else [])) (c.clones.ensures n.vi n.is))
    (c.loop-vi.invariant flat are)

pub returns : goal.returns
returns c = λ flat are.
    sym (append-nil c.loop-vi.pools.items)
    ∙ ap (λ (vis : List FlatVi). c.loop-vi.pools.items ++ pooled (is_in c.args.reached.now) c.args.main c.loop-vi.number vis) (sym (none_after flat c.args.vis.now c.loop-vi.vi-index are c.loop-vi-test.false))
    ∙ c.loop-vi.invariant flat are
