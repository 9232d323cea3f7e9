use Rattle.std.proofs.Common.{◌≡◌, ℕ, ◌+◌, ap, sym, ◌∙◌, arith}
use Rattle.std.specs.Prelude.{Option, Some, None}
use Rattle.g_hier.specs.declared.linked.Space.{Space}
use Rattle.g_program.proofs.TableLemmas.{pool_at, pool_past}
use Rattle.g_program.proofs.table.pool_space.Goals as goal

pub returns-then-clone-count : goal.returns-then-clone-count
returns-then-clone-count c =
    let of : ℕ → Option Space = λ k. Some (record { vi = c.args.vi; clone = k; caller = None }) in
    let same : c.args.clone ≡ 0 + c.args.clone = omega arith in
    ap of same ∙ sym (pool_at c.args.vi 0 c.args.count c.args.clone (omega (arith, c.if-clone-count.true)))

pub returns : goal.returns
returns c = sym (pool_past c.args.vi 0 c.args.count c.args.clone (omega (arith, c.if-clone-count.false)))
