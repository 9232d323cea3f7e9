use Rattle.std.proofs.Common.{ℕ, List, ◌++◌, take, subst, arith}
use Rattle.std.proofs.lemmas.List.{take_all}
use Rattle.g_diagram.specs.declared.node.Selector.{Selector}
use Rattle.g_rules_selectors.specs.declared.taken.Taken.{Taken}
use Rattle.g_rules_selectors.specs.Taken.{Keeps}
use Rattle.g_rules_selectors.proofs.Naming.{keeps_more, line_keeps, clash_more}
use Rattle.g_rules_selectors.proofs.taken.take.Goals as goal

pub loop-selector-preserved : goal.loop-selector-preserved
loop-selector-preserved c =
    let xs : List Selector = c.args.selectors.now in
    let i : ℕ = c.loop-selector.selector-index in
    let x : Selector = c.selector-item.result in
    let old : Taken = c.loop-selector.taken in
    let new : Taken = c.add_selector.new.taken in
    record {
      keeps = λ before given.
          let k : Keeps old (before ++ take i xs) = c.loop-selector.invariant.keeps before given in
          line_keeps new before xs i x c.loop-selector-test.true c.selector-item.is
          (keeps_more old new (before ++ take i xs) x k (c.in_ok-add_selector.ensures.apart k.apart) (c.in_ok-add_selector.ensures.adds k.apart));
      clashes = λ before given.
          let k : Keeps old (before ++ take i xs) = c.loop-selector.invariant.keeps before given in
          clash_more old before xs i x c.loop-selector.clashes c.is_clash-clash.result c.loop-selector-test.true c.selector-item.is k (c.is_clash-clash.ensures k.apart) (c.loop-selector.invariant.clashes before given);
    }

pub returns-clause-keeps : goal.returns-clause-keeps
returns-clause-keeps c = λ before given.
    let P : List Selector → Type 0 = λ ss. Keeps c.loop-selector.taken (before ++ ss) in
    subst P (take_all c.loop-selector.selector-index c.args.selectors.now (omega (arith, c.loop-selector-test.false))) (c.loop-selector.invariant.keeps before given)
