use Rattle.std.proofs.Common.{◌<◌, List, length, ap, ◌∙◌, sym, subst, arith}
use Rattle.g_diagram.specs.declared.place.Break.{Break}
use Rattle.g_typing.specs.Breaks.{TypeBreak}
use Rattle.g_rules_breaks.specs.Breaks.{ListsEach, has_break}
use Rattle.g_infer.proofs.InferLemmas.{AllInferred, all_inferred, all_typable, lists_each, is_typed}
use Rattle.g_infer.proofs.infer.answer.Goals as goal

pub infer_vis-requires : goal.infer_vis-requires
infer_vis-requires c = all_typable c.as_slice-vis.result.now c.args.h.now.vis c.as_slice-vis.ensures c.requires.typable

pub returns-then-len-gt0 : goal.returns-then-len-gt0
returns-then-len-gt0 c =
    let found = c.in_ok-found.found.vis.items in
    let told : List Break = c.in_ok-found.found.breaks.items in
    let i : AllInferred c.args.h.now.vis found told = all_inferred c.as_slice-vis.result.now c.args.h.now.vis found told c.as_slice-vis.ensures c.in_ok-found.ensures in
    let P : List Break → Type 0 = λ bs. ListsEach (TypeBreak c.args.h.now) bs × (0 < length bs) in
    subst P (sym c.from_vec.ensures) (
      lists_each c.args.h.now found told c.requires.turns i c.in_ok-breaks.breaks.items c.in_ok-breaks.ensures.order
          (λ b. c.in_ok-breaks.ensures.same b ∙ ap (λ (bs : List Break). has_break bs b) c.as_slice.ensures.value),
      omega (arith, c.if-len-gt0.true, c.len.ensures, c.in_ok-breaks.breaks.ok.0),
    )

pub returns : goal.returns
returns c =
    let found = c.in_ok-found.found.vis.items in
    let told : List Break = c.in_ok-found.found.breaks.items in
    let i : AllInferred c.args.h.now.vis found told = all_inferred c.as_slice-vis.result.now c.args.h.now.vis found told c.as_slice-vis.ensures c.in_ok-found.ensures in
    is_typed c.args.h.now found told c.requires.turns i (record { vis = c.from_vec-2.result }) c.in_ok-breaks.breaks.items c.from_vec-2.ensures
    (omega (arith, c.if-len-gt0.false, c.len.ensures, c.in_ok-breaks.breaks.ok.0))
    (λ b. c.in_ok-breaks.ensures.same b ∙ ap (λ (bs : List Break). has_break bs b) c.as_slice.ensures.value)
