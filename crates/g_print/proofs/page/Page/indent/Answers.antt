use Rattle.std.proofs.Common.{[], ◌++◌, ◌∷◌, ap, sym, ◌∙◌, append_assoc, arith, length, length-append}
use Rattle.g_print.proofs.TextLemmas.{indent_more}
use Rattle.g_print.proofs.page.Page.indent.Goals as goal

pub loop-level-preserved : goal.loop-level-preserved
loop-level-preserved c =
    let before = c.loop-level.self-inside.bytes.items in
    let e = c.in_ok-extend_from_slice.ensures.items in
    record {
      long = omega (arith, ap length e, length-append before (32 ∷ 32 ∷ []));
      text = λ rest. ap (λ l. l ++ rest) e ∙ append_assoc before (32 ∷ 32 ∷ []) rest ∙ c.loop-level.invariant.text (32 ∷ 32 ∷ rest) ∙ ap (λ l. c.args.self.now ++ l) (sym (indent_more c.loop-level._level rest));
    }
