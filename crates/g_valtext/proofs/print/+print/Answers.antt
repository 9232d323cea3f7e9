use Rattle.std.proofs.Common.{arith, ap, sym, ◌++◌, ◌∙◌}
use Rattle.g_values.specs.Text.{text}
use Rattle.g_valtext.specs.Plain.{is_ranged}
use Rattle.g_valtext.proofs.Items.{joined_written}
use Rattle.g_valtext.proofs.Ranged.{ranged_more}
use Rattle.g_valtext.proofs.print.+print.Goals as goal

pub push_values-loop-i-preserved : goal.push_values-loop-i-preserved
push_values-loop-i-preserved t c =
    let at = c.loop-i.i in
    let value = c.index-items-i.result in
    let written = c.in_ok-push_value-2.ensures.text ∙ ap (λ v. c.extend_from_slice.new.self.items ++ text v) c.index-items-i.is in
    let one = sym (ap is_ranged c.index-items-i.is) ∙ c.in_ok-push_value-2.ensures.ranged in
    record {
      text = joined_written text c.args.items.now at value c.args.out.now.items c.loop-i.out.items c.extend_from_slice.new.self.items _ (omega arith) (omega arith) c.loop-i.invariant.text c.in_ok-extend_from_slice.ensures.items written;
      ranged = ranged_more c.args.items.now at value (omega arith) c.loop-i.invariant.ranged one;
    }
