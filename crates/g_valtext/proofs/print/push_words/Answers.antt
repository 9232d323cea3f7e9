use Rattle.std.proofs.Common.{arith}
use Rattle.g_valtext.specs.Words.{word_text}
use Rattle.g_valtext.proofs.Items.{joined_written}
use Rattle.g_valtext.proofs.print.push_words.Goals as goal

pub loop-i-preserved : goal.loop-i-preserved
loop-i-preserved c =
    joined_written (word_text c.args.rep) c.args.words.now c.loop-i.i 0 c.args.out.now.items c.loop-i.out.items c.extend_from_slice.new.self.items _ (omega arith) (omega arith) c.loop-i.invariant c.in_ok-extend_from_slice.ensures.items c.in_ok-push_word-2.ensures
