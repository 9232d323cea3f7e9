use Rattle.std.proofs.Common.{◌≡◌, ◌++◌, take, map}
use Rattle.g_types.specs.Ty.{joined}
use Rattle.g_valtext.specs.Words.{word_text}
use Rattle.g_valtext.proofs.print.push_words.Given as goal

abbrev pub invariant-loop-i : goal.invariant-loop-i
invariant-loop-i l = l.out.items ≡ l.fn.out.items ++ joined (map (word_text l.rep) (take l.i l.words))
