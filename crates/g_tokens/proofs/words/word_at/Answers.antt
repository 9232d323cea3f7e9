use Rattle.std.proofs.Common.{◌∙◌}
use Rattle.g_tokens.proofs.Fronts.{front_is}
use Rattle.g_tokens.proofs.WordRuns.{bad_longest, word_longest}
use Rattle.g_tokens.proofs.words.word_at.Goals as goal

pub returns-then-length-gt-LONGEST_NAME : goal.returns-then-length-gt-LONGEST_NAME
returns-then-length-gt-LONGEST_NAME c = front_is _ _ _ (bad_longest c.args.bytes.now c.word_length-length.result c.requires c.word_length-length.ensures.value c.if-length-gt-LONGEST_NAME.true)

pub returns : goal.returns
returns c =
    front_is _ _ _ (word_longest c.args.bytes.now c.in_ok-word.word c.word_length-length.result c.requires c.word_length-length.ensures.value c.if-length-gt-LONGEST_NAME.false (c.in_ok-word.ensures ∙ c.split_at.ensures.front))
