use Rattle.std.proofs.Common.{◌≡◌, drop}
use Rattle.g_tokens.specs.Scan.{text_end, put_before}
use Rattle.g_tokens.specs.declared.texts.Escape.TheVariants.{Plain}
use Rattle.g_tokens.proofs.texts.text_at.Given as goal

abbrev pub invariant-loop-i : goal.invariant-loop-i
invariant-loop-i l = put_before l.meaning l.i (text_end l.escape (drop l.i l.bytes)) ≡ text_end Plain l.bytes
