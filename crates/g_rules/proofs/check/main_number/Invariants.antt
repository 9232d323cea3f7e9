use Rattle.std.proofs.Common.{◌≡◌, ◌+◌, drop}
use Rattle.g_hier.specs.Outlines.{number_of}
use Rattle.g_rules.proofs.check.main_number.Given as goal

abbrev pub invariant-loop-vi : goal.invariant-loop-vi
invariant-loop-vi l = l.number + number_of (drop l.vi-index l.vi-items) l.main ≡ number_of l.vi-items l.main
