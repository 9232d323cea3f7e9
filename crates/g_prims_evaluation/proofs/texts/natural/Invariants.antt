use Rattle.std.proofs.Common.{◌≡◌, ◌≤◌, drop, length}
use Rattle.std.proofs.Common.{◌<◌, ◌^◌}
use Rattle.g_prims_definitions.specs.Strings.{digits_from}
use Rattle.g_prims_evaluation.proofs.texts.natural.Given as goal

abbrev pub invariant-loop-digit : goal.invariant-loop-digit
invariant-loop-digit l = (length l.digits ≤ 20) × (l.n < 10 ^ l.digit-index) × (digits_from 0 l.digits ≡ digits_from l.n (drop l.digit-index l.digits))
