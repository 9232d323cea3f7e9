use Rattle.std.proofs.Common.{◌≡◌}
use Rattle.std.specs.Option.{option_or}
use Rattle.g_border.specs.declared.place.WireSource.{WireSource}
use Rattle.g_border.specs.Readers.{value_given}
use Rattle.g_bodies.specs.Known.{found, with_more}
use Rattle.g_bodies.proofs.known.give.Given as goal

abbrev pub invariant-loop-source : goal.invariant-loop-source
invariant-loop-source l =
    (p : WireSource) → option_or (found l.known p) (value_given l.source-iterator.rest.items p) ≡ with_more (found l.fn.known) l.fn.given p
