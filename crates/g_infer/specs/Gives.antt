-- Inner: what steps give.
use Rattle.std.specs.Prelude.{List, Some, true}
use Rattle.g_typing.specs.Types.{Types, whole}
use Rattle.g_typing.specs.Rows.{has_rows}
use Rattle.g_typing.specs.Typing.{Given, Callees, Objects, given, arms_inside, controls_given, entry_given, lines_inside, lines_outside, result_given}
use Rattle.g_typing.proofs.Unique.{Step}
use Rattle.g_infer.specs.Reads.{form_reads}
use Rattle.g_infer.specs.Steps.{Form, Controls, Plain, Iteration, Branches, Opening, Closing, FrameClosing, Result}

abbrev pub form_gives : Callees → Objects → Types → Form → List Given
form_gives called objects M (Controls items) = controls_given items
form_gives called objects M (Plain e) = entry_given called objects M e
form_gives called objects M (Iteration body wire) = given body wire (Some whole)
form_gives called objects M (Branches outer ts arms) = arms_inside M outer ts arms
form_gives called objects M (Opening outer inner before ts) = lines_inside M outer inner before ts
form_gives called objects M (Closing e inner ts) = lines_outside M (has_rows M e) e.diagram inner ts
form_gives called objects M (FrameClosing outer inner ts) = lines_outside M true outer inner ts
form_gives called objects M (Result outer number arms t) = result_given M outer number arms t

abbrev pub step_of : Callees → Objects → Form → Step
step_of called objects f = record { reads = form_reads f; gives = λ M. form_gives called objects M f }
