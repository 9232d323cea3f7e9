-- Inner: the names that steps read.
use Rattle.std.specs.Prelude.{ℕ, List, [], ◌∷◌, ◌++◌, Some, None}
use Rattle.g_diagram.specs.Lines.{Wire}
use Rattle.g_typing.proofs.Local.{all_inside_reads, all_outside_reads, kind_reads}
use Rattle.g_typing.proofs.Steps.{one_result_reads}
use Rattle.g_infer.specs.declared.reads.Read.{Read}
use Rattle.g_infer.specs.Steps.{Form, Controls, Plain, Iteration, Branches, Opening, Closing, FrameClosing, Result}

-- `_` reads nothing
abbrev pub named : (diagram : ℕ) → Wire → List (ℕ × List ℕ)
named d None = []
named d (Some name) = (d, name) ∷ []

abbrev pub all_named : List (ℕ × Wire) → List (ℕ × List ℕ)
all_named [] = []
all_named (q ∷ qs) = named q.0 q.1 ++ all_named qs

abbrev pub form_reads : Form → List (ℕ × Wire)
form_reads (Controls items) = []
form_reads (Plain e) = kind_reads e.diagram e.kind
form_reads (Iteration body wire) = []
form_reads (Branches outer ts arms) = all_inside_reads outer None ts
form_reads (Opening outer inner before ts) = all_inside_reads outer before ts
form_reads (Closing e inner ts) = kind_reads e.diagram e.kind ++ all_outside_reads e.diagram inner ts
form_reads (FrameClosing outer inner ts) = all_outside_reads outer inner ts
form_reads (Result outer number arms t) = one_result_reads number arms t

abbrev pub seen_read : Read → ℕ × List ℕ
seen_read r = (r.diagram, r.name.now)
