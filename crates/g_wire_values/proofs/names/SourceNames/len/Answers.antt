use Rattle.std.proofs.Common.{Bor, List, ℕ, length, sym, ap, ◌∙◌}
use Rattle.std.proofs.lemmas.List.{length-map}
use Rattle.g_wire_values.proofs.names.SourceNames.len.Goals as goal

pub returns : goal.returns
returns c = c.len.ensures.len ∙ sym (length-map c.self.inside.map.entries (λ (e : Bor (List ℕ) × ℕ). (e.0.now, e.1))) ∙ ap length c.self.view_is
