use Rattle.std.proofs.Common.{Bor, List, ℕ, sym, ap, ◌∙◌}
use Rattle.std.specs.Prelude.{slice_get}
use Rattle.std.specs.Option.{option_map}
use Rattle.std.proofs.lemmas.Option.{slice_get-map}
use Rattle.g_wire_values.proofs.names.SourceNames.entry.Goals as goal

pub returns-in-Some : goal.returns-in-Some
returns-in-Some c =
    ap (option_map (λ (e : Bor (List ℕ) × ℕ). (e.0.now, e.1))) c.in-Some.ensures.entry
    ∙ sym (slice_get-map (λ (e : Bor (List ℕ) × ℕ). (e.0.now, e.1)) c.self.inside.map.entries c.args.at) ∙ ap (λ es. slice_get es c.args.at) c.self.view_is

pub returns-in-None : goal.returns-in-None
returns-in-None c =
    ap (option_map (λ (e : Bor (List ℕ) × ℕ). (e.0.now, e.1))) c.in-None.ensures.entry
    ∙ sym (slice_get-map (λ (e : Bor (List ℕ) × ℕ). (e.0.now, e.1)) c.self.inside.map.entries c.args.at) ∙ ap (λ es. slice_get es c.args.at) c.self.view_is
