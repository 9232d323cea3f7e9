use Rattle.std.proofs.Common.{◌≡◌, ℕ, List, drop}
use Rattle.std.specs.Option.{option_map, option_or}
use Rattle.g_diagram.specs.Ports.{first_vi}
use Rattle.g_rules_types.specs.Panels.{panel_in}
use Rattle.g_rules_types.proofs.panels.panels.Given as goal

abbrev pub invariant-loop-vi : goal.invariant-loop-vi
invariant-loop-vi l =
    (name : List ℕ) → option_or (panel_in l.panels name) (option_map (λ vi. vi.panel) (first_vi (drop l.vi-index l.vis) name)) ≡ option_map (λ vi. vi.panel) (first_vi l.vis name)
