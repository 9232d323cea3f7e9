-- Which branch a case takes.
use Rattle.std.proofs.Common.{◌≡◌, Bool, true, false, List, [], ◌∷◌, Option, Some, None, refl, ◌∙◌}
use Rattle.std.specs.Prelude.{if◌then◌else◌}
use Rattle.std.specs.List.{list_any}
use Rattle.std.specs.Option.{option_or}
use Rattle.g_values.specs.declared.value.Value.{Value, out-Value}
use Rattle.g_diagram.specs.declared.node.Selector.{Selector}
use Rattle.g_diagram.specs.Lines.{Arm}
use Rattle.g_rules_cases.specs.Held.{names_at, is_default}
use Rattle.g_border.specs.Cases.{first_arm, chosen}
use Rattle.g_frames.proofs.RunLemmas.{some_is}
use Rattle.g_typed_states.specs.Places.{Among, later}
use Rattle.g_typed_states.proofs.Lists.{none_is, among_head}

first_among : (test : Selector → Bool) (arms : List Arm) (arm : Arm) → first_arm test arms ≡ Some arm → Among arm arms
first_among test [] arm at = absurd (none_is arm at)
first_among test (x ∷ arms) arm at = by (list_any test x.selectors) at (first_among test arms arm)
  where
    by : (b : Bool) → (if b then Some x else first_arm test arms) ≡ Some arm → (first_arm test arms ≡ Some arm → Among arm arms) → Among arm (x ∷ arms)
    by true g rest = among_head arm x arms (some_is x arm g)
    by false g rest = later (rest g)

pub chosen_among : (v : Value) (arms : List Arm) (arm : Arm) → chosen v arms ≡ Some arm → Among arm arms
chosen_among v arms arm at = by (first_arm (names_at (out-Value v)) arms) refl at
  where
    by : (o : Option Arm) → first_arm (names_at (out-Value v)) arms ≡ o → option_or o (first_arm is_default arms) ≡ Some arm → Among arm arms
    by None is g = first_among is_default arms arm g
    by (Some x) is g = first_among (names_at (out-Value v)) arms arm (is ∙ g)
