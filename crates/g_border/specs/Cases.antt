-- Which branch a case takes, and its results.
use Rattle.std.specs.Prelude.{ℕ, ◌+◌, ◌==◌, Bool, List, [], ◌∷◌, ◌++◌, Option, Some, None, if◌then◌else◌}
use Rattle.std.specs.List.{list_any}
use Rattle.std.specs.Option.{option_or, option_map_or}
use Rattle.g_types.specs.declared.ty.Ty.{Ty}
use Rattle.g_values.specs.declared.value.Value.{Value, out-Value}
use Rattle.g_values.specs.Coerce.{coerced}
use Rattle.g_diagram.specs.declared.node.Selector.{Selector}
use Rattle.g_diagram.specs.declared.node.Tunnel.{Tunnel}
use Rattle.g_diagram.specs.declared.node.Tunnel.TheVariants as line
use Rattle.g_diagram.specs.Lines.{Wire, Arm}
use Rattle.g_diagram.specs.Operands.{Outside, border}
use Rattle.g_typing.specs.Types.{Types, wire_at}
use Rattle.g_typing.specs.Typing.{result_type, next_result}
use Rattle.g_rules_cases.specs.Held.{names_at, is_default}
use Rattle.g_border.specs.Readers.{Reader, value_on, Given, given_on}
use Rattle.g_border.specs.Lines.{default_at}

abbrev pub first_arm : (Selector → Bool) → List Arm → Option Arm
first_arm p [] = None
first_arm p (arm ∷ arms) = if list_any p arm.selectors then Some arm else first_arm p arms

-- the branch with the value, else the default branch
abbrev pub chosen : Value → List Arm → Option Arm
chosen v arms = option_or (first_arm (names_at (out-Value v)) arms) (first_arm is_default arms)

-- a value coerced to a type, if that is known
abbrev pub coerced_to : Option Ty → Value → Value
coerced_to t v = option_map_or (coerced v) t v

-- a result at its type: what the branch gives, or the type's default where it gives nothing
abbrev pub result_value : Reader → Wire → Option Ty → Value
result_value inner None t = default_at t
result_value inner (Some name) t = coerced_to t (value_on inner (Some name))

-- result k, from 0, of a case of these branches, from the values of the branch that was taken
abbrev pub result_outside : Types → List Arm → (taken : Arm) → Reader → (k line : ℕ) → Tunnel → Given
result_outside types arms taken inner k l (line.Result a default) =
    given_on Outside l (border (line.Result a default)) (result_value inner (wire_at taken.gives k) (result_type types k arms) ∷ [])
result_outside types arms taken inner k l _ = []

abbrev pub results_outside : Types → List Arm → (taken : Arm) → Reader → (k line : ℕ) → List Tunnel → Given
results_outside types arms taken inner k l [] = []
results_outside types arms taken inner k l (t ∷ ts) =
    result_outside types arms taken inner k l t ++ results_outside types arms taken inner (next_result t k) (l + 1) ts

-- the branch on a line
abbrev pub arm_at : (diagram : ℕ) → List Arm → Option Arm
arm_at d [] = None
arm_at d (arm ∷ arms) = if arm.body == d then Some arm else arm_at d arms
