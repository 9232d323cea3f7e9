-- Structures with lines of their own, and with others.
use Rattle.std.proofs.Common.{◌≡◌, ℕ, true, false, List, [], ◌∷◌, Some, None, refl}
use Rattle.std.specs.Prelude.{Bool}
use Rattle.g_diagram.specs.declared.node.Tunnel.TheVariants as line
use Rattle.g_diagram.specs.Lines.{Loop, Case, Sequence, InPlace}
use Rattle.g_diagram.specs.Operands.{Outside, border, source}
use Rattle.g_typing.specs.Types.{Types}
use Rattle.g_typing.specs.Typing.{line_outside}
use Rattle.g_infer_laws.specs.OwnLines.{has_own_lines}

loop_gathers : has_own_lines (Loop (Some None) None None (line.Tunnel None None ∷ line.Gather None None ∷ []) 3) ≡ true
loop_gathers = refl

loop_without_results : has_own_lines (Loop (Some None) None None (line.Result None false ∷ []) 2) ≡ false
loop_without_results = refl

case_without_registers : has_own_lines (Case None (line.Tunnel None None ∷ line.Register None None None None ∷ []) []) ≡ false
case_without_registers = refl

carried_later : has_own_lines (Sequence (record { lines = []; body = 1 } ∷ record { lines = line.Carry None None ∷ []; body = 3 } ∷ [])) ≡ true
carried_later = refl

not_carried_first : has_own_lines (Sequence (record { lines = line.Carry None None ∷ []; body = 1 } ∷ [])) ≡ false
not_carried_first = refl

place_without_gather : has_own_lines (InPlace (line.Field 0 None None None None ∷ line.Gather None None ∷ []) 3 4) ≡ false
place_without_gather = refl

-- a result of a loop would be a source to which nothing is given
result_is_source : (n : List ℕ) → border (line.Result (Some n) false) ≡ source Outside (Some n) ∷ []
result_is_source n = refl

result_ungiven : (M : Types) (ok : Bool) (d b : ℕ) (n : List ℕ) → line_outside M ok d b (line.Result (Some n) false) ≡ []
result_ungiven M ok d b n = refl
