-- The ports of a loop and of a case, computed.
use Rattle.std.proofs.Common.{◌≡◌, ap, ◌++◌}
use Rattle.std.specs.Prelude.{ℕ, Bool, true, false, List, [], ◌∷◌, Option, Some, None, pos, codes}
use Rattle.g_types.specs.declared.rep.Rep.TheVariants.{I32}
use Rattle.g_types.specs.declared.ty.Ty.TheVariants.{Num}
use Rattle.g_values.specs.declared.primitive.Primitive.TheVariants.{Inc}
use Rattle.g_diagram.specs.declared.hierarchy.Clones.TheVariants.{NonReentrant}
use Rattle.g_diagram.specs.declared.hierarchy.System.TheVariants.{Same}
use Rattle.g_diagram.specs.declared.node.Selector.TheVariants.{Number, Default}
use Rattle.g_diagram.specs.declared.node.Tunnel.TheVariants.{Tunnel, Last, Result}
use Rattle.g_diagram.specs.declared.panel.PanelItem.TheVariants.{Control}
use Rattle.g_diagram.specs.Lines.{Wire}
use Rattle.g_diagram.specs.Operands.{control_lines, entries_lines}
use Rattle.g_diagram.specs.Ports.{Port, ports_in, ports_of, freedom}
use Rattle.g_diagram.proofs.Trees.{Sketch, vi_of, same_entries, none, also, For, Apply, Case, end, when}

abbrev w : List ℕ → Wire
w name = Some name

abbrev at : (line operand diagram : ℕ) → Option ℕ → (is_source is_free : Bool) → Wire → Port
at l k d n is_source is_free wire = record { line = l; operand = k; diagram = d; node = n; is_source = is_source; is_free = is_free; wire = wire }

-- control a i32 -> a; for a -> i; tunnel a -> b; last i -> r; do; inc b -> _; end
abbrev loop : Sketch
loop = record {
  name = codes "Main";
  clones = NonReentrant;
  system = Same;
  panel = Control (codes "a") (Num I32) false None (w (codes "a")) ∷ [];
  top = also (For (w (codes "a")) (w (codes "i")) (Tunnel (w (codes "a")) (w (codes "b")) ∷ Last (w (codes "i")) (w (codes "r")) ∷ [])
      (also (Apply Inc (w (codes "b") ∷ []) (None ∷ [])) none)) none;
}

abbrev alone : (s : Sketch) → List Port
alone s = ports_of (vi_of s ∷ []) (vi_of s)

loop_ports : alone loop ≡
    at 1 1 0 None true false (w (codes "a"))
    ∷ at 2 1 0 (Some 2) false true (w (codes "a"))
    ∷ at 2 2 5 None true false (w (codes "i"))
    ∷ at 3 1 0 (Some 2) false false (w (codes "a"))
    ∷ at 3 2 5 None true false (w (codes "b"))
    ∷ at 4 1 5 None false false (w (codes "i"))
    ∷ at 4 2 0 (Some 2) true false (w (codes "r"))
    ∷ at 6 1 5 (Some 6) false false (w (codes "b"))
    ∷ at 6 2 5 (Some 6) true false None ∷ []
loop_ports = ap (λ es. ports_in (control_lines 1 loop.panel ++ entries_lines (freedom (vi_of loop ∷ [])) es)) (same_entries loop)

-- case a; tunnel a -> b; result r; when 0; give b; when default; give _; end
abbrev choice : Sketch
choice = record {
  name = codes "Main";
  clones = NonReentrant;
  system = Same;
  panel = [];
  top = also (Case (w (codes "a")) (Tunnel (w (codes "a")) (w (codes "b")) ∷ Result (w (codes "r")) false ∷ [])
      (when (Number (pos 0) ∷ []) (w (codes "b") ∷ []) none (when (Default ∷ []) (None ∷ []) none end))) none;
}

choice_ports : alone choice ≡
    at 1 1 0 (Some 1) false false (w (codes "a"))
    ∷ at 2 1 0 (Some 1) false false (w (codes "a"))
    ∷ at 2 2 4 None true true (w (codes "b"))
    ∷ at 2 2 6 None true true (w (codes "b"))
    ∷ at 3 1 0 (Some 1) true false (w (codes "r"))
    ∷ at 5 1 4 None false true (w (codes "b"))
    ∷ at 7 1 6 None false true None ∷ []
choice_ports = ap (λ es. ports_in (control_lines 1 choice.panel ++ entries_lines (freedom (vi_of choice ∷ [])) es)) (same_entries choice)
