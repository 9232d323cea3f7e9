-- The types of a VI's wires can be decided where nothing is broken.
use Rattle.std.proofs.Common.{◌≡◌, ℕ, ◌≤◌, List, [], arith}
use Rattle.std.specs.Prelude.{Some, slice_get}
use Rattle.g_diagram.specs.declared.hierarchy.Hierarchy.{Hierarchy}
use Rattle.g_diagram.specs.declared.hierarchy.Vi.{Vi}
use Rattle.g_diagram.specs.Lines.{entries_of}
use Rattle.g_diagram.specs.Ports.{ports_of}
use Rattle.g_typing.specs.Typing.{called_panel, all_given}
use Rattle.g_typing.proofs.Agreed.{all_ready}
use Rattle.g_typing.proofs.Roles.{nothing}
use Rattle.g_wires.specs.Breaks.{IsWiring}
use Rattle.g_typing_laws.specs.Typable.{IsTypable}
use Rattle.g_typing_laws.proofs.Counts.{given_count, port_count}
use Rattle.g_typing_laws.proofs.Counting.{given_at_ports}
use Rattle.g_typing_laws.proofs.Lined.{places_once}
use Rattle.g_typing_laws.proofs.Once.{AreFirst, sources_once, apart_from}
use Rattle.g_typing_laws.proofs.Unbroken.{none_turns, none_repeated}

-- a name of a diagram is given once at most where no source of it has one before it
given_once : (vis : List Vi) (vi : Vi) → AreFirst (ports_of vis vi) → (d : ℕ) (n : List ℕ) → given_count d n (all_given (called_panel vis) vi.panel (entries_of vi) nothing) ≤ 1
given_once vis vi first d n =
    let x : given_count d n (all_given (called_panel vis) vi.panel (entries_of vi) nothing) ≤ port_count d n (ports_of vis vi) = given_at_ports d n (called_panel vis) vis vi nothing in
    let y : port_count d n (ports_of vis vi) ≤ 1 = sources_once d n (ports_of vis vi) (λ v k. places_once vis vi v k d) first in
    omega (arith, x, y)

pub typable : (h : Hierarchy) (main : List ℕ) → IsWiring h main [] → (k : ℕ) (vi : Vi) → slice_get h.vis k ≡ Some vi → IsTypable (called_panel h.vis) vi.panel (entries_of vi)
typable h main none k vi stands = record {
  ready = all_ready h.vis vi (none_turns h main none k vi stands);
  apart = apart_from (all_given (called_panel h.vis) vi.panel (entries_of vi) nothing) (given_once h.vis vi (none_repeated h main none k vi stands));
}
