-- When the types of a VI's wires can be decided, one step after another.
use Rattle.std.specs.Prelude.{ℕ, ◌≡◌, List, [], Some, slice_get}
use Rattle.g_diagram.specs.declared.panel.PanelItem.{PanelItem}
use Rattle.g_diagram.specs.declared.hierarchy.Hierarchy.{Hierarchy}
use Rattle.g_diagram.specs.declared.hierarchy.Vi.{Vi}
use Rattle.g_diagram.specs.Leads.{Leads}
use Rattle.g_diagram.specs.Lines.{Entry, entries_of}
use Rattle.g_diagram.specs.Ports.{ports_of, has_wire}
use Rattle.g_typing.specs.Typing.{Callees, called_panel, all_given}
use Rattle.g_typing.proofs.Unique.{Step}
use Rattle.g_typing.proofs.Only.{IsIn, vi_steps}
use Rattle.g_typing.proofs.Ready.{Ready}
use Rattle.g_typing.proofs.Roles.{nothing}
use Rattle.g_typing.proofs.Walked.{AreApart}
use Rattle.g_wires.specs.Breaks.{IsWiring}

-- of a VI with this panel and these nodes
pub record IsTypable (called : Callees) (panel : List PanelItem) (es : List Entry) : Type 0 where
  -- each step waits for finitely many others alone
  pub ready : (t : Step) → IsIn t (vi_steps called panel es) → Ready (vi_steps called panel es) t
  -- no name of a diagram is given twice
  pub apart : AreApart (all_given called panel es nothing)

-- where none of the rules on names and lines is broken, no node of a VI leads to itself
abbrev pub NoneTurns : Type 0
NoneTurns = (h : Hierarchy) (main : List ℕ) → IsWiring h main [] → (k : ℕ) (vi : Vi) → slice_get h.vis k ≡ Some vi
    → (v : ℕ) → Leads (has_wire (ports_of h.vis vi)) v v → ⊥

-- and the types of its wires can be decided
abbrev pub AreTypable : Type 0
AreTypable = (h : Hierarchy) (main : List ℕ) → IsWiring h main [] → (k : ℕ) (vi : Vi) → slice_get h.vis k ≡ Some vi
    → IsTypable (called_panel h.vis) vi.panel (entries_of vi)
