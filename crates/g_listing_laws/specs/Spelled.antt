-- The types and numbers that a listing has are such as a listing can write.
use Rattle.std.specs.Prelude.{◌≡◌, ℕ, ◌≤◌, ℤ, pos, negsuc, ⊤, List, length}
use Rattle.std.specs.List.{All}
use Rattle.g_values.specs.Spelled.{IsSpelled}
use Rattle.g_diagram.specs.declared.hierarchy.Hierarchy.{Hierarchy}
use Rattle.g_diagram.specs.declared.hierarchy.Vi.{Vi}
use Rattle.g_diagram.specs.declared.hierarchy.Clones.{Clones}
use Rattle.g_diagram.specs.declared.hierarchy.Clones.TheVariants.{NonReentrant, Preallocated, Pool}
use Rattle.g_diagram.specs.declared.panel.PanelItem.{PanelItem}
use Rattle.g_diagram.specs.declared.panel.PanelItem.TheVariants.{Control, Indicator}
use Rattle.g_diagram.specs.declared.node.Tunnel.{Tunnel}
use Rattle.g_diagram.specs.declared.node.Tunnel.TheVariants as line
use Rattle.g_diagram.specs.Lines.{Arm, Kind, Const, Apply, Shows, Shared, Obtain, Read, Write, Call, Loop, Case, Sequence, InPlace, entries_of}
use Rattle.g_listing_grammar.specs.Nodes.{results}
use Rattle.g_listing_grammar.specs.Listing.{IsListing}

abbrev pub IsItemSpelled : PanelItem → Type 0
IsItemSpelled (Control name t required default out) = IsSpelled t
IsItemSpelled (Indicator name t input) = IsSpelled t

-- how many data spaces a pool can have
abbrev pub IsPoolSize : Clones → Type 0
IsPoolSize NonReentrant = ⊤
IsPoolSize Preallocated = ⊤
IsPoolSize (Pool n) = (1 ≤ n) × (n ≤ 64)

-- how many values a queue can hold, or -1 for any number
abbrev pub IsQueueSize : ℤ → Type 0
IsQueueSize (pos n) = (1 ≤ n) × (n ≤ 1000000)
IsQueueSize (negsuc n) = n ≡ 0

-- the type of a register without an initial wire, and the number of an element of a cluster
abbrev pub IsLineSpelled : Tunnel → Type 0
IsLineSpelled (line.Tunnel outer inner) = ⊤
IsLineSpelled (line.Register initial inner next last) = ⊤
IsLineSpelled (line.Kept t inner next last) = IsSpelled t
IsLineSpelled (line.Last inner outer) = ⊤
IsLineSpelled (line.Gather inner outer) = ⊤
IsLineSpelled (line.Index array inner) = ⊤
IsLineSpelled (line.Result outer default) = ⊤
IsLineSpelled (line.Carry before inner) = ⊤
IsLineSpelled (line.Ref reference inner next same code) = ⊤
IsLineSpelled (line.Element array index inner next outer) = ⊤
IsLineSpelled (line.Field field cluster inner next outer) = field ≤ 63

-- a branch has a selector, and gives as many values as its case has results
abbrev pub IsArmSpelled : (results : ℕ) → Arm → Type 0
IsArmSpelled n arm = (1 ≤ length arm.selectors) × (length arm.gives ≡ n)

-- The type of a constant or a queue's values, the size of a queue, the lines at a border, and the branches and frames. The lines of a case
-- and of a sequence have neither a type nor a number.
abbrev pub IsKindSpelled : Kind → Type 0
IsKindSpelled (Const t literal out) = IsSpelled t
IsKindSpelled (Apply op inputs outputs) = ⊤
IsKindSpelled (Shows name t w) = ⊤
IsKindSpelled (Shared op inputs outputs) = ⊤
IsKindSpelled (Obtain queue size item out) = IsQueueSize size × IsSpelled item
IsKindSpelled (Read object out) = ⊤
IsKindSpelled (Write object input) = ⊤
IsKindSpelled (Call vi inputs outputs) = ⊤
IsKindSpelled (Loop count stop iteration lines body) = All IsLineSpelled lines
IsKindSpelled (Case selector lines arms) = (1 ≤ length arms) × All (IsArmSpelled (results lines)) arms
IsKindSpelled (Sequence parts) = 1 ≤ length parts
IsKindSpelled (InPlace lines body finish) = All IsLineSpelled lines

pub record IsViSpelled (vi : Vi) : Type 0 where
  pub clones : IsPoolSize vi.clones
  pub panel : All IsItemSpelled vi.panel
  pub constants : All (λ e. IsKindSpelled e.kind) (entries_of vi)

abbrev pub AreSpelled : Hierarchy → Type 0
AreSpelled h = All IsViSpelled h.vis

-- what a listing has is such
abbrev pub ReadsSpelled : Type 0
ReadsSpelled = (bytes : List ℕ) (h : Hierarchy) → IsListing bytes h → AreSpelled h
