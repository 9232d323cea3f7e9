-- Rule 11: each unwired operand of a `give` whose result has no default, and each result that is wired in no branch.
use Rattle.std.specs.Prelude.{ℕ, ◌+◌, Bool, false, not, List, [], ◌∷◌, ◌++◌, map, filter, if◌then◌else◌, Option, Some, None, is_some, slice_get}
use Rattle.std.specs.List.{list_any, flat_map}
use Rattle.g_diagram.specs.declared.node.Tunnel.{Tunnel}
use Rattle.g_diagram.specs.declared.node.Tunnel.TheVariants as line
use Rattle.g_diagram.specs.Lines.{Wire, Arm, Entry, Kind, Const, Apply, Shows, Shared, Obtain, Read, Write, Call, Loop, Case, Sequence, InPlace}
use Rattle.g_rules_lines.specs.Spots.{Spot, spot_at}

abbrev pub is_given_at : Option Wire → Bool
is_given_at None = false
is_given_at (Some w) = is_some w

-- whether a branch gives result k
abbrev pub gives_result : (k : ℕ) → Arm → Bool
gives_result k arm = is_given_at (slice_get arm.gives k)

-- a `give` line stands after its `when`, and its operands count from 1
abbrev pub ungiven_in : (k : ℕ) → List Arm → List Spot
ungiven_in k arms = map (λ a. spot_at (a.body + 1) (k + 1)) (filter (λ a. not (gives_result k a)) arms)

-- result k, which stands on line l
abbrev pub ungiven_at : (l k : ℕ) → (default : Bool) → List Arm → List Spot
ungiven_at l k default arms = (if default then [] else ungiven_in k arms) ++ (if list_any (gives_result k) arms then [] else spot_at l 1 ∷ [])

-- the results from result k on, among the lines from line l on
abbrev pub ungiven : (l k : ℕ) → List Arm → List Tunnel → List Spot
ungiven l k arms [] = []
ungiven l k arms (line.Tunnel outer inner ∷ ts) = ungiven (l + 1) k arms ts
ungiven l k arms (line.Register initial inner next last ∷ ts) = ungiven (l + 1) k arms ts
ungiven l k arms (line.Kept t inner next last ∷ ts) = ungiven (l + 1) k arms ts
ungiven l k arms (line.Last inner outer ∷ ts) = ungiven (l + 1) k arms ts
ungiven l k arms (line.Gather inner outer ∷ ts) = ungiven (l + 1) k arms ts
ungiven l k arms (line.Index array inner ∷ ts) = ungiven (l + 1) k arms ts
ungiven l k arms (line.Result outer default ∷ ts) = ungiven_at l k default arms ++ ungiven (l + 1) (k + 1) arms ts
ungiven l k arms (line.Carry before inner ∷ ts) = ungiven (l + 1) k arms ts
ungiven l k arms (line.Ref reference inner next same code ∷ ts) = ungiven (l + 1) k arms ts
ungiven l k arms (line.Element array index inner next outer ∷ ts) = ungiven (l + 1) k arms ts
ungiven l k arms (line.Field field cluster inner next outer ∷ ts) = ungiven (l + 1) k arms ts

abbrev pub kind_ungiven : (line : ℕ) → Kind → List Spot
kind_ungiven l (Const t literal out) = []
kind_ungiven l (Apply op inputs outputs) = []
kind_ungiven l (Shows name t w) = []
kind_ungiven l (Shared op inputs outputs) = []
kind_ungiven l (Obtain queue size item out) = []
kind_ungiven l (Read object out) = []
kind_ungiven l (Write object input) = []
kind_ungiven l (Call vi inputs outputs) = []
kind_ungiven l (Loop count stop iteration lines body) = []
kind_ungiven l (Case selector lines arms) = ungiven (l + 1) 0 arms lines
kind_ungiven l (Sequence parts) = []
kind_ungiven l (InPlace lines body finish) = []

abbrev pub resultless : List Entry → List Spot
resultless es = flat_map (λ e. kind_ungiven e.line e.kind) es
