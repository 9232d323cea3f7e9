-- Rule 10: each `when` line with a value, or a `default`, that stands in the case before, or with a range that falls.
use Rattle.std.specs.Prelude.{List, [], ◌∷◌, ◌++◌, if◌then◌else◌}
use Rattle.std.specs.List.{flat_map}
use Rattle.g_diagram.specs.declared.node.Selector.{Selector}
use Rattle.g_diagram.specs.Lines.{Arm, Entry, Kind, Const, Apply, Shows, Shared, Obtain, Read, Write, Call, Loop, Case, Sequence, InPlace}
use Rattle.g_rules_selectors.specs.Clashes.{clashes}
use Rattle.g_rules_lines.specs.Spots.{Spot, spot_at}

abbrev pub arm_clashes : (before : List Selector) → List Arm → List Spot
arm_clashes before [] = []
arm_clashes before (arm ∷ arms) = (if clashes before arm.selectors then spot_at arm.body 0 ∷ [] else []) ++ arm_clashes (before ++ arm.selectors) arms

abbrev pub kind_clashes : Kind → List Spot
kind_clashes (Const t literal out) = []
kind_clashes (Apply op inputs outputs) = []
kind_clashes (Shows name t w) = []
kind_clashes (Shared op inputs outputs) = []
kind_clashes (Obtain queue size item out) = []
kind_clashes (Read object out) = []
kind_clashes (Write object input) = []
kind_clashes (Call vi inputs outputs) = []
kind_clashes (Loop count stop iteration lines body) = []
kind_clashes (Case selector lines arms) = arm_clashes [] arms
kind_clashes (Sequence parts) = []
kind_clashes (InPlace lines body finish) = []

abbrev pub reselected : List Entry → List Spot
reselected es = flat_map (λ e. kind_clashes e.kind) es
