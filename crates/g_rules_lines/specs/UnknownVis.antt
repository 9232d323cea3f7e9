-- Rule 9: each call that names no VI; and a MAIN that names none, which is told after all VIs.
use Rattle.std.specs.Prelude.{ℕ, Bool, false, not, List, [], ◌∷◌, map, filter, is_some, if◌then◌else◌}
use Rattle.g_diagram.specs.declared.place.Break.{Break}
use Rattle.g_diagram.specs.Lines.{Entry, Kind, Const, Apply, Shows, Shared, Obtain, Read, Write, Call, Loop, Case, Sequence, InPlace}
use Rattle.g_rules_lines.specs.Spots.{Spot, break, spot_at, whole}
use Rattle.g_rules_lines.specs.Callees.{Arities}

abbrev pub names_no_vi : Arities → Kind → Bool
names_no_vi known (Const t literal out) = false
names_no_vi known (Apply op inputs outputs) = false
names_no_vi known (Shows name t w) = false
names_no_vi known (Shared op inputs outputs) = false
names_no_vi known (Obtain queue size item out) = false
names_no_vi known (Read object out) = false
names_no_vi known (Write object input) = false
names_no_vi known (Call vi inputs outputs) = not (is_some (known vi))
names_no_vi known (Loop count stop iteration lines body) = false
names_no_vi known (Case selector lines arms) = false
names_no_vi known (Sequence parts) = false
names_no_vi known (InPlace lines body finish) = false

abbrev pub uncalled : Arities → List Entry → List Spot
uncalled known es = map whole (filter (λ e. names_no_vi known e.kind) es)

abbrev pub absent_main : Arities → (count : ℕ) → (main : List ℕ) → List Break
absent_main known count main = if is_some (known main) then [] else break count 9 (spot_at 0 0) ∷ []
