-- Rule 13: the count of each `for` that is `_` where there is no `index` line: no array has the number of iterations then. A loop
-- without a count, a `while`, isn't looked at.
use Rattle.std.specs.Prelude.{Bool, true, false, not, ◌&&◌, List, map, filter, Option, Some, None, is_some}
use Rattle.std.specs.List.{list_any}
use Rattle.g_diagram.specs.declared.node.Tunnel.{Tunnel}
use Rattle.g_diagram.specs.declared.node.Tunnel.TheVariants as line
use Rattle.g_diagram.specs.Lines.{Wire, Entry, Kind, Const, Apply, Shows, Shared, Obtain, Read, Write, Call, Loop, Case, Sequence, InPlace}
use Rattle.g_rules_lines.specs.Spots.{Spot, spot_at}

abbrev pub is_index : Tunnel → Bool
is_index (line.Tunnel outer inner) = false
is_index (line.Register initial inner next last) = false
is_index (line.Kept t inner next last) = false
is_index (line.Last inner outer) = false
is_index (line.Gather inner outer) = false
is_index (line.Index array inner) = true
is_index (line.Result outer default) = false
is_index (line.Carry before inner) = false
is_index (line.Ref reference inner next same code) = false
is_index (line.Element array index inner next outer) = false
is_index (line.Field field cluster inner next outer) = false

abbrev pub lacks_count : (count : Option Wire) → List Tunnel → Bool
lacks_count None lines = false
lacks_count (Some count) lines = not (is_some count) && not (list_any is_index lines)

abbrev pub is_countless : Kind → Bool
is_countless (Const t literal out) = false
is_countless (Apply op inputs outputs) = false
is_countless (Shows name t w) = false
is_countless (Shared op inputs outputs) = false
is_countless (Obtain queue size item out) = false
is_countless (Read object out) = false
is_countless (Write object input) = false
is_countless (Call vi inputs outputs) = false
is_countless (Loop count stop iteration lines body) = lacks_count count lines
is_countless (Case selector lines arms) = false
is_countless (Sequence parts) = false
is_countless (InPlace lines body finish) = false

abbrev pub countless : List Entry → List Spot
countless es = map (λ e. spot_at e.line 1) (filter (λ e. is_countless e.kind) es)
