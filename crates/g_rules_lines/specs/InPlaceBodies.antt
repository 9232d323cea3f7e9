-- Rule 12: what may not stand in a body in place, nor in a case in one; and each `ref` too many.
use Rattle.std.specs.Prelude.{ℕ, ◌+◌, ◌==◌, Bool, true, false, not, ◌&&◌, ◌||◌, List, [], ◌∷◌, ◌++◌, map, filter, if◌then◌else◌}
use Rattle.std.specs.List.{list_any, flat_map}
use Rattle.g_diagram.specs.declared.node.Tunnel.{Tunnel}
use Rattle.g_diagram.specs.declared.node.Tunnel.TheVariants as line
use Rattle.g_diagram.specs.Lines.{Entry, Kind, Const, Apply, Shows, Shared, Obtain, Read, Write, Call, Loop, Case, Sequence, InPlace}
use Rattle.g_rules_lines.specs.Spots.{Spot, spot_at, whole}

abbrev pub diagrams_in : Kind → List ℕ
diagrams_in (Const t literal out) = []
diagrams_in (Apply op inputs outputs) = []
diagrams_in (Shows name t w) = []
diagrams_in (Shared op inputs outputs) = []
diagrams_in (Obtain queue size item out) = []
diagrams_in (Read object out) = []
diagrams_in (Write object input) = []
diagrams_in (Call vi inputs outputs) = []
diagrams_in (Loop count stop iteration lines body) = body ∷ []
diagrams_in (Case selector lines arms) = map (λ a. a.body) arms
diagrams_in (Sequence parts) = map (λ p. p.body) parts
diagrams_in (InPlace lines body finish) = body ∷ []

abbrev pub is_case : Kind → Bool
is_case (Const t literal out) = false
is_case (Apply op inputs outputs) = false
is_case (Shows name t w) = false
is_case (Shared op inputs outputs) = false
is_case (Obtain queue size item out) = false
is_case (Read object out) = false
is_case (Write object input) = false
is_case (Call vi inputs outputs) = false
is_case (Loop count stop iteration lines body) = false
is_case (Case selector lines arms) = true
is_case (Sequence parts) = false
is_case (InPlace lines body finish) = false

abbrev pub is_in_place : Kind → Bool
is_in_place (Const t literal out) = false
is_in_place (Apply op inputs outputs) = false
is_in_place (Shows name t w) = false
is_in_place (Shared op inputs outputs) = false
is_in_place (Obtain queue size item out) = false
is_in_place (Read object out) = false
is_in_place (Write object input) = false
is_in_place (Call vi inputs outputs) = false
is_in_place (Loop count stop iteration lines body) = false
is_in_place (Case selector lines arms) = false
is_in_place (Sequence parts) = false
is_in_place (InPlace lines body finish) = true

abbrev pub may_stand_in_place : Kind → Bool
may_stand_in_place (Const t literal out) = true
may_stand_in_place (Apply op inputs outputs) = true
may_stand_in_place (Shows name t w) = false
may_stand_in_place (Shared op inputs outputs) = false
may_stand_in_place (Obtain queue size item out) = false
may_stand_in_place (Read object out) = false
may_stand_in_place (Write object input) = false
may_stand_in_place (Call vi inputs outputs) = false
may_stand_in_place (Loop count stop iteration lines body) = false
may_stand_in_place (Case selector lines arms) = true
may_stand_in_place (Sequence parts) = false
may_stand_in_place (InPlace lines body finish) = true

-- diagrams, as a test of their lines
abbrev pub Diagrams : Type 0
Diagrams = ℕ → Bool

abbrev pub no_diagrams : Diagrams
no_diagrams d = false

-- these, and those of a node if it is one to look into
abbrev pub with_node : (looks : Bool) → Kind → Diagrams → Diagrams
with_node looks kind ds d = ds d || (looks && list_any (λ x. x == d) (diagrams_in kind))

-- The diagrams of the nodes to look into, by a test of those so far, of a node's diagram and of the node: what holds a node stands before it
abbrev pub gathered : (Diagrams → ℕ → Kind → Bool) → Diagrams → List Entry → Diagrams
gathered looks ds [] = ds
gathered looks ds (e ∷ es) = gathered looks (with_node (looks ds e.diagram e.kind) e.kind ds) es

-- each structure in place, wherever it stands, and each case in a body
abbrev pub has_body : Diagrams → (diagram : ℕ) → Kind → Bool
has_body ds d kind = is_in_place kind || (ds d && is_case kind)

-- the bodies in place and the branches of cases in them
abbrev pub bodies : List Entry → Diagrams
bodies es = gathered has_body no_diagrams es

-- each structure in place, and any node in one of these diagrams
abbrev pub is_inside : Diagrams → (diagram : ℕ) → Kind → Bool
is_inside ds d kind = is_in_place kind || ds d

-- all diagrams that stand somewhere inside a body in place, and that body
abbrev pub insides : List Entry → Diagrams
insides es = gathered is_inside no_diagrams es

-- the nodes of these diagrams that may not stand there
abbrev pub strangers : Diagrams → List Entry → List Spot
strangers ds es = map whole (filter (λ e. ds e.diagram && not (may_stand_in_place e.kind)) es)

-- the `ref` lines from a line on, but for the first if one is allowed: none is somewhere inside another body
abbrev pub spare_refs : (line : ℕ) → (allowed : Bool) → List Tunnel → List Spot
spare_refs l allowed [] = []
spare_refs l allowed (line.Tunnel outer inner ∷ ts) = spare_refs (l + 1) allowed ts
spare_refs l allowed (line.Register initial inner next last ∷ ts) = spare_refs (l + 1) allowed ts
spare_refs l allowed (line.Kept t inner next last ∷ ts) = spare_refs (l + 1) allowed ts
spare_refs l allowed (line.Last inner outer ∷ ts) = spare_refs (l + 1) allowed ts
spare_refs l allowed (line.Gather inner outer ∷ ts) = spare_refs (l + 1) allowed ts
spare_refs l allowed (line.Index array inner ∷ ts) = spare_refs (l + 1) allowed ts
spare_refs l allowed (line.Result outer default ∷ ts) = spare_refs (l + 1) allowed ts
spare_refs l allowed (line.Carry before inner ∷ ts) = spare_refs (l + 1) allowed ts
spare_refs l allowed (line.Ref reference inner next same code ∷ ts) = (if allowed then [] else spot_at l 0 ∷ []) ++ spare_refs (l + 1) false ts
spare_refs l allowed (line.Element array index inner next outer ∷ ts) = spare_refs (l + 1) allowed ts
spare_refs l allowed (line.Field field cluster inner next outer ∷ ts) = spare_refs (l + 1) allowed ts

abbrev pub kind_spare_refs : (line : ℕ) → (inside : Bool) → Kind → List Spot
kind_spare_refs l inside (Const t literal out) = []
kind_spare_refs l inside (Apply op inputs outputs) = []
kind_spare_refs l inside (Shows name t w) = []
kind_spare_refs l inside (Shared op inputs outputs) = []
kind_spare_refs l inside (Obtain queue size item out) = []
kind_spare_refs l inside (Read object out) = []
kind_spare_refs l inside (Write object input) = []
kind_spare_refs l inside (Call vi inputs outputs) = []
kind_spare_refs l inside (Loop count stop iteration lines body) = []
kind_spare_refs l inside (Case selector lines arms) = []
kind_spare_refs l inside (Sequence parts) = []
kind_spare_refs l inside (InPlace lines body finish) = spare_refs (l + 1) (not inside) lines

abbrev pub all_spare_refs : Diagrams → List Entry → List Spot
all_spare_refs ds es = flat_map (λ e. kind_spare_refs e.line (ds e.diagram) e.kind) es

abbrev pub misplaced : List Entry → List Spot
misplaced es = strangers (bodies es) es ++ all_spare_refs (insides es) es
