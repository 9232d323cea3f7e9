-- What lines give and where they have no row follows from the types at the operands that they read.
use Rattle.std.proofs.Common.{◌≡◌, ℕ, ◌+◌, Bool, List, [], ◌∷◌, ◌++◌, length, refl, ap, ◌∙◌}
use Rattle.std.specs.Prelude.{Option, Some, None}
use Rattle.g_types.specs.Ty.{is_num}
use Rattle.g_types.specs.declared.ty.Ty.{Ty}
use Rattle.g_prims_definitions.specs.Kinds.{part, array_of, is_bool}
use Rattle.g_prims_definitions.specs.Rows.{is_element}
use Rattle.g_diagram.specs.declared.node.Tunnel.{Tunnel}
use Rattle.g_diagram.specs.declared.node.Tunnel.TheVariants as line
use Rattle.g_diagram.specs.Lines.{Wire, Arm, Kind, Const, Apply, Shows, Shared, Obtain, Read, Write, Call, Loop, Case, Sequence, InPlace}
use Rattle.g_typing.specs.Types.{Types, place, wire_type, wire_types, or_unwired, wire_at, both, then_type, element, referred, whole}
use Rattle.g_typing.specs.Rows.{unless, has_elements, names_value, has_part, fits_shared, line_misses, lines_miss, stop_operand, kind_misses, primitive_misses}
use Rattle.g_typing.specs.Typing.{carried, given, kept_if, line_inside, line_outside, lines_inside, lines_outside, result_type, type_or_next}
use Rattle.g_typing.proofs.Unique.{SameReads}

pub same_left : (M T : Types) (xs ys : List (ℕ × Wire)) → SameReads M T (xs ++ ys) → SameReads M T xs
same_left M T [] ys h = tt
same_left M T (x ∷ xs) ys h = (h.0, same_left M T xs ys h.1)

pub same_right : (M T : Types) (xs ys : List (ℕ × Wire)) → SameReads M T (xs ++ ys) → SameReads M T ys
same_right M T [] ys h = h
same_right M T (x ∷ xs) ys h = same_right M T xs ys h.1

-- the operands that a border line reads for what it gives inside
abbrev pub carry_reads : (before : Option ℕ) → Wire → List (ℕ × Wire)
carry_reads None w = []
carry_reads (Some b) w = (b, w) ∷ []

carried-local : (M T : Types) (before : Option ℕ) (w : Wire) → SameReads M T (carry_reads before w) → carried M before w ≡ carried T before w
carried-local M T None w h = refl
carried-local M T (Some b) w h = h.0

abbrev pub inside_reads : (d : ℕ) → (before : Option ℕ) → Tunnel → List (ℕ × Wire)
inside_reads d before (line.Tunnel outer inner) = (d, outer) ∷ []
inside_reads d before (line.Register initial inner next last) = (d, initial) ∷ []
inside_reads d before (line.Index array inner) = (d, array) ∷ []
inside_reads d before (line.Carry earlier inner) = carry_reads before earlier
inside_reads d before (line.Ref reference inner next same code) = (d, reference) ∷ []
inside_reads d before (line.Element array index inner next outer) = (d, array) ∷ []
inside_reads d before (line.Field k cluster inner next outer) = (d, cluster) ∷ []
inside_reads d before _ = []

pub line_inside-local : (M T : Types) (d b : ℕ) (before : Option ℕ) (t : Tunnel) → SameReads M T (inside_reads d before t) → line_inside M d b before t ≡ line_inside T d b before t
line_inside-local M T d b before (line.Tunnel outer inner) h = ap (given b inner) h.0
line_inside-local M T d b before (line.Register initial inner next last) h = ap (given b inner) h.0
line_inside-local M T d b before (line.Kept t inner next last) h = refl
line_inside-local M T d b before (line.Last inner outer) h = refl
line_inside-local M T d b before (line.Gather inner outer) h = refl
line_inside-local M T d b before (line.Index array inner) h = ap (λ o. given b inner (then_type o element)) h.0
line_inside-local M T d b before (line.Result outer default) h = refl
line_inside-local M T d b before (line.Carry earlier inner) h = ap (given b inner) (carried-local M T before earlier h)
line_inside-local M T d b before (line.Ref reference inner next same code) h = ap (λ o. given b inner (then_type o referred)) h.0
line_inside-local M T d b before (line.Element array index inner next outer) h = ap (λ o. given b inner (then_type o element)) h.0
line_inside-local M T d b before (line.Field k cluster inner next outer) h = ap (λ o. given b inner (then_type o (part k))) h.0

abbrev pub all_inside_reads : (d : ℕ) → (before : Option ℕ) → List Tunnel → List (ℕ × Wire)
all_inside_reads d before [] = []
all_inside_reads d before (t ∷ ts) = inside_reads d before t ++ all_inside_reads d before ts

pub lines_inside-local : (M T : Types) (d b : ℕ) (before : Option ℕ) (ts : List Tunnel) → SameReads M T (all_inside_reads d before ts) → lines_inside M d b before ts ≡ lines_inside T d b before ts
lines_inside-local M T d b before [] h = refl
lines_inside-local M T d b before (t ∷ ts) h =
    ap (λ gs. gs ++ lines_inside M d b before ts) (line_inside-local M T d b before t (same_left M T (inside_reads d before t) (all_inside_reads d before ts) h))
    ∙ ap (λ gs. line_inside T d b before t ++ gs) (lines_inside-local M T d b before ts (same_right M T (inside_reads d before t) (all_inside_reads d before ts) h))

-- those that it reads for what it gives outside
abbrev pub outside_reads : (d b : ℕ) → Tunnel → List (ℕ × Wire)
outside_reads d b (line.Last inner outer) = (b, inner) ∷ []
outside_reads d b (line.Gather inner outer) = (b, inner) ∷ []
outside_reads d b (line.Register initial inner next last) = (d, initial) ∷ []
outside_reads d b (line.Ref reference inner next same code) = (d, reference) ∷ []
outside_reads d b (line.Element array index inner next outer) = (d, array) ∷ []
outside_reads d b (line.Field k cluster inner next outer) = (d, cluster) ∷ []
outside_reads d b _ = []

pub line_outside-local : (M T : Types) (ok : Bool) (d b : ℕ) (t : Tunnel) → SameReads M T (outside_reads d b t) → line_outside M ok d b t ≡ line_outside T ok d b t
line_outside-local M T ok d b (line.Tunnel outer inner) h = refl
line_outside-local M T ok d b (line.Register initial inner next last) h = ap (λ o. given d last (kept_if ok o)) h.0
line_outside-local M T ok d b (line.Kept t inner next last) h = refl
line_outside-local M T ok d b (line.Last inner outer) h = ap (λ o. given d outer (kept_if ok o)) h.0
line_outside-local M T ok d b (line.Gather inner outer) h = ap (λ o. given d outer (kept_if ok (array_of o))) h.0
line_outside-local M T ok d b (line.Index array inner) h = refl
line_outside-local M T ok d b (line.Result outer default) h = refl
line_outside-local M T ok d b (line.Carry earlier inner) h = refl
line_outside-local M T ok d b (line.Ref reference inner next same code) h =
    ap (λ o. given d same (kept_if ok o) ++ given d code (kept_if ok (then_type o (λ t. Some whole)))) h.0
line_outside-local M T ok d b (line.Element array index inner next outer) h = ap (λ o. given d outer (kept_if ok o)) h.0
line_outside-local M T ok d b (line.Field k cluster inner next outer) h = ap (λ o. given d outer (kept_if ok o)) h.0

abbrev pub all_outside_reads : (d b : ℕ) → List Tunnel → List (ℕ × Wire)
all_outside_reads d b [] = []
all_outside_reads d b (t ∷ ts) = outside_reads d b t ++ all_outside_reads d b ts

pub lines_outside-local : (M T : Types) (ok : Bool) (d b : ℕ) (ts : List Tunnel) → SameReads M T (all_outside_reads d b ts) → lines_outside M ok d b ts ≡ lines_outside T ok d b ts
lines_outside-local M T ok d b [] h = refl
lines_outside-local M T ok d b (t ∷ ts) h =
    ap (λ gs. gs ++ lines_outside M ok d b ts) (line_outside-local M T ok d b t (same_left M T (outside_reads d b t) (all_outside_reads d b ts) h))
    ∙ ap (λ gs. line_outside T ok d b t ++ gs) (lines_outside-local M T ok d b ts (same_right M T (outside_reads d b t) (all_outside_reads d b ts) h))

-- those that rule 16 reads
abbrev pub miss_reads : (d b : ℕ) → Tunnel → List (ℕ × Wire)
miss_reads d b (line.Index array inner) = (d, array) ∷ []
miss_reads d b (line.Gather inner outer) = (b, inner) ∷ []
miss_reads d b (line.Ref reference inner next same code) = (d, reference) ∷ []
miss_reads d b (line.Element array index inner next outer) = (d, array) ∷ (d, index) ∷ []
miss_reads d b (line.Field k cluster inner next outer) = (d, cluster) ∷ []
miss_reads d b _ = []

pub line_misses-local : (M T : Types) (v d b l : ℕ) (t : Tunnel) → SameReads M T (miss_reads d b t) → line_misses M v d b l t ≡ line_misses T v d b l t
line_misses-local M T v d b l (line.Tunnel outer inner) h = refl
line_misses-local M T v d b l (line.Register initial inner next last) h = refl
line_misses-local M T v d b l (line.Kept t inner next last) h = refl
line_misses-local M T v d b l (line.Last inner outer) h = refl
line_misses-local M T v d b l (line.Gather inner outer) h = ap (λ o. unless o is_element (place v l 1)) h.0
line_misses-local M T v d b l (line.Index array inner) h = ap (λ o. unless o has_elements (place v l 1)) h.0
line_misses-local M T v d b l (line.Result outer default) h = refl
line_misses-local M T v d b l (line.Carry earlier inner) h = refl
line_misses-local M T v d b l (line.Ref reference inner next same code) h = ap (λ o. unless o names_value (place v l 1)) h.0
line_misses-local M T v d b l (line.Element array index inner next outer) h =
    ap (λ o. unless o has_elements (place v l 1) ++ unless (wire_type M d index) is_num (place v l 2)) h.0
    ∙ ap (λ o. unless (wire_type T d array) has_elements (place v l 1) ++ unless o is_num (place v l 2)) h.1.0
line_misses-local M T v d b l (line.Field k cluster inner next outer) h = ap (λ o. unless o (has_part k) (place v l 1)) h.0

abbrev pub all_miss_reads : (d b : ℕ) → List Tunnel → List (ℕ × Wire)
all_miss_reads d b [] = []
all_miss_reads d b (t ∷ ts) = miss_reads d b t ++ all_miss_reads d b ts

pub lines_miss-local : (M T : Types) (v d b l : ℕ) (ts : List Tunnel) → SameReads M T (all_miss_reads d b ts) → lines_miss M v d b l ts ≡ lines_miss T v d b l ts
lines_miss-local M T v d b l [] h = refl
lines_miss-local M T v d b l (t ∷ ts) h =
    ap (λ ps. ps ++ lines_miss M v d b (l + 1) ts) (line_misses-local M T v d b l t (same_left M T (miss_reads d b t) (all_miss_reads d b ts) h))
    ∙ ap (λ ps. line_misses T v d b l t ++ ps) (lines_miss-local M T v d b (l + 1) ts (same_right M T (miss_reads d b t) (all_miss_reads d b ts) h))

-- operands of one diagram
abbrev pub at_diagram : (d : ℕ) → List Wire → List (ℕ × Wire)
at_diagram d [] = []
at_diagram d (w ∷ ws) = (d, w) ∷ at_diagram d ws

pub wire_types-local : (M T : Types) (d : ℕ) (ws : List Wire) → SameReads M T (at_diagram d ws) → wire_types M d ws ≡ wire_types T d ws
wire_types-local M T d [] h = refl
wire_types-local M T d (w ∷ ws) h =
    ap (λ o. both o (wire_types M d ws)) h.0 ∙ ap (both (wire_type T d w)) (wire_types-local M T d ws h.1)

-- what the branches give for a result
abbrev pub result_reads : (k : ℕ) → List Arm → List (ℕ × Wire)
result_reads k [] = []
result_reads k (arm ∷ arms) = (arm.body, wire_at arm.gives k) ∷ result_reads k arms

one_result : (M T : Types) (b : ℕ) (w : Wire) (x y : Option Ty) → wire_type M b w ≡ wire_type T b w → x ≡ y → type_or_next M b w x ≡ type_or_next T b w y
one_result M T b None x y e f = f
one_result M T b (Some name) x y e f = e

pub result_type-local : (M T : Types) (k : ℕ) (arms : List Arm) → SameReads M T (result_reads k arms) → result_type M k arms ≡ result_type T k arms
result_type-local M T k [] h = refl
result_type-local M T k (arm ∷ arms) h =
    one_result M T arm.body (wire_at arm.gives k) (result_type M k arms) (result_type T k arms) h.0 (result_type-local M T k arms h.1)

-- what rule 16 reads of a node
abbrev pub kind_reads : (d : ℕ) → Kind → List (ℕ × Wire)
kind_reads d (Apply p inputs outputs) = at_diagram d inputs
kind_reads d (Shared op inputs outputs) = (d, wire_at inputs 0) ∷ []
kind_reads d (Loop count stop iteration lines body) = (d, or_unwired count) ∷ (body, or_unwired stop) ∷ all_miss_reads d body lines
kind_reads d (InPlace lines body finish) = all_miss_reads d body lines
kind_reads d _ = []

pub kind_misses-local : (M T : Types) (v l d : ℕ) (k : Kind) → SameReads M T (kind_reads d k) → kind_misses M v l d k ≡ kind_misses T v l d k
kind_misses-local M T v l d (Const t literal out) h = refl
kind_misses-local M T v l d (Apply p inputs outputs) h = ap (primitive_misses v l p (length outputs)) (wire_types-local M T d inputs h)
kind_misses-local M T v l d (Shows name t input) h = refl
kind_misses-local M T v l d (Shared op inputs outputs) h = ap (λ o. unless o (fits_shared op) (place v l 1)) h.0
kind_misses-local M T v l d (Obtain queue size item out) h = refl
kind_misses-local M T v l d (Read object out) h = refl
kind_misses-local M T v l d (Write object input) h = refl
kind_misses-local M T v l d (Call name inputs outputs) h = refl
kind_misses-local M T v l d (Loop count stop iteration lines body) h =
    ap (λ o. unless o is_num (place v l 1) ++ (unless (wire_type M body (or_unwired stop)) is_bool (place v l (stop_operand count)) ++ lines_miss M v d body (l + 1) lines)) h.0
    ∙ ap (λ o. unless (wire_type T d (or_unwired count)) is_num (place v l 1) ++ (unless o is_bool (place v l (stop_operand count)) ++ lines_miss M v d body (l + 1) lines)) h.1.0
    ∙ ap (λ ps. unless (wire_type T d (or_unwired count)) is_num (place v l 1) ++ (unless (wire_type T body (or_unwired stop)) is_bool (place v l (stop_operand count)) ++ ps))
    (lines_miss-local M T v d body (l + 1) lines h.1.1)
kind_misses-local M T v l d (Case selector lines arms) h = refl
kind_misses-local M T v l d (Sequence parts) h = refl
kind_misses-local M T v l d (InPlace lines body finish) h = lines_miss-local M T v d body (l + 1) lines h
