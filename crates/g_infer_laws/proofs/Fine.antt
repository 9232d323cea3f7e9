-- Lines that give each of their sources a type where their operands have types: where no row is missing, and each structure has lines of its
-- own alone.
use Rattle.std.proofs.Common.{◌≡◌, ℕ, ◌+◌, Bool, true, false, not, List, [], ◌∷◌, ◌++◌, length, refl, ap, arith}
use Rattle.std.proofs.lemmas.Bool.{false≢true}
use Rattle.std.specs.Prelude.{if◌then◌else◌, Option, Some, None, is_some}
use Rattle.std.specs.List.{AllByRecursion, Contains, list_all}
use Rattle.std.proofs.lemmas.List.Elements.{Contains-append_left, Contains-append_right}
use Rattle.g_types.specs.declared.ty.Ty.{Ty}
use Rattle.g_types.specs.Ty.{is_num}
use Rattle.g_values.specs.declared.primitive.Primitive.{Primitive}
use Rattle.g_prims_definitions.specs.Kinds.{is_bool}
use Rattle.g_prims_definitions.specs.Rows.{row_of, first_refused, is_shallow, is_element}
use Rattle.g_diagram.specs.declared.place.Place.{Place}
use Rattle.g_diagram.specs.declared.node.Tunnel.{Tunnel}
use Rattle.g_diagram.specs.declared.node.Tunnel.TheVariants as line
use Rattle.g_diagram.specs.Lines.{Part, Entry, Kind, Apply, Shared, Obtain, Loop, Case, Sequence, InPlace}
use Rattle.g_typing.specs.Types.{Types, place, wire_type, wire_types, or_unwired, wire_at}
use Rattle.g_typing.specs.Rows.{may_be, unless, has_elements, names_value, has_part, outputs_fit, row_misses, primitive_misses, fits_shared, line_misses, lines_miss, stop_operand, kind_misses, is_none_of}
use Rattle.g_infer_laws.specs.OwnLines.{is_loop_line, is_case_line, is_frame_line, is_place_line, have_frame_lines, has_own_lines}
use Rattle.g_wires.proofs.Found.{and_left, and_right}

-- ---- no place is told: then the node has rows

-- none of some places of a VI is told
abbrev pub NoneOf : (vi : ℕ) → List Place → Type 0
NoneOf v ps = (l o : ℕ) → Contains ps (place v l o) → ⊥

pub none_left : (v : ℕ) (xs ys : List Place) → NoneOf v (xs ++ ys) → NoneOf v xs
none_left v xs ys none l o is = none l o (Contains-append_left xs ys (place v l o) is)

pub none_right : (v : ℕ) (xs ys : List Place) → NoneOf v (xs ++ ys) → NoneOf v ys
none_right v xs ys none l o is = none l o (Contains-append_right xs ys (place v l o) is)

-- a place that stands there where a test fails
test_holds : (b : Bool) (v l o : ℕ) → NoneOf v (if b then [] else place v l o ∷ []) → b ≡ true
test_holds true v l o none = refl
test_holds false v l o none = absurd (none l o (0, omega arith, refl))

if_holds : (b : Bool) (p : Place) → b ≡ true → is_none_of (if b then [] else p ∷ []) ≡ true
if_holds b p e = ap (λ (c : Bool). is_none_of (if c then [] else p ∷ [])) e

both_none : (xs ys : List Place) → is_none_of xs ≡ true → is_none_of ys ≡ true → is_none_of (xs ++ ys) ≡ true
both_none [] ys h g = g
both_none (x ∷ xs) ys h g = absurd (false≢true h)

module _ (M : Types) (v : ℕ) where
  unless_none : (o : Option Ty) (kind : Ty → Bool) (l k : ℕ) → NoneOf v (unless o kind (place v l k)) → is_none_of (unless o kind (place 0 l k)) ≡ true
  unless_none o kind l k none = if_holds (may_be o kind) (place 0 l k) (test_holds (may_be o kind) v l k none)

  line_none : (d b l : ℕ) (t : Tunnel) → NoneOf v (line_misses M v d b l t) → is_none_of (line_misses M 0 d b l t) ≡ true
  line_none d b l (line.Index array inner) none = unless_none (wire_type M d array) has_elements l 1 none
  line_none d b l (line.Gather inner outer) none = unless_none (wire_type M b inner) is_element l 1 none
  line_none d b l (line.Ref reference inner next same code) none = unless_none (wire_type M d reference) names_value l 1 none
  line_none d b l (line.Element array index inner next outer) none =
      both_none (unless (wire_type M d array) has_elements (place 0 l 1)) (unless (wire_type M d index) is_num (place 0 l 2))
      (unless_none (wire_type M d array) has_elements l 1
      (none_left v (unless (wire_type M d array) has_elements (place v l 1)) (unless (wire_type M d index) is_num (place v l 2)) none))
      (unless_none (wire_type M d index) is_num l 2 (none_right v (unless (wire_type M d array) has_elements (place v l 1)) (unless (wire_type M d index) is_num (place v l 2)) none))
  line_none d b l (line.Field k cluster inner next outer) none = unless_none (wire_type M d cluster) (has_part k) l 1 none
  line_none d b l _ none = refl

  lines_none : (d b l : ℕ) (ts : List Tunnel) → NoneOf v (lines_miss M v d b l ts) → is_none_of (lines_miss M 0 d b l ts) ≡ true
  lines_none d b l [] none = refl
  lines_none d b l (t ∷ ts) none =
      both_none (line_misses M 0 d b l t) (lines_miss M 0 d b (l + 1) ts)
      (line_none d b l t (none_left v (line_misses M v d b l t) (lines_miss M v d b (l + 1) ts) none))
      (lines_none d b (l + 1) ts (none_right v (line_misses M v d b l t) (lines_miss M v d b (l + 1) ts) none))

  row_none : (l n : ℕ) (p : Primitive) (ts : List Ty) (r : Option (List Ty)) → NoneOf v (row_misses v l p n ts r) → is_none_of (row_misses 0 l p n ts r) ≡ true
  row_none l n p ts None none = absurd (none l (first_refused p ts) (0, omega arith, refl))
  row_none l n p ts (Some given) none = if_holds (outputs_fit p n (length given)) (place 0 l 1) (test_holds (outputs_fit p n (length given)) v l 1 none)

  primitive_none : (l n : ℕ) (p : Primitive) (ts : Option (List Ty)) → NoneOf v (primitive_misses v l p n ts) → is_none_of (primitive_misses 0 l p n ts) ≡ true
  primitive_none l n p None none = refl
  primitive_none l n p (Some ts) none = row_none l n p ts (row_of p ts) none

  pub kind_none : (l d : ℕ) (k : Kind) → NoneOf v (kind_misses M v l d k) → is_none_of (kind_misses M 0 l d k) ≡ true
  kind_none l d (Apply p inputs outputs) none = primitive_none l (length outputs) p (wire_types M d inputs) none
  kind_none l d (Shared op inputs outputs) none = unless_none (wire_type M d (wire_at inputs 0)) (fits_shared op) l 1 none
  kind_none l d (Obtain queue size item out) none = if_holds (is_shallow item) (place 0 l 0) (test_holds (is_shallow item) v l 0 none)
  kind_none l d (Loop count stop iteration lines body) none =
      let counts : ℕ → List Place = λ w. unless (wire_type M d (or_unwired count)) is_num (place w l 1) in
      let stops : ℕ → List Place = λ w. unless (wire_type M body (or_unwired stop)) is_bool (place w l (stop_operand count)) in
      let more : NoneOf v (stops v ++ lines_miss M v d body (l + 1) lines) = none_right v (counts v) (stops v ++ lines_miss M v d body (l + 1) lines) none in
      both_none (counts 0) (stops 0 ++ lines_miss M 0 d body (l + 1) lines)
      (unless_none (wire_type M d (or_unwired count)) is_num l 1 (none_left v (counts v) (stops v ++ lines_miss M v d body (l + 1) lines) none))
      (both_none (stops 0) (lines_miss M 0 d body (l + 1) lines)
      (unless_none (wire_type M body (or_unwired stop)) is_bool l (stop_operand count) (none_left v (stops v) (lines_miss M v d body (l + 1) lines) more))
      (lines_none d body (l + 1) lines (none_right v (stops v) (lines_miss M v d body (l + 1) lines) more)))
  kind_none l d (InPlace lines body finish) none = lines_none d body (l + 1) lines none
  kind_none l d _ none = refl

-- ---- what that says of border lines

first_none : (xs ys : List Place) → is_none_of (xs ++ ys) ≡ true → is_none_of xs ≡ true
first_none [] ys h = refl
first_none (x ∷ xs) ys h = absurd (false≢true h)

then_none : (xs ys : List Place) → is_none_of (xs ++ ys) ≡ true → is_none_of ys ≡ true
then_none [] ys h = h
then_none (x ∷ xs) ys h = absurd (false≢true h)

pub test_passed : (b : Bool) (p : Place) → is_none_of (if b then [] else p ∷ []) ≡ true → b ≡ true
test_passed true p h = refl
test_passed false p h = h

-- no line of a case alone; a `carry` has a frame before; what is taken apart has that part, if its type is known
abbrev pub IsFine : Types → (d : ℕ) → (before : Option ℕ) → Tunnel → Type 0
IsFine M d before (line.Index array inner) = may_be (wire_type M d array) has_elements ≡ true
IsFine M d before (line.Ref reference inner next same code) = may_be (wire_type M d reference) names_value ≡ true
IsFine M d before (line.Element array index inner next outer) = may_be (wire_type M d array) has_elements ≡ true
IsFine M d before (line.Field k cluster inner next outer) = may_be (wire_type M d cluster) (has_part k) ≡ true
IsFine M d before (line.Carry earlier inner) = is_some before ≡ true
IsFine M d before (line.Result outer default) = ⊥
IsFine M d before _ = Unit {0}

abbrev pub AreFine : Types → (d : ℕ) → (before : Option ℕ) → List Tunnel → Type 0
AreFine M d before ts = AllByRecursion (IsFine M d before) ts

abbrev pub PartsFine : Types → (d : ℕ) → (before : Option ℕ) → List Part → Type 0
PartsFine M d before [] = Unit {0}
PartsFine M d before (p ∷ ps) = AreFine M d before p.lines × PartsFine M d (Some p.body) ps

abbrev pub IsKindFine : Types → (d : ℕ) → Kind → Type 0
IsKindFine M d (Loop count stop iteration lines body) = AreFine M d None lines
IsKindFine M d (Case selector lines arms) = list_all is_case_line lines ≡ true
IsKindFine M d (Sequence parts) = PartsFine M d None parts
IsKindFine M d (InPlace lines body finish) = AreFine M d None lines
IsKindFine M d _ = Unit {0}

abbrev pub AllFine : Types → List Entry → Type 0
AllFine M es = AllByRecursion (λ e. IsKindFine M e.diagram e.kind) es

module _ (M : Types) where
  loop_line_fine : (d b l : ℕ) (t : Tunnel) → is_loop_line t ≡ true → is_none_of (line_misses M 0 d b l t) ≡ true → IsFine M d None t
  loop_line_fine d b l (line.Index array inner) own none = test_passed (may_be (wire_type M d array) has_elements) (place 0 l 1) none
  loop_line_fine d b l (line.Tunnel outer inner) own none = tt
  loop_line_fine d b l (line.Register initial inner next last) own none = tt
  loop_line_fine d b l (line.Kept t inner next last) own none = tt
  loop_line_fine d b l (line.Last inner outer) own none = tt
  loop_line_fine d b l (line.Gather inner outer) own none = tt
  loop_line_fine d b l _ own none = absurd (false≢true own)

  place_line_fine : (d b l : ℕ) (t : Tunnel) → is_place_line t ≡ true → is_none_of (line_misses M 0 d b l t) ≡ true → IsFine M d None t
  place_line_fine d b l (line.Tunnel outer inner) own none = tt
  place_line_fine d b l (line.Last inner outer) own none = tt
  place_line_fine d b l (line.Ref reference inner next same code) own none = test_passed (may_be (wire_type M d reference) names_value) (place 0 l 1) none
  place_line_fine d b l (line.Element array index inner next outer) own none =
      test_passed (may_be (wire_type M d array) has_elements) (place 0 l 1)
      (first_none (unless (wire_type M d array) has_elements (place 0 l 1)) (unless (wire_type M d index) is_num (place 0 l 2)) none)
  place_line_fine d b l (line.Field k cluster inner next outer) own none = test_passed (may_be (wire_type M d cluster) (has_part k)) (place 0 l 1) none
  place_line_fine d b l _ own none = absurd (false≢true own)

  all_fine : (is_own : Tunnel → Bool) → ((d b l : ℕ) (t : Tunnel) → is_own t ≡ true → is_none_of (line_misses M 0 d b l t) ≡ true → IsFine M d None t)
      → (d b l : ℕ) (ts : List Tunnel) → list_all is_own ts ≡ true → is_none_of (lines_miss M 0 d b l ts) ≡ true → AreFine M d None ts
  all_fine is_own one d b l [] own none = tt
  all_fine is_own one d b l (t ∷ ts) own none = (
    one d b l t (and_left (is_own t) (list_all is_own ts) own) (first_none (line_misses M 0 d b l t) (lines_miss M 0 d b (l + 1) ts) none),
    all_fine is_own one d b (l + 1) ts (and_right (is_own t) (list_all is_own ts) own) (then_none (line_misses M 0 d b l t) (lines_miss M 0 d b (l + 1) ts) none),
  )

  frame_line_fine : (d : ℕ) (before : Option ℕ) (t : Tunnel) → is_frame_line (not (is_some before)) t ≡ true → IsFine M d before t
  frame_line_fine d before (line.Tunnel outer inner) own = tt
  frame_line_fine d before (line.Last inner outer) own = tt
  frame_line_fine d None (line.Carry earlier inner) own = absurd (false≢true own)
  frame_line_fine d (Some b) (line.Carry earlier inner) own = refl
  frame_line_fine d before _ own = absurd (false≢true own)

  frame_fine : (d : ℕ) (before : Option ℕ) (ts : List Tunnel) → list_all (is_frame_line (not (is_some before))) ts ≡ true → AreFine M d before ts
  frame_fine d before [] own = tt
  frame_fine d before (t ∷ ts) own = (
    frame_line_fine d before t (and_left (is_frame_line (not (is_some before)) t) (list_all (is_frame_line (not (is_some before))) ts) own),
    frame_fine d before ts (and_right (is_frame_line (not (is_some before)) t) (list_all (is_frame_line (not (is_some before))) ts) own),
  )

  parts_fine : (d : ℕ) (before : Option ℕ) (ps : List Part) → have_frame_lines (not (is_some before)) ps ≡ true → PartsFine M d before ps
  parts_fine d before [] own = tt
  parts_fine d before (p ∷ ps) own = (
    frame_fine d before p.lines (and_left (list_all (is_frame_line (not (is_some before))) p.lines) (have_frame_lines false ps) own),
    parts_fine d (Some p.body) ps (and_right (list_all (is_frame_line (not (is_some before))) p.lines) (have_frame_lines false ps) own),
  )

  pub kind_fine : (l d : ℕ) (k : Kind) → has_own_lines k ≡ true → is_none_of (kind_misses M 0 l d k) ≡ true → IsKindFine M d k
  kind_fine l d (Loop count stop iteration lines body) own none =
      let counts : List Place = unless (wire_type M d (or_unwired count)) is_num (place 0 l 1) in
      let stops : List Place = unless (wire_type M body (or_unwired stop)) is_bool (place 0 l (stop_operand count)) in
      all_fine is_loop_line loop_line_fine d body (l + 1) lines own
      (then_none stops (lines_miss M 0 d body (l + 1) lines) (then_none counts (stops ++ lines_miss M 0 d body (l + 1) lines) none))
  kind_fine l d (Case selector lines arms) own none = own
  kind_fine l d (Sequence parts) own none = parts_fine d None parts own
  kind_fine l d (InPlace lines body finish) own none = all_fine is_place_line place_line_fine d body (l + 1) lines own none
  kind_fine l d _ own none = tt
