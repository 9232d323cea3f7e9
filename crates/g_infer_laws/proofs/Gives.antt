-- A node that breaks no rule gives each of its sources a type, where its operands have types.
use Rattle.std.proofs.Common.{◌≡◌, inl, inr, ⊎_elim, ℕ, zero, suc, ◌+◌, ◌==◌, Bool, true, false, not, ◌||◌, List, [], ◌∷◌, ◌++◌, map, length, refl, ap, sym, ◌∙◌, subst, arith}
use Rattle.std.specs.Prelude.{if◌then◌else◌, Option, Some, None, is_some, slice_get}
use Rattle.std.specs.List.{AllByRecursion, list_all, list_any}
use Rattle.std.specs.Option.{option_map}
use Rattle.std.specs.Str.{bytes_eq}
use Rattle.std.proofs.lemmas.Bool.{eqb-true, false≢true, not-false}
use Rattle.g_types.specs.declared.ty.Ty.{Ty}
use Rattle.g_types.specs.declared.ty.Ty.TheVariants as ty
use Rattle.g_values.specs.declared.primitive.Primitive.{Primitive}
use Rattle.g_values.specs.declared.primitive.Primitive.TheVariants as op
use Rattle.g_operations.specs.declared.row.Count.{Count}
use Rattle.g_operations.specs.declared.row.Count.TheVariants.{Exactly, Between, Any}
use Rattle.g_operations.specs.declared.shared.SharedOp.{SharedOp}
use Rattle.g_operations.specs.declared.shared.SharedOp.TheVariants as shared
use Rattle.g_operations.specs.Rows.{allows, fits, primitive_row, shared_row}
use Rattle.g_prims_definitions.specs.Kinds.{part, array_of}
use Rattle.g_prims_definitions.specs.Rows.{row_of}
use Rattle.g_prims_laws.proofs.Counts.{fits_row}
use Rattle.g_diagram.specs.declared.hierarchy.Vi.{Vi}
use Rattle.g_diagram.specs.declared.node.Tunnel.{Tunnel}
use Rattle.g_diagram.specs.declared.node.Tunnel.TheVariants as line
use Rattle.g_diagram.specs.declared.panel.PanelItem.{PanelItem}
use Rattle.g_diagram.specs.declared.panel.PanelItem.TheVariants.{Control, Indicator}
use Rattle.g_diagram.specs.Lines.{Wire, Arm, Part, Entry, Kind, Const, Apply, Shows, Shared, Obtain, Read, Write, Call, Loop, Case, Sequence, InPlace}
use Rattle.g_diagram.specs.Operands.{Outside, Inside, Operand, Line, Freedom, source, consumer, free_consumer, border, case_border, plain_line, border_lines, parts_lines, give_line, kind_lines}
use Rattle.g_diagram.specs.Ports.{first_vi}
use Rattle.g_typing.specs.Types.{Types, place, wire_type, wire_types, wire_at, or_unwired, then_type, element, queued, referred, whole}
use Rattle.g_typing.specs.Rows.{may_be, given_fit, outputs_fit, row_misses, primitive_misses, fits_shared, kind_misses, is_none_of}
use Rattle.g_typing.specs.Typing.{Given, given, given_each, kept_if, all_kept_if, row_after, with_code, shared_types, shared_after, carried, line_inside, line_outside, lines_inside, lines_outside, type_or_next, result_type, panel_type, indicator_types, panel_of, called_panel, controls_given}
use Rattle.g_typing.proofs.Unique.{Step}
use Rattle.g_typing.proofs.Local.{carry_reads, inside_reads, all_inside_reads, outside_reads, all_outside_reads, at_diagram, result_reads, kind_reads}
use Rattle.g_typing.proofs.NodeRoles.{in_append}
use Rattle.g_typing.proofs.Only.{IsIn}
use Rattle.g_typing.proofs.Steps.{arms_steps, results_steps, parts_steps, kind_steps}
use Rattle.g_rules_lines.specs.Arity.{fits_call}
use Rattle.g_rules_lines.specs.Callees.{arity, indicator_count}
use Rattle.g_rules_lines.specs.CaseResults.{is_given_at, gives_result, ungiven_in, ungiven_at, ungiven}
use Rattle.g_rules_lines.specs.PanelObjects.{names_object}
use Rattle.g_rules_lines.specs.Spots.{Spot, spot_at}
use Rattle.g_infer_laws.specs.OwnLines.{is_case_line}
use Rattle.g_wires.proofs.Found.{and_left, and_right}
use Rattle.g_infer_laws.proofs.Facts.{nil_left, nil_right, all_both, all_left, all_right}
use Rattle.g_infer_laws.proofs.Held.{OperandsHold, LineHolds, LinesHold}
use Rattle.g_infer_laws.proofs.Fine.{IsFine, AreFine, PartsFine, test_passed}
use Rattle.g_infer_laws.proofs.Rules.{Fed, IsRight}

-- each of what is given has a type
abbrev pub GivesType : Given → Type 0
GivesType g = is_some g.type ≡ true

abbrev pub HaveTypes : List Given → Type 0
HaveTypes gs = AllByRecursion GivesType gs

one_typed : (d : ℕ) (w : Wire) (o : Option Ty) → is_some o ≡ true → HaveTypes (given d w o)
one_typed d None o h = tt
one_typed d (Some n) o h = (h, tt)

pub controls_typed : (items : List PanelItem) → HaveTypes (controls_given items)
controls_typed [] = tt
controls_typed (Control name t required default out ∷ items) = all_both GivesType (given 0 out (Some t)) (controls_given items) (one_typed 0 out (Some t) refl) (controls_typed items)
controls_typed (Indicator name t w ∷ items) = controls_typed items

each_typed : (d : ℕ) (ws : List Wire) (ts : List Ty) → length ws ≡ length ts → HaveTypes (given_each d ws ts)
each_typed d [] ts same = tt
each_typed d (w ∷ ws) [] same = absurd (omega (arith, same))
each_typed d (w ∷ ws) (t ∷ ts) same =
    all_both GivesType (given d w (Some t)) (given_each d ws ts) (one_typed d w (Some t) refl) (each_typed d ws ts (omega (arith, same)))

-- ---- what an operation gives

-- so many types are given, if any
abbrev Gives : Option (List Ty) → ℕ → Type 0
Gives o n = (us : List Ty) × (o ≡ Some us) × (n ≡ length us)

outputs_typed : (d : ℕ) (ws : List Wire) (o : Option (List Ty)) → Gives o (length ws) → HaveTypes (given_each d ws (all_kept_if true o))
outputs_typed d ws o g = subst (λ (p : Option (List Ty)). HaveTypes (given_each d ws (all_kept_if true p))) (sym g.1) (each_typed d ws g.0 g.2)

-- a primitive has a number of outputs, or leaves it to its row
abbrev IsOne : Count → Type 0
IsOne (Exactly k) = Unit {0}
IsOne (Between least most) = ⊥
IsOne Any = Unit {0}

one_count : (p : Primitive) → IsOne (primitive_row p).outputs
one_count op.Add = tt
one_count _ = tt

same_count : (c : Count) (m n : ℕ) → IsOne c → allows c m ≡ true → allows c n ≡ true → given_fit c m n ≡ true → m ≡ n
same_count (Exactly k) m n one a b fit = eqb-true m k a ∙ sym (eqb-true n k b)
same_count (Between least most) m n one a b fit = absurd one
same_count Any m n one a b fit = eqb-true m n fit

row_gives : (l : ℕ) (p : Primitive) (i m : ℕ) (ts : List Ty) (o : Option (List Ty)) → row_of p ts ≡ o → is_none_of (row_misses 0 l p m ts o) ≡ true → fits (primitive_row p) i m ≡ true → Gives o m
row_gives l p i m ts None e none fit = absurd (false≢true none)
row_gives l p i m ts (Some us) e none fit = (
  us,
  refl,
  same_count (primitive_row p).outputs m (length us) (one_count p) (and_right (allows (primitive_row p).inputs i) (allows (primitive_row p).outputs m) fit)
      (and_right (allows (primitive_row p).inputs (length ts)) (allows (primitive_row p).outputs (length us)) (fits_row p ts us e))
      (test_passed (outputs_fit p m (length us)) (place 0 l 1) none),
)

primitive_gives : (l : ℕ) (p : Primitive) (i m : ℕ) (ts : List Ty) → is_none_of (primitive_misses 0 l p m (Some ts)) ≡ true → fits (primitive_row p) i m ≡ true → Gives (row_after p (Some ts)) m
primitive_gives l p i m ts none fit = row_gives l p i m ts (row_of p ts) refl none fit

with_code_gives : (o : Option Ty) (m : ℕ) → is_some o ≡ true → (m == 2) ≡ true → Gives (with_code o) m
with_code_gives None m some fit = absurd (false≢true some)
with_code_gives (Some t) m some fit = (t ∷ whole ∷ [], refl, eqb-true m 2 fit)

shared_gives : (p : SharedOp) (q : Ty) (i m : ℕ) → fits_shared p q ≡ true → fits (shared_row p) i m ≡ true → Gives (shared_types p q) m
shared_gives shared.Enqueue q i m may fit = (whole ∷ [], refl, eqb-true m 1 (and_right (i == 2) (m == 1) fit))
shared_gives shared.Dequeue q i m may fit = with_code_gives (queued q) m may (and_right (i == 1) (m == 2) fit)
shared_gives shared.Release q i m may fit = (whole ∷ [], refl, eqb-true m 1 (and_right (i == 1) (m == 1) fit))
shared_gives shared.Size q i m may fit = (whole ∷ whole ∷ [], refl, eqb-true m 2 (and_right (i == 1) (m == 2) fit))
shared_gives shared.NewRef q i m may fit = (ty.ValueRef q ∷ [], refl, eqb-true m 1 (and_right (i == 1) (m == 1) fit))
shared_gives shared.DelRef q i m may fit = with_code_gives (referred q) m may (and_right (i == 1) (m == 2) fit)

-- a shared operation has an input
has_input : (p : SharedOp) (m : ℕ) → fits (shared_row p) 0 m ≡ true → ⊥
has_input shared.Enqueue m h = false≢true h
has_input shared.Dequeue m h = false≢true h
has_input shared.Release m h = false≢true h
has_input shared.Size m h = false≢true h
has_input shared.NewRef m h = false≢true h
has_input shared.DelRef m h = false≢true h

-- ---- panels

indicators_are : (items : List PanelItem) → indicator_count items ≡ length (indicator_types items)
indicators_are [] = refl
indicators_are (Control name t required default out ∷ items) = indicators_are items
indicators_are (Indicator name t w ∷ items) = ap suc (indicators_are items)

call_gives : (o : Option Vi) (i m : ℕ) → not (is_some (option_map arity o)) ≡ false → fits_call (option_map arity o) i m ≡ true → m ≡ length (indicator_types (panel_of o))
call_gives None i m there fit = absurd cc
call_gives (Some vi) i m there fit = eqb-true m (indicator_count vi.panel) (and_right (i == (arity vi).0) (m == (arity vi).1) fit) ∙ indicators_are vi.panel

if_same : (b : Bool) (t : Ty) (o : Option Ty) → (b ≡ false → is_some o ≡ true) → is_some (if b then Some t else o) ≡ true
if_same true t o h = refl
if_same false t o h = h refl

or_later : (b c : Bool) → (b || c) ≡ true → b ≡ false → c ≡ true
or_later true c h e = absurd cc
or_later false c h e = h

object_typed : (items : List PanelItem) (name : List ℕ) → names_object items name ≡ true → is_some (panel_type items name) ≡ true
object_typed [] name h = absurd (false≢true h)
object_typed (Control other t required default out ∷ items) name h =
    if_same (bytes_eq other name) t (panel_type items name) (λ e. object_typed items name (or_later (bytes_eq other name) (names_object items name) h e))
object_typed (Indicator other t w ∷ items) name h =
    if_same (bytes_eq other name) t (panel_type items name) (λ e. object_typed items name (or_later (bytes_eq other name) (names_object items name) h e))

-- ---- types of parts

then_known : (o : Option Ty) (f : Ty → Option Ty) → is_some o ≡ true → may_be o (λ t. is_some (f t)) ≡ true → is_some (then_type o f) ≡ true
then_known None f some may = absurd (false≢true some)
then_known (Some t) f some may = may

whole_known : (o : Option Ty) → is_some o ≡ true → is_some (then_type o (λ t. Some whole)) ≡ true
whole_known None some = absurd (false≢true some)
whole_known (Some t) some = refl

array_known : (o : Option Ty) → is_some o ≡ true → is_some (array_of o) ≡ true
array_known None some = absurd (false≢true some)
array_known (Some t) some = refl

-- the diagrams before a frame
abbrev pub numbers_of : Option ℕ → List ℕ
numbers_of None = []
numbers_of (Some b) = b ∷ []

-- a border line of a structure with one diagram, or of one frame
abbrev at_border : Entry → (b : ℕ) → (before : Option ℕ) → (line : ℕ) → Tunnel → Line
at_border e b before l t = record { line = l; node = e.line; outside = e.diagram; inside = b ∷ []; before = numbers_of before; operands = border t }

module _ (M : Types) (G : ℕ → List ℕ → Type 0) where
  -- a name that is given has a type
  abbrev pub IfGiven : ℕ → Wire → Type 0
  IfGiven d None = Unit {0}
  IfGiven d (Some name) = G d name → is_some (M d name) ≡ true

  abbrev IsReadTyped : ℕ × Wire → Type 0
  IsReadTyped q = IfGiven q.0 q.1

  abbrev pub AllIfGiven : List (ℕ × Wire) → Type 0
  AllIfGiven qs = AllByRecursion IsReadTyped qs

  -- a step gives types, where what it reads has types
  abbrev pub Typed : Step → Type 0
  Typed s = AllIfGiven s.reads → HaveTypes (s.gives M)

  wire_known : (d : ℕ) (w : Wire) → Fed G false false d w → IfGiven d w → is_some (wire_type M d w) ≡ true
  wire_known d None fed has = absurd (false≢true fed)
  wire_known d (Some n) fed has = has fed

  -- ---- border lines

  carry_typed : (e : Entry) (b : ℕ) (before : Option ℕ) (l : ℕ) (earlier inner : Wire) → is_some before ≡ true
      → OperandsHold (Fed G) (at_border e b before l (line.Carry earlier inner)) (border (line.Carry earlier inner)) → AllIfGiven (carry_reads before earlier)
      → HaveTypes (given b inner (carried M before earlier))
  carry_typed e b None l earlier inner some fed has = absurd (false≢true some)
  carry_typed e b (Some y) l earlier inner some fed has = one_typed b inner (wire_type M y earlier) (wire_known y earlier fed.0.0 has.0)

  inside_typed : (e : Entry) (b : ℕ) (before : Option ℕ) (l : ℕ) (t : Tunnel) → IsFine M e.diagram before t → OperandsHold (Fed G) (at_border e b before l t) (border t)
      → AllIfGiven (inside_reads e.diagram before t) → HaveTypes (line_inside M e.diagram b before t)
  inside_typed e b before l (line.Tunnel outer inner) fine fed has = one_typed b inner (wire_type M e.diagram outer) (wire_known e.diagram outer fed.0 has.0)
  inside_typed e b before l (line.Register initial inner next last) fine fed has = one_typed b inner (wire_type M e.diagram initial) (wire_known e.diagram initial fed.0 has.0)
  inside_typed e b before l (line.Kept t inner next last) fine fed has = one_typed b inner (Some t) refl
  inside_typed e b before l (line.Last inner outer) fine fed has = tt
  inside_typed e b before l (line.Gather inner outer) fine fed has = tt
  inside_typed e b before l (line.Index array inner) fine fed has =
      one_typed b inner (then_type (wire_type M e.diagram array) element) (then_known (wire_type M e.diagram array) element (wire_known e.diagram array fed.0 has.0) fine)
  inside_typed e b before l (line.Result outer default) fine fed has = tt
  inside_typed e b before l (line.Carry earlier inner) fine fed has = carry_typed e b before l earlier inner fine fed has
  inside_typed e b before l (line.Ref reference inner next same code) fine fed has =
      one_typed b inner (then_type (wire_type M e.diagram reference) referred) (then_known (wire_type M e.diagram reference) referred (wire_known e.diagram reference fed.0 has.0) fine)
  inside_typed e b before l (line.Element array index inner next outer) fine fed has =
      one_typed b inner (then_type (wire_type M e.diagram array) element) (then_known (wire_type M e.diagram array) element (wire_known e.diagram array fed.0 has.0) fine)
  inside_typed e b before l (line.Field k cluster inner next outer) fine fed has =
      one_typed b inner (then_type (wire_type M e.diagram cluster) (part k)) (then_known (wire_type M e.diagram cluster) (part k) (wire_known e.diagram cluster fed.0 has.0) fine)

  outside_typed : (e : Entry) (b : ℕ) (before : Option ℕ) (l : ℕ) (t : Tunnel) → OperandsHold (Fed G) (at_border e b before l t) (border t)
      → AllIfGiven (outside_reads e.diagram b t) → HaveTypes (line_outside M true e.diagram b t)
  outside_typed e b before l (line.Last inner outer) fed has = one_typed e.diagram outer (wire_type M b inner) (wire_known b inner fed.0.0 has.0)
  outside_typed e b before l (line.Gather inner outer) fed has =
      one_typed e.diagram outer (array_of (wire_type M b inner)) (array_known (wire_type M b inner) (wire_known b inner fed.0.0 has.0))
  outside_typed e b before l (line.Register initial inner next last) fed has =
      one_typed e.diagram last (wire_type M e.diagram initial) (wire_known e.diagram initial fed.0 has.0)
  outside_typed e b before l (line.Kept t inner next last) fed has = one_typed e.diagram last (Some t) refl
  outside_typed e b before l (line.Ref reference inner next same code) fed has =
      let o : Option Ty = wire_type M e.diagram reference in
      let some : is_some o ≡ true = wire_known e.diagram reference fed.0 has.0 in
      all_both GivesType (given e.diagram same o) (given e.diagram code (then_type o (λ t. Some whole))) (one_typed e.diagram same o some)
      (one_typed e.diagram code (then_type o (λ t. Some whole)) (whole_known o some))
  outside_typed e b before l (line.Element array index inner next outer) fed has = one_typed e.diagram outer (wire_type M e.diagram array) (wire_known e.diagram array fed.0 has.0)
  outside_typed e b before l (line.Field k cluster inner next outer) fed has = one_typed e.diagram outer (wire_type M e.diagram cluster) (wire_known e.diagram cluster fed.0 has.0)
  outside_typed e b before l _ fed has = tt

  all_inside : (e : Entry) (b : ℕ) (before : Option ℕ) (l : ℕ) (ts : List Tunnel) → AreFine M e.diagram before ts
      → LinesHold (Fed G) (border_lines e (b ∷ []) (numbers_of before) border l ts) → AllIfGiven (all_inside_reads e.diagram before ts) → HaveTypes (lines_inside M e.diagram b before ts)
  all_inside e b before l [] fine fed has = tt
  all_inside e b before l (t ∷ ts) fine fed has =
      all_both GivesType (line_inside M e.diagram b before t) (lines_inside M e.diagram b before ts)
      (inside_typed e b before l t fine.0 fed.0 (all_left IsReadTyped (inside_reads e.diagram before t) (all_inside_reads e.diagram before ts) has))
      (all_inside e b before (l + 1) ts fine.1 fed.1 (all_right IsReadTyped (inside_reads e.diagram before t) (all_inside_reads e.diagram before ts) has))

  all_outside : (e : Entry) (b : ℕ) (before : Option ℕ) (l : ℕ) (ts : List Tunnel)
      → LinesHold (Fed G) (border_lines e (b ∷ []) (numbers_of before) border l ts) → AllIfGiven (all_outside_reads e.diagram b ts) → HaveTypes (lines_outside M true e.diagram b ts)
  all_outside e b before l [] fed has = tt
  all_outside e b before l (t ∷ ts) fed has =
      all_both GivesType (line_outside M true e.diagram b t) (lines_outside M true e.diagram b ts)
      (outside_typed e b before l t fed.0 (all_left IsReadTyped (outside_reads e.diagram b t) (all_outside_reads e.diagram b ts) has))
      (all_outside e b before (l + 1) ts fed.1 (all_right IsReadTyped (outside_reads e.diagram b t) (all_outside_reads e.diagram b ts) has))

  -- ---- cases

  case_line_typed : (e : Entry) (b : ℕ) (bs : List ℕ) (l : ℕ) (t : Tunnel) → is_case_line t ≡ true
      → OperandsHold (Fed G) (record { line = l; node = e.line; outside = e.diagram; inside = bs; before = []; operands = case_border t }) (case_border t)
      → AllIfGiven (inside_reads e.diagram None t) → HaveTypes (line_inside M e.diagram b None t)
  case_line_typed e b bs l (line.Tunnel outer inner) own fed has = one_typed b inner (wire_type M e.diagram outer) (wire_known e.diagram outer fed.0 has.0)
  case_line_typed e b bs l (line.Result outer default) own fed has = tt
  case_line_typed e b bs l _ own fed has = absurd (false≢true own)

  case_lines_typed : (e : Entry) (b : ℕ) (bs : List ℕ) (l : ℕ) (ts : List Tunnel) → list_all is_case_line ts ≡ true
      → LinesHold (Fed G) (border_lines e bs [] case_border l ts) → AllIfGiven (all_inside_reads e.diagram None ts) → HaveTypes (lines_inside M e.diagram b None ts)
  case_lines_typed e b bs l [] own fed has = tt
  case_lines_typed e b bs l (t ∷ ts) own fed has =
      all_both GivesType (line_inside M e.diagram b None t) (lines_inside M e.diagram b None ts)
      (case_line_typed e b bs l t (and_left (is_case_line t) (list_all is_case_line ts) own) fed.0 (all_left IsReadTyped (inside_reads e.diagram None t) (all_inside_reads e.diagram None ts) has))
      (case_lines_typed e b bs (l + 1) ts (and_right (is_case_line t) (list_all is_case_line ts) own) fed.1 (all_right IsReadTyped (inside_reads e.diagram None t) (all_inside_reads e.diagram None ts) has))

  arms_typed : (e : Entry) (bs : List ℕ) (l : ℕ) (ts : List Tunnel) → list_all is_case_line ts ≡ true → LinesHold (Fed G) (border_lines e bs [] case_border l ts)
      → (arms : List Arm) (s : Step) → IsIn s (arms_steps e.diagram ts arms) → Typed s
  arms_typed e bs l ts own fed [] s is = absurd is
  arms_typed e bs l ts own fed (arm ∷ arms) s (inl q) = subst Typed q (λ has. case_lines_typed e arm.body bs l ts own fed has)
  arms_typed e bs l ts own fed (arm ∷ arms) s (inr is) = arms_typed e bs l ts own fed arms s is

  -- what a branch gives for result k
  given_fed : (e : Entry) (arm : Arm) (ws : List Wire) (k : ℕ) → OperandsHold (Fed G) (give_line e arm) (map (free_consumer Inside) ws) → Fed G false true arm.body (wire_at ws k)
  given_fed e arm [] zero fed = refl
  given_fed e arm [] (suc k) fed = refl
  given_fed e arm (w ∷ ws) zero fed = fed.0.0
  given_fed e arm (w ∷ ws) (suc k) fed = given_fed e arm ws k fed.1

  one_result : (b : ℕ) (w : Wire) (rest : Option Ty) → Fed G false true b w → IfGiven b w → (is_some w ≡ false → is_some rest ≡ true) → is_some (type_or_next M b w rest) ≡ true
  one_result b None rest fed has others = others refl
  one_result b (Some n) rest fed has others = has fed

  is_wired_at : (o : Option Wire) → is_given_at o ≡ is_some (or_unwired o)
  is_wired_at None = refl
  is_wired_at (Some w) = refl

  result_known : (e : Entry) (k : ℕ) (arms : List Arm) → LinesHold (Fed G) (map (give_line e) arms) → list_any (gives_result k) arms ≡ true → AllIfGiven (result_reads k arms)
      → is_some (result_type M k arms) ≡ true
  result_known e k [] fed any has = absurd (false≢true any)
  result_known e k (arm ∷ arms) fed any has =
      one_result arm.body (wire_at arm.gives k) (result_type M k arms) (given_fed e arm arm.gives k fed.0) has.0
      (λ none. result_known e k arms fed.1 (or_later (gives_result k arm) (list_any (gives_result k) arms) any (is_wired_at (slice_get arm.gives k) ∙ none)) has.1)

  if_empty : (b : Bool) (s : Spot) → (if b then [] else s ∷ []) ≡ [] → b ≡ true
  if_empty true s e = refl
  if_empty false s e = absurd (cc e)

  some_gives : (l k : ℕ) (default : Bool) (arms : List Arm) → ungiven_at l k default arms ≡ [] → list_any (gives_result k) arms ≡ true
  some_gives l k default arms e =
      if_empty (list_any (gives_result k) arms) (spot_at l 1)
      (nil_right (if default then [] else ungiven_in k arms) (if list_any (gives_result k) arms then [] else spot_at l 1 ∷ []) e)

  results_typed : (e : Entry) (arms : List Arm) → LinesHold (Fed G) (map (give_line e) arms) → (l k : ℕ) (ts : List Tunnel) → list_all is_case_line ts ≡ true
      → ungiven l k arms ts ≡ [] → (s : Step) → IsIn s (results_steps e.diagram k arms ts) → Typed s
  results_typed e arms fed l k [] own told s is = absurd is
  results_typed e arms fed l k (line.Tunnel outer inner ∷ ts) own told s (inl q) = subst Typed q (λ has. tt)
  results_typed e arms fed l k (line.Tunnel outer inner ∷ ts) own told s (inr is) = results_typed e arms fed (l + 1) k ts own told s is
  results_typed e arms fed l k (line.Result outer default ∷ ts) own told s (inl q) =
      subst Typed q
      (λ has. one_typed e.diagram outer (result_type M k arms)
      (result_known e k arms fed (some_gives l k default arms (nil_left (ungiven_at l k default arms) (ungiven (l + 1) (k + 1) arms ts) told)) has))
  results_typed e arms fed l k (line.Result outer default ∷ ts) own told s (inr is) =
      results_typed e arms fed (l + 1) (k + 1) ts own (nil_right (ungiven_at l k default arms) (ungiven (l + 1) (k + 1) arms ts) told) s is
  results_typed e arms fed l k (_ ∷ ts) own told s is = absurd (false≢true own)

  -- ---- frames

  parts_typed : (e : Entry) (before : Option ℕ) (ps : List Part) → PartsFine M e.diagram before ps → LinesHold (Fed G) (parts_lines e (numbers_of before) ps)
      → (s : Step) → IsIn s (parts_steps e.diagram before ps) → Typed s
  parts_typed e before [] fine fed s is = absurd is
  parts_typed e before (p ∷ ps) fine fed s (inl q) =
      subst Typed q
      (λ has. all_inside e p.body before (p.body + 1) p.lines fine.0
      (all_left (LineHolds (Fed G)) (border_lines e (p.body ∷ []) (numbers_of before) border (p.body + 1) p.lines) (parts_lines e (p.body ∷ []) ps) fed) has)
  parts_typed e before (p ∷ ps) fine fed s (inr (inl q)) =
      subst Typed q
      (λ has. all_outside e p.body before (p.body + 1) p.lines
      (all_left (LineHolds (Fed G)) (border_lines e (p.body ∷ []) (numbers_of before) border (p.body + 1) p.lines) (parts_lines e (p.body ∷ []) ps) fed) has)
  parts_typed e before (p ∷ ps) fine fed s (inr (inr is)) =
      parts_typed e (Some p.body) ps fine.1
      (all_right (LineHolds (Fed G)) (border_lines e (p.body ∷ []) (numbers_of before) border (p.body + 1) p.lines) (parts_lines e (p.body ∷ []) ps) fed) s is

  -- ---- nodes

  inputs_known : (l : Line) (ws : List Wire) (os : List Operand) → OperandsHold (Fed G) l (map (consumer Outside) ws ++ os) → AllIfGiven (at_diagram l.outside ws)
      → (ts : List Ty) × (wire_types M l.outside ws ≡ Some ts)
  inputs_known l [] os fed has = ([], refl)
  inputs_known l (w ∷ ws) os fed has = one (wire_type M l.outside w) refl (wire_known l.outside w fed.0 has.0) (inputs_known l ws os fed.1 has.1)
    where
      one : (o : Option Ty) → wire_type M l.outside w ≡ o → is_some o ≡ true → (ts : List Ty) × (wire_types M l.outside ws ≡ Some ts) → (ts : List Ty) × (wire_types M l.outside (w ∷ ws) ≡ Some ts)
      one None q some rest = absurd (false≢true some)
      one (Some t) q some rest = (t ∷ rest.0, rw (q) (rw (rest.1) refl))

  apply_typed : (l : Line) (p : Primitive) (ins outs : List Wire) → is_none_of (kind_misses M 0 l.line l.outside (Apply p ins outs)) ≡ true
      → fits (primitive_row p) (length ins) (length outs) ≡ true → OperandsHold (Fed G) l (map (consumer Outside) ins ++ map (source Outside) outs)
      → AllIfGiven (at_diagram l.outside ins)
      → HaveTypes (given_each l.outside outs (all_kept_if (is_none_of (kind_misses M 0 l.line l.outside (Apply p ins outs))) (row_after p (wire_types M l.outside ins))))
  apply_typed l p ins outs rows fit fed has =
      let known = inputs_known l ins (map (source Outside) outs) fed has in
      let none : is_none_of (primitive_misses 0 l.line p (length outs) (Some known.0)) ≡ true =
      subst (λ (o : Option (List Ty)). is_none_of (primitive_misses 0 l.line p (length outs) o) ≡ true) known.1 rows in
      subst (λ (b : Bool). HaveTypes (given_each l.outside outs (all_kept_if b (row_after p (wire_types M l.outside ins))))) (sym rows)
      (subst (λ (o : Option (List Ty)). HaveTypes (given_each l.outside outs (all_kept_if true (row_after p o)))) (sym known.1)
      (outputs_typed l.outside outs (row_after p (Some known.0)) (primitive_gives l.line p (length ins) (length outs) known.0 none fit)))

  first_fed : (l : Line) (p : SharedOp) (ins : List Wire) (m : ℕ) (os : List Operand) → fits (shared_row p) (length ins) m ≡ true → OperandsHold (Fed G) l (map (consumer Outside) ins ++ os)
      → Fed G false false l.outside (wire_at ins 0)
  first_fed l p [] m os fit fed = absurd (has_input p m fit)
  first_fed l p (w ∷ ws) m os fit fed = fed.0

  shared_known : (o : Option Ty) (p : SharedOp) (i m : ℕ) → is_some o ≡ true → may_be o (fits_shared p) ≡ true → fits (shared_row p) i m ≡ true → Gives (shared_after p o) m
  shared_known None p i m some may fit = absurd (false≢true some)
  shared_known (Some t) p i m some may fit = shared_gives p t i m may fit

  shared_typed : (l : Line) (p : SharedOp) (ins outs : List Wire) → is_none_of (kind_misses M 0 l.line l.outside (Shared p ins outs)) ≡ true
      → fits (shared_row p) (length ins) (length outs) ≡ true → OperandsHold (Fed G) l (map (consumer Outside) ins ++ map (source Outside) outs)
      → IfGiven l.outside (wire_at ins 0)
      → HaveTypes (given_each l.outside outs (all_kept_if (is_none_of (kind_misses M 0 l.line l.outside (Shared p ins outs))) (shared_after p (wire_type M l.outside (wire_at ins 0)))))
  shared_typed l p ins outs rows fit fed has =
      let o : Option Ty = wire_type M l.outside (wire_at ins 0) in
      let some : is_some o ≡ true = wire_known l.outside (wire_at ins 0) (first_fed l p ins (length outs) (map (source Outside) outs) fit fed) has in
      subst (λ (b : Bool). HaveTypes (given_each l.outside outs (all_kept_if b (shared_after p o)))) (sym rows)
      (outputs_typed l.outside outs (shared_after p o) (shared_known o p (length ins) (length outs) some (test_passed (may_be o (fits_shared p)) (place 0 l.line 1) rows) fit))

  -- the steps of a node
  pub kind_typed : (vis : List Vi) (panel : List PanelItem) (free : Freedom) (e : Entry) (k : Kind) → IsRight vis panel M e.line e.diagram k → LinesHold (Fed G) (kind_lines free e k)
      → (s : Step) → IsIn s (kind_steps (called_panel vis) (panel_type panel) e.line e.diagram k) → Typed s
  kind_typed vis panel free e (Const t literal out) right fed s (inl q) = subst Typed q (λ has. one_typed e.diagram out (Some t) refl)
  kind_typed vis panel free e (Const t literal out) right fed s (inr q) = absurd q
  kind_typed vis panel free e (Apply p ins outs) right fed s (inl q) =
      subst Typed q (λ has. apply_typed (plain_line e (map (consumer Outside) ins ++ map (source Outside) outs)) p ins outs right.rows right.counted fed.0 has)
  kind_typed vis panel free e (Apply p ins outs) right fed s (inr q) = absurd q
  kind_typed vis panel free e (Shows name t w) right fed s is = absurd is
  kind_typed vis panel free e (Shared p ins outs) right fed s (inl q) =
      subst Typed q (λ has. shared_typed (plain_line e (map (consumer Outside) ins ++ map (source Outside) outs)) p ins outs right.rows right.counted fed.0 has.0)
  kind_typed vis panel free e (Shared p ins outs) right fed s (inr q) = absurd q
  kind_typed vis panel free e (Obtain queue size item out) right fed s (inl q) =
      subst Typed q (λ has. subst (λ (b : Bool). HaveTypes (given e.diagram out (kept_if b (Some (ty.QueueRef item))))) (sym right.rows) (one_typed e.diagram out (Some (ty.QueueRef item)) refl))
  kind_typed vis panel free e (Obtain queue size item out) right fed s (inr q) = absurd q
  kind_typed vis panel free e (Read object out) right fed s (inl q) =
      subst Typed q (λ has. one_typed e.diagram out (panel_type panel object) (object_typed panel object (not-false (names_object panel object) right.located)))
  kind_typed vis panel free e (Read object out) right fed s (inr q) = absurd q
  kind_typed vis panel free e (Write object input) right fed s is = absurd is
  kind_typed vis panel free e (Call name ins outs) right fed s (inl q) =
      subst Typed q (λ has. each_typed e.diagram outs (indicator_types (called_panel vis name)) (call_gives (first_vi vis name) (length ins) (length outs) right.called right.counted))
  kind_typed vis panel free e (Call name ins outs) right fed s (inr q) = absurd q
  kind_typed vis panel free e (Loop count stop iteration ts body) right fed s (inl q) = subst Typed q (λ has. one_typed body iteration (Some whole) refl)
  kind_typed vis panel free e (Loop count stop iteration ts body) right fed s (inr (inl q)) =
      subst Typed q (λ has. all_inside e body None (e.line + 1) ts right.fine fed.1 has)
  kind_typed vis panel free e (Loop count stop iteration ts body) right fed s (inr (inr (inl q))) =
      subst Typed q
      (λ has. subst (λ (b : Bool). HaveTypes (lines_outside M b e.diagram body ts)) (sym right.rows)
      (all_outside e body None (e.line + 1) ts fed.1 (all_right IsReadTyped (kind_reads e.diagram (Loop count stop iteration ts body)) (all_outside_reads e.diagram body ts) has)))
  kind_typed vis panel free e (Loop count stop iteration ts body) right fed s (inr (inr (inr q))) = absurd q
  kind_typed vis panel free e (Case selector ts arms) right fed s is =
      let ls : List Line = border_lines e (map (λ a. a.body) arms) [] case_border (e.line + 1) ts in
      ⊎_elim
      (λ l. arms_typed e (map (λ a. a.body) arms) (e.line + 1) ts right.fine (all_left (LineHolds (Fed G)) ls (map (give_line e) arms) fed.1) arms s l)
      (λ r. results_typed e arms (all_right (LineHolds (Fed G)) ls (map (give_line e) arms) fed.1) (e.line + 1) 0 ts right.fine right.given s r)
      (in_append s (arms_steps e.diagram ts arms) (results_steps e.diagram 0 arms ts) is)
  kind_typed vis panel free e (Sequence parts) right fed s is = parts_typed e None parts right.fine fed s is
  kind_typed vis panel free e (InPlace ts body finish) right fed s (inl q) =
      subst Typed q (λ has. all_inside e body None (e.line + 1) ts right.fine fed has)
  kind_typed vis panel free e (InPlace ts body finish) right fed s (inr (inl q)) =
      subst Typed q
      (λ has. subst (λ (b : Bool). HaveTypes (lines_outside M b e.diagram body ts)) (sym right.rows)
      (all_outside e body None (e.line + 1) ts fed (all_right IsReadTyped (kind_reads e.diagram (InPlace ts body finish)) (all_outside_reads e.diagram body ts) has)))
  kind_typed vis panel free e (InPlace ts body finish) right fed s (inr (inr q)) = absurd q
