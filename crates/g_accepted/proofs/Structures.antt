-- What a structure has in a VI whose types break no rule.
use Rattle.std.proofs.Common.{◌≡◌, ◌⊎◌, inl, inr, ⊎_elim, ℕ, zero, suc, ◌+◌, Bool, true, false, cond, not, ◌||◌, List, [], ◌∷◌, ◌++◌, map, length, Option, Some, None, refl, ap, sym, ◌∙◌, subst, arith}
use Rattle.std.specs.Prelude.{is_some, if◌then◌else◌}
use Rattle.std.specs.Option.{option_or}
use Rattle.std.specs.List.{AllByRecursion, list_all, list_any}
use Rattle.std.proofs.lemmas.Bool.{false≢true, or_cases}
use Rattle.std.proofs.lemmas.List.Elements.{recursion_from_All}
use Rattle.std.proofs.lemmas.List.Folds.{list_any-append}
use Rattle.g_types.specs.declared.ty.Ty.{Ty}
use Rattle.g_values.specs.declared.value.Value.{Value, out-Value}
use Rattle.g_values.specs.Typed.{IsOfType}
use Rattle.g_diagram.specs.declared.place.Place.{Place}
use Rattle.g_diagram.specs.declared.hierarchy.Vi.{Vi}
use Rattle.g_diagram.specs.declared.node.Selector.{Selector}
use Rattle.g_diagram.specs.declared.node.Tunnel.{Tunnel}
use Rattle.g_diagram.specs.declared.node.Tunnel.TheVariants as line
use Rattle.g_diagram.specs.Lines.{Wire, Arm, Part, Entry, Kind, Loop, Case, Sequence, InPlace}
use Rattle.g_diagram.specs.Operands.{Side, Outside, Inside, Operand, Line, free_consumer, border, case_border, header_line, border_lines, parts_lines, give_line, loop_header}
use Rattle.g_typing.specs.Types.{Types, place, wire_type, wire_at, or_unwired, then_type, whole}
use Rattle.g_typing.specs.Typing.{HasGiven, given, line_inside, line_outside, lines_inside, lines_outside, arms_inside, results_given, result_given, parts_given, result_type, next_result}
use Rattle.g_typing.specs.Rows.{unless, lines_miss, stop_operand}
use Rattle.g_types.specs.Ty.{is_num}
use Rattle.g_prims_definitions.specs.Kinds.{is_bool}
use Rattle.g_typing.specs.Literals.{may_select, if_selecting}
use Rattle.g_typing.specs.Assigned.{unlike, gives_unlike, results_unlike}
use Rattle.g_typing.specs.Selected.{selectors_of, is_no, is_complete, uncovered}
use Rattle.g_rules_cases.specs.Held.{is_default, names_at, holds, Unheld}
use Rattle.g_rules_cases.proofs.Deciding.{unheld_or_none}
use Rattle.g_rules_lines.specs.Spots.{spot_at}
use Rattle.g_rules_lines.specs.InPlaceBodies.{spare_refs}
use Rattle.g_border.specs.Readers.{sources_on, place_all}
use Rattle.g_border.specs.Lines.{reference_in}
use Rattle.g_border.specs.Cases.{first_arm, chosen}
use Rattle.g_frames.specs.Program.{FlatVi}
use Rattle.g_listing_grammar.specs.Nodes.{results}
use Rattle.g_listing_laws.specs.Spelled.{IsLineSpelled, IsArmSpelled}
use Rattle.g_infer_laws.specs.OwnLines.{is_loop_line, is_case_line, is_frame_line, is_place_line, have_frame_lines}
use Rattle.g_infer_laws.proofs.Rules.{Fed}
use Rattle.g_infer_laws.proofs.Held.{OperandsHold, LineHolds, LinesHold}
use Rattle.g_typed_states.specs.Places.{Among, first, later, HaveTypes, lines_places, IsSupplied}
use Rattle.g_typed_states.specs.Lines.{IsAssignable, IsLoopLine, IsCaseLine, IsFrameLine, IsPlaceLine, AllLines, types_inside, types_in_place, types_of_result, LinesInside, LinesOutside, LinesFit, ResultsOutside, GivesFit, HasOneReference}
use Rattle.g_typed_states.specs.Bodies.{IsWorkedOut}
use Rattle.g_typed_states.specs.Accepted.{AcceptsLoop, AcceptsCase, AllGivesFit, AcceptsParts, AcceptsPlace}
use Rattle.g_accepted.proofs.Facts.{IsIn, in_left, in_right, all_left, all_right, nil_left, nil_right, and_first, and_second, and_both, none_some, the_one, of_one}
use Rattle.g_accepted.proofs.Placed.{flat, lines, line_typed, TypesOn, named, case_sources, inside_typed, is_plain_line, outside_typed}
use Rattle.g_accepted.proofs.Nodes.{IsKnown, NodeFacts, passed, assignable, kind_is, known, lines_inside_typed, lines_outside_typed, lines_fit, lasts_known}

pub from_among : {A : Type 0} (x : A) (xs : List A) → Among x xs → IsIn x xs
from_among x _ first = inl refl
from_among x _ (later {y = y} {xs = ys} is) = inr (from_among x ys is)

pub to_among : {A : Type 0} (x : A) (xs : List A) → IsIn x xs → Among x xs
to_among x [] is = absurd is
to_among {A} x (y ∷ xs) (inl same) = subst (λ (z : A). Among x (z ∷ xs)) (sym same) first
to_among x (y ∷ xs) (inr is) = later (to_among x xs is)

-- ---- own lines are plain

plain_all : (own : Tunnel → Bool) → ((t : Tunnel) → own t ≡ true → is_plain_line t ≡ true) → (ts : List Tunnel) → list_all own ts ≡ true → list_all is_plain_line ts ≡ true
plain_all own h [] e = refl
plain_all own h (t ∷ ts) e = and_both (is_plain_line t) (list_all is_plain_line ts) (h t (and_first (own t) (list_all own ts) e)) (plain_all own h ts (and_second (own t) (list_all own ts) e))

loop_plain : (t : Tunnel) → is_loop_line t ≡ true → is_plain_line t ≡ true
loop_plain (line.Result outer default) e = absurd (false≢true e)
loop_plain (line.Ref reference inner next same code) e = absurd (false≢true e)
loop_plain _ e = refl

frame_plain : (b : Bool) (t : Tunnel) → is_frame_line b t ≡ true → is_plain_line t ≡ true
frame_plain b (line.Result outer default) e = absurd (false≢true e)
frame_plain b (line.Ref reference inner next same code) e = absurd (false≢true e)
frame_plain b _ e = refl

-- ---- the forms of lines

all_lines : (own : Tunnel → Bool) (P : Tunnel → Type 0) → ((t : Tunnel) → own t ≡ true → P t) → (ts : List Tunnel) → list_all own ts ≡ true → AllLines P ts
all_lines own P h [] e = tt
all_lines own P h (t ∷ ts) e = (h t (and_first (own t) (list_all own ts) e), all_lines own P h ts (and_second (own t) (list_all own ts) e))

loop_form : (t : Tunnel) → is_loop_line t ≡ true → IsLoopLine t
loop_form (line.Tunnel outer inner) e = tt
loop_form (line.Register initial inner next last) e = tt
loop_form (line.Kept t inner next last) e = tt
loop_form (line.Last inner outer) e = tt
loop_form (line.Gather inner outer) e = tt
loop_form (line.Index array inner) e = tt
loop_form _ e = absurd (false≢true e)

case_form : (t : Tunnel) → is_case_line t ≡ true → IsCaseLine t
case_form (line.Tunnel outer inner) e = tt
case_form (line.Result outer default) e = tt
case_form _ e = absurd (false≢true e)

frame_form : (b : Bool) (t : Tunnel) → is_frame_line b t ≡ true → IsFrameLine t
frame_form b (line.Tunnel outer inner) e = tt
frame_form b (line.Last inner outer) e = tt
frame_form b (line.Carry earlier inner) e = tt
frame_form b _ e = absurd (false≢true e)

place_form : (t : Tunnel) → is_place_line t ≡ true → IsPlaceLine t
place_form (line.Tunnel outer inner) e = tt
place_form (line.Last inner outer) e = tt
place_form (line.Ref reference inner next same code) e = tt
place_form (line.Element array index inner next outer) e = tt
place_form (line.Field k cluster inner next outer) e = tt
place_form _ e = absurd (false≢true e)

-- ---- selectors

any_either : {A : Type 0} (f g : A → Bool) (xs : List A) → list_any (λ x. f x || g x) xs ≡ true → (list_any f xs ≡ true) ⊎ (list_any g xs ≡ true)
any_either f g [] h = absurd (false≢true h)
any_either f g (x ∷ xs) h =
    ⊎_elim
    (λ here. ⊎_elim (λ a. inl (ap (λ b. b || list_any f xs) a)) (λ a. inr (ap (λ b. b || list_any g xs) a)) (or_cases (f x) (g x) here))
    (λ later. ⊎_elim (λ a. inl (or_second (f x) (list_any f xs) a)) (λ a. inr (or_second (g x) (list_any g xs) a)) (any_either f g xs later))
    (or_cases (f x || g x) (list_any (λ y. f y || g y) xs) h)
  where
    or_second : (a b : Bool) → b ≡ true → (a || b) ≡ true
    or_second true b e = refl
    or_second false b e = e

arm_there : (f : Selector → Bool) (arms : List Arm) → list_any f (selectors_of arms) ≡ true → is_some (first_arm f arms) ≡ true
arm_there f [] h = absurd (false≢true h)
arm_there f (arm ∷ arms) h =
    by (list_any f arm.selectors) refl (or_cases (list_any f arm.selectors) (list_any f (selectors_of arms)) (sym (list_any-append f arm.selectors (selectors_of arms)) ∙ h)) (arm_there f arms)
  where
    by : (b : Bool) → list_any f arm.selectors ≡ b → (list_any f arm.selectors ≡ true) ⊎ (list_any f (selectors_of arms) ≡ true)
        → (list_any f (selectors_of arms) ≡ true → is_some (first_arm f arms) ≡ true) → is_some (cond b (Some arm) (first_arm f arms)) ≡ true
    by true e h more = refl
    by false e (inl h) more = absurd (false≢true (sym e ∙ h))
    by false e (inr h) more = more h

or_there : {A : Type 0} (a b : Option A) → (is_some a ≡ true) ⊎ (is_some b ≡ true) → is_some (option_or a b) ≡ true
or_there (Some x) b h = refl
or_there None b (inl h) = absurd (false≢true h)
or_there None b (inr h) = h

none_unheld : (t : Ty) (ss : List Selector) → is_complete ss t ≡ true → Unheld t ss → ⊥
none_unheld t ss e = by (unheld_or_none t ss) e
  where
    by : (o : Unheld t ss ⊎ (Unheld t ss → ⊥)) → is_no o ≡ true → Unheld t ss → ⊥
    by (inl a) e u = false≢true e
    by (inr none) e u = none u

-- each value of the type has a branch where the selectors are complete
covered : (t : Ty) (arms : List Arm) → is_complete (selectors_of arms) t ≡ true → (v : Value) → IsOfType t v → is_some (chosen v arms) ≡ true
covered t arms e v of_type =
    or_there (first_arm (names_at (out-Value v)) arms) (first_arm is_default arms)
    (⊎_elim
    (λ d. inr (arm_there is_default arms d))
    (λ n. inl (arm_there (names_at (out-Value v)) arms n))
    (any_either is_default (names_at (out-Value v)) (selectors_of arms) (held (list_any (holds v) (selectors_of arms)) refl)))
  where
    held : (b : Bool) → list_any (holds v) (selectors_of arms) ≡ b → list_any (holds v) (selectors_of arms) ≡ true
    held true h = h
    held false h = absurd (none_unheld t (selectors_of arms) e (record { value = v; of_type = of_type.of_type; held_by_none = h }))

selecting : (o : Option Ty) (t : Ty) (f : Ty → List Place) → o ≡ Some t → may_select t ≡ true → if_selecting o f ≡ [] → f t ≡ []
selecting o t f e may none =
    let a : if_selecting (Some t) f ≡ [] = ap (λ x. if_selecting x f) (sym e) ∙ none in
    ap (λ b. if b then f t else []) (sym may) ∙ a

-- ---- references

pub no_refs : (l k : ℕ) (ts : List Tunnel) → spare_refs l false ts ≡ [] → reference_in k ts ≡ None
no_refs l k [] e = refl
no_refs l k (line.Ref reference inner next same code ∷ ts) e = absurd (cc e)
no_refs l k (line.Tunnel outer inner ∷ ts) e = no_refs (l + 1) (k + 1) ts e
no_refs l k (line.Register initial inner next last ∷ ts) e = no_refs (l + 1) (k + 1) ts e
no_refs l k (line.Kept t inner next last ∷ ts) e = no_refs (l + 1) (k + 1) ts e
no_refs l k (line.Last inner outer ∷ ts) e = no_refs (l + 1) (k + 1) ts e
no_refs l k (line.Gather inner outer ∷ ts) e = no_refs (l + 1) (k + 1) ts e
no_refs l k (line.Index array inner ∷ ts) e = no_refs (l + 1) (k + 1) ts e
no_refs l k (line.Result outer default ∷ ts) e = no_refs (l + 1) (k + 1) ts e
no_refs l k (line.Carry earlier inner ∷ ts) e = no_refs (l + 1) (k + 1) ts e
no_refs l k (line.Element array index inner next outer ∷ ts) e = no_refs (l + 1) (k + 1) ts e
no_refs l k (line.Field f cluster inner next outer ∷ ts) e = no_refs (l + 1) (k + 1) ts e

-- a structure none of whose references is spare has one at most
pub one_reference : (l : ℕ) (b : Bool) (ts : List Tunnel) → spare_refs l b ts ≡ [] → HasOneReference ts
one_reference l b [] e = tt
one_reference l b (line.Ref reference inner next same code ∷ ts) e = λ k. no_refs (l + 1) k ts (nil_right (if b then [] else spot_at l 0 ∷ []) (spare_refs (l + 1) false ts) e)
one_reference l b (line.Tunnel outer inner ∷ ts) e = one_reference (l + 1) b ts e
one_reference l b (line.Register initial inner next last ∷ ts) e = one_reference (l + 1) b ts e
one_reference l b (line.Kept t inner next last ∷ ts) e = one_reference (l + 1) b ts e
one_reference l b (line.Last inner outer ∷ ts) e = one_reference (l + 1) b ts e
one_reference l b (line.Gather inner outer ∷ ts) e = one_reference (l + 1) b ts e
one_reference l b (line.Index array inner ∷ ts) e = one_reference (l + 1) b ts e
one_reference l b (line.Result outer default ∷ ts) e = one_reference (l + 1) b ts e
one_reference l b (line.Carry earlier inner ∷ ts) e = one_reference (l + 1) b ts e
one_reference l b (line.Element array index inner next outer ∷ ts) e = one_reference (l + 1) b ts e
one_reference l b (line.Field k cluster inner next outer ∷ ts) e = one_reference (l + 1) b ts e

module _ (vis : List Vi) (vi : Vi) (M : Types) (has : ℕ → List ℕ → Bool) (v : ℕ) where
  abbrev fv : FlatVi
  fv = flat vis vi M

  abbrev all : List Line
  all = lines vis vi M

  abbrev G : ℕ → List ℕ → Type 0
  G = IsKnown M has

  abbrev Facts : Entry → Kind → Type 0
  Facts e k = NodeFacts vis vi M has v e k

  abbrev Stand : List Line → Type 0
  Stand ls = (m : Line) → IsIn m ls → IsIn m all

  of_single : (P : ℕ → Type 0) (b : ℕ) → P b → (x : ℕ) → IsIn x (b ∷ []) → P x
  of_single P b h x (inl same) = subst P same h
  of_single P b h x (inr none) = absurd none

  -- ---- loops

  header_typed : (m : Line) (body : ℕ) (count stop : Option Wire) (i : Wire) → m.inside ≡ body ∷ [] → AllByRecursion (HasGiven M) (given body i (Some whole))
      → TypesOn M m Inside (loop_header count stop i) (Some whole ∷ [])
  header_typed m body count stop i one h = by count stop
    where
      at : (d : ℕ) → IsIn d m.inside → body ≡ d
      at d is = single (subst (λ (bs : List ℕ). IsIn d bs) one is)
        where
          single : IsIn d (body ∷ []) → body ≡ d
          single (inl same) = same
          single (inr none) = absurd none

      by : (count stop : Option Wire) → TypesOn M m Inside (loop_header count stop i) (Some whole ∷ [])
      by None None = ((λ d n side w. named M body i (Some whole) h d n (at d side) w), tt)
      by None (Some s) = ((λ d n side w. named M body i (Some whole) h d n (at d side) w), tt)
      by (Some c) None = ((λ d n side w. named M body i (Some whole) h d n (at d side) w), tt)
      by (Some c) (Some s) = ((λ d n side w. named M body i (Some whole) h d n (at d side) w), tt)

  pub loop_accepted : (e : Entry) (count stop : Option Wire) (i : Wire) (ts : List Tunnel) (body : ℕ) → Facts e (Loop count stop i ts body)
      → IsSupplied fv body (place_all e.line (sources_on Inside 1 (loop_header count stop i)) ++ lines_places Inside (e.line + 1) ts) → AcceptsLoop fv e count stop i ts body
  loop_accepted e count stop i ts body f supplied =
      let m : Line = header_line e body (loop_header count stop i) in
      let first_given = given body i (Some whole) in
      let ins = lines_inside M e.diagram body None ts in
      let outs = lines_outside M true e.diagram body ts in
      let rest : AllByRecursion (HasGiven M) (ins ++ outs) = all_right (HasGiven M) first_given (ins ++ outs) f.given in
      let counts : List Place = unless (wire_type M e.diagram (or_unwired count)) is_num (place v e.line 1) in
      let stops : List Place = unless (wire_type M body (or_unwired stop)) is_bool (place v e.line (stop_operand count)) in
      let misses : List Place = lines_miss M v e.diagram body (e.line + 1) ts in
      record {
        forms = all_lines is_loop_line IsLoopLine loop_form ts f.own;
        header = line_typed vis vi M m (f.stands m (inl refl)) Inside (Some whole ∷ []) (header_typed m body count stop i refl (all_left (HasGiven M) first_given (ins ++ outs) f.given));
        inside = lines_inside_typed vis vi M has v e (body ∷ []) [] None (e.line + 1) ts (λ x is. f.stands x (inr is))
            (λ b is. of_single (λ x. AllByRecursion (HasGiven M) (lines_inside M e.diagram x None ts)) body (all_left (HasGiven M) ins outs rest) b is);
        outside = lines_outside_typed vis vi M has v e (body ∷ []) [] body (e.line + 1) ts (plain_all is_loop_line loop_plain ts f.own) (λ x is. f.stands x (inr is)) (all_right (HasGiven M) ins outs rest);
        fits = lines_fit vis vi M has v e body [] (e.line + 1) ts f.fed.1 (nil_right stops misses (nil_right counts (stops ++ misses) f.rows)) f.like (recursion_from_All IsLineSpelled ts f.spelled);
        supplied = supplied;
      }

  -- ---- cases

  case_types : (m : Line) (s : Side) (t : Tunnel) (ts : List (Option Ty)) → TypesOn M m s (border t) ts → TypesOn M m s (case_border t) ts
  case_types m s (line.Tunnel outer inner) ts h = h
  case_types m s (line.Register initial inner next last) ts h = h
  case_types m s (line.Kept t inner next last) ts h = h
  case_types m s (line.Last inner outer) ts h = h
  case_types m s (line.Gather inner outer) ts h = h
  case_types m s (line.Index array inner) ts h = h
  case_types m s (line.Result outer default) ts h = h
  case_types m s (line.Carry earlier inner) ts h = h
  case_types m s (line.Ref reference inner next same code) ts h = h
  case_types m s (line.Element array index inner next outer) ts h = h
  case_types m s (line.Field k cluster inner next outer) ts h = h

  case_line : (m : Line) (t : Tunnel) → IsIn m all → m.operands ≡ case_border t → (s : Side) (ts : List (Option Ty)) → TypesOn M m s (border t) ts → HaveTypes fv (place_all m.line (sources_on s 1 (border t))) ts
  case_line m t is same s ts h =
      subst (λ (ks : List ℕ). HaveTypes fv (place_all m.line ks) ts) (ap (sources_on s 1) same ∙ case_sources s t)
      (line_typed vis vi M m is s ts (subst (λ (os : List Operand). TypesOn M m s os ts) (sym same) (case_types m s t ts h)))

  abbrev case_on : Entry → List ℕ → (l : ℕ) → Tunnel → Line
  case_on e bs l t = record { line = l; node = e.line; outside = e.diagram; inside = bs; before = []; operands = case_border t }

  case_inside : (e : Entry) (bs : List ℕ) (l : ℕ) (ts : List Tunnel) → Stand (border_lines e bs [] case_border l ts)
      → ((b : ℕ) → IsIn b bs → AllByRecursion (HasGiven M) (lines_inside M e.diagram b None ts)) → LinesInside fv e.diagram None l ts
  case_inside e bs l [] stand h = tt
  case_inside e bs l (t ∷ ts) stand h =
      let m : Line = case_on e bs l t in (
        case_line m t (stand m (inl refl)) refl Inside (types_inside M e.diagram None t)
            (inside_typed M m e.diagram None t (λ b is. all_left (HasGiven M) (line_inside M e.diagram b None t) (lines_inside M e.diagram b None ts) (h b is))),
        case_inside e bs (l + 1) ts (λ x is. stand x (inr is)) (λ b is. all_right (HasGiven M) (line_inside M e.diagram b None t) (lines_inside M e.diagram b None ts) (h b is)),
      )

  in_arms : (d : ℕ) (ts : List Tunnel) (arms : List Arm) → AllByRecursion (HasGiven M) (arms_inside M d ts arms) → (b : ℕ) → IsIn b (map (λ a. a.body) arms) → AllByRecursion (HasGiven M) (lines_inside M d b None ts)
  in_arms d ts [] h b is = absurd is
  in_arms d ts (arm ∷ arms) h b (inl same) =
      subst (λ (x : ℕ). AllByRecursion (HasGiven M) (lines_inside M d x None ts)) same (all_left (HasGiven M) (lines_inside M d arm.body None ts) (arms_inside M d ts arms) h)
  in_arms d ts (arm ∷ arms) h b (inr is) = in_arms d ts arms (all_right (HasGiven M) (lines_inside M d arm.body None ts) (arms_inside M d ts arms) h) b is

  result_typed : (m : Line) (k : ℕ) (arms : List Arm) (t : Tunnel) → is_case_line t ≡ true → AllByRecursion (HasGiven M) (result_given M m.outside k arms t)
      → TypesOn M m Outside (border t) (types_of_result M k arms t)
  result_typed m k arms (line.Tunnel outer inner) own h = tt
  result_typed m k arms (line.Result outer default) own h = (named M m.outside outer (result_type M k arms) h, tt)
  result_typed m k arms _ own h = absurd (false≢true own)

  results_typed : (e : Entry) (bs : List ℕ) (k : ℕ) (arms : List Arm) (l : ℕ) (ts : List Tunnel) → list_all is_case_line ts ≡ true → Stand (border_lines e bs [] case_border l ts)
      → AllByRecursion (HasGiven M) (results_given M e.diagram k arms ts) → ResultsOutside fv k arms l ts
  results_typed e bs k arms l [] own stand h = tt
  results_typed e bs k arms l (t ∷ ts) own stand h =
      let m : Line = case_on e bs l t in (
        case_line m t (stand m (inl refl)) refl Outside (types_of_result M k arms t)
            (result_typed m k arms t (and_first (is_case_line t) (list_all is_case_line ts) own) (all_left (HasGiven M) (result_given M e.diagram k arms t) (results_given M e.diagram (next_result t k) arms ts) h)),
        results_typed e bs (next_result t k) arms (l + 1) ts (and_second (is_case_line t) (list_all is_case_line ts) own) (λ x is. stand x (inr is))
            (all_right (HasGiven M) (result_given M e.diagram k arms t) (results_given M e.diagram (next_result t k) arms ts) h),
      )

  give_known : (e : Entry) (arm : Arm) (ws : List Wire) (k : ℕ) (n : List ℕ) → OperandsHold (Fed G) (give_line e arm) (map (free_consumer Inside) ws) → wire_at ws k ≡ Some n → is_some (M arm.body n) ≡ true
  give_known e arm [] zero n h same = absurd (none_some n same)
  give_known e arm [] (suc k) n h same = absurd (none_some n same)
  give_known e arm (w ∷ ws) zero n h same = (subst (λ (x : Wire). Fed G false true arm.body x) same h.0.0).0
  give_known e arm (w ∷ ws) (suc k) n h same = give_known e arm ws k n h.1 same

  one_fits : (e : Entry) (k : ℕ) (o : Option Ty) (t : Ty) → o ≡ Some t → (arms : List Arm) → LinesHold (Fed G) (map (give_line e) arms) → gives_unlike M v k o arms ≡ []
      → (arm : Arm) → IsIn arm arms → (n : List ℕ) → wire_at arm.gives k ≡ Some n → IsAssignable M arm.body (Some n) t
  one_fits e k o t is [] fed like arm among n same = absurd among
  one_fits e k o t is (a ∷ arms) fed like arm (inl here) n same =
      let p : Place = place v (a.body + 1) (k + 1) in
      let wire : wire_at a.gives k ≡ Some n = subst (λ (x : Arm). wire_at x.gives k ≡ Some n) (sym here) same in
      let none : unlike (wire_type M a.body (Some n)) o p ≡ [] = ap (λ w. unlike (wire_type M a.body w) o p) (sym wire) ∙ nil_left (unlike (wire_type M a.body (wire_at a.gives k)) o p) (gives_unlike M v k o arms) like in
      subst (λ (x : Arm). IsAssignable M x.body (Some n) t) here (assignable M a.body (Some n) o p t is (give_known e a a.gives k n fed.0 wire) none)
  one_fits e k o t is (a ∷ arms) fed like arm (inr among) n same =
      one_fits e k o t is arms fed.1 (nil_right (unlike (wire_type M a.body (wire_at a.gives k)) o (place v (a.body + 1) (k + 1))) (gives_unlike M v k o arms) like) arm among n same

  none_past : (ws : List Wire) (k : ℕ) (n : List ℕ) → k ≡ length ws → wire_at ws k ≡ Some n → ⊥
  none_past [] zero n e h = none_some n h
  none_past [] (suc k) n e h = none_some n h
  none_past (w ∷ ws) zero n e h = absurd (omega (arith, e))
  none_past (w ∷ ws) (suc k) n e h = none_past ws k n (omega (arith, e)) h

  -- what branches give for the next result of some lines, if there is one
  next_fits : (e : Entry) (arms : List Arm) → LinesHold (Fed G) (map (give_line e) arms) → (n : ℕ) → AllByRecursion (IsArmSpelled n) arms → (k : ℕ) (ts : List Tunnel) → list_all is_case_line ts ≡ true
      → k + results ts ≡ n → results_unlike M v k arms ts ≡ [] → GivesFit M k arms
  next_fits e arms fed n spelled k [] own count like t is arm among name same =
      let arm_is = of_one (IsArmSpelled n) arms spelled arm (from_among arm arms among) in
      let long : length arm.gives ≡ n = arm_is.1 in
      absurd (none_past arm.gives k name (omega (arith, count, long)) same)
  next_fits e arms fed n spelled k (line.Tunnel outer inner ∷ ts) own count like t is arm among name same =
      next_fits e arms fed n spelled k ts own count like t is arm among name same
  next_fits e arms fed n spelled k (line.Result outer default ∷ ts) own count like t is arm among name same =
      one_fits e k (result_type M k arms) t is arms fed (nil_left (gives_unlike M v k (result_type M k arms) arms) (results_unlike M v (k + 1) arms ts) like) arm (from_among arm arms among) name same
  next_fits e arms fed n spelled k (_ ∷ ts) own count like t is arm among name same = absurd (false≢true own)

  all_fit : (e : Entry) (arms : List Arm) → LinesHold (Fed G) (map (give_line e) arms) → (n : ℕ) → AllByRecursion (IsArmSpelled n) arms → (k : ℕ) (ts : List Tunnel) → list_all is_case_line ts ≡ true
      → k + results ts ≡ n → results_unlike M v k arms ts ≡ [] → AllGivesFit M k arms ts
  all_fit e arms fed n spelled k [] own count like = tt
  all_fit e arms fed n spelled k (line.Tunnel outer inner ∷ ts) own count like =
      (next_fits e arms fed n spelled k (line.Tunnel outer inner ∷ ts) own count like, all_fit e arms fed n spelled k ts own count like)
  all_fit e arms fed n spelled k (line.Result outer default ∷ ts) own count like = (
    next_fits e arms fed n spelled k (line.Result outer default ∷ ts) own count like,
    all_fit e arms fed n spelled (k + 1) ts own (omega (arith, count)) (nil_right (gives_unlike M v k (result_type M k arms) arms) (results_unlike M v (k + 1) arms ts) like),
  )
  all_fit e arms fed n spelled k (_ ∷ ts) own count like = absurd (false≢true own)

  pub case_accepted : (e : Entry) (selector : Wire) (ts : List Tunnel) (arms : List Arm) → Facts e (Case selector ts arms)
      → ((arm : Arm) → IsIn arm arms → IsSupplied fv arm.body (lines_places Inside (e.line + 1) ts)) → AcceptsCase fv e selector ts arms
  case_accepted e selector ts arms f supplied =
      let o : Option Ty = wire_type M e.diagram selector in
      let t = the_one o (known vis vi M has v e.diagram selector f.fed.0.0) in
      let bs : List ℕ = map (λ a. a.body) arms in
      let ls : List Line = border_lines e bs [] case_border (e.line + 1) ts in
      let gs : List Line = map (give_line e) arms in
      let left : List Place = unless o may_select (place v e.line 1) in
      let ss : List Selector = selectors_of arms in
      let selects : may_select t.0 ≡ true = kind_is o t.0 may_select (place v e.line 1) t.1 (nil_left left (if_selecting o (uncovered v e.line ss)) f.selected) in
      let complete : is_complete ss t.0 ≡ true = passed (is_complete ss t.0) (place v e.line 0) (selecting o t.0 (uncovered v e.line ss) t.1 selects (nil_right left (if_selecting o (uncovered v e.line ss)) f.selected)) in
      let ins = arms_inside M e.diagram ts arms in
      let outs = results_given M e.diagram 0 arms ts in
      record {
        selects = t.0;
        known = t.1;
        covered = covered t.0 arms complete;
        forms = all_lines is_case_line IsCaseLine case_form ts f.own;
        inside = case_inside e bs (e.line + 1) ts (λ m is. f.stands m (inr (in_left m ls gs is))) (in_arms e.diagram ts arms (all_left (HasGiven M) ins outs f.given));
        outside = results_typed e bs 0 arms (e.line + 1) ts f.own (λ m is. f.stands m (inr (in_left m ls gs is))) (all_right (HasGiven M) ins outs f.given);
        gives = all_fit e arms (all_right (LineHolds (Fed G)) ls gs f.fed.1) (results ts) (recursion_from_All (IsArmSpelled (results ts)) arms f.spelled.1) 0 ts f.own (omega arith) f.like;
        supplied = λ arm is. supplied arm (from_among arm arms is);
      }

  -- ---- sequences

  frame_fits : (d b : ℕ) (is_first : Bool) (ts : List Tunnel) → list_all (is_frame_line is_first) ts ≡ true → LinesFit M d b ts
  frame_fits d b is_first [] own = tt
  frame_fits d b is_first (line.Tunnel outer inner ∷ ts) own = (tt, frame_fits d b is_first ts own)
  frame_fits d b is_first (line.Last inner outer ∷ ts) own = (tt, frame_fits d b is_first ts own)
  frame_fits d b is_first (line.Carry earlier inner ∷ ts) own = (tt, frame_fits d b is_first ts (and_second (not is_first) (list_all (is_frame_line is_first) ts) own))
  frame_fits d b is_first (_ ∷ ts) own = absurd (false≢true own)

  abbrev AllSupplied : List Part → Type 0
  AllSupplied ps = (part : Part) → IsIn part ps → IsSupplied fv part.body (lines_places Inside (part.body + 1) part.lines)

  abbrev numbers_of : Option ℕ → List ℕ
  numbers_of None = []
  numbers_of (Some b) = b ∷ []

  parts_accepted : (e : Entry) (is_first : Bool) (before : Option ℕ) (ps : List Part) → have_frame_lines is_first ps ≡ true → Stand (parts_lines e (numbers_of before) ps)
      → AllByRecursion (HasGiven M) (parts_given M e.diagram before ps) → AllSupplied ps → AcceptsParts fv e.diagram before ps
  parts_accepted e is_first before [] own stand h supplied = tt
  parts_accepted e is_first before (p ∷ ps) own stand h supplied =
      let ls : List Line = border_lines e (p.body ∷ []) (numbers_of before) border (p.body + 1) p.lines in
      let more : List Line = parts_lines e (p.body ∷ []) ps in
      let ins = lines_inside M e.diagram p.body before p.lines in
      let outs = lines_outside M true e.diagram p.body p.lines in
      let rest = parts_given M e.diagram (Some p.body) ps in
      let own_lines : list_all (is_frame_line is_first) p.lines ≡ true = and_first (list_all (is_frame_line is_first) p.lines) (have_frame_lines false ps) own in
      let h_first : AllByRecursion (HasGiven M) (ins ++ outs) = all_left (HasGiven M) (ins ++ outs) rest h in (
        record {
          forms = all_lines (is_frame_line is_first) IsFrameLine (frame_form is_first) p.lines own_lines;
          inside = lines_inside_typed vis vi M has v e (p.body ∷ []) (numbers_of before) before (p.body + 1) p.lines (λ m is. stand m (in_left m ls more is))
              (λ b is. of_single (λ x. AllByRecursion (HasGiven M) (lines_inside M e.diagram x before p.lines)) p.body (all_left (HasGiven M) ins outs h_first) b is);
          outside = lines_outside_typed vis vi M has v e (p.body ∷ []) (numbers_of before) p.body (p.body + 1) p.lines (plain_all (is_frame_line is_first) (frame_plain is_first) p.lines own_lines)
              (λ m is. stand m (in_left m ls more is)) (all_right (HasGiven M) ins outs h_first);
          fits = frame_fits e.diagram p.body is_first p.lines own_lines;
          supplied = supplied p (inl refl);
        },
        parts_accepted e false (Some p.body) ps (and_second (list_all (is_frame_line is_first) p.lines) (have_frame_lines false ps) own) (λ m is. stand m (in_right m ls more is))
            (all_right (HasGiven M) (ins ++ outs) rest h) (λ q is. supplied q (inr is)),
      )

  pub sequence_accepted : (e : Entry) (ps : List Part) → Facts e (Sequence ps) → AllSupplied ps → AcceptsParts fv e.diagram None ps
  sequence_accepted e ps f supplied = parts_accepted e true None ps f.own f.stands f.given supplied

  -- ---- structures in place

  place_typed : (m : Line) (b : ℕ) (t : Tunnel) → is_place_line t ≡ true → OperandsHold (Fed G) m (border t) → AllByRecursion (HasGiven M) (line_outside M true m.outside b t)
      → TypesOn M m Outside (border t) (types_in_place M m.outside b t)
  place_typed m b (line.Tunnel outer inner) own fed h = tt
  place_typed m b (line.Last inner outer) own fed h = outside_typed M m b (line.Last inner outer) refl h
  place_typed m b (line.Element array index inner next outer) own fed h = outside_typed M m b (line.Element array index inner next outer) refl h
  place_typed m b (line.Field k cluster inner next outer) own fed h = outside_typed M m b (line.Field k cluster inner next outer) refl h
  place_typed m b (line.Ref reference inner next same code) own fed h =
      let o : Option Ty = wire_type M m.outside reference in
      let r = the_one o (known vis vi M has v m.outside reference fed.0) in
      let gs = given m.outside same o in
      let cs = given m.outside code (then_type o (λ t. Some whole)) in (
        named M m.outside same o (all_left (HasGiven M) gs cs h),
        ((λ d n side w. named M m.outside code (then_type o (λ t. Some whole)) (all_right (HasGiven M) gs cs h) d n side w ∙ ap (λ x. then_type x (λ t. Some whole)) r.1), tt),
      )
  place_typed m b _ own fed h = absurd (false≢true own)

  places_typed_outside : (e : Entry) (b l : ℕ) (ts : List Tunnel) → list_all is_place_line ts ≡ true → Stand (border_lines e (b ∷ []) [] border l ts)
      → LinesHold (Fed G) (border_lines e (b ∷ []) [] border l ts) → AllByRecursion (HasGiven M) (lines_outside M true e.diagram b ts) → LinesOutside fv (types_in_place M e.diagram b) l ts
  places_typed_outside e b l [] own stand fed h = tt
  places_typed_outside e b l (t ∷ ts) own stand fed h =
      let m : Line = record { line = l; node = e.line; outside = e.diagram; inside = b ∷ []; before = []; operands = border t } in (
        line_typed vis vi M m (stand m (inl refl)) Outside (types_in_place M e.diagram b t)
            (place_typed m b t (and_first (is_place_line t) (list_all is_place_line ts) own) fed.0 (all_left (HasGiven M) (line_outside M true e.diagram b t) (lines_outside M true e.diagram b ts) h)),
        places_typed_outside e b (l + 1) ts (and_second (is_place_line t) (list_all is_place_line ts) own) (λ x is. stand x (inr is)) fed.1
            (all_right (HasGiven M) (line_outside M true e.diagram b t) (lines_outside M true e.diagram b ts) h),
      )

  pub place_accepted : (e : Entry) (ts : List Tunnel) (body finish : ℕ) (allowed : Bool) → Facts e (InPlace ts body finish) → spare_refs (e.line + 1) allowed ts ≡ [] → IsWorkedOut fv e ts body finish
      → AcceptsPlace fv e ts body finish
  place_accepted e ts body finish allowed f spare worked_out =
      let ins = lines_inside M e.diagram body None ts in
      let outs = lines_outside M true e.diagram body ts in
      record {
        forms = all_lines is_place_line IsPlaceLine place_form ts f.own;
        inside = lines_inside_typed vis vi M has v e (body ∷ []) [] None (e.line + 1) ts f.stands
            (λ b is. of_single (λ x. AllByRecursion (HasGiven M) (lines_inside M e.diagram x None ts)) body (all_left (HasGiven M) ins outs f.given) b is);
        outside = places_typed_outside e body (e.line + 1) ts f.own f.stands f.fed (all_right (HasGiven M) ins outs f.given);
        fits = lines_fit vis vi M has v e body [] (e.line + 1) ts f.fed f.rows f.like (recursion_from_All IsLineSpelled ts f.spelled);
        lasts = lasts_known vis vi M has v e body [] (e.line + 1) ts f.fed;
        one = one_reference (e.line + 1) allowed ts spare;
        worked_out = worked_out;
      }
