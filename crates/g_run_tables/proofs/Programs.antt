-- The program of a hierarchy by the types that are told of its wires.
use Rattle.std.proofs.Common.{◌≡◌, ℕ, suc, ◌+◌, List, [], ◌∷◌, map, refl, ap, sym, ◌∙◌, subst, arith}
use Rattle.std.specs.Prelude.{Option, Some, None, Result, IfOk, slice_get}
use Rattle.std.specs.declared.alloc.AllocError.{AllocError}
use Rattle.std.proofs.lemmas.Result.{IfOk-weaker}
use Rattle.g_diagram.specs.declared.hierarchy.Hierarchy.{Hierarchy}
use Rattle.g_diagram.specs.declared.hierarchy.Vi.{Vi}
use Rattle.g_hier.specs.declared.linked.Linked.{Linked}
use Rattle.g_hier.specs.declared.linked.Outline.{Outline}
use Rattle.g_hier.specs.LinkOrder.{IsLinked, vis_after}
use Rattle.g_hier.specs.Outlines.{outlines_of}
use Rattle.g_typing.specs.Types.{Types}
use Rattle.g_typing.specs.Typing.{IsTyping}
use Rattle.g_infer.specs.declared.typed.Typed.{Typed}
use Rattle.g_infer.specs.declared.typed.ViTypes.{ViTypes}
use Rattle.g_infer.specs.Answer.{HasTyping, IsTyped}
use Rattle.g_frames.specs.Program.{FlatVi, Program, IsProgram, flat_vi, flat_vis, program, first_of_each, queues_in, in_spaces, cell_on, kept_on, pools_in}
use Rattle.g_vi_tables.specs.declared.table.ViTable.{ViTable}
use Rattle.g_program.specs.declared.table.ProgramTables.{ProgramTables}
use Rattle.g_program.specs.Tables.{AreAllTables, IsTableOf}
use Rattle.g_run_tables.specs.Types.{types_or_none, types_by}

typing_of : (vis : List Vi) (vi : Vi) (o : Option ViTypes) → HasTyping vis vi o → IsTyping vis vi (types_or_none o)
typing_of vis vi None has = absurd has
typing_of vis vi (Some told) has = has.typing

only_typing : (vis : List Vi) (vi : Vi) (o : Option ViTypes) → HasTyping vis vi o → (others : Types) → IsTyping vis vi others → others ≡ types_or_none o
only_typing vis vi None has others is = absurd has
only_typing vis vi (Some told) has others is = has.only others is

pub is_program : (h : Hierarchy) (typed : Typed) (linked : Linked) (main : ℕ) → IsTyped h typed → IsLinked (outlines_of h) main linked
    → IsProgram h main (program h (types_by typed.vis) linked)
is_program h typed linked main types links = record {
  types = types_by typed.vis;
  typing = λ v vi at. typing_of h.vis vi (slice_get typed.vis v) (types.each v vi at);
  linked = linked;
  links = links;
  program_is = refl;
}

same_linked : (os : List Outline) (main : ℕ) (l m : Linked) → IsLinked os main l → IsLinked os main m → l ≡ m
same_linked os main l m a b =
    let met : a.met ≡ b.met = b.only a.met a.in_order in
    let order : l.order ≡ m.order = a.order_is ∙ ap (λ ps. vis_after [] ps) met ∙ sym b.order_is in
    let spaces : l.spaces ≡ m.spaces = a.spaces_are ∙ ap (λ ps. map (λ p. p.space) ps) met ∙ sym b.spaces_are in
    let systems : l.systems ≡ m.systems = a.systems_are ∙ ap (λ ps. map (λ p. p.system) ps) met ∙ sym b.systems_are in
    let main : l.main ≡ m.main = a.main_is ∙ sym b.main_is in
    ap (λ n. record { main = n; order = l.order; spaces = l.spaces; systems = l.systems }) main
    ∙ ap (λ ns. record { main = m.main; order = ns; spaces = l.spaces; systems = l.systems }) order
    ∙ ap (λ ss. record { main = m.main; order = m.order; spaces = ss; systems = l.systems }) spaces
    ∙ ap (λ ss. record { main = m.main; order = m.order; spaces = m.spaces; systems = ss }) systems

-- VIs of the same types are the same
same_vis : (all : List Vi) (M T : ℕ → Types) (v : ℕ) (vis : List Vi)
    → ((k : ℕ) (vi : Vi) → slice_get vis k ≡ Some vi → M (v + k) ≡ T (v + k)) → flat_vis all M v vis ≡ flat_vis all T v vis
same_vis all M T v [] each = refl
same_vis all M T v (vi ∷ vis) each =
    let zero_more : v + 0 ≡ v = omega arith in
    let first : M v ≡ T v = subst (λ n. M n ≡ T n) zero_more (each 0 vi refl) in
    let rest = same_vis all M T (suc v) vis
    (λ k w at. let more : v + suc k ≡ suc v + k = omega arith in subst (λ n. M n ≡ T n) more (each (suc k) w at)) in
    ap (λ types. flat_vi all types vi ∷ flat_vis all M (suc v) vis) first ∙ ap (λ fs. flat_vi all (T v) vi ∷ fs) rest

-- the program of VIs that are made flat
abbrev by_vis : Linked → List FlatVi → Program
by_vis linked vis = record {
  vis = vis;
  main = linked.main;
  spaces = linked.spaces;
  queues = first_of_each (queues_in linked.order 0 vis) [];
  cells = in_spaces (λ space vi e. cell_on vi.types space e e.kind) vis 0 linked.spaces;
  kept = in_spaces (λ space vi e. kept_on space e e.kind) vis 0 linked.spaces;
  pools = pools_in linked.order linked.main 0 vis;
}

same_types : (h : Hierarchy) (M T : ℕ → Types) (l : Linked) → flat_vis h.vis M 0 h.vis ≡ flat_vis h.vis T 0 h.vis → program h M l ≡ program h T l
same_types h M T l e = ap (by_vis l) e

same_program : (h : Hierarchy) (typed : Typed) (linked : Linked) (main : ℕ) → IsTyped h typed → IsLinked (outlines_of h) main linked → (p : Program) → IsProgram h main p
    → p ≡ program h (types_by typed.vis) linked
same_program h typed linked main types links p is =
    let M : ℕ → Types = types_by typed.vis in
    let each : (k : ℕ) (vi : Vi) → slice_get h.vis k ≡ Some vi → is.types (0 + k) ≡ M (0 + k) =
    λ k vi at.
    let here : k ≡ 0 + k = omega arith in
    subst (λ n. is.types n ≡ M n) here (only_typing h.vis vi (slice_get typed.vis k) (types.each k vi at) (is.types k) (is.typing k vi at)) in
    is.program_is
    ∙ same_types h is.types M is.linked (same_vis h.vis is.types M 0 h.vis each)
    ∙ ap (program h M) (same_linked (outlines_of h) main is.linked linked is.links links)

-- tables of a program by any types of its VIs
abbrev pub AreTablesBy : Hierarchy → Linked → List ViTable → ProgramTables → Type 0
AreTablesBy h linked vis t = (types : ℕ → Types) → AreAllTables (flat_vis h.vis types 0 h.vis) vis → IsTableOf (program h types linked) t

table_by : (h : Hierarchy) (typed : Typed) (linked : Linked) (vis : List Vi) (told : List ViTypes) (ts : List ViTable) (t : ProgramTables) → vis ≡ h.vis → told ≡ typed.vis
    → AreAllTables (flat_vis h.vis (types_by told) 0 vis) ts → AreTablesBy h linked ts t → IsTableOf (program h (types_by typed.vis) linked) t
table_by h typed linked vis told ts t ev et are by =
    let P : List ViTypes → Type 0 = λ xs. AreAllTables (flat_vis h.vis (types_by xs) 0 vis) ts in
    let Q : List Vi → Type 0 = λ vs. AreAllTables (flat_vis h.vis (types_by typed.vis) 0 vs) ts in
    by (types_by typed.vis) (subst Q ev (subst P et are))

pub is_table_of : (h : Hierarchy) (typed : Typed) (linked : Linked) (vis : List Vi) (told : List ViTypes) (ts : List ViTable) → IsTyped h typed → vis ≡ h.vis → told ≡ typed.vis
    → AreAllTables (flat_vis h.vis (types_by told) 0 vis) ts → (r : Result ProgramTables AllocError) → IfOk r (AreTablesBy h linked ts)
    → IfOk r (λ t. (main : ℕ) → IsLinked (outlines_of h) main linked → (p : Program) → IsProgram h main p → IsTableOf p t)
is_table_of h typed linked vis told ts types ev et are r by =
    let Q : ProgramTables → Type 0 = λ t. (main : ℕ) → IsLinked (outlines_of h) main linked → (p : Program) → IsProgram h main p → IsTableOf p t in
    IfOk-weaker r (AreTablesBy h linked ts) Q
    (λ t by main links p is.
    let P : Program → Type 0 = λ q. IsTableOf q t in
    subst P (sym (same_program h typed linked main types links p is)) (table_by h typed linked vis told ts t ev et are by))
    by

pub has_program : (h : Hierarchy) (typed : Typed) (linked : Linked) (vis : List Vi) (told : List ViTypes) (ts : List ViTable) → IsTyped h typed → vis ≡ h.vis → told ≡ typed.vis
    → AreAllTables (flat_vis h.vis (types_by told) 0 vis) ts → (r : Result ProgramTables AllocError) → IfOk r (AreTablesBy h linked ts)
    → IfOk r (λ t. (main : ℕ) → IsLinked (outlines_of h) main linked → (p : Program) × (IsProgram h main p × IsTableOf p t))
has_program h typed linked vis told ts types ev et are r by =
    let Q : ProgramTables → Type 0 = λ t. (main : ℕ) → IsLinked (outlines_of h) main linked → (p : Program) × (IsProgram h main p × IsTableOf p t) in
    IfOk-weaker r (AreTablesBy h linked ts) Q
    (λ t by main links. (program h (types_by typed.vis) linked, (is_program h typed linked main types links, table_by h typed linked vis told ts t ev et are by)))
    by
