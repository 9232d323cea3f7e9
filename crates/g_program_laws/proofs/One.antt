-- A hierarchy is one program.
use Rattle.std.proofs.Common.{◌≡◌, ℕ, suc, ◌+◌, List, [], ◌∷◌, map, refl, ap, sym, ◌∙◌, subst, arith}
use Rattle.std.specs.Prelude.{slice_get, Some}
use Rattle.g_diagram.specs.declared.hierarchy.Hierarchy.{Hierarchy}
use Rattle.g_diagram.specs.declared.hierarchy.Vi.{Vi}
use Rattle.g_diagram.specs.Leads.{Leads}
use Rattle.g_diagram.specs.Ports.{ports_of, has_wire}
use Rattle.g_hier.specs.declared.linked.Linked.{Linked}
use Rattle.g_hier.specs.declared.linked.Outline.{Outline}
use Rattle.g_hier.specs.LinkOrder.{IsLinked, vis_after}
use Rattle.g_hier.specs.Outlines.{outlines_of}
use Rattle.g_typing.specs.Types.{Types}
use Rattle.g_typing.proofs.Agreed.{one_typing}
use Rattle.g_typing_laws.specs.Typable.{NoneTurns}
use Rattle.g_program_laws.specs.Laws.{ProgramsAreOne}
use Rattle.g_frames.specs.Program.{FlatVi, Program, IsProgram, flat_vi, flat_vis, program, first_of_each, queues_in, in_spaces, cell_on, kept_on, pools_in}

same_linked : (os : List Outline) (main : ℕ) (l m : Linked) → IsLinked os main l → IsLinked os main m → l ≡ m
same_linked os main l m a b =
    let met : a.met ≡ b.met = b.only a.met a.in_order in
    let order : l.order ≡ m.order = a.order_is ∙ ap (λ ps. vis_after [] ps) met ∙ sym b.order_is in
    let spaces : l.spaces ≡ m.spaces = a.spaces_are ∙ ap (λ ps. map (λ p. p.space) ps) met ∙ sym b.spaces_are in
    let systems : l.systems ≡ m.systems = a.systems_are ∙ ap (λ ps. map (λ p. p.system) ps) met ∙ sym b.systems_are in
    let main : l.main ≡ m.main = a.main_is ∙ sym b.main_is in
    ap (λ n. record { main = n; order = l.order; spaces = l.spaces; systems = l.systems }) main
    ∙ ap (λ ns. record { main = m.main; order = ns; spaces = l.spaces; systems = l.systems }) order
    ∙ ap (λ ss. record { main = m.main; order = m.order; spaces = ss; systems = l.systems }) spaces
    ∙ ap (λ ss. record { main = m.main; order = m.order; spaces = m.spaces; systems = ss }) systems

-- VIs of the same types are the same
same_vis : (all : List Vi) (M T : ℕ → Types) (v : ℕ) (vis : List Vi)
    → ((k : ℕ) (vi : Vi) → slice_get vis k ≡ Some vi → M (v + k) ≡ T (v + k)) → flat_vis all M v vis ≡ flat_vis all T v vis
same_vis all M T v [] each = refl
same_vis all M T v (vi ∷ vis) each =
    let zero_more : v + 0 ≡ v = omega arith in
    let first : M v ≡ T v = subst (λ n. M n ≡ T n) zero_more (each 0 vi refl) in
    let rest = same_vis all M T (suc v) vis
    (λ k w at. let more : v + suc k ≡ suc v + k = omega arith in subst (λ n. M n ≡ T n) more (each (suc k) w at)) in
    ap (λ types. flat_vi all types vi ∷ flat_vis all M (suc v) vis) first ∙ ap (λ fs. flat_vi all (T v) vi ∷ fs) rest

-- the program of VIs that are made flat
abbrev by_vis : Linked → List FlatVi → Program
by_vis linked vis = record {
  vis = vis;
  main = linked.main;
  spaces = linked.spaces;
  queues = first_of_each (queues_in linked.order 0 vis) [];
  cells = in_spaces (λ space vi e. cell_on vi.types space e e.kind) vis 0 linked.spaces;
  kept = in_spaces (λ space vi e. kept_on space e e.kind) vis 0 linked.spaces;
  pools = pools_in linked.order linked.main 0 vis;
}

same_types : (h : Hierarchy) (M T : ℕ → Types) (l : Linked) → flat_vis h.vis M 0 h.vis ≡ flat_vis h.vis T 0 h.vis → program h M l ≡ program h T l
same_types h M T l e = ap (by_vis l) e

one_program_by : (h : Hierarchy) → ((k : ℕ) (vi : Vi) → slice_get h.vis k ≡ Some vi → (v : ℕ) → Leads (has_wire (ports_of h.vis vi)) v v → ⊥)
    → (main : ℕ) (p q : Program) → IsProgram h main p → IsProgram h main q → p ≡ q
one_program_by h none main p q a b =
    let typed : (k : ℕ) (vi : Vi) → slice_get h.vis k ≡ Some vi → a.types (0 + k) ≡ b.types (0 + k) =
    λ k vi at.
    let here : k ≡ 0 + k = omega arith in
    subst (λ n. a.types n ≡ b.types n) here (one_typing h.vis vi (a.types k) (b.types k) (none k vi at) (a.typing k vi at) (b.typing k vi at)) in
    let vis = same_vis h.vis a.types b.types 0 h.vis typed in
    let links = same_linked (outlines_of h) main a.linked b.linked a.links b.links in
    a.program_is ∙ same_types h a.types b.types a.linked vis ∙ ap (program h b.types) links ∙ sym b.program_is

pub programs_are_one : NoneTurns → ProgramsAreOne
programs_are_one turns h name wired = one_program_by h (turns h name wired)
