-- That a hierarchy in which nothing is broken can be run as a program, and what its run and its settings make of an answer.
use Rattle.std.proofs.Common.{◌≡◌, ◌≢◌, ℕ, ◌+◌, ◌<◌, ◌++◌, List, [], ◌∷◌, length, arith, Option, None, Some, codes, refl, sym, ap, ◌∙◌, subst}
use Rattle.std.specs.Fmt.{decimal}
use Rattle.std.specs.List.{All}
use Rattle.std.specs.Option.{option_map_or}
use Rattle.std.specs.Prelude.{slice_get}
use Rattle.g_values.specs.declared.value.Value.{Value}
use Rattle.g_diagram.specs.declared.hierarchy.Hierarchy.{Hierarchy}
use Rattle.g_diagram.specs.declared.hierarchy.Vi.{Vi}
use Rattle.g_diagram.specs.declared.panel.PanelItem.{PanelItem}
use Rattle.g_accepted.specs.Laws.{AreAccepted}
use Rattle.g_accepted.proofs.Objects.{get_flat, flat_got}
use Rattle.g_frames.specs.declared.firing.Firing.{Firing}
use Rattle.g_frames.specs.Program.{FlatVi, Program, IsProgram, flat_vi, flat_vis, vi_at, program}
use Rattle.g_frames.specs.State.{panel_items}
use Rattle.g_hier.specs.Answer.{Links}
use Rattle.g_hier.specs.Outlines.{number_of, outlines_of}
use Rattle.g_hier.specs.declared.linked.Linked.{Linked}
use Rattle.g_infer.specs.Answer.{types_in, HasTyping, IsTyped}
use Rattle.g_infer.specs.declared.typed.Typed.{Typed}
use Rattle.g_infer.specs.declared.typed.ViTypes.{ViTypes}
use Rattle.g_infer_laws.specs.OwnLines.{HasOwnLines}
use Rattle.g_line.specs.declared.forms.Setting.{Setting}
use Rattle.g_listing_laws.specs.Spelled.{AreSpelled}
use Rattle.g_prims_laws.specs.Laws.{AreOfTypes}
use Rattle.g_rules.specs.Checked.{IsUnbroken}
use Rattle.g_runs.specs.Needs.{RunNeeds}
use Rattle.g_typed_needs.specs.Laws.{FiringsHaveNeeds, StartsHaveNeeds}
use Rattle.g_typed_states.specs.Accepted.{IsAccepted}
use Rattle.g_typed_states.specs.Laws.{AreControls, RunsTyped}
use Rattle.g_typing.specs.Types.{Types}
use Rattle.g_typing.specs.Typing.{IsTyping, control_types}
use Rattle.grun.specs.Answer.{Reply, reply, Runs, IsRunAnswer, control, ran}
use Rattle.grun.specs.Ready.{IsReady, AreSettled, RunsProgram}
use Rattle.grun.specs.Settings.{Named, Give, IsWrongSetting, controls, control_values}
use Rattle.grun.specs.Texts.{line_of}

-- ---- the program

abbrev told : Option ViTypes → Types
told None d name = None
told (Some found) d name = types_in found d name

-- typed and linked a hierarchy is a program
some_program : (h : Hierarchy) (main : ℕ) (typed : Typed) (linked : Linked) → IsTyped h typed → Links (outlines_of h) main linked → (p : Program) × IsProgram h main p
some_program h main typed linked types links =
    let by : ℕ → Types = λ v. told (slice_get typed.vis v) in (
      program h by linked,
      record {
        types = by;
        typing = λ v vi at. one vi (slice_get typed.vis v) (types.each v vi at);
        linked = linked;
        links = links.linked;
        program_is = refl;
      },
    )
  where
    one : (vi : Vi) (o : Option ViTypes) → HasTyping h.vis vi o → IsTyping h.vis vi (told o)
    one vi None none = absurd none
    one vi (Some found) is = is.typing

-- the VI that runs
program_main : (h : Hierarchy) (main : ℕ) (p : Program) → IsProgram h main p → p.main ≡ main
program_main h main p is = ap (λ (q : Program). q.main) is.program_is ∙ is.links.main_is

program_vis : (h : Hierarchy) (main : ℕ) (p : Program) (is : IsProgram h main p) → p.vis ≡ flat_vis h.vis is.types 0 h.vis
program_vis h main p is = ap (λ (q : Program). q.vis) is.program_is

main_stands : (h : Hierarchy) (main : ℕ) (p : Program) → IsProgram h main p → IsAccepted p → (vi : Vi) × (slice_get h.vis main ≡ Some vi)
main_stands h main p is accepted =
    let first = accepted.main in
    let space = accepted.spaces 0 first.found first.is in
    let at : slice_get p.vis main ≡ Some space.vi = ap (slice_get p.vis) (sym (first.vi_is ∙ program_main h main p is)) ∙ space.is in
    let flat : slice_get (flat_vis h.vis is.types 0 h.vis) main ≡ Some space.vi = ap (λ vis. slice_get vis main) (sym (program_vis h main p is)) ∙ at in
    let got = flat_got h.vis is.types 0 h.vis main space.vi flat in
    (got.0, got.1)

pub is_ready : AreAccepted → (h : Hierarchy) (main : List ℕ) (typed : Typed) (linked : Linked) → IsUnbroken h main → IsTyped h typed → Links (outlines_of h) (number_of h.vis main) linked → AreSpelled h → All HasOwnLines h.vis
    → IsReady h main typed linked
is_ready laws h main typed linked unbroken types links spelled own =
    let number = number_of h.vis main in
    let accepted : (p : Program) → IsProgram h number p → IsAccepted p = λ p is. laws h main p spelled own unbroken is in
    let p = some_program h number typed linked types links in
    let vi = main_stands h number p.0 p.1 (accepted p.0 p.1) in
    record {
      unbroken = unbroken;
      types = types;
      links = links;
      spelled = spelled;
      accepted = accepted;
      vi = vi.0;
      stands = ap (slice_get h.vis) links.linked.main_is ∙ vi.1;
    }

-- values that are right for the VI that runs are so for the program
main_panel : (h : Hierarchy) (main : ℕ) (p : Program) → IsProgram h main p → (vi : Vi) → slice_get h.vis main ≡ Some vi → panel_items p p.main ≡ vi.panel
main_panel h main p is vi stands =
    let flat = get_flat h.vis is.types 0 h.vis main vi stands in
    let at : vi_at p p.main ≡ Some (flat_vi h.vis (is.types (0 + main)) vi) =
    ap (slice_get p.vis) (program_main h main p is) ∙ ap (λ vis. slice_get vis main) (program_vis h main p is) ∙ flat in
    ap (λ (o : Option FlatVi). option_map_or (λ vi. vi.panel) o []) at

pub are_controls : (h : Hierarchy) (main : ℕ) (p : Program) → IsProgram h main p → (vi : Vi) → slice_get h.vis main ≡ Some vi → (values : List Value) → AreSettled vi values → AreControls p values
are_controls h main p is vi stands values settled = record {
  of_types = subst (λ (items : List PanelItem). AreOfTypes (control_types items) values) (sym (main_panel h main p is vi stands)) settled.of_types;
  none = settled.none;
}

pub run_needs : FiringsHaveNeeds → StartsHaveNeeds → RunsTyped → (p : Program) (values : List Value) (limit : ℕ) → IsAccepted p → AreControls p values → RunNeeds p values limit
run_needs firings starts runs p values limit accepted controls = record {
  start = starts p accepted;
  firings = λ trace s after_it frame line. firings p s frame line accepted (runs p values limit trace s accepted controls after_it);
}

-- ---- answers

pub runs_so : (h : Hierarchy) (main : ℕ) (p : Program) (values : List Value) (limit : ℕ) (trace : List Firing) (r : Reply) → IsProgram h main p → RunsProgram p values limit trace r → Runs h main values limit trace r
runs_so h main p values limit trace r is runs = record {
  program = p;
  is_program = is;
  state = runs.state;
  allowed = runs.allowed;
  rest = runs.rest;
  shown = runs.shown;
}

pub wrong_setting : (h : Hierarchy) (main : List ℕ) (typed : Typed) (linked : Linked) → IsReady h main typed linked → (vi : Vi) → slice_get h.vis linked.main ≡ Some vi → (settings : List Setting) (limit : ℕ) (s : Setting)
    → IsWrongSetting (controls vi.panel) settings s → IsRunAnswer main settings limit h None (reply 4 (line_of (codes "control at word " ++ decimal s.word)))
wrong_setting h main typed linked ready vi stands settings limit s wrong = control vi s ready.unbroken (ap (slice_get h.vis) (sym ready.links.linked.main_is) ∙ stands) wrong

pub right_settings : (h : Hierarchy) (main : List ℕ) (typed : Typed) (linked : Linked) → IsReady h main typed linked → (vi : Vi) → slice_get h.vis linked.main ≡ Some vi → (settings : List Setting) (limit : ℕ) (values : Named Value) (trace : List Firing) (r : Reply)
    → Give (controls vi.panel) [] settings values → Runs h (number_of h.vis main) (control_values vi.panel values) limit trace r → IsRunAnswer main settings limit h (Some trace) r
right_settings h main typed linked ready vi stands settings limit values trace r right runs =
    ran vi values trace r ready.unbroken (ap (slice_get h.vis) (sym ready.links.linked.main_is) ∙ stands) right runs

pub is_some_list : {X : Type 0} (xs : List X) → 0 < length xs → xs ≢ []
is_some_list [] some = absurd (omega (arith, some))
is_some_list (x ∷ xs) some = λ e. absurd cc
