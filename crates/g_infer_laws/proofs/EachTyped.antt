-- Each wire of a VI has a type, where none of the rules is broken: by the order of the steps in which types are decided.
use Rattle.std.proofs.Common.{◌≡◌, inl, inr, ⊎_elim, ℕ, Bool, true, false, List, [], ◌∷◌, ◌++◌, refl, ap, ◌∙◌, subst}
use Rattle.std.proofs.lemmas.Bool.{false≢true}
use Rattle.std.specs.Prelude.{Option, Some, None, is_some}
use Rattle.std.specs.List.{All}
use Rattle.std.proofs.lemmas.List.Elements.{All-nil, All-cons, All-from_recursion}
use Rattle.g_types.specs.declared.ty.Ty.{Ty}
use Rattle.g_diagram.specs.declared.hierarchy.Vi.{Vi}
use Rattle.g_diagram.specs.Lines.{Wire, Entry, entries_of}
use Rattle.g_diagram.specs.Operands.{Line, control_lines, entries_lines}
use Rattle.g_diagram.specs.Ports.{Port, ports_of, freedom}
use Rattle.g_typing.specs.Types.{Types}
use Rattle.g_typing.specs.Typing.{Given, Callees, Objects, IsGivenTo, AreTypes, called_panel, panel_type, all_given}
use Rattle.g_typing.proofs.Unique.{Step, HaveGiven}
use Rattle.g_typing.proofs.Steps.{kind_steps}
use Rattle.g_typing.proofs.Only.{IsIn, all_gives, entries_steps, vi_steps, vi_gives, typing_holds, holds_in}
use Rattle.g_typing.proofs.Roles.{nothing, IsRead}
use Rattle.g_typing.proofs.NodeRoles.{in_append}
use Rattle.g_typing.proofs.Names.{Giver, vi_named, named_in, same_given}
use Rattle.g_typing.proofs.Ready.{IsOf, Ready, ready}
use Rattle.g_typing.proofs.Agreed.{all_ready}
use Rattle.g_infer_laws.specs.Wires.{HasType, EachWireTyped}
use Rattle.g_infer_laws.proofs.Facts.{all_both, all_right}
use Rattle.g_infer_laws.proofs.Held.{LineHolds, LinesHold, PortsHold, lines_of_one, to_ports, from_ports}
use Rattle.g_infer_laws.proofs.Sources.{Sourced, vi_sourced}
use Rattle.g_infer_laws.proofs.Rules.{Fed, IsRight, consumers_fed, none_turns, right, all_fine}
use Rattle.g_infer_laws.proofs.Gives.{GivesType, HaveTypes, controls_typed, AllIfGiven, kind_typed}

-- a name that is given with a type has one
name_typed : (M : Types) (gs : List Given) (d : ℕ) (n : List ℕ) → HaveGiven M gs → HaveTypes gs → IsGivenTo gs d n → is_some (M d n) ≡ true
name_typed M [] d n have typed is = absurd is
name_typed M (g ∷ gs) d n have typed (inl is) =
    subst (λ (e : ℕ). is_some (M e n) ≡ true) is.0 (subst (λ (m : List ℕ). is_some (M g.diagram m) ≡ true) is.1 (ap is_some have.0 ∙ typed.0))
name_typed M (g ∷ gs) d n have typed (inr is) = name_typed M gs d n have.1 typed.1 is

all_read : (M : Types) (G : ℕ → List ℕ → Type 0) (qs : List (ℕ × Wire)) → ((d : ℕ) (n : List ℕ) → IsRead qs d n → G d n → is_some (M d n) ≡ true) → AllIfGiven M G qs
all_read M G [] h = tt
all_read M G ((d, None) ∷ qs) h = (tt, all_read M G qs (λ e n r. h e n (inr r)))
all_read M G ((d, Some m) ∷ qs) h = (h d m (inl (refl, refl)), all_read M G qs (λ e n r. h e n (inr r)))

-- the node of a step
record Origin (called : Callees) (objects : Objects) (es : List Entry) (s : Step) : Type 0 where
  entry : Entry
  is : IsOf entry es
  step : IsIn s (kind_steps called objects entry.line entry.diagram entry.kind)

origin : (called : Callees) (objects : Objects) (es : List Entry) (s : Step) → IsIn s (entries_steps called objects es) → Origin called objects es s
origin called objects [] s h = absurd h
origin called objects (e ∷ es) s h =
    ⊎_elim
    (λ l. record { entry = e; is = inl refl; step = l })
    (λ r. let o : Origin called objects es s = origin called objects es s r in record { entry = o.entry; is = inr o.is; step = o.step })
    (in_append s (kind_steps called objects e.line e.diagram e.kind) (entries_steps called objects es) h)

module _ (vis : List Vi) (vi : Vi) (types : Types) where
  abbrev es : List Entry
  es = entries_of vi

  abbrev all : List Step
  all = vi_steps (called_panel vis) vi.panel es

  abbrev lines : List Line
  lines = control_lines 1 vi.panel ++ entries_lines (freedom vis) es

  module _ (typing : AreTypes (called_panel vis) vi.panel es types) (nodes : (e : Entry) → IsOf e es → IsRight vis vi.panel types e.line e.diagram e.kind)
      (fed : LinesHold (Fed (Giver all)) lines) where
    -- a name has a type where its giver gives types
    by_giver : (d : ℕ) (n : List ℕ) (g : Giver all d n) → HaveTypes (g.step.gives types) → is_some (types d n) ≡ true
    by_giver d n g typed =
        name_typed types (g.step.gives types) d n (holds_in types g.step all (typing_holds (called_panel vis) vi.panel es types typing) g.is) typed
        (same_given (g.step.gives nothing) (g.step.gives types) d n (named_in g.step all (vi_named (called_panel vis) vi.panel es) g.is nothing types) g.gives)

    step_typed : (s : Step) → Ready all s → IsIn s all → HaveTypes (s.gives types)
    step_typed s (ready _ h) (inl q) = subst (λ (y : Step). HaveTypes (y.gives types)) q (controls_typed vi.panel)
    step_typed s (ready _ h) (inr i) =
        let o : Origin (called_panel vis) (panel_type vi.panel) es s = origin (called_panel vis) (panel_type vi.panel) es s i in
        kind_typed types (Giver all) vis vi.panel (freedom vis) o.entry o.entry.kind (nodes o.entry o.is)
        (lines_of_one (Fed (Giver all)) (freedom vis) es (all_right (LineHolds (Fed (Giver all))) (control_lines 1 vi.panel) (entries_lines (freedom vis) es) fed) o.entry o.is)
        s o.step
        (all_read types (Giver all) s.reads
        (λ d n reads g. by_giver d n g (step_typed g.step (h g.step g.is (record { diagram = d; name = n; reads = reads; gives = g.gives })) g.is)))

    given_typed : ((t : Step) → IsIn t all → Ready all t) → (d : ℕ) (n : List ℕ) → Giver all d n → is_some (types d n) ≡ true
    given_typed every d n g = by_giver d n g (step_typed g.step (every g.step g.is) g.is)

    -- each of what the lines give
    all_given_typed : ((t : Step) → IsIn t all → Ready all t) → All GivesType (all_given (called_panel vis) vi.panel es types)
    all_given_typed every =
        All-from_recursion GivesType (all_given (called_panel vis) vi.panel es types)
        (subst HaveTypes (vi_gives (called_panel vis) vi.panel es types) (steps_typed all (λ s is. step_typed s (every s is) is)))
      where
        steps_typed : (ss : List Step) → ((s : Step) → IsIn s ss → HaveTypes (s.gives types)) → HaveTypes (all_gives types ss)
        steps_typed [] each = tt
        steps_typed (s ∷ ss) each = all_both GivesType (s.gives types) (all_gives types ss) (each s (inl refl)) (steps_typed ss (λ t is. each t (inr is)))

the_type : (o : Option Ty) → is_some o ≡ true → (t : Ty) × (o ≡ Some t)
the_type None some = absurd (false≢true some)
the_type (Some t) some = (t, refl)

at_port : (G : ℕ → List ℕ → Type 0) (s free : Bool) (d : ℕ) (w : Wire) (n : List ℕ) → Sourced G s free d w → Fed G s free d w → w ≡ Some n → G d n
at_port G s free d None n given fed e = absurd (let no : None ≡ Some n = e in cc)
at_port G true free d (Some m) n given fed e = subst (G d) (let same : Some m ≡ Some n = e in cc) given
at_port G false free d (Some m) n given fed e = subst (G d) (let same : Some m ≡ Some n = e in cc) fed

ports_typed : (G : ℕ → List ℕ → Type 0) (types : Types) (ps : List Port) → PortsHold (Sourced G) ps → PortsHold (Fed G) ps → ((d : ℕ) (n : List ℕ) → G d n → is_some (types d n) ≡ true) → All (HasType types) ps
ports_typed G types [] given fed h = All-nil (HasType types)
ports_typed G types (p ∷ ps) given fed h =
    All-cons (HasType types) p ps
    (λ n e. the_type (types p.diagram n) (h p.diagram n (at_port G p.is_source p.is_free p.diagram p.wire n given.0 fed.0 e)))
    (ports_typed G types ps given.1 fed.1 h)

pub each_wire_typed : EachWireTyped
each_wire_typed h main wiring unbroken k vi types stands own typing =
    let G : ℕ → List ℕ → Type 0 = Giver (all h.vis vi types) in
    let sourced : PortsHold (Sourced G) (ports_of h.vis vi) =
    to_ports (Sourced G) (lines h.vis vi types)
    (vi_sourced types (freedom h.vis) (called_panel h.vis) vi.panel (entries_of vi) (all_fine h main wiring k vi stands unbroken types typing own)) in
    let fed : PortsHold (Fed G) (ports_of h.vis vi) = consumers_fed h main wiring k vi stands G sourced in
    let nodes : (e : Entry) → IsOf e (entries_of vi) → IsRight h.vis vi.panel types e.line e.diagram e.kind = right h main wiring k vi stands unbroken types typing own in
    let held : LinesHold (Fed G) (lines h.vis vi types) = from_ports (Fed G) (lines h.vis vi types) fed in
    let every = all_ready h.vis vi (none_turns h main wiring k vi stands) in
    record {
      wires = ports_typed G types (ports_of h.vis vi) sourced fed (given_typed h.vis vi types typing.given nodes held every);
      given = all_given_typed h.vis vi types typing.given nodes held every;
    }
