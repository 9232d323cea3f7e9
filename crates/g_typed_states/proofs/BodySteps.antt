-- The steps of bodies in place give typed values where what they read is typed.
use Rattle.std.proofs.Common.{◌≡◌, ⊎_elim, true, false, ◌&&◌, ℕ, zero, suc, ◌+◌, List, [], ◌∷◌, ◌++◌, map, Option, Some, None, refl, ap, sym, ◌∙◌, subst}
use Rattle.std.specs.Prelude.{is_some}
use Rattle.std.specs.List.{list_all}
use Rattle.std.specs.Option.{option_or}
use Rattle.g_types.specs.declared.ty.Ty.{Ty}
use Rattle.g_values.specs.declared.value.Value.{Value}
use Rattle.g_values.specs.Spelled.{IsSpelled}
use Rattle.g_prims_definitions.specs.Values.{outputs_of}
use Rattle.g_literals.specs.Values.{literal_value}
use Rattle.g_diagram.specs.declared.node.Tunnel.{Tunnel}
use Rattle.g_diagram.specs.declared.node.Tunnel.TheVariants as line
use Rattle.g_diagram.specs.Lines.{Wire, Arm, Entry, Kind, Const, Apply, Shows, Shared, Obtain, Read, Write, Call, Loop, Case, Sequence, InPlace}
use Rattle.g_diagram.specs.Operands.{Inside, Outside, border, border_lines, kind_lines}
use Rattle.g_typing.specs.Types.{Types, wire_at}
use Rattle.g_border.specs.Readers.{Reader, has_value, value_on, inputs_of, wires_taken, wires_taken_on, node_lines, outputs_given}
use Rattle.g_border.specs.Lines.{entering, reference_in}
use Rattle.g_border.specs.Cases.{chosen}
use Rattle.g_border.specs.Bodies.{Readers, Step, in_diagram, arms_read, results_of, kind_steps, steps_of}
use Rattle.g_frames.specs.Program.{FlatVi, Program}
use Rattle.g_typed_states.specs.Places.{Among, first, later, HaveTypes, node_places, line_places, lines_places}
use Rattle.g_typed_states.specs.Bodies.{BodyStep, kind_body_steps, body_steps, IsUnreferred}
use Rattle.g_typed_states.specs.Lines.{AllLines, types_outside, types_in_place, LinesOutside}
use Rattle.g_typed_states.specs.Accepted.{AcceptsCase, AcceptsPlace, AcceptsKind}
use Rattle.g_typed_states.specs.Typed.{AreTyped, IsTypedReader}
use Rattle.g_typed_states.proofs.Lists.{and_left, and_right, none_is, is_there, among_cases}
use Rattle.g_typed_states.proofs.Values.{literal_typed, outputs_typed}
use Rattle.g_typed_states.proofs.Wires.{GivesAt, are_fine, gives_paired, value_typed, values_typed}
use Rattle.g_typed_states.proofs.Inputs.{HaveValues, TakesOf, all_front, all_back, takes-Case, takes-InPlace}
use Rattle.g_typed_states.proofs.LineValues.{HasTaken, ReferredTyped, InnerHas}
use Rattle.g_typed_states.proofs.LineGives.{case_inside_gives, results_give, place_inside_gives, place_outside_gives}
use Rattle.g_typed_states.proofs.Branches.{chosen_among}

-- ---- lists of reads

abbrev pub Known : Readers → List (ℕ × Wire) → Type 0
Known R ws = list_all (λ w. has_value (R w.0) w.1) ws ≡ true

known_in : (R : Readers) (d : ℕ) (ws : List Wire) → Known R (in_diagram d ws) → HaveValues (R d) ws
known_in R d [] h = refl
known_in R d (w ∷ ws) h =
    ap (λ b. b && list_all (has_value (R d)) ws) (and_left (has_value (R d) w) (list_all (λ w. has_value (R w.0) w.1) (in_diagram d ws)) h)
    ∙ known_in R d ws (and_right (has_value (R d) w) (list_all (λ w. has_value (R w.0) w.1) (in_diagram d ws)) h)

known_front : (R : Readers) (xs ys : List (ℕ × Wire)) → Known R (xs ++ ys) → Known R xs
known_front R [] ys h = refl
known_front R (x ∷ xs) ys h =
    ap (λ b. b && list_all (λ w. has_value (R w.0) w.1) xs) (and_left (has_value (R x.0) x.1) (list_all (λ w. has_value (R w.0) w.1) (xs ++ ys)) h)
    ∙ known_front R xs ys (and_right (has_value (R x.0) x.1) (list_all (λ w. has_value (R w.0) w.1) (xs ++ ys)) h)

known_back : (R : Readers) (xs ys : List (ℕ × Wire)) → Known R (xs ++ ys) → Known R ys
known_back R [] ys h = h
known_back R (x ∷ xs) ys h = known_back R xs ys (and_right (has_value (R x.0) x.1) (list_all (λ w. has_value (R w.0) w.1) (xs ++ ys)) h)

known_arm : (R : Readers) (arms : List Arm) (arm : Arm) → Known R (arms_read arms) → Among arm arms → HaveValues (R arm.body) arm.gives
known_arm R [] arm h at = elim at [ ]
known_arm R (x ∷ arms) arm h at =
    ⊎_elim
    (λ same. subst (λ (a : Arm). HaveValues (R a.body) a.gives) same (known_in R x.body x.gives (known_front R (in_diagram x.body x.gives) (arms_read arms) h)))
    (λ l. known_arm R arms arm (known_back R (in_diagram x.body x.gives) (arms_read arms) h) l)
    (among_cases arm x arms at)

wire_has : (r : Reader) (ws : List Wire) (k : ℕ) (name : List ℕ) → HaveValues r ws → wire_at ws k ≡ Some name → is_some (r name) ≡ true
wire_has r [] k name h at = absurd (none_is name at)
wire_has r (w ∷ ws) zero name h at = subst (λ x. has_value r x ≡ true) at (and_left (has_value r w) (list_all (has_value r) ws) h)
wire_has r (w ∷ ws) (suc k) name h at = wire_has r ws k name (and_right (has_value r w) (list_all (has_value r) ws) h) at

-- ---- structures in place in a body

-- what lines take from the body
inner_taken : (r : Reader) (e : Entry) (inside before : List ℕ) (l : ℕ) (ts : List Tunnel) → HaveValues r (wires_taken_on Inside (border_lines e inside before border l ts))
    → AllLines (λ t. HaveValues r (wires_taken Inside (border t))) ts
inner_taken r e inside before l [] h = tt
inner_taken r e inside before l (t ∷ ts) h =
    let rest = wires_taken_on Inside (border_lines e inside before border (l + 1) ts) in
    (all_front r (wires_taken Inside (border t)) rest h, inner_taken r e inside before (l + 1) ts (all_back r (wires_taken Inside (border t)) rest h))

inner_has : (p : Program) (types : Types) (b : ℕ) (r : Reader) (t : Tunnel) → HaveValues r (wires_taken Inside (border t)) → InnerHas p types b r t
inner_has p types b r (line.Tunnel outer inner) h = tt
inner_has p types b r (line.Register initial inner next last) h = tt
inner_has p types b r (line.Kept t inner next last) h = tt
inner_has p types b r (line.Last inner outer) h = λ t known. and_left (has_value r inner) true h
inner_has p types b r (line.Gather inner outer) h = tt
inner_has p types b r (line.Index array inner) h = tt
inner_has p types b r (line.Result outer default) h = tt
inner_has p types b r (line.Carry earlier inner) h = tt
inner_has p types b r (line.Ref reference inner next same code) h = tt
inner_has p types b r (line.Element array index inner next outer) h = and_left (has_value r next) true h
inner_has p types b r (line.Field k cluster inner next outer) h = and_left (has_value r next) true h

all_inner_has : (p : Program) (types : Types) (b : ℕ) (r : Reader) (ts : List Tunnel) → AllLines (λ t. HaveValues r (wires_taken Inside (border t))) ts → AllLines (InnerHas p types b r) ts
all_inner_has p types b r [] h = tt
all_inner_has p types b r (t ∷ ts) h = (inner_has p types b r t h.0, all_inner_has p types b r ts h.1)

-- no line is a reference
abbrev pub IsNoReference : Tunnel → Type 0
IsNoReference (line.Ref reference inner next same code) = ⊥
IsNoReference _ = Unit {0}

some_or : {A : Type 0} (x : A) (o : Option A) → option_or (Some x) o ≡ None → ⊥
some_or x o h = none_is x (sym h)

pub no_references : (l : ℕ) (ts : List Tunnel) → reference_in l ts ≡ None → AllLines IsNoReference ts
no_references l [] h = tt
no_references l (line.Tunnel outer inner ∷ ts) h = (tt, no_references (l + 1) ts h)
no_references l (line.Register initial inner next last ∷ ts) h = (tt, no_references (l + 1) ts h)
no_references l (line.Kept t inner next last ∷ ts) h = (tt, no_references (l + 1) ts h)
no_references l (line.Last inner outer ∷ ts) h = (tt, no_references (l + 1) ts h)
no_references l (line.Gather inner outer ∷ ts) h = (tt, no_references (l + 1) ts h)
no_references l (line.Index array inner ∷ ts) h = (tt, no_references (l + 1) ts h)
no_references l (line.Result outer default ∷ ts) h = (tt, no_references (l + 1) ts h)
no_references l (line.Carry earlier inner ∷ ts) h = (tt, no_references (l + 1) ts h)
no_references l (line.Ref reference inner next same code ∷ ts) h = absurd (none_is _ (sym h))
no_references l (line.Element array index inner next outer ∷ ts) h = (tt, no_references (l + 1) ts h)
no_references l (line.Field k cluster inner next outer ∷ ts) h = (tt, no_references (l + 1) ts h)

pub unreferred_typed : (p : Program) (types : Types) (d : ℕ) (v : Value) (ts : List Tunnel) → AllLines IsNoReference ts → AllLines (ReferredTyped p types d v) ts
unreferred_typed p types d v [] none = tt
unreferred_typed p types d v (line.Ref reference inner next same code ∷ ts) none = absurd none.0
unreferred_typed p types d v (line.Tunnel outer inner ∷ ts) none = (tt, unreferred_typed p types d v ts none.1)
unreferred_typed p types d v (line.Register initial inner next last ∷ ts) none = (tt, unreferred_typed p types d v ts none.1)
unreferred_typed p types d v (line.Kept t inner next last ∷ ts) none = (tt, unreferred_typed p types d v ts none.1)
unreferred_typed p types d v (line.Last inner outer ∷ ts) none = (tt, unreferred_typed p types d v ts none.1)
unreferred_typed p types d v (line.Gather inner outer ∷ ts) none = (tt, unreferred_typed p types d v ts none.1)
unreferred_typed p types d v (line.Index array inner ∷ ts) none = (tt, unreferred_typed p types d v ts none.1)
unreferred_typed p types d v (line.Result outer default ∷ ts) none = (tt, unreferred_typed p types d v ts none.1)
unreferred_typed p types d v (line.Carry earlier inner ∷ ts) none = (tt, unreferred_typed p types d v ts none.1)
unreferred_typed p types d v (line.Element array index inner next outer ∷ ts) none = (tt, unreferred_typed p types d v ts none.1)
unreferred_typed p types d v (line.Field k cluster inner next outer ∷ ts) none = (tt, unreferred_typed p types d v ts none.1)

plain_types : (types : Types) (d b : ℕ) (t : Tunnel) → IsNoReference t → types_in_place types d b t ≡ types_outside types d b t
plain_types types d b (line.Ref reference inner next same code) none = absurd none
plain_types types d b (line.Tunnel outer inner) none = refl
plain_types types d b (line.Register initial inner next last) none = refl
plain_types types d b (line.Kept t inner next last) none = refl
plain_types types d b (line.Last inner outer) none = refl
plain_types types d b (line.Gather inner outer) none = refl
plain_types types d b (line.Index array inner) none = refl
plain_types types d b (line.Result outer default) none = refl
plain_types types d b (line.Carry earlier inner) none = refl
plain_types types d b (line.Element array index inner next outer) none = refl
plain_types types d b (line.Field k cluster inner next outer) none = refl

pub plain_outside : (vi : FlatVi) (d b l : ℕ) (ts : List Tunnel) → AllLines IsNoReference ts → LinesOutside vi (types_in_place vi.types d b) l ts → LinesOutside vi (types_outside vi.types d b) l ts
plain_outside vi d b l [] none have = tt
plain_outside vi d b l (t ∷ ts) none have = (subst (HaveTypes vi (line_places Outside l t)) (plain_types vi.types d b t none.0) have.0, plain_outside vi d b (l + 1) ts none.1 have.1)

-- ---- steps

module _ (p : Program) (vi : FlatVi) (spelled : (d : ℕ) (name : List ℕ) (t : Ty) → vi.types d name ≡ Some t → IsSpelled t) where
  abbrev pub ReadersTyped : Readers → Type 0
  ReadersTyped R = (d : ℕ) → IsTypedReader p (vi.types d) (R d)

  -- a step of a body is one of its nodes'
  pub record IsStep (b : BodyStep) (step : Step) : Type 0 where
    pub reads_are : step.reads ≡ b.reads
    pub gives_at : (R : Readers) → ReadersTyped R → Known R b.reads → GivesAt p vi b.places (step.gives R)

  abbrev pub AreSteps : List BodyStep → List Step → Type 0
  AreSteps [] [] = Unit {0}
  AreSteps [] (x ∷ xs) = ⊥
  AreSteps (b ∷ bs) [] = ⊥
  AreSteps (b ∷ bs) (x ∷ xs) = IsStep b x × AreSteps bs xs

  steps_append : (bs cs : List BodyStep) (xs ys : List Step) → AreSteps bs xs → AreSteps cs ys → AreSteps (bs ++ cs) (xs ++ ys)
  steps_append [] cs [] ys one two = two
  steps_append [] cs (x ∷ xs) ys one two = absurd one
  steps_append (b ∷ bs) cs [] ys one two = absurd one
  steps_append (b ∷ bs) cs (x ∷ xs) ys one two = (one.0, steps_append bs cs xs ys one.1 two)

  module _ (n : Entry) where
    outputs_at : (ts : List Ty) (vs : List Value) → HaveTypes vi (node_places n) (map Some ts) → AreTyped p ts vs → GivesAt p vi (node_places n) (outputs_given n vs)
    outputs_at ts vs have are = gives_paired p vi spelled (node_places n) (map Some ts) vs have (are_fine p ts vs are)

    takes_of : (k : Kind) → n.kind ≡ k → (R : Readers) → Known R (in_diagram n.diagram (inputs_of n)) → TakesOf (R n.diagram) n k
    takes_of k is R known = subst (TakesOf (R n.diagram) n) is (known_in R n.diagram (inputs_of n) known)

    case_steps : (selector : Wire) (lines : List Tunnel) (arms : List Arm) → n.kind ≡ Case selector lines arms → AcceptsCase vi n selector lines arms
        → AreSteps (kind_body_steps n (Case selector lines arms)) (kind_steps vi.types n (Case selector lines arms))
    case_steps selector lines arms is accepts = (
      record {
        reads_are = refl;
        gives_at = λ R reads known.
            case_inside_gives p vi spelled n.diagram (entering (R n.diagram)) (reads n.diagram) (n.line + 1) lines accepts.forms
            (takes-Case (R n.diagram) n selector lines arms (takes_of (Case selector lines arms) is R known)).1 accepts.inside;
      },
      (record { reads_are = refl; gives_at = results }, tt),
    )
      where
        results : (R : Readers) → ReadersTyped R → Known R ((n.diagram, selector) ∷ arms_read arms)
            → GivesAt p vi (lines_places Outside (n.line + 1) lines) (results_of vi.types (n.line + 1) lines arms R (chosen (value_on (R n.diagram) selector) arms))
        results R reads known =
            let has_selector = and_left (has_value (R n.diagram) selector) (list_all (λ (w : ℕ × Wire). has_value (R w.0) w.1) (arms_read arms)) known in
            let has_arms = and_right (has_value (R n.diagram) selector) (list_all (λ (w : ℕ × Wire). has_value (R w.0) w.1) (arms_read arms)) known in
            let v = value_typed p vi.types n.diagram (R n.diagram) (reads n.diagram) selector accepts.selects has_selector accepts.known in
            let arm = is_there (chosen (value_on (R n.diagram) selector) arms) (accepts.covered (value_on (R n.diagram) selector) v.typed) in
            let stands = chosen_among (value_on (R n.diagram) selector) arms arm.0 arm.1 in
            let has = known_arm R arms arm.0 has_arms stands in
            subst (λ o. GivesAt p vi (lines_places Outside (n.line + 1) lines) (results_of vi.types (n.line + 1) lines arms R o)) (sym arm.1)
            (results_give p vi spelled arms arm.0 stands (R arm.0.body) (reads arm.0.body) (λ k name u at type. wire_has (R arm.0.body) arm.0.gives k name has at) 0 (n.line + 1) lines accepts.forms
            accepts.gives accepts.outside)

    place_steps : (lines : List Tunnel) (body finish : ℕ) → n.kind ≡ InPlace lines body finish → AcceptsPlace vi n lines body finish → reference_in (n.line + 1) lines ≡ None
        → AreSteps (kind_body_steps n (InPlace lines body finish)) (kind_steps vi.types n (InPlace lines body finish))
    place_steps lines body finish is accepts none = (
      record {
        reads_are = refl;
        gives_at = λ R reads known.
            place_inside_gives p vi spelled n.diagram body (entering (R n.diagram)) (reads n.diagram) (n.line + 1) lines accepts.forms accepts.fits (taken R known)
            (unreferred_typed p vi.types n.diagram (entering (R n.diagram)).referred lines plain) accepts.inside;
      },
      (
        record {
          reads_are = refl;
          gives_at = λ R reads known.
              place_outside_gives p vi spelled n.diagram body (R n.diagram) (R body) (reads n.diagram) (reads body) (n.line + 1) lines accepts.forms accepts.fits
              (taken R (known_front R (in_diagram n.diagram (inputs_of n)) (in_diagram body (wires_taken_on Inside (node_lines n))) known))
              (inner R (known_back R (in_diagram n.diagram (inputs_of n)) (in_diagram body (wires_taken_on Inside (node_lines n))) known))
              (plain_outside vi n.diagram body (n.line + 1) lines plain accepts.outside);
        },
        tt,
      ),
    )
      where
        plain : AllLines IsNoReference lines
        plain = no_references (n.line + 1) lines none

        taken : (R : Readers) → Known R (in_diagram n.diagram (inputs_of n)) → AllLines (HasTaken (R n.diagram)) lines
        taken R known = takes-InPlace (R n.diagram) n lines body finish (takes_of (InPlace lines body finish) is R known)

        inner : (R : Readers) → Known R (in_diagram body (wires_taken_on Inside (node_lines n))) → AllLines (InnerHas p vi.types body (R body)) lines
        inner R known =
            all_inner_has p vi.types body (R body) lines
            (inner_taken (R body) n (body ∷ []) [] (n.line + 1) lines
            (subst (λ k. HaveValues (R body) (wires_taken_on Inside (kind_lines (λ x m. false) n k))) is (known_in R body (wires_taken_on Inside (node_lines n)) known)))

    kind_steps_are : (k : Kind) → n.kind ≡ k → AcceptsKind p vi n k → IsUnreferred n k → AreSteps (kind_body_steps n k) (kind_steps vi.types n k)
    kind_steps_are (Const t literal out) is accepts plain = (
      record {
        reads_are = refl;
        gives_at = λ R reads known. outputs_at (t ∷ []) (literal_value literal t ∷ []) accepts.places (literal_typed p literal t accepts.value accepts.spelled, tt);
      },
      tt,
    )
    kind_steps_are (Apply op inputs outputs) is accepts plain = (
      record {
        reads_are = refl;
        gives_at = λ R reads known.
            outputs_at accepts.gives (outputs_of op (map (value_on (R n.diagram)) inputs)) accepts.places
            (outputs_typed p op accepts.takes accepts.gives (map (value_on (R n.diagram)) inputs)
            (values_typed p vi.types n.diagram (R n.diagram) (reads n.diagram) inputs accepts.takes (known_in R n.diagram inputs known) accepts.known) accepts.row);
      },
      tt,
    )
    kind_steps_are (Case selector lines arms) is accepts plain = case_steps selector lines arms is accepts
    kind_steps_are (InPlace lines body finish) is accepts plain = place_steps lines body finish is accepts plain
    kind_steps_are (Shows name t w) is accepts plain = tt
    kind_steps_are (Shared op inputs outputs) is accepts plain = tt
    kind_steps_are (Obtain name size item out) is accepts plain = tt
    kind_steps_are (Read name out) is accepts plain = tt
    kind_steps_are (Write name w) is accepts plain = tt
    kind_steps_are (Call name inputs outputs) is accepts plain = tt
    kind_steps_are (Loop count stop i lines body) is accepts plain = tt
    kind_steps_are (Sequence parts) is accepts plain = tt

  pub steps_are : (ns : List Entry) → ((n : Entry) → Among n ns → AcceptsKind p vi n n.kind) → ((n : Entry) → Among n ns → IsUnreferred n n.kind) → AreSteps (body_steps ns) (steps_of vi.types ns)
  steps_are [] accepts plain = tt
  steps_are (n ∷ ns) accepts plain =
      steps_append (kind_body_steps n n.kind) (body_steps ns) (kind_steps vi.types n n.kind) (steps_of vi.types ns)
      (kind_steps_are n n.kind refl (accepts n first) (plain n first)) (steps_are ns (λ m at. accepts m (later at)) (λ m at. plain m (later at)))
