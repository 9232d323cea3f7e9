-- Each named source of a VI is given by a step in which types are decided.
use Rattle.std.proofs.Common.{ℕ, ◌+◌, Bool, true, false, List, [], ◌∷◌, ◌++◌, map, refl, inl, inr, ◌≡◌}
use Rattle.std.proofs.lemmas.Bool.{false≢true}
use Rattle.std.specs.Prelude.{Option, Some, None}
use Rattle.std.specs.List.{AllByRecursion, list_all}
use Rattle.g_types.specs.declared.ty.Ty.{Ty}
use Rattle.g_diagram.specs.declared.node.Tunnel.{Tunnel}
use Rattle.g_diagram.specs.declared.node.Tunnel.TheVariants as line
use Rattle.g_diagram.specs.declared.panel.PanelItem.{PanelItem}
use Rattle.g_diagram.specs.declared.panel.PanelItem.TheVariants.{Control, Indicator}
use Rattle.g_diagram.specs.Lines.{Wire, Arm, Part, Entry, Kind, Const, Apply, Shows, Shared, Obtain, Read, Write, Call, Loop, Case, Sequence, InPlace}
use Rattle.g_diagram.specs.Operands.{Outside, Inside, Operand, Line, Freedom, source, consumer, free_consumer, border, case_border, header_line, loop_header, plain_line, border_lines, parts_lines, give_line, call_inputs, kind_lines, entries_lines, control_lines}
use Rattle.g_typing.specs.Types.{Types}
use Rattle.g_typing.specs.Typing.{Given, Callees, Objects, IsGivenTo, given, given_each, line_inside, line_outside, lines_inside, lines_outside, result_given, next_result, panel_type, controls_given}
use Rattle.g_typing.proofs.Unique.{Step}
use Rattle.g_typing.proofs.Steps.{fixed, inside, outside, frame_outside, arms_steps, result_step, results_steps, parts_steps, steps_append, kind_steps}
use Rattle.g_typing.proofs.Only.{IsIn, entries_steps, vi_steps}
use Rattle.g_typing.proofs.Roles.{nothing}
use Rattle.g_typing.proofs.Names.{Giver}
use Rattle.g_infer_laws.specs.OwnLines.{is_case_line}
use Rattle.g_wires.proofs.Found.{and_left, and_right}
use Rattle.g_infer_laws.proofs.Facts.{all_both, all_then}
use Rattle.g_infer_laws.proofs.Held.{OperandsHold, LineHolds, LinesHold}
use Rattle.g_infer_laws.proofs.Fine.{IsFine, AreFine, PartsFine, IsKindFine, AllFine}

-- a named source is given
abbrev pub Sourced : (ℕ → List ℕ → Type 0) → (is_source is_free : Bool) → (diagram : ℕ) → Wire → Type 0
Sourced G false free d w = Unit {0}
Sourced G true free d None = Unit {0}
Sourced G true free d (Some name) = G d name

-- all that is given to names
abbrev Into : (ℕ → List ℕ → Type 0) → List Given → Type 0
Into G gs = (z : ℕ) (n : List ℕ) → IsGivenTo gs z n → G z n

given_left : (xs ys : List Given) (d : ℕ) (n : List ℕ) → IsGivenTo xs d n → IsGivenTo (xs ++ ys) d n
given_left [] ys d n h = absurd h
given_left (x ∷ xs) ys d n (inl h) = inl h
given_left (x ∷ xs) ys d n (inr h) = inr (given_left xs ys d n h)

given_right : (xs ys : List Given) (d : ℕ) (n : List ℕ) → IsGivenTo ys d n → IsGivenTo (xs ++ ys) d n
given_right [] ys d n h = h
given_right (x ∷ xs) ys d n h = inr (given_right xs ys d n h)

-- a step among some
in_left : (s : Step) (xs ys : List Step) → IsIn s xs → IsIn s (steps_append xs ys)
in_left s [] ys h = absurd h
in_left s (x ∷ xs) ys (inl h) = inl h
in_left s (x ∷ xs) ys (inr h) = inr (in_left s xs ys h)

in_right : (s : Step) (xs ys : List Step) → IsIn s ys → IsIn s (steps_append xs ys)
in_right s [] ys h = h
in_right s (x ∷ xs) ys h = inr (in_right s xs ys h)

module _ (G : ℕ → List ℕ → Type 0) where
  into_left : (xs ys : List Given) → Into G (xs ++ ys) → Into G xs
  into_left xs ys h z n g = h z n (given_left xs ys z n g)

  into_right : (xs ys : List Given) → Into G (xs ++ ys) → Into G ys
  into_right xs ys h z n g = h z n (given_right xs ys z n g)

  -- all that some steps give
  abbrev IntoSteps : List Step → Type 0
  IntoSteps ss = (s : Step) → IsIn s ss → Into G (s.gives nothing)

  from_given : (free : Bool) (d : ℕ) (w : Wire) (t : Option Ty) → Into G (given d w t) → Sourced G true free d w
  from_given free d None t h = tt
  from_given free d (Some n) t h = h d n (inl (refl, refl))

  in_each : (free : Bool) (w : Wire) (t : Option Ty) (bs : List ℕ) → AllByRecursion (λ b. Into G (given b w t)) bs → AllByRecursion (λ b. Sourced G true free b w) bs
  in_each free w t bs h = all_then (λ b. Into G (given b w t)) (λ b. Sourced G true free b w) bs (λ b i. from_given free b w t i) h

  in_none : (bs : List ℕ) → AllByRecursion (λ b. Unit {0}) bs
  in_none [] = tt
  in_none (b ∷ bs) = (tt, in_none bs)

  -- ---- outputs after inputs

  outputs_sourced : (l : Line) (ws : List Wire) (ts : List Ty) → Into G (given_each l.outside ws ts) → OperandsHold (Sourced G) l (map (source Outside) ws)
  outputs_sourced l [] ts h = tt
  outputs_sourced l (w ∷ ws) [] h = (
    from_given false l.outside w None (into_left (given l.outside w None) (given_each l.outside ws []) h),
    outputs_sourced l ws [] (into_right (given l.outside w None) (given_each l.outside ws []) h),
  )
  outputs_sourced l (w ∷ ws) (t ∷ ts) h = (
    from_given false l.outside w (Some t) (into_left (given l.outside w (Some t)) (given_each l.outside ws ts) h),
    outputs_sourced l ws ts (into_right (given l.outside w (Some t)) (given_each l.outside ws ts) h),
  )

  after_inputs : (l : Line) (ws : List Wire) (os : List Operand) → OperandsHold (Sourced G) l os → OperandsHold (Sourced G) l (map (consumer Outside) ws ++ os)
  after_inputs l [] os h = h
  after_inputs l (w ∷ ws) os h = (tt, after_inputs l ws os h)

  after_call : (l : Line) (free : ℕ → Bool) (k : ℕ) (ws : List Wire) (os : List Operand) → OperandsHold (Sourced G) l os → OperandsHold (Sourced G) l (call_inputs free k ws ++ os)
  after_call l free k [] os h = h
  after_call l free k (w ∷ ws) os h = (tt, after_call l free (k + 1) ws os h)

  -- ---- border lines

  border_sourced : (M : Types) (ok : Bool) (l : Line) (b : ℕ) (before : Option ℕ) (t : Tunnel) → IsFine M l.outside before t
      → AllByRecursion (λ x. Into G (line_inside nothing l.outside x before t)) l.inside → Into G (line_outside nothing ok l.outside b t) → OperandsHold (Sourced G) l (border t)
  border_sourced M ok l b before (line.Tunnel outer inner) fine ins outs = (tt, (in_each false inner _ l.inside ins, tt))
  border_sourced M ok l b before (line.Register initial inner next last) fine ins outs =
      (tt, (in_each false inner _ l.inside ins, (in_none l.inside, (from_given false l.outside last _ outs, tt))))
  border_sourced M ok l b before (line.Kept t inner next last) fine ins outs =
      (tt, (in_each false inner _ l.inside ins, (in_none l.inside, (from_given false l.outside last _ outs, tt))))
  border_sourced M ok l b before (line.Last inner outer) fine ins outs = (in_none l.inside, (from_given false l.outside outer _ outs, tt))
  border_sourced M ok l b before (line.Gather inner outer) fine ins outs = (in_none l.inside, (from_given false l.outside outer _ outs, tt))
  border_sourced M ok l b before (line.Index array inner) fine ins outs = (tt, (in_each false inner _ l.inside ins, tt))
  border_sourced M ok l b before (line.Result outer default) fine ins outs = absurd fine
  border_sourced M ok l b before (line.Carry earlier inner) fine ins outs = (in_none l.before, (in_each false inner _ l.inside ins, tt))
  border_sourced M ok l b before (line.Ref reference inner next same code) fine ins outs = (
    tt,
    (
      in_each false inner _ l.inside ins,
      (
        in_none l.inside,
        (
          from_given false l.outside same _ (into_left (given l.outside same _) (given l.outside code _) outs),
          (from_given false l.outside code _ (into_right (given l.outside same _) (given l.outside code _) outs), tt),
        ),
      ),
    ),
  )
  border_sourced M ok l b before (line.Element array index inner next outer) fine ins outs =
      (tt, (tt, (in_each false inner _ l.inside ins, (in_none l.inside, (from_given false l.outside outer _ outs, tt)))))
  border_sourced M ok l b before (line.Field k cluster inner next outer) fine ins outs =
      (tt, (in_each false inner _ l.inside ins, (in_none l.inside, (from_given false l.outside outer _ outs, tt))))

  borders_sourced : (M : Types) (ok : Bool) (e : Entry) (b : ℕ) (before : Option ℕ) (numbers : List ℕ) (l : ℕ) (ts : List Tunnel) → AreFine M e.diagram before ts
      → Into G (lines_inside nothing e.diagram b before ts) → Into G (lines_outside nothing ok e.diagram b ts)
      → LinesHold (Sourced G) (border_lines e (b ∷ []) numbers border l ts)
  borders_sourced M ok e b before numbers l [] fine ins outs = tt
  borders_sourced M ok e b before numbers l (t ∷ ts) fine ins outs = (
    border_sourced M ok (record { line = l; node = e.line; outside = e.diagram; inside = b ∷ []; before = numbers; operands = border t }) b before t fine.0
        (into_left (line_inside nothing e.diagram b before t) (lines_inside nothing e.diagram b before ts) ins, tt)
        (into_left (line_outside nothing ok e.diagram b t) (lines_outside nothing ok e.diagram b ts) outs),
    borders_sourced M ok e b before numbers (l + 1) ts fine.1
        (into_right (line_inside nothing e.diagram b before t) (lines_inside nothing e.diagram b before ts) ins)
        (into_right (line_outside nothing ok e.diagram b t) (lines_outside nothing ok e.diagram b ts) outs),
  )

  -- ---- cases

  case_line_sourced : (l : Line) (k : ℕ) (arms : List Arm) (t : Tunnel) → is_case_line t ≡ true
      → AllByRecursion (λ x. Into G (line_inside nothing l.outside x None t)) l.inside → Into G (result_given nothing l.outside k arms t) → OperandsHold (Sourced G) l (case_border t)
  case_line_sourced l k arms (line.Tunnel outer inner) own ins result = (tt, (in_each true inner _ l.inside ins, tt))
  case_line_sourced l k arms (line.Result outer default) own ins result = (from_given false l.outside outer _ result, tt)
  case_line_sourced l k arms _ own ins result = absurd (false≢true own)

  case_lines_sourced : (e : Entry) (bs : List ℕ) (arms : List Arm) (k l : ℕ) (ts : List Tunnel) → list_all is_case_line ts ≡ true
      → AllByRecursion (λ x. Into G (lines_inside nothing e.diagram x None ts)) bs → IntoSteps (results_steps e.diagram k arms ts)
      → LinesHold (Sourced G) (border_lines e bs [] case_border l ts)
  case_lines_sourced e bs arms k l [] own ins results = tt
  case_lines_sourced e bs arms k l (t ∷ ts) own ins results = (
    case_line_sourced (record { line = l; node = e.line; outside = e.diagram; inside = bs; before = []; operands = case_border t }) k arms t
        (and_left (is_case_line t) (list_all is_case_line ts) own)
        (all_then (λ x. Into G (lines_inside nothing e.diagram x None (t ∷ ts))) (λ x. Into G (line_inside nothing e.diagram x None t)) bs
        (λ x i. into_left (line_inside nothing e.diagram x None t) (lines_inside nothing e.diagram x None ts) i) ins)
        (results (result_step e.diagram k arms t) (inl refl)),
    case_lines_sourced e bs arms (next_result t k) (l + 1) ts (and_right (is_case_line t) (list_all is_case_line ts) own)
        (all_then (λ x. Into G (lines_inside nothing e.diagram x None (t ∷ ts))) (λ x. Into G (lines_inside nothing e.diagram x None ts)) bs
        (λ x i. into_right (line_inside nothing e.diagram x None t) (lines_inside nothing e.diagram x None ts) i) ins)
        (λ s is. results s (inr is)),
  )

  in_arms : (d : ℕ) (ts : List Tunnel) (arms : List Arm) → IntoSteps (arms_steps d ts arms) → AllByRecursion (λ x. Into G (lines_inside nothing d x None ts)) (map (λ a. a.body) arms)
  in_arms d ts [] h = tt
  in_arms d ts (arm ∷ arms) h = (h (inside d arm.body None ts) (inl refl), in_arms d ts arms (λ s is. h s (inr is)))

  give_operands : (e : Entry) (arm : Arm) (ws : List Wire) → OperandsHold (Sourced G) (give_line e arm) (map (free_consumer Inside) ws)
  give_operands e arm [] = tt
  give_operands e arm (w ∷ ws) = ((tt, tt), give_operands e arm ws)

  gives_sourced : (e : Entry) (arms : List Arm) → LinesHold (Sourced G) (map (give_line e) arms)
  gives_sourced e [] = tt
  gives_sourced e (arm ∷ arms) = (give_operands e arm arm.gives, gives_sourced e arms)

  -- ---- frames

  parts_sourced : (M : Types) (e : Entry) (before : Option ℕ) (numbers : List ℕ) (ps : List Part) → PartsFine M e.diagram before ps → IntoSteps (parts_steps e.diagram before ps)
      → LinesHold (Sourced G) (parts_lines e numbers ps)
  parts_sourced M e before numbers [] fine h = tt
  parts_sourced M e before numbers (p ∷ ps) fine h =
      all_both (LineHolds (Sourced G)) (border_lines e (p.body ∷ []) numbers border (p.body + 1) p.lines) (parts_lines e (p.body ∷ []) ps)
      (borders_sourced M true e p.body before numbers (p.body + 1) p.lines fine.0
      (h (inside e.diagram p.body before p.lines) (inl refl)) (h (frame_outside e.diagram p.body p.lines) (inr (inl refl))))
      (parts_sourced M e (Some p.body) (p.body ∷ []) ps fine.1 (λ s is. h s (inr (inr is))))

  -- ---- nodes

  header_sourced : (e : Entry) (b : ℕ) (ops : List Operand) (count stop : Option Wire) (iteration : Wire) → Sourced G true false b iteration
      → OperandsHold (Sourced G) (header_line e b ops) (loop_header count stop iteration)
  header_sourced e b ops None None iteration h = ((h, tt), tt)
  header_sourced e b ops None (Some s) iteration h = ((tt, tt), ((h, tt), tt))
  header_sourced e b ops (Some w) None iteration h = (tt, ((h, tt), tt))
  header_sourced e b ops (Some w) (Some s) iteration h = (tt, ((tt, tt), ((h, tt), tt)))

  kind_sourced : (M : Types) (free : Freedom) (called : Callees) (objects : Objects) (e : Entry) (k : Kind) → IsKindFine M e.diagram k
      → IntoSteps (kind_steps called objects e.line e.diagram k) → LinesHold (Sourced G) (kind_lines free e k)
  kind_sourced M free called objects e (Const t literal out) fine h = ((from_given false e.diagram out _ (h _ (inl refl)), tt), tt)
  kind_sourced M free called objects e (Apply p inputs outputs) fine h =
      let l : Line = plain_line e (map (consumer Outside) inputs ++ map (source Outside) outputs) in
      (after_inputs l inputs (map (source Outside) outputs) (outputs_sourced l outputs _ (h _ (inl refl))), tt)
  kind_sourced M free called objects e (Shows name t w) fine h = ((tt, tt), tt)
  kind_sourced M free called objects e (Shared op inputs outputs) fine h =
      let l : Line = plain_line e (map (consumer Outside) inputs ++ map (source Outside) outputs) in
      (after_inputs l inputs (map (source Outside) outputs) (outputs_sourced l outputs _ (h _ (inl refl))), tt)
  kind_sourced M free called objects e (Obtain queue size item out) fine h = ((from_given false e.diagram out _ (h _ (inl refl)), tt), tt)
  kind_sourced M free called objects e (Read object out) fine h = ((from_given false e.diagram out _ (h _ (inl refl)), tt), tt)
  kind_sourced M free called objects e (Write object input) fine h = ((tt, tt), tt)
  kind_sourced M free called objects e (Call name inputs outputs) fine h =
      let l : Line = plain_line e (call_inputs (free name) 0 inputs ++ map (source Outside) outputs) in
      (after_call l (free name) 0 inputs (map (source Outside) outputs) (outputs_sourced l outputs _ (h _ (inl refl))), tt)
  kind_sourced M free called objects e (Loop count stop iteration ts body) fine h = (
    header_sourced e body (loop_header count stop iteration) count stop iteration (from_given false body iteration _ (h _ (inl refl))),
    borders_sourced M _ e body None [] (e.line + 1) ts fine
        (h (inside e.diagram body None ts) (inr (inl refl)))
        (h (outside e.line e.diagram body (Loop count stop iteration ts body) ts) (inr (inr (inl refl)))),
  )
  kind_sourced M free called objects e (Case selector ts arms) fine h = (
    (tt, tt),
    all_both (LineHolds (Sourced G)) (border_lines e (map (λ a. a.body) arms) [] case_border (e.line + 1) ts) (map (give_line e) arms)
        (case_lines_sourced e (map (λ a. a.body) arms) arms 0 (e.line + 1) ts fine
        (in_arms e.diagram ts arms (λ s is. h s (in_left s (arms_steps e.diagram ts arms) (results_steps e.diagram 0 arms ts) is)))
        (λ s is. h s (in_right s (arms_steps e.diagram ts arms) (results_steps e.diagram 0 arms ts) is)))
        (gives_sourced e arms),
  )
  kind_sourced M free called objects e (Sequence parts) fine h = parts_sourced M e None [] parts fine h
  kind_sourced M free called objects e (InPlace ts body finish) fine h =
      borders_sourced M _ e body None [] (e.line + 1) ts fine
      (h (inside e.diagram body None ts) (inl refl))
      (h (outside e.line e.diagram body (InPlace ts body finish) ts) (inr (inl refl)))

  entries_sourced : (M : Types) (free : Freedom) (called : Callees) (objects : Objects) (es : List Entry) → AllFine M es
      → IntoSteps (entries_steps called objects es) → LinesHold (Sourced G) (entries_lines free es)
  entries_sourced M free called objects [] fine h = tt
  entries_sourced M free called objects (e ∷ es) fine h =
      let own : List Step = kind_steps called objects e.line e.diagram e.kind in
      all_both (LineHolds (Sourced G)) (kind_lines free e e.kind) (entries_lines free es)
      (kind_sourced M free called objects e e.kind fine.0 (λ s is. h s (in_left s own (entries_steps called objects es) is)))
      (entries_sourced M free called objects es fine.1 (λ s is. h s (in_right s own (entries_steps called objects es) is)))

  controls_sourced : (l : ℕ) (items : List PanelItem) → Into G (controls_given items) → LinesHold (Sourced G) (control_lines l items)
  controls_sourced l [] h = tt
  controls_sourced l (Control name t required default out ∷ items) h = (
    ((from_given false 0 out (Some t) (into_left (given 0 out (Some t)) (controls_given items) h), tt), tt),
    controls_sourced (l + 1) items (into_right (given 0 out (Some t)) (controls_given items) h),
  )
  controls_sourced l (Indicator name t w ∷ items) h = controls_sourced (l + 1) items h

-- each source of a VI whose structures have lines of their own alone
pub vi_sourced : (M : Types) (free : Freedom) (called : Callees) (panel : List PanelItem) (es : List Entry) → AllFine M es
    → LinesHold (Sourced (Giver (vi_steps called panel es))) (control_lines 1 panel ++ entries_lines free es)
vi_sourced M free called panel es fine =
    let G : ℕ → List ℕ → Type 0 = Giver (vi_steps called panel es) in
    all_both (LineHolds (Sourced G)) (control_lines 1 panel) (entries_lines free es)
    (controls_sourced G 1 panel (λ z n g. record { step = fixed (controls_given panel); is = inl refl; gives = g }))
    (entries_sourced G M free called (panel_type panel) es fine (λ s is z n g. record { step = s; is = inr is; gives = g }))
