-- What a line gives to a name stands at a source of that line.
use Rattle.std.proofs.Common.{◌≡◌, inl, inr, ⊎_elim, ℕ, ◌+◌, Bool, true, false, List, [], ◌∷◌, ◌++◌, map, Option, Some, None, refl, ap, sym, ◌∙◌, subst}
use Rattle.std.specs.Prelude.{is_some}
use Rattle.g_types.specs.declared.ty.Ty.{Ty}
use Rattle.g_diagram.specs.declared.node.Tunnel.{Tunnel}
use Rattle.g_diagram.specs.declared.node.Tunnel.TheVariants as line
use Rattle.g_diagram.specs.declared.panel.PanelItem.{PanelItem}
use Rattle.g_diagram.specs.declared.panel.PanelItem.TheVariants.{Control, Indicator}
use Rattle.g_diagram.specs.declared.hierarchy.Vi.{Vi}
use Rattle.g_diagram.specs.Lines.{Wire, Arm, Part, Entry, Kind, Const, Apply, Shows, Shared, Obtain, Read, Write, Call, Loop, Case, Sequence, InPlace, entries_of}
use Rattle.g_diagram.specs.Operands.{Outside, Inside, Operand, Line, Freedom, source, free_source, consumer, border, case_border, plain_line, header_line, border_lines, parts_lines, give_line, call_inputs, in_and_out, loop_header, kind_lines, entries_lines, control_line, control_lines}
use Rattle.g_diagram.specs.Ports.{ports_in, ports_of, freedom}
use Rattle.g_typing.specs.Types.{Types}
use Rattle.g_typing.specs.Typing.{Callees, Objects, IsGivenTo, given, given_each, line_inside, line_outside, lines_inside, lines_outside, result_given, next_result, controls_given, called_panel, panel_type}
use Rattle.g_typing.proofs.Unique.{Step}
use Rattle.g_typing.proofs.Steps.{arms_steps, results_steps, parts_steps, kind_steps}
use Rattle.g_typing.proofs.Only.{vi_steps, entries_steps}
use Rattle.g_typing.proofs.Only as only
use Rattle.g_typing.proofs.Roles.{nothing, given_at, given_append}
use Rattle.g_typing.proofs.NodeRoles.{in_append}
use Rattle.g_typing.proofs.Names.{Giver}
use Rattle.g_border.specs.Readers.{source_of}
use Rattle.g_accepted.proofs.Facts.{IsIn, in_left, in_right, in_map}
use Rattle.g_accepted.proofs.Sources.{OperandAt, IsSide, source_there}

-- a source of a name at a line
pub record OnLine (d : ℕ) (n : List ℕ) (l : Line) : Type 0 where
  pub operand : Operand
  pub stands : IsIn operand l.operands
  pub source : operand.is_source ≡ true
  pub wire : operand.wire ≡ Some n
  pub side : IsSide d operand.side l

pub record OnLines (d : ℕ) (n : List ℕ) (ls : List Line) : Type 0 where
  pub line : Line
  pub stands : IsIn line ls
  pub on : OnLine d n line

on_first : (d : ℕ) (n : List ℕ) (l : Line) (ls : List Line) → OnLine d n l → OnLines d n (l ∷ ls)
on_first d n l ls o = record { line = l; stands = inl refl; on = o }

on_left : (d : ℕ) (n : List ℕ) (xs ys : List Line) → OnLines d n xs → OnLines d n (xs ++ ys)
on_left d n xs ys o = record { line = o.line; stands = in_left o.line xs ys o.stands; on = o.on }

on_right : (d : ℕ) (n : List ℕ) (xs ys : List Line) → OnLines d n ys → OnLines d n (xs ++ ys)
on_right d n xs ys o = record { line = o.line; stands = in_right o.line xs ys o.stands; on = o.on }

on_later : (d : ℕ) (n : List ℕ) (l : Line) (ls : List Line) → OnLines d n ls → OnLines d n (l ∷ ls)
on_later d n l ls o = record { line = o.line; stands = inr o.stands; on = o.on }

numbered : (j : ℕ) (os : List Operand) (o : Operand) → IsIn o os → (k : ℕ) × OperandAt j os k o
numbered j [] o is = absurd is
numbered j (x ∷ os) o (inl same) = (j, inl (refl, same))
numbered j (x ∷ os) o (inr is) = let r = numbered (j + 1) os o is in (r.0, inr r.1)

pub on_lines_found : (ls : List Line) (d : ℕ) (n : List ℕ) → OnLines d n ls → is_some (source_of (ports_in ls) d n) ≡ true
on_lines_found ls d n o =
    let r = numbered 1 o.line.operands o.on.operand o.on.stands in
    source_there ls o.line d n r.0 o.stands (record { operand = o.on.operand; at = r.1; source = o.on.source; wire = o.on.wire; side = o.on.side })

-- ---- one line

outside_at : (l : Line) (w : Wire) (t : Option Ty) (z : ℕ) (n : List ℕ) → IsIn (source Outside w) l.operands → IsGivenTo (given l.outside w t) z n → OnLine z n l
outside_at l w t z n is h = let g = given_at l.outside w t z n h in record { operand = source Outside w; stands = is; source = refl; wire = g.1; side = g.0 }

inside_at : (l : Line) (b : ℕ) (w : Wire) (t : Option Ty) (z : ℕ) (n : List ℕ) → IsIn b l.inside → IsIn (source Inside w) l.operands → IsGivenTo (given b w t) z n → OnLine z n l
inside_at l b w t z n among is h =
    let g = given_at b w t z n h in record { operand = source Inside w; stands = is; source = refl; wire = g.1; side = subst (λ (x : ℕ). IsIn x l.inside) g.0 among }

each_at : (l : Line) (ws : List Wire) (ts : List Ty) (z : ℕ) (n : List ℕ) → ((w : Wire) → IsIn w ws → IsIn (source Outside w) l.operands) → IsGivenTo (given_each l.outside ws ts) z n → OnLine z n l
each_at l [] ts z n is h = absurd h
each_at l (w ∷ ws) [] z n is h =
    ⊎_elim (outside_at l w None z n (is w (inl refl))) (each_at l ws [] z n (λ x m. is x (inr m))) (given_append (given l.outside w None) (given_each l.outside ws []) z n h)
each_at l (w ∷ ws) (t ∷ ts) z n is h =
    ⊎_elim (outside_at l w (Some t) z n (is w (inl refl))) (each_at l ws ts z n (λ x m. is x (inr m))) (given_append (given l.outside w (Some t)) (given_each l.outside ws ts) z n h)

outputs_in : (xs : List Operand) (ws : List Wire) (w : Wire) → IsIn w ws → IsIn (source Outside w) (xs ++ map (source Outside) ws)
outputs_in xs ws w is = in_right (source Outside w) xs (map (source Outside) ws) (in_map (source Outside) ws w is)

-- ---- border lines

abbrev on_border : Entry → (inside before : List ℕ) → (Tunnel → List Operand) → (l : ℕ) → Tunnel → Line
on_border e inside before form l t = record { line = l; node = e.line; outside = e.diagram; inside = inside; before = before; operands = form t }

module _ (M : Types) (e : Entry) where
  line_in : (bs bl : List ℕ) (b : ℕ) (before : Option ℕ) (l : ℕ) (t : Tunnel) → IsIn b bs → (z : ℕ) (n : List ℕ) → IsGivenTo (line_inside M e.diagram b before t) z n → OnLine z n (on_border e bs bl border l t)
  line_in bs bl b before l (line.Tunnel outer inner) among z n h = inside_at _ b inner _ z n among (inr (inl refl)) h
  line_in bs bl b before l (line.Register initial inner next last) among z n h = inside_at _ b inner _ z n among (inr (inl refl)) h
  line_in bs bl b before l (line.Kept t inner next last) among z n h = inside_at _ b inner _ z n among (inr (inl refl)) h
  line_in bs bl b before l (line.Last inner outer) among z n h = absurd h
  line_in bs bl b before l (line.Gather inner outer) among z n h = absurd h
  line_in bs bl b before l (line.Index array inner) among z n h = inside_at _ b inner _ z n among (inr (inl refl)) h
  line_in bs bl b before l (line.Result outer default) among z n h = absurd h
  line_in bs bl b before l (line.Carry earlier inner) among z n h = inside_at _ b inner _ z n among (inr (inl refl)) h
  line_in bs bl b before l (line.Ref reference inner next same code) among z n h = inside_at _ b inner _ z n among (inr (inl refl)) h
  line_in bs bl b before l (line.Element array index inner next outer) among z n h = inside_at _ b inner _ z n among (inr (inr (inl refl))) h
  line_in bs bl b before l (line.Field k cluster inner next outer) among z n h = inside_at _ b inner _ z n among (inr (inl refl)) h

  as_case : (bs bl : List ℕ) (l : ℕ) (t : Tunnel) (z : ℕ) (n : List ℕ) → OnLine z n (on_border e bs bl border l t) → OnLine z n (on_border e bs bl case_border l t)
  as_case bs bl l (line.Tunnel outer inner) z n o = by o.operand o.stands o.source o.wire o.side
    where
      by : (x : Operand) → IsIn x (border (line.Tunnel outer inner)) → x.is_source ≡ true → x.wire ≡ Some n → IsSide z x.side (on_border e bs bl border l (line.Tunnel outer inner))
          → OnLine z n (on_border e bs bl case_border l (line.Tunnel outer inner))
      by x (inl same) s w side = absurd (let no_source : false ≡ true = ap (λ (y : Operand). y.is_source) same ∙ s in cc)
      by x (inr (inl same)) s w side = record {
        operand = free_source Inside inner;
        stands = inr (inl refl);
        source = refl;
        wire = ap (λ (y : Operand). y.wire) same ∙ w;
        side = subst (λ (y : Operand). IsSide z y.side (on_border e bs bl border l (line.Tunnel outer inner))) (sym same) side;
      }
      by x (inr (inr none)) s w side = absurd none
  as_case bs bl l (line.Register initial inner next last) z n o = o
  as_case bs bl l (line.Kept t inner next last) z n o = o
  as_case bs bl l (line.Last inner outer) z n o = o
  as_case bs bl l (line.Gather inner outer) z n o = o
  as_case bs bl l (line.Index array inner) z n o = o
  as_case bs bl l (line.Result outer default) z n o = o
  as_case bs bl l (line.Carry earlier inner) z n o = o
  as_case bs bl l (line.Ref reference inner next same code) z n o = o
  as_case bs bl l (line.Element array index inner next outer) z n o = o
  as_case bs bl l (line.Field k cluster inner next outer) z n o = o

  lines_in : (bs bl : List ℕ) (b : ℕ) (before : Option ℕ) (l : ℕ) (ts : List Tunnel) → IsIn b bs → (z : ℕ) (n : List ℕ) → IsGivenTo (lines_inside M e.diagram b before ts) z n → OnLines z n (border_lines e bs bl border l ts)
  lines_in bs bl b before l [] among z n h = absurd h
  lines_in bs bl b before l (t ∷ ts) among z n h =
      ⊎_elim
      (λ here. on_first z n _ (border_lines e bs bl border (l + 1) ts) (line_in bs bl b before l t among z n here))
      (λ more. on_later z n _ (border_lines e bs bl border (l + 1) ts) (lines_in bs bl b before (l + 1) ts among z n more))
      (given_append (line_inside M e.diagram b before t) (lines_inside M e.diagram b before ts) z n h)

  case_lines_in : (bs bl : List ℕ) (b : ℕ) (before : Option ℕ) (l : ℕ) (ts : List Tunnel) → IsIn b bs → (z : ℕ) (n : List ℕ) → IsGivenTo (lines_inside M e.diagram b before ts) z n
      → OnLines z n (border_lines e bs bl case_border l ts)
  case_lines_in bs bl b before l [] among z n h = absurd h
  case_lines_in bs bl b before l (t ∷ ts) among z n h =
      ⊎_elim
      (λ here. on_first z n _ (border_lines e bs bl case_border (l + 1) ts) (as_case bs bl l t z n (line_in bs bl b before l t among z n here)))
      (λ more. on_later z n _ (border_lines e bs bl case_border (l + 1) ts) (case_lines_in bs bl b before (l + 1) ts among z n more))
      (given_append (line_inside M e.diagram b before t) (lines_inside M e.diagram b before ts) z n h)

  line_out : (ok : Bool) (bs bl : List ℕ) (b l : ℕ) (t : Tunnel) (z : ℕ) (n : List ℕ) → IsGivenTo (line_outside M ok e.diagram b t) z n → OnLine z n (on_border e bs bl border l t)
  line_out ok bs bl b l (line.Tunnel outer inner) z n h = absurd h
  line_out ok bs bl b l (line.Register initial inner next last) z n h = outside_at _ last _ z n (inr (inr (inr (inl refl)))) h
  line_out ok bs bl b l (line.Kept t inner next last) z n h = outside_at _ last _ z n (inr (inr (inr (inl refl)))) h
  line_out ok bs bl b l (line.Last inner outer) z n h = outside_at _ outer _ z n (inr (inl refl)) h
  line_out ok bs bl b l (line.Gather inner outer) z n h = outside_at _ outer _ z n (inr (inl refl)) h
  line_out ok bs bl b l (line.Index array inner) z n h = absurd h
  line_out ok bs bl b l (line.Result outer default) z n h = absurd h
  line_out ok bs bl b l (line.Carry earlier inner) z n h = absurd h
  line_out ok bs bl b l (line.Ref reference inner next same code) z n h =
      ⊎_elim
      (outside_at (on_border e bs bl border l (line.Ref reference inner next same code)) same _ z n (inr (inr (inr (inl refl)))))
      (outside_at (on_border e bs bl border l (line.Ref reference inner next same code)) code _ z n (inr (inr (inr (inr (inl refl))))))
      (given_append (given e.diagram same _) (given e.diagram code _) z n h)
  line_out ok bs bl b l (line.Element array index inner next outer) z n h = outside_at _ outer _ z n (inr (inr (inr (inr (inl refl))))) h
  line_out ok bs bl b l (line.Field k cluster inner next outer) z n h = outside_at _ outer _ z n (inr (inr (inr (inl refl)))) h

  lines_out : (ok : Bool) (bs bl : List ℕ) (b l : ℕ) (ts : List Tunnel) (z : ℕ) (n : List ℕ) → IsGivenTo (lines_outside M ok e.diagram b ts) z n → OnLines z n (border_lines e bs bl border l ts)
  lines_out ok bs bl b l [] z n h = absurd h
  lines_out ok bs bl b l (t ∷ ts) z n h =
      ⊎_elim
      (λ here. on_first z n _ (border_lines e bs bl border (l + 1) ts) (line_out ok bs bl b l t z n here))
      (λ more. on_later z n _ (border_lines e bs bl border (l + 1) ts) (lines_out ok bs bl b (l + 1) ts z n more))
      (given_append (line_outside M ok e.diagram b t) (lines_outside M ok e.diagram b ts) z n h)

  result_out : (bs : List ℕ) (k l : ℕ) (arms : List Arm) (t : Tunnel) (z : ℕ) (n : List ℕ) → IsGivenTo (result_given M e.diagram k arms t) z n → OnLine z n (on_border e bs [] case_border l t)
  result_out bs k l arms (line.Result outer default) z n h = outside_at _ outer _ z n (inl refl) h
  result_out bs k l arms (line.Tunnel outer inner) z n h = absurd h
  result_out bs k l arms (line.Register initial inner next last) z n h = absurd h
  result_out bs k l arms (line.Kept t inner next last) z n h = absurd h
  result_out bs k l arms (line.Last inner outer) z n h = absurd h
  result_out bs k l arms (line.Gather inner outer) z n h = absurd h
  result_out bs k l arms (line.Index array inner) z n h = absurd h
  result_out bs k l arms (line.Carry earlier inner) z n h = absurd h
  result_out bs k l arms (line.Ref reference inner next same code) z n h = absurd h
  result_out bs k l arms (line.Element array index inner next outer) z n h = absurd h
  result_out bs k l arms (line.Field f cluster inner next outer) z n h = absurd h

-- ---- the steps of a node

module _ (free : Freedom) (called : Callees) (objects : Objects) (e : Entry) where
  arms_on : (bs : List ℕ) (l : ℕ) (ts : List Tunnel) (arms : List Arm) → ((b : ℕ) → IsIn b (map (λ a. a.body) arms) → IsIn b bs) → (s : Step) → only.IsIn s (arms_steps e.diagram ts arms)
      → (z : ℕ) (n : List ℕ) → IsGivenTo (s.gives nothing) z n → OnLines z n (border_lines e bs [] case_border l ts)
  arms_on bs l ts [] sub s is z n h = absurd is
  arms_on bs l ts (arm ∷ arms) sub s (inl same) z n h =
      case_lines_in nothing e bs [] arm.body None l ts (sub arm.body (inl refl)) z n (subst (λ (x : Step). IsGivenTo (x.gives nothing) z n) (sym same) h)
  arms_on bs l ts (arm ∷ arms) sub s (inr is) z n h = arms_on bs l ts arms (λ b i. sub b (inr i)) s is z n h

  results_on : (bs : List ℕ) (k l : ℕ) (arms : List Arm) (ts : List Tunnel) (s : Step) → only.IsIn s (results_steps e.diagram k arms ts)
      → (z : ℕ) (n : List ℕ) → IsGivenTo (s.gives nothing) z n → OnLines z n (border_lines e bs [] case_border l ts)
  results_on bs k l arms [] s is z n h = absurd is
  results_on bs k l arms (t ∷ ts) s (inl same) z n h =
      on_first z n _ (border_lines e bs [] case_border (l + 1) ts) (result_out nothing e bs k l arms t z n (subst (λ (x : Step). IsGivenTo (x.gives nothing) z n) (sym same) h))
  results_on bs k l arms (t ∷ ts) s (inr is) z n h = on_later z n _ (border_lines e bs [] case_border (l + 1) ts) (results_on bs (next_result t k) (l + 1) arms ts s is z n h)

  parts_on : (before : Option ℕ) (numbers : List ℕ) (ps : List Part) (s : Step) → only.IsIn s (parts_steps e.diagram before ps) → (z : ℕ) (n : List ℕ) → IsGivenTo (s.gives nothing) z n
      → OnLines z n (parts_lines e numbers ps)
  parts_on before numbers [] s is z n h = absurd is
  parts_on before numbers (p ∷ ps) s (inl same) z n h =
      on_left z n (border_lines e (p.body ∷ []) numbers border (p.body + 1) p.lines) (parts_lines e (p.body ∷ []) ps)
      (lines_in nothing e (p.body ∷ []) numbers p.body before (p.body + 1) p.lines (inl refl) z n (subst (λ (x : Step). IsGivenTo (x.gives nothing) z n) (sym same) h))
  parts_on before numbers (p ∷ ps) s (inr (inl same)) z n h =
      on_left z n (border_lines e (p.body ∷ []) numbers border (p.body + 1) p.lines) (parts_lines e (p.body ∷ []) ps)
      (lines_out nothing e true (p.body ∷ []) numbers p.body (p.body + 1) p.lines z n (subst (λ (x : Step). IsGivenTo (x.gives nothing) z n) (sym same) h))
  parts_on before numbers (p ∷ ps) s (inr (inr is)) z n h =
      on_right z n (border_lines e (p.body ∷ []) numbers border (p.body + 1) p.lines) (parts_lines e (p.body ∷ []) ps) (parts_on (Some p.body) (p.body ∷ []) ps s is z n h)

  header_in : (count stop : Option Wire) (i : Wire) → IsIn (source Inside i) (loop_header count stop i)
  header_in None None i = inl refl
  header_in None (Some s) i = inr (inl refl)
  header_in (Some c) None i = inr (inl refl)
  header_in (Some c) (Some s) i = inr (inr (inl refl))

  abbrev back : (s t : Step) (z : ℕ) (n : List ℕ) → t ≡ s → IsGivenTo (s.gives nothing) z n → IsGivenTo (t.gives nothing) z n
  back s t z n same h = subst (λ (x : Step). IsGivenTo (x.gives nothing) z n) (sym same) h

  pub step_on : (k : Kind) (s : Step) → only.IsIn s (kind_steps called objects e.line e.diagram k) → (z : ℕ) (n : List ℕ) → IsGivenTo (s.gives nothing) z n → OnLines z n (kind_lines free e k)
  step_on (Const t literal out) s (inl same) z n h =
      on_first z n _ [] (outside_at (plain_line e (source Outside out ∷ [])) out (Some t) z n (inl refl) (back s _ z n same h))
  step_on (Const t literal out) s (inr none) z n h = absurd none
  step_on (Apply op inputs outputs) s (inl same) z n h =
      on_first z n _ [] (each_at (plain_line e (in_and_out inputs outputs)) outputs _ z n (outputs_in (map (consumer Outside) inputs) outputs) (back s _ z n same h))
  step_on (Apply op inputs outputs) s (inr none) z n h = absurd none
  step_on (Shows name t w) s is z n h = absurd is
  step_on (Shared op inputs outputs) s (inl same) z n h =
      on_first z n _ [] (each_at (plain_line e (in_and_out inputs outputs)) outputs _ z n (outputs_in (map (consumer Outside) inputs) outputs) (back s _ z n same h))
  step_on (Shared op inputs outputs) s (inr none) z n h = absurd none
  step_on (Obtain queue size item out) s (inl same) z n h =
      on_first z n _ [] (outside_at (plain_line e (source Outside out ∷ [])) out _ z n (inl refl) (back s _ z n same h))
  step_on (Obtain queue size item out) s (inr none) z n h = absurd none
  step_on (Read object out) s (inl same) z n h =
      on_first z n _ [] (outside_at (plain_line e (source Outside out ∷ [])) out _ z n (inl refl) (back s _ z n same h))
  step_on (Read object out) s (inr none) z n h = absurd none
  step_on (Write object w) s is z n h = absurd is
  step_on (Call name inputs outputs) s (inl same) z n h =
      on_first z n _ [] (each_at (plain_line e (call_inputs (free name) 0 inputs ++ map (source Outside) outputs)) outputs _ z n (outputs_in (call_inputs (free name) 0 inputs) outputs) (back s _ z n same h))
  step_on (Call name inputs outputs) s (inr none) z n h = absurd none
  step_on (Loop count stop i ts body) s (inl same) z n h =
      on_first z n _ (border_lines e (body ∷ []) [] border (e.line + 1) ts)
      (inside_at (header_line e body (loop_header count stop i)) body i _ z n (inl refl) (header_in count stop i) (back s _ z n same h))
  step_on (Loop count stop i ts body) s (inr (inl same)) z n h =
      on_later z n _ (border_lines e (body ∷ []) [] border (e.line + 1) ts) (lines_in nothing e (body ∷ []) [] body None (e.line + 1) ts (inl refl) z n (back s _ z n same h))
  step_on (Loop count stop i ts body) s (inr (inr (inl same))) z n h =
      on_later z n _ (border_lines e (body ∷ []) [] border (e.line + 1) ts) (lines_out nothing e _ (body ∷ []) [] body (e.line + 1) ts z n (back s _ z n same h))
  step_on (Loop count stop i ts body) s (inr (inr (inr none))) z n h = absurd none
  step_on (Case selector ts arms) s is z n h =
      let bs : List ℕ = map (λ a. a.body) arms in
      let ls : List Line = border_lines e bs [] case_border (e.line + 1) ts in
      on_later z n _ (ls ++ map (give_line e) arms)
      (on_left z n ls (map (give_line e) arms)
      (⊎_elim
      (λ a. arms_on bs (e.line + 1) ts arms (λ b i. i) s a z n h)
      (λ r. results_on bs 0 (e.line + 1) arms ts s r z n h)
      (in_append s (arms_steps e.diagram ts arms) (results_steps e.diagram 0 arms ts) is)))
  step_on (Sequence parts) s is z n h = parts_on None [] parts s is z n h
  step_on (InPlace ts body finish) s (inl same) z n h = lines_in nothing e (body ∷ []) [] body None (e.line + 1) ts (inl refl) z n (back s _ z n same h)
  step_on (InPlace ts body finish) s (inr (inl same)) z n h = lines_out nothing e _ (body ∷ []) [] body (e.line + 1) ts z n (back s _ z n same h)
  step_on (InPlace ts body finish) s (inr (inr none)) z n h = absurd none

-- ---- a VI

controls_on : (l : ℕ) (items : List PanelItem) (z : ℕ) (n : List ℕ) → IsGivenTo (controls_given items) z n → OnLines z n (control_lines l items)
controls_on l [] z n h = absurd h
controls_on l (Control name t required default out ∷ items) z n h =
    ⊎_elim
    (λ here. on_first z n _ (control_lines (l + 1) items) (inside_at (control_line l out) 0 out (Some t) z n (inl refl) (inl refl) here))
    (λ more. on_later z n _ (control_lines (l + 1) items) (controls_on (l + 1) items z n more))
    (given_append (given 0 out (Some t)) (controls_given items) z n h)
controls_on l (Indicator name t w ∷ items) z n h = controls_on (l + 1) items z n h

entries_on : (free : Freedom) (called : Callees) (objects : Objects) (es : List Entry) (s : Step) → only.IsIn s (entries_steps called objects es) → (z : ℕ) (n : List ℕ) → IsGivenTo (s.gives nothing) z n
    → OnLines z n (entries_lines free es)
entries_on free called objects [] s is z n h = absurd is
entries_on free called objects (e ∷ es) s is z n h =
    ⊎_elim
    (λ here. on_left z n (kind_lines free e e.kind) (entries_lines free es) (step_on free called objects e e.kind s here z n h))
    (λ more. on_right z n (kind_lines free e e.kind) (entries_lines free es) (entries_on free called objects es s more z n h))
    (in_append s (kind_steps called objects e.line e.diagram e.kind) (entries_steps called objects es) is)

-- what gives a name has a source for it
pub giver_found : (vis : List Vi) (vi : Vi) (d : ℕ) (n : List ℕ) → Giver (vi_steps (called_panel vis) vi.panel (entries_of vi)) d n → is_some (source_of (ports_of vis vi) d n) ≡ true
giver_found vis vi d n g = by g.step g.is g.gives
  where
    by : (s : Step) → only.IsIn s (vi_steps (called_panel vis) vi.panel (entries_of vi)) → IsGivenTo (s.gives nothing) d n → is_some (source_of (ports_of vis vi) d n) ≡ true
    by s (inl same) h =
        on_lines_found (control_lines 1 vi.panel ++ entries_lines (freedom vis) (entries_of vi)) d n
        (on_left d n (control_lines 1 vi.panel) (entries_lines (freedom vis) (entries_of vi)) (controls_on 1 vi.panel d n (subst (λ (x : Step). IsGivenTo (x.gives nothing) d n) (sym same) h)))
    by s (inr is) h =
        on_lines_found (control_lines 1 vi.panel ++ entries_lines (freedom vis) (entries_of vi)) d n
        (on_right d n (control_lines 1 vi.panel) (entries_lines (freedom vis) (entries_of vi))
        (entries_on (freedom vis) (called_panel vis) (panel_type vi.panel) (entries_of vi) s is d n h))
