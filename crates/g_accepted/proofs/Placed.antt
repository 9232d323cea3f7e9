-- The types of names by the places of their sources, from what lines give.
use Rattle.std.proofs.Common.{◌≡◌, inl, inr, ℕ, ◌+◌, Bool, true, false, cond, ◌&&◌, List, [], ◌∷◌, ◌++◌, map, Option, Some, None, refl, sym, subst}
use Rattle.std.specs.Prelude.{is_some}
use Rattle.std.specs.List.{AllByRecursion}
use Rattle.std.proofs.lemmas.Bool.{false≢true}
use Rattle.std.proofs.lemmas.List.{append-nil}
use Rattle.g_types.specs.declared.ty.Ty.{Ty}
use Rattle.g_diagram.specs.declared.node.Tunnel.{Tunnel}
use Rattle.g_diagram.specs.declared.node.Tunnel.TheVariants as line
use Rattle.g_diagram.specs.declared.hierarchy.Vi.{Vi}
use Rattle.g_diagram.specs.Lines.{Wire, Entry, entries_of}
use Rattle.g_diagram.specs.Operands.{Side, Outside, Inside, Before, Operand, Line, source, consumer, call_inputs, border, case_border, plain_line, entries_lines, control_lines}
use Rattle.g_diagram.specs.Ports.{freedom}
use Rattle.g_typing.specs.Types.{Types}
use Rattle.g_typing.specs.Typing.{HasGiven, given, given_each, line_inside, line_outside}
use Rattle.g_border.specs.declared.place.WireSource.{WireSource}
use Rattle.g_border.specs.Readers.{source_of, is_on, sources_on, place_all}
use Rattle.g_frames.specs.Program.{FlatVi, flat_vi}
use Rattle.g_typed_states.specs.Places.{HaveTypes}
use Rattle.g_typed_states.specs.Lines.{types_inside, types_outside}
use Rattle.g_accepted.proofs.Facts.{IsIn, all_left, all_right, and_second, some_same, none_some}
use Rattle.g_accepted.proofs.Laid.{lines_once}
use Rattle.g_accepted.proofs.Sources.{OperandAt, IsSide, at_own_line}

-- each name at an operand on a side of a line is of this type
abbrev pub IsOf : Types → Line → Side → Wire → Option Ty → Type 0
IsOf M m s w t = (d : ℕ) (n : List ℕ) → IsSide d s m → w ≡ Some n → M d n ≡ t

abbrev pub HasNone : Line → Side → Wire → Type 0
HasNone m s w = (d : ℕ) (n : List ℕ) → IsSide d s m → w ≡ Some n → ⊥

abbrev TypesIf : Types → Line → Side → Bool → Wire → (List (Option Ty) → Type 0) → List (Option Ty) → Type 0
TypesIf M m s false w rest ts = rest ts
TypesIf M m s true w rest [] = HasNone m s w × rest []
TypesIf M m s true w rest (t ∷ ts) = IsOf M m s w t × rest ts

-- the names at the sources among some operands of a line, on a side, have these types in order, and there is no name at a further one
abbrev pub TypesOn : Types → Line → Side → List Operand → List (Option Ty) → Type 0
TypesOn M m s [] ts = Unit {0}
TypesOn M m s (o ∷ os) ts = TypesIf M m s (o.is_source && is_on o.side s) o.wire (TypesOn M m s os) ts

side_is : (a b : Side) → is_on a b ≡ true → a ≡ b
side_is Outside Outside e = refl
side_is Outside Inside e = absurd (false≢true e)
side_is Outside Before e = absurd (false≢true e)
side_is Inside Outside e = absurd (false≢true e)
side_is Inside Inside e = refl
side_is Inside Before e = absurd (false≢true e)
side_is Before Outside e = absurd (false≢true e)
side_is Before Inside e = absurd (false≢true e)
side_is Before Before e = refl

module _ (vis : List Vi) (vi : Vi) (M : Types) where
  abbrev pub flat : FlatVi
  flat = flat_vi vis M vi

  abbrev pub lines : List Line
  lines = control_lines 1 vi.panel ++ entries_lines (freedom vis) (entries_of vi)

  -- what stands at an operand of a line of the VI
  at_line : (m : Line) → IsIn m lines → (k : ℕ) (o : Operand) → OperandAt 1 m.operands k o → (s : Side) → (o.is_source && is_on o.side s) ≡ true
      → (d : ℕ) (n : List ℕ) → source_of flat.ports d n ≡ Some (record { line = m.line; operand = k }) → IsSide d s m × (o.wire ≡ Some n)
  at_line m is k o at s e d n found =
      let a = at_own_line lines (lines_once (freedom vis) vi) m is k o at d n found in
      (subst (λ (x : Side). IsSide d x m) (side_is o.side s (and_second o.is_source (is_on o.side s) e)) a.2, a.1)

  pub places_typed : (m : Line) → IsIn m lines → (s : Side) (j : ℕ) (os : List Operand) (ts : List (Option Ty)) → ((k : ℕ) (o : Operand) → OperandAt j os k o → OperandAt 1 m.operands k o)
      → TypesOn M m s os ts → HaveTypes flat (place_all m.line (sources_on s j os)) ts
  places_typed m is s j [] ts sub h = tt
  places_typed m is s j (o ∷ os) ts sub h = by (o.is_source && is_on o.side s) refl ts h (λ us g. places_typed m is s (j + 1) os us (λ k p at. sub k p (inr at)) g)
    where
      by : (b : Bool) → (o.is_source && is_on o.side s) ≡ b → (ts : List (Option Ty)) → TypesIf M m s b o.wire (TypesOn M m s os) ts
          → ((us : List (Option Ty)) → TypesOn M m s os us → HaveTypes flat (place_all m.line (sources_on s (j + 1) os)) us)
          → HaveTypes flat (place_all m.line (cond b (j ∷ sources_on s (j + 1) os) (sources_on s (j + 1) os))) ts
      by false e ts h more = more ts h
      by true e [] h more =
          ((λ d n at. let a = at_line m is j o (sub j o (inl (refl, refl))) s e d n at in h.0 d n a.0 a.1), more [] h.1)
      by true e (t ∷ ts) h more =
          ((λ d n at. let a = at_line m is j o (sub j o (inl (refl, refl))) s e d n at in h.0 d n a.0 a.1), more ts h.1)

  -- all sources of a line on a side
  pub line_typed : (m : Line) → IsIn m lines → (s : Side) (ts : List (Option Ty)) → TypesOn M m s m.operands ts → HaveTypes flat (place_all m.line (sources_on s 1 m.operands)) ts
  line_typed m is s ts h = places_typed m is s 1 m.operands ts (λ k o at. at) h

  -- of a node with one line
  pub plain_typed : (e : Entry) (os : List Operand) → IsIn (plain_line e os) lines → (ts : List (Option Ty)) → TypesOn M (plain_line e os) Outside os ts
      → HaveTypes flat (place_all e.line (sources_on Outside 1 os) ++ []) ts
  plain_typed e os is ts h =
      subst (λ (ws : List WireSource). HaveTypes flat ws ts) (sym (append-nil (place_all e.line (sources_on Outside 1 os)))) (line_typed (plain_line e os) is Outside ts h)

-- ---- what is given

pub named : (M : Types) (b : ℕ) (w : Wire) (t : Option Ty) → AllByRecursion (HasGiven M) (given b w t) → (d : ℕ) (n : List ℕ) → b ≡ d → w ≡ Some n → M d n ≡ t
named M b None t h d n same e = absurd (none_some n e)
named M b (Some a) t h d n same e =
    subst (λ (x : ℕ). M x n ≡ t) same (subst (λ (x : List ℕ). M b x ≡ t) (some_same a n e) h.0)

-- what is given to an output without a type has no name
none_typed : (b : ℕ) (w : Wire) → AllByRecursion (λ g. is_some g.type ≡ true) (given b w None) → (n : List ℕ) → w ≡ Some n → ⊥
none_typed b None h n e = none_some n e
none_typed b (Some a) h n e = false≢true h.0

pub outputs_typed : (M : Types) (m : Line) (ws : List Wire) (ts : List Ty) → AllByRecursion (HasGiven M) (given_each m.outside ws ts)
    → AllByRecursion (λ g. is_some g.type ≡ true) (given_each m.outside ws ts) → TypesOn M m Outside (map (source Outside) ws) (map Some ts)
outputs_typed M m [] ts h g = tt
outputs_typed M m (w ∷ ws) [] h g = (
  (λ d n side e. none_typed m.outside w (all_left (λ x. is_some x.type ≡ true) (given m.outside w None) (given_each m.outside ws []) g) n e),
  outputs_typed M m ws [] (all_right (HasGiven M) (given m.outside w None) (given_each m.outside ws []) h)
      (all_right (λ x. is_some x.type ≡ true) (given m.outside w None) (given_each m.outside ws []) g),
)
outputs_typed M m (w ∷ ws) (t ∷ ts) h g = (
  (λ d n side e. named M m.outside w (Some t) (all_left (HasGiven M) (given m.outside w (Some t)) (given_each m.outside ws ts) h) d n side e),
  outputs_typed M m ws ts (all_right (HasGiven M) (given m.outside w (Some t)) (given_each m.outside ws ts) h)
      (all_right (λ x. is_some x.type ≡ true) (given m.outside w (Some t)) (given_each m.outside ws ts) g),
)

pub after_inputs : (M : Types) (m : Line) (ws : List Wire) (os : List Operand) (ts : List (Option Ty)) → TypesOn M m Outside os ts → TypesOn M m Outside (map (consumer Outside) ws ++ os) ts
after_inputs M m [] os ts h = h
after_inputs M m (w ∷ ws) os ts h = after_inputs M m ws os ts h

pub after_call : (M : Types) (m : Line) (free : ℕ → Bool) (k : ℕ) (ws : List Wire) (os : List Operand) (ts : List (Option Ty)) → TypesOn M m Outside os ts
    → TypesOn M m Outside (call_inputs free k ws ++ os) ts
after_call M m free k [] os ts h = h
after_call M m free k (w ∷ ws) os ts h = after_call M m free (k + 1) ws os ts h

-- which inputs of a call are free makes no difference to its sources
pub call_sources : (f g : ℕ → Bool) (j k : ℕ) (ws : List Wire) (os : List Operand) → sources_on Outside j (call_inputs f k ws ++ os) ≡ sources_on Outside j (call_inputs g k ws ++ os)
call_sources f g j k [] os = refl
call_sources f g j k (w ∷ ws) os = call_sources f g (j + 1) (k + 1) ws os

-- ---- border lines

pub case_sources : (s : Side) (t : Tunnel) → sources_on s 1 (case_border t) ≡ sources_on s 1 (border t)
case_sources s (line.Tunnel outer inner) = refl
case_sources s _ = refl

-- what a line gives inside
pub inside_typed : (M : Types) (m : Line) (d : ℕ) (before : Option ℕ) (t : Tunnel) → ((b : ℕ) → IsIn b m.inside → AllByRecursion (HasGiven M) (line_inside M d b before t))
    → TypesOn M m Inside (border t) (types_inside M d before t)
inside_typed M m d before (line.Tunnel outer inner) h = ((λ b n side e. named M b inner _ (h b side) b n refl e), tt)
inside_typed M m d before (line.Register initial inner next last) h = ((λ b n side e. named M b inner _ (h b side) b n refl e), tt)
inside_typed M m d before (line.Kept t inner next last) h = ((λ b n side e. named M b inner _ (h b side) b n refl e), tt)
inside_typed M m d before (line.Last inner outer) h = tt
inside_typed M m d before (line.Gather inner outer) h = tt
inside_typed M m d before (line.Index array inner) h = ((λ b n side e. named M b inner _ (h b side) b n refl e), tt)
inside_typed M m d before (line.Result outer default) h = tt
inside_typed M m d before (line.Carry earlier inner) h = ((λ b n side e. named M b inner _ (h b side) b n refl e), tt)
inside_typed M m d before (line.Ref reference inner next same code) h = ((λ b n side e. named M b inner _ (h b side) b n refl e), tt)
inside_typed M m d before (line.Element array index inner next outer) h = ((λ b n side e. named M b inner _ (h b side) b n refl e), tt)
inside_typed M m d before (line.Field k cluster inner next outer) h = ((λ b n side e. named M b inner _ (h b side) b n refl e), tt)

-- lines that give outside what their names say
abbrev pub is_plain_line : Tunnel → Bool
is_plain_line (line.Result outer default) = false
is_plain_line (line.Ref reference inner next same code) = false
is_plain_line _ = true

pub outside_typed : (M : Types) (m : Line) (b : ℕ) (t : Tunnel) → is_plain_line t ≡ true → AllByRecursion (HasGiven M) (line_outside M true m.outside b t)
    → TypesOn M m Outside (border t) (types_outside M m.outside b t)
outside_typed M m b (line.Tunnel outer inner) plain h = tt
outside_typed M m b (line.Register initial inner next last) plain h = (named M m.outside last _ h, tt)
outside_typed M m b (line.Kept t inner next last) plain h = (named M m.outside last _ h, tt)
outside_typed M m b (line.Last inner outer) plain h = (named M m.outside outer _ h, tt)
outside_typed M m b (line.Gather inner outer) plain h = (named M m.outside outer _ h, tt)
outside_typed M m b (line.Index array inner) plain h = tt
outside_typed M m b (line.Result outer default) plain h = absurd (false≢true plain)
outside_typed M m b (line.Carry earlier inner) plain h = tt
outside_typed M m b (line.Ref reference inner next same code) plain h = absurd (false≢true plain)
outside_typed M m b (line.Element array index inner next outer) plain h = (named M m.outside outer _ h, tt)
outside_typed M m b (line.Field k cluster inner next outer) plain h = (named M m.outside outer _ h, tt)
