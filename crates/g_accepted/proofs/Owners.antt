-- The names of a diagram inside have their sources at what its structure's lines give there, or at nodes of the diagram.
use Rattle.std.proofs.Common.{◌≡◌, ◌<◌, inl, inr, ⊎_elim, ℕ, ◌+◌, true, List, [], ◌∷◌, ◌++◌, map, Option, Some, None, refl, ap, sym, ◌∙◌, subst, append_assoc, arith}
use Rattle.g_diagram.specs.declared.node.Tunnel.{Tunnel}
use Rattle.g_diagram.specs.declared.hierarchy.Vi.{Vi}
use Rattle.g_diagram.specs.Lines.{Wire, Arm, Part, Entry, Kind, Loop, Case, Sequence, entries_of}
use Rattle.g_diagram.specs.Operands.{Inside, Operand, Line, Freedom, free_consumer, border, case_border, border_lines, parts_lines, give_line, loop_header, kind_lines}
use Rattle.g_diagram.specs.Ports.{freedom}
use Rattle.g_typing.specs.Types.{Types}
use Rattle.g_typing.proofs.Roles.{bodies}
use Rattle.g_typing.proofs.NodeRoles.{Rise, FramesRise}
use Rattle.g_typing.proofs.Nesting.{nested}
use Rattle.g_border.specs.declared.place.WireSource.{WireSource}
use Rattle.g_border.specs.Readers.{sources_on, place_all, lines_sources}
use Rattle.g_typed_states.specs.Places.{lines_places, IsSupplied}
use Rattle.g_accepted.proofs.Facts.{IsIn, in_either, in_map}
use Rattle.g_accepted.proofs.Placed.{flat}
use Rattle.g_accepted.proofs.Sources.{OperandAt}
use Rattle.g_accepted.proofs.Supplied.{in_lines_sources, border_sources, case_border_sources, inside_supplied, to_of}

pub sources_append : (s : Line → List WireSource) (xs ys : List Line) (f : List Line → List WireSource) → f [] ≡ [] → ((l : Line) (ls : List Line) → f (l ∷ ls) ≡ s l ++ f ls) → f (xs ++ ys) ≡ f xs ++ f ys
sources_append s [] ys f none more = ap (λ ws. ws ++ f ys) (sym none)
sources_append s (x ∷ xs) ys f none more =
    more x (xs ++ ys) ∙ (ap (λ ws. s x ++ ws) (sources_append s xs ys f none more) ∙ (sym (append_assoc (s x) (f xs) (f ys)) ∙ ap (λ ws. ws ++ f ys) (sym (more x xs))))

abbrev line_sources : Line → List WireSource
line_sources l = place_all l.line (sources_on Inside 1 l.operands)

no_gives : (j : ℕ) (ws : List Wire) → sources_on Inside j (map (free_consumer Inside) ws) ≡ []
no_gives j [] = refl
no_gives j (w ∷ ws) = no_gives (j + 1) ws

gives_none : (e : Entry) (arms : List Arm) → lines_sources Inside (map (give_line e) arms) ≡ []
gives_none e [] = refl
gives_none e (arm ∷ arms) = ap (λ ks. place_all (arm.body + 1) ks ++ lines_sources Inside (map (give_line e) arms)) (no_gives 1 arm.gives) ∙ gives_none e arms

-- what the lines of a case give inside
pub case_inside_sources : (free : Freedom) (e : Entry) (selector : Wire) (ts : List Tunnel) (arms : List Arm) → lines_sources Inside (kind_lines free e (Case selector ts arms)) ≡ lines_places Inside (e.line + 1) ts
case_inside_sources free e selector ts arms =
    let ls : List Line = border_lines e (map (λ a. a.body) arms) [] case_border (e.line + 1) ts in
    sources_append line_sources ls (map (give_line e) arms) (lines_sources Inside) refl (λ l more. refl)
    ∙ (ap (λ ws. lines_sources Inside ls ++ ws) (gives_none e arms) ∙ (append_none (lines_sources Inside ls) ∙ case_border_sources Inside e (map (λ a. a.body) arms) [] (e.line + 1) ts))
  where
    append_none : (ws : List WireSource) → ws ++ [] ≡ ws
    append_none [] = refl
    append_none (w ∷ ws) = ap (λ xs. w ∷ xs) (append_none ws)

-- ---- frames

-- the frame of a border line of a sequence
record OfPart (e : Entry) (ps : List Part) (l : Line) : Type 0 where
  part : Part
  stands : IsIn part ps
  numbers : List ℕ
  line : IsIn l (border_lines e (part.body ∷ []) numbers border (part.body + 1) part.lines)

of_part : (e : Entry) (numbers : List ℕ) (ps : List Part) (l : Line) → IsIn l (parts_lines e numbers ps) → OfPart e ps l
of_part e numbers [] l is = absurd is
of_part e numbers (p ∷ ps) l is =
    ⊎_elim
    (λ here. record { part = p; stands = inl refl; numbers = numbers; line = here })
    (λ later. let r : OfPart e ps l = of_part e (p.body ∷ []) ps l later in record { part = r.part; stands = inr r.stands; numbers = r.numbers; line = r.line })
    (in_either l (border_lines e (p.body ∷ []) numbers border (p.body + 1) p.lines) (parts_lines e (p.body ∷ []) ps) is)

pub border_inside : (e : Entry) (bs bl : List ℕ) (l : ℕ) (ts : List Tunnel) (m : Line) → IsIn m (border_lines e bs bl border l ts) → m.inside ≡ bs
border_inside e bs bl l [] m is = absurd is
border_inside e bs bl l (t ∷ ts) m (inl same) = ap (λ (x : Line). x.inside) (sym same)
border_inside e bs bl l (t ∷ ts) m (inr is) = border_inside e bs bl (l + 1) ts m is

later_part : (b : ℕ) (ps : List Part) (p : Part) → Rise (Some b) ps → IsIn p ps → b < p.body
later_part b [] p r is = absurd is
later_part b (x ∷ ps) p r (inl same) = let lt : b < x.body = r.0 in let e : x.body ≡ p.body = ap (λ (y : Part). y.body) same in omega (arith, lt, e)
later_part b (x ∷ ps) p r (inr is) = let lt : b < x.body = r.0 in let more : x.body < p.body = later_part x.body ps p r.1 is in omega (arith, lt, more)

pub one_part : (before : Option ℕ) (ps : List Part) (p q : Part) → Rise before ps → IsIn p ps → IsIn q ps → p.body ≡ q.body → p ≡ q
one_part before [] p q r is also e = absurd is
one_part before (x ∷ ps) p q r (inl f) (inl g) e = sym f ∙ g
one_part before (x ∷ ps) p q r (inl f) (inr also) e =
    let lt : x.body < q.body = later_part x.body ps q r.1 also in let here : x.body ≡ p.body = ap (λ (y : Part). y.body) f in absurd (omega (arith, lt, here, e))
one_part before (x ∷ ps) p q r (inr is) (inl g) e =
    let lt : x.body < p.body = later_part x.body ps p r.1 is in let here : x.body ≡ q.body = ap (λ (y : Part). y.body) g in absurd (omega (arith, lt, here, e))
one_part before (x ∷ ps) p q r (inr is) (inr also) e = one_part (Some x.body) ps p q r.1 is also e

module _ (vis : List Vi) (vi : Vi) (M : Types) where
  abbrev free : Freedom
  free = freedom vis

  -- a structure gives inside what its lines' sources are there
  abbrev Gives : Entry → Kind → ℕ → List WireSource → Type 0
  Gives e k b opening = (l : Line) → IsIn l (kind_lines free e k) → IsIn b l.inside → (n : ℕ) (o : Operand) → OperandAt 1 l.operands n o → o.is_source ≡ true → o.side ≡ Inside
      → IsIn (record { line = l.line; operand = n }) opening

  by_sources : (e : Entry) (k : Kind) (b : ℕ) (opening : List WireSource) → lines_sources Inside (kind_lines free e k) ≡ opening → Gives e k b opening
  by_sources e k b opening same l is inside n o at s side =
      subst (λ (ws : List WireSource). IsIn (record { line = l.line; operand = n }) ws) same (in_lines_sources Inside (kind_lines free e k) l n o is at s side)

  supplied_by : (e : Entry) → IsIn e (entries_of vi) → (k : Kind) → e.kind ≡ k → (b : ℕ) → IsIn b (bodies k) → (opening : List WireSource) → Gives e k b opening → IsSupplied (flat vis vi M) b opening
  supplied_by e is k same b body opening gives =
      inside_supplied vis vi M e is b (subst (λ (x : Kind). IsIn b (bodies x)) (sym same) body) opening (subst (λ (x : Kind). Gives e x b opening) (sym same) gives)

  pub loop_supplied : (e : Entry) → IsIn e (entries_of vi) → (count stop : Option Wire) (i : Wire) (ts : List Tunnel) (body : ℕ) → e.kind ≡ Loop count stop i ts body
      → IsSupplied (flat vis vi M) body (place_all e.line (sources_on Inside 1 (loop_header count stop i)) ++ lines_places Inside (e.line + 1) ts)
  loop_supplied e is count stop i ts body same =
      supplied_by e is (Loop count stop i ts body) same body (inl refl) _
      (by_sources e (Loop count stop i ts body) body _ (ap (λ ws. place_all e.line (sources_on Inside 1 (loop_header count stop i)) ++ ws) (border_sources Inside e (body ∷ []) [] (e.line + 1) ts)))

  pub case_supplied : (e : Entry) → IsIn e (entries_of vi) → (selector : Wire) (ts : List Tunnel) (arms : List Arm) → e.kind ≡ Case selector ts arms → (arm : Arm) → IsIn arm arms
      → IsSupplied (flat vis vi M) arm.body (lines_places Inside (e.line + 1) ts)
  case_supplied e is selector ts arms same arm among =
      supplied_by e is (Case selector ts arms) same arm.body (in_map (λ (a : Arm). a.body) arms arm among) _
      (by_sources e (Case selector ts arms) arm.body _ (case_inside_sources free e selector ts arms))

  part_gives : (e : Entry) (ps : List Part) → Rise None ps → (p : Part) → IsIn p ps → Gives e (Sequence ps) p.body (lines_places Inside (p.body + 1) p.lines)
  part_gives e ps rise p among l is inside n o at s side =
      let r : OfPart e ps l = of_part e [] ps l is in
      let q : Part = r.part in
      let own : List Line = border_lines e (q.body ∷ []) r.numbers border (q.body + 1) q.lines in
      let single : IsIn p.body (q.body ∷ []) = subst (λ (bs : List ℕ). IsIn p.body bs) (border_inside e (q.body ∷ []) r.numbers (q.body + 1) q.lines l r.line) inside in
      let same : q ≡ p = one_part None ps q p rise r.stands among (the_one q.body p.body single) in
      let here : IsIn (record { line = l.line; operand = n }) (lines_places Inside (q.body + 1) q.lines) =
      subst (λ (ws : List WireSource). IsIn (record { line = l.line; operand = n }) ws) (border_sources Inside e (q.body ∷ []) r.numbers (q.body + 1) q.lines)
      (in_lines_sources Inside own l n o r.line at s side) in
      subst (λ (x : Part). IsIn (record { line = l.line; operand = n }) (lines_places Inside (x.body + 1) x.lines)) same here
    where
      the_one : (a b : ℕ) → IsIn b (a ∷ []) → a ≡ b
      the_one a b (inl e) = e
      the_one a b (inr none) = absurd none

  pub part_supplied : (e : Entry) → IsIn e (entries_of vi) → (ps : List Part) → e.kind ≡ Sequence ps → (p : Part) → IsIn p ps → IsSupplied (flat vis vi M) p.body (lines_places Inside (p.body + 1) p.lines)
  part_supplied e is ps same p among =
      let nest = nested vi in
      let rise : Rise None ps = rises same (nest.frames e (to_of vis vi M e (entries_of vi) is)) in
      supplied_by e is (Sequence ps) same p.body (in_map (λ (x : Part). x.body) ps p among) _ (part_gives e ps rise p among)
    where
      rises : e.kind ≡ Sequence ps → FramesRise e.kind → Rise None ps
      rises same f = subst FramesRise same f
