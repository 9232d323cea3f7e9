-- What all lines of a structure give, inside and outside.
use Rattle.std.proofs.Common.{◌≡◌, true, ℕ, ◌+◌, List, [], ◌∷◌, Option, Some, None, refl, ap, sym, ◌∙◌, subst}
use Rattle.std.specs.Prelude.{pos, is_some}
use Rattle.g_types.specs.declared.rep.Rep.TheVariants.{I32}
use Rattle.g_types.specs.declared.ty.Ty.{Ty}
use Rattle.g_values.specs.declared.value.Value.{Value}
use Rattle.g_values.specs.Spelled.{IsSpelled}
use Rattle.g_prims_definitions.specs.Arithmetic.{number}
use Rattle.g_diagram.specs.declared.node.Tunnel.{Tunnel}
use Rattle.g_diagram.specs.declared.node.Tunnel.TheVariants as line
use Rattle.g_diagram.specs.Lines.{Wire, Arm, Part}
use Rattle.g_diagram.specs.Operands.{Inside, Outside, border, loop_header}
use Rattle.g_typing.specs.Types.{wire_at, whole as code_type}
use Rattle.g_typing.specs.Typing.{result_type, next_result}
use Rattle.g_border.specs.declared.place.WireSource.{WireSource}
use Rattle.g_border.specs.Readers.{Reader, value_on, given_on, given_at, sources_on, place_all, paired}
use Rattle.g_border.specs.Lines.{Entering, Leaving, leaving, values_inside, line_inside, lines_inside, values_outside, line_outside, lines_outside, parts_outside, default_at}
use Rattle.g_border.specs.Cases.{coerced_to, result_value, result_outside, results_outside}
use Rattle.g_frames.specs.Program.{FlatVi, Program}
use Rattle.g_frames.proofs.RunLemmas.{some_is}
use Rattle.g_typed_states.specs.Places.{Among, HaveTypes, line_places, lines_places}
use Rattle.g_typed_states.specs.Lines.{IsAssignable, IsLoopLine, IsCaseLine, IsFrameLine, IsPlaceLine, AllLines, types_inside, types_outside, types_of_result, LinesFit, LinesInside, LinesOutside, ResultsOutside, GivesFit}
use Rattle.g_typed_states.specs.Accepted.{AllGivesFit, AcceptsParts}
use Rattle.g_typed_states.specs.Typed.{IsTypedValue, IsTypedReader}
use Rattle.g_typed_states.proofs.Values.{coerced_value, default_value, number_value}
use Rattle.g_typed_states.proofs.Wires.{IsFine, AreFine, GivesAt, value_typed, gives_paired, gives_none, gives_both}
use Rattle.g_typed_states.proofs.LineValues.{given_paired, HasTaken, IsWhole, AllWhole, KeptTyped, ReferredTyped, InnerHas, loop_inside, case_inside, part_inside, place_inside, loop_outside, part_outside, place_outside}
use Rattle.g_typed_states.proofs.Inputs.{parts_places}

-- a fact of each line, from one on
abbrev pub EachLine : (ℕ → Tunnel → Type 0) → (line : ℕ) → List Tunnel → Type 0
EachLine P l [] = Unit {0}
EachLine P l (t ∷ ts) = P l t × EachLine P (l + 1) ts

module _ (p : Program) (vi : FlatVi) (spelled : (d : ℕ) (name : List ℕ) (t : Ty) → vi.types d name ≡ Some t → IsSpelled t) where
  -- one line, by its values
  line_gives : (side_places : List WireSource) (l : ℕ) (ks : List ℕ) (os : List (Option Ty)) (vs : List Value) → place_all l ks ≡ side_places → HaveTypes vi side_places os → AreFine p os vs
      → GivesAt p vi side_places (given_at l ks vs)
  line_gives ws l ks os vs is have fine =
      subst (GivesAt p vi ws) (sym (given_paired l ks vs ∙ ap (λ us. paired us vs) is)) (gives_paired p vi spelled ws os vs have fine)

  pub inside_gives : (d : ℕ) (before : Option ℕ) (e : Entering) (l : ℕ) (ts : List Tunnel) → LinesInside vi d before l ts
      → EachLine (λ k t. AreFine p (types_inside vi.types d before t) (values_inside e k t)) l ts → GivesAt p vi (lines_places Inside l ts) (lines_inside e l ts)
  inside_gives d before e l [] have fine = gives_none p vi
  inside_gives d before e l (t ∷ ts) have fine =
      gives_both p vi (line_places Inside l t) (lines_places Inside (l + 1) ts) (line_inside e l t) (lines_inside e (l + 1) ts)
      (line_gives (line_places Inside l t) l (sources_on Inside 1 (border t)) (types_inside vi.types d before t) (values_inside e l t) refl have.0 fine.0)
      (inside_gives d before e (l + 1) ts have.1 fine.1)

  pub outside_gives : (given : Tunnel → List (Option Ty)) (out : Leaving) (l : ℕ) (ts : List Tunnel) → LinesOutside vi given l ts
      → EachLine (λ k t. AreFine p (given t) (values_outside out k t)) l ts → GivesAt p vi (lines_places Outside l ts) (lines_outside out l ts)
  outside_gives given out l [] have fine = gives_none p vi
  outside_gives given out l (t ∷ ts) have fine =
      gives_both p vi (line_places Outside l t) (lines_places Outside (l + 1) ts) (line_outside out l t) (lines_outside out (l + 1) ts)
      (line_gives (line_places Outside l t) l (sources_on Outside 1 (border t)) (given t) (values_outside out l t) refl have.0 fine.0)
      (outside_gives given out (l + 1) ts have.1 fine.1)

  -- ---- loops

  pub loop_inside_gives : (d b : ℕ) (e : Entering) → IsTypedReader p (vi.types d) e.outer → ((r : Reader) → e.before ≡ Some r → IsWhole p vi.types b r) → (l : ℕ) (ts : List Tunnel)
      → AllLines IsLoopLine ts → LinesFit vi.types d b ts → AllLines (HasTaken e.outer) ts → EachLine (λ k t. KeptTyped p (e.kept k) t) l ts → LinesInside vi d None l ts
      → GivesAt p vi (lines_places Inside l ts) (lines_inside e l ts)
  loop_inside_gives d b e reads before l ts forms fits taken kept have = inside_gives d None e l ts have (each l ts forms fits taken kept)
    where
      each : (l : ℕ) (ts : List Tunnel) → AllLines IsLoopLine ts → LinesFit vi.types d b ts → AllLines (HasTaken e.outer) ts → EachLine (λ k t. KeptTyped p (e.kept k) t) l ts
          → EachLine (λ k t. AreFine p (types_inside vi.types d None t) (values_inside e k t)) l ts
      each l [] forms fits taken kept = tt
      each l (t ∷ ts) forms fits taken kept =
          (loop_inside p vi.types d b e reads before l t forms.0 fits.0 taken.0 kept.0, each (l + 1) ts forms.1 fits.1 taken.1 kept.1)

  pub header_gives : (l : ℕ) (count stop : Option Wire) (i : Wire) (k : ℕ) → HaveTypes vi (place_all l (sources_on Inside 1 (loop_header count stop i))) (Some code_type ∷ [])
      → GivesAt p vi (place_all l (sources_on Inside 1 (loop_header count stop i))) (given_on Inside l (loop_header count stop i) (number I32 (pos k) ∷ []))
  header_gives l count stop i k have =
      line_gives (place_all l (sources_on Inside 1 (loop_header count stop i))) l (sources_on Inside 1 (loop_header count stop i)) (Some code_type ∷ []) (number I32 (pos k) ∷ []) refl have
      ((λ t is s. subst (λ u. IsTypedValue p u (number I32 (pos k))) (some_is code_type t is) (number_value p I32 (pos k))), tt)

  pub loop_outside_each : (d b : ℕ) (outer : Reader) (rs : List Reader) (kept : ℕ → Value) → IsTypedReader p (vi.types d) outer → AllWhole p vi.types b rs → (l : ℕ) (ts : List Tunnel)
      → AllLines IsLoopLine ts → LinesFit vi.types d b ts → AllLines (HasTaken outer) ts → EachLine (λ k t. KeptTyped p (kept k) t) l ts
      → EachLine (λ k t. AreFine p (types_outside vi.types d b t) (values_outside (record { outer = outer; inner = rs; kept = kept; types = vi.types b }) k t)) l ts
  loop_outside_each d b outer rs kept reads all l [] forms fits taken held = tt
  loop_outside_each d b outer rs kept reads all l (t ∷ ts) forms fits taken held =
      (loop_outside p vi.types d b outer rs kept reads all l t forms.0 fits.0 taken.0 held.0, loop_outside_each d b outer rs kept reads all (l + 1) ts forms.1 fits.1 taken.1 held.1)

  pub loop_outside_gives : (d b : ℕ) (outer : Reader) (rs : List Reader) (kept : ℕ → Value) → (l : ℕ) (ts : List Tunnel)
      → EachLine (λ k t. AreFine p (types_outside vi.types d b t) (values_outside (record { outer = outer; inner = rs; kept = kept; types = vi.types b }) k t)) l ts
      → LinesOutside vi (types_outside vi.types d b) l ts
      → GivesAt p vi (lines_places Outside l ts) (lines_outside (record { outer = outer; inner = rs; kept = kept; types = vi.types b }) l ts)
  loop_outside_gives d b outer rs kept l ts fine have = outside_gives (types_outside vi.types d b) (record { outer = outer; inner = rs; kept = kept; types = vi.types b }) l ts have fine

  -- ---- cases

  pub case_inside_gives : (d : ℕ) (e : Entering) → IsTypedReader p (vi.types d) e.outer → (l : ℕ) (ts : List Tunnel) → AllLines IsCaseLine ts → AllLines (HasTaken e.outer) ts
      → LinesInside vi d None l ts → GivesAt p vi (lines_places Inside l ts) (lines_inside e l ts)
  case_inside_gives d e reads l ts forms taken have = inside_gives d None e l ts have (each l ts forms taken)
    where
      each : (l : ℕ) (ts : List Tunnel) → AllLines IsCaseLine ts → AllLines (HasTaken e.outer) ts → EachLine (λ k t. AreFine p (types_inside vi.types d None t) (values_inside e k t)) l ts
      each l [] forms taken = tt
      each l (t ∷ ts) forms taken = (case_inside p vi.types d e reads l t forms.0 taken.0, each (l + 1) ts forms.1 taken.1)

  -- the results, by the values of a branch that is ended
  module _ (arms : List Arm) (arm : Arm) (stands : Among arm arms) (r : Reader) (reads : IsTypedReader p (vi.types arm.body) r)
      (has : (k : ℕ) (name : List ℕ) (u : Ty) → wire_at arm.gives k ≡ Some name → vi.types arm.body name ≡ Some u → is_some (r name) ≡ true) where
    result_by : (k : ℕ) (w : Wire) (o : Option Ty) → wire_at arm.gives k ≡ w → ((t : Ty) → o ≡ Some t → (name : List ℕ) → w ≡ Some name → IsAssignable vi.types arm.body (Some name) t)
        → IsFine p o (result_value r w o)
    result_by k None o at fits t is s = subst (λ x. IsTypedValue p t (default_at x)) (sym is) (default_value p t s)
    result_by k (Some name) o at fits t known s =
        let a = fits t known name refl in
        subst (λ x. IsTypedValue p t (coerced_to x (value_on r (Some name)))) (sym known)
        (coerced_value p a.type t (value_on r (Some name)) (value_typed p vi.types arm.body r reads (Some name) a.type (has k name a.type at a.known) a.known) a.fits)

    result_gives : (k l : ℕ) (t : Tunnel) → IsCaseLine t → GivesFit vi.types k arms → HaveTypes vi (line_places Outside l t) (types_of_result vi.types k arms t)
        → GivesAt p vi (line_places Outside l t) (result_outside vi.types arms arm r k l t)
    result_gives k l (line.Result outer default) form fits have =
        line_gives (line_places Outside l (line.Result outer default)) l (sources_on Outside 1 (border (line.Result outer default))) (result_type vi.types k arms ∷ [])
        (result_value r (wire_at arm.gives k) (result_type vi.types k arms) ∷ []) refl have
        (result_by k (wire_at arm.gives k) (result_type vi.types k arms) refl (λ t known name at. fits t known arm stands name at), tt)
    result_gives k l (line.Tunnel outer inner) form fits have = gives_none p vi
    result_gives k l (line.Register initial inner next last) form fits have = absurd form
    result_gives k l (line.Kept t inner next last) form fits have = absurd form
    result_gives k l (line.Last inner outer) form fits have = absurd form
    result_gives k l (line.Gather inner outer) form fits have = absurd form
    result_gives k l (line.Index array inner) form fits have = absurd form
    result_gives k l (line.Carry earlier inner) form fits have = absurd form
    result_gives k l (line.Ref reference inner next same code) form fits have = absurd form
    result_gives k l (line.Element array index inner next outer) form fits have = absurd form
    result_gives k l (line.Field n cluster inner next outer) form fits have = absurd form

    pub results_give : (k l : ℕ) (ts : List Tunnel) → AllLines IsCaseLine ts → AllGivesFit vi.types k arms ts → ResultsOutside vi k arms l ts
        → GivesAt p vi (lines_places Outside l ts) (results_outside vi.types arms arm r k l ts)
    results_give k l [] forms fits have = gives_none p vi
    results_give k l (t ∷ ts) forms fits have =
        gives_both p vi (line_places Outside l t) (lines_places Outside (l + 1) ts) (result_outside vi.types arms arm r k l t) (results_outside vi.types arms arm r (next_result t k) (l + 1) ts)
        (result_gives k l t forms.0 fits.0 have.0) (results_give (next_result t k) (l + 1) ts forms.1 fits.1 have.1)

  -- ---- sequences

  pub part_inside_gives : (d : ℕ) (before : Option ℕ) (e : Entering) → IsTypedReader p (vi.types d) e.outer
      → ((b : ℕ) → before ≡ Some b → (r : Reader) × ((e.before ≡ Some r) × IsWhole p vi.types b r)) → (l : ℕ) (ts : List Tunnel) → AllLines IsFrameLine ts → AllLines (HasTaken e.outer) ts
      → LinesInside vi d before l ts → GivesAt p vi (lines_places Inside l ts) (lines_inside e l ts)
  part_inside_gives d before e reads earlier l ts forms taken have = inside_gives d before e l ts have (each l ts forms taken)
    where
      each : (l : ℕ) (ts : List Tunnel) → AllLines IsFrameLine ts → AllLines (HasTaken e.outer) ts → EachLine (λ k t. AreFine p (types_inside vi.types d before t) (values_inside e k t)) l ts
      each l [] forms taken = tt
      each l (t ∷ ts) forms taken = (part_inside p vi.types d before e reads earlier l t forms.0 taken.0, each (l + 1) ts forms.1 taken.1)

  part_outside_gives : (d b : ℕ) (outer r : Reader) → IsWhole p vi.types b r → (l : ℕ) (ts : List Tunnel) → AllLines IsFrameLine ts → LinesOutside vi (types_outside vi.types d b) l ts
      → GivesAt p vi (lines_places Outside l ts) (lines_outside (leaving outer (r ∷ []) (vi.types b)) l ts)
  part_outside_gives d b outer r whole l ts forms have = outside_gives (types_outside vi.types d b) (leaving outer (r ∷ []) (vi.types b)) l ts have (each l ts forms)
    where
      each : (l : ℕ) (ts : List Tunnel) → AllLines IsFrameLine ts → EachLine (λ k t. AreFine p (types_outside vi.types d b t) (values_outside (leaving outer (r ∷ []) (vi.types b)) k t)) l ts
      each l [] forms = tt
      each l (t ∷ ts) forms = (part_outside p vi.types d b outer (r ∷ []) (leaving outer (r ∷ []) (vi.types b)).kept (whole, tt) l t forms.0, each (l + 1) ts forms.1)

  -- the values of the frames of these parts, one each
  abbrev pub PartsWhole : List Part → List Reader → Type 0
  PartsWhole [] rs = Unit {0}
  PartsWhole (part ∷ parts) [] = ⊥
  PartsWhole (part ∷ parts) (r ∷ rs) = IsWhole p vi.types part.body r × PartsWhole parts rs

  pub parts_give : (d : ℕ) (before : Option ℕ) (outer : Reader) (parts : List Part) (rs : List Reader) → AcceptsParts vi d before parts → PartsWhole parts rs
      → GivesAt p vi (parts_places parts) (parts_outside outer parts rs vi.types)
  parts_give d before outer [] rs accepts whole = gives_none p vi
  parts_give d before outer (part ∷ parts) [] accepts whole = absurd whole
  parts_give d before outer (part ∷ parts) (r ∷ rs) accepts whole =
      gives_both p vi (lines_places Outside (part.body + 1) part.lines) (parts_places parts)
      (lines_outside (leaving outer (r ∷ []) (vi.types part.body)) (part.body + 1) part.lines) (parts_outside outer parts rs vi.types)
      (part_outside_gives d part.body outer r whole.0 (part.body + 1) part.lines accepts.0.forms accepts.0.outside)
      (parts_give d (Some part.body) outer parts rs accepts.1 whole.1)

  -- ---- structures in place

  pub place_inside_gives : (d b : ℕ) (e : Entering) → IsTypedReader p (vi.types d) e.outer → (l : ℕ) (ts : List Tunnel) → AllLines IsPlaceLine ts → LinesFit vi.types d b ts
      → AllLines (HasTaken e.outer) ts → AllLines (ReferredTyped p vi.types d e.referred) ts → LinesInside vi d None l ts → GivesAt p vi (lines_places Inside l ts) (lines_inside e l ts)
  place_inside_gives d b e reads l ts forms fits taken refers have = inside_gives d None e l ts have (each l ts forms fits taken refers)
    where
      each : (l : ℕ) (ts : List Tunnel) → AllLines IsPlaceLine ts → LinesFit vi.types d b ts → AllLines (HasTaken e.outer) ts → AllLines (ReferredTyped p vi.types d e.referred) ts
          → EachLine (λ k t. AreFine p (types_inside vi.types d None t) (values_inside e k t)) l ts
      each l [] forms fits taken refers = tt
      each l (t ∷ ts) forms fits taken refers =
          (place_inside p vi.types d b e reads l t forms.0 fits.0 taken.0 refers.0, each (l + 1) ts forms.1 fits.1 taken.1 refers.1)

  pub place_outside_gives : (d b : ℕ) (outer r : Reader) → IsTypedReader p (vi.types d) outer → IsTypedReader p (vi.types b) r → (l : ℕ) (ts : List Tunnel) → AllLines IsPlaceLine ts
      → LinesFit vi.types d b ts → AllLines (HasTaken outer) ts → AllLines (InnerHas p vi.types b r) ts → LinesOutside vi (types_outside vi.types d b) l ts
      → GivesAt p vi (lines_places Outside l ts) (lines_outside (leaving outer (r ∷ []) (vi.types b)) l ts)
  place_outside_gives d b outer r reads inner_reads l ts forms fits taken has have = outside_gives (types_outside vi.types d b) (leaving outer (r ∷ []) (vi.types b)) l ts have (each l ts forms fits taken has)
    where
      each : (l : ℕ) (ts : List Tunnel) → AllLines IsPlaceLine ts → LinesFit vi.types d b ts → AllLines (HasTaken outer) ts → AllLines (InnerHas p vi.types b r) ts
          → EachLine (λ k t. AreFine p (types_outside vi.types d b t) (values_outside (leaving outer (r ∷ []) (vi.types b)) k t)) l ts
      each l [] forms fits taken has = tt
      each l (t ∷ ts) forms fits taken has =
          (place_outside p vi.types d b outer r (leaving outer (r ∷ []) (vi.types b)).kept reads inner_reads l t forms.0 fits.0 taken.0 has.0, each (l + 1) ts forms.1 fits.1 taken.1 has.1)
