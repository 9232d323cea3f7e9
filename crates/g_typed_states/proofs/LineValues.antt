-- What border lines give is of the types that their names have, one lemma a form of line.
use Rattle.std.proofs.Common.{◌≡◌, true, ◌&&◌, ℕ, List, [], ◌∷◌, map, Option, Some, None, refl, ap, sym, ◌∙◌, subst}
use Rattle.std.specs.List.{list_all}
use Rattle.std.specs.Option.{option_and_then}
use Rattle.g_types.specs.declared.ty.Ty.{Ty}
use Rattle.g_types.specs.declared.ty.Ty.TheVariants as ty
use Rattle.g_values.specs.declared.value.Value.{Value}
use Rattle.g_values.specs.Coerce.{coerced}
use Rattle.g_values.specs.Spelled.{IsSpelled}
use Rattle.g_values.specs.Value.{type_of}
use Rattle.g_prims_definitions.specs.Arithmetic.{nothing}
use Rattle.g_prims_definitions.specs.Arrays.{index_array, replace}
use Rattle.g_prims_definitions.specs.Clusters.{put}
use Rattle.g_prims_definitions.specs.Kinds.{part, array_of}
use Rattle.g_diagram.specs.declared.node.Tunnel.{Tunnel}
use Rattle.g_diagram.specs.declared.node.Tunnel.TheVariants as line
use Rattle.g_diagram.specs.Lines.{Wire}
use Rattle.g_diagram.specs.Operands.{Outside, border}
use Rattle.g_typing.specs.Types.{Types, wire_type, then_type, element, referred}
use Rattle.g_typing.specs.Typing.{carried}
use Rattle.g_border.specs.Readers.{Reader, has_value, value_on, given_at, place_all, paired, wires_taken}
use Rattle.g_border.specs.Lines.{Entering, register_value, value_in, latest, default_at, gathered, values_inside, values_outside}
use Rattle.g_frames.specs.Program.{Program}
use Rattle.g_typed_states.specs.Lines.{IsAssignable, types_inside, types_outside, LineFits, IsLoopLine, IsCaseLine, IsFrameLine, IsPlaceLine}
use Rattle.g_typed_states.specs.Typed.{IsTypedValue, AllTyped, IsTypedReader, IsFilled}
use Rattle.g_typed_states.proofs.Lists.{and_left, and_right, none_is}
use Rattle.g_typed_states.proofs.Parts.{element-Arr, array_is, array_typed, indexed_typed, index_typed, get_typed, put_typed, replace_typed}
use Rattle.g_typed_states.proofs.Values.{coerced_value, default_value}
use Rattle.g_typed_states.proofs.Wires.{IsFine, AreFine, value_typed, value_fine}
use Rattle.g_frames.proofs.RunLemmas.{some_is}

-- values at operands are values at places
pub given_paired : (l : ℕ) (ks : List ℕ) (vs : List Value) → given_at l ks vs ≡ paired (place_all l ks) vs
given_paired l [] vs = refl
given_paired l (k ∷ ks) [] = refl
given_paired l (k ∷ ks) (v ∷ vs) = ap (λ gs. (record { line = l; operand = k }, v) ∷ gs) (given_paired l ks vs)

-- the type that a known type leads to
pub then_is : (o : Option Ty) (f : Ty → Option Ty) (t : Ty) → then_type o f ≡ Some t → (u : Ty) × ((o ≡ Some u) × (f u ≡ Some t))
then_is None f t is = absurd (none_is t is)
then_is (Some u) f t is = (u, (refl, is))

pub in_wire : (types : Types) (b : ℕ) (w : Wire) → option_and_then (types b) w ≡ wire_type types b w
in_wire types b None = refl
in_wire types b (Some name) = refl

-- a wire that has a type has a value where all that have types do
pub filled_has : (types : Types) (b : ℕ) (r : Reader) (w : Wire) (t : Ty) → IsFilled (types b) r → wire_type types b w ≡ Some t → has_value r w ≡ true
filled_has types b r None t filled is = absurd (none_is t is)
filled_has types b r (Some name) t filled is = filled name t is

-- the wires of its own diagram that a line takes have values
abbrev pub HasTaken : Reader → Tunnel → Type 0
HasTaken r t = list_all (has_value r) (wires_taken Outside (border t)) ≡ true

module _ (p : Program) where
  -- a frame inside, with its values
  pub record IsWhole (types : Types) (b : ℕ) (r : Reader) : Type 0 where
    pub typed : IsTypedReader p (types b) r
    pub filled : IsFilled (types b) r

  module _ (types : Types) (b : ℕ) (r : Reader) (is : IsWhole types b r) where
    pub whole_typed : (w : Wire) (t : Ty) → wire_type types b w ≡ Some t → IsTypedValue p t (value_on r w)
    whole_typed w t known = value_typed p types b r is.typed w t (filled_has types b r w t is.filled known) known

    -- a new value takes the type that it can be assigned to
    pub assigned_typed : (w : Wire) (t : Ty) → IsAssignable types b w t → IsTypedValue p t (coerced (value_on r w) t)
    assigned_typed w t fits = coerced_value p fits.type t (value_on r w) (whole_typed w fits.type fits.known) fits.fits

  -- a register has its first value or a new one
  pub register_typed : (types : Types) (b : ℕ) (o : Option Reader) (v : Value) (t : Ty) (next : Wire) → ((r : Reader) → o ≡ Some r → IsWhole types b r)
      → IsTypedValue p t v → IsAssignable types b next t → IsTypedValue p t (register_value o v t next)
  register_typed types b None v t next whole is fits = is
  register_typed types b (Some r) v t next whole is fits = assigned_typed types b r (whole r refl) next t fits

  -- ---- inside

  -- the value of a kept register when its loop started
  abbrev pub KeptTyped : Value → Tunnel → Type 0
  KeptTyped v (line.Kept t inner next last) = IsTypedValue p t v
  KeptTyped v _ = Unit {0}

  abbrev values_at_index : Entering → Wire → Wire → Value
  values_at_index e array index = index_array (value_on e.outer array) (value_on e.outer index)

  -- in a loop, by the frame before
  pub loop_inside : (types : Types) (d b : ℕ) (e : Entering) → IsTypedReader p (types d) e.outer → ((r : Reader) → e.before ≡ Some r → IsWhole types b r)
      → (l : ℕ) (t : Tunnel) → IsLoopLine t → LineFits types d b t → HasTaken e.outer t → KeptTyped (e.kept l) t → AreFine p (types_inside types d None t) (values_inside e l t)
  loop_inside types d b e outer before l (line.Tunnel outer_wire inner) form fits taken kept =
      (value_fine p types d e.outer outer outer_wire (and_left (has_value e.outer outer_wire) true taken), tt)
  loop_inside types d b e outer before l (line.Register initial inner next last) form fits taken kept =
      let first = value_typed p types d e.outer outer initial fits.type (and_left (has_value e.outer initial) true taken) fits.known in (
        (λ t is s.
            subst (λ u. IsTypedValue p u (register_value e.before (value_on e.outer initial) (type_of (value_on e.outer initial)) next)) (some_is fits.type t (sym fits.known ∙ is))
            (subst (λ u. IsTypedValue p fits.type (register_value e.before (value_on e.outer initial) u next)) (sym first.typed.of_type)
            (register_typed types b e.before (value_on e.outer initial) fits.type next before first fits.value))),
        tt,
      )
  loop_inside types d b e outer before l (line.Kept t inner next last) form fits taken kept =
      ((λ u is s. subst (λ x. IsTypedValue p x (register_value e.before (e.kept l) t next)) (some_is t u is) (register_typed types b e.before (e.kept l) t next before kept fits.value)), tt)
  loop_inside types d b e outer before l (line.Index array inner) form fits taken kept = (
    (λ t is s.
        let then = then_is (wire_type types d array) element t is in
        let known : wire_type types d array ≡ Some (ty.Arr t) = then.1.0 ∙ ap Some (array_is then.0 t then.1.1) in
        indexed_typed p t (value_on e.outer array) e.iteration (value_typed p types d e.outer outer array (ty.Arr t) (and_left (has_value e.outer array) true taken) known)),
    tt,
  )
  loop_inside types d b e outer before l (line.Last inner outer_wire) form fits taken kept = tt
  loop_inside types d b e outer before l (line.Gather inner outer_wire) form fits taken kept = tt
  loop_inside types d b e outer before l (line.Result outer_wire default) form fits taken kept = absurd form
  loop_inside types d b e outer before l (line.Carry earlier inner) form fits taken kept = absurd form
  loop_inside types d b e outer before l (line.Ref reference inner next same code) form fits taken kept = absurd form
  loop_inside types d b e outer before l (line.Element array index inner next outer_wire) form fits taken kept = absurd form
  loop_inside types d b e outer before l (line.Field k cluster inner next outer_wire) form fits taken kept = absurd form

  -- in a case
  pub case_inside : (types : Types) (d : ℕ) (e : Entering) → IsTypedReader p (types d) e.outer → (l : ℕ) (t : Tunnel) → IsCaseLine t → HasTaken e.outer t
      → AreFine p (types_inside types d None t) (values_inside e l t)
  case_inside types d e outer l (line.Tunnel outer_wire inner) form taken = (value_fine p types d e.outer outer outer_wire (and_left (has_value e.outer outer_wire) true taken), tt)
  case_inside types d e outer l (line.Result outer_wire default) form taken = tt
  case_inside types d e outer l (line.Register initial inner next last) form taken = absurd form
  case_inside types d e outer l (line.Kept t inner next last) form taken = absurd form
  case_inside types d e outer l (line.Index array inner) form taken = absurd form
  case_inside types d e outer l (line.Last inner outer_wire) form taken = absurd form
  case_inside types d e outer l (line.Gather inner outer_wire) form taken = absurd form
  case_inside types d e outer l (line.Carry earlier inner) form taken = absurd form
  case_inside types d e outer l (line.Ref reference inner next same code) form taken = absurd form
  case_inside types d e outer l (line.Element array index inner next outer_wire) form taken = absurd form
  case_inside types d e outer l (line.Field k cluster inner next outer_wire) form taken = absurd form

  -- in a frame of a sequence, by the frame before
  carried_fine : (types : Types) (before : Option ℕ) (o : Option Reader) → ((b : ℕ) → before ≡ Some b → (r : Reader) × ((o ≡ Some r) × IsWhole types b r)) → (w : Wire)
      → IsFine p (carried types before w) (value_in o w nothing)
  carried_fine types None o whole w t is s = absurd (none_is t is)
  carried_fine types (Some b) o whole w t is s =
      let r = whole b refl in
      subst (λ x. IsTypedValue p t (value_in x w nothing)) (sym r.1.0) (whole_typed types b r.0 r.1.1 w t is)

  pub part_inside : (types : Types) (d : ℕ) (before : Option ℕ) (e : Entering) → IsTypedReader p (types d) e.outer
      → ((b : ℕ) → before ≡ Some b → (r : Reader) × ((e.before ≡ Some r) × IsWhole types b r)) → (l : ℕ) (t : Tunnel) → IsFrameLine t → HasTaken e.outer t
      → AreFine p (types_inside types d before t) (values_inside e l t)
  part_inside types d before e outer whole l (line.Tunnel outer_wire inner) form taken =
      (value_fine p types d e.outer outer outer_wire (and_left (has_value e.outer outer_wire) true taken), tt)
  part_inside types d before e outer whole l (line.Last inner outer_wire) form taken = tt
  part_inside types d before e outer whole l (line.Carry earlier inner) form taken = (carried_fine types before e.before whole earlier, tt)
  part_inside types d before e outer whole l (line.Result outer_wire default) form taken = absurd form
  part_inside types d before e outer whole l (line.Register initial inner next last) form taken = absurd form
  part_inside types d before e outer whole l (line.Kept t inner next last) form taken = absurd form
  part_inside types d before e outer whole l (line.Index array inner) form taken = absurd form
  part_inside types d before e outer whole l (line.Gather inner outer_wire) form taken = absurd form
  part_inside types d before e outer whole l (line.Ref reference inner next same code) form taken = absurd form
  part_inside types d before e outer whole l (line.Element array index inner next outer_wire) form taken = absurd form
  part_inside types d before e outer whole l (line.Field k cluster inner next outer_wire) form taken = absurd form

  -- in a body in place, by what its reference refers to
  abbrev pub ReferredTyped : (types : Types) (d : ℕ) → Value → Tunnel → Type 0
  ReferredTyped types d v (line.Ref reference inner next same code) = IsFine p (then_type (wire_type types d reference) referred) v
  ReferredTyped types d v _ = Unit {0}

  pub place_inside : (types : Types) (d b : ℕ) (e : Entering) → IsTypedReader p (types d) e.outer → (l : ℕ) (t : Tunnel) → IsPlaceLine t → LineFits types d b t → HasTaken e.outer t
      → ReferredTyped types d e.referred t → AreFine p (types_inside types d None t) (values_inside e l t)
  place_inside types d b e outer l (line.Tunnel outer_wire inner) form fits taken refers =
      (value_fine p types d e.outer outer outer_wire (and_left (has_value e.outer outer_wire) true taken), tt)
  place_inside types d b e outer l (line.Last inner outer_wire) form fits taken refers = tt
  place_inside types d b e outer l (line.Ref reference inner next same code) form fits taken refers = (refers, tt)
  place_inside types d b e outer l (line.Element array index inner next outer_wire) form fits taken refers =
      let has_array = and_left (has_value e.outer array) (has_value e.outer index && true) taken in
      let has_index = and_left (has_value e.outer index) true (and_right (has_value e.outer array) (has_value e.outer index && true) taken) in
      let array_typed = value_typed p types d e.outer outer array (ty.Arr fits.type) has_array fits.known in
      let index_value = value_typed p types d e.outer outer index fits.number has_index fits.indexed in (
        (λ t is s.
            let then = then_is (wire_type types d array) element t is in
            subst (λ u. IsTypedValue p u (values_at_index e array index))
            (some_is fits.type t (sym (element-Arr fits.type) ∙ ap element (some_is (ty.Arr fits.type) then.0 (sym fits.known ∙ then.1.0)) ∙ then.1.1))
            (index_typed p fits.type fits.number (value_on e.outer array) (value_on e.outer index) array_typed index_value fits.is_number)),
        tt,
      )
  place_inside types d b e outer l (line.Field k cluster inner next outer_wire) form fits taken refers = (
    (λ t is s.
        let then = then_is (wire_type types d cluster) (part k) t is in
        get_typed p k then.0 t (value_on e.outer cluster) (value_typed p types d e.outer outer cluster then.0 (and_left (has_value e.outer cluster) true taken) then.1.0) then.1.1),
    tt,
  )
  place_inside types d b e outer l (line.Result outer_wire default) form fits taken refers = absurd form
  place_inside types d b e outer l (line.Carry earlier inner) form fits taken refers = absurd form
  place_inside types d b e outer l (line.Register initial inner next last) form fits taken refers = absurd form
  place_inside types d b e outer l (line.Kept t inner next last) form fits taken refers = absurd form
  place_inside types d b e outer l (line.Index array inner) form fits taken refers = absurd form
  place_inside types d b e outer l (line.Gather inner outer_wire) form fits taken refers = absurd form

  -- ---- outside

  -- frames inside, with their values
  abbrev pub AllWhole : Types → (b : ℕ) → List Reader → Type 0
  AllWhole types b [] = Unit {0}
  AllWhole types b (r ∷ rs) = IsWhole types b r × AllWhole types b rs

  pub latest_whole : (types : Types) (b : ℕ) (rs : List Reader) (r : Reader) → AllWhole types b rs → latest rs ≡ Some r → IsWhole types b r
  latest_whole types b [] r all is = absurd (none_is r is)
  latest_whole types b (x ∷ []) r all is = subst (IsWhole types b) (some_is x r is) all.0
  latest_whole types b (x ∷ y ∷ rs) r all is = latest_whole types b (y ∷ rs) r all.1 is

  last_by : (types : Types) (b : ℕ) (w : Wire) (t : Ty) → wire_type types b w ≡ Some t → IsSpelled t → (o : Option Reader) → ((r : Reader) → o ≡ Some r → IsWhole types b r)
      → IsTypedValue p t (value_in o w (default_at (option_and_then (types b) w)))
  last_by types b w t is s None whole = subst (λ o. IsTypedValue p t (default_at o)) (sym (in_wire types b w ∙ is)) (default_value p t s)
  last_by types b w t is s (Some r) whole = whole_typed types b r (whole r refl) w t is

  last_fine : (types : Types) (b : ℕ) (rs : List Reader) (w : Wire) → AllWhole types b rs → IsFine p (wire_type types b w) (value_in (latest rs) w (default_at (option_and_then (types b) w)))
  last_fine types b rs w all t is s = last_by types b w t is s (latest rs) (λ r at. latest_whole types b rs r all at)

  gathered_values : (types : Types) (b : ℕ) (w : Wire) (t : Ty) → wire_type types b w ≡ Some t → (rs : List Reader) → AllWhole types b rs → AllTyped p t (map (λ r. value_on r w) rs)
  gathered_values types b w t is [] all = tt
  gathered_values types b w t is (r ∷ rs) all = (whole_typed types b r all.0 w t is, gathered_values types b w t is rs all.1)

  array_known : (o : Option Ty) (t : Ty) → array_of o ≡ Some t → (u : Ty) × ((o ≡ Some u) × (ty.Arr u ≡ t))
  array_known None t is = absurd (none_is t is)
  array_known (Some u) t is = (u, (refl, some_is (ty.Arr u) t is))

  gather_fine : (types : Types) (b : ℕ) (rs : List Reader) (w : Wire) → AllWhole types b rs
      → IsFine p (array_of (wire_type types b w)) (gathered (option_and_then (types b) w) (map (λ r. value_on r w) rs))
  gather_fine types b rs w all t is s =
      let known = array_known (wire_type types b w) t is in
      subst (λ o. IsTypedValue p t (gathered o (map (λ r. value_on r w) rs))) (sym (in_wire types b w ∙ known.1.0))
      (subst (λ u. IsTypedValue p u (gathered (Some known.0) (map (λ r. value_on r w) rs))) known.1.1
      (array_typed p known.0 (map (λ r. value_on r w) rs) (subst IsSpelled (sym known.1.1) s) (gathered_values types b w known.0 known.1.0 rs all)))

  -- of a loop
  pub loop_outside : (types : Types) (d b : ℕ) (outer : Reader) (rs : List Reader) (kept : ℕ → Value) → IsTypedReader p (types d) outer → AllWhole types b rs
      → (l : ℕ) (t : Tunnel) → IsLoopLine t → LineFits types d b t → HasTaken outer t → KeptTyped (kept l) t
      → AreFine p (types_outside types d b t) (values_outside (record { outer = outer; inner = rs; kept = kept; types = types b }) l t)
  loop_outside types d b outer rs kept reads all l (line.Tunnel outer_wire inner) form fits taken held = tt
  loop_outside types d b outer rs kept reads all l (line.Register initial inner next last) form fits taken held =
      let first = value_typed p types d outer reads initial fits.type (and_left (has_value outer initial) true taken) fits.known in (
        (λ t is s.
            subst (λ u. IsTypedValue p u (register_value (latest rs) (value_on outer initial) (type_of (value_on outer initial)) next)) (some_is fits.type t (sym fits.known ∙ is))
            (subst (λ u. IsTypedValue p fits.type (register_value (latest rs) (value_on outer initial) u next)) (sym first.typed.of_type)
            (register_typed types b (latest rs) (value_on outer initial) fits.type next (λ r at. latest_whole types b rs r all at) first fits.value))),
        tt,
      )
  loop_outside types d b outer rs kept reads all l (line.Kept t inner next last) form fits taken held = (
    (λ u is s. subst (λ x. IsTypedValue p x (register_value (latest rs) (kept l) t next)) (some_is t u is)
        (register_typed types b (latest rs) (kept l) t next (λ r at. latest_whole types b rs r all at) held fits.value)),
    tt,
  )
  loop_outside types d b outer rs kept reads all l (line.Last inner outer_wire) form fits taken held = (last_fine types b rs inner all, tt)
  loop_outside types d b outer rs kept reads all l (line.Gather inner outer_wire) form fits taken held = (gather_fine types b rs inner all, tt)
  loop_outside types d b outer rs kept reads all l (line.Index array inner) form fits taken held = tt
  loop_outside types d b outer rs kept reads all l (line.Result outer_wire default) form fits taken held = absurd form
  loop_outside types d b outer rs kept reads all l (line.Carry earlier inner) form fits taken held = absurd form
  loop_outside types d b outer rs kept reads all l (line.Ref reference inner next same code) form fits taken held = absurd form
  loop_outside types d b outer rs kept reads all l (line.Element array index inner next outer_wire) form fits taken held = absurd form
  loop_outside types d b outer rs kept reads all l (line.Field k cluster inner next outer_wire) form fits taken held = absurd form

  -- of a frame of a sequence
  pub part_outside : (types : Types) (d b : ℕ) (outer : Reader) (rs : List Reader) (kept : ℕ → Value) → AllWhole types b rs → (l : ℕ) (t : Tunnel) → IsFrameLine t
      → AreFine p (types_outside types d b t) (values_outside (record { outer = outer; inner = rs; kept = kept; types = types b }) l t)
  part_outside types d b outer rs kept all l (line.Tunnel outer_wire inner) form = tt
  part_outside types d b outer rs kept all l (line.Last inner outer_wire) form = (last_fine types b rs inner all, tt)
  part_outside types d b outer rs kept all l (line.Carry earlier inner) form = tt
  part_outside types d b outer rs kept all l (line.Result outer_wire default) form = absurd form
  part_outside types d b outer rs kept all l (line.Register initial inner next last) form = absurd form
  part_outside types d b outer rs kept all l (line.Kept t inner next last) form = absurd form
  part_outside types d b outer rs kept all l (line.Index array inner) form = absurd form
  part_outside types d b outer rs kept all l (line.Gather inner outer_wire) form = absurd form
  part_outside types d b outer rs kept all l (line.Ref reference inner next same code) form = absurd form
  part_outside types d b outer rs kept all l (line.Element array index inner next outer_wire) form = absurd form
  part_outside types d b outer rs kept all l (line.Field k cluster inner next outer_wire) form = absurd form

  -- what a line of a structure in place takes from the body has values
  abbrev pub InnerHas : (types : Types) → (b : ℕ) → Reader → Tunnel → Type 0
  InnerHas types b r (line.Tunnel outer_wire inner) = Unit {0}
  InnerHas types b r (line.Register initial inner next last) = Unit {0}
  InnerHas types b r (line.Kept t inner next last) = Unit {0}
  InnerHas types b r (line.Last inner outer_wire) = (t : Ty) → wire_type types b inner ≡ Some t → has_value r inner ≡ true
  InnerHas types b r (line.Gather inner outer_wire) = Unit {0}
  InnerHas types b r (line.Index array inner) = Unit {0}
  InnerHas types b r (line.Result outer_wire default) = Unit {0}
  InnerHas types b r (line.Carry earlier inner) = Unit {0}
  InnerHas types b r (line.Ref reference inner next same code) = Unit {0}
  InnerHas types b r (line.Element array index inner next outer_wire) = has_value r next ≡ true
  InnerHas types b r (line.Field k cluster inner next outer_wire) = has_value r next ≡ true

  pub whole_has : (types : Types) (d b : ℕ) (r : Reader) → IsWhole types b r → (t : Tunnel) → LineFits types d b t → InnerHas types b r t
  whole_has types d b r whole (line.Tunnel outer_wire inner) fits = tt
  whole_has types d b r whole (line.Register initial inner next last) fits = tt
  whole_has types d b r whole (line.Kept t inner next last) fits = tt
  whole_has types d b r whole (line.Last inner outer_wire) fits = λ t known. filled_has types b r inner t whole.filled known
  whole_has types d b r whole (line.Gather inner outer_wire) fits = tt
  whole_has types d b r whole (line.Index array inner) fits = tt
  whole_has types d b r whole (line.Result outer_wire default) fits = tt
  whole_has types d b r whole (line.Carry earlier inner) fits = tt
  whole_has types d b r whole (line.Ref reference inner next same code) fits = tt
  whole_has types d b r whole (line.Element array index inner next outer_wire) fits = filled_has types b r next fits.value.type whole.filled fits.value.known
  whole_has types d b r whole (line.Field k cluster inner next outer_wire) fits = filled_has types b r next fits.value.type whole.filled fits.value.known

  -- of a structure in place, whose body has these values
  pub place_outside : (types : Types) (d b : ℕ) (outer r : Reader) (kept : ℕ → Value) → IsTypedReader p (types d) outer → IsTypedReader p (types b) r
      → (l : ℕ) (t : Tunnel) → IsPlaceLine t → LineFits types d b t → HasTaken outer t → InnerHas types b r t
      → AreFine p (types_outside types d b t) (values_outside (record { outer = outer; inner = r ∷ []; kept = kept; types = types b }) l t)
  place_outside types d b outer r kept reads inner_reads l (line.Tunnel outer_wire inner) form fits taken has = tt
  place_outside types d b outer r kept reads inner_reads l (line.Last inner outer_wire) form fits taken has =
      ((λ t known s. value_typed p types b r inner_reads inner t (has t known) known), tt)
  place_outside types d b outer r kept reads inner_reads l (line.Ref reference inner next same code) form fits taken has = tt
  place_outside types d b outer r kept reads inner_reads l (line.Element array index inner next outer_wire) form fits taken has =
      let has_array = and_left (has_value outer array) (has_value outer index && true) taken in
      let has_index = and_left (has_value outer index) true (and_right (has_value outer array) (has_value outer index && true) taken) in
      let array_value = value_typed p types d outer reads array (ty.Arr fits.type) has_array fits.known in
      let index_value = value_typed p types d outer reads index fits.number has_index fits.indexed in
      let new = value_typed p types b r inner_reads next fits.value.type has fits.value.known in (
        (λ t is s.
            subst (λ u. IsTypedValue p u (replace (value_on outer array) (value_on outer index) (value_on r next))) (some_is (ty.Arr fits.type) t (sym fits.known ∙ is))
            (replace_typed p fits.type fits.number fits.value.type (value_on outer array) (value_on outer index) (value_on r next) array_value index_value fits.is_number new fits.value.fits)),
        tt,
      )
  place_outside types d b outer r kept reads inner_reads l (line.Field k cluster inner next outer_wire) form fits taken has =
      let cluster_value = value_typed p types d outer reads cluster fits.whole (and_left (has_value outer cluster) true taken) fits.known in
      let new = value_typed p types b r inner_reads next fits.value.type has fits.value.known in (
        (λ t is s.
            subst (λ u. IsTypedValue p u (put k (value_on outer cluster) (value_on r next))) (some_is fits.whole t (sym fits.known ∙ is))
            (put_typed p k fits.whole fits.type fits.value.type (value_on outer cluster) (value_on r next) cluster_value fits.part_is new fits.value.fits)),
        tt,
      )
  place_outside types d b outer r kept reads inner_reads l (line.Result outer_wire default) form fits taken has = absurd form
  place_outside types d b outer r kept reads inner_reads l (line.Carry earlier inner) form fits taken has = absurd form
  place_outside types d b outer r kept reads inner_reads l (line.Register initial inner next last) form fits taken has = absurd form
  place_outside types d b outer r kept reads inner_reads l (line.Kept t inner next last) form fits taken has = absurd form
  place_outside types d b outer r kept reads inner_reads l (line.Index array inner) form fits taken has = absurd form
  place_outside types d b outer r kept reads inner_reads l (line.Gather inner outer_wire) form fits taken has = absurd form
