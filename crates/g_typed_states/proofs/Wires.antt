-- Values on wires, and what becomes of them where values are given.
use Rattle.std.proofs.Common.{◌≡◌, ◌⊎◌, inl, inr, ⊎_elim, Bool, true, false, ◌&&◌, ℕ, suc, List, [], ◌∷◌, ◌++◌, map, length, Option, Some, None, refl, ap, sym, ◌∙◌, subst, eq-eqb}
use Rattle.std.specs.Prelude.{is_some, slice_get, ◌==◌, if◌then◌else◌}
use Rattle.std.specs.List.{list_all}
use Rattle.std.specs.Option.{option_and_then, option_or}
use Rattle.std.proofs.lemmas.Bool.{eqb-true}
use Rattle.g_types.specs.declared.ty.Ty.{Ty}
use Rattle.g_values.specs.declared.value.Value.{Value}
use Rattle.g_values.specs.Spelled.{IsSpelled}
use Rattle.g_diagram.specs.Lines.{Wire}
use Rattle.g_diagram.specs.Ports.{Port, same_wire}
use Rattle.g_prims_definitions.specs.Clusters.{or_nothing}
use Rattle.g_typing.specs.Types.{Types, wire_type, wire_types, both as both_types}
use Rattle.g_border.specs.declared.place.WireSource.{WireSource}
use Rattle.g_border.specs.Readers.{Reader, Given, has_value, value_on, same_source, value_given, source_of, paired}
use Rattle.g_frames.specs.Program.{FlatVi, Program}
use Rattle.g_frames.specs.State.{sources_in, value_at, with_value, with_given}
use Rattle.g_frames.proofs.RunLemmas.{refute, some_is}
use Rattle.g_typed_states.specs.Places.{Among, later, HaveTypes}
use Rattle.g_typed_states.proofs.Lists.{and_left, and_right, none_is, is_there, no_suc, one_less, no_place, among_cases, among_head, among_append}
use Rattle.g_typed_states.specs.Typed.{IsTypedValue, AreTyped, IsTypedReader}

-- ---- sources

pub same_source_is : (a b : WireSource) → same_source a b ≡ true → a ≡ b
same_source_is a b h =
    let line : a.line ≡ b.line = eqb-true a.line b.line (and_left (a.line == b.line) (a.operand == b.operand) h) in
    let operand : a.operand ≡ b.operand = eqb-true a.operand b.operand (and_right (a.line == b.line) (a.operand == b.operand) h) in
    ap (λ l. record { line = l; operand = a.operand }) line ∙ ap (λ k. record { line = b.line; operand = k }) operand

pub same_source_itself : (a : WireSource) → same_source a a ≡ true
same_source_itself a = ap (λ c. c && (a.operand == a.operand)) (eq-eqb a.line a.line refl) ∙ eq-eqb a.operand a.operand refl

-- ---- a value comes to its source

stays_at : (qs : List WireSource) (vs : List (Option Value)) (p : WireSource) (v : Value) (w : WireSource) (x : Value) → value_at qs vs w ≡ Some x → value_at qs (with_value qs vs p v) w ≡ Some x
stays_at [] vs p v w x h = h
stays_at (q ∷ qs) [] p v w x h = absurd (none_is x h)
stays_at (q ∷ qs) (u ∷ us) p v w x h = by (same_source q p) (stays_at qs us p v w x)
  where
    has : (u : Option Value) → u ≡ Some x → option_or u (Some v) ≡ Some x
    has None e = absurd (none_is x e)
    has (Some y) e = e

    here : (there : Bool) → (if there then u else value_at qs us w) ≡ Some x → (if there then option_or u (Some v) else value_at qs us w) ≡ Some x
    here true g = has u g
    here false g = g

    beyond : (there : Bool) → (value_at qs us w ≡ Some x → value_at qs (with_value qs us p v) w ≡ Some x) → (if there then u else value_at qs us w) ≡ Some x
        → (if there then u else value_at qs (with_value qs us p v) w) ≡ Some x
    beyond true rest g = g
    beyond false rest g = rest g

    by : (b : Bool) → (value_at qs us w ≡ Some x → value_at qs (with_value qs us p v) w ≡ Some x)
        → value_at (q ∷ qs) (if b then option_or u (Some v) ∷ us else u ∷ with_value qs us p v) w ≡ Some x
    by true rest = here (same_source q w) h
    by false rest = beyond (same_source q w) rest h

-- a value that is there was there, or came
abbrev Came : List WireSource → List (Option Value) → WireSource → Value → WireSource → Value → Type 0
Came qs vs p v w x = (value_at qs vs w ≡ Some x) ⊎ ((p ≡ w) × (v ≡ x))

comes_at : (qs : List WireSource) (vs : List (Option Value)) (p : WireSource) (v : Value) (w : WireSource) (x : Value) → value_at qs (with_value qs vs p v) w ≡ Some x → Came qs vs p v w x
comes_at [] vs p v w x h = inl h
comes_at (q ∷ qs) [] p v w x h = absurd (none_is x h)
comes_at (q ∷ qs) (u ∷ us) p v w x h = by (same_source q p) refl (comes_at qs us p v w x) h
  where
    has : (u : Option Value) → p ≡ w → option_or u (Some v) ≡ Some x → (u ≡ Some x) ⊎ ((p ≡ w) × (v ≡ x))
    has None same e = inr (same, some_is v x e)
    has (Some y) same e = inl e

    here : (there : Bool) → same_source q w ≡ there → q ≡ p → (if there then option_or u (Some v) else value_at qs us w) ≡ Some x
        → ((if there then u else value_at qs us w) ≡ Some x) ⊎ ((p ≡ w) × (v ≡ x))
    here true same at g = has u (sym at ∙ same_source_is q w same) g
    here false same at g = inl g

    beyond : (there : Bool) → (value_at qs (with_value qs us p v) w ≡ Some x → Came qs us p v w x) → (if there then u else value_at qs (with_value qs us p v) w) ≡ Some x
        → ((if there then u else value_at qs us w) ≡ Some x) ⊎ ((p ≡ w) × (v ≡ x))
    beyond true rest g = inl g
    beyond false rest g = rest g

    by : (b : Bool) → same_source q p ≡ b → (value_at qs (with_value qs us p v) w ≡ Some x → Came qs us p v w x)
        → value_at (q ∷ qs) (if b then option_or u (Some v) ∷ us else u ∷ with_value qs us p v) w ≡ Some x → Came (q ∷ qs) (u ∷ us) p v w x
    by true same rest g = here (same_source q w) refl (same_source_is q p same) g
    by false same rest g = beyond (same_source q w) rest g

with_value_long : (qs : List WireSource) (vs : List (Option Value)) (p : WireSource) (v : Value) → length (with_value qs vs p v) ≡ length vs
with_value_long [] vs p v = refl
with_value_long (q ∷ qs) [] p v = refl
with_value_long (q ∷ qs) (u ∷ us) p v = by (same_source q p) (with_value_long qs us p v)
  where
    by : (b : Bool) → length (with_value qs us p v) ≡ length us → length (if b then option_or u (Some v) ∷ us else u ∷ with_value qs us p v) ≡ suc (length us)
    by true rest = refl
    by false rest = ap suc rest

-- a value that comes to a place is there
has_at : (qs : List WireSource) (vs : List (Option Value)) (w : WireSource) (v : Value) → Among w qs → length vs ≡ length qs → is_some (value_at qs (with_value qs vs w v) w) ≡ true
has_at [] vs w v at long = absurd (no_place w at)
has_at (q ∷ qs) [] w v at long = absurd (no_suc (length qs) long)
has_at (q ∷ qs) (u ∷ us) w v at long = by (same_source q w) refl at (λ later. has_at qs us w v later (one_less (length us) (length qs) long))
  where
    has : (u : Option Value) → is_some (option_or u (Some v)) ≡ true
    has None = refl
    has (Some y) = refl

    here : (there : Bool) → same_source q w ≡ there → there ≡ true → is_some (if there then option_or u (Some v) else value_at qs us w) ≡ true
    here true same is = has u
    here false same is = absurd (refute is)

    beyond : (there : Bool) → there ≡ false → is_some (value_at qs (with_value qs us w v) w) ≡ true → is_some (if there then u else value_at qs (with_value qs us w v) w) ≡ true
    beyond true is rest = absurd (refute (sym is))
    beyond false is rest = rest

    elsewhere : same_source q w ≡ false → Among w (q ∷ qs) → Among w qs
    elsewhere not at =
        ⊎_elim (λ same. absurd (refute (sym not ∙ ap (λ x. same_source x w) same ∙ same_source_itself w))) (λ l. l) (among_cases w q qs at)

    by : (b : Bool) → same_source q w ≡ b → Among w (q ∷ qs) → (Among w qs → is_some (value_at qs (with_value qs us w v) w) ≡ true)
        → is_some (value_at (q ∷ qs) (if b then option_or u (Some v) ∷ us else u ∷ with_value qs us w v) w) ≡ true
    by true same at rest = here (same_source q w) refl same
    by false same at rest = beyond (same_source q w) same (rest (elsewhere same at))

-- ---- values come to their sources

pub stays_all : (qs : List WireSource) (gs : Given) (vs : List (Option Value)) (w : WireSource) (x : Value) → value_at qs vs w ≡ Some x → value_at qs (with_given qs vs gs) w ≡ Some x
stays_all qs [] vs w x h = h
stays_all qs (g ∷ gs) vs w x h = stays_all qs gs (with_value qs vs g.0 g.1) w x (stays_at qs vs g.0 g.1 w x h)

pub comes_all : (qs : List WireSource) (gs : Given) (vs : List (Option Value)) (w : WireSource) (x : Value) → value_at qs (with_given qs vs gs) w ≡ Some x → (value_at qs vs w ≡ Some x) ⊎ Among (w, x) gs
comes_all qs [] vs w x h = inl h
comes_all qs (g ∷ gs) vs w x h = by (comes_all qs gs (with_value qs vs g.0 g.1) w x h)
  where
    one : Came qs vs g.0 g.1 w x → (value_at qs vs w ≡ Some x) ⊎ Among (w, x) (g ∷ gs)
    one (inl stood) = inl stood
    one (inr came) = inr (among_head (w, x) g gs (ap (λ a. (a, g.1)) came.0 ∙ ap (λ b. (w, b)) came.1))

    by : (value_at qs (with_value qs vs g.0 g.1) w ≡ Some x) ⊎ Among (w, x) gs → (value_at qs vs w ≡ Some x) ⊎ Among (w, x) (g ∷ gs)
    by (inl stood) = one (comes_at qs vs g.0 g.1 w x stood)
    by (inr more) = inr (later more)

pub given_long : (qs : List WireSource) (gs : Given) (vs : List (Option Value)) → length (with_given qs vs gs) ≡ length vs
given_long qs [] vs = refl
given_long qs (g ∷ gs) vs = given_long qs gs (with_value qs vs g.0 g.1) ∙ with_value_long qs vs g.0 g.1

pub has_all : (qs : List WireSource) (gs : Given) (vs : List (Option Value)) (w : WireSource) → Among w qs → length vs ≡ length qs → is_some (value_given gs w) ≡ true
    → is_some (value_at qs (with_given qs vs gs) w) ≡ true
has_all qs [] vs w at long h = absurd (refute h)
has_all qs (g ∷ gs) vs w at long h = by (same_source g.0 w) refl h (has_all qs gs (with_value qs vs g.0 g.1) w at (with_value_long qs vs g.0 g.1 ∙ long))
  where
    stood : (x : Value) → value_at qs (with_value qs vs g.0 g.1) w ≡ Some x → is_some (value_at qs (with_given qs (with_value qs vs g.0 g.1) gs) w) ≡ true
    stood x h = ap is_some (stays_all qs gs (with_value qs vs g.0 g.1) w x h)

    by : (b : Bool) → same_source g.0 w ≡ b → is_some (if b then Some g.1 else value_given gs w) ≡ true
        → (is_some (value_given gs w) ≡ true → is_some (value_at qs (with_given qs (with_value qs vs g.0 g.1) gs) w) ≡ true)
        → is_some (value_at qs (with_given qs (with_value qs vs g.0 g.1) gs) w) ≡ true
    by true same has rest =
        let is : is_some (value_at qs (with_value qs vs g.0 g.1) w) ≡ true =
        ap (λ a. is_some (value_at qs (with_value qs vs a g.1) w)) (same_source_is g.0 w same) ∙ has_at qs vs w g.1 at long in
        let x = is_there (value_at qs (with_value qs vs g.0 g.1) w) is in
        stood x.0 x.1
    by false same has rest = rest has

-- ---- the sources of names

pub source_among : (ports : List Port) (d : ℕ) (name : List ℕ) (w : WireSource) → source_of ports d name ≡ Some w → Among w (sources_in d ports)
source_among [] d name w h = absurd (none_is w h)
source_among (p ∷ ps) d name w h = by p.is_source (p.diagram == d) (same_wire (Some name) p.wire) h (source_among ps d name w)
  where
    here : WireSource
    here = record { line = p.line; operand = p.operand }

    by : (a b c : Bool) → (if a && (b && c) then Some here else source_of ps d name) ≡ Some w → (source_of ps d name ≡ Some w → Among w (sources_in d ps))
        → Among w (if a && b then here ∷ sources_in d ps else sources_in d ps)
    by true true true g rest = among_head w here (sources_in d ps) (some_is here w g)
    by true true false g rest = later (rest g)
    by true false c g rest = rest g
    by false b c g rest = rest g

-- ---- readers

-- what a frame with these values reads
abbrev pub read_in : FlatVi → (diagram : ℕ) → List (Option Value) → Reader
read_in vi d vs name = option_and_then (value_at (sources_in d vi.ports) vs) (source_of vi.ports d name)

pub read_at : (vi : FlatVi) (d : ℕ) (vs : List (Option Value)) (name : List ℕ) (w : WireSource) → source_of vi.ports d name ≡ Some w
    → read_in vi d vs name ≡ value_at (sources_in d vi.ports) vs w
read_at vi d vs name w is = ap (option_and_then (value_at (sources_in d vi.ports) vs)) is

-- a name with a value has a source
pub read_from : (vi : FlatVi) (d : ℕ) (vs : List (Option Value)) (name : List ℕ) (v : Value) → read_in vi d vs name ≡ Some v
    → (w : WireSource) × ((source_of vi.ports d name ≡ Some w) × (value_at (sources_in d vi.ports) vs w ≡ Some v))
read_from vi d vs name v h = by (source_of vi.ports d name) refl h
  where
    by : (o : Option WireSource) → source_of vi.ports d name ≡ o → option_and_then (value_at (sources_in d vi.ports) vs) o ≡ Some v
        → (w : WireSource) × ((source_of vi.ports d name ≡ Some w) × (value_at (sources_in d vi.ports) vs w ≡ Some v))
    by None is g = absurd (none_is v g)
    by (Some w) is g = (w, (is, g))

-- values that stay are read
pub reads_on : (vi : FlatVi) (d : ℕ) (vs us : List (Option Value)) → ((k : ℕ) (v : Value) → slice_get vs k ≡ Some (Some v) → slice_get us k ≡ Some (Some v))
    → (name : List ℕ) (v : Value) → read_in vi d vs name ≡ Some v → read_in vi d us name ≡ Some v
reads_on vi d vs us stay name v h =
    let r = read_from vi d vs name v h in
    read_at vi d us name r.0 r.1.0 ∙ grows (sources_in d vi.ports) vs us r.0 v stay r.1.1
  where
    nothing_at : (qs : List WireSource) (w : WireSource) → value_at qs [] w ≡ None
    nothing_at [] w = refl
    nothing_at (q ∷ qs) w = refl

    grows : (qs : List WireSource) (vs us : List (Option Value)) (w : WireSource) (v : Value) → ((k : ℕ) (x : Value) → slice_get vs k ≡ Some (Some x) → slice_get us k ≡ Some (Some x))
        → value_at qs vs w ≡ Some v → value_at qs us w ≡ Some v
    grows [] vs us w v stay h = h
    grows (q ∷ qs) [] us w v stay h = absurd (none_is v h)
    grows (q ∷ qs) (x ∷ xs) [] w v stay h = by (same_source q w) h (grows qs xs [] w v (λ k z at. stay (suc k) z at))
      where
        by : (b : Bool) → (if b then x else value_at qs xs w) ≡ Some v → (value_at qs xs w ≡ Some v → value_at qs [] w ≡ Some v) → value_at (q ∷ qs) [] w ≡ Some v
        by true g rest = absurd (none_is (Some v) (stay 0 v (ap Some g)))
        by false g rest = absurd (none_is v (sym (nothing_at qs w) ∙ rest g))
    grows (q ∷ qs) (x ∷ xs) (y ∷ ys) w v stay h = by (same_source q w) h (grows qs xs ys w v (λ k z at. stay (suc k) z at))
      where
        by : (b : Bool) → (if b then x else value_at qs xs w) ≡ Some v → (value_at qs xs w ≡ Some v → value_at qs ys w ≡ Some v) → (if b then y else value_at qs ys w) ≡ Some v
        by true g rest = some_is y (Some v) (stay 0 v (ap Some g))
        by false g rest = rest g

module _ (p : Program) where
  -- a value of an optional type, where that can be written
  abbrev pub IsFine : Option Ty → Value → Type 0
  IsFine o v = (t : Ty) → o ≡ Some t → IsSpelled t → IsTypedValue p t v

  -- at least as many values as types
  abbrev pub AreFine : List (Option Ty) → List Value → Type 0
  AreFine [] vs = Unit {0}
  AreFine (o ∷ os) [] = ⊥
  AreFine (o ∷ os) (v ∷ vs) = IsFine o v × AreFine os vs

  pub are_fine : (ts : List Ty) (vs : List Value) → AreTyped p ts vs → AreFine (map Some ts) vs
  are_fine [] vs are = tt
  are_fine (t ∷ ts) [] are = absurd are
  are_fine (t ∷ ts) (v ∷ vs) are = ((λ u same s. subst (λ x. IsTypedValue p x v) (some_is t u same) are.0), are_fine ts vs are.1)

  module _ (types : List ℕ → Option Ty) (r : Reader) (reads : IsTypedReader p types r) where
    named_value : (name : List ℕ) (t : Ty) → is_some (r name) ≡ true → types name ≡ Some t → IsTypedValue p t (or_nothing (r name))
    named_value name t has is = by (r name) refl has
      where
        by : (o : Option Value) → r name ≡ o → is_some o ≡ true → IsTypedValue p t (or_nothing o)
        by None at h = absurd (refute h)
        by (Some v) at h = reads name v t at is

  module _ (types : Types) (d : ℕ) (r : Reader) (reads : IsTypedReader p (types d) r) where
    -- the value at a wire of a known type
    pub value_typed : (w : Wire) (t : Ty) → has_value r w ≡ true → wire_type types d w ≡ Some t → IsTypedValue p t (value_on r w)
    value_typed None t has is = absurd (none_is t is)
    value_typed (Some name) t has is = named_value (types d) r reads name t has is

    pub value_fine : (w : Wire) → has_value r w ≡ true → IsFine (wire_type types d w) (value_on r w)
    value_fine w has t is s = value_typed w t has is

    pub values_typed : (ws : List Wire) (ts : List Ty) → list_all (has_value r) ws ≡ true → wire_types types d ws ≡ Some ts → AreTyped p ts (map (value_on r) ws)
    values_typed [] ts has is = subst (λ us. AreTyped p us []) (some_is [] ts is) tt
    values_typed (w ∷ ws) ts has is =
        by (wire_type types d w) (wire_types types d ws) refl refl is
        (values_typed ws) (and_left (has_value r w) (list_all (has_value r) ws) has) (and_right (has_value r w) (list_all (has_value r) ws) has)
      where
        by : (o : Option Ty) (os : Option (List Ty)) → wire_type types d w ≡ o → wire_types types d ws ≡ os → both_types o os ≡ Some ts
            → ((us : List Ty) → list_all (has_value r) ws ≡ true → wire_types types d ws ≡ Some us → AreTyped p us (map (value_on r) ws))
            → has_value r w ≡ true → list_all (has_value r) ws ≡ true → AreTyped p ts (map (value_on r) (w ∷ ws))
        by None os one more h rest first_has rest_has = absurd (none_is ts h)
        by (Some t) None one more h rest first_has rest_has = absurd (none_is ts h)
        by (Some t) (Some us) one more h rest first_has rest_has =
            subst (λ xs. AreTyped p xs (map (value_on r) (w ∷ ws))) (some_is (t ∷ us) ts h) (value_typed w t first_has one, rest us rest_has more)

  -- ---- what is given

  -- values that are given to names are of the names' types, in whatever diagram
  abbrev pub IsTypedGiven : FlatVi → Given → Type 0
  IsTypedGiven vi gs =
      (d : ℕ) (name : List ℕ) (w : WireSource) (v : Value) (t : Ty) → Among (w, v) gs → source_of vi.ports d name ≡ Some w → vi.types d name ≡ Some t → IsTypedValue p t v

  -- each name that has its source at one of some places is given a value
  abbrev pub CoversPlaces : FlatVi → List WireSource → Given → Type 0
  CoversPlaces vi ws gs =
      (d : ℕ) (name : List ℕ) (w : WireSource) → Among w ws → source_of vi.ports d name ≡ Some w → is_some (value_given gs w) ≡ true

  pub record GivesAt (vi : FlatVi) (ws : List WireSource) (gs : Given) : Type 0 where
    pub typed : IsTypedGiven vi gs
    pub covers : CoversPlaces vi ws gs

  pub gives_none : (vi : FlatVi) → GivesAt vi [] []
  gives_none vi = record { typed = λ d name w v t at is type. absurd (no_place (w, v) at); covers = λ d name w at is. absurd (no_place w at) }

  given_left : (gs hs : Given) (w : WireSource) → is_some (value_given gs w) ≡ true → is_some (value_given (gs ++ hs) w) ≡ true
  given_left [] hs w h = absurd (refute h)
  given_left (g ∷ gs) hs w h = by (same_source g.0 w) h (given_left gs hs w)
    where
      by : (b : Bool) → is_some (if b then Some g.1 else value_given gs w) ≡ true → (is_some (value_given gs w) ≡ true → is_some (value_given (gs ++ hs) w) ≡ true)
          → is_some (if b then Some g.1 else value_given (gs ++ hs) w) ≡ true
      by true g rest = refl
      by false g rest = rest g

  given_right : (gs hs : Given) (w : WireSource) → is_some (value_given hs w) ≡ true → is_some (value_given (gs ++ hs) w) ≡ true
  given_right [] hs w h = h
  given_right (g ∷ gs) hs w h = by (same_source g.0 w) (given_right gs hs w h)
    where
      by : (b : Bool) → is_some (value_given (gs ++ hs) w) ≡ true → is_some (if b then Some g.1 else value_given (gs ++ hs) w) ≡ true
      by true rest = refl
      by false rest = rest

  pub gives_both : (vi : FlatVi) (ws us : List WireSource) (gs hs : Given) → GivesAt vi ws gs → GivesAt vi us hs → GivesAt vi (ws ++ us) (gs ++ hs)
  gives_both vi ws us gs hs one two = record {
    typed = λ d name w v t at is type. ⊎_elim (λ l. one.typed d name w v t l is type) (λ r. two.typed d name w v t r is type) (among_append (w, v) gs hs at);
    covers = λ d name w at is. ⊎_elim (λ l. given_left gs hs w (one.covers d name w l is)) (λ r. given_right gs hs w (two.covers d name w r is)) (among_append w ws us at);
  }

  -- values at places whose names have these types
  module _ (vi : FlatVi) (spelled : (d : ℕ) (name : List ℕ) (t : Ty) → vi.types d name ≡ Some t → IsSpelled t) where
    each : (ws : List WireSource) (os : List (Option Ty)) (vs : List Value) → HaveTypes vi ws os → AreFine os vs → IsTypedGiven vi (paired ws vs)
    each [] os vs have fine d name w v t at is type = absurd (no_place (w, v) at)
    each (u ∷ ws) os [] have fine d name w v t at is type = absurd (no_place (w, v) at)
    each (u ∷ ws) [] (x ∷ vs) have fine d name w v t at is type =
        ⊎_elim (λ same. absurd (have.0 d name (is ∙ ap (λ g. Some g.0) (sym same)))) (λ l. each ws [] vs have.1 tt d name w v t l is type)
        (among_cases (w, v) (u, x) (paired ws vs) at)
    each (u ∷ ws) (o ∷ os) (x ∷ vs) have fine d name w v t at is type =
        ⊎_elim
        (λ same.
        subst (IsTypedValue p t) (ap (λ g. g.1) same)
        (fine.0 t (sym (have.0 d name (is ∙ ap (λ g. Some g.0) (sym same))) ∙ type) (spelled d name t type)))
        (λ l. each ws os vs have.1 fine.1 d name w v t l is type)
        (among_cases (w, v) (u, x) (paired ws vs) at)

    covers_head : (u : WireSource) (x : Value) (gs : Given) (w : WireSource) → u ≡ w → is_some (value_given ((u, x) ∷ gs) w) ≡ true
    covers_head u x gs w same = ap (λ b. is_some (if b then Some x else value_given gs w)) (ap (λ y. same_source y w) same ∙ same_source_itself w)

    covers_tail : (u : WireSource) (x : Value) (gs : Given) (w : WireSource) → is_some (value_given gs w) ≡ true → is_some (value_given ((u, x) ∷ gs) w) ≡ true
    covers_tail u x gs w has = by (same_source u w)
      where
        by : (b : Bool) → is_some (if b then Some x else value_given gs w) ≡ true
        by true = refl
        by false = has

    covers_all : (ws : List WireSource) (os : List (Option Ty)) (vs : List Value) → HaveTypes vi ws os → AreFine os vs → CoversPlaces vi ws (paired ws vs)
    covers_all [] os vs have fine d name w at is = absurd (no_place w at)
    covers_all (u ∷ ws) [] [] have fine d name w at is =
        ⊎_elim (λ same. absurd (have.0 d name (is ∙ ap Some (sym same)))) (λ l. absurd (unnamed ws have.1 l)) (among_cases w u ws at)
      where
        unnamed : (ws : List WireSource) → HaveTypes vi ws [] → Among w ws → ⊥
        unnamed [] have at = no_place w at
        unnamed (y ∷ ys) have at = ⊎_elim (λ same. have.0 d name (is ∙ ap Some (sym same))) (λ l. unnamed ys have.1 l) (among_cases w y ys at)
    covers_all (u ∷ ws) (o ∷ os) [] have fine d name w at is = absurd fine
    covers_all (u ∷ ws) [] (x ∷ vs) have fine d name w at is =
        ⊎_elim (λ same. covers_head u x (paired ws vs) w same) (λ l. covers_tail u x (paired ws vs) w (covers_all ws [] vs have.1 tt d name w l is)) (among_cases w u ws at)
    covers_all (u ∷ ws) (o ∷ os) (x ∷ vs) have fine d name w at is =
        ⊎_elim (λ same. covers_head u x (paired ws vs) w same) (λ l. covers_tail u x (paired ws vs) w (covers_all ws os vs have.1 fine.1 d name w l is)) (among_cases w u ws at)

    pub gives_paired : (ws : List WireSource) (os : List (Option Ty)) (vs : List Value) → HaveTypes vi ws os → AreFine os vs → GivesAt vi ws (paired ws vs)
    gives_paired ws os vs have fine = record { typed = each ws os vs have fine; covers = covers_all ws os vs have fine }
