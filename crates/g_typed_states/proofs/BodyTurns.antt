-- A body in place is worked out: after as many turns as it has steps each of its names has a value, and all values are typed.
use Rattle.std.proofs.Common.{◌≡◌, ◌⊎◌, inl, inr, ⊎_elim, Bool, true, false, ◌&&◌, ℕ, zero, suc, ◌+◌, List, [], ◌∷◌, ◌++◌, length, Option, Some, None, refl, ap, sym, ◌∙◌, subst}
use Rattle.std.specs.Prelude.{nat_lt, is_some, if◌then◌else◌}
use Rattle.std.specs.List.{list_all}
use Rattle.std.specs.Option.{option_map, option_and_then, option_map_or}
use Rattle.g_types.specs.declared.ty.Ty.{Ty}
use Rattle.g_values.specs.declared.value.Value.{Value}
use Rattle.g_values.specs.Spelled.{IsSpelled}
use Rattle.g_diagram.specs.declared.node.Tunnel.{Tunnel}
use Rattle.g_diagram.specs.Lines.{Wire, Entry}
use Rattle.g_diagram.specs.Operands.{Inside}
use Rattle.g_border.specs.declared.place.WireSource.{WireSource}
use Rattle.g_border.specs.Readers.{Given, has_value, value_given, same_source, source_of}
use Rattle.g_border.specs.Bodies.{Readers, Step, steps_of, inside_of, readers, is_known, next_step, turns, body_reader}
use Rattle.g_frames.specs.Program.{FlatVi, Program}
use Rattle.g_frames.proofs.RunLemmas.{refute, some_is}
use Rattle.g_typed_states.specs.Places.{Among, first, later, lines_places}
use Rattle.g_typed_states.specs.Bodies.{BodyStep, steps_in, Feeds, Comes, comes, IsFed, IsWorkedOut}
use Rattle.g_typed_states.specs.Accepted.{AcceptsKind, IsAcceptedVi}
use Rattle.g_typed_states.specs.Typed.{IsTypedValue, IsFilled}
use Rattle.g_typed_states.proofs.Lists.{none_is, is_there, no_place, no_suc, one_less, among_cases, among_head, among_append, among_filter}
use Rattle.g_typed_states.proofs.Wires.{same_source_is, IsTypedGiven, CoversPlaces, GivesAt}
use Rattle.g_typed_states.proofs.LineValues.{IsWhole}
use Rattle.g_typed_states.proofs.BodySteps.{Known, ReadersTyped, IsStep, AreSteps, steps_are}

given_among : (gs : Given) (w : WireSource) (v : Value) → value_given gs w ≡ Some v → Among (w, v) gs
given_among [] w v h = absurd (none_is v h)
given_among (g ∷ gs) w v h = by (same_source g.0 w) refl h (given_among gs w v)
  where
    by : (b : Bool) → same_source g.0 w ≡ b → (if b then Some g.1 else value_given gs w) ≡ Some v → (value_given gs w ≡ Some v → Among (w, v) gs) → Among (w, v) (g ∷ gs)
    by true same k rest = among_head (w, v) g gs (ap (λ a. (a, g.1)) (same_source_is g.0 w same) ∙ ap (λ b. (w, b)) (some_is g.1 v k))
    by false same k rest = later (rest k)

given_left : (gs hs : Given) (w : WireSource) → is_some (value_given gs w) ≡ true → is_some (value_given (gs ++ hs) w) ≡ true
given_left [] hs w h = absurd (refute h)
given_left (g ∷ gs) hs w h = by (same_source g.0 w) h (given_left gs hs w)
  where
    by : (b : Bool) → is_some (if b then Some g.1 else value_given gs w) ≡ true → (is_some (value_given gs w) ≡ true → is_some (value_given (gs ++ hs) w) ≡ true)
        → is_some (if b then Some g.1 else value_given (gs ++ hs) w) ≡ true
    by true g rest = refl
    by false g rest = rest g

given_right : (gs hs : Given) (w : WireSource) → is_some (value_given hs w) ≡ true → is_some (value_given (gs ++ hs) w) ≡ true
given_right [] hs w h = h
given_right (g ∷ gs) hs w h = by (same_source g.0 w) (given_right gs hs w h)
  where
    by : (b : Bool) → is_some (value_given (gs ++ hs) w) ≡ true → is_some (if b then Some g.1 else value_given (gs ++ hs) w) ≡ true
    by true rest = refl
    by false rest = rest

not_all : (R : Readers) (ws : List (ℕ × Wire)) → list_all (λ w. has_value (R w.0) w.1) ws ≡ false → (w : ℕ × Wire) × (Among w ws × (has_value (R w.0) w.1 ≡ false))
not_all R [] h = absurd (refute (sym h))
not_all R (w ∷ ws) h = by (has_value (R w.0) w.1) refl h (not_all R ws)
  where
    by : (b : Bool) → has_value (R w.0) w.1 ≡ b → (b && list_all (λ w. has_value (R w.0) w.1) ws) ≡ false
        → (list_all (λ w. has_value (R w.0) w.1) ws ≡ false → (w : ℕ × Wire) × (Among w ws × (has_value (R w.0) w.1 ≡ false)))
        → (x : ℕ × Wire) × (Among x (w ∷ ws) × (has_value (R x.0) x.1 ≡ false))
    by true is g rest = let x = rest g in (x.0, (later x.1.0, x.1.1))
    by false is g rest = (w, (first, is))

no_true : true ≡ false → ⊥
no_true h = refute (sym h)

module _ (p : Program) (vi : FlatVi) (spelled : (d : ℕ) (name : List ℕ) (t : Ty) → vi.types d name ≡ Some t → IsSpelled t) where
  -- ---- readers

  -- what has a typed value is read so
  pub readers_typed : (known : Given) → IsTypedGiven p vi known → ReadersTyped p vi spelled (readers vi.ports known)
  readers_typed known typed d name v t h type = by (source_of vi.ports d name) refl h
    where
      by : (o : Option WireSource) → source_of vi.ports d name ≡ o → option_and_then (value_given known) o ≡ Some v → IsTypedValue p t v
      by None is g = absurd (none_is v g)
      by (Some w) is g = typed d name w v t (given_among known w v g) is type

  read_known : (known : Given) (d : ℕ) (name : List ℕ) (w : WireSource) → source_of vi.ports d name ≡ Some w → is_some (value_given known w) ≡ true → is_some (readers vi.ports known d name) ≡ true
  read_known known d name w is has = ap (λ o. is_some (option_and_then (value_given known) o)) is ∙ has

  typed_append : (gs hs : Given) → IsTypedGiven p vi gs → IsTypedGiven p vi hs → IsTypedGiven p vi (gs ++ hs)
  typed_append gs hs one two d name w v t at is type = ⊎_elim (λ l. one d name w v t l is type) (λ r. two d name w v t r is type) (among_append (w, v) gs hs at)

  covers_left : (ws : List WireSource) (gs hs : Given) → CoversPlaces p vi ws gs → CoversPlaces p vi ws (gs ++ hs)
  covers_left ws gs hs covers d name w at is = given_left gs hs w (covers d name w at is)

  covers_right : (ws : List WireSource) (gs hs : Given) → CoversPlaces p vi ws hs → CoversPlaces p vi ws (gs ++ hs)
  covers_right ws gs hs covers d name w at is = given_right gs hs w (covers d name w at is)

  -- ---- the step that is taken

  pub record IsTaken (bs : List BodyStep) (xs : List Step) (R : Readers) (t : Step × List Step) : Type 0 where
    pub step : BodyStep
    pub rest : List BodyStep
    pub is : IsStep p vi spelled step t.0
    pub known : Known R step.reads
    pub steps : AreSteps p vi spelled rest t.1
    pub others : (x : BodyStep) → Among x bs → (step ≡ x) ⊎ Among x rest
    pub long : length xs ≡ suc (length t.1)

  next_taken : (R : Readers) (bs : List BodyStep) (xs : List Step) (t : Step × List Step) → AreSteps p vi spelled bs xs → next_step R xs ≡ Some t → IsTaken bs xs R t
  next_taken R [] [] t are h = absurd (none_is t h)
  next_taken R [] (x ∷ xs) t are h = absurd are
  next_taken R (b ∷ bs) [] t are h = absurd are
  next_taken R (b ∷ bs) (x ∷ xs) t are h = by (is_known R x) refl (λ u is. next_taken R bs xs u are.1 is) h
    where
      passed : (u : Step × List Step) → IsTaken bs xs R u → IsTaken (b ∷ bs) (x ∷ xs) R (u.0, x ∷ u.1)
      passed u k = record {
        step = k.step;
        rest = b ∷ k.rest;
        is = k.is;
        known = k.known;
        steps = (are.0, k.steps);
        others = λ y at. ⊎_elim (λ same. inr (among_head y b k.rest same)) (λ l. ⊎_elim (λ e. inl e) (λ r. inr (later r)) (k.others y l)) (among_cases y b bs at);
        long = ap suc k.long;
      }

      beyond : (o : Option (Step × List Step)) → next_step R xs ≡ o → ((u : Step × List Step) → next_step R xs ≡ Some u → IsTaken bs xs R u) → option_map (λ (u : Step × List Step). (u.0, x ∷ u.1)) o ≡ Some t → IsTaken (b ∷ bs) (x ∷ xs) R t
      beyond None is rest g = absurd (none_is t g)
      beyond (Some u) is rest g = subst (IsTaken (b ∷ bs) (x ∷ xs) R) (some_is (u.0, x ∷ u.1) t g) (passed u (rest u is))

      here : is_known R x ≡ true → IsTaken (b ∷ bs) (x ∷ xs) R (x, xs)
      here known = record {
        step = b;
        rest = bs;
        is = are.0;
        known = subst (Known R) are.0.reads_are known;
        steps = are.1;
        others = λ y at. among_cases y b bs at;
        long = refl;
      }

      by : (c : Bool) → is_known R x ≡ c → ((u : Step × List Step) → next_step R xs ≡ Some u → IsTaken bs xs R u) → (if c then Some (x, xs) else option_map (λ (u : Step × List Step). (u.0, x ∷ u.1)) (next_step R xs)) ≡ Some t → IsTaken (b ∷ bs) (x ∷ xs) R t
      by true is rest g = subst (IsTaken (b ∷ bs) (x ∷ xs) R) (some_is (x, xs) t g) (here is)
      by false is rest g = beyond (next_step R xs) refl rest g

  -- where a step is known some step is taken
  known_next : (R : Readers) (bs : List BodyStep) (xs : List Step) (b : BodyStep) → AreSteps p vi spelled bs xs → Among b bs → Known R b.reads → is_some (next_step R xs) ≡ true
  known_next R [] xs b are at known = absurd (no_place b at)
  known_next R (c ∷ bs) [] b are at known = absurd are
  known_next R (c ∷ bs) (x ∷ xs) b are at known = by (is_known R x) refl (λ l. known_next R bs xs b are.1 l known)
    where
      mapped : (o : Option (Step × List Step)) → is_some o ≡ true → is_some {T = Step × List Step} (option_map (λ (u : Step × List Step). (u.0, x ∷ u.1)) o) ≡ true
      mapped None h = absurd (refute h)
      mapped (Some u) h = refl

      there : is_known R x ≡ false → Among b bs
      there not =
          ⊎_elim
          (λ same. absurd (refute (sym not ∙ subst (Known R) (sym are.0.reads_are) (subst (λ (y : BodyStep). Known R y.reads) (sym same) known))))
          (λ l. l) (among_cases b c bs at)

      by : (d : Bool) → is_known R x ≡ d → (Among b bs → is_some (next_step R xs) ≡ true) → is_some {T = Step × List Step} (if d then Some (x, xs) else option_map (λ (u : Step × List Step). (u.0, x ∷ u.1)) (next_step R xs)) ≡ true
      by true is rest = refl
      by false is rest = mapped (next_step R xs) (rest (there is))

  -- ---- turns

  pub turns_typed : (n : ℕ) (bs : List BodyStep) (xs : List Step) (known : Given) → AreSteps p vi spelled bs xs → IsTypedGiven p vi known → IsTypedGiven p vi (turns vi.ports n xs known)
  unfolding turns
  turns_typed zero bs xs known are typed = typed
  turns_typed (suc n) bs xs known are typed =
      by (next_step (readers vi.ports known) xs) refl
      (λ t is.
      let R = readers vi.ports known in
      let k = next_taken R bs xs t are is in
      turns_typed n k.rest t.1 (known ++ t.0.gives R) k.steps (typed_append known (t.0.gives R) typed (k.is.gives_at R (readers_typed known typed) k.known).typed))
    where
      by : (o : Option (Step × List Step)) → next_step (readers vi.ports known) xs ≡ o
          → ((t : Step × List Step) → next_step (readers vi.ports known) xs ≡ Some t → IsTypedGiven p vi (turns vi.ports n t.1 (known ++ t.0.gives (readers vi.ports known))))
          → IsTypedGiven p vi (option_map_or (λ (t : Step × List Step). turns vi.ports n t.1 (known ++ t.0.gives (readers vi.ports known))) o known)
      by None is rest = typed
      by (Some t) is rest = rest t is

  turns_keep : (ws : List WireSource) (n : ℕ) (xs : List Step) (known : Given) → CoversPlaces p vi ws known → CoversPlaces p vi ws (turns vi.ports n xs known)
  unfolding turns
  turns_keep ws zero xs known covers = covers
  turns_keep ws (suc n) xs known covers =
      by (next_step (readers vi.ports known) xs)
      (λ t. turns_keep ws n t.1 (known ++ t.0.gives (readers vi.ports known)) (covers_left ws known (t.0.gives (readers vi.ports known)) covers))
    where
      by : (o : Option (Step × List Step)) → ((t : Step × List Step) → CoversPlaces p vi ws (turns vi.ports n t.1 (known ++ t.0.gives (readers vi.ports known))))
          → CoversPlaces p vi ws (option_map_or (λ (t : Step × List Step). turns vi.ports n t.1 (known ++ t.0.gives (readers vi.ports known))) o known)
      by None rest = covers
      by (Some t) rest = rest t

  module _ (ins : List WireSource) (all : List BodyStep)
      (fed : (b : BodyStep) → Among b all → (d : ℕ) (name : List ℕ) → Among (d, Some name) b.reads → IsFed vi ins all d name)
      (in_turn : (b : BodyStep) → Among b all → Comes vi all b) where
    -- each step is left or has given
    abbrev AllLeftOrGiven : List BodyStep → Given → Type 0
    AllLeftOrGiven rest known = (b : BodyStep) → Among b all → Among b rest ⊎ CoversPlaces p vi b.places known

    module _ (known : Given) (inside : CoversPlaces p vi ins known) (rest : List BodyStep) (xs : List Step) (are : AreSteps p vi spelled rest xs) (left : AllLeftOrGiven rest known) where
      abbrev R : Readers
      R = readers vi.ports known

      -- some step can be taken
      some_next : (b : BodyStep) → Comes vi all b → Among b all → Among b rest → is_some (next_step R xs) ≡ true
      some_next b (comes c f) stands at =
          by (list_all (λ w. has_value (R w.0) w.1) c.reads) refl (λ t there feeds waits. some_next t (f t there feeds) there waits)
        where
          read : ((t : BodyStep) → Among t all → Feeds vi t c → Among t rest → is_some (next_step R xs) ≡ true) → (d : ℕ) (name : List ℕ) → Among (d, Some name) c.reads
              → is_some (R d name) ≡ false → is_some (next_step R xs) ≡ true
          read earlier d name place lacks =
              let source = fed c stands d name place in
              ⊎_elim
              (λ inner. absurd (no_true (sym (read_known known d name source.source source.is (inside d name source.source inner source.is)) ∙ lacks)))
              (λ by_step.
              ⊎_elim
              (λ waits.
              earlier by_step.step by_step.stands (record { diagram = d; name = name; source = source.source; reads = place; is = source.is; gives = by_step.gives }) waits)
              (λ covers. absurd (no_true (sym (read_known known d name source.source source.is (covers d name source.source by_step.gives source.is)) ∙ lacks)))
              (left by_step.step by_step.stands))
              source.fed

          by_wire : ((t : BodyStep) → Among t all → Feeds vi t c → Among t rest → is_some (next_step R xs) ≡ true) → (d : ℕ) (x : Wire) → Among (d, x) c.reads → has_value (R d) x ≡ false
              → is_some (next_step R xs) ≡ true
          by_wire earlier d None place lacks = absurd (no_true lacks)
          by_wire earlier d (Some name) place lacks = read earlier d name place lacks

          by : (k : Bool) → list_all (λ w. has_value (R w.0) w.1) c.reads ≡ k → ((t : BodyStep) → Among t all → Feeds vi t c → Among t rest → is_some (next_step R xs) ≡ true)
              → is_some (next_step R xs) ≡ true
          by true is earlier = known_next R rest xs c are at is
          by false is earlier = let w = not_all R c.reads is in by_wire earlier w.0.0 w.0.1 w.1.0 w.1.1

    pub turns_all : (n : ℕ) (rest : List BodyStep) (xs : List Step) (known : Given) → n ≡ length xs → AreSteps p vi spelled rest xs → IsTypedGiven p vi known → CoversPlaces p vi ins known
        → AllLeftOrGiven rest known → (b : BodyStep) → Among b all → CoversPlaces p vi b.places (turns vi.ports n xs known)
    unfolding turns
    turns_all zero [] [] known many are typed inside left b at = ⊎_elim (λ l. absurd (no_place b l)) (λ covers. covers) (left b at)
    turns_all zero [] (x ∷ xs) known many are typed inside left b at = absurd are
    turns_all zero (c ∷ rest) [] known many are typed inside left b at = absurd are
    turns_all zero (c ∷ rest) (x ∷ xs) known many are typed inside left b at = absurd (no_suc (length xs) many)
    turns_all (suc n) rest [] known many are typed inside left b at = absurd (no_suc n (sym many))
    turns_all (suc n) [] (x ∷ xs) known many are typed inside left b at = absurd are
    turns_all (suc n) (c ∷ rest) (x ∷ xs) known many are typed inside left b at =
        ⊎_elim
        (λ waits.
        goes (next_step (readers vi.ports known) (x ∷ xs)) refl (some_next known inside (c ∷ rest) (x ∷ xs) are left b (in_turn b at) at waits)
        (λ t is.
        let R = readers vi.ports known in
        let k = next_taken R (c ∷ rest) (x ∷ xs) t are is in
        let gave = k.is.gives_at R (readers_typed known typed) k.known in
        let more = t.0.gives R in
        turns_all n k.rest t.1 (known ++ more) (one_less n (length t.1) (many ∙ k.long)) k.steps (typed_append known more typed gave.typed) (covers_left ins known more inside)
        (λ y stands.
        ⊎_elim
        (λ l. ⊎_elim (λ same. inr (covers_right y.places known more (subst (λ (z : BodyStep). CoversPlaces p vi z.places more) same gave.covers))) (λ r. inl r) (k.others y l))
        (λ covers. inr (covers_left y.places known more covers)) (left y stands))
        b at))
        (λ covers. turns_keep b.places (suc n) (x ∷ xs) known covers)
        (left b at)
      where
        goes : (o : Option (Step × List Step)) → next_step (readers vi.ports known) (x ∷ xs) ≡ o → is_some o ≡ true
            → ((t : Step × List Step) → next_step (readers vi.ports known) (x ∷ xs) ≡ Some t → CoversPlaces p vi b.places (turns vi.ports n t.1 (known ++ t.0.gives (readers vi.ports known))))
            → CoversPlaces p vi b.places (option_map_or (λ (t : Step × List Step). turns vi.ports n t.1 (known ++ t.0.gives (readers vi.ports known))) o known)
        goes None is some rest_goes = absurd (refute some)
        goes (Some t) is some rest_goes = rest_goes t is

  -- ---- a whole body

  module _ (n : Entry) (lines : List Tunnel) (body finish : ℕ) (accepted : IsAcceptedVi p vi) (worked_out : IsWorkedOut vi n lines body finish) where
    nodes_accepted : (m : Entry) → Among m (inside_of body finish vi.entries) → AcceptsKind p vi m m.kind
    nodes_accepted m at = accepted.nodes m (among_filter (λ e. nat_lt body e.line && nat_lt e.line finish) m vi.entries at)

    body_steps_are : AreSteps p vi spelled (steps_in vi body finish) (steps_of vi.types (inside_of body finish vi.entries))
    body_steps_are = steps_are p vi spelled (inside_of body finish vi.entries) nodes_accepted worked_out.unreferred

    -- what is given after any number of turns
    pub given_typed : (many : ℕ) (inside : Given) → IsTypedGiven p vi inside → IsTypedGiven p vi (turns vi.ports many (steps_of vi.types (inside_of body finish vi.entries)) inside)
    given_typed many inside typed = turns_typed many (steps_in vi body finish) (steps_of vi.types (inside_of body finish vi.entries)) inside body_steps_are typed

    pub body_whole : (inside : Given) → GivesAt p vi (lines_places Inside (n.line + 1) lines) inside
        → IsWhole p vi.types body (body_reader vi.ports vi.types vi.entries body finish inside)
    body_whole inside gives = record { typed = readers_typed known (given_typed many inside gives.typed) body; filled = filled }
      where
        steps : List Step
        steps = steps_of vi.types (inside_of body finish vi.entries)

        many : ℕ
        many = length (steps_of vi.types (inside_of body finish vi.entries))

        known : Given
        known = turns vi.ports (length (steps_of vi.types (inside_of body finish vi.entries))) (steps_of vi.types (inside_of body finish vi.entries)) inside

        from_line : CoversPlaces p vi (lines_places Inside (n.line + 1) lines) known
        from_line = turns_keep (lines_places Inside (n.line + 1) lines) many steps inside gives.covers

        from_step : (b : BodyStep) → Among b (steps_in vi body finish) → CoversPlaces p vi b.places known
        from_step =
            turns_all (lines_places Inside (n.line + 1) lines) (steps_in vi body finish) worked_out.fed worked_out.in_turn many (steps_in vi body finish) steps inside refl body_steps_are gives.typed
            gives.covers (λ b at. inl at)

        filled : IsFilled (vi.types body) (readers vi.ports known body)
        filled name t type =
            let w = is_there (source_of vi.ports body name) (accepted.sourced body name t type) in
            read_known known body name w.0 w.1
            (⊎_elim (λ inner. from_line body name w.0 inner w.1) (λ by_step. from_step by_step.step by_step.stands body name w.0 by_step.gives w.1) (worked_out.names name w.0 w.1))
