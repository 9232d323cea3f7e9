-- What is known of a VI of a hierarchy in which none of the rules is broken.
use Rattle.std.proofs.Common.{◌≡◌, inl, inr, ⊎_elim, ℕ, zero, suc, ◌+◌, ◌==◌, Bool, true, false, cond, not, ◌&&◌, ◌||◌, List, [], ◌∷◌, ◌++◌, map, filter, length, refl, ap, ◌∙◌, subst, arith}
use Rattle.std.proofs.lemmas.Option.{same_Some}
use Rattle.std.specs.Prelude.{Some, None, is_some, slice_get}
use Rattle.std.specs.List.{AllByRecursion, Contains, list_any, flat_map}
use Rattle.std.specs.Ordering.{is_eq}
use Rattle.std.specs.Str.{bytes_eq}
use Rattle.std.proofs.lemmas.Bool.{eqb-true, false≢true, or_cases, or_right, not-false}
use Rattle.std.proofs.lemmas.List.Elements.{Contains-append_left, Contains-append_right, recursion_from_All}
use Rattle.std.proofs.lemmas.List.Folds.{list_any-append}
use Rattle.std.proofs.lemmas.Slice.Eq.{bytes_eq-Decides}
use Rattle.g_diagram.specs.declared.place.Break.{Break}
use Rattle.g_diagram.specs.declared.place.Place.{Place}
use Rattle.g_diagram.specs.declared.panel.PanelItem.{PanelItem}
use Rattle.g_diagram.specs.declared.hierarchy.Vi.{Vi}
use Rattle.g_diagram.specs.declared.hierarchy.Hierarchy.{Hierarchy}
use Rattle.g_diagram.specs.Lines.{Wire, Entry, Kind, entries_of}
use Rattle.g_diagram.specs.Leads.{Leads}
use Rattle.g_diagram.specs.Ports.{Port, ports_of, has_wire, sources, consumers, are_joined, same_wire}
use Rattle.g_typing.specs.Types.{Types, place}
use Rattle.g_typing.specs.Rows.{entry_misses, rowless}
use Rattle.g_typing.specs.Typing.{IsTyping}
use Rattle.g_typing.specs.Literals.{mistaken}
use Rattle.g_typing.specs.Breaks.{broken, TypeBreak}
use Rattle.g_typing.proofs.Ready.{IsOf}
use Rattle.g_typing.proofs.Steps.{ok_at}
use Rattle.g_rules_lines.specs.Arity.{fits_arity, miscounted}
use Rattle.g_rules_lines.specs.Callees.{arities}
use Rattle.g_rules_lines.specs.CaseResults.{kind_ungiven, resultless}
use Rattle.g_rules_lines.specs.Lists.{Known, known_of, called_by, structured_by, lined_by}
use Rattle.g_rules_lines.specs.PanelObjects.{names_object, names_no_object, unlocated}
use Rattle.g_rules_lines.specs.RepeatedNames.{renamed_vis, renamed_items}
use Rattle.g_rules_lines.specs.Spots.{Spot, break, whole}
use Rattle.g_rules_lines.specs.CaseValues.{reselected}
use Rattle.g_rules_lines.specs.UnknownVis.{names_no_vi, uncalled, absent_main}
use Rattle.g_rules_breaks.specs.Breaks.{break_cmp, has_break}
use Rattle.g_rules_breaks.proofs.Ordered.{same_itself}
use Rattle.g_wires.specs.Breaks.{named_in, plain_in, each_from, plain_breaks, IsWiring}
use Rattle.g_wires.specs.MissingSources.{lacks_source, unsourced}
use Rattle.g_wires.specs.SecondSources.{repeated}
use Rattle.g_wires.specs.Spots.{spot}
use Rattle.g_wires.specs.UnusedSources.{unused}
use Rattle.g_wires.specs.Unwired.{is_missing, unwired}
use Rattle.g_infer_laws.specs.OwnLines.{has_own_lines, HasOwnLines}
use Rattle.g_wires.proofs.Found.{and_left, and_right}
use Rattle.g_infer_laws.proofs.Facts.{nil_left, nil_right, of_one}
use Rattle.g_infer_laws.proofs.Held.{PortsHold}
use Rattle.g_infer_laws.proofs.Fine.{NoneOf, none_left, none_right, kind_none, IsKindFine, AllFine, kind_fine}
use Rattle.g_infer_laws.proofs.Sources.{Sourced}

-- ---- breaks among some

abbrev pub NoBreak : List Break → Type 0
NoBreak bs = (b : Break) → has_break bs b ≡ true → ⊥

pub no_front : (xs ys : List Break) → NoBreak (xs ++ ys) → NoBreak xs
no_front xs ys none b has = none b (list_any-append (λ c. is_eq (break_cmp b c)) xs ys ∙ ap (λ v. v || has_break ys b) has)

pub no_back : (xs ys : List Break) → NoBreak (xs ++ ys) → NoBreak ys
no_back xs ys none b has = none b (list_any-append (λ c. is_eq (break_cmp b c)) xs ys ∙ or_right (has_break xs b) (has_break ys b) has)

-- where there are none of all VIs, there are none of the VI at number k, if they count from n
none_of_vi : (f : ℕ → Vi → List Break) (n m : ℕ) (vis : List Vi) (k : ℕ) (vi : Vi) → slice_get vis k ≡ Some vi → m ≡ n + k → NoBreak (each_from f n vis) → NoBreak (f m vi)
none_of_vi f n m [] k vi at same none = absurd (let no : None ≡ Some vi = at in cc)
none_of_vi f n m (v ∷ vis) zero vi at same none =
    let first : n ≡ m = omega (arith, same) in
    subst (λ (x : ℕ). NoBreak (f x vi)) first (subst (λ (y : Vi). NoBreak (f n y)) (same_Some v vi at) (no_front (f n v) (each_from f (n + 1) vis) none))
none_of_vi f n m (v ∷ vis) (suc k) vi at same none = none_of_vi f (n + 1) m vis k vi at (omega (arith, same)) (no_back (f n v) (each_from f (n + 1) vis) none)

pub none_told : (g : Spot → Break) (ss : List Spot) → NoBreak (map g ss) → ss ≡ []
none_told g [] none = refl
none_told g (s ∷ ss) none = absurd (none (g s) (ap (λ v. v || has_break (map g ss) (g s)) (same_itself (g s))))

-- where a rule tells of none of some items, each passes
pub none_kept : {A : Type 0} (at : A → Spot) (test : A → Bool) (xs : List A) → map at (filter test xs) ≡ [] → AllByRecursion (λ x. test x ≡ false) xs
none_kept at test [] e = tt
none_kept {A} at test (x ∷ xs) e = by (test x) refl e (none_kept at test xs)
  where
    by : (b : Bool) → test x ≡ b → map at (cond b (x ∷ filter test xs) (filter test xs)) ≡ [] → (map at (filter test xs) ≡ [] → AllByRecursion (λ y. test y ≡ false) xs)
        → AllByRecursion (λ y. test y ≡ false) (x ∷ xs)
    by true q e more = absurd (cc e)
    by false q e more = (q, more e)

pub none_flat : (f : Entry → List Spot) (es : List Entry) → flat_map f es ≡ [] → AllByRecursion (λ e. f e ≡ []) es
none_flat f [] h = tt
none_flat f (e ∷ es) h = (nil_left (f e) (flat_map f es) h, none_flat f es (nil_right (f e) (flat_map f es) h))

-- ---- consumers

-- the name of a consumer is given, and one that has none is free
abbrev pub Fed : (ℕ → List ℕ → Type 0) → (is_source is_free : Bool) → (diagram : ℕ) → Wire → Type 0
Fed G true free d w = Unit {0}
Fed G false free d None = free ≡ true
Fed G false free d (Some name) = G d name

module _ (G : ℕ → List ℕ → Type 0) where
  at_source : (free : Bool) (d e : ℕ) (w : Wire) (n : List ℕ) → ((d == e) && same_wire w (Some n)) ≡ true → Sourced G true free d w → G e n
  at_source free d e None n same g = absurd (false≢true (and_right (d == e) false same))
  at_source free d e (Some m) n same g =
      let P : ℕ → Type 0 = λ x. G x n in
      subst P (eqb-true d e (and_left (d == e) (bytes_eq m n) same)) (subst (G d) ((bytes_eq-Decides m n).0 (and_right (d == e) (bytes_eq m n) same)) g)

  some_source : (c : Port) (n : List ℕ) (ps : List Port) → c.wire ≡ Some n → PortsHold (Sourced G) ps → list_any (λ s. are_joined s c) (sources ps) ≡ true → G c.diagram n
  some_source c n [] wired h any = absurd (false≢true any)
  some_source c n (p ∷ ps) wired h any = by p.is_source h.0 any (some_source c n ps wired h.1)
    where
      by : (b : Bool) → Sourced G b p.is_free p.diagram p.wire → list_any (λ s. are_joined s c) (cond b (p ∷ sources ps) (sources ps)) ≡ true
          → (list_any (λ s. are_joined s c) (sources ps) ≡ true → G c.diagram n) → G c.diagram n
      by true g any later =
          ⊎_elim
          (λ here. at_source p.is_free p.diagram c.diagram p.wire n (subst (λ (w : Wire). ((p.diagram == c.diagram) && same_wire p.wire w) ≡ true) wired here) g)
          later
          (or_cases (are_joined p c) (list_any (λ s. are_joined s c) (sources ps)) any)
      by false g any later = later any

  one_fed : (all : List Port) (c : Port) (w : Wire) → PortsHold (Sourced G) all → c.wire ≡ w → (is_some w && not (list_any (λ s. are_joined s c) (sources all))) ≡ false
      → (not (is_some w) && not c.is_free) ≡ false → Fed G false c.is_free c.diagram w
  one_fed all c None sourced same joined free = not-false c.is_free free
  one_fed all c (Some n) sourced same joined free = some_source c n all same sourced (not-false (list_any (λ s. are_joined s c) (sources all)) joined)

  all_fed : (all ps : List Port) → PortsHold (Sourced G) all → AllByRecursion (λ c. lacks_source all c ≡ false) (consumers ps) → AllByRecursion (λ c. is_missing c ≡ false) (consumers ps)
      → PortsHold (Fed G) ps
  all_fed all [] sourced joined wired = tt
  all_fed all (p ∷ ps) sourced joined wired = by p.is_source joined wired (all_fed all ps sourced)
    where
      by : (b : Bool) → AllByRecursion (λ c. lacks_source all c ≡ false) (cond (not b) (p ∷ consumers ps) (consumers ps))
          → AllByRecursion (λ c. is_missing c ≡ false) (cond (not b) (p ∷ consumers ps) (consumers ps))
          → (AllByRecursion (λ c. lacks_source all c ≡ false) (consumers ps) → AllByRecursion (λ c. is_missing c ≡ false) (consumers ps) → PortsHold (Fed G) ps)
          → Fed G b p.is_free p.diagram p.wire × PortsHold (Fed G) ps
      by true j w more = (tt, more j w)
      by false j w more = (one_fed all p p.wire sourced refl j.0 w.0, more j.1 w.1)

-- ---- nodes

-- a node that breaks no rule
pub record IsRight (vis : List Vi) (panel : List PanelItem) (M : Types) (l d : ℕ) (k : Kind) : Type 0 where
  pub rows : ok_at M l d k ≡ true
  pub fine : IsKindFine M d k
  pub counted : fits_arity (arities vis) k ≡ true
  pub located : names_no_object (names_object panel) k ≡ false
  pub called : names_no_vi (arities vis) k ≡ false
  pub given : kind_ungiven l k ≡ []

module _ (h : Hierarchy) (main : List ℕ) (wiring : IsWiring h main []) (k : ℕ) (vi : Vi) (stands : slice_get h.vis k ≡ Some vi) where
  abbrev ps : List Port
  ps = ports_of h.vis vi

  abbrev es : List Entry
  es = entries_of vi

  abbrev known : Known
  known = known_of h.vis

  pub none_plain : NoBreak (plain_in (ports_of h.vis) known k vi)
  none_plain =
      none_of_vi (plain_in (ports_of h.vis) known) 0 k h.vis k vi stands (omega arith)
      (no_front (each_from (plain_in (ports_of h.vis) known) 0 h.vis) (renamed_vis h.vis)
      (no_front (plain_breaks (ports_of h.vis) known h.vis) (absent_main known.arities (length h.vis) main) (λ b has. false≢true (wiring.each b (inl has)))))

  pub none_named : NoBreak (named_in ps k)
  none_named = no_front (named_in ps k) (lined_by known k vi.panel es) none_plain

  pub none_lined : NoBreak (lined_by known k vi.panel es)
  none_lined = no_back (named_in ps k) (lined_by known k vi.panel es) none_plain

  pub none_called : NoBreak (called_by known.arities k vi.panel es)
  none_called = no_front (called_by known.arities k vi.panel es) (structured_by known.queues k es) none_lined

  -- each consumer is fed where each source is given
  pub consumers_fed : (G : ℕ → List ℕ → Type 0) → PortsHold (Sourced G) ps → PortsHold (Fed G) ps
  consumers_fed G sourced =
      all_fed G ps ps sourced
      (none_kept spot (lacks_source ps) (consumers ps) (none_told (break k 1) (unsourced ps) (no_front (map (break k 1) (unsourced ps)) _ none_named)))
      (none_kept spot is_missing (consumers ps)
      (none_told (break k 4) (unwired ps)
      (no_back (map (break k 3) (unused ps)) (map (break k 4) (unwired ps)) (no_back (map (break k 2) (repeated ps)) _ (no_back (map (break k 1) (unsourced ps)) _ none_named)))))

  -- no node leads to itself
  pub none_turns : (line : ℕ) → Leads (has_wire ps) line line → ⊥
  none_turns line leads =
      false≢true (wiring.each (break k 6 (record { line = line; operand = 0 })) (inr (record { vi = vi; stands = stands; leads = leads; whole = refl; rule = refl })))

  counted : AllByRecursion (λ e. not (fits_arity known.arities e.kind) ≡ false) es
  counted = none_kept whole (λ e. not (fits_arity known.arities e.kind)) es (none_told (break k 5) (miscounted known.arities es) (no_front (map (break k 5) (miscounted known.arities es)) _ none_called))

  pub none_named_so : NoBreak (map (break k 8) (unlocated (names_object vi.panel) es) ++ map (break k 9) (uncalled known.arities es))
  none_named_so = no_back (renamed_items k vi.panel) _ (no_back (map (break k 5) (miscounted known.arities es)) _ none_called)

  located : AllByRecursion (λ e. names_no_object (names_object vi.panel) e.kind ≡ false) es
  located =
      none_kept whole (λ e. names_no_object (names_object vi.panel) e.kind) es
      (none_told (break k 8) (unlocated (names_object vi.panel) es) (no_front (map (break k 8) (unlocated (names_object vi.panel) es)) (map (break k 9) (uncalled known.arities es)) none_named_so))

  called : AllByRecursion (λ e. names_no_vi known.arities e.kind ≡ false) es
  called =
      none_kept whole (λ e. names_no_vi known.arities e.kind) es
      (none_told (break k 9) (uncalled known.arities es) (no_back (map (break k 8) (unlocated (names_object vi.panel) es)) (map (break k 9) (uncalled known.arities es)) none_named_so))

  given : AllByRecursion (λ e. kind_ungiven e.line e.kind ≡ []) es
  given =
      none_flat (λ e. kind_ungiven e.line e.kind) es
      (none_told (break k 11) (resultless es)
      (no_front (map (break k 11) (resultless es)) _
      (no_back (map (break k 10) (reselected es)) _ (no_back (called_by known.arities k vi.panel es) (structured_by known.queues k es) none_lined))))

  module _ (unbroken : (b : Break) → TypeBreak h b → ⊥) (types : Types) (typing : IsTyping h.vis vi types) (own : HasOwnLines vi) where
    pub none_rowless : NoneOf k (rowless types k es)
    none_rowless l o is =
        unbroken (broken 16 (place k l o)) (record {
          vi = vi;
          stands = stands;
          types = types;
          typing = typing;
          is_broken = Contains-append_right (map (broken 15) (mistaken types k vi.panel es)) _ (broken 16 (place k l o))
              (Contains-append_left (map (broken 16) (rowless types k es)) _ (broken 16 (place k l o)) (mapped_in (rowless types k es) (place k l o) is));
        })
      where
        mapped_in : (xs : List Place) (p : Place) → Contains xs p → Contains (map (broken 16) xs) (broken 16 p)
        mapped_in [] p c = absurd (let less = c.1 in omega (arith, less))
        mapped_in (x ∷ xs) p (zero, less, is) = (0, omega arith, ap (broken 16) is)
        mapped_in (x ∷ xs) p (suc n, less, is) =
            let c = mapped_in xs p (n, omega (arith, less), is) in
            let below = c.1 in
            (suc c.0, omega (arith, below), c.2)

    rows : (ns : List Entry) → NoneOf k (rowless types k ns) → AllByRecursion (λ e. ok_at types e.line e.diagram e.kind ≡ true) ns
    rows [] none = tt
    rows (e ∷ ns) none = (
      kind_none types k e.line e.diagram e.kind (none_left k (entry_misses types k e) (rowless types k ns) none),
      rows ns (none_right k (entry_misses types k e) (rowless types k ns) none),
    )

    fine_each : (ns : List Entry) → AllByRecursion (λ e. ok_at types e.line e.diagram e.kind ≡ true) ns → AllByRecursion (λ e. has_own_lines e.kind ≡ true) ns → AllFine types ns
    fine_each [] ok own = tt
    fine_each (e ∷ ns) ok own = (kind_fine types e.line e.diagram e.kind own.0 ok.0, fine_each ns ok.1 own.1)

    own_each : AllByRecursion (λ e. has_own_lines e.kind ≡ true) es
    own_each = recursion_from_All (λ e. has_own_lines e.kind ≡ true) es own

    -- each structure's lines are fine
    pub all_fine : AllFine types es
    all_fine = fine_each es (rows es none_rowless) own_each

    -- each node is right
    pub right : (e : Entry) → IsOf e es → IsRight h.vis vi.panel types e.line e.diagram e.kind
    right e is =
        record {
          rows = of_one (λ e. ok_at types e.line e.diagram e.kind ≡ true) es (rows es none_rowless) e is;
          fine = of_one (λ e. IsKindFine types e.diagram e.kind) es all_fine e is;
          counted = not-false (fits_arity known.arities e.kind) (of_one (λ e. not (fits_arity known.arities e.kind) ≡ false) es counted e is);
          located = of_one (λ e. names_no_object (names_object vi.panel) e.kind ≡ false) es located e is;
          called = of_one (λ e. names_no_vi known.arities e.kind ≡ false) es called e is;
          given = of_one (λ e. kind_ungiven e.line e.kind ≡ []) es given e is;
        }
