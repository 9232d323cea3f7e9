-- What holds of a VI of a hierarchy in which nothing is broken.
use Rattle.std.proofs.Common.{◌≡◌, inl, inr, ℕ, zero, suc, ◌+◌, Bool, true, false, cond, ◌&&◌, ◌||◌, List, [], ◌∷◌, ◌++◌, map, filter, length, refl, sym, ◌∙◌, subst, arith}
use Rattle.std.specs.Prelude.{Some, slice_get}
use Rattle.std.specs.List.{list_any}
use Rattle.std.specs.Ordering.{is_eq}
use Rattle.std.proofs.lemmas.List.Folds.{list_any-append}
use Rattle.g_diagram.specs.declared.place.Break.{Break}
use Rattle.g_diagram.specs.declared.hierarchy.Hierarchy.{Hierarchy}
use Rattle.g_diagram.specs.declared.hierarchy.Vi.{Vi}
use Rattle.g_diagram.specs.Leads.{Leads}
use Rattle.g_diagram.specs.Lines.{entries_of}
use Rattle.g_diagram.specs.Ports.{Port, ports_of, sources, is_wired, is_before, are_joined, has_wire}
use Rattle.g_rules_lines.specs.Spots.{Spot, break}
use Rattle.g_rules_lines.specs.Lists.{Known, known_of, lined_by}
use Rattle.g_rules_lines.specs.RepeatedNames.{renamed_vis}
use Rattle.g_rules_lines.specs.UnknownVis.{absent_main}
use Rattle.g_wires.specs.MissingSources.{unsourced}
use Rattle.g_wires.specs.SecondSources.{is_repeated, repeated}
use Rattle.g_wires.specs.Spots.{spot}
use Rattle.g_wires.specs.UnusedSources.{unused}
use Rattle.g_wires.specs.Unwired.{unwired}
use Rattle.g_rules_breaks.specs.Breaks.{break_cmp, has_break}
use Rattle.g_wires.specs.Breaks.{named_in, plain_in, each_from, plain_breaks, IsWiring}
use Rattle.g_wires.proofs.Found.{or_left, or_right, and_both, any_filter}
use Rattle.g_rules_breaks.proofs.Ordered.{same_itself}
use Rattle.g_typing_laws.proofs.Once.{IsIn, AreFirst}

-- tests of some elements

among_left : {X : Type 0} (f : X → Bool) (xs ys : List X) → list_any f xs ≡ true → list_any f (xs ++ ys) ≡ true
among_left f xs ys h = list_any-append f xs ys ∙ or_left (list_any f xs) (list_any f ys) h

among_right : {X : Type 0} (f : X → Bool) (xs ys : List X) → list_any f ys ≡ true → list_any f (xs ++ ys) ≡ true
among_right f xs ys h = list_any-append f xs ys ∙ or_right (list_any f xs) (list_any f ys) h

kept : (f : Port → Bool) (keep : Bool) (p : Port) (ps : List Port) → keep ≡ true → f p ≡ true → list_any f (cond keep (p ∷ ps) ps) ≡ true
kept f true p ps e h = or_left (f p) (list_any f ps) h
kept f false p ps e h = absurd (cc e)

later : (f : Port → Bool) (keep : Bool) (p : Port) (ps : List Port) → list_any f ps ≡ true → list_any f (cond keep (p ∷ ps) ps) ≡ true
later f true p ps h = or_right (f p) (list_any f ps) h
later f false p ps h = h

-- a port that is kept and passes
passes : (f keep : Port → Bool) (p : Port) (ps : List Port) → IsIn p ps → keep p ≡ true → f p ≡ true → list_any f (filter keep ps) ≡ true
passes f keep p [] is k h = absurd is
passes f keep p (q ∷ ps) (inl e) k h =
    let P : Port → Type 0 = λ x. list_any f (cond (keep x) (x ∷ filter keep ps) (filter keep ps)) ≡ true in
    subst P (sym e) (kept f (keep p) p (filter keep ps) k h)
passes f keep p (q ∷ ps) (inr is) k h = later f (keep q) q (filter keep ps) (passes f keep p ps is k h)

-- breaks

at_port : (b : Break) (g : Spot → Break) (test : Port → Bool) (ps : List Port) → list_any (λ p. is_eq (break_cmp b (g (spot p)))) (filter test ps) ≡ true → has_break (map g (map spot (filter test ps))) b ≡ true
at_port b g test ps h = mapped (filter test ps) h
  where
    mapped : (qs : List Port) → list_any (λ p. is_eq (break_cmp b (g (spot p)))) qs ≡ true → has_break (map g (map spot qs)) b ≡ true
    mapped [] h = h
    mapped (q ∷ qs) h = both (is_eq (break_cmp b (g (spot q)))) (list_any (λ p. is_eq (break_cmp b (g (spot p)))) qs) (has_break (map g (map spot qs)) b) (mapped qs) h
      where
        both : (x y z : Bool) → (y ≡ true → z ≡ true) → (x || y) ≡ true → (x || z) ≡ true
        both true y z f e = refl
        both false y z f e = f e

-- the breaks of the VI of a number
in_each : (f : ℕ → Vi → List Break) (b : Break) (first k : ℕ) (vis : List Vi) (vi : Vi) → slice_get vis k ≡ Some vi → has_break (f (first + k) vi) b ≡ true → has_break (each_from f first vis) b ≡ true
in_each f b first k [] vi stands h = absurd (cc stands)
in_each f b first zero (v ∷ vis) vi stands h =
    let e : v ≡ vi = cc stands in
    let number : first + 0 ≡ first = omega arith in
    let P : ℕ → Type 0 = λ n. has_break (f n v) b ≡ true in
    let Q : Vi → Type 0 = λ x. has_break (f (first + 0) x) b ≡ true in
    among_left (λ c. is_eq (break_cmp b c)) (f first v) (each_from f (first + 1) vis) (subst P number (subst Q (sym e) h))
in_each f b first (suc k) (v ∷ vis) vi stands h =
    let number : first + suc k ≡ (first + 1) + k = omega arith in
    let P : ℕ → Type 0 = λ n. has_break (f n vi) b ≡ true in
    among_right (λ c. is_eq (break_cmp b c)) (f first v) (each_from f (first + 1) vis) (in_each f b (first + 1) k vis vi stands (subst P number h))

module _ (h : Hierarchy) (main : List ℕ) (none : IsWiring h main []) (k : ℕ) (vi : Vi) (stands : slice_get h.vis k ≡ Some vi) where
  abbrev ports : List Port
  ports = ports_of h.vis vi

  -- no node leads to itself
  pub none_turns : (v : ℕ) → Leads (has_wire ports) v v → ⊥
  none_turns v leads =
      let b : Break = record { place = record { vi = k; line = v; operand = 0 }; rule = 6 } in
      absurd (cc (none.each b (inr (record { vi = vi; stands = stands; leads = leads; whole = refl; rule = refl }))))

  -- no break of its names is there
  none_named : (b : Break) → has_break (named_in ports k) b ≡ true → ⊥
  none_named b x =
      let test : Break → Bool = λ c. is_eq (break_cmp b c) in
      let known : Known = known_of h.vis in
      let here : has_break (plain_in (ports_of h.vis) known k vi) b ≡ true = among_left test (named_in ports k) (lined_by known k vi.panel (entries_of vi)) x in
      let each : has_break (each_from (plain_in (ports_of h.vis) known) 0 h.vis) b ≡ true =
      (let P : ℕ → Type 0 = λ n. has_break (plain_in (ports_of h.vis) known n vi) b ≡ true in
      let number : k ≡ 0 + k = omega arith in
      in_each (plain_in (ports_of h.vis) known) b 0 k h.vis vi stands (subst P number here)) in
      let plain : has_break (plain_breaks (ports_of h.vis) known h.vis) b ≡ true = among_left test (each_from (plain_in (ports_of h.vis) known) 0 h.vis) (renamed_vis h.vis) each in
      absurd (cc (none.each b (inl (among_left test (plain_breaks (ports_of h.vis) known h.vis) (absent_main known.arities (length h.vis) main) plain))))

  -- no source of a name has one before it
  pub none_repeated : AreFirst ports
  none_repeated p q p_in q_in p_source q_source wired before joined =
      let b : Break = break k 2 (spot q) in
      let earlier : list_any (λ s. is_before s q && are_joined s q) (sources ports) ≡ true =
      passes (λ s. is_before s q && are_joined s q) (λ s. s.is_source) p ports p_in p_source (and_both (is_before p q) (are_joined p q) before joined) in
      let again : is_repeated ports q ≡ true = and_both (is_wired q) (list_any (λ s. is_before s q && are_joined s q) (sources ports)) wired earlier in
      let there : list_any (λ s. is_repeated ports s && is_eq (break_cmp b (break k 2 (spot s)))) (sources ports) ≡ true =
      passes (λ s. is_repeated ports s && is_eq (break_cmp b (break k 2 (spot s)))) (λ s. s.is_source) q ports q_in q_source (and_both (is_repeated ports q) (is_eq (break_cmp b b)) again (same_itself b)) in
      let listed : has_break (map (break k 2) (repeated ports)) b ≡ true =
      at_port b (break k 2) (is_repeated ports) (sources ports) (any_filter (λ s. is_eq (break_cmp b (break k 2 (spot s)))) (is_repeated ports) (sources ports) ∙ there) in
      let test : Break → Bool = λ c. is_eq (break_cmp b c) in
      none_named b
      (among_right test (map (break k 1) (unsourced ports)) (map (break k 2) (repeated ports) ++ (map (break k 3) (unused ports) ++ map (break k 4) (unwired ports)))
      (among_left test (map (break k 2) (repeated ports)) (map (break k 3) (unused ports) ++ map (break k 4) (unwired ports)) listed))
