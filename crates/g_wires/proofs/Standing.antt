-- Ports that stand for all give the breaks and the wires of all.
use Rattle.std.proofs.Common.{◌≡◌, inl, inr, ⊎_elim, ℕ, Bool, true, false, not, ◌&&◌, ◌||◌, List, [], ◌∷◌, ◌++◌, map, filter, refl, sym, ap, ◌∙◌}
use Rattle.std.specs.Prelude.{Option, Some, None, is_some}
use Rattle.std.specs.List.{list_any}
use Rattle.std.specs.Ordering.{is_eq}
use Rattle.std.proofs.lemmas.List.Folds.{list_any-append}
use Rattle.g_diagram.specs.declared.place.Break.{Break}
use Rattle.g_diagram.specs.Ports.{Port, are_joined, consumers, feeds, has_wire, is_before, is_node, is_wired, sources}
use Rattle.g_diagram_ports.specs.Standing.{HasStandIn, IsAmong, IsSecond, Replaces, StandFor}
use Rattle.g_diagram_ports.proofs.Among.{AreJoined, is_had, joined}
use Rattle.g_rules_breaks.specs.Breaks.{break_cmp, has_break}
use Rattle.g_rules_lines.specs.Spots.{break}
use Rattle.g_wires.specs.Breaks.{named_in}
use Rattle.g_wires.specs.Checked.{SameBreaks}
use Rattle.g_wires.specs.MissingSources.{lacks_source, unsourced}
use Rattle.g_wires.specs.SecondSources.{is_repeated, repeated}
use Rattle.g_wires.specs.Spots.{spot}
use Rattle.g_wires.specs.UnusedSources.{lacks_consumer, unused}
use Rattle.g_wires.specs.Unwired.{is_missing, unwired}
use Rattle.g_wires.proofs.Faithful.{same_bool}
use Rattle.g_wires.proofs.Found.{and_both, and_left, and_right, any_filter, or_cases}

-- ---- tests of lists of ports

-- a port of a list that passes a test
record Has (test : Port → Bool) (ps : List Port) : Type 0 where
  port : Port
  among : IsAmong port ps
  passes : test port ≡ true

has_one : (test : Port → Bool) (ps : List Port) → list_any test ps ≡ true → Has test ps
has_one test [] h = cc
has_one test (p ∷ ps) h = ⊎_elim
    (λ e. record { port = p; among = inl refl; passes = e })
    (λ e. let r : Has test ps = has_one test ps e in record { port = r.port; among = inr r.among; passes = r.passes })
    (or_cases (test p) (list_any test ps) h)

any_agree : (f g : Port → Bool) (ps : List Port) → ((p : Port) → IsAmong p ps → f p ≡ g p) → list_any f ps ≡ list_any g ps
any_agree f g [] h = refl
any_agree f g (p ∷ ps) h = ap (λ b. b || list_any f ps) (h p (inl refl)) ∙ ap (λ b. g p || b) (any_agree f g ps (λ q among. h q (inr among)))

-- of those on one side
side_agree : (side f g : Port → Bool) (ps : List Port) → ((p : Port) → IsAmong p ps → f p ≡ g p) → list_any f (filter side ps) ≡ list_any g (filter side ps)
side_agree side f g ps h =
    any_filter f side ps ∙ any_agree (λ p. side p && f p) (λ p. side p && g p) ps (λ p among. ap (λ b. side p && b) (h p among)) ∙ sym (any_filter g side ps)

any_map : {X Y : Type 0} (f : X → Y) (test : Y → Bool) (xs : List X) → list_any test (map f xs) ≡ list_any (λ x. test (f x)) xs
any_map f test [] = refl
any_map f test (x ∷ xs) = ap (λ b. test (f x) || b) (any_map f test xs)

-- ---- breaks

pub same_more : (xs ys zs ws : List Break) → SameBreaks xs ys → SameBreaks zs ws → SameBreaks (xs ++ zs) (ys ++ ws)
same_more xs ys zs ws h k b =
    list_any-append (λ c. is_eq (break_cmp b c)) xs zs ∙ ap (λ x. x || has_break zs b) (h b) ∙ ap (λ x. has_break ys b || x) (k b) ∙ sym (list_any-append (λ c. is_eq (break_cmp b c)) ys ws)

-- a break is one at a port
abbrev is_at : (vi rule : ℕ) → Break → Port → Bool
is_at vi rule b p = is_eq (break_cmp b (break vi rule (spot p)))

-- at the same place
at_same : (vi rule : ℕ) (b : Break) (p q : Port) → q.line ≡ p.line → q.operand ≡ p.operand → is_at vi rule b p ≡ true → is_at vi rule b q ≡ true
at_same vi rule b p q l k h =
    ap (λ n. is_eq (break_cmp b (break vi rule (record { line = n; operand = q.operand })))) l
    ∙ ap (λ n. is_eq (break_cmp b (break vi rule (record { line = p.line; operand = n })))) k ∙ h

broken_at : (vi rule : ℕ) (broken : Port → Bool) (ps : List Port) (b : Break) → has_break (map (break vi rule) (map spot (filter broken ps))) b ≡ list_any (λ p. broken p && is_at vi rule b p) ps
broken_at vi rule broken ps b =
    any_map (break vi rule) (λ c. is_eq (break_cmp b c)) (map spot (filter broken ps)) ∙ any_map spot (λ s. is_eq (break_cmp b (break vi rule s))) (filter broken ps)
    ∙ any_filter (is_at vi rule b) broken ps

-- what a rule breaks at ports, and at others
rule_same : (vi rule : ℕ) (broken other : Port → Bool) (ps qs : List Port) → ((b : Break) → list_any (λ p. broken p && is_at vi rule b p) ps ≡ list_any (λ p. other p && is_at vi rule b p) qs)
    → SameBreaks (map (break vi rule) (map spot (filter broken ps))) (map (break vi rule) (map spot (filter other qs)))
rule_same vi rule broken other ps qs h b = broken_at vi rule broken ps b ∙ h b ∙ sym (broken_at vi rule other qs b)

not_both : (b : Bool) → b ≡ true → not b ≡ true → ⊥
not_both true e h = cc
not_both false e h = cc

wired_if_joined : (p q : Port) → are_joined p q ≡ true → is_wired q ≡ true
wired_if_joined p q h = let j : AreJoined p q = joined p q h in ap is_some j.right

module _ (ps qs : List Port) (stand : StandFor ps qs) where
  -- a consumer is never left out
  consumer_kept : (p : Port) → IsAmong p ps → not p.is_source ≡ true → IsAmong p qs
  consumer_kept p among h = ⊎_elim (λ k. k) (λ (r : HasStandIn ps qs p). absurd (not_both p.is_source r.source h)) (stand.each p among)

  consumers_same : (test : Port → Bool) → list_any test (consumers qs) ≡ list_any test (consumers ps)
  consumers_same test =
      let both : Port → Bool = λ p. not p.is_source && test p in
      any_filter test (λ p. not p.is_source) qs ∙ same_bool (list_any both qs) (list_any both ps)
      (λ h. let r : Has both qs = has_one both qs h in is_had both ps r.port (stand.within r.port r.among) r.passes)
      (λ h. let r : Has both ps = has_one both ps h in is_had both qs r.port (consumer_kept r.port r.among (and_left (not r.port.is_source) (test r.port) r.passes)) r.passes)
      ∙ sym (any_filter test (λ p. not p.is_source) ps)

  -- a test that sources of the list pass where those that are left out do
  sources_same : (test : Port → Bool) → ((p : Port) → HasStandIn ps qs p → test p ≡ true → Has (λ s. s.is_source && test s) qs) → list_any test (sources qs) ≡ list_any test (sources ps)
  sources_same test other =
      let both : Port → Bool = λ p. p.is_source && test p in
      let found : Has both qs → list_any both qs ≡ true = λ r. is_had both qs r.port r.among r.passes in
      any_filter test (λ p. p.is_source) qs ∙ same_bool (list_any both qs) (list_any both ps)
      (λ h. let r : Has both qs = has_one both qs h in is_had both ps r.port (stand.within r.port r.among) r.passes)
      (λ h. let r : Has both ps = has_one both ps h in ⊎_elim
      (λ kept. is_had both qs r.port kept r.passes)
      (λ s. found (other r.port s (and_right r.port.is_source (test r.port) r.passes)))
      (stand.each r.port r.among))
      ∙ sym (any_filter test (λ p. p.is_source) ps)

  -- 1
  given_same : (q : Port) → IsAmong q qs → list_any (λ s. are_joined s q) (sources qs) ≡ list_any (λ s. are_joined s q) (sources ps)
  given_same q among = sources_same (λ s. are_joined s q) (λ p r h. let s : Replaces qs p q = r.others q among h in
      record { port = s.by; among = s.among; passes = and_both s.by.is_source (are_joined s.by q) s.source s.joined })

  unsourced_same : (vi : ℕ) → SameBreaks (map (break vi 1) (unsourced qs)) (map (break vi 1) (unsourced ps))
  unsourced_same vi = rule_same vi 1 (lacks_source qs) (lacks_source ps) (consumers qs) (consumers ps) (λ b.
      side_agree (λ p. not p.is_source) (λ p. lacks_source qs p && is_at vi 1 b p) (λ p. lacks_source ps p && is_at vi 1 b p) qs
      (λ p among. ap (λ x. is_wired p && not x && is_at vi 1 b p) (given_same p among))
      ∙ consumers_same (λ p. lacks_source ps p && is_at vi 1 b p))

  -- 2
  before_same : (q : Port) → IsAmong q qs → list_any (λ s. is_before s q && are_joined s q) (sources qs) ≡ list_any (λ s. is_before s q && are_joined s q) (sources ps)
  before_same q among = sources_same (λ s. is_before s q && are_joined s q) (λ p r h.
      let s : Replaces qs p q = r.others q among (and_right (is_before p q) (are_joined p q) h) in
      record {
        port = s.by;
        among = s.among;
        passes = and_both s.by.is_source (is_before s.by q && are_joined s.by q) s.source
            (and_both (is_before s.by q) (are_joined s.by q) (s.before (and_left (is_before p q) (are_joined p q) h)) s.joined);
      })

  -- a source whose wire has a source before it
  is_second : (first second : Port) → IsAmong first ps → first.is_source ≡ true → is_before first second ≡ true → are_joined first second ≡ true → is_repeated ps second ≡ true
  is_second first second among source before h =
      let earlier : Port → Bool = λ s. is_before s second && are_joined s second in
      and_both (is_wired second) (list_any earlier (sources ps)) (wired_if_joined first second h)
      (any_filter earlier (λ s. s.is_source) ps
      ∙ is_had (λ s. s.is_source && earlier s) ps first among
      (and_both first.is_source (earlier first) source (and_both (is_before first second) (are_joined first second) before h)))

  -- at the place of a source that is left out
  second_at : (vi : ℕ) (b : Break) (p : Port) → HasStandIn ps qs p → (is_repeated ps p && is_at vi 2 b p) ≡ true → Has (λ s. s.is_source && (is_repeated ps s && is_at vi 2 b s)) qs
  second_at vi b p r h =
      let earlier : Port → Bool = λ s. is_before s p && are_joined s p in
      let test : Port → Bool = λ s. s.is_source && earlier s in
      let any : list_any earlier (sources ps) ≡ true = and_right (is_wired p) (list_any earlier (sources ps)) (and_left (is_repeated ps p) (is_at vi 2 b p) h) in
      let f : Has test ps = has_one test ps (sym (any_filter earlier (λ s. s.is_source) ps) ∙ any) in
      let both : earlier f.port ≡ true = and_right f.port.is_source (earlier f.port) f.passes in
      let s : IsSecond qs p = r.again f.port f.among (and_left f.port.is_source (earlier f.port) f.passes)
      (and_left (is_before f.port p) (are_joined f.port p) both) (and_right (is_before f.port p) (are_joined f.port p) both) in
      record {
        port = s.second;
        among = s.also;
        passes = and_both s.second.is_source (is_repeated ps s.second && is_at vi 2 b s.second) s.later
            (and_both (is_repeated ps s.second) (is_at vi 2 b s.second) (is_second s.first s.second (stand.within s.first s.among) s.source s.before s.joined)
            (at_same vi 2 b p s.second s.line s.operand (and_right (is_repeated ps p) (is_at vi 2 b p) h)));
      }

  repeated_same : (vi : ℕ) → SameBreaks (map (break vi 2) (repeated qs)) (map (break vi 2) (repeated ps))
  repeated_same vi = rule_same vi 2 (is_repeated qs) (is_repeated ps) (sources qs) (sources ps) (λ b.
      side_agree (λ p. p.is_source) (λ p. is_repeated qs p && is_at vi 2 b p) (λ p. is_repeated ps p && is_at vi 2 b p) qs
      (λ p among. ap (λ x. is_wired p && x && is_at vi 2 b p) (before_same p among))
      ∙ sources_same (λ p. is_repeated ps p && is_at vi 2 b p) (λ p r h. second_at vi b p r h))

  -- 3
  none_lacks : (p : Port) (b : Break) (vi : ℕ) → p.is_free ≡ true → (lacks_consumer ps p && is_at vi 3 b p) ≡ true → ⊥
  none_lacks p b vi free h =
      let none : Bool = not (list_any (λ c. are_joined p c) (consumers ps)) in
      not_both p.is_free free (and_left (not p.is_free) none (and_right (is_wired p) (not p.is_free && none) (and_left (lacks_consumer ps p) (is_at vi 3 b p) h)))

  unused_same : (vi : ℕ) → SameBreaks (map (break vi 3) (unused qs)) (map (break vi 3) (unused ps))
  unused_same vi = rule_same vi 3 (lacks_consumer qs) (lacks_consumer ps) (sources qs) (sources ps) (λ b.
      side_agree (λ p. p.is_source) (λ p. lacks_consumer qs p && is_at vi 3 b p) (λ p. lacks_consumer ps p && is_at vi 3 b p) qs
      (λ p among. ap (λ x. is_wired p && (not p.is_free && not x) && is_at vi 3 b p) (consumers_same (λ c. are_joined p c)))
      ∙ sources_same (λ p. lacks_consumer ps p && is_at vi 3 b p) (λ p r h. absurd (none_lacks p b vi r.free h)))

  -- 4
  unwired_same : (vi : ℕ) → SameBreaks (map (break vi 4) (unwired qs)) (map (break vi 4) (unwired ps))
  unwired_same vi = rule_same vi 4 is_missing is_missing (consumers qs) (consumers ps) (λ b. consumers_same (λ p. is_missing p && is_at vi 4 b p))

  pub named_same : (vi : ℕ) → SameBreaks (named_in qs vi) (named_in ps vi)
  named_same vi =
      same_more (map (break vi 1) (unsourced qs)) (map (break vi 1) (unsourced ps)) _ _ (unsourced_same vi)
      (same_more (map (break vi 2) (repeated qs)) (map (break vi 2) (repeated ps)) _ _ (repeated_same vi)
      (same_more (map (break vi 3) (unused qs)) (map (break vi 3) (unused ps)) (map (break vi 4) (unwired qs)) (map (break vi 4) (unwired ps)) (unused_same vi) (unwired_same vi)))

  -- rule 6
  no_node : (a b : ℕ) (p : Port) (n : Option ℕ) → n ≡ None → (c : Port) → (is_node n a && is_node c.node b && are_joined p c) ≡ true → ⊥
  no_node a b p None none c h = cc
  no_node a b p (Some k) none c h = cc

  pub wires_same : (a b : ℕ) → has_wire qs a b ≡ has_wire ps a b
  wires_same a b =
      sources_same (λ s. list_any (feeds a b s) (consumers qs)) (λ p r h. let f : Has (feeds a b p) (consumers qs) = has_one (feeds a b p) (consumers qs) h in
      absurd (no_node a b p p.node r.border f.port f.passes))
      ∙ ap (λ (test : Port → Bool). list_any test (sources ps)) (λ i s. consumers_same (feeds a b s) i)
