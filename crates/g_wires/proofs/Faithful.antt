-- Ports by numbers say what ports by names say.
use Rattle.std.proofs.Common.{◌≡◌, ℕ, ◌==◌, Bool, true, false, not, ◌&&◌, ◌||◌, cond, List, [], ◌∷◌, map, filter, refl, sym, ap, ◌∙◌, subst, arith}
use Rattle.std.specs.Prelude.{Option, Some, None, is_some, ◌++◌, All}
use Rattle.std.specs.List.{list_any}
use Rattle.std.specs.Option.{IsSome}
use Rattle.std.specs.Str.{bytes_eq}
use Rattle.std.proofs.lemmas.List.Elements.{All-head, All-tail, All-weaker}
use Rattle.std.proofs.lemmas.Slice.Eq.{bytes_eq-Decides}
use denote.Ref.{Bor}
use Rattle.g_diagram.specs.Ports as spec
use Rattle.g_diagram.specs.Ports.{are_joined, is_before, same_wire, is_wired, sources, consumers, has_wire, feeds, is_node}
use Rattle.g_diagram_ports.specs.declared.port.Port.{Port}
use Rattle.g_diagram_ports.specs.Seen.{seen, seen_wire}
use Rattle.g_wires.specs.declared.coded.Coded.{Coded}
use Rattle.g_wires.specs.MissingSources.{lacks_source, unsourced}
use Rattle.g_wires.specs.SecondSources.{is_repeated, repeated}
use Rattle.g_wires.specs.Spots.{spot}
use Rattle.g_wires.specs.UnusedSources.{lacks_consumer, unused}
use Rattle.g_wires.specs.Unwired.{is_missing}
use Rattle.g_rules_lines.specs.Spots.{break}
use Rattle.g_wires.specs.Breaks.{named_in}
use Rattle.g_wires.specs.Coding.{Table, number_at, number_of, wire_at, code_by, is_numbered, has_wire_of, Numbers}
use Rattle.g_wires.specs.Marks.{is_number, gives, takes, gives_before, is_ungiven, is_untaken, is_given_before, has_no_source, is_later_source, has_no_consumer, has_no_wire, coded_break, coded_breaks, coded_named, same_number_of, coded_feeds, coded_wire}
use Rattle.g_wires.proofs.Found.{any_filter, filter_same, and_left, and_right, and_both, same_number}

pub same_bool : (a b : Bool) → (a ≡ true → b ≡ true) → (b ≡ true → a ≡ true) → a ≡ b
same_bool true b f g = sym (f refl)
same_bool false true f g = g refl
same_bool false false f g = refl

and_false : (b : Bool) → (b && false) ≡ false
and_false true = refl
and_false false = refl

none_shared : (o : Option ℕ) → same_number_of o None ≡ false
none_shared None = refl
none_shared (Some v) = refl

both_numbered : (m : Table) → Numbers m → (d e : ℕ) (a b : List ℕ) (o p : Option ℕ) → number_at m d a ≡ o → number_at m e b ≡ p → IsSome o → IsSome p
    → same_number_of o p ≡ ((d == e) && bytes_eq a b)
both_numbered m n d e a b None p ho hp so sp = cc
both_numbered m n d e a b (Some v) None ho hp so sp = cc
both_numbered m n d e a b (Some v) (Some u) ho hp so sp = same_bool (v == u) ((d == e) && bytes_eq a b)
    (λ h. let same : v ≡ u = same_number v u h in
    let k = n.apart d e a b v ho (hp ∙ ap Some (sym same)) in
    and_both (d == e) (bytes_eq a b) (let f : d ≡ e = k.0 in grind (arith, f)) ((bytes_eq-Decides a b).1 k.1))
    (λ h. let dd : d ≡ e = same_number d e (and_left (d == e) (bytes_eq a b) h) in
    let aa : a ≡ b = (bytes_eq-Decides a b).0 (and_right (d == e) (bytes_eq a b) h) in
    let same : Some v ≡ Some u = sym ho ∙ ap (λ x. number_at m x a) dd ∙ ap (λ x. number_at m e x) aa ∙ hp in
    let vu : v ≡ u = cc in grind (arith, vu))

joined_at : (m : Table) → Numbers m → (d e : ℕ) (x y : Option (Bor (List ℕ))) → is_numbered m d x → is_numbered m e y
    → same_number_of (number_of m d x) (number_of m e y) ≡ ((d == e) && same_wire (seen_wire x) (seen_wire y))
joined_at m n d e None y hx hy = sym (and_false (d == e))
joined_at m n d e (Some a) None hx hy = none_shared (number_at m d a.now) ∙ sym (and_false (d == e))
joined_at m n d e (Some a) (Some b) hx hy = both_numbered m n d e a.now b.now (number_at m d a.now) (number_at m e b.now) refl refl hx hy

pub joined : (m : Table) → Numbers m → (p q : Port) → has_wire_of m p → has_wire_of m q → same_number_of (wire_at m p) (wire_at m q) ≡ are_joined (seen p) (seen q)
joined m n p q hp hq = joined_at m n p.diagram q.diagram p.wire q.wire hp hq

-- tests of two images of a list that agree
any_both : {X Y Z : Type 0} (f : X → Y) (g : X → Z) (p : Y → Bool) (q : Z → Bool) (xs : List X) → All (λ x. p (f x) ≡ q (g x)) xs → list_any p (map f xs) ≡ list_any q (map g xs)
any_both f g p q [] all = refl
any_both f g p q (x ∷ xs) all =
    ap (λ b. b || list_any p (map f xs)) (All-head (λ x. p (f x) ≡ q (g x)) x xs all) ∙ ap (λ b. q (g x) || b) (any_both f g p q xs (All-tail (λ x. p (f x) ≡ q (g x)) x xs all))

twice_step : {X : Type 0} (p : X → Bool) (x : X) (kept both : List X) (b : Bool) → filter p kept ≡ both → filter p (cond b (x ∷ kept) kept) ≡ cond (b && p x) (x ∷ both) both
twice_step p x kept both true h = ap (λ ys. cond (p x) (x ∷ ys) ys) h
twice_step p x kept both false h = h

filter_twice : {X : Type 0} (p q : X → Bool) (xs : List X) → filter p (filter q xs) ≡ filter (λ x. q x && p x) xs
filter_twice p q [] = refl
filter_twice p q (x ∷ xs) = twice_step p x (filter q xs) (filter (λ x. q x && p x) xs) (q x) (filter_twice p q xs)

node_same : (o : Option ℕ) (n : ℕ) → is_number o n ≡ is_node o n
node_same None n = refl
node_same (Some k) n = refl

and_swap : (a b c : Bool) → (a && (b && c)) ≡ (b && (a && c))
and_swap true b c = refl
and_swap false true c = refl
and_swap false false c = refl

and_all : (b : Bool) → (b && true) ≡ b
and_all true = refl
and_all false = refl

as_shared : (o : Option ℕ) (v : ℕ) → is_number o v ≡ same_number_of o (Some v)
as_shared None v = refl
as_shared (Some u) v = refl

shared_back : (o : Option ℕ) (v : ℕ) → is_number o v ≡ same_number_of (Some v) o
shared_back None v = refl
shared_back (Some u) v = same_bool (u == v) (v == u) (λ e. let f : u ≡ v = same_number u v e in grind (arith, f)) (λ e. let f : v ≡ u = same_number v u e in grind (arith, f))

module _ (m : Table) (numbers : Numbers m) (ports : List Port) (all : All (has_wire_of m) ports) where
  abbrev coded : List Coded
  coded = map (code_by m) ports

  abbrev named : List spec.Port
  named = map seen ports

  -- a test of the wire's number that fails without one
  wired_same : (p : Port) → has_wire_of m p → (f : Option ℕ → Bool) → f None ≡ false → (r : Bool) → ((v : ℕ) → wire_at m p ≡ Some v → f (Some v) ≡ r) → f (wire_at m p) ≡ (is_wired (seen p) && r)
  wired_same p hp f none r told = at p.wire (wire_at m p) refl hp refl
    where
      at : (w : Option (Bor (List ℕ))) (o : Option ℕ) → p.wire ≡ w → is_numbered m p.diagram w → number_of m p.diagram w ≡ o → f (number_of m p.diagram w) ≡ (is_some (seen_wire w) && r)
      at None o e h k = none
      at (Some a) None e h k = let P : Option ℕ → Type 0 = IsSome in let no_number : IsSome {T = ℕ} None = subst P k h in cc
      at (Some a) (Some v) e h k = ap f k ∙ told v (ap (number_of m p.diagram) e ∙ k)

  -- 1
  given : (p : Port) (v : ℕ) → has_wire_of m p → wire_at m p ≡ Some v → list_any (gives v) coded ≡ list_any (λ s. are_joined s (seen p)) (sources named)
  given p v hp e =
      any_both (code_by m) seen (gives v) (λ s. s.is_source && are_joined s (seen p)) ports
      (All-weaker (has_wire_of m) (λ q. gives v (code_by m q) ≡ (q.is_source && are_joined (seen q) (seen p)))
      (λ q hq. ap (λ b. q.is_source && b) (as_shared (wire_at m q) v ∙ ap (same_number_of (wire_at m q)) (sym e) ∙ joined m numbers q p hq hp)) ports all)
      ∙ sym (any_filter (λ s. are_joined s (seen p)) (λ s. s.is_source) named)

  source_told : (p : Port) → has_wire_of m p → has_no_source coded (code_by m p) ≡ (not p.is_source && lacks_source named (seen p))
  source_told p hp = ap (λ b. not p.is_source && b) (wired_same p hp (is_ungiven coded) refl (not (list_any (λ s. are_joined s (seen p)) (sources named))) (λ v e. ap not (given p v hp e)))

  -- 2
  given_before : (p : Port) (v : ℕ) → has_wire_of m p → wire_at m p ≡ Some v → list_any (gives_before v (code_by m p)) coded ≡ list_any (λ s. is_before s (seen p) && are_joined s (seen p)) (sources named)
  given_before p v hp e =
      any_both (code_by m) seen (gives_before v (code_by m p)) (λ s. s.is_source && (is_before s (seen p) && are_joined s (seen p))) ports
      (All-weaker (has_wire_of m) (λ q. gives_before v (code_by m p) (code_by m q) ≡ (q.is_source && (is_before (seen q) (seen p) && are_joined (seen q) (seen p))))
      (λ q hq. ap (λ b. q.is_source && (is_before (seen q) (seen p) && b)) (as_shared (wire_at m q) v ∙ ap (same_number_of (wire_at m q)) (sym e) ∙ joined m numbers q p hq hp)) ports all)
      ∙ sym (any_filter (λ s. is_before s (seen p) && are_joined s (seen p)) (λ s. s.is_source) named)

  repeat_told : (p : Port) → has_wire_of m p → is_later_source coded (code_by m p) ≡ (p.is_source && is_repeated named (seen p))
  repeat_told p hp = ap (λ b. p.is_source && b) (wired_same p hp (is_given_before coded (code_by m p)) refl (list_any (λ s. is_before s (seen p) && are_joined s (seen p)) (sources named)) (λ v e. given_before p v hp e))

  -- 3
  taken : (p : Port) (v : ℕ) → has_wire_of m p → wire_at m p ≡ Some v → list_any (takes v) coded ≡ list_any (λ c. are_joined (seen p) c) (consumers named)
  taken p v hp e =
      any_both (code_by m) seen (takes v) (λ c. not c.is_source && are_joined (seen p) c) ports
      (All-weaker (has_wire_of m) (λ q. takes v (code_by m q) ≡ (not q.is_source && are_joined (seen p) (seen q)))
      (λ q hq. ap (λ b. not q.is_source && b) (shared_back (wire_at m q) v ∙ ap (λ o. same_number_of o (wire_at m q)) (sym e) ∙ joined m numbers p q hp hq)) ports all)
      ∙ sym (any_filter (λ c. are_joined (seen p) c) (λ c. not c.is_source) named)

  consumer_told : (p : Port) → has_wire_of m p → has_no_consumer coded (code_by m p) ≡ (p.is_source && lacks_consumer named (seen p))
  consumer_told p hp = ap (λ b. p.is_source && b)
      (ap (λ b. not p.is_free && b) (wired_same p hp (is_untaken coded) refl (not (list_any (λ c. are_joined (seen p) c) (consumers named))) (λ v e. ap not (taken p v hp e)))
      ∙ and_swap (not p.is_free) (is_wired (seen p)) (not (list_any (λ c. are_joined (seen p) c) (consumers named))))

  -- 4
  missing_told : (p : Port) → has_wire_of m p → has_no_wire (code_by m p) ≡ (not p.is_source && is_missing (seen p))
  missing_told p hp = ap (λ b. not p.is_source && (not b && not p.is_free)) (wired_same p hp is_some refl true (λ v e. refl) ∙ and_all (is_wired (seen p)))

  same_breaks : (vi rule : ℕ) (ps : List Port) → map (coded_break vi rule) (map (code_by m) ps) ≡ map (break vi rule) (map spot (map seen ps))
  same_breaks vi rule [] = refl
  same_breaks vi rule (p ∷ ps) = ap (λ bs. coded_break vi rule (code_by m p) ∷ bs) (same_breaks vi rule ps)

  -- the breaks of one rule: a test of the ports on one side
  told_same : (vi rule : ℕ) (test : Coded → Bool) (side broken : spec.Port → Bool) → ((p : Port) → has_wire_of m p → test (code_by m p) ≡ (side (seen p) && broken (seen p)))
      → coded_breaks vi rule test coded ≡ map (break vi rule) (map spot (filter broken (filter side named)))
  told_same vi rule test side broken told =
      let T : Port → Bool = λ p. side (seen p) && broken (seen p) in
      ap (map (coded_break vi rule)) (filter_same (code_by m) test T ports (All-weaker (has_wire_of m) (λ p. test (code_by m p) ≡ T p) told ports all))
      ∙ same_breaks vi rule (filter T ports)
      ∙ ap (λ ps. map (break vi rule) (map spot ps)) (sym (filter_same seen (λ s. side s && broken s) T ports (λ k d lt. refl)) ∙ sym (filter_twice broken side named))

  pub named_told : (vi : ℕ) → coded_named vi (map (code_by m) ports) ≡ named_in (map seen ports) vi
  named_told vi =
      let sourced : spec.Port → Bool = λ p. p.is_source in
      let consuming : spec.Port → Bool = λ p. not p.is_source in
      let one = told_same vi 1 (has_no_source coded) consuming (lacks_source named) source_told in
      let two = told_same vi 2 (is_later_source coded) sourced (is_repeated named) repeat_told in
      let three = told_same vi 3 (has_no_consumer coded) sourced (lacks_consumer named) consumer_told in
      let four = told_same vi 4 has_no_wire consuming is_missing missing_told in
      ap (λ bs. bs ++ (coded_breaks vi 2 (is_later_source coded) coded ++ (coded_breaks vi 3 (has_no_consumer coded) coded ++ coded_breaks vi 4 has_no_wire coded))) one
      ∙ ap (λ bs. map (break vi 1) (unsourced named) ++ (bs ++ (coded_breaks vi 3 (has_no_consumer coded) coded ++ coded_breaks vi 4 has_no_wire coded))) two
      ∙ ap (λ bs. map (break vi 1) (unsourced named) ++ (map (break vi 2) (repeated named) ++ (bs ++ coded_breaks vi 4 has_no_wire coded))) three
      ∙ ap (λ bs. map (break vi 1) (unsourced named) ++ (map (break vi 2) (repeated named) ++ (map (break vi 3) (unused named) ++ bs))) four

  -- rule 6
  feeds_same : (a b : ℕ) (s c : Port) → has_wire_of m s → has_wire_of m c → coded_feeds a b (code_by m s) (code_by m c) ≡ feeds a b (seen s) (seen c)
  feeds_same a b s c hs hc =
      ap (λ x. x && is_number c.node b && same_number_of (wire_at m s) (wire_at m c)) (node_same s.node a)
      ∙ ap (λ x. is_node s.node a && x && same_number_of (wire_at m s) (wire_at m c)) (node_same c.node b)
      ∙ ap (λ x. is_node s.node a && is_node c.node b && x) (joined m numbers s c hs hc)

  wire_same : (a b : ℕ) → coded_wire (map (code_by m) ports) a b ≡ has_wire (map seen ports) a b
  wire_same a b =
      any_filter (λ s. list_any (coded_feeds a b s) (filter (λ c. not c.is_source) (map (code_by m) ports))) (λ s. s.is_source) (map (code_by m) ports)
      ∙ any_both (code_by m) seen (λ s. s.is_source && list_any (coded_feeds a b s) (filter (λ c. not c.is_source) (map (code_by m) ports)))
      (λ s. s.is_source && list_any (feeds a b s) (consumers (map seen ports))) ports
      (All-weaker (has_wire_of m) (λ q. (q.is_source && list_any (coded_feeds a b (code_by m q)) (filter (λ c. not c.is_source) (map (code_by m) ports))) ≡ (q.is_source && list_any (feeds a b (seen q)) (consumers (map seen ports))))
      (λ q hq. ap (λ x. q.is_source && x) (inner q hq)) ports all)
      ∙ sym (any_filter (λ s. list_any (feeds a b s) (consumers (map seen ports))) (λ s. s.is_source) (map seen ports))
    where
      inner : (q : Port) → has_wire_of m q → list_any (coded_feeds a b (code_by m q)) (filter (λ c. not c.is_source) (map (code_by m) ports)) ≡ list_any (feeds a b (seen q)) (consumers (map seen ports))
      inner q hq =
          any_filter (coded_feeds a b (code_by m q)) (λ c. not c.is_source) (map (code_by m) ports)
          ∙ any_both (code_by m) seen (λ c. not c.is_source && coded_feeds a b (code_by m q) c) (λ c. not c.is_source && feeds a b (seen q) c) ports
          (All-weaker (has_wire_of m) (λ c. (not c.is_source && coded_feeds a b (code_by m q) (code_by m c)) ≡ (not c.is_source && feeds a b (seen q) (seen c)))
          (λ c hc. ap (λ x. not c.is_source && x) (feeds_same a b q c hq hc)) ports all)
          ∙ sym (any_filter (feeds a b (seen q)) (λ c. not c.is_source) (map seen ports))

  pub steps_same : (a b : ℕ) → coded_wire (map (code_by m) ports) a b ≡ has_wire (map seen ports) a b
  steps_same a b = wire_same a b
