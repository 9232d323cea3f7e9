-- What is linked is as counted.
use Rattle.std.proofs.Common.{◌≡◌, inl, inr, ⊎_elim, ℕ, zero, suc, ◌+◌, ◌<◌, ◌≤◌, ◌==◌, min, true, List, [], ◌∷◌, length, refl, ap, ◌∙◌, sym, subst, arith}
use Rattle.std.specs.Prelude.{slice_get, slice_index}
use Rattle.std.specs.Cmp.{first_so}
use Rattle.std.specs.List.{count_by}
use Rattle.std.proofs.lemmas.Bool.{cases_lt}
use Rattle.std.proofs.lemmas.List.Sums.{length-filter}
use Rattle.std.proofs.lemmas.Option.{slice_get_past}
use Rattle.g_diagram.specs.declared.hierarchy.Hierarchy.{Hierarchy}
use Rattle.g_diagram.specs.Leads.{Walk, Leads}
use Rattle.g_graph.proofs.Search.{one_step, one_more}
use Rattle.g_hier.specs.declared.linked.Caller.{Caller}
use Rattle.g_hier.specs.declared.linked.Linked.{Linked}
use Rattle.g_hier.specs.declared.linked.Outline.{Outline}
use Rattle.g_hier.specs.declared.linked.Placed.{Placed}
use Rattle.g_hier.specs.declared.linked.Space.{Space}
use Rattle.g_hier.specs.Answer.{Links}
use Rattle.g_hier.specs.Counts.{callers, count_for, nodes_in, AreCounts, IsNodeCount}
use Rattle.g_hier.specs.LinkOrder.{enters, EntersFrom, has_vi}
use Rattle.g_hier.specs.Outlines.{calls, outlines_of}
use Rattle.g_hier.proofs.Calls.{Calling, callers_some}
use Rattle.g_hier.proofs.CallsBack.{acyclic}
use Rattle.g_hier_laws.specs.Counted.{nodes_over, IsAsCounted, HaveOwnLines}
use Rattle.g_hier_laws.proofs.Spaces.{number}
use Rattle.g_hier_laws.proofs.Entered.{spaces_in}
use Rattle.g_hier_laws.proofs.Callers.{callers_of, calls_from, as_many_callers}
use Rattle.g_hier_laws.proofs.PerVi.{expected, number_is}
use Rattle.g_hier_laws.proofs.Tally.{tally, callers_tally, nodes_tally, tally_at, tally_counts}
use Rattle.g_hier_laws.proofs.Order.{often, stands_once, stands_there}
use Rattle.g_hier_laws.proofs.Rising.{own_lines}

-- calls that can enter are calls
plain_walk : (os : List Outline) (n a b : ℕ) → Walk (enters os) n a b → Walk (calls os) n a b
plain_walk os zero a b w = first_so (calls os a b) _ w
plain_walk os (suc n) a b w = (w.0, plain_walk os n a w.0 w.1, first_so (calls os w.0 b) _ w.2)

-- a call line to MAIN of a VI that is entered leads back
leads_back : (os : List Outline) (main u : ℕ) → EntersFrom os main u → calls os u main ≡ true → Leads (calls os) main main
leads_back os main u (inl e) c = let P : ℕ → Type 0 = λ x. calls os x main ≡ true in one_step (calls os) main main (subst P (sym e) c)
leads_back os main u (inr l) c = one_more (calls os) main u main (l.0, plain_walk os l.0 main u l.1) c

no_caller : (ks : List Caller) → length ks ≡ 0 → ks ≡ []
no_caller [] e = refl
no_caller (k ∷ ks) e = absurd (omega (arith, e))

module _ (os : List Outline) (main : ℕ) (l : Linked) (links : Links os main l) (lines : HaveOwnLines os) where
  abbrev met : List Placed
  met = links.linked.met

  abbrev spaces : List Space
  spaces = spaces_in met

  abbrev tallied : List ℕ
  tallied = tally spaces 0 os

  -- no data space calls MAIN
  main_uncalled : calls_from os main spaces ≡ 0
  main_uncalled = ⊎_elim
      (λ (some : 0 < calls_from os main spaces).
      let total = callers_tally main os spaces in
      let c : Calling main os tallied = callers_some main os tallied (omega (arith, total, some)) in
      let below = c.below in
      let at = tally_at spaces 0 os c.vi (λ le. absurd (omega (arith, below, le))) in
      let e : 0 + c.vi ≡ c.vi = omega arith in
      let f : number (0 + c.vi) spaces ≡ number c.vi spaces = ap (λ v. number v spaces) e in
      let some_there = c.some in
      let P : List ℕ → Type 0 = λ order. has_vi order c.vi ≡ true in
      let there : has_vi l.order c.vi ≡ true = subst P (sym links.linked.order_is) (stands_there met c.vi (omega (arith, at, f, some_there))) in
      absurd (acyclic os links.ends main (leads_back os main c.vi ((links.entered c.vi).0 there) c.edge)))
      (λ (le : calls_from os main spaces ≤ 0). omega (arith, le))
      (cases_lt 0 (calls_from os main spaces))

  number_of_vi : (v : ℕ) → number v spaces ≡ expected (slice_get os v) (v == main) (length (callers_of os v 0 met))
  number_of_vi = number_is os main met links.linked.in_order lines (no_caller (callers_of os main 0 met) (as_many_callers os main 0 met ∙ main_uncalled))

  are_counts : AreCounts os main tallied
  are_counts = tally_counts os main tallied spaces 0 os (λ j o at.
      let e : j ≡ 0 + j = omega arith in
      let P : ℕ → Type 0 = λ v. number v spaces ≡ count_for (v == main) o.clones (callers v os tallied) in
      subst P e
      (number_of_vi j ∙ ap (λ x. expected x (j == main) (length (callers_of os j 0 met))) at ∙ ap (count_for (j == main) o.clones) (as_many_callers os j 0 met ∙ sym (callers_tally j os spaces))))

  counted_at : (v : ℕ) → slice_index tallied v ≡ number v spaces
  counted_at v =
      let e : 0 + v ≡ v = omega arith in
      let P : ℕ → Type 0 = λ u. number u spaces ≡ 0 in
      tally_at spaces 0 os v (λ le. subst P (sym e) (number_of_vi v ∙ ap (λ x. expected x (v == main) (length (callers_of os v 0 met))) (slice_get_past os v le))) ∙ ap (λ u. number u spaces) e

  same_counts : (counts : List ℕ) → AreCounts os main counts → tallied ≡ counts
  same_counts counts are = links.counted.only tallied are_counts ∙ sym (links.counted.only counts are)

  count_at : (counts : List ℕ) → AreCounts os main counts → (v : ℕ) → number v spaces ≡ slice_index counts v
  count_at counts are v = sym (counted_at v) ∙ ap (λ ns. slice_index ns v) (same_counts counts are)

  nodes_are : (count : ℕ) → IsNodeCount os main count → nodes_over os l.spaces ≡ count
  nodes_are count c = ap (nodes_over os) links.linked.spaces_are ∙ sym (nodes_tally os spaces) ∙ ap (nodes_in os) (c.only tallied are_counts) ∙ sym c.count_is

  is_as_counted : IsAsCounted os main l
  is_as_counted = record {
    spaces = λ counts are v. ap (count_by (λ s. s.vi == v)) links.linked.spaces_are ∙ sym (length-filter (λ s. s.vi == v) spaces) ∙ count_at counts are v;
    nodes = nodes_are;
    few = let e = nodes_are links.count links.counted in let le = links.few in omega (arith, e, le);
    vis = λ counts are v. ap (often v) links.linked.order_is ∙ stands_once met v ∙ ap (min 1) (count_at counts are v);
  }

pub counted : (h : Hierarchy) (main : ℕ) (l : Linked) → Links (outlines_of h) main l → IsAsCounted (outlines_of h) main l
counted h main l links = is_as_counted (outlines_of h) main l links (own_lines h)
