-- Walks from node to node, through wires.
use Rattle.std.proofs.Common.{◌≡◌, ◌⊎◌, inl, inr, ⊎_elim, ℕ, zero, suc, ◌+◌, ◌<◌, ◌≤◌, Bool, true, false, not, ◌&&◌, ◌==◌, List, refl, sym, ap, ◌∙◌, subst, arith}
use Rattle.std.specs.Prelude.{Option, Some, None, All, filter}
use Rattle.std.specs.List.{list_any}
use Rattle.g_diagram.specs.Leads.{Walk, Leads}
use Rattle.g_graph.proofs.Search.{one_step, one_more}
use Rattle.g_graph.proofs.Shows.{leads_join}
use Rattle.g_wires.specs.declared.coded.Coded.{Coded}
use Rattle.g_wires.specs.Coding.{IsBelow}
use Rattle.g_wires.specs.Marks.{is_number, NodeBelow, edge_ends, are_ends, is_edge, coded_feeds, coded_wire, same_number_of}
use Rattle.g_wires.proofs.Found.{Found, found, any_filter, and_left, and_right, and_both, same_number, number_same}

number_is : (o : Option ℕ) (n : ℕ) → is_number o n ≡ true → o ≡ Some n
number_is None n h = cc
number_is (Some m) n h = ap Some (same_number m n h)

is_number_is : (o : Option ℕ) (n : ℕ) → o ≡ Some n → is_number o n ≡ true
is_number_is o n e = rw e (number_same n)

-- a source's edge, and a consumer's
record Gives (lines a b : ℕ) (s : Bool) (n w : Option ℕ) : Type 0 where
  is : s ≡ true
  node : n ≡ Some a
  number : ℕ
  wire : w ≡ Some number
  end : lines + number ≡ b

record Takes (lines a b : ℕ) (s : Bool) (n w : Option ℕ) : Type 0 where
  is : s ≡ false
  node : n ≡ Some b
  number : ℕ
  wire : w ≡ Some number
  start : lines + number ≡ a
  below : b < lines

from_node : (lines a b : ℕ) (s : Bool) (n w : Option ℕ) → a < lines → are_ends (edge_ends lines s n w) a b ≡ true → Gives lines a b s n w
from_node lines a b s None w lt h = cc
from_node lines a b s (Some n) None lt h = cc
from_node lines a b true (Some n) (Some v) lt h = record {
  is = refl;
  node = ap Some (same_number n a (and_left (n == a) (lines + v == b) h));
  number = v;
  wire = refl;
  end = same_number (lines + v) b (and_right (n == a) (lines + v == b) h);
}
from_node lines a b false (Some n) (Some v) lt h = let e = same_number (lines + v) a (and_left (lines + v == a) (n == b) h) in absurd (omega arith)

from_wire : (lines a b : ℕ) (s : Bool) (n w : Option ℕ) → IsBelow lines n → lines ≤ a → are_ends (edge_ends lines s n w) a b ≡ true → Takes lines a b s n w
from_wire lines a b s None w below le h = cc
from_wire lines a b s (Some n) None below le h = cc
from_wire lines a b true (Some n) (Some v) below le h = let e = same_number n a (and_left (n == a) (lines + v == b) h) in absurd (omega arith)
from_wire lines a b false (Some n) (Some v) below le h = let e : n ≡ b = same_number n b (and_right (lines + v == a) (n == b) h) in record {
  is = refl;
  node = ap Some e;
  number = v;
  wire = refl;
  start = same_number (lines + v) a (and_left (lines + v == a) (n == b) h);
  below = omega arith;
}

source_edge : (lines a v : ℕ) (s : Bool) (n w : Option ℕ) → s ≡ true → n ≡ Some a → w ≡ Some v → are_ends (edge_ends lines s n w) a (lines + v) ≡ true
source_edge lines a v s n w es en ew = rw es (rw en (rw ew (and_both (a == a) (lines + v == lines + v) (number_same a) (number_same (lines + v)))))

consumer_edge : (lines b v : ℕ) (s : Bool) (n w : Option ℕ) → s ≡ false → n ≡ Some b → w ≡ Some v → are_ends (edge_ends lines s n w) (lines + v) b ≡ true
consumer_edge lines b v s n w es en ew = rw es (rw en (rw ew (and_both (lines + v == lines + v) (b == b) (number_same (lines + v)) (number_same b))))

not_true : (b : Bool) → not b ≡ true → b ≡ false
not_true true h = cc
not_true false h = refl

-- one wire between two nodes: its source and its consumer
record Wired (lines a b : ℕ) (cs : List Coded) : Type 0 where
  number : ℕ
  source : Coded
  is_source : source.is_source ≡ true
  source_node : source.node ≡ Some a
  source_wire : source.wire ≡ Some number
  has_source : (f : Coded → Bool) → f source ≡ true → list_any f cs ≡ true
  consumer : Coded
  is_consumer : consumer.is_source ≡ false
  consumer_node : consumer.node ≡ Some b
  consumer_wire : consumer.wire ≡ Some number
  has_consumer : (f : Coded → Bool) → f consumer ≡ true → list_any f cs ≡ true
  below : a < lines

record Shared (x y : Option ℕ) : Type 0 where
  number : ℕ
  first : x ≡ Some number
  second : y ≡ Some number

shared : (x y : Option ℕ) → same_number_of x y ≡ true → Shared x y
shared None y h = cc
shared (Some v) None h = cc
shared (Some v) (Some u) h = record { number = v; first = refl; second = ap Some (sym (same_number v u h)) }

share : (x y : Option ℕ) (v : ℕ) → x ≡ Some v → y ≡ Some v → same_number_of x y ≡ true
share x y v ex ey = rw ex (rw ey (number_same v))

below_of : (lines a : ℕ) (n : Option ℕ) → IsBelow lines n → n ≡ Some a → a < lines
below_of lines a None below e = cc
below_of lines a (Some m) below e = let same : m ≡ a = cc in omega arith

module _ (lines : ℕ) (cs : List Coded) (nodes : All (NodeBelow lines) cs) where
  abbrev step : ℕ → ℕ → Bool
  step a b = list_any (is_edge lines a b) cs

  wired : (a b : ℕ) → coded_wire cs a b ≡ true → Wired lines a b cs
  wired a b h =
      let s : Found (NodeBelow lines) (λ s. s.is_source && list_any (coded_feeds a b s) (filter (λ c. not c.is_source) cs)) cs =
      found (NodeBelow lines) (λ s. s.is_source && list_any (coded_feeds a b s) (filter (λ c. not c.is_source) cs)) cs nodes
      (sym (any_filter (λ s. list_any (coded_feeds a b s) (filter (λ c. not c.is_source) cs)) (λ s. s.is_source) cs) ∙ h) in
      let inner = and_right s.item.is_source (list_any (coded_feeds a b s.item) (filter (λ c. not c.is_source) cs)) s.passes in
      let c : Found (NodeBelow lines) (λ c. not c.is_source && coded_feeds a b s.item c) cs =
      found (NodeBelow lines) (λ c. not c.is_source && coded_feeds a b s.item c) cs nodes (sym (any_filter (coded_feeds a b s.item) (λ c. not c.is_source) cs) ∙ inner) in
      let feeds = and_right (not c.item.is_source) (coded_feeds a b s.item c.item) c.passes in
      let ends = and_left (is_number s.item.node a && is_number c.item.node b) (same_number_of s.item.wire c.item.wire) feeds in
      let one : Shared s.item.wire c.item.wire = shared s.item.wire c.item.wire (and_right (is_number s.item.node a && is_number c.item.node b) (same_number_of s.item.wire c.item.wire) feeds) in
      record {
        number = one.number;
        source = s.item;
        is_source = and_left s.item.is_source (list_any (coded_feeds a b s.item) (filter (λ c. not c.is_source) cs)) s.passes;
        source_node = number_is s.item.node a (and_left (is_number s.item.node a) (is_number c.item.node b) ends);
        source_wire = one.first;
        has_source = s.within;
        consumer = c.item;
        is_consumer = not_true c.item.is_source (and_left (not c.item.is_source) (coded_feeds a b s.item c.item) c.passes);
        consumer_node = number_is c.item.node b (and_right (is_number s.item.node a) (is_number c.item.node b) ends);
        consumer_wire = one.second;
        has_consumer = c.within;
        below = below_of lines a s.item.node s.holds (number_is s.item.node a (and_left (is_number s.item.node a) (is_number c.item.node b) ends));
      }

  -- a wire is two edges
  two_edges : (a b : ℕ) → coded_wire cs a b ≡ true → Leads step a b
  two_edges a b h = let w : Wired lines a b cs = wired a b h in
      one_more step a (lines + w.number) b
      (one_step step a (lines + w.number) (w.has_source (is_edge lines a (lines + w.number)) (source_edge lines a w.number w.source.is_source w.source.node w.source.wire w.is_source w.source_node w.source_wire)))
      (w.has_consumer (is_edge lines (lines + w.number) b) (consumer_edge lines b w.number w.consumer.is_source w.consumer.node w.consumer.wire w.is_consumer w.consumer_node w.consumer_wire))

  to_edges : (n a b : ℕ) → Walk (coded_wire cs) n a b → Leads step a b
  to_edges zero a b w = two_edges a b w
  to_edges (suc n) a b w = leads_join step a w.0 b (to_edges n a w.0 w.1) (two_edges w.0 b w.2)

  -- how far a walk from node a has come at a wire
  record Reached (a v : ℕ) : Type 0 where
    node : ℕ
    from : (node ≡ a) ⊎ Leads (coded_wire cs) a node
    source : Coded
    is_source : source.is_source ≡ true
    source_node : source.node ≡ Some node
    source_wire : source.wire ≡ Some v
    has_source : (f : Coded → Bool) → f source ≡ true → list_any f cs ≡ true

  record At (a x : ℕ) : Type 0 where
    at_node : x < lines → Leads (coded_wire cs) a x
    at_wire : (v : ℕ) → lines + v ≡ x → Reached a v

  past_node : (a c x : ℕ) → c < lines → (c ≡ a) ⊎ Leads (coded_wire cs) a c → step c x ≡ true → At a x
  past_node a c x lt from h =
      let p : Found (NodeBelow lines) (is_edge lines c x) cs = found (NodeBelow lines) (is_edge lines c x) cs nodes h in
      let g : Gives lines c x p.item.is_source p.item.node p.item.wire = from_node lines c x p.item.is_source p.item.node p.item.wire lt p.passes in
      record {
        at_node = λ below. absurd (omega (arith, g.end));
        at_wire = λ v e. record {
          node = c;
          from = from;
          source = p.item;
          is_source = g.is;
          source_node = g.node;
          source_wire = g.wire ∙ ap Some (omega (arith, g.end, e));
          has_source = p.within;
        };
      }

  one_wire : (a b v : ℕ) (s c : Coded) → s.is_source ≡ true → s.node ≡ Some a → s.wire ≡ Some v → ((f : Coded → Bool) → f s ≡ true → list_any f cs ≡ true)
      → c.is_source ≡ false → c.node ≡ Some b → c.wire ≡ Some v → ((f : Coded → Bool) → f c ≡ true → list_any f cs ≡ true) → coded_wire cs a b ≡ true
  one_wire a b v s c es en ew hs fc fn fw hc =
      let feeds : coded_feeds a b s c ≡ true = and_both (is_number s.node a && is_number c.node b) (same_number_of s.wire c.wire)
      (and_both (is_number s.node a) (is_number c.node b) (is_number_is s.node a en) (is_number_is c.node b fn)) (share s.wire c.wire v ew fw) in
      let inner : list_any (coded_feeds a b s) (filter (λ c. not c.is_source) cs) ≡ true =
      any_filter (coded_feeds a b s) (λ c. not c.is_source) cs
      ∙ hc (λ c. not c.is_source && coded_feeds a b s c) (and_both (not c.is_source) (coded_feeds a b s c) (ap not fc) feeds) in
      any_filter (λ s. list_any (coded_feeds a b s) (filter (λ c. not c.is_source) cs)) (λ s. s.is_source) cs
      ∙ hs (λ s. s.is_source && list_any (coded_feeds a b s) (filter (λ c. not c.is_source) cs)) (and_both s.is_source (list_any (coded_feeds a b s) (filter (λ c. not c.is_source) cs)) es inner)

  past_wire : (a c x : ℕ) → lines ≤ c → ((v : ℕ) → lines + v ≡ c → Reached a v) → step c x ≡ true → At a x
  past_wire a c x le reached h =
      let p : Found (NodeBelow lines) (is_edge lines c x) cs = found (NodeBelow lines) (is_edge lines c x) cs nodes h in
      let t : Takes lines c x p.item.is_source p.item.node p.item.wire = from_wire lines c x p.item.is_source p.item.node p.item.wire p.holds le p.passes in
      let r : Reached a t.number = reached t.number t.start in
      let wire : coded_wire cs r.node x ≡ true =
      one_wire r.node x t.number r.source p.item r.is_source r.source_node r.source_wire r.has_source t.is t.node t.wire p.within in
      record {
        at_node = λ below. ⊎_elim
            (λ e. let P : ℕ → Type 0 = λ m. Leads (coded_wire cs) m x in subst P e (one_step (coded_wire cs) r.node x wire))
            (λ l. one_more (coded_wire cs) a r.node x l wire)
            r.from;
        at_wire = λ v e. let b = t.below in absurd (omega arith);
      }

  below_or : (c : ℕ) → (c < lines) ⊎ (lines ≤ c)
  below_or c = grind arith

  from_edges : (n a x : ℕ) → a < lines → Walk step n a x → At a x
  from_edges zero a x lt w = past_node a a x lt (inl refl) w
  from_edges (suc n) a x lt w =
      let at : At a w.0 = from_edges n a w.0 lt w.1 in
      ⊎_elim (λ below. past_node a w.0 x below (inr (at.at_node below)) w.2) (λ le. past_wire a w.0 x le at.at_wire w.2) (below_or w.0)

  pub wires_lead : (a : ℕ) → a < lines → Leads step a a → Leads (coded_wire cs) a a
  wires_lead a lt l = let at : At a a = from_edges l.0 a a lt l.1 in at.at_node lt

  pub edges_lead : (a : ℕ) → Leads (coded_wire cs) a a → Leads step a a
  edges_lead a l = to_edges l.0 a a l.1

  -- wires lead from a line only if it is one of a node
  start_below : (a b : ℕ) → coded_wire cs a b ≡ true → a < lines
  start_below a b h = (wired a b h).below

  pub lead_below : (n a b : ℕ) → Walk (coded_wire cs) n a b → a < lines
  lead_below zero a b w = start_below a b w
  lead_below (suc n) a b w = lead_below n a w.0 w.1
