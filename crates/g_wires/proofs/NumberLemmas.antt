-- Numbers of wires.
use Rattle.std.proofs.Common.{◌≡◌, ◌⊎◌, inl, inr, ⊎_elim, ℕ, ◌+◌, ◌<◌, ◌==◌, Bool, true, false, ◌&&◌, cond, List, refl, sym, ap, ◌∙◌, subst, arith}
use Rattle.std.specs.Prelude.{Option, Some, None}
use Rattle.std.specs.Option.{IsSome}
use Rattle.std.specs.declared.cmp.Ordering.{Ordering}
use Rattle.std.specs.declared.cmp.Ordering.TheVariants.{Less, Equal, Greater}
use Rattle.std.specs.Ordering.{ordering_then, nat_cmp, is_eq}
use Rattle.std.specs.Cmp.{unsigned_tied}
use Rattle.std.specs.Cmp.Lexicographic.{slice_cmp}
use Rattle.std.specs.Str.{bytes_eq}
use Rattle.std.specs.BTreeMap.{btree_map_len}
use Rattle.std.proofs.lemmas.Map.Text.{is_eq-slice_cmp}
use Rattle.std.proofs.lemmas.Slice.Eq.{bytes_eq-Decides}
use denote.Ref.{Bor}
use Rattle.g_diagram_ports.specs.declared.port.Port.{Port}
use Rattle.g_wires.specs.Coding.{Table, number_at, is_numbered, has_wire_of, Numbers}
use Rattle.g_wires.proofs.Found.{and_left, and_right, and_both, same_number}

-- the test of a key
abbrev pub is_key : (d : ℕ) (name : List ℕ) (e : ℕ) (other : List ℕ) → Bool
is_key d name e other = is_eq (ordering_then (nat_cmp d e) (slice_cmp nat_cmp name other))

is_eq-then : (r o : Ordering) → is_eq (ordering_then r o) ≡ (is_eq r && is_eq o)
is_eq-then Less o = refl
is_eq-then Equal o = refl
is_eq-then Greater o = refl

pub key_is : (d : ℕ) (name : List ℕ) (e : ℕ) (other : List ℕ) → is_key d name e other ≡ ((d == e) && bytes_eq name other)
key_is d name e other = is_eq-then (nat_cmp d e) (slice_cmp nat_cmp name other)
    ∙ ap (λ b. b && is_eq (slice_cmp nat_cmp name other)) (unsigned_tied d e) ∙ ap (λ b. (d == e) && b) (is_eq-slice_cmp name other)

same_key : (d : ℕ) (name : List ℕ) (e : ℕ) (other : List ℕ) → is_key d name e other ≡ true → (d ≡ e) × (name ≡ other)
same_key d name e other h = let k : ((d == e) && bytes_eq name other) ≡ true = sym (key_is d name e other) ∙ h in
    (same_number d e (and_left (d == e) (bytes_eq name other) k), (bytes_eq-Decides name other).0 (and_right (d == e) (bytes_eq name other) k))

-- what a table with one more wire has
pub record Adds (old new : Table) (d : ℕ) (name : List ℕ) (v : ℕ) : Type 0 where
  pub at : (e : ℕ) (other : List ℕ) → number_at new e other ≡ cond (is_key d name e other) (Some v) (number_at old e other)
  pub long : btree_map_len new ≡ v + 1
  pub next : btree_map_len old ≡ v

below_step : (b : Bool) (u : ℕ) (o : Option ℕ) (v : ℕ) → cond b (Some u) o ≡ Some v → (o ≡ Some v → v < u) → v < u + 1
below_step true u o v e old = let same : u ≡ v = cc in omega arith
below_step false u o v e old = let lt = old e in omega arith

apart_step : {R : Type 0} (b c : Bool) (u : ℕ) (o p : Option ℕ) (v : ℕ) → cond b (Some u) o ≡ Some v → cond c (Some u) p ≡ Some v
    → (o ≡ Some v → v < u) → (p ≡ Some v → v < u) → (o ≡ Some v → p ≡ Some v → R) → (b ≡ true → c ≡ true → R) → R
apart_step true true u o p v e f lo lp both keys = keys refl refl
apart_step true false u o p v e f lo lp both keys = let same : u ≡ v = cc in let lt = lp f in absurd (omega arith)
apart_step false true u o p v e f lo lp both keys = let same : u ≡ v = cc in let lt = lo e in absurd (omega arith)
apart_step false false u o p v e f lo lp both keys = both e f

some_step : (b : Bool) (u : ℕ) (o : Option ℕ) → (b ≡ true) ⊎ IsSome o → IsSome (cond b (Some u) o)
some_step true u o h = refl
some_step false u o h = ⊎_elim (λ e. absurd_false e) (λ s. s) h
  where
    absurd_false : {T : Type 0} → false ≡ true → T
    absurd_false e = cc

module _ (old new : Table) (d : ℕ) (name : List ℕ) (v : ℕ) (adds : Adds old new d name v) where
  pub numbers_more : Numbers old → Numbers new
  numbers_more n = record {
    below = λ e other u h. let lt : u < v + 1 = below_step (is_key d name e other) v (number_at old e other) u (sym (adds.at e other) ∙ h) (λ k. let k2 = n.below e other u k in omega (arith, k2, adds.next)) in omega (arith, lt, adds.long);
    apart = λ e f other more u h k.
        apart_step (is_key d name e other) (is_key d name f more) v (number_at old e other) (number_at old f more) u (sym (adds.at e other) ∙ h) (sym (adds.at f more) ∙ k)
        (λ x. let x2 = n.below e other u x in omega (arith, x2, adds.next)) (λ x. let x2 = n.below f more u x in omega (arith, x2, adds.next))
        (λ x y. n.apart e f other more u x y)
        (λ x y. let p = same_key d name e other x in let q = same_key d name f more y in (sym p.0 ∙ q.0, sym p.1 ∙ q.1));
  }

  pub has_new : IsSome (number_at new d name)
  has_new = let P : Option ℕ → Type 0 = IsSome in subst P (sym (adds.at d name))
      (some_step (is_key d name d name) v (number_at old d name) (inl (key_is d name d name ∙ and_both (d == d) (bytes_eq name name) (grind arith) ((bytes_eq-Decides name name).1 refl))))

  kept : (e : ℕ) (w : Option (Bor (List ℕ))) → is_numbered old e w → is_numbered new e w
  kept e None h = tt
  kept e (Some other) h = let P : Option ℕ → Type 0 = IsSome in subst P (sym (adds.at e other.now)) (some_step (is_key d name e other.now) v (number_at old e other.now) (inr h))

  pub has_kept : (p : Port) → has_wire_of old p → has_wire_of new p
  has_kept p h = kept p.diagram p.wire h

pub port_has : (m : Table) (p : Port) (name : Bor (List ℕ)) (bytes : List ℕ) → p.wire ≡ Some name → bytes ≡ name.now → IsSome (number_at m p.diagram bytes) → has_wire_of m p
port_has m p name bytes is same has =
    let P : Option (Bor (List ℕ)) → Type 0 = is_numbered m p.diagram in
    let Q : List ℕ → Type 0 = λ n. IsSome (number_at m p.diagram n) in
    subst P (sym is) (subst Q same has)
