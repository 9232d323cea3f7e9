-- The call lines of all VIs, and the breaks of those that are marked.
use Rattle.std.proofs.Common.{◌≡◌, ⊎_elim, ℕ, zero, suc, ◌+◌, ◌<◌, ◌≤◌, ◌==◌, Bool, true, false, ◌||◌, List, [], ◌∷◌, ◌++◌, map, length, get_or, All, refl, sym, ap, ◌∙◌, subst, arith}
use Rattle.std.specs.Prelude.{Contains}
use Rattle.std.specs.Ordering.{is_eq}
use Rattle.std.proofs.lemmas.List.{length-map, get_or-map}
use Rattle.std.proofs.lemmas.List.Folds.{list_any-append}
use Rattle.std.proofs.lemmas.List.Elements.{All-nil, All-head, All-tail, All-append, All-map, Contains-get_or, Contains-append_left, Contains-append_right}
use Rattle.g_graph.specs.Graph.{Graph, has_edge, is_marked, TellsCycles}
use Rattle.g_graph.proofs.Search.{or_cases}
use Rattle.g_diagram.specs.declared.place.Break.{Break}
use Rattle.g_diagram.specs.Leads.{Walk, Leads}
use Rattle.g_hier.specs.declared.graph.HeldCall.{HeldCall}
use Rattle.g_hier.specs.declared.linked.CallLine.{CallLine}
use Rattle.g_hier.specs.declared.linked.Outline.{Outline}
use Rattle.g_hier.specs.Outlines.{calls, calls_at, has_call, AreKnown}
use Rattle.g_rules_breaks.specs.Breaks.{break_cmp, has_break, ListsEach}
use Rattle.g_hier.specs.Recursion.{IsRecursion, Reaches}
use Rattle.g_hier.specs.CallGraph.{held, held_from, EndsBelow, edges, recursion_at, break_if, breaks_from}
use Rattle.g_hier.proofs.CallsBack.{CallTo, call_to, IsAt, is_at, at_is}
use Rattle.g_hier.proofs.WalkBack.{nothing, call_at, Calls, leads_back, leads_around}
use Rattle.std.specs.List.Sorted.{IsStrictlySortedBy}

-- a call line as its VI holds it
abbrev line_of : HeldCall → CallLine
line_of h = record { line = h.line; vi = h.called }

record HeldBy (vi : ℕ) (os : List Outline) (h : HeldCall) : Type 0 where
  at : ℕ
  holder_is : h.holder ≡ vi + at
  stands : Contains (calls_at os at) (line_of h)

held_all : (vi : ℕ) (os : List Outline) → All (HeldBy vi os) (held_from vi os)
held_all vi [] = All-nil (HeldBy vi [])
held_all vi (o ∷ os) =
    All-append (HeldBy vi (o ∷ os)) (map (held vi) o.calls) (held_from (suc vi) os)
    (All-map (HeldBy vi (o ∷ os)) (held vi) o.calls (λ k d lt. record { at = 0; holder_is = omega arith; stands = Contains-get_or o.calls k d lt }))
    (λ k d lt. let b : HeldBy (suc vi) os (get_or (held_from (suc vi) os) k d) = held_all (suc vi) os k d lt in
    let e = b.holder_is in
    record { at = suc b.at; holder_is = omega (arith, e); stands = b.stands })

contains_map : {X Y : Type 0} (f : X → Y) (xs : List X) (x : X) → Contains xs x → Contains (map f xs) (f x)
contains_map f xs x c = let long = length-map xs f in let lt = c.1 in (c.0, omega (arith, long, lt), get_or-map f xs c.0 x (f x) lt ∙ ap f c.2)

held_of : (vi : ℕ) (os : List Outline) (u : ℕ) (c : CallLine) → Contains (calls_at os u) c → Contains (held_from vi os) (held (vi + u) c)
held_of vi [] u c h = absurd (let lt = h.1 in omega (arith, lt))
held_of vi (o ∷ os) zero c h =
    let e : vi ≡ vi + 0 = omega arith in
    let P : ℕ → Type 0 = λ v. Contains (held_from vi (o ∷ os)) (held v c) in
    subst P e (Contains-append_left (map (held vi) o.calls) (held_from (suc vi) os) (held vi c) (contains_map (held vi) o.calls c h))
held_of vi (o ∷ os) (suc u) c h =
    let e : suc vi + u ≡ vi + suc u = omega arith in
    let P : ℕ → Type 0 = λ v. Contains (held_from vi (o ∷ os)) (held v c) in
    subst P e (Contains-append_right (map (held vi) o.calls) (held_from (suc vi) os) (held (suc vi + u) c) (held_of (suc vi) os u c h))

ends_from : (m vi : ℕ) (os : List Outline) → vi + length os ≤ m → All (λ (o : Outline). All (λ (c : CallLine). c.vi < m) o.calls) os → All (EndsBelow m) (held_from vi os)
ends_from m vi [] le h = All-nil (EndsBelow m)
ends_from m vi (o ∷ os) le h =
    let P : Outline → Type 0 = λ p. All (λ (c : CallLine). c.vi < m) p.calls in
    All-append (EndsBelow m) (map (held vi) o.calls) (held_from (suc vi) os)
    (All-map (EndsBelow m) (held vi) o.calls (λ k d lt. (omega arith, All-head P o os h k d lt)))
    (ends_from m (suc vi) os (omega arith) (All-tail P o os h))

-- the ends of call lines are VIs
pub ends_known : (os : List Outline) → AreKnown os → All (EndsBelow (length os)) (held_from 0 os)
ends_known os h = ends_from (length os) 0 os (omega arith) h

same_is : (x y : ℕ) (b : Bool) → x ≡ y → ((x == y) || b) ≡ true
same_is x y b e = grind (arith, e)

or_right : (a b : Bool) → b ≡ true → (a || b) ≡ true
or_right true b h = refl
or_right false b h = h

or_left : (a b : Bool) → a ≡ true → (a || b) ≡ true
or_left a b h = ap (λ x. x || b) h

has_at : (cs : List CallLine) (k : ℕ) (d : CallLine) (v : ℕ) → k < length cs → (get_or cs k d).vi ≡ v → has_call v cs ≡ true
has_at [] k d v lt e = absurd (omega arith)
has_at (c ∷ cs) zero d v lt e = same_is c.vi v (has_call v cs) e
has_at (c ∷ cs) (suc k) d v lt e = or_right (c.vi == v) (has_call v cs) (has_at cs k d v (omega arith) e)

module _ (os : List Outline) where
  held_by : (k : ℕ) → k < length (held_from 0 os) → HeldBy 0 os (call_at (held_from 0 os) k)
  held_by k lt = held_all 0 os k nothing lt

  each_calls : (k : ℕ) → k < length (held_from 0 os) → calls os (call_at (held_from 0 os) k).holder (call_at (held_from 0 os) k).called ≡ true
  each_calls k lt =
      let h : HeldCall = call_at (held_from 0 os) k in
      let b : HeldBy 0 os h = held_by k lt in
      let is = b.holder_is in
      let e : b.at ≡ h.holder = omega (arith, is) in
      let P : ℕ → Type 0 = λ v. calls os v h.called ≡ true in
      subst P e (has_at (calls_at os b.at) b.stands.0 (line_of h) h.called b.stands.1 (ap (λ (c : CallLine). c.vi) b.stands.2))

  -- the number of a call line
  record Numbered (u : ℕ) (c : CallLine) : Type 0 where
    at : ℕ
    below : at < length (held_from 0 os)
    is : call_at (held_from 0 os) at ≡ held u c

  numbered : (u : ℕ) (c : CallLine) → Contains (calls_at os u) c → Numbered u c
  numbered u c h =
      let m = held_of 0 os u c h in
      let e : 0 + u ≡ u = omega arith in
      record { at = m.0; below = m.1; is = default_free (held_from 0 os) m.0 nothing (held (0 + u) c) m.1 ∙ m.2 ∙ ap (λ v. held v c) e }
    where
      default_free : (xs : List HeldCall) (k : ℕ) (d e : HeldCall) → k < length xs → get_or xs k d ≡ get_or xs k e
      default_free [] k d e lt = absurd (omega arith)
      default_free (x ∷ xs) zero d e lt = refl
      default_free (x ∷ xs) (suc k) d e lt = default_free xs k d e (omega arith)

  found_calls : (u v : ℕ) → calls os u v ≡ true → Calls (held_from 0 os) u v
  found_calls u v e =
      let c : CallTo (calls_at os u) v = call_to (calls_at os u) v e in
      let m : Numbered u c.call = numbered u c.call c.stands in
      record { at = m.at; below = m.below; from = ap (λ (h : HeldCall). h.holder) m.is; to = ap (λ (h : HeldCall). h.called) m.is ∙ c.calls }

-- a marked call line
record Marked (mark : ℕ → Bool) (v : ℕ) (hs : List HeldCall) (b : Break) : Type 0 where
  at : ℕ
  below : at < length hs
  marked : mark (v + at) ≡ true
  is : is_eq (break_cmp b (recursion_at (call_at hs at).holder (call_at hs at).line)) ≡ true

has_both : (xs ys : List Break) (b : Break) → has_break (xs ++ ys) b ≡ (has_break xs b || has_break ys b)
has_both xs ys b = list_any-append (λ c. is_eq (break_cmp b c)) xs ys

or_end : (a : Bool) → (a || false) ≡ true → a ≡ true
or_end true e = refl
or_end false e = e

broken_marked : (mark : ℕ → Bool) (v : ℕ) (hs : List HeldCall) (b : Break) → has_break (breaks_from mark v hs) b ≡ true → Marked mark v hs b
broken_marked mark v [] b e = absurd cc
broken_marked mark v (h ∷ hs) b e = ⊎_elim
    (λ x. here (mark v) refl x)
    (λ x. let m : Marked mark (suc v) hs b = broken_marked mark (suc v) hs b x in
    let f : v + suc m.at ≡ suc v + m.at = omega arith in
    record { at = suc m.at; below = let lt = m.below in omega (arith, lt); marked = ap mark f ∙ m.marked; is = m.is })
    (or_cases (has_break (break_if (mark v) h) b) (has_break (breaks_from mark (suc v) hs) b) (sym (has_both (break_if (mark v) h) (breaks_from mark (suc v) hs) b) ∙ e))
  where
    here : (m : Bool) → mark v ≡ m → has_break (break_if m h) b ≡ true → Marked mark v (h ∷ hs) b
    here true k x = let f : v + 0 ≡ v = omega arith in record { at = 0; below = omega arith; marked = ap mark f ∙ k; is = or_end (is_eq (break_cmp b (recursion_at h.holder h.line))) x }
    here false k x = absurd cc

marked_broken : (mark : ℕ → Bool) (v : ℕ) (hs : List HeldCall) (b : Break) (k : ℕ) → k < length hs → mark (v + k) ≡ true → is_eq (break_cmp b (recursion_at (call_at hs k).holder (call_at hs k).line)) ≡ true
    → has_break (breaks_from mark v hs) b ≡ true
marked_broken mark v [] b k lt m e = absurd (omega arith)
marked_broken mark v (h ∷ hs) b zero lt m e =
    let f : v ≡ v + 0 = omega arith in
    let one : has_break (break_if true h) b ≡ true = or_left (is_eq (break_cmp b (recursion_at h.holder h.line))) false e in
    has_both (break_if (mark v) h) (breaks_from mark (suc v) hs) b
    ∙ or_left (has_break (break_if (mark v) h) b) (has_break (breaks_from mark (suc v) hs) b) (ap (λ x. has_break (break_if x h) b) (ap mark f ∙ m) ∙ one)
marked_broken mark v (h ∷ hs) b (suc k) lt m e =
    let f : suc v + k ≡ v + suc k = omega arith in
    has_both (break_if (mark v) h) (breaks_from mark (suc v) hs) b
    ∙ or_right (has_break (break_if (mark v) h) b) (has_break (breaks_from mark (suc v) hs) b) (marked_broken mark (suc v) hs b k (omega arith) (ap mark f ∙ m) e)

walk_same : (f g : ℕ → ℕ → Bool) → ((a b : ℕ) → f a b ≡ g a b) → (n a b : ℕ) → Walk f n a b → Walk g n a b
walk_same f g same zero a b w = sym (same a b) ∙ w
walk_same f g same (suc n) a b w = (w.0, walk_same f g same n a w.0 w.1, sym (same w.0 b) ∙ w.2)

module _ (os : List Outline) (known : AreKnown os) (g : Graph) (marks : List Bool) (long : length g ≡ length os + length (held_from 0 os))
    (edge : (a b : ℕ) → has_edge g a b ≡ edges (length os) (held_from 0 os) a b) (tells : TellsCycles g (length g) marks) where
  back : (k : ℕ) → k < length (held_from 0 os) → is_marked marks (length os + k) ≡ true → Reaches os (call_at (held_from 0 os) k).called (call_at (held_from 0 os) k).holder
  back k lt m =
      let v : ℕ = length os + k in
      let l : Leads (has_edge g) v v = tells.sound v (omega (arith, long, lt)) m in
      leads_back (length os) (held_from 0 os) (ends_known os known) (calls os) (each_calls os) (found_calls os) k lt (l.0, walk_same (has_edge g) (edges (length os) (held_from 0 os)) edge l.0 v v l.1)

  around : (k : ℕ) → k < length (held_from 0 os) → Reaches os (call_at (held_from 0 os) k).called (call_at (held_from 0 os) k).holder → is_marked marks (length os + k) ≡ true
  around k lt r =
      let v : ℕ = length os + k in
      let l = leads_around (length os) (held_from 0 os) (ends_known os known) (calls os) (each_calls os) (found_calls os) k lt r in
      tells.complete v (omega (arith, long, lt)) (l.0, walk_same (edges (length os) (held_from 0 os)) (has_edge g) (λ a b. sym (edge a b)) l.0 v v l.1)

  recursion : (b : Break) → Marked (is_marked marks) (length os) (held_from 0 os) b → IsRecursion os b
  recursion b m =
      let h : HeldCall = call_at (held_from 0 os) m.at in
      let i : IsAt b h.holder h.line = is_at b h.holder h.line m.is in
      let y : HeldBy 0 os h = held_by os m.at m.below in
      let y_is = y.holder_is in
      let i_is = i.vi_is in
      let e : y.at ≡ b.place.vi = omega (arith, y_is, i_is) in
      let P : ℕ → Type 0 = λ v. Contains (calls_at os v) (line_of h) in
      let Q : ℕ → Type 0 = λ v. Reaches os h.called v in
      record { rule = i.rule; whole = i.whole; call = line_of h; stands = subst P e y.stands; line = sym i.line_is; back = subst Q (sym i.vi_is) (back m.at m.below m.marked) }

  broken : (b : Break) → IsRecursion os b → has_break (breaks_from (is_marked marks) (length os) (held_from 0 os)) b ≡ true
  broken b r =
      let m : Numbered os b.place.vi r.call = numbered os b.place.vi r.call r.stands in
      let P : HeldCall → Type 0 = λ h. Reaches os h.called h.holder in
      let Q : HeldCall → Type 0 = λ h. is_eq (break_cmp b (recursion_at h.holder h.line)) ≡ true in
      marked_broken (is_marked marks) (length os) (held_from 0 os) b m.at m.below
      (around m.at m.below (subst P (sym m.is) r.back))
      (subst Q (sym m.is) (at_is b b.place.vi r.call.line (record { vi_is = refl; line_is = sym r.line; whole = r.whole; rule = r.rule })))

  pub lists_recursions : (bs : List Break) → IsStrictlySortedBy break_cmp bs → ((b : Break) → has_break bs b ≡ has_break (breaks_from (is_marked marks) (length os) (held_from 0 os)) b)
      → ListsEach (IsRecursion os) bs
  lists_recursions bs order same = record {
    ascending = order;
    only = λ b h. recursion b (broken_marked (is_marked marks) (length os) (held_from 0 os) b (sym (same b) ∙ h));
    each = λ b r. same b ∙ broken b r;
  }
