-- One step of the counting.
use Rattle.std.proofs.Common.{◌≡◌, ◌⊎◌, ⊎_elim, ℕ, zero, suc, ◌+◌, ◌*◌, ◌-◌, ◌<◌, ◌≤◌, ◌==◌, List, [], ◌∷◌, ◌++◌, length, refl, sym, ap, ◌∙◌, subst, arith, length-set}
use Rattle.std.specs.Prelude.{slice_get, slice_index, slice_set, Some}
use Rattle.std.proofs.lemmas.Bool.{cases_lt}
use Rattle.g_hier.specs.declared.linked.CallLine.{CallLine}
use Rattle.g_hier.specs.declared.linked.Outline.{Outline}
use Rattle.g_hier.specs.Counts.{one_if, calls_to, callers, count_for, told}
use Rattle.g_hier.specs.Settling.{times, total, pushed, freed, SettledCalls, Settling}
use Rattle.g_hier.proofs.Numbers.{told_add, told_product, told_count, one_same, one_apart, set_at, times_push, times_pushed, length_pushed, total_set, freed_none, freed_now, freed_later}
use Rattle.g_hier.proofs.Calls.{callers_set}

times_one : (c k : ℕ) → c * (k + 1) ≡ c * k + c
times_one c k = grind arith

pub settled_start : (count : ℕ) (w i r : List ℕ) → ((v : ℕ) → v < length i → slice_index i v ≤ 9223372036854775808) → SettledCalls count [] w i r w i r
settled_start count w i r small = record {
  long_waits = refl;
  long_comes = refl;
  waits_less = λ v lt. omega arith;
  comes_more = λ v lt. let h = small v lt in omega arith;
  now_ready = λ v lt. same (slice_index w v) (times v r);
  beyond = λ v le. refl;
  measure = omega arith;
}
  where
    same : (a t : ℕ) → t ≡ t + freed a a
    same zero t = omega arith
    same (suc a) t = omega arith

-- one more call line, which calls u
module _ (count : ℕ) (cs ds : List CallLine) (u : ℕ) (w i r x j s x' j' s' : List ℕ) (f : SettledCalls count cs w i r x j s)
    (more : (v : ℕ) → calls_to v ds ≡ calls_to v cs + one_if (u == v))
    (long : length w ≡ length i) (within : u < length i) (awaited : 0 < slice_index x u)
    (waits : x' ≡ slice_set x u (slice_index x u - 1))
    (comes : j' ≡ slice_set j u (told (slice_index j u + count)))
    (stands : s' ≡ pushed (slice_index x u - 1) s u) where
  in_x : u < length x
  in_x = let e = f.long_waits in omega arith

  in_j : u < length j
  in_j = let e = f.long_comes in omega arith

  waits_at : (v : ℕ) → ((v ≡ u) × (slice_index x' v ≡ slice_index x u - 1)) ⊎ ((v ≡ u → ⊥) × (slice_index x' v ≡ slice_index x v))
  waits_at v = let P : List ℕ → Type 0 = λ l. ((v ≡ u) × (slice_index l v ≡ slice_index x u - 1)) ⊎ ((v ≡ u → ⊥) × (slice_index l v ≡ slice_index x v)) in
      subst P (sym waits) (set_at x u (slice_index x u - 1) v in_x)

  comes_at : (v : ℕ) → ((v ≡ u) × (slice_index j' v ≡ told (slice_index j u + count))) ⊎ ((v ≡ u → ⊥) × (slice_index j' v ≡ slice_index j v))
  comes_at v = let P : List ℕ → Type 0 = λ l. ((v ≡ u) × (slice_index l v ≡ told (slice_index j u + count))) ⊎ ((v ≡ u → ⊥) × (slice_index l v ≡ slice_index j v)) in
      subst P (sym comes) (set_at j u (told (slice_index j u + count)) v in_j)

  more_same : (v : ℕ) → v ≡ u → calls_to v ds ≡ calls_to v cs + 1
  more_same v e = more v ∙ ap (λ n. calls_to v cs + n) (one_same u v (sym e))

  more_apart : (v : ℕ) → (v ≡ u → ⊥) → calls_to v ds ≡ calls_to v cs
  more_apart v apart = more v ∙ ap (λ n. calls_to v cs + n) (one_apart u v (λ e. apart (sym e))) ∙ omega arith

  waits_same : (v : ℕ) → v < length i → v ≡ u → slice_index x' v ≡ slice_index x u - 1 → slice_index x' v + calls_to v ds ≡ slice_index w v
  waits_same v lt e h =
      let a = f.waits_less v lt in
      let b = more_same v e in
      let c : slice_index x v ≡ slice_index x u = ap (slice_index x) e in
      omega (arith, a, b, c, h, awaited)

  waits_apart : (v : ℕ) → v < length i → (v ≡ u → ⊥) → slice_index x' v ≡ slice_index x v → slice_index x' v + calls_to v ds ≡ slice_index w v
  waits_apart v lt apart h = let a = f.waits_less v lt in let b = more_apart v apart in omega (arith, a, b, h)

  comes_same : (v : ℕ) → v < length i → v ≡ u → slice_index j' v ≡ told (slice_index j u + count) → slice_index j' v ≡ told (slice_index i v + count * calls_to v ds)
  comes_same v lt e h =
      h
      ∙ ap (λ y. told (y + count)) (ap (slice_index j) (sym e) ∙ f.comes_more v lt)
      ∙ told_add (slice_index i v + count * calls_to v cs) count
      ∙ ap told (group (slice_index i v) (count * calls_to v cs) count ∙ ap (λ n. slice_index i v + n) (sym (times_one count (calls_to v cs)) ∙ ap (λ n. count * n) (sym (more_same v e))))
    where
      group : (a b c : ℕ) → (a + b) + c ≡ a + (b + c)
      group a b c = omega arith

  comes_apart : (v : ℕ) → v < length i → (v ≡ u → ⊥) → slice_index j' v ≡ slice_index j v → slice_index j' v ≡ told (slice_index i v + count * calls_to v ds)
  comes_apart v lt apart h = h ∙ f.comes_more v lt ∙ ap (λ n. told (slice_index i v + count * n)) (sym (more_apart v apart))

  times_now : (v : ℕ) → times v s' ≡ times v (pushed (slice_index x u - 1) s u)
  times_now v = ap (times v) stands

  ready_same : (v : ℕ) → v < length i → v ≡ u → slice_index x' v ≡ slice_index x u - 1 → times v s' ≡ times v r + freed (slice_index w v) (slice_index x' v)
  ready_same v lt e h =
      let a = f.waits_less v lt in
      let b = f.now_ready v lt in
      let c : slice_index x v ≡ slice_index x u = ap (slice_index x) e in
      let up : 0 < slice_index x v = omega (arith, c, awaited) in
      let later = freed_later (slice_index w v) (slice_index x v) up in
      let pushes = times_pushed v (slice_index x u - 1) s u in
      let one = one_same u v (sym e) in
      let t = times_now v in
      ⊎_elim
      (λ (some : 0 < slice_index x u - 1). let l = freed_later (slice_index w v) (slice_index x' v) (omega (arith, some, h)) in let p = pushes.1 some in omega (arith, b, later, l, p, t))
      (λ (none : slice_index x u - 1 ≤ 0). let l = freed_now (slice_index w v) (slice_index x' v) (omega (arith, a, up)) (omega (arith, h, none)) in let p = pushes.0 (omega (arith, none)) in omega (arith, b, later, l, p, t, one))
      (cases_lt 0 (slice_index x u - 1))

  times_apart : (v : ℕ) → (v ≡ u → ⊥) → times v s' ≡ times v s
  times_apart v apart =
      let pushes = times_pushed v (slice_index x u - 1) s u in
      let one = one_apart u v (λ e. apart (sym e)) in
      let t = times_now v in
      ⊎_elim
      (λ (some : 0 < slice_index x u - 1). t ∙ pushes.1 some)
      (λ (none : slice_index x u - 1 ≤ 0). let p = pushes.0 (omega (arith, none)) in omega (arith, t, p, one))
      (cases_lt 0 (slice_index x u - 1))

  ready_apart : (v : ℕ) → v < length i → (v ≡ u → ⊥) → slice_index x' v ≡ slice_index x v → times v s' ≡ times v r + freed (slice_index w v) (slice_index x' v)
  ready_apart v lt apart h = times_apart v apart ∙ f.now_ready v lt ∙ ap (λ n. times v r + freed (slice_index w v) n) (sym h)

  pub settled_more : SettledCalls count ds w i r x' j' s'
  settled_more = record {
    long_waits = ap length waits ∙ length-set x u (slice_index x u - 1) ∙ f.long_waits;
    long_comes = ap length comes ∙ length-set j u (told (slice_index j u + count)) ∙ f.long_comes;
    waits_less = λ v lt. ⊎_elim (λ h. waits_same v lt h.0 h.1) (λ h. waits_apart v lt h.0 h.1) (waits_at v);
    comes_more = λ v lt. ⊎_elim (λ h. comes_same v lt h.0 h.1) (λ h. comes_apart v lt h.0 h.1) (comes_at v);
    now_ready = λ v lt. ⊎_elim (λ h. ready_same v lt h.0 h.1) (λ h. ready_apart v lt h.0 h.1) (waits_at v);
    beyond = λ v le. times_apart v (λ e. absurd (omega (arith, within, e, le))) ∙ f.beyond v le;
    measure =
        let t = ap total waits in
        let a = total_set x u (slice_index x u - 1) in_x in
        let l = ap length stands in
        let b = length_pushed (slice_index x u - 1) s u in
        let m = f.measure in
        omega (arith, t, a, l, b, m, awaited);
  }

-- what is known of a ready VI
pub record Popped (os : List Outline) (left r : List ℕ) (x : ℕ) : Type 0 where
  pub none : callers x os left ≡ 0
  pub is_left : slice_index left x ≡ 1
  pub gone : times x r ≡ 0

pub popped : (os : List Outline) (main : ℕ) (w i t r : List ℕ) (x : ℕ) (f : Settling os main w i t (r ++ x ∷ [])) → x < length os → Popped os f.left r x
popped os main w i t r x f lt =
    let b = times_push x r x in
    let d = one_same x x refl in
    let none : callers x os f.left ≡ 0 = ⊎_elim
    (λ (some : 0 < callers x os f.left). let a = f.not_ready x lt some in absurd (omega (arith, a, b, d)))
    (λ (le : callers x os f.left ≤ 0). omega (arith, le))
    (cases_lt 0 (callers x os f.left)) in
    let a = f.is_ready x lt none in
    let e = f.one_left x in
    record { none = none; is_left = omega (arith, a, b, d, e); gone = omega (arith, a, b, d, e) }

pub ready_below : (os : List Outline) (main : ℕ) (w i t s r : List ℕ) (x : ℕ) (f : Settling os main w i t s) → s ≡ r ++ x ∷ [] → x < length os
ready_below os main w i t s r x f e = ⊎_elim
    (λ lt. lt)
    (λ le. let a = f.beyond x le in let b = times_push x r x in let d = one_same x x refl in let g = ap (times x) e in absurd (omega (arith, a, b, d, g)))
    (cases_lt x (length os))

fewer_at : (os : List Outline) (left : List ℕ) (x : ℕ) (o : Outline) → length left ≡ length os → slice_get os x ≡ Some o → slice_index left x ≡ 1 → (v : ℕ) → callers v os (slice_set left x 0) + calls_to v o.calls ≡ callers v os left
fewer_at os left x o long at is_left v =
    let a = callers_set v os left x 0 o long at in
    let b : slice_index left x * calls_to v o.calls ≡ calls_to v o.calls = ap (λ n. n * calls_to v o.calls) is_left ∙ omega arith in
    omega (arith, a, b)

pub settle_awaits : (os : List Outline) (main : ℕ) (w i t r : List ℕ) (x : ℕ) (o : Outline) (f : Settling os main w i t (r ++ x ∷ [])) → slice_get os x ≡ Some o → x < length os
    → (v : ℕ) → v < length i → calls_to v o.calls ≤ slice_index w v
settle_awaits os main w i t r x o f at lt v below =
    let p = popped os main w i t r x f lt in
    let a = fewer_at os f.left x o f.long_left at p.is_left v in
    let e = f.long_incoming in
    let b = f.waiting_is v (omega (arith, e, below)) in
    omega (arith, a, b)

-- a VI is settled
module _ (os : List Outline) (main : ℕ) (w i t r : List ℕ) (x : ℕ) (o : Outline) (c : ℕ) (w' i' r' : List ℕ)
    (f : Settling os main w i t (r ++ x ∷ [])) (at : slice_get os x ≡ Some o) (lt : x < length os)
    (is : c ≡ count_for (x == main) o.clones (slice_index i x)) (small : c ≤ 9223372036854775808)
    (calls : SettledCalls c o.calls w i r w' i' r') where
  exact : ℕ
  exact = count_for (x == main) o.clones (callers x os f.counts)

  counts' : List ℕ
  counts' = slice_set f.counts x (count_for (x == main) o.clones (callers x os f.counts))

  left' : List ℕ
  left' = slice_set f.left x 0

  stood : (v : ℕ) → times v (r ++ x ∷ []) ≡ times v r + one_if (x == v)
  stood v = times_push v r x

  pop : Popped os f.left r x
  pop = popped os main w i t r x f lt

  none : callers x os f.left ≡ 0
  none = pop.none

  is_left : slice_index f.left x ≡ 1
  is_left = pop.is_left

  gone : times x r ≡ 0
  gone = pop.gone

  fewer : (v : ℕ) → callers v os (slice_set f.left x 0) + calls_to v o.calls ≡ callers v os f.left
  fewer v = fewer_at os f.left x o f.long_left at is_left v

  more : (v : ℕ) → callers v os counts' ≡ callers v os f.counts + exact * calls_to v o.calls
  unfolding counts' exact
  more v =
      let a = callers_set v os f.counts x (count_for (x == main) o.clones (callers x os f.counts)) o f.long_counts at in
      let b : slice_index f.counts x * calls_to v o.calls ≡ 0 = ap (λ n. n * calls_to v o.calls) (f.none_yet x is_left) ∙ omega arith in
      omega (arith, a, b)

  left_at : (v : ℕ) → ((v ≡ x) × (slice_index (slice_set f.left x 0) v ≡ 0)) ⊎ ((v ≡ x → ⊥) × (slice_index (slice_set f.left x 0) v ≡ slice_index f.left v))
  left_at v = set_at f.left x 0 v (let e = f.long_left in omega (arith, e, lt))

  counts_at : (v : ℕ) → ((v ≡ x) × (slice_index counts' v ≡ exact)) ⊎ ((v ≡ x → ⊥) × (slice_index counts' v ≡ slice_index f.counts v))
  unfolding counts' exact
  counts_at v = set_at f.counts x (count_for (x == main) o.clones (callers x os f.counts)) v (let e = f.long_counts in omega (arith, e, lt))

  told_exact : c ≡ told exact
  unfolding exact
  told_exact =
      let P : ℕ → Type 0 = λ n. n ≤ 9223372036854775808 in
      is ∙ told_count (x == main) o.clones (slice_index i x) (callers x os f.counts) (f.incoming_is x lt) (subst P is small)

  own : calls_to x o.calls ≡ 0
  own = let a = fewer x in let b = none in omega (arith, a, b)

  told_at : (v : ℕ) → slice_index (slice_set t x c) v ≡ told (slice_index counts' v)
  told_at v = ⊎_elim
      (λ h. ⊎_elim (λ k. h.1 ∙ told_exact ∙ ap told (sym k.1)) (λ k. absurd (k.0 h.0)) (counts_at v))
      (λ h. ⊎_elim (λ k. absurd (h.0 k.0)) (λ k. h.1 ∙ f.told_is v ∙ ap told (sym k.1)) (counts_at v))
      (set_at t x c v (let e = f.long_told in omega (arith, e, lt)))

  waits_are : (v : ℕ) → v < length os → slice_index w' v ≡ callers v os (slice_set f.left x 0)
  waits_are v l = let a = calls.waits_less v (let e = f.long_incoming in omega (arith, e, l)) in let b = f.waiting_is v l in let d = fewer v in omega (arith, a, b, d)

  comes_are : (v : ℕ) → v < length os → slice_index i' v ≡ told (callers v os counts')
  comes_are v l =
      calls.comes_more v (let e = f.long_incoming in omega (arith, e, l))
      ∙ ap (λ n. told (n + c * calls_to v o.calls)) (f.incoming_is v l)
      ∙ ap (λ n. told (told (callers v os f.counts) + n * calls_to v o.calls)) told_exact
      ∙ told_product (callers v os f.counts) exact (calls_to v o.calls)
      ∙ ap told (sym (more v))

  same_outline : (v : ℕ) (p : Outline) → v ≡ x → slice_get os v ≡ Some p → p ≡ o
  same_outline v p e h = let k : slice_get os v ≡ Some o = ap (slice_get os) e ∙ at in cc (h, k)

  settled_now : (v : ℕ) (p : Outline) → v ≡ x → slice_get os v ≡ Some p → slice_index counts' v ≡ exact → slice_index counts' v ≡ count_for (v == main) p.clones (callers v os counts')
  unfolding exact
  settled_now v p e h k =
      let P : ℕ → Type 0 = λ y. slice_index counts' v ≡ count_for (y == main) p.clones (callers y os counts') in
      let Q : Outline → Type 0 = λ q. slice_index counts' v ≡ count_for (x == main) q.clones (callers x os counts') in
      let zero_more : callers x os counts' ≡ callers x os f.counts = more x ∙ ap (λ n. callers x os f.counts + exact * n) own ∙ omega arith in
      subst P (sym e) (subst Q (sym (same_outline v p e h)) (k ∙ ap (count_for (x == main) o.clones) (sym zero_more)))

  settled_before : (v : ℕ) (p : Outline) → v < length os → slice_get os v ≡ Some p → slice_index f.left v ≡ 0 → slice_index counts' v ≡ slice_index f.counts v → slice_index counts' v ≡ count_for (v == main) p.clones (callers v os counts')
  settled_before v p l h z k =
      let a = fewer v in
      let b = f.callers_first v l z in
      let none_to : calls_to v o.calls ≡ 0 = omega (arith, a, b) in
      let zero_more : callers v os counts' ≡ callers v os f.counts = more v ∙ ap (λ n. callers v os f.counts + exact * n) none_to ∙ omega arith in
      k ∙ f.settled v p h z ∙ ap (count_for (v == main) p.clones) (sym zero_more)

  got_below : (v : ℕ) (ps : List Outline) (p : Outline) → slice_get ps v ≡ Some p → v < length ps
  got_below v [] p h = absurd cc
  got_below zero (q ∷ ps) p h = omega arith
  got_below (suc v) (q ∷ ps) p h = let k = got_below v ps p h in omega (arith, k)

  settled_then : (v : ℕ) (p : Outline) → slice_get os v ≡ Some p → slice_index (slice_set f.left x 0) v ≡ 0 → slice_index counts' v ≡ count_for (v == main) p.clones (callers v os counts')
  settled_then v p h z = ⊎_elim
      (λ k. settled_now v p k.0 h k.1)
      (λ k. ⊎_elim (λ m. absurd (k.0 m.0)) (λ m. settled_before v p (got_below v os p h) h (sym m.1 ∙ z) k.1) (left_at v))
      (counts_at v)

  first_then : (v : ℕ) → v < length os → slice_index (slice_set f.left x 0) v ≡ 0 → callers v os (slice_set f.left x 0) ≡ 0
  first_then v l z = let a = fewer v in ⊎_elim
      (λ k. let b : callers v os f.left ≡ 0 = ap (λ y. callers y os f.left) k.0 ∙ none in omega (arith, a, b))
      (λ k. let b = f.callers_first v l (sym k.1 ∙ z) in omega (arith, a, b))
      (left_at v)

  ready_then : (v : ℕ) → v < length os → times v r' ≡ times v r + freed (callers v os f.left) (callers v os (slice_set f.left x 0))
  ready_then v l =
      calls.now_ready v (let e = f.long_incoming in omega (arith, e, l))
      ∙ ap (λ n. times v r + freed n (slice_index w' v)) (f.waiting_is v l)
      ∙ ap (λ n. times v r + freed (callers v os f.left) n) (waits_are v l)

  is_ready_then : (v : ℕ) → v < length os → callers v os (slice_set f.left x 0) ≡ 0 → times v r' ≡ slice_index (slice_set f.left x 0) v
  is_ready_then v l z = ⊎_elim
      (λ (some : 0 < callers v os f.left).
      let a = freed_now (callers v os f.left) (callers v os (slice_set f.left x 0)) some z in
      let b = ready_then v l in
      let d = f.not_ready v l some in
      let e = stood v in
      ⊎_elim
      (λ k. let m : callers v os f.left ≡ 0 = ap (λ y. callers y os f.left) k.0 ∙ none in absurd (omega (arith, m, some)))
      (λ k.
      let m = k.1 in
      let n = f.one_left v in
      let up : 0 < slice_index f.left v = above (slice_index f.left v) (λ q. let g = f.callers_first v l q in omega (arith, g, some)) in
      omega (arith, a, b, d, e, m, n, up))
      (left_at v))
      (λ (le : callers v os f.left ≤ 0).
      let y : callers v os f.left ≡ 0 = omega (arith, le) in
      let a : freed (callers v os f.left) (callers v os (slice_set f.left x 0)) ≡ 0 = ap (λ n. freed n (callers v os (slice_set f.left x 0))) y ∙ freed_none (callers v os (slice_set f.left x 0)) in
      let b = ready_then v l in
      let d = f.is_ready v l y in
      let e = stood v in
      ⊎_elim
      (λ k. let g : times v r ≡ 0 = ap (λ q. times q r) k.0 ∙ gone in let m = k.1 in omega (arith, a, b, g, m))
      (λ k. let m = k.1 in let n = one_apart x v (λ q. k.0 (sym q)) in omega (arith, a, b, d, e, m, n))
      (left_at v))
      (cases_lt 0 (callers v os f.left))
    where
      above : (n : ℕ) → (n ≡ 0 → ⊥) → 0 < n
      above zero h = absurd (h refl)
      above (suc n) h = omega arith

  not_ready_then : (v : ℕ) → v < length os → 0 < callers v os (slice_set f.left x 0) → times v r' ≡ 0
  not_ready_then v l some =
      let a = freed_later (callers v os f.left) (callers v os (slice_set f.left x 0)) some in
      let b = ready_then v l in
      let g = fewer v in
      let d = f.not_ready v l (omega (arith, g, some)) in
      let e = stood v in
      omega (arith, a, b, d, e)

  none_yet_then : (v : ℕ) → slice_index (slice_set f.left x 0) v ≡ 1 → slice_index counts' v ≡ 0
  none_yet_then v h = ⊎_elim
      (λ k. let m = k.1 in absurd (omega (arith, m, h)))
      (λ k. ⊎_elim (λ m. absurd (k.0 m.0)) (λ m. m.1 ∙ f.none_yet v (sym k.1 ∙ h)) (counts_at v))
      (left_at v)

  long_counts_then : length counts' ≡ length os
  unfolding counts'
  long_counts_then = length-set f.counts x (count_for (x == main) o.clones (callers x os f.counts)) ∙ f.long_counts

  pub settling_next : Settling os main w' i' (slice_set t x c) r'
  settling_next = record {
    counts = counts';
    left = slice_set f.left x 0;
    long_waiting = calls.long_waits ∙ f.long_waiting;
    long_incoming = calls.long_comes ∙ f.long_incoming;
    long_told = length-set t x c ∙ f.long_told;
    long_counts = long_counts_then;
    long_left = length-set f.left x 0 ∙ f.long_left;
    one_left = λ v. ⊎_elim (λ k. let m = k.1 in omega (arith, m)) (λ k. let m = k.1 in let n = f.one_left v in omega (arith, m, n)) (left_at v);
    none_yet = none_yet_then;
    waiting_is = waits_are;
    incoming_is = comes_are;
    told_is = told_at;
    settled = settled_then;
    callers_first = first_then;
    is_ready = is_ready_then;
    not_ready = not_ready_then;
    beyond = λ v le. let a = calls.beyond v (let e = f.long_incoming in omega (arith, e, le)) in let b = stood v in let d = f.beyond v le in omega (arith, a, b, d);
  }
