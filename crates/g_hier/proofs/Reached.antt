-- The VIs in link order are those that calls can enter from MAIN on.
use Rattle.std.proofs.Common.{◌≡◌, ◌⊎◌, inl, inr, ⊎_elim, ℕ, zero, suc, ◌<◌, ◌==◌, Bool, true, false, ◌||◌, ◌&&◌, All, List, [], ◌∷◌, ◌++◌, map, length, refl, sym, ap, ◌∙◌, subst, arith}
use Rattle.std.specs.Prelude.{◌↔◌, slice_get, Some, None, Option, if◌then◌else◌}
use Rattle.std.specs.List.{list_any}
use Rattle.std.proofs.lemmas.List.Folds.{list_any-append}
use Rattle.std.proofs.lemmas.List.Elements.{All-nil, All-head, All-tail}
use Rattle.g_graph.proofs.Search.{or_cases, same_number, one_step, one_more}
use Rattle.g_diagram.specs.declared.hierarchy.Clones.{Clones}
use Rattle.g_diagram.specs.declared.hierarchy.Clones.TheVariants.{NonReentrant, Preallocated, Pool}
use Rattle.g_diagram.specs.declared.hierarchy.System.{System}
use Rattle.g_diagram.specs.Leads.{Walk}
use Rattle.g_hier.specs.declared.linked.CallLine.{CallLine}
use Rattle.g_hier.specs.declared.linked.Caller.{Caller}
use Rattle.g_hier.specs.declared.linked.Outline.{Outline}
use Rattle.g_hier.specs.declared.linked.Placed.{Placed}
use Rattle.g_hier.specs.declared.linked.Space.{Space}
use Rattle.g_hier.specs.Outlines.{calls, calls_at, has_call, AreKnown}
use Rattle.g_hier.specs.Recursion.{Reaches}
use Rattle.g_hier.specs.LinkOrder.{system_for, enterable, is_enterable, is_enterable_in, enters, EntersFrom, pool_spaces, placed_by, entered_by, same_space, has_met, Enters, finished, passed, entered, main_placed, AreInLinkOrder, has_vi, with_vi, vis_after, HasSpaces}

-- whether a VI has one of some data spaces
abbrev has_space : List Placed → ℕ → Bool
has_space ps v = list_any (λ p. p.space.vi == v) ps

equal : (x y : ℕ) → x ≡ y → (x == y) ≡ true
equal x y e = grind (arith, e)

or_left : (a b : Bool) → a ≡ true → (a || b) ≡ true
or_left a b h = ap (λ x. x || b) h

or_right : (a b : Bool) → b ≡ true → (a || b) ≡ true
or_right true b h = refl
or_right false b h = h

or_end : (a : Bool) → (a || false) ≡ true → a ≡ true
or_end true h = refl
or_end false h = h

has_both : (ps qs : List Placed) (v : ℕ) → has_space (ps ++ qs) v ≡ (has_space ps v || has_space qs v)
has_both ps qs v = list_any-append (λ p. p.space.vi == v) ps qs

true_and : (a b : Bool) → (a && b) ≡ true → a ≡ true
true_and true b h = refl
true_and false b h = absurd cc

and_right : (a b : Bool) → (a && b) ≡ true → b ≡ true
and_right true b h = h
and_right false b h = absurd cc

and_both : (a b : Bool) → a ≡ true → b ≡ true → (a && b) ≡ true
and_both true b h k = k
and_both false b h k = absurd cc

-- a data space that was met is one of its VI
has_of_met : (met : List Placed) (s : Space) → has_met met s ≡ true → has_space met s.vi ≡ true
has_of_met [] s h = absurd cc
has_of_met (p ∷ met) s h = ⊎_elim
    (λ x. or_left (p.space.vi == s.vi) (has_space met s.vi) (true_and (p.space.vi == s.vi) _ x))
    (λ x. or_right (p.space.vi == s.vi) (has_space met s.vi) (has_of_met met s x))
    (or_cases (same_space p.space s) (has_met met s) h)

-- what a call line enters
pool_only : (vi first n : ℕ) (system : System) (v : ℕ) → has_space (map (λ s. record { space = s; system = system }) (pool_spaces vi first n)) v ≡ true → vi ≡ v
pool_only vi first zero system v h = absurd cc
pool_only vi first (suc n) system v h = ⊎_elim
    (λ x. same_number vi v x)
    (λ x. pool_only vi (suc first) n system v x)
    (or_cases (vi == v) _ h)

enterable_has : (clones : Clones) (vi : ℕ) (caller : Caller) (system : System) → is_enterable clones ≡ true → has_space (map (λ s. record { space = s; system = system }) (enterable clones vi caller)) vi ≡ true
enterable_has NonReentrant vi caller system h = or_left (vi == vi) false (equal vi vi refl)
enterable_has Preallocated vi caller system h = or_left (vi == vi) false (equal vi vi refl)
enterable_has (Pool zero) vi caller system h = absurd cc
enterable_has (Pool (suc n)) vi caller system h = or_left (vi == vi) _ (equal vi vi refl)

enterable_is : (clones : Clones) (vi : ℕ) (caller : Caller) (system : System) (v : ℕ) → has_space (map (λ s. record { space = s; system = system }) (enterable clones vi caller)) v ≡ true → is_enterable clones ≡ true
enterable_is NonReentrant vi caller system v h = refl
enterable_is Preallocated vi caller system v h = refl
enterable_is (Pool zero) vi caller system v h = absurd cc
enterable_is (Pool (suc n)) vi caller system v h = refl

enterable_only : (clones : Clones) (vi : ℕ) (caller : Caller) (system : System) (v : ℕ) → has_space (map (λ s. record { space = s; system = system }) (enterable clones vi caller)) v ≡ true → vi ≡ v
enterable_only NonReentrant vi caller system v h = same_number vi v (or_end (vi == v) h)
enterable_only Preallocated vi caller system v h = same_number vi v (or_end (vi == v) h)
enterable_only (Pool n) vi caller system v h = pool_only vi 0 n system v h

placed_only : (o : Option Outline) (vi : ℕ) (caller : Caller) (system : System) (v : ℕ) → has_space (placed_by o vi caller system) v ≡ true → vi ≡ v
placed_only None vi caller system v h = absurd cc
placed_only (Some o) vi caller system v h = enterable_only o.clones vi caller (system_for o.system system) v h

placed_is : (o : Option Outline) (vi : ℕ) (caller : Caller) (system : System) (v : ℕ) → has_space (placed_by o vi caller system) v ≡ true → is_enterable_in o ≡ true
placed_is None vi caller system v h = absurd cc
placed_is (Some o) vi caller system v h = enterable_is o.clones vi caller (system_for o.system system) v h

placed_has : (o : Option Outline) (vi : ℕ) (caller : Caller) (system : System) → is_enterable_in o ≡ true → has_space (placed_by o vi caller system) vi ≡ true
placed_has None vi caller system h = absurd cc
placed_has (Some o) vi caller system h = enterable_has o.clones vi caller (system_for o.system system) h

entered_only : (os : List Outline) (space : ℕ) (system : System) (cs : List CallLine) (v : ℕ) → has_space (entered_by os space system cs) v ≡ true → has_call v cs ≡ true
entered_only os space system [] v h = absurd cc
entered_only os space system (c ∷ cs) v h =
    let first : List Placed = placed_by (slice_get os c.vi) c.vi (record { space = space; line = c.line }) system in
    ⊎_elim
    (λ x. or_left (c.vi == v) (has_call v cs) (equal c.vi v (placed_only (slice_get os c.vi) c.vi (record { space = space; line = c.line }) system v x)))
    (λ x. or_right (c.vi == v) (has_call v cs) (entered_only os space system cs v x))
    (or_cases (has_space first v) (has_space (entered_by os space system cs) v) (sym (has_both first (entered_by os space system cs) v) ∙ h))

entered_is : (os : List Outline) (space : ℕ) (system : System) (cs : List CallLine) (v : ℕ) → has_space (entered_by os space system cs) v ≡ true → is_enterable_in (slice_get os v) ≡ true
entered_is os space system [] v h = absurd cc
entered_is os space system (c ∷ cs) v h =
    let first : List Placed = placed_by (slice_get os c.vi) c.vi (record { space = space; line = c.line }) system in
    let Q : ℕ → Type 0 = λ u. is_enterable_in (slice_get os u) ≡ true in
    ⊎_elim
    (λ x. subst Q (placed_only (slice_get os c.vi) c.vi (record { space = space; line = c.line }) system v x)
    (placed_is (slice_get os c.vi) c.vi (record { space = space; line = c.line }) system v x))
    (λ x. entered_is os space system cs v x)
    (or_cases (has_space first v) (has_space (entered_by os space system cs) v) (sym (has_both first (entered_by os space system cs) v) ∙ h))

entered_has : (os : List Outline) (space : ℕ) (system : System) (cs : List CallLine) (v : ℕ) → has_call v cs ≡ true → is_enterable_in (slice_get os v) ≡ true
    → has_space (entered_by os space system cs) v ≡ true
entered_has os space system [] v h is = absurd cc
entered_has os space system (c ∷ cs) v h is =
    let first : List Placed = placed_by (slice_get os c.vi) c.vi (record { space = space; line = c.line }) system in
    let Q : ℕ → Type 0 = λ u. has_space first u ≡ true in
    let R : ℕ → Type 0 = λ u. is_enterable_in (slice_get os u) ≡ true in
    has_both first (entered_by os space system cs) v ∙ ⊎_elim
    (λ x. or_left (has_space first v) (has_space (entered_by os space system cs) v)
    (subst Q (same_number c.vi v x) (placed_has (slice_get os c.vi) c.vi (record { space = space; line = c.line }) system (subst R (sym (same_number c.vi v x)) is))))
    (λ x. or_right (has_space first v) (has_space (entered_by os space system cs) v) (entered_has os space system cs v x is))
    (or_cases (c.vi == v) (has_call v cs) h)

-- what is so once data spaces are entered
record Closed (os : List Outline) (met ps after : List Placed) : Type 0 where
  keeps : (v : ℕ) → has_space met v ≡ true → has_space after v ≡ true
  meets : (v : ℕ) → has_space ps v ≡ true → has_space after v ≡ true
  calls_met : (u v : ℕ) → has_space after u ≡ true → enters os u v ≡ true → (has_space met u ≡ true) ⊎ (has_space after v ≡ true)

one_more_met : (met : List Placed) (p : Placed) (v : ℕ) → has_space (met ++ p ∷ []) v ≡ true → (has_space met v ≡ true) ⊎ (p.space.vi ≡ v)
one_more_met met p v h = ⊎_elim
    inl
    (λ x. inr (same_number p.space.vi v (or_end (p.space.vi == v) x)))
    (or_cases (has_space met v) (has_space (p ∷ []) v) (sym (has_both met (p ∷ []) v) ∙ h))

keep_met : (met : List Placed) (p : Placed) (v : ℕ) → has_space met v ≡ true → has_space (met ++ p ∷ []) v ≡ true
keep_met met p v h = has_both met (p ∷ []) v ∙ or_left (has_space met v) (has_space (p ∷ []) v) h

new_met : (met : List Placed) (p : Placed) (v : ℕ) → p.space.vi ≡ v → has_space (met ++ p ∷ []) v ≡ true
new_met met p v e = has_both met (p ∷ []) v ∙ or_right (has_space met v) (has_space (p ∷ []) v) (or_left (p.space.vi == v) false (equal p.space.vi v e))

module _ (os : List Outline) where
  closed : (met ps after : List Placed) → Enters os met ps after → Closed os met ps after
  closed met [] after finished = record { keeps = λ v m. m; meets = λ v m. absurd cc; calls_met = λ u v m c. inl m }
  closed met (p ∷ ps) after (passed h e) =
      let d : Closed os met ps after = closed met ps after e in
      let Q : ℕ → Type 0 = λ u. has_space met u ≡ true in
      record {
        keeps = d.keeps;
        meets = λ v m. ⊎_elim
            (λ x. d.keeps v (subst Q (same_number p.space.vi v x) (has_of_met met p.space h)))
            (d.meets v)
            (or_cases (p.space.vi == v) (has_space ps v) m);
        calls_met = d.calls_met;
      }
  closed met (p ∷ ps) after (entered {within = w} h i e) =
      let into : List Placed = entered_by os (length met) p.system (calls_at os p.space.vi) in
      let di : Closed os (met ++ p ∷ []) into w = closed (met ++ p ∷ []) into w i in
      let de : Closed os w ps after = closed w ps after e in
      record {
        keeps = λ v m. de.keeps v (di.keeps v (keep_met met p v m));
        meets = λ v m. ⊎_elim
            (λ x. de.keeps v (di.keeps v (new_met met p v (same_number p.space.vi v x))))
            (de.meets v)
            (or_cases (p.space.vi == v) (has_space ps v) m);
        calls_met = λ u v m c. ⊎_elim
            (λ mw. ⊎_elim
            (λ mp. ⊎_elim
            inl
            (λ same.
            let Q : ℕ → Type 0 = λ x. enters os x v ≡ true in
            let here : enters os p.space.vi v ≡ true = subst Q (sym same) c in
            inr (de.keeps v (di.meets v
            (entered_has os (length met) p.system (calls_at os p.space.vi) v (true_and (calls os p.space.vi v) _ here) (and_right (calls os p.space.vi v) _ here)))))
            (one_more_met met p u mp))
            (λ mv. inr (de.keeps v mv))
            (di.calls_met u v mw c))
            inr
            (de.calls_met u v m c);
      }

-- what is met is what calls that can enter lead to
sound : (os : List Outline) (P : ℕ → Type 0) → ((u v : ℕ) → P u → enters os u v ≡ true → P v) → (met ps after : List Placed) → Enters os met ps after
    → ((v : ℕ) → has_space met v ≡ true → P v) → ((v : ℕ) → has_space ps v ≡ true → P v) → (v : ℕ) → has_space after v ≡ true → P v
sound os P step met [] after finished m f v a = m v a
sound os P step met (p ∷ ps) after (passed h e) m f v a = sound os P step met ps after e m (λ u x. f u (or_right (p.space.vi == u) (has_space ps u) x)) v a
sound os P step met (p ∷ ps) after (entered {within = w} h i e) m f v a =
    let into : List Placed = entered_by os (length met) p.system (calls_at os p.space.vi) in
    let here : P p.space.vi = f p.space.vi (or_left (p.space.vi == p.space.vi) (has_space ps p.space.vi) (equal p.space.vi p.space.vi refl)) in
    let now : (u : ℕ) → has_space (met ++ p ∷ []) u ≡ true → P u = λ u x. ⊎_elim (m u) (λ same. subst P same here) (one_more_met met p u x) in
    let inside : (u : ℕ) → has_space into u ≡ true → P u = λ u x. step p.space.vi u here
    (and_both (calls os p.space.vi u) _ (entered_only os (length met) p.system (calls_at os p.space.vi) u x) (entered_is os (length met) p.system (calls_at os p.space.vi) u x)) in
    sound os P step w ps after e (sound os P step (met ++ p ∷ []) into w i now inside) (λ u x. f u (or_right (p.space.vi == u) (has_space ps u) x)) v a

main_only : (o : Option Outline) (main v : ℕ) → has_space (main_placed o main) v ≡ true → main ≡ v
main_only None main v h = absurd cc
main_only (Some o) main v h = same_number main v (or_end (main == v) h)

main_has : (os : List Outline) (main : ℕ) → main < length os → has_space (main_placed (slice_get os main) main) main ≡ true
main_has os main lt = at os main lt
  where
    at : (ps : List Outline) (k : ℕ) → k < length ps → has_space (main_placed (slice_get ps k) main) main ≡ true
    at [] k lt = absurd (omega arith)
    at (o ∷ ps) zero lt = or_left (main == main) false (equal main main refl)
    at (o ∷ ps) (suc k) lt = at ps k (omega arith)

-- the VIs of data spaces
with_more : (order : List ℕ) (x v : ℕ) → has_vi (with_vi order x) v ≡ (has_vi order v || (x == v))
with_more order x v = choose (has_vi order x) refl
  where
    or_none : (a b : Bool) → (a || (b || false)) ≡ (a || b)
    or_none true b = refl
    or_none false true = refl
    or_none false false = refl

    there : (b : Bool) → (x == v) ≡ b → has_vi order x ≡ true → has_vi order v ≡ (has_vi order v || b)
    there true e h = let Q : ℕ → Type 0 = λ u. has_vi order u ≡ true in let k : has_vi order v ≡ true = subst Q (same_number x v e) h in k ∙ sym (or_left (has_vi order v) true k)
    there false e h = keep (has_vi order v)
      where
        keep : (a : Bool) → a ≡ (a || false)
        keep true = refl
        keep false = refl

    choose : (b : Bool) → has_vi order x ≡ b → has_vi (if b then order else order ++ x ∷ []) v ≡ (has_vi order v || (x == v))
    choose true h = there (x == v) refl h
    choose false h = list_any-append (λ n. n == v) order (x ∷ []) ∙ or_none (has_vi order v) (x == v)

vis_same : (order : List ℕ) (ps : List Placed) (v : ℕ) → has_vi (vis_after order ps) v ≡ (has_vi order v || has_space ps v)
vis_same order [] v = end (has_vi order v)
  where
    end : (a : Bool) → a ≡ (a || false)
    end true = refl
    end false = refl
vis_same order (p ∷ ps) v =
    vis_same (with_vi order p.space.vi) ps v ∙ ap (λ b. b || has_space ps v) (with_more order p.space.vi v) ∙ assoc (has_vi order v) (p.space.vi == v) (has_space ps v)
  where
    assoc : (a b c : Bool) → ((a || b) || c) ≡ (a || (b || c))
    assoc true b c = refl
    assoc false b c = refl

pub entered_vis : (os : List Outline) (main : ℕ) → main < length os → (met : List Placed) → AreInLinkOrder os main met
    → (v : ℕ) → (has_vi (vis_after [] met) v ≡ true) ↔ EntersFrom os main v
entered_vis os main lt met e v = (λ h. there v (sym (vis_same [] met v) ∙ h), λ r. vis_same [] met v ∙ back v r)
  where
    there : (v : ℕ) → has_space met v ≡ true → EntersFrom os main v
    there v h = sound os (EntersFrom os main)
        (λ u w r c. ⊎_elim
        (λ same. let Q : ℕ → Type 0 = λ x. enters os x w ≡ true in inr (one_step (enters os) main w (subst Q (sym same) c)))
        (λ l. inr (one_more (enters os) main u w l c))
        r)
        [] (main_placed (slice_get os main) main) met e (λ u x. absurd cc) (λ u x. inl (main_only (slice_get os main) main u x)) v h

    first : has_space met main ≡ true
    first = let d : Closed os [] (main_placed (slice_get os main) main) met = closed os [] (main_placed (slice_get os main) main) met e in d.meets main (main_has os main lt)

    next : (u w : ℕ) → has_space met u ≡ true → enters os u w ≡ true → has_space met w ≡ true
    next u w m c =
        let d : Closed os [] (main_placed (slice_get os main) main) met = closed os [] (main_placed (slice_get os main) main) met e in
        ⊎_elim (λ x. absurd cc) (λ x. x) (d.calls_met u w m c)

    back : (v : ℕ) → EntersFrom os main v → has_space met v ≡ true
    back v (inl same) = let Q : ℕ → Type 0 = λ x. has_space met x ≡ true in subst Q same first
    back v (inr l) = along l.0 v l.1
      where
        along : (n v : ℕ) → Walk (enters os) n main v → has_space met v ≡ true
        along zero v w = next main v first w
        along (suc n) v w = next w.0 v (along n w.0 w.1) w.2

-- where each VI has a data space
known_at : (n : ℕ) (os : List Outline) (u : ℕ) → All (λ (o : Outline). All (λ (c : CallLine). c.vi < n) o.calls) os → All (λ (c : CallLine). c.vi < n) (calls_at os u)
known_at n [] u h = All-nil (λ (c : CallLine). c.vi < n)
known_at n (o ∷ os) zero h = All-head (λ (p : Outline). All (λ (c : CallLine). c.vi < n) p.calls) o os h
known_at n (o ∷ os) (suc u) h = known_at n os u (All-tail (λ (p : Outline). All (λ (c : CallLine). c.vi < n) p.calls) o os h)

called_below : (n : ℕ) (cs : List CallLine) (v : ℕ) → All (λ (c : CallLine). c.vi < n) cs → has_call v cs ≡ true → v < n
called_below n [] v below h = absurd cc
called_below n (c ∷ cs) v below h =
    let Q : ℕ → Type 0 = λ u. u < n in
    ⊎_elim
    (λ x. subst Q (same_number c.vi v x) (All-head (λ (d : CallLine). d.vi < n) c cs below))
    (λ x. called_below n cs v (All-tail (λ (d : CallLine). d.vi < n) c cs below) x)
    (or_cases (c.vi == v) (has_call v cs) h)

some_is : (clones : Clones) → HasSpaces clones → is_enterable clones ≡ true
some_is NonReentrant h = refl
some_is Preallocated h = refl
some_is (Pool zero) h = absurd (omega (arith, h))
some_is (Pool (suc n)) h = refl

some_at : (os : List Outline) (v : ℕ) → v < length os → All (λ (o : Outline). HasSpaces o.clones) os → is_enterable_in (slice_get os v) ≡ true
some_at [] v lt h = absurd (omega arith)
some_at (o ∷ os) zero lt h = some_is o.clones (All-head (λ (p : Outline). HasSpaces p.clones) o os h)
some_at (o ∷ os) (suc v) lt h = some_at os v (omega arith) (All-tail (λ (p : Outline). HasSpaces p.clones) o os h)

-- steps of another kind
other_walk : (f g : ℕ → ℕ → Bool) → ((u v : ℕ) → f u v ≡ true → g u v ≡ true) → (n a b : ℕ) → Walk f n a b → Walk g n a b
other_walk f g also zero a b w = also a b w
other_walk f g also (suc n) a b w = (w.0, other_walk f g also n a w.0 w.1, also w.0 b w.2)

pub reached : (os : List Outline) (main : ℕ) → AreKnown os → main < length os → All (λ (o : Outline). HasSpaces o.clones) os → (met : List Placed) → AreInLinkOrder os main met
    → (v : ℕ) → (has_vi (vis_after [] met) v ≡ true) ↔ Reaches os main v
reached os main known lt some met e v = (λ h. down (by.0 h), λ r. by.1 (up r))
  where
    by : (has_vi (vis_after [] met) v ≡ true) ↔ EntersFrom os main v
    by = entered_vis os main lt met e v

    down : EntersFrom os main v → Reaches os main v
    down (inl same) = inl same
    down (inr l) = inr (l.0, other_walk (enters os) (calls os) (λ u w. true_and (calls os u w) _) l.0 main v l.1)

    all_enter : (u w : ℕ) → calls os u w ≡ true → enters os u w ≡ true
    all_enter u w c = and_both (calls os u w) _ c (some_at os w (called_below (length os) (calls_at os u) w (known_at (length os) os u known) c) some)

    up : Reaches os main v → EntersFrom os main v
    up (inl same) = inl same
    up (inr l) = inr (l.0, other_walk (calls os) (enters os) all_enter l.0 main v l.1)
