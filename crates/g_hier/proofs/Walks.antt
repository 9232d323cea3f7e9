-- The walk along the calls, with its stack: the next data space is the last on it.
use Rattle.std.proofs.Common.{◌≡◌, ℕ, zero, suc, ◌+◌, ◌-◌, ◌<◌, ◌≤◌, Bool, true, false, ◌||◌, ◌&&◌, ◌==◌, cond, List, [], ◌∷◌, ◌++◌, reverse, length, get_or, take, drop, refl, sym, ap, ◌∙◌, arith, append_assoc, subst}
use Rattle.std.specs.Prelude.{slice_get, Some, None, Option, if◌then◌else◌}
use Rattle.std.specs.Option.{option_cmp}
use Rattle.std.specs.declared.cmp.Ordering.{Ordering}
use Rattle.std.specs.declared.cmp.Ordering.TheVariants.{Less, Equal, Greater}
use Rattle.std.specs.Ordering.{is_eq, ordering_then, nat_cmp}
use Rattle.std.specs.Cmp.{unsigned_tied}
use Rattle.std.specs.BTreeSet.{BTreeSet, contains, Updates}
use Rattle.std.proofs.lemmas.List.{reverse-append, reverse-reverse}
use Rattle.std.proofs.lemmas.List.Folds.{list_any-append}
use Rattle.std.proofs.lemmas.Option.{slice_get_past}
use Rattle.g_diagram.specs.declared.hierarchy.System.{System}
use Rattle.g_hier.specs.declared.linked.CallLine.{CallLine}
use Rattle.g_hier.specs.declared.linked.Caller.{Caller}
use Rattle.g_hier.specs.declared.linked.Outline.{Outline}
use Rattle.g_hier.specs.declared.linked.Placed.{Placed}
use Rattle.g_hier.specs.declared.linked.Space.{Space}
use Rattle.g_hier.specs.Outlines.{calls_at}
use Rattle.g_hier.specs.LinkOrder.{same_caller, same_space, has_met, placed_by, entered_by, Enters, finished, passed, entered, main_placed, AreInLinkOrder, has_vi, with_vi, vis_after}
use Rattle.g_hier.specs.Walking.{caller_cmp, space_cmp, pool_placed, unmet, Continues}

-- equal data spaces
is_eq-then : (r o : Ordering) → is_eq (ordering_then r o) ≡ (is_eq r && is_eq o)
is_eq-then Less o = refl
is_eq-then Equal o = refl
is_eq-then Greater o = refl

both : (a b c d : Bool) → a ≡ c → b ≡ d → (a && b) ≡ (c && d)
both a b c d p q = ap (λ x. x && b) p ∙ ap (λ y. c && y) q

caller_same : (a b : Option Caller) → is_eq (option_cmp caller_cmp a b) ≡ same_caller a b
caller_same None None = refl
caller_same None (Some b) = refl
caller_same (Some a) None = refl
caller_same (Some a) (Some b) = is_eq-then (nat_cmp a.space b.space) (nat_cmp a.line b.line) ∙ both _ _ _ _ (unsigned_tied a.space b.space) (unsigned_tied a.line b.line)

pub space_same : (a b : Space) → is_eq (space_cmp a b) ≡ same_space a b
space_same a b =
    is_eq-then (nat_cmp a.vi b.vi) (ordering_then (nat_cmp a.clone b.clone) (option_cmp caller_cmp a.caller b.caller))
    ∙ both _ _ _ _ (unsigned_tied a.vi b.vi)
    (is_eq-then (nat_cmp a.clone b.clone) (option_cmp caller_cmp a.caller b.caller) ∙ both _ _ _ _ (unsigned_tied a.clone b.clone) (caller_same a.caller b.caller))

cond_or : (a b : Bool) → cond a true b ≡ (b || (a || false))
cond_or true true = refl
cond_or true false = refl
cond_or false true = refl
cond_or false false = refl

-- one more data space was met
pub met_more : (met : List Placed) (p : Placed) (s t : BTreeSet Space) → Updates space_cmp s t p.space true → ((q : Space) → contains space_cmp s q ≡ has_met met q)
    → (q : Space) → contains space_cmp t q ≡ has_met (met ++ p ∷ []) q
met_more met p s t u h q =
    u.0 q
    ∙ cond_or (is_eq (space_cmp p.space q)) (contains space_cmp s q)
    ∙ ap (λ b. b || (is_eq (space_cmp p.space q) || false)) (h q)
    ∙ ap (λ b. has_met met q || (b || false)) (space_same p.space q)
    ∙ sym (list_any-append (λ (r : Placed). same_space r.space q) met (p ∷ []))

pub unmet_same : (f g : Space → Bool) → ((s : Space) → f s ≡ g s) → (ps : List Placed) → unmet f ps ≡ unmet g ps
unmet_same f g same [] = refl
unmet_same f g same (p ∷ ps) =
    ap (λ b. if b then unmet f ps else p ∷ ps) (same p.space) ∙ ap (λ rest. if g p.space then rest else p ∷ ps) (unmet_same f g same ps)

-- a stack, from its top
pub reverse_push : (xs : List Placed) (p : Placed) → reverse (xs ++ p ∷ []) ≡ p ∷ reverse xs
reverse_push xs p = reverse-append xs (p ∷ [])

pub unmet_drop : (f : Space → Bool) (xs ys : List Placed) (p : Placed) → xs ≡ ys ++ p ∷ [] → f p.space ≡ true → unmet f (reverse xs) ≡ unmet f (reverse ys)
unmet_drop f xs ys p e h = ap (λ zs. unmet f (reverse zs)) e ∙ ap (unmet f) (reverse_push ys p) ∙ ap (λ b. if b then unmet f (reverse ys) else p ∷ reverse ys) h

pub unmet_take : (f : Space → Bool) (xs ys : List Placed) (p : Placed) → xs ≡ ys ++ p ∷ [] → f p.space ≡ false → unmet f (reverse xs) ≡ p ∷ reverse ys
unmet_take f xs ys p e h = ap (λ zs. unmet f (reverse zs)) e ∙ ap (unmet f) (reverse_push ys p) ∙ ap (λ b. if b then unmet f (reverse ys) else p ∷ reverse ys) h

pub unmet_none : (f : Space → Bool) (xs : List Placed) → length xs ≡ 0 → unmet f (reverse xs) ≡ []
unmet_none f [] e = refl
unmet_none f (x ∷ xs) e = absurd (omega (arith, e))

-- what is stacked before stands below
pub stack_more : (old mid new a b : List Placed) → mid ≡ old ++ reverse b → new ≡ mid ++ reverse a → new ≡ old ++ reverse (a ++ b)
stack_more old mid new a b e f =
    f ∙ ap (λ m. m ++ reverse a) e ∙ append_assoc old (reverse b) (reverse a) ∙ ap (λ r. old ++ r) (sym (reverse-append a b))

-- one more clone of a pool, from the last on
pub pool_more : (vi count done : ℕ) (system : System) → done < count
    → pool_placed vi (count - (done + 1)) (done + 1) system ≡ record { space = record { vi = vi; clone = count - 1 - done; caller = None }; system = system } ∷ pool_placed vi (count - done) done system
pool_more vi count done system lt =
    let e : done + 1 ≡ suc done = omega arith in
    let f : count - (done + 1) ≡ count - 1 - done = omega arith in
    let g : suc (count - 1 - done) ≡ count - done = omega arith in
    ap (λ n. pool_placed vi (count - (done + 1)) n system) e
    ∙ ap (λ n. pool_placed vi n (suc done) system) f
    ∙ ap (λ n. record { space = record { vi = vi; clone = count - 1 - done; caller = None }; system = system } ∷ pool_placed vi n done system) g

-- one more call line, from the last on
pub calls_more_from : (os : List Outline) (space : ℕ) (system : System) (cs : List CallLine) (done : ℕ) (d : CallLine) → done < length cs
    → entered_by os space system (drop (length cs - (done + 1)) cs)
    ≡ placed_by (slice_get os (get_or cs (length cs - 1 - done) d).vi) (get_or cs (length cs - 1 - done) d).vi (record { space = space; line = (get_or cs (length cs - 1 - done) d).line }) system
    ++ entered_by os space system (drop (length cs - done) cs)
calls_more_from os space system cs done d lt =
    let f : length cs - (done + 1) ≡ length cs - 1 - done = omega arith in
    let g : suc (length cs - 1 - done) ≡ length cs - done = omega arith in
    ap (λ n. entered_by os space system (drop n cs)) f
    ∙ ap (entered_by os space system) (drop_at cs (length cs - 1 - done) d (omega arith))
    ∙ ap (λ n. placed_by (slice_get os (get_or cs (length cs - 1 - done) d).vi) (get_or cs (length cs - 1 - done) d).vi (record { space = space; line = (get_or cs (length cs - 1 - done) d).line }) system ++ entered_by os space system (drop n cs)) g
  where
    drop_at : (xs : List CallLine) (k : ℕ) (d : CallLine) → k < length xs → drop k xs ≡ get_or xs k d ∷ drop (suc k) xs
    drop_at [] k d h = absurd (omega arith)
    drop_at (x ∷ xs) zero d h = refl
    drop_at (x ∷ xs) (suc k) d h = drop_at xs k d (omega arith)

-- what is entered in two parts
record Parts (os : List Outline) (met first others after : List Placed) : Type 0 where
  within : List Placed
  enters_first : Enters os met first within
  enters_others : Enters os within others after

parts : (os : List Outline) (met first others after : List Placed) → Enters os met (first ++ others) after → Parts os met first others after
parts os met [] others after e = record { within = met; enters_first = finished; enters_others = e }
parts os met (p ∷ first) others after (passed h e) =
    let m : Parts os met first others after = parts os met first others after e in
    record { within = m.within; enters_first = passed h m.enters_first; enters_others = m.enters_others }
parts os met (p ∷ first) others after (entered {within = within} h i e) =
    let m : Parts os within first others after = parts os within first others after e in
    record { within = m.within; enters_first = entered h i m.enters_first; enters_others = m.enters_others }

-- those that were met are passed
pass : (os : List Outline) (met ps after rest : List Placed) (p : Placed) → unmet (has_met met) ps ≡ p ∷ rest
    → (has_met met p.space ≡ false → Enters os met (p ∷ rest) after) → Enters os met ps after
pass os met [] after rest p e f = absurd cc
pass os met (q ∷ ps) after rest p e f = choose (has_met met q.space) (λ k. pass os met ps after rest p k f) refl e
  where
    choose : (b : Bool) → (unmet (has_met met) ps ≡ p ∷ rest → Enters os met ps after) → has_met met q.space ≡ b → (if b then unmet (has_met met) ps else q ∷ ps) ≡ p ∷ rest → Enters os met (q ∷ ps) after
    choose true more h k = passed h (more k)
    choose false more h k =
        let same : q ≡ p = cc in
        let P : List Placed → Type 0 = λ xs. Enters os met xs after in
        let Q : Placed → Type 0 = λ x. has_met met x.space ≡ false in
        subst P (sym k) (f (subst Q same h))

pass_all : (os : List Outline) (met ps : List Placed) → unmet (has_met met) ps ≡ [] → Enters os met ps met
pass_all os met [] e = finished
pass_all os met (q ∷ ps) e = choose (has_met met q.space) (pass_all os met ps) refl e
  where
    choose : (b : Bool) → (unmet (has_met met) ps ≡ [] → Enters os met ps met) → has_met met q.space ≡ b → (if b then unmet (has_met met) ps else q ∷ ps) ≡ [] → Enters os met (q ∷ ps) met
    choose true more h k = passed h (more k)
    choose false more h k = absurd cc

-- one step of the walk
pub walk_more : (os : List Outline) (main : ℕ) (met pending rest pushed : List Placed) (p : Placed)
    → Continues os main met (reverse pending)
    → unmet (has_met met) (reverse pending) ≡ p ∷ reverse rest
    → pushed ≡ rest ++ reverse (entered_by os (length met) p.system (calls_at os p.space.vi))
    → Continues os main (met ++ p ∷ []) (reverse pushed)
walk_more os main met pending rest pushed p e f g = λ after w.
    let into : List Placed = entered_by os (length met) p.system (calls_at os p.space.vi) in
    let turned : reverse pushed ≡ into ++ reverse rest =
    ap reverse g ∙ reverse-append rest (reverse into) ∙ ap (λ xs. xs ++ reverse rest) (reverse-reverse into) in
    let P : List Placed → Type 0 = λ xs. Enters os (met ++ p ∷ []) xs after in
    let m : Parts os (met ++ p ∷ []) into (reverse rest) after = parts os (met ++ p ∷ []) into (reverse rest) after (subst P turned w) in
    e after (pass os met (reverse pending) after (reverse rest) p f (λ h. entered h m.enters_first m.enters_others))

pub walk_end : (os : List Outline) (main : ℕ) (met pending : List Placed) → Continues os main met (reverse pending) → unmet (has_met met) (reverse pending) ≡ []
    → AreInLinkOrder os main met
walk_end os main met pending e f = e met (pass_all os met (reverse pending) f)

pub walk_start : (os : List Outline) (main : ℕ) (pending : List Placed) → pending ≡ main_placed (slice_get os main) main → Continues os main [] (reverse pending)
walk_start os main pending e = λ after w.
    let P : List Placed → Type 0 = λ xs. Enters os [] xs after in
    subst P (ap reverse e ∙ short (slice_get os main)) w
  where
    short : (o : Option Outline) → reverse (main_placed o main) ≡ main_placed o main
    short None = refl
    short (Some o) = refl

-- there is one link order
met_once : (os : List Outline) (met ps after : List Placed) → Enters os met ps after → (others : List Placed) → Enters os met ps others → others ≡ after
met_once os met [] after finished others finished = refl
met_once os met (p ∷ ps) after (passed h e) others (passed k f) = met_once os met ps after e others f
met_once os met (p ∷ ps) after (passed h e) others (entered k j f) = absurd cc
met_once os met (p ∷ ps) after (entered h i e) others (passed k f) = absurd cc
met_once os met (p ∷ ps) after (entered {within = v} h i e) others (entered {within = w} k j f) =
    let same : w ≡ v = met_once os (met ++ p ∷ []) (entered_by os (length met) p.system (calls_at os p.space.vi)) v i w j in
    let P : List Placed → Type 0 = λ xs. Enters os xs ps others in
    met_once os v ps after e others (subst P same f)

pub one_order : (os : List Outline) (main : ℕ) (met : List Placed) → AreInLinkOrder os main met → (others : List Placed) → AreInLinkOrder os main others → others ≡ met
one_order os main met e others f = met_once os [] (main_placed (slice_get os main) main) met e others f

-- the VIs of data spaces
pub vi_more : (vi : ℕ) (s t : BTreeSet ℕ) (order : List ℕ) → Updates nat_cmp s t vi true → ((v : ℕ) → contains nat_cmp s v ≡ has_vi order v) → (v : ℕ) → contains nat_cmp t v ≡ has_vi (order ++ vi ∷ []) v
vi_more vi s t order u h v =
    u.0 v
    ∙ cond_or (is_eq (nat_cmp vi v)) (contains nat_cmp s v)
    ∙ ap (λ b. b || (is_eq (nat_cmp vi v) || false)) (h v)
    ∙ ap (λ b. has_vi order v || (b || false)) (unsigned_tied vi v)
    ∙ sym (list_any-append (λ n. n == v) order (vi ∷ []))

pub vis_more : (before : List ℕ) (ps : List Placed) (i : ℕ) (d : Placed) → i < length ps → vis_after before (take (i + 1) ps) ≡ with_vi (vis_after before (take i ps)) (get_or ps i d).space.vi
vis_more before [] i d lt = absurd (omega arith)
vis_more before (p ∷ ps) zero d lt = refl
vis_more before (p ∷ ps) (suc i) d lt =
    let e : suc i + 1 ≡ suc (i + 1) = omega arith in
    ap (λ n. vis_after before (take n (p ∷ ps))) e ∙ vis_more (with_vi before p.space.vi) ps i d (omega arith)

pub absent : (os : List Outline) (i : ℕ) → length os ≤ i → slice_get os i ≡ None
absent os i h = slice_get_past os i h
