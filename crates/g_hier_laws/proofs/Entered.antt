-- What is met where data spaces are entered: these, and all that the call lines of what is met can enter; and none is met twice.
use Rattle.std.proofs.Common.{◌≡◌, ℕ, suc, ◌+◌, Bool, true, false, ◌||◌, List, [], ◌∷◌, ◌++◌, map, length, refl, ap, ◌∙◌, sym, subst, arith, append_assoc, append-nil, length-append}
use Rattle.std.specs.Prelude.{slice_get}
use Rattle.std.specs.List.{IsDistinct}
use Rattle.std.specs.Set.{is_member}
use Rattle.std.proofs.lemmas.List.{map-append}
use Rattle.std.proofs.lemmas.List.Folds.{list_any-append}
use Rattle.std.proofs.lemmas.Map.Keys.{IsDistinct-push}
use Rattle.g_hier.specs.declared.linked.Outline.{Outline}
use Rattle.g_hier.specs.declared.linked.Placed.{Placed}
use Rattle.g_hier.specs.declared.linked.Space.{Space}
use Rattle.g_hier.specs.Outlines.{calls_at}
use Rattle.g_hier.specs.LinkOrder.{same_space, has_met, entered_by, Enters, finished, passed, entered, main_placed, AreInLinkOrder}
use Rattle.g_hier_laws.proofs.Spaces.{same, same_is, laws, none_twice}

abbrev pub spaces_in : List Placed → List Space
spaces_in ps = map (λ p. p.space) ps

-- what the call lines of data spaces can enter, of which the first has a place
abbrev pub attempts : List Outline → (place : ℕ) → List Placed → List Placed
attempts os i [] = []
attempts os i (p ∷ ps) = entered_by os i p.system (calls_at os p.space.vi) ++ attempts os (suc i) ps

pub met_both : (xs ys : List Placed) (s : Space) → has_met (xs ++ ys) s ≡ (has_met xs s || has_met ys s)
met_both xs ys s = list_any-append (λ p. same_space p.space s) xs ys

-- the same of the data spaces alone
pub met_is : (ps : List Placed) (s : Space) → is_member same (spaces_in ps) s ≡ has_met ps s
met_is [] s = refl
met_is (p ∷ ps) s = ap (λ b. same_space p.space s || b) (met_is ps s)

attempts_both : (os : List Outline) (i : ℕ) (xs ys : List Placed) → attempts os i (xs ++ ys) ≡ attempts os i xs ++ attempts os (i + length xs) ys
attempts_both os i [] ys = let e : i ≡ i + 0 = omega arith in ap (λ n. attempts os n ys) e
attempts_both os i (x ∷ xs) ys =
    let first : List Placed = entered_by os i x.system (calls_at os x.space.vi) in
    let e : suc i + length xs ≡ i + suc (length xs) = omega arith in
    ap (λ l. first ++ l) (attempts_both os (suc i) xs ys ∙ ap (λ n. attempts os (suc i) xs ++ attempts os n ys) e)
    ∙ sym (append_assoc first (attempts os (suc i) xs) (attempts os (i + suc (length xs)) ys))

-- what others are met after some once data spaces are entered
record Grown (os : List Outline) (met ps after : List Placed) : Type 0 where
  new : List Placed
  is : after ≡ met ++ new
  has : (s : Space) → has_met after s ≡ (has_met met s || (has_met ps s || has_met (attempts os (length met) new) s))

none : (m : Bool) → m ≡ (m || (false || false))
none true = refl
none false = refl

skipped : (b m p t : Bool) → (b ≡ true → m ≡ true) → (m || (p || t)) ≡ (m || ((b || p) || t))
skipped true m p t met = ap (λ x. x || (p || t)) (met refl) ∙ sym (ap (λ x. x || ((true || p) || t)) (met refl))
skipped false m p t met = refl

mixed : (m b i a p t : Bool) → (((m || (b || false)) || (i || a)) || (p || t)) ≡ (m || ((b || p) || (i || (a || t))))
mixed true b i a p t = refl
mixed false true i a p t = refl
mixed false false true a true t = refl
mixed false false true a false t = refl
mixed false false false true true t = refl
mixed false false false true false t = refl
mixed false false false false p t = refl

grown : (os : List Outline) (met ps after : List Placed) → Enters os met ps after → Grown os met ps after
grown os met [] after finished = record { new = []; is = sym (append-nil met); has = λ s. none (has_met met s) }
grown os met (p ∷ ps) after (passed h e) =
    let g : Grown os met ps after = grown os met ps after e in
    record {
      new = g.new;
      is = g.is;
      has = λ s. g.has s ∙ skipped (same_space p.space s) (has_met met s) (has_met ps s) (has_met (attempts os (length met) g.new) s) (λ t. subst (λ x. has_met met x ≡ true) ((same_is p.space s).0 t) h);
    }
grown os met (p ∷ ps) after (entered {within = w} h i e) =
    let into : List Placed = entered_by os (length met) p.system (calls_at os p.space.vi) in
    let more : List Placed = met ++ p ∷ [] in
    let g : Grown os more into w = grown os more into w i in
    let k : Grown os w ps after = grown os w ps after e in
    let place : ℕ = suc (length met) in
    let one_longer : length more ≡ place = let e = length-append met (p ∷ []) in omega (arith, e) in
    let long : length w ≡ place + length g.new = ap length g.is ∙ length-append more g.new ∙ ap (λ n. n + length g.new) one_longer in
    record {
      new = p ∷ (g.new ++ k.new);
      is = k.is ∙ ap (λ l. l ++ k.new) g.is ∙ append_assoc more g.new k.new ∙ append_assoc met (p ∷ []) (g.new ++ k.new);
      has = λ s.
          let m : Bool = has_met met s in
          let b : Bool = same_space p.space s in
          let l : Bool = has_met ps s in
          let a : Bool = has_met (attempts os place g.new) s in
          let t : Bool = has_met (attempts os (place + length g.new) k.new) s in
          let inside : has_met w s ≡ ((m || (b || false)) || (has_met into s || a)) =
          g.has s ∙ ap (λ n. has_met more s || (has_met into s || has_met (attempts os n g.new) s)) one_longer ∙ ap (λ x. x || (has_met into s || a)) (met_both met (p ∷ []) s) in
          let behind : has_met (into ++ attempts os place (g.new ++ k.new)) s ≡ (has_met into s || (a || t)) =
          met_both into (attempts os place (g.new ++ k.new)) s
          ∙ ap (λ x. has_met into s || x) (ap (λ y. has_met y s) (attempts_both os place g.new k.new) ∙ met_both (attempts os place g.new) (attempts os (place + length g.new) k.new) s) in
          k.has s ∙ ap (λ n. has_met w s || (l || has_met (attempts os n k.new) s)) long ∙ ap (λ x. x || (l || t)) inside
          ∙ mixed m b (has_met into s) a l t ∙ sym (ap (λ x. m || ((b || l) || x)) behind);
    }

-- MAIN's data space is met and what the call lines of met data spaces can enter, and no others
pub all_met : (os : List Outline) (main : ℕ) (met : List Placed) → AreInLinkOrder os main met → (s : Space)
    → has_met met s ≡ (has_met (main_placed (slice_get os main) main) s || has_met (attempts os 0 met) s)
all_met os main met e s =
    let first : List Placed = main_placed (slice_get os main) main in
    let g : Grown os [] first met = grown os [] first met e in
    g.has s ∙ ap (λ l. has_met first s || has_met (attempts os 0 l) s) (sym g.is)

distinct : (os : List Outline) (met ps after : List Placed) → Enters os met ps after → IsDistinct same (spaces_in met) → IsDistinct same (spaces_in after)
distinct os met [] after finished d = d
distinct os met (p ∷ ps) after (passed h e) d = distinct os met ps after e d
distinct os met (p ∷ ps) after (entered {within = w} h i e) d =
    distinct os w ps after e
    (distinct os (met ++ p ∷ []) (entered_by os (length met) p.system (calls_at os p.space.vi)) w i
    (subst (IsDistinct same) (sym (map-append (λ (q : Placed). q.space) met (p ∷ []))) (IsDistinct-push laws (spaces_in met) p.space d (met_is met p.space ∙ h))))

-- no data space is met twice
pub met_once : (os : List Outline) (main : ℕ) (met : List Placed) → AreInLinkOrder os main met → IsDistinct same (spaces_in met)
met_once os main met e = distinct os [] (main_placed (slice_get os main) main) met e none_twice
