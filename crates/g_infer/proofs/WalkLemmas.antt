-- Types that are decided step by step, in an order in which each step reads only what steps before it give.
use Rattle.std.proofs.Common.{◌≡◌, ◌⊎◌, inl, inr, ⊎_elim, ℕ, zero, suc, ◌+◌, ◌<◌, ◌≤◌, ◌==◌, Bool, true, false, ◌&&◌, cond, List, [], ◌∷◌, ◌++◌, length, take, map, get_or, refl, ap, sym, ◌∙◌, subst, arith}
use Rattle.std.specs.Prelude.{if◌then◌else◌, Option, Some, None, IfSome, IsNone, is_some, slice_get, Vec}
use Rattle.std.specs.declared.alloc.Global.{Global}
use Rattle.std.specs.Str.{bytes_eq}
use Rattle.std.specs.List.{AllByRecursion}
use Rattle.std.specs.Option.{option_map}
use Rattle.std.proofs.lemmas.List.Elements.{recursion_from_All}
use Rattle.std.proofs.lemmas.List.{length-map}
use Rattle.std.proofs.lemmas.Option.{slice_get_within, slice_get-get_or, slice_get-map}
use Rattle.std.proofs.lemmas.Slice.Eq.{bytes_eq-Decides}
use Rattle.g_types.specs.declared.ty.Ty.{Ty}
use Rattle.g_diagram.specs.declared.panel.PanelItem.{PanelItem}
use Rattle.g_diagram.specs.Lines.{Entry}
use Rattle.g_diagram.specs.Leads.{Leads}
use Rattle.g_graph.specs.Graph.{Graph, has, has_edge, row_of, RowInRange, InRange}
use Rattle.g_graph.proofs.Search.{or_cases, same_number}
use Rattle.g_wires.proofs.Found.{and_left, and_right}
use Rattle.g_graph_order.specs.Order.{times, IsOrder, HasCycle}
use Rattle.g_graph_order.proofs.Waiting.{times-cons}
use Rattle.g_typing.specs.Types.{Types}
use Rattle.g_typing.specs.Typing.{Given, Callees, Objects, IsGivenTo, panel_type}
use Rattle.g_typing.proofs.Agreed.{Typed}
use Rattle.g_typing.proofs.Names.{SameNames, IsNamed, AreNamed, same_given, named_in}
use Rattle.g_typing.proofs.Only.{IsIn, all_gives, local_in, holds_in}
use Rattle.g_typing.proofs.Ready.{Feeds, no_cycle}
use Rattle.g_typing.proofs.Roles.{nothing}
use Rattle.g_typing.proofs.Unique.{Step, IsLocal, AreLocal, HaveGiven, HoldsAll}
use Rattle.g_typing.proofs.Walked.{AreApart, Adds, Walked, ReadsNone, GivesApart, walked_on}
use Rattle.g_typing_laws.specs.Typable.{IsTypable}
use Rattle.g_infer.specs.Feeding.{IsFeeding}
use Rattle.g_infer.specs.declared.steps.Step.{Step as Made}
use Rattle.g_infer.specs.Gives.{form_gives, step_of}
use Rattle.g_infer.specs.Steps.{Form, seen_step, vi_forms}
use Rattle.g_infer.specs.Walking.{is_to, put, known_after, IsAfter, IsFresh, steps_of, CanWalk, IsTaken, HasWalked}
use Rattle.g_infer.proofs.FormLemmas.{made_steps, made_gives, made_local, made_named, made_ready, made_hold}

-- ---- what a step gives is added to the types

true_or : (b : Bool) → (b ≡ true) ⊎ (b ≡ false)
true_or true = inl refl
true_or false = inr refl

same_name : (g : Given) (d : ℕ) (n : List ℕ) → is_to g d n ≡ true → (g.diagram ≡ d) × (g.name ≡ n)
same_name g d n e =
    (same_number g.diagram d (and_left (g.diagram == d) (bytes_eq g.name n) e), (bytes_eq-Decides g.name n).0 (and_right (g.diagram == d) (bytes_eq g.name n) e))

both_hold : (a b : Bool) → a ≡ true → b ≡ true → (a && b) ≡ true
both_hold true b e f = f
both_hold false b e f = cc

pub same_itself : (d : ℕ) → (d == d) ≡ true
same_itself d = grind arith

own_name : (g : Given) → is_to g g.diagram g.name ≡ true
own_name g = both_hold (g.diagram == g.diagram) (bytes_eq g.name g.name) (same_itself g.diagram) ((bytes_eq-Decides g.name g.name).1 refl)

not_to : (g : Given) (d : ℕ) (n : List ℕ) → ((g.diagram ≡ d) × (g.name ≡ n) → ⊥) → is_to g d n ≡ false
not_to g d n other = ⊎_elim (λ e. absurd (other (same_name g d n e))) (λ e. e) (true_or (is_to g d n))

put_other : (b : Bool) (t o : Option Ty) → b ≡ false → put b t o ≡ o
put_other true t o e = cc
put_other false t o e = refl

put_own : (b : Bool) (t o : Option Ty) → b ≡ true → o ≡ None → put b t o ≡ t
put_own true None o e none = none
put_own true (Some t) o e none = refl
put_own false t o e none = cc

pub untouched : (gs : List Given) (d : ℕ) (n : List ℕ) (o : Option Ty) → (IsGivenTo gs d n → ⊥) → known_after gs d n o ≡ o
untouched [] d n o none = refl
untouched (g ∷ gs) d n o none =
    untouched gs d n (put (is_to g d n) g.type o) (λ i. none (inr i)) ∙ put_other (is_to g d n) g.type o (not_to g d n (λ i. none (inl i)))

-- what is given to another name, and was unknown, is unknown still
still_unknown : (M : Types) (g : Given) (gs : List Given) (d : ℕ) (n : List ℕ) → (IsGivenTo gs g.diagram g.name → ⊥) → IsGivenTo gs d n → M d n ≡ None → put (is_to g d n) g.type (M d n) ≡ None
still_unknown M g gs d n once is none =
    put_other (is_to g d n) g.type (M d n)
    (not_to g d n (λ same. once (subst (λ (e : ℕ). IsGivenTo gs e g.name) (sym same.0) (subst (λ (m : List ℕ). IsGivenTo gs d m) (sym same.1) is))))
    ∙ none

pub have_after : (gs : List Given) (M N : Types) → AreApart gs → ((d : ℕ) (n : List ℕ) → IsGivenTo gs d n → M d n ≡ None) → IsAfter M N gs → HaveGiven N gs
have_after [] M N apart unknown after = tt
have_after (g ∷ gs) M N apart unknown after = (
  after g.diagram g.name
      ∙ untouched gs g.diagram g.name (put (is_to g g.diagram g.name) g.type (M g.diagram g.name)) apart.0
      ∙ put_own (is_to g g.diagram g.name) g.type (M g.diagram g.name) (own_name g) (unknown g.diagram g.name (inl (refl, refl))),
  have_after gs (λ d n. put (is_to g d n) g.type (M d n)) N apart.1 (λ d n is. still_unknown M g gs d n apart.0 is (unknown d n (inr is))) after,
)

pub adds_fresh : (gs : List Given) (M N : Types) → IsFresh M gs → IsAfter M N gs → Adds M N gs
adds_fresh gs M N fresh after = record {
  given = have_after gs M N fresh.apart fresh.unknown after;
  others = λ d n none. after d n ∙ untouched gs d n (M d n) none;
}

-- ---- names that are given once

pub right_apart : (xs ys : List Given) → AreApart (xs ++ ys) → AreApart ys
right_apart [] ys h = h
right_apart (x ∷ xs) ys h = right_apart xs ys h.1

pub given_in_left : (xs ys : List Given) (d : ℕ) (n : List ℕ) → IsGivenTo xs d n → IsGivenTo (xs ++ ys) d n
given_in_left [] ys d n i = absurd i
given_in_left (x ∷ xs) ys d n (inl i) = inl i
given_in_left (x ∷ xs) ys d n (inr i) = inr (given_in_left xs ys d n i)

pub given_in_right : (xs ys : List Given) (d : ℕ) (n : List ℕ) → IsGivenTo ys d n → IsGivenTo (xs ++ ys) d n
given_in_right [] ys d n i = i
given_in_right (x ∷ xs) ys d n i = inr (given_in_right xs ys d n i)

pub left_apart : (xs ys : List Given) → AreApart (xs ++ ys) → AreApart xs
left_apart [] ys h = tt
left_apart (x ∷ xs) ys h = ((λ i. h.0 (given_in_left xs ys x.diagram x.name i)), left_apart xs ys h.1)

-- nothing is given on both sides
sides_apart : (xs ys : List Given) (d : ℕ) (n : List ℕ) → AreApart (xs ++ ys) → IsGivenTo xs d n → IsGivenTo ys d n → ⊥
sides_apart [] ys d n h i j = i
sides_apart (x ∷ xs) ys d n h (inl i) j =
    h.0 (given_in_right xs ys x.diagram x.name (subst (λ (e : ℕ). IsGivenTo ys e x.name) (sym i.0) (subst (λ (m : List ℕ). IsGivenTo ys d m) (sym i.1) j)))
sides_apart (x ∷ xs) ys d n h (inr i) j = sides_apart xs ys d n h.1 i j

same_apart : (xs ys : List Given) → SameNames xs ys → SameNames ys xs → AreApart xs → AreApart ys
same_apart [] [] s r h = tt
same_apart [] (y ∷ ys) s r h = absurd s
same_apart (x ∷ xs) [] s r h = absurd s
same_apart (x ∷ xs) (y ∷ ys) s r h = (
  (λ i. h.0 (subst (λ (e : ℕ). IsGivenTo xs e x.name) (sym s.0) (subst (λ (m : List ℕ). IsGivenTo xs y.diagram m) (sym s.1) (same_given ys xs y.diagram y.name r.2 i)))),
  same_apart xs ys s.2 r.2 h.1,
)

-- what the step at a place gives
given_at : (M : Types) (ss : List Step) (k : ℕ) (t : Step) (d : ℕ) (n : List ℕ) → slice_get ss k ≡ Some t → IsGivenTo (t.gives M) d n → IsGivenTo (all_gives M ss) d n
given_at M [] k t d n e i = absurd cc
given_at M (s ∷ ss) zero t d n e i =
    let same : s ≡ t = cc in given_in_left (s.gives M) (all_gives M ss) d n (subst (λ (x : Step). IsGivenTo (x.gives M) d n) (sym same) i)
given_at M (s ∷ ss) (suc k) t d n e i = given_in_right (s.gives M) (all_gives M ss) d n (given_at M ss k t d n e i)

-- each step gives no name twice
step_apart : (ss : List Step) (k : ℕ) (t : Step) → slice_get ss k ≡ Some t → AreApart (all_gives nothing ss) → AreApart (t.gives nothing)
step_apart [] k t e h = absurd cc
step_apart (s ∷ ss) zero t e h =
    let same : s ≡ t = cc in subst (λ (x : Step). AreApart (x.gives nothing)) same (left_apart (s.gives nothing) (all_gives nothing ss) h)
step_apart (s ∷ ss) (suc k) t e h = step_apart ss k t e (right_apart (s.gives nothing) (all_gives nothing ss) h)

-- and two steps give no common name
two_apart : (ss : List Step) (a b : ℕ) (s t : Step) → slice_get ss a ≡ Some s → slice_get ss b ≡ Some t → (a ≡ b → ⊥) → AreApart (all_gives nothing ss) → GivesApart s t
two_apart [] a b s t e f other h d n i j = absurd cc
two_apart (x ∷ ss) zero zero s t e f other h d n i j = other refl
two_apart (x ∷ ss) zero (suc b) s t e f other h d n i j =
    let same : x ≡ s = cc in
    sides_apart (x.gives nothing) (all_gives nothing ss) d n h (subst (λ (y : Step). IsGivenTo (y.gives nothing) d n) (sym same) i) (given_at nothing ss b t d n f j)
two_apart (x ∷ ss) (suc a) zero s t e f other h d n i j =
    let same : x ≡ t = cc in
    sides_apart (x.gives nothing) (all_gives nothing ss) d n h (subst (λ (y : Step). IsGivenTo (y.gives nothing) d n) (sym same) j) (given_at nothing ss a s d n e i)
two_apart (x ∷ ss) (suc a) (suc b) s t e f other h d n i j =
    two_apart ss a b s t e f (λ q. other (ap suc q)) (right_apart (x.gives nothing) (all_gives nothing ss) h) d n i j

-- ---- places in an order

first_is : (x : ℕ) (v : ℕ) (xs : List ℕ) → slice_get (x ∷ xs) 0 ≡ Some v → x ≡ v
first_is x v xs e = cc

counted : (x v n : ℕ) → x ≡ v → ◌≡◌ {A = ℕ} (cond (x == v) 1 0 + n) (n + 1)
counted x v n e = ap (λ b. cond b 1 0 + n) (let P : ℕ → Type 0 = λ y. (x == y) ≡ true in subst P e (same_itself x)) ∙ omega arith

at_least : (b : Bool) (n : ℕ) → n ≤ cond b 1 0 + n
at_least true n = omega arith
at_least false n = omega arith

-- what stands in a list
stands : (xs : List ℕ) (i v : ℕ) → slice_get xs i ≡ Some v → 0 < times xs v
stands [] i v e = absurd cc
stands (x ∷ xs) zero v e = let c = times-cons x xs v in let d = counted x v (times xs v) (first_is x v xs e) in omega (arith, c, d)
stands (x ∷ xs) (suc i) v e = let c = times-cons x xs v in let d = at_least (x == v) (times xs v) in let s = stands xs i v e in omega (arith, c, d, s)

-- and only once
once : (xs : List ℕ) (i j v : ℕ) → times xs v ≤ 1 → slice_get xs i ≡ Some v → slice_get xs j ≡ Some v → i ≡ j
once [] i j v one e f = absurd cc
once (x ∷ xs) zero zero v one e f = refl
once (x ∷ xs) zero (suc j) v one e f =
    absurd (let c = times-cons x xs v in let d = counted x v (times xs v) (first_is x v xs e) in let s = stands xs j v f in omega (arith, one, c, d, s))
once (x ∷ xs) (suc i) zero v one e f =
    absurd (let c = times-cons x xs v in let d = counted x v (times xs v) (first_is x v xs f) in let s = stands xs i v e in omega (arith, one, c, d, s))
once (x ∷ xs) (suc i) (suc j) v one e f =
    ap suc (once xs i j v (let c = times-cons x xs v in let d = at_least (x == v) (times xs v) in omega (arith, one, c, d)) e f)

-- where a number stands
record Place (xs : List ℕ) (v : ℕ) (i : ℕ) : Type 0 where
  place : ℕ
  below : place < i
  at : slice_get xs place ≡ Some v

later_place : (x : ℕ) (xs : List ℕ) (v i j : ℕ) → i < j → Place xs v i → Place (x ∷ xs) v j
later_place x xs v i j less p = let lt = p.below in record { place = suc p.place; below = omega (arith, lt, less); at = p.at }

in_front : (xs : List ℕ) (i v : ℕ) → has (take i xs) v ≡ true → Place xs v i
in_front [] zero v e = absurd cc
in_front [] (suc i) v e = absurd cc
in_front (x ∷ xs) zero v e = absurd cc
in_front (x ∷ xs) (suc i) v e = ⊎_elim
    (λ h. record { place = 0; below = omega arith; at = ap Some (same_number x v h) })
    (λ h. later_place x xs v i (suc i) (omega arith) (in_front xs i v h))
    (or_cases (x == v) (has (take i xs) v) e)

place_by : (x v : ℕ) (xs : List ℕ) (b : Bool) → (x == v) ≡ b → 0 < times (x ∷ xs) v → (0 < times xs v → Place xs v (length xs)) → Place (x ∷ xs) v (length (x ∷ xs))
place_by x v xs true e lt rest = record { place = 0; below = omega arith; at = ap Some (same_number x v e) }
place_by x v xs false e lt rest =
    later_place x xs v (length xs) (length (x ∷ xs)) (omega arith)
    (rest (let c = times-cons x xs v in let d : ◌≡◌ {A = ℕ} (cond (x == v) 1 0) 0 = ap (λ t. cond t 1 0) e in omega (arith, lt, c, d)))

place_of : (xs : List ℕ) (v : ℕ) → 0 < times xs v → Place xs v (length xs)
place_of [] v lt = absurd (let z : times [] v ≡ 0 = refl in omega (arith, lt, z))
place_of (x ∷ xs) v lt = place_by x v xs (x == v) refl lt (place_of xs v)

-- ---- steps among others

is_in : (ss : List Step) (k : ℕ) (t : Step) → slice_get ss k ≡ Some t → IsIn t ss
is_in [] k t e = absurd cc
is_in (s ∷ ss) zero t e = inl (let same : s ≡ t = cc in same)
is_in (s ∷ ss) (suc k) t e = inr (is_in ss k t e)

all_are_local : (ss : List Step) → ((t : Step) → IsIn t ss → IsLocal t) → AreLocal ss
all_are_local [] h = tt
all_are_local (s ∷ ss) h = (h s (inl refl), all_are_local ss (λ t i. h t (inr i)))

all_are_named : (ss : List Step) → ((t : Step) → IsIn t ss → IsNamed t) → AreNamed ss
all_are_named [] h = tt
all_are_named (s ∷ ss) h = (h s (inl refl), all_are_named ss (λ t i. h t (inr i)))

all_hold : (M : Types) (ss : List Step) → ((k : ℕ) (t : Step) → slice_get ss k ≡ Some t → HaveGiven M (t.gives M)) → HoldsAll M ss
all_hold M [] h = tt
all_hold M (s ∷ ss) h = (h 0 s refl, all_hold M ss (λ k t e. h (suc k) t e))

-- ---- one more step

pub walk_begins : (ss : List Step) (nodes : List ℕ) (M : Types) → ((d : ℕ) (n : List ℕ) → M d n ≡ None) → HasWalked ss nodes 0 M
walk_begins ss nodes M none = record {
  done = [];
  walked = record { holds = tt; others = λ d n giver. none d n };
  from = λ t i. absurd i;
  all = λ t taken. absurd (let lt = taken.before in omega (arith, lt));
}

module _ (ss : List Step) (nodes : List ℕ) (can : CanWalk ss nodes) (i : ℕ) (M : Types) (w : HasWalked ss nodes i M) (v : ℕ) (s : Step)
    (at : slice_get nodes i ≡ Some v) (is : slice_get ss v ≡ Some s) where
  stands_once : times nodes v ≤ 1
  stands_once = let lt = slice_get_within ss v s is in let len = can.long in let one = can.order.each v (omega (arith, lt, len)) in omega (arith, one)

  -- the step was not taken before
  not_before : (j : ℕ) → j < i → slice_get nodes j ≡ Some v → ⊥
  not_before j lt e = let same = once nodes j i v stands_once e at in omega (arith, lt, same)

  -- it feeds none that was
  feeds_none : (t : Step) → IsTaken ss nodes i t → ReadsNone t s
  feeds_none t taken d n reads gives =
      let edge = can.leads v taken.node s t is taken.is (record { diagram = d; name = n; reads = reads; gives = gives }) in
      let p = in_front nodes taken.place v (can.order.forward taken.place v taken.node taken.at edge) in
      not_before p.place (let a = p.below in let b = taken.before in omega (arith, a, b)) p.at

  feeds_itself_not : ReadsNone s s
  feeds_itself_not d n reads gives =
      let edge = can.leads v v s s is is (record { diagram = d; name = n; reads = reads; gives = gives }) in
      let p = in_front nodes i v (can.order.forward i v v at edge) in
      not_before p.place p.below p.at

  gives_apart : (t : Step) → IsTaken ss nodes i t → GivesApart t s
  gives_apart t taken = two_apart ss taken.node v t s taken.is is
      (λ same. not_before taken.place taken.before (taken.at ∙ ap Some same)) can.apart

  named_s : IsNamed s
  named_s = named_in s ss can.named (is_in ss v s is)

  unknown : (d : ℕ) (n : List ℕ) → IsGivenTo (s.gives M) d n → M d n ≡ None
  unknown d n given =
      w.walked.others d n (λ t k g. gives_apart t (w.from t k) d n g (same_given (s.gives M) (s.gives nothing) d n (named_s M nothing) given))

  pub fresh : IsFresh M (s.gives M)
  fresh = record {
    apart = same_apart (s.gives nothing) (s.gives M) (named_s nothing M) (named_s M nothing) (step_apart ss v s is can.apart);
    unknown = unknown;
  }

  member : (t : Step) → IsIn t w.done → IsIn t ss
  member t k = let taken = w.from t k in is_in ss taken.node t taken.is

  walked_more : (N : Types) → Adds M N (s.gives M) → Walked N (s ∷ w.done)
  walked_more N adds =
      walked_on M N s adds named_s w.done
      (local_in s ss can.local (is_in ss v s is))
      (all_are_local w.done (λ t k. local_in t ss can.local (member t k)))
      (all_are_named w.done (λ t k. named_in t ss can.named (member t k)))
      feeds_itself_not (λ t k. feeds_none t (w.from t k)) (λ t k. gives_apart t (w.from t k)) w.walked

  this_taken : IsTaken ss nodes (i + 1) s
  this_taken = record { place = i; before = omega arith; node = v; at = at; is = is }

  taken_still : (t : Step) → IsTaken ss nodes i t → IsTaken ss nodes (i + 1) t
  taken_still t taken = let lt = taken.before in record { place = taken.place; before = omega (arith, lt); node = taken.node; at = taken.at; is = taken.is }

  last_or : (j : ℕ) → j < i + 1 → (j ≡ i) ⊎ (j < i)
  last_or j lt = grind arith

  was_taken : (t : Step) (taken : IsTaken ss nodes (i + 1) t) → (taken.place ≡ i) ⊎ (taken.place < i) → IsIn t (s ∷ w.done)
  was_taken t taken (inl e) =
      let node : Some v ≡ Some taken.node = sym at ∙ ap (slice_get nodes) (sym e) ∙ taken.at in
      let same : v ≡ taken.node = cc in
      let step : Some s ≡ Some t = sym is ∙ ap (slice_get ss) same ∙ taken.is in
      inl (let this : s ≡ t = cc in this)
  was_taken t taken (inr lt) = inr (w.all t (record { place = taken.place; before = lt; node = taken.node; at = taken.at; is = taken.is }))

  pub walk_on : (N : Types) → Adds M N (s.gives M) → HasWalked ss nodes (i + 1) N
  walk_on N adds = record {
    done = s ∷ w.done;
    walked = walked_more N adds;
    from = λ t k. ⊎_elim (λ e. subst (IsTaken ss nodes (i + 1)) e this_taken) (λ k. taken_still t (w.from t k)) k;
    all = λ t taken. was_taken t taken (last_or taken.place taken.before);
  }

-- ---- all steps were taken

module _ (ss : List Step) (nodes : List ℕ) (can : CanWalk ss nodes) (M : Types) (w : HasWalked ss nodes (length nodes) M) where
  each_taken : (k : ℕ) (t : Step) → slice_get ss k ≡ Some t → IsIn t w.done
  each_taken k t e =
      let lt = slice_get_within ss k t e in
      let len = can.long in
      let one = can.order.each k (omega (arith, lt, len)) in
      let p = place_of nodes k (omega (arith, one)) in
      w.all t (record { place = p.place; before = p.below; node = k; at = p.at; is = e })

  pub walk_holds : HoldsAll M ss
  walk_holds = all_hold M ss (λ k t e. holds_in M t w.done w.walked.holds (each_taken k t e))

  pub walk_others : (d : ℕ) (n : List ℕ) → (IsGivenTo (all_gives M ss) d n → ⊥) → M d n ≡ None
  walk_others d n none = w.walked.others d n (λ t k g.
      let taken = w.from t k in
      none (given_at M ss taken.node t d n taken.is
      (same_given (t.gives nothing) (t.gives M) d n (named_in t ss can.named (is_in ss taken.node t taken.is) nothing M) g)))

-- and the types are a typing of the VI
pub walk_typed : (called : Callees) (panel : List PanelItem) (es : List Entry) (nodes : List ℕ) (M : Types)
    → CanWalk (made_steps called panel es) nodes → HasWalked (made_steps called panel es) nodes (length nodes) M → Typed called panel es M
walk_typed called panel es nodes M can w = record {
  given = made_hold called panel es M (walk_holds (made_steps called panel es) nodes can M w);
  no_more = λ d n none. walk_others (made_steps called panel es) nodes can M w d n (λ g. none (subst (λ gs. IsGivenTo gs d n) (made_gives called panel es M) g));
}

-- ---- the order

list_step : (called : Callees) (objects : Objects) (forms : List Form) (k : ℕ) (s : Step) → slice_get (map (step_of called objects) forms) k ≡ Some s
    → (f : Form) × (slice_get forms k ≡ Some f) × (step_of called objects f ≡ s)
list_step called objects [] k s e = absurd cc
list_step called objects (f ∷ forms) zero s e = (f, refl, (let same : step_of called objects f ≡ s = cc in same))
list_step called objects (f ∷ forms) (suc k) s e = list_step called objects forms k s e

steps_are : (called : Callees) (objects : Objects) (panel : List PanelItem) (es : List Entry) (forms : List Form) → objects ≡ panel_type panel → forms ≡ vi_forms panel es
    → steps_of called objects forms ≡ made_steps called panel es
steps_are called objects panel es forms o f =
    ap (λ (x : Objects). map (step_of called x) forms) o ∙ ap (λ (xs : List Form). map (step_of called (panel_type panel)) xs) f

has_below : (n b : ℕ) (row : List ℕ) → AllByRecursion (λ c. c < n) row → has row b ≡ true → b < n
has_below n b [] h e = absurd cc
has_below n b (c ∷ row) h e = ⊎_elim
    (λ here. let same : c ≡ b = same_number c b here in let lt = h.0 in omega (arith, same, lt))
    (λ later. has_below n b row h.1 later)
    (or_cases (c == b) (has row b) e)

row_below : (n a b : ℕ) (g : Graph) → AllByRecursion (λ row. RowInRange n row.items) g → has (row_of (slice_get g a)) b ≡ true → (a < length g) × (b < n)
row_below n a b [] h e = absurd cc
row_below n zero b (row ∷ g) h e = (omega arith, has_below n b row.items (recursion_from_All (λ c. c < n) row.items h.0) e)
row_below n (suc a) b (row ∷ g) h e = let r = row_below n a b g h.1 e in ((let lt = r.0 in omega (arith, lt)), r.1)

-- an edge leads from a node to a node
edge_within : (g : Graph) (a b : ℕ) → InRange g → has_edge g a b ≡ true → (a < length g) × (b < length g)
edge_within g a b range e = row_below (length g) a b g (recursion_from_All (λ row. RowInRange (length g) row.items) g range) e

leaves : (g : Graph) → InRange g → (a b : ℕ) → Leads (has_edge g) a b → a < length g
leaves g range a b (zero, w) = (edge_within g a b range w).0
leaves g range a b (suc n, (c, w, q)) = leaves g range a c (n, w)

module _ (called : Callees) (objects : Objects) (panel : List PanelItem) (es : List Entry) (forms : List Form) (g : Graph) (same_objects : objects ≡ panel_type panel)
    (same_forms : forms ≡ vi_forms panel es) (typable : IsTypable called panel es) (long : length g ≡ length forms) (feeding : IsFeeding forms g) where
  same : steps_of called objects forms ≡ made_steps called panel es
  same = steps_are called objects panel es forms same_objects same_forms

  feeds : (a b : ℕ) (s t : Step) → slice_get (steps_of called objects forms) a ≡ Some s → slice_get (steps_of called objects forms) b ≡ Some t → Feeds s t → has_edge g a b ≡ true
  feeds a b s t e f h =
      let x = list_step called objects forms a s e in
      let y = list_step called objects forms b t f in
      feeding.leads called objects a b x.0 y.0 x.1 y.1
      (subst (λ (u : Step). Feeds u (step_of called objects y.0)) (sym x.2) (subst (λ (u : Step). Feeds s u) (sym y.2) h))

  pub can_walk : (nodes : List ℕ) → IsOrder g nodes → CanWalk (steps_of called objects forms) nodes
  can_walk nodes order = record {
    local = subst AreLocal (sym same) (all_are_local (made_steps called panel es) (made_local called panel es));
    named = subst AreNamed (sym same) (all_are_named (made_steps called panel es) (made_named called panel es));
    apart = subst (λ (ss : List Step). AreApart (all_gives nothing ss)) (sym same) (subst AreApart (sym (made_gives called panel es nothing)) typable.apart);
    graph = g;
    long = long ∙ sym (length-map forms (step_of called objects));
    leads = feeds;
    order = order;
  }

  pub walked_all : (nodes : List ℕ) (M : Types) → IsOrder g nodes → HasWalked (steps_of called objects forms) nodes (length nodes) M → Typed called panel es M
  walked_all nodes M order w =
      walk_typed called panel es nodes M (subst (λ (ss : List Step). CanWalk ss nodes) same (can_walk nodes order))
      (subst (λ (ss : List Step). HasWalked ss nodes (length nodes) M) same w)

  abbrev idle : Step
  idle = record { reads = []; gives = λ M. [] }

  abbrev at : ℕ → Step
  at v = get_or (steps_of called objects forms) v idle

  stands_at : (v : ℕ) → v < length g → slice_get (steps_of called objects forms) v ≡ Some (at v)
  stands_at v lt = slice_get-get_or (steps_of called objects forms) v idle (let len = length-map forms (step_of called objects) in omega (arith, lt, len, long))

  in_all : (v : ℕ) → v < length g → IsIn (at v) (made_steps called panel es)
  in_all v lt = subst (λ (ss : List Step). IsIn (at v) ss) same (is_in (steps_of called objects forms) v (at v) (stands_at v lt))

  edge_feeds : (a b : ℕ) → a < length g → b < length g → has_edge g a b ≡ true → Feeds (at a) (at b)
  edge_feeds a b lt less e =
      let x = list_step called objects forms a (at a) (stands_at a lt) in
      let y = list_step called objects forms b (at b) (stands_at b less) in
      subst (λ (u : Step). Feeds u (at b)) x.2
      (subst (λ (u : Step). Feeds (step_of called objects x.0) u) y.2 (feeding.only called objects a b x.0 y.0 x.1 y.1 e))

  pub none_turns : InRange g → HasCycle g → ⊥
  none_turns range (v, l) =
      no_cycle (made_steps called panel es) (has_edge g) at
      (λ a b e. let w = edge_within g a b range e in (in_all a w.0, edge_feeds a b w.0 w.1 e))
      (made_ready called panel es typable.ready) v (in_all v (leaves g range v v l)) l

-- ---- the code's loops

-- an inserted type
pub inserted : (b : Bool) (t : Ty) (o : Option Ty) → (if b then Some t else o) ≡ put b (Some t) o
inserted true t o = refl
inserted false t o = refl

either_side : (a n : ℕ) → (a < n) ⊎ (n ≤ a)
either_side a n = grind arith

node_within : (ss : List Step) (nodes : List ℕ) → CanWalk ss nodes → (i v : ℕ) → slice_get nodes i ≡ Some v → v < length ss
node_within ss nodes can i v at = ⊎_elim
    (λ lt. lt)
    (λ le. absurd (let len = can.long in let none = can.order.only v (omega (arith, len, le)) in let some = stands nodes i v at in omega (arith, none, some)))
    (either_side v (length ss))

module _ (called : Callees) (objects : Objects) (steps : List Made) (nodes : List ℕ) (can : CanWalk (steps_of called objects (map seen_step steps)) nodes) (i v : ℕ)
    (there : slice_get nodes i ≡ Some v) where
  pub index_within : v < length steps
  index_within =
      let within = node_within (steps_of called objects (map seen_step steps)) nodes can i v there in
      let a = length-map (map seen_step steps) (step_of called objects) in
      let b = length-map steps seen_step in
      omega (arith, within, a, b)

  made_at : (s : Made) → slice_get steps v ≡ Some s → slice_get (steps_of called objects (map seen_step steps)) v ≡ Some (step_of called objects (seen_step s))
  made_at s is =
      slice_get-map (step_of called objects) (map seen_step steps) v ∙ ap (option_map (step_of called objects)) (slice_get-map seen_step steps v ∙ ap (option_map seen_step) is)

  pub fresh_next : (M : Types) (s : Made) → slice_get steps v ≡ Some s → HasWalked (steps_of called objects (map seen_step steps)) nodes i M
      → IsFresh M (form_gives called objects M (seen_step s))
  fresh_next M s is w = fresh (steps_of called objects (map seen_step steps)) nodes can i M w v (step_of called objects (seen_step s)) there (made_at s is)

  pub walk_next : (M N : Types) (s : Made) → slice_get steps v ≡ Some s → Adds M N (form_gives called objects M (seen_step s))
      → HasWalked (steps_of called objects (map seen_step steps)) nodes i M → HasWalked (steps_of called objects (map seen_step steps)) nodes (i + 1) N
  walk_next M N s is adds w =
      walk_on (steps_of called objects (map seen_step steps)) nodes can i M w v (step_of called objects (seen_step s)) there (made_at s is) N adds

some_order : (g : Graph) (o : Option (Vec ℕ Global)) (nodes : Vec ℕ Global) → o ≡ Some nodes → IfSome o (λ found. IsOrder g found.items) → IsOrder g nodes.items
some_order g o nodes e found = let P : Option (Vec ℕ Global) → Type 0 = λ p. IfSome p (λ found. IsOrder g found.items) in subst P e found

-- the code's values: its steps, and the graph and the order that it found
module _ (called : Callees) (objects : Objects) (panel : List PanelItem) (es : List Entry) (made steps : List Made) (made_graph g : Graph) (same_objects : objects ≡ panel_type panel)
    (typable : IsTypable called panel es) (all : map seen_step made ≡ vi_forms panel es) (is : steps ≡ made) (long : length made_graph ≡ length steps) (range : InRange made_graph)
    (feeding : IsFeeding (map seen_step steps) made_graph) (is_graph : g ≡ made_graph) (found : Option (Vec ℕ Global)) where
  forms_same : map seen_step steps ≡ vi_forms panel es
  forms_same = ap (map seen_step) is ∙ all

  graph_long : length g ≡ length (map seen_step steps)
  graph_long = ap (λ (x : Graph). length x) is_graph ∙ long ∙ sym (length-map steps seen_step)

  graph_feeds : IsFeeding (map seen_step steps) g
  graph_feeds = let P : Graph → Type 0 = IsFeeding (map seen_step steps) in subst P (sym is_graph) feeding

  graph_range : InRange g
  graph_range = let P : Graph → Type 0 = λ x. InRange x in subst P (sym is_graph) range

  pub order_found : (IsNone found → HasCycle g) → found ≡ None → ⊥
  order_found none e =
      none_turns called objects panel es (map seen_step steps) g same_objects forms_same typable graph_long graph_feeds graph_range (none (ap is_some e))

  module _ (nodes : Vec ℕ Global) (one : found ≡ Some nodes) (order : IfSome found (λ ns. IsOrder g ns.items)) (made_nodes : List ℕ) (is_nodes : made_nodes ≡ nodes.items) where
    nodes_order : IsOrder g made_nodes
    nodes_order = subst (IsOrder g) (sym is_nodes) (some_order g found nodes one order)

    pub can_start : (seen : List Made) → seen ≡ made → CanWalk (steps_of called objects (map seen_step seen)) made_nodes
    can_start seen e =
        let P : List Made → Type 0 = λ xs. CanWalk (steps_of called objects (map seen_step xs)) made_nodes in
        subst P (is ∙ sym e) (can_walk called objects panel es (map seen_step steps) g same_objects forms_same typable graph_long graph_feeds made_nodes nodes_order)

    pub at_end : (seen : List Made) → seen ≡ made → (M : Types) → HasWalked (steps_of called objects (map seen_step seen)) made_nodes (length made_nodes) M → Typed called panel es M
    at_end seen e M w =
        let P : List Made → Type 0 = λ xs. HasWalked (steps_of called objects (map seen_step xs)) made_nodes (length made_nodes) M in
        walked_all called objects panel es (map seen_step steps) g same_objects forms_same typable graph_long graph_feeds made_nodes M nodes_order (subst P (e ∙ sym is) w)
