-- Turns.
use Rattle.std.proofs.Common.{◌≡◌, ℕ, zero, suc, ◌+◌, ◌<◌, Bool, true, false, List, [], ◌∷◌, ◌++◌, map, length, take, drop, get_or, refl, sym, ap, ◌∙◌, subst, arith}
use Rattle.std.specs.Prelude.{if◌then◌else◌, Option, Some, None}
use Rattle.std.specs.Option.{option_map, option_map_or, option_or}
use Rattle.std.specs.List.{list_all}
use Rattle.g_diagram.specs.Lines as lines
use Rattle.g_diagram.specs.Ports.{Port}
use Rattle.g_diagram_table.specs.declared.entry.Entry.{Entry}
use Rattle.g_diagram_table.specs.Seen.{seen}
use Rattle.g_effects.specs.Needs.{FitsPrimitive}
use Rattle.g_needs.specs.Bodies.{BodyNeeds, IsAmong, among, after_turns}
use Rattle.g_typing.specs.Types.{Types}
use Rattle.g_border.specs.declared.place.WireSource.{WireSource}
use Rattle.g_border.specs.Bodies as bodies
use Rattle.g_border.specs.Bodies.{Readers, is_known, next_step, turns, readers, inside_of, body_reader}
use Rattle.g_border.specs.Readers.{Given, same_source, value_given, has_value, value_on}
use Rattle.g_frames.specs.Program.{FlatVi}
use Rattle.g_bodies.specs.declared.steps.Step.{Step}
use Rattle.g_bodies.specs.Known.{Found, with_more, readers_by}
use Rattle.g_bodies.specs.Steps.{step_of, gives_of, reads_of, WorkFits, StepFits, AllFit, NodeFits, NodesFit}
use Rattle.g_bodies.specs.Turns.{turns_by, after, first_from, StepsFit}

-- ---- the step of a turn

pub record Taken (r : Readers) (types : Types) (k : ℕ) (ss : List Step) (at : ℕ) (d : Step) : Type 0 where
  pub place : ℕ
  pub place_is : at ≡ k + place
  pub known : is_known r (step_of types (get_or ss place d)) ≡ true
  pub next : next_step r (map (step_of types) ss) ≡ Some (step_of types (get_or ss place d), map (step_of types) (take place ss ++ drop (suc place) ss))

unsome : (a b : ℕ) → Some a ≡ Some b → a ≡ b
unsome a b e = cc

taken : (r : Readers) (types : Types) (k : ℕ) (ss : List Step) (at : ℕ) (d : Step) → first_from k (λ s. is_known r (step_of types s)) ss ≡ Some at → Taken r types k ss at d
taken r types k [] at d e = cc
taken r types k (s ∷ ss) at d e = by (is_known r (step_of types s)) refl (λ g. taken r types (suc k) ss at d g) e
  where
    by : (b : Bool) → is_known r (step_of types s) ≡ b → (first_from (suc k) (λ s. is_known r (step_of types s)) ss ≡ Some at → Taken r types (suc k) ss at d)
        → (if b then Some k else first_from (suc k) (λ s. is_known r (step_of types s)) ss) ≡ Some at → Taken r types k (s ∷ ss) at d
    by true h more g =
        record {
          place = 0;
          place_is = (let same : k ≡ at = unsome k at g in omega (arith, same));
          known = h;
          next = ap (λ (b : Bool). if b then Some (step_of types s, map (step_of types) ss) else option_map (λ t. (t.0, step_of types s ∷ t.1)) (next_step r (map (step_of types) ss))) h;
        }
    by false h more g =
        let rest : Taken r types (suc k) ss at d = more g in
        record {
          place = suc rest.place;
          place_is = (let same = rest.place_is in omega (arith, same));
          known = rest.known;
          next = ap (λ (b : Bool). if b then Some (step_of types s, map (step_of types) ss) else option_map (λ t. (t.0, step_of types s ∷ t.1)) (next_step r (map (step_of types) ss))) h
              ∙ ap (option_map (λ t. (t.0, step_of types s ∷ t.1))) rest.next;
        }

none_taken : (r : Readers) (types : Types) (k : ℕ) (ss : List Step) → first_from k (λ s. is_known r (step_of types s)) ss ≡ None → next_step r (map (step_of types) ss) ≡ None
none_taken r types k [] e = refl
none_taken r types k (s ∷ ss) e = by (is_known r (step_of types s)) (λ g. none_taken r types (suc k) ss g) e
  where
    by : (b : Bool) → (first_from (suc k) (λ s. is_known r (step_of types s)) ss ≡ None → next_step r (map (step_of types) ss) ≡ None)
        → (if b then Some k else first_from (suc k) (λ s. is_known r (step_of types s)) ss) ≡ None
        → (let t : bodies.Step × List bodies.Step = (step_of types s, map (step_of types) ss) in
        let o : Option (bodies.Step × List bodies.Step) = option_map (λ t. (t.0, step_of types s ∷ t.1)) (next_step r (map (step_of types) ss)) in
        (if b then Some t else o) ≡ None)
    by true more g = cc
    by false more g = ap (option_map (λ t. (t.0, step_of types s ∷ t.1))) (more g)

pub taken_at : (r : Readers) (types : Types) (ss : List Step) (at : ℕ) (d : Step) → first_from 0 (λ s. is_known r (step_of types s)) ss ≡ Some at
    → (is_known r (step_of types (get_or ss at d)) ≡ true)
    × (next_step r (map (step_of types) ss) ≡ Some (step_of types (get_or ss at d), map (step_of types) (take at ss ++ drop (suc at) ss)))
taken_at r types ss at d e =
    let t : Taken r types 0 ss at d = taken r types 0 ss at d e in
    let same : t.place ≡ at = (let f = t.place_is in omega (arith, f)) in
    let P : ℕ → Type 0 = λ n. (is_known r (step_of types (get_or ss n d)) ≡ true)
    × (next_step r (map (step_of types) ss) ≡ Some (step_of types (get_or ss n d), map (step_of types) (take n ss ++ drop (suc n) ss))) in
    subst P same (t.known, t.next)

-- ---- what is found after turns

-- one turn
pub one_turn : (vi : FlatVi) (ss rest : List Step) (f g : Found) (at : ℕ) (d s : Step)
    → first_from 0 (λ s. is_known (readers_by vi.ports f) (step_of vi.types s)) ss ≡ Some at → s ≡ get_or ss at d → rest ≡ take at ss ++ drop (suc at) ss
    → g ≡ with_more f (gives_of vi.types s.work (readers_by vi.ports f)) → (m : ℕ) → after vi rest g m ≡ after vi ss f (suc m)
one_turn vi ss rest f g at d s e same others more m =
    let r : Readers = readers_by vi.ports f in
    let go : Option (bodies.Step × List bodies.Step) → Found = λ o. option_map_or (λ t. turns_by vi.ports m t.1 (with_more f (t.0.gives r))) o f in
    ap (λ ts. turns_by vi.ports m (map (step_of vi.types) ts) g) others
    ∙ ap (turns_by vi.ports m (map (step_of vi.types) (take at ss ++ drop (suc at) ss))) more
    ∙ ap (λ x. turns_by vi.ports m (map (step_of vi.types) (take at ss ++ drop (suc at) ss)) (with_more f (gives_of vi.types x.work r))) same
    ∙ sym (ap go (taken_at r vi.types ss at d e).1)

-- none
pub no_turn : (vi : FlatVi) (ss : List Step) (f : Found) → first_from 0 (λ s. is_known (readers_by vi.ports f) (step_of vi.types s)) ss ≡ None
    → (m : ℕ) → after vi ss f m ≡ after vi ss f (suc m)
no_turn vi ss f e zero = sym (stays zero)
  where
    stays : (m : ℕ) → after vi ss f (suc m) ≡ f
    stays m =
        ap (λ o. option_map_or (λ t. turns_by vi.ports m t.1 (with_more f (t.0.gives (readers_by vi.ports f)))) o f) (none_taken (readers_by vi.ports f) vi.types 0 ss e)
no_turn vi ss f e (suc m) = stays m ∙ sym (stays (suc m))
  where
    stays : (m : ℕ) → after vi ss f (suc m) ≡ f
    stays m =
        ap (λ o. option_map_or (λ t. turns_by vi.ports m t.1 (with_more f (t.0.gives (readers_by vi.ports f)))) o f) (none_taken (readers_by vi.ports f) vi.types 0 ss e)

-- ---- what steps need

all_at : (r : ℕ → Readers) (ss : List Step) (k : ℕ) (d : Step) → k < length ss → AllFit r ss → StepFits r (get_or ss k d)
all_at r [] k d lt all = absurd (omega (arith, lt))
all_at r (s ∷ ss) zero d lt all = all.0
all_at r (s ∷ ss) (suc k) d lt all = all_at r ss k d (omega (arith, lt)) all.1

all_but : (r : ℕ → Readers) (ss : List Step) (k : ℕ) → AllFit r ss → AllFit r (take k ss ++ drop (suc k) ss)
all_but r [] zero all = all
all_but r [] (suc k) all = all
all_but r (s ∷ ss) zero all = all.1
all_but r (s ∷ ss) (suc k) all = (all.0, all_but r ss k all.1)

later : (r q : ℕ → Readers) → ((n : ℕ) → q n ≡ r (suc n)) → (ss : List Step) → AllFit r ss → AllFit q ss
later r q e [] all = all
later r q e (s ∷ ss) all =
    (λ n. let Q : Readers → Type 0 = λ x. list_all (λ w. has_value (x w.0) w.1) (reads_of s) ≡ true → WorkFits x s.work in subst Q (sym (e n)) (all.0 (suc n)), later r q e ss all.1)

-- the step that is taken
pub taken_fits : (vi : FlatVi) (ss : List Step) (f : Found) (at : ℕ) (d s : Step)
    → first_from 0 (λ s. is_known (readers_by vi.ports f) (step_of vi.types s)) ss ≡ Some at → at < length ss → s ≡ get_or ss at d → StepsFit vi ss f
    → WorkFits (readers_by vi.ports f) s.work
taken_fits vi ss f at d s e lt same all =
    let r : Readers = readers_by vi.ports f in
    let fits : StepFits (λ n. readers_by vi.ports (after vi ss f n)) (get_or ss at d) = all_at (λ n. readers_by vi.ports (after vi ss f n)) ss at d lt all in
    let P : Step → Type 0 = λ x. WorkFits r x.work in subst P (sym same) (fits 0 (taken_at r vi.types ss at d e).0)

-- the others
pub others_fit : (vi : FlatVi) (ss rest : List Step) (f g : Found) (at : ℕ) → rest ≡ take at ss ++ drop (suc at) ss
    → ((m : ℕ) → after vi rest g m ≡ after vi ss f (suc m)) → StepsFit vi ss f → StepsFit vi rest g
others_fit vi ss rest f g at e turn all =
    let r : ℕ → Readers = λ n. readers_by vi.ports (after vi ss f n) in
    later r (λ n. readers_by vi.ports (after vi rest g n)) (λ n. ap (readers_by vi.ports) (turn n)) rest
    (subst (AllFit r) (sym e) (all_but r ss at all))

-- ---- turns by what is given

given_both : (gs more : Given) (p : WireSource) → value_given (gs ++ more) p ≡ option_or (value_given gs p) (value_given more p)
given_both [] more p = refl
given_both (g ∷ gs) more p = by (same_source g.0 p) (given_both gs more p)
  where
    by : (b : Bool) → value_given (gs ++ more) p ≡ option_or (value_given gs p) (value_given more p)
        → (if b then Some g.1 else value_given (gs ++ more) p) ≡ option_or (if b then Some g.1 else value_given gs p) (value_given more p)
    by true e = refl
    by false e = e

more_found : (gs more : Given) → value_given (gs ++ more) ≡ with_more (value_given gs) more
more_found gs more = λ i p. given_both gs more p i

pub turns_found : (ports : List Port) (n : ℕ) (ss : List bodies.Step) (gs : Given) → value_given (turns ports n ss gs) ≡ turns_by ports n ss (value_given gs)
unfolding turns
turns_found ports zero ss gs = refl
turns_found ports (suc n) ss gs = by (next_step (readers ports gs) ss) (λ ts more. turns_found ports n ts more)
  where
    by : (o : Option (bodies.Step × List bodies.Step))
        → ((ts : List bodies.Step) (more : Given) → value_given (turns ports n ts more) ≡ turns_by ports n ts (value_given more))
        → value_given (option_map_or (λ t. turns ports n t.1 (gs ++ t.0.gives (readers ports gs))) o gs)
        ≡ option_map_or (λ t. turns_by ports n t.1 (with_more (value_given gs) (t.0.gives (readers ports gs)))) o (value_given gs)
    by None h = refl
    by (Some t) h = h t.1 (gs ++ t.0.gives (readers ports gs)) ∙ ap (turns_by ports n t.1) (more_found gs (t.0.gives (readers ports gs)))

-- ---- a whole body

length_same : (types : Types) (ss : List Step) → length ss ≡ length (map (step_of types) ss)
length_same types [] = refl
length_same types (s ∷ ss) = ap suc (length_same types ss)

nodes_fit : (r : ℕ → Readers) (es : List lines.Entry) → ((e : lines.Entry) → IsAmong e es → NodeFits r e) → NodesFit r es
nodes_fit r [] h = tt
nodes_fit r (e ∷ es) h = (h e (among 0 refl), nodes_fit r es (λ x a. h x (further x a)))
  where
    further : (x : lines.Entry) → IsAmong x es → IsAmong x (e ∷ es)
    further x (among k is) = among (suc k) is

-- the code's steps and what it begins with are those of a body
pub record IsBody (vi : FlatVi) (body finish : ℕ) (inside : Given) (es : List Entry) (ss : List Step) (f : Found) : Type 0 where
  pub nodes_are : map seen es ≡ inside_of body finish vi.entries
  pub steps_are : map (step_of vi.types) ss ≡ bodies.steps_of vi.types (map seen es)
  pub found_is : (p : WireSource) → f p ≡ value_given inside p

steps_in : (vi : FlatVi) (body finish : ℕ) (inside : Given) (es : List Entry) (ss : List Step) (f : Found) → IsBody vi body finish inside es ss f
    → map (step_of vi.types) ss ≡ bodies.steps_of vi.types (inside_of body finish vi.entries)
steps_in vi body finish inside es ss f is = is.steps_are ∙ ap (bodies.steps_of vi.types) is.nodes_are

begins : (vi : FlatVi) (body finish : ℕ) (inside : Given) (es : List Entry) (ss : List Step) (f : Found) → IsBody vi body finish inside es ss f → f ≡ value_given inside
begins vi body finish inside es ss f is = λ i p. is.found_is p i

same_after : (vi : FlatVi) (body finish : ℕ) (inside : Given) (es : List Entry) (ss : List Step) (f : Found) → IsBody vi body finish inside es ss f
    → (n : ℕ) → after_turns vi body finish inside n ≡ readers_by vi.ports (after vi ss f n)
same_after vi body finish inside es ss f is n =
    let steps : List bodies.Step = bodies.steps_of vi.types (inside_of body finish vi.entries) in
    ap (readers_by vi.ports) (turns_found vi.ports n steps inside)
    ∙ ap (λ g. readers_by vi.ports (turns_by vi.ports n steps g)) (sym (begins vi body finish inside es ss f is))
    ∙ ap (λ xs. readers_by vi.ports (turns_by vi.ports n xs f)) (sym (steps_in vi body finish inside es ss f is))

pub body_fits : (vi : FlatVi) (body finish : ℕ) (inside : Given) (es : List Entry) (ss : List Step) (f : Found) → IsBody vi body finish inside es ss f
    → ((r : ℕ → Readers) → NodesFit r (map seen es) → AllFit r ss) → BodyNeeds vi body finish inside → StepsFit vi ss f
body_fits vi body finish inside es ss f is fits needs =
    let r : ℕ → Readers = λ n. readers_by vi.ports (after vi ss f n) in
    let one : (e : lines.Entry) → IsAmong e (inside_of body finish vi.entries) → NodeFits r e = λ e a op inputs outputs k n.
    let Q : Readers → Type 0 = λ x. list_all (has_value (x e.diagram)) inputs ≡ true → FitsPrimitive op (map (value_on (x e.diagram)) inputs) in
    subst Q (same_after vi body finish inside es ss f is n) (needs n e op inputs outputs a k) in
    fits r (subst (NodesFit r) (sym is.nodes_are) (nodes_fit r (inside_of body finish vi.entries) one))

pub body_read : (vi : FlatVi) (body finish : ℕ) (inside : Given) (es : List Entry) (ss : List Step) (f g : Found) → IsBody vi body finish inside es ss f
    → g ≡ after vi ss f (length ss) → readers_by vi.ports g body ≡ body_reader vi.ports vi.types vi.entries body finish inside
body_read vi body finish inside es ss f g is e =
    let steps : List bodies.Step = bodies.steps_of vi.types (inside_of body finish vi.entries) in
    ap (λ x. readers_by vi.ports x body)
    (e ∙ ap (λ n. turns_by vi.ports n (map (step_of vi.types) ss) f) (length_same vi.types ss)
    ∙ ap (λ xs. turns_by vi.ports (length xs) xs f) (steps_in vi body finish inside es ss f is)
    ∙ ap (turns_by vi.ports (length steps) steps) (begins vi body finish inside es ss f is)
    ∙ sym (turns_found vi.ports (length steps) steps inside))
