-- The graph of steps, by the readers of each name.
use Rattle.std.proofs.Common.{◌≡◌, ◌⊎◌, inl, inr, ⊎_elim, ℕ, zero, suc, ◌+◌, ◌<◌, ◌≤◌, ◌==◌, Bool, true, false, ◌&&◌, ◌||◌, cond, List, [], ◌∷◌, ◌++◌, map, length, get_or, drop, refl, sym, ap, ◌∙◌, arith}
use Rattle.std.specs.Prelude.{Option, Some, None, slice_get, Vec}
use Rattle.std.specs.List.{list_any}
use Rattle.std.specs.Str.{bytes_eq}
use Rattle.std.specs.Cmp.{unsigned_tied}
use Rattle.std.specs.Ordering.{ordering_then, nat_cmp, is_eq}
use Rattle.std.specs.Cmp.Lexicographic.{slice_cmp}
use Rattle.std.specs.BTreeMap.{get_by}
use Rattle.std.specs.declared.alloc.Global.{Global}
use Rattle.std.proofs.Math.Bool.{or_assoc}
use Rattle.std.proofs.lemmas.List.{at_drop_more, at_drop_all, get_or_default, length-map}
use Rattle.std.proofs.lemmas.List.Folds.{list_any-append}
use Rattle.std.proofs.lemmas.Option.{slice_get-get_or, slice_get_past}
use Rattle.std.proofs.lemmas.Slice.Eq.{bytes_eq-Decides}
use Rattle.g_diagram.specs.Lines.{Wire}
use Rattle.g_graph.specs.Graph.{Graph, InRange, has, has_edge, row_of}
use Rattle.g_graph.proofs.Search.{has_at}
use Rattle.g_typing.proofs.Roles.{nothing, IsRead}
use Rattle.g_typing.specs.Typing.{Given, Callees, Objects, IsGivenTo}
use Rattle.g_wires.proofs.Found.{or_left, or_right, or_cases, and_left, and_right, and_both, same_number}
use Rattle.g_rules_types.proofs.Kept.{is_key, key_is}
use Rattle.g_infer.specs.declared.feeds.Reader.{Reader}
use Rattle.g_infer.specs.declared.feeds.Readers.{Readers}
use Rattle.g_infer.specs.Feeding.{AreSame, ByDiagram, ByName, IsFeeding, IsReadersOf, IsRowOf, does_read, is_at, is_reader, is_reader_in, leads_to, readers_in, readers_of, reads_some}
use Rattle.g_infer.specs.Gives.{form_gives}
use Rattle.g_infer.specs.Reads.{named, all_named, form_reads}
use Rattle.g_infer.specs.Steps.{Form}

pub or_false : (a : Bool) → (a || false) ≡ a
or_false true = refl
or_false false = refl

-- ---- readers that are added

abbrev pub kept_for : ByName → (d : ℕ) → (name : List ℕ) → Option (Vec ℕ Global)
kept_for m d name = get_by (λ k. ordering_then (nat_cmp d k.0) (slice_cmp nat_cmp name k.1.now)) m

module _ (old new : ByName) (d : ℕ) (name : List ℕ) (v : Vec ℕ Global) (step : ℕ)
    (updates : (e : ℕ) (other : List ℕ) → kept_for new e other ≡ cond (is_key d name e other) (Some v) (kept_for old e other))
    (grows : (b : ℕ) → has v.items b ≡ (has (row_of (kept_for old d name)) b || (step == b))) where
  grown : (e : ℕ) (other : List ℕ) (b : ℕ) (k : Bool) → is_key d name e other ≡ k
      → has (row_of (cond k (Some v) (kept_for old e other))) b ≡ (is_reader old e other b || (k && (step == b)))
  grown e other b true h =
      let key : ((d == e) && bytes_eq name other) ≡ true = sym (key_is d name e other) ∙ h in
      let same : (d ≡ e) × (name ≡ other) = (same_number d e (and_left (d == e) (bytes_eq name other) key), (bytes_eq-Decides name other).0 (and_right (d == e) (bytes_eq name other) key)) in
      grows b ∙ ap (λ x. is_reader old x name b || (step == b)) same.0 ∙ ap (λ x. is_reader old e x b || (step == b)) same.1
  grown e other b false h = sym (or_false (is_reader old e other b))

  pub reader_added : (e : ℕ) (other : List ℕ) (b : ℕ) → is_reader new e other b ≡ (is_reader old e other b || (is_at e other (d, name) && (step == b)))
  reader_added e other b =
      ap (λ o. has (row_of o) b) (updates e other) ∙ grown e other b (is_key d name e other) refl
      ∙ ap (λ k. is_reader old e other b || (k && (step == b))) (key_is d name e other)

-- what is taken out and put back
pub put_back : {X : Type 0} (k : Bool) (v : X) (o : Option X) → cond k (Some v) (cond k None o) ≡ cond k (Some v) o
put_back true v o = refl
put_back false v o = refl

-- a reader more in its diagram
in_its_diagram : (r : Reader) (rs : List Reader) (other : List ℕ) (b : ℕ) → reads_some (λ n. bytes_eq n other) (rs ++ r ∷ []) b ≡ (reads_some (λ n. bytes_eq n other) rs b || (bytes_eq r.name.now other && (r.step == b)))
in_its_diagram r rs other b =
    list_any-append (λ (x : Reader). bytes_eq x.name.now other && (x.step == b)) rs (r ∷ []) ∙ ap (λ c. reads_some (λ n. bytes_eq n other) rs b || c) (or_false (bytes_eq r.name.now other && (r.step == b)))

pub reader_in_added : (old new : ByDiagram) (d : ℕ) (r : Reader) (v : Vec Reader Global)
    → ((e : ℕ) → readers_in new e ≡ readers_of (cond (is_eq (nat_cmp d e)) (Some v) (cond (is_eq (nat_cmp d e)) None (get_by (nat_cmp e) old))))
    → v.items ≡ readers_in old d ++ r ∷ []
    → (e : ℕ) (other : List ℕ) (b : ℕ) → is_reader_in new e other b ≡ (is_reader_in old e other b || (is_at e other (d, r.name.now) && (r.step == b)))
reader_in_added old new d r v updates grows e other b =
    ap (λ rs. reads_some (λ n. bytes_eq n other) rs b) (updates e) ∙ by (is_eq (nat_cmp d e)) (sym (unsigned_tied d e))
  where
    by : (k : Bool) → (d == e) ≡ k
        → reads_some (λ n. bytes_eq n other) (readers_of (cond k (Some v) (cond k None (get_by (nat_cmp e) old)))) b ≡ (is_reader_in old e other b || (is_at e other (d, r.name.now) && (r.step == b)))
    by true h =
        ap (λ rs. reads_some (λ n. bytes_eq n other) rs b) grows ∙ in_its_diagram r (readers_in old d) other b
        ∙ ap (λ (x : ℕ). is_reader_in old x other b || (bytes_eq r.name.now other && (r.step == b))) (same_number d e h)
        ∙ ap (λ c. is_reader_in old e other b || ((c && bytes_eq r.name.now other) && (r.step == b))) (sym h)
    by false h = sym (or_false (is_reader_in old e other b)) ∙ ap (λ c. is_reader_in old e other b || ((c && bytes_eq r.name.now other) && (r.step == b))) (sym h)

or_step : (o p r s : Bool) → ((o || (p && s)) || (r && s)) ≡ (o || ((p || r) && s))
or_step true p r s = refl
or_step false true r true = refl
or_step false true true false = refl
or_step false true false false = refl
or_step false false r s = refl

-- one more name, as at a step of a loop
names_more : {X : Type 0} (F : List X → Bool) (p : Bool) (xs : List X) (i : ℕ) (x : X) (new old s whole : Bool) → i < length xs → x ≡ get_or xs i x
    → F (x ∷ drop (i + 1) xs) ≡ (p || F (drop (i + 1) xs)) → new ≡ (old || (p && s)) → (old || (F (drop i xs) && s)) ≡ whole → (new || (F (drop (i + 1) xs) && s)) ≡ whole
names_more F p xs i x new old s whole lt is step e h =
    ap (λ b. b || (F (drop (i + 1) xs) && s)) e ∙ or_step old p (F (drop (i + 1) xs)) s
    ∙ ap (λ b. old || (b && s)) (sym (at_drop_more F xs i x lt ∙ ap (λ y. F (y ∷ drop (i + 1) xs)) (sym is) ∙ step)) ∙ h

pub names_at : {X : Type 0} (F : List X → Bool) (p : X → Bool) (xs : List X) (i : ℕ) (d : X) (new old s whole : Bool) → i < length xs
    → ((y : X) (ys : List X) → F (y ∷ ys) ≡ (p y || F ys)) → new ≡ (old || (p (get_or xs i d) && s)) → (old || (F (drop i xs) && s)) ≡ whole
    → (new || (F (drop (i + 1) xs) && s)) ≡ whole
names_at F p xs i d new old s whole lt step e h =
    names_more F (p (get_or xs i d)) xs i (get_or xs i d) new old s whole lt (get_or_default xs i d (get_or xs i d) lt) (step (get_or xs i d) (drop (i + 1) xs)) e h

-- the same of a test alone
pub tests_more : {X : Type 0} (F : List X → Bool) (G : List X → Bool) (p : Bool) (xs : List X) (i : ℕ) (x : X) (new old whole : Bool) → i < length xs → x ≡ get_or xs i x
    → F (x ∷ drop (i + 1) xs) ≡ (p || G (drop (i + 1) xs)) → new ≡ (old || p) → (old || F (drop i xs)) ≡ whole → (new || G (drop (i + 1) xs)) ≡ whole
tests_more F G p xs i x new old whole lt is step e h =
    ap (λ b. b || G (drop (i + 1) xs)) e ∙ or_assoc old p (G (drop (i + 1) xs))
    ∙ ap (λ b. old || b) (sym (at_drop_more F xs i x lt ∙ ap (λ y. F (y ∷ drop (i + 1) xs)) (sym is) ∙ step)) ∙ h

pub tests_end : {X : Type 0} (F : List X → Bool) (xs : List X) (i : ℕ) (a whole : Bool) → length xs ≤ i → F [] ≡ false → (a || F (drop i xs)) ≡ whole → a ≡ whole
tests_end F xs i a whole le none h = sym (or_false a) ∙ ap (λ b. a || b) (sym (at_drop_all F xs i le ∙ none)) ∙ h

-- ---- the readers of all steps

-- whether step b reads a name, where the first of these has the number k
abbrev pub reads_from : (k : ℕ) → List Form → (d : ℕ) → (name : List ℕ) → (b : ℕ) → Bool
reads_from k [] d name b = false
reads_from k (f ∷ fs) d name b = (list_any (is_at d name) (all_named (form_reads f)) && (k == b)) || reads_from (k + 1) fs d name b

not_it : (p r e : Bool) → e ≡ false → ((p && e) || r) ≡ r
not_it true r e h = ap (λ x. x || r) h
not_it false r e h = refl

it : (p r e : Bool) → e ≡ true → r ≡ false → ((p && e) || r) ≡ p
it true r e h g = ap (λ x. x || r) h
it false r e h g = g

earlier : (k : ℕ) (fs : List Form) (d : ℕ) (name : List ℕ) (b : ℕ) → b < k → reads_from k fs d name b ≡ false
earlier k [] d name b lt = refl
earlier k (f ∷ fs) d name b lt =
    not_it (list_any (is_at d name) (all_named (form_reads f))) (reads_from (k + 1) fs d name b) (k == b) (grind (arith, lt))
    ∙ earlier (k + 1) fs d name b (omega (arith, lt))

pub reads_are : (k j b : ℕ) (fs : List Form) (d : ℕ) (name : List ℕ) → b ≡ k + j → reads_from k fs d name b ≡ does_read (slice_get fs j) d name
reads_are k zero b [] d name e = refl
reads_are k (suc j) b [] d name e = refl
reads_are k zero b (f ∷ fs) d name e =
    it (list_any (is_at d name) (all_named (form_reads f))) (reads_from (k + 1) fs d name b) (k == b) (grind (arith, e)) (earlier (k + 1) fs d name b (omega (arith, e)))
reads_are k (suc j) b (f ∷ fs) d name e =
    not_it (list_any (is_at d name) (all_named (form_reads f))) (reads_from (k + 1) fs d name b) (k == b) (grind (arith, e))
    ∙ reads_are (k + 1) j b fs d name (omega (arith, e))

-- ---- rows

-- the rows below number i are those of their steps
abbrev pub Rows : Readers → List Form → ℕ → Graph → Type 0
Rows m forms i g = (a : ℕ) (s : Form) → a < i → slice_get forms a ≡ Some s → IsRowOf m s (row_of (slice_get g a))

-- ---- names that are read, and names that are given

named_test : (e : ℕ) (w : Wire) (rest : List (ℕ × List ℕ)) (d : ℕ) (name : List ℕ) → (e ≡ d) → (w ≡ Some name) → list_any (is_at d name) (named e w ++ rest) ≡ true
named_test e None rest d name h k = absurd cc
named_test e (Some n) rest d name h k =
    or_left (is_at d name (e, n)) (list_any (is_at d name) rest)
    (and_both (e == d) (bytes_eq n name) (grind (arith, h)) ((bytes_eq-Decides n name).1 (let same : Some n ≡ Some name = k in cc)))

later_test : (e : ℕ) (w : Wire) (rest : List (ℕ × List ℕ)) (d : ℕ) (name : List ℕ) → list_any (is_at d name) rest ≡ true → list_any (is_at d name) (named e w ++ rest) ≡ true
later_test e None rest d name h = h
later_test e (Some n) rest d name h = or_right (is_at d name (e, n)) (list_any (is_at d name) rest) h

read_test : (qs : List (ℕ × Wire)) (d : ℕ) (name : List ℕ) → IsRead qs d name → list_any (is_at d name) (all_named qs) ≡ true
read_test [] d name h = absurd h
read_test (q ∷ qs) d name (inl h) = named_test q.0 q.1 (all_named qs) d name h.0 h.1
read_test (q ∷ qs) d name (inr h) = later_test q.0 q.1 (all_named qs) d name (read_test qs d name h)

named_of : (e : ℕ) (w : Wire) (rest : List (ℕ × List ℕ)) (d : ℕ) (name : List ℕ) → list_any (is_at d name) (named e w ++ rest) ≡ true
    → ((e ≡ d) × (w ≡ Some name)) ⊎ (list_any (is_at d name) rest ≡ true)
named_of e None rest d name h = inr h
named_of e (Some n) rest d name h =
    ⊎_elim
    (λ l. inl (same_number e d (and_left (e == d) (bytes_eq n name) l), ap Some ((bytes_eq-Decides n name).0 (and_right (e == d) (bytes_eq n name) l))))
    (λ r. inr r)
    (or_cases (is_at d name (e, n)) (list_any (is_at d name) rest) h)

read_of : (qs : List (ℕ × Wire)) (d : ℕ) (name : List ℕ) → list_any (is_at d name) (all_named qs) ≡ true → IsRead qs d name
read_of [] d name h = absurd cc
read_of (q ∷ qs) d name h = ⊎_elim (λ l. inl l) (λ r. inr (read_of qs d name r)) (named_of q.0 q.1 (all_named qs) d name h)

module _ (m : ByName) where
  given_test : (gs : List Given) (b d : ℕ) (name : List ℕ) → IsGivenTo gs d name → is_reader m d name b ≡ true → leads_to m gs b ≡ true
  given_test [] b d name h k = absurd h
  given_test (g ∷ gs) b d name (inl h) k =
      or_left (is_reader m g.diagram g.name b) (leads_to m gs b) (ap (λ x. is_reader m x g.name b) h.0 ∙ ap (λ x. is_reader m d x b) h.1 ∙ k)
  given_test (g ∷ gs) b d name (inr h) k = or_right (is_reader m g.diagram g.name b) (leads_to m gs b) (given_test gs b d name h k)

  record Led (gs : List Given) (b : ℕ) : Type 0 where
    diagram : ℕ
    name : List ℕ
    given : IsGivenTo gs diagram name
    read : is_reader m diagram name b ≡ true

  given_of : (gs : List Given) (b : ℕ) → leads_to m gs b ≡ true → Led gs b
  given_of [] b h = absurd cc
  given_of (g ∷ gs) b h =
      ⊎_elim
      (λ l. record { diagram = g.diagram; name = g.name; given = inl (refl, refl); read = l })
      (λ r. let o : Led gs b = given_of gs b r in record { diagram = o.diagram; name = o.name; given = inr o.given; read = o.read })
      (or_cases (is_reader m g.diagram g.name b) (leads_to m gs b) h)

pub both_same : (forms : List Form) (m : Readers) → IsReadersOf forms m → AreSame m
both_same forms m h d name b = h.by_diagram d name b ∙ sym (h.by_name d name b)

-- ---- the graph

split : (a n : ℕ) → (a < n) ⊎ (n ≤ a)
split a n = grind arith

below : {X : Type 0} (xs : List X) (a : ℕ) (x : X) → slice_get xs a ≡ Some x → a < length xs
below xs a x e = ⊎_elim (λ lt. lt) (λ le. let none : slice_get xs a ≡ None = slice_get_past xs a le in absurd cc) (split a (length xs))

record Stands {X : Type 0} (xs : List X) (a : ℕ) : Type 0 where
  item : X
  at : slice_get xs a ≡ Some item

stands : {X : Type 0} (xs : List X) (a : ℕ) → a < length xs → Stands xs a
stands [] a lt = absurd (omega (arith, lt))
stands (x ∷ xs) zero lt = record { item = x; at = refl }
stands (x ∷ xs) (suc a) lt = let s = stands xs a (omega (arith, lt)) in record { item = s.item; at = s.at }

reads_below : (forms : List Form) (b d : ℕ) (name : List ℕ) → does_read (slice_get forms b) d name ≡ true → b < length forms
reads_below forms b d name h =
    ⊎_elim
    (λ lt. lt)
    (λ le. let none : does_read (slice_get forms b) d name ≡ false = ap (λ o. does_read o d name) (slice_get_past forms b le) in absurd cc)
    (split b (length forms))

module _ (forms : List Form) (m : Readers) (g : Graph) (readers : IsReadersOf forms m) (rows : Rows m forms (length forms) g) where
  edge_is : (called : Callees) (objects : Objects) (a b : ℕ) (s : Form) → slice_get forms a ≡ Some s → has_edge g a b ≡ leads_to m.by_name (form_gives called objects nothing s) b
  edge_is called objects a b s at = rows a s (below forms a s at) at called objects b

  pub feeding : IsFeeding forms g
  feeding = record {
    leads = λ called objects a b s t at bt f.
        edge_is called objects a b s at
        ∙ given_test m.by_name (form_gives called objects nothing s) b f.diagram f.name f.gives
        (readers.by_name f.diagram f.name b ∙ ap (λ o. does_read o f.diagram f.name) bt ∙ read_test (form_reads t) f.diagram f.name f.reads);
    only = λ called objects a b s t at bt h.
        let led : Led m.by_name (form_gives called objects nothing s) b = given_of m.by_name (form_gives called objects nothing s) b (sym (edge_is called objects a b s at) ∙ h) in
        record {
          diagram = led.diagram;
          name = led.name;
          reads = read_of (form_reads t) led.diagram led.name (ap (λ o. does_read o led.diagram led.name) (sym bt) ∙ sym (readers.by_name led.diagram led.name b) ∙ led.read);
          gives = led.given;
        };
  }

  edge_below : (a b : ℕ) → a < length forms → has_edge g a b ≡ true → b < length forms
  edge_below a b lt h =
      let s : Stands forms a = stands forms a lt in
      let called : Callees = λ name. [] in
      let objects : Objects = λ name. None in
      let led : Led m.by_name (form_gives called objects nothing s.item) b = given_of m.by_name (form_gives called objects nothing s.item) b (sym (edge_is called objects a b s.item s.at) ∙ h) in
      reads_below forms b led.diagram led.name (sym (readers.by_name led.diagram led.name b) ∙ led.read)

  pub in_range : length g ≡ length forms → InRange g
  in_range long a r lt k e within =
      let row = get_or g a r in
      let got : slice_get g a ≡ Some row = slice_get-get_or g a r lt in
      let x = get_or row.items k e in
      let edge : has_edge g a x ≡ true = ap (λ o. has (row_of o) x) got ∙ has_at row.items k x (slice_get-get_or row.items k e within) in
      let less : x < length forms = edge_below a x (omega (arith, lt, long)) edge in
      omega (arith, less, long)

-- after the last step
pub all_rows : {X : Type 0} (f : X → Form) (m : Readers) (xs : List X) (i : ℕ) (g : Graph) → length xs ≤ i → Rows m (map f xs) i g → Rows m (map f xs) (length (map f xs)) g
all_rows f m xs i g le rows a s lt e = rows a s (let same : length (map f xs) ≡ length xs = length-map xs f in omega (arith, lt, le, same)) e
