-- The shared objects of typed states: which they are, and what operations give and leave.
use Rattle.std.proofs.Common.{◌≡◌, Bool, true, false, ℕ, zero, suc, ◌+◌, ◌-◌, ◌<◌, ◌≤◌, List, [], ◌∷◌, ◌++◌, map, length, Some, arith, refl, ap, sym, ◌∙◌, subst}
use Rattle.std.specs.Prelude.{slice_get, slice_set, nat_lt, if◌then◌else◌}
use Rattle.std.specs.Option.{option_map}
use Rattle.std.proofs.lemmas.Bool.{ltb-true, ltb-false}
use Rattle.g_types.specs.declared.ty.Ty.{Ty}
use Rattle.g_values.specs.declared.value.Value.{Value}
use Rattle.g_hier.specs.declared.linked.Space.{Space}
use Rattle.g_shared.specs.Panels.{PanelState, cell_at, with_cell}
use Rattle.g_frames.specs.declared.program.QueueName.{QueueName}
use Rattle.g_frames.specs.declared.program.CellPlace.{CellPlace}
use Rattle.g_frames.specs.Contents.{Content}
use Rattle.g_frames.specs.Program.{Program, panel_object}
use Rattle.g_frames.proofs.RunLemmas.{some_is}
use Rattle.g_typed_states.specs.Typed.{Shape, QueueOf, CellOf, PoolOf, panel_shape, shapes, IsTypedValue, AreTyped, IsTypedContent, IsTypedPanel, AreTypedObjects}
use Rattle.g_typed_states.proofs.Lists.{none_is}

-- ---- lists

pub at_map : {A B : Type 0} (f : A → B) (xs : List A) (k : ℕ) (x : A) → slice_get xs k ≡ Some x → slice_get (map f xs) k ≡ Some (f x)
at_map f [] k x at = absurd (none_is x at)
at_map f (y ∷ xs) zero x at = ap (option_map f) at
at_map f (y ∷ xs) (suc k) x at = at_map f xs k x at

pub mapped_at : {A B : Type 0} (f : A → B) (xs : List A) (k : ℕ) (y : B) → slice_get (map f xs) k ≡ Some y → (x : A) × ((slice_get xs k ≡ Some x) × (f x ≡ y))
mapped_at f [] k y at = absurd (none_is y at)
mapped_at f (x ∷ xs) zero y at = (x, (refl, some_is (f x) y at))
mapped_at f (x ∷ xs) (suc k) y at = mapped_at f xs k y at

pub at_front : {A : Type 0} (xs ys : List A) (k : ℕ) (x : A) → slice_get xs k ≡ Some x → slice_get (xs ++ ys) k ≡ Some x
at_front [] ys k x at = absurd (none_is x at)
at_front (y ∷ xs) ys zero x at = at
at_front (y ∷ xs) ys (suc k) x at = at_front xs ys k x at

pub at_back : {A : Type 0} (xs ys : List A) (n k : ℕ) → n ≡ length xs → slice_get (xs ++ ys) (n + k) ≡ slice_get ys k
at_back [] ys n k is = ap (λ m. slice_get ys m) (ap (λ m. m + k) is ∙ zero_plus k)
  where
    zero_plus : (k : ℕ) → 0 + k ≡ k
    zero_plus k = omega arith
at_back {A = A} (x ∷ xs) ys n k is = ap (λ m. slice_get (x ∷ (xs ++ ys)) m) (ap (λ m. m + k) is ∙ one_more (length xs) k) ∙ at_back xs ys (length xs) k refl
  where
    one_more : (a b : ℕ) → suc a + b ≡ suc (a + b)
    one_more a b = omega arith

pub front_at : {A : Type 0} (xs ys : List A) (k : ℕ) → k < length xs → slice_get (xs ++ ys) k ≡ slice_get xs k
front_at [] ys k less = absurd (none k less)
  where
    none : (k : ℕ) → k < 0 → ⊥
    none k less = omega (arith, less)
front_at (x ∷ xs) ys zero less = refl
front_at (x ∷ xs) ys (suc k) less = front_at xs ys k (fewer k (length xs) less)
  where
    fewer : (k n : ℕ) → suc k < suc n → k < n
    fewer k n less = omega (arith, less)

pub back_at : {A : Type 0} (xs ys : List A) (k : ℕ) → length xs ≤ k → slice_get (xs ++ ys) k ≡ slice_get ys (k - length xs)
back_at xs ys k far = ap (slice_get (xs ++ ys)) (split (length xs) k far) ∙ at_back xs ys (length xs) (k - length xs) refl
  where
    split : (n k : ℕ) → n ≤ k → k ≡ n + (k - n)
    split n k far = omega (arith, far)

long_map : {A B : Type 0} (f : A → B) (xs : List A) → length xs ≡ length (map f xs)
long_map f [] = refl
long_map f (x ∷ xs) = ap suc (long_map f xs)

-- ---- which objects there are

module _ (p : Program) where
  abbrev queue_shapes : List Shape
  queue_shapes = map (λ q. QueueOf q.item) p.queues

  abbrev cell_shapes : List Shape
  cell_shapes = map (λ c. CellOf c.content) p.cells

  abbrev panel_shapes : List Shape
  panel_shapes = map (panel_shape p) p.spaces

  abbrev pool_shapes : List Shape
  pool_shapes = map (λ v. PoolOf) p.pools

  pub queue_at : (k : ℕ) (q : QueueName) → slice_get p.queues k ≡ Some q → slice_get (shapes p) k ≡ Some (QueueOf q.item)
  queue_at k q at = at_front queue_shapes (cell_shapes ++ (panel_shapes ++ pool_shapes)) k (QueueOf q.item) (at_map (λ q. QueueOf q.item) p.queues k q at)

  pub cell_at_place : (k : ℕ) (c : CellPlace) → slice_get p.cells k ≡ Some c → slice_get (shapes p) (length p.queues + k) ≡ Some (CellOf c.content)
  cell_at_place k c at =
      at_back queue_shapes (cell_shapes ++ (panel_shapes ++ pool_shapes)) (length p.queues) k (long_map (λ q. QueueOf q.item) p.queues)
      ∙ at_front cell_shapes (panel_shapes ++ pool_shapes) k (CellOf c.content) (at_map (λ c. CellOf c.content) p.cells k c at)

  pub panel_at : (k : ℕ) (s : Space) → slice_get p.spaces k ≡ Some s → slice_get (shapes p) (panel_object p k) ≡ Some (panel_shape p s)
  panel_at k s at =
      ap (slice_get (shapes p)) (associates (length p.queues) (length p.cells) k)
      ∙ at_back queue_shapes (cell_shapes ++ (panel_shapes ++ pool_shapes)) (length p.queues) (length p.cells + k) (long_map (λ q. QueueOf q.item) p.queues)
      ∙ at_back cell_shapes (panel_shapes ++ pool_shapes) (length p.cells) k (long_map (λ c. CellOf c.content) p.cells)
      ∙ at_front panel_shapes pool_shapes k (panel_shape p s) (at_map (panel_shape p) p.spaces k s at)
    where
      associates : (a b c : ℕ) → a + b + c ≡ a + (b + c)
      associates a b c = omega arith

  -- ---- objects at their numbers

  plus_zero : (k j : ℕ) → suc k + j ≡ k + suc j
  plus_zero k j = omega arith

  -- a typed object, with what the program has there
  pub record IsObject (number : ℕ) (c : Content) : Type 0 where
    pub shape : Shape
    pub is : slice_get (shapes p) number ≡ Some shape
    pub typed : IsTypedContent p number shape c

  from_number : (k j : ℕ) (shs : List Shape) (cs : List Content) (c : Content) → AreTypedObjects p k shs cs → slice_get cs j ≡ Some c
      → (sh : Shape) × ((slice_get shs j ≡ Some sh) × IsTypedContent p (k + j) sh c)
  from_number k j [] [] c are at = absurd (none_is c at)
  from_number k j [] (x ∷ cs) c are at = absurd are
  from_number k j (sh ∷ shs) [] c are at = absurd (none_is c at)
  from_number k zero (sh ∷ shs) (x ∷ cs) c are at =
      (sh, (refl, subst (λ y. IsTypedContent p (k + 0) sh y) (some_is x c at) (subst (λ n. IsTypedContent p n sh x) (no_more k) are.0)))
    where
      no_more : (k : ℕ) → k ≡ k + 0
      no_more k = omega arith
  from_number k (suc j) (sh ∷ shs) (x ∷ cs) c are at =
      let r = from_number (suc k) j shs cs c are.1 at in
      (r.0, (r.1.0, subst (λ n. IsTypedContent p n r.0 c) (plus_zero k j) r.1.1))

  pub object_at : (cs : List Content) (k : ℕ) (c : Content) → AreTypedObjects p 0 (shapes p) cs → slice_get cs k ≡ Some c → IsObject k c
  object_at cs k c are at =
      let r = from_number 0 k (shapes p) cs c are at in
      record { shape = r.0; is = r.1.0; typed = subst (λ n. IsTypedContent p n r.0 c) (nothing_more k) r.1.1 }
    where
      nothing_more : (k : ℕ) → 0 + k ≡ k
      nothing_more k = omega arith

  shape_there : (k j : ℕ) (shs : List Shape) (cs : List Content) (sh : Shape) → AreTypedObjects p k shs cs → slice_get shs j ≡ Some sh → (c : Content) × (slice_get cs j ≡ Some c)
  shape_there k j [] cs sh are at = absurd (none_is sh at)
  shape_there k j (x ∷ shs) [] sh are at = absurd are
  shape_there k zero (x ∷ shs) (c ∷ cs) sh are at = (c, refl)
  shape_there k (suc j) (x ∷ shs) (c ∷ cs) sh are at = shape_there (suc k) j shs cs sh are.1 at

  -- there is an object where the program has one
  pub object_there : (cs : List Content) (k : ℕ) (sh : Shape) → AreTypedObjects p 0 (shapes p) cs → slice_get (shapes p) k ≡ Some sh → (c : Content) × (slice_get cs k ≡ Some c)
  object_there cs k sh are at = shape_there 0 k (shapes p) cs sh are at

  -- an object of a known shape
  pub shaped_at : (cs : List Content) (k : ℕ) (c : Content) (sh : Shape) → AreTypedObjects p 0 (shapes p) cs → slice_get cs k ≡ Some c → slice_get (shapes p) k ≡ Some sh
      → IsTypedContent p k sh c
  shaped_at cs k c sh are at is =
      let r = object_at cs k c are at in
      subst (λ x. IsTypedContent p k x c) (some_is r.shape sh (sym r.is ∙ is)) r.typed

  with_number : (k j : ℕ) (shs : List Shape) (cs : List Content) (c : Content) → AreTypedObjects p k shs cs → ((sh : Shape) → slice_get shs j ≡ Some sh → IsTypedContent p (k + j) sh c)
      → AreTypedObjects p k shs (slice_set cs j c)
  with_number k j [] [] c are new = are
  with_number k j [] (x ∷ cs) c are new = absurd are
  with_number k j (sh ∷ shs) [] c are new = absurd are
  with_number k zero (sh ∷ shs) (x ∷ cs) c are new = (subst (λ n. IsTypedContent p n sh c) (no_more k) (new sh refl), are.1)
    where
      no_more : (k : ℕ) → k + 0 ≡ k
      no_more k = omega arith
  with_number k (suc j) (sh ∷ shs) (x ∷ cs) c are new =
      (are.0, with_number (suc k) j shs cs c are.1 (λ y at. subst (λ n. IsTypedContent p n y c) (sym (plus_zero k j)) (new y at)))

  pub object_set : (cs : List Content) (k : ℕ) (c : Content) → AreTypedObjects p 0 (shapes p) cs → ((sh : Shape) → slice_get (shapes p) k ≡ Some sh → IsTypedContent p k sh c)
      → AreTypedObjects p 0 (shapes p) (slice_set cs k c)
  object_set cs k c are new = with_number 0 k (shapes p) cs c are (λ sh at. subst (λ n. IsTypedContent p n sh c) (sym (nothing_more k)) (new sh at))
    where
      nothing_more : (k : ℕ) → 0 + k ≡ k
      nothing_more k = omega arith

  -- ---- values in lists

  pub value_at_place : (ts : List Ty) (vs : List Value) (k : ℕ) (t : Ty) → AreTyped p ts vs → slice_get ts k ≡ Some t → (v : Value) × ((slice_get vs k ≡ Some v) × IsTypedValue p t v)
  value_at_place [] vs k t are at = absurd (none_is t at)
  value_at_place (u ∷ ts) [] k t are at = absurd are
  value_at_place (u ∷ ts) (v ∷ vs) zero t are at = (v, (refl, subst (λ x. IsTypedValue p x v) (some_is u t at) are.0))
  value_at_place (u ∷ ts) (v ∷ vs) (suc k) t are at = value_at_place ts vs k t are.1 at

  pub values_set : (ts : List Ty) (vs : List Value) (k : ℕ) (v : Value) → AreTyped p ts vs → ((t : Ty) → slice_get ts k ≡ Some t → IsTypedValue p t v) → AreTyped p ts (slice_set vs k v)
  values_set [] [] k v are new = are
  values_set [] (w ∷ vs) k v are new = absurd are
  values_set (u ∷ ts) [] k v are new = absurd are
  values_set (u ∷ ts) (w ∷ vs) zero v are new = (new u refl, are.1)
  values_set (u ∷ ts) (w ∷ vs) (suc k) v are new = (are.0, values_set ts vs k v are.1 new)

  pub values_long : (ts : List Ty) (vs : List Value) → AreTyped p ts vs → length vs ≡ length ts
  values_long [] [] are = refl
  values_long [] (v ∷ vs) are = absurd are
  values_long (t ∷ ts) [] are = absurd are
  values_long (t ∷ ts) (v ∷ vs) are = ap suc (values_long ts vs are.1)

  pub values_append : (ts us : List Ty) (vs ws : List Value) → AreTyped p ts vs → AreTyped p us ws → AreTyped p (ts ++ us) (vs ++ ws)
  values_append [] us [] ws are more = more
  values_append [] us (v ∷ vs) ws are more = absurd are
  values_append (t ∷ ts) us [] ws are more = absurd are
  values_append (t ∷ ts) us (v ∷ vs) ws are more = (are.0, values_append ts us vs ws are.1 more)

  -- ---- the cells of a panel

  module _ (cs is : List Ty) (s : PanelState) (typed : IsTypedPanel p cs is s) where
    less_controls : (k : ℕ) → nat_lt k (length s.controls) ≡ true → k < length cs
    less_controls k less = subst (λ n. k < n) (values_long cs s.controls typed.controls_typed) (ltb-true k (length s.controls) less)

    no_less_controls : (k : ℕ) → nat_lt k (length s.controls) ≡ false → length cs ≤ k
    no_less_controls k less = subst (λ n. n ≤ k) (values_long cs s.controls typed.controls_typed) (ltb-false k (length s.controls) less)

    back_number : (k : ℕ) (t : Ty) → slice_get is (k - length cs) ≡ Some t → slice_get is (k - length s.controls) ≡ Some t
    back_number k t at = ap (λ n. slice_get is (k - n)) (values_long cs s.controls typed.controls_typed) ∙ at

    -- the value of a cell
    pub cell_typed : (k : ℕ) (t : Ty) → slice_get (cs ++ is) k ≡ Some t → (v : Value) × ((cell_at s k ≡ Some v) × IsTypedValue p t v)
    cell_typed k t at = by (nat_lt k (length s.controls)) refl
      where
        by : (b : Bool) → nat_lt k (length s.controls) ≡ b → (v : Value) × (((if b then slice_get s.controls k else slice_get s.indicators (k - length s.controls)) ≡ Some v) × IsTypedValue p t v)
        by true less = value_at_place cs s.controls k t typed.controls_typed (sym (front_at cs is k (less_controls k less)) ∙ at)
        by false less =
            value_at_place is s.indicators (k - length s.controls) t typed.indicators_typed (back_number k t (sym (back_at cs is k (no_less_controls k less)) ∙ at))

    -- another value of its type
    pub cell_set : (k : ℕ) (v : Value) → ((t : Ty) → slice_get (cs ++ is) k ≡ Some t → IsTypedValue p t v) → IsTypedPanel p cs is (with_cell s k v)
    cell_set k v new = by (nat_lt k (length s.controls)) refl
      where
        by : (b : Bool) → nat_lt k (length s.controls) ≡ b
            → IsTypedPanel p cs is (if b then record s { controls = slice_set s.controls k v } else record s { indicators = slice_set s.indicators (k - length s.controls) v })
        by true less = record {
          controls_typed = values_set cs s.controls k v typed.controls_typed (λ t at. new t (front_at cs is k (less_controls k less) ∙ at));
          indicators_typed = typed.indicators_typed;
        }
        by false less = record {
          controls_typed = typed.controls_typed;
          indicators_typed = values_set is s.indicators (k - length s.controls) v typed.indicators_typed
              (λ t at. new t (back_at cs is k (no_less_controls k less) ∙ (ap (λ n. slice_get is (k - n)) (sym (values_long cs s.controls typed.controls_typed)) ∙ at)));
        }
