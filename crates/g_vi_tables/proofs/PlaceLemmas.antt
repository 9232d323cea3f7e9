-- Places in lists that grow, and values by the places of their sources.
use Rattle.std.proofs.Common.{◌≡◌, ℕ, suc, ◌==◌, Bool, true, false, ◌&&◌, List, [], ◌∷◌, ◌++◌, length, refl, sym, ap, ◌∙◌, subst}
use Rattle.std.specs.Prelude.{if◌then◌else◌, Option, Some, None, is_some, slice_get}
use Rattle.std.specs.Option.{option_copied, option_map, option_map_or, option_and_then, option_or, unwrap_or}
use Rattle.std.specs.Str.{bytes_eq}
use Rattle.std.proofs.lemmas.Bool.{eq-eqb}
use Rattle.std.proofs.lemmas.List.{append-nil}
use Rattle.std.proofs.lemmas.Slice.Eq.{bytes_eq-Decides}
use denote.Ref.{Bor}
use Rattle.g_values.specs.declared.value.Value.{Value}
use Rattle.g_diagram.specs.Ports.{Port, same_wire}
use Rattle.g_border.specs.declared.place.WireSource.{WireSource}
use Rattle.g_border.specs.Readers.{same_source, source_of}
use Rattle.g_wire_values.specs.Names.{Numbers, named, add_name}
use Rattle.g_wire_values.specs.Wires.{in_slot, reader_by}
use Rattle.g_frames.specs.Program.{FlatVi}
use Rattle.g_frames.specs.State.{value_at, sources_in}
use Rattle.g_vi_tables.specs.Kept.{number_in}
use Rattle.g_vi_tables.specs.Places.{first_place, source_place}
use Rattle.g_vi_tables.specs.Sources.{SourceIn, places_in, first_named}
use Rattle.g_vi_tables.specs.Tables.{SourcePlaces, source_place_in, numbers_or_none, reader_at}
use Rattle.g_vi_tables.proofs.KeyLemmas.{source_equal}
use Rattle.g_vi_tables.proofs.SourceLemmas.{among, places-among, named-among}

-- ---- one more at the end

push_step : (b : Bool) (o : Option ℕ) (k : ℕ) → option_map suc (option_or o (if b then Some k else None)) ≡ option_or (option_map suc o) (if b then Some (suc k) else None)
push_step true None k = refl
push_step false None k = refl
push_step b (Some j) k = refl

pub first_place-push : {A : Type 0} (test : A → Bool) (xs : List A) (x : A)
    → first_place test (xs ++ x ∷ []) ≡ option_or (first_place test xs) (if test x then Some (length xs) else None)
first_place-push test [] x = refl
first_place-push {A} test (y ∷ ys) x = by (test y) (first_place-push test ys x)
  where
    by : (b : Bool) → first_place test (ys ++ x ∷ []) ≡ option_or (first_place test ys) (if test x then Some (length ys) else None)
        → (if b then Some 0 else option_map suc (first_place test (ys ++ x ∷ [])))
        ≡ option_or (if b then Some 0 else option_map suc (first_place test ys)) (if test x then Some (suc (length ys)) else None)
    by true e = refl
    by false e = ap (option_map suc) e ∙ push_step (test x) (first_place test ys) (length ys)

pub or_none : (o : Option ℕ) → option_or o None ≡ o
or_none None = refl
or_none (Some j) = refl

-- the same where it is one of a diagram or not
pub place_more : {A : Type 0} (test : A → Bool) (xs : List A) (x : A) (c : Bool) (k : ℕ) → (c ≡ true → k ≡ length xs)
    → option_or (first_place test xs) (if c && test x then Some k else None) ≡ first_place test (xs ++ (if c then x ∷ [] else []))
place_more test xs x true k h = ap (λ j. option_or (first_place test xs) (if test x then Some j else None)) (h refl) ∙ sym (first_place-push test xs x)
place_more test xs x false k h = or_none (first_place test xs) ∙ ap (first_place test) (sym (append-nil xs))

-- ---- values by places

none_in : (o : Option ℕ) → option_and_then (in_slot []) o ≡ None
none_in None = refl
none_in (Some k) = refl

shifted : (v : Option Value) (vs : List (Option Value)) (o : Option ℕ) → option_and_then (in_slot (v ∷ vs)) (option_map suc o) ≡ option_and_then (in_slot vs) o
shifted v vs None = refl
shifted v vs (Some k) = refl

pub slot_of : (qs : List WireSource) (vs : List (Option Value)) (p : WireSource) → option_and_then (in_slot vs) (source_place p qs) ≡ value_at qs vs p
slot_of [] vs p = refl
slot_of (q ∷ qs) [] p = none_in (source_place p (q ∷ qs))
slot_of (q ∷ qs) (v ∷ vs) p = by (same_source q p) (slot_of qs vs p)
  where
    by : (b : Bool) → option_and_then (in_slot vs) (source_place p qs) ≡ value_at qs vs p
        → option_and_then (in_slot (v ∷ vs)) (if b then Some 0 else option_map suc (source_place p qs)) ≡ (if b then v else value_at qs vs p)
    by true e = refl
    by false e = shifted v vs (source_place p qs) ∙ e

then_slot : (qs : List WireSource) (vs : List (Option Value)) (o : Option WireSource)
    → option_and_then (in_slot vs) (option_and_then (λ p. source_place p qs) o) ≡ option_and_then (value_at qs vs) o
then_slot qs vs None = refl
then_slot qs vs (Some p) = slot_of qs vs p

-- a reader by the places of named sources
pub reader_is : (vi : FlatVi) (d : ℕ) (names : Numbers)
    → ((name : List ℕ) → named names name ≡ option_and_then (λ p. source_place p (sources_in d vi.ports)) (source_of vi.ports d name))
    → (vs : List (Option Value)) → reader_by names vs ≡ reader_at vi d vs
reader_is vi d names h vs = λ i name. (ap (option_and_then (in_slot vs)) (h name) ∙ then_slot (sources_in d vi.ports) vs (source_of vi.ports d name)) i

-- ---- a source is found where it is one

eqb-same : (n : ℕ) → (n == n) ≡ true
eqb-same n = eq-eqb n n refl

same-source : (p : WireSource) → same_source p p ≡ true
same-source p = ap (λ b. b && (p.operand == p.operand)) (eqb-same p.line) ∙ eqb-same p.operand

some_map : (o : Option ℕ) → is_some o ≡ true → is_some (option_map suc o) ≡ true
some_map None h = h
some_map (Some k) h = refl

or_first : (b : Bool) (o : Option ℕ) → is_some o ≡ true → is_some (if b then Some 0 else option_map suc o) ≡ true
or_first true o h = refl
or_first false o h = some_map o h

placed : (d : ℕ) (name : List ℕ) (ss : List SourceIn) (p : WireSource) → first_named d name ss ≡ Some p → is_some (source_place p (places_in d ss)) ≡ true
placed d name [] p e = cc
placed d name (s ∷ ss) p e = by (s.diagram == d) (same_wire (Some name) s.wire) (placed d name ss p) e
  where
    here : s.place ≡ p → is_some (source_place p (s.place ∷ places_in d ss)) ≡ true
    here f = let P : WireSource → Type 0 = λ q. is_some (source_place q (s.place ∷ places_in d ss)) ≡ true in
        subst P f (ap (λ b. is_some (if b then Some 0 else option_map suc (source_place s.place (places_in d ss)))) (same-source s.place))

    by : (b c : Bool) → (first_named d name ss ≡ Some p → is_some (source_place p (places_in d ss)) ≡ true)
        → (if b && c then Some s.place else first_named d name ss) ≡ Some p
        → is_some (source_place p (if b then s.place ∷ places_in d ss else places_in d ss)) ≡ true
    by true true h f = here (let g : s.place ≡ p = cc in g)
    by true false h f = or_first (same_source s.place p) (source_place p (places_in d ss)) (h f)
    by false c h f = h f

pub placed_port : (ps : List Port) (d : ℕ) (name : List ℕ) (p : WireSource) → source_of ps d name ≡ Some p → is_some (source_place p (sources_in d ps)) ≡ true
placed_port ps d name p e =
    ap (λ qs. is_some (source_place p qs)) (places-among d ps) ∙ placed d name (among ps) p (sym (named-among d name ps) ∙ e)

-- ---- the place of a source leads back to it

back_step : (o : Option ℕ) (q : WireSource) (qs : List WireSource) → option_and_then (slice_get (q ∷ qs)) (option_map suc o) ≡ option_and_then (slice_get qs) o
back_step None q qs = refl
back_step (Some k) q qs = refl

back : (p : WireSource) (qs : List WireSource) → is_some (source_place p qs) ≡ true → option_and_then (slice_get qs) (source_place p qs) ≡ Some p
back p [] h = cc
back p (q ∷ qs) h = by (same_source q p) (source_equal q p) (back p qs) h
  where
    unsome : (o : Option ℕ) → is_some (option_map suc o) ≡ true → is_some o ≡ true
    unsome None g = g
    unsome (Some k) g = refl

    by : (b : Bool) → (b ≡ true → q ≡ p) → (is_some (source_place p qs) ≡ true → option_and_then (slice_get qs) (source_place p qs) ≡ Some p)
        → is_some (if b then Some 0 else option_map suc (source_place p qs)) ≡ true
        → option_and_then (slice_get (q ∷ qs)) (if b then Some 0 else option_map suc (source_place p qs)) ≡ Some p
    by true same rest g = ap Some (same refl)
    by false same rest g = back_step (source_place p qs) q qs ∙ rest (unsome (source_place p qs) g)

-- the source of a name, by its place
pub source_by : (ps : List Port) (d : ℕ) (name : List ℕ)
    → option_and_then (slice_get (sources_in d ps)) (option_and_then (λ p. source_place p (sources_in d ps)) (source_of ps d name)) ≡ source_of ps d name
source_by ps d name = by (source_of ps d name) (λ p e. placed_port ps d name p e)
  where
    by : (o : Option WireSource) → ((p : WireSource) → o ≡ Some p → is_some (source_place p (sources_in d ps)) ≡ true)
        → option_and_then (slice_get (sources_in d ps)) (option_and_then (λ p. source_place p (sources_in d ps)) o) ≡ o
    by None h = refl
    by (Some p) h = back p (sources_in d ps) (h p refl)

-- ---- names

or_named : (b : Bool) (k : ℕ) (o : Option ℕ) → (if b then Some k else o) ≡ option_or (if b then Some k else None) o
or_named true k o = refl
or_named false k o = refl

pub number_in-cons : (places : SourcePlaces) (d : ℕ) (name : List ℕ) (s : SourceIn) (ss : List SourceIn)
    → number_in places d name (s ∷ ss) ≡ option_or (number_in places d name (s ∷ [])) (number_in places d name ss)
number_in-cons places d name s ss = by ((s.diagram == d) && same_wire (Some name) s.wire)
  where
    by : (b : Bool) → option_map (λ p. unwrap_or (source_place_in places d p) 0) (if b then Some s.place else first_named d name ss)
        ≡ option_or (option_map (λ p. unwrap_or (source_place_in places d p) 0) (if b then Some s.place else None)) (number_in places d name ss)
    by true = refl
    by false = refl

-- a name that is added, where the first of a name counts
pub named-add : (es : Numbers) (n : List ℕ) (k : ℕ) (q : List ℕ) → named (add_name es n k) q ≡ option_or (named es q) (if bytes_eq q n then Some k else None)
named-add [] n k q = refl
named-add (e ∷ es) n k q = by (bytes_eq n e.0) (λ h. (bytes_eq-Decides n e.0).0 h) (named-add es n k q)
  where
    more : Option ℕ
    more = if bytes_eq q n then Some k else None

    present : (c d : Bool) → c ≡ d → (if c then Some e.1 else named es q) ≡ option_or (if c then Some e.1 else named es q) (if d then Some k else None)
    present true d h = refl
    present false true h = cc
    present false false h = sym (or_none (named es q))

    past : (c : Bool) → (if c then Some e.1 else option_or (named es q) more) ≡ option_or (if c then Some e.1 else named es q) more
    past true = refl
    past false = refl

    by : (b : Bool) → (b ≡ true → n ≡ e.0) → named (add_name es n k) q ≡ option_or (named es q) more
        → named (if b then e ∷ es else e ∷ add_name es n k) q ≡ option_or (if bytes_eq q e.0 then Some e.1 else named es q) more
    by true same rest = present (bytes_eq q e.0) (bytes_eq q n) (ap (bytes_eq q) (sym (same refl)))
    by false same rest = ap (λ (o : Option ℕ). if bytes_eq q e.0 then Some e.1 else o) rest ∙ past (bytes_eq q e.0)

-- the number of a source, which has a place
pub numbered : (places : SourcePlaces) (d : ℕ) (name : List ℕ) (ss : List SourceIn) → ((p : WireSource) → source_place_in places d p ≡ source_place p (places_in d ss))
    → number_in places d name ss ≡ option_and_then (λ p. source_place p (places_in d ss)) (first_named d name ss)
numbered places d name ss h = by (first_named d name ss) (placed d name ss)
  where
    whole : (o : Option ℕ) → is_some o ≡ true → Some (unwrap_or o 0) ≡ o
    whole None g = cc
    whole (Some k) g = refl

    by : (o : Option WireSource) → ((p : WireSource) → o ≡ Some p → is_some (source_place p (places_in d ss)) ≡ true)
        → option_map (λ p. unwrap_or (source_place_in places d p) 0) o ≡ option_and_then (λ p. source_place p (places_in d ss)) o
    by None g = refl
    by (Some p) g = ap (λ o. Some (unwrap_or o 0)) (h p) ∙ whole (source_place p (places_in d ss)) (g p refl)

-- names that are there, or none
pub numbers_of : (r : Option (Bor Numbers)) → option_map_or (λ names. names.now) r [] ≡ numbers_or_none (option_copied r)
numbers_of None = refl
numbers_of (Some r) = refl
