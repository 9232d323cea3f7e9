-- What the loops over the further items of an array and the further parts of a cluster keep.
use Rattle.std.proofs.Common.{◌≡◌, ℕ, suc, ◌+◌, ◌-◌, ◌<◌, ◌≤◌, List, [], ◌∷◌, ◌++◌, map, length, drop, get_or, Option, Some, None, refl, sym, ap, subst, ◌∙◌, arith, append_assoc}
use Rattle.std.proofs.lemmas.List.{append-nil, drop_more, drop_all}
use Rattle.std.specs.Prelude.{Ok, Err}
use Rattle.g_grammar.specs.Grammar.{Grammar, take, first, Read, then, taken, read, either, ◌>>=◌}
use Rattle.g_grammar.proofs.Laws.{ok_is, parts as pair}
use Rattle.g_grammar.specs.Reads.{Stops, with_front}
use Rattle.g_grammar.specs.declared.Stop.{Stop}
use Rattle.g_grammar.specs.declared.Stop.TheVariants as stop
use Rattle.g_tokens.specs.declared.token.Token.{Token}
use Rattle.g_types.specs.declared.ty.Ty.{Ty}
use Rattle.g_values.specs.declared.value.Value.{Value}
use Rattle.g_valtext.specs.Spellings.{close_bracket, close_brace, turn, after_turn, further, from_first, array_rest, most_further, part, parts, parts_after, values}

front_put : {A : Type 0} (front : List A) (x : A) (r : Read Token (List A)) → with_front front (then r (λ xs mid. Ok (x ∷ xs, mid))) ≡ with_front (front ++ x ∷ []) r
front_put front x (Ok y) = ap (λ (l : List _). Ok (l, y.1)) (sym (append_assoc front (x ∷ []) y.0))
front_put front x (Err bad) = refl

front_one : {A : Type 0} (x : A) (r : Read Token (List A)) → then r (λ xs mid. Ok (x ∷ xs, mid)) ≡ with_front (x ∷ []) r
front_one x (Ok y) = refl
front_one x (Err bad) = refl

pub stop_at : {A B : Type 0} (e : Stop Token) (r : Read Token A) (f : A → List Token → Read Token B) → Stops e r → Stops e (then r f)
stop_at (stop.Memory m) r f h = tt
stop_at (stop.At bad) r f h = rw h refl

stop_front : {A : Type 0} (e : Stop Token) (front : List A) (r : Read Token (List A)) → Stops e r → Stops e (with_front front r)
stop_front (stop.Memory m) front r h = tt
stop_front (stop.At bad) front r h = rw h refl

moved : {A : Type 0} (e : Stop Token) (r total : Read Token A) → r ≡ total → Stops e r → Stops e total
moved e r total is h = subst (λ x. Stops e x) is h

-- ---- the further items of an array

module _ {A : Type 0} (g : Grammar Token A) (front : List A) (n i : ℕ) (ts : List Token) (total : Read Token (List A)) where
  one_turn : i < n → read (further g (n - i)) ts ≡ then (read (turn g) ts) (λ o mid. read (after_turn (further g (n - (i + 1))) o) mid)
  unfolding further
  one_turn lt = let e : n - i ≡ suc (n - (i + 1)) = omega arith in rw e refl

  pub further_more : (mid : List Token) (x : A) → i < n → read (turn g) ts ≡ Ok (Some x, mid) → with_front front (read (further g (n - i)) ts) ≡ total
      → with_front (front ++ x ∷ []) (read (further g (n - (i + 1))) mid) ≡ total
  further_more mid x lt e so_far =
      let one = one_turn lt ∙ ap (λ r. then r (λ o mid. read (after_turn (further g (n - (i + 1))) o) mid)) e in
      sym (front_put front x (read (further g (n - (i + 1))) mid)) ∙ ap (with_front front) (sym one) ∙ so_far

  pub further_last : (mid : List Token) → i < n → read (turn g) ts ≡ Ok (None, mid) → with_front front (read (further g (n - i)) ts) ≡ total → total ≡ Ok (front, mid)
  further_last mid lt e so_far =
      let one = one_turn lt ∙ ap (λ r. then r (λ o mid. read (after_turn (further g (n - (i + 1))) o) mid)) e in
      sym so_far ∙ ap (with_front front) one ∙ ap (λ (l : List A). Ok (l, mid)) (append-nil front)

  pub further_stops : (e : Stop Token) → i < n → Stops e (read (turn g) ts) → with_front front (read (further g (n - i)) ts) ≡ total → Stops e total
  further_stops e lt h so_far =
      let rest : Option A → List Token → Read Token (List A) = λ o mid. read (after_turn (further g (n - (i + 1))) o) mid in
      moved e (with_front front (then (read (turn g) ts) rest)) total (ap (with_front front) (sym (one_turn lt)) ∙ so_far) (stop_front e front (then (read (turn g) ts) rest) (stop_at e (read (turn g) ts) rest h))

  at_end : n ≤ i → read (further g (n - i)) ts ≡ then (read (take close_bracket) ts) (λ u mid. Ok ([], mid))
  unfolding further
  at_end le = let e : n - i ≡ 0 = omega arith in rw e refl

  pub further_end : (mid : List Token) → n ≤ i → read (take close_bracket) ts ≡ Ok (tt, mid) → with_front front (read (further g (n - i)) ts) ≡ total → total ≡ Ok (front, mid)
  further_end mid le e so_far =
      let one = at_end le ∙ ap (λ r. then r (λ u mid. Ok ([], mid))) e in
      sym so_far ∙ ap (with_front front) one ∙ ap (λ (l : List A). Ok (l, mid)) (append-nil front)

  pub further_end_stops : (e : Stop Token) → n ≤ i → Stops e (read (take close_bracket) ts) → with_front front (read (further g (n - i)) ts) ≡ total → Stops e total
  further_end_stops e le h so_far =
      let last : Read Token (List A) = then (read (take close_bracket) ts) (λ u mid. Ok ([], mid)) in
      moved e (with_front front last) total (ap (with_front front) (sym (at_end le)) ∙ so_far) (stop_front e front last (stop_at e (read (take close_bracket) ts) (λ u mid. Ok ([], mid)) h))

-- ---- an array after its bracket

module _ {A C : Type 0} (p : Token → Option C) (k : C → Grammar Token A) where
  abbrev item : Grammar Token A
  item = take p >>= k

  abbrev rest_at : Option C → List Token → Read Token (List A)
  rest_at o ts = then (taken (either None o) ts) (λ c mid. read (from_first k (further item most_further) c) mid)

  pub array_closes : (ts mid : List Token) → read (take close_bracket) ts ≡ Ok (tt, mid) → read (array_rest p k) ts ≡ Ok ([], mid)
  array_closes [] mid e = absurd cc
  array_closes (t ∷ ts) mid e = closes (close_bracket t) e
    where
      closes : (o : Option (Unit {0})) → taken o (t ∷ ts) ≡ Ok (tt, mid) → then (taken (either o (p t)) (t ∷ ts)) (λ c mid. read (from_first k (further item most_further) c) mid) ≡ Ok ([], mid)
      closes None e = absurd cc
      closes (Some u) e = ap (λ (l : List Token). Ok ([], l)) (pair u tt ts mid (ok_is (u, ts) (tt, mid) e)).1

  begins_at : (o : Option C) (t : Token) (ts mid : List Token) (x : A) → then (taken o (t ∷ ts)) (λ c mid. read (k c) mid) ≡ Ok (x, mid)
      → rest_at o (t ∷ ts) ≡ with_front (x ∷ []) (read (further item most_further) mid)
  begins_at None t ts mid x e = absurd cc
  begins_at (Some c) t ts mid x e = ap (λ r. then r (λ x mid. then (read (further item most_further) mid) (λ xs rest. Ok (x ∷ xs, rest)))) e ∙ front_one x (read (further item most_further) mid)

  pub array_begins : (ts mid : List Token) (x : A) → first close_bracket ts ≡ None → read item ts ≡ Ok (x, mid) → read (array_rest p k) ts ≡ with_front (x ∷ []) (read (further item most_further) mid)
  array_begins [] mid x none e = absurd cc
  array_begins (t ∷ ts) mid x none e = rw none (begins_at (p t) t ts mid x e)

  stops_at : (e : Stop Token) (o : Option C) (t : Token) (ts : List Token) → Stops e (then (taken o (t ∷ ts)) (λ c mid. read (k c) mid)) → Stops e (rest_at o (t ∷ ts))
  stops_at e None t ts h = stop_at {A = A} e (Err (t ∷ ts)) (λ x mid. Ok ([], mid)) h
  stops_at e (Some c) t ts h = stop_at e (read (k c) ts) (λ x mid. then (read (further item most_further) mid) (λ xs rest. Ok (x ∷ xs, rest))) h

  pub array_stops : (e : Stop Token) (ts : List Token) → first close_bracket ts ≡ None → Stops e (read item ts) → Stops e (read (array_rest p k) ts)
  array_stops e [] none h = stop_at {A = A} e (Err []) (λ x mid. Ok ([], mid)) h
  array_stops e (t ∷ ts) none h = rw none (stops_at e (p t) t ts h)

-- ---- the parts of a cluster

pub parts_first : (g : Grammar Token Value) (gs : List (Grammar Token Value)) (ts mid : List Token) (v : Value) → read g ts ≡ Ok (v, mid) → read (parts (g ∷ gs)) ts ≡ with_front (v ∷ []) (read (parts_after gs) mid)
parts_first g gs ts mid v e = ap (λ r. then r (λ v mid. then (read (parts_after gs) mid) (λ vs rest. Ok (v ∷ vs, rest)))) e ∙ front_one v (read (parts_after gs) mid)

pub parts_first_stops : (g : Grammar Token Value) (gs : List (Grammar Token Value)) (ts : List Token) (e : Stop Token) → Stops e (read g ts) → Stops e (read (parts (g ∷ gs)) ts)
parts_first_stops g gs ts e h = stop_at e (read g ts) (λ v mid. then (read (parts_after gs) mid) (λ vs rest. Ok (v ∷ vs, rest))) h

module _ (front : List Value) (g : Grammar Token Value) (gs : List (Grammar Token Value)) (ts : List Token) (total : Read Token (List Value)) where
  pub parts_more : (mid : List Token) (v : Value) → read (part g) ts ≡ Ok (v, mid) → with_front front (read (parts_after (g ∷ gs)) ts) ≡ total → with_front (front ++ v ∷ []) (read (parts_after gs) mid) ≡ total
  parts_more mid v e so_far =
      let one = ap (λ r. then r (λ v mid. then (read (parts_after gs) mid) (λ vs rest. Ok (v ∷ vs, rest)))) e in
      sym (front_put front v (read (parts_after gs) mid)) ∙ ap (with_front front) (sym one) ∙ so_far

  pub parts_stops : (e : Stop Token) → Stops e (read (part g) ts) → with_front front (read (parts_after (g ∷ gs)) ts) ≡ total → Stops e total
  parts_stops e h so_far =
      let rest : Value → List Token → Read Token (List Value) = λ v mid. then (read (parts_after gs) mid) (λ vs rest. Ok (v ∷ vs, rest)) in
      moved e (with_front front (then (read (part g) ts) rest)) total so_far (stop_front e front (then (read (part g) ts) rest) (stop_at e (read (part g) ts) rest h))

pub parts_end : (front : List Value) (ts mid : List Token) (total : Read Token (List Value)) → read (take close_brace) ts ≡ Ok (tt, mid) → with_front front (read (parts_after []) ts) ≡ total → total ≡ Ok (front, mid)
parts_end front ts mid total e so_far =
    sym so_far ∙ ap (λ r. with_front front (then r (λ u mid. Ok ([], mid)))) e ∙ ap (λ (l : List Value). Ok (l, mid)) (append-nil front)

pub parts_end_stops : (front : List Value) (ts : List Token) (e : Stop Token) (total : Read Token (List Value)) → Stops e (read (take close_brace) ts) → with_front front (read (parts_after []) ts) ≡ total → Stops e total
parts_end_stops front ts e total h so_far =
    let last : Read Token (List Value) = then (read (take close_brace) ts) (λ u mid. Ok ([], mid)) in
    moved e (with_front front last) total so_far (stop_front e front last (stop_at e (read (take close_brace) ts) (λ u mid. Ok ([], mid)) h))

-- ---- the same by the types of the parts

parts_at : (types : List Ty) (i : ℕ) (d : Ty) → i < length types → map values (drop i types) ≡ values (get_or types i d) ∷ map values (drop (i + 1) types)
parts_at types i d lt = ap (map values) (drop_more types i d lt)

pub parts_begin : (types : List Ty) (d : Ty) (ts mid : List Token) (v : Value) → 0 < length types → read (values (get_or types 0 d)) ts ≡ Ok (v, mid)
    → with_front (v ∷ []) (read (parts_after (map values (drop 1 types))) mid) ≡ read (parts (map values types)) ts
parts_begin [] d ts mid v some e = absurd (omega arith)
parts_begin (t ∷ types) d ts mid v some e = sym (parts_first (values t) (map values types) ts mid v e)

pub parts_begin_stops : (types : List Ty) (d : Ty) (ts : List Token) (e : Stop Token) → 0 < length types → Stops e (read (values (get_or types 0 d)) ts) → Stops e (read (parts (map values types)) ts)
parts_begin_stops [] d ts e some h = absurd (omega arith)
parts_begin_stops (t ∷ types) d ts e some h = parts_first_stops (values t) (map values types) ts e h

module _ (types : List Ty) (i : ℕ) (d : Ty) (front : List Value) (ts : List Token) (total : Read Token (List Value)) where
  here : i < length types → with_front front (read (parts_after (map values (drop i types))) ts) ≡ total → with_front front (read (parts_after (values (get_or types i d) ∷ map values (drop (i + 1) types))) ts) ≡ total
  here lt so_far = ap (λ gs. with_front front (read (parts_after gs) ts)) (sym (parts_at types i d lt)) ∙ so_far

  pub types_more : (mid : List Token) (v : Value) → i < length types → read (part (values (get_or types i d))) ts ≡ Ok (v, mid)
      → with_front front (read (parts_after (map values (drop i types))) ts) ≡ total → with_front (front ++ v ∷ []) (read (parts_after (map values (drop (i + 1) types))) mid) ≡ total
  types_more mid v lt e so_far = parts_more front (values (get_or types i d)) (map values (drop (i + 1) types)) ts total mid v e (here lt so_far)

  pub types_stops : (e : Stop Token) → i < length types → Stops e (read (part (values (get_or types i d))) ts)
      → with_front front (read (parts_after (map values (drop i types))) ts) ≡ total → Stops e total
  types_stops e lt h so_far = parts_stops front (values (get_or types i d)) (map values (drop (i + 1) types)) ts total e h (here lt so_far)

  at_last : length types ≤ i → with_front front (read (parts_after (map values (drop i types))) ts) ≡ total → with_front front (read (parts_after []) ts) ≡ total
  at_last le so_far = ap (λ l. with_front front (read (parts_after (map values l)) ts)) (sym (drop_all i types le)) ∙ so_far

  pub types_end : (mid : List Token) → length types ≤ i → read (take close_brace) ts ≡ Ok (tt, mid) → with_front front (read (parts_after (map values (drop i types))) ts) ≡ total → total ≡ Ok (front, mid)
  types_end mid le e so_far = parts_end front ts mid total e (at_last le so_far)

  pub types_end_stops : (e : Stop Token) → length types ≤ i → Stops e (read (take close_brace) ts) → with_front front (read (parts_after (map values (drop i types))) ts) ≡ total → Stops e total
  types_end_stops e le h so_far = parts_end_stops front ts e total h (at_last le so_far)
