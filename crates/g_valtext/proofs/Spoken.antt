-- The text of a value spells it.
use Rattle.std.proofs.Common.{◌≡◌, ℕ, zero, suc, ◌≤◌, true, false, List, [], ◌∷◌, ◌++◌, length, map, Option, Some, None, refl, sym, ap, ◌∙◌, arith, subst, append_assoc, inl, inr, ◌⊎◌}
use Rattle.g_grammar.specs.Grammar.{Grammar, take, first, Has, or_else, ◌>>=◌}
use Rattle.g_tokens.specs.declared.token.Token.{Token}
use Rattle.g_tokens.specs.declared.token.Token.TheVariants as token
use Rattle.g_tokens.specs.declared.token.Mark.TheVariants as mark
use Rattle.g_types.specs.Ty.{after, joined}
use Rattle.g_values.specs.declared.value.Value.{Value}
use Rattle.g_values.specs.Text.{text}
use Rattle.g_valtext.specs.Spellings.{close_bracket, further, array_rest, most_further, parts, parts_after}
use Rattle.g_valtext.proofs.Pieces.{Bound, Cut, space, mark_piece}

-- bytes with tokens of which the first are a phrase
pub record Spoken {A : Type 0} (g : Grammar Token A) (a : A) (bytes : List ℕ) (rest : List Token) : Type 0 where
  pub tokens : List Token
  pub cut : Cut bytes tokens
  pub has : Has g tokens a rest

-- a phrase is written so in front of whatever goes on with no word
abbrev pub Says : {A : Type 0} → Grammar Token A → List ℕ → A → Type 0
Says g w a = (bytes : List ℕ) (ts : List Token) → Bound bytes → Cut bytes ts → Spoken g a (w ++ bytes) ts

abbrev pub AllSay : {A : Type 0} → Grammar Token A → (A → List ℕ) → List A → Type 0
AllSay g s [] = Unit {0}
AllSay g s (x ∷ xs) = Says g (s x) x × AllSay g s xs

moved : {A : Type 0} {g : Grammar Token A} {a : A} {v w : List ℕ} {ts : List Token} → v ≡ w → Spoken g a v ts → Spoken g a w ts
moved {A} {g} {a} {v} {w} {ts} e = subst (λ bytes. Spoken g a bytes ts) e

-- ---- the items of an array

bound_after : (ws : List (List ℕ)) (bytes : List ℕ) → Bound (after ws ++ 93 ∷ bytes)
bound_after [] bytes = refl
bound_after (w ∷ ws) bytes = refl

further_says : {A : Type 0} (g : Grammar Token A) (s : A → List ℕ) (xs : List A) → AllSay g s xs → (n : ℕ) → length xs ≤ n → (bytes : List ℕ) (ts : List Token) → Cut bytes ts → Spoken (further g n) xs (after (map s xs) ++ 93 ∷ bytes) ts
unfolding further
further_says g s [] all zero le bytes ts c = record { tokens = token.Mark mark.CloseBracket ∷ ts; cut = mark_piece 93 mark.CloseBracket refl refl c; has = (tt, ts, (refl, refl), (refl, refl)) }
further_says g s [] all (suc n) le bytes ts c = record {
  tokens = token.Mark mark.CloseBracket ∷ ts;
  cut = mark_piece 93 mark.CloseBracket refl refl c;
  has = (None, ts, (false, ts, (refl, refl), (refl, refl)), (refl, refl));
}
further_says g s (x ∷ xs) all zero le bytes ts c = absurd (omega arith)
further_says g s (x ∷ xs) all (suc n) le bytes ts c =
    let more = further_says g s xs all.1 n (omega arith) bytes ts c in
    let one = all.0 (after (map s xs) ++ 93 ∷ bytes) more.tokens (bound_after (map s xs) bytes) more.cut in
    let here : Spoken (further g (suc n)) (x ∷ xs) (44 ∷ 32 ∷ (s x ++ (after (map s xs) ++ 93 ∷ bytes))) ts = record {
      tokens = token.Mark mark.Comma ∷ one.tokens;
      cut = mark_piece 44 mark.Comma refl refl (space one.cut);
      has = (Some x, more.tokens, (true, one.tokens, (refl, refl), (x, more.tokens, one.has, (refl, refl))), (xs, ts, more.has, (refl, refl)));
    } in
    moved (ap (λ l. 44 ∷ 32 ∷ l) (sym (append_assoc (s x) (after (map s xs)) (93 ∷ bytes)))) here

is_close : (t : Token) → (close_bracket t ≡ None) ⊎ (t ≡ token.Mark mark.CloseBracket)
is_close (token.Mark mark.CloseBracket) = inr refl
is_close _ = inl refl

begins_item : {C : Type 0} (p : Token → Option C) (ts mid : List Token) (c : C) → p (token.Mark mark.CloseBracket) ≡ None → first p ts ≡ Some c → first (or_else close_bracket p) ts ≡ Some (inr c)
begins_item p [] mid c apart e = absurd cc
begins_item {C} p (t ∷ ts) mid c apart e = elim (is_close t) [
  | inl none ↦ rw (none, e) refl
  | inr is ↦ absurd (let f : ◌≡◌ {A = Option C} (Some c) None = sym e ∙ ap p is ∙ apart in cc)
]

pub array_says : {A C : Type 0} (p : Token → Option C) (k : C → Grammar Token A) (s : A → List ℕ) (xs : List A) → p (token.Mark mark.CloseBracket) ≡ None → length xs ≤ 4194304 → AllSay (take p >>= k) s xs
    → (bytes : List ℕ) (ts : List Token) → Cut bytes ts → Spoken (array_rest p k) xs (joined (map s xs) ++ 93 ∷ bytes) ts
array_says p k s [] apart le all bytes ts c = record {
  tokens = token.Mark mark.CloseBracket ∷ ts;
  cut = mark_piece 93 mark.CloseBracket refl refl c;
  has = (inl tt, ts, (refl, refl), (refl, refl));
}
array_says {A} {C} p k s (x ∷ xs) apart le all bytes ts c =
    let more = further_says (take p >>= k) s xs all.1 most_further (omega arith) bytes ts c in
    let one = all.0 (after (map s xs) ++ 93 ∷ bytes) more.tokens (bound_after (map s xs) bytes) more.cut in
    let h = one.has in
    let here : Spoken (array_rest p k) (x ∷ xs) (s x ++ (after (map s xs) ++ 93 ∷ bytes)) ts = record {
      tokens = one.tokens;
      cut = one.cut;
      has = (inr h.0, h.1, (begins_item p one.tokens h.1 h.0 apart h.2.0, h.2.1), (x, more.tokens, h.3, (xs, ts, more.has, (refl, refl))));
    } in
    moved (sym (append_assoc (s x) (after (map s xs)) (93 ∷ bytes))) here

-- ---- the parts of a cluster

abbrev pub Speak : (Value → Grammar Token Value) → List Value → Type 0
Speak g [] = Unit {0}
Speak g (v ∷ vs) = Says (g v) (text v) v × Speak g vs

bound_parts : (ws : List (List ℕ)) (bytes : List ℕ) → Bound (after ws ++ 125 ∷ bytes)
bound_parts [] bytes = refl
bound_parts (w ∷ ws) bytes = refl

parts_more : (g : Value → Grammar Token Value) (vs : List Value) → Speak g vs → (bytes : List ℕ) (ts : List Token) → Cut bytes ts → Spoken (parts_after (map g vs)) vs (after (map text vs) ++ 125 ∷ bytes) ts
parts_more g [] all bytes ts c = record { tokens = token.Mark mark.CloseBrace ∷ ts; cut = mark_piece 125 mark.CloseBrace refl refl c; has = (tt, ts, (refl, refl), (refl, refl)) }
parts_more g (v ∷ vs) all bytes ts c =
    let more = parts_more g vs all.1 bytes ts c in
    let one = all.0 (after (map text vs) ++ 125 ∷ bytes) more.tokens (bound_parts (map text vs) bytes) more.cut in
    let here : Spoken (parts_after (map g (v ∷ vs))) (v ∷ vs) (44 ∷ 32 ∷ (text v ++ (after (map text vs) ++ 125 ∷ bytes))) ts = record {
      tokens = token.Mark mark.Comma ∷ one.tokens;
      cut = mark_piece 44 mark.Comma refl refl (space one.cut);
      has = (v, more.tokens, (tt, one.tokens, (refl, refl), one.has), (vs, ts, more.has, (refl, refl)));
    } in
    moved (ap (λ l. 44 ∷ 32 ∷ l) (sym (append_assoc (text v) (after (map text vs)) (125 ∷ bytes)))) here

pub parts_say : (g : Value → Grammar Token Value) (vs : List Value) → Speak g vs → (bytes : List ℕ) (ts : List Token) → Cut bytes ts → Spoken (parts (map g vs)) vs (joined (map text vs) ++ 125 ∷ bytes) ts
parts_say g [] all bytes ts c = record { tokens = token.Mark mark.CloseBrace ∷ ts; cut = mark_piece 125 mark.CloseBrace refl refl c; has = (tt, ts, (refl, refl), (refl, refl)) }
parts_say g (v ∷ vs) all bytes ts c =
    let more = parts_more g vs all.1 bytes ts c in
    let one = all.0 (after (map text vs) ++ 125 ∷ bytes) more.tokens (bound_parts (map text vs) bytes) more.cut in
    let here : Spoken (parts (map g (v ∷ vs))) (v ∷ vs) (text v ++ (after (map text vs) ++ 125 ∷ bytes)) ts = record {
      tokens = one.tokens;
      cut = one.cut;
      has = (v, more.tokens, one.has, (vs, ts, more.has, (refl, refl)));
    } in
    moved (sym (append_assoc (text v) (after (map text vs)) (125 ∷ bytes))) here
