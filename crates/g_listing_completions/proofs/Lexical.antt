-- The tokens of a line are words, numbers, texts and marks, but for bad ones.
use Rattle.std.proofs.Common.{◌≡◌, ℕ, zero, suc, ◌-◌, Bool, true, false, ◌&&◌, List, [], ◌∷◌, ◌++◌, length, take, Option, Some, None, cond, refl, sym, ap, ◌∙◌}
use Rattle.std.specs.Prelude.{◌==◌, nat_le}
use Rattle.std.specs.List.{list_all}
use Rattle.std.specs.Str.{bytes_eq}
use Rattle.std.proofs.lemmas.Bool.{and_parts}
use Rattle.std.proofs.lemmas.List.Folds.{list_all-append}
use Rattle.std.proofs.lemmas.List.{map-append}
use Rattle.g_tokens.specs.declared.token.Token.{Token}
use Rattle.g_tokens.specs.declared.token.Token.TheVariants as token
use Rattle.g_tokens.specs.declared.token.Mark.{Mark}
use Rattle.g_tokens.specs.declared.token.Lexeme.{Lexeme}
use Rattle.g_tokens.specs.declared.texts.Escape.TheVariants as escape
use Rattle.g_tokens.specs.Tokens.{is_space, begins, is_run, is_numeral, digits_of, digits_value, minus, word, number, characters, as_text, text, mark_in, mark_texts, or_none, whole, longer_or, longest, front, at_gap, lexemes}
use Rattle.std.proofs.Common.{pos}
use Rattle.g_print_laws.proofs.Lexing.{kinds, both}

-- a token that isn't bad
abbrev pub is_clean : Token → Bool
is_clean token.Bad = false
is_clean _ = true

-- a token that bytes of a line can be
abbrev pub is_lexical : Token → Bool
is_lexical token.Eol = false
is_lexical token.End = false
is_lexical _ = true

-- both
abbrev pub is_plain : Token → Bool
is_plain (token.Word w) = true
is_plain (token.Number n) = true
is_plain (token.Text b) = true
is_plain (token.Mark m) = true
is_plain _ = false

abbrev all_lexical : Option Token → Bool
all_lexical None = true
all_lexical (Some t) = is_lexical t

one_or_bad : (a c : Bool) (t : Token) → is_lexical t ≡ true → all_lexical (cond a (Some (cond c t token.Bad)) None) ≡ true
one_or_bad true true t h = h
one_or_bad true false t h = refl
one_or_bad false c t h = refl

text_lexical : (w : List ℕ) → all_lexical (text w) ≡ true
text_lexical [] = refl
text_lexical (b ∷ w) = go (b == 34) (characters escape.Plain w)
  where
    go : (a : Bool) (o : Option (List ℕ)) → all_lexical (cond a (as_text o) None) ≡ true
    go true None = refl
    go true (Some v) = refl
    go false o = refl

mark_lexical : (rows : List (List ℕ × Mark)) (w : List ℕ) → all_lexical (mark_in rows w) ≡ true
mark_lexical [] w = refl
mark_lexical (row ∷ rows) w = go (bytes_eq w row.0) (mark_lexical rows w)
  where
    go : (a : Bool) → all_lexical (mark_in rows w) ≡ true → all_lexical (cond a (Some (token.Mark row.1)) (mark_in rows w)) ≡ true
    go true h = refl
    go false h = h

or_lexical : (o p : Option Token) → all_lexical o ≡ true → all_lexical p ≡ true → all_lexical (or_none o p) ≡ true
or_lexical None p h k = k
or_lexical (Some t) p h k = h

number_lexical : (w : List ℕ) → all_lexical (number w) ≡ true
number_lexical w = go (begins (λ b. b == 45) w)
  where
    go : (negative : Bool)
        → all_lexical (cond (is_numeral w) (Some (cond (nat_le (length (digits_of w)) 20) (token.Number (cond negative (minus (digits_value 0 (digits_of w))) (pos (digits_value 0 (digits_of w))))) token.Bad)) None) ≡ true
    go negative = one_or_bad (is_numeral w) (nat_le (length (digits_of w)) 20) (token.Number (cond negative (minus (digits_value 0 (digits_of w))) (pos (digits_value 0 (digits_of w))))) refl

whole_lexical : (w : List ℕ) → all_lexical (whole w) ≡ true
whole_lexical w =
    or_lexical (word w) (or_none (number w) (or_none (text w) (mark_in mark_texts w))) (one_or_bad (is_run w) (nat_le (length w) 64) (token.Word w) refl)
    (or_lexical (number w) (or_none (text w) (mark_in mark_texts w)) (number_lexical w) (or_lexical (text w) (mark_in mark_texts w) (text_lexical w) (mark_lexical mark_texts w)))

longer_lexical : (o : Option Token) (n : ℕ) (shorter : Unit {0} → Token × ℕ) → all_lexical o ≡ true → is_lexical (shorter tt).0 ≡ true → is_lexical (longer_or o n shorter).0 ≡ true
longer_lexical None n shorter h k = k
longer_lexical (Some t) n shorter h k = h

longest_lexical : (n : ℕ) (w : List ℕ) → is_lexical (longest n w).0 ≡ true
unfolding longest
longest_lexical zero w = refl
longest_lexical (suc n) w = longer_lexical (whole (take (suc n) w)) (suc n) (λ u. longest n w) (whole_lexical (take (suc n) w)) (longest_lexical n w)

gap_lexical : (p q : Bool) (at : ℕ) (w : List ℕ) (go : ℕ → List Lexeme) → ((skip : ℕ) → list_all is_lexical (kinds (go skip)) ≡ true) → list_all is_lexical (kinds (at_gap p q at w go)) ≡ true
gap_lexical true q at w go k = k 0
gap_lexical false true at w go k = refl
gap_lexical false false at w go k = both (is_lexical (front w).0) (list_all is_lexical (kinds (go ((front w).1 - 1)))) (longest_lexical (length w) w) (k ((front w).1 - 1))

pub lexemes_lexical : (w : List ℕ) (skip at : ℕ) → list_all is_lexical (kinds (lexemes true skip at w)) ≡ true
unfolding lexemes
lexemes_lexical [] skip at = refl
lexemes_lexical (b ∷ w) zero at = gap_lexical (is_space b) (true && b == 35) at (b ∷ w) (λ skip. lexemes true skip (suc at) w) (λ skip. lexemes_lexical w skip (suc at))
lexemes_lexical (b ∷ w) (suc skip) at = lexemes_lexical w skip (suc at)

plain_is : (t : Token) → is_lexical t ≡ true → is_clean t ≡ true → is_plain t ≡ true
plain_is (token.Word w) h k = refl
plain_is (token.Number n) h k = refl
plain_is (token.Text b) h k = refl
plain_is (token.Mark m) h k = refl
plain_is token.Eol h k = absurd cc
plain_is token.End h k = absurd cc
plain_is token.Bad h k = absurd cc

all_plain : (ts : List Token) → list_all is_lexical ts ≡ true → list_all is_clean ts ≡ true → list_all is_plain ts ≡ true
all_plain [] h k = refl
all_plain (t ∷ ts) h k =
    let q = and_parts (is_lexical t) (list_all is_lexical ts) h in
    let r = and_parts (is_clean t) (list_all is_clean ts) k in
    both (is_plain t) (list_all is_plain ts) (plain_is t q.0 r.0) (all_plain ts q.1 r.1)

pub plain_lexemes : (bytes : List ℕ) (xs ys : List Lexeme) → lexemes true 0 0 bytes ≡ xs ++ ys → list_all is_clean (kinds xs) ≡ true → list_all is_plain (kinds xs) ≡ true
plain_lexemes bytes xs ys e h =
    let all : list_all is_lexical (kinds xs ++ kinds ys) ≡ true =
    ap (list_all is_lexical) (sym (map-append (λ (x : Lexeme). x.token) xs ys)) ∙ ap (λ (l : List Lexeme). list_all is_lexical (kinds l)) (sym e) ∙ lexemes_lexical bytes 0 0 in
    all_plain (kinds xs) (and_parts (list_all is_lexical (kinds xs)) (list_all is_lexical (kinds ys)) (sym (list_all-append is_lexical (kinds xs) (kinds ys)) ∙ all)).0 h
