-- Bytes cut at a token: those before it have the tokens before it, whatever lines come below or whatever comes after a space.
use Rattle.std.proofs.Common.{◌≡◌, ℕ, zero, suc, ◌+◌, ◌-◌, Bool, true, false, ◌&&◌, not, List, [], ◌∷◌, ◌++◌, length, take, drop, cond, refl, sym, ap, ◌∙◌, subst, arith, append_assoc, inl, inr, ◌⊎◌}
use Rattle.std.specs.Prelude.{◌==◌, slice_index}
use Rattle.std.specs.List.{list_all}
use Rattle.std.proofs.lemmas.Bool.{and_parts, eqb-true}
use Rattle.std.proofs.lemmas.List.{append-nil, map-append, take-append-drop}
use Rattle.std.proofs.lemmas.List.Folds.{list_all-append}
use Rattle.g_tokens.specs.declared.token.Token.{Token}
use Rattle.g_tokens.specs.declared.token.Token.TheVariants as token
use Rattle.g_tokens.specs.declared.token.Spot.{Spot}
use Rattle.g_tokens.specs.declared.token.Lexeme.{Lexeme}
use Rattle.g_tokens.specs.Tokens.{is_word_byte, lexemes, line_rest, line_tokens, content, lines, lines_tokens, placed, placed_tokens, tokens_of}
use Rattle.g_tokens.proofs.Gaps.{next_line, line_break, line_grows}
use Rattle.g_print_laws.proofs.Lexing.{Full, Inside, is_inner, kinds, both, not_at, space, starts, bound_line}
use Rattle.g_listing_completions.specs.Completion.{place_after}
use Rattle.g_listing_completions.proofs.Places.{place_both}
use Rattle.g_listing_completions.proofs.Forms.{State, fresh, midway, step, run, run_both}
use Rattle.g_listing_completions.proofs.BorderForms.{going}
use Rattle.g_listing_completions.proofs.Lexical.{is_clean, is_lexical, is_plain, lexemes_lexical, plain_lexemes}
use Rattle.g_listing_completions.proofs.Cuts.{Fore, place, head_of, tail_of, cut_line}

-- ---- bytes put below or behind

-- bytes that go on inside a line, or from the start of one
abbrev pub At : Bool → List ℕ → List Token → Type 0
At true bytes ts = Inside bytes ts
At false bytes ts = Full bytes ts

-- after a space, or in a new line
abbrev pub parted : Bool → List ℕ → List ℕ
parted true bytes = 32 ∷ bytes
parted false bytes = 10 ∷ bytes

behind : (before : List ℕ) (own : List Token) {bytes : List ℕ} {ts : List Token} → Fore before own → Inside bytes ts → Inside (before ++ 32 ∷ bytes) (own ++ ts)
behind before own {bytes} {ts} f i =
    let s = space i in record {
      line = before ++ s.line;
      below = s.below;
      own = own ++ s.own;
      next = s.next;
      parts = ap (λ (l : List ℕ). before ++ l) s.parts ∙ sym (append_assoc before s.line (10 ∷ s.below));
      inner = list_all-append is_inner before s.line ∙ both (list_all is_inner before) (list_all is_inner s.line) f.inner s.inner;
      cuts = λ at. f.cuts at s.line (bound_line is_word_byte s.line (32 ∷ bytes) s.below s.parts refl) ∙ ap (λ (l : List Token). own ++ l) (s.cuts (at + length before));
      all = ap (λ (l : List Token). own ++ l) s.all ∙ sym (append_assoc own s.own (token.Eol ∷ s.next));
      full = s.full;
    }

-- ---- whole lines

abbrev no_feed : ℕ → Bool
no_feed b = not (b == 10)

through : (begun line below : List ℕ) → list_all no_feed line ≡ true → lines begun (line ++ 10 ∷ below) ≡ (begun ++ line) ∷ lines [] below
unfolding lines
through begun [] below h = ap (λ (l : List ℕ). l ∷ lines [] below) (sym (append-nil begun))
through begun (b ∷ line) below h =
    let q = and_parts (no_feed b) (list_all no_feed line) h in
    line_grows begun (line ++ 10 ∷ below) b (not_at no_feed b 10 q.0 refl) ∙ through (begun ++ b ∷ []) line below q.1 ∙ ap (λ (l : List ℕ). l ∷ lines [] below) (append_assoc begun (b ∷ []) line)

-- the tokens of a line
abbrev line_kinds : List Lexeme → List Token
line_kinds [] = []
line_kinds (x ∷ xs) = kinds (x ∷ xs) ++ token.Eol ∷ []

rest_kinds : (n end : ℕ) (xs : List Lexeme) → tokens_of (line_rest n end xs) ≡ kinds xs ++ token.Eol ∷ []
rest_kinds n end [] = refl
rest_kinds n end (x ∷ xs) = ap (λ (l : List Token). x.token ∷ l) (rest_kinds n x.end xs)

kinds_of : (n : ℕ) (xs : List Lexeme) → tokens_of (line_tokens n xs) ≡ line_kinds xs
kinds_of n [] = refl
kinds_of n (x ∷ xs) = ap (λ (l : List Token). x.token ∷ l) (rest_kinds n x.end xs)

abbrev lexed : List ℕ → List Lexeme
lexed line = lexemes true 0 0 (content line)

above : (line : List ℕ) {bytes : List ℕ} {ts : List Token} → list_all no_feed line ≡ true → Full bytes ts → Full (line ++ 10 ∷ bytes) (line_kinds (lexed line) ++ ts)
above line {bytes} {ts} h f = record {
  lines = λ n.
      ap (λ (l : List (List ℕ)). tokens_of (lines_tokens n l)) (through [] line bytes h)
      ∙ ap tokens_of (next_line n line [] bytes)
      ∙ map-append (λ (x : Token × Spot). x.0) (line_tokens n (lexed line)) (lines_tokens (suc n) (lines [] bytes))
      ∙ ap (λ (l : List Token). tokens_of (line_tokens n (lexed line)) ++ l) (f.lines (suc n))
      ∙ ap (λ (l : List Token). l ++ ts) (kinds_of n (lexed line));
}

-- ---- what tokens leave off

plain_step : (t : Token) → is_plain t ≡ true → (step fresh t ≡ midway) × (step midway t ≡ midway)
plain_step (token.Word w) h = (refl, refl)
plain_step (token.Number n) h = (refl, refl)
plain_step (token.Text b) h = (refl, refl)
plain_step (token.Mark m) h = (refl, refl)
plain_step t h = absurd cc

run_plain : (ts : List Token) → list_all is_plain ts ≡ true → run midway ts ≡ midway
run_plain [] h = refl
run_plain (t ∷ ts) h =
    let q = and_parts (is_plain t) (list_all is_plain ts) h in
    ap (λ (s : State). run s ts) (plain_step t q.0).1 ∙ run_plain ts q.1

run_first : (t : Token) (ts : List Token) → list_all is_plain (t ∷ ts) ≡ true → run fresh (t ∷ ts) ≡ midway
run_first t ts h =
    let q = and_parts (is_plain t) (list_all is_plain ts) h in
    ap (λ (s : State). run s ts) (plain_step t q.0).0 ∙ run_plain ts q.1

run_line : (xs : List Lexeme) → list_all is_plain (kinds xs) ≡ true → run fresh (line_kinds xs) ≡ fresh
run_line [] h = refl
run_line (x ∷ xs) h = run_both fresh (kinds (x ∷ xs)) (token.Eol ∷ []) ∙ ap (λ (s : State). run s (token.Eol ∷ [])) (run_first x.token (kinds xs) h)

no_eol : (t : Token) → is_plain t ≡ true → t ≡ token.Eol → ⊥
no_eol t h e = let f : true ≡ false = sym h ∙ ap is_plain e in cc

-- ---- places

place_in_line : (n c : ℕ) (before : List ℕ) → list_all no_feed before ≡ true → place_after (record { line = n; column = c }) before ≡ record { line = n; column = c + length before }
place_in_line n c [] h = let e : c ≡ c + 0 = omega arith in ap (λ (k : ℕ). record { line = n; column = k }) e
place_in_line n c (b ∷ before) h =
    let q = and_parts (no_feed b) (list_all no_feed before) h in
    let e : suc c + length before ≡ c + suc (length before) = omega arith in
    rw (not_at no_feed b 10 q.0 refl) (place_in_line n (suc c) before q.1 ∙ ap (λ (k : ℕ). record { line = n; column = k }) e)

-- the place just after such bytes
at_column : (n : ℕ) (before : List ℕ) (k : ℕ) (spot : Spot) → list_all no_feed before ≡ true → length before ≡ k → spot ≡ record { line = n; column = k + 1 } → place_after (record { line = n; column = 1 }) before ≡ spot
at_column n before k spot h long e =
    let column : 1 + length before ≡ k + 1 = omega (arith, long) in
    place_in_line n 1 before h ∙ ap (λ (c : ℕ). record { line = n; column = c }) column ∙ sym e

abbrev line_start : ℕ → Spot
line_start n = record { line = n; column = 1 }

below_line : (n : ℕ) (line front : List ℕ) → list_all no_feed line ≡ true → place_after (line_start n) (line ++ 10 ∷ front) ≡ place_after (line_start (suc n)) front
below_line n line front h = place_both (line_start n) line (10 ∷ front) ∙ ap (λ (s : Spot). place_after s (10 ∷ front)) (place_in_line n 1 line h)

-- ---- a token of a line

-- the tokens before one of a line, and its place
abbrev Part : ℕ → ℕ → List Lexeme → List (Token × Spot) → Spot → Type 0
Part n end all before spot = (xs ys : List Lexeme) × (all ≡ xs ++ ys) × (tokens_of before ≡ kinds xs) × (spot ≡ record { line = n; column = place end xs ys + 1 })

no_item : {A : Type 0} (a b : List A) (x : A) → [] ≡ a ++ x ∷ b → ⊥
no_item [] b x e = cc
no_item (y ∷ a) b x e = cc

abbrev kind_of : Token × Spot → Token
kind_of x = x.0

abbrev spot_of : Token × Spot → Spot
spot_of x = x.1

further_part : (n end : ℕ) (y : Lexeme) (all : List Lexeme) (z : Token × Spot) (before : List (Token × Spot)) (spot : Spot) → placed n y.token y.begin ≡ z → Part n y.end all before spot → Part n end (y ∷ all) (z ∷ before) spot
further_part n end y all z before spot e r = (
  y ∷ r.0,
  r.1,
  ap (λ (l : List Lexeme). y ∷ l) r.2,
  ap (λ (t : Token). t ∷ tokens_of before) (sym (ap kind_of e)) ∙ ap (λ (l : List Token). y.token ∷ l) r.3,
  r.4,
)

rest_part : (n end : ℕ) (all : List Lexeme) (before after : List (Token × Spot)) (x : Token × Spot) → line_rest n end all ≡ before ++ x ∷ after → Part n end all before x.1
rest_part n end [] [] after x e = ([], [], refl, refl, sym (ap spot_of (head_of (placed n token.Eol end) x [] after e)))
rest_part n end [] (z ∷ before) after x e = absurd (no_item before after x (tail_of (placed n token.Eol end) z [] (before ++ x ∷ after) e))
rest_part n end (y ∷ all) [] after x e = ([], y ∷ all, refl, refl, sym (ap spot_of (head_of (placed n y.token y.begin) x (line_rest n y.end all) after e)))
rest_part n end (y ∷ all) (z ∷ before) after x e =
    further_part n end y all z before x.1 (head_of (placed n y.token y.begin) z (line_rest n y.end all) (before ++ x ∷ after) e)
    (rest_part n y.end all before after x (tail_of (placed n y.token y.begin) z (line_rest n y.end all) (before ++ x ∷ after) e))

line_part : (n : ℕ) (all : List Lexeme) (before after : List (Token × Spot)) (x : Token × Spot) → line_tokens n all ≡ before ++ x ∷ after → Part n 0 all before x.1
line_part n [] before after x e = absurd (no_item before after x e)
line_part n (y ∷ all) [] after x e = ([], y ∷ all, refl, refl, sym (ap spot_of (head_of (placed n y.token y.begin) x (line_rest n y.end all) after e)))
line_part n (y ∷ all) (z ∷ before) after x e =
    further_part n 0 y all z before x.1 (head_of (placed n y.token y.begin) z (line_rest n y.end all) (before ++ x ∷ after) e)
    (rest_part n y.end all before after x (tail_of (placed n y.token y.begin) z (line_rest n y.end all) (before ++ x ∷ after) e))

-- ---- no line has END

abbrev is_other : Token → Bool
is_other token.End = false
is_other _ = true

other_token : (t : Token) → is_lexical t ≡ true → is_other t ≡ true
other_token token.End h = absurd cc
other_token t h = refl

other_tokens : (ts : List Token) → list_all is_lexical ts ≡ true → list_all is_other ts ≡ true
other_tokens [] h = refl
other_tokens (t ∷ ts) h =
    let q = and_parts (is_lexical t) (list_all is_lexical ts) h in
    both (is_other t) (list_all is_other ts) (other_token t q.0) (other_tokens ts q.1)

other_line : (xs : List Lexeme) → list_all is_lexical (kinds xs) ≡ true → list_all is_other (line_kinds xs) ≡ true
other_line [] h = refl
other_line (x ∷ xs) h = list_all-append is_other (kinds (x ∷ xs)) (token.Eol ∷ []) ∙ both (list_all is_other (kinds (x ∷ xs))) true (other_tokens (kinds (x ∷ xs)) h) refl

no_end : (n : ℕ) (line : List ℕ) (before after : List (Token × Spot)) (x : Token × Spot) → line_tokens n (lexed line) ≡ before ++ x ∷ after → x.0 ≡ token.End → ⊥
no_end n line before after x e is =
    let all : list_all is_other (tokens_of before ++ x.0 ∷ tokens_of after) ≡ true =
    ap (list_all is_other) (sym (map-append kind_of before (x ∷ after)) ∙ ap tokens_of (sym e) ∙ kinds_of n (lexed line)) ∙ other_line (lexed line) (lexemes_lexical (content line) 0 0) in
    let from = and_parts (list_all is_other (tokens_of before)) (list_all is_other (x.0 ∷ tokens_of after)) (sym (list_all-append is_other (tokens_of before) (x.0 ∷ tokens_of after)) ∙ all) in
    let here = and_parts (is_other x.0) (list_all is_other (tokens_of after)) from.1 in
    let f : true ≡ false = sym here.0 ∙ ap is_other is in
    cc

-- ---- bytes before a token

-- bytes from the start of a line on, cut before a token of which these are before it
pub record Split (n : ℕ) (bytes : List ℕ) (before : List Token) (x : Token × Spot) : Type 0 where
  pub front : List ℕ
  pub back : List ℕ
  pub parts : bytes ≡ front ++ back
  pub all : x.0 ≡ token.End → back ≡ []
  pub there : place_after (record { line = n; column = 1 }) front ≡ x.1
  pub amid : Bool
  pub state : run fresh before ≡ going amid
  pub goes : (bytes : List ℕ) (ts : List Token) → At amid bytes ts → Full (front ++ parted amid bytes) (before ++ ts)

-- a carriage return may be left out
content_parts : (line : List ℕ) → (left : List ℕ) × (line ≡ content line ++ left)
content_parts line = go (slice_index line (length line - 1) == 13)
  where
    go : (b : Bool) → (left : List ℕ) × (line ≡ cond b (take (length line - 1) line) line ++ left)
    go true = (drop (length line - 1) line, sym (take-append-drop (length line - 1) line))
    go false = ([], sym (append-nil line))

no_return : (line : List ℕ) (k : ℕ) → list_all is_inner line ≡ true → (slice_index line k == 13) ≡ false
no_return [] k h = refl
no_return (b ∷ line) zero h = not_at is_inner b 13 (and_parts (is_inner b) (list_all is_inner line) h).0 refl
no_return (b ∷ line) (suc k) h = no_return line k (and_parts (is_inner b) (list_all is_inner line) h).1

content_is : (line : List ℕ) → list_all is_inner line ≡ true → content line ≡ line
content_is line h = rw (no_return line (length line - 1) h) refl

inner_feed : (b : ℕ) → is_inner b ≡ true → no_feed b ≡ true
inner_feed b h = (and_parts (not (b == 10)) (not (b == 13)) h).0

all_feed : (line : List ℕ) → list_all is_inner line ≡ true → list_all no_feed line ≡ true
all_feed [] h = refl
all_feed (b ∷ line) h =
    let q = and_parts (is_inner b) (list_all is_inner line) h in
    both (no_feed b) (list_all no_feed line) (inner_feed b q.0) (all_feed line q.1)

no_kinds : (xs : List Lexeme) → kinds xs ≡ [] → xs ≡ []
no_kinds [] e = refl
no_kinds (x ∷ xs) e = absurd cc

-- bytes before the first token of a line
blank : (before : List ℕ) → Fore before [] → lexed before ≡ []
unfolding lexemes
blank before f =
    ap (lexemes true 0 0) (content_is before f.inner)
    ∙ no_kinds (lexemes true 0 0 before) (ap (λ (l : List ℕ). kinds (lexemes true 0 0 l)) (sym (append-nil before)) ∙ f.cuts 0 [] refl)

abbrev Goes : List ℕ → List Token → Type 0
Goes front before = (amid : Bool) × (run fresh before ≡ going amid) × ((bytes : List ℕ) (ts : List Token) → At amid bytes ts → Full (front ++ parted amid bytes) (before ++ ts))

goes_in_line : (front : List ℕ) (xs : List Lexeme) → list_all is_plain (kinds xs) ≡ true → Fore front (kinds xs) → Goes front (kinds xs)
goes_in_line front [] plain f = (false, refl, λ bytes ts full. subst (λ (l : List Lexeme). Full (front ++ 10 ∷ bytes) (line_kinds l ++ ts)) (blank front f) (above front (all_feed front f.inner) full))
goes_in_line front (x ∷ xs) plain f =
    let q = and_parts (is_plain x.token) (list_all is_plain (kinds xs)) plain in
    (true, run_first x.token (kinds xs) plain, λ bytes ts i. starts x.token (no_eol x.token q.0) (behind front (kinds (x ∷ xs)) f i))

module _ (n : ℕ) (line rest : List ℕ) where
  this_line : (before after : List (Token × Spot)) (x : Token × Spot) → line_tokens n (lexed line) ≡ before ++ x ∷ after → list_all is_clean (tokens_of before) ≡ true → Split n (line ++ rest) (tokens_of before) x
  this_line before after x e clean =
      let p = line_part n (lexed line) before after x e in
      let plain : list_all is_plain (kinds p.0) ≡ true = plain_lexemes (content line) p.0 p.1 p.2 (ap (list_all is_clean) (sym p.3) ∙ clean) in
      let c = cut_line (content line) p.0 p.1 p.2 plain in
      let left = content_parts line in
      let g = goes_in_line c.before p.0 plain c.fore in
      let long : length c.before ≡ place 0 p.0 p.1 = omega (arith, c.there) in
      subst (λ (ts : List Token). Split n (line ++ rest) ts x) (sym p.3) (record {
        front = c.before;
        back = c.after ++ (left.0 ++ rest);
        parts =
            ap (λ (l : List ℕ). l ++ rest) (left.1 ∙ ap (λ (l : List ℕ). l ++ left.0) c.parts)
            ∙ append_assoc (c.before ++ c.after) left.0 rest ∙ append_assoc c.before c.after (left.0 ++ rest);
        all = λ is. absurd (no_end n line before after x e is);
        there = at_column n c.before (place 0 p.0 p.1) x.1 (all_feed c.before c.fore.inner) long p.4;
        amid = g.0;
        state = g.1;
        goes = g.2;
      })

-- all tokens of a line are before it
abbrev Whole : List ℕ → List Token → Type 0
Whole line before = (list_all is_plain (kinds (lexed line)) ≡ true) × (before ≡ line_kinds (lexed line))

whole_line : (n : ℕ) (line : List ℕ) (before : List (Token × Spot)) → before ≡ line_tokens n (lexed line) → list_all is_clean (tokens_of before) ≡ true → Whole line (tokens_of before)
whole_line n line before e clean =
    let is : tokens_of before ≡ line_kinds (lexed line) = ap tokens_of e ∙ kinds_of n (lexed line) in
    (plain_lexemes (content line) (lexed line) [] (sym (append-nil (lexed line))) (own (lexed line) (ap (list_all is_clean) (sym is) ∙ clean)), is)
  where
    own : (xs : List Lexeme) → list_all is_clean (line_kinds xs) ≡ true → list_all is_clean (kinds xs) ≡ true
    own [] h = refl
    own (x ∷ xs) h = (and_parts (list_all is_clean (kinds (x ∷ xs))) true (sym (list_all-append is_clean (kinds (x ∷ xs)) (token.Eol ∷ [])) ∙ h)).0

at_end : (n : ℕ) (line : List ℕ) (before : List Token) (x : Token × Spot) → list_all no_feed line ≡ true → Whole line before → placed n token.End (length line) ≡ x → Split n (line ++ []) before x
at_end n line before x h w e =
    subst (λ (ts : List Token). Split n (line ++ []) ts x) (sym w.1) (record {
      front = line;
      back = [];
      parts = refl;
      all = λ is. refl;
      there = at_column n line (length line) x.1 h refl (sym (ap spot_of e));
      amid = false;
      state = run_line (lexed line) w.0;
      goes = λ bytes ts full. above line h full;
    })

later_line : (n : ℕ) (line rest : List ℕ) (b : ℕ) (own below : List Token) (x : Token × Spot) → b ≡ 10 → list_all no_feed line ≡ true → Whole line own → Split (suc n) rest below x → Split n (line ++ b ∷ rest) (own ++ below) x
later_line n line rest b own below x is h w s =
    subst (λ (ts : List Token). Split n (line ++ b ∷ rest) (ts ++ below) x) (sym w.1) (record {
      front = line ++ 10 ∷ s.front;
      back = s.back;
      parts = ap (λ (k : ℕ). line ++ k ∷ rest) is ∙ ap (λ (l : List ℕ). line ++ 10 ∷ l) s.parts ∙ sym (append_assoc line (10 ∷ s.front) s.back);
      all = s.all;
      there = below_line n line s.front h ∙ s.there;
      amid = s.amid;
      state = run_both fresh (line_kinds (lexed line)) below ∙ ap (λ (u : State). run u below) (run_line (lexed line) w.0) ∙ s.state;
      goes = λ bytes ts at.
          subst (λ (l : List ℕ). Full l ((line_kinds (lexed line) ++ below) ++ ts)) (sym (append_assoc line (10 ∷ s.front) (parted s.amid bytes)))
          (subst (λ (l : List Token). Full (line ++ 10 ∷ (s.front ++ parted s.amid bytes)) l) (sym (append_assoc (line_kinds (lexed line)) below ts)) (above line h (s.goes bytes ts at)));
    })

-- ---- all lines

append_split : {A : Type 0} (u v a b : List A) (x : A) → u ++ v ≡ a ++ x ∷ b → ((c : List A) × (u ≡ a ++ x ∷ c)) ⊎ ((c : List A) × (a ≡ u ++ c) × (v ≡ c ++ x ∷ b))
append_split [] v a b x e = inr (a, refl, e)
append_split {A} (y ∷ u) v [] b x e = inl (u, ap (λ (z : A). z ∷ u) (head_of y x (u ++ v) b e))
append_split {A} (y ∷ u) v (z ∷ a) b x e =
    let h : y ≡ z = head_of y z (u ++ v) (a ++ x ∷ b) e in
    elim (append_split u v a b x (tail_of y z (u ++ v) (a ++ x ∷ b) e)) [
      | inl q ↦ inl (q.0, ap (λ (l : List A). y ∷ l) q.1 ∙ ap (λ (w : A). w ∷ (a ++ x ∷ q.0)) h)
      | inr q ↦ inr (q.0, ap (λ (l : List A). z ∷ l) q.1 ∙ ap (λ (w : A). w ∷ (u ++ q.0)) (sym h), q.2)
    ]

-- the further bytes of a listing
abbrev Cuts : List ℕ → Type 0
Cuts rest = (begun : List ℕ) (n : ℕ) → list_all no_feed begun ≡ true → (before after : List (Token × Spot)) (x : Token × Spot) → lines_tokens n (lines begun rest) ≡ before ++ x ∷ after
    → list_all is_clean (tokens_of before) ≡ true → Split n (begun ++ rest) (tokens_of before) x

end_item : {A : Type 0} (y x : A) (c b : List A) → y ∷ [] ≡ c ++ x ∷ b → (c ≡ []) × (y ≡ x)
end_item y x [] b e = (refl, head_of y x [] b e)
end_item y x (z ∷ c) b e = absurd (no_item c b x (tail_of y z [] (c ++ x ∷ b) e))

last_line : Cuts []
unfolding lines
last_line begun n h before after x e clean = elim (append_split (line_tokens n (lexed begun)) (placed n token.End (length begun) ∷ []) before after x e) [
  | inl q ↦ this_line n begun [] before q.0 x q.1 clean
  | inr q ↦
      let i = end_item (placed n token.End (length begun)) x q.0 after q.2 in
      let own : before ≡ line_tokens n (lexed begun) = q.1 ∙ ap (λ (l : List (Token × Spot)). line_tokens n (lexed begun) ++ l) i.0 ∙ append-nil (line_tokens n (lexed begun)) in
      at_end n begun (tokens_of before) x h (whole_line n begun before own clean) i.1
]

more_lines : (b : ℕ) (rest : List ℕ) → Cuts rest → Cuts (b ∷ rest)
more_lines b rest ih begun n h before after x e clean = go (b == 10) refl
  where
    ends : b ≡ 10 → Split n (begun ++ b ∷ rest) (tokens_of before) x
    ends is = elim (append_split (line_tokens n (lexed begun)) (lines_tokens (suc n) (lines [] rest)) before after x (sym (line_break n begun rest b is) ∙ e)) [
      | inl q ↦ this_line n begun (b ∷ rest) before q.0 x q.1 clean
      | inr q ↦
          let both-are : tokens_of before ≡ tokens_of (line_tokens n (lexed begun)) ++ tokens_of q.0 = ap tokens_of q.1 ∙ map-append kind_of (line_tokens n (lexed begun)) q.0 in
          let c = and_parts (list_all is_clean (tokens_of (line_tokens n (lexed begun)))) (list_all is_clean (tokens_of q.0))
          (sym (list_all-append is_clean (tokens_of (line_tokens n (lexed begun))) (tokens_of q.0)) ∙ ap (list_all is_clean) (sym both-are) ∙ clean) in
          subst (λ (ts : List Token). Split n (begun ++ b ∷ rest) ts x) (sym both-are)
          (later_line n begun rest b (tokens_of (line_tokens n (lexed begun))) (tokens_of q.0) x is h (whole_line n begun (line_tokens n (lexed begun)) refl c.0) (ih [] (suc n) refl q.0 after x q.2 c.1))
    ]

    grows : (b == 10) ≡ false → Split n (begun ++ b ∷ rest) (tokens_of before) x
    grows other =
        let one : list_all no_feed (begun ++ b ∷ []) ≡ true = list_all-append no_feed begun (b ∷ []) ∙ both (list_all no_feed begun) (no_feed b && true) h (rw other refl) in
        subst (λ (l : List ℕ). Split n l (tokens_of before) x) (append_assoc begun (b ∷ []) rest)
        (ih (begun ++ b ∷ []) n one before after x (ap (lines_tokens n) (sym (line_grows begun rest b other)) ∙ e) clean)

    go : (v : Bool) → (b == 10) ≡ v → Split n (begun ++ b ∷ rest) (tokens_of before) x
    go true is = ends (eqb-true b 10 is)
    go false is = grows is

all_lines : (rest : List ℕ) → Cuts rest
all_lines [] = last_line
all_lines (b ∷ rest) = more_lines b rest (all_lines rest)

-- a listing's bytes, cut before any of its tokens
pub split_bytes : (bytes : List ℕ) (before after : List (Token × Spot)) (x : Token × Spot) → placed_tokens bytes ≡ before ++ x ∷ after → list_all is_clean (tokens_of before) ≡ true → Split 1 bytes (tokens_of before) x
split_bytes bytes before after x e clean = all_lines bytes [] 1 refl before after x e clean
