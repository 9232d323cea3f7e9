-- A line cut at a token: the bytes before it have the tokens before it, whatever comes after a space.
use Rattle.std.proofs.Common.{◌≡◌, ℕ, zero, suc, ◌+◌, ◌-◌, ◌≤◌, Bool, true, false, List, [], ◌∷◌, ◌++◌, length, take, drop, Some, None, refl, sym, ap, ◌∙◌, subst, arith, append_assoc}
use Rattle.std.specs.Prelude.{◌==◌}
use Rattle.std.specs.List.{list_all}
use Rattle.std.proofs.Math.Seq.{drop-append_seam, take-append_seam}
use Rattle.std.proofs.lemmas.Bool.{and_parts}
use Rattle.std.proofs.lemmas.List.{length-append, take-append-drop, length-take-le}
use Rattle.std.proofs.lemmas.List.Folds.{list_all-append}
use Rattle.g_tokens.specs.declared.token.Token.{Token}
use Rattle.g_tokens.specs.declared.token.Token.TheVariants as token
use Rattle.g_tokens.specs.declared.token.Lexeme.{Lexeme}
use Rattle.g_tokens.specs.Tokens.{is_space, is_word_byte, begins, whole, front, lexemes}
use Rattle.g_tokens.proofs.Gaps.{over_space, at_comment, at_token}
use Rattle.g_print_laws.proofs.Lexing.{is_inner, kinds, both, not_at}
use Rattle.g_listing_completions.proofs.Lexical.{is_plain}
use Rattle.g_listing_completions.proofs.Following.{goes_on, bounded, found, stops, no_goes_on, front_of}

-- bytes of a line that have these tokens, whatever comes after them that goes on with no word
pub record Fore (before : List ℕ) (own : List Token) : Type 0 where
  pub inner : list_all is_inner before ≡ true
  pub cuts : (at : ℕ) (line : List ℕ) → begins is_word_byte line ≡ false → kinds (lexemes true 0 at (before ++ line)) ≡ own ++ kinds (lexemes true 0 (at + length before) line)

-- where the first of the tokens after some begins, or where those end if there is none
abbrev pub place : ℕ → List Lexeme → List Lexeme → ℕ
place at [] [] = at
place at [] (y ∷ ys) = y.begin
place at (x ∷ xs) ys = place x.end xs ys

pub record Cut (at : ℕ) (bytes : List ℕ) (xs ys : List Lexeme) : Type 0 where
  pub before : List ℕ
  pub after : List ℕ
  pub parts : bytes ≡ before ++ after
  pub there : at + length before ≡ place at xs ys
  pub fore : Fore before (kinds xs)

nothing_fore : Fore [] []
nothing_fore = record { inner = refl; cuts = λ at line h. ap (λ (n : ℕ). kinds (lexemes true 0 n line)) (omega arith) }

cut_here : (at : ℕ) (bytes : List ℕ) (ys : List Lexeme) → at ≡ place at [] ys → Cut at bytes [] ys
cut_here at bytes ys e = record { before = []; after = bytes; parts = refl; there = omega (arith, e); fore = nothing_fore }

-- ---- over a space

space_inner : (b : ℕ) → is_space b ≡ true → is_inner b ≡ true
space_inner b h = rw (not_at is_space b 10 h refl, not_at is_space b 13 h refl) refl

space_fore : (b : ℕ) (before : List ℕ) (own : List Token) → is_space b ≡ true → Fore before own → Fore (b ∷ before) own
space_fore b before own h f = record {
  inner = both (is_inner b) (list_all is_inner before) (space_inner b h) f.inner;
  cuts = λ at line e.
      ap kinds (over_space true at b (before ++ line) h) ∙ f.cuts (suc at) line e
      ∙ ap (λ (n : ℕ). own ++ kinds (lexemes true 0 n line)) (sum at (length before));
}
  where
    sum : (at n : ℕ) → suc at + n ≡ at + suc n
    sum at n = omega arith

cut_space : (at b : ℕ) (w : List ℕ) (xs ys : List Lexeme) → is_space b ≡ true → place (suc at) xs ys ≡ place at xs ys → Cut (suc at) w xs ys → Cut at (b ∷ w) xs ys
cut_space at b w xs ys h same c = record {
  before = b ∷ c.before;
  after = c.after;
  parts = ap (λ (l : List ℕ). b ∷ l) c.parts;
  there = omega (arith, c.there, same);
  fore = space_fore b c.before (kinds xs) h c.fore;
}

-- ---- over a token

-- what begins as other bytes do, or with no word
still_stops : (p : ℕ → Bool) (before after line : List ℕ) → begins p (before ++ after) ≡ false → begins p line ≡ false → begins p (before ++ line) ≡ false
still_stops p [] after line h e = e
still_stops p (b ∷ before) after line h e = h

module _ (b : ℕ) (v : List ℕ) (t : Token) (space : is_space b ≡ false) (comment : (b == 35) ≡ false) (is : whole (b ∷ v) ≡ Some t) where
  token_fore : (before : List ℕ) (own : List Token) → ((line : List ℕ) → begins is_word_byte line ≡ false → begins (goes_on (b ∷ v)) (before ++ line) ≡ false) → Fore before own → Fore ((b ∷ v) ++ before) (t ∷ own)
  token_fore before own stop f = record {
    inner = list_all-append is_inner (b ∷ v) before ∙ both (list_all is_inner (b ∷ v)) (list_all is_inner before) (bounded (b ∷ v) t is).inner f.inner;
    cuts = λ at line e.
        let s : List ℕ = before ++ line in
        ap (λ (l : List ℕ). kinds (lexemes true 0 at l)) (append_assoc (b ∷ v) before line)
        ∙ ap kinds (at_token true at b (v ++ s) t (length (b ∷ v)) space comment (front_of (b ∷ v) s t (omega arith) is (stop line e)))
        ∙ ap (λ (l : List ℕ). t ∷ kinds (lexemes true 0 (at + length (b ∷ v)) l)) (drop-append_seam (b ∷ v) s)
        ∙ ap (λ (l : List Token). t ∷ l) (f.cuts (at + length (b ∷ v)) line e)
        ∙ ap (λ (n : ℕ). t ∷ (own ++ kinds (lexemes true 0 n line))) (sum at);
  }
    where
      sum : (at : ℕ) → (at + length (b ∷ v)) + length before ≡ at + length ((b ∷ v) ++ before)
      sum at = omega (arith, length-append (b ∷ v) before)

  cut_token : (at : ℕ) (rest : List ℕ) (x : Lexeme) (xs ys : List Lexeme) → x.token ≡ t → x.end ≡ at + length (b ∷ v) → begins (goes_on (b ∷ v)) rest ≡ false
      → Cut (at + length (b ∷ v)) rest xs ys → Cut at ((b ∷ v) ++ rest) (x ∷ xs) ys
  cut_token at rest x xs ys same ends stop c = record {
    before = (b ∷ v) ++ c.before;
    after = c.after;
    parts = ap (λ (l : List ℕ). (b ∷ v) ++ l) c.parts ∙ sym (append_assoc (b ∷ v) c.before c.after);
    there = far ∙ c.there ∙ ap (λ (n : ℕ). place n xs ys) (sym ends);
    fore = subst (λ (u : Token). Fore ((b ∷ v) ++ c.before) (u ∷ kinds xs)) (sym same)
        (token_fore c.before (kinds xs) (λ line e. still_stops (goes_on (b ∷ v)) c.before c.after line (ap (begins (goes_on (b ∷ v))) (sym c.parts) ∙ stop) (no_goes_on (b ∷ v) line t is e)) c.fore);
  }
    where
      far : at + length ((b ∷ v) ++ c.before) ≡ (at + length (b ∷ v)) + length c.before
      far = omega (arith, length-append (b ∷ v) c.before)

-- ---- a line

-- the first token of bytes that begin with neither a space nor a comment
first_is : (at b : ℕ) (w : List ℕ) → is_space b ≡ false → (b == 35) ≡ false
    → lexemes true 0 at (b ∷ w) ≡ record { token = (front (b ∷ w)).0; begin = at; end = at + (front (b ∷ w)).1 } ∷ lexemes true ((front (b ∷ w)).1 - 1) (suc at) w
unfolding lexemes
first_is at b w h k = rw (h, k) refl

pub head_of : {A : Type 0} (x y : A) (xs ys : List A) → x ∷ xs ≡ y ∷ ys → x ≡ y
head_of x y xs ys e = cc

pub tail_of : {A : Type 0} (x y : A) (xs ys : List A) → x ∷ xs ≡ y ∷ ys → xs ≡ ys
tail_of x y xs ys e = cc

not_bad : (t : Token) → is_plain t ≡ true → t ≡ token.Bad → ⊥
not_bad t h e = let f : true ≡ false = sym h ∙ ap is_plain e in cc

-- the bytes after a token
abbrev Rests : ℕ → Type 0
Rests n = (at : ℕ) (bytes : List ℕ) → length bytes ≤ n → (xs ys : List Lexeme) → lexemes true 0 at bytes ≡ xs ++ ys → list_all is_plain (kinds xs) ≡ true → Cut at bytes xs ys

module _ (n at b : ℕ) (space : is_space b ≡ false) (comment : (b == 35) ≡ false) (x : Lexeme) (xs ys : List Lexeme) (good : (x.token ≡ token.Bad) → ⊥) (plain : list_all is_plain (kinds xs) ≡ true) (ih : Rests n) where
  at_parts : (v rest : List ℕ) → length rest ≤ n → front (b ∷ (v ++ rest)) ≡ (x.token, suc (length v)) → x.end ≡ at + suc (length v) → lexemes true 0 at (b ∷ (v ++ rest)) ≡ x ∷ (xs ++ ys) → Cut at (b ∷ (v ++ rest)) (x ∷ xs) ys
  at_parts v rest le f ends e =
      let fits : suc (length v) ≤ length (b ∷ (v ++ rest)) = omega (arith, length-append v rest) in
      let one = found (length (b ∷ (v ++ rest))) (b ∷ (v ++ rest)) x.token (suc (length v)) f good in
      let is : whole (b ∷ v) ≡ Some x.token = ap whole (sym (take-append_seam (b ∷ v) rest)) ∙ one.is in
      let lexed = at_token true at b (v ++ rest) x.token (suc (length v)) space comment (record { is = f; some = omega arith; within = fits }) in
      let more : lexemes true 0 (at + suc (length v)) rest ≡ xs ++ ys = ap (lexemes true 0 (at + suc (length v))) (sym (drop-append_seam (b ∷ v) rest)) ∙ tail_of _ x _ (xs ++ ys) (sym lexed ∙ e) in
      cut_token b v x.token space comment is at rest x xs ys refl ends (stops (b ∷ v) rest x.token f good) (ih (at + suc (length v)) rest le xs ys more plain)

  at_length : (w : List ℕ) (k : ℕ) → length w ≤ n → k ≤ length w → front (b ∷ w) ≡ (x.token, suc k) → x.end ≡ at + suc k → lexemes true 0 at (b ∷ w) ≡ x ∷ (xs ++ ys) → Cut at (b ∷ w) (x ∷ xs) ys
  at_length w k le fits f ends e =
      let whole-is : take k w ++ drop k w ≡ w = take-append-drop k w in
      let long : length (take k w) ≡ k = length-take-le k w fits in
      let short : length (drop k w) ≤ n = omega (arith, length-append (take k w) (drop k w), ap length whole-is) in
      subst (λ (u : List ℕ). Cut at (b ∷ u) (x ∷ xs) ys) whole-is
      (at_parts (take k w) (drop k w) short
      (ap (λ (u : List ℕ). front (b ∷ u)) whole-is ∙ f ∙ ap (λ (m : ℕ). (x.token, suc m)) (sym long))
      (ends ∙ ap (λ (m : ℕ). at + suc m) (sym long))
      (ap (λ (u : List ℕ). lexemes true 0 at (b ∷ u)) whole-is ∙ e))

  at_front : (w : List ℕ) (m : ℕ) → length w ≤ n → front (b ∷ w) ≡ (x.token, m) → x.end ≡ at + m → lexemes true 0 at (b ∷ w) ≡ x ∷ (xs ++ ys) → Cut at (b ∷ w) (x ∷ xs) ys
  at_front w zero le f ends e = absurd (let one = found (length (b ∷ w)) (b ∷ w) x.token zero f good in let g : None ≡ Some x.token = one.is in cc)
  at_front w (suc k) le f ends e =
      let one = found (length (b ∷ w)) (b ∷ w) x.token (suc k) f good in
      let fits : suc k ≤ length (b ∷ w) = one.within in
      at_length w k le (omega arith) f ends e

-- a byte with what follows
cut_some : (n at b : ℕ) (w : List ℕ) → length w ≤ n → (xs ys : List Lexeme) → lexemes true 0 at (b ∷ w) ≡ xs ++ ys → list_all is_plain (kinds xs) ≡ true
    → place (suc at) xs ys ≡ place at xs ys → (xs ++ ys ≡ [] → ⊥) → Rests n → Cut at (b ∷ w) xs ys
cut_some n at b w le xs ys e plain same some ih = go (is_space b) refl (b == 35) refl
  where
    token_here : (xs ys : List Lexeme) → is_space b ≡ false → (b == 35) ≡ false → lexemes true 0 at (b ∷ w) ≡ xs ++ ys → list_all is_plain (kinds xs) ≡ true → (xs ++ ys ≡ [] → ⊥) → Cut at (b ∷ w) xs ys
    token_here [] [] s c e plain some = absurd (some refl)
    token_here [] (y ∷ ys) s c e plain some = cut_here at (b ∷ w) (y ∷ ys) (ap (λ (z : Lexeme). z.begin) (head_of _ y _ ys (sym (first_is at b w s c) ∙ e)))
    token_here (x ∷ xs) ys s c e plain some =
        let q = and_parts (is_plain x.token) (list_all is_plain (kinds xs)) plain in
        let h = head_of _ x _ (xs ++ ys) (sym (first_is at b w s c) ∙ e) in
        let t : (front (b ∷ w)).0 ≡ x.token = ap (λ (z : Lexeme). z.token) h in
        let ends : at + (front (b ∷ w)).1 ≡ x.end = ap (λ (z : Lexeme). z.end) h in
        at_front n at b s c x xs ys (not_bad x.token q.0) q.1 ih w (front (b ∷ w)).1 le (ap (λ (u : Token). (u, (front (b ∷ w)).1)) t) (sym ends) e

    go : (p : Bool) → is_space b ≡ p → (q : Bool) → (b == 35) ≡ q → Cut at (b ∷ w) xs ys
    go true s q c = cut_space at b w xs ys s same (ih (suc at) w le xs ys (sym (over_space true at b w s) ∙ e) plain)
    go false s true c = absurd (some (sym e ∙ at_comment true at b w s c))
    go false s false c = token_here xs ys s c e plain some

cut_within : (n : ℕ) → Rests n
unfolding lexemes
cut_within n at bytes le [] [] e plain = cut_here at bytes [] refl
cut_within n at [] le [] (y ∷ ys) e plain = absurd cc
cut_within n at [] le (x ∷ xs) ys e plain = absurd cc
cut_within zero at (b ∷ w) le [] (y ∷ ys) e plain = absurd (omega arith)
cut_within zero at (b ∷ w) le (x ∷ xs) ys e plain = absurd (omega arith)
cut_within (suc n) at (b ∷ w) le [] (y ∷ ys) e plain = cut_some n at b w (omega arith) [] (y ∷ ys) e plain refl (λ f. cc) (cut_within n)
cut_within (suc n) at (b ∷ w) le (x ∷ xs) ys e plain = cut_some n at b w (omega arith) (x ∷ xs) ys e plain refl (λ f. cc) (cut_within n)

-- a line, cut after any of its tokens
pub cut_line : (bytes : List ℕ) (xs ys : List Lexeme) → lexemes true 0 0 bytes ≡ xs ++ ys → list_all is_plain (kinds xs) ≡ true → Cut 0 bytes xs ys
cut_line bytes xs ys e plain = cut_within (length bytes) 0 bytes (omega arith) xs ys e plain
