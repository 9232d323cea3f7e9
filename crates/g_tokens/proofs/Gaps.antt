-- The tokens of a line, one after the other.
use Rattle.std.proofs.Common.{◌≡◌, ℕ, zero, suc, ◌+◌, ◌-◌, ◌<◌, ◌≤◌, Bool, true, false, ◌&&◌, List, [], ◌∷◌, ◌++◌, length, drop, get_or, Option, Some, None, Result, Ok, Err, IfOk, refl, sym, ap, ◌∙◌, arith, subst, add-zero, add-one, length-drop}
use Rattle.std.proofs.Math.Seq.{drop-cons}
use Rattle.std.proofs.lemmas.List.{drop_all, drop-drop}
use Rattle.std.specs.Prelude.{◌==◌}
use Rattle.g_tokens.specs.declared.token.Token.{Token}
use Rattle.g_tokens.specs.declared.token.Lexeme.{Lexeme}
use Rattle.g_tokens.specs.Tokens.{is_space, lexemes, IsFront, lines, lines_tokens, line_tokens, cut, content}
use Rattle.g_tokens.specs.Scan.{Next, IsNext}

skips : (c : Bool) (k at : ℕ) (w : List ℕ) → k ≤ length w → lexemes c k at w ≡ lexemes c 0 (at + k) (drop k w)
unfolding lexemes
skips c zero at w le = rw add-zero refl
skips c (suc k) at [] le = absurd (omega arith)
skips c (suc k) at (b ∷ w) le =
    let e : suc at + k ≡ at + suc k = omega arith in
    skips c k (suc at) w (omega arith) ∙ ap (λ (n : ℕ). lexemes c 0 n (drop k w)) e

pub over_space : (c : Bool) (at b : ℕ) (w : List ℕ) → is_space b ≡ true → lexemes c 0 at (b ∷ w) ≡ lexemes c 0 (suc at) w
unfolding lexemes
over_space c at b w h = rw h refl

pub at_comment : (c : Bool) (at b : ℕ) (w : List ℕ) → is_space b ≡ false → (c && b == 35) ≡ true → lexemes c 0 at (b ∷ w) ≡ []
unfolding lexemes
at_comment c at b w h k = rw (h, k) refl

lexeme : Token → ℕ → ℕ → Lexeme
lexeme t at n = record { token = t; begin = at; end = at + n }

pub at_token : (c : Bool) (at b : ℕ) (w : List ℕ) (t : Token) (n : ℕ) → is_space b ≡ false → (c && b == 35) ≡ false → IsFront (b ∷ w) t n
    → lexemes c 0 at (b ∷ w) ≡ record { token = t; begin = at; end = at + n } ∷ lexemes c 0 (at + n) (drop n (b ∷ w))
unfolding lexemes
at_token c at b w t zero h k f = absurd (let lt = f.some in omega arith)
at_token c at b w t (suc n) h k f =
    let fits = f.within in
    let m : suc n - 1 ≡ n = omega arith in
    let e : suc at + n ≡ at + suc n = omega arith in
    let s : lexemes c n (suc at) w ≡ lexemes c 0 (at + suc n) (drop n w) = skips c n (suc at) w (omega arith) ∙ ap (λ (k : ℕ). lexemes c 0 k (drop n w)) e in
    rw (h, k, f.is, m, s) refl

-- ---- lines

abbrev NextLine : ℕ → List ℕ → List (List ℕ) → Type 0
NextLine n line ls = lines_tokens n (line ∷ ls) ≡ line_tokens n (lexemes true 0 0 (content line)) ++ lines_tokens (suc n) ls

next_cut : (n : ℕ) (line begun : List ℕ) (b : ℕ) (go : List ℕ → List (List ℕ)) → ((begun : List ℕ) → NextLine n line (go begun)) → (v : Bool) → NextLine n line (cut v begun b go)
next_cut n line begun b go ih true = refl
next_cut n line begun b go ih false = ih (begun ++ b ∷ [])

pub next_line : (n : ℕ) (line begun rest : List ℕ) → lines_tokens n (line ∷ lines begun rest) ≡ line_tokens n (lexemes true 0 0 (content line)) ++ lines_tokens (suc n) (lines begun rest)
unfolding lines
next_line n line begun [] = refl
next_line n line begun (b ∷ rest) = next_cut n line begun b (λ l. lines l rest) (λ l. next_line n line l rest) (b == 10)

pub line_break : (n : ℕ) (begun rest : List ℕ) (b : ℕ) → b ≡ 10 → lines_tokens n (lines begun (b ∷ rest)) ≡ line_tokens n (lexemes true 0 0 (content begun)) ++ lines_tokens (suc n) (lines [] rest)
unfolding lines
line_break n begun rest b e = rw e (next_line n begun [] rest)

pub line_grows : (begun rest : List ℕ) (b : ℕ) → (b == 10) ≡ false → lines begun (b ∷ rest) ≡ lines (begun ++ b ∷ []) rest
unfolding lines
line_grows begun rest b e = rw e refl

-- ---- at a place of a line

module _ (c : Bool) (bytes : List ℕ) (at : ℕ) where
  drop_at : at < length bytes → drop at bytes ≡ get_or bytes at 0 ∷ drop (at + 1) bytes
  drop_at lt = drop-cons bytes at 0 lt ∙ ap (λ (k : ℕ). get_or bytes at 0 ∷ drop k bytes) (sym (add-one at))

  pub space_at : at < length bytes → is_space (get_or bytes at 0) ≡ true → lexemes c 0 at (drop at bytes) ≡ lexemes c 0 (at + 1) (drop (at + 1) bytes)
  space_at lt h = ap (lexemes c 0 at) (drop_at lt) ∙ over_space c at (get_or bytes at 0) (drop (at + 1) bytes) h ∙ ap (λ (k : ℕ). lexemes c 0 k (drop (at + 1) bytes)) (sym (add-one at))

  pub comment_at : at < length bytes → is_space (get_or bytes at 0) ≡ false → (c && get_or bytes at 0 == 35) ≡ true → lexemes c 0 at (drop at bytes) ≡ []
  comment_at lt h k = ap (lexemes c 0 at) (drop_at lt) ∙ at_comment c at (get_or bytes at 0) (drop (at + 1) bytes) h k

  pub token_next : at < length bytes → is_space (get_or bytes at 0) ≡ false → (c && get_or bytes at 0 == 35) ≡ false → (t : Token) (n : ℕ) → IsFront (drop at bytes) t n
      → IsNext c at bytes (record { token = t; begin = at; end = at + n })
  unfolding lexeme
  token_next lt h k t n f =
      let d = drop_at lt in
      let g : IsFront (get_or bytes at 0 ∷ drop (at + 1) bytes) t n = subst (λ (w : List ℕ). IsFront w t n) d f in
      let some = f.some in
      let fits = f.within in
      let one = at_token c at (get_or bytes at 0) (drop (at + 1) bytes) t n h k g in
      let rest : drop n (get_or bytes at 0 ∷ drop (at + 1) bytes) ≡ drop (at + n) bytes = ap (drop n) (sym d) ∙ drop-drop n at bytes in
      record {
        first = ap (lexemes c 0 at) d ∙ one ∙ ap (λ (w : List ℕ). lexeme t at n ∷ lexemes c 0 (at + n) w) rest;
        after = omega arith;
        some = omega arith;
        within = omega (arith, length-drop at bytes);
      }

  pub none_at : length bytes ≤ at → lexemes c 0 at (drop at bytes) ≡ []
  unfolding lexemes
  none_at le = rw (drop_all at bytes le) refl

-- what is next at a place is next at an earlier one, if there are only spaces between
pub next_from : (c : Bool) (bytes : List ℕ) (from at : ℕ) (o : Option Lexeme) → from ≤ at → lexemes c 0 at (drop at bytes) ≡ lexemes c 0 from (drop from bytes) → Next c at bytes o → Next c from bytes o
next_from c bytes from at None le e h = sym e ∙ h
next_from c bytes from at (Some x) le e h = let a = h.after in record { first = sym e ∙ h.first; after = omega arith; some = h.some; within = h.within }

pub ok_from : {E : Type 0} (c : Bool) (bytes : List ℕ) (from at : ℕ) (r : Result (Option Lexeme) E) → from ≤ at → lexemes c 0 at (drop at bytes) ≡ lexemes c 0 from (drop from bytes)
    → IfOk r (λ o. Next c at bytes o) → IfOk r (λ o. Next c from bytes o)
ok_from c bytes from at (Ok o) le e h = next_from c bytes from at o le e h
ok_from c bytes from at (Err e) le f h = tt
