-- Bytes cut into tokens, put together from the right: what a piece in front of bytes adds to their tokens.
use Rattle.std.proofs.Common.{◌≡◌, ℕ, zero, suc, ◌+◌, ◌-◌, ◌≤◌, Bool, true, false, ◌&&◌, not, List, [], ◌∷◌, ◌++◌, length, take, map, refl, sym, ap, ◌∙◌, arith, append_assoc}
use Rattle.std.specs.Prelude.{◌==◌, slice_index, Some}
use Rattle.std.specs.List.{prefix_len, list_all}
use Rattle.std.proofs.Math.Seq.{drop-append_seam}
use Rattle.std.proofs.lemmas.Bool.{and_parts, eqb-true}
use Rattle.std.proofs.lemmas.List.{append-nil, map-append}
use Rattle.std.proofs.lemmas.List.Folds.{list_all-append}
use Rattle.g_tokens.specs.declared.token.Token.{Token}
use Rattle.g_tokens.specs.declared.token.Token.TheVariants as token
use Rattle.g_tokens.specs.declared.token.Mark.{Mark}
use Rattle.g_tokens.specs.declared.token.Mark.TheVariants as mark
use Rattle.g_tokens.specs.declared.token.Lexeme.{Lexeme}
use Rattle.g_tokens.specs.Tokens.{is_letter, is_word_byte, is_space, begins, lexemes, lines, lines_tokens, line_tokens, line_rest, content, tokens_of, IsFront}
use Rattle.g_tokens.specs.Scan.{mark_alone}
use Rattle.g_tokens.proofs.Fronts.{front_is, alone_front, dots_is, feeds_is, arrow_is}
use Rattle.g_tokens.proofs.Gaps.{over_space, at_token, next_line, line_grows}
use Rattle.g_tokens.proofs.WordRuns.{word_longest}

-- the next byte goes on with no word and no number
abbrev pub Bound : List ℕ → Type 0
Bound bytes = begins is_word_byte bytes ≡ false

-- neither a line feed nor a carriage return
abbrev pub is_inner : ℕ → Bool
is_inner b = not (b == 10) && not (b == 13)

abbrev pub kinds : List Lexeme → List Token
kinds = map (λ x. x.token)

-- bytes from the start of a line on have these tokens
pub record Full (bytes : List ℕ) (ts : List Token) : Type 0 where
  pub lines : (n : ℕ) → tokens_of (lines_tokens n (lines [] bytes)) ≡ ts

-- bytes from inside a line on have these tokens: what is left of the line, its end, and the lines below
pub record Inside (bytes : List ℕ) (ts : List Token) : Type 0 where
  pub line : List ℕ
  pub below : List ℕ
  pub own : List Token
  pub next : List Token
  pub parts : bytes ≡ line ++ 10 ∷ below
  pub inner : list_all is_inner line ≡ true
  pub cuts : (at : ℕ) → kinds (lexemes true 0 at line) ≡ own
  pub all : ts ≡ own ++ token.Eol ∷ next
  pub full : Full below next

pub finish : Full [] (token.End ∷ [])
unfolding lines lexemes
finish = record { lines = λ n. refl }

pub feed : {below : List ℕ} {next : List Token} → Full below next → Inside (10 ∷ below) (token.Eol ∷ next)
unfolding lexemes
feed {below} {next} f = record { line = []; below = below; own = []; next = next; parts = refl; inner = refl; cuts = λ at. refl; all = refl; full = f }

pub space : {bytes : List ℕ} {ts : List Token} → Inside bytes ts → Inside (32 ∷ bytes) ts
space i = record {
  line = 32 ∷ i.line;
  below = i.below;
  own = i.own;
  next = i.next;
  parts = ap (λ l. 32 ∷ l) i.parts;
  inner = i.inner;
  cuts = λ at. ap kinds (over_space true at 32 i.line refl) ∙ i.cuts (suc at);
  all = i.all;
  full = i.full;
}

pub record IsPiece (b : ℕ) (w : List ℕ) : Type 0 where
  pub space : is_space b ≡ false
  pub comment : (b == 35) ≡ false
  pub inner : list_all is_inner (b ∷ w) ≡ true

pub both : (a b : Bool) → a ≡ true → b ≡ true → (a && b) ≡ true
both a b e f = rw (e, f) refl

pub piece : (b : ℕ) (w : List ℕ) (t : Token) {bytes : List ℕ} {ts : List Token} → IsPiece b w → (i : Inside bytes ts) → IsFront ((b ∷ w) ++ i.line) t (length (b ∷ w)) → Inside ((b ∷ w) ++ bytes) (t ∷ ts)
piece b w t p i f = record {
  line = (b ∷ w) ++ i.line;
  below = i.below;
  own = t ∷ i.own;
  next = i.next;
  parts = ap (λ l. (b ∷ w) ++ l) i.parts ∙ sym (append_assoc (b ∷ w) i.line (10 ∷ i.below));
  inner = list_all-append is_inner (b ∷ w) i.line ∙ both (list_all is_inner (b ∷ w)) (list_all is_inner i.line) p.inner i.inner;
  cuts = λ at.
      ap kinds (at_token true at b (w ++ i.line) t (length (b ∷ w)) p.space p.comment f)
      ∙ ap (λ l. t ∷ kinds (lexemes true 0 (at + length (b ∷ w)) l)) (drop-append_seam (b ∷ w) i.line)
      ∙ ap (λ l. t ∷ l) (i.cuts (at + length (b ∷ w)));
  all = ap (λ l. t ∷ l) i.all;
  full = i.full;
}

-- the rest of a line begins as the bytes do, or is empty
pub bound_line : (p : ℕ → Bool) (line bytes below : List ℕ) → bytes ≡ line ++ 10 ∷ below → begins p bytes ≡ false → begins p line ≡ false
bound_line p [] bytes below e h = refl
bound_line p (b ∷ line) bytes below e h = sym (ap (begins p) e) ∙ h

-- ---- words

pub record IsWord (w : List ℕ) : Type 0 where
  pub letter : begins is_letter w ≡ true
  pub all : list_all is_word_byte w ≡ true
  pub short : length w ≤ 64

pub prefix_is : (p : ℕ → Bool) (w line : List ℕ) → list_all p w ≡ true → begins p line ≡ false → prefix_len p (w ++ line) ≡ length w
prefix_is p [] [] h e = refl
prefix_is p [] (b ∷ line) h e = rw e refl
prefix_is p (b ∷ w) line h e =
    let q = and_parts (p b) (list_all p w) h in
    rw (q.0, prefix_is p w line q.1 e) (omega arith)

pub take_front : (w line : List ℕ) → w ≡ take (length w) (w ++ line)
take_front [] line = refl
take_front (b ∷ w) line = ap (λ l. b ∷ l) (take_front w line)

-- a byte of a kind is not a byte of none
pub not_at : (p : ℕ → Bool) (b k : ℕ) → p b ≡ true → p k ≡ false → (b == k) ≡ false
not_at p b k h e = go (b == k) refl
  where
    go : (v : Bool) → (b == k) ≡ v → v ≡ false
    go false same = refl
    go true same = let f : b ≡ k = eqb-true b k same in let g : true ≡ false = sym h ∙ ap p f ∙ e in absurd cc

inner_byte : (b : ℕ) → is_word_byte b ≡ true → is_inner b ≡ true
inner_byte b h = rw (not_at is_word_byte b 10 h refl, not_at is_word_byte b 13 h refl) refl

inner_word : (w : List ℕ) → list_all is_word_byte w ≡ true → list_all is_inner w ≡ true
inner_word [] h = refl
inner_word (b ∷ w) h =
    let q = and_parts (is_word_byte b) (list_all is_word_byte w) h in
    both (is_inner b) (list_all is_inner w) (inner_byte b q.0) (inner_word w q.1)

letter_no_space : (b : ℕ) → is_letter b ≡ true → is_space b ≡ false
letter_no_space b h = rw (not_at is_letter b 32 h refl, not_at is_letter b 9 h refl) refl

letter_no_comment : (b : ℕ) → is_letter b ≡ true → (b == 35) ≡ false
letter_no_comment b h = not_at is_letter b 35 h refl

pub word_piece : (w : List ℕ) {bytes : List ℕ} {ts : List Token} → IsWord w → Bound bytes → Inside bytes ts → Inside (w ++ bytes) (token.Word w ∷ ts)
word_piece [] h e i = absurd (let l = h.letter in cc)
word_piece (b ∷ w) h e i =
    let line : begins is_word_byte i.line ≡ false = bound_line is_word_byte i.line _ i.below i.parts e in
    piece b w (token.Word (b ∷ w))
    (record { space = letter_no_space b h.letter; comment = letter_no_comment b h.letter; inner = inner_word (b ∷ w) h.all })
    i
    (front_is ((b ∷ w) ++ i.line) (token.Word (b ∷ w)) (length (b ∷ w))
    (word_longest ((b ∷ w) ++ i.line) (b ∷ w) (length (b ∷ w)) h.letter (sym (prefix_is is_word_byte (b ∷ w) i.line h.all line)) h.short (take_front (b ∷ w) i.line)))

-- ---- marks

pub mark_piece : (b : ℕ) (m : Mark) {bytes : List ℕ} {ts : List Token} → IsPiece b [] → Some m ≡ mark_alone b → Inside bytes ts → Inside (b ∷ bytes) (token.Mark m ∷ ts)
mark_piece b m p h i = piece b [] (token.Mark m) p i (alone_front b i.line m h)

pub arrow_piece : {bytes : List ℕ} {ts : List Token} → Inside bytes ts → Inside (45 ∷ 62 ∷ bytes) (token.Mark mark.Arrow ∷ ts)
arrow_piece i = piece 45 (62 ∷ []) (token.Mark mark.Arrow) (record { space = refl; comment = refl; inner = refl }) i (arrow_is (62 ∷ i.line) 62 i.line refl refl)

pub feeds_piece : {bytes : List ℕ} {ts : List Token} → Inside bytes ts → Inside (60 ∷ 45 ∷ bytes) (token.Mark mark.Feeds ∷ ts)
feeds_piece i = piece 60 (45 ∷ []) (token.Mark mark.Feeds) (record { space = refl; comment = refl; inner = refl }) i (feeds_is (45 ∷ i.line) 45 i.line refl refl)

pub dots_piece : {bytes : List ℕ} {ts : List Token} → Inside bytes ts → Inside (46 ∷ 46 ∷ bytes) (token.Mark mark.Dots ∷ ts)
dots_piece i = piece 46 (46 ∷ []) (token.Mark mark.Dots) (record { space = refl; comment = refl; inner = refl }) i (dots_is (46 ∷ i.line) 46 i.line refl refl)

-- ---- lines

no_return : (line : List ℕ) (k : ℕ) → list_all is_inner line ≡ true → (slice_index line k == 13) ≡ false
no_return [] k h = refl
no_return (b ∷ line) zero h = not_at is_inner b 13 (and_parts (is_inner b) (list_all is_inner line) h).0 refl
no_return (b ∷ line) (suc k) h = no_return line k (and_parts (is_inner b) (list_all is_inner line) h).1

content_is : (line : List ℕ) → list_all is_inner line ≡ true → content line ≡ line
content_is line h = rw (no_return line (length line - 1) h) refl

through : (begun line below : List ℕ) → list_all is_inner line ≡ true → lines begun (line ++ 10 ∷ below) ≡ (begun ++ line) ∷ lines [] below
unfolding lines
through begun [] below h = ap (λ l. l ∷ lines [] below) (sym (append-nil begun))
through begun (b ∷ line) below h =
    let q = and_parts (is_inner b) (list_all is_inner line) h in
    line_grows begun (line ++ 10 ∷ below) b (no_feed b q.0) ∙ through (begun ++ b ∷ []) line below q.1 ∙ ap (λ l. l ∷ lines [] below) (append_assoc begun (b ∷ []) line)
  where
    no_feed : (b : ℕ) → is_inner b ≡ true → (b == 10) ≡ false
    no_feed b h = not_at is_inner b 10 h refl

rest_tokens : (n end : ℕ) (xs : List Lexeme) → tokens_of (line_rest n end xs) ≡ kinds xs ++ token.Eol ∷ []
rest_tokens n end [] = refl
rest_tokens n end (x ∷ xs) = ap (λ l. x.token ∷ l) (rest_tokens n x.end xs)

-- a line that begins with a token
pub starts : {bytes : List ℕ} {ts : List Token} (t : Token) → (t ≡ token.Eol → ⊥) → Inside bytes (t ∷ ts) → Full bytes (t ∷ ts)
starts {bytes} {ts} t ne i = record { lines = λ n. here n (lexemes true 0 0 i.line) refl }
  where
    own_is : (own next : List Token) (u : Token) (us : List Token) → u ∷ us ≡ own ++ token.Eol ∷ next → own ≡ [] → u ≡ token.Eol
    own_is own next u us e f = cc

    here : (n : ℕ) (xs : List Lexeme) → lexemes true 0 0 i.line ≡ xs → tokens_of (lines_tokens n (lines [] bytes)) ≡ t ∷ ts
    here n [] e = absurd (ne (own_is i.own i.next t ts i.all (sym (ap kinds (sym e) ∙ i.cuts 0))))
    here n (x ∷ xs) e =
        let own : x.token ∷ kinds xs ≡ i.own = ap kinds (sym e) ∙ i.cuts 0 in
        let cut : lines [] bytes ≡ i.line ∷ lines [] i.below = ap (lines []) i.parts ∙ through [] i.line i.below i.inner in
        let below : List Token = tokens_of (lines_tokens (suc n) (lines [] i.below)) in
        ap (λ l. tokens_of (lines_tokens n l)) cut
        ∙ ap tokens_of (next_line n i.line [] i.below)
        ∙ map-append (λ x. x.0) (line_tokens n (lexemes true 0 0 (content i.line))) (lines_tokens (suc n) (lines [] i.below))
        ∙ ap (λ l. tokens_of (line_tokens n (lexemes true 0 0 l)) ++ below) (content_is i.line i.inner)
        ∙ ap (λ l. tokens_of (line_tokens n l) ++ below) e
        ∙ ap (λ l. (x.token ∷ l) ++ below) (rest_tokens n x.end xs)
        ∙ append_assoc (x.token ∷ kinds xs) (token.Eol ∷ []) below
        ∙ ap (λ l. l ++ token.Eol ∷ below) own
        ∙ ap (λ l. i.own ++ token.Eol ∷ l) (i.full.lines (suc n))
        ∙ sym i.all
