-- Where a setting is cut.
use Rattle.std.proofs.Common.{◌≡◌, ◌≢◌, ℕ, zero, suc, ◌<◌, true, List, [], ◌∷◌, ◌++◌, length, get_or, ◌&&◌, Option, refl, sym, ap, ◌∙◌, arith}
use Rattle.std.specs.Prelude.{MatchOption, nat_le}
use Rattle.std.specs.Borrow.{Bor}
use Rattle.std.specs.List.{list_all}
use Rattle.std.proofs.lemmas.Bool.{and_parts}
use Rattle.std.proofs.lemmas.Str.Pattern.{IsSplitOnceResult, split_after}
use Rattle.g_types.specs.Names.{is_word_byte, begins_word, is_word, longest_word}
use Rattle.g_line.specs.declared.forms.Setting.{Setting}
use Rattle.g_line.specs.Forms.{setting_word}

are_word_bytes : (w : List ℕ) → is_word w ≡ true → list_all is_word_byte w ≡ true
are_word_bytes w is = (and_parts (nat_le (length w) longest_word) (list_all is_word_byte w) (and_parts (begins_word w) (nat_le (length w) longest_word && list_all is_word_byte w) is).1).1

-- no name holds an equals sign
no_equals : (w : List ℕ) → list_all is_word_byte w ≡ true → (i : ℕ) → i < length w → get_or w i 0 ≢ 61
no_equals [] all i lt e = omega arith
no_equals (c ∷ w) all zero lt e =
    let word : is_word_byte c ≡ true = (and_parts (is_word_byte c) (list_all is_word_byte w) all).0 in
    let never : is_word_byte 61 ≡ true = ap is_word_byte (sym e) ∙ word in
    absurd cc
no_equals (c ∷ w) all (suc i) lt e = no_equals w (and_parts (is_word_byte c) (list_all is_word_byte w) all).1 i (omega arith) e

pub setting_split : (word : List ℕ) (s : Setting) (r : Option (Bor (List ℕ) × Bor (List ℕ))) → IsSplitOnceResult 61 word r → is_word s.name ≡ true → word ≡ setting_word s
    → MatchOption r ⊥ (λ x. (x.0.now ≡ s.name) × (x.1.now ≡ s.text))
setting_split word s r split is spelled = split_after 61 word s.name s.text r split (omega arith) spelled (no_equals s.name (are_word_bytes s.name is))

-- two names before an equals sign are one
same_parts : (n m a b : List ℕ) → list_all is_word_byte n ≡ true → list_all is_word_byte m ≡ true → n ++ (61 ∷ a) ≡ m ++ (61 ∷ b) → (n ≡ m) × (a ≡ b)
same_parts [] [] a b p q e = (refl, cc)
same_parts [] (d ∷ m) a b p q e =
    let same : 61 ≡ d = cc in
    let word : is_word_byte d ≡ true = (and_parts (is_word_byte d) (list_all is_word_byte m) q).0 in
    let never : is_word_byte 61 ≡ true = ap is_word_byte same ∙ word in
    absurd cc
same_parts (c ∷ n) [] a b p q e =
    let same : c ≡ 61 = cc in
    let word : is_word_byte c ≡ true = (and_parts (is_word_byte c) (list_all is_word_byte n) p).0 in
    let never : is_word_byte 61 ≡ true = ap is_word_byte (sym same) ∙ word in
    absurd cc
same_parts (c ∷ n) (d ∷ m) a b p q e =
    let head : c ≡ d = cc in
    let tail : n ++ (61 ∷ a) ≡ m ++ (61 ∷ b) = cc in
    let rest = same_parts n m a b (and_parts (is_word_byte c) (list_all is_word_byte n) p).1 (and_parts (is_word_byte d) (list_all is_word_byte m) q).1 tail in
    let names = rest.0 in
    (cc, rest.1)

pub same_setting : (s t : Setting) → s.word ≡ t.word → is_word s.name ≡ true → is_word t.name ≡ true → setting_word s ≡ setting_word t → s ≡ t
same_setting s t w p q e =
    let parts = same_parts s.name t.name s.text t.text (are_word_bytes s.name p) (are_word_bytes t.name q) e in
    ap (λ n. let x : Setting = record { word = n; name = s.name; text = s.text } in x) w
    ∙ ap (λ n. let x : Setting = record { word = t.word; name = n; text = s.text } in x) parts.0
    ∙ ap (λ n. let x : Setting = record { word = t.word; name = t.name; text = n } in x) parts.1
