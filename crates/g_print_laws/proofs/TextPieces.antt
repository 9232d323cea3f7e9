-- Texts in front of bytes.
use Rattle.std.proofs.Common.{◌≡◌, ℕ, zero, suc, ◌+◌, ◌*◌, ◌/◌, ◌%◌, ◌<◌, Bool, true, false, ◌&&◌, ◌||◌, List, [], ◌∷◌, ◌++◌, length, Some, refl, sym, ap, ◌∙◌, arith, subst, append_assoc}
use Rattle.std.specs.Prelude.{nat_le, nat_lt, ◌==◌}
use Rattle.std.specs.List.{list_all}
use Rattle.std.proofs.lemmas.Bool.Decides.{nat_tests}
use Rattle.std.proofs.lemmas.Bool.{and_parts}
use Rattle.std.proofs.lemmas.List.Folds.{list_all-append}
use Rattle.std.proofs.lemmas.List.{length-append}
use Rattle.g_tokens.specs.declared.token.Token.{Token}
use Rattle.g_tokens.specs.declared.token.Token.TheVariants as token
use Rattle.g_tokens.specs.declared.texts.Escape.TheVariants as escape
use Rattle.g_tokens.specs.Tokens.{hex, IsFront}
use Rattle.g_tokens.specs.Scan.{End, text_end}
use Rattle.g_tokens.proofs.TextEnds.{quoted_front}
use Rattle.g_values.specs.Text.{hex_digit, byte_text, bytes_text}
use Rattle.g_diagram.specs.Text.{quoted}
use Rattle.g_print_laws.specs.Bytes.{IsBytes}
use Rattle.g_print_laws.proofs.Lexing.{Inside, is_inner, both, piece}

abbrev pub is_byte : ℕ → Bool
is_byte b = nat_lt b 256

record IsHex (d : ℕ) : Type 0 where
  value : hex (hex_digit d) ≡ Some d
  inner : is_inner (hex_digit d) ≡ true

is_hex : (d : ℕ) → d < 16 → IsHex d
is_hex zero h = record { value = refl; inner = refl }
is_hex (suc zero) h = record { value = refl; inner = refl }
is_hex (suc (suc zero)) h = record { value = refl; inner = refl }
is_hex (suc (suc (suc zero))) h = record { value = refl; inner = refl }
is_hex (suc (suc (suc (suc zero)))) h = record { value = refl; inner = refl }
is_hex (suc (suc (suc (suc (suc zero))))) h = record { value = refl; inner = refl }
is_hex (suc (suc (suc (suc (suc (suc zero)))))) h = record { value = refl; inner = refl }
is_hex (suc (suc (suc (suc (suc (suc (suc zero))))))) h = record { value = refl; inner = refl }
is_hex (suc (suc (suc (suc (suc (suc (suc (suc zero)))))))) h = record { value = refl; inner = refl }
is_hex (suc (suc (suc (suc (suc (suc (suc (suc (suc zero))))))))) h = record { value = refl; inner = refl }
is_hex (suc (suc (suc (suc (suc (suc (suc (suc (suc (suc zero)))))))))) h = record { value = refl; inner = refl }
is_hex (suc (suc (suc (suc (suc (suc (suc (suc (suc (suc (suc zero))))))))))) h = record { value = refl; inner = refl }
is_hex (suc (suc (suc (suc (suc (suc (suc (suc (suc (suc (suc (suc zero)))))))))))) h = record { value = refl; inner = refl }
is_hex (suc (suc (suc (suc (suc (suc (suc (suc (suc (suc (suc (suc (suc zero))))))))))))) h = record { value = refl; inner = refl }
is_hex (suc (suc (suc (suc (suc (suc (suc (suc (suc (suc (suc (suc (suc (suc zero)))))))))))))) h = record { value = refl; inner = refl }
is_hex (suc (suc (suc (suc (suc (suc (suc (suc (suc (suc (suc (suc (suc (suc (suc zero))))))))))))))) h = record { value = refl; inner = refl }
is_hex (suc (suc (suc (suc (suc (suc (suc (suc (suc (suc (suc (suc (suc (suc (suc (suc d)))))))))))))))) h = absurd (omega arith)

-- a byte's characters before others
record Written (b : ℕ) (front : List ℕ) : Type 0 where
  inner : list_all is_inner front ≡ true
  ends : (w v : List ℕ) (n : ℕ) → text_end escape.Plain w ≡ Some (v, n) → text_end escape.Plain (front ++ w) ≡ Some (b ∷ v, length front + n)

sums : (b : ℕ) (v : List ℕ) (n k m : ℕ) → m ≡ k + n → ◌≡◌ {A = End} (Some (b ∷ v, m)) (Some (b ∷ v, k + n))
sums b v n k m e = ap (λ (j : ℕ). Some (b ∷ v, j)) e

marked : (b : ℕ) → ((b == 34) || (b == 92)) ≡ true → Written b (92 ∷ b ∷ [])
unfolding text_end
marked b h = record { inner = rw (inner_of b h) refl; ends = λ w v n e. rw (h, e) (sums b v n 2 (suc (suc n)) (omega arith)) }
  where
    inner_of : (b : ℕ) → ((b == 34) || (b == 92)) ≡ true → is_inner b ≡ true
    inner_of b h = grind (arith, nat_tests)

plain : (b : ℕ) → ((b == 34) || (b == 92)) ≡ false → (nat_lt 31 b && nat_lt b 127) ≡ true → Written b (b ∷ [])
unfolding text_end
plain b h k =
    let one : (b == 34) ≡ false = grind (arith, nat_tests) in
    let two : (b == 92) ≡ false = grind (arith, nat_tests) in
    let three : nat_le 32 b ≡ true = grind (arith, nat_tests) in
    let four : is_inner b ≡ true = grind (arith, nat_tests) in
    record { inner = rw four refl; ends = λ w v n e. rw (one, two, three, e) (sums b v n 1 (suc n) (omega arith)) }

escaped : (b : ℕ) → b < 256 → Written b (92 ∷ 120 ∷ hex_digit (b / 16) ∷ hex_digit (b % 16) ∷ [])
unfolding text_end
escaped b h =
    let high = is_hex (b / 16) (omega arith) in
    let low = is_hex (b % 16) (omega arith) in
    let back : 16 * (b / 16) + b % 16 ≡ b = omega arith in
    record { inner = rw (high.inner, low.inner) refl; ends = λ w v n e. rw (high.value, high.value, low.value, e, back) (sums b v n 4 (suc (suc (suc (suc n)))) (omega arith)) }

written : (b : ℕ) → is_byte b ≡ true → Written b (byte_text b)
written b h = go ((b == 34) || (b == 92)) refl (nat_lt 31 b && nat_lt b 127) refl
  where
    lt : (b : ℕ) → is_byte b ≡ true → b < 256
    lt b h = grind (arith, nat_tests)

    go : (p : Bool) → ((b == 34) || (b == 92)) ≡ p → (q : Bool) → (nat_lt 31 b && nat_lt b 127) ≡ q → Written b (byte_text b)
    go true e q f = rw e (marked b e)
    go false e true f = rw (e, f) (plain b e f)
    go false e false f = rw (e, f) (escaped b (lt b h))

inner_of : (v : List ℕ) → IsBytes v → list_all is_inner (bytes_text v) ≡ true
inner_of [] h = refl
inner_of (b ∷ v) h =
    let q = and_parts (is_byte b) (list_all is_byte v) h in
    list_all-append is_inner (byte_text b) (bytes_text v) ∙ both (list_all is_inner (byte_text b)) (list_all is_inner (bytes_text v)) (written b q.0).inner (inner_of v q.1)

ends : (v rest : List ℕ) → IsBytes v → text_end escape.Plain (bytes_text v ++ 34 ∷ rest) ≡ Some (v, length (bytes_text v) + 1)
unfolding text_end
ends [] rest h = refl
ends (b ∷ v) rest h =
    let q = and_parts (is_byte b) (list_all is_byte v) h in
    let n : length (byte_text b) + (length (bytes_text v) + 1) ≡ length (byte_text b ++ bytes_text v) + 1 = omega (arith, length-append (byte_text b) (bytes_text v)) in
    ap (text_end escape.Plain) (append_assoc (byte_text b) (bytes_text v) (34 ∷ rest))
    ∙ (written b q.0).ends (bytes_text v ++ 34 ∷ rest) v (length (bytes_text v) + 1) (ends v rest q.1)
    ∙ ap (λ (k : ℕ). Some (b ∷ v, k)) n

pub text_piece : (v : List ℕ) {bytes : List ℕ} {ts : List Token} → IsBytes v → Inside bytes ts → Inside (quoted v bytes) (token.Text v ∷ ts)
text_piece v {bytes} {ts} h i =
    let w : List ℕ = bytes_text v ++ 34 ∷ [] in
    let long : length (34 ∷ w) ≡ (length (bytes_text v) + 1) + 1 = omega (arith, length-append (bytes_text v) (34 ∷ [])) in
    let f : IsFront (34 ∷ (bytes_text v ++ 34 ∷ i.line)) (token.Text v) ((length (bytes_text v) + 1) + 1) = quoted_front (bytes_text v ++ 34 ∷ i.line) v (length (bytes_text v) + 1) (sym (ends v i.line h)) in
    let g : IsFront ((34 ∷ w) ++ i.line) (token.Text v) ((length (bytes_text v) + 1) + 1) = subst (λ l. IsFront (34 ∷ l) (token.Text v) ((length (bytes_text v) + 1) + 1)) (sym (append_assoc (bytes_text v) (34 ∷ []) i.line)) f in
    let inner : list_all is_inner (34 ∷ w) ≡ true = list_all-append is_inner (bytes_text v) (34 ∷ []) ∙ both (list_all is_inner (bytes_text v)) true (inner_of v h) refl in
    piece 34 w (token.Text v) (record { space = refl; comment = refl; inner = inner }) i (subst (λ n. IsFront ((34 ∷ w) ++ i.line) (token.Text v) n) (sym long) g)
