-- Bytes as numbers, and numbers as bytes.
use Rattle.std.proofs.Common.{◌≡◌, ◌<◌, ◌+◌, ◌-◌, ◌%◌, ◌^◌, ℕ, pos, ◌-ℤ◌, List, [], ◌∷◌, map, refl, ap, ◌∙◌, sym, arith, suc, get_or}
use Rattle.std.specs.Prelude.{unsigned_abs}
use Rattle.std.specs.List.{All}
use Rattle.std.specs.Int.{int_rem_euclid}
use Rattle.std.proofs.lemmas.Int.{ints, int_rem_euclid_is}
use Rattle.std.proofs.lemmas.List.Elements.{All-nil, All-cons, All-head, All-tail}
use Rattle.g_types.specs.declared.rep.Rep.{Rep}
use Rattle.g_types.specs.declared.rep.Rep.TheVariants.{I8, I16, I32, I64, U8, U16, U32, U64}
use Rattle.g_types.specs.Rep.{size, half}
use Rattle.g_values.specs.Numbers.{AreWords, number, word}
use Rattle.g_values.proofs.Words.{wrap_is, word-pos}
use Rattle.g_prims_definitions.specs.Bits.{bits}
use Rattle.g_prims_edits.proofs.WordLemmas.{IsWord}

number-byte : (b : ℕ) → b < 256 → number U8 b ≡ pos b
number-byte b h = wrap_is U8 (pos b) 0 b (record { lift = omega (arith, ints) }) ∙ omega (arith, ints)

is_word-byte : (b : ℕ) → b < 256 → word (number U8 b) ≡ b
is_word-byte b h = ap word (number-byte b h) ∙ word-pos b (omega arith)

abbrev pub AreBytes : List ℕ → Type 0
AreBytes = All (λ b. b < 256)

pub are_bytes : (bs : List ℕ) → ((i : ℕ) → get_or bs i 0 < 256) → AreBytes bs
are_bytes [] f = All-nil (λ b. b < 256)
are_bytes (b ∷ bs) f = All-cons (λ b. b < 256) b bs (f 0) (are_bytes bs (λ i. f (suc i)))

pub are_words-bytes : (bs : List ℕ) → AreBytes bs → AreWords U8 bs
are_words-bytes [] p = All-nil (IsWord U8)
are_words-bytes (b ∷ bs) p = All-cons (IsWord U8) b bs (is_word-byte b (All-head (λ b. b < 256) b bs p)) (are_words-bytes bs (All-tail (λ b. b < 256) b bs p))

pub numbers-bytes : (bs : List ℕ) → AreBytes bs → map (number U8) bs ≡ map pos bs
numbers-bytes [] p = refl
numbers-bytes (b ∷ bs) p = ap (λ n. n ∷ map (number U8) bs) (number-byte b (All-head (λ b. b < 256) b bs p)) ∙ ap (λ l. pos b ∷ l) (numbers-bytes bs (All-tail (λ b. b < 256) b bs p))

residue : (m h : ℕ) → h < 2 ^ 64 → unsigned_abs (int_rem_euclid (pos m -ℤ pos h) (pos 256)) ≡ (m + (2 ^ 64 - h)) % 256
residue m h lt = ap unsigned_abs (int_rem_euclid_is (pos m -ℤ pos h) (pos 256) 256 (2 ^ 56) (m + (2 ^ 64 - h)) (omega arith) refl (omega (arith, ints)))

wrapped_residue : (r : Rep) (w : ℕ) → ((w + half r) % size r + (2 ^ 64 - half r)) % 256 ≡ w % 256
wrapped_residue I8 w = omega arith
wrapped_residue I16 w = omega arith
wrapped_residue I32 w = omega arith
wrapped_residue I64 w = omega arith
wrapped_residue U8 w = omega arith
wrapped_residue U16 w = omega arith
wrapped_residue U32 w = omega arith
wrapped_residue U64 w = omega arith

small_half : (r : Rep) → half r < 2 ^ 64
small_half I8 = omega arith
small_half I16 = omega arith
small_half I32 = omega arith
small_half I64 = omega arith
small_half U8 = omega arith
small_half U16 = omega arith
small_half U32 = omega arith
small_half U64 = omega arith

bits-number : (r : Rep) (w : ℕ) → w % 256 ≡ bits U8 (number r w)
bits-number r w =
    sym (ap (λ z. unsigned_abs (int_rem_euclid z (pos 256))) (wrap_is r (pos w) 0 w (record { lift = omega (arith, ints) }))
    ∙ residue ((w + half r) % size r) (half r) (small_half r)
    ∙ wrapped_residue r w)

pub bytes-numbers : (r : Rep) (ws : List ℕ) → map (λ w. w % 256) ws ≡ map (bits U8) (map (number r) ws)
bytes-numbers r [] = refl
bytes-numbers r (w ∷ ws) = ap (λ b. b ∷ map (λ w. w % 256) ws) (bits-number r w) ∙ ap (λ l. bits U8 (number r w) ∷ l) (bytes-numbers r ws)
