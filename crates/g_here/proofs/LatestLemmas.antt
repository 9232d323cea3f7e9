-- The latest of frames.
use Rattle.std.proofs.Common.{◌≡◌, ◌<◌, ◌+◌, ◌-◌, ℕ, suc, List, [], ◌∷◌, ◌++◌, length, take, get_or, refl, ap, ◌∙◌, sym, arith, zero}
use Rattle.std.specs.Prelude.{Option, Some, None, slice_get}
use Rattle.std.specs.Option.{option_or, option_map, option_to_list}
use Rattle.std.proofs.Math.Seq.{take-suc}
use Rattle.g_border.specs.Readers.{Reader}
use Rattle.g_border.specs.Lines.{latest}
use Rattle.g_frames.specs.declared.state.Frame.{Frame}
use Rattle.g_frames.specs.Effects.{Here}
use Rattle.g_frames.specs.State.{reader_in}
use Rattle.g_frames.specs.Structures.{readers_of}

abbrev reader_at : Here → ℕ → Option Reader
reader_at h k = option_map (reader_in h.vi) (slice_get h.frames k)

-- one more at the end
pub latest_one : {A : Type 0} (xs : List A) (o : Option A) → latest (xs ++ option_to_list o) ≡ option_or o (latest xs)
latest_one [] None = refl
latest_one [] (Some y) = refl
latest_one (x ∷ []) None = refl
latest_one (x ∷ []) (Some y) = refl
latest_one (x ∷ z ∷ xs) None = latest_one (z ∷ xs) None
latest_one (x ∷ z ∷ xs) (Some y) = latest_one (z ∷ xs) (Some y)

append_none : {A : Type 0} (xs : List A) → xs ++ [] ≡ xs
append_none [] = refl
append_none (x ∷ xs) = ap (λ ys. x ∷ ys) (append_none xs)

append_assoc : {A : Type 0} (xs ys zs : List A) → (xs ++ ys) ++ zs ≡ xs ++ (ys ++ zs)
append_assoc [] ys zs = refl
append_assoc (x ∷ xs) ys zs = ap (λ ws. x ∷ ws) (append_assoc xs ys zs)

readers_end : (h : Here) (ks : List ℕ) (k : ℕ) → readers_of h (ks ++ k ∷ []) ≡ readers_of h ks ++ option_to_list (reader_at h k)
readers_end h [] k = append_none (option_to_list (reader_at h k))
readers_end h (j ∷ ks) k =
    ap (λ rs. option_to_list (reader_at h j) ++ rs) (readers_end h ks k)
    ∙ sym (append_assoc (option_to_list (reader_at h j)) (readers_of h ks) (option_to_list (reader_at h k)))

pub latest_step : (h : Here) (ks : List ℕ) (m d : ℕ) → m < length ks →
    latest (readers_of h (take (suc m) ks)) ≡ option_or (reader_at h (get_or ks m d)) (latest (readers_of h (take m ks)))
latest_step h ks m d below =
    ap (λ js. latest (readers_of h js)) (take-suc ks m d below)
    ∙ (ap latest (readers_end h (take m ks) (get_or ks m d)) ∙ latest_one (readers_of h (take m ks)) (reader_at h (get_or ks m d)))

-- the last of some
latest_suc : {A : Type 0} (xs : List A) (m : ℕ) (d : A) → length xs ≡ suc m → latest xs ≡ Some (get_or xs m d)
latest_suc [] m d e = absurd (omega (arith, e))
latest_suc (x ∷ []) zero d e = refl
latest_suc (x ∷ []) (suc m) d e = absurd (omega (arith, e))
latest_suc (x ∷ y ∷ xs) zero d e = absurd (omega (arith, e))
latest_suc (x ∷ y ∷ xs) (suc m) d e = latest_suc (y ∷ xs) m d (omega (arith, e))

pub latest_last : {A : Type 0} (xs : List A) (d : A) → 0 < length xs → latest xs ≡ Some (get_or xs (length xs - 1) d)
latest_last xs d some = latest_suc xs (length xs - 1) d (omega (arith, some))

-- the latest of some frames is that of the ones before, or the one that was looked at
pub latest_before : (h : Here) (ks : List ℕ) (after d : ℕ) → after < length ks →
    latest (readers_of h (take (length ks - after) ks)) ≡ option_or (reader_at h (get_or ks (length ks - 1 - after) d)) (latest (readers_of h (take (length ks - (after + 1)) ks)))
latest_before h ks after d below =
    ap (λ m. latest (readers_of h (take m ks))) (let e : length ks - after ≡ suc (length ks - 1 - after) = omega (arith, below) in e)
    ∙ (latest_step h ks (length ks - 1 - after) d (omega (arith, below))
    ∙ ap (λ m. option_or (reader_at h (get_or ks (length ks - 1 - after) d)) (latest (readers_of h (take m ks)))) (let e : length ks - 1 - after ≡ length ks - (after + 1) = omega arith in e))

pub latest_found : (h : Here) (ks : List ℕ) (after d : ℕ) (o : Option Frame) → after < length ks → slice_get h.frames (get_or ks (length ks - 1 - after) d) ≡ o →
    latest (readers_of h (take (length ks - after) ks)) ≡ option_or (option_map (reader_in h.vi) o) (latest (readers_of h (take (length ks - (after + 1)) ks)))
latest_found h ks after d o below is =
    latest_before h ks after d below ∙ ap (λ f. option_or (option_map (reader_in h.vi) f) (latest (readers_of h (take (length ks - (after + 1)) ks)))) is
