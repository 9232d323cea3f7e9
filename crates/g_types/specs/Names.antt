-- Names: of VIs, of panel objects, of wires and of the controls that settings name.
use Rattle.std.specs.Prelude.{ℕ, Bool, true, false, ◌&&◌, ◌||◌, ◌==◌, ◌≡◌, nat_le, List, [], ◌∷◌, length, codes, replicate, refl}
use Rattle.std.specs.List.{list_all}

abbrev pub between : ℕ → ℕ → ℕ → Bool
between low high b = nat_le low b && nat_le b high

-- a to z, A to Z
abbrev pub is_letter : ℕ → Bool
is_letter b = between 97 122 b || between 65 90 b

-- 0 to 9
abbrev pub is_digit : ℕ → Bool
is_digit b = between 48 57 b

-- a letter, a digit or an underline
abbrev pub is_word_byte : ℕ → Bool
is_word_byte b = is_letter b || (is_digit b || (b == 95))

abbrev pub begins_word : List ℕ → Bool
begins_word [] = false
begins_word (b ∷ bs) = is_letter b

-- how many bytes a name has at most
abbrev pub longest_word : ℕ
longest_word = 64

-- a letter, and then letters, digits and underlines; at most 64 bytes
abbrev pub is_word : List ℕ → Bool
is_word bytes = begins_word bytes && (nat_le (length bytes) longest_word && list_all is_word_byte bytes)

-- examples
one_letter : is_word (codes "a") ≡ true
one_letter = refl

mixed : is_word (codes "Main_2b") ≡ true
mixed = refl

nothing : is_word [] ≡ false
nothing = refl

digit_first : is_word (codes "2a") ≡ false
digit_first = refl

underline_first : is_word (codes "_a") ≡ false
underline_first = refl

other_mark : is_word (codes "a-b") ≡ false
other_mark = refl

beyond_ascii : is_word (97 ∷ 195 ∷ 164 ∷ []) ≡ false
beyond_ascii = refl

longest : is_word (replicate 64 122) ≡ true
longest = refl

too_long : is_word (replicate 65 122) ≡ false
too_long = refl
