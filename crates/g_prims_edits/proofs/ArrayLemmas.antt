-- Edits of arrays of numbers, by their words.
use Rattle.std.proofs.Common.{◌≡◌, ℕ, ℤ, pos, List, [], ◌∷◌, ◌++◌, Option, None, Some, map, refl, ap, ◌∙◌, sym, take, drop, reverse}
use Rattle.std.specs.List.{take-map, drop-map}
use Rattle.std.proofs.lemmas.List.{map-append, map-set, reverse-append}
use Rattle.std.proofs.lemmas.List.Elements.{All-nil, All-cons, All-take, All-drop, All-append, All-set, All-same}
use Rattle.g_types.specs.declared.rep.Rep.{Rep}
use Rattle.g_types.specs.Rep.{wrap}
use Rattle.g_values.specs.Canonical.{canonical}
use Rattle.g_values.specs.Numbers.{Numbers, AreWords, number, word}
use Rattle.g_values.proofs.Words.{wrap-word, word-pos, word-below, canonical-canonical}
use Rattle.g_prims_definitions.specs.Arithmetic.{numbers_of}
use Rattle.g_prims_definitions.specs.Arrays.{replaced_at, within}
use Rattle.g_values.specs.Proper.{most}
use Rattle.g_prims_edits.proofs.WordLemmas.{IsWord, number-canonical}

abbrev pub of_words : Rep → List ℕ → Numbers
of_words r ws = numbers_of r (map (number r) ws)

-- an edit of the words that is an edit of their numbers
pub edited : (xs : Numbers) (r : Rep) (ws vs : List ℕ) (edit : Rep → List ℤ → List ℤ) → of_words r ws ≡ xs → map (number r) vs ≡ edit r (map (number r) ws) → of_words r vs ≡ numbers_of xs.rep (edit xs.rep xs.all)
edited xs r ws vs edit is e = ap (numbers_of r) e ∙ ap (λ (k : Numbers). numbers_of k.rep (edit k.rep k.all)) is

-- the number of the word that is put in for a number
pub number-of_word : (r : Rep) (n : ℤ) → number r (canonical r (word n)) ≡ wrap r n
number-of_word r n = number-canonical r (word n) ∙ wrap-word r (pos (word n)) n (word-pos (word n) (word-below n))

pub map-reverse : (f : ℕ → ℤ) (ws : List ℕ) → map f (reverse ws) ≡ reverse (map f ws)
map-reverse f [] = refl
map-reverse f (w ∷ ws) =
    ap (map f) (reverse-append (w ∷ []) ws)
    ∙ map-append f (reverse ws) (w ∷ [])
    ∙ ap (λ l. l ++ f w ∷ []) (map-reverse f ws)
    ∙ sym (reverse-append (f w ∷ []) (map f ws))

pub map-subset : (f : ℕ → ℤ) (i n : ℕ) (ws : List ℕ) → map f (take n (drop i ws)) ≡ take n (drop i (map f ws))
map-subset f i n ws = sym (take-map f n (drop i ws)) ∙ ap (take n) (sym (drop-map f i ws))

pub map-without : (f : ℕ → ℤ) (i j : ℕ) (ws : List ℕ) → map f (take i ws ++ drop j ws) ≡ take i (map f ws) ++ drop j (map f ws)
map-without f i j ws = map-append f (take i ws) (drop j ws) ∙ ap (λ l. l ++ map f (drop j ws)) (sym (take-map f i ws)) ∙ ap (λ l. take i (map f ws) ++ l) (sym (drop-map f j ws))

pub map-replaced : (f : ℕ → ℤ) (at : Option ℕ) (ws : List ℕ) (w : ℕ) → map f (replaced_at ws at w) ≡ replaced_at (map f ws) at (f w)
map-replaced f None ws w = refl
map-replaced f (Some n) ws w = map-set f ws n w

pub map-within : (f : ℕ → ℤ) (ws vs : List ℕ) → map f (within (ws ++ vs)) ≡ within (map f ws ++ map f vs)
map-within f ws vs = sym (take-map f most (ws ++ vs)) ∙ ap (take most) (map-append f ws vs)

pub are_words-subset : (r : Rep) (i n : ℕ) (ws : List ℕ) → AreWords r ws → AreWords r (take n (drop i ws))
are_words-subset r i n ws p = All-take (IsWord r) n (drop i ws) (All-drop (IsWord r) i ws p)

pub are_words-without : (r : Rep) (i j : ℕ) (ws : List ℕ) → AreWords r ws → AreWords r (take i ws ++ drop j ws)
are_words-without r i j ws p = All-append (IsWord r) (take i ws) (drop j ws) (All-take (IsWord r) i ws p) (All-drop (IsWord r) j ws p)

pub are_words-replaced : (r : Rep) (at : Option ℕ) (ws : List ℕ) (n : ℤ) → AreWords r ws → AreWords r (replaced_at ws at (canonical r (word n)))
are_words-replaced r None ws n p = p
are_words-replaced r (Some i) ws n p = All-set (IsWord r) ws i (canonical r (word n)) (canonical-canonical r (word n)) p

pub are_words-within : (r : Rep) (ws vs : List ℕ) → AreWords r ws → AreWords r vs → AreWords r (within (ws ++ vs))
are_words-within r ws vs p q = All-take (IsWord r) most (ws ++ vs) (All-append (IsWord r) ws vs p q)

pub are_words-one : (r : Rep) (n : ℤ) → AreWords r (canonical r (word n) ∷ [])
are_words-one r n = All-cons (IsWord r) (canonical r (word n)) [] (canonical-canonical r (word n)) (All-nil (IsWord r))

pub are_words-same : (r : Rep) (vs ws : List ℕ) → vs ≡ ws → AreWords r ws → AreWords r vs
are_words-same r vs ws e p = All-same (IsWord r) vs ws e p
