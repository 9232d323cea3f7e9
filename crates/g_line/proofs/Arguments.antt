-- Arguments and the words that they are written by.
use Rattle.std.proofs.Common.{◌≡◌, ℕ, zero, suc, ◌+◌, true, List, [], ◌∷◌, ◌++◌, length, take, map, ◌&&◌, Some, refl, sym, ap, ◌∙◌, subst, append_assoc, arith}
use Rattle.std.specs.Prelude.{slice_get, nat_le}
use Rattle.std.specs.List.{AllByRecursion, flat_map, list_all}
use Rattle.std.proofs.lemmas.List.{append-nil, length-append, map-append}
use Rattle.std.proofs.lemmas.Option.{slice_get_within}
use Rattle.std.proofs.lemmas.List.Concat.{flat_map-append}
use Rattle.std.proofs.lemmas.Bool.{and_parts}
use Rattle.g_types.specs.Names.{is_letter, is_word_byte, longest_word, is_word}
use Rattle.g_line.specs.declared.forms.Setting.{Setting}
use Rattle.g_line.specs.Forms.{Word, setting_word, option_word, IsLimit, Argument, Sets, Limits, argument_words, IsArgument, AreNumbered, settings_of, limits_of}
use Rattle.g_line.specs.Reading.{AreSettings, AreRead}
use Rattle.g_line.proofs.Cuts.{same_setting}

pub settings_of-map : (settings : List Setting) → settings ≡ settings_of (map Sets settings)
settings_of-map [] = refl
settings_of-map (s ∷ settings) = ap (λ l. s ∷ l) (settings_of-map settings)

pub limits_of-map : (settings : List Setting) → [] ≡ limits_of (map Sets settings)
limits_of-map [] = refl
limits_of-map (s ∷ settings) = limits_of-map settings

-- no setting begins as the option does
pub no_setting : (s : Setting) → is_word s.name ≡ true → option_word ≡ setting_word s → ⊥
no_setting s is e = first s.name s.text is e
  where
    first : (name text : Word) → is_word name ≡ true → option_word ≡ name ++ (61 ∷ text) → ⊥
    first [] text is e = absurd cc
    first (c ∷ name) text is e =
        let same : 45 ≡ c = cc in
        let letter : is_letter c ≡ true = (and_parts (is_letter c) (nat_le (length (c ∷ name)) longest_word && list_all is_word_byte (c ∷ name)) is).0 in
        let never : is_letter 45 ≡ true = ap is_letter same ∙ letter in
        absurd cc

-- words are written by one list of arguments
pub same_arguments : (k : ℕ) (xs ys : List Argument) → AllByRecursion IsArgument xs → AllByRecursion IsArgument ys → AreNumbered k xs → AreNumbered k ys → flat_map argument_words xs ≡ flat_map argument_words ys → xs ≡ ys
same_arguments k [] [] p q m n e = refl
same_arguments k [] (Sets t ∷ ys) p q m n e = absurd cc
same_arguments k [] (Limits d ∷ ys) p q m n e = absurd cc
same_arguments k (Sets s ∷ xs) [] p q m n e = absurd cc
same_arguments k (Limits c ∷ xs) [] p q m n e = absurd cc
same_arguments k (Sets s ∷ xs) (Sets t ∷ ys) p q m n e =
    let head : setting_word s ≡ setting_word t = cc in
    let tail : flat_map argument_words xs ≡ flat_map argument_words ys = cc in
    let one = same_setting s t (m.0 ∙ sym n.0) p.0 q.0 head in
    let rest = same_arguments (k + 1) xs ys p.1 q.1 m.1 n.1 tail in
    cc
same_arguments k (Sets s ∷ xs) (Limits d ∷ ys) p q m n e =
    let head : option_word ≡ setting_word s = cc in absurd (no_setting s p.0 head)
same_arguments k (Limits c ∷ xs) (Sets t ∷ ys) p q m n e =
    let head : option_word ≡ setting_word t = cc in absurd (no_setting t q.0 head)
same_arguments k (Limits c ∷ xs) (Limits d ∷ ys) p q m n e =
    let head : c ≡ d = cc in
    let tail : flat_map argument_words xs ≡ flat_map argument_words ys = cc in
    let rest = same_arguments (k + 2) xs ys p.1 q.1 m n tail in
    cc

-- what stands behind settings among arguments
pub record Behind (arguments : List Argument) (rest : List Word) : Type 0 where
  pub more : List Argument
  pub right : AllByRecursion IsArgument more
  pub written : flat_map argument_words more ≡ rest
  pub limits : limits_of arguments ≡ limits_of more

pub behind : (settings : List Setting) → AllByRecursion IsArgument (map Sets settings) → (arguments : List Argument) → AllByRecursion IsArgument arguments → (rest : List Word)
    → flat_map argument_words arguments ≡ flat_map argument_words (map Sets settings) ++ rest → Behind arguments rest
behind [] all arguments right rest e = record { more = arguments; right = right; written = e; limits = refl }
behind (s ∷ settings) all [] right rest e = absurd cc
behind (s ∷ settings) all (Sets t ∷ arguments) right rest e =
    let tail : flat_map argument_words arguments ≡ flat_map argument_words (map Sets settings) ++ rest = cc in
    let b = behind settings all.1 arguments right.1 rest tail in
    record { more = b.more; right = b.right; written = b.written; limits = b.limits }
behind (s ∷ settings) all (Limits d ∷ arguments) right rest e =
    let head : option_word ≡ setting_word s = cc in absurd (no_setting s all.0 head)

all_more : (settings : List Setting) (s : Setting) → AllByRecursion IsArgument (map Sets settings) → is_word s.name ≡ true → AllByRecursion IsArgument (map Sets (settings ++ s ∷ []))
all_more [] s all is = (is, tt)
all_more (x ∷ settings) s all is = (all.0, all_more settings s all.1 is)

numbered_more : (k : ℕ) (settings : List Setting) (s : Setting) → AreNumbered k (map Sets settings) → s.word ≡ k + length settings → AreNumbered k (map Sets (settings ++ s ∷ []))
numbered_more k [] s all is = (is ∙ omega arith, tt)
numbered_more k (x ∷ settings) s all is = (all.0, numbered_more (k + 1) settings s all.1 (is ∙ omega arith))

pub take_word : (words : List Word) (at : ℕ) (w : Word) → slice_get words at ≡ Some w → take (at + 1) words ≡ take at words ++ w ∷ []
take_word [] at w e = absurd cc
take_word (x ∷ words) zero w e = let same : x ≡ w = cc in ap (λ y. y ∷ []) same
take_word (x ∷ words) (suc at) w e =
    let more : suc at + 1 ≡ suc (at + 1) = omega arith in
    ap (λ n. take n (x ∷ words)) more ∙ ap (λ l. x ∷ l) (take_word words at w e)

pub settings_none : (words : List Word) (first : ℕ) → AreSettings words first first []
settings_none words first = record { right = tt; each = omega arith; numbered = tt; written = sym (append-nil (take first words)) }

-- one setting more
pub settings_more : (words : List Word) (first at : ℕ) (settings : List Setting) (s : Setting) → AreSettings words first at settings → s.word ≡ at + 1
    → slice_get words at ≡ Some (setting_word s) → is_word s.name ≡ true → AreSettings words first (at + 1) (settings ++ s ∷ [])
settings_more words first at settings s so_far number here is = record {
  right = all_more settings s so_far.right is;
  each = omega (arith, so_far.each, length-append settings (s ∷ []));
  numbered = numbered_more (first + 1) settings s so_far.numbered (omega (arith, so_far.each, number));
  written =
      take_word words at (setting_word s) here
      ∙ ap (λ l. l ++ setting_word s ∷ []) so_far.written
      ∙ append_assoc (take first words) (flat_map argument_words (map Sets settings)) (setting_word s ∷ [])
      ∙ ap (λ l. take first words ++ l) (sym (ap (flat_map argument_words) (map-append Sets settings (s ∷ [])) ∙ flat_map-append argument_words (map Sets settings) (Sets s ∷ [])));
}

-- arguments with a limit among settings
pub among_right : (before after : List Setting) (d : Word) → AllByRecursion IsArgument (map Sets before) → IsLimit d → AllByRecursion IsArgument (map Sets after) → AllByRecursion IsArgument (map Sets before ++ Limits d ∷ map Sets after)
among_right [] after d b is a = (is, a)
among_right (s ∷ before) after d b is a = (b.0, among_right before after d b.1 is a)

pub among_numbered : (k : ℕ) (before after : List Setting) (d : Word) → AreNumbered k (map Sets before) → AreNumbered (k + length before + 2) (map Sets after) → AreNumbered k (map Sets before ++ Limits d ∷ map Sets after)
among_numbered k [] after d b a = let same : k + 0 + 2 ≡ k + 2 = omega arith in subst (λ n. AreNumbered n (map Sets after)) same a
among_numbered k (s ∷ before) after d b a =
    let same : k + length (s ∷ before) + 2 ≡ k + 1 + length before + 2 = omega arith in
    (b.0, among_numbered (k + 1) before after d b.1 (subst (λ n. AreNumbered n (map Sets after)) same a))

pub among_settings : (before after : List Setting) (d : Word) → before ++ after ≡ settings_of (map Sets before ++ Limits d ∷ map Sets after)
among_settings [] after d = settings_of-map after
among_settings (s ∷ before) after d = ap (λ l. s ∷ l) (among_settings before after d)

pub among_limits : (before after : List Setting) (d : Word) → d ∷ [] ≡ limits_of (map Sets before ++ Limits d ∷ map Sets after)
among_limits [] after d = ap (λ l. d ∷ l) (limits_of-map after)
among_limits (s ∷ before) after d = among_limits before after d

pub among_words : (before after : List Setting) (d : Word) → flat_map argument_words (map Sets before ++ Limits d ∷ map Sets after) ≡ flat_map argument_words (map Sets before) ++ option_word ∷ d ∷ flat_map argument_words (map Sets after)
among_words before after d = flat_map-append argument_words (map Sets before) (Limits d ∷ map Sets after)

-- all words are read
pub all_read : (words : List Word) (first : ℕ) (before after added : List Setting) (n : ℕ) → after ≡ before ++ added → AreSettings words first n added → length words ≡ n → AreRead words first before after n
all_read words first before after added n joined are long = record {
  settings = added;
  joined = joined;
  are = are;
  within = omega (arith, long);
  other = λ w here. omega (arith, slice_get_within words n w here, long);
}
