-- The line that the words of a run have, and where they stop being one.
use Rattle.std.proofs.Common.{◌≡◌, ◌≢◌, ℕ, zero, suc, ◌+◌, ◌-◌, ◌<◌, ◌≤◌, true, List, [], ◌∷◌, ◌++◌, length, take, map, Some, refl, sym, ap, ◌∙◌, subst, codes, append_assoc, ◌⊎◌, inl, inr, arith}
use Rattle.std.specs.Prelude.{slice_get}
use Rattle.std.specs.List.{AllByRecursion, flat_map}
use Rattle.std.specs.Str.Parse.{digits_value}
use Rattle.std.proofs.lemmas.List.{append-nil, take_all}
use Rattle.std.proofs.lemmas.Option.{slice_get_within}
use Rattle.g_types.specs.Names.{is_word}
use Rattle.g_line.specs.declared.forms.Setting.{Setting}
use Rattle.g_line.specs.declared.forms.Line.{Line}
use Rattle.g_line.specs.declared.forms.Line.TheVariants.{Run, Check, Print}
use Rattle.g_line.specs.Forms.{Word, setting_word, option_word, IsLimit, Argument, Sets, Limits, argument_words, IsArgument, AreNumbered, limits_of, limit_of, HasLine}
use Rattle.g_line.specs.Usage.{BeginsLine, IsFirstWrong}
use Rattle.g_line.specs.Reading.{AreSettings, AreRead, AreSet, IsMain, IsNoSetting, IsNoLimit, IsLimitAt, IsNoLimitAt}
use Rattle.g_line.proofs.Arguments.{settings_of-map, limits_of-map, no_setting, behind, take_word, among_right, among_numbered, among_settings, among_limits, among_words}
use Rattle.g_line.proofs.Stops.{one_command, run_no_check, run_no_print, stops_at}

-- the words of settings
abbrev spelled : List Setting → List Word
spelled settings = flat_map argument_words (map Sets settings)

front : (words : List Word) (main : Word) → slice_get words 0 ≡ Some (codes "run") → IsMain words main → take 2 words ≡ codes "run" ∷ main ∷ []
front [] main run m = absurd cc
front (a ∷ []) main run m = let e = m.second in absurd cc
front (a ∷ b ∷ words) main run m =
    let e = m.second in
    let command : a ≡ codes "run" = cc in
    let second : b ≡ main = cc in
    ap (λ (w : Word). w ∷ b ∷ []) command ∙ ap (λ (w : Word). codes "run" ∷ w ∷ []) second

-- words up to a place, where settings alone stand behind MAIN
written_plain : (words : List Word) (main : Word) (settings : List Setting) (at : ℕ) → slice_get words 0 ≡ Some (codes "run") → IsMain words main → AreSettings words 2 at settings
    → take at words ≡ codes "run" ∷ main ∷ spelled settings
written_plain words main settings at run m s = s.written ∙ ap (λ l. l ++ spelled settings) (front words main run m)

plain_line : (words : List Word) (main : Word) (settings : List Setting) → is_word main ≡ true → AllByRecursion IsArgument (map Sets settings) → AreNumbered 3 (map Sets settings)
    → words ≡ codes "run" ∷ main ∷ spelled settings → HasLine words (Run main settings 100_000)
plain_line words main settings name right numbered written = (
  map Sets settings,
  record {
    written = written;
    main_is_name = name;
    right = right;
    numbered = numbered;
    once = omega (arith, ap length (limits_of-map settings));
    given = settings_of-map settings;
    limited = ap limit_of (limits_of-map settings);
  },
)

limited_line : (words : List Word) (main : Word) (before after : List Setting) (d : Word) → is_word main ≡ true → AllByRecursion IsArgument (map Sets before) → AreNumbered 3 (map Sets before) → IsLimit d
    → AllByRecursion IsArgument (map Sets after) → AreNumbered (3 + length before + 2) (map Sets after) → words ≡ codes "run" ∷ main ∷ (spelled before ++ option_word ∷ d ∷ spelled after)
    → HasLine words (Run main (before ++ after) (digits_value 10 d))
limited_line words main before after d name right numbered is right' numbered' written = (
  map Sets before ++ Limits d ∷ map Sets after,
  record {
    written = written ∙ ap (λ (l : List Word). codes "run" ∷ main ∷ l) (sym (among_words before after d));
    main_is_name = name;
    right = among_right before after d right is right';
    numbered = among_numbered 3 before after d numbered numbered';
    once = omega (arith, ap length (among_limits before after d));
    given = among_settings before after d;
    limited = ap limit_of (among_limits before after d);
  },
)

-- words that are all settings behind MAIN
has_plain : (words : List Word) (main : Word) (settings : List Setting) (at : ℕ) → slice_get words 0 ≡ Some (codes "run") → IsMain words main → AreSettings words 2 at settings → length words ≤ at
    → HasLine words (Run main settings 100_000)
has_plain words main settings at run m s long =
    plain_line words main settings m.name s.right s.numbered (sym (take_all at words long) ∙ written_plain words main settings at run m s)

pub has_read : (words : List Word) (main : Word) (settings : List Setting) (at : ℕ) → slice_get words 0 ≡ Some (codes "run") → IsMain words main → AreRead words 2 [] settings at → length words ≤ at
    → HasLine words (Run main settings 100_000)
has_read words main settings at run m read long = has_plain words main settings at run m (subst (AreSettings words 2 at) (sym read.joined) read.are) long

-- the option behind settings
pub is_set : (words : List Word) (main : Word) (settings : List Setting) (at : ℕ) → slice_get words 0 ≡ Some (codes "run") → IsMain words main → AreRead words 2 [] settings at → slice_get words at ≡ Some option_word
    → AreSet words main settings at
is_set words main settings at run m read option = record { command = run; second = m; are = subst (AreSettings words 2 at) (sym read.joined) read.are; option = option }

-- the words with the option behind settings, and then with its number
written_option : (words : List Word) (main : Word) (settings : List Setting) (at : ℕ) → AreSet words main settings at → take (at + 1) words ≡ codes "run" ∷ main ∷ (spelled settings ++ option_word ∷ [])
written_option words main settings at s =
    take_word words at option_word s.option ∙ ap (λ l. l ++ option_word ∷ []) (written_plain words main settings at s.command s.second s.are)

written_number : (words : List Word) (main : Word) (settings : List Setting) (at : ℕ) (w : Word) → AreSet words main settings at → slice_get words (at + 1) ≡ Some w
    → take (at + 2) words ≡ codes "run" ∷ main ∷ (spelled settings ++ option_word ∷ w ∷ [])
written_number words main settings at w s here =
    let two : at + 2 ≡ at + 1 + 1 = omega arith in
    ap (λ n. take n words) two
    ∙ take_word words (at + 1) w here
    ∙ ap (λ l. l ++ w ∷ []) (written_option words main settings at s)
    ∙ ap (λ (l : List Word). codes "run" ∷ main ∷ l) (append_assoc (spelled settings) (option_word ∷ []) (w ∷ []))

-- words that are settings but for a limit among them, up to a place
limited_to : (words : List Word) (main : Word) (before after : List Setting) (at limit n : ℕ) → AreSet words main before at → IsLimitAt words (at + 1) limit → AreSettings words (at + 2) n after
    → HasLine (take n words) (Run main (before ++ after) limit)
limited_to words main before after at limit n s d more =
    let count : at + 2 + 1 ≡ 3 + length before + 2 = omega (arith, s.are.each) in
    let written : take n words ≡ codes "run" ∷ main ∷ (spelled before ++ option_word ∷ d.word ∷ spelled after) =
    more.written
    ∙ ap (λ l. l ++ spelled after) (written_number words main before at d.word s d.here)
    ∙ ap (λ (l : List Word). codes "run" ∷ main ∷ l) (append_assoc (spelled before) (option_word ∷ d.word ∷ []) (spelled after)) in
    subst (λ limit. HasLine (take n words) (Run main (before ++ after) limit)) d.is.1
    (limited_line (take n words) main before after d.word s.second.name s.are.right s.are.numbered d.is.0 more.right (subst (λ k. AreNumbered k (map Sets after)) count more.numbered) written)

pub has_limited : (words : List Word) (main : Word) (before after : List Setting) (at limit n : ℕ) → AreSet words main before at → IsLimitAt words (at + 1) limit → AreRead words (at + 2) before after n → length words ≤ n
    → HasLine words (Run main after limit)
has_limited words main before after at limit n s d read long =
    subst (λ l. HasLine words (Run main l limit)) (sym read.joined)
    (subst (λ w. HasLine w (Run main (before ++ read.settings) limit)) (take_all n words long) (limited_to words main before read.settings at limit n s d read.are))

some_at : (words : List Word) (at : ℕ) → at < length words → (w : Word) × (slice_get words at ≡ Some w)
some_at [] at lt = absurd (omega arith)
some_at (x ∷ words) zero lt = (x, refl)
some_at (x ∷ words) (suc at) lt = some_at words at (omega arith)

some_or_end : (words : List Word) (at : ℕ) → ((w : Word) × (slice_get words at ≡ Some w)) ⊎ (length words ≤ at)
some_or_end [] at = inr (omega arith)
some_or_end (x ∷ words) zero = inl (x, refl)
some_or_end (x ∷ words) (suc at) = by (some_or_end words at)
  where
    by : ((w : Word) × (slice_get words at ≡ Some w)) ⊎ (length words ≤ at) → ((w : Word) × (slice_get (x ∷ words) (suc at) ≡ Some w)) ⊎ (length (x ∷ words) ≤ suc at)
    by (inl here) = inl here
    by (inr long) = inr (omega (arith, long))

-- ---- where no line goes on

-- the arguments that words behind settings are
record Rest (tail : List Word) : Type 0 where
  more : List Argument
  right : AllByRecursion IsArgument more
  written : flat_map argument_words more ≡ tail
  once : length (limits_of more) ≤ 1

rest_of : (main : Word) (settings : List Setting) → AllByRecursion IsArgument (map Sets settings) → (tail : List Word) (line : Line) → HasLine (codes "run" ∷ main ∷ (spelled settings ++ tail)) line → Rest tail
rest_of main settings all tail (Run m s l) h =
    let e = sym h.1.written in
    let words : flat_map argument_words h.0 ≡ spelled settings ++ tail = cc in
    let b = behind settings all h.0 h.1.right tail words in
    record { more = b.more; right = b.right; written = b.written; once = subst (λ l. length l ≤ 1) b.limits h.1.once }
rest_of main settings all tail (Check m) h = absurd (run_no_check (sym (one_command (codes "run" ∷ main ∷ (spelled settings ++ tail)) (Check m) (codes "run") h refl)))
rest_of main settings all tail Print h = absurd (run_no_print (sym (one_command (codes "run" ∷ main ∷ (spelled settings ++ tail)) Print (codes "run") h refl)))

never : (words : List Word) (k : ℕ) (main : Word) (settings : List Setting) → AllByRecursion IsArgument (map Sets settings) → (tail : List Word) → take k words ≡ codes "run" ∷ main ∷ (spelled settings ++ tail)
    → ((more : List Word) → Rest (tail ++ more) → ⊥) → BeginsLine (take k words) → ⊥
never words k main settings all tail written bad b =
    let same : take k words ++ b.0 ≡ codes "run" ∷ main ∷ (spelled settings ++ (tail ++ b.0)) =
    ap (λ l. l ++ b.0) written ∙ ap (λ (l : List Word). codes "run" ∷ main ∷ l) (append_assoc (spelled settings) tail b.0) in
    bad b.0 (rest_of main settings all (tail ++ b.0) b.1 (subst (λ w. HasLine w b.1) same b.2))

no_word : (w : Word) (tail : List Word) → IsNoSetting w → w ≢ option_word → (more : List Argument) → AllByRecursion IsArgument more → flat_map argument_words more ≡ w ∷ tail → ⊥
no_word w tail other bad [] right e = absurd cc
no_word w tail other bad (Sets s ∷ more) right e = let head : w ≡ setting_word s = cc in other s right.0 head
no_word w tail other bad (Limits d ∷ more) right e = let head : w ≡ option_word = cc in bad head

no_end : (more : List Argument) → AllByRecursion IsArgument more → flat_map argument_words more ≡ option_word ∷ [] → ⊥
no_end [] right e = absurd cc
no_end (Sets s ∷ more) right e = let head : option_word ≡ setting_word s = cc in no_setting s right.0 head
no_end (Limits d ∷ more) right e = absurd cc

no_number : (w : Word) (tail : List Word) → IsNoLimit w → (more : List Argument) → AllByRecursion IsArgument more → flat_map argument_words more ≡ option_word ∷ w ∷ tail → ⊥
no_number w tail other [] right e = absurd cc
no_number w tail other (Sets s ∷ more) right e = let head : option_word ≡ setting_word s = cc in no_setting s right.0 head
no_number w tail other (Limits d ∷ more) right e = let head : d ≡ w = cc in other (subst IsLimit head right.0)

-- behind a limit there is no second one
no_second : (w : Word) (tail : List Word) → IsNoSetting w → (more : List Argument) → AllByRecursion IsArgument more → flat_map argument_words more ≡ w ∷ tail → length (limits_of more) ≤ 0 → ⊥
no_second w tail other [] right e once = absurd cc
no_second w tail other (Sets s ∷ more) right e once = let head : w ≡ setting_word s = cc in other s right.0 head
no_second w tail other (Limits d ∷ more) right e once = omega arith

no_later : (d : Word) (after : List Setting) → AllByRecursion IsArgument (map Sets after) → (w : Word) (tail : List Word) → IsNoSetting w → (more : List Argument) → AllByRecursion IsArgument more
    → flat_map argument_words more ≡ option_word ∷ d ∷ (spelled after ++ w ∷ tail) → length (limits_of more) ≤ 1 → ⊥
no_later d after all w tail other [] right e once = absurd cc
no_later d after all w tail other (Sets s ∷ more) right e once = let head : option_word ≡ setting_word s = cc in no_setting s right.0 head
no_later d after all w tail other (Limits c ∷ more) right e once =
    let words : flat_map argument_words more ≡ spelled after ++ w ∷ tail = cc in
    let b = behind after all more right.1 (w ∷ tail) words in
    no_second w tail other b.more b.right b.written (omega (arith, once, ap length b.limits))

-- a word that is neither a setting nor the option
pub stops_word : (words : List Word) (main : Word) (settings : List Setting) (at : ℕ) (w : Word) → slice_get words 0 ≡ Some (codes "run") → IsMain words main → AreRead words 2 [] settings at
    → slice_get words at ≡ Some w → w ≢ option_word → IsFirstWrong words (at + 1)
stops_word words main settings at w run m read here bad =
    let s : AreSettings words 2 at settings = subst (AreSettings words 2 at) (sym read.joined) read.are in
    let written = take_word words at w here ∙ ap (λ l. l ++ w ∷ []) (written_plain words main settings at run m s) in
    let less : at ≡ at + 1 - 1 = omega arith in
    let line = plain_line (take at words) main settings m.name s.right s.numbered (written_plain words main settings at run m s) in
    let before : BeginsLine (take at words) = ([], Run main settings 100_000, subst (λ l. HasLine l (Run main settings 100_000)) (sym (append-nil (take at words))) line) in
    stops_at words (at + 1) (omega arith) (omega (arith, slice_get_within words at w here)) (subst (λ n. BeginsLine (take n words)) less before)
    (never words (at + 1) main settings s.right (w ∷ []) written (λ more rest. no_word w more (read.other w here) bad rest.more rest.right rest.written))

-- the option alone begins a line
begins_option : (words : List Word) (main : Word) (settings : List Setting) (at : ℕ) → AreSet words main settings at → BeginsLine (take (at + 2 - 1) words)
begins_option words main settings at s =
    let less : at + 1 ≡ at + 2 - 1 = omega arith in
    let one : IsLimit (codes "1") = record { short = omega arith; numeral = (omega arith, (omega arith, tt)); least = omega arith; most = omega arith } in
    let written : take (at + 1) words ++ codes "1" ∷ [] ≡ codes "run" ∷ main ∷ (spelled settings ++ option_word ∷ codes "1" ∷ []) =
    ap (λ l. l ++ codes "1" ∷ []) (written_option words main settings at s) ∙ ap (λ (l : List Word). codes "run" ∷ main ∷ l) (append_assoc (spelled settings) (option_word ∷ []) (codes "1" ∷ [])) in
    let line = limited_line (take (at + 1) words ++ codes "1" ∷ []) main settings [] (codes "1") s.second.name s.are.right s.are.numbered one tt tt written in
    subst (λ n. BeginsLine (take n words)) less (codes "1" ∷ [], Run main (settings ++ []) 1, line)

-- behind the option a word that is no limit, or none
stops_number : (words : List Word) (main : Word) (settings : List Setting) (at : ℕ) (w : Word) → AreSet words main settings at → slice_get words (at + 1) ≡ Some w → IsNoLimit w → IsFirstWrong words (at + 2)
stops_number words main settings at w s here bad =
    stops_at words (at + 2) (omega arith) (omega (arith, slice_get_within words (at + 1) w here)) (begins_option words main settings at s)
    (never words (at + 2) main settings s.are.right (option_word ∷ w ∷ []) (written_number words main settings at w s here) (λ more rest. no_number w more bad rest.more rest.right rest.written))

stops_end : (words : List Word) (main : Word) (settings : List Setting) (at : ℕ) → AreSet words main settings at → length words ≤ at + 1 → IsFirstWrong words (at + 2)
stops_end words main settings at s long = record {
  first = omega arith;
  last = omega (arith, slice_get_within words at option_word s.option);
  no_line = λ line h.
      let written : words ≡ codes "run" ∷ main ∷ (spelled settings ++ option_word ∷ []) = sym (take_all (at + 1) words long) ∙ written_option words main settings at s in
      let rest = rest_of main settings s.are.right (option_word ∷ []) line (subst (λ w. HasLine w line) written h) in
      no_end rest.more rest.right rest.written;
  before = begins_option words main settings at s;
  here = λ few b. omega (arith, few, long);
}

pub stops_limit : (words : List Word) (main : Word) (settings : List Setting) (at k : ℕ) → AreSet words main settings at → IsNoLimitAt words (at + 1) k → IsFirstWrong words k
stops_limit words main settings at k s bad =
    let same : at + 2 ≡ k = omega (arith, bad.is) in
    subst (IsFirstWrong words) same (by (some_or_end words (at + 1)))
  where
    by : ((w : Word) × (slice_get words (at + 1) ≡ Some w)) ⊎ (length words ≤ at + 1) → IsFirstWrong words (at + 2)
    by (inl here) = stops_number words main settings at here.0 s here.1 (bad.other here.0 here.1)
    by (inr long) = stops_end words main settings at s long

-- behind a limit and settings a word that is no setting
pub stops_later : (words : List Word) (main : Word) (before after : List Setting) (at limit n : ℕ) → AreSet words main before at → IsLimitAt words (at + 1) limit → AreRead words (at + 2) before after n → n < length words
    → IsFirstWrong words (n + 1)
stops_later words main before after at limit n s d read more =
    let w = some_at words n more in
    let all = read.settings in
    let written : take (n + 1) words ≡ codes "run" ∷ main ∷ (spelled before ++ (option_word ∷ d.word ∷ (spelled all ++ w.0 ∷ []))) =
    take_word words n w.0 w.1
    ∙ ap (λ l. l ++ w.0 ∷ []) (read.are.written ∙ ap (λ l. l ++ spelled all) (written_number words main before at d.word s d.here) ∙ ap (λ (l : List Word). codes "run" ∷ main ∷ l) (append_assoc (spelled before) (option_word ∷ d.word ∷ []) (spelled all)))
    ∙ ap (λ (l : List Word). codes "run" ∷ main ∷ l) (append_assoc (spelled before) (option_word ∷ d.word ∷ spelled all) (w.0 ∷ [])) in
    let less : n ≡ n + 1 - 1 = omega arith in
    let begins : BeginsLine (take n words) =
    ([], Run main (before ++ all) limit, subst (λ l. HasLine l (Run main (before ++ all) limit)) (sym (append-nil (take n words))) (limited_to words main before all at limit n s d read.are)) in
    stops_at words (n + 1) (omega arith) (omega arith) (subst (λ n. BeginsLine (take n words)) less begins)
    (never words (n + 1) main before s.are.right (option_word ∷ d.word ∷ (spelled all ++ w.0 ∷ [])) written
    (λ tail rest. no_later d.word all read.are.right w.0 tail (read.other w.0 w.1) rest.more rest.right
    (rest.written ∙ ap (λ (l : List Word). option_word ∷ d.word ∷ l) (append_assoc (spelled all) (w.0 ∷ []) tail)) rest.once))
