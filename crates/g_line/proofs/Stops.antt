-- The line that words have, and where words stop being one.
use Rattle.std.proofs.Common.{◌≡◌, ◌≢◌, ℕ, ◌-◌, ◌<◌, ◌≤◌, true, false, List, [], ◌∷◌, length, take, drop, Some, refl, sym, ap, ◌∙◌, subst, codes, arith}
use Rattle.std.specs.Prelude.{slice_get, get_or, Option, None, Result, Ok, Err, IfErr, IsErrAnd}
use Rattle.std.specs.List.{flat_map}
use Rattle.std.proofs.lemmas.List.{take-append-drop}
use Rattle.g_types.specs.Names.{is_word}
use Rattle.g_line.specs.declared.forms.Line.{Line}
use Rattle.g_line.specs.declared.forms.Line.TheVariants.{Run, Check, Print}
use Rattle.g_line.specs.Forms.{Word, argument_words, settings_of, limits_of, limit_of, IsRun, HasLine}
use Rattle.g_line.specs.declared.forms.LineRefused.{LineRefused}
use Rattle.g_line.specs.declared.forms.LineRefused.TheVariants.{Usage, Memory}
use Rattle.g_line.specs.Usage.{BeginsLine, IsOnlyLine, IsFirstWrong, IsRefusal}
use Rattle.g_line.specs.Reading.{OnUsage, IsMain}
use Rattle.g_line.proofs.Arguments.{same_arguments}

-- the command that a line begins with
abbrev pub command_of : Line → Word
command_of (Run main settings limit) = codes "run"
command_of (Check main) = codes "check"
command_of Print = codes "print"

first_word : (words : List Word) (line : Line) → HasLine words line → slice_get words 0 ≡ Some (command_of line)
first_word words (Run main settings limit) h = ap (λ w. slice_get w 0) h.1.written
first_word words (Check main) h = ap (λ w. slice_get w 0) h.written
first_word words Print h = ap (λ w. slice_get w 0) h

-- a word that is no command
pub other_command : (w : Word) → w ≢ codes "run" → w ≢ codes "check" → w ≢ codes "print" → (line : Line) → w ≢ command_of line
other_command w run check print (Run main settings limit) = run
other_command w run check print (Check main) = check
other_command w run check print Print = print

-- commands are words of their own, by their first bytes
abbrev first_byte : Option Word → ℕ
first_byte None = 0
first_byte (Some w) = get_or w 0 0

pub run_no_check : Some (codes "run") ≡ Some (codes "check") → ⊥
run_no_check e = let bytes : 114 ≡ 99 = ap first_byte e in absurd (omega (arith, bytes))

pub run_no_print : Some (codes "run") ≡ Some (codes "print") → ⊥
run_no_print e = let bytes : 114 ≡ 112 = ap first_byte e in absurd (omega (arith, bytes))

check_no_print : Some (codes "check") ≡ Some (codes "print") → ⊥
check_no_print e = let bytes : 99 ≡ 112 = ap first_byte e in absurd (omega (arith, bytes))

-- words begin with one command
pub one_command : (words : List Word) (line : Line) (c : Word) → HasLine words line → slice_get words 0 ≡ Some c → Some (command_of line) ≡ Some c
one_command words line c h is = sym (first_word words line h) ∙ is

-- the second word of a line is a name
abbrev pub HasSecond : List Word → Type 0
HasSecond words = (main : Word) × (slice_get words 1 ≡ Some main) × (is_word main ≡ true)

second_word : (words : List Word) (line : Line) → slice_get words 0 ≡ Some (codes "run") → HasLine words line → HasSecond words
second_word words (Run main settings limit) run h = (main, ap (λ w. slice_get w 1) h.1.written, h.1.main_is_name)
second_word words (Check main) run h = absurd (run_no_check (sym (one_command words (Check main) (codes "run") h run)))
second_word words Print run h = absurd (run_no_print (sym (one_command words Print (codes "run") h run)))

checked_word : (words : List Word) (line : Line) → slice_get words 0 ≡ Some (codes "check") → HasLine words line → HasSecond words
checked_word words (Run main settings limit) check h = absurd (run_no_check (one_command words (Run main settings limit) (codes "check") h check))
checked_word words (Check main) check h = (main, ap (λ w. slice_get w 1) h.written, h.main_is_name)
checked_word words Print check h = absurd (check_no_print (sym (one_command words Print (codes "check") h check)))

-- what begins a line
alone : IsRun (codes "run" ∷ codes "a" ∷ []) (codes "a") [] 100_000 []
alone = record { written = refl; main_is_name = refl; right = tt; numbered = tt; once = omega arith; given = refl; limited = refl }

begins_nothing : BeginsLine []
begins_nothing = (codes "run" ∷ codes "a" ∷ [], Run (codes "a") [] 100_000, ([], alone))

begins_command : BeginsLine (codes "run" ∷ [])
begins_command = (codes "a" ∷ [], Run (codes "a") [] 100_000, ([], alone))

begins_check : BeginsLine (codes "check" ∷ [])
begins_check = (codes "a" ∷ [], Check (codes "a"), record { written = refl; main_is_name = refl })

-- words that have a line begin one
whole : (words : List Word) (k : ℕ) (line : Line) → HasLine words line → BeginsLine (take k words)
whole words k line h = (drop k words, line, subst (λ w. HasLine w line) (sym (take-append-drop k words)) h)

-- the k-th word is the first that no line has there
pub stops_at : (words : List Word) (k : ℕ) → 1 ≤ k → k ≤ length words → BeginsLine (take (k - 1) words) → (BeginsLine (take k words) → ⊥) → IsFirstWrong words k
stops_at words k some within before never = record {
  first = some;
  last = omega arith;
  no_line = λ line h. never (whole words k line h);
  before = before;
  here = λ _. never;
}

pub stops_first : (words : List Word) → ((w : Word) → slice_get words 0 ≡ Some w → (line : Line) → w ≢ command_of line) → IsFirstWrong words 1
stops_first [] other = record {
  first = omega arith;
  last = omega arith;
  no_line = λ line h. let e = first_word [] line h in absurd cc;
  before = begins_nothing;
  here = λ few b. omega arith;
}
stops_first (w ∷ words) other =
    stops_at (w ∷ words) 1 (omega arith) (omega arith) begins_nothing (λ b. let e = first_word (w ∷ b.0) b.1 b.2 in other w refl b.1 cc)

-- after a command whose second word is a name, another word
stops_other : (c : Word) → BeginsLine (c ∷ []) → ((words : List Word) (line : Line) → slice_get words 0 ≡ Some c → HasLine words line → HasSecond words)
    → (words : List Word) → slice_get words 0 ≡ Some c → ((w : Word) → slice_get words 1 ≡ Some w → is_word w ≡ false) → IsFirstWrong words 2
stops_other c begins second [] is other = absurd cc
stops_other c begins second (a ∷ []) is other =
    let command : c ≡ a = cc in
    record {
      first = omega arith;
      last = omega arith;
      no_line = λ line h. let e = (second (a ∷ []) line is h).1 in absurd cc;
      before = subst (λ w. BeginsLine (w ∷ [])) command begins;
      here = λ few b. omega arith;
    }
stops_other c begins second (a ∷ b ∷ words) is other =
    let command : c ≡ a = cc in
    stops_at (a ∷ b ∷ words) 2 (omega arith) (omega arith) (subst (λ w. BeginsLine (w ∷ [])) command begins)
    (λ here. let m = second (a ∷ b ∷ here.0) here.1 is here.2 in
    let same : b ≡ m.0 = let e = m.1 in cc in
    let name = m.2 in
    let none = other b refl in
    let is : is_word b ≡ true = ap is_word same ∙ name in
    absurd cc)

pub stops_second : (words : List Word) → slice_get words 0 ≡ Some (codes "run") → ((w : Word) → slice_get words 1 ≡ Some w → is_word w ≡ false) → IsFirstWrong words 2
stops_second = stops_other (codes "run") begins_command second_word

pub stops_unnamed : (words : List Word) → slice_get words 0 ≡ Some (codes "check") → ((w : Word) → slice_get words 1 ≡ Some w → is_word w ≡ false) → IsFirstWrong words 2
stops_unnamed = stops_other (codes "check") begins_check checked_word

pub only_line : (words : List Word) (line : Line) → HasLine words line → IsOnlyLine words line
only_line words (Run main settings limit) h (Run main' settings' limit') h' =
    let e = sym h'.1.written ∙ h.1.written in
    let mains : main' ≡ main = cc in
    let texts : flat_map argument_words h'.0 ≡ flat_map argument_words h.0 = cc in
    let arguments = same_arguments 3 h'.0 h.0 h'.1.right h.1.right h'.1.numbered h.1.numbered texts in
    let given = ap settings_of arguments in
    let limits = ap (λ l. limit_of (limits_of l)) arguments in
    let a = h.1.given in
    let b = h'.1.given in
    let c = h.1.limited in
    let d = h'.1.limited in
    cc
only_line words (Run main settings limit) h (Check main') h' = absurd (run_no_check (sym (one_command words (Check main') (codes "run") h' (first_word words (Run main settings limit) h))))
only_line words (Run main settings limit) h Print h' = absurd (run_no_print (sym (one_command words Print (codes "run") h' (first_word words (Run main settings limit) h))))
only_line words (Check main) h (Run main' settings' limit') h' = absurd (run_no_check (one_command words (Run main' settings' limit') (codes "check") h' (first_word words (Check main) h)))
only_line words (Check main) h (Check main') h' =
    let e = sym h'.written ∙ h.written in
    let mains : main' ≡ main = cc in
    cc
only_line words (Check main) h Print h' = absurd (check_no_print (sym (one_command words Print (codes "check") h' (first_word words (Check main) h))))
only_line words Print h (Run main settings limit) h' = absurd (run_no_print (one_command words (Run main settings limit) (codes "print") h' (first_word words Print h)))
only_line words Print h (Check main) h' = absurd (check_no_print (one_command words (Check main) (codes "print") h' (first_word words Print h)))
only_line words Print h Print h' = refl

-- `check MAIN` and no further word
pub has_check : (words : List Word) (main : Word) → slice_get words 0 ≡ Some (codes "check") → IsMain words main → length words ≤ 2 → HasLine words (Check main)
has_check [] main check m few = absurd cc
has_check (a ∷ []) main check m few = let e = m.second in absurd cc
has_check (a ∷ b ∷ []) main check m few =
    let command : a ≡ codes "check" = cc in
    let e = m.second in
    let second : b ≡ main = cc in
    record { written = ap (λ (w : Word). w ∷ b ∷ []) command ∙ ap (λ (w : Word). codes "check" ∷ w ∷ []) second; main_is_name = m.name }
has_check (a ∷ b ∷ c ∷ words) main check m few = absurd (omega (arith, few))

-- `check MAIN` and a further word
pub stops_check : (words : List Word) (main : Word) → slice_get words 0 ≡ Some (codes "check") → IsMain words main → 2 < length words → IsFirstWrong words 3
stops_check [] main check m more = absurd cc
stops_check (a ∷ []) main check m more = absurd (omega (arith, more))
stops_check (a ∷ b ∷ []) main check m more = absurd (omega (arith, more))
stops_check (a ∷ b ∷ c ∷ words) main check m more =
    let line = has_check (a ∷ b ∷ []) main check (record { second = m.second; name = m.name }) (omega arith) in
    stops_at (a ∷ b ∷ c ∷ words) 3 (omega arith) (omega arith) ([], Check main, line) (λ begins. never begins.0 begins.1 begins.2)
  where
    never : (end : List Word) (line : Line) → HasLine (a ∷ b ∷ c ∷ end) line → ⊥
    never end (Run main' settings limit) h = run_no_check (one_command (a ∷ b ∷ c ∷ end) (Run main' settings limit) (codes "check") h check)
    never end (Check main') h = let e = h.written in absurd cc
    never end Print h = absurd cc

-- `print` and no further word
pub has_print : (words : List Word) → slice_get words 0 ≡ Some (codes "print") → length words ≤ 1 → HasLine words Print
has_print [] print few = absurd cc
has_print (a ∷ []) print few = let command : a ≡ codes "print" = cc in ap (λ (w : Word). w ∷ []) command
has_print (a ∷ b ∷ words) print few = absurd (omega (arith, few))

-- `print` and a further word
pub stops_print : (words : List Word) → slice_get words 0 ≡ Some (codes "print") → 1 < length words → IsFirstWrong words 2
stops_print [] print more = absurd cc
stops_print (a ∷ []) print more = absurd (omega (arith, more))
stops_print (a ∷ b ∷ words) print more =
    let command : codes "print" ≡ a = cc in
    let before : BeginsLine (a ∷ []) = ([], Print, ap (λ (w : Word). w ∷ []) (sym command)) in
    stops_at (a ∷ b ∷ words) 2 (omega arith) (omega arith) before (λ begins. never begins.0 begins.1 begins.2)
  where
    never : (end : List Word) (line : Line) → HasLine (a ∷ b ∷ end) line → ⊥
    never end (Run main settings limit) h = run_no_print (one_command (a ∷ b ∷ end) (Run main settings limit) (codes "print") h print)
    never end (Check main) h = check_no_print (one_command (a ∷ b ∷ end) (Check main) (codes "print") h print)
    never end Print h = absurd cc

-- a refusal at a word
pub refusal_at : (P : ℕ → Type 0) (words : List Word) (e : LineRefused) → ((k : ℕ) → P k → IsFirstWrong words k) → OnUsage P e → IsRefusal words e
refusal_at P words (Usage k) why p = why k p
refusal_at P words (Memory e) why p = tt

pub if_err : {A E : Type 0} (P : E → Type 0) (r : Result A E) (e : E) → IsErrAnd r (λ x. x ≡ e) → P e → IfErr r P
if_err P (Ok v) e same p = tt
if_err P (Err x) e same p = subst P (sym same) p
