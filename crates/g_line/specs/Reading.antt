-- Inner: words, read from left to right.
use Rattle.std.specs.Prelude.{◌≡◌, ◌≢◌, ℕ, ◌+◌, ◌≤◌, true, false, List, ◌++◌, length, take, map, Some, slice_get, codes}
use Rattle.std.specs.List.{AllByRecursion, flat_map}
use Rattle.std.specs.Str.Parse.{digits_value}
use Rattle.g_types.specs.Names.{is_word}
use Rattle.g_line.specs.declared.forms.Setting.{Setting}
use Rattle.g_line.specs.declared.forms.LineRefused.{LineRefused}
use Rattle.g_line.specs.declared.forms.LineRefused.TheVariants.{Usage, Memory}
use Rattle.g_line.specs.Forms.{Word, setting_word, option_word, IsLimit, IsArgument, AreNumbered, argument_words, Sets}

-- what a refusal's number is, where it has one
abbrev pub OnUsage : (ℕ → Type 0) → LineRefused → Type 0
OnUsage P (Usage k) = P k
OnUsage P (Memory e) = Unit {0}

-- the word of this number is this setting
abbrev pub IsSettingOf : (number : ℕ) → Word → Setting → Type 0
IsSettingOf number w s = (s.word ≡ number) × (is_word s.name ≡ true) × (w ≡ setting_word s)

abbrev pub IsNoSetting : Word → Type 0
IsNoSetting w = (s : Setting) → is_word s.name ≡ true → w ≢ setting_word s

-- the words from one place to another are settings
pub record AreSettings (words : List Word) (first last : ℕ) (settings : List Setting) : Type 0 where
  pub right : AllByRecursion IsArgument (map Sets settings)
  pub each : last ≡ first + length settings
  pub numbered : AreNumbered (first + 1) (map Sets settings)
  pub written : take last words ≡ take first words ++ flat_map argument_words (map Sets settings)

-- the words from a place on are settings up to this place, and these settings came to those before; the word here, if there is one, is none
pub record AreRead (words : List Word) (first : ℕ) (before after : List Setting) (at : ℕ) : Type 0 where
  pub settings : List Setting
  pub joined : after ≡ before ++ settings
  pub are : AreSettings words first at settings
  pub within : at ≤ length words
  pub other : (w : Word) → slice_get words at ≡ Some w → IsNoSetting w

pub record IsMain (words : List Word) (main : Word) : Type 0 where
  pub second : slice_get words 1 ≡ Some main
  pub name : is_word main ≡ true

-- the words are `run`, MAIN and these settings up to this place
pub record AreSet (words : List Word) (main : Word) (settings : List Setting) (at : ℕ) : Type 0 where
  pub command : slice_get words 0 ≡ Some (codes "run")
  pub second : IsMain words main
  pub are : AreSettings words 2 at settings
  pub option : slice_get words at ≡ Some option_word

-- the word is this limit
abbrev pub IsLimitOf : Word → ℕ → Type 0
IsLimitOf w limit = IsLimit w × (digits_value 10 w ≡ limit)

abbrev pub IsNoLimit : Word → Type 0
IsNoLimit w = IsLimit w → ⊥

-- the word at this place is this limit
pub record IsLimitAt (words : List Word) (at limit : ℕ) : Type 0 where
  pub word : Word
  pub here : slice_get words at ≡ Some word
  pub is : IsLimitOf word limit

-- the k-th word, from 1, at this place, is no limit, or isn't there
pub record IsNoLimitAt (words : List Word) (at k : ℕ) : Type 0 where
  pub is : k ≡ at + 1
  pub other : (w : Word) → slice_get words at ≡ Some w → IsNoLimit w

-- the second word is no name, or isn't there
pub record IsNoMain (words : List Word) (k : ℕ) : Type 0 where
  pub second : k ≡ 2
  pub other : (w : Word) → slice_get words 1 ≡ Some w → is_word w ≡ false
