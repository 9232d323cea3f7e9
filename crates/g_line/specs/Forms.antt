-- The forms of a command line: a command, what belongs to it, and arguments in any order.
use Rattle.std.specs.Prelude.{◌≡◌, ⊤, ℕ, ◌+◌, ◌≤◌, true, List, [], ◌∷◌, ◌++◌, length, codes, refl}
use Rattle.std.specs.Str.Parse.{IsNumeral, digits_value}
use Rattle.std.proofs.lemmas.Bool.{ltb-true, leb-true}
use Rattle.std.specs.List.{AllByRecursion, flat_map}
use Rattle.g_types.specs.Names.{is_word}
use Rattle.g_line.specs.declared.forms.Setting.{Setting}
use Rattle.g_line.specs.declared.forms.Line.{Line}
use Rattle.g_line.specs.declared.forms.Line.TheVariants.{Run, Check, Print}

-- a word, by its bytes
abbrev pub Word : Type 0
Word = List ℕ

-- NAME=VALUE; a name holds no `=`, so the first one ends it
abbrev pub setting_word : Setting → Word
setting_word s = s.name ++ (61 ∷ s.text)

-- what stands before the number of iterations
abbrev pub option_word : Word
option_word = codes "--iterations"

-- how many iterations a run may begin: 1 to 10 decimal digits whose number is in range
pub record IsLimit (digits : Word) : Type 0 where
  pub short : length digits ≤ 10
  pub numeral : IsNumeral 10 digits
  pub least : 1 ≤ digits_value 10 digits
  pub most : digits_value 10 digits ≤ 4_000_000

-- what may follow a command, in any order
pub data Argument : Type 0 where
  Sets : Setting → Argument
  Limits : (digits : Word) → Argument

-- the words that an argument is written by
abbrev pub argument_words : Argument → List Word
argument_words (Sets s) = setting_word s ∷ []
argument_words (Limits digits) = option_word ∷ digits ∷ []

abbrev pub IsArgument : Argument → Type 0
IsArgument (Sets s) = is_word s.name ≡ true
IsArgument (Limits digits) = IsLimit digits

-- each setting carries the number of its word, where the arguments begin with the word of this number
abbrev pub AreNumbered : (word : ℕ) → List Argument → Type 0
AreNumbered word [] = ⊤
AreNumbered word (Sets s ∷ more) = (s.word ≡ word) × AreNumbered (word + 1) more
AreNumbered word (Limits digits ∷ more) = AreNumbered (word + 2) more

-- the settings among arguments, in their order
abbrev pub settings_of : List Argument → List Setting
settings_of [] = []
settings_of (Sets s ∷ more) = s ∷ settings_of more
settings_of (Limits digits ∷ more) = settings_of more

-- the limits among arguments, by their digits
abbrev pub limits_of : List Argument → List Word
limits_of [] = []
limits_of (Sets s ∷ more) = limits_of more
limits_of (Limits digits ∷ more) = digits ∷ limits_of more

-- the first limit, or what it is where there is none
abbrev pub limit_of : List Word → ℕ
limit_of [] = 100_000
limit_of (digits ∷ more) = digits_value 10 digits

-- `run MAIN` and arguments, among which is one limit at most
pub record IsRun (words : List Word) (main : Word) (settings : List Setting) (limit : ℕ) (arguments : List Argument) : Type 0 where
  pub written : words ≡ codes "run" ∷ main ∷ flat_map argument_words arguments
  pub main_is_name : is_word main ≡ true
  pub right : AllByRecursion IsArgument arguments
  pub numbered : AreNumbered 3 arguments
  pub once : length (limits_of arguments) ≤ 1
  pub given : settings ≡ settings_of arguments
  pub limited : limit ≡ limit_of (limits_of arguments)

-- `check MAIN`
pub record IsCheck (words : List Word) (main : Word) : Type 0 where
  pub written : words ≡ codes "check" ∷ main ∷ []
  pub main_is_name : is_word main ≡ true

-- the words are written so, by one case a command
abbrev pub HasLine : List Word → Line → Type 0
HasLine words (Run main settings limit) = (arguments : List Argument) × IsRun words main settings limit arguments
HasLine words (Check main) = IsCheck words main
HasLine words Print = words ≡ codes "print" ∷ []

-- examples: `run Main a=1 b==` has the settings 1 and `=`, and the limit that stands where none is given
two : List Setting
two = record { word = 3; name = codes "a"; text = codes "1" } ∷ record { word = 4; name = codes "b"; text = codes "=" } ∷ []

runs_main : HasLine (codes "run" ∷ codes "Main" ∷ codes "a=1" ∷ codes "b==" ∷ []) (Run (codes "Main") two 100_000)
unfolding two
runs_main = (
  Sets (record { word = 3; name = codes "a"; text = codes "1" }) ∷ Sets (record { word = 4; name = codes "b"; text = codes "=" }) ∷ [],
  record {
    written = refl;
    main_is_name = refl;
    right = (refl, (refl, tt));
    numbered = (refl, (refl, tt));
    once = leb-true 0 1 refl;
    given = refl;
    limited = refl;
  },
)

-- `run Main --iterations 007 b==` has the limit 7, and its setting's word is the fifth
behind : List Setting
behind = record { word = 5; name = codes "b"; text = codes "=" } ∷ []

runs_limited : HasLine (codes "run" ∷ codes "Main" ∷ codes "--iterations" ∷ codes "007" ∷ codes "b==" ∷ []) (Run (codes "Main") behind 7)
unfolding behind
runs_limited = (
  Limits (codes "007") ∷ Sets (record { word = 5; name = codes "b"; text = codes "=" }) ∷ [],
  record {
    written = refl;
    main_is_name = refl;
    right = (record { short = leb-true 3 10 refl; numeral = (ltb-true 0 3 refl, (ltb-true 0 10 refl, (ltb-true 0 10 refl, (ltb-true 7 10 refl, tt)))); least = leb-true 1 7 refl; most = leb-true 7 4_000_000 refl }, (refl, tt));
    numbered = (refl, tt);
    once = leb-true 1 1 refl;
    given = refl;
    limited = refl;
  },
)

-- `check Main` is a line
checks_main : HasLine (codes "check" ∷ codes "Main" ∷ []) (Check (codes "Main"))
checks_main = record { written = refl; main_is_name = refl }

-- `print` is a line
prints : HasLine (codes "print" ∷ []) Print
prints = refl
