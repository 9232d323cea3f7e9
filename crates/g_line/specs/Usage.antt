-- Where words stop being a line.
use Rattle.std.specs.Prelude.{◌≡◌, ℕ, ◌+◌, ◌-◌, ◌≤◌, List, ◌++◌, length, take}
use Rattle.g_line.specs.declared.forms.Line.{Line}
use Rattle.g_line.specs.declared.forms.LineRefused.{LineRefused}
use Rattle.g_line.specs.declared.forms.LineRefused.TheVariants.{Usage, Memory}
use Rattle.g_line.specs.Forms.{Word, HasLine}

-- no other line has these words
abbrev pub IsOnlyLine : List Word → Line → Type 0
IsOnlyLine words line = (other : Line) → HasLine words other → other ≡ line

-- some line begins with these words, or is them
abbrev pub BeginsLine : List Word → Type 0
BeginsLine words = (more : List Word) × (line : Line) × HasLine (words ++ more) line

-- the first word, from 1, such that no line begins with the words up to it; one more than there are
-- words, where some line begins with them all
pub record IsFirstWrong (words : List Word) (k : ℕ) : Type 0 where
  pub first : 1 ≤ k
  pub last : k ≤ length words + 1
  pub no_line : (line : Line) → HasLine words line → ⊥
  pub before : BeginsLine (take (k - 1) words)
  pub here : k ≤ length words → BeginsLine (take k words) → ⊥

-- why words are refused; want of memory may come at any words
abbrev pub IsRefusal : List Word → LineRefused → Type 0
IsRefusal words (Usage k) = IsFirstWrong words k
IsRefusal words (Memory e) = Unit {0}
