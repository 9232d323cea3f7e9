-- The answer to words, bytes and the trace of a run: a status and what is written. Its cases stand in the order in which they are looked at.
use Rattle.std.specs.Prelude.{◌≡◌, ◌≢◌, ℕ, ◌<◌, ◌≤◌, List, [], ◌++◌, length, Option, Some, None, slice_get, codes}
use Rattle.std.specs.Fmt.{decimal}
use Rattle.g_values.specs.declared.value.Value.{Value}
use Rattle.g_diagram.specs.declared.place.Break.{Break}
use Rattle.g_diagram.specs.declared.hierarchy.Hierarchy.{Hierarchy}
use Rattle.g_diagram.specs.declared.hierarchy.Vi.{Vi}
use Rattle.g_diagram.specs.Text.{text_of}
use Rattle.g_tokens.specs.declared.token.Spot.{Spot}
use Rattle.g_listing_grammar.specs.Listing.{IsListing}
use Rattle.g_listing.specs.Refusal.{IsRefusal}
use Rattle.g_listing.specs.declared.listing.ListingRefused.TheVariants.{Syntax}
use Rattle.g_line.specs.declared.forms.Setting.{Setting}
use Rattle.g_line.specs.declared.forms.Line.{Line}
use Rattle.g_line.specs.declared.forms.Line.TheVariants.{Run, Check, Print}
use Rattle.g_line.specs.Forms.{HasLine}
use Rattle.g_line.specs.Usage.{IsFirstWrong}
use Rattle.g_rules_breaks.specs.Breaks.{ListsEach}
use Rattle.g_rules.specs.Checked.{IsBreak, IsUnbroken}
use Rattle.g_hier.specs.Outlines.{number_of}
use Rattle.g_frames.specs.declared.firing.Firing.{Firing}
use Rattle.g_frames.specs.declared.state.End.{End}
use Rattle.g_frames.specs.declared.state.End.TheVariants.{Complete, Spent, Stalled, Unfinished}
use Rattle.g_frames.specs.Program.{Program, IsProgram}
use Rattle.g_frames.specs.State.{FireState}
use Rattle.g_frames.specs.Run.{after, IsAtRest, end_of}
use Rattle.g_frames.specs.Print.{print}
use Rattle.grun.specs.Texts.{line_of, breaks_text, spot_text}
use Rattle.grun.specs.Settings.{Named, Give, IsWrongSetting, controls, control_values}

pub record Reply : Type 0 where
  pub status : ℕ
  pub text : List ℕ

abbrev pub reply : ℕ → List ℕ → Reply
reply status text = record { status = status; text = text }

-- the most bytes of an input
abbrev pub LIMIT : ℕ
LIMIT = 16_777_216

-- ---- the answer

-- the status of a run by its end; a run that is at rest doesn't end unfinished
abbrev pub status_of : End → ℕ
status_of Complete = 0
status_of Stalled = 5
status_of Spent = 6
status_of Unfinished = 0

-- a run from the VI of this number on with these values of its controls, which may begin so many iterations: its trace is allowed and leads to
-- a state in which no node can fire; the reply shows that state and how the run ended in it
pub record Runs (h : Hierarchy) (main : ℕ) (controls : List Value) (limit : ℕ) (trace : List Firing) (r : Reply) : Type 0 where
  pub program : Program
  pub is_program : IsProgram h main program
  pub state : FireState
  pub allowed : after program controls limit trace ≡ Some state
  pub rest : IsAtRest program state
  pub shown : r ≡ reply (status_of (end_of program state)) (print program state)

-- the answer to a run of a hierarchy
pub data IsRunAnswer (main : List ℕ) (settings : List Setting) (limit : ℕ) (h : Hierarchy) : Option (List Firing) → Reply → Type 0 where
  -- rules are broken: the whole list
  broken : (bs : List Break) → ListsEach (IsBreak h main) bs → bs ≢ [] → IsRunAnswer main settings limit h None (reply 3 (breaks_text main h.vis bs))
  -- a setting names no control, or one that was named before, or spells no value of its type
  control : (vi : Vi) (s : Setting) → IsUnbroken h main → slice_get h.vis (number_of h.vis main) ≡ Some vi → IsWrongSetting (controls vi.panel) settings s
      → IsRunAnswer main settings limit h None (reply 4 (line_of (codes "control at word " ++ decimal s.word)))
  -- a run
  ran : (vi : Vi) (values : Named Value) (trace : List Firing) (r : Reply) → IsUnbroken h main → slice_get h.vis (number_of h.vis main) ≡ Some vi → Give (controls vi.panel) [] settings values
      → Runs h (number_of h.vis main) (control_values vi.panel values) limit trace r → IsRunAnswer main settings limit h (Some trace) r

-- the answer to words and bytes
pub data IsAnswer (words : List (List ℕ)) (bytes : List ℕ) : Option (List Firing) → Reply → Type 0 where
  -- no line has these words
  usage : (k : ℕ) → IsFirstWrong words k → IsAnswer words bytes None (reply 1 (line_of (codes "usage at word " ++ decimal k)))
  -- more bytes than an input may have
  too_long : (line : Line) → HasLine words line → LIMIT < length bytes → IsAnswer words bytes None (reply 10 (line_of (codes "too long")))
  -- the bytes are no listing: the first token that no listing has after those before it
  syntax : (line : Line) (spot : Spot) → HasLine words line → length bytes ≤ LIMIT → IsRefusal bytes (Syntax spot) → IsAnswer words bytes None (reply 2 (line_of (codes "syntax at " ++ spot_text spot)))
  -- they are one, which is printed
  printed : (h : Hierarchy) → HasLine words Print → length bytes ≤ LIMIT → IsListing bytes h → IsAnswer words bytes None (reply 0 (text_of h))
  -- they are one, which is checked: rules are broken, or none is
  checked_broken : (main : List ℕ) (h : Hierarchy) (bs : List Break) → HasLine words (Check main) → length bytes ≤ LIMIT → IsListing bytes h → ListsEach (IsBreak h main) bs → bs ≢ []
      → IsAnswer words bytes None (reply 3 (breaks_text main h.vis bs))
  checked_ok : (main : List ℕ) (h : Hierarchy) → HasLine words (Check main) → length bytes ≤ LIMIT → IsListing bytes h → IsUnbroken h main → IsAnswer words bytes None (reply 0 (line_of (codes "ok")))
  -- they are one, which is run
  runs : (main : List ℕ) (settings : List Setting) (limit : ℕ) (h : Hierarchy) (trace : Option (List Firing)) (r : Reply) → HasLine words (Run main settings limit) → length bytes ≤ LIMIT → IsListing bytes h → IsRunAnswer main settings limit h trace r
      → IsAnswer words bytes trace r

-- an answer is one: for the same words, bytes and trace no two replies are right
abbrev pub AnswersAreOne : Type 0
AnswersAreOne = (words : List (List ℕ)) (bytes : List ℕ) (trace : Option (List Firing)) (r s : Reply) → IsAnswer words bytes trace r → IsAnswer words bytes trace s → r ≡ s
