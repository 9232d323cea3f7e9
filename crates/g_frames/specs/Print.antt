-- What is written of a state.
use Rattle.std.specs.Prelude.{◌≡◌, ℕ, List, [], ◌∷◌, ◌++◌, slice_get, codes}
use Rattle.std.specs.Option.{option_map_or}
use Rattle.std.specs.Fmt.{decimal}
use Rattle.g_values.specs.declared.value.Value.{Value}
use Rattle.g_values.specs.Text.{text}
use Rattle.g_diagram.specs.declared.hierarchy.Hierarchy.{Hierarchy}
use Rattle.g_frames.specs.declared.state.End.{End}
use Rattle.g_frames.specs.declared.state.End.TheVariants.{Complete, Spent, Stalled, Unfinished}
use Rattle.g_frames.specs.Contents as content
use Rattle.g_frames.specs.Contents.{Content}
use Rattle.g_frames.specs.Program.{Program, IsProgram, panel_object}
use Rattle.g_frames.specs.Panels.{indicator_names}
use Rattle.g_frames.specs.State.{FireState, panel_items}
use Rattle.g_frames.specs.Run.{end_of, waiting}

-- `NAME = VALUE` and a line feed, and what follows
abbrev pub indicator_line : (name : List ℕ) → Value → List ℕ → List ℕ
indicator_line name v rest = name ++ (codes " = " ++ (text v ++ (10 ∷ rest)))

abbrev pub indicator_lines : (names : List (List ℕ)) → List Value → List ℕ → List ℕ
indicator_lines [] vs rest = rest
indicator_lines (n ∷ ns) [] rest = rest
indicator_lines (n ∷ ns) (v ∷ vs) rest = indicator_line n v (indicator_lines ns vs rest)

abbrev pub indicators_in : Content → List Value
indicators_in (content.Panel s) = s.indicators
indicators_in _ = []

-- the indicators of the VI that runs
abbrev pub indicators : Program → FireState → List Value
indicators p s = option_map_or indicators_in (slice_get s.objects (panel_object p 0)) []

abbrev pub waiting_lines : List (ℕ × ℕ) → List ℕ
waiting_lines [] = []
waiting_lines (w ∷ ws) = codes "waiting " ++ (decimal w.0 ++ (32 ∷ (decimal w.1 ++ (10 ∷ waiting_lines ws))))

abbrev pub end_lines : Program → FireState → End → List ℕ
end_lines p s Complete = []
end_lines p s Spent = codes "spent " ++ (decimal s.begun ++ 10 ∷ [])
end_lines p s Stalled = codes "stalled\n" ++ waiting_lines (waiting p s)
end_lines p s Unfinished = codes "unfinished\n"

-- the answer for a state: a line for each indicator of the VI that runs, and how the run ended
abbrev pub print : Program → FireState → List ℕ
print p s = indicator_lines (indicator_names (panel_items p s.main)) (indicators p s) (end_lines p s (end_of p s))

-- the text of a state of a hierarchy
pub record IsStateText (h : Hierarchy) (s : FireState) (text : List ℕ) : Type 0 where
  pub program : Program
  pub is_program : IsProgram h s.main program
  pub text_is : text ≡ print program s
