-- Inner: what a scan of all nodes finds, and what it tells of the end of a run.
use Rattle.std.specs.Prelude.{ℕ, Bool, ◌&&◌, not, List, [], ◌∷◌, ◌++◌, Option, is_some, codes, if◌then◌else◌}
use Rattle.std.specs.List.{list_any}
use Rattle.std.specs.Fmt.{decimal}
use Rattle.g_frames.specs.declared.state.End.{End}
use Rattle.g_frames.specs.declared.state.End.TheVariants.{Complete, Spent, Stalled, Unfinished}
use Rattle.g_frames.specs.Program.{Program}
use Rattle.g_frames.specs.State.{FireState, reader_in}
use Rattle.g_frames.specs.Fire.{effect_with, is_ready}
use Rattle.g_frames.specs.Run.{firing, Standing, choices_of, may_wait}
use Rattle.g_run_ends.specs.declared.verdict.Verdict.{Verdict}

-- whether a node can fire with a choice, where the limit leaves room or not
abbrev pub fires : Program → (has_room : Bool) → FireState → (frame line : ℕ) → (choice : Option ℕ) → Bool
fires p room s frame line choice = is_some (effect_with p room s (firing frame line choice))

-- whether it can fire with some choice
abbrev pub goes : Program → (has_room : Bool) → FireState → Standing → Bool
goes p room s n = list_any (fires p room s n.number n.entry.line) (choices_of p s.objects n.entry.kind)

-- what is found of a node
abbrev pub judged : Program → (has_room : Bool) → FireState → Standing → Verdict
judged p room s n = record {
  frame = n.number;
  node = n.entry.line;
  goes = goes p room s n;
  waits = is_ready (reader_in n.vi n.frame) n.entry n.progress && (may_wait p n.entry.kind n.progress && not (goes p room s n));
}

-- a line for a node that waits
abbrev pub verdict_line : Verdict → List ℕ
verdict_line v = if v.waits then codes "waiting " ++ (decimal v.frame ++ (32 ∷ (decimal v.node ++ (10 ∷ [])))) else []

abbrev pub verdict_lines : List Verdict → List ℕ
verdict_lines [] = []
verdict_lines (v ∷ vs) = verdict_line v ++ verdict_lines vs

-- how a run ended
abbrev pub lines_by : (begun : ℕ) → List Verdict → End → List ℕ
lines_by begun vs Complete = []
lines_by begun vs Spent = codes "spent " ++ (decimal begun ++ (10 ∷ []))
lines_by begun vs Stalled = codes "stalled\n" ++ verdict_lines vs
lines_by begun vs Unfinished = codes "unfinished\n"
