-- How many lines and nodes a VI has.
use Rattle.std.specs.Prelude.{ℕ, ◌+◌, min, map, length}
use Rattle.g_diagram.specs.declared.hierarchy.Vi.{Vi}
use Rattle.g_diagram.specs.Lines.{lines_of, count_of, entries_of}

-- its `vi` line, its panel, its nodes and its `end`
abbrev pub vi_lines : Vi → ℕ
vi_lines vi = 2 + length vi.panel + count_of (map lines_of vi.top.nodes)

-- the node lines at every depth, and the wired indicators
abbrev pub vi_nodes : Vi → ℕ
vi_nodes vi = length (entries_of vi)

-- a number as it is told: kept at 2^32 - 1
abbrev pub told : ℕ → ℕ
told n = min n 4294967295
