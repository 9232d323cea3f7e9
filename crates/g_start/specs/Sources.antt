-- Inner: the sources of a diagram of a VI.
use Rattle.std.specs.Prelude.{ℕ}
use Rattle.g_frames.specs.declared.state.DiagramSources.{DiagramSources}
use Rattle.g_frames.specs.Program.{FlatVi}
use Rattle.g_frames.specs.State.{sources_in}

abbrev pub sources_of : (number : ℕ) → FlatVi → (diagram : ℕ) → DiagramSources
sources_of number vi d = record { vi = number; diagram = d; sources = sources_in d vi.ports }
