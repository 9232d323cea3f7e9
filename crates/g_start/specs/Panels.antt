-- Inner: the panels of the data spaces whose controls nothing sets.
use Rattle.std.specs.Prelude.{List, map}
use Rattle.g_hier.specs.declared.linked.Space.{Space}
use Rattle.g_frames.specs.Contents.{Content}
use Rattle.g_frames.specs.Panels.{control_defaults}
use Rattle.g_frames.specs.Program.{Program}
use Rattle.g_frames.specs.State.{first_panel, panel_items}

abbrev pub default_panels : Program → List Space → List Content
default_panels p ss = map (λ s. first_panel (control_defaults (panel_items p s.vi)) (panel_items p s.vi)) ss
