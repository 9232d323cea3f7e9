-- The VI of a number and its table.
use Rattle.std.proofs.Common.{◌≡◌, Bool, false, List, [], Option, Some, None}
use Rattle.std.specs.Option.{option_map_or}
use Rattle.g_diagram.specs.declared.panel.PanelItem.{PanelItem}
use Rattle.g_frames.specs.Program.{FlatVi, takes_clone}
use Rattle.g_vi_tables.specs.declared.table.ViTable.{ViTable}
use Rattle.g_vi_tables.specs.Tables.{IsViTable}
use Rattle.g_program.specs.Tables.{AreTables}

pub taken : (o : Option FlatVi) (t : ViTable) (b : Bool) → AreTables o (Some t) → ((vi : FlatVi) → IsViTable vi t → b ≡ takes_clone vi.clones)
    → b ≡ option_map_or (λ vi. takes_clone vi.clones) o false
taken None t b are is = absurd are
taken (Some vi) t b are is = is vi are

pub panel_of : (o : Option FlatVi) (t : ViTable) (items : List PanelItem) → AreTables o (Some t) → ((vi : FlatVi) → IsViTable vi t → items ≡ vi.panel)
    → items ≡ option_map_or (λ vi. vi.panel) o []
panel_of None t items are is = absurd are
panel_of (Some vi) t items are is = is vi are
