-- The code of the shared objects, by which proofs tell them apart: each is stored as one of four.
use Rattle.std.specs.Prelude.{◌≡◌, ◌⊎◌, refl}
use Rattle.std.specs.Coded.{Coded, code_by, coded⊎, coded_list, coded_bool}
use Rattle.std.proofs.Common.{inl, inr}
use Rattle.g_shared.specs.Panels.{PanelState}
use Rattle.g_shared.specs.Queues.{QueueState}
use Rattle.g_shared.specs.Cells.{CellState}
use Rattle.g_shared.specs.Pools.{PoolState}
use Rattle.g_shared.specs.Codes.{panel_code, queue_code, cell_code}
use Rattle.g_frames.specs.Contents.{Content, Panel, Queue, Cell, Pool}

abbrev OneOf : Type 0
OneOf = PanelState ⊎ (QueueState ⊎ (CellState ⊎ PoolState))

abbrev stored : Content → OneOf
stored (Panel s) = inl s
stored (Queue s) = inr (inl s)
stored (Cell s) = inr (inr (inl s))
stored (Pool s) = inr (inr (inr s))

abbrev restored : OneOf → Content
restored (inl s) = Panel s
restored (inr (inl s)) = Queue s
restored (inr (inr (inl s))) = Cell s
restored (inr (inr (inr s))) = Pool s

pub restored_is : (c : Content) → restored (stored c) ≡ c
restored_is (Panel s) = refl
restored_is (Queue s) = refl
restored_is (Cell s) = refl
restored_is (Pool s) = refl

abbrev pub content_code : Coded Content
content_code = code_by OneOf (coded⊎ panel_code (coded⊎ queue_code (coded⊎ cell_code (coded_list coded_bool)))) stored restored restored_is
