-- How a `Boxed` holds its value, for a type that reaches itself through it: it is the value.
use mathlib.Core.Path.{refl}
use mathlib.Core.Former.{Former, this, const, pair, via}
use base.Stored.{gnil}
use base.Fml.{ftrue}
use denote.RattleType.{RattleType}
use denote.Memory.{part_of}
use denote.RawPtr.{Ptr}
use denote.Sharing.{nothing}
use denote.HoleLaws.{Alike}
use denote.HolePlaces.{Recodes, struct_places, laid, one_value}
use denote.Hole.Fix.{over}
use denote.Param.Weighed.{Weighed}
use denote.Model.Placed.{view_places}
use Rattle.std.specs.declared.boxed.Box.{Box}
use Rattle.std.specs.contracts.boxed.Box as heap
use Rattle.std.specs.declared.alloc.Global.{Global}
use Rattle.std.specs.contracts.alloc.Global as global
use Rattle.std.specs.contracts.impls.GlobalAllocator.TheImpl.{ghosts}
use Rattle.g_lists.specs.declared.boxed.Boxed.TheInside.{Inside}
use Rattle.g_lists.specs.declared.boxed.Boxed.TheView.{view, invariant}
use Rattle.g_lists.specs.contracts.boxed.Boxed as own
use Rattle.g_lists.specs.contracts.boxed.Boxed.TheInside as inside

abbrev pub the_former : Former {0} → Former {0}
the_former kept = kept

abbrev pub the_weighed : {kept : Former {0}} → Weighed kept → Weighed (the_former kept)
the_weighed weight = weight

-- the one field: a block of the heap, and the value in it
abbrev stored : Former {0}
stored = via (pair (const (Ptr × Global)) this) Inside (λ X whole. ((whole.kept.ptr, whole.kept.alloc), whole.kept.value))
    (λ X parts. record { kept = record { ptr = parts.0.0; alloc = parts.0.1; value = parts.1 } }) (λ X whole. refl) (λ X parts. refl)

-- the same block with another value in it
abbrev holding : {X Y : Type 0} → Box X Global → Y → Box Y Global
holding block value = record { ptr = block.ptr; alloc = block.alloc; value = value }

abbrev row_of : RattleType → RattleType
row_of R = heap.the_row R global.the_row ghosts

module _ (From To : RattleType) (change : From.Denot → To.Denot) where
  block_places : Alike From To change → Alike (row_of From) (row_of To) (λ block. holding block (change block.value))
  unfolding part_of
  block_places alike = record {
    mir_same = λ i. (row_of (one_value From (alike.mir_same i) (λ _. ftrue) (λ _ _. nothing) gnil)).mir;
    own_same = λ block i. (row_of (one_value From (alike.mir_same i) (alike.own_same block.value i) (alike.shr_same block.value i) gnil)).own_val (holding block tt);
    shr_same = λ block i. (row_of (one_value From (alike.mir_same i) (alike.own_same block.value i) (alike.shr_same block.value i) gnil)).shr_at (holding block tt);
  }

  pub the_places : Alike From To change → Alike (own.the_row From) (own.the_row To) ((the_former this).map From.Denot To.Denot change)
  the_places alike =
      view_places stored this view (λ X Y f whole. refl) (λ X whole. refl) From.Denot To.Denot change (own.the_row From).coded (own.the_row To).coded
      (invariant From.Denot) (invariant To.Denot) (λ whole p q. refl) (λ whole p q. refl) (λ whole p. tt) (λ whole p. tt)
      (over (inside.the_row From)) (over (inside.the_row To))
      (struct_places (inside.the_type From) (inside.the_type To) ((λ block. holding block (change block.value)), tt) _ (λ whole. refl) refl (laid _ _ _ (block_places alike), tt))

  pub the_codes_placed : Recodes From To change → Recodes (own.the_row From) (own.the_row To) ((the_former this).map From.Denot To.Denot change)
  the_codes_placed same value = same value
