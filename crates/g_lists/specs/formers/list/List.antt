-- How a `List` holds its items, for a type that reaches itself through it: its shape is that of a list.
use mathlib.Core.Path.{◌≡◌, refl, sym}
use mathlib.Core.List as core
use mathlib.Core.Former.{Former, this, list, via, children}
use base.Stored.{code_map}
use denote.RattleType.{RattleType}
use denote.HoleLaws.{Alike}
use denote.HolePlaces.{Recodes, struct_places, laid}
use denote.Hole.Carrier.{listed, list-listed}
use denote.Hole.Fix.{over}
use denote.Param.Weighed.{Weighed, w_list}
use denote.Model.Placed.{view_places}
use Rattle.std.specs.formers.vec.Vec as vector
use Rattle.std.specs.declared.alloc.Global.{Global}
use Rattle.std.specs.contracts.alloc.Global as global
use Rattle.std.specs.contracts.impls.GlobalAllocator.TheImpl.{ghosts}
use Rattle.g_lists.specs.declared.list.List.TheInside.{Inside}
use Rattle.g_lists.specs.declared.list.List.TheView.{view, invariant}
use Rattle.g_lists.specs.contracts.list.List as own
use Rattle.g_lists.specs.contracts.list.List.TheInside as inside

abbrev pub the_former : Former {0} → Former {0}
the_former item = list item

abbrev pub the_weighed : {item : Former {0}} → Weighed item → Weighed (the_former item)
the_weighed weight = w_list weight

-- a list of no items is there for each type
abbrev pub the_empty : core.List ⊥
the_empty = core.[]

abbrev pub the_items : (X : Type 0) → core.List X → core.List X
the_items X xs = xs

pub the_items_listed : (X : Type 0) (xs : core.List X) → listed _ (children (the_former this) X xs) ≡ the_items X xs
the_items_listed X xs = list-listed X xs

-- the one field, a vector
abbrev stored : Former {0}
stored = via (vector.the_former this Global) Inside (λ X whole. whole.kept) (λ X kept. record { kept = kept }) (λ X whole. refl) (λ X kept. refl)

module _ (From To : RattleType) (change : From.Denot → To.Denot) where
  pub the_places : Alike From To change → Alike (own.the_row From) (own.the_row To) ((the_former this).map From.Denot To.Denot change)
  the_places alike =
      let kept = vector.the_places global.the_row ghosts From To change alike in
      view_places stored (list this) view (λ X Y f whole. refl) (λ X whole. refl) From.Denot To.Denot change (own.the_row From).coded (own.the_row To).coded
      (invariant From.Denot) (invariant To.Denot) (λ whole p q. refl) (λ whole p q. refl) (λ whole p. tt) (λ whole p. tt)
      (over (inside.the_row From)) (over (inside.the_row To))
      (struct_places (inside.the_type From) (inside.the_type To) (vector.mapped change, tt) _ (λ whole. refl) refl (laid _ _ _ kept, tt))

  pub the_codes_placed : Recodes From To change → Recodes (own.the_row From) (own.the_row To) ((the_former this).map From.Denot To.Denot change)
  the_codes_placed same xs = sym (code_map From.coded.code To.coded.code change (λ x. sym (same x)) xs)
