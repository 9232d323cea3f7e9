use Rattle.std.proofs.Common.{◌≡◌, ◌≢◌, suc, Bool, true, false, List, [], ◌∷◌, ◌&&◌, map, length, refl, ap, ◌∙◌}
use Rattle.g_types.specs.declared.ty.Ty.{Ty}
use Rattle.g_diagram.specs.declared.panel.Lit.{Lit}
use Rattle.g_typing.specs.Literals.{are_each, is_value_of}
use Rattle.g_rules_types.proofs.literals.+literal.Goals as goal

none_and : (b : Bool) → false ≡ (b && false)
none_and true = refl
none_and false = refl

other_lengths : (ls : List Lit) (ts : List Ty) → length ls ≢ length ts → false ≡ are_each (map is_value_of ls) ts
other_lengths [] [] h = absurd (h refl)
other_lengths [] (t ∷ ts) h = refl
other_lengths (l ∷ ls) [] h = refl
other_lengths (l ∷ ls) (t ∷ ts) h = none_and (is_value_of l t) ∙ ap (λ b. is_value_of l t && b) (other_lengths ls ts (λ e. h (ap suc e)))

pub are_each-returns-then-items-types : goal.are_each-returns-then-items-types
are_each-returns-then-items-types t c = other_lengths c.args.items.now c.args.types.now c.if-items-types.true
