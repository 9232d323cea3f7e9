-- Lists of proper values.
use Rattle.std.proofs.Common.{◌≡◌, List, [], ◌∷◌, sym, subst}
use Rattle.std.specs.List.{All}
use Rattle.std.proofs.lemmas.List.Elements.{All-nil, All-cons}
use Rattle.g_values.specs.declared.value.Value.{Value}
use Rattle.g_values.specs.Proper.{IsProper}

pub proper_two : (vs : List Value) (first second : Value) → vs ≡ first ∷ second ∷ [] → IsProper first → IsProper second → All IsProper vs
proper_two vs first second e p q =
    subst (All IsProper) (sym e) (All-cons IsProper first (second ∷ []) p (All-cons IsProper second [] q (All-nil IsProper)))
