-- Values at places.
use Rattle.std.proofs.Common.{◌≡◌, List, [], ◌∷◌, ◌++◌, length, refl, ap, sym, ◌∙◌, arith}
use Rattle.std.proofs.lemmas.List.{append-nil}
use Rattle.g_values.specs.declared.value.Value.{Value}
use Rattle.g_border.specs.declared.place.WireSource.{WireSource}
use Rattle.g_border.specs.Readers.{Given, paired}

none_left : (ps : List WireSource) (vs : List Value) → length vs ≡ 0 → paired ps vs ≡ []
none_left [] vs e = refl
none_left (p ∷ ps) [] e = refl
none_left (p ∷ ps) (v ∷ vs) e = absurd (omega (arith, e))

-- where no value is left, all are given
pub all_given : (given : Given) (ps : List WireSource) (vs : List Value) → length vs ≡ 0 → given ≡ given ++ paired ps vs
all_given given ps vs e = sym (ap (λ (more : Given). given ++ more) (none_left ps vs e) ∙ append-nil given)
