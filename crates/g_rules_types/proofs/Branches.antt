-- The selectors of all branches of a case.
use Rattle.std.proofs.Common.{◌≡◌, Bool, true, false, ◌||◌, List, [], ◌∷◌, ◌++◌, refl, ap, ◌∙◌}
use Rattle.std.specs.List.{list_any}
use Rattle.g_diagram.specs.Lines.{Arm}
use Rattle.g_diagram.specs.declared.node.Selector.{Selector}
use Rattle.g_types.specs.declared.ty.Ty.{Ty}
use Rattle.g_rules_cases.specs.Searched.{leaves_none}
use Rattle.g_rules_cases.proofs.Deciding.{by_search}
use Rattle.g_typing.specs.Selected.{selectors_of, is_no, is_complete}

or_assoc : (a b c : Bool) → (a || (b || c)) ≡ ((a || b) || c)
or_assoc true b c = refl
or_assoc false b c = refl

any_append : {X : Type 0} (p : X → Bool) (xs ys : List X) → list_any p (xs ++ ys) ≡ (list_any p xs || list_any p ys)
any_append p [] ys = refl
any_append p (x ∷ xs) ys = ap (λ b. p x || b) (any_append p xs ys) ∙ or_assoc (p x) (list_any p xs) (list_any p ys)

pub any_more : (p : Selector → Bool) (arm : Arm) (arms : List Arm) → list_any p (arm.selectors ++ selectors_of arms) ≡ (list_any p arm.selectors || list_any p (selectors_of arms))
any_more p arm arms = any_append p arm.selectors (selectors_of arms)

found : (t : Ty) (ss : List Selector) (b : Bool) (e : leaves_none ss t ≡ b) → is_no (by_search t ss b e) ≡ b
found t ss true e = refl
found t ss false e = refl

-- each value of the type has a branch exactly where the search leaves none
pub is_found : (ss : List Selector) (t : Ty) → is_complete ss t ≡ leaves_none ss t
is_found ss t = found t ss (leaves_none ss t) refl
