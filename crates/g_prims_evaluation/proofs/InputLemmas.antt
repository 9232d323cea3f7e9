-- What inputs whose types have a row are.
use Rattle.std.proofs.Common.{◌≡◌, Bool, true, false, ◌||◌, List, [], ◌∷◌, refl, ap, sym, ◌∙◌, subst, ◌<◌, ◌≤◌, length, get_or, arith}
use Rattle.std.specs.Prelude.{is_some}
use Rattle.std.specs.List.{All}
use Rattle.std.proofs.lemmas.List.Elements.{All-head}
use Rattle.g_types.specs.declared.ty.Ty.{Ty, out-Ty}
use Rattle.g_types.specs.declared.ty.Ty.TheOpen.{Ty-F}
use Rattle.g_types.specs.declared.ty.Ty.TheVariants as ty
use Rattle.g_types.specs.Ty.{is_num, is_nums_at}
use Rattle.g_values.specs.Proper.{IsProper, IsWhole, IsLayer, IsArr}
use Rattle.g_values.specs.Value.{type_of}
use Rattle.g_values.specs.declared.primitive.Primitive.{Primitive}
use Rattle.g_values.specs.declared.primitive.Primitive.TheVariants as op
use Rattle.g_values.specs.declared.value.ArrOf.{ArrOf}
use Rattle.g_values.specs.declared.value.Value.{Value, out-Value}
use Rattle.g_values.specs.declared.value.Value.TheVariants as value
use Rattle.g_values.specs.declared.value.Value.TheOpen.{Value-F}
use Rattle.g_values.specs.declared.value.Value.TheFolds.{every_here-Value}
use Rattle.g_values.specs.declared.value.Value.TheViews.{roll-Value, roll-out-Value}
use Rattle.g_values.proofs.TypesOf.{type-Num, type-Bool, type-Nums, type-Arr, type-Cluster, type-Queue, type-Cell}
use Rattle.g_prims_definitions.specs.Conditions.{HasRow}
use Rattle.g_prims_definitions.specs.Kinds.{is_str, is_str_at, is_strs_at}
use Rattle.g_prims_definitions.specs.Row.{read, ends}
use Rattle.g_prims_definitions.specs.Rows.{when, is_sortable}
use Rattle.g_prims_definitions.specs.Strings.{text_at}
use Rattle.g_prims_edits.specs.Texts.{IsText, IsSortable_at}
use Rattle.g_prims_evaluation.specs.Conditions.{AreInOrder}

no_string : (v w : Value) (t : Ty) (l : Ty-F Ty) → v ≡ w → type_of w ≡ t → out-Ty t ≡ l → is_str_at l ≡ false → is_str (type_of v) ≡ true → true ≡ false
no_string v w t l e f g h k = sym k ∙ ap (λ u. is_str (type_of u)) e ∙ ap is_str f ∙ ap is_str_at g ∙ h

-- a value of the type of strings is a string
text_at_level : (v : Value) (l : Value-F Value) → out-Value v ≡ l → is_str (type_of v) ≡ true → IsText v
text_at_level v (Value-F.Str s) e h = sym (roll-out-Value v) ∙ ap roll-Value e ∙ value.rolls-Str s ∙ ap value.Str (sym (ap text_at e))
text_at_level v (Value-F.Num x) e h =
    absurd (let n = no_string v (value.Num x) _ _ (sym (roll-out-Value v) ∙ ap roll-Value e ∙ value.rolls-Num x) (type-Num x) (ty.outs-Num x.rep) refl h in cc)
text_at_level v (Value-F.Bool b) e h =
    absurd (let n = no_string v (value.Bool b) _ _ (sym (roll-out-Value v) ∙ ap roll-Value e ∙ value.rolls-Bool b) (type-Bool b) ty.outs-Bool refl h in cc)
text_at_level v (Value-F.Nums xs) e h =
    absurd (let n = no_string v (value.Nums xs) _ _ (sym (roll-out-Value v) ∙ ap roll-Value e ∙ value.rolls-Nums xs) (type-Nums xs) (ty.outs-Arr (ty.Num xs.rep)) refl h in cc)
text_at_level v (Value-F.Arr xs) e h =
    absurd (let n = no_string v (value.Arr xs) _ _ (sym (roll-out-Value v) ∙ ap roll-Value e ∙ value.rolls-Arr xs) (type-Arr xs) (ty.outs-Arr xs.elem) refl h in cc)
text_at_level v (Value-F.Cluster vs) e h =
    absurd (let n = no_string v (value.Cluster vs) _ _ (sym (roll-out-Value v) ∙ ap roll-Value e ∙ value.rolls-Cluster vs) (type-Cluster vs) (ty.outs-Cluster _) refl h in cc)
text_at_level v (Value-F.Queue r) e h =
    absurd (let n = no_string v (value.Queue r) _ _ (sym (roll-out-Value v) ∙ ap roll-Value e ∙ value.rolls-Queue r) (type-Queue r) (ty.outs-QueueRef r.elem) refl h in cc)
text_at_level v (Value-F.Cell r) e h =
    absurd (let n = no_string v (value.Cell r) _ _ (sym (roll-out-Value v) ∙ ap roll-Value e ∙ value.rolls-Cell r) (type-Cell r) (ty.outs-ValueRef r.elem) refl h in cc)

second : (a b : Bool) → a ≡ false → (a || b) ≡ true → b ≡ true
second true b e h = absurd cc
second false b e h = h

texts : (xs : ArrOf Value) → IsArr xs → is_sortable (ty.Arr xs.elem) ≡ true → IsSortable_at (Value-F.Arr xs)
texts xs a h =
    let both : (is_num xs.elem || is_str xs.elem) ≡ true = sym (ap (λ l. is_nums_at l || is_strs_at l) (ty.outs-Arr xs.elem)) ∙ h in
    let str : is_str xs.elem ≡ true = second (is_num xs.elem) (is_str xs.elem) a.no_number both in
    λ k d lt. text_at_level _ _ refl (ap is_str (a.one_type k d lt) ∙ str)

sortable_at : (a : Value) (l : Value-F Value) → out-Value a ≡ l → IsWhole a → is_sortable (type_of a) ≡ true → IsSortable_at l
sortable_at a (Value-F.Arr xs) e w h =
    let is : a ≡ value.Arr xs = sym (roll-out-Value a) ∙ ap roll-Value e ∙ value.rolls-Arr xs in
    let type : type_of a ≡ ty.Arr xs.elem = ap type_of is ∙ type-Arr xs in
    texts xs (subst IsLayer e (every_here-Value IsLayer a w)) (sym (ap is_sortable type) ∙ h)
sortable_at a _ e w h = tt

shown : (b : Bool) (outs : List Ty) → is_some (read (ends (when b outs)) []) ≡ true → b ≡ true
shown true outs e = refl
shown false outs e = absurd cc

pub in_order : (p : Primitive) (vs : List Value) → All IsProper vs → HasRow p vs → AreInOrder p vs
in_order op.Sort (x ∷ []) all h = sortable_at x (out-Value x) refl (All-head IsProper x [] all).whole (shown (is_sortable (type_of x)) (type_of x ∷ []) h)
in_order _ (x ∷ []) all h = tt
in_order p [] all h = tt
in_order p (x ∷ y ∷ vs) all h = tt

pub pair_of : (vs : List Value) (x y : Value) → 2 ≤ length vs → length vs < 3 → x ≡ get_or vs 0 x → y ≡ get_or vs 1 y → vs ≡ x ∷ y ∷ []
pair_of [] x y least below e f = absurd (omega arith)
pair_of (v ∷ []) x y least below e f = absurd (omega arith)
pair_of (v ∷ w ∷ []) x y least below e f = ap (λ z. z ∷ w ∷ []) (sym e) ∙ ap (λ z. x ∷ z ∷ []) (sym f)
pair_of (v ∷ w ∷ u ∷ vs) x y least below e f = absurd (omega arith)
