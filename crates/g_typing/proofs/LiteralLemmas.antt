-- Whether a literal is a value of a type, by its variants.
use Rattle.std.proofs.Common.{◌≡◌, ℕ, ℤ, Bool, ◌&&◌, List, map, ap, sym, ◌∙◌}
use Rattle.g_types.specs.declared.ty.Ty.{Ty, out-Ty}
use Rattle.g_prims_definitions.specs.Kinds.{is_bool, is_str}
use Rattle.g_diagram.specs.declared.panel.Lit.{Lit}
use Rattle.g_diagram.specs.declared.panel.Lit.TheVariants as lit
use Rattle.g_diagram.specs.declared.panel.Lit.TheOpen.{Lit-F}
use Rattle.g_diagram.specs.declared.panel.Lit.TheFolds.{fold-roll-Lit}
use Rattle.g_typing.specs.Literals.{is_value_of, literal_step, is_number_of, is_short, is_reference_at, is_array_of, is_cluster_of}

at : {A B : Type 0} (f g : A → B) (a : A) → f ≡ g → f a ≡ g a
at f g a e = ap (λ h. h a) e

pub value-Number : (n : ℤ) (t : Ty) → is_value_of (lit.Number n) t ≡ is_number_of n (out-Ty t)
value-Number n t = at (is_value_of (lit.Number n)) (literal_step (Lit-F.Number n)) t (ap is_value_of (sym (lit.rolls-Number n)) ∙ fold-roll-Lit (Ty → Bool) literal_step (Lit-F.Number n))

pub value-Truth : (b : Bool) (t : Ty) → is_value_of (lit.Truth b) t ≡ is_bool t
value-Truth b t = at (is_value_of (lit.Truth b)) (literal_step (Lit-F.Truth b)) t (ap is_value_of (sym (lit.rolls-Truth b)) ∙ fold-roll-Lit (Ty → Bool) literal_step (Lit-F.Truth b))

pub value-Text : (s : List ℕ) (t : Ty) → is_value_of (lit.Text s) t ≡ (is_str t && is_short s)
value-Text s t = at (is_value_of (lit.Text s)) (literal_step (Lit-F.Text s)) t (ap is_value_of (sym (lit.rolls-Text s)) ∙ fold-roll-Lit (Ty → Bool) literal_step (Lit-F.Text s))

pub value-Null : (t : Ty) → is_value_of lit.Null t ≡ is_reference_at (out-Ty t)
value-Null t = at (is_value_of lit.Null) (literal_step Lit-F.Null) t (ap is_value_of (sym lit.rolls-Null) ∙ fold-roll-Lit (Ty → Bool) literal_step Lit-F.Null)

pub value-Array : (ls : List Lit) (t : Ty) → is_value_of (lit.Array ls) t ≡ is_array_of (map is_value_of ls) (out-Ty t)
value-Array ls t = at (is_value_of (lit.Array ls)) (literal_step (Lit-F.Array (map is_value_of ls))) t (ap is_value_of (sym (lit.rolls-Array ls)) ∙ fold-roll-Lit (Ty → Bool) literal_step (Lit-F.Array ls))

pub value-Cluster : (ls : List Lit) (t : Ty) → is_value_of (lit.Cluster ls) t ≡ is_cluster_of (map is_value_of ls) (out-Ty t)
value-Cluster ls t = at (is_value_of (lit.Cluster ls)) (literal_step (Lit-F.Cluster (map is_value_of ls))) t (ap is_value_of (sym (lit.rolls-Cluster ls)) ∙ fold-roll-Lit (Ty → Bool) literal_step (Lit-F.Cluster ls))

pub ruleset literals = (value-Number, value-Truth, value-Text, value-Null, value-Array, value-Cluster)
