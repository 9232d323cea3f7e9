-- The value of a literal, by its variants.
use Rattle.std.proofs.Common.{◌≡◌, ℕ, ℤ, Bool, List, map, ap, sym, ◌∙◌}
use Rattle.g_types.specs.declared.ty.Ty.{Ty, out-Ty}
use Rattle.g_values.specs.Default.{default}
use Rattle.g_values.specs.declared.value.Value.{Value}
use Rattle.g_values.specs.declared.value.Value.TheVariants as value
use Rattle.g_diagram.specs.declared.panel.Lit.{Lit}
use Rattle.g_diagram.specs.declared.panel.Lit.TheVariants as lit
use Rattle.g_diagram.specs.declared.panel.Lit.TheOpen.{Lit-F}
use Rattle.g_diagram.specs.declared.panel.Lit.TheFolds.{fold-roll-Lit}
use Rattle.g_literals.specs.Values.{literal_value, value_step, number_in, array_in, cluster_in}

at : {A B : Type 0} (f g : A → B) (a : A) → f ≡ g → f a ≡ g a
at f g a e = ap (λ h. h a) e

pub of-Number : (n : ℤ) (t : Ty) → literal_value (lit.Number n) t ≡ number_in n (out-Ty t)
of-Number n t = at (literal_value (lit.Number n)) (value_step (Lit-F.Number n)) t (ap literal_value (sym (lit.rolls-Number n)) ∙ fold-roll-Lit (Ty → Value) value_step (Lit-F.Number n))

pub of-Truth : (b : Bool) (t : Ty) → literal_value (lit.Truth b) t ≡ value.Bool b
of-Truth b t = at (literal_value (lit.Truth b)) (value_step (Lit-F.Truth b)) t (ap literal_value (sym (lit.rolls-Truth b)) ∙ fold-roll-Lit (Ty → Value) value_step (Lit-F.Truth b))

pub of-Text : (s : List ℕ) (t : Ty) → literal_value (lit.Text s) t ≡ value.Str s
of-Text s t = at (literal_value (lit.Text s)) (value_step (Lit-F.Text s)) t (ap literal_value (sym (lit.rolls-Text s)) ∙ fold-roll-Lit (Ty → Value) value_step (Lit-F.Text s))

pub of-Null : (t : Ty) → literal_value lit.Null t ≡ default t
of-Null t = at (literal_value lit.Null) (value_step Lit-F.Null) t (ap literal_value (sym lit.rolls-Null) ∙ fold-roll-Lit (Ty → Value) value_step Lit-F.Null)

pub of-Array : (ls : List Lit) (t : Ty) → literal_value (lit.Array ls) t ≡ array_in (map literal_value ls) (out-Ty t)
of-Array ls t = at (literal_value (lit.Array ls)) (value_step (Lit-F.Array (map literal_value ls))) t (ap literal_value (sym (lit.rolls-Array ls)) ∙ fold-roll-Lit (Ty → Value) value_step (Lit-F.Array ls))

pub of-Cluster : (ls : List Lit) (t : Ty) → literal_value (lit.Cluster ls) t ≡ cluster_in (map literal_value ls) (out-Ty t)
of-Cluster ls t = at (literal_value (lit.Cluster ls)) (value_step (Lit-F.Cluster (map literal_value ls))) t (ap literal_value (sym (lit.rolls-Cluster ls)) ∙ fold-roll-Lit (Ty → Value) value_step (Lit-F.Cluster ls))

pub ruleset values = (of-Number, of-Truth, of-Text, of-Null, of-Array, of-Cluster)
