-- Which values a selector holds, and what a case may leave without a branch.
use Rattle.std.specs.Prelude.{ℕ, ℤ, pos, neg_ℤ, ◌-ℤ◌, ◌≡◌, Bool, true, false, not, ◌&&◌, ◌||◌, List, int_le, int_lt}
use Rattle.std.specs.List.{list_any}
use Rattle.std.specs.Ordering.{int_eq}
use Rattle.std.specs.Str.{bytes_eq}
use Rattle.g_types.specs.declared.rep.Rep.{Rep}
use Rattle.g_types.specs.Rep.{half, size}
use Rattle.g_types.specs.declared.ty.Ty.{Ty}
use Rattle.g_values.specs.Value.{type_of}
use Rattle.g_values.specs.declared.value.Value.{Value, out-Value}
use Rattle.g_values.specs.declared.value.Value.TheOpen.{Value-F}
use Rattle.g_diagram.specs.declared.node.Selector.{Selector}
use Rattle.g_diagram.specs.declared.node.Selector.TheVariants as selector

-- a number of the representation
abbrev pub is_in_range : Rep → ℤ → Bool
is_in_range r n = int_le (neg_ℤ (pos (half r))) n && int_lt n (pos (size r) -ℤ pos (half r))

-- selectors

abbrev pub is_default : Selector → Bool
is_default selector.Default = true
is_default (selector.Number m) = false
is_default (selector.Range low high) = false
is_default (selector.Truth b) = false
is_default (selector.Text t) = false

-- whether it names a number: that number, or a range round it
abbrev pub has_number : ℤ → Selector → Bool
has_number n (selector.Number m) = int_eq n m
has_number n (selector.Range low high) = int_le low n && int_le n high
has_number n (selector.Truth b) = false
has_number n (selector.Text t) = false
has_number n selector.Default = false

abbrev pub tells : Bool → Selector → Bool
tells true (selector.Truth b) = b
tells false (selector.Truth b) = not b
tells b (selector.Number m) = false
tells b (selector.Range low high) = false
tells b (selector.Text t) = false
tells b selector.Default = false

abbrev pub has_text : List ℕ → Selector → Bool
has_text s (selector.Text t) = bytes_eq s t
has_text s (selector.Number m) = false
has_text s (selector.Range low high) = false
has_text s (selector.Truth b) = false
has_text s selector.Default = false

-- values of other types have no selectors of their own
abbrev pub names_at : Value-F Value → Selector → Bool
names_at (Value-F.Num x) s = has_number x.n s
names_at (Value-F.Bool b) s = tells b s
names_at (Value-F.Str t) s = has_text t s
names_at _ s = false

-- `default` holds each value
abbrev pub holds : Value → Selector → Bool
holds v s = is_default s || names_at (out-Value v) s

-- some value of the type that no selector holds
pub record Unheld (t : Ty) (ss : List Selector) : Type 0 where
  pub value : Value
  pub of_type : type_of value ≡ t
  pub held_by_none : list_any (holds value) ss ≡ false
