-- Texts of values, by the values' variants.
use Rattle.std.proofs.Common.{◌≡◌, ℕ, pos, negsuc, Bool, true, false, List, [], ◌∷◌, map, Some, None, codes, refl, sym, ap, ◌∙◌}
use Rattle.std.specs.Fmt.{signed_decimal, digits}
use Rattle.g_types.specs.declared.rep.Rep.TheVariants.{I8, I64, U64}
use Rattle.g_types.specs.declared.ty.Ty.TheVariants as ty
use Rattle.g_values.specs.declared.num.Num.{Num}
use Rattle.g_values.specs.declared.value.ArrOf.{ArrOf}
use Rattle.g_values.specs.declared.value.RefValue.{RefValue}
use Rattle.g_values.specs.declared.value.Value.{Value}
use Rattle.g_values.specs.declared.value.Value.TheVariants as value
use Rattle.g_values.specs.declared.value.Value.TheOpen.{Value-F}
use Rattle.g_values.specs.declared.value.Value.TheFolds.{fold-roll-Value}
use Rattle.g_values.specs.Number.{num_of}
use Rattle.g_values.specs.Numbers.{Numbers}
use Rattle.g_values.specs.Text.{text, text_step, truth_text, quoted, bracketed, braced, reference_text}

pub text-Num : (x : Num) → text (value.Num x) ≡ signed_decimal x.n
text-Num x = ap text (sym (value.rolls-Num x)) ∙ fold-roll-Value (List ℕ) text_step (Value-F.Num x)

pub text-Bool : (b : Bool) → text (value.Bool b) ≡ truth_text b
text-Bool b = ap text (sym (value.rolls-Bool b)) ∙ fold-roll-Value (List ℕ) text_step (Value-F.Bool b)

pub text-Str : (bytes : List ℕ) → text (value.Str bytes) ≡ quoted bytes
text-Str bytes = ap text (sym (value.rolls-Str bytes)) ∙ fold-roll-Value (List ℕ) text_step (Value-F.Str bytes)

pub text-Nums : (xs : Numbers) → text (value.Nums xs) ≡ bracketed (map signed_decimal xs.all)
text-Nums xs = ap text (sym (value.rolls-Nums xs)) ∙ fold-roll-Value (List ℕ) text_step (Value-F.Nums xs)

pub text-Arr : (xs : ArrOf Value) → text (value.Arr xs) ≡ bracketed (map text xs.items)
text-Arr xs = ap text (sym (value.rolls-Arr xs)) ∙ fold-roll-Value (List ℕ) text_step (Value-F.Arr xs)

pub text-Cluster : (items : List Value) → text (value.Cluster items) ≡ braced (map text items)
text-Cluster items = ap text (sym (value.rolls-Cluster items)) ∙ fold-roll-Value (List ℕ) text_step (Value-F.Cluster items)

pub text-Queue : (r : RefValue) → text (value.Queue r) ≡ reference_text r.at
text-Queue r = ap text (sym (value.rolls-Queue r)) ∙ fold-roll-Value (List ℕ) text_step (Value-F.Queue r)

pub text-Cell : (r : RefValue) → text (value.Cell r) ≡ reference_text r.at
text-Cell r = ap text (sym (value.rolls-Cell r)) ∙ fold-roll-Value (List ℕ) text_step (Value-F.Cell r)

-- ---- worked examples

-- numbers at both ends
ends : text (value.Cluster (value.Num (num_of I64 (negsuc 9223372036854775807)) ∷ value.Num (num_of U64 (pos 18446744073709551615)) ∷ value.Num (num_of I8 (pos 0)) ∷ [])) ≡ codes "{-9223372036854775808, 18446744073709551615, 0}"
unfolding digits
ends = rw (text-Cluster, text-Num, text-Num, text-Num) refl

-- each kind of byte
escapes : text (value.Str (97 ∷ 34 ∷ 92 ∷ 10 ∷ 126 ∷ 127 ∷ 255 ∷ [])) ≡ codes "\"a\\\"\\\\\\x0A~\\x7F\\xFF\""
escapes = text-Str _

arrays : text (value.Arr (record { elem = ty.Bool; items = value.Bool true ∷ value.Bool false ∷ [] })) ≡ codes "[TRUE, FALSE]"
arrays = rw (text-Arr, text-Bool, text-Bool) refl

numbers : text (value.Nums (record { rep = I8; all = pos 7 ∷ negsuc 0 ∷ [] })) ≡ codes "[7, -1]"
unfolding digits
numbers = text-Nums _

references : text (value.Cluster (value.Queue (record { elem = ty.Str; at = None }) ∷ value.Cell (record { elem = ty.Str; at = Some (record { object = 0; serial = 1 }) }) ∷ [])) ≡ codes "{null, ref}"
references = rw (text-Cluster, text-Queue, text-Cell) refl
