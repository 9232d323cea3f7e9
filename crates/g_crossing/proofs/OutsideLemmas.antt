-- What lines give outside, with the values of their kept registers one after another.
use Rattle.std.proofs.Common.{◌≡◌, ◌+◌, ◌-◌, ◌≤◌, ℕ, zero, suc, Bor, List, [], ◌∷◌, ◌++◌, map, take, drop, min, length, refl, sym, ap, ◌∙◌, arith}
use Rattle.std.specs.Prelude.{Option, Some, None, slice_get}
use Rattle.std.specs.Option.{option_map, option_and_then, option_copied}
use Rattle.g_types.specs.declared.ty.Ty.{Ty, out-Ty}
use Rattle.g_literals.specs.Values.{array_of}
use Rattle.g_values.specs.declared.value.Value.{Value}
use Rattle.g_values.specs.Proper.{most}
use Rattle.g_diagram.specs.Lines.{Wire}
use Rattle.g_diagram.specs.Lines as lines
use Rattle.g_diagram_table.specs.declared.entry.Part.{Part}
use Rattle.g_diagram_table.specs.Seen.{seen_part}
use Rattle.g_diagram.specs.declared.node.Tunnel.{Tunnel}
use Rattle.g_diagram.specs.declared.node.Tunnel.TheVariants as line
use Rattle.g_diagram.specs.Operands.{Outside, border}
use Rattle.g_border.specs.Lines.{Leaving, latest, gathered, default_at, value_in, register_value, values_outside, line_outside, lines_outside, other_values, parts_outside}
use Rattle.g_border.specs.Loops.{kept_lines}
use Rattle.g_frames.specs.Operations.{input_at}
use Rattle.g_frames.specs.Program.{FlatVi}
use Rattle.g_crossing.specs.declared.outside.Leaving.{Leaving as Held}
use Rattle.g_crossing.specs.Crossing.{IsLeaving, kept_on, kept_given}
use Rattle.g_crossing.specs.Kept.{kept_value, next_kept, left, outside_from, values_from, kept_from}
use Rattle.g_crossing.proofs.KeptLemmas.{AreKept, kept_here, kept_later}
use Rattle.g_border.specs.Readers.{Reader, Given, given_on, value_on}
use Rattle.g_prims_definitions.specs.Arrays.{within}
use Rattle.g_wire_values.specs.declared.wires.Wires.{Wires}
use Rattle.g_wire_values.specs.Wires.{reader}

map_take : {A B : Type 0} (f : A → B) (n : ℕ) (xs : List A) → map f (take n xs) ≡ take n (map f xs)
map_take f zero xs = refl
map_take f (suc n) [] = refl
map_take f (suc n) (x ∷ xs) = ap (λ ys. f x ∷ ys) (map_take f n xs)

-- the values on a wire in the first frames
pub first_frames : (w : Wire) (ws xs : List Wires) → ws ≡ take most xs → map (λ r. value_on r w) (map reader ws) ≡ within (map (λ r. value_on r w) (map reader xs))
first_frames w ws xs e =
    ap (λ (ys : List Wires). map (λ r. value_on r w) (map reader ys)) e
    ∙ (ap (map (λ r. value_on r w)) (map_take reader most xs) ∙ map_take (λ r. value_on r w) most (map reader xs))

pub gathered_frames : (o : Option (Bor Ty)) (t : Bor Ty) (w : Wire) (ws xs : List Wires) → o ≡ Some t → ws ≡ take most xs
    → array_of t.now (out-Ty t.now) (map (λ r. value_on r w) (map reader ws)) ≡ gathered (option_copied o) (map (λ r. value_on r w) (map reader xs))
gathered_frames o t w ws xs e f =
    ap (array_of t.now (out-Ty t.now)) (first_frames w ws xs f)
    ∙ ap (λ (p : Option (Bor Ty)). gathered (option_copied p) (map (λ r. value_on r w) (map reader xs))) (sym e)

pub last_mapped : (ws : List Wires) → option_map reader (slice_get ws (length ws - 1)) ≡ latest (map reader ws)
last_mapped [] = refl
last_mapped (w ∷ []) = refl
last_mapped (w ∷ v ∷ ws) =
    let next : length (w ∷ v ∷ ws) - 1 ≡ suc (length (v ∷ ws) - 1) = omega arith in
    ap (λ (n : ℕ). option_map reader (slice_get (w ∷ v ∷ ws) n)) next ∙ last_mapped (v ∷ ws)

-- a sequence whose parts or frames have come to their end
no_frames : (o : Reader) (types : ℕ → List ℕ → Option Ty) (ps : List lines.Part) → parts_outside o ps [] types ≡ []
no_frames o types [] = refl
no_frames o types (p ∷ ps) = refl

drop_none : {A : Type 0} (n : ℕ) → drop {A = A} n [] ≡ []
drop_none zero = refl
drop_none (suc n) = refl

pub parts_end : (o : Reader) (types : ℕ → List ℕ → Option Ty) (n : ℕ) (ps : List Part) (ws : List Wires) → min (length ps) (length ws) ≤ n
    → parts_outside o (map seen_part (drop n ps)) (map reader (drop n ws)) types ≡ []
parts_end o types n [] ws h = ap (λ (xs : List Part). parts_outside o (map seen_part xs) (map reader (drop n ws)) types) (drop_none n)
parts_end o types n (p ∷ ps) [] h =
    ap (λ (xs : List Wires). parts_outside o (map seen_part (drop n (p ∷ ps))) (map reader xs) types) (drop_none n) ∙ no_frames o types (map seen_part (drop n (p ∷ ps)))
parts_end o types zero (p ∷ ps) (w ∷ ws) h = absurd (omega (arith, h))
parts_end o types (suc n) (p ∷ ps) (w ∷ ws) h = parts_end o types n ps ws (omega (arith, h))

abbrev of_parts : (outer : Reader) → (inner : List Reader) → (kept : ℕ → Value) → (types : List ℕ → Option Ty) → Leaving
of_parts o i k t = record { outer = o; inner = i; kept = k; types = t }

type_on : (s u : List ℕ → Option Ty) → ((name : List ℕ) → s name ≡ u name) → (w : Wire) → option_and_then s w ≡ option_and_then u w
type_on s u same None = refl
type_on s u same (Some name) = same name

-- a line reads types by name, and of registers its own alone
kept_on_line : (o : Reader) (i : List Reader) (s u : List ℕ → Option Ty) (kept : ℕ → Value) (n l : ℕ) (t : Tunnel) (ts : List Tunnel) (k : ℕ) (vs : List Value) → ((name : List ℕ) → s name ≡ u name) → AreKept kept l (t ∷ ts) k vs
    → values_outside (of_parts o i (λ m. kept_value vs k) s) n t ≡ values_outside (of_parts o i kept u) l t
kept_on_line o i s u kept n l (line.Kept t inner next last) ts k vs same h =
    ap (λ (v : Value). register_value (latest i) v t next ∷ []) (sym (kept_here kept l t inner next last ts k vs h))
kept_on_line o i s u kept n l (line.Tunnel outer inner) ts k vs same h = refl
kept_on_line o i s u kept n l (line.Register initial inner next last) ts k vs same h = refl
kept_on_line o i s u kept n l (line.Last inner outer) ts k vs same h =
    ap (λ (t : Option Ty). value_in (latest i) inner (default_at t) ∷ []) (type_on s u same inner)
kept_on_line o i s u kept n l (line.Gather inner outer) ts k vs same h =
    ap (λ (t : Option Ty). gathered t (map (λ r. value_on r inner) i) ∷ []) (type_on s u same inner)
kept_on_line o i s u kept n l (line.Index array inner) ts k vs same h = refl
kept_on_line o i s u kept n l (line.Result outer default) ts k vs same h = refl
kept_on_line o i s u kept n l (line.Carry earlier inner) ts k vs same h = refl
kept_on_line o i s u kept n l (line.Ref reference inner next same_out code) ts k vs same h = refl
kept_on_line o i s u kept n l (line.Element array index inner next outer) ts k vs same h = refl
kept_on_line o i s u kept n l (line.Field field cluster inner next outer) ts k vs same h = refl

on_line : (first : ℕ) (lines : List Tunnel) (c : Held) (vi : FlatVi) (e : Leaving) → IsLeaving first lines c vi e → (n l : ℕ) (t : Tunnel) (ts : List Tunnel) (k : ℕ) → AreKept e.kept l (t ∷ ts) k c.kept.now
    → values_outside (left vi c (kept_value c.kept.now k)) n t ≡ values_outside e l t
on_line first lines c vi e is n l t ts k h =
    let v : Value = kept_value c.kept.now k in
    ap (λ (o : Reader). values_outside (of_parts o (map reader c.inner.now) (λ m. v) (vi.types c.body)) n t) (sym is.outer_is)
    ∙ (ap (λ (i : List Reader). values_outside (of_parts e.outer i (λ m. v) (vi.types c.body)) n t) (sym is.inner_is)
    ∙ kept_on_line e.outer e.inner (vi.types c.body) e.types e.kept n l t ts k c.kept.now (λ name. sym (is.types_are name)) h)

lines_all : (first : ℕ) (lines : List Tunnel) (c : Held) (vi : FlatVi) (e : Leaving) → IsLeaving first lines c vi e → (l : ℕ) (ts : List Tunnel) (k : ℕ) → AreKept e.kept l ts k c.kept.now
    → outside_from vi c k l ts ≡ lines_outside e l ts
lines_all first lines c vi e is l [] k h = refl
lines_all first lines c vi e is l (t ∷ ts) k h =
    ap (λ (vs : List Value). given_on Outside l (border t) vs ++ outside_from vi c (next_kept t k) (l + 1) ts) (on_line first lines c vi e is l l t ts k h)
    ∙ ap (λ (g : Given). line_outside e l t ++ g) (lines_all first lines c vi e is (l + 1) ts (next_kept t k) (kept_later e.kept l t ts k c.kept.now h))

values_all : (first : ℕ) (lines : List Tunnel) (c : Held) (vi : FlatVi) (e : Leaving) → IsLeaving first lines c vi e → (l : ℕ) (ts : List Tunnel) (k : ℕ) → AreKept e.kept l ts k c.kept.now
    → values_from vi c k ts ≡ other_values e l ts
values_all first lines c vi e is l [] k h = refl
values_all first lines c vi e is l (t ∷ ts) k h =
    ap (λ (vs : List Value). vs ++ values_from vi c (next_kept t k) ts) (on_line first lines c vi e is 0 l t ts k h)
    ∙ ap (λ (g : List Value). values_outside e l t ++ g) (values_all first lines c vi e is (l + 1) ts (next_kept t k) (kept_later e.kept l t ts k c.kept.now h))

kept_all : (first : ℕ) (lines : List Tunnel) (c : Held) (vi : FlatVi) (e : Leaving) → IsLeaving first lines c vi e → (l : ℕ) (ts : List Tunnel) (k : ℕ) → AreKept e.kept l ts k c.kept.now
    → kept_from vi c k l ts ≡ kept_given e l ts
kept_all first lines c vi e is l [] k h = refl
kept_all first lines c vi e is l (t ∷ ts) k h =
    ap (λ (vs : List Value). map (λ (r : ℕ × Ty). (r.0, input_at vs 0)) (kept_lines l t) ++ kept_from vi c (next_kept t k) (l + 1) ts) (on_line first lines c vi e is l l t ts k h)
    ∙ ap (λ (g : List (ℕ × Value)). kept_on e l t ++ g) (kept_all first lines c vi e is (l + 1) ts (next_kept t k) (kept_later e.kept l t ts k c.kept.now h))

starts : (first : ℕ) (lines : List Tunnel) (c : Held) (vi : FlatVi) (e : Leaving) → IsLeaving first lines c vi e → AreKept e.kept first lines 0 c.kept.now
starts first lines c vi e is = record { at = λ m below. is.kept_is m }

pub left_lines : (first : ℕ) (lines : List Tunnel) (c : Held) (vi : FlatVi) (e : Leaving) → IsLeaving first lines c vi e → outside_from vi c 0 first lines ≡ lines_outside e first lines
left_lines first lines c vi e is = lines_all first lines c vi e is first lines 0 (starts first lines c vi e is)

pub left_values : (first : ℕ) (lines : List Tunnel) (c : Held) (vi : FlatVi) (e : Leaving) → IsLeaving first lines c vi e → values_from vi c 0 lines ≡ other_values e first lines
left_values first lines c vi e is = values_all first lines c vi e is first lines 0 (starts first lines c vi e is)

pub left_kept : (first : ℕ) (lines : List Tunnel) (c : Held) (vi : FlatVi) (e : Leaving) → IsLeaving first lines c vi e → kept_from vi c 0 first lines ≡ kept_given e first lines
left_kept first lines c vi e is = kept_all first lines c vi e is first lines 0 (starts first lines c vi e is)
