-- What lines give inside, with the values of their kept registers one after another.
use Rattle.std.proofs.Common.{◌≡◌, ◌+◌, ℕ, List, [], ◌∷◌, ◌++◌, refl, sym, ap, ◌∙◌}
use Rattle.std.specs.Prelude.{Option, pos}
use Rattle.std.specs.Option.{option_map, option_map_or}
use Rattle.g_values.specs.declared.value.Value.{Value}
use Rattle.g_prims_definitions.specs.Arithmetic.{nothing, number}
use Rattle.g_types.specs.declared.rep.Rep.TheVariants.{I32}
use Rattle.g_diagram.specs.declared.node.Tunnel.{Tunnel}
use Rattle.g_diagram.specs.declared.node.Tunnel.TheVariants as line
use Rattle.g_diagram.specs.Lines.{Wire}
use Rattle.g_diagram.specs.Operands.{Inside, border, loop_header}
use Rattle.g_border.specs.Lines.{Entering, register_value, line_inside, lines_inside}
use Rattle.g_border.specs.Readers.{Reader, Given, given_on, given_at, sources_on}
use Rattle.g_border.specs.Loops.{iteration_inside}
use Rattle.g_wire_values.specs.Wires.{reader}
use Rattle.g_crossing.specs.declared.inside.Entering.{Entering as Held}
use Rattle.g_crossing.specs.Crossing.{IsEntering}
use Rattle.g_crossing.specs.Kept.{kept_value, next_kept, entered, inside_from}
use Rattle.g_crossing.proofs.KeptLemmas.{AreKept, kept_here, kept_later}

abbrev of_parts : (outer : Reader) → (before : Option Reader) → (iteration : ℕ) → (kept : ℕ → Value) → (referred : Value) → Entering
of_parts o b i k r = record { outer = o; before = b; iteration = i; kept = k; referred = r }

kept_on_line : (o : Reader) (b : Option Reader) (i : ℕ) (r : Value) (kept : ℕ → Value) (l : ℕ) (t : Tunnel) (ts : List Tunnel) (k : ℕ) (vs : List Value) → AreKept kept l (t ∷ ts) k vs
    → line_inside (of_parts o b i (λ m. kept_value vs k) r) l t ≡ line_inside (of_parts o b i kept r) l t
kept_on_line o b i r kept l (line.Kept t inner next last) ts k vs h =
    ap (λ (v : Value). given_on Inside l (border (line.Kept t inner next last)) (register_value b v t next ∷ [])) (sym (kept_here kept l t inner next last ts k vs h))
kept_on_line o b i r kept l (line.Tunnel outer inner) ts k vs h = refl
kept_on_line o b i r kept l (line.Register initial inner next last) ts k vs h = refl
kept_on_line o b i r kept l (line.Last inner outer) ts k vs h = refl
kept_on_line o b i r kept l (line.Gather inner outer) ts k vs h = refl
kept_on_line o b i r kept l (line.Index array inner) ts k vs h = refl
kept_on_line o b i r kept l (line.Result outer default) ts k vs h = refl
kept_on_line o b i r kept l (line.Carry earlier inner) ts k vs h = refl
kept_on_line o b i r kept l (line.Ref reference inner next same code) ts k vs h = refl
kept_on_line o b i r kept l (line.Element array index inner next outer) ts k vs h = refl
kept_on_line o b i r kept l (line.Field field cluster inner next outer) ts k vs h = refl

on_line : (first : ℕ) (lines : List Tunnel) (c : Held) (e : Entering) → IsEntering first lines c e → (l : ℕ) (t : Tunnel) (ts : List Tunnel) (k : ℕ) → AreKept e.kept l (t ∷ ts) k c.kept.now
    → line_inside (entered c (kept_value c.kept.now k)) l t ≡ line_inside e l t
on_line first lines c e is l t ts k h =
    let v : Value = kept_value c.kept.now k in
    let b : Option Reader = option_map reader c.before in
    let r : Value = option_map_or (λ r. r.now) c.referred nothing in
    ap (λ (o : Reader). line_inside (of_parts o b c.iteration (λ m. v) r) l t) (sym is.outer_is)
    ∙ (ap (λ (b : Option Reader). line_inside (of_parts e.outer b c.iteration (λ m. v) r) l t) (sym is.before_is)
    ∙ (ap (λ (i : ℕ). line_inside (of_parts e.outer e.before i (λ m. v) r) l t) (sym is.iteration_is)
    ∙ (ap (λ (r : Value). line_inside (of_parts e.outer e.before e.iteration (λ m. v) r) l t) (sym is.referred_is)
    ∙ kept_on_line e.outer e.before e.iteration e.referred e.kept l t ts k c.kept.now h)))

all_lines : (first : ℕ) (lines : List Tunnel) (c : Held) (e : Entering) → IsEntering first lines c e → (l : ℕ) (ts : List Tunnel) (k : ℕ) → AreKept e.kept l ts k c.kept.now
    → inside_from c k l ts ≡ lines_inside e l ts
all_lines first lines c e is l [] k h = refl
all_lines first lines c e is l (t ∷ ts) k h =
    ap (λ (g : Given). g ++ inside_from c (next_kept t k) (l + 1) ts) (on_line first lines c e is l t ts k h)
    ∙ ap (λ (g : Given). line_inside e l t ++ g) (all_lines first lines c e is (l + 1) ts (next_kept t k) (kept_later e.kept l t ts k c.kept.now h))

pub entered_lines : (first : ℕ) (lines : List Tunnel) (c : Held) (e : Entering) → IsEntering first lines c e → inside_from c 0 first lines ≡ lines_inside e first lines
entered_lines first lines c e is = all_lines first lines c e is first lines 0 (record { at = λ m below. is.kept_is m })

-- the number of an iteration at its operand, and the lines after it
pub iteration_given : (l k : ℕ) (count stop : Option Wire) (iteration : Wire) (lines : List Tunnel) (c : Held) (e : Entering) → IsEntering (l + 1) lines c e
    → sources_on Inside 1 (loop_header count stop iteration) ≡ k ∷ []
    → (record { line = l; operand = k }, number I32 (pos c.iteration)) ∷ inside_from c 0 (l + 1) lines ≡ iteration_inside e l count stop iteration lines
iteration_given l k count stop iteration lines c e is at =
    ap (λ (ks : List ℕ). given_at l ks (number I32 (pos c.iteration) ∷ []) ++ inside_from c 0 (l + 1) lines) (sym at)
    ∙ (ap (λ (i : ℕ). given_at l (sources_on Inside 1 (loop_header count stop iteration)) (number I32 (pos i) ∷ []) ++ inside_from c 0 (l + 1) lines) (sym is.iteration_is)
    ∙ ap (λ (g : Given). given_at l (sources_on Inside 1 (loop_header count stop iteration)) (number I32 (pos e.iteration) ∷ []) ++ g) (entered_lines (l + 1) lines c e is))
