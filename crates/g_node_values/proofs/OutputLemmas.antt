-- The outputs of a node, kind by kind.
use Rattle.std.proofs.Common.{◌≡◌, ℕ, ◌+◌, Bool, false, List, [], ◌∷◌, ◌++◌, map, length, refl, ap, sym, ◌∙◌, append_assoc, arith}
use Rattle.std.specs.Prelude.{Option, Some, None}
use Rattle.std.proofs.lemmas.List.{append-nil}
use Rattle.g_diagram.specs.declared.node.Tunnel.{Tunnel}
use Rattle.g_diagram.specs.declared.node.Tunnel.TheVariants as line
use Rattle.g_diagram.specs.Lines.{Wire, Arm, Part, Entry, Kind, Const, Apply, Shows, Shared, Obtain, Read, Write, Call, Loop, Case, Sequence, InPlace}
use Rattle.g_diagram.specs.Operands.{Outside, Inside, Operand, Line, source, free_consumer, border, case_border, border_lines, parts_lines, give_line, call_inputs, in_and_out, loop_header, kind_lines}
use Rattle.g_border.specs.declared.place.WireSource.{WireSource}
use Rattle.g_border.specs.Readers.{sources_on, place_all, lines_sources, node_lines}
use Rattle.g_node_values.specs.Outputs.{place, outputs_from, border_places, borders_places, parts_places, kind_places}

-- the places of operands outside, from an operand on
abbrev pub from : (line operand : ℕ) → List Operand → List WireSource
from l k os = place_all l (sources_on Outside k os)

-- ---- lines one after another

sources-append : (ks ls : List Line) → lines_sources Outside (ks ++ ls) ≡ lines_sources Outside ks ++ lines_sources Outside ls
sources-append [] ls = refl
sources-append (k ∷ ks) ls =
    ap (λ (ps : List WireSource). from k.line 1 k.operands ++ ps) (sources-append ks ls)
    ∙ sym (append_assoc (from k.line 1 k.operands) (lines_sources Outside ks) (lines_sources Outside ls))

-- ---- operands

outputs-give : (l k : ℕ) (ws : List Wire) → from l k (map (source Outside) ws) ≡ outputs_from l k ws
outputs-give l k [] = refl
outputs-give l k (w ∷ ws) = ap (λ (ps : List WireSource). place l k ∷ ps) (outputs-give l (k + 1) ws)

plain-give : (l k n : ℕ) (ins outs : List Wire) → k + length ins ≡ n → from l k (in_and_out ins outs) ≡ outputs_from l n outs
plain-give l k n [] outs e = ap (λ (i : ℕ). from l i (map (source Outside) outs)) (let h : k ≡ n = omega arith in h) ∙ outputs-give l n outs
plain-give l k n (w ∷ ins) outs e = plain-give l (k + 1) n ins outs (omega arith)

call-give : (free : ℕ → Bool) (l j k n : ℕ) (ins outs : List Wire) → k + length ins ≡ n
    → from l k (call_inputs free j ins ++ map (source Outside) outs) ≡ outputs_from l n outs
call-give free l j k n [] outs e = ap (λ (i : ℕ). from l i (map (source Outside) outs)) (let h : k ≡ n = omega arith in h) ∙ outputs-give l n outs
call-give free l j k n (w ∷ ins) outs e = call-give free l (j + 1) (k + 1) n ins outs (omega arith)

give-gives : (l k : ℕ) (ws : List Wire) → from l k (map (free_consumer Inside) ws) ≡ []
give-gives l k [] = refl
give-gives l k (w ∷ ws) = give-gives l (k + 1) ws

case-gives : (t : Tunnel) → sources_on Outside 1 (case_border t) ≡ sources_on Outside 1 (border t)
case-gives (line.Tunnel outer inner) = refl
case-gives (line.Register initial inner next last) = refl
case-gives (line.Kept t inner next last) = refl
case-gives (line.Last inner outer) = refl
case-gives (line.Gather inner outer) = refl
case-gives (line.Index array inner) = refl
case-gives (line.Result outer default) = refl
case-gives (line.Carry before inner) = refl
case-gives (line.Ref reference inner next same code) = refl
case-gives (line.Element array index inner next outer) = refl
case-gives (line.Field field cluster inner next outer) = refl

-- ---- lines of structures

borders-give : (e : Entry) (ds bs : List ℕ) (form : Tunnel → List Operand) → ((t : Tunnel) → sources_on Outside 1 (form t) ≡ sources_on Outside 1 (border t))
    → (l : ℕ) (ts : List Tunnel) → lines_sources Outside (border_lines e ds bs form l ts) ≡ borders_places l ts
borders-give e ds bs form same l [] = refl
borders-give e ds bs form same l (t ∷ ts) =
    ap (λ (ks : List ℕ). place_all l ks ++ lines_sources Outside (border_lines e ds bs form (l + 1) ts)) (same t)
    ∙ ap (λ (ps : List WireSource). border_places l t ++ ps) (borders-give e ds bs form same (l + 1) ts)

parts-give : (e : Entry) (bs : List ℕ) (parts : List Part) → lines_sources Outside (parts_lines e bs parts) ≡ parts_places parts
parts-give e bs [] = refl
parts-give e bs (part ∷ parts) =
    sources-append (border_lines e (part.body ∷ []) bs border (part.body + 1) part.lines) (parts_lines e (part.body ∷ []) parts)
    ∙ ap (λ (ps : List WireSource). ps ++ lines_sources Outside (parts_lines e (part.body ∷ []) parts))
    (borders-give e (part.body ∷ []) bs border (λ t. refl) (part.body + 1) part.lines)
    ∙ ap (λ (ps : List WireSource). borders_places (part.body + 1) part.lines ++ ps) (parts-give e (part.body ∷ []) parts)

gives-give : (e : Entry) (arms : List Arm) → lines_sources Outside (map (give_line e) arms) ≡ []
gives-give e [] = refl
gives-give e (arm ∷ arms) =
    ap (λ (ps : List WireSource). ps ++ lines_sources Outside (map (give_line e) arms)) (give-gives (arm.body + 1) 1 arm.gives) ∙ gives-give e arms

header-gives : (l : ℕ) (count stop : Option Wire) (i : Wire) → from l 1 (loop_header count stop i) ≡ []
header-gives l None None i = refl
header-gives l None (Some s) i = refl
header-gives l (Some c) None i = refl
header-gives l (Some c) (Some s) i = refl

-- ---- kinds

kind-gives : (e : Entry) (k : Kind) → lines_sources Outside (kind_lines (λ vi j. false) e k) ≡ kind_places e k
kind-gives e (Const t literal out) = refl
kind-gives e (Apply op ins outs) = append-nil (from e.line 1 (in_and_out ins outs)) ∙ plain-give e.line 1 (length ins + 1) ins outs (omega arith)
kind-gives e (Shows name t w) = refl
kind-gives e (Shared op ins outs) = append-nil (from e.line 1 (in_and_out ins outs)) ∙ plain-give e.line 1 (length ins + 1) ins outs (omega arith)
kind-gives e (Obtain queue size item out) = refl
kind-gives e (Read object out) = refl
kind-gives e (Write object w) = refl
kind-gives e (Call vi ins outs) =
    append-nil (from e.line 1 (call_inputs (λ j. false) 0 ins ++ map (source Outside) outs)) ∙ call-give (λ j. false) e.line 0 1 (length ins + 1) ins outs (omega arith)
kind-gives e (Loop count stop i lines body) =
    ap (λ (ps : List WireSource). ps ++ lines_sources Outside (border_lines e (body ∷ []) [] border (e.line + 1) lines)) (header-gives e.line count stop i)
    ∙ borders-give e (body ∷ []) [] border (λ t. refl) (e.line + 1) lines
kind-gives e (Case selector lines arms) =
    let ds : List ℕ = map (λ a. a.body) arms in
    sources-append (border_lines e ds [] case_border (e.line + 1) lines) (map (give_line e) arms)
    ∙ ap (λ (ps : List WireSource). lines_sources Outside (border_lines e ds [] case_border (e.line + 1) lines) ++ ps) (gives-give e arms)
    ∙ append-nil (lines_sources Outside (border_lines e ds [] case_border (e.line + 1) lines))
    ∙ borders-give e ds [] case_border case-gives (e.line + 1) lines
kind-gives e (Sequence parts) = parts-give e [] parts
kind-gives e (InPlace lines body finish) = borders-give e (body ∷ []) [] border (λ t. refl) (e.line + 1) lines

-- the places of a node's outputs, by its kind
pub outputs_by_kind : (e : Entry) → lines_sources Outside (node_lines e) ≡ kind_places e e.kind
outputs_by_kind e = kind-gives e e.kind
