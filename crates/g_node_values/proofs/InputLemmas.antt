-- The inputs of a node, kind by kind.
use Rattle.std.proofs.Common.{◌≡◌, ℕ, ◌+◌, Bool, true, false, ◌&&◌, List, [], ◌∷◌, ◌++◌, map, refl, ap, sym, ◌∙◌, append_assoc}
use Rattle.std.specs.Prelude.{Option, Some, None}
use Rattle.std.specs.List.{list_all}
use Rattle.std.proofs.lemmas.List.{append-nil}
use Rattle.std.proofs.lemmas.List.Folds.{list_all-append}
use Rattle.g_diagram.specs.declared.node.Tunnel.{Tunnel}
use Rattle.g_diagram.specs.declared.node.Tunnel.TheVariants as line
use Rattle.g_diagram.specs.Lines.{Wire, Arm, Part, Entry, Kind, Const, Apply, Shows, Shared, Obtain, Read, Write, Call, Loop, Case, Sequence, InPlace}
use Rattle.g_diagram.specs.Operands.{Outside, Inside, Operand, Line, source, free_consumer, border, case_border, border_lines, parts_lines, give_line, call_inputs, in_and_out, loop_header, kind_lines}
use Rattle.g_border.specs.Readers.{Reader, has_value, wires_taken, wires_taken_on}
use Rattle.g_frames.specs.Fire as fire
use Rattle.g_node_values.specs.Inputs.{border_has, borders_have, parts_have, structure_has, kind_has}

abbrev pub all : Reader → List Wire → Bool
all r ws = list_all (has_value r) ws

abbrev pub on : Reader → List Line → Bool
on r ls = all r (wires_taken_on Outside ls)

-- ---- lines one after another

taken-append : (ks bs : List Line) → wires_taken_on Outside (ks ++ bs) ≡ wires_taken_on Outside ks ++ wires_taken_on Outside bs
taken-append [] bs = refl
taken-append (a ∷ ks) bs =
    ap (λ (ws : List Wire). wires_taken Outside a.operands ++ ws) (taken-append ks bs)
    ∙ sym (append_assoc (wires_taken Outside a.operands) (wires_taken_on Outside ks) (wires_taken_on Outside bs))

on-append : (r : Reader) (ks bs : List Line) → on r (ks ++ bs) ≡ (on r ks && on r bs)
on-append r ks bs = ap (all r) (taken-append ks bs) ∙ list_all-append (has_value r) (wires_taken_on Outside ks) (wires_taken_on Outside bs)

on-line : (r : Reader) (l : Line) (ls : List Line) → on r (l ∷ ls) ≡ (all r (wires_taken Outside l.operands) && on r ls)
on-line r l ls = list_all-append (has_value r) (wires_taken Outside l.operands) (wires_taken_on Outside ls)

-- ---- operands

outputs-take : (ws : List Wire) → wires_taken Outside (map (source Outside) ws) ≡ []
outputs-take [] = refl
outputs-take (w ∷ ws) = outputs-take ws

plain-take : (ins outs : List Wire) → wires_taken Outside (in_and_out ins outs) ≡ ins
plain-take [] outs = outputs-take outs
plain-take (w ∷ ins) outs = ap (λ (ws : List Wire). w ∷ ws) (plain-take ins outs)

call-take : (free : ℕ → Bool) (k : ℕ) (ins outs : List Wire) → wires_taken Outside (call_inputs free k ins ++ map (source Outside) outs) ≡ ins
call-take free k [] outs = outputs-take outs
call-take free k (w ∷ ins) outs = ap (λ (ws : List Wire). w ∷ ws) (call-take free (k + 1) ins outs)

give-take : (ws : List Wire) → wires_taken Outside (map (free_consumer Inside) ws) ≡ []
give-take [] = refl
give-take (w ∷ ws) = give-take ws

case-take : (t : Tunnel) → wires_taken Outside (case_border t) ≡ wires_taken Outside (border t)
case-take (line.Tunnel outer inner) = refl
case-take (line.Register initial inner next last) = refl
case-take (line.Kept t inner next last) = refl
case-take (line.Last inner outer) = refl
case-take (line.Gather inner outer) = refl
case-take (line.Index array inner) = refl
case-take (line.Result outer default) = refl
case-take (line.Carry before inner) = refl
case-take (line.Ref reference inner next same code) = refl
case-take (line.Element array index inner next outer) = refl
case-take (line.Field field cluster inner next outer) = refl

-- ---- lines of structures

borders-on : (r : Reader) (e : Entry) (ds bs : List ℕ) (form : Tunnel → List Operand) → ((t : Tunnel) → wires_taken Outside (form t) ≡ wires_taken Outside (border t))
    → (l : ℕ) (ts : List Tunnel) → on r (border_lines e ds bs form l ts) ≡ borders_have r ts
borders-on r e ds bs form same l [] = refl
borders-on r e ds bs form same l (t ∷ ts) =
    list_all-append (has_value r) (wires_taken Outside (form t)) (wires_taken_on Outside (border_lines e ds bs form (l + 1) ts))
    ∙ ap (λ (ws : List Wire). all r ws && on r (border_lines e ds bs form (l + 1) ts)) (same t)
    ∙ ap (λ (b : Bool). border_has r t && b) (borders-on r e ds bs form same (l + 1) ts)

parts-on : (r : Reader) (e : Entry) (bs : List ℕ) (parts : List Part) → on r (parts_lines e bs parts) ≡ parts_have r parts
parts-on r e bs [] = refl
parts-on r e bs (part ∷ parts) =
    on-append r (border_lines e (part.body ∷ []) bs border (part.body + 1) part.lines) (parts_lines e (part.body ∷ []) parts)
    ∙ ap (λ (b : Bool). b && on r (parts_lines e (part.body ∷ []) parts)) (borders-on r e (part.body ∷ []) bs border (λ t. refl) (part.body + 1) part.lines)
    ∙ ap (λ (b : Bool). borders_have r part.lines && b) (parts-on r e (part.body ∷ []) parts)

gives-take : (e : Entry) (arms : List Arm) → wires_taken_on Outside (map (give_line e) arms) ≡ []
gives-take e [] = refl
gives-take e (arm ∷ arms) = ap (λ (ws : List Wire). ws ++ wires_taken_on Outside (map (give_line e) arms)) (give-take arm.gives) ∙ gives-take e arms

last : (b : Bool) → (b && true) ≡ b
last true = refl
last false = refl

header-on : (r : Reader) (count stop : Option Wire) (i : Wire) (ts : List Tunnel)
    → (all r (wires_taken Outside (loop_header count stop i)) && borders_have r ts) ≡ structure_has r count ts
header-on r None None i ts = refl
header-on r None (Some s) i ts = refl
header-on r (Some c) None i ts = ap (λ (b : Bool). b && borders_have r ts) (last (has_value r c))
header-on r (Some c) (Some s) i ts = ap (λ (b : Bool). b && borders_have r ts) (last (has_value r c))

-- ---- kinds

pub kind-on : (r : Reader) (e : Entry) (k : Kind) → on r (kind_lines (λ vi j. false) e k) ≡ kind_has r k
kind-on r e (Const t literal out) = refl
kind-on r e (Apply op ins outs) = ap (all r) (append-nil (wires_taken Outside (in_and_out ins outs)) ∙ plain-take ins outs)
kind-on r e (Shows name t w) = last (has_value r w)
kind-on r e (Shared op ins outs) = ap (all r) (append-nil (wires_taken Outside (in_and_out ins outs)) ∙ plain-take ins outs)
kind-on r e (Obtain queue size item out) = refl
kind-on r e (Read object out) = refl
kind-on r e (Write object w) = last (has_value r w)
kind-on r e (Call vi ins outs) =
    ap (all r) (append-nil (wires_taken Outside (call_inputs (λ j. false) 0 ins ++ map (source Outside) outs)) ∙ call-take (λ j. false) 0 ins outs)
kind-on r e (Loop count stop i lines body) =
    let ls : List Line = border_lines e (body ∷ []) [] border (e.line + 1) lines in
    list_all-append (has_value r) (wires_taken Outside (loop_header count stop i)) (wires_taken_on Outside ls)
    ∙ ap (λ (b : Bool). all r (wires_taken Outside (loop_header count stop i)) && b) (borders-on r e (body ∷ []) [] border (λ t. refl) (e.line + 1) lines)
    ∙ header-on r count stop i lines
kind-on r e (Case selector lines arms) =
    let ds : List ℕ = map (λ a. a.body) arms in
    let ls : List Line = border_lines e ds [] case_border (e.line + 1) lines in
    let taken : wires_taken_on Outside (ls ++ map (give_line e) arms) ≡ wires_taken_on Outside ls =
    taken-append ls (map (give_line e) arms) ∙ ap (λ (ws : List Wire). wires_taken_on Outside ls ++ ws) (gives-take e arms) ∙ append-nil (wires_taken_on Outside ls) in
    ap (λ (ws : List Wire). has_value r selector && all r ws) taken
    ∙ ap (λ (b : Bool). has_value r selector && b) (borders-on r e ds [] case_border case-take (e.line + 1) lines)
kind-on r e (Sequence parts) = parts-on r e [] parts
kind-on r e (InPlace lines body finish) = borders-on r e (body ∷ []) [] border (λ t. refl) (e.line + 1) lines

-- whether a node has its inputs, by its kind
pub inputs_by_kind : (r : Reader) (e : Entry) → fire.has_inputs r e ≡ kind_has r e.kind
inputs_by_kind r e = kind-on r e e.kind
