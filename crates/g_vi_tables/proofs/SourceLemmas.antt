-- The sources of a VI are the sources among its ports.
use Rattle.std.proofs.Common.{◌≡◌, ℕ, ◌+◌, ◌==◌, Bool, true, false, ◌&&◌, List, [], ◌∷◌, ◌++◌, map, length, refl, ap, sym, ◌∙◌, append_assoc, arith}
use Rattle.std.specs.Prelude.{if◌then◌else◌, Option, Some, None}
use Rattle.g_diagram.specs.declared.hierarchy.Vi.{Vi}
use Rattle.g_diagram.specs.declared.node.Tunnel.{Tunnel}
use Rattle.g_diagram.specs.declared.node.Tunnel.TheVariants as line
use Rattle.g_diagram.specs.declared.panel.PanelItem.{PanelItem}
use Rattle.g_diagram.specs.declared.panel.PanelItem.TheVariants.{Control, Indicator}
use Rattle.g_diagram.specs.Lines.{Wire, Arm, Part, Entry, Kind, Const, Apply, Shows, Shared, Obtain, Read, Write, Call, Loop, Case, Sequence, InPlace, entries_of}
use Rattle.g_diagram.specs.Operands.{Outside, Inside, Before, Operand, Line, Freedom, source, consumer, free_consumer, border, case_border, plain_line, header_line, border_lines, parts_lines, give_line, call_inputs, in_and_out, loop_header, kind_lines, entries_lines, control_lines}
use Rattle.g_diagram.specs.Ports.{Port, port, ports_from, ports_in, freedom, ports_of, same_wire}
use Rattle.g_border.specs.declared.place.WireSource.{WireSource}
use Rattle.g_border.specs.Readers.{source_of}
use Rattle.g_frames.specs.State.{sources_in}
use Rattle.g_vi_tables.specs.Sources.{SourceIn, source_in, outputs_from, in_each, border_sources, border_all, parts_sources, count_wired, kind_sources, nodes_sources, panel_sources, sources_of, places_in, first_named}

-- the sources among ports
abbrev pub among : List Port → List SourceIn
among [] = []
among (p ∷ ps) = if p.is_source then source_in p.diagram p.line p.operand p.wire ∷ among ps else among ps

cond_append : (b : Bool) (s : SourceIn) (xs ys : List SourceIn) → (if b then s ∷ (xs ++ ys) else xs ++ ys) ≡ (if b then s ∷ xs else xs) ++ ys
cond_append true s xs ys = refl
cond_append false s xs ys = refl

among-append : (ps qs : List Port) → among (ps ++ qs) ≡ among ps ++ among qs
among-append [] qs = refl
among-append (p ∷ ps) qs =
    let s : SourceIn = source_in p.diagram p.line p.operand p.wire in
    ap (λ (ss : List SourceIn). if p.is_source then s ∷ ss else ss) (among-append ps qs) ∙ cond_append p.is_source s (among ps) (among qs)

-- an operand in each of some diagrams
among-each : (l : Line) (k : ℕ) (o : Operand) (ds : List ℕ) → o.is_source ≡ true → among (map (port l k o None) ds) ≡ in_each ds l.line k o.wire
among-each l k o [] h = refl
among-each l k o (d ∷ ds) h =
    ap (λ (b : Bool). if b then source_in d l.line k o.wire ∷ among (map (port l k o None) ds) else among (map (port l k o None) ds)) h
    ∙ ap (λ (ss : List SourceIn). source_in d l.line k o.wire ∷ ss) (among-each l k o ds h)

no_each : (l : Line) (k : ℕ) (o : Operand) (ds : List ℕ) → o.is_source ≡ false → among (map (port l k o None) ds) ≡ []
no_each l k o [] h = refl
no_each l k o (d ∷ ds) h =
    ap (λ (b : Bool). if b then source_in d l.line k o.wire ∷ among (map (port l k o None) ds) else among (map (port l k o None) ds)) h ∙ no_each l k o ds h

-- ---- operands one after another

outputs-among : (l : Line) (k : ℕ) (ws : List Wire) → among (ports_from l k (map (source Outside) ws)) ≡ outputs_from l.outside l.line k ws
outputs-among l k [] = refl
outputs-among l k (w ∷ ws) = ap (λ (ss : List SourceIn). source_in l.outside l.line k w ∷ ss) (outputs-among l (k + 1) ws)

inputs-among : (l : Line) (k n : ℕ) (ins outs : List Wire) → k + length ins ≡ n → among (ports_from l k (map (consumer Outside) ins ++ map (source Outside) outs)) ≡ outputs_from l.outside l.line n outs
inputs-among l k n [] outs e = ap (λ (i : ℕ). among (ports_from l i (map (source Outside) outs))) (let h : k ≡ n = omega arith in h) ∙ outputs-among l n outs
inputs-among l k n (w ∷ ins) outs e = inputs-among l (k + 1) n ins outs (omega arith)

call-among : (l : Line) (free : ℕ → Bool) (j k n : ℕ) (ins outs : List Wire) → k + length ins ≡ n
    → among (ports_from l k (call_inputs free j ins ++ map (source Outside) outs)) ≡ outputs_from l.outside l.line n outs
call-among l free j k n [] outs e = ap (λ (i : ℕ). among (ports_from l i (map (source Outside) outs))) (let h : k ≡ n = omega arith in h) ∙ outputs-among l n outs
call-among l free j k n (w ∷ ins) outs e = call-among l free (j + 1) (k + 1) n ins outs (omega arith)

-- ---- border lines

abbrev pub border_line : Entry → (inside before : List ℕ) → (Tunnel → List Operand) → (line : ℕ) → Tunnel → Line
border_line e ds bs form l t = record { line = l; node = e.line; outside = e.diagram; inside = ds; before = bs; operands = form t }

abbrev pub inner : (b : Bool) → Wire → Operand
inner free w = record { is_source = true; side = Inside; is_free = free; wire = w }

-- a source inside, and what comes after it
inside_then : (l : Line) (k : ℕ) (free : Bool) (w : Wire) (rest : List Port) (ss : List SourceIn) → among rest ≡ ss
    → among (map (port l k (inner free w) None) l.inside ++ rest) ≡ in_each l.inside l.line k w ++ ss
inside_then l k free w rest ss e =
    among-append (map (port l k (inner free w) None) l.inside) rest
    ∙ ap (λ (xs : List SourceIn). xs ++ among rest) (among-each l k (inner free w) l.inside refl) ∙ ap (λ (xs : List SourceIn). in_each l.inside l.line k w ++ xs) e

-- a consumer in each of some diagrams, and what comes after it
taken_then : (l : Line) (k : ℕ) (o : Operand) (ds : List ℕ) (rest : List Port) (ss : List SourceIn) → o.is_source ≡ false → among rest ≡ ss
    → among (map (port l k o None) ds ++ rest) ≡ ss
taken_then l k o ds rest ss h e =
    among-append (map (port l k o None) ds) rest ∙ ap (λ (xs : List SourceIn). xs ++ among rest) (no_each l k o ds h) ∙ e

nil : (xs : List SourceIn) → xs ++ [] ≡ xs
nil [] = refl
nil (x ∷ xs) = ap (λ (ys : List SourceIn). x ∷ ys) (nil xs)

tunnel-among : (e : Entry) (ds bs : List ℕ) (l : ℕ) (t : Tunnel) → among (ports_from (border_line e ds bs border l t) 1 (border t)) ≡ border_sources e.diagram ds l t
tunnel-among e ds bs l (line.Tunnel outer w) =
    let b : Line = border_line e ds bs border l (line.Tunnel outer w) in inside_then b 2 false w [] [] refl ∙ nil (in_each ds l 2 w)
tunnel-among e ds bs l (line.Register initial w next last) =
    let b : Line = border_line e ds bs border l (line.Register initial w next last) in
    inside_then b 2 false w (ports_from b 3 (consumer Inside next ∷ source Outside last ∷ [])) (source_in e.diagram l 4 last ∷ [])
    (taken_then b 3 (consumer Inside next) ds (ports_from b 4 (source Outside last ∷ [])) (source_in e.diagram l 4 last ∷ []) refl refl)
tunnel-among e ds bs l (line.Kept t w next last) =
    let b : Line = border_line e ds bs border l (line.Kept t w next last) in
    inside_then b 2 false w (ports_from b 3 (consumer Inside next ∷ source Outside last ∷ [])) (source_in e.diagram l 4 last ∷ [])
    (taken_then b 3 (consumer Inside next) ds (ports_from b 4 (source Outside last ∷ [])) (source_in e.diagram l 4 last ∷ []) refl refl)
tunnel-among e ds bs l (line.Last w outer) =
    let b : Line = border_line e ds bs border l (line.Last w outer) in
    taken_then b 1 (consumer Inside w) ds (ports_from b 2 (source Outside outer ∷ [])) (source_in e.diagram l 2 outer ∷ []) refl refl
tunnel-among e ds bs l (line.Gather w outer) =
    let b : Line = border_line e ds bs border l (line.Gather w outer) in
    taken_then b 1 (consumer Inside w) ds (ports_from b 2 (source Outside outer ∷ [])) (source_in e.diagram l 2 outer ∷ []) refl refl
tunnel-among e ds bs l (line.Index array w) =
    let b : Line = border_line e ds bs border l (line.Index array w) in inside_then b 2 false w [] [] refl ∙ nil (in_each ds l 2 w)
tunnel-among e ds bs l (line.Result outer default) = refl
tunnel-among e ds bs l (line.Carry before w) =
    let b : Line = border_line e ds bs border l (line.Carry before w) in
    taken_then b 1 (consumer Before before) bs (ports_from b 2 (source Inside w ∷ [])) (in_each ds l 2 w) refl (inside_then b 2 false w [] [] refl ∙ nil (in_each ds l 2 w))
tunnel-among e ds bs l (line.Ref reference w next same code) =
    let b : Line = border_line e ds bs border l (line.Ref reference w next same code) in
    let outs : List SourceIn = source_in e.diagram l 4 same ∷ source_in e.diagram l 5 code ∷ [] in
    inside_then b 2 false w (ports_from b 3 (consumer Inside next ∷ source Outside same ∷ source Outside code ∷ [])) outs
    (taken_then b 3 (consumer Inside next) ds (ports_from b 4 (source Outside same ∷ source Outside code ∷ [])) outs refl refl)
tunnel-among e ds bs l (line.Element array index w next outer) =
    let b : Line = border_line e ds bs border l (line.Element array index w next outer) in
    inside_then b 3 false w (ports_from b 4 (consumer Inside next ∷ source Outside outer ∷ [])) (source_in e.diagram l 5 outer ∷ [])
    (taken_then b 4 (consumer Inside next) ds (ports_from b 5 (source Outside outer ∷ [])) (source_in e.diagram l 5 outer ∷ []) refl refl)
tunnel-among e ds bs l (line.Field field cluster w next outer) =
    let b : Line = border_line e ds bs border l (line.Field field cluster w next outer) in
    inside_then b 2 false w (ports_from b 3 (consumer Inside next ∷ source Outside outer ∷ [])) (source_in e.diagram l 4 outer ∷ [])
    (taken_then b 3 (consumer Inside next) ds (ports_from b 4 (source Outside outer ∷ [])) (source_in e.diagram l 4 outer ∷ []) refl refl)

-- a case's tunnel gives the same, free or not
case-among : (e : Entry) (ds bs : List ℕ) (l : ℕ) (t : Tunnel) → among (ports_from (border_line e ds bs case_border l t) 1 (case_border t)) ≡ border_sources e.diagram ds l t
case-among e ds bs l (line.Tunnel outer w) =
    let b : Line = border_line e ds bs case_border l (line.Tunnel outer w) in inside_then b 2 true w [] [] refl ∙ nil (in_each ds l 2 w)
case-among e ds bs l (line.Register initial w next last) = tunnel-among e ds bs l (line.Register initial w next last)
case-among e ds bs l (line.Kept t w next last) = tunnel-among e ds bs l (line.Kept t w next last)
case-among e ds bs l (line.Last w outer) = tunnel-among e ds bs l (line.Last w outer)
case-among e ds bs l (line.Gather w outer) = tunnel-among e ds bs l (line.Gather w outer)
case-among e ds bs l (line.Index array w) = tunnel-among e ds bs l (line.Index array w)
case-among e ds bs l (line.Result outer default) = tunnel-among e ds bs l (line.Result outer default)
case-among e ds bs l (line.Carry before w) = tunnel-among e ds bs l (line.Carry before w)
case-among e ds bs l (line.Ref reference w next same code) = tunnel-among e ds bs l (line.Ref reference w next same code)
case-among e ds bs l (line.Element array index w next outer) = tunnel-among e ds bs l (line.Element array index w next outer)
case-among e ds bs l (line.Field field cluster w next outer) = tunnel-among e ds bs l (line.Field field cluster w next outer)

abbrev pub line_gives : Entry → (ds bs : List ℕ) → (Tunnel → List Operand) → Type 0
line_gives e ds bs form = (l : ℕ) (t : Tunnel) → among (ports_from (border_line e ds bs form l t) 1 (form t)) ≡ border_sources e.diagram ds l t

border-among : (e : Entry) (ds bs : List ℕ) (form : Tunnel → List Operand) → line_gives e ds bs form → (l : ℕ) (ts : List Tunnel)
    → among (ports_in (border_lines e ds bs form l ts)) ≡ border_all e.diagram ds l ts
border-among e ds bs form h l [] = refl
border-among e ds bs form h l (t ∷ ts) =
    among-append (ports_from (border_line e ds bs form l t) 1 (form t)) (ports_in (border_lines e ds bs form (l + 1) ts))
    ∙ ap (λ (ss : List SourceIn). ss ++ among (ports_in (border_lines e ds bs form (l + 1) ts))) (h l t)
    ∙ ap (λ (ss : List SourceIn). border_sources e.diagram ds l t ++ ss) (border-among e ds bs form h (l + 1) ts)

-- ---- nodes

ports-append : (ls ms : List Line) → ports_in (ls ++ ms) ≡ ports_in ls ++ ports_in ms
ports-append [] ms = refl
ports-append (l ∷ ls) ms = ap (λ (ps : List Port). ports_from l 1 l.operands ++ ps) (ports-append ls ms) ∙ sym (append_assoc (ports_from l 1 l.operands) (ports_in ls) (ports_in ms))

-- lines, and lines after them
lines-among : (ls ms : List Line) (xs ys : List SourceIn) → among (ports_in ls) ≡ xs → among (ports_in ms) ≡ ys → among (ports_in (ls ++ ms)) ≡ xs ++ ys
lines-among ls ms xs ys e f =
    ap among (ports-append ls ms) ∙ among-append (ports_in ls) (ports_in ms) ∙ ap (λ (ss : List SourceIn). ss ++ among (ports_in ms)) e
    ∙ ap (λ (ss : List SourceIn). xs ++ ss) f

given-among : (l : Line) (k : ℕ) (ws : List Wire) → among (ports_from l k (map (free_consumer Inside) ws)) ≡ []
given-among l k [] = refl
given-among l k (w ∷ ws) = taken_then l k (free_consumer Inside w) l.inside (ports_from l (k + 1) (map (free_consumer Inside) ws)) [] refl (given-among l (k + 1) ws)

gives-among : (e : Entry) (arms : List Arm) → among (ports_in (map (give_line e) arms)) ≡ []
gives-among e [] = refl
gives-among e (arm ∷ arms) =
    among-append (ports_from (give_line e arm) 1 (map (free_consumer Inside) arm.gives)) (ports_in (map (give_line e) arms))
    ∙ ap (λ (ss : List SourceIn). ss ++ among (ports_in (map (give_line e) arms))) (given-among (give_line e arm) 1 arm.gives) ∙ gives-among e arms

parts-among : (e : Entry) (bs : List ℕ) (parts : List Part) → among (ports_in (parts_lines e bs parts)) ≡ parts_sources e.diagram parts
parts-among e bs [] = refl
parts-among e bs (part ∷ parts) =
    lines-among (border_lines e (part.body ∷ []) bs border (part.body + 1) part.lines) (parts_lines e (part.body ∷ []) parts)
    (border_all e.diagram (part.body ∷ []) (part.body + 1) part.lines) (parts_sources e.diagram parts)
    (border-among e (part.body ∷ []) bs border (tunnel-among e (part.body ∷ []) bs) (part.body + 1) part.lines) (parts-among e (part.body ∷ []) parts)

one_line : (l : Line) → among (ports_in (l ∷ [])) ≡ among (ports_from l 1 l.operands)
one_line l = among-append (ports_from l 1 l.operands) [] ∙ nil (among (ports_from l 1 l.operands))

header-among : (e : Entry) (body : ℕ) (count stop : Option Wire) (i : Wire)
    → among (ports_in (header_line e body (loop_header count stop i) ∷ [])) ≡ source_in body e.line (count_wired count + count_wired stop + 1) i ∷ []
header-among e body None None i = refl
header-among e body None (Some s) i = refl
header-among e body (Some c) None i = refl
header-among e body (Some c) (Some s) i = refl

kind-among : (free : Freedom) (e : Entry) (k : Kind) → among (ports_in (kind_lines free e k)) ≡ kind_sources e k
kind-among free e (Const t literal out) = refl
kind-among free e (Apply op ins outs) = one_line (plain_line e (in_and_out ins outs)) ∙ inputs-among (plain_line e (in_and_out ins outs)) 1 (length ins + 1) ins outs (omega arith)
kind-among free e (Shows name t w) = refl
kind-among free e (Shared op ins outs) = one_line (plain_line e (in_and_out ins outs)) ∙ inputs-among (plain_line e (in_and_out ins outs)) 1 (length ins + 1) ins outs (omega arith)
kind-among free e (Obtain queue size item out) = refl
kind-among free e (Read object out) = refl
kind-among free e (Write object input) = refl
kind-among free e (Call vi ins outs) =
    let l : Line = plain_line e (call_inputs (free vi) 0 ins ++ map (source Outside) outs) in
    one_line l ∙ call-among l (free vi) 0 1 (length ins + 1) ins outs (omega arith)
kind-among free e (Loop count stop i lines body) =
    lines-among (header_line e body (loop_header count stop i) ∷ []) (border_lines e (body ∷ []) [] border (e.line + 1) lines)
    (source_in body e.line (count_wired count + count_wired stop + 1) i ∷ []) (border_all e.diagram (body ∷ []) (e.line + 1) lines)
    (header-among e body count stop i) (border-among e (body ∷ []) [] border (tunnel-among e (body ∷ []) []) (e.line + 1) lines)
kind-among free e (Case selector lines arms) =
    let ds : List ℕ = map (λ a. a.body) arms in
    lines-among (border_lines e ds [] case_border (e.line + 1) lines) (map (give_line e) arms) (border_all e.diagram ds (e.line + 1) lines) []
    (border-among e ds [] case_border (case-among e ds []) (e.line + 1) lines) (gives-among e arms) ∙ nil (border_all e.diagram ds (e.line + 1) lines)
kind-among free e (Sequence parts) = parts-among e [] parts
kind-among free e (InPlace lines body finish) = border-among e (body ∷ []) [] border (tunnel-among e (body ∷ []) []) (e.line + 1) lines

entries-among : (free : Freedom) (es : List Entry) → among (ports_in (entries_lines free es)) ≡ nodes_sources es
entries-among free [] = refl
entries-among free (e ∷ es) =
    lines-among (kind_lines free e e.kind) (entries_lines free es) (kind_sources e e.kind) (nodes_sources es) (kind-among free e e.kind) (entries-among free es)

controls-among : (l : ℕ) (items : List PanelItem) → among (ports_in (control_lines l items)) ≡ panel_sources l items
controls-among l [] = refl
controls-among l (Control name t required default out ∷ items) = ap (λ (ss : List SourceIn). source_in 0 l 1 out ∷ ss) (controls-among (l + 1) items)
controls-among l (Indicator name t w ∷ items) = controls-among (l + 1) items

-- the sources among a VI's ports
pub all-among : (vis : List Vi) (vi : Vi) → among (ports_of vis vi) ≡ sources_of vi.panel (entries_of vi)
all-among vis vi =
    lines-among (control_lines 1 vi.panel) (entries_lines (freedom vis) (entries_of vi)) (panel_sources 1 vi.panel) (nodes_sources (entries_of vi))
    (controls-among 1 vi.panel) (entries-among (freedom vis) (entries_of vi))

-- ---- what is looked up among ports is looked up among sources

abbrev pub here : Port → WireSource
here p = record { line = p.line; operand = p.operand }

pub places-among : (d : ℕ) (ps : List Port) → sources_in d ps ≡ places_in d (among ps)
places-among d [] = refl
places-among d (p ∷ ps) = by p.is_source (places-among d ps)
  where
    by : (b : Bool) → sources_in d ps ≡ places_in d (among ps)
        → (if b && (p.diagram == d) then here p ∷ sources_in d ps else sources_in d ps)
        ≡ places_in d (if b then source_in p.diagram p.line p.operand p.wire ∷ among ps else among ps)
    by true e = ap (λ (rest : List WireSource). if p.diagram == d then here p ∷ rest else rest) e
    by false e = e

pub named-among : (d : ℕ) (name : List ℕ) (ps : List Port) → source_of ps d name ≡ first_named d name (among ps)
named-among d name [] = refl
named-among d name (p ∷ ps) = by p.is_source (named-among d name ps)
  where
    by : (b : Bool) → source_of ps d name ≡ first_named d name (among ps)
        → (if b && ((p.diagram == d) && same_wire (Some name) p.wire) then Some (here p) else source_of ps d name)
        ≡ first_named d name (if b then source_in p.diagram p.line p.operand p.wire ∷ among ps else among ps)
    by true e = ap (λ (rest : Option WireSource). if (p.diagram == d) && same_wire (Some name) p.wire then Some (here p) else rest) e
    by false e = e

-- the sources of a diagram of a VI, and the source of a name in it
pub places_of : (vis : List Vi) (vi : Vi) (d : ℕ) → sources_in d (ports_of vis vi) ≡ places_in d (sources_of vi.panel (entries_of vi))
places_of vis vi d = places-among d (ports_of vis vi) ∙ ap (places_in d) (all-among vis vi)

pub named_of : (vis : List Vi) (vi : Vi) (d : ℕ) (name : List ℕ) → source_of (ports_of vis vi) d name ≡ first_named d name (sources_of vi.panel (entries_of vi))
named_of vis vi d name = named-among d name (ports_of vis vi) ∙ ap (first_named d name) (all-among vis vi)
