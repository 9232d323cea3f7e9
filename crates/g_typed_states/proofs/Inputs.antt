-- What a node takes from its own diagram and where it gives, by its kind.
use Rattle.std.proofs.Common.{◌≡◌, Bool, true, false, ◌&&◌, ℕ, ◌+◌, List, [], ◌∷◌, ◌++◌, map, Option, Some, None, refl, ap, sym, ◌∙◌, subst, append-nil, append_assoc}
use Rattle.std.specs.List.{list_all}
use Rattle.g_diagram.specs.declared.node.Tunnel.{Tunnel}
use Rattle.g_diagram.specs.declared.node.Tunnel.TheVariants as line
use Rattle.g_diagram.specs.Lines.{Wire, Arm, Part, Entry, Kind, Call, Loop, Case, Sequence, InPlace}
use Rattle.g_diagram.specs.Operands.{Inside, Outside, Line, source, consumer, free_consumer, border, case_border, border_lines, parts_lines, give_line, call_inputs, in_and_out, loop_header, kind_lines}
use Rattle.g_border.specs.declared.place.WireSource.{WireSource}
use Rattle.g_border.specs.Readers.{Reader, has_value, sources_on, place_all, wires_taken, wires_taken_on, lines_sources}
use Rattle.g_typed_states.specs.Places.{line_places, lines_places}
use Rattle.g_typed_states.specs.Lines.{AllLines}
use Rattle.g_typed_states.proofs.Lists.{and_left, and_right}
use Rattle.g_typed_states.proofs.LineValues.{HasTaken}

-- ---- inputs

-- the wires of some have values
abbrev pub HaveValues : Reader → List Wire → Type 0
HaveValues r ws = list_all (has_value r) ws ≡ true

pub all_front : (r : Reader) (xs ys : List Wire) → HaveValues r (xs ++ ys) → HaveValues r xs
all_front r [] ys h = refl
all_front r (x ∷ xs) ys h = both (has_value r x) (list_all (has_value r) xs) (and_left (has_value r x) (list_all (has_value r) (xs ++ ys)) h) (all_front r xs ys (and_right (has_value r x) (list_all (has_value r) (xs ++ ys)) h))
  where
    both : (a b : Bool) → a ≡ true → b ≡ true → (a && b) ≡ true
    both a b p q = ap (λ c. c && b) p ∙ q

pub all_back : (r : Reader) (xs ys : List Wire) → HaveValues r (xs ++ ys) → HaveValues r ys
all_back r [] ys h = h
all_back r (x ∷ xs) ys h = all_back r xs ys (and_right (has_value r x) (list_all (has_value r) (xs ++ ys)) h)

-- what a node of a kind takes has values
abbrev pub TakesOf : Reader → Entry → Kind → Type 0
TakesOf r e k = HaveValues r (wires_taken_on Outside (kind_lines (λ vi n. false) e k))

no_sources : (r : Reader) (ws outputs : List Wire) → HaveValues r (wires_taken Outside (map (consumer Outside) ws ++ map (source Outside) outputs)) → HaveValues r ws
no_sources r [] outputs h = refl
no_sources r (w ∷ ws) outputs h =
    ap (λ b. b && list_all (has_value r) ws) (and_left (has_value r w) (list_all (has_value r) (wires_taken Outside (map (consumer Outside) ws ++ map (source Outside) outputs))) h)
    ∙ no_sources r ws outputs (and_right (has_value r w) (list_all (has_value r) (wires_taken Outside (map (consumer Outside) ws ++ map (source Outside) outputs))) h)

pub inputs_taken : (r : Reader) (ws outputs : List Wire) → HaveValues r (wires_taken Outside (in_and_out ws outputs) ++ []) → HaveValues r ws
inputs_taken r ws outputs h = no_sources r ws outputs (all_front r (wires_taken Outside (in_and_out ws outputs)) [] h)

call_taken : (r : Reader) (free : ℕ → Bool) (k : ℕ) (ws outputs : List Wire) → HaveValues r (wires_taken Outside (call_inputs free k ws ++ map (source Outside) outputs)) → HaveValues r ws
call_taken r free k [] outputs h = refl
call_taken r free k (w ∷ ws) outputs h =
    ap (λ b. b && list_all (has_value r) ws) (and_left (has_value r w) (list_all (has_value r) (wires_taken Outside (call_inputs free (k + 1) ws ++ map (source Outside) outputs))) h)
    ∙ call_taken r free (k + 1) ws outputs (and_right (has_value r w) (list_all (has_value r) (wires_taken Outside (call_inputs free (k + 1) ws ++ map (source Outside) outputs))) h)

border_taken : (r : Reader) (e : Entry) (inside before : List ℕ) (l : ℕ) (ts : List Tunnel) → HaveValues r (wires_taken_on Outside (border_lines e inside before border l ts)) → AllLines (HasTaken r) ts
border_taken r e inside before l [] h = tt
border_taken r e inside before l (t ∷ ts) h =
    let rest = wires_taken_on Outside (border_lines e inside before border (l + 1) ts) in
    (all_front r (wires_taken Outside (border t)) rest h, border_taken r e inside before (l + 1) ts (all_back r (wires_taken Outside (border t)) rest h))

case_takes : (t : Tunnel) → wires_taken Outside (case_border t) ≡ wires_taken Outside (border t)
case_takes (line.Tunnel outer inner) = refl
case_takes (line.Register initial inner next last) = refl
case_takes (line.Kept t inner next last) = refl
case_takes (line.Last inner outer) = refl
case_takes (line.Gather inner outer) = refl
case_takes (line.Index array inner) = refl
case_takes (line.Result outer default) = refl
case_takes (line.Carry earlier inner) = refl
case_takes (line.Ref reference inner next same code) = refl
case_takes (line.Element array index inner next outer) = refl
case_takes (line.Field k cluster inner next outer) = refl

case_taken : (r : Reader) (e : Entry) (inside before : List ℕ) (l : ℕ) (ts : List Tunnel) → HaveValues r (wires_taken_on Outside (border_lines e inside before case_border l ts)) → AllLines (HasTaken r) ts
case_taken r e inside before l [] h = tt
case_taken r e inside before l (t ∷ ts) h =
    let rest = wires_taken_on Outside (border_lines e inside before case_border (l + 1) ts) in (
      subst (HaveValues r) (case_takes t) (all_front r (wires_taken Outside (case_border t)) rest h),
      case_taken r e inside before (l + 1) ts (all_back r (wires_taken Outside (case_border t)) rest h),
    )

-- the lines of the frames of a sequence
abbrev pub AllParts : (Tunnel → Type 0) → List Part → Type 0
AllParts P [] = Unit {0}
AllParts P (part ∷ parts) = AllLines P part.lines × AllParts P parts

taken_append : (xs ys : List Line) → wires_taken_on Outside (xs ++ ys) ≡ wires_taken_on Outside xs ++ wires_taken_on Outside ys
taken_append [] ys = refl
taken_append (x ∷ xs) ys = ap (λ ws. wires_taken Outside x.operands ++ ws) (taken_append xs ys) ∙ sym (append_assoc (wires_taken Outside x.operands) (wires_taken_on Outside xs) (wires_taken_on Outside ys))

parts_taken : (r : Reader) (e : Entry) (before : List ℕ) (parts : List Part) → HaveValues r (wires_taken_on Outside (parts_lines e before parts)) → AllParts (HasTaken r) parts
parts_taken r e before [] h = tt
parts_taken r e before (part ∷ parts) h =
    let here = border_lines e (part.body ∷ []) before border (part.body + 1) part.lines in
    let more = parts_lines e (part.body ∷ []) parts in
    let split = subst (HaveValues r) (taken_append here more) h in (
      border_taken r e (part.body ∷ []) before (part.body + 1) part.lines (all_front r (wires_taken_on Outside here) (wires_taken_on Outside more) split),
      parts_taken r e (part.body ∷ []) parts (all_back r (wires_taken_on Outside here) (wires_taken_on Outside more) split),
    )

pub takes-Call : (r : Reader) (e : Entry) (name : List ℕ) (inputs outputs : List Wire) → TakesOf r e (Call name inputs outputs) → HaveValues r inputs
takes-Call r e name inputs outputs h = call_taken r (λ n. false) 0 inputs outputs (all_front r (wires_taken Outside (call_inputs (λ n. false) 0 inputs ++ map (source Outside) outputs)) [] h)

pub takes-Loop : (r : Reader) (e : Entry) (count stop : Option Wire) (i : Wire) (lines : List Tunnel) (body : ℕ) → TakesOf r e (Loop count stop i lines body) → AllLines (HasTaken r) lines
takes-Loop r e count stop i lines body h =
    border_taken r e (body ∷ []) [] (e.line + 1) lines
    (all_back r (wires_taken Outside (loop_header count stop i)) (wires_taken_on Outside (border_lines e (body ∷ []) [] border (e.line + 1) lines)) h)

pub takes-Case : (r : Reader) (e : Entry) (selector : Wire) (lines : List Tunnel) (arms : List Arm) → TakesOf r e (Case selector lines arms) → (has_value r selector ≡ true) × AllLines (HasTaken r) lines
takes-Case r e selector lines arms h =
    let borders = border_lines e (map (λ a. a.body) arms) [] case_border (e.line + 1) lines in
    let gives = map (give_line e) arms in (
      and_left (has_value r selector) (list_all (has_value r) (wires_taken_on Outside (borders ++ gives))) h,
      case_taken r e (map (λ a. a.body) arms) [] (e.line + 1) lines
          (all_front r (wires_taken_on Outside borders) (wires_taken_on Outside gives)
          (subst (HaveValues r) (taken_append borders gives) (and_right (has_value r selector) (list_all (has_value r) (wires_taken_on Outside (borders ++ gives))) h))),
    )

pub takes-Sequence : (r : Reader) (e : Entry) (parts : List Part) → TakesOf r e (Sequence parts) → AllParts (HasTaken r) parts
takes-Sequence r e parts h = parts_taken r e [] parts h

pub takes-InPlace : (r : Reader) (e : Entry) (lines : List Tunnel) (body finish : ℕ) → TakesOf r e (InPlace lines body finish) → AllLines (HasTaken r) lines
takes-InPlace r e lines body finish h = border_taken r e (body ∷ []) [] (e.line + 1) lines h

-- ---- places

abbrev pub places_of : Entry → Kind → List WireSource
places_of e k = lines_sources Outside (kind_lines (λ vi n. false) e k)

border_places : (e : Entry) (inside before : List ℕ) (l : ℕ) (ts : List Tunnel) → lines_sources Outside (border_lines e inside before border l ts) ≡ lines_places Outside l ts
border_places e inside before l [] = refl
border_places e inside before l (t ∷ ts) = ap (λ ws. line_places Outside l t ++ ws) (border_places e inside before (l + 1) ts)

case_gives : (t : Tunnel) → sources_on Outside 1 (case_border t) ≡ sources_on Outside 1 (border t)
case_gives (line.Tunnel outer inner) = refl
case_gives (line.Register initial inner next last) = refl
case_gives (line.Kept t inner next last) = refl
case_gives (line.Last inner outer) = refl
case_gives (line.Gather inner outer) = refl
case_gives (line.Index array inner) = refl
case_gives (line.Result outer default) = refl
case_gives (line.Carry earlier inner) = refl
case_gives (line.Ref reference inner next same code) = refl
case_gives (line.Element array index inner next outer) = refl
case_gives (line.Field k cluster inner next outer) = refl

case_places : (e : Entry) (inside before : List ℕ) (l : ℕ) (ts : List Tunnel) → lines_sources Outside (border_lines e inside before case_border l ts) ≡ lines_places Outside l ts
case_places e inside before l [] = refl
case_places e inside before l (t ∷ ts) =
    ap (λ ks. place_all l ks ++ lines_sources Outside (border_lines e inside before case_border (l + 1) ts)) (case_gives t)
    ∙ ap (λ ws. line_places Outside l t ++ ws) (case_places e inside before (l + 1) ts)

sources_append : (xs ys : List Line) → lines_sources Outside (xs ++ ys) ≡ lines_sources Outside xs ++ lines_sources Outside ys
sources_append [] ys = refl
sources_append (x ∷ xs) ys =
    let here = place_all x.line (sources_on Outside 1 x.operands) in
    ap (λ ws. here ++ ws) (sources_append xs ys) ∙ sym (append_assoc here (lines_sources Outside xs) (lines_sources Outside ys))

no_header : (l : ℕ) (count stop : Option Wire) (i : Wire) → place_all l (sources_on Outside 1 (loop_header count stop i)) ≡ []
no_header l None None i = refl
no_header l None (Some w) i = refl
no_header l (Some w) None i = refl
no_header l (Some w) (Some u) i = refl

no_gives : (e : Entry) (arms : List Arm) → lines_sources Outside (map (give_line e) arms) ≡ []
no_gives e [] = refl
no_gives e (arm ∷ arms) = ap (λ ks. place_all (arm.body + 1) ks ++ lines_sources Outside (map (give_line e) arms)) (none 1 arm.gives) ∙ no_gives e arms
  where
    none : (k : ℕ) (ws : List Wire) → sources_on Outside k (map (free_consumer Inside) ws) ≡ []
    none k [] = refl
    none k (w ∷ ws) = none (k + 1) ws

abbrev pub parts_places : List Part → List WireSource
parts_places [] = []
parts_places (part ∷ parts) = lines_places Outside (part.body + 1) part.lines ++ parts_places parts

parts_give : (e : Entry) (before : List ℕ) (parts : List Part) → lines_sources Outside (parts_lines e before parts) ≡ parts_places parts
parts_give e before [] = refl
parts_give e before (part ∷ parts) =
    let here = border_lines e (part.body ∷ []) before border (part.body + 1) part.lines in
    sources_append here (parts_lines e (part.body ∷ []) parts)
    ∙ ap (λ ws. ws ++ lines_sources Outside (parts_lines e (part.body ∷ []) parts)) (border_places e (part.body ∷ []) before (part.body + 1) part.lines)
    ∙ ap (λ ws. lines_places Outside (part.body + 1) part.lines ++ ws) (parts_give e (part.body ∷ []) parts)

pub places-Loop : (e : Entry) (count stop : Option Wire) (i : Wire) (lines : List Tunnel) (body : ℕ) → places_of e (Loop count stop i lines body) ≡ lines_places Outside (e.line + 1) lines
places-Loop e count stop i lines body =
    ap (λ ws. ws ++ lines_sources Outside (border_lines e (body ∷ []) [] border (e.line + 1) lines)) (no_header e.line count stop i)
    ∙ border_places e (body ∷ []) [] (e.line + 1) lines

pub places-Case : (e : Entry) (selector : Wire) (lines : List Tunnel) (arms : List Arm) → places_of e (Case selector lines arms) ≡ lines_places Outside (e.line + 1) lines
places-Case e selector lines arms =
    let borders = border_lines e (map (λ a. a.body) arms) [] case_border (e.line + 1) lines in
    sources_append borders (map (give_line e) arms)
    ∙ ap (λ ws. lines_sources Outside borders ++ ws) (no_gives e arms)
    ∙ append-nil (lines_sources Outside borders)
    ∙ case_places e (map (λ a. a.body) arms) [] (e.line + 1) lines

pub places-Sequence : (e : Entry) (parts : List Part) → places_of e (Sequence parts) ≡ parts_places parts
places-Sequence e parts = parts_give e [] parts

pub places-InPlace : (e : Entry) (lines : List Tunnel) (body finish : ℕ) → places_of e (InPlace lines body finish) ≡ lines_places Outside (e.line + 1) lines
places-InPlace e lines body finish = border_places e (body ∷ []) [] (e.line + 1) lines
