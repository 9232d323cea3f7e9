-- The steps of nodes, and what they need.
use Rattle.std.proofs.Common.{◌≡◌, ℕ, zero, suc, ◌+◌, ◌<◌, ◌≤◌, true, false, ◌&&◌, List, [], ◌∷◌, ◌++◌, map, length, drop, get_or, refl, sym, ap, ◌∙◌, subst, arith}
use Rattle.std.specs.List.{list_all}
use Rattle.std.proofs.lemmas.List.{append-nil}
use Rattle.g_diagram.specs.declared.node.Tunnel.{Tunnel}
use Rattle.g_diagram.specs.declared.node.Tunnel.TheVariants as line
use Rattle.g_diagram.specs.Lines as lines
use Rattle.g_diagram.specs.Lines.{Wire, Arm}
use Rattle.g_diagram.specs.Operands.{Side, Line, Inside, Outside, border, case_border, border_lines, kind_lines, give_line, free_consumer}
use Rattle.g_border.specs.Bodies as bodies
use Rattle.g_border.specs.Bodies.{Readers, in_diagram, kind_steps}
use Rattle.g_border.specs.Readers.{has_value, inputs_of, node_lines, wires_taken, wires_taken_on}
use Rattle.g_typing.specs.Types.{Types}
use Rattle.g_diagram_table.specs.declared.entry.Entry.{Entry}
use Rattle.g_diagram_table.specs.Seen.{seen, seen_kind}
use Rattle.g_bodies.specs.declared.steps.Step.{Step}
use Rattle.g_bodies.specs.Steps.{taken_outside, taken_inside, first_step, results_step, outputs_step, StepFits, AllFit, NodeFits, NodesFit}

-- ---- one more step

all_push : (r : ℕ → Readers) (ss : List Step) (s : Step) → StepFits r s → AllFit r ss → AllFit r (ss ++ s ∷ [])
all_push r [] s f all = (f, tt)
all_push r (t ∷ ts) s f all = (all.0, all_push r ts s f all.1)

pub pushed : (r : ℕ → Readers) (old new : List Step) (s : Step) → new ≡ old ++ s ∷ [] → StepFits r s → AllFit r old → AllFit r new
pushed r old new s e f all = subst (AllFit r) (sym e) (all_push r old s f all)

all_in : (r : Readers) (d : ℕ) (ws : List Wire) → list_all (λ w. has_value (r w.0) w.1) (in_diagram d ws) ≡ list_all (has_value (r d)) ws
all_in r d [] = refl
all_in r d (w ∷ ws) = ap (λ b. has_value (r d) w && b) (all_in r d ws)

-- a primitive, where it has what it needs once its inputs have values
pub apply_fits : (r : ℕ → Readers) (d : ℕ) (inputs : List Wire) (rs : List (ℕ × Wire)) → rs ≡ in_diagram d inputs
    → (n : ℕ) → list_all (λ w. has_value (r n w.0) w.1) rs ≡ true → list_all (has_value (r n d)) inputs ≡ true
apply_fits r d inputs rs e n h = sym (all_in (r n) d inputs) ∙ ap (list_all (λ w. has_value (r n w.0) w.1)) (sym e) ∙ h

-- ---- the wires of structures

taken_both : (side : Side) (xs ys : List Line) → wires_taken_on side (xs ++ ys) ≡ wires_taken_on side xs ++ wires_taken_on side ys
taken_both side [] ys = refl
taken_both side (x ∷ xs) ys =
    ap (λ ws. wires_taken side x.operands ++ ws) (taken_both side xs ys) ∙ assoc (wires_taken side x.operands) (wires_taken_on side xs) (wires_taken_on side ys)
  where
    assoc : (us vs ws : List Wire) → us ++ (vs ++ ws) ≡ (us ++ vs) ++ ws
    assoc [] vs ws = refl
    assoc (u ∷ us) vs ws = ap (λ xs. u ∷ xs) (assoc us vs ws)

none_given : (ws : List Wire) → wires_taken Outside (map (free_consumer Inside) ws) ≡ []
none_given [] = refl
none_given (w ∷ ws) = none_given ws

gives_nothing : (e : lines.Entry) (arms : List Arm) → wires_taken_on Outside (map (give_line e) arms) ≡ []
gives_nothing e [] = refl
gives_nothing e (arm ∷ arms) = ap (λ ws. ws ++ wires_taken_on Outside (map (give_line e) arms)) (none_given arm.gives) ∙ gives_nothing e arms

case_taken : (t : Tunnel) → wires_taken Outside (case_border t) ≡ wires_taken Outside (border t)
case_taken (line.Tunnel outer inner) = refl
case_taken (line.Register initial inner next last) = refl
case_taken (line.Kept t inner next last) = refl
case_taken (line.Last inner outer) = refl
case_taken (line.Gather inner outer) = refl
case_taken (line.Index array inner) = refl
case_taken (line.Result outer default) = refl
case_taken (line.Carry before inner) = refl
case_taken (line.Ref reference inner next same code) = refl
case_taken (line.Element array index inner next outer) = refl
case_taken (line.Field field cluster inner next outer) = refl

case_outside : (e : lines.Entry) (ins bef : List ℕ) (l : ℕ) (ts : List Tunnel) → wires_taken_on Outside (border_lines e ins bef case_border l ts) ≡ taken_outside ts
case_outside e ins bef l [] = refl
case_outside e ins bef l (t ∷ ts) =
    ap (λ ws. ws ++ wires_taken_on Outside (border_lines e ins bef case_border (l + 1) ts)) (case_taken t)
    ∙ ap (λ ws. wires_taken Outside (border t) ++ ws) (case_outside e ins bef (l + 1) ts)

place_outside : (e : lines.Entry) (ins bef : List ℕ) (l : ℕ) (ts : List Tunnel) → wires_taken_on Outside (border_lines e ins bef border l ts) ≡ taken_outside ts
place_outside e ins bef l [] = refl
place_outside e ins bef l (t ∷ ts) = ap (λ ws. wires_taken Outside (border t) ++ ws) (place_outside e ins bef (l + 1) ts)

place_inside : (e : lines.Entry) (ins bef : List ℕ) (l : ℕ) (ts : List Tunnel) → wires_taken_on Inside (border_lines e ins bef border l ts) ≡ taken_inside ts
place_inside e ins bef l [] = refl
place_inside e ins bef l (t ∷ ts) = ap (λ ws. wires_taken Inside (border t) ++ ws) (place_inside e ins bef (l + 1) ts)

-- the steps of a case
pub case_steps : (types : Types) (e : lines.Entry) (selector : Wire) (ts : List Tunnel) (arms : List Arm) → e.kind ≡ lines.Case selector ts arms
    → first_step e (selector ∷ []) ts ∷ results_step types e selector ts arms ∷ [] ≡ kind_steps types e (lines.Case selector ts arms)
case_steps types e selector ts arms h =
    let ds : List ℕ = map (λ a. a.body) arms in
    let ls : List Line = border_lines e ds [] case_border (e.line + 1) ts in
    let lines_taken : wires_taken_on Outside (ls ++ map (give_line e) arms) ≡ taken_outside ts =
    taken_both Outside ls (map (give_line e) arms) ∙ ap (λ ws. wires_taken_on Outside ls ++ ws) (gives_nothing e arms)
    ∙ append-nil (wires_taken_on Outside ls) ∙ case_outside e ds [] (e.line + 1) ts in
    let taken : inputs_of e ≡ selector ∷ taken_outside ts =
    ap (λ k. wires_taken_on Outside (kind_lines (λ vi n. false) e k)) h ∙ ap (λ ws. selector ∷ ws) lines_taken in
    ap (λ ws. record (first_step e (selector ∷ []) ts) { reads = in_diagram e.diagram ws } ∷ results_step types e selector ts arms ∷ []) (sym taken)

-- those of a structure in place
pub place_steps : (types : Types) (e : lines.Entry) (ts : List Tunnel) (body finish : ℕ) → e.kind ≡ lines.InPlace ts body finish
    → first_step e [] ts ∷ outputs_step types e ts body ∷ [] ≡ kind_steps types e (lines.InPlace ts body finish)
place_steps types e ts body finish h =
    let ls : List Line = border_lines e (body ∷ []) [] border (e.line + 1) ts in
    let these : node_lines e ≡ ls = ap (λ k. kind_lines (λ vi n. false) e k) h in
    let out : taken_outside ts ≡ wires_taken_on Outside (node_lines e) =
    sym (ap (wires_taken_on Outside) these ∙ place_outside e (body ∷ []) [] (e.line + 1) ts) in
    let inner : taken_inside ts ≡ wires_taken_on Inside (node_lines e) =
    sym (ap (wires_taken_on Inside) these ∙ place_inside e (body ∷ []) [] (e.line + 1) ts) in
    let both : List Wire → List Wire → List bodies.Step = λ us vs.
    record (first_step e [] ts) { reads = in_diagram e.diagram us } ∷ record (outputs_step types e ts body) { reads = in_diagram e.diagram us ++ in_diagram body vs } ∷ [] in
    ap (λ us. both us (taken_inside ts)) out ∙ ap (λ vs. both (wires_taken_on Outside (node_lines e)) vs) inner

assoc_steps : {A : Type 0} (old : List A) (x y : A) (new : List A) → x ∷ y ∷ [] ≡ new → (old ++ x ∷ []) ++ y ∷ [] ≡ old ++ new
assoc_steps [] x y new e = e
assoc_steps (z ∷ zs) x y new e = ap (λ ss. z ∷ ss) (assoc_steps zs x y new e)

pub two_steps : {A : Type 0} (old mid all : List A) (x y : A) (new : List A) → mid ≡ old ++ x ∷ [] → all ≡ mid ++ y ∷ [] → x ∷ y ∷ [] ≡ new → all ≡ old ++ new
two_steps old mid all x y new e f g = f ∙ ap (λ ss. ss ++ y ∷ []) e ∙ assoc_steps old x y new g

-- ---- nodes one after another

drop_first : {A : Type 0} (i : ℕ) (xs : List A) (d : A) → i < length xs → drop i xs ≡ get_or xs i d ∷ drop (suc i) xs
drop_first zero [] d lt = absurd (omega (arith, lt))
drop_first zero (x ∷ xs) d lt = refl
drop_first (suc i) [] d lt = absurd (omega (arith, lt))
drop_first (suc i) (x ∷ xs) d lt = drop_first i xs d (omega (arith, lt))

pub drop_all : {A : Type 0} (i : ℕ) (xs : List A) → length xs ≤ i → drop i xs ≡ []
drop_all zero [] le = refl
drop_all zero (x ∷ xs) le = absurd (omega (arith, le))
drop_all (suc i) [] le = refl
drop_all (suc i) (x ∷ xs) le = drop_all i xs (omega (arith, le))

joined : {A : Type 0} (xs ys zs : List A) → (xs ++ ys) ++ zs ≡ xs ++ (ys ++ zs)
joined [] ys zs = refl
joined (x ∷ xs) ys zs = ap (λ ws. x ∷ ws) (joined xs ys zs)

drop_next : {A : Type 0} (i : ℕ) (xs : List A) (d : A) → i < length xs → drop i xs ≡ get_or xs i d ∷ drop (i + 1) xs
drop_next i xs d lt = let n : suc i ≡ i + 1 = omega arith in drop_first i xs d lt ∙ ap (λ k. get_or xs i d ∷ drop k xs) n

pub entries_more : (types : Types) (es : List Entry) (i : ℕ) (d e : Entry) (old new all : List bodies.Step) → i < length es → e ≡ get_or es i d
    → new ≡ old ++ kind_steps types (seen e) (seen_kind e.kind)
    → old ++ bodies.steps_of types (map seen (drop i es)) ≡ all → new ++ bodies.steps_of types (map seen (drop (i + 1) es)) ≡ all
entries_more types es i d e old new all lt same more inv =
    let these : Entry → List bodies.Step = λ x. kind_steps types (seen x) (seen_kind x.kind) in
    ap (λ ss. ss ++ bodies.steps_of types (map seen (drop (i + 1) es))) (more ∙ ap (λ x. old ++ these x) same)
    ∙ joined old (these (get_or es i d)) (bodies.steps_of types (map seen (drop (i + 1) es)))
    ∙ ap (λ xs. old ++ bodies.steps_of types (map seen xs)) (sym (drop_next i es d lt)) ∙ inv

pub fits_more : (r : ℕ → Readers) (es : List Entry) (i : ℕ) (d e : Entry) (old new : List Step) → i < length es → e ≡ get_or es i d
    → (NodeFits r (seen e) → AllFit r old → AllFit r new)
    → AllFit r old × NodesFit r (map seen (drop i es)) → AllFit r new × NodesFit r (map seen (drop (i + 1) es))
fits_more r es i d e old new lt same more both =
    let P : List Entry → Type 0 = λ xs. NodesFit r (map seen xs) in
    let nodes : P (get_or es i d ∷ drop (i + 1) es) = subst P (drop_next i es d lt) both.1 in
    let Q : Entry → Type 0 = λ x. NodeFits r (seen x) in
    (more (subst Q (sym same) nodes.0) both.0, nodes.1)
