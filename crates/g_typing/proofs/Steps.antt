-- The steps in which the types of a VI's wires are decided: what a structure gives inside, and what each node gives outside.
use Rattle.std.proofs.Common.{◌≡◌, ℕ, Bool, true, List, [], ◌∷◌, ◌++◌, refl, ap, ◌∙◌}
use Rattle.std.specs.Prelude.{Option, Some, None}
use Rattle.g_types.specs.declared.ty.Ty.TheVariants as ty
use Rattle.g_diagram.specs.declared.node.Tunnel.{Tunnel}
use Rattle.g_diagram.specs.declared.node.Tunnel.TheVariants as line
use Rattle.g_diagram.specs.Lines.{Wire, Arm, Part, Kind, Const, Apply, Shows, Shared, Obtain, Read, Write, Call, Loop, Case, Sequence, InPlace}
use Rattle.g_typing.specs.Types.{Types, wire_type, wire_types, wire_at, whole}
use Rattle.g_typing.specs.Rows.{is_none_of, kind_misses}
use Rattle.g_typing.specs.Typing.{Given, Callees, Objects, given, given_each, kept_if, all_kept_if, row_after, shared_after, indicator_types, lines_inside, lines_outside, result_given, next_result}
use Rattle.g_typing.proofs.Unique.{Step, SameReads, IsLocal, AreLocal}
use Rattle.g_typing.proofs.Local.{same_left, same_right, all_inside_reads, lines_inside-local, all_outside_reads, lines_outside-local, at_diagram, wire_types-local, result_reads, result_type-local, kind_reads, kind_misses-local}

-- whether a node's types have rows
abbrev pub ok_at : Types → (l d : ℕ) → Kind → Bool
ok_at M l d k = is_none_of (kind_misses M 0 l d k)

ok-local : (M T : Types) (l d : ℕ) (k : Kind) → SameReads M T (kind_reads d k) → ok_at M l d k ≡ ok_at T l d k
ok-local M T l d k h = ap is_none_of (kind_misses-local M T 0 l d k h)

-- what is given whatever the types are
abbrev pub fixed : List Given → Step
fixed gs = record { reads = []; gives = λ M. gs }

abbrev pub inside : (d b : ℕ) → (before : Option ℕ) → List Tunnel → Step
inside d b before ts = record { reads = all_inside_reads d before ts; gives = λ M. lines_inside M d b before ts }

-- what a loop or a structure in place gives outside
abbrev pub outside : (l d b : ℕ) → Kind → List Tunnel → Step
outside l d b k ts = record { reads = kind_reads d k ++ all_outside_reads d b ts; gives = λ M. lines_outside M (ok_at M l d k) d b ts }

-- what a frame gives outside
abbrev pub frame_outside : (d b : ℕ) → List Tunnel → Step
frame_outside d b ts = record { reads = all_outside_reads d b ts; gives = λ M. lines_outside M true d b ts }

abbrev pub arms_steps : (d : ℕ) → List Tunnel → List Arm → List Step
arms_steps d ts [] = []
arms_steps d ts (arm ∷ arms) = inside d arm.body None ts ∷ arms_steps d ts arms

abbrev pub one_result_reads : (k : ℕ) → List Arm → Tunnel → List (ℕ × Wire)
one_result_reads k arms (line.Result outer default) = result_reads k arms
one_result_reads k arms _ = []

abbrev pub result_step : (d k : ℕ) → List Arm → Tunnel → Step
result_step d k arms t = record { reads = one_result_reads k arms t; gives = λ M. result_given M d k arms t }

abbrev pub results_steps : (d k : ℕ) → List Arm → List Tunnel → List Step
results_steps d k arms [] = []
results_steps d k arms (t ∷ ts) = result_step d k arms t ∷ results_steps d (next_result t k) arms ts

abbrev pub parts_steps : (d : ℕ) → (before : Option ℕ) → List Part → List Step
parts_steps d before [] = []
parts_steps d before (p ∷ ps) = inside d p.body before p.lines ∷ frame_outside d p.body p.lines ∷ parts_steps d (Some p.body) ps

abbrev pub steps_append : List Step → List Step → List Step
steps_append [] ys = ys
steps_append (x ∷ xs) ys = x ∷ steps_append xs ys

abbrev pub loop_steps : (l d b : ℕ) → Kind → (iteration : Wire) → List Tunnel → List Step
loop_steps l d b k iteration ts = fixed (given b iteration (Some whole)) ∷ inside d b None ts ∷ outside l d b k ts ∷ []

abbrev pub kind_steps : Callees → Objects → (l d : ℕ) → Kind → List Step
kind_steps called objects l d (Const t literal out) = fixed (given d out (Some t)) ∷ []
kind_steps called objects l d (Apply p inputs outputs) =
    record { reads = at_diagram d inputs; gives = λ M. given_each d outputs (all_kept_if (ok_at M l d (Apply p inputs outputs)) (row_after p (wire_types M d inputs))) } ∷ []
kind_steps called objects l d (Shows name t input) = []
kind_steps called objects l d (Shared op inputs outputs) =
    record { reads = (d, wire_at inputs 0) ∷ []; gives = λ M. given_each d outputs (all_kept_if (ok_at M l d (Shared op inputs outputs)) (shared_after op (wire_type M d (wire_at inputs 0)))) } ∷ []
kind_steps called objects l d (Obtain queue size item out) =
    record { reads = []; gives = λ M. given d out (kept_if (ok_at M l d (Obtain queue size item out)) (Some (ty.QueueRef item))) } ∷ []
kind_steps called objects l d (Read object out) = fixed (given d out (objects object)) ∷ []
kind_steps called objects l d (Write object input) = []
kind_steps called objects l d (Call name inputs outputs) = fixed (given_each d outputs (indicator_types (called name))) ∷ []
kind_steps called objects l d (Loop count stop iteration lines body) = loop_steps l d body (Loop count stop iteration lines body) iteration lines
kind_steps called objects l d (Case selector lines arms) = steps_append (arms_steps d lines arms) (results_steps d 0 arms lines)
kind_steps called objects l d (Sequence parts) = parts_steps d None parts
kind_steps called objects l d (InPlace lines body finish) = inside d body None lines ∷ outside l d body (InPlace lines body finish) lines ∷ []

-- each step gives by what it reads alone

inside-local : (d b : ℕ) (before : Option ℕ) (ts : List Tunnel) → IsLocal (inside d b before ts)
inside-local d b before ts M T h = lines_inside-local M T d b before ts h

outside-local : (l d b : ℕ) (k : Kind) (ts : List Tunnel) → IsLocal (outside l d b k ts)
outside-local l d b k ts M T h =
    ap (λ ok. lines_outside M ok d b ts) (ok-local M T l d k (same_left M T (kind_reads d k) (all_outside_reads d b ts) h))
    ∙ lines_outside-local M T (ok_at T l d k) d b ts (same_right M T (kind_reads d k) (all_outside_reads d b ts) h)

append-local : (xs ys : List Step) → AreLocal xs → AreLocal ys → AreLocal (steps_append xs ys)
append-local [] ys h g = g
append-local (x ∷ xs) ys h g = (h.0, append-local xs ys h.1 g)

arms-local : (d : ℕ) (ts : List Tunnel) (arms : List Arm) → AreLocal (arms_steps d ts arms)
arms-local d ts [] = tt
arms-local d ts (arm ∷ arms) = (inside-local d arm.body None ts, arms-local d ts arms)

result-local : (d k : ℕ) (arms : List Arm) (t : Tunnel) → IsLocal (result_step d k arms t)
result-local d k arms (line.Result outer default) M T h = ap (given d outer) (result_type-local M T k arms h)
result-local d k arms (line.Tunnel outer inner) M T h = refl
result-local d k arms (line.Register initial inner next last) M T h = refl
result-local d k arms (line.Kept t inner next last) M T h = refl
result-local d k arms (line.Last inner outer) M T h = refl
result-local d k arms (line.Gather inner outer) M T h = refl
result-local d k arms (line.Index array inner) M T h = refl
result-local d k arms (line.Carry earlier inner) M T h = refl
result-local d k arms (line.Ref reference inner next same code) M T h = refl
result-local d k arms (line.Element array index inner next outer) M T h = refl
result-local d k arms (line.Field n cluster inner next outer) M T h = refl

results-local : (d k : ℕ) (arms : List Arm) (ts : List Tunnel) → AreLocal (results_steps d k arms ts)
results-local d k arms [] = tt
results-local d k arms (t ∷ ts) = (result-local d k arms t, results-local d (next_result t k) arms ts)

parts-local : (d : ℕ) (before : Option ℕ) (ps : List Part) → AreLocal (parts_steps d before ps)
parts-local d before [] = tt
parts-local d before (p ∷ ps) = (inside-local d p.body before p.lines, ((λ M T h. lines_outside-local M T true d p.body p.lines h), parts-local d (Some p.body) ps))

loop-local : (l d b : ℕ) (k : Kind) (iteration : Wire) (ts : List Tunnel) → AreLocal (loop_steps l d b k iteration ts)
loop-local l d b k iteration ts = ((λ M T h. refl), (inside-local d b None ts, (outside-local l d b k ts, tt)))

pub kind-local : (called : Callees) (objects : Objects) (l d : ℕ) (k : Kind) → AreLocal (kind_steps called objects l d k)
kind-local called objects l d (Const t literal out) = ((λ M T h. refl), tt)
kind-local called objects l d (Apply p inputs outputs) = (
  (λ M T h. ap (λ ok. given_each d outputs (all_kept_if ok (row_after p (wire_types M d inputs)))) (ok-local M T l d (Apply p inputs outputs) h)
      ∙ ap (λ ts. given_each d outputs (all_kept_if (ok_at T l d (Apply p inputs outputs)) (row_after p ts))) (wire_types-local M T d inputs h)),
  tt,
)
kind-local called objects l d (Shows name t input) = tt
kind-local called objects l d (Shared op inputs outputs) = (
  (λ M T h. ap (λ ok. given_each d outputs (all_kept_if ok (shared_after op (wire_type M d (wire_at inputs 0))))) (ok-local M T l d (Shared op inputs outputs) h)
      ∙ ap (λ o. given_each d outputs (all_kept_if (ok_at T l d (Shared op inputs outputs)) (shared_after op o))) h.0),
  tt,
)
kind-local called objects l d (Obtain queue size item out) = ((λ M T h. refl), tt)
kind-local called objects l d (Read object out) = ((λ M T h. refl), tt)
kind-local called objects l d (Write object input) = tt
kind-local called objects l d (Call name inputs outputs) = ((λ M T h. refl), tt)
kind-local called objects l d (Loop count stop iteration lines body) = loop-local l d body (Loop count stop iteration lines body) iteration lines
kind-local called objects l d (Case selector lines arms) = append-local (arms_steps d lines arms) (results_steps d 0 arms lines) (arms-local d lines arms) (results-local d 0 arms lines)
kind-local called objects l d (Sequence parts) = parts-local d None parts
kind-local called objects l d (InPlace lines body finish) = (inside-local d body None lines, (outside-local l d body (InPlace lines body finish) lines, tt))
