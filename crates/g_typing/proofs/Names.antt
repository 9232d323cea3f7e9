-- The names that steps give, whatever the types are.
use Rattle.std.proofs.Common.{◌≡◌, ◌⊎◌, inl, inr, ⊎_elim, ℕ, ◌==◌, Bool, true, false, List, [], ◌∷◌, ◌++◌, refl, sym, ◌∙◌, subst, arith}
use Rattle.std.specs.Prelude.{Option, Some, None}
use Rattle.std.specs.Str.{bytes_eq}
use Rattle.std.proofs.lemmas.Bool.{eqb-true}
use Rattle.std.proofs.lemmas.Slice.Eq.{bytes_eq-Decides}
use Rattle.g_types.specs.declared.ty.Ty.{Ty}
use Rattle.g_diagram.specs.declared.node.Tunnel.{Tunnel}
use Rattle.g_diagram.specs.declared.node.Tunnel.TheVariants as line
use Rattle.g_diagram.specs.declared.panel.PanelItem.{PanelItem}
use Rattle.g_diagram.specs.Lines.{Wire, Arm, Part, Entry, Kind, Const, Apply, Shows, Shared, Obtain, Read, Write, Call, Loop, Case, Sequence, InPlace}
use Rattle.g_typing.specs.Types.{Types}
use Rattle.g_typing.specs.Typing.{Given, Callees, Objects, IsGivenTo, panel_type, given, given_each, line_inside, line_outside, lines_inside, lines_outside, result_given, next_result, controls_given}
use Rattle.g_typing.proofs.Unique.{Step}
use Rattle.g_typing.proofs.Steps.{ok_at, arms_steps, results_steps, parts_steps, steps_append, loop_steps, kind_steps}
use Rattle.g_typing.proofs.Only.{IsIn, entries_steps, vi_steps}
use Rattle.g_typing.proofs.Roles.{nothing}

-- the same names with other types
abbrev pub SameNames : (xs ys : List Given) → Type 0
SameNames [] [] = Unit {0}
SameNames (x ∷ xs) (y ∷ ys) = (x.diagram ≡ y.diagram) × (x.name ≡ y.name) × SameNames xs ys
SameNames _ _ = ⊥

names_append : (xs ys us vs : List Given) → SameNames xs ys → SameNames us vs → SameNames (xs ++ us) (ys ++ vs)
names_append [] [] us vs h g = g
names_append [] (y ∷ ys) us vs h g = absurd h
names_append (x ∷ xs) [] us vs h g = absurd h
names_append (x ∷ xs) (y ∷ ys) us vs h g = (h.0, h.1, names_append xs ys us vs h.2 g)

pub same_given : (xs ys : List Given) (d : ℕ) (n : List ℕ) → SameNames xs ys → IsGivenTo xs d n → IsGivenTo ys d n
same_given [] [] d n h g = g
same_given [] (y ∷ ys) d n h g = absurd h
same_given (x ∷ xs) [] d n h g = absurd h
same_given (x ∷ xs) (y ∷ ys) d n h (inl g) = inl (sym h.0 ∙ g.0, sym h.1 ∙ g.1)
same_given (x ∷ xs) (y ∷ ys) d n h (inr g) = inr (same_given xs ys d n h.2 g)

given_names : (d : ℕ) (w : Wire) (t u : Option Ty) → SameNames (given d w t) (given d w u)
given_names d None t u = tt
given_names d (Some n) t u = (refl, refl, tt)

each_names : (d : ℕ) (ws : List Wire) (ts us : List Ty) → SameNames (given_each d ws ts) (given_each d ws us)
each_names d [] ts us = tt
each_names d (w ∷ ws) [] [] = names_append (given d w None) (given d w None) (given_each d ws []) (given_each d ws []) (given_names d w None None) (each_names d ws [] [])
each_names d (w ∷ ws) [] (u ∷ us) = names_append (given d w None) (given d w (Some u)) (given_each d ws []) (given_each d ws us) (given_names d w None (Some u)) (each_names d ws [] us)
each_names d (w ∷ ws) (t ∷ ts) [] = names_append (given d w (Some t)) (given d w None) (given_each d ws ts) (given_each d ws []) (given_names d w (Some t) None) (each_names d ws ts [])
each_names d (w ∷ ws) (t ∷ ts) (u ∷ us) =
    names_append (given d w (Some t)) (given d w (Some u)) (given_each d ws ts) (given_each d ws us) (given_names d w (Some t) (Some u)) (each_names d ws ts us)

self_names : (xs : List Given) → SameNames xs xs
self_names [] = tt
self_names (x ∷ xs) = (refl, refl, self_names xs)

inside_names : (M T : Types) (d b : ℕ) (before : Option ℕ) (t : Tunnel) → SameNames (line_inside M d b before t) (line_inside T d b before t)
inside_names M T d b before (line.Tunnel outer inner) = given_names b inner _ _
inside_names M T d b before (line.Register initial inner next last) = given_names b inner _ _
inside_names M T d b before (line.Kept t inner next last) = given_names b inner _ _
inside_names M T d b before (line.Last inner outer) = tt
inside_names M T d b before (line.Gather inner outer) = tt
inside_names M T d b before (line.Index array inner) = given_names b inner _ _
inside_names M T d b before (line.Result outer default) = tt
inside_names M T d b before (line.Carry earlier inner) = given_names b inner _ _
inside_names M T d b before (line.Ref reference inner next same code) = given_names b inner _ _
inside_names M T d b before (line.Element array index inner next outer) = given_names b inner _ _
inside_names M T d b before (line.Field k cluster inner next outer) = given_names b inner _ _

all_inside_names : (M T : Types) (d b : ℕ) (before : Option ℕ) (ts : List Tunnel) → SameNames (lines_inside M d b before ts) (lines_inside T d b before ts)
all_inside_names M T d b before [] = tt
all_inside_names M T d b before (t ∷ ts) =
    names_append (line_inside M d b before t) (line_inside T d b before t) (lines_inside M d b before ts) (lines_inside T d b before ts) (inside_names M T d b before t)
    (all_inside_names M T d b before ts)

outside_names : (M T : Types) (ok also : Bool) (d b : ℕ) (t : Tunnel) → SameNames (line_outside M ok d b t) (line_outside T also d b t)
outside_names M T ok also d b (line.Tunnel outer inner) = tt
outside_names M T ok also d b (line.Register initial inner next last) = given_names d last _ _
outside_names M T ok also d b (line.Kept t inner next last) = given_names d last _ _
outside_names M T ok also d b (line.Last inner outer) = given_names d outer _ _
outside_names M T ok also d b (line.Gather inner outer) = given_names d outer _ _
outside_names M T ok also d b (line.Index array inner) = tt
outside_names M T ok also d b (line.Result outer default) = tt
outside_names M T ok also d b (line.Carry earlier inner) = tt
outside_names M T ok also d b (line.Ref reference inner next same code) =
    names_append (given d same _) (given d same _) (given d code _) (given d code _) (given_names d same _ _) (given_names d code _ _)
outside_names M T ok also d b (line.Element array index inner next outer) = given_names d outer _ _
outside_names M T ok also d b (line.Field k cluster inner next outer) = given_names d outer _ _

all_outside_names : (M T : Types) (ok also : Bool) (d b : ℕ) (ts : List Tunnel) → SameNames (lines_outside M ok d b ts) (lines_outside T also d b ts)
all_outside_names M T ok also d b [] = tt
all_outside_names M T ok also d b (t ∷ ts) =
    names_append (line_outside M ok d b t) (line_outside T also d b t) (lines_outside M ok d b ts) (lines_outside T also d b ts) (outside_names M T ok also d b t)
    (all_outside_names M T ok also d b ts)

result_names : (M T : Types) (d k : ℕ) (arms : List Arm) (t : Tunnel) → SameNames (result_given M d k arms t) (result_given T d k arms t)
result_names M T d k arms (line.Result outer default) = given_names d outer _ _
result_names M T d k arms (line.Tunnel outer inner) = tt
result_names M T d k arms (line.Register initial inner next last) = tt
result_names M T d k arms (line.Kept t inner next last) = tt
result_names M T d k arms (line.Last inner outer) = tt
result_names M T d k arms (line.Gather inner outer) = tt
result_names M T d k arms (line.Index array inner) = tt
result_names M T d k arms (line.Carry earlier inner) = tt
result_names M T d k arms (line.Ref reference inner next same code) = tt
result_names M T d k arms (line.Element array index inner next outer) = tt
result_names M T d k arms (line.Field f cluster inner next outer) = tt

-- a step gives the same names whatever the types are
abbrev pub IsNamed : Step → Type 0
IsNamed s = (M T : Types) → SameNames (s.gives M) (s.gives T)

abbrev pub AreNamed : List Step → Type 0
AreNamed [] = Unit {0}
AreNamed (s ∷ ss) = IsNamed s × AreNamed ss

named_append : (xs ys : List Step) → AreNamed xs → AreNamed ys → AreNamed (steps_append xs ys)
named_append [] ys h g = g
named_append (x ∷ xs) ys h g = (h.0, named_append xs ys h.1 g)

arms_named : (d : ℕ) (ts : List Tunnel) (arms : List Arm) → AreNamed (arms_steps d ts arms)
arms_named d ts [] = tt
arms_named d ts (arm ∷ arms) = ((λ M T. all_inside_names M T d arm.body None ts), arms_named d ts arms)

results_named : (d k : ℕ) (arms : List Arm) (ts : List Tunnel) → AreNamed (results_steps d k arms ts)
results_named d k arms [] = tt
results_named d k arms (t ∷ ts) = ((λ M T. result_names M T d k arms t), results_named d (next_result t k) arms ts)

parts_named : (d : ℕ) (before : Option ℕ) (ps : List Part) → AreNamed (parts_steps d before ps)
parts_named d before [] = tt
parts_named d before (p ∷ ps) =
    ((λ M T. all_inside_names M T d p.body before p.lines), ((λ M T. all_outside_names M T true true d p.body p.lines), parts_named d (Some p.body) ps))

loop_named : (l d b : ℕ) (k : Kind) (iteration : Wire) (ts : List Tunnel) → AreNamed (loop_steps l d b k iteration ts)
loop_named l d b k iteration ts =
    ((λ M T. given_names b iteration _ _), ((λ M T. all_inside_names M T d b None ts), ((λ M T. all_outside_names M T (ok_at M l d k) (ok_at T l d k) d b ts), tt)))

kind_named : (called : Callees) (objects : Objects) (l d : ℕ) (k : Kind) → AreNamed (kind_steps called objects l d k)
kind_named called objects l d (Const t literal out) = ((λ M T. given_names d out _ _), tt)
kind_named called objects l d (Apply p inputs outputs) = ((λ M T. each_names d outputs _ _), tt)
kind_named called objects l d (Shows name t input) = tt
kind_named called objects l d (Shared op inputs outputs) = ((λ M T. each_names d outputs _ _), tt)
kind_named called objects l d (Obtain queue size item out) = ((λ M T. given_names d out _ _), tt)
kind_named called objects l d (Read object out) = ((λ M T. given_names d out _ _), tt)
kind_named called objects l d (Write object input) = tt
kind_named called objects l d (Call name inputs outputs) = ((λ M T. each_names d outputs _ _), tt)
kind_named called objects l d (Loop count stop iteration ts body) = loop_named l d body (Loop count stop iteration ts body) iteration ts
kind_named called objects l d (Case selector ts arms) = named_append (arms_steps d ts arms) (results_steps d 0 arms ts) (arms_named d ts arms) (results_named d 0 arms ts)
kind_named called objects l d (Sequence parts) = parts_named d None parts
kind_named called objects l d (InPlace ts body finish) =
    ((λ M T. all_inside_names M T d body None ts), ((λ M T. all_outside_names M T (ok_at M l d (InPlace ts body finish)) (ok_at T l d (InPlace ts body finish)) d body ts), tt))

entries_named : (called : Callees) (objects : Objects) (es : List Entry) → AreNamed (entries_steps called objects es)
entries_named called objects [] = tt
entries_named called objects (e ∷ es) =
    named_append (kind_steps called objects e.line e.diagram e.kind) (entries_steps called objects es) (kind_named called objects e.line e.diagram e.kind) (entries_named called objects es)

pub vi_named : (called : Callees) (panel : List PanelItem) (es : List Entry) → AreNamed (vi_steps called panel es)
vi_named called panel es = ((λ M T. self_names (controls_given panel)), entries_named called (panel_type panel) es)

pub named_in : (s : Step) (xs : List Step) → AreNamed xs → IsIn s xs → IsNamed s
named_in s [] h k = absurd k
named_in s (x ∷ xs) h (inl e) = subst IsNamed e h.0
named_in s (x ∷ xs) h (inr k) = named_in s xs h.1 k

-- whether something gives a name

same_place : (g : Given) (d : ℕ) (n : List ℕ) (a b : Bool) → (g.diagram == d) ≡ a → bytes_eq g.name n ≡ b → ((g.diagram ≡ d) × (g.name ≡ n)) ⊎ ((g.diagram ≡ d) × (g.name ≡ n) → ⊥)
same_place g d n true true e f = inl (eqb-true g.diagram d e, (bytes_eq-Decides g.name n).0 f)
same_place g d n true false e f = inr (λ h. absurd (let x : bytes_eq g.name n ≡ true = (bytes_eq-Decides g.name n).1 h.1 in cc))
same_place g d n false b e f = inr (λ h. absurd (let x : (d == d) ≡ false = (let P : ℕ → Type 0 = λ y. (y == d) ≡ false in subst P h.0 e) in let y : (d == d) ≡ true = grind arith in cc))

pub is_given : (gs : List Given) (d : ℕ) (n : List ℕ) → IsGivenTo gs d n ⊎ (IsGivenTo gs d n → ⊥)
is_given [] d n = inr (λ h. h)
is_given (g ∷ gs) d n =
    ⊎_elim
    (λ here. inl (inl here))
    (λ not_here. ⊎_elim (λ later. inl (inr later)) (λ no_more. inr (λ h. ⊎_elim not_here no_more h)) (is_given gs d n))
    (same_place g d n (g.diagram == d) (bytes_eq g.name n) refl refl)

pub record Giver (ss : List Step) (d : ℕ) (n : List ℕ) : Type 0 where
  pub step : Step
  pub is : IsIn step ss
  pub gives : IsGivenTo (step.gives nothing) d n

abbrev pub NoGiver : List Step → ℕ → List ℕ → Type 0
NoGiver ss d n = (t : Step) → IsIn t ss → IsGivenTo (t.gives nothing) d n → ⊥

pub find_giver : (ss : List Step) (d : ℕ) (n : List ℕ) → Giver ss d n ⊎ NoGiver ss d n
find_giver [] d n = inr (λ t is g. absurd is)
find_giver (s ∷ ss) d n =
    ⊎_elim
    (λ here. inl (record { step = s; is = inl refl; gives = here }))
    (λ not_here. ⊎_elim
    (λ (later : Giver ss d n). inl (record { step = later.step; is = inr later.is; gives = later.gives }))
    (λ none. inr (λ t is g. ⊎_elim (λ e. not_here (subst (λ (y : Step). IsGivenTo (y.gives nothing) d n) (sym e) g)) (λ i. none t i g) is))
    (find_giver ss d n))
    (is_given (s.gives nothing) d n)
