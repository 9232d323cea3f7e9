-- The steps of a VI give what its lines give, so two typings of it agree on what is decided step by step.
use Rattle.std.proofs.Common.{◌≡◌, ℕ, true, List, [], ◌∷◌, ◌++◌, refl, ap, sym, ◌∙◌, subst, append_assoc, inl, inr}
use Rattle.std.specs.Prelude.{◌⊎◌, Option, Some, None}
use Rattle.std.specs.List.{AllByRecursion}
use Rattle.std.proofs.lemmas.List.{append-nil}
use Rattle.std.proofs.lemmas.List.Elements.{All-from_recursion, recursion_from_All}
use Rattle.g_diagram.specs.declared.node.Tunnel.{Tunnel}
use Rattle.g_diagram.specs.declared.panel.PanelItem.{PanelItem}
use Rattle.g_diagram.specs.Lines.{Arm, Part, Entry, Kind, Const, Apply, Shows, Shared, Obtain, Read, Write, Call, Loop, Case, Sequence, InPlace}
use Rattle.g_typing.specs.Types.{Types}
use Rattle.g_typing.specs.Typing.{Given, Callees, Objects, HasGiven, AreTypes, panel_type, controls_given, lines_inside, lines_outside, arms_inside, result_given, results_given, next_result, parts_given, kind_given, entries_given, all_given}
use Rattle.g_typing.proofs.Unique.{Step, IsLocal, AreLocal, HaveGiven, HoldsAll, AreOrdered, IsGivenIn, unique}
use Rattle.g_typing.proofs.Steps.{fixed, ok_at, arms_steps, results_steps, parts_steps, steps_append, kind_steps, kind-local}

abbrev pub all_gives : Types → List Step → List Given
all_gives M [] = []
all_gives M (s ∷ ss) = s.gives M ++ all_gives M ss

gives_append : (M : Types) (xs ys : List Step) → all_gives M (steps_append xs ys) ≡ all_gives M xs ++ all_gives M ys
gives_append M [] ys = refl
gives_append M (x ∷ xs) ys = ap (λ gs. x.gives M ++ gs) (gives_append M xs ys) ∙ sym (append_assoc (x.gives M) (all_gives M xs) (all_gives M ys))

arms_give : (M : Types) (d : ℕ) (ts : List Tunnel) (arms : List Arm) → all_gives M (arms_steps d ts arms) ≡ arms_inside M d ts arms
arms_give M d ts [] = refl
arms_give M d ts (arm ∷ arms) = ap (λ gs. lines_inside M d arm.body None ts ++ gs) (arms_give M d ts arms)

results_give : (M : Types) (d k : ℕ) (arms : List Arm) (ts : List Tunnel) → all_gives M (results_steps d k arms ts) ≡ results_given M d k arms ts
results_give M d k arms [] = refl
results_give M d k arms (t ∷ ts) = ap (λ gs. result_given M d k arms t ++ gs) (results_give M d (next_result t k) arms ts)

parts_give : (M : Types) (d : ℕ) (before : Option ℕ) (ps : List Part) → all_gives M (parts_steps d before ps) ≡ parts_given M d before ps
parts_give M d before [] = refl
parts_give M d before (p ∷ ps) =
    ap (λ gs. lines_inside M d p.body before p.lines ++ (lines_outside M true d p.body p.lines ++ gs)) (parts_give M d (Some p.body) ps)
    ∙ sym (append_assoc (lines_inside M d p.body before p.lines) (lines_outside M true d p.body p.lines) (parts_given M d (Some p.body) ps))

-- the steps of a node give what the node gives
pub kind_gives : (called : Callees) (objects : Objects) (M : Types) (l d : ℕ) (k : Kind) → all_gives M (kind_steps called objects l d k) ≡ kind_given called objects M (ok_at M l d k) d k
kind_gives called objects M l d (Const t literal out) = simp append-nil
kind_gives called objects M l d (Apply p inputs outputs) = simp append-nil
kind_gives called objects M l d (Shows name t input) = refl
kind_gives called objects M l d (Shared op inputs outputs) = simp append-nil
kind_gives called objects M l d (Obtain queue size item out) = simp append-nil
kind_gives called objects M l d (Read object out) = simp append-nil
kind_gives called objects M l d (Write object input) = refl
kind_gives called objects M l d (Call name inputs outputs) = simp append-nil
kind_gives called objects M l d (Loop count stop iteration lines body) = simp append-nil
kind_gives called objects M l d (Case selector lines arms) =
    gives_append M (arms_steps d lines arms) (results_steps d 0 arms lines)
    ∙ ap (λ gs. gs ++ all_gives M (results_steps d 0 arms lines)) (arms_give M d lines arms) ∙ ap (λ gs. arms_inside M d lines arms ++ gs) (results_give M d 0 arms lines)
kind_gives called objects M l d (Sequence parts) = parts_give M d None parts
kind_gives called objects M l d (InPlace lines body finish) = simp append-nil

abbrev pub entries_steps : Callees → Objects → List Entry → List Step
entries_steps called objects [] = []
entries_steps called objects (e ∷ es) = steps_append (kind_steps called objects e.line e.diagram e.kind) (entries_steps called objects es)

-- the steps of a VI with this panel and these nodes
abbrev pub vi_steps : Callees → List PanelItem → List Entry → List Step
vi_steps called panel es = fixed (controls_given panel) ∷ entries_steps called (panel_type panel) es

entries_give : (called : Callees) (objects : Objects) (M : Types) (es : List Entry) → all_gives M (entries_steps called objects es) ≡ entries_given called objects M es
entries_give called objects M [] = refl
entries_give called objects M (e ∷ es) =
    gives_append M (kind_steps called objects e.line e.diagram e.kind) (entries_steps called objects es)
    ∙ ap (λ gs. gs ++ all_gives M (entries_steps called objects es)) (kind_gives called objects M e.line e.diagram e.kind)
    ∙ ap (λ gs. kind_given called objects M (ok_at M e.line e.diagram e.kind) e.diagram e.kind ++ gs) (entries_give called objects M es)

pub vi_gives : (called : Callees) (panel : List PanelItem) (es : List Entry) (M : Types) → all_gives M (vi_steps called panel es) ≡ all_given called panel es M
vi_gives called panel es M = ap (λ gs. controls_given panel ++ gs) (entries_give called (panel_type panel) M es)

append-local : (xs ys : List Step) → AreLocal xs → AreLocal ys → AreLocal (steps_append xs ys)
append-local [] ys h g = g
append-local (x ∷ xs) ys h g = (h.0, append-local xs ys h.1 g)

entries-local : (called : Callees) (objects : Objects) (es : List Entry) → AreLocal (entries_steps called objects es)
entries-local called objects [] = tt
entries-local called objects (e ∷ es) =
    append-local (kind_steps called objects e.line e.diagram e.kind) (entries_steps called objects es) (kind-local called objects e.line e.diagram e.kind) (entries-local called objects es)

pub vi-local : (called : Callees) (panel : List PanelItem) (es : List Entry) → AreLocal (vi_steps called panel es)
vi-local called panel es = ((λ M T h. refl), entries-local called (panel_type panel) es)

have_left : (M : Types) (xs ys : List Given) → HaveGiven M (xs ++ ys) → HaveGiven M xs
have_left M [] ys h = tt
have_left M (x ∷ xs) ys h = (h.0, have_left M xs ys h.1)

have_right : (M : Types) (xs ys : List Given) → HaveGiven M (xs ++ ys) → HaveGiven M ys
have_right M [] ys h = h
have_right M (x ∷ xs) ys h = have_right M xs ys h.1

holds_from : (M : Types) (ss : List Step) → HaveGiven M (all_gives M ss) → HoldsAll M ss
holds_from M [] h = tt
holds_from M (s ∷ ss) h = (have_left M (s.gives M) (all_gives M ss) h, holds_from M ss (have_right M (s.gives M) (all_gives M ss) h))

have_from : (M : Types) (gs : List Given) → AllByRecursion (HasGiven M) gs → HaveGiven M gs
have_from M [] h = tt
have_from M (g ∷ gs) h = (h.0, have_from M gs h.1)

-- a typing holds of all steps
pub typing_holds : (called : Callees) (panel : List PanelItem) (es : List Entry) (M : Types) → AreTypes called panel es M → HoldsAll M (vi_steps called panel es)
typing_holds called panel es M h =
    holds_from M (vi_steps called panel es)
    (subst (HaveGiven M) (sym (vi_gives called panel es M)) (have_from M (all_given called panel es M) (recursion_from_All (HasGiven M) (all_given called panel es M) h)))

-- a step among some
abbrev pub IsIn : Step → List Step → Type 0
IsIn s [] = ⊥
IsIn s (x ∷ xs) = (x ≡ s) ⊎ IsIn s xs

abbrev pub AreIn : List Step → List Step → Type 0
AreIn [] xs = Unit {0}
AreIn (s ∷ ss) xs = IsIn s xs × AreIn ss xs

pub local_in : (s : Step) (xs : List Step) → AreLocal xs → IsIn s xs → IsLocal s
local_in s [] h k = absurd k
local_in s (x ∷ xs) h (inl e) = subst IsLocal e h.0
local_in s (x ∷ xs) h (inr k) = local_in s xs h.1 k

all_local : (ss xs : List Step) → AreLocal xs → AreIn ss xs → AreLocal ss
all_local [] xs h ks = tt
all_local (s ∷ ss) xs h ks = (local_in s xs h ks.0, all_local ss xs h ks.1)

pub holds_in : (M : Types) (s : Step) (xs : List Step) → HoldsAll M xs → IsIn s xs → HaveGiven M (s.gives M)
holds_in M s [] h k = absurd k
holds_in M s (x ∷ xs) h (inl e) = subst (λ (y : Step). HaveGiven M (y.gives M)) e h.0
holds_in M s (x ∷ xs) h (inr k) = holds_in M s xs h.1 k

all_hold : (M : Types) (ss xs : List Step) → HoldsAll M xs → AreIn ss xs → HoldsAll M ss
all_hold M [] xs h ks = tt
all_hold M (s ∷ ss) xs h ks = (holds_in M s xs h ks.0, all_hold M ss xs h ks.1)

abbrev pub IsNone : ℕ → List ℕ → Type 0
IsNone d name = ⊥

-- no other typing has other types at what steps of the VI give in an order in which each reads what those before it gave
pub only_typing : (called : Callees) (panel : List PanelItem) (es : List Entry) (M T : Types) (ss : List Step) → AreIn ss (vi_steps called panel es) → AreOrdered M IsNone ss
    → AreTypes called panel es M → AreTypes called panel es T → (d : ℕ) (name : List ℕ) → IsGivenIn M ss d name → M d name ≡ T d name
only_typing called panel es M T ss ks ordered m t d name k =
    unique M T IsNone ss (all_local ss (vi_steps called panel es) (vi-local called panel es) ks) ordered
    (all_hold M ss (vi_steps called panel es) (typing_holds called panel es M m) ks) (all_hold T ss (vi_steps called panel es) (typing_holds called panel es T t) ks)
    (λ e n z. absurd z) d name k

have_both : (M : Types) (xs ys : List Given) → HaveGiven M xs → HaveGiven M ys → HaveGiven M (xs ++ ys)
have_both M [] ys h g = g
have_both M (x ∷ xs) ys h g = (h.0, have_both M xs ys h.1 g)

have_all : (M : Types) (ss : List Step) → HoldsAll M ss → HaveGiven M (all_gives M ss)
have_all M [] h = tt
have_all M (s ∷ ss) h = have_both M (s.gives M) (all_gives M ss) h.0 (have_all M ss h.1)

by_recursion : (M : Types) (gs : List Given) → HaveGiven M gs → AllByRecursion (HasGiven M) gs
by_recursion M [] h = tt
by_recursion M (g ∷ gs) h = (h.0, by_recursion M gs h.1)

-- types that hold of all steps are a typing
pub steps_hold : (called : Callees) (panel : List PanelItem) (es : List Entry) (M : Types) → HoldsAll M (vi_steps called panel es) → AreTypes called panel es M
steps_hold called panel es M h =
    All-from_recursion (HasGiven M) (all_given called panel es M)
    (by_recursion M (all_given called panel es M) (subst (HaveGiven M) (vi_gives called panel es M) (have_all M (vi_steps called panel es) h)))
