-- The steps by their forms are the steps of the VI, but that one step stands for what the tunnels of a case give in all its branches.
use Rattle.std.proofs.Common.{◌≡◌, ◌⊎◌, inl, inr, ⊎_elim, ℕ, List, [], ◌∷◌, ◌++◌, map, refl, ap, sym, ◌∙◌, subst, append_assoc}
use Rattle.std.specs.Prelude.{Option, Some, None}
use Rattle.std.specs.List.{AllByRecursion}
use Rattle.std.proofs.lemmas.List.{map-append}
use Rattle.std.proofs.lemmas.List.Elements.{All-from_recursion}
use Rattle.g_diagram.specs.declared.node.Tunnel.{Tunnel}
use Rattle.g_diagram.specs.declared.panel.PanelItem.{PanelItem}
use Rattle.g_diagram.specs.Lines.{Arm, Part, Entry, Kind, Const, Apply, Shows, Shared, Obtain, Read, Write, Call, Loop, Case, Sequence, InPlace, entry}
use Rattle.g_typing.specs.Types.{Types}
use Rattle.g_typing.specs.Typing.{Given, Callees, Objects, HasGiven, AreTypes, IsGivenTo, panel_type, next_result, controls_given, lines_inside, arms_inside, result_given, results_given, kind_given, entries_given, all_given}
use Rattle.g_typing.proofs.Local.{all_inside_reads, lines_inside-local}
use Rattle.g_typing.proofs.Names.{SameNames, IsNamed, named_in, vi_named}
use Rattle.g_typing.proofs.Only.{IsIn, all_gives, kind_gives, entries_steps, vi_steps, vi-local, local_in}
use Rattle.g_typing.proofs.Ready.{Ready, ready}
use Rattle.g_typing.proofs.Roles.{nothing, IsRead, given_append}
use Rattle.g_typing.proofs.Steps.{ok_at, inside, arms_steps, results_steps, parts_steps, steps_append, kind_steps}
use Rattle.g_typing.proofs.Unique.{Step, IsLocal, HaveGiven, HoldsAll}
use Rattle.g_infer.specs.Gives.{step_of}
use Rattle.g_infer.specs.Steps.{Branches, Opening, FrameClosing, Result, results_forms, parts_forms, node_forms, entries_forms, vi_forms}

-- ---- steps among others

in_left : (s : Step) (xs ys : List Step) → IsIn s xs → IsIn s (steps_append xs ys)
in_left s [] ys h = absurd h
in_left s (x ∷ xs) ys (inl e) = inl e
in_left s (x ∷ xs) ys (inr h) = inr (in_left s xs ys h)

in_right : (s : Step) (xs ys : List Step) → IsIn s ys → IsIn s (steps_append xs ys)
in_right s [] ys h = h
in_right s (x ∷ xs) ys h = inr (in_right s xs ys h)

in_sides : (s : Step) (xs ys : List Step) → IsIn s (xs ++ ys) → IsIn s xs ⊎ IsIn s ys
in_sides s [] ys h = inr h
in_sides s (x ∷ xs) ys (inl e) = inl (inl e)
in_sides s (x ∷ xs) ys (inr h) = ⊎_elim (λ l. inl (inr l)) (λ r. inr r) (in_sides s xs ys h)

gives_append : (M : Types) (xs ys : List Step) → all_gives M (xs ++ ys) ≡ all_gives M xs ++ all_gives M ys
gives_append M [] ys = refl
gives_append M (x ∷ xs) ys = ap (λ (gs : List Given). x.gives M ++ gs) (gives_append M xs ys) ∙ sym (append_assoc (x.gives M) (all_gives M xs) (all_gives M ys))

-- ---- the step of a case

module _ (called : Callees) (objects : Objects) where
  -- a step that stands for those of branches among some
  record IsCase (s : Step) (all : List Step) : Type 0 where
    outer : ℕ
    lines : List Tunnel
    arms : List Arm
    is : step_of called objects (Branches outer lines arms) ≡ s
    among : (t : Step) → IsIn t (arms_steps outer lines arms) → IsIn t all

  wider : (s : Step) (xs ys : List Step) → ((t : Step) → IsIn t xs → IsIn t ys) → IsIn s xs ⊎ IsCase s xs → IsIn s ys ⊎ IsCase s ys
  wider s xs ys more (inl h) = inl (more s h)
  wider s xs ys more (inr c) = inr (record { outer = c.outer; lines = c.lines; arms = c.arms; is = c.is; among = λ t i. more t (c.among t i) })

  results_are : (d k : ℕ) (arms : List Arm) (ts : List Tunnel) → map (step_of called objects) (results_forms d k arms ts) ≡ results_steps d k arms ts
  results_are d k arms [] = refl
  results_are d k arms (t ∷ ts) = ap (λ (ss : List Step). step_of called objects (Result d k arms t) ∷ ss) (results_are d (next_result t k) arms ts)

  parts_are : (d : ℕ) (before : Option ℕ) (ps : List Part) → map (step_of called objects) (parts_forms d before ps) ≡ parts_steps d before ps
  parts_are d before [] = refl
  parts_are d before (p ∷ ps) =
      ap (λ (ss : List Step). step_of called objects (Opening d p.body before p.lines) ∷ step_of called objects (FrameClosing d p.body p.lines) ∷ ss) (parts_are d (Some p.body) ps)

  abbrev made_of : Entry → List Step
  made_of e = map (step_of called objects) (node_forms e e.kind)

  abbrev steps_at : ℕ → ℕ → Kind → List Step
  steps_at l d k = kind_steps called objects l d k

  node_made : (s : Step) (l d : ℕ) (k : Kind) → IsIn s (made_of (entry l d k)) → IsIn s (steps_at l d k) ⊎ IsCase s (steps_at l d k)
  node_made s l d (Const t literal out) h = inl h
  node_made s l d (Apply p inputs outputs) h = inl h
  node_made s l d (Shows name t input) h = inl h
  node_made s l d (Shared op inputs outputs) h = inl h
  node_made s l d (Obtain queue size item out) h = inl h
  node_made s l d (Read object out) h = inl h
  node_made s l d (Write object input) h = inl h
  node_made s l d (Call name inputs outputs) h = inl h
  node_made s l d (Loop count stop iteration ts body) h = inl h
  node_made s l d (Case selector ts arms) (inl e) =
      inr (record { outer = d; lines = ts; arms = arms; is = e; among = λ t i. in_left t (arms_steps d ts arms) (results_steps d 0 arms ts) i })
  node_made s l d (Case selector ts arms) (inr h) =
      inl (in_right s (arms_steps d ts arms) (results_steps d 0 arms ts) (let P : List Step → Type 0 = λ ss. IsIn s ss in subst P (results_are d 0 arms ts) h))
  node_made s l d (Sequence parts) h = inl (let P : List Step → Type 0 = λ ss. IsIn s ss in subst P (parts_are d None parts) h)
  node_made s l d (InPlace ts body finish) h = inl h

  entries_made : (s : Step) (es : List Entry) → IsIn s (map (step_of called objects) (entries_forms es)) → IsIn s (entries_steps called objects es) ⊎ IsCase s (entries_steps called objects es)
  entries_made s [] h = absurd h
  entries_made s (e ∷ es) h =
      let P : List Step → Type 0 = λ ss. IsIn s ss in
      let here : List Step = steps_at e.line e.diagram e.kind in
      let later : List Step = entries_steps called objects es in
      ⊎_elim
      (λ l. wider s here (steps_append here later) (λ t i. in_left t here later i) (node_made s e.line e.diagram e.kind l))
      (λ r. wider s later (steps_append here later) (λ t i. in_right t here later i) (entries_made s es r))
      (in_sides s (made_of e) (map (step_of called objects) (entries_forms es)) (subst P (map-append (step_of called objects) (node_forms e e.kind) (entries_forms es)) h))

  -- ---- what they give

  results_give : (M : Types) (d k : ℕ) (arms : List Arm) (ts : List Tunnel) → all_gives M (map (step_of called objects) (results_forms d k arms ts)) ≡ results_given M d k arms ts
  results_give M d k arms [] = refl
  results_give M d k arms (t ∷ ts) = ap (λ (gs : List Given). result_given M d k arms t ++ gs) (results_give M d (next_result t k) arms ts)

  node_gives : (M : Types) (l d : ℕ) (k : Kind) → all_gives M (made_of (entry l d k)) ≡ kind_given called objects M (ok_at M l d k) d k
  node_gives M l d (Const t literal out) = kind_gives called objects M l d (Const t literal out)
  node_gives M l d (Apply p inputs outputs) = kind_gives called objects M l d (Apply p inputs outputs)
  node_gives M l d (Shows name t input) = refl
  node_gives M l d (Shared op inputs outputs) = kind_gives called objects M l d (Shared op inputs outputs)
  node_gives M l d (Obtain queue size item out) = kind_gives called objects M l d (Obtain queue size item out)
  node_gives M l d (Read object out) = kind_gives called objects M l d (Read object out)
  node_gives M l d (Write object input) = refl
  node_gives M l d (Call name inputs outputs) = kind_gives called objects M l d (Call name inputs outputs)
  node_gives M l d (Loop count stop iteration ts body) = kind_gives called objects M l d (Loop count stop iteration ts body)
  node_gives M l d (Case selector ts arms) = ap (λ (gs : List Given). arms_inside M d ts arms ++ gs) (results_give M d 0 arms ts)
  node_gives M l d (Sequence parts) = ap (λ (ss : List Step). all_gives M ss) (parts_are d None parts) ∙ kind_gives called objects M l d (Sequence parts)
  node_gives M l d (InPlace ts body finish) = kind_gives called objects M l d (InPlace ts body finish)

  entries_give : (M : Types) (es : List Entry) → all_gives M (map (step_of called objects) (entries_forms es)) ≡ entries_given called objects M es
  entries_give M [] = refl
  entries_give M (e ∷ es) =
      ap (λ (ss : List Step). all_gives M ss) (map-append (step_of called objects) (node_forms e e.kind) (entries_forms es))
      ∙ gives_append M (made_of e) (map (step_of called objects) (entries_forms es))
      ∙ ap (λ (gs : List Given). gs ++ all_gives M (map (step_of called objects) (entries_forms es))) (node_gives M e.line e.diagram e.kind)
      ∙ ap (λ (gs : List Given). kind_given called objects M (ok_at M e.line e.diagram e.kind) e.diagram e.kind ++ gs) (entries_give M es)

-- ---- each is local and names what it gives

arms-local : (M T : Types) (d : ℕ) (ts : List Tunnel) (arms : List Arm) → ((b : ℕ) → lines_inside M d b None ts ≡ lines_inside T d b None ts)
    → arms_inside M d ts arms ≡ arms_inside T d ts arms
arms-local M T d ts [] h = refl
arms-local M T d ts (arm ∷ arms) h =
    ap (λ (gs : List Given). gs ++ arms_inside M d ts arms) (h arm.body) ∙ ap (λ (gs : List Given). lines_inside T d arm.body None ts ++ gs) (arms-local M T d ts arms h)

names_append : (xs ys us vs : List Given) → SameNames xs ys → SameNames us vs → SameNames (xs ++ us) (ys ++ vs)
names_append [] [] us vs h g = g
names_append [] (y ∷ ys) us vs h g = absurd h
names_append (x ∷ xs) [] us vs h g = absurd h
names_append (x ∷ xs) (y ∷ ys) us vs h g = (h.0, h.1, names_append xs ys us vs h.2 g)

arms_named : (M T : Types) (d : ℕ) (ts : List Tunnel) (arms : List Arm) → ((t : Step) → IsIn t (arms_steps d ts arms) → IsNamed t) → SameNames (arms_inside M d ts arms) (arms_inside T d ts arms)
arms_named M T d ts [] h = tt
arms_named M T d ts (arm ∷ arms) h =
    names_append (lines_inside M d arm.body None ts) (lines_inside T d arm.body None ts) (arms_inside M d ts arms) (arms_inside T d ts arms)
    (h (inside d arm.body None ts) (inl refl) M T) (arms_named M T d ts arms (λ t i. h t (inr i)))

-- ---- where what they give comes from

-- a step that gives a name and reads what another does
record Source (all : List Step) (qs : List (ℕ × Option (List ℕ))) (z : ℕ) (n : List ℕ) : Type 0 where
  step : Step
  is : IsIn step all
  reads : step.reads ≡ qs
  gives : IsGivenTo (step.gives nothing) z n

arms_source : (all : List Step) (d : ℕ) (ts : List Tunnel) (arms : List Arm) (z : ℕ) (n : List ℕ) → ((t : Step) → IsIn t (arms_steps d ts arms) → IsIn t all)
    → IsGivenTo (arms_inside nothing d ts arms) z n → Source all (all_inside_reads d None ts) z n
arms_source all d ts [] z n among h = absurd h
arms_source all d ts (arm ∷ arms) z n among h = ⊎_elim
    (λ l. record { step = inside d arm.body None ts; is = among (inside d arm.body None ts) (inl refl); reads = refl; gives = l })
    (λ r. arms_source all d ts arms z n (λ t i. among t (inr i)) r)
    (given_append (lines_inside nothing d arm.body None ts) (arms_inside nothing d ts arms) z n h)

-- ---- types that have what is given

pub have_both : (M : Types) (xs ys : List Given) → HaveGiven M xs → HaveGiven M ys → HaveGiven M (xs ++ ys)
have_both M [] ys h g = g
have_both M (x ∷ xs) ys h g = (h.0, have_both M xs ys h.1 g)

have_all : (M : Types) (ss : List Step) → HoldsAll M ss → HaveGiven M (all_gives M ss)
have_all M [] h = tt
have_all M (s ∷ ss) h = have_both M (s.gives M) (all_gives M ss) h.0 (have_all M ss h.1)

by_recursion : (M : Types) (gs : List Given) → HaveGiven M gs → AllByRecursion (HasGiven M) gs
by_recursion M [] h = tt
by_recursion M (g ∷ gs) h = (h.0, by_recursion M gs h.1)

-- ---- the steps of a VI

abbrev pub made_steps : Callees → List PanelItem → List Entry → List Step
made_steps called panel es = map (step_of called (panel_type panel)) (vi_forms panel es)

module _ (called : Callees) (panel : List PanelItem) (es : List Entry) where
  abbrev made : List Step
  made = made_steps called panel es

  abbrev all : List Step
  all = vi_steps called panel es

  pub made_gives : (M : Types) → all_gives M made ≡ all_given called panel es M
  made_gives M = ap (λ (gs : List Given). controls_given panel ++ gs) (entries_give called (panel_type panel) M es)

  origin : (s : Step) → IsIn s made → IsIn s all ⊎ IsCase called (panel_type panel) s all
  origin s (inl e) = inl (inl e)
  origin s (inr h) =
      wider called (panel_type panel) s (entries_steps called (panel_type panel) es) all (λ t i. inr i) (entries_made called (panel_type panel) s es h)

  local_by : (s : Step) → IsIn s all ⊎ IsCase called (panel_type panel) s all → IsLocal s
  local_by s (inl i) = local_in s all (vi-local called panel es) i
  local_by s (inr c) = subst IsLocal c.is (λ M T same. arms-local M T c.outer c.lines c.arms (λ b. lines_inside-local M T c.outer b None c.lines same))

  pub made_local : (s : Step) → IsIn s made → IsLocal s
  made_local s i = local_by s (origin s i)

  named_all : (s : Step) → IsIn s all → IsNamed s
  named_all s i = named_in s all (vi_named called panel es) i

  named_by : (s : Step) → IsIn s all ⊎ IsCase called (panel_type panel) s all → IsNamed s
  named_by s (inl i) = named_all s i
  named_by s (inr c) = subst IsNamed c.is (λ M T. arms_named M T c.outer c.lines c.arms (λ t i. named_all t (c.among t i)))

  pub made_named : (s : Step) → IsIn s made → IsNamed s
  made_named s i = named_by s (origin s i)

  source_by : (s : Step) (z : ℕ) (n : List ℕ) → IsGivenTo (s.gives nothing) z n → IsIn s all ⊎ IsCase called (panel_type panel) s all → Source all s.reads z n
  source_by s z n g (inl i) = record { step = s; is = i; reads = refl; gives = g }
  source_by s z n g (inr c) =
      let P : Step → Type 0 = λ t. IsGivenTo (t.gives nothing) z n → Source all t.reads z n in
      subst P c.is (arms_source all c.outer c.lines c.arms z n c.among) g

  source : (s : Step) (z : ℕ) (n : List ℕ) → IsIn s made → IsGivenTo (s.gives nothing) z n → Source all s.reads z n
  source s z n i g = source_by s z n g (origin s i)

  -- a step waits for those that another waits for, where both read the same
  same_ready : (u : Step) → Ready all u → (t : Step) → u.reads ≡ t.reads → Ready made t
  same_ready u (ready _ h) t same = ready t (λ v i f.
      let o : Source all v.reads f.diagram f.name = source v f.diagram f.name i f.gives in
      let P : List (ℕ × Option (List ℕ)) → Type 0 = λ qs. IsRead qs f.diagram f.name in
      same_ready o.step (h o.step o.is (record { diagram = f.diagram; name = f.name; reads = subst P (sym same) f.reads; gives = o.gives })) v o.reads)

  pub made_ready : ((t : Step) → IsIn t all → Ready all t) → (t : Step) → IsIn t made → Ready made t
  made_ready every t is = ready t (λ v i f.
      let o : Source all v.reads f.diagram f.name = source v f.diagram f.name i f.gives in
      same_ready o.step (every o.step o.is) v o.reads)

  -- types that hold of all steps are a typing

  pub made_hold : (M : Types) → HoldsAll M made → AreTypes called panel es M
  made_hold M h =
      All-from_recursion (HasGiven M) (all_given called panel es M)
      (by_recursion M (all_given called panel es M) (subst (HaveGiven M) (made_gives M) (have_all M made h)))
