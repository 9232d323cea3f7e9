-- A test of the names that a step gives has one outcome, whatever the types are and whatever calls and local variables mean.
use Rattle.std.proofs.Common.{◌≡◌, ℕ, Bool, true, ◌||◌, List, [], ◌∷◌, ◌++◌, refl, ap, sym, ◌∙◌}
use Rattle.std.specs.Prelude.{Option, Some, None}
use Rattle.std.specs.List.{list_any}
use Rattle.std.proofs.lemmas.List.Folds.{list_any-append}
use Rattle.g_types.specs.declared.ty.Ty.{Ty}
use Rattle.g_diagram.specs.declared.node.Tunnel.{Tunnel}
use Rattle.g_diagram.specs.declared.node.Tunnel.TheVariants as line
use Rattle.g_diagram.specs.Lines.{Wire, Arm, Part, Kind, Const, Apply, Shows, Shared, Obtain, Read, Write, Call, Loop, Case, Sequence, InPlace}
use Rattle.g_typing.specs.Types.{Types}
use Rattle.g_typing.specs.Rows.{has_rows}
use Rattle.g_typing.specs.Typing.{Given, Callees, Objects, given, given_each, line_inside, line_outside, lines_inside, lines_outside, border_given, arms_inside, result_given, results_given, parts_given, next_result, kind_given}
use Rattle.g_infer.specs.Gives.{form_gives}
use Rattle.g_infer.specs.Steps.{Form, Controls, Plain, Iteration, Branches, Opening, Closing, FrameClosing, Result}

module _ (p : ℕ → List ℕ → Bool) where
  abbrev test : List Given → Bool
  test gs = list_any (λ g. p g.diagram g.name) gs

  both : (xs ys us vs : List Given) → test xs ≡ test ys → test us ≡ test vs → test (xs ++ us) ≡ test (ys ++ vs)
  both xs ys us vs e f =
      list_any-append (λ (g : Given). p g.diagram g.name) xs us ∙ ap (λ b. b || test us) e ∙ ap (λ b. test ys || b) f ∙ sym (list_any-append (λ (g : Given). p g.diagram g.name) ys vs)

  one : (d : ℕ) (w : Wire) (t u : Option Ty) → test (given d w t) ≡ test (given d w u)
  one d None t u = refl
  one d (Some name) t u = refl

  each : (d : ℕ) (ws : List Wire) (ts us : List Ty) → test (given_each d ws ts) ≡ test (given_each d ws us)
  each d [] ts us = refl
  each d (w ∷ ws) [] [] = refl
  each d (w ∷ ws) [] (u ∷ us) = both (given d w None) (given d w (Some u)) (given_each d ws []) (given_each d ws us) (one d w None (Some u)) (each d ws [] us)
  each d (w ∷ ws) (t ∷ ts) [] = both (given d w (Some t)) (given d w None) (given_each d ws ts) (given_each d ws []) (one d w (Some t) None) (each d ws ts [])
  each d (w ∷ ws) (t ∷ ts) (u ∷ us) =
      both (given d w (Some t)) (given d w (Some u)) (given_each d ws ts) (given_each d ws us) (one d w (Some t) (Some u)) (each d ws ts us)

  inside : (M T : Types) (d b : ℕ) (before : Option ℕ) (t : Tunnel) → test (line_inside M d b before t) ≡ test (line_inside T d b before t)
  inside M T d b before (line.Tunnel outer inner) = one b inner _ _
  inside M T d b before (line.Register initial inner next last) = one b inner _ _
  inside M T d b before (line.Kept t inner next last) = refl
  inside M T d b before (line.Last inner outer) = refl
  inside M T d b before (line.Gather inner outer) = refl
  inside M T d b before (line.Index array inner) = one b inner _ _
  inside M T d b before (line.Result outer default) = refl
  inside M T d b before (line.Carry earlier inner) = one b inner _ _
  inside M T d b before (line.Ref reference inner next same code) = one b inner _ _
  inside M T d b before (line.Element array index inner next outer) = one b inner _ _
  inside M T d b before (line.Field k cluster inner next outer) = one b inner _ _

  pub all_inside : (M T : Types) (d b : ℕ) (before : Option ℕ) (ts : List Tunnel) → test (lines_inside M d b before ts) ≡ test (lines_inside T d b before ts)
  all_inside M T d b before [] = refl
  all_inside M T d b before (t ∷ ts) =
      both (line_inside M d b before t) (line_inside T d b before t) (lines_inside M d b before ts) (lines_inside T d b before ts) (inside M T d b before t)
      (all_inside M T d b before ts)

  outside : (M T : Types) (ok also : Bool) (d b : ℕ) (t : Tunnel) → test (line_outside M ok d b t) ≡ test (line_outside T also d b t)
  outside M T ok also d b (line.Tunnel outer inner) = refl
  outside M T ok also d b (line.Register initial inner next last) = one d last _ _
  outside M T ok also d b (line.Kept t inner next last) = one d last _ _
  outside M T ok also d b (line.Last inner outer) = one d outer _ _
  outside M T ok also d b (line.Gather inner outer) = one d outer _ _
  outside M T ok also d b (line.Index array inner) = refl
  outside M T ok also d b (line.Result outer default) = refl
  outside M T ok also d b (line.Carry earlier inner) = refl
  outside M T ok also d b (line.Ref reference inner next same code) = both (given d same _) (given d same _) (given d code _) (given d code _) (one d same _ _) (one d code _ _)
  outside M T ok also d b (line.Element array index inner next outer) = one d outer _ _
  outside M T ok also d b (line.Field k cluster inner next outer) = one d outer _ _

  all_outside : (M T : Types) (ok also : Bool) (d b : ℕ) (ts : List Tunnel) → test (lines_outside M ok d b ts) ≡ test (lines_outside T also d b ts)
  all_outside M T ok also d b [] = refl
  all_outside M T ok also d b (t ∷ ts) =
      both (line_outside M ok d b t) (line_outside T also d b t) (lines_outside M ok d b ts) (lines_outside T also d b ts) (outside M T ok also d b t)
      (all_outside M T ok also d b ts)

  border : (M T : Types) (ok also : Bool) (d b : ℕ) (ts : List Tunnel) → test (border_given M ok d b ts) ≡ test (border_given T also d b ts)
  border M T ok also d b ts =
      both (lines_inside M d b None ts) (lines_inside T d b None ts) (lines_outside M ok d b ts) (lines_outside T also d b ts) (all_inside M T d b None ts)
      (all_outside M T ok also d b ts)

  arms_test : (M T : Types) (d : ℕ) (ts : List Tunnel) (arms : List Arm) → test (arms_inside M d ts arms) ≡ test (arms_inside T d ts arms)
  arms_test M T d ts [] = refl
  arms_test M T d ts (arm ∷ arms) =
      both (lines_inside M d arm.body None ts) (lines_inside T d arm.body None ts) (arms_inside M d ts arms) (arms_inside T d ts arms) (all_inside M T d arm.body None ts)
      (arms_test M T d ts arms)

  result : (M T : Types) (d k : ℕ) (arms : List Arm) (t : Tunnel) → test (result_given M d k arms t) ≡ test (result_given T d k arms t)
  result M T d k arms (line.Result outer default) = one d outer _ _
  result M T d k arms (line.Tunnel outer inner) = refl
  result M T d k arms (line.Register initial inner next last) = refl
  result M T d k arms (line.Kept t inner next last) = refl
  result M T d k arms (line.Last inner outer) = refl
  result M T d k arms (line.Gather inner outer) = refl
  result M T d k arms (line.Index array inner) = refl
  result M T d k arms (line.Carry earlier inner) = refl
  result M T d k arms (line.Ref reference inner next same code) = refl
  result M T d k arms (line.Element array index inner next outer) = refl
  result M T d k arms (line.Field f cluster inner next outer) = refl

  results_test : (M T : Types) (d k : ℕ) (arms : List Arm) (ts : List Tunnel) → test (results_given M d k arms ts) ≡ test (results_given T d k arms ts)
  results_test M T d k arms [] = refl
  results_test M T d k arms (t ∷ ts) =
      both (result_given M d k arms t) (result_given T d k arms t) (results_given M d (next_result t k) arms ts) (results_given T d (next_result t k) arms ts) (result M T d k arms t)
      (results_test M T d (next_result t k) arms ts)

  parts_test : (M T : Types) (d : ℕ) (before : Option ℕ) (ps : List Part) → test (parts_given M d before ps) ≡ test (parts_given T d before ps)
  parts_test M T d before [] = refl
  parts_test M T d before (x ∷ xs) =
      both (lines_inside M d x.body before x.lines ++ lines_outside M true d x.body x.lines) (lines_inside T d x.body before x.lines ++ lines_outside T true d x.body x.lines)
      (parts_given M d (Some x.body) xs) (parts_given T d (Some x.body) xs)
      (both (lines_inside M d x.body before x.lines) (lines_inside T d x.body before x.lines) (lines_outside M true d x.body x.lines) (lines_outside T true d x.body x.lines)
      (all_inside M T d x.body before x.lines) (all_outside M T true true d x.body x.lines))
      (parts_test M T d (Some x.body) xs)

  loop_test : (M T : Types) (ok also : Bool) (d b : ℕ) (w : Wire) (t : Option Ty) (ts : List Tunnel)
      → test (given b w t ++ border_given M ok d b ts) ≡ test (given b w t ++ border_given T also d b ts)
  loop_test M T ok also d b w t ts = both (given b w t) (given b w t) (border_given M ok d b ts) (border_given T also d b ts) refl (border M T ok also d b ts)

  kind_test : (c d : Callees) (o q : Objects) (M T : Types) (ok also : Bool) (z : ℕ) (k : Kind) → test (kind_given c o M ok z k) ≡ test (kind_given d q T also z k)
  kind_test c d o q M T ok also z (Const t literal out) = refl
  kind_test c d o q M T ok also z (Apply f inputs outputs) = each z outputs _ _
  kind_test c d o q M T ok also z (Shows name t input) = refl
  kind_test c d o q M T ok also z (Shared op inputs outputs) = each z outputs _ _
  kind_test c d o q M T ok also z (Obtain queue size item out) = one z out _ _
  kind_test c d o q M T ok also z (Read object out) = one z out _ _
  kind_test c d o q M T ok also z (Write object input) = refl
  kind_test c d o q M T ok also z (Call name inputs outputs) = each z outputs _ _
  kind_test c d o q M T ok also z (Loop count stop iteration ts body) = loop_test M T ok also z body iteration _ ts
  kind_test c d o q M T ok also z (Case selector ts arms) =
      both (arms_inside M z ts arms) (arms_inside T z ts arms) (results_given M z 0 arms ts) (results_given T z 0 arms ts) (arms_test M T z ts arms) (results_test M T z 0 arms ts)
  kind_test c d o q M T ok also z (Sequence parts) = parts_test M T z None parts
  kind_test c d o q M T ok also z (InPlace ts body finish) = border M T ok also z body ts

  pub form_test : (c d : Callees) (o q : Objects) (M T : Types) (f : Form) → list_any (λ g. p g.diagram g.name) (form_gives c o M f) ≡ list_any (λ g. p g.diagram g.name) (form_gives d q T f)
  form_test c d o q M T (Controls items) = refl
  form_test c d o q M T (Plain e) = kind_test c d o q M T (has_rows M e) (has_rows T e) e.diagram e.kind
  form_test c d o q M T (Iteration body wire) = refl
  form_test c d o q M T (Branches outer ts arms) = arms_test M T outer ts arms
  form_test c d o q M T (Opening outer inner before ts) = all_inside M T outer inner before ts
  form_test c d o q M T (Closing e inner ts) = all_outside M T (has_rows M e) (has_rows T e) e.diagram inner ts
  form_test c d o q M T (FrameClosing outer inner ts) = all_outside M T true true outer inner ts
  form_test c d o q M T (Result outer number arms t) = result M T outer number arms t
