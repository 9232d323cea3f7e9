-- Scans of choices, nodes and frames, step by step.
use Rattle.std.proofs.Common.{◌≡◌, ℕ, suc, ◌+◌, ◌-◌, ◌<◌, ◌≤◌, ◌&&◌, ◌||◌, Bool, true, false, not, Option, Some, None, List, [], ◌∷◌, ◌++◌, map, length, drop, get_or, drop-cons, append_assoc, refl, sym, ap, ◌∙◌, arith}
use Rattle.std.proofs.lemmas.List.{append-nil, drop_all}
use Rattle.std.specs.List.{list_any}
use Rattle.std.specs.Option.{option_map_or}
use Rattle.g_diagram_table.specs.declared.entry.Entry.{Entry}
use Rattle.g_diagram_table.specs.Seen.{seen}
use Rattle.g_border.specs.Readers.{Reader}
use Rattle.g_frames.specs.declared.state.Frame.{Frame}
use Rattle.g_frames.specs.declared.state.Progress.{Progress}
use Rattle.g_frames.specs.Fire.{is_ready}
use Rattle.g_frames.specs.Program.{FlatVi, Program}
use Rattle.g_frames.specs.Run.{Standing, from_to, may_wait, nodes_from}
use Rattle.g_frames.specs.State.{FireState, reader_in}
use Rattle.g_vi_tables.specs.declared.table.ViTable.{ViTable}
use Rattle.g_vi_tables.specs.Tables.{IsViTable}
use Rattle.g_program.specs.Tables.{AreTables}
use Rattle.g_run_ends.specs.declared.verdict.Verdict.{Verdict}
use Rattle.g_run_ends.specs.Verdicts.{goes, judged}

-- ---- clones

module _ (f : Option ℕ → Bool) where
  abbrev pub Upto : ℕ → Type 0
  Upto i = (more : ℕ) → list_any f (map Some (from_to 0 (i + more))) ≡ list_any f (map Some (from_to i more))

  pub next_clone : (i : ℕ) → Upto i → f (Some i) ≡ false → (more : ℕ) → list_any f (map Some (from_to 0 (i + 1 + more))) ≡ list_any f (map Some (from_to (i + 1) more))
  next_clone i h fails more =
      (let e : i + 1 + more ≡ i + suc more = omega arith in ap (λ n. list_any f (map Some (from_to 0 n))) e)
      ∙ h (suc more)
      ∙ ap (λ b. b || list_any f (map Some (from_to (suc i) more))) fails
      ∙ (let e : suc i ≡ i + 1 = omega arith in ap (λ n. list_any f (map Some (from_to n more))) e)

  pub found_clone : (i n : ℕ) → Upto i → f (Some i) ≡ true → i < n → true ≡ list_any f (map Some (from_to 0 n))
  found_clone i n h fires lt =
      let m : ℕ = n - suc i in
      sym ((let e : n ≡ i + suc m = omega (arith, lt) in ap (λ k. list_any f (map Some (from_to 0 k))) e)
      ∙ h (suc m)
      ∙ ap (λ b. b || list_any f (map Some (from_to (suc i) m))) fires)

  pub no_clone : (i n : ℕ) → Upto i → n ≤ i → i ≤ n → false ≡ list_any f (map Some (from_to 0 n))
  no_clone i n h le ge = sym ((let e : n ≡ i + 0 = omega (arith, le, ge) in ap (λ k. list_any f (map Some (from_to 0 k))) e) ∙ h 0)

-- ---- nodes

pub drop_here : {X : Type 0} (xs : List X) (i : ℕ) (x : X) → i < length xs → x ≡ get_or xs i x → drop i xs ≡ x ∷ drop (i + 1) xs
drop_here xs i x lt same =
    drop-cons xs i x lt ∙ ap (λ y. y ∷ drop (suc i) xs) (sym same) ∙ (let e : suc i ≡ i + 1 = omega arith in ap (λ n. x ∷ drop n xs) e)

pub verdict_is : (p : Program) (room : Bool) (s : FireState) (n : Standing) (g w : Bool) (r : Reader) → r ≡ reader_in n.vi n.frame → g ≡ goes p room s n
    → w ≡ (is_ready r n.entry n.progress && (may_wait p n.entry.kind n.progress && not g))
    → judged p room s n ≡ record { frame = n.number; node = n.entry.line; goes = g; waits = w }
verdict_is p room s n g w r reads is waits =
    let of : Bool → Bool → Verdict = λ b x. record { frame = n.number; node = n.entry.line; goes = b; waits = x } in
    sym (ap (λ x. of g x) (waits ∙ ap (λ (y : Reader). is_ready y n.entry n.progress && (may_wait p n.entry.kind n.progress && not g)) reads)
    ∙ ap (λ b. of b (is_ready (reader_in n.vi n.frame) n.entry n.progress && (may_wait p n.entry.kind n.progress && not b))) is)

module _ (judge : Standing → Verdict) where
  no_nodes : (k : ℕ) (f : Frame) (vi : FlatVi) (es : List Entry) → map judge (nodes_from k f vi (map seen es) []) ≡ []
  no_nodes k f vi [] = refl
  no_nodes k f vi (e ∷ es) = refl

  pub nodes_done : (k : ℕ) (f : Frame) (vi : FlatVi) (es : List Entry) (qs : List Progress) (i : ℕ) (old total : List Verdict) → length qs ≤ i
      → old ++ map judge (nodes_from k f vi (map seen es) (drop i qs)) ≡ total → old ≡ total
  nodes_done k f vi es qs i old total le so_far =
      sym (append-nil old)
      ∙ ap (λ l. old ++ l) (sym (no_nodes k f vi es))
      ∙ ap (λ ps. old ++ map judge (nodes_from k f vi (map seen es) ps)) (sym (drop_all i qs le))
      ∙ so_far

  pub nodes_next : (k : ℕ) (f : Frame) (vi : FlatVi) (es : List Entry) (qs : List Progress) (i : ℕ) (e : Entry) (q : Progress) (old new total : List Verdict) (v : Verdict)
      → i < length es → e ≡ get_or es i e → i < length qs → q ≡ get_or qs i q → new ≡ old ++ v ∷ []
      → judge (record { number = k; frame = f; vi = vi; entry = seen e; progress = q }) ≡ v
      → old ++ map judge (nodes_from k f vi (map seen (drop i es)) (drop i qs)) ≡ total
      → new ++ map judge (nodes_from k f vi (map seen (drop (i + 1) es)) (drop (i + 1) qs)) ≡ total
  nodes_next k f vi es qs i e q old new total v lt same below alike more is so_far =
      let n : Standing = record { number = k; frame = f; vi = vi; entry = seen e; progress = q } in
      let rest : List Verdict = map judge (nodes_from k f vi (map seen (drop (i + 1) es)) (drop (i + 1) qs)) in
      ap (λ l. l ++ rest) (more ∙ ap (λ w. old ++ w ∷ []) (sym is))
      ∙ append_assoc old (judge n ∷ []) rest
      ∙ ap (λ xs. old ++ map judge (nodes_from k f vi (map seen xs) (q ∷ drop (i + 1) qs))) (sym (drop_here es i e lt same))
      ∙ ap (λ ps. old ++ map judge (nodes_from k f vi (map seen (drop i es)) ps)) (sym (drop_here qs i q below alike))
      ∙ so_far

  pub framed : (o : Option FlatVi) (t : ViTable) (on : FlatVi → List Standing) (old new : List Verdict) → AreTables o (Some t)
      → ((vi : FlatVi) → IsViTable vi t → new ≡ old ++ map judge (on vi)) → new ≡ old ++ map judge (option_map_or on o [])
  framed None t on old new are h = absurd are
  framed (Some vi) t on old new are h = h vi are
