-- The tables of VIs one after another, and what is gathered of them.
use Rattle.std.proofs.Common.{◌≡◌, ℕ, zero, suc, ◌+◌, ◌<◌, ◌≤◌, ◌==◌, ◌&&◌, Bool, not, List, [], ◌∷◌, ◌++◌, map, length, drop, get_or, append_assoc, refl, sym, ap, ◌∙◌, subst, arith}
use Rattle.std.specs.Prelude.{if◌then◌else◌, Option, Some, None, slice_get}
use Rattle.std.specs.Option.{option_map_or}
use Rattle.std.proofs.lemmas.List.{append-nil}
use Rattle.g_diagram.specs.declared.hierarchy.Vi.{Vi}
use Rattle.g_typing.specs.Types.{Types}
use Rattle.g_hier.specs.declared.linked.Space.{Space}
use Rattle.g_hier.specs.LinkOrder.{pool_spaces, has_vi}
use Rattle.g_frames.specs.declared.program.QueueName.{QueueName}
use Rattle.g_frames.specs.Program.{FlatVi, flat_vis, all_on, queue_on, queues_in, pools_in, takes_clone}
use Rattle.g_vi_tables.specs.declared.table.ViTable.{ViTable}
use Rattle.g_vi_tables.specs.Tables.{IsViTable}
use Rattle.g_program.specs.Pools.{pooled}
use Rattle.g_program.specs.Queues.{obtained}
use Rattle.g_program.specs.Tables.{AreTables, AreAllTables}

-- the table of a VI by its number
pub tables_at : (flat : List FlatVi) (ts : List ViTable) (v : ℕ) → AreAllTables flat ts → AreTables (slice_get flat v) (slice_get ts v)
tables_at [] [] v are = tt
tables_at [] (t ∷ ts) v are = elim are [ ]
tables_at (f ∷ flat) [] v are = elim are [ ]
tables_at (f ∷ flat) (t ∷ ts) zero are = are.0
tables_at (f ∷ flat) (t ∷ ts) (suc v) are = tables_at flat ts v are.1

-- the VI of the next table
pub record Next (flat : List FlatVi) (i : ℕ) (t : ViTable) : Type 0 where
  pub vi : FlatVi
  pub first : drop i flat ≡ vi ∷ drop (i + 1) flat
  pub is : IsViTable vi t

pub next_of : (flat : List FlatVi) (ts : List ViTable) (i : ℕ) (t : ViTable) → AreAllTables flat ts → i < length ts → t ≡ get_or ts i t → Next flat i t
next_of [] [] i t are lt same = absurd (omega (arith, lt))
next_of [] (u ∷ ts) i t are lt same = elim are [ ]
next_of (f ∷ flat) [] i t are lt same = elim are [ ]
next_of (f ∷ flat) (u ∷ ts) zero t are lt same = record {
  vi = f;
  first = refl;
  is = subst (λ (x : ViTable). IsViTable f x) (sym same) are.0;
}
next_of (f ∷ flat) (u ∷ ts) (suc i) t are lt same =
    let n : Next flat i t = next_of flat ts i t are.1 (omega (arith, lt)) same in
    record {
      vi = n.vi;
      first = n.first ∙ (let e : i + 1 ≡ suc i = omega arith in ap (λ k. n.vi ∷ drop k flat) e) ∙ (let e : suc (suc i) ≡ suc i + 1 = omega arith in ap (λ k. n.vi ∷ drop k (f ∷ flat)) e);
      is = n.is;
    }

-- what is gathered of a VI, where there is one
pub with_table : {A : Type 0} (o : Option FlatVi) (t : ViTable) (on : FlatVi → List A) (old new : List A) → AreTables o (Some t) → ((vi : FlatVi) → IsViTable vi t → new ≡ old ++ on vi)
    → new ≡ old ++ option_map_or on o []
with_table None t on old new are h = elim are [ ]
with_table (Some vi) t on old new are h = h vi are

pub without_table : {A : Type 0} (o : Option FlatVi) (on : FlatVi → List A) (old : List A) → AreTables o None → old ≡ old ++ option_map_or on o []
without_table None on old are = sym (append-nil old)
without_table (Some vi) on old are = elim are [ ]

-- no VI is left where no table is
pub none_after : (flat : List FlatVi) (ts : List ViTable) (i : ℕ) → AreAllTables flat ts → length ts ≤ i → drop i flat ≡ []
none_after [] [] zero are le = refl
none_after [] [] (suc i) are le = refl
none_after [] (t ∷ ts) i are le = elim are [ ]
none_after (f ∷ flat) [] i are le = elim are [ ]
none_after (f ∷ flat) (t ∷ ts) zero are le = absurd (omega (arith, le))
none_after (f ∷ flat) (t ∷ ts) (suc i) are le = none_after flat ts i are.1 (omega (arith, le))

-- ---- what is gathered of VIs in turn

pub obtained_next : (test : ℕ → Bool) (n m i : ℕ) (f : FlatVi) (flat : List FlatVi) (old new total : List QueueName) → m ≡ n + 1 → drop i flat ≡ f ∷ drop (i + 1) flat
    → new ≡ old ++ (if test n then all_on (λ e. queue_on e.kind) f.entries else []) → old ++ obtained test n (drop i flat) ≡ total → new ++ obtained test m (drop (i + 1) flat) ≡ total
obtained_next test n m i f flat old new total e d more so_far =
    let rest : List FlatVi = drop (i + 1) flat in
    let here : List QueueName = if test n then all_on (λ e. queue_on e.kind) f.entries else [] in
    ap (λ qs. qs ++ obtained test m rest) more ∙ append_assoc old here (obtained test m rest)
    ∙ (let s : m ≡ suc n = omega arith in ap (λ k. old ++ (here ++ obtained test k rest)) s)
    ∙ ap (λ vis. old ++ obtained test n vis) (sym d) ∙ so_far

pub pooled_next : (test : ℕ → Bool) (main n m i : ℕ) (f : FlatVi) (flat : List FlatVi) (old new total : List ℕ) → m ≡ n + 1 → drop i flat ≡ f ∷ drop (i + 1) flat
    → new ≡ old ++ (if test n && (not (n == main) && takes_clone f.clones) then n ∷ [] else []) → old ++ pooled test main n (drop i flat) ≡ total → new ++ pooled test main m (drop (i + 1) flat) ≡ total
pooled_next test main n m i f flat old new total e d more so_far =
    let rest : List FlatVi = drop (i + 1) flat in
    let here : List ℕ = if test n && (not (n == main) && takes_clone f.clones) then n ∷ [] else [] in
    ap (λ qs. qs ++ pooled test main m rest) more ∙ append_assoc old here (pooled test main m rest)
    ∙ (let s : m ≡ suc n = omega arith in ap (λ k. old ++ (here ++ pooled test main k rest)) s)
    ∙ ap (λ vis. old ++ pooled test main n vis) (sym d) ∙ so_far

-- by the list of the VIs
pub obtained_in : (test : ℕ → Bool) (order : List ℕ) → ((v : ℕ) → test v ≡ has_vi order v) → (v : ℕ) (vis : List FlatVi) → obtained test v vis ≡ queues_in order v vis
obtained_in test order h v [] = refl
obtained_in test order h v (vi ∷ vis) =
    ap (λ b. (if b then all_on (λ e. queue_on e.kind) vi.entries else []) ++ obtained test (suc v) vis) (h v)
    ∙ ap (λ qs. (if has_vi order v then all_on (λ e. queue_on e.kind) vi.entries else []) ++ qs) (obtained_in test order h (suc v) vis)

pub pooled_in : (test : ℕ → Bool) (order : List ℕ) → ((v : ℕ) → test v ≡ has_vi order v) → (main v : ℕ) (vis : List FlatVi) → pooled test main v vis ≡ pools_in order main v vis
pooled_in test order h main v [] = refl
pooled_in test order h main v (vi ∷ vis) =
    ap (λ b. (if b && (not (v == main) && takes_clone vi.clones) then v ∷ [] else []) ++ pooled test main (suc v) vis) (h v)
    ∙ ap (λ vs. (if has_vi order v && (not (v == main) && takes_clone vi.clones) then v ∷ [] else []) ++ vs) (pooled_in test order h main (suc v) vis)

-- the names of VIs
pub flat-names : (all : List Vi) (types : ℕ → Types) (v : ℕ) (vis : List Vi) → map (λ vi. vi.name) (flat_vis all types v vis) ≡ map (λ vi. vi.name) vis
flat-names all types v [] = refl
flat-names all types v (vi ∷ vis) = ap (λ names. vi.name ∷ names) (flat-names all types (suc v) vis)

-- ---- the clones of a pool

pub pool_at : (vi first n k : ℕ) → k < n → slice_get (pool_spaces vi first n) k ≡ Some (record { vi = vi; clone = first + k; caller = None })
pool_at vi first zero k lt = absurd (omega (arith, lt))
pool_at vi first (suc n) zero lt = let e : first ≡ first + 0 = omega arith in ap (λ c. Some (space c)) e
  where
    space : ℕ → Space
    space c = record { vi = vi; clone = c; caller = None }
pool_at vi first (suc n) (suc k) lt = pool_at vi (suc first) n k (omega (arith, lt)) ∙ (let e : suc first + k ≡ first + suc k = omega arith in ap (λ c. Some (space c)) e)
  where
    space : ℕ → Space
    space c = record { vi = vi; clone = c; caller = None }

pub pool_past : (vi first n k : ℕ) → n ≤ k → slice_get (pool_spaces vi first n) k ≡ None
pool_past vi first zero k le = refl
pool_past vi first (suc n) zero le = absurd (omega (arith, le))
pool_past vi first (suc n) (suc k) le = pool_past vi (suc first) n k (omega (arith, le))
