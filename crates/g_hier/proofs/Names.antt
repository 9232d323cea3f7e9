-- Names of VIs and their numbers, and the call lines among nodes.
use Rattle.std.proofs.Common.{◌≡◌, ℕ, zero, suc, ◌+◌, ◌-◌, ◌<◌, ◌≤◌, All, cond, Bool, true, false, List, [], ◌∷◌, ◌++◌, length, take, drop, get_or, refl, sym, ap, ◌∙◌, arith, append_assoc}
use Rattle.std.specs.Prelude.{Some, None, if◌then◌else◌}
use Rattle.std.specs.Option.{unwrap_or}
use Rattle.std.specs.Str.{bytes_eq}
use Rattle.std.specs.BTreeMap.{BTreeMap, UpdatesBy, get_by}
use Rattle.std.specs.Cmp.Lexicographic.{slice_cmp}
use Rattle.std.specs.Ordering.{nat_cmp}
use Rattle.std.proofs.lemmas.Map.Text.{btree_map_updates_str}
use Rattle.std.proofs.lemmas.List.{append-nil, take_more, take_all}
use Rattle.std.proofs.lemmas.List.Elements.{All-same, All-push}
use denote.Ref.{Bor}
use Rattle.g_diagram.specs.declared.hierarchy.Vi.{Vi}
use Rattle.g_diagram.specs.Lines.{Entry}
use Rattle.g_hier.specs.Outlines.{number_of, call_on, calls_on}
use Rattle.g_hier.specs.Numbers.{first_number}

-- one more VI, from the last on
pub numbers_more : (vis : List Vi) (done : ℕ) (d : Vi) (name : List ℕ) (vi : ℕ) (m n : BTreeMap (Bor (List ℕ)) ℕ) → done < length vis
    → name ≡ (get_or vis (length vis - 1 - done) d).name → vi ≡ length vis - 1 - done
    → ((q : List ℕ) → get_by (λ k. slice_cmp nat_cmp q k.now) m ≡ first_number (length vis - done) (drop (length vis - done) vis) q)
    → UpdatesBy (λ x y. slice_cmp nat_cmp x.now y.now) (λ k. slice_cmp nat_cmp name k.now) m n (Some vi)
    → (q : List ℕ) → get_by (λ k. slice_cmp nat_cmp q k.now) n ≡ first_number (length vis - (done + 1)) (drop (length vis - (done + 1)) vis) q
numbers_more vis done d name vi m n lt named numbered before u q =
    let f : length vis - (done + 1) ≡ length vis - 1 - done = omega arith in
    let g : suc (length vis - 1 - done) ≡ length vis - done = omega arith in
    btree_map_updates_str name m n (Some vi) u q
    ∙ ap (λ (w : List ℕ). cond (bytes_eq w q) (Some vi) (get_by (λ k. slice_cmp nat_cmp q k.now) m)) named
    ∙ ap (λ k. cond (bytes_eq (get_or vis (length vis - 1 - done) d).name q) (Some k) (get_by (λ k. slice_cmp nat_cmp q k.now) m)) numbered
    ∙ ap (cond (bytes_eq (get_or vis (length vis - 1 - done) d).name q) (Some (length vis - 1 - done))) (before q ∙ ap (λ k. first_number k (drop k vis) q) (sym g))
    ∙ sym (ap (λ k. first_number k (drop k vis) q) f ∙ ap (λ xs. first_number (length vis - 1 - done) xs q) (drop_at vis (length vis - 1 - done) d (omega arith)))
  where
    drop_at : (xs : List Vi) (k : ℕ) (d : Vi) → k < length xs → drop k xs ≡ get_or xs k d ∷ drop (suc k) xs
    drop_at [] k d h = absurd (omega arith)
    drop_at (x ∷ xs) zero d h = refl
    drop_at (x ∷ xs) (suc k) d h = drop_at xs k d (omega arith)

numbered : (k : ℕ) (vis : List Vi) (q : List ℕ) → unwrap_or (first_number k vis q) (k + length vis) ≡ k + number_of vis q
numbered k [] q = refl
numbered k (vi ∷ vis) q = choose (bytes_eq vi.name q) (numbered (suc k) vis q)
  where
    choose : (b : Bool) → unwrap_or (first_number (suc k) vis q) (suc k + length vis) ≡ suc k + number_of vis q
        → unwrap_or (if b then Some k else first_number (suc k) vis q) (k + suc (length vis)) ≡ k + (if b then 0 else suc (number_of vis q))
    choose true e = omega arith
    choose false e =
        let f : k + suc (length vis) ≡ suc k + length vis = omega arith in
        ap (unwrap_or (first_number (suc k) vis q)) f ∙ e ∙ omega arith

-- as it is looked up
pub number_found : (vis : List Vi) (q : List ℕ) (n : ℕ) → first_number 0 vis q ≡ Some n → n ≡ number_of vis q
number_found vis q n e = sym (ap (λ o. unwrap_or o (0 + length vis)) e) ∙ numbered 0 vis q ∙ omega arith

pub number_absent : (vis : List Vi) (q : List ℕ) → first_number 0 vis q ≡ None → length vis ≡ number_of vis q
number_absent vis q e = let f = sym (ap (λ o. unwrap_or o (0 + length vis)) e) in let g = numbered 0 vis q in omega (arith, f, g)

calls-append : (vis : List Vi) (xs ys : List Entry) → calls_on vis (xs ++ ys) ≡ calls_on vis xs ++ calls_on vis ys
calls-append vis [] ys = refl
calls-append vis (x ∷ xs) ys = ap (λ r. call_on vis x.line x.kind ++ r) (calls-append vis xs ys) ∙ sym (append_assoc (call_on vis x.line x.kind) (calls_on vis xs) (calls_on vis ys))

-- one more node
pub calls_push : (vis : List Vi) (xs : List Entry) (x : Entry) → calls_on vis (xs ++ x ∷ []) ≡ calls_on vis xs ++ call_on vis x.line x.kind
calls_push vis xs x = calls-append vis xs (x ∷ []) ∙ ap (λ r. calls_on vis xs ++ r) (append-nil (call_on vis x.line x.kind))

-- what holds of one more item, and of all
pub all_more : {X : Type 0} (P : X → Type 0) (xs : List X) (i : ℕ) (d : X) → i < length xs → All P (take i xs) → P (get_or xs i d) → All P (take (i + 1) xs)
all_more P xs i d lt h p = All-same P (take (i + 1) xs) (take i xs ++ get_or xs i d ∷ []) (take_more xs i d lt) (All-push P (take i xs) (get_or xs i d) h p)

pub all_of : {X : Type 0} (P : X → Type 0) (xs : List X) (n : ℕ) → length xs ≤ n → All P (take n xs) → All P xs
all_of P xs n le h = All-same P xs (take n xs) (sym (take_all n xs le)) h
