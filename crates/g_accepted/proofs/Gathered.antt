-- What stands somewhere inside a structure in place: only nodes that may, and none with a reference of its own.
use Rattle.std.proofs.Common.{◌≡◌, ◌⊎◌, inl, inr, ⊎_elim, ℕ, zero, suc, ◌+◌, ◌<◌, ◌≤◌, ◌==◌, Bool, true, false, not, ◌&&◌, ◌||◌, List, [], ◌∷◌, ◌++◌, map, filter, length, refl, ap, sym, ◌∙◌, subst, arith}
use Rattle.std.specs.List.{list_any, flat_map}
use Rattle.std.proofs.lemmas.Bool.{false≢true, not-false}
use Rattle.g_diagram.specs.declared.node.Tunnel.{Tunnel}
use Rattle.g_diagram.specs.declared.hierarchy.Vi.{Vi}
use Rattle.g_diagram.specs.Lines.{Entry, Kind, Const, Apply, Shows, Shared, Obtain, Read, Write, Call, Loop, Case, Sequence, InPlace, entries_of, count_of, lines_of}
use Rattle.g_rules_lines.specs.Spots.{Spot, whole}
use Rattle.g_rules_lines.specs.InPlaceBodies.{diagrams_in, is_case, is_in_place, may_stand_in_place, Diagrams, no_diagrams, with_node, gathered, has_body, is_inside, insides, strangers, spare_refs, kind_spare_refs, all_spare_refs, misplaced}
use Rattle.g_rules_lines.specs.InPlaceBodies as rule
use Rattle.g_typing.proofs.Roles.{nothing, bodies}
use Rattle.g_infer_laws.proofs.Rules.{none_kept}
use Rattle.g_accepted.proofs.Facts.{IsIn, in_right, in_either, nil_left, nil_right, of_one, same_number, and_both}
use Rattle.g_accepted.proofs.Laid.{Rises, vi_rises}
use Rattle.g_accepted.proofs.Linked.{any_in}
use Rattle.g_accepted.proofs.Ranged.{IsOwned}
use Rattle.g_accepted.proofs.Inside.{NotShown, IsPlaced, placed, owner_of}
use Rattle.g_accepted.proofs.Supplied.{one_owner}

or_first : (a b : Bool) → a ≡ true → (a || b) ≡ true
or_first a b e = ap (λ x. x || b) e

or_second : (a b : Bool) → b ≡ true → (a || b) ≡ true
or_second true b e = refl
or_second false b e = e

-- ---- gathering node by node

abbrev pub within : Diagrams → Diagrams → Type 0
within ds es = (d : ℕ) → ds d ≡ true → es d ≡ true

-- a node among others: those before it and after it
record Split (es : List Entry) (e : Entry) : Type 0 where
  before : List Entry
  after : List Entry
  whole_is : before ++ (e ∷ after) ≡ es

split : (es : List Entry) (e : Entry) → IsIn e es → Split es e
split [] e is = absurd is
split (x ∷ es) e (inl same) = record { before = []; after = es; whole_is = ap (λ y. y ∷ es) (sym same) }
split (x ∷ es) e (inr is) = let s : Split es e = split es e is in record { before = x ∷ s.before; after = s.after; whole_is = ap (λ ys. x ∷ ys) s.whole_is }

module _ (looks : Diagrams → ℕ → Kind → Bool) where
  keeps : (ds : Diagrams) (es : List Entry) (d : ℕ) → ds d ≡ true → gathered looks ds es d ≡ true
  keeps ds [] d h = h
  keeps ds (e ∷ es) d h = keeps (with_node (looks ds e.diagram e.kind) e.kind ds) es d (or_first (ds d) (looks ds e.diagram e.kind && list_any (λ x. x == d) (diagrams_in e.kind)) h)

  in_two : (ds : Diagrams) (xs ys : List Entry) → gathered looks ds (xs ++ ys) ≡ gathered looks (gathered looks ds xs) ys
  in_two ds [] ys = refl
  in_two ds (x ∷ xs) ys = in_two (with_node (looks ds x.diagram x.kind) x.kind ds) xs ys

  -- the diagrams of a node that is looked into are gathered
  looked : (xs ys : List Entry) (e : Entry) (d : ℕ) → looks (gathered looks no_diagrams xs) e.diagram e.kind ≡ true → list_any (λ x. x == d) (diagrams_in e.kind) ≡ true
      → gathered looks no_diagrams (xs ++ (e ∷ ys)) d ≡ true
  looked xs ys e d look own =
      let ds : Diagrams = gathered looks no_diagrams xs in
      ap (λ (f : Diagrams). f d) (in_two no_diagrams xs (e ∷ ys))
      ∙ keeps (with_node (looks ds e.diagram e.kind) e.kind ds) ys d
      (or_second (ds d) (looks ds e.diagram e.kind && list_any (λ x. x == d) (diagrams_in e.kind)) (and_both (looks ds e.diagram e.kind) (list_any (λ x. x == d) (diagrams_in e.kind)) look own))

same_diagrams : (k : Kind) → diagrams_in k ≡ bodies k
same_diagrams (Const t literal out) = refl
same_diagrams (Apply op inputs outputs) = refl
same_diagrams (Shows name t w) = refl
same_diagrams (Shared op inputs outputs) = refl
same_diagrams (Obtain queue size item out) = refl
same_diagrams (Read object out) = refl
same_diagrams (Write object input) = refl
same_diagrams (Call vi inputs outputs) = refl
same_diagrams (Loop count stop i ts body) = refl
same_diagrams (Case selector ts arms) = refl
same_diagrams (Sequence parts) = refl
same_diagrams (InPlace ts body finish) = refl

has_diagram : (k : Kind) (d : ℕ) → IsIn d (bodies k) → list_any (λ x. x == d) (diagrams_in k) ≡ true
has_diagram k d is = any_in (λ x. x == d) (diagrams_in k) d (subst (λ (xs : List ℕ). IsIn d xs) (sym (same_diagrams k)) is) (same_number d)

-- ---- nodes before others

later_line : (low high : ℕ) (xs ys : List Entry) (e : Entry) → Rises low high (xs ++ ys) → IsIn e ys → (x : Entry) → IsIn x xs → x.line < e.line
later_line low high [] ys e r is x among = absurd among
later_line low high (z ∷ xs) ys e r is x (inl same) = let P : Entry → Type 0 = λ (y : Entry). y.line < e.line in subst P same (from (suc z.line) high (xs ++ ys) e r.1 (in_right e xs ys is))
  where
    from : (low high : ℕ) (es : List Entry) (f : Entry) → Rises low high es → IsIn f es → low ≤ f.line
    from low high [] f r is = absurd is
    from low high (y ∷ es) f r (inl same) = let le = r.0 in let P : Entry → Type 0 = λ (w : Entry). low ≤ w.line in subst P same le
    from low high (y ∷ es) f r (inr is) = let le = r.0 in let more : suc y.line ≤ f.line = from (suc y.line) high es f r.1 is in omega (arith, le, more)
later_line low high (z ∷ xs) ys e r is x (inr among) = later_line (suc z.line) high xs ys e r.1 is x among

-- ---- structures in place

module _ (vi : Vi) (looks : Diagrams → ℕ → Kind → Bool) (p : Entry) (is : IsIn p (entries_of vi)) (ts : List Tunnel) (b f : ℕ) (kind : p.kind ≡ InPlace ts b f)
    (own : (ds : Diagrams) (d : ℕ) → looks ds d (InPlace ts b f) ≡ true)
    (inner : (e : Entry) → IsIn e (entries_of vi) → (x : ℕ) → IsIn x (bodies e.kind) → (ds : Diagrams) → within ds (gathered looks no_diagrams (entries_of vi)) → ds e.diagram ≡ true → looks ds e.diagram e.kind ≡ true) where
  abbrev es : List Entry
  es = entries_of vi

  abbrev full : Diagrams
  full = gathered looks no_diagrams es

  whole_place : IsPlaced vi p b f
  whole_place = placed vi p is ts b f kind

  prefix_within : (xs ys : List Entry) → xs ++ ys ≡ es → within (gathered looks no_diagrams xs) full
  prefix_within xs ys same d h = ap (λ (zs : List Entry). gathered looks no_diagrams zs d) (sym same) ∙ (ap (λ (g : Diagrams). g d) (in_two looks no_diagrams xs ys) ∙ keeps looks (gathered looks no_diagrams xs) ys d h)

  abbrev last : ℕ
  last = (1 + length vi.panel) + count_of (map lines_of vi.top.nodes)

  rises : Rises 1 last es
  rises = vi_rises (λ n i. false) vi

  -- a node before another stands in its prefix
  in_prefix : (xs ys : List Entry) (e x : Entry) → xs ++ (e ∷ ys) ≡ es → IsIn x es → x.line < e.line → IsIn x xs
  in_prefix xs ys e x same among lt =
      ⊎_elim
      (λ a. a)
      (λ a. absurd (not_before a))
      (in_either x xs (e ∷ ys) (subst (λ (zs : List Entry). IsIn x zs) (sym same) among))
    where
      not_before : IsIn x (e ∷ ys) → ⊥
      not_before (inl q) = let u : e.line ≡ x.line = ap (λ (y : Entry). y.line) q in omega (arith, u, lt)
      not_before (inr i) =
          let u : e.line < x.line = later_line 1 last (xs ++ (e ∷ [])) ys x (subst (Rises 1 last) (sym (same_list ∙ same)) rises) i e (in_right e xs (e ∷ []) (inl refl)) in
          omega (arith, u, lt)
        where
          same_list : (xs ++ (e ∷ [])) ++ ys ≡ xs ++ (e ∷ ys)
          same_list = append_one xs
            where
              append_one : (zs : List Entry) → (zs ++ (e ∷ [])) ++ ys ≡ zs ++ (e ∷ ys)
              append_one [] = refl
              append_one (z ∷ zs) = ap (λ ws. z ∷ ws) (append_one zs)

  -- when a node between `do` and `end` is come to, its diagram has been gathered
  at_prefix : (n : ℕ) (xs ys : List Entry) (e : Entry) → length xs < n → xs ++ (e ∷ ys) ≡ es → b < e.line → e.line < f → gathered looks no_diagrams xs e.diagram ≡ true
  at_prefix zero xs ys e lt same l h = absurd (omega (arith, lt))
  at_prefix (suc n) xs ys e lt same l h =
      let among : IsIn e es = subst (λ (zs : List Entry). IsIn e zs) same (in_right e xs (e ∷ ys) (inl refl)) in
      let between = whole_place.apart e among in
      let d = between.diagram l h in
      let lo = d.0 in
      let p_line = whole_place.line in
      ⊎_elim
      (λ (z : e.diagram ≡ 0). absurd (omega (arith, z, lo, p_line)))
      (λ (o : IsOwned NotShown es e).
      let s : Split xs o.owner = split xs o.owner (in_prefix xs ys e o.owner same o.stands o.before) in
      let whole_owner : s.before ++ (o.owner ∷ (s.after ++ (e ∷ ys))) ≡ es = (append_twice s.before s.after o.owner ys e ∙ (ap (λ zs. zs ++ (e ∷ ys)) s.whole_is ∙ same)) in
      let look : looks (gathered looks no_diagrams s.before) o.owner.diagram o.owner.kind ≡ true =
      ⊎_elim
      (λ (first : b ≡ e.diagram).
      let owner_p : p ≡ o.owner = owner_is o.owner o.stands (subst (λ (x : ℕ). IsIn x (bodies o.owner.kind)) (sym first) o.body) in
      subst (λ (x : Entry). looks (gathered looks no_diagrams s.before) x.diagram x.kind ≡ true) owner_p (ap (looks (gathered looks no_diagrams s.before) p.diagram) kind ∙ own (gathered looks no_diagrams s.before) p.diagram))
      (λ (inside : b < e.diagram).
      let o_between = (whole_place.apart o.owner o.stands).owner e.diagram o.body inside d.1 in
      let short : length s.before < n = shorter xs s.before o.owner s.after s.whole_is n lt in
      inner o.owner o.stands e.diagram o.body (gathered looks no_diagrams s.before) (prefix_within s.before (o.owner ∷ (s.after ++ (e ∷ ys))) whole_owner)
      (at_prefix n s.before (s.after ++ (e ∷ ys)) o.owner short whole_owner o_between.0 o_between.1))
      (at_or_past b e.diagram lo) in
      ap (λ (zs : List Entry). gathered looks no_diagrams zs e.diagram) (sym s.whole_is) ∙ looked looks s.before s.after o.owner e.diagram look (has_diagram o.owner.kind e.diagram o.body))
      (owner_of vi e among)
    where
      append_twice : (us vs : List Entry) (o : Entry) (ys : List Entry) (e : Entry) → us ++ (o ∷ (vs ++ (e ∷ ys))) ≡ (us ++ (o ∷ vs)) ++ (e ∷ ys)
      append_twice [] vs o ys e = refl
      append_twice (u ∷ us) vs o ys e = ap (λ zs. u ∷ zs) (append_twice us vs o ys e)

      at_or_past : (x y : ℕ) → x ≤ y → (x ≡ y) ⊎ (x < y)
      at_or_past x y le = grind (arith, le)

      longer : (us vs : List Entry) (o : Entry) → length us < length (us ++ (o ∷ vs))
      longer [] vs o = omega arith
      longer (u ∷ us) vs o = let m : length us < length (us ++ (o ∷ vs)) = longer us vs o in omega (arith, m)

      shorter : (xs us : List Entry) (o : Entry) (vs : List Entry) → us ++ (o ∷ vs) ≡ xs → (n : ℕ) → length xs < suc n → length us < n
      shorter xs us o vs same n lt =
          let m : length us < length (us ++ (o ∷ vs)) = longer us vs o in
          let e : length (us ++ (o ∷ vs)) ≡ length xs = ap length same in
          omega (arith, m, e, lt)

      owner_is : (o : Entry) → IsIn o es → IsIn b (bodies o.kind) → p ≡ o
      owner_is o o_is has = one_owner [] vi nothing o p o_is is b has (subst (λ (k : Kind). IsIn b (bodies k)) (sym kind) (inl refl))

  -- the diagram of each node between `do` and `end` is gathered
  pub all_gathered : (e : Entry) → IsIn e es → b < e.line → e.line < f → full e.diagram ≡ true
  all_gathered e among l h =
      let s : Split es e = split es e among in
      prefix_within s.before (e ∷ s.after) s.whole_is e.diagram (at_prefix (suc (length s.before)) s.before s.after e (omega arith) s.whole_is l h)

-- ---- the rule on bodies in place

-- a structure that is looked into where it stands in a body
looks_in : (ds : Diagrams) (k : Kind) (d x : ℕ) → ds d ≡ true → may_stand_in_place k ≡ true → IsIn x (bodies k) → has_body ds d k ≡ true
looks_in ds (Case selector ts arms) d x h may is = and_both (ds d) true h refl
looks_in ds (InPlace ts body finish) d x h may is = refl
looks_in ds (Const t literal out) d x h may is = absurd is
looks_in ds (Apply op inputs outputs) d x h may is = absurd is
looks_in ds (Shows name t w) d x h may is = absurd is
looks_in ds (Shared op inputs outputs) d x h may is = absurd is
looks_in ds (Obtain queue size item out) d x h may is = absurd is
looks_in ds (Read object out) d x h may is = absurd is
looks_in ds (Write object input) d x h may is = absurd is
looks_in ds (Call vi inputs outputs) d x h may is = absurd is
looks_in ds (Loop count stop i ts body) d x h may is = absurd (false≢true may)
looks_in ds (Sequence parts) d x h may is = absurd (false≢true may)

kept_of : (es : List Entry) → (test : Entry → Bool) → map whole (filter test es) ≡ [] → (e : Entry) → IsIn e es → test e ≡ false
kept_of es test none e is = of_one (λ x. test x ≡ false) es (none_kept whole test es none) e is

flat_of : (g : Entry → List Spot) (es : List Entry) → flat_map g es ≡ [] → (e : Entry) → IsIn e es → g e ≡ []
flat_of g [] none e is = absurd is
flat_of g (x ∷ es) none e (inl same) = ap g (sym same) ∙ nil_left (g x) (flat_map g es) none
flat_of g (x ∷ es) none e (inr is) = flat_of g es (nil_right (g x) (flat_map g es) none) e is

-- a node of a gathered diagram may stand there
may_stand : (es : List Entry) → misplaced es ≡ [] → (e : Entry) → IsIn e es → rule.bodies es e.diagram ≡ true → may_stand_in_place e.kind ≡ true
may_stand es none e is h =
    let ds : Diagrams = rule.bodies es in
    let test = kept_of es (λ x. ds x.diagram && not (may_stand_in_place x.kind)) (nil_left (strangers ds es) (all_spare_refs (insides es) es) none) e is in
    not-false (may_stand_in_place e.kind) (second_false (ds e.diagram) (not (may_stand_in_place e.kind)) h test)
  where
    second_false : (a b : Bool) → a ≡ true → (a && b) ≡ false → b ≡ false
    second_false true b e h = h
    second_false false b e h = absurd (false≢true e)

-- each node between the `do` and the `end` of a structure in place may stand in one
pub stands_in_place : (vi : Vi) → misplaced (entries_of vi) ≡ [] → (p : Entry) → IsIn p (entries_of vi) → (ts : List Tunnel) (b f : ℕ) → p.kind ≡ InPlace ts b f
    → (e : Entry) → IsIn e (entries_of vi) → b < e.line → e.line < f → may_stand_in_place e.kind ≡ true
stands_in_place vi none p is ts b f kind e among l h =
    may_stand (entries_of vi) none e among
    (all_gathered vi has_body p is ts b f kind (λ ds d. refl)
    (λ x x_is y y_is ds sub at. looks_in ds x.kind x.diagram y at (may_stand (entries_of vi) none x x_is (sub x.diagram at)) y_is)
    e among l h)

-- none of them has a reference that is allowed
pub spare_inside : (vi : Vi) → misplaced (entries_of vi) ≡ [] → (p : Entry) → IsIn p (entries_of vi) → (ts : List Tunnel) (b f : ℕ) → p.kind ≡ InPlace ts b f
    → (e : Entry) → IsIn e (entries_of vi) → b < e.line → e.line < f → kind_spare_refs e.line true e.kind ≡ []
spare_inside vi none p is ts b f kind e among l h =
    let ds : Diagrams = insides (entries_of vi) in
    let at : ds e.diagram ≡ true =
    all_gathered vi is_inside p is ts b f kind (λ gs d. refl) (λ x x_is y y_is gs sub h. or_second (is_in_place x.kind) (gs x.diagram) h) e among l h in
    ap (λ x. kind_spare_refs e.line x e.kind) (sym at)
    ∙ flat_of (λ x. kind_spare_refs x.line (ds x.diagram) x.kind) (entries_of vi) (nil_right (strangers (rule.bodies (entries_of vi)) (entries_of vi)) (all_spare_refs ds (entries_of vi)) none) e among

-- a structure in place has no reference too many
pub spare_own : (es : List Entry) → misplaced es ≡ [] → (e : Entry) → IsIn e es → kind_spare_refs e.line (insides es e.diagram) e.kind ≡ []
spare_own es none e is =
    flat_of (λ x. kind_spare_refs x.line (insides es x.diagram) x.kind) es (nil_right (strangers (rule.bodies es) es) (all_spare_refs (insides es) es) none) e is
