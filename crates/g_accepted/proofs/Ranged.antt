-- How the nodes and diagrams of a VI lie in one another: those inside a structure in place are those between its `do` and its `end`.
use Rattle.std.proofs.Common.{◌≡◌, ◌⊎◌, inl, inr, ⊎_elim, ℕ, ◌+◌, ◌<◌, ◌≤◌, List, [], ◌∷◌, ◌++◌, map, length, refl, ap, sym, ◌∙◌, subst, arith}
use Rattle.g_diagram.specs.declared.node.Tunnel.{Tunnel}
use Rattle.g_diagram.specs.Lines.{Lines, BranchLines, FrameLines, Entry, Kind, entry, one_line, loop_lines, in_order, count_of, entries_in, give_lines, branch_count, branches_count, branches_entries, arms, frame_count, frames_count, frames_entries, parts, InPlace}
use Rattle.g_typing.proofs.Roles.{bodies}
use Rattle.g_accepted.proofs.Facts.{IsIn, in_left, in_right, in_either}

-- a node stands between two lines exactly where its diagram does, and the diagrams inside it
pub record IsApart (b f : ℕ) (e : Entry) : Type 0 where
  pub diagram : b < e.line → e.line < f → (b ≤ e.diagram) × (e.diagram < f)
  pub line : b ≤ e.diagram → e.diagram < f → (b < e.line) × (e.line < f)
  pub owner : (x : ℕ) → IsIn x (bodies e.kind) → b < x → x < f → (b < e.line) × (e.line < f)
  pub inner : (x : ℕ) → IsIn x (bodies e.kind) → b < e.line → e.line < f → (b < x) × (x < f)

-- a node before or after all of it
pub before_it : (b f : ℕ) (e : Entry) → e.line ≤ b → (e.diagram < b) ⊎ (f ≤ e.diagram) → ((x : ℕ) → IsIn x (bodies e.kind) → (x ≤ b) ⊎ (f ≤ x)) → IsApart b f e
before_it b f e le d inside = record {
  diagram = λ l h. absurd (omega (arith, l, le));
  line = λ l h. absurd (⊎_elim (λ x. let y : e.diagram < b = x in omega (arith, y, l)) (λ x. let y : f ≤ e.diagram = x in omega (arith, y, h)) d);
  owner = λ x is l h. absurd (⊎_elim (λ u. let y : x ≤ b = u in omega (arith, y, l)) (λ u. let y : f ≤ x = u in omega (arith, y, h)) (inside x is));
  inner = λ x is l h. absurd (omega (arith, l, le));
}

after_it : (b f : ℕ) (e : Entry) → f ≤ e.line → (e.diagram < b) ⊎ (f ≤ e.diagram) → ((x : ℕ) → IsIn x (bodies e.kind) → f ≤ x) → IsApart b f e
after_it b f e le d inside = record {
  diagram = λ l h. absurd (omega (arith, h, le));
  line = λ l h. absurd (⊎_elim (λ x. let y : e.diagram < b = x in omega (arith, y, l)) (λ x. let y : f ≤ e.diagram = x in omega (arith, y, h)) d);
  owner = λ x is l h. absurd (let y : f ≤ x = inside x is in omega (arith, y, h));
  inner = λ x is l h. absurd (omega (arith, h, le));
}

module _ (P : Entry → Type 0) where
  -- the node whose diagram another stands in
  pub record IsOwned (es : List Entry) (e : Entry) : Type 0 where
    pub owner : Entry
    pub stands : IsIn owner es
    pub body : IsIn e.diagram (bodies owner.kind)
    pub before : owner.line < e.line

  -- nodes with lines from low on and below high, whose diagrams are these or stand among them; xs are numbers of diagrams that no structure in place is round
  pub record Ranged (out : ℕ → Type 0) (xs : List ℕ) (low high : ℕ) (es : List Entry) : Type 0 where
    pub lines : (e : Entry) → IsIn e es → (low ≤ e.line) × (e.line < high)
    pub diagrams : (e : Entry) → IsIn e es → out e.diagram ⊎ ((low ≤ e.diagram) × (e.diagram < high))
    pub bodies_in : (e : Entry) → IsIn e es → (x : ℕ) → IsIn x (bodies e.kind) → (e.line < x) × (x < high)
    pub places : (p : Entry) → IsIn p es → (ts : List Tunnel) (b f : ℕ) → p.kind ≡ InPlace ts b f → (p.line < b) × (b < f) × (f < high)
    pub apart : (p : Entry) → IsIn p es → (ts : List Tunnel) (b f : ℕ) → p.kind ≡ InPlace ts b f → (e : Entry) → IsIn e es → IsApart b f e
    pub free : (p : Entry) → IsIn p es → (ts : List Tunnel) (b f : ℕ) → p.kind ≡ InPlace ts b f → (x : ℕ) → IsIn x xs → (x ≤ b) ⊎ (f ≤ x)
    pub owned : (e : Entry) → IsIn e es → out e.diagram ⊎ (IsIn e.diagram xs ⊎ IsOwned es e)
    pub has : (e : Entry) → IsIn e es → P e

  no_nodes : (out : ℕ → Type 0) (low high : ℕ) → Ranged out [] low high []
  no_nodes out low high = record {
    lines = λ e is. absurd is;
    diagrams = λ e is. absurd is;
    bodies_in = λ e is x h. absurd is;
    places = λ p is ts b f k. absurd is;
    apart = λ p is ts b f k e also. absurd is;
    free = λ p is ts b f k x h. absurd is;
    owned = λ e is. absurd is;
    has = λ e is. absurd is;
  }

  pub wider : (out : ℕ → Type 0) (xs : List ℕ) (low lower high higher : ℕ) (es : List Entry) → lower ≤ low → high ≤ higher → Ranged out xs low high es → Ranged out xs lower higher es
  wider out xs low lower high higher es l h r = record {
    lines = λ e is. let a = r.lines e is in let x = a.0 in let y = a.1 in (omega (arith, x, l), omega (arith, y, h));
    diagrams = λ e is. ⊎_elim inl (λ a. let x = a.0 in let y = a.1 in inr (omega (arith, x, l), omega (arith, y, h))) (r.diagrams e is);
    bodies_in = λ e is x i. let a = r.bodies_in e is x i in let y = a.1 in (a.0, omega (arith, y, h));
    places = λ p is ts b f k. let a = r.places p is ts b f k in let y = a.2 in (a.0, a.1, omega (arith, y, h));
    apart = r.apart;
    free = r.free;
    owned = r.owned;
    has = r.has;
  }

  owned_left : (xs ys : List Entry) (e : Entry) → IsOwned xs e → IsOwned (xs ++ ys) e
  owned_left xs ys e o = record { owner = o.owner; stands = in_left o.owner xs ys o.stands; body = o.body; before = o.before }

  owned_right : (xs ys : List Entry) (e : Entry) → IsOwned ys e → IsOwned (xs ++ ys) e
  owned_right xs ys e o = record { owner = o.owner; stands = in_right o.owner xs ys o.stands; body = o.body; before = o.before }

  -- some nodes before others
  both : (out : ℕ → Type 0) (xs ys : List ℕ) (low mid high : ℕ) (es fs : List Entry) → low ≤ mid → mid ≤ high → ((d : ℕ) → out d → d < low) → ((x : ℕ) → IsIn x xs → x < mid) → ((y : ℕ) → IsIn y ys → mid ≤ y)
      → Ranged out xs low mid es → Ranged out ys mid high fs → Ranged out (xs ++ ys) low high (es ++ fs)
  both out xs ys low mid high es fs l h below in_xs in_ys r s = record {
    lines = λ e is. ⊎_elim
        (λ i. let a = r.lines e i in let y = a.1 in (a.0, omega (arith, y, h)))
        (λ i. let a = s.lines e i in let x = a.0 in (omega (arith, x, l), a.1))
        (in_either e es fs is);
    diagrams = λ e is. ⊎_elim
        (λ i. ⊎_elim inl (λ a. let y = a.1 in inr (a.0, omega (arith, y, h))) (r.diagrams e i))
        (λ i. ⊎_elim inl (λ a. let x = a.0 in inr (omega (arith, x, l), a.1)) (s.diagrams e i))
        (in_either e es fs is);
    bodies_in = λ e is x i. ⊎_elim
        (λ j. let a = r.bodies_in e j x i in let y = a.1 in (a.0, omega (arith, y, h)))
        (λ j. s.bodies_in e j x i)
        (in_either e es fs is);
    places = λ p is ts b f k. ⊎_elim
        (λ i. let a = r.places p i ts b f k in let y = a.2 in (a.0, a.1, omega (arith, y, h)))
        (λ i. s.places p i ts b f k)
        (in_either p es fs is);
    apart = λ p is ts b f k e also. ⊎_elim
        (λ i. ⊎_elim (r.apart p i ts b f k e) (later p i ts b f k e) (in_either e es fs also))
        (λ i. ⊎_elim (earlier p i ts b f k e) (s.apart p i ts b f k e) (in_either e es fs also))
        (in_either p es fs is);
    free = λ p is ts b f k x i. ⊎_elim
        (λ j. ⊎_elim
        (r.free p j ts b f k x)
        (λ in_y. let a = r.places p j ts b f k in let y = a.2 in let z : mid ≤ x = in_ys x in_y in inr (omega (arith, y, z)))
        (in_either x xs ys i))
        (λ j. ⊎_elim
        (λ in_x. let a = s.places p j ts b f k in let c = s.lines p j in let y = a.0 in let u = c.0 in let z : x < mid = in_xs x in_x in inl (omega (arith, y, u, z)))
        (s.free p j ts b f k x)
        (in_either x xs ys i))
        (in_either p es fs is);
    owned = λ e is. ⊎_elim
        (λ i. ⊎_elim inl (λ a. inr (⊎_elim (λ x. inl (in_left e.diagram xs ys x)) (λ o. inr (owned_left es fs e o)) a)) (r.owned e i))
        (λ i. ⊎_elim inl (λ a. inr (⊎_elim (λ x. inl (in_right e.diagram xs ys x)) (λ o. inr (owned_right es fs e o)) a)) (s.owned e i))
        (in_either e es fs is);
    has = λ e is. ⊎_elim (r.has e) (s.has e) (in_either e es fs is);
  }
    where
      later : (p : Entry) → IsIn p es → (ts : List Tunnel) (b f : ℕ) → p.kind ≡ InPlace ts b f → (e : Entry) → IsIn e fs → IsApart b f e
      later p i ts b f k e j =
          let a = r.places p i ts b f k in
          let c = r.lines p i in
          let line = s.lines e j in
          let f_mid = a.2 in
          let p_b = a.0 in
          let low_p = c.0 in
          let mid_e = line.0 in
          after_it b f e (omega (arith, f_mid, mid_e))
          (⊎_elim (λ o. let lt : e.diagram < low = below e.diagram o in inl (omega (arith, lt, p_b, low_p))) (λ d. let x = d.0 in inr (omega (arith, x, f_mid))) (s.diagrams e j))
          (λ x h. let y = (s.bodies_in e j x h).0 in omega (arith, y, mid_e, f_mid))

      earlier : (p : Entry) → IsIn p fs → (ts : List Tunnel) (b f : ℕ) → p.kind ≡ InPlace ts b f → (e : Entry) → IsIn e es → IsApart b f e
      earlier p i ts b f k e j =
          let p_b = (s.places p i ts b f k).0 in
          let mid_p = (s.lines p i).0 in
          let e_mid = (r.lines e j).1 in
          before_it b f e (omega (arith, e_mid, mid_p, p_b))
          (⊎_elim (λ o. let lt : e.diagram < low = below e.diagram o in inl (omega (arith, lt, l, mid_p, p_b))) (λ d. let x = d.1 in inl (omega (arith, x, mid_p, p_b))) (r.diagrams e j))
          (λ x h. let y = (r.bodies_in e j x h).1 in inl (omega (arith, y, mid_p, p_b)))

  abbrev pub Only : ℕ → ℕ → Type 0
  Only z d = d ≡ z

  abbrev pub Nowhere : ℕ → Type 0
  Nowhere d = ⊥

  -- the nodes of a diagram and of all inside it, from the diagram on
  closed : (z low high : ℕ) (es : List Entry) → z < low → low ≤ high → Ranged (Only z) [] low high es → Ranged Nowhere (z ∷ []) z high es
  closed z low high es lt le r = record {
    lines = λ e is. let a = r.lines e is in let x = a.0 in (omega (arith, x, lt), a.1);
    diagrams = λ e is. inr (⊎_elim (λ o. let x : e.diagram ≡ z = o in (omega (arith, x), omega (arith, x, lt, le))) (λ a. let x = a.0 in (omega (arith, x, lt), a.1)) (r.diagrams e is));
    bodies_in = r.bodies_in;
    places = r.places;
    apart = r.apart;
    free = λ p is ts b f k x i. inl (let a = (r.places p is ts b f k).0 in let c = (r.lines p is).0 in let e : z ≡ x = single x i in omega (arith, a, c, e, lt));
    owned = λ e is. inr (⊎_elim (λ o. inl (inl (sym o))) (λ a. ⊎_elim (λ none. absurd none) inr a) (r.owned e is));
    has = r.has;
  }
    where
      single : (x : ℕ) → IsIn x (z ∷ []) → z ≡ x
      single x (inl e) = e
      single x (inr none) = absurd none

  -- a node before the nodes of its diagrams
  pub node_first : (z first high : ℕ) (e0 : Entry) (es : List Entry) → z < e0.line → e0.line < first → first ≤ high → e0.diagram ≡ z → ((x : ℕ) → IsIn x (bodies e0.kind) → (first ≤ x) × (x < high)) → P e0
      → Ranged Nowhere (bodies e0.kind) first high es
      → ((ts : List Tunnel) (b f : ℕ) → e0.kind ≡ InPlace ts b f → (bodies e0.kind ≡ b ∷ []) × (first ≤ b) × (b < f) × (f < high) × ((e : Entry) → IsIn e es → IsApart b f e))
      → Ranged (Only z) [] e0.line high (e0 ∷ es)
  node_first z first high e0 es below l h same inside p0 r own = record {
    lines = λ e is. ⊎_elim
        (λ q. let P : Entry → Type 0 = λ (y : Entry). (e0.line ≤ y.line) × (y.line < high) in subst P q (omega arith, omega (arith, l, h)))
        (λ i. let a = r.lines e i in let x = a.0 in (omega (arith, x, l), a.1))
        is;
    diagrams = λ e is. ⊎_elim
        (λ q. inl (ap (λ (y : Entry). y.diagram) (sym q) ∙ same))
        (λ i. ⊎_elim (λ none. absurd none) (λ a. let x = a.0 in inr (omega (arith, x, l), a.1)) (r.diagrams e i))
        is;
    bodies_in = λ e is x i. ⊎_elim
        (λ q.
        let a = inside x (let Q : Entry → Type 0 = λ (y : Entry). IsIn x (bodies y.kind) in subst Q (sym q) i) in
        let u = a.0 in
        let e_line : e0.line ≡ e.line = ap (λ (y : Entry). y.line) q in
        (omega (arith, u, l, e_line), a.1))
        (λ j. r.bodies_in e j x i)
        is;
    places = λ p is ts b f k. ⊎_elim
        (λ q.
        let a = own ts b f (let Q : Entry → Type 0 = λ (y : Entry). y.kind ≡ InPlace ts b f in subst Q (sym q) k) in
        let u = a.1 in
        let e_line : e0.line ≡ p.line = ap (λ (y : Entry). y.line) q in
        (omega (arith, u, l, e_line), a.2, a.3))
        (λ i. r.places p i ts b f k)
        is;
    apart = λ p is ts b f k e also. ⊎_elim
        (λ q. own_apart ts b f (let Q : Entry → Type 0 = λ (y : Entry). y.kind ≡ InPlace ts b f in subst Q (sym q) k) e also)
        (λ i. ⊎_elim (λ q. subst (IsApart b f) q (round p i ts b f k)) (r.apart p i ts b f k e) also)
        is;
    free = λ p is ts b f k x i. absurd i;
    owned = λ e is. ⊎_elim
        (λ q. inl (ap (λ (y : Entry). y.diagram) (sym q) ∙ same))
        (λ i. inr (inr (⊎_elim
        (λ none. absurd none)
        (λ a. ⊎_elim
        (λ x. record { owner = e0; stands = inl refl; body = x; before = (let u = (r.lines e i).0 in omega (arith, u, l)) })
        (λ (o : IsOwned es e). record { owner = o.owner; stands = inr o.stands; body = o.body; before = o.before })
        a)
        (r.owned e i))))
        is;
    has = λ e is. ⊎_elim (λ q. subst P q p0) (r.has e) is;
  }
    where
      -- the node itself stands before a structure in place that is inside it
      round : (p : Entry) → IsIn p es → (ts : List Tunnel) (b f : ℕ) → p.kind ≡ InPlace ts b f → IsApart b f e0
      round p i ts b f k =
          let a = (r.places p i ts b f k).0 in
          let c = (r.lines p i).0 in
          before_it b f e0 (omega (arith, a, c, l)) (inl (omega (arith, a, c, l, same, below))) (r.free p i ts b f k)

      own_apart : (ts : List Tunnel) (b f : ℕ) → e0.kind ≡ InPlace ts b f → (e : Entry) → IsIn e (e0 ∷ es) → IsApart b f e
      own_apart ts b f k e (inl q) =
          let a = own ts b f k in
          let first_b = a.1 in
          subst (IsApart b f) q
          (before_it b f e0 (omega (arith, first_b, l)) (inl (omega (arith, first_b, l, same, below)))
          (λ x i. let e1 : b ≡ x = single b x (subst (λ (ys : List ℕ). IsIn x ys) a.0 i) in inl (omega (arith, e1))))
        where
          single : (b x : ℕ) → IsIn x (b ∷ []) → b ≡ x
          single b x (inl e) = e
          single b x (inr none) = absurd none
      own_apart ts b f k e (inr i) = (own ts b f k).4 e i

  -- ---- lines

  abbrev pub Good : Lines → Type 0
  Good n = (line z : ℕ) → z < line → Ranged (Only z) [] line (line + n.count) (n.entries line z)

  pub one_good : (k : Kind) → bodies k ≡ [] → ((ts : List Tunnel) (b f : ℕ) → k ≡ InPlace ts b f → ⊥) → ((line z : ℕ) → P (entry line z k)) → Good (one_line k)
  one_good k none no_place p line z lt =
      node_first z (line + 1) (line + 1) (entry line z k) [] lt (omega arith) (omega arith) refl (λ x i. absurd (subst (λ (xs : List ℕ). IsIn x xs) none i)) (p line z)
      (subst (λ (xs : List ℕ). Ranged Nowhere xs (line + 1) (line + 1) []) (sym none) (no_nodes Nowhere (line + 1) (line + 1)))
      (λ ts b f same. absurd (no_place ts b f same))

  abbrev pub AllGood : List Lines → Type 0
  AllGood [] = Unit {0}
  AllGood (n ∷ ns) = Good n × AllGood ns

  below_it : (z line d : ℕ) → z < line → Only z d → d < line
  below_it z line d lt e = omega (arith, lt, e)

  pub all_good : (ns : List Lines) → AllGood ns → Good (in_order ns)
  all_good [] h line z lt = no_nodes (Only z) line (line + 0)
  all_good (n ∷ ns) h line z lt =
      let mid : ℕ = line + n.count in
      let high : ℕ = line + (n.count + count_of ns) in
      both (Only z) [] [] line mid high (n.entries line z) (entries_in ns mid z) (omega arith) (omega arith) (λ d e. below_it z line d lt e) (λ x i. absurd i) (λ x i. absurd i) (h.0 line z lt)
      (wider (Only z) [] mid mid (mid + count_of ns) high (entries_in ns mid z) (omega arith) (omega arith) (all_good ns h.1 mid z (omega (arith, lt))))

  pub loop_good : (ts : List Tunnel) (body : Lines) (k : (body finish : ℕ) → Kind) → ((b f : ℕ) → bodies (k b f) ≡ b ∷ [])
      → ((b f : ℕ) (us : List Tunnel) (c g : ℕ) → k b f ≡ InPlace us c g → (b ≡ c) × (f ≡ g)) → ((line z b f : ℕ) → P (entry line z (k b f))) → Good body → Good (loop_lines ts body k)
  loop_good ts body k is place p good line z lt =
      let first : ℕ = line + 1 + length ts in
      let finish : ℕ = first + 1 + body.count in
      let high : ℕ = line + (3 + length ts + body.count) in
      let es : List Entry = body.entries (first + 1) first in
      let inner : Ranged (Only first) [] (first + 1) (first + 1 + body.count) es = good (first + 1) first (omega arith) in
      let r : Ranged Nowhere (first ∷ []) first high es =
      wider Nowhere (first ∷ []) first first (first + 1 + body.count) high es (omega arith) (omega arith) (closed first (first + 1) (first + 1 + body.count) es (omega arith) (omega arith) inner) in
      node_first z first high (entry line z (k first finish)) es lt (omega arith) (omega arith) refl
      (λ x i. let e : first ≡ x = single first x (subst (λ (xs : List ℕ). IsIn x xs) (is first finish) i) in (omega (arith, e), omega (arith, e)))
      (p line z first finish)
      (subst (λ (xs : List ℕ). Ranged Nowhere xs first high es) (sym (is first finish)) r)
      (λ us b f same.
      let e = place first finish us b f same in
      let b_is : first ≡ b = e.0 in
      let f_is : finish ≡ f = e.1 in (
        is first finish ∙ ap (λ n. n ∷ []) b_is,
        omega (arith, b_is),
        omega (arith, b_is, f_is),
        omega (arith, f_is),
        (λ x i. all_inside first finish b f es b_is f_is inner x i),
      ))
    where
      single : (b x : ℕ) → IsIn x (b ∷ []) → b ≡ x
      single b x (inl e) = e
      single b x (inr none) = absurd none

      -- the nodes of a body
      all_inside : (first finish b f : ℕ) (es : List Entry) → first ≡ b → finish ≡ f → Ranged (Only first) [] (first + 1) finish es → (e : Entry) → IsIn e es → IsApart b f e
      all_inside first finish b f es b_is f_is r e i =
          let lines_ = r.lines e i in
          let lo = lines_.0 in
          let hi = lines_.1 in
          let between : (b < e.line) × (e.line < f) = (omega (arith, lo, b_is), omega (arith, hi, f_is)) in
          record {
            diagram = λ l h. ⊎_elim
                (λ o. let x : e.diagram ≡ first = o in (omega (arith, x, b_is), omega (arith, x, f_is, lo, hi)))
                (λ a. let x = a.0 in let y = a.1 in (omega (arith, x, b_is), omega (arith, y, f_is)))
                (r.diagrams e i);
            line = λ l h. between;
            owner = λ x j l h. between;
            inner = λ x j l h. let a = r.bodies_in e i x j in let u = a.0 in let w = a.1 in (omega (arith, u, l), omega (arith, w, f_is));
          }

  abbrev pub AllBranches : List BranchLines → Type 0
  AllBranches [] = Unit {0}
  AllBranches (b ∷ bs) = Good b.body × AllBranches bs

  pub branch_bodies : (line : ℕ) (bs : List BranchLines) (x : ℕ) → IsIn x (map (λ a. a.body) (arms line bs)) → (line ≤ x) × (x < line + branches_count bs)
  branch_bodies line [] x is = absurd is
  branch_bodies line (b ∷ bs) x (inl e) = let s : line ≡ x = e in (omega (arith, s), omega (arith, s))
  branch_bodies line (b ∷ bs) x (inr is) = let a = branch_bodies (line + branch_count b) bs x is in let u = a.0 in let w = a.1 in (omega (arith, u), omega (arith, w))

  pub branches_ranged : (line : ℕ) (bs : List BranchLines) → AllBranches bs → Ranged Nowhere (map (λ a. a.body) (arms line bs)) line (line + branches_count bs) (branches_entries line bs)
  branches_ranged line [] h = no_nodes Nowhere line (line + 0)
  branches_ranged line (b ∷ bs) h =
      let from : ℕ = line + 1 + give_lines b.gives in
      let mid : ℕ = line + branch_count b in
      let high : ℕ = line + (branch_count b + branches_count bs) in
      let es : List Entry = b.body.entries from line in
      let own : Ranged Nowhere (line ∷ []) line mid es =
      wider Nowhere (line ∷ []) line line (from + b.body.count) mid es (omega arith) (omega arith) (closed line from (from + b.body.count) es (omega arith) (omega arith) (h.0 from line (omega arith))) in
      both Nowhere (line ∷ []) (map (λ a. a.body) (arms mid bs)) line mid high es (branches_entries mid bs) (omega arith) (omega arith) (λ d none. absurd none)
      (λ x i. let e : line ≡ x = single x i in omega (arith, e)) (λ y i. (branch_bodies mid bs y i).0) own
      (wider Nowhere (map (λ a. a.body) (arms mid bs)) mid mid (mid + branches_count bs) high (branches_entries mid bs) (omega arith) (omega arith) (branches_ranged mid bs h.1))
    where
      single : (x : ℕ) → IsIn x (line ∷ []) → line ≡ x
      single x (inl e) = e
      single x (inr none) = absurd none

  abbrev pub AllFrames : List FrameLines → Type 0
  AllFrames [] = Unit {0}
  AllFrames (f ∷ fs) = Good f.body × AllFrames fs

  pub frame_bodies : (line : ℕ) (fs : List FrameLines) (x : ℕ) → IsIn x (map (λ p. p.body) (parts line fs)) → (line ≤ x) × (x < line + frames_count fs)
  frame_bodies line [] x is = absurd is
  frame_bodies line (f ∷ fs) x (inl e) = let s : line ≡ x = e in (omega (arith, s), omega (arith, s))
  frame_bodies line (f ∷ fs) x (inr is) = let a = frame_bodies (line + frame_count f) fs x is in let u = a.0 in let w = a.1 in (omega (arith, u), omega (arith, w))

  pub frames_ranged : (line : ℕ) (fs : List FrameLines) → AllFrames fs → Ranged Nowhere (map (λ p. p.body) (parts line fs)) line (line + frames_count fs) (frames_entries line fs)
  frames_ranged line [] h = no_nodes Nowhere line (line + 0)
  frames_ranged line (f ∷ fs) h =
      let from : ℕ = line + 2 + length f.lines in
      let mid : ℕ = line + frame_count f in
      let high : ℕ = line + (frame_count f + frames_count fs) in
      let es : List Entry = f.body.entries from line in
      let own : Ranged Nowhere (line ∷ []) line mid es =
      wider Nowhere (line ∷ []) line line (from + f.body.count) mid es (omega arith) (omega arith) (closed line from (from + f.body.count) es (omega arith) (omega arith) (h.0 from line (omega arith))) in
      both Nowhere (line ∷ []) (map (λ p. p.body) (parts mid fs)) line mid high es (frames_entries mid fs) (omega arith) (omega arith) (λ d none. absurd none)
      (λ x i. let e : line ≡ x = single x i in omega (arith, e)) (λ y i. (frame_bodies mid fs y i).0) own
      (wider Nowhere (map (λ p. p.body) (parts mid fs)) mid mid (mid + frames_count fs) high (frames_entries mid fs) (omega arith) (omega arith) (frames_ranged mid fs h.1))
    where
      single : (x : ℕ) → IsIn x (line ∷ []) → line ≡ x
      single x (inl e) = e
      single x (inr none) = absurd none
