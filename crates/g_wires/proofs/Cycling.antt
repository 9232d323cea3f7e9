-- The breaks of rule 6 put together.
use Rattle.std.proofs.Common.{◌≡◌, ◌⊎◌, inl, inr, ⊎_elim, ℕ, zero, suc, ◌+◌, ◌<◌, ◌≤◌, Bool, true, false, ◌||◌, List, [], ◌∷◌, ◌++◌, length, get_or, drop, refl, sym, ap, ◌∙◌, subst, arith}
use Rattle.std.proofs.lemmas.List.{append-nil, at_drop_more, at_drop_all}
use Rattle.std.proofs.Math.Bool.{or_assoc}
use Rattle.std.specs.Prelude.{Some, slice_get}
use Rattle.std.specs.List.Sorted.{IsStrictlySortedBy}
use Rattle.std.specs.Ordering.{is_eq}
use Rattle.std.proofs.lemmas.List.Folds.{list_any-append}
use Rattle.std.proofs.lemmas.Option.{slice_get_within}
use Rattle.g_diagram.specs.declared.place.Break.{Break}
use Rattle.g_diagram.specs.declared.hierarchy.Vi.{Vi}
use Rattle.g_diagram.specs.Ports.{Port, has_wire}
use Rattle.g_diagram.specs.Leads.{Leads}
use Rattle.g_wires.specs.declared.coded.Coded.{Coded}
use Rattle.g_wires.specs.Cycles.{LeadsToItself}
use Rattle.g_rules_breaks.specs.Breaks.{break_cmp, has_break, ListsEach}
use Rattle.g_rules_breaks.proofs.Ordered.{same_break, same_itself, of_parts}
use Rattle.g_wires.specs.Breaks.{BreaksBy, plain_breaks, each_from}
use Rattle.g_wires.specs.Cycles.{Cycles}
use Rattle.g_rules_lines.specs.UnknownVis.{absent_main}
use Rattle.g_rules_lines.specs.Lists.{Known}
use Rattle.g_wires.specs.Marks.{line_break, marked_from, coded_wire}
use Rattle.g_wires.specs.Checked.{AddsBreaks, AddsCycles, CyclesBelow, IsCycle, SameBreaks, TellsLines}
use Rattle.g_wires.proofs.Found.{or_left, or_right, or_cases}
use Rattle.g_wires.proofs.Turning.{leads_same}

-- a break of a marked line
record Marked (vi first : ℕ) (ms : List Bool) (b : Break) : Type 0 where
  at : ℕ
  below : at < length ms
  mark : get_or ms at false ≡ true
  is : b ≡ line_break vi (first + at)

marked_has : (vi first : ℕ) (ms : List Bool) (b : Break) → has_break (marked_from vi first ms) b ≡ true → Marked vi first ms b
marked_has vi first [] b h = cc
marked_has vi first (true ∷ ms) b h = ⊎_elim
    (λ e. record { at = 0; below = omega arith; mark = refl; is = same_break b (line_break vi first) e ∙ ap (line_break vi) (omega arith) })
    (λ e. let r : Marked vi (first + 1) ms b = marked_has vi (first + 1) ms b e in
    record { at = suc r.at; below = let lt = r.below in omega (arith, lt); mark = r.mark; is = r.is ∙ ap (line_break vi) (omega arith) })
    (or_cases (is_eq (break_cmp b (line_break vi first))) (has_break (marked_from vi (first + 1) ms) b) h)
marked_has vi first (false ∷ ms) b h =
    let r : Marked vi (first + 1) ms b = marked_has vi (first + 1) ms b h in
    record { at = suc r.at; below = let lt = r.below in omega (arith, lt); mark = r.mark; is = r.is ∙ ap (line_break vi) (omega arith) }

marked_is : (vi first : ℕ) (ms : List Bool) (k : ℕ) → k < length ms → get_or ms k false ≡ true → has_break (marked_from vi first ms) (line_break vi (first + k)) ≡ true
marked_is vi first [] k lt h = absurd (omega arith)
marked_is vi first (true ∷ ms) zero lt h =
    let P : ℕ → Type 0 = λ n. is_eq (break_cmp (line_break vi n) (line_break vi first)) ≡ true in
    let e : first ≡ first + 0 = omega arith in
    or_left (is_eq (break_cmp (line_break vi (first + 0)) (line_break vi first))) (has_break (marked_from vi (first + 1) ms) (line_break vi (first + 0))) (subst P e (same_itself (line_break vi first)))
marked_is vi first (true ∷ ms) (suc k) lt h =
    let P : ℕ → Type 0 = λ n. has_break (marked_from vi (first + 1) ms) (line_break vi n) ≡ true in
    let e : first + 1 + k ≡ first + suc k = omega arith in
    or_right (is_eq (break_cmp (line_break vi (first + suc k)) (line_break vi first))) (has_break (marked_from vi (first + 1) ms) (line_break vi (first + suc k)))
    (subst P e (marked_is vi (first + 1) ms k (omega arith) h))
marked_is vi first (false ∷ ms) zero lt h = cc
marked_is vi first (false ∷ ms) (suc k) lt h =
    let P : ℕ → Type 0 = λ n. has_break (marked_from vi (first + 1) ms) (line_break vi n) ≡ true in
    let e : first + 1 + k ≡ first + suc k = omega arith in
    subst P e (marked_is vi (first + 1) ms k (omega arith) h)

pub cycles_added : (vi : ℕ) (ps : List Port) (cs : List Coded) → ((a b : ℕ) → coded_wire cs a b ≡ has_wire ps a b) → (old new : List Break) (marks : List Bool)
    → new ≡ old ++ marked_from vi 0 marks → TellsLines cs marks → AddsCycles vi ps old new
cycles_added vi ps cs steps old new marks e tells = record {
  only = λ b h. ⊎_elim inl (λ m. inr (cycle b (marked_has vi 0 marks b m))) (or_cases (has_break old b) (has_break (marked_from vi 0 marks) b) (sym (split b) ∙ h));
  keeps = λ b h. split b ∙ or_left (has_break old b) (has_break (marked_from vi 0 marks) b) h;
  each = λ b c. split b ∙ or_right (has_break old b) (has_break (marked_from vi 0 marks) b) (listed_cycle b c);
}
  where
    split : (b : Break) → has_break new b ≡ (has_break old b || has_break (marked_from vi 0 marks) b)
    split b = ap (λ bs. has_break bs b) e ∙ list_any-append (λ c. is_eq (break_cmp b c)) old (marked_from vi 0 marks)

    cycle : (b : Break) → Marked vi 0 marks b → IsCycle vi ps b
    cycle b r =
        let P : ℕ → Type 0 = LeadsToItself ps in
        let line : r.at ≡ b.place.line = sym (ap (λ (x : Break). x.place.line) r.is ∙ omega arith) in
        record {
          at = ap (λ (x : Break). x.place.vi) r.is;
          leads = subst P line (leads_same (coded_wire cs) (has_wire ps) steps r.at r.at (tells.sound r.at r.below r.mark));
          whole = ap (λ (x : Break). x.place.operand) r.is;
          rule = ap (λ (x : Break). x.rule) r.is;
        }

    listed_cycle : (b : Break) → IsCycle vi ps b → has_break (marked_from vi 0 marks) b ≡ true
    listed_cycle b c =
        let l : Leads (coded_wire cs) b.place.line b.place.line = leads_same (has_wire ps) (coded_wire cs) (λ x y. sym (steps x y)) b.place.line b.place.line c.leads in
        let P : Break → Type 0 = λ x. has_break (marked_from vi 0 marks) x ≡ true in
        let e : b.place.line ≡ 0 + b.place.line = omega arith in
        subst P (sym (of_parts b vi (0 + b.place.line) 0 6 c.at e c.whole c.rule)) (marked_is vi 0 marks b.place.line (tells.below b.place.line l) (tells.complete b.place.line l))

below_or_last : (v n : ℕ) → v < n + 1 → (v < n) ⊎ (v ≡ n)
below_or_last v n lt = grind arith

pub cycles_more : (ports : Vi → List Port) (vis : List Vi) (i : ℕ) (vi : Vi) (old new : List Break) → slice_get vis i ≡ Some vi → AddsCycles i (ports vi) old new
    → CyclesBelow ports vis i old → CyclesBelow ports vis (i + 1) new
cycles_more ports vis i vi old new s adds f = record {
  only = λ b h. ⊎_elim (f.only b) (λ c. record { vi = vi; stands = ap (slice_get vis) c.at ∙ s; leads = c.leads; whole = c.whole; rule = c.rule }) (adds.only b h);
  each = λ b c lt. ⊎_elim (λ below. adds.keeps b (f.each b c below)) (λ same. adds.each b (one b c same)) (below_or_last b.place.vi i lt);
}
  where
    one : (b : Break) → Cycles ports vis b → b.place.vi ≡ i → IsCycle i (ports vi) b
    one b c same =
        let e : Some c.vi ≡ Some vi = sym c.stands ∙ ap (slice_get vis) same ∙ s in
        let f : c.vi ≡ vi = cc in
        let P : Vi → Type 0 = λ v. LeadsToItself (ports v) b.place.line in
        record { at = same; leads = subst P f c.leads; whole = c.whole; rule = c.rule }

pub no_cycles : (ports : Vi → List Port) (vis : List Vi) (bs : List Break) → bs ≡ [] → CyclesBelow ports vis 0 bs
no_cycles ports vis bs e = record {
  only = λ b h. let none : false ≡ true = sym (ap (λ xs. has_break xs b) e) ∙ h in cc;
  each = λ b c lt. absurd (omega arith);
}

pub lists_each : (ports : Vi → List Port) (known : Known) (vis : List Vi) (main : List ℕ) (plain cycles all bs : List Break) → SameBreaks plain (plain_breaks ports known vis ++ absent_main known.arities (length vis) main) → CyclesBelow ports vis (length vis) cycles
    → all ≡ plain ++ cycles → IsStrictlySortedBy break_cmp bs → ((b : Break) → has_break bs b ≡ has_break all b) → ListsEach (BreaksBy ports known vis main) bs
lists_each ports known vis main plain cycles all bs en ec ea order same = record {
  ascending = order;
  only = λ b h. ⊎_elim (λ x. inl (sym (en b) ∙ x)) (λ x. inr (ec.only b x)) (or_cases (has_break plain b) (has_break cycles b) (sym (split b) ∙ h));
  each = λ b p. split b ∙ ⊎_elim
      (λ x. or_left (has_break plain b) (has_break cycles b) (en b ∙ x))
      (λ (c : Cycles ports vis b). or_right (has_break plain b) (has_break cycles b) (ec.each b c (slice_get_within vis b.place.vi c.vi c.stands)))
      p;
}
  where
    split : (b : Break) → has_break bs b ≡ (has_break plain b || has_break cycles b)
    split b = same b ∙ ap (λ xs. has_break xs b) ea ∙ list_any-append (λ c. is_eq (break_cmp b c)) plain cycles

-- one more VI, as at a step of a loop
pub each_more : (f : ℕ → Vi → List Break) (vis : List Vi) (i : ℕ) (vi : Vi) (number next : ℕ) (old new whole : List Break) → i < length vis → vi ≡ get_or vis i vi → next ≡ number + 1
    → AddsBreaks (f number vi) old new → SameBreaks (old ++ each_from f number (drop i vis)) whole → SameBreaks (new ++ each_from f next (drop (i + 1) vis)) whole
each_more f vis i vi number next old new whole lt is en adds h b =
    let rest : List Break = each_from f next (drop (i + 1) vis) in
    let test : Break → Bool = λ c. is_eq (break_cmp b c) in
    let all : f number vi ++ rest ≡ each_from f number (drop i vis) =
    ap (λ n. f number vi ++ each_from f n (drop (i + 1) vis)) en ∙ ap (λ v. f number v ++ each_from f (number + 1) (drop (i + 1) vis)) is
    ∙ sym (at_drop_more (each_from f number) vis i vi lt) in
    list_any-append test new rest ∙ ap (λ x. x || has_break rest b) (adds b) ∙ or_assoc (has_break old b) (has_break (f number vi) b) (has_break rest b)
    ∙ ap (λ x. has_break old b || x) (sym (list_any-append test (f number vi) rest)) ∙ sym (list_any-append test old (f number vi ++ rest))
    ∙ ap (λ bs. has_break (old ++ bs) b) all ∙ h b

-- after the last VI
pub each_all : (f : ℕ → Vi → List Break) (vis : List Vi) (i number : ℕ) (plain whole : List Break) → length vis ≤ i → SameBreaks (plain ++ each_from f number (drop i vis)) whole → SameBreaks plain whole
each_all f vis i number plain whole le h b = ap (λ bs. has_break bs b) (sym (append-nil plain) ∙ ap (λ bs. plain ++ bs) (sym (at_drop_all (each_from f number) vis i le))) ∙ h b
