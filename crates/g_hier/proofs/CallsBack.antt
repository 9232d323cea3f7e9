-- What a recursion is made of, and how its breaks are found.
use Rattle.std.proofs.Common.{◌≡◌, inl, inr, ℕ, zero, suc, Bool, true, false, ◌||◌, ◌==◌, List, [], ◌∷◌, length, refl, sym, ap, subst, arith}
use Rattle.std.specs.Prelude.{Contains}
use Rattle.std.specs.Ordering.{is_eq}
use Rattle.g_hier.specs.declared.linked.CallLine.{CallLine}
use Rattle.g_hier.specs.declared.linked.Outline.{Outline}
use Rattle.g_diagram.specs.declared.place.Break.{Break}
use Rattle.g_diagram.specs.Leads.{Leads}
use Rattle.g_hier.specs.Outlines.{calls, calls_at, has_call}
use Rattle.g_rules_breaks.specs.Breaks.{break_cmp, ListsEach}
use Rattle.g_rules_breaks.proofs.Ordered.{same_break, same_itself, of_parts}
use Rattle.g_hier.specs.Recursion.{IsRecursion, HasNoRecursion, Reaches}
use Rattle.g_hier.specs.CallGraph.{recursion_at}

-- a call line to a VI
pub record CallTo (cs : List CallLine) (v : ℕ) : Type 0 where
  pub call : CallLine
  pub stands : Contains cs call
  pub calls : call.vi ≡ v

same_number : (x y : ℕ) → (x == y) ≡ true → x ≡ y
same_number x y e = grind (arith, e)

pub call_to : (cs : List CallLine) (v : ℕ) → has_call v cs ≡ true → CallTo cs v
call_to [] v h = absurd cc
call_to (c ∷ cs) v h = first (c.vi == v) refl h (call_to cs v)
  where
    first : (b : Bool) → (c.vi == v) ≡ b → (b || has_call v cs) ≡ true → (has_call v cs ≡ true → CallTo cs v) → CallTo (c ∷ cs) v
    first true e k more = record { call = c; stands = (0, omega arith, refl); calls = same_number c.vi v e }
    first false e k more = let m : CallTo cs v = more k in record { call = m.call; stands = (suc m.stands.0, (let lt = m.stands.1 in omega (arith, lt)), m.stands.2); calls = m.calls }

-- where there is none, no VI leads to itself
pub acyclic : (os : List Outline) → HasNoRecursion os → (v : ℕ) → Leads (calls os) v v → ⊥
acyclic os none v (zero, step) =
    let c : CallTo (calls_at os v) v = call_to (calls_at os v) v step in
    none (recursion_at v c.call.line) (record { rule = refl; whole = refl; call = c.call; stands = c.stands; line = refl; back = inl c.calls })
acyclic os none v (suc n, (u, walk, step)) =
    let c : CallTo (calls_at os u) v = call_to (calls_at os u) v step in
    let P : ℕ → Type 0 = λ x. Reaches os x u in
    none (recursion_at u c.call.line) (record { rule = refl; whole = refl; call = c.call; stands = c.stands; line = refl; back = subst P (sym c.calls) (inr (n, walk)) })

-- the parts of a break of a call line
pub record IsAt (b : Break) (vi line : ℕ) : Type 0 where
  pub vi_is : b.place.vi ≡ vi
  pub line_is : b.place.line ≡ line
  pub whole : b.place.operand ≡ 0
  pub rule : b.rule ≡ 19

pub is_at : (b : Break) (vi line : ℕ) → is_eq (break_cmp b (recursion_at vi line)) ≡ true → IsAt b vi line
is_at b vi line h =
    let e = same_break b (recursion_at vi line) h in
    record { vi_is = ap (λ (c : Break). c.place.vi) e; line_is = ap (λ (c : Break). c.place.line) e; whole = ap (λ (c : Break). c.place.operand) e; rule = ap (λ (c : Break). c.rule) e }

pub at_is : (b : Break) (vi line : ℕ) → IsAt b vi line → is_eq (break_cmp b (recursion_at vi line)) ≡ true
at_is b vi line i =
    let P : Break → Type 0 = λ c. is_eq (break_cmp b c) ≡ true in
    subst P (of_parts b vi line 0 19 i.vi_is i.line_is i.whole i.rule) (same_itself b)

-- an empty list of breaks says that there is none
pub none_there : (os : List Outline) (bs : List Break) → ListsEach (IsRecursion os) bs → length bs ≡ 0 → HasNoRecursion os
none_there os [] l e b r = let h = l.each b r in cc
none_there os (x ∷ xs) l e b r = omega (arith, e)
