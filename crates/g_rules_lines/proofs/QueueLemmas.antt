-- Queues by name, and the test of two types.
use Rattle.std.proofs.Common.{◌≡◌, ℕ, ℤ, ◌+◌, ◌<◌, Bool, true, false, ◌&&◌, ◌==◌, cond, List, [], ◌∷◌, ◌++◌, length, get_or, drop, map, refl, sym, ap, ◌∙◌, subst}
use Rattle.std.specs.Prelude.{if◌then◌else◌, Option, Some, None, is_some}
use Rattle.std.specs.Ordering.{nat_cmp}
use Rattle.std.specs.Cmp.Lexicographic.{slice_cmp}
use Rattle.std.specs.Str.{bytes_eq}
use Rattle.std.specs.Map.{update}
use Rattle.std.specs.Option.{option_map, option_or}
use Rattle.std.specs.BTreeMap.{get_by}
use Rattle.std.proofs.lemmas.List.{at_drop_more}
use Rattle.std.proofs.lemmas.Slice.Eq.{bytes_eq-Decides}
use Rattle.g_types.specs.declared.rep.Rep.{Rep}
use Rattle.g_types.specs.declared.rep.Rep.TheVariants.{I8, I16, I32, I64, U8, U16, U32, U64}
use Rattle.g_types.specs.declared.ty.Ty.{Ty}
use Rattle.g_types.specs.declared.ty.Ty.TheOpen.{Ty-F}
use Rattle.g_types.specs.declared.ty.Ty.TheViews.{roll-Ty, out-roll-Ty}
use Rattle.g_types.specs.declared.ty.Ty.TheFolds.{fold-roll-Ty, ind-Ty, map-Ty}
use Rattle.g_types.specs.Same.{code, all_same, same_level, same_step, same_type}
use Rattle.g_types.proofs.SameLemmas.{same_type-true}
use Rattle.g_rules_lines.specs.declared.queues.Queue.{Queue}
use Rattle.g_rules_lines.specs.Queues as spec
use Rattle.g_rules_lines.specs.Queues.{first_queue}
use Rattle.g_rules_lines.specs.Names.{QueueTable, seen_queue, queue_at, queue_after}

abbrev pub queue_found : QueueTable → List ℕ → Option Queue
queue_found m name = get_by (λ k. slice_cmp nat_cmp name k.now) m

step : (b : Bool) (o : Option Queue) (q : Queue) → (b ≡ true → o ≡ None)
    → option_map seen_queue (cond b (Some q) o) ≡ option_or (option_map seen_queue o) (if b then Some (seen_queue q) else None)
step true None q h = refl
step true (Some v) q h = let absurd_case : Some v ≡ None = h refl in cc
step false None q h = refl
step false (Some v) q h = refl

none_of : (o : Option Queue) → is_some o ≡ false → o ≡ None
none_of None h = refl
none_of (Some v) h = cc

pub queue_added : (old new : QueueTable) (bs : List ℕ) (q : Queue) → ((cs : List ℕ) → queue_found new cs ≡ update bytes_eq (queue_found old) bs (Some q) cs) → is_some (queue_found old bs) ≡ false
    → (name : List ℕ) → queue_at new name ≡ queue_after (queue_at old name) bs name (seen_queue q)
queue_added old new bs q updates absent name =
    ap (option_map seen_queue) (updates name)
    ∙ step (bytes_eq bs name) (queue_found old name) q
    (λ same. let P : List ℕ → Type 0 = λ cs. queue_found old cs ≡ None in subst P ((bytes_eq-Decides bs name).0 same) (none_of (queue_found old bs) absent))

-- the first of more
pub or_none : {T : Type 0} (o : Option T) → option_or o None ≡ o
or_none None = refl
or_none (Some v) = refl

pub or_assoc : {T : Type 0} (a b c : Option T) → option_or (option_or a b) c ≡ option_or a (option_or b c)
or_assoc None b c = refl
or_assoc (Some v) b c = refl

pub first_append : (xs ys : List spec.Queue) (name : List ℕ) → first_queue (xs ++ ys) name ≡ option_or (first_queue xs name) (first_queue ys name)
first_append [] ys name = refl
first_append (q ∷ xs) ys name =
    ap (option_or (if bytes_eq q.name name then Some (q.size, q.item) else None)) (first_append xs ys name)
    ∙ sym (or_assoc (if bytes_eq q.name name then Some (q.size, q.item) else None) (first_queue xs name) (first_queue ys name))

-- one more element, as at a step of a loop
pub firsts_more : {X : Type 0} (f : X → List spec.Queue) (F : List X → List spec.Queue) (xs : List X) (i : ℕ) (x : X) (name : List ℕ) (old new : Option (ℤ × Ty)) → i < length xs → x ≡ get_or xs i x
    → F (x ∷ drop (i + 1) xs) ≡ f x ++ F (drop (i + 1) xs) → new ≡ option_or old (first_queue (f x) name)
    → option_or new (first_queue (F (drop (i + 1) xs)) name) ≡ option_or old (first_queue (F (drop i xs)) name)
firsts_more f F xs i x name old new lt is cons e =
    ap (λ o. option_or o (first_queue (F (drop (i + 1) xs)) name)) e
    ∙ or_assoc old (first_queue (f x) name) (first_queue (F (drop (i + 1) xs)) name)
    ∙ ap (option_or old) (sym (first_append (f x) (F (drop (i + 1) xs)) name))
    ∙ ap (λ qs. option_or old (first_queue qs name)) (sym cons ∙ ap (λ y. F (y ∷ drop (i + 1) xs)) is ∙ sym (at_drop_more F xs i x lt))

-- a type is the same as itself
abbrev Refl : Ty → Type 0
Refl a = same_type a a ≡ true

abbrev Same : Type 0
Same = (a : Ty) × Refl a

code-same : (r : Rep) → (code r == code r) ≡ true
code-same I8 = refl
code-same I16 = refl
code-same I32 = refl
code-same I64 = refl
code-same U8 = refl
code-same U16 = refl
code-same U32 = refl
code-same U64 = refl

and_true : (a b : Bool) → a ≡ true → b ≡ true → (a && b) ≡ true
and_true true b h k = k
and_true false b h k = h

all-same : (ps : List Same) → all_same (map same_type (map (λ p. p.0) ps)) (map (λ p. p.0) ps) ≡ true
all-same [] = refl
all-same (p ∷ ps) = and_true (same_type p.0 p.0) (all_same (map same_type (map (λ q. q.0) ps)) (map (λ q. q.0) ps)) p.1 (all-same ps)

level-same : (y : Ty-F Same) → same_level (map-Ty Ty (Ty → Bool) same_type (map-Ty Same Ty (λ p. p.0) y)) (map-Ty Same Ty (λ p. p.0) y) ≡ true
level-same (Ty-F.Num r) = code-same r
level-same Ty-F.Bool = refl
level-same Ty-F.Str = refl
level-same (Ty-F.Arr p) = p.1
level-same (Ty-F.Cluster ps) = all-same ps
level-same (Ty-F.QueueRef p) = p.1
level-same (Ty-F.ValueRef p) = p.1

pub same_type-same : (a : Ty) → Refl a
same_type-same = ind-Ty Refl (λ x y is.
    ap (λ (f : Ty → Bool). f (roll-Ty x)) (fold-roll-Ty (Ty → Bool) same_step x)
    ∙ ap (same_level (map-Ty Ty (Ty → Bool) same_type x)) (out-roll-Ty x)
    ∙ ap (λ (z : Ty-F Ty). same_level (map-Ty Ty (Ty → Bool) same_type z) z) (sym is)
    ∙ level-same y)

same_bool : (a b : Bool) → (a ≡ true → b ≡ true) → (b ≡ true → a ≡ true) → a ≡ b
same_bool true b f g = sym (f refl)
same_bool false true f g = g refl
same_bool false false f g = refl

pub type_test : (r : Bool) (a b : Ty) → (r ≡ true → a ≡ b) → (a ≡ b → r ≡ true) → r ≡ same_type a b
type_test r a b f g = same_bool r (same_type a b) (λ h. let P : Ty → Type 0 = λ t. same_type a t ≡ true in subst P (f h) (same_type-same a)) (λ h. g (same_type-true a b h))
