-- The list of exactly what is broken is one.
use Rattle.std.proofs.Common.{◌≡◌, Bool, true, false, ◌||◌, List, [], ◌∷◌, refl, sym, ap, ◌∙◌, subst}
use Rattle.std.specs.declared.cmp.Ordering.TheVariants.{Less, Greater}
use Rattle.std.specs.Ordering.{is_eq, ordering_reverse}
use Rattle.std.specs.List.{AllByRecursion}
use Rattle.std.specs.List.Sorted.{IsStrictlySortedBy}
use Rattle.g_diagram.specs.declared.place.Break.{Break}
use Rattle.g_rules_breaks.specs.Breaks.{break_cmp, has_break, ListsEach}
use Rattle.g_rules_breaks.proofs.Ordered.{break_total, same_break, same_itself, has_first, none_held}

abbrev IsBefore : Break → Break → Type 0
IsBefore a b = break_cmp a b ≡ Less

before_itself : (b : Break) → IsBefore b b → ⊥
before_itself b e = let same : true ≡ false = sym (same_itself b) ∙ ap is_eq e in absurd cc

not_both : (a b : Break) → IsBefore a b → IsBefore b a → ⊥
not_both a b e f = let both : Less ≡ Greater = sym e ∙ break_total.antisymm a b ∙ ap ordering_reverse f in absurd cc

-- what stands in a list is its first break or one of the others
first_or_later : (b c : Break) (bs : List Break) (P : Type 0) → has_break (c ∷ bs) b ≡ true → (b ≡ c → P) → (has_break bs b ≡ true → P) → P
first_or_later b c bs P e here later = by (is_eq (break_cmp b c)) refl e
  where
    by : (x : Bool) → is_eq (break_cmp b c) ≡ x → (x || has_break bs b) ≡ true → P
    by true same e = here (same_break b c same)
    by false other e = later e

-- what stands among breaks that come after one comes after it
after_all : (a b : Break) (bs : List Break) → AllByRecursion (IsBefore a) bs → has_break bs b ≡ true → IsBefore a b
after_all a b [] all e = absurd (none_held b e)
after_all a b (c ∷ bs) all e = first_or_later b c bs (IsBefore a b) e (λ same. subst (IsBefore a) (sym same) all.0) (after_all a b bs all.1)

stands_later : (b c : Break) (bs : List Break) → has_break bs b ≡ true → has_break (c ∷ bs) b ≡ true
stands_later b c bs e = by (is_eq (break_cmp b c))
  where
    by : (x : Bool) → (x || has_break bs b) ≡ true
    by true = refl
    by false = e

-- two lists in order in which the same breaks stand
same_lists : (bs cs : List Break) → IsStrictlySortedBy break_cmp bs → IsStrictlySortedBy break_cmp cs → ((b : Break) → has_break bs b ≡ true → has_break cs b ≡ true) → ((b : Break) → has_break cs b ≡ true → has_break bs b ≡ true) → bs ≡ cs
unfolding IsStrictlySortedBy
same_lists [] [] s t there back = refl
same_lists [] (c ∷ cs) s t there back = absurd (none_held c (back c (has_first c cs)))
same_lists (b ∷ bs) [] s t there back = absurd (none_held b (there b (has_first b bs)))
same_lists (b ∷ bs) (c ∷ cs) s t there back =
    let first : b ≡ c =
    first_or_later b c cs (b ≡ c) (there b (has_first b bs)) (λ same. same)
    (λ late. first_or_later c b bs (b ≡ c) (back c (has_first c cs)) (λ same. sym same) (λ later. absurd (not_both b c (after_all b c bs s.0 later) (after_all c b cs t.0 late)))) in
    let on : (x : Break) → has_break bs x ≡ true → has_break cs x ≡ true = (λ x e.
    first_or_later x c cs (has_break cs x ≡ true) (there x (stands_later x b bs e)) (λ same. absurd (before_itself b (subst (IsBefore b) (same ∙ sym first) (after_all b x bs s.0 e)))) (λ e. e)) in
    let off : (x : Break) → has_break cs x ≡ true → has_break bs x ≡ true = (λ x e.
    first_or_later x b bs (has_break bs x ≡ true) (back x (stands_later x c cs e)) (λ same. absurd (before_itself c (subst (IsBefore c) (same ∙ first) (after_all c x cs t.0 e)))) (λ e. e)) in
    let rest : bs ≡ cs = same_lists bs cs s.1 t.1 on off in
    cc

pub one_list : (P : Break → Type 0) (bs cs : List Break) → ListsEach P bs → ListsEach P cs → bs ≡ cs
one_list P bs cs a b = same_lists bs cs a.ascending b.ascending (λ x e. b.each x (a.only x e)) (λ x e. a.each x (b.only x e))

pub none_listed : (P : Break → Type 0) (bs : List Break) → ListsEach P bs → ((b : Break) → P b → ⊥) → bs ≡ []
none_listed P [] a none = refl
none_listed P (b ∷ bs) a none = absurd (none b (a.only b (has_first b bs)))
