-- All breaks together, and where there is none.
use Rattle.std.proofs.Common.{◌≡◌, ℕ, ◌<◌, Bool, true, false, ◌||◌, List, [], ◌∷◌, ◌++◌, length, refl, sym, ap, ◌∙◌, subst, ◌⊎◌, inl, inr, ⊎_elim, arith}
use Rattle.std.specs.List.Sorted.{IsStrictlySortedBy}
use Rattle.std.specs.Ordering.{is_eq}
use Rattle.std.proofs.lemmas.List.Folds.{list_any-append}
use Rattle.g_diagram.specs.declared.hierarchy.Hierarchy.{Hierarchy}
use Rattle.g_diagram.specs.declared.place.Break.{Break}
use Rattle.g_hier.specs.declared.linked.Linked.{Linked}
use Rattle.g_hier.specs.Answer.{Links, IsTooLarge}
use Rattle.g_hier.specs.Counts.{nodes_in}
use Rattle.g_hier.specs.Outlines.{number_of, outlines_of}
use Rattle.g_hier.specs.Recursion.{IsRecursion}
use Rattle.g_infer.specs.declared.typed.Typed.{Typed}
use Rattle.g_infer.specs.Answer.{IsTyped}
use Rattle.g_typing.specs.Breaks.{TypeBreak}
use Rattle.g_rules_breaks.specs.Breaks.{ListsEach, break_cmp, has_break}
use Rattle.g_rules_breaks.proofs.Ordered.{same_break, has_first}
use Rattle.g_wires.specs.Breaks.{IsWiring}
use Rattle.g_rules.specs.Checked.{main_break, IsBreak, wires, types, recursion, too_large, IsUnbroken}
use Rattle.g_rules.specs.Parts as parts
use Rattle.g_rules.specs.Parts.{LinkBreak, Tells}
use Rattle.g_rules.proofs.Callable.{refute}

only_one : (a b : Break) → has_break (a ∷ []) b ≡ true → b ≡ a
only_one a b has = same_break b a (one (is_eq (break_cmp b a)) has)
  where
    one : (v : Bool) → (v || false) ≡ true → v ≡ true
    one true e = refl
    one false e = absurd cc

or_cases : (a b : Bool) → (a || b) ≡ true → (a ≡ true) ⊎ (b ≡ true)
or_cases true b e = inl refl
or_cases false b e = inr e

or_left : (a b : Bool) → a ≡ true → (a || b) ≡ true
or_left true b e = refl
or_left false b e = absurd cc

or_right : (a b : Bool) → b ≡ true → (a || b) ≡ true
or_right true b e = refl
or_right false b e = e

-- ---- what the parts tell

pub tells_none : (P : Break → Type 0) → ((b : Break) → P b → ⊥) → Tells P []
tells_none P none = record { only = λ b has. absurd (refute has); each = λ b p. absurd (none b p) }

-- a break of a list that isn't empty
some_break : (P : Break → Type 0) (bs : List Break) → ((b : Break) → has_break bs b ≡ true → P b) → 0 < length bs → (b : Break) × P b
some_break P [] only some = absurd (omega (arith, some))
some_break P (b ∷ bs) only some = (b, only b (has_first b bs))

pub tells_recursions : (h : Hierarchy) (main : List ℕ) (bs : List Break) → ListsEach (IsRecursion (outlines_of h)) bs → 0 < length bs → Tells (LinkBreak h main) bs
tells_recursions h main bs lists some = record {
  only = λ b has. parts.recursion (lists.only b has);
  each = each;
}
  where
    each : (b : Break) → LinkBreak h main b → has_break bs b ≡ true
    each b (parts.recursion r) = lists.each b r
    each b (parts.too_large count large is) = let first = some_break (IsRecursion (outlines_of h)) bs lists.only some in absurd (large.ends first.0 first.1)

pub tells_too_large : (h : Hierarchy) (main : List ℕ) (count : ℕ) → IsTooLarge (outlines_of h) (number_of h.vis main) count → Tells (LinkBreak h main) (main_break h main ∷ [])
tells_too_large h main count large = record {
  only = λ b has. parts.too_large count large (only_one (main_break h main) b has);
  each = each;
}
  where
    each : (b : Break) → LinkBreak h main b → has_break (main_break h main ∷ []) b ≡ true
    each b (parts.recursion r) = absurd (large.ends b r)
    each b (parts.too_large n l is) = subst (λ x. has_break (main_break h main ∷ []) x ≡ true) (sym is) (has_first (main_break h main) [])

-- what is linked is not too large, since there is one number of nodes
few_nodes : (h : Hierarchy) (main : List ℕ) (l : Linked) (count : ℕ) → Links (outlines_of h) (number_of h.vis main) l → IsTooLarge (outlines_of h) (number_of h.vis main) count → ⊥
few_nodes h main l count links large =
    let same = large.counted.only links.counted.counts links.counted.are in
    let counts = links.counted.count_is ∙ ap (nodes_in (outlines_of h)) same ∙ sym large.counted.count_is in
    omega (arith, counts, links.few, large.many)

pub no_link_break : (h : Hierarchy) (main : List ℕ) (l : Linked) → Links (outlines_of h) (number_of h.vis main) l → (b : Break) → LinkBreak h main b → ⊥
no_link_break h main l links b (parts.recursion r) = links.ends b r
no_link_break h main l links b (parts.too_large count large is) = few_nodes h main l count links large

-- ---- all together

no_wire_break : (h : Hierarchy) (main : List ℕ) → IsWiring h main [] → (b : Break) → IsBreak h main b → TypeBreak h b ⊎ LinkBreak h main b
no_wire_break h main wired b (wires w) = absurd (refute (wired.each b w))
no_wire_break h main wired b (types w t) = inl t
no_wire_break h main wired b (recursion w r) = inr (parts.recursion r)
no_wire_break h main wired b (too_large w count large is) = inr (parts.too_large count large is)

later_break : (h : Hierarchy) (main : List ℕ) → IsWiring h main [] → (b : Break) → TypeBreak h b ⊎ LinkBreak h main b → IsBreak h main b
later_break h main wired b (inl t) = types wired t
later_break h main wired b (inr (parts.recursion r)) = recursion wired r
later_break h main wired b (inr (parts.too_large count large is)) = too_large wired count large is

pub unbroken : (h : Hierarchy) (main : List ℕ) (typed : Typed) (l : Linked) → IsWiring h main [] → IsTyped h typed → Links (outlines_of h) (number_of h.vis main) l → IsUnbroken h main
unbroken h main typed l wired t links = record {
  wired = wired;
  none = λ b broken. ⊎_elim (typed_none b) (no_link_break h main l links b) (no_wire_break h main wired b broken);
}
  where
    typed_none : (b : Break) → TypeBreak h b → ⊥
    typed_none = t.unbroken

-- the breaks of the rules on types and of the others, in order
pub merges : (h : Hierarchy) (main : List ℕ) (first second bs : List Break) → IsWiring h main [] → Tells (TypeBreak h) first → Tells (LinkBreak h main) second
    → 0 < length (first ++ second) → IsStrictlySortedBy break_cmp bs → ((b : Break) → has_break bs b ≡ has_break (first ++ second) b) → ListsEach (IsBreak h main) bs × (0 < length bs)
merges h main first second bs wired tf ts some order same = (
  record {
    ascending = order;
    only = λ b has. later_break h main wired b (⊎_elim (λ f. inl (tf.only b f)) (λ s. inr (ts.only b s)) (or_cases (has_break first b) (has_break second b) (sym (split b) ∙ has)));
    each = λ b broken. split b ∙ ⊎_elim
        (λ t. or_left (has_break first b) (has_break second b) (tf.each b t))
        (λ l. or_right (has_break first b) (has_break second b) (ts.each b l))
        (no_wire_break h main wired b broken);
  },
  longer bs (first ++ second) same some,
)
  where
    split : (b : Break) → has_break bs b ≡ (has_break first b || has_break second b)
    split b = same b ∙ list_any-append (λ c. is_eq (break_cmp b c)) first second

    longer : (xs ys : List Break) → ((b : Break) → has_break xs b ≡ has_break ys b) → 0 < length ys → 0 < length xs
    longer [] [] e long = long
    longer [] (y ∷ ys) e long = absurd (refute (e y ∙ has_first y ys))
    longer (x ∷ xs) ys e long = omega arith

-- where the rules 1 to 14 are broken, the others aren't looked at
pub wires_alone : (h : Hierarchy) (main : List ℕ) (bs : List Break) → IsWiring h main bs → 0 < length bs → ListsEach (IsBreak h main) bs × (0 < length bs)
wires_alone h main bs listing some = (record { ascending = listing.ascending; only = λ b has. wires (listing.only b has); each = each }, some)
  where
    never : IsWiring h main [] → ⊥
    never none = let first = some_break _ bs listing.only some in refute (none.each first.0 first.1)

    each : (b : Break) → IsBreak h main b → has_break bs b ≡ true
    each b (wires w) = listing.each b w
    each b (types w t) = absurd (never w)
    each b (recursion w r) = absurd (never w)
    each b (too_large w count large is) = absurd (never w)

-- ---- lists that aren't empty

pub longer_front : (xs ys : List Break) → 0 < length xs → 0 < length (xs ++ ys)
longer_front [] ys some = absurd (omega (arith, some))
longer_front (x ∷ xs) ys some = omega arith

pub not_empty : (xs : List Break) → (xs ≡ [] → ⊥) → 0 < length xs
not_empty [] some = absurd (some refl)
not_empty (x ∷ xs) some = omega arith
