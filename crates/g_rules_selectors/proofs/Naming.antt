-- What is kept, after one more selector.
use Rattle.std.proofs.Common.{◌≡◌, ℕ, ◌+◌, ◌<◌, Bool, true, false, cond, ◌||◌, List, [], ◌∷◌, ◌++◌, length, get_or, take, drop, append_assoc, refl, sym, ap, ◌∙◌, subst}
use Rattle.std.specs.List.{list_any}
use Rattle.std.specs.Str.{bytes_eq}
use Rattle.std.specs.Ordering.{nat_cmp}
use Rattle.std.specs.Cmp.Lexicographic.{slice_cmp}
use Rattle.std.specs.BTreeSet.{Updates}
use Rattle.std.proofs.lemmas.Map.Text.{is_eq-slice_cmp}
use denote.Ref.{Bor}
use Rattle.std.proofs.lemmas.List.{at_drop_more, take_more}
use Rattle.std.proofs.lemmas.List.Folds.{list_any-append}
use Rattle.g_diagram.specs.declared.node.Selector.{Selector}
use Rattle.g_rules_selectors.specs.declared.taken.Taken.{Taken}
use Rattle.g_rules_selectors.specs.Clashes.{falls, overlaps, clashes}
use Rattle.g_rules_selectors.proofs.Meeting.{or_assoc}
use Rattle.g_rules_selectors.specs.Taken.{Texts, AreApart, Keeps, is_taken, has_text}

or_false : (b : Bool) → b ≡ (b || false)
or_false true = refl
or_false false = refl

cond_or : (a b : Bool) → cond a true b ≡ (b || a)
cond_or true true = refl
cond_or true false = refl
cond_or false true = refl
cond_or false false = refl

pub text_added : (s t : Texts) (x : Bor (List ℕ)) → Updates (λ x y. slice_cmp nat_cmp x.now y.now) s t x true → (text : List ℕ) → has_text t text ≡ (has_text s text || bytes_eq x.now text)
text_added s t x u text =
    u.0 (record { ref_ptr = (0, 0); now = text }) ∙ ap (λ b. cond b true (has_text s text)) (is_eq-slice_cmp x.now text) ∙ cond_or (bytes_eq x.now text) (has_text s text)

pub keeps_more : (t u : Taken) (before : List Selector) (x : Selector) → Keeps t before → AreApart u.numbers → ((s : Selector) → is_taken u s ≡ (is_taken t s || overlaps s x)) → Keeps u (before ++ x ∷ [])
keeps_more t u before x keeps apart added = record {
  apart = apart;
  taken = λ s. added s ∙ ap (λ b. b || overlaps s x) (keeps.taken s) ∙ ap (λ b. list_any (overlaps s) before || b) (or_false (overlaps s x)) ∙ sym (list_any-append (overlaps s) before (x ∷ []));
}

-- one more selector of a line
pub line_more : (before xs : List Selector) (i : ℕ) (x : Selector) → i < length xs → x ≡ get_or xs i x → (before ++ take i xs) ++ x ∷ [] ≡ before ++ take (i + 1) xs
line_more before xs i x lt is = append_assoc before (take i xs) (x ∷ []) ∙ ap (λ ys. before ++ ys) (ap (λ y. take i xs ++ y ∷ []) is ∙ sym (take_more xs i x lt))

step : (old clash falling taken rest : Bool) → clash ≡ (falling || taken) → ((old || clash) || rest) ≡ (old || (falling || (taken || rest)))
step old clash falling taken rest e = ap (λ c. (old || c) || rest) e ∙ or_assoc old (falling || taken) rest ∙ ap (λ b. old || b) (or_assoc falling taken rest)

pub clash_more : (t : Taken) (before xs : List Selector) (i : ℕ) (x : Selector) (old clash : Bool) → i < length xs → x ≡ get_or xs i x → Keeps t (before ++ take i xs)
    → clash ≡ (falls x || is_taken t x) → (old || clashes (before ++ take i xs) (drop i xs)) ≡ clashes before xs → ((old || clash) || clashes (before ++ take (i + 1) xs) (drop (i + 1) xs)) ≡ clashes before xs
clash_more t before xs i x old clash lt is keeps e h =
    let so_far : List Selector = before ++ take i xs in
    ap (λ ys. (old || clash) || clashes ys (drop (i + 1) xs)) (sym (line_more before xs i x lt is))
    ∙ step old clash (falls x) (list_any (overlaps x) so_far) (clashes (so_far ++ x ∷ []) (drop (i + 1) xs)) (e ∙ ap (λ b. falls x || b) (keeps.taken x))
    ∙ ap (λ y. old || clashes so_far (y ∷ drop (i + 1) xs)) is
    ∙ sym (at_drop_more (λ ys. old || clashes so_far ys) xs i x lt)
    ∙ h

pub line_keeps : (t : Taken) (before xs : List Selector) (i : ℕ) (x : Selector) → i < length xs → x ≡ get_or xs i x → Keeps t ((before ++ take i xs) ++ x ∷ []) → Keeps t (before ++ take (i + 1) xs)
line_keeps t before xs i x lt is k = let P : List Selector → Type 0 = λ ss. Keeps t ss in subst P (line_more before xs i x lt is) k
