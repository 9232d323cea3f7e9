-- Sets of diagrams.
use Rattle.std.proofs.Common.{◌≡◌, ℕ, ◌+◌, ◌<◌, Bool, true, false, cond, ◌||◌, ◌==◌, List, ◌∷◌, length, get_or, drop, map, refl, sym, ap, ◌∙◌}
use Rattle.std.specs.Ordering.{nat_cmp}
use Rattle.std.specs.Cmp.{unsigned_tied}
use Rattle.std.specs.BTreeSet.{BTreeSet, Updates}
use Rattle.std.proofs.lemmas.List.{at_drop_more}
use Rattle.g_diagram.specs.Lines as lines
use Rattle.g_diagram_table.specs.declared.entry.Entry.{Entry}
use Rattle.g_diagram_table.specs.Seen as table
use Rattle.g_rules_lines.specs.InPlaceBodies.{Diagrams, no_diagrams, with_node, gathered}
use Rattle.g_rules_lines.specs.Names.{has_diagram}

cond_or : (a b : Bool) → cond a true b ≡ (b || a)
cond_or true true = refl
cond_or true false = refl
cond_or false true = refl
cond_or false false = refl

pub diagram_added : (s t : BTreeSet ℕ) (x : ℕ) → Updates nat_cmp s t x true → (d : ℕ) → has_diagram t d ≡ (has_diagram s d || (x == d))
diagram_added s t x u d = u.0 d ∙ ap (λ b. cond b true (has_diagram s d)) (unsigned_tied x d) ∙ cond_or (x == d) (has_diagram s d)

-- before the first node
pub none_gathered : (looks : Diagrams → ℕ → lines.Kind → Bool) (es : List lines.Entry) (ds : Diagrams) → ((d : ℕ) → ds d ≡ false) → (d : ℕ) → gathered looks ds es d ≡ gathered looks no_diagrams es d
none_gathered looks es ds none d =
    let same : ds ≡ no_diagrams = λ i x. none x i in
    ap (λ (xs : Diagrams). gathered looks xs es d) same

-- one more node, as at a step of a loop
pub gathered_more : (looks : Diagrams → ℕ → lines.Kind → Bool) (es : List Entry) (i : ℕ) (e : Entry) (r : Bool) (old new : Diagrams) → i < length es → e ≡ get_or es i e → r ≡ looks old e.diagram (table.seen_kind e.kind)
    → ((d : ℕ) → new d ≡ with_node r (table.seen_kind e.kind) old d) → (d : ℕ) → gathered looks new (map table.seen (drop (i + 1) es)) d ≡ gathered looks old (map table.seen (drop i es)) d
gathered_more looks es i e r old new lt is er step d =
    let k : lines.Kind = table.seen_kind e.kind in
    let rest : List lines.Entry = map table.seen (drop (i + 1) es) in
    let same : new ≡ with_node r k old = λ j x. step x j in
    ap (λ ds. gathered looks ds rest d) (same ∙ ap (λ b. with_node b k old) er)
    ∙ ap (λ x. gathered looks old (map table.seen (x ∷ drop (i + 1) es)) d) is
    ∙ sym (at_drop_more (λ xs. gathered looks old (map table.seen xs) d) es i e lt)
