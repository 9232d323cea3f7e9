-- The first queue of each name, and the VIs of a list.
use Rattle.std.proofs.Common.{◌≡◌, ℕ, suc, ◌+◌, ◌<◌, ◌==◌, Bool, true, false, ◌||◌, cond, List, [], ◌∷◌, ◌++◌, map, reverse, length, drop, get_or, drop-cons, append_assoc, refl, sym, ap, ◌∙◌, arith}
use Rattle.std.specs.Prelude.{if◌then◌else◌, Option, Some, None, is_some}
use Rattle.std.specs.Ordering.{is_eq, nat_cmp}
use Rattle.std.specs.Cmp.{unsigned_tied}
use Rattle.std.specs.Map.{update}
use Rattle.std.specs.Str.{bytes_eq}
use Rattle.std.specs.BTreeMap.{BTreeMap}
use Rattle.std.proofs.lemmas.List.{append-nil, map-append, reverse-append}
use Rattle.std.proofs.lemmas.List.Folds.{list_any-append}
use denote.Ref.{Bor}
use Rattle.g_frames.specs.declared.program.QueueName.{QueueName}
use Rattle.g_frames.specs.Program.{first_of_each, has_queue}
use Rattle.g_vi_tables.proofs.KeyLemmas.{by_name}
use Rattle.g_program.specs.declared.queues.ObtainLine.{ObtainLine}
use Rattle.g_program.specs.Queues.{HaveMet, seen_queue}

-- from a place on
pub from_there : {A : Type 0} (xs : List A) (i : ℕ) (x : A) → i < length xs → x ≡ get_or xs i x → drop i xs ≡ x ∷ drop (i + 1) xs
from_there {A} xs i x lt same =
    drop-cons xs i x lt ∙ ap (λ (y : A). y ∷ drop (suc i) xs) (sym same) ∙ (let e : suc i ≡ i + 1 = omega arith in ap (λ n. x ∷ drop n xs) e)

-- ---- what was met

some_cond : (b : Bool) (v : ℕ) (o : Option ℕ) → is_some (cond b (Some v) o) ≡ (is_some o || (b || false))
some_cond true v None = refl
some_cond true v (Some u) = refl
some_cond false v None = refl
some_cond false v (Some u) = refl

pub met_more : (old new : BTreeMap (Bor (List ℕ)) ℕ) (lines : List ObtainLine) (line : ObtainLine) (bs : List ℕ) (v : ℕ) → bs ≡ line.name.now
    → ((cs : List ℕ) → by_name new cs ≡ update bytes_eq (by_name old) bs (Some v) cs) → HaveMet old lines → HaveMet new (lines ++ line ∷ [])
met_more old new lines line bs v same updates met name =
    ap is_some (updates name)
    ∙ some_cond (bytes_eq bs name) v (by_name old name)
    ∙ ap (λ b. b || (bytes_eq bs name || false)) (met name)
    ∙ ap (λ cs. has_queue (map seen_queue lines) name || (bytes_eq cs name || false)) same
    ∙ sym (list_any-append (λ (q : QueueName). bytes_eq q.name name) (map seen_queue lines) (seen_queue line ∷ []))
    ∙ ap (λ qs. has_queue qs name) (sym (map-append seen_queue lines (line ∷ [])))

-- ---- the first of each name

or_swap : (a b : Bool) → (a || (b || false)) ≡ (b || a)
or_swap true true = refl
or_swap true false = refl
or_swap false true = refl
or_swap false false = refl

met-reverse : (qs : List QueueName) (name : List ℕ) → has_queue (reverse qs) name ≡ has_queue qs name
met-reverse [] name = refl
met-reverse (q ∷ qs) name =
    ap (λ xs. has_queue xs name) (reverse-append (q ∷ []) qs)
    ∙ list_any-append (λ (x : QueueName). bytes_eq x.name name) (reverse qs) (q ∷ [])
    ∙ ap (λ b. b || (bytes_eq q.name name || false)) (met-reverse qs name)
    ∙ or_swap (has_queue qs name) (bytes_eq q.name name)

-- what is kept so far, with the first of each name of what is left
abbrev pub with_rest : (kept rest : List QueueName) → List QueueName
with_rest kept rest = kept ++ first_of_each rest (reverse kept)

pub first_next : (kept : List QueueName) (q : QueueName) (rest : List QueueName) → with_rest (kept ++ (if has_queue kept q.name then [] else q ∷ [])) rest ≡ with_rest kept (q ∷ rest)
first_next kept q rest = by (has_queue kept q.name) (sym (met-reverse kept q.name))
  where
    by : (b : Bool) → b ≡ has_queue (reverse kept) q.name → with_rest (kept ++ (if b then [] else q ∷ [])) rest ≡ with_rest kept (q ∷ rest)
    by true h =
        ap (λ ks. with_rest ks rest) (append-nil kept)
        ∙ ap (λ b. kept ++ (if b then first_of_each rest (reverse kept) else q ∷ first_of_each rest (q ∷ reverse kept))) h
    by false h =
        append_assoc kept (q ∷ []) (first_of_each rest (reverse (kept ++ q ∷ [])))
        ∙ ap (λ met. kept ++ (q ∷ first_of_each rest met)) (reverse-append kept (q ∷ []))
        ∙ ap (λ b. kept ++ (if b then first_of_each rest (reverse kept) else q ∷ first_of_each rest (q ∷ reverse kept))) h

-- ---- the VIs of a list

among_more : (b c a r : Bool) → b ≡ c → (cond b true a || r) ≡ (a || (c || r))
among_more true c a r e = by a ∙ ap (λ x. a || (x || r)) e
  where
    by : (x : Bool) → (true || r) ≡ (x || (true || r))
    by true = refl
    by false = refl
among_more false c a r e = ap (λ x. a || (x || r)) e

pub among_next : (x v : ℕ) (old new rest : Bool) → new ≡ cond (is_eq (nat_cmp x v)) true old → (new || rest) ≡ (old || ((x == v) || rest))
among_next x v old new rest h = ap (λ b. b || rest) h ∙ among_more (is_eq (nat_cmp x v)) (x == v) old rest (unsigned_tied x v)
