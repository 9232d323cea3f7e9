-- One step of the families that go down their levels.
use Rattle.std.proofs.Common.{◌≡◌, ℕ, zero, suc, ◌+◌, ◌-◌, ◌<◌, Bool, List, [], ◌∷◌, ◌++◌, Bor, subst, append_assoc, Some, refl, sym, ap, ◌∙◌, arith, true}
use Rattle.std.specs.Prelude.{Result, Ok, Err}
use Rattle.g_grammar.specs.Grammar.{Grammar, take, first, Read, then, taken, read}
use Rattle.g_tokens.specs.declared.token.Token.{Token}
use Rattle.g_types.specs.declared.ty.Ty.{Ty}
use Rattle.g_diagram.specs.declared.panel.Lit.{Lit}
use Rattle.g_listing_grammar.specs.declared.LiteralFirst.{LiteralFirst}
use Rattle.g_listing_grammar.specs.Literals.{literal_rest, literal_rest_of, literal_first}
use Rattle.g_listing_grammar.specs.declared.TypeWord.{TypeWord}
use Rattle.g_grammar.specs.declared.Stop.{Stop}
use Rattle.g_listing_grammar.specs.Words.{comma_or_brace}
use Rattle.g_listing_grammar.specs.Types.{types, type_first, type_rest, others}
use Rattle.g_grammar.specs.Reads.{Gives, with_front}

pub types_none : (n : ℕ) (arrays : Bool) (ts : List Token) → n ≡ 0 → read (types n arrays) ts ≡ Err ts
unfolding types
types_none zero arrays [] e = refl
types_none zero arrays (t ∷ ts) e = refl
types_none (suc n) arrays ts e = absurd (omega arith)

pub types_step : (n : ℕ) (arrays : Bool) (ts : List Token) → 0 < n
    → read (types n arrays) ts ≡ then (taken (first (type_first (n - 1) arrays) ts) ts) (λ w mid. read (type_rest (types (n - 1)) w) mid)
unfolding types
types_step zero arrays ts lt = absurd (omega arith)
types_step (suc n) arrays ts lt = let e : suc n - 1 ≡ n = omega arith in rw e refl

pub types_gives : (n : ℕ) (arrays : Bool) (ts : List Token) (t : Token) (rest : List Token) (w : TypeWord) (result : Result (Ty × Bor (List Token)) (Stop Token))
    → 0 < n → ts ≡ t ∷ rest → type_first (n - 1) arrays t ≡ Some w → Gives result (read (type_rest (types (n - 1)) w) rest) → Gives result (read (types n arrays) ts)
types_gives n arrays ts t rest w result lt is first gives =
    let step = types_step n arrays (t ∷ rest) lt in
    let one : read (types n arrays) ts ≡ read (type_rest (types (n - 1)) w) rest = ap (read (types n arrays)) is ∙ step ∙ rw first refl in
    subst (λ r. Gives result r) (sym one) gives

-- ---- what a loop over further parts keeps

front_put : {A : Type 0} (front : List A) (x : A) (ts : List Token) (r : Read Token (List A))
    → with_front front (then r (λ xs mid. Ok (x ∷ xs, mid))) ≡ with_front (front ++ x ∷ []) r
front_put front x ts (Ok y) = ap (λ (l : List _). Ok (l, y.1)) (sym (append_assoc front (x ∷ []) y.0))
front_put front x ts (Err bad) = refl

pub others_more : {A : Type 0} (g : Grammar Token A) (front : List A) (count i : ℕ) (ts mid rest : List Token) (x : A) (total : Read Token (List A))
    → i < count → read (take comma_or_brace) ts ≡ Ok (true, mid) → read g mid ≡ Ok (x, rest)
    → with_front front (read (others g (count - i)) ts) ≡ total → with_front (front ++ x ∷ []) (read (others g (count - (i + 1))) rest) ≡ total
others_more g front count i ts mid rest x total lt comma one so_far =
    let k : count - i ≡ suc (count - (i + 1)) = omega arith in
    let e : with_front front (read (others g (count - i)) ts) ≡ with_front (front ++ x ∷ []) (read (others g (count - (i + 1))) rest) =
    rw (k, comma, one) (front_put front x rest (read (others g (count - (i + 1))) rest)) in
    sym e ∙ so_far

-- ---- literals

pub literal_rest_none : (n : ℕ) (c : LiteralFirst) (ts : List Token) → n ≡ 0 → read (literal_rest n c) ts ≡ Err ts
unfolding literal_rest
literal_rest_none zero c [] e = refl
literal_rest_none zero c (t ∷ ts) e = refl
literal_rest_none (suc n) c ts e = absurd (omega arith)

pub literal_rest_gives : (n : ℕ) (c : LiteralFirst) (ts : List Token) (result : Result (Lit × Bor (List Token)) (Stop Token))
    → 0 < n → Gives result (read (literal_rest_of (literal_first (n - 1)) (literal_rest (n - 1)) c) ts) → Gives result (read (literal_rest n c) ts)
unfolding literal_rest
literal_rest_gives zero c ts result lt h = absurd (omega arith)
literal_rest_gives (suc n) c ts result lt h = let e : suc n - 1 ≡ n = omega arith in rw e at h
