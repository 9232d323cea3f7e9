-- Literals that good tokens have.
use Rattle.std.proofs.Common.{◌≡◌, ◌≤◌, ℕ, zero, suc, ◌-◌, Bool, true, false, cond, List, [], ◌∷◌, length, Option, Some, None, refl, sym, subst, arith, inl, inr, ◌⊎◌}
use Rattle.std.specs.List.{All}
use Rattle.std.proofs.lemmas.List.Elements.{All-nil, All-cons, All-weaker}
use Rattle.g_grammar.specs.Grammar.{Grammar, nothing}
use Rattle.g_tokens.specs.declared.token.Token.{Token}
use Rattle.g_tokens.specs.declared.token.Token.TheVariants as token
use Rattle.g_tokens.specs.declared.token.Mark.TheVariants as mark
use Rattle.g_diagram.specs.declared.panel.Lit.{Lit}
use Rattle.g_diagram.specs.declared.panel.Lit.TheOpen.{Lit-F}
use Rattle.g_diagram.specs.declared.panel.Lit.TheVariants as lit
use Rattle.g_diagram.specs.declared.panel.Lit.TheViews.{out-Lit}
use Rattle.g_listing_words.specs.Operations.{lookup}
use Rattle.g_listing_grammar.specs.declared.LiteralFirst.{LiteralFirst}
use Rattle.g_listing_grammar.specs.declared.LiteralFirst.TheVariants as begin
use Rattle.g_listing_grammar.specs.Words.{close_bracket, comma_or_bracket}
use Rattle.g_listing_grammar.specs.Types.{others, more_others, is_above}
use Rattle.g_listing_grammar.specs.Literals.{literal_words, literal_word, fitting_literal, literal_first, next_item, array_rest, literal_rest, literals}
use Rattle.g_listing_laws.proofs.Gives.{Either}
use Rattle.g_listing_laws.proofs.TypesGiven.{AtMost}
use Rattle.g_print_laws.specs.Bytes.{IsBytes}
use Rattle.g_print_laws.proofs.Parts.{IsGood, some_is}
use Rattle.g_print_laws.proofs.Tables.{holds}
use Rattle.g_listing_listable.specs.Listable.{IsNumeral, IsLiteralAt, IsLiteral, is_array_at}
use Rattle.g_listing_listable.proofs.ReadPhrases.{Reads, Any, reads_give, reads_take, reads_bind, reads_after, reads_loop}
use Rattle.g_listing_listable.proofs.ReadTokens.{either_known, any_known}

-- ---- how a literal begins

abbrev IsPlain : Lit-F Lit → Type 0
IsPlain (Lit-F.Number n) = IsNumeral n
IsPlain (Lit-F.Truth b) = Unit {0}
IsPlain (Lit-F.Text bytes) = IsBytes bytes
IsPlain Lit-F.Null = Unit {0}
IsPlain (Lit-F.Array items) = ⊥
IsPlain (Lit-F.Cluster items) = ⊥

plain_at : (inside : Lit → Type 0) (x : Lit-F Lit) → IsPlain x → IsLiteralAt inside x
plain_at inside (Lit-F.Number n) p = p
plain_at inside (Lit-F.Truth b) p = p
plain_at inside (Lit-F.Text bytes) p = p
plain_at inside Lit-F.Null p = p
plain_at inside (Lit-F.Array items) p = absurd p
plain_at inside (Lit-F.Cluster items) p = absurd p

plain_apart : (x : Lit-F Lit) → IsPlain x → is_array_at x ≡ false
plain_apart (Lit-F.Number n) p = refl
plain_apart (Lit-F.Truth b) p = refl
plain_apart (Lit-F.Text bytes) p = refl
plain_apart Lit-F.Null p = refl
plain_apart (Lit-F.Array items) p = absurd p
plain_apart (Lit-F.Cluster items) p = refl

-- what is known of a literal that begins so, and may be an array or not
abbrev First : Bool → LiteralFirst → Type 0
First arrays (begin.Whole l) = IsPlain (out-Lit l)
First arrays begin.Array = arrays ≡ false → ⊥
First arrays begin.Cluster = Unit {0}

whole_word : (arrays : Bool) (u : List ℕ) (c : LiteralFirst) → lookup literal_words u ≡ Some c → First arrays c
whole_word arrays =
    holds (λ u c. First arrays c) literal_words
    (subst IsPlain (sym (lit.outs-Truth true)) tt, (subst IsPlain (sym (lit.outs-Truth false)) tt, (subst IsPlain (sym lit.outs-Null) tt, tt)))

word_known : (arrays : Bool) (t : Token) (c : LiteralFirst) → IsGood t → literal_word arrays t ≡ Some c → First arrays c
word_known arrays (token.Number n) c g e = subst (First arrays) (some_is e) (subst IsPlain (sym (lit.outs-Number n)) g)
word_known arrays (token.Text v) c g e = subst (First arrays) (some_is e) (subst IsPlain (sym (lit.outs-Text v)) g)
word_known arrays (token.Word u) c g e = whole_word arrays u c e
word_known true (token.Mark mark.OpenBracket) c g e = subst (First true) (some_is e) (λ f. absurd cc)
word_known false (token.Mark mark.OpenBracket) c g e = absurd cc
word_known arrays (token.Mark mark.OpenBrace) c g e = subst (First arrays) (some_is e) tt
word_known arrays (token.Mark m) c g e = absurd cc
word_known arrays token.Eol c g e = absurd cc
word_known arrays token.End c g e = absurd cc
word_known arrays token.Bad c g e = absurd cc

pub when_above : {A : Type 0} (b : Bool) (x c : A) → cond b (Some x) None ≡ Some c → Some x ≡ Some c
when_above true x c e = e
when_above false x c e = absurd cc

fits : (n : ℕ) (o : Option LiteralFirst) (c : LiteralFirst) → fitting_literal n o ≡ Some c → o ≡ Some c
fits n None c e = absurd cc
fits n (Some (begin.Whole l)) c e = when_above (is_above n) (begin.Whole l) c e
fits n (Some begin.Array) c e = when_above (is_above n) begin.Array c e
fits n (Some begin.Cluster) c e = when_above (is_above (n - 1)) begin.Cluster c e

first_known : (n : ℕ) (arrays : Bool) (t : Token) (c : LiteralFirst) → IsGood t → literal_first n arrays t ≡ Some c → First arrays c
first_known n arrays t c g e = word_known arrays t c g (fits n (literal_word arrays t) c e)

-- ---- levels

-- of so many levels, and an array only where it may be one
abbrev Fine : ℕ → Bool → Lit → Type 0
Fine n arrays l = IsLiteral n l × (arrays ≡ false → is_array_at (out-Lit l) ≡ false)

a_plain : (n : ℕ) (arrays : Bool) (l : Lit) → IsPlain (out-Lit l) → Fine (suc n) arrays l
unfolding IsLiteral
a_plain n arrays l p = (plain_at (IsLiteral n) (out-Lit l) p, λ e. plain_apart (out-Lit l) p)

abbrev IsItemOf : ℕ → Lit → Type 0
IsItemOf n item = IsLiteral n item × (is_array_at (out-Lit item) ≡ false)

an_array : (n : ℕ) (arrays : Bool) (items : List Lit) → (arrays ≡ false → ⊥) → All (Fine n false) items → Fine (suc n) arrays (lit.Array items)
unfolding IsLiteral
an_array n arrays items may a =
    (subst (IsLiteralAt (IsLiteral n)) (sym (lit.outs-Array items)) (All-weaker (Fine n false) (IsItemOf n) (λ item f. (f.0, f.1 refl)) items a), λ e. absurd (may e))

a_cluster : (n : ℕ) (arrays : Bool) (items : List Lit) → 1 ≤ length items → length items ≤ 64 → All (Fine n true) items → Fine (suc n) arrays (lit.Cluster items)
unfolding IsLiteral
a_cluster n arrays items some few a = (
  subst (IsLiteralAt (IsLiteral n)) (sym (lit.outs-Cluster items)) (some, few, All-weaker (Fine n true) (IsLiteral n) (λ item f. f.0) items a),
  λ e. subst (λ x. is_array_at x ≡ false) (sym (lit.outs-Cluster items)) refl,
)

pub nothing_read : {A : Type 0} {P : A → Type 0} → Reads P nothing
nothing_read = reads_take λ t a g e. absurd cc

more_read : {A : Type 0} (P : A → Type 0) (n : ℕ) (g : Grammar Token A) (rest : Grammar Token (List A)) → Reads P g → Reads (AtMost P n) rest → (again : Bool) → Reads (AtMost P (suc n)) (more_others g rest again)
more_read P n g rest item next true = reads_bind item λ x p. reads_bind next λ xs m. reads_give (x ∷ xs) (record { all = All-cons P x xs p m.all; few = let le = m.few in omega arith })
more_read P n g rest item next false = reads_give [] (record { all = All-nil P; few = omega arith })

others_read : {A : Type 0} (P : A → Type 0) (g : Grammar Token A) → Reads P g → (n : ℕ) → Reads (AtMost P n) (others g n)
others_read P g item zero = reads_after λ x. reads_give [] (record { all = All-nil P; few = omega arith })
others_read P g item (suc n) = reads_after (more_read P n g (others g n) item (others_read P g item n))

item_read : (n : ℕ) → Reads (Fine n false) (literals n false) → (more : Bool) → Any more → Reads (Either (Fine n false) Any) (next_item (literals n false) more)
item_read n item true u = reads_bind item λ x is. reads_give (inl x) is
item_read n item false u = reads_give (inr tt) tt

array_read : (n : ℕ) (arrays : Bool) → (arrays ≡ false → ⊥) → ((c : LiteralFirst) → First false c → Reads (Fine n false) (literal_rest n c)) → Reads (Fine n false) (literals n false)
    → (c : LiteralFirst ⊎ Unit {0}) → Either (First false) Any c → Reads (Fine (suc n) arrays) (array_rest (literal_rest n) (literals n false) c)
array_read n arrays may rest item (inr u) k = reads_give (lit.Array []) (an_array n arrays [] may (All-nil (Fine n false)))
array_read n arrays may rest item (inl c) k =
    reads_bind (rest c k) λ x is.
    reads_bind (reads_loop Any (Fine n false) Any comma_or_bracket (next_item (literals n false)) (any_known comma_or_bracket) (item_read n item)) λ xs e.
    reads_give (lit.Array (x ∷ xs.0)) (an_array n arrays (x ∷ xs.0) may (All-cons (Fine n false) x xs.0 is e.all))

from_first : (n : ℕ) (arrays : Bool) → ((c : LiteralFirst) → First arrays c → Reads (Fine n arrays) (literal_rest n c)) → Reads (Fine n arrays) (literals n arrays)
from_first n arrays rest = reads_bind {Q = First arrays} (reads_take (first_known n arrays)) rest

rest_read : (n : ℕ) (arrays : Bool) (c : LiteralFirst) → First arrays c → Reads (Fine n arrays) (literal_rest n c)
unfolding literal_rest
rest_read zero arrays c k = nothing_read
rest_read (suc n) arrays (begin.Whole l) k = reads_give l (a_plain n arrays l k)
rest_read (suc n) arrays begin.Array k =
    reads_bind {Q = Either (First false) Any}
    (reads_take (either_known (First false) Any (literal_first n false) close_bracket (first_known n false) (any_known close_bracket)))
    (array_read n arrays k (rest_read n false) (from_first n false (rest_read n false)))
rest_read (suc n) arrays begin.Cluster k =
    let item = from_first n true (rest_read n true) in
    reads_bind item λ x is.
    reads_bind (others_read (Fine n true) (literals n true) item 63) λ xs m.
    let few = m.few in
    reads_give (lit.Cluster (x ∷ xs)) (a_cluster n arrays (x ∷ xs) (omega arith) (omega arith) (All-cons (Fine n true) x xs is m.all))

pub literal_read : Reads (IsLiteral 8) (literals 8 true)
literal_read = record { each = λ ts l rest good h. ((from_first 8 true (rest_read 8 true)).each ts l rest good h).0 }
