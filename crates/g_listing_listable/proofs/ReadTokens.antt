-- Names, wires and numbers that good tokens have.
use Rattle.std.proofs.Common.{◌≡◌, ℕ, ℤ, pos, negsuc, ◌≤◌, Bool, true, false, ◌&&◌, List, [], ◌∷◌, length, zero, suc, Option, Some, refl, ap, subst, arith, inl, inr, ◌⊎◌}
use Rattle.std.specs.Prelude.{nat_le}
use Rattle.std.specs.List.{All, list_all}
use Rattle.std.proofs.lemmas.Bool.Decides.{nat_tests}
use Rattle.std.proofs.lemmas.List.Elements.{All-nil, All-cons}
use Rattle.g_grammar.specs.Grammar.{take, or_else, exactly}
use Rattle.g_grammar.proofs.Live.{either_left, either_right}
use Rattle.g_types.specs.Names.{is_letter, is_word_byte}
use Rattle.g_tokens.specs.declared.token.Token.{Token}
use Rattle.g_tokens.specs.declared.token.Token.TheVariants as token
use Rattle.g_tokens.specs.declared.token.Mark.TheVariants as mark
use Rattle.g_diagram.specs.Lines.{Wire}
use Rattle.g_listing_words.specs.Operations.{lookup}
use Rattle.g_listing_grammar.specs.Words.{word_in, name, text, wire, eol, number, field_number, arrow_or_eol}
use Rattle.g_listing_grammar.specs.Borders.{item_or_end, wires_to, outputs, operands, last_wire, to_wire, across, turned, through}
use Rattle.g_listing_laws.proofs.Gives.{Either, Ended}
use Rattle.g_listing_laws.proofs.BordersGiven.{within}
use Rattle.g_print_laws.specs.Bytes.{IsBytes}
use Rattle.g_print_laws.proofs.Lexing.{IsWord}
use Rattle.g_print_laws.proofs.Parts.{IsGood, some_is}
use Rattle.g_listing_listable.specs.Listable.{IsName, IsWire, IsNumeral, IsElement, AreOperands}
use Rattle.g_listing_listable.proofs.ReadPhrases.{Reads, Any, reads_give, reads_take, reads_bind, reads_after, reads_loop}

-- ---- one token

word_parts : (a b c : Bool) → a ≡ true → b ≡ true → c ≡ true → (a && (b && c)) ≡ true
word_parts a b c e f g = rw (e, f, g) refl

pub name_is : (w : List ℕ) → IsWord w → IsName w
name_is [] g = absurd (let l = g.letter in cc)
name_is (b ∷ w) g = word_parts (is_letter b) (nat_le (length (b ∷ w)) 64) (list_all is_word_byte (b ∷ w)) g.letter (short (length (b ∷ w)) g.short) g.all
  where
    short : (n : ℕ) → n ≤ 64 → nat_le n 64 ≡ true
    short n h = grind (arith, nat_tests)

name_known : (t : Token) (n : List ℕ) → IsGood t → name t ≡ Some n → IsName n
name_known (token.Word w) n g e = subst IsName (some_is e) (name_is w g)
name_known (token.Mark m) n g e = absurd cc
name_known (token.Number z) n g e = absurd cc
name_known (token.Text v) n g e = absurd cc
name_known token.Eol n g e = absurd cc
name_known token.End n g e = absurd cc
name_known token.Bad n g e = absurd cc

wire_known : (t : Token) (w : Wire) → IsGood t → wire t ≡ Some w → IsWire w
wire_known (token.Word u) w g e = subst IsWire (some_is e) (name_is u g)
wire_known (token.Mark mark.Unwired) w g e = subst IsWire (some_is e) tt
wire_known (token.Mark m) w g e = absurd cc
wire_known (token.Number z) w g e = absurd cc
wire_known (token.Text v) w g e = absurd cc
wire_known token.Eol w g e = absurd cc
wire_known token.End w g e = absurd cc
wire_known token.Bad w g e = absurd cc

text_known : (t : Token) (v : List ℕ) → IsGood t → text t ≡ Some v → IsBytes v
text_known (token.Text u) v g e = subst IsBytes (some_is e) g
text_known (token.Word u) v g e = absurd cc
text_known (token.Mark m) v g e = absurd cc
text_known (token.Number z) v g e = absurd cc
text_known token.Eol v g e = absurd cc
text_known token.End v g e = absurd cc
text_known token.Bad v g e = absurd cc

number_known : (t : Token) (z : ℤ) → IsGood t → number t ≡ Some z → IsNumeral z
number_known (token.Number n) z g e = subst IsNumeral (some_is e) g
number_known (token.Text u) z g e = absurd cc
number_known (token.Word u) z g e = absurd cc
number_known (token.Mark m) z g e = absurd cc
number_known token.Eol z g e = absurd cc
number_known token.End z g e = absurd cc
number_known token.Bad z g e = absurd cc

field_known : (t : Token) (k : ℕ) → IsGood t → field_number t ≡ Some k → IsElement k
field_known (token.Number (pos n)) k g e = (within 0 63 n k e).1
field_known (token.Number (negsuc n)) k g e = absurd cc
field_known (token.Text u) k g e = absurd cc
field_known (token.Word u) k g e = absurd cc
field_known (token.Mark m) k g e = absurd cc
field_known token.Eol k g e = absurd cc
field_known token.End k g e = absurd cc
field_known token.Bad k g e = absurd cc

-- a word of a table
pub row_known : {A : Type 0} (P : A → Type 0) (rows : List (List ℕ × A)) → ((u : List ℕ) (x : A) → lookup rows u ≡ Some x → P x) → (t : Token) (x : A) → IsGood t → word_in rows t ≡ Some x → P x
row_known P rows known (token.Word u) x g e = known u x e
row_known P rows known (token.Mark m) x g e = absurd cc
row_known P rows known (token.Number z) x g e = absurd cc
row_known P rows known (token.Text v) x g e = absurd cc
row_known P rows known token.Eol x g e = absurd cc
row_known P rows known token.End x g e = absurd cc
row_known P rows known token.Bad x g e = absurd cc

pub name_read : Reads IsName (take name)
name_read = reads_take name_known

pub wire_read : Reads IsWire (take wire)
wire_read = reads_take wire_known

pub text_read : Reads IsBytes (take text)
text_read = reads_take text_known

pub number_read : Reads IsNumeral (take number)
number_read = reads_take number_known

pub field_read : Reads IsElement (take field_number)
field_read = reads_take field_known

-- ---- operands

pub last_wire_read : Reads IsWire last_wire
last_wire_read = reads_bind wire_read λ o is. reads_after λ e. reads_give o is

pub to_wire_read : Reads IsWire to_wire
to_wire_read = reads_after λ x. last_wire_read

abbrev pub AreTwo : Wire × Wire → Type 0
AreTwo w = IsWire w.0 × IsWire w.1

pub across_read : Reads AreTwo across
across_read = reads_bind wire_read λ i is. reads_bind to_wire_read λ o also. reads_give (i, o) (is, also)

pub turned_read : Reads AreTwo turned
turned_read = reads_after λ x. reads_bind wire_read λ o is. reads_after λ y. reads_bind wire_read λ i also. reads_give (o, i) (is, also)

abbrev pub AreThree : Wire × Wire × Wire → Type 0
AreThree w = IsWire w.0 × IsWire w.1 × IsWire w.2

pub through_read : Reads AreThree through
through_read = reads_bind turned_read λ w is. reads_bind to_wire_read λ o also. reads_give (w.0, w.1, o) (is.0, is.1, also)

-- the first of two that one of two tests finds
pub either_known : {A B : Type 0} (P : A → Type 0) (Q : B → Type 0) (p : Token → Option A) (q : Token → Option B)
    → ((t : Token) (a : A) → IsGood t → p t ≡ Some a → P a) → ((t : Token) (b : B) → IsGood t → q t ≡ Some b → Q b)
    → (t : Token) (c : A ⊎ B) → IsGood t → or_else p q t ≡ Some c → Either P Q c
either_known P Q p q one two t (inl a) g e = one t a g (either_left (p t) (q t) a e)
either_known P Q p q one two t (inr b) g e = two t b g (either_right (p t) (q t) b e)

pub any_known : {A : Type 0} (p : Token → Option A) (t : Token) (a : A) → IsGood t → p t ≡ Some a → Any a
any_known p t a g e = tt

pub wires_read : {D : Type 0} (q : Token → Option D) → Reads (Ended IsWire Any) (wires_to q)
wires_read {D} q = reads_loop (Either IsWire Any) IsWire Any (or_else wire q) item_or_end (either_known IsWire Any wire q wire_known (any_known q)) turn
  where
    turn : (c : Wire ⊎ D) → Either IsWire Any c → Reads (Either IsWire Any) (item_or_end c)
    turn (inl w) is = reads_give (inl w) is
    turn (inr d) is = reads_give (inr d) tt

outputs_read : (arrowed : Bool) → Reads (All IsWire) (outputs arrowed)
outputs_read true = reads_bind wire_read λ o is. reads_bind (wires_read eol) λ os e. reads_give (o ∷ os.0) (All-cons IsWire o os.0 is e.all)
outputs_read false = reads_give [] (All-nil IsWire)

abbrev pub HasTwo : List Wire × List Wire → Type 0
HasTwo w = AreOperands w.0 w.1

pub operands_read : Reads HasTwo operands
operands_read = reads_bind (wires_read arrow_or_eol) λ ins e. reads_bind (outputs_read ins.1) λ outs is. reads_give (ins.0, outs) (e.all, is)

abbrev pub AreSo : ℕ → List Wire → Type 0
AreSo n ws = (length ws ≡ n) × All IsWire ws

pub exactly_read : (n : ℕ) → Reads (AreSo n) (exactly n (take wire))
exactly_read zero = reads_give [] (refl, All-nil IsWire)
exactly_read (suc n) = reads_bind wire_read λ x is. reads_bind (exactly_read n) λ xs e. reads_give (x ∷ xs) (ap suc e.0, All-cons IsWire x xs is e.1)
