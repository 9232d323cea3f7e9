-- Tokens that have names, wires, numbers and operands.
use Rattle.std.proofs.Common.{◌≡◌, ℕ, zero, suc, ℤ, pos, negsuc, ◌≤◌, true, false, ◌&&◌, List, [], ◌∷◌, length, get_or, Option, Some, None, refl, ap, sym, subst, arith, inl, inr}
use Rattle.std.specs.Prelude.{nat_le}
use Rattle.std.specs.List.{All, list_all}
use Rattle.std.proofs.lemmas.Bool.{and_parts, lt-ltb}
use Rattle.std.proofs.lemmas.Bool.Decides.{nat_tests}
use Rattle.std.proofs.lemmas.List.Elements.{All-head, All-tail}
use Rattle.g_grammar.specs.Grammar.{take, or_else, exactly}
use Rattle.g_types.specs.Names.{is_letter, is_word_byte}
use Rattle.g_tokens.specs.declared.token.Token.{Token}
use Rattle.g_tokens.specs.declared.token.Token.TheVariants as token
use Rattle.g_tokens.specs.declared.token.Mark.{Mark}
use Rattle.g_tokens.specs.declared.token.Mark.TheVariants as mark
use Rattle.g_diagram.specs.Lines.{Wire}
use Rattle.g_listing_grammar.specs.Words.{name, text, wire, eol, arrow, number, between, as_pos, field_number, queue_size, arrow_or_eol}
use Rattle.g_listing_grammar.specs.Types.{is_above}
use Rattle.g_listing_grammar.specs.Borders.{item_or_end, wires_to, operands, last_wire, to_wire, across, turned, through}
use Rattle.g_listing_laws.specs.Spelled.{IsQueueSize}
use Rattle.g_print_laws.specs.Bytes.{IsBytes}
use Rattle.g_print_laws.proofs.Lexing.{IsWord}
use Rattle.g_print_laws.proofs.Parts.{IsGood}
use Rattle.g_listing_listable.specs.Listable.{IsName, IsWire, IsNumeral, IsElement, AreOperands}
use Rattle.g_listing_listable.proofs.MakePhrases.{Makes, Begins, makes_give, makes_take, makes_bind, makes_loop, first_one}

-- ---- one token

pub word_is : (w : List ℕ) → IsName w → IsWord w
word_is [] is = absurd cc
word_is (b ∷ w) is =
    let p = and_parts (is_letter b) (nat_le (length (b ∷ w)) 64 && list_all is_word_byte (b ∷ w)) is in
    let q = and_parts (nat_le (length (b ∷ w)) 64) (list_all is_word_byte (b ∷ w)) p.1 in
    record { letter = p.0; all = q.1; short = short (length (b ∷ w)) q.0 }
  where
    short : (n : ℕ) → nat_le n 64 ≡ true → n ≤ 64
    short n h = grind (arith, nat_tests)

pub makes_word : {A : Type 0} {p : Token → Option A} (w : List ℕ) (a : A) → IsName w → p (token.Word w) ≡ Some a → Makes (take p) a
makes_word w a is e = makes_take (token.Word w) a (word_is w is) e

pub makes_mark : {A : Type 0} {p : Token → Option A} (m : Mark) (a : A) → p (token.Mark m) ≡ Some a → Makes (take p) a
makes_mark m a e = makes_take (token.Mark m) a tt e

pub makes_name : (w : List ℕ) → IsName w → Makes (take name) w
makes_name w is = makes_word w w is refl

pub makes_text : (v : List ℕ) → IsBytes v → Makes (take text) v
makes_text v is = makes_take (token.Text v) v is refl

pub makes_number : (z : ℤ) → IsNumeral z → Makes (take number) z
makes_number z is = makes_take (token.Number z) z is refl

pub makes_eol : Makes (take eol) tt
makes_eol = makes_take token.Eol tt tt refl

pub between_is : (low high n : ℕ) → low ≤ n → n ≤ high → between low high n ≡ Some n
between_is low high n h k = rw (both low high n h k) refl
  where
    both : (low high n : ℕ) → low ≤ n → n ≤ high → (nat_le low n && nat_le n high) ≡ true
    both low high n h k = grind (arith, nat_tests)

pub makes_element : (k : ℕ) → IsElement k → Makes (take field_number) k
makes_element k is = makes_take (token.Number (pos k)) k (let le : k ≤ 63 = is in omega arith) (between_is 0 63 k (omega arith) is)

pub makes_size : (z : ℤ) → IsQueueSize z → Makes (take queue_size) z
makes_size (pos n) is = makes_take (token.Number (pos n)) (pos n) (let few : n ≤ 1000000 = is.1 in omega arith) (ap as_pos (between_is 1 1000000 n is.0 is.1))
makes_size (negsuc n) is = subst (λ (k : ℕ). Makes (take queue_size) (negsuc k)) (sym is) (makes_take (token.Number (negsuc 0)) (negsuc 0) (omega arith) refl)

pub above : (n : ℕ) → 1 ≤ n → is_above n ≡ true
above n h = lt-ltb 0 n (omega arith)

-- the token of a wire
pub begins_wire : (w : Wire) → IsWire w → (t : Token) × IsGood t × (wire t ≡ Some w)
begins_wire None is = (token.Mark mark.Unwired, tt, refl)
begins_wire (Some n) is = (token.Word n, word_is n is, refl)

pub makes_wire : (w : Wire) → IsWire w → Makes (take wire) w
makes_wire w is = let t = begins_wire w is in makes_take t.0 w t.1 t.2

-- ---- operands

pub makes_last_wire : (w : Wire) → IsWire w → Makes last_wire w
makes_last_wire w is = makes_bind (makes_wire w is) (makes_bind makes_eol (makes_give w))

pub makes_arrow : Makes (take arrow) tt
makes_arrow = makes_mark mark.Arrow tt refl

pub makes_to_wire : (w : Wire) → IsWire w → Makes to_wire w
makes_to_wire w is = makes_bind makes_arrow (makes_last_wire w is)

pub makes_across : (i o : Wire) → IsWire i → IsWire o → Makes across (i, o)
makes_across i o is so = makes_bind (makes_wire i is) (makes_bind (makes_to_wire o so) (makes_give (i, o)))

pub makes_turned : (o i : Wire) → IsWire o → IsWire i → Makes turned (o, i)
makes_turned o i is so = makes_bind makes_arrow (makes_bind (makes_wire o is) (makes_bind (makes_mark mark.Bar tt refl) (makes_bind (makes_wire i so) (makes_give (o, i)))))

pub makes_through : (o i z : Wire) → IsWire o → IsWire i → IsWire z → Makes through (o, i, z)
makes_through o i z is so also = makes_bind (makes_turned o i is so) (makes_bind (makes_to_wire z also) (makes_give (o, i, z)))

-- wires up to a token that ends them
pub makes_wires : {D : Type 0} {q : Token → Option D} (ws : List Wire) (d : D) → All IsWire ws → Begins (or_else wire q) item_or_end (inr d) → Makes (wires_to q) (ws, d)
makes_wires {D} {q} ws d all end = makes_loop ws d (λ k x lt. turn (get_or ws k x) (all k x lt)) end
  where
    turn : (w : Wire) → IsWire w → Begins (or_else wire q) item_or_end (inl w)
    turn w is = let t = begins_wire w is in record { token = t.0; good = t.1; first = inl w; is = first_one wire q t.0 w t.2; rest = makes_give (inl w) }

makes_outputs : (outs : List Wire) → All IsWire outs → (ins : List Wire) → All IsWire ins → Makes operands (ins, outs)
makes_outputs [] all ins ok = makes_bind (makes_wires {q = arrow_or_eol} ins false ok (record { token = token.Eol; good = tt; first = inr false; is = refl; rest = makes_give (inr false) })) (makes_bind (makes_give []) (makes_give (ins, [])))
makes_outputs (o ∷ os) all ins ok =
    let is = All-head IsWire o os all in
    let rest = makes_wires {q = eol} os tt (All-tail IsWire o os all) (record { token = token.Eol; good = tt; first = inr tt; is = refl; rest = makes_give (inr tt) }) in
    makes_bind (makes_wires {q = arrow_or_eol} ins true ok (record { token = token.Mark mark.Arrow; good = tt; first = inr true; is = refl; rest = makes_give (inr true) }))
    (makes_bind (makes_bind (makes_wire o is) (makes_bind rest (makes_give (o ∷ os)))) (makes_give (ins, o ∷ os)))

pub makes_operands : (ins outs : List Wire) → AreOperands ins outs → Makes operands (ins, outs)
makes_operands ins outs are = makes_outputs outs are.1 ins are.0

pub makes_exactly : (n : ℕ) (ws : List Wire) → length ws ≡ n → All IsWire ws → Makes (exactly n (take wire)) ws
makes_exactly zero [] e all = makes_give []
makes_exactly zero (w ∷ ws) e all = absurd (omega arith)
makes_exactly (suc n) [] e all = absurd (omega arith)
makes_exactly (suc n) (w ∷ ws) e all = makes_bind (makes_wire w (All-head IsWire w ws all)) (makes_bind (makes_exactly n ws (omega arith) (All-tail IsWire w ws all)) (makes_give (w ∷ ws)))
