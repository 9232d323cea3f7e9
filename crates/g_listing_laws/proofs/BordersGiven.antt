-- The lines at a border that a listing has, and numbers within bounds.
use Rattle.std.proofs.Common.{◌≡◌, ℕ, ℤ, pos, negsuc, ◌≤◌, Bool, true, false, cond, ◌&&◌, List, Option, Some, None, refl, subst, arith, inl, inr, ◌⊎◌}
use Rattle.std.specs.Prelude.{nat_le}
use Rattle.std.proofs.lemmas.Bool.Decides.{nat_tests}
use Rattle.g_grammar.specs.Grammar.{or_else}
use Rattle.g_diagram.specs.declared.node.Tunnel.TheVariants as tunnel
use Rattle.g_tokens.specs.declared.token.Token.{Token}
use Rattle.g_tokens.specs.declared.token.Token.TheVariants as token
use Rattle.g_listing_grammar.specs.declared.Border.{Border}
use Rattle.g_listing_grammar.specs.declared.LineWord.{LineWord}
use Rattle.g_listing_grammar.specs.declared.LineWord.TheVariants as line
use Rattle.g_listing_grammar.specs.Words.{word, word_in, between, as_pos, field_number, queue_size, pool_size}
use Rattle.g_listing_grammar.specs.Borders.{Wire, register_rest, result_end, line_rest, line_or_end, lines_of, lines_to}
use Rattle.g_listing_laws.specs.Spelled.{IsQueueSize, IsLineSpelled}
use Rattle.g_listing_laws.proofs.Gives.{Gives, Either, Ended, gives_give, gives_take, gives_bind, gives_after, gives_loop}
use Rattle.g_listing_laws.proofs.TypesGiven.{type_given}

-- of what nothing is to be known
abbrev pub Whatever : {D : Type 0} → D → Type 0
Whatever d = Unit {0}

-- ---- numbers

some_is : {A : Type 0} {x y : A} → Some x ≡ Some y → x ≡ y
some_is e = cc

pub within : (low high n m : ℕ) → between low high n ≡ Some m → (low ≤ m) × (m ≤ high)
within low high n m e = go (nat_le low n && nat_le n high) refl e
  where
    above : (n : ℕ) → (nat_le low n && nat_le n high) ≡ true → low ≤ n
    above n h = grind (arith, nat_tests)

    below : (n : ℕ) → (nat_le low n && nat_le n high) ≡ true → n ≤ high
    below n h = grind (arith, nat_tests)

    go : (b : Bool) → (nat_le low n && nat_le n high) ≡ b → cond b (Some n) None ≡ Some m → (low ≤ m) × (m ≤ high)
    go true f g = subst (λ (k : ℕ). (low ≤ k) × (k ≤ high)) (some_is g) (above n f, below n f)
    go false f g = absurd cc

field_known : (t : Token) (k : ℕ) → field_number t ≡ Some k → k ≤ 63
field_known (token.Number (pos n)) k e = (within 0 63 n k e).1
field_known (token.Number (negsuc n)) k e = absurd cc
field_known (token.Word w) k e = absurd cc
field_known (token.Text v) k e = absurd cc
field_known (token.Mark m) k e = absurd cc
field_known token.Eol k e = absurd cc
field_known token.End k e = absurd cc
field_known token.Bad k e = absurd cc

pub pool_known : (t : Token) (n : ℕ) → pool_size t ≡ Some n → (1 ≤ n) × (n ≤ 64)
pool_known (token.Number (pos n)) k e = within 1 64 n k e
pool_known (token.Number (negsuc n)) k e = absurd cc
pool_known (token.Word w) k e = absurd cc
pool_known (token.Text v) k e = absurd cc
pool_known (token.Mark m) k e = absurd cc
pool_known token.Eol k e = absurd cc
pool_known token.End k e = absurd cc
pool_known token.Bad k e = absurd cc

size_known : (o : Option ℕ) (z : ℤ) → ((n : ℕ) → o ≡ Some n → (1 ≤ n) × (n ≤ 1000000)) → as_pos o ≡ Some z → IsQueueSize z
size_known None z h e = absurd cc
size_known (Some n) z h e = subst IsQueueSize (some_is e) (h n refl)

no_bound : (n : ℕ) (z : ℤ) → cond (nat_le n 0) (Some (negsuc 0)) None ≡ Some z → IsQueueSize z
no_bound n z e = go (nat_le n 0) e
  where
    go : (b : Bool) → cond b (Some (negsuc 0)) None ≡ Some z → IsQueueSize z
    go true f = subst IsQueueSize (some_is f) refl
    go false f = absurd cc

pub queue_known : (t : Token) (z : ℤ) → queue_size t ≡ Some z → IsQueueSize z
queue_known (token.Number (pos n)) z e = size_known (between 1 1000000 n) z (λ m f. within 1 1000000 n m f) e
queue_known (token.Number (negsuc n)) z e = no_bound n z e
queue_known (token.Word w) z e = absurd cc
queue_known (token.Text v) z e = absurd cc
queue_known (token.Mark m) z e = absurd cc
queue_known token.Eol z e = absurd cc
queue_known token.End z e = absurd cc
queue_known token.Bad z e = absurd cc

-- ---- lines

register_given : (w : Wire) → Gives IsLineSpelled (register_rest w)
register_given (Some n) = gives_after λ w. gives_give (tunnel.Register (Some n) w.0 w.1 w.2) tt
register_given None = gives_bind type_given λ t is. gives_after λ w. gives_give (tunnel.Kept t w.0 w.1 w.2) is

result_given : (w : Wire) (d : Bool) → Gives IsLineSpelled (result_end w d)
result_given w true = gives_after λ e. gives_give (tunnel.Result w true) tt
result_given w false = gives_give (tunnel.Result w false) tt

line_given : (l : LineWord) → Gives IsLineSpelled (line_rest l)
line_given line.Tunnel = gives_after λ w. gives_give (tunnel.Tunnel w.0 w.1) tt
line_given line.Register = gives_after register_given
line_given line.Last = gives_after λ w. gives_give (tunnel.Last w.0 w.1) tt
line_given line.Gather = gives_after λ w. gives_give (tunnel.Gather w.0 w.1) tt
line_given line.Index = gives_after λ w. gives_give (tunnel.Index w.0 w.1) tt
line_given line.Result = gives_after λ w. gives_after (result_given w)
line_given line.Carry = gives_after λ w. gives_give (tunnel.Carry w.0 w.1) tt
line_given line.Ref = gives_after λ r. gives_after λ w. gives_after λ x. gives_after λ same. gives_after λ code. gives_give (tunnel.Ref r w.0 w.1 same code) tt
line_given line.Element = gives_after λ a. gives_after λ i. gives_after λ w. gives_give (tunnel.Element a i w.0 w.1 w.2) tt
line_given line.Field = gives_bind {Q = λ k. k ≤ 63} (gives_take field_known) λ k le. gives_after λ c. gives_after λ w. gives_give (tunnel.Field k c w.0 w.1 w.2) le

or_end_given : {D : Type 0} (c : LineWord ⊎ D) → Gives (Either IsLineSpelled (Whatever {D = D})) (line_or_end c)
or_end_given (inl w) = gives_bind (line_given w) λ l is. gives_give (inl l) is
or_end_given (inr d) = gives_give (inr d) tt

pub lines_given : (b : Border) (stop : List ℕ) → Gives (Ended IsLineSpelled Whatever) (lines_to b stop)
lines_given b stop = gives_loop IsLineSpelled Whatever (or_else (word_in (lines_of b)) (word stop)) line_or_end or_end_given
