-- The canonical text of what can be listed is bytes: names, numbers, texts, types, literals and lines of borders.
use Rattle.std.proofs.Common.{◌≡◌, ◌≤◌, ◌<◌, ◌^◌, ◌+◌, ◌/◌, ◌%◌, ℕ, zero, suc, ℤ, pos, negsuc, Bool, true, false, ◌&&◌, ◌||◌, cond, List, [], ◌∷◌, ◌++◌, map, get_or, Some, None, refl, sym, ◌∙◌, subst, arith, codes}
use Rattle.std.specs.Prelude.{nat_lt, ◌==◌}
use Rattle.std.specs.Fmt.{decimal, signed_decimal}
use Rattle.std.specs.List.{All, list_all}
use Rattle.std.proofs.lemmas.Bool.{and_parts, lt-ltb}
use Rattle.std.proofs.lemmas.Bool.Decides.{nat_tests}
use Rattle.std.proofs.lemmas.Fmt.{decimal_by_steps_wide}
use Rattle.std.proofs.lemmas.List.Elements.{All-head, All-tail}
use Rattle.std.proofs.lemmas.List.Folds.{list_all-append}
use Rattle.g_types.specs.Names.{is_word_byte}
use Rattle.g_types.specs.Ty as types
use Rattle.g_types.specs.declared.ty.Ty.{Ty}
use Rattle.g_types.specs.declared.ty.Ty.TheOpen.{Ty-F}
use Rattle.g_types.specs.declared.ty.Ty.TheFolds.{map-Ty, fold-roll-Ty, ind-Ty}
use Rattle.g_types.specs.declared.ty.Ty.TheViews.{roll-Ty}
use Rattle.g_values.specs.Text.{hex_digit, byte_text, bytes_text}
use Rattle.g_diagram.specs.declared.panel.Lit.{Lit}
use Rattle.g_diagram.specs.declared.panel.Lit.TheOpen.{Lit-F}
use Rattle.g_diagram.specs.declared.panel.Lit.TheVariants as lit
use Rattle.g_diagram.specs.declared.panel.Lit.TheViews.{out-Lit, roll-Lit, roll-out-Lit}
use Rattle.g_diagram.specs.declared.node.Selector.{Selector}
use Rattle.g_diagram.specs.declared.node.Selector.TheVariants as selector
use Rattle.g_diagram.specs.declared.node.Tunnel.{Tunnel}
use Rattle.g_diagram.specs.declared.node.Tunnel.TheVariants as line
use Rattle.g_diagram.specs.Lines.{Wire}
use Rattle.g_diagram.specs.Text as text
use Rattle.g_listing_grammar.specs.declared.Border.{Border}
use Rattle.g_print_laws.specs.Bytes.{IsBytes}
use Rattle.g_print_laws.proofs.Lexing.{both}
use Rattle.g_print_laws.proofs.TextLemmas.{literal-Number, literal-Truth, literal-Text, literal-Null, literal-Array, literal-Cluster}
use Rattle.g_print_laws.proofs.TextPieces.{is_byte}
use Rattle.g_listing_listable.specs.Listable.{IsName, IsWire, IsNumeral, AreOperands, IsLiteralAt, IsLiteral, IsWired, HasOperands, IsLine, IsSelector}
use Rattle.g_listing_listable.proofs.MakeTokens.{word_is}
use Rattle.g_listing_listable.proofs.MakeTypes.{rep_written}

-- a spelling that writes bytes in front of bytes
abbrev pub Keeps : (List ℕ → List ℕ) → Type 0
Keeps s = (rest : List ℕ) → IsBytes rest → IsBytes (s rest)

pub front : (v rest : List ℕ) → IsBytes v → IsBytes rest → IsBytes (v ++ rest)
front v rest h k = list_all-append is_byte v rest ∙ both (list_all is_byte v) (list_all is_byte rest) h k

one_byte : (b : ℕ) → b < 256 → IsBytes (b ∷ [])
one_byte b h = both (is_byte b) true (lt-ltb b 256 h) refl

-- ---- names, numbers and texts

word_bytes : (w : List ℕ) → list_all is_word_byte w ≡ true → IsBytes w
word_bytes [] h = refl
word_bytes (b ∷ w) h =
    let q = and_parts (is_word_byte b) (list_all is_word_byte w) h in
    both (is_byte b) (list_all is_byte w) (below b q.0) (word_bytes w q.1)
  where
    below : (b : ℕ) → is_word_byte b ≡ true → is_byte b ≡ true
    below b h = grind (arith, nat_tests)

pub name_bytes : (w : List ℕ) → IsName w → IsBytes w
name_bytes w is = word_bytes w (word_is w is).all

pub decimal_bytes : (n : ℕ) → n < 10 ^ 64 → IsBytes (decimal n)
decimal_bytes =
    decimal_by_steps_wide (λ n ds. IsBytes ds) (λ n h. one_byte (48 + n) (omega arith)) (λ n ds h is. front ds ((48 + n % 10) ∷ []) is (one_byte (48 + n % 10) (omega arith)))

pub number_bytes : (z : ℤ) → IsNumeral z → IsBytes (signed_decimal z)
number_bytes (pos n) h = decimal_bytes n (omega arith)
number_bytes (negsuc n) h = decimal_bytes (suc n) (omega arith)

hex_below : (d : ℕ) → d < 16 → hex_digit d < 256
hex_below d h = go (nat_lt d 10)
  where
    go : (b : Bool) → cond b (48 + d) (55 + d) < 256
    go true = omega arith
    go false = omega arith

byte_bytes : (b : ℕ) → is_byte b ≡ true → IsBytes (byte_text b)
byte_bytes b h = go ((b == 34) || (b == 92)) (nat_lt 31 b && nat_lt b 127)
  where
    below : (b : ℕ) → is_byte b ≡ true → b < 256
    below b h = grind (arith, nat_tests)

    go : (p q : Bool) → IsBytes (cond p (92 ∷ b ∷ []) (cond q (b ∷ []) (92 ∷ 120 ∷ hex_digit (b / 16) ∷ hex_digit (b % 16) ∷ [])))
    go true q = one_byte b (below b h)
    go false true = one_byte b (below b h)
    go false false =
        let lt = below b h in
        front (hex_digit (b / 16) ∷ []) (hex_digit (b % 16) ∷ []) (one_byte (hex_digit (b / 16)) (hex_below (b / 16) (omega arith))) (one_byte (hex_digit (b % 16)) (hex_below (b % 16) (omega arith)))

characters_bytes : (v : List ℕ) → IsBytes v → IsBytes (bytes_text v)
characters_bytes [] h = refl
characters_bytes (b ∷ v) h =
    let q = and_parts (is_byte b) (list_all is_byte v) h in
    front (byte_text b) (bytes_text v) (byte_bytes b q.0) (characters_bytes v q.1)

pub quoted_keeps : (v : List ℕ) → IsBytes v → Keeps (text.quoted v)
quoted_keeps v is rest h = front (bytes_text v ++ 34 ∷ []) rest (front (bytes_text v) (34 ∷ []) (characters_bytes v is) refl) h

-- ---- types

abbrev Told : Type 0
Told = (t : Ty) × IsBytes (types.text t)

abbrev texts : List Told → List (List ℕ)
texts ps = map types.text (map (λ (p : Told). p.0) ps)

after_bytes : (ps : List Told) → IsBytes (types.after (texts ps))
after_bytes [] = refl
after_bytes (p ∷ ps) = front (types.text p.0) (types.after (texts ps)) p.1 (after_bytes ps)

joined_bytes : (ps : List Told) → IsBytes (types.joined (texts ps))
joined_bytes [] = refl
joined_bytes (p ∷ ps) = front (types.text p.0) (types.after (texts ps)) p.1 (after_bytes ps)

told : (y : Ty-F Told) → IsBytes (types.text (roll-Ty (map-Ty Told Ty (λ p. p.0) y)))
told (Ty-F.Num r) = subst IsBytes (sym (fold-roll-Ty (List ℕ) types.text_step (Ty-F.Num r))) (name_bytes (types.rep_text r) (rep_written r).0)
told Ty-F.Bool = subst IsBytes (sym (fold-roll-Ty (List ℕ) types.text_step Ty-F.Bool)) refl
told Ty-F.Str = subst IsBytes (sym (fold-roll-Ty (List ℕ) types.text_step Ty-F.Str)) refl
told (Ty-F.Arr p) = subst IsBytes (sym (fold-roll-Ty (List ℕ) types.text_step (Ty-F.Arr p.0))) (front (types.text p.0) (93 ∷ []) p.1 refl)
told (Ty-F.Cluster ps) =
    subst IsBytes (sym (fold-roll-Ty (List ℕ) types.text_step (Ty-F.Cluster (map (λ (p : Told). p.0) ps)))) (front (types.joined (texts ps)) (125 ∷ []) (joined_bytes ps) refl)
told (Ty-F.QueueRef p) = subst IsBytes (sym (fold-roll-Ty (List ℕ) types.text_step (Ty-F.QueueRef p.0))) (front (types.text p.0) (41 ∷ []) p.1 refl)
told (Ty-F.ValueRef p) = subst IsBytes (sym (fold-roll-Ty (List ℕ) types.text_step (Ty-F.ValueRef p.0))) (front (types.text p.0) (41 ∷ []) p.1 refl)

pub ty_bytes : (t : Ty) → IsBytes (types.text t)
ty_bytes = ind-Ty (λ t. IsBytes (types.text t)) (λ x y is. subst (λ l. IsBytes (types.text (roll-Ty l))) is (told y))

-- ---- lists with commas

after_keeps : {A : Type 0} (s : A → List ℕ → List ℕ) (xs : List A) → All (λ x. Keeps (s x)) xs → Keeps (text.after_comma (map s xs))
after_keeps s [] all rest h = h
after_keeps s (x ∷ xs) all rest h =
    All-head (λ x. Keeps (s x)) x xs all (text.after_comma (map s xs) rest) (after_keeps s xs (All-tail (λ x. Keeps (s x)) x xs all) rest h)

pub listed_keeps : {A : Type 0} (s : A → List ℕ → List ℕ) (xs : List A) → All (λ x. Keeps (s x)) xs → Keeps (text.listed (map s xs))
listed_keeps s [] all rest h = h
listed_keeps s (x ∷ xs) all rest h =
    All-head (λ x. Keeps (s x)) x xs all (text.after_comma (map s xs) rest) (after_keeps s xs (All-tail (λ x. Keeps (s x)) x xs all) rest h)

-- ---- literals

abbrev LiteralKeeps : Lit → Type 0
LiteralKeeps l = Keeps (text.literal l)

level_keeps : (n : ℕ) → ((l : Lit) → IsLiteral n l → LiteralKeeps l) → (x : Lit-F Lit) → IsLiteralAt (IsLiteral n) x → LiteralKeeps (roll-Lit x)
level_keeps n inside (Lit-F.Number k) is = subst LiteralKeeps (sym (lit.rolls-Number k)) (λ rest h. subst IsBytes (sym (literal-Number k rest)) (front (signed_decimal k) rest (number_bytes k is) h))
level_keeps n inside (Lit-F.Truth true) is = subst LiteralKeeps (sym (lit.rolls-Truth true)) (λ rest h. subst IsBytes (sym (literal-Truth true rest)) h)
level_keeps n inside (Lit-F.Truth false) is = subst LiteralKeeps (sym (lit.rolls-Truth false)) (λ rest h. subst IsBytes (sym (literal-Truth false rest)) h)
level_keeps n inside (Lit-F.Text v) is = subst LiteralKeeps (sym (lit.rolls-Text v)) (λ rest h. subst IsBytes (sym (literal-Text v rest)) (quoted_keeps v is rest h))
level_keeps n inside Lit-F.Null is = subst LiteralKeeps (sym lit.rolls-Null) (λ rest h. subst IsBytes (sym (literal-Null rest)) h)
level_keeps n inside (Lit-F.Array items) is =
    subst LiteralKeeps (sym (lit.rolls-Array items))
    (λ rest h. subst IsBytes (sym (literal-Array items rest)) (listed_keeps text.literal items (λ k d lt. inside (get_or items k d) (is k d lt).0) (93 ∷ rest) h))
level_keeps n inside (Lit-F.Cluster items) is =
    subst LiteralKeeps (sym (lit.rolls-Cluster items))
    (λ rest h. subst IsBytes (sym (literal-Cluster items rest)) (listed_keeps text.literal items (λ k d lt. inside (get_or items k d) (is.2 k d lt)) (125 ∷ rest) h))

pub literal_keeps : (n : ℕ) (l : Lit) → IsLiteral n l → LiteralKeeps l
unfolding IsLiteral
literal_keeps zero l is = absurd is
literal_keeps (suc n) l is = subst LiteralKeeps (roll-out-Lit l) (level_keeps n (literal_keeps n) (out-Lit l) is)

-- ---- operands

pub wire_keeps : (w : Wire) → IsWire w → Keeps (text.wire w)
wire_keeps None is rest h = h
wire_keeps (Some n) is rest h = front n rest (name_bytes n is) h

pub wires_keeps : (ws : List Wire) → All IsWire ws → Keeps (text.wires ws)
wires_keeps [] all rest h = h
wires_keeps (w ∷ ws) all rest h = wire_keeps w (All-head IsWire w ws all) (text.wires ws rest) (wires_keeps ws (All-tail IsWire w ws all) rest h)

outputs_keeps : (ws : List Wire) → All IsWire ws → Keeps (text.outputs ws)
outputs_keeps [] all rest h = h
outputs_keeps (w ∷ ws) all rest h = wires_keeps (w ∷ ws) all rest h

pub operands_keeps : (ins outs : List Wire) → AreOperands ins outs → Keeps (text.operands ins outs)
operands_keeps ins outs are rest h = wires_keeps ins are.0 (text.outputs outs rest) (outputs_keeps outs are.1 rest h)

pub across_keeps : (a b : Wire) → IsWire a → IsWire b → Keeps (text.across a b)
across_keeps a b is so rest h = wire_keeps a is (text.arrow (text.wire b rest)) (wire_keeps b so rest h)

-- a wire, and then what goes back
through_keeps : (a b c : Wire) → IsWire a → IsWire b → IsWire c → (rest : List ℕ) → IsBytes rest → IsBytes (text.wire a (text.back b c rest))
through_keeps a b c is so also rest h = wire_keeps a is (text.back b c rest) (across_keeps b c so also rest h)

-- ---- lines

indent_keeps : (depth : ℕ) → Keeps (text.indent depth)
indent_keeps zero rest h = h
indent_keeps (suc depth) rest h = indent_keeps depth rest h

pub line_keeps : (depth : ℕ) (head : List ℕ) (tail : List ℕ → List ℕ) → IsBytes head → Keeps tail → Keeps (text.line_from depth head tail)
line_keeps depth head tail is k rest h = indent_keeps depth (head ++ tail (10 ∷ rest)) (front head (tail (10 ∷ rest)) is (k (10 ∷ rest) h))

pub bare_keeps : (depth : ℕ) (head : List ℕ) → IsBytes head → Keeps (text.bare_line depth head)
bare_keeps depth head is rest h = indent_keeps depth (head ++ 10 ∷ rest) (front head (10 ∷ rest) is h)

border_bytes : (l : Tunnel) → IsBytes (text.border_word l)
border_bytes (line.Tunnel a b) = refl
border_bytes (line.Register i a b c) = refl
border_bytes (line.Kept t a b c) = refl
border_bytes (line.Last a b) = refl
border_bytes (line.Gather a b) = refl
border_bytes (line.Index a b) = refl
border_bytes (line.Result w default) = refl
border_bytes (line.Carry a b) = refl
border_bytes (line.Ref r a b same code) = refl
border_bytes (line.Element x i a b c) = refl
border_bytes (line.Field k x a b c) = refl

wired : (w : Wire) → IsWired w → IsWire w
wired None is = absurd is
wired (Some n) is = is

border_keeps : (l : Tunnel) → HasOperands l → Keeps (text.border_operands l)
border_keeps (line.Tunnel a b) is rest h = across_keeps a b is.0 is.1 rest h
border_keeps (line.Register i a b c) is rest h = wire_keeps i (wired i is.0) (text.arrow (text.wire a (text.back b c rest))) (through_keeps a b c is.1 is.2 is.3 rest h)
border_keeps (line.Kept t a b c) is rest h = front (types.text t) (text.arrow (text.wire a (text.back b c rest))) (ty_bytes t) (through_keeps a b c is.1 is.2 is.3 rest h)
border_keeps (line.Last a b) is rest h = across_keeps a b is.0 is.1 rest h
border_keeps (line.Gather a b) is rest h = across_keeps a b is.0 is.1 rest h
border_keeps (line.Index a b) is rest h = across_keeps a b is.0 is.1 rest h
border_keeps (line.Result w true) is rest h = wire_keeps w is (text.word (codes "default") rest) h
border_keeps (line.Result w false) is rest h = wire_keeps w is rest h
border_keeps (line.Carry a b) is rest h = across_keeps a b is.0 is.1 rest h
border_keeps (line.Ref r a b same code) is rest h =
    across_keeps r a is.0 is.1 (text.back b same (text.wire code rest)) (across_keeps b same is.2 is.3 (text.wire code rest) (wire_keeps code is.4 rest h))
border_keeps (line.Element x i a b c) is rest h =
    wire_keeps x is.0 (text.across i a (text.back b c rest)) (across_keeps i a is.1 is.2 (text.back b c rest) (across_keeps b c is.3 is.4 rest h))
border_keeps (line.Field k x a b c) is rest h =
    let le : k ≤ 63 = is.0 in
    front (decimal k) (text.across x a (text.back b c rest)) (decimal_bytes k (omega arith)) (across_keeps x a is.1 is.2 (text.back b c rest) (across_keeps b c is.3 is.4 rest h))

pub borders_keeps : (b : Border) (ls : List Tunnel) → All (IsLine b) ls → (depth : ℕ) → Keeps (text.borders ls depth)
borders_keeps b [] all depth rest h = h
borders_keeps b (l ∷ ls) all depth rest h =
    line_keeps depth (text.border_word l) (text.border_operands l) (border_bytes l) (border_keeps l (All-head (IsLine b) l ls all).operands) (text.borders ls depth rest)
    (borders_keeps b ls (All-tail (IsLine b) l ls all) depth rest h)

pub selector_keeps : (s : Selector) → IsSelector s → Keeps (text.selector_text s)
selector_keeps (selector.Number n) is rest h = front (signed_decimal n) rest (number_bytes n is) h
selector_keeps (selector.Range low high) is rest h =
    front (signed_decimal low) (codes ".." ++ (signed_decimal high ++ rest)) (number_bytes low is.0) (front (signed_decimal high) rest (number_bytes high is.1) h)
selector_keeps (selector.Truth true) is rest h = h
selector_keeps (selector.Truth false) is rest h = h
selector_keeps (selector.Text v) is rest h = quoted_keeps v is rest h
selector_keeps selector.Default is rest h = h
