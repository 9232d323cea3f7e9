-- Operands and the lines at the border of a structure can be completed wherever a token is refused.
use Rattle.std.proofs.Common.{◌≡◌, ℕ, Bool, true, false, List, [], ◌∷◌, Option, Some, None, refl, ap, inl, inr, ◌⊎◌, arith}
use Rattle.std.specs.Prelude.{codes, pos}
use Rattle.g_grammar.specs.Grammar.{Grammar, take, or_else}
use Rattle.g_diagram.specs.declared.node.Tunnel.{Tunnel}
use Rattle.g_diagram.specs.declared.node.Tunnel.TheVariants as tunnel
use Rattle.g_tokens.specs.declared.token.Token.{Token}
use Rattle.g_tokens.specs.declared.token.Token.TheVariants as token
use Rattle.g_tokens.specs.declared.token.Mark.TheVariants as mark
use Rattle.g_listing_grammar.specs.declared.Border.{Border}
use Rattle.g_listing_grammar.specs.declared.LineWord.{LineWord}
use Rattle.g_listing_grammar.specs.declared.LineWord.TheVariants as line
use Rattle.g_listing_grammar.specs.Words.{word, word_in, name, wire, eol, arrow, arrow_or_eol, field_number, bar, default_or_eol}
use Rattle.g_listing_grammar.specs.Types.{types}
use Rattle.g_listing_grammar.specs.Literals.{literals}
use Rattle.g_listing_grammar.specs.Borders.{Wire, item_or_end, wires_to, outputs, operands, last_wire, to_wire, across, turned, through, register_rest, result_end, line_rest, line_or_end, lines_of, lines_to}
use Rattle.g_print_laws.proofs.Lexing.{IsWord}
use Rattle.g_print_laws.proofs.Parts.{IsGood, some_is}
use Rattle.g_print_laws.proofs.Tables.{holds}
use Rattle.g_listing_completions.proofs.Good.{good_word}
use Rattle.g_listing_completions.proofs.Forms.{State, fresh, midway, sides, Steps, Form, form_give, form_take, form_bind, form_loop, form_in, in_line, at_start, either_steps}
use Rattle.g_listing_completions.proofs.TypeForms.{Inline, types_form}
use Rattle.g_listing_completions.proofs.LiteralForms.{literals_form}

-- a form that begins inside a line and ends with it
abbrev pub Ending : {A : Type 0} → Grammar Token A → Type 0
Ending {A} g = Form g (λ (a : A). fresh) midway

-- whether more follows in the line
abbrev pub going : Bool → State
going true = midway
going false = fresh

-- ---- tokens

pub eol_steps : Steps eol (λ e. fresh) midway
eol_steps token.Eol a h = refl
eol_steps t a h = absurd cc

arrow_steps : Steps arrow_or_eol going midway
arrow_steps (token.Mark mark.Arrow) more h = ap going (some_is h)
arrow_steps token.Eol more h = ap going (some_is h)
arrow_steps t more h = absurd cc

default_steps : Steps default_or_eol going midway
default_steps (token.Word w) more h = holds (λ v b. midway ≡ going b) ((codes "default", true) ∷ []) (refl, tt) w more h
default_steps token.Eol more h = ap going (some_is h)
default_steps t more h = absurd cc

pub name_form : Inline (take name)
name_form = form_in name (token.Word (codes "a")) (good_word (codes "a") refl refl refl) (codes "a") refl refl refl refl

pub wire_form : Inline (take wire)
wire_form = form_in wire (token.Mark mark.Unwired) tt None refl refl refl refl

pub eol_form : Ending (take eol)
eol_form = form_take eol (λ e. fresh) midway token.Eol tt tt refl eol_steps

arrow_form : Inline (take arrow)
arrow_form = form_in arrow (token.Mark mark.Arrow) tt tt refl refl refl refl

pub field_form : Inline (take field_number)
field_form = form_in field_number (token.Number (pos 0)) (omega arith) 0 refl refl refl refl

pub type_form : Inline (types 8 true)
type_form = types_form 7 true

pub literal_form : Inline (literals 8 true)
literal_form = literals_form 7 true

-- ---- operands

wires_form : {D : Type 0} (q : Token → Option D) (to : D → State) → Steps q to midway → (u : Token) → IsGood u → (d : D) → or_else wire q u ≡ Some (inr d) → Form (wires_to q) (λ x. to x.1) midway
wires_form {D} q to steps u good d h =
    form_loop (or_else wire q) item_or_end (sides (λ (w : Wire). midway) to) to midway (either_steps wire q (λ w. midway) to midway (in_line wire refl refl refl) steps)
    (λ t c e. form_give c) u good (inr d) [] d h (refl, refl)

outputs_form : (more : Bool) → Form (outputs more) (λ os. fresh) (going more)
outputs_form true = form_bind wire_form λ o. form_bind (wires_form eol (λ e. fresh) eol_steps token.Eol tt tt refl) λ os. form_give (o ∷ os.0)
outputs_form false = form_give []

pub operands_form : Ending operands
operands_form = form_bind (wires_form arrow_or_eol going arrow_steps token.Eol tt false refl) λ ins. form_bind (outputs_form ins.1) λ outs. form_give (ins.0, outs)

pub last_wire_form : Ending last_wire
last_wire_form = form_bind wire_form λ o. form_bind eol_form λ e. form_give o

pub to_wire_form : Ending to_wire
to_wire_form = form_bind arrow_form λ x. last_wire_form

pub across_form : Ending across
across_form = form_bind wire_form λ i. form_bind to_wire_form λ o. form_give (i, o)

turned_form : Inline turned
turned_form =
    form_bind arrow_form λ x.
    form_bind wire_form λ o.
    form_bind (form_in bar (token.Mark mark.Bar) tt tt refl refl refl refl) λ y.
    form_bind wire_form λ i.
    form_give (o, i)

through_form : Ending through
through_form = form_bind turned_form λ w. form_bind to_wire_form λ o. form_give (w.0, w.1, o)

-- ---- lines

register_form : (w : Wire) → Ending (register_rest w)
register_form (Some n) = form_bind through_form λ w. form_give (tunnel.Register (Some n) w.0 w.1 w.2)
register_form None = form_bind type_form λ t. form_bind through_form λ w. form_give (tunnel.Kept t w.0 w.1 w.2)

result_end_form : (w : Wire) (d : Bool) → Form (result_end w d) (λ l. fresh) (going d)
result_end_form w true = form_bind eol_form λ e. form_give (tunnel.Result w true)
result_end_form w false = form_give (tunnel.Result w false)

line_form : (l : LineWord) → Ending (line_rest l)
line_form line.Tunnel = form_bind across_form λ w. form_give (tunnel.Tunnel w.0 w.1)
line_form line.Register = form_bind wire_form register_form
line_form line.Last = form_bind across_form λ w. form_give (tunnel.Last w.0 w.1)
line_form line.Gather = form_bind across_form λ w. form_give (tunnel.Gather w.0 w.1)
line_form line.Index = form_bind across_form λ w. form_give (tunnel.Index w.0 w.1)
line_form line.Result = form_bind wire_form λ w. form_bind (form_take default_or_eol going midway token.Eol tt false refl default_steps) (result_end_form w)
line_form line.Carry = form_bind across_form λ w. form_give (tunnel.Carry w.0 w.1)
line_form line.Ref =
    form_bind wire_form λ r.
    form_bind turned_form λ w.
    form_bind arrow_form λ x.
    form_bind wire_form λ same.
    form_bind last_wire_form λ code.
    form_give (tunnel.Ref r w.0 w.1 same code)
line_form line.Element = form_bind wire_form λ a. form_bind wire_form λ i. form_bind through_form λ w. form_give (tunnel.Element a i w.0 w.1 w.2)
line_form line.Field = form_bind field_form λ k. form_bind wire_form λ c. form_bind through_form λ w. form_give (tunnel.Field k c w.0 w.1 w.2)

line_or_end_form : (c : LineWord ⊎ Unit {0}) → Form (line_or_end c) (sides (λ (l : Tunnel). fresh) (λ (d : Unit {0}). midway)) midway
line_or_end_form (inl w) = form_bind (line_form w) λ l. form_give (inl l)
line_or_end_form (inr d) = form_give (inr d)

pub lines_form : (b : Border) (stop : List ℕ) → IsWord stop → or_else (word_in (lines_of b)) (word stop) (token.Word stop) ≡ Some (inr tt) → Form (lines_to b stop) (λ x. midway) fresh
lines_form b stop good h =
    form_loop (or_else (word_in (lines_of b)) (word stop)) line_or_end (λ c. midway) (λ d. midway) fresh (at_start (or_else (word_in (lines_of b)) (word stop)) refl refl refl)
    (λ t c e. line_or_end_form c) (token.Word stop) good (inr tt) [] tt h (refl, refl)
