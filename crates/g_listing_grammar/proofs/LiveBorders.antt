-- Operands and the lines at the border of a structure can be completed wherever a token is refused.
use Rattle.std.proofs.Common.{◌≡◌, ℕ, Bool, true, false, List, [], ◌∷◌, Option, Some, None, refl, inl, inr, ◌⊎◌}
use Rattle.std.specs.Prelude.{codes, pos}
use Rattle.g_grammar.specs.Grammar.{take, or_else}
use Rattle.g_grammar.proofs.Live.{Live, live_give, live_take, live_bind, live_loop}
use Rattle.g_diagram.specs.declared.node.Tunnel.TheVariants as tunnel
use Rattle.g_tokens.specs.declared.token.Token.{Token}
use Rattle.g_tokens.specs.declared.token.Token.TheVariants as token
use Rattle.g_tokens.specs.declared.token.Mark.TheVariants as mark
use Rattle.g_listing_grammar.specs.declared.Border.{Border}
use Rattle.g_listing_grammar.specs.declared.LineWord.{LineWord}
use Rattle.g_listing_grammar.specs.declared.LineWord.TheVariants as line
use Rattle.g_listing_grammar.specs.Words.{word, word_in, name, wire, eol, arrow, arrow_or_eol, field_number}
use Rattle.g_listing_grammar.specs.Types.{types}
use Rattle.g_listing_grammar.specs.Literals.{literals}
use Rattle.g_listing_grammar.specs.Borders.{Wire, item_or_end, wires_to, outputs, operands, last_wire, to_wire, across, turned, through, register_rest, result_end, line_rest, line_or_end, lines_of, lines_to}
use Rattle.g_listing_grammar.proofs.LiveTypes.{live_types}
use Rattle.g_listing_grammar.proofs.LiveLiterals.{live_literals}

-- ---- tokens

pub live_name : Live (take name)
live_name = live_take (token.Word (codes "a")) (codes "a") refl

pub live_wire : Live (take wire)
live_wire = live_take (token.Mark mark.Unwired) None refl

pub live_eol : Live (take eol)
live_eol = live_take token.Eol tt refl

live_arrow : Live (take arrow)
live_arrow = live_take (token.Mark mark.Arrow) tt refl

pub live_field : Live (take field_number)
live_field = live_take (token.Number (pos 0)) 0 refl

pub live_type : Live (types 8 true)
live_type = live_types 7 true

pub live_literal : Live (literals 8 true)
live_literal = live_literals 7 true

-- ---- operands

live_wires : {D : Type 0} (q : Token → Option D) (u : Token) (d : D) → or_else wire q u ≡ Some (inr d) → Live (wires_to q)
live_wires q u d h = live_loop (or_else wire q) item_or_end (λ t c e. live_give c) u (inr d) [] d h (refl, refl)

live_outputs : (more : Bool) → Live (outputs more)
live_outputs true = live_bind live_wire λ o. live_bind (live_wires eol token.Eol tt refl) λ os. live_give (o ∷ os.0)
live_outputs false = live_give []

pub live_operands : Live operands
live_operands = live_bind (live_wires arrow_or_eol token.Eol false refl) λ ins. live_bind (live_outputs ins.1) λ outs. live_give (ins.0, outs)

pub live_last_wire : Live last_wire
live_last_wire = live_bind live_wire λ o. live_bind live_eol λ e. live_give o

pub live_to_wire : Live to_wire
live_to_wire = live_bind live_arrow λ x. live_last_wire

pub live_across : Live across
live_across = live_bind live_wire λ i. live_bind live_to_wire λ o. live_give (i, o)

live_turned : Live turned
live_turned =
    live_bind live_arrow λ x.
    live_bind live_wire λ o.
    live_bind (live_take (token.Mark mark.Bar) tt refl) λ y.
    live_bind live_wire λ i.
    live_give (o, i)

live_through : Live through
live_through = live_bind live_turned λ w. live_bind live_to_wire λ o. live_give (w.0, w.1, o)

-- ---- lines

live_register : (w : Wire) → Live (register_rest w)
live_register (Some n) = live_bind live_through λ w. live_give (tunnel.Register (Some n) w.0 w.1 w.2)
live_register None = live_bind live_type λ t. live_bind live_through λ w. live_give (tunnel.Kept t w.0 w.1 w.2)

live_result_end : (w : Wire) (d : Bool) → Live (result_end w d)
live_result_end w true = live_bind live_eol λ e. live_give (tunnel.Result w true)
live_result_end w false = live_give (tunnel.Result w false)

live_line : (l : LineWord) → Live (line_rest l)
live_line line.Tunnel = live_bind live_across λ w. live_give (tunnel.Tunnel w.0 w.1)
live_line line.Register = live_bind live_wire live_register
live_line line.Last = live_bind live_across λ w. live_give (tunnel.Last w.0 w.1)
live_line line.Gather = live_bind live_across λ w. live_give (tunnel.Gather w.0 w.1)
live_line line.Index = live_bind live_across λ w. live_give (tunnel.Index w.0 w.1)
live_line line.Result = live_bind live_wire λ w. live_bind (live_take token.Eol false refl) (live_result_end w)
live_line line.Carry = live_bind live_across λ w. live_give (tunnel.Carry w.0 w.1)
live_line line.Ref =
    live_bind live_wire λ r.
    live_bind live_turned λ w.
    live_bind live_arrow λ x.
    live_bind live_wire λ same.
    live_bind live_last_wire λ code.
    live_give (tunnel.Ref r w.0 w.1 same code)
live_line line.Element = live_bind live_wire λ a. live_bind live_wire λ i. live_bind live_through λ w. live_give (tunnel.Element a i w.0 w.1 w.2)
live_line line.Field = live_bind live_field λ k. live_bind live_wire λ c. live_bind live_through λ w. live_give (tunnel.Field k c w.0 w.1 w.2)

live_line_or_end : {D : Type 0} (c : LineWord ⊎ D) → Live (line_or_end c)
live_line_or_end (inl w) = live_bind (live_line w) λ l. live_give (inl l)
live_line_or_end (inr d) = live_give (inr d)

pub live_lines : (b : Border) (stop : List ℕ) → or_else (word_in (lines_of b)) (word stop) (token.Word stop) ≡ Some (inr tt) → Live (lines_to b stop)
live_lines b stop h = live_loop (or_else (word_in (lines_of b)) (word stop)) line_or_end (λ t c e. live_line_or_end c) (token.Word stop) (inr tt) [] tt h (refl, refl)
