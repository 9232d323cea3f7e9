-- Lines at the borders of structures that good tokens have.
use Rattle.std.proofs.Common.{◌≡◌, ℕ, Bool, true, false, List, Some, None, refl, sym, subst, inl, inr, ◌⊎◌}
use Rattle.std.specs.List.{list_all}
use Rattle.g_grammar.specs.Grammar.{or_else}
use Rattle.g_tokens.specs.declared.token.Token.{Token}
use Rattle.g_diagram.specs.declared.node.Tunnel.{Tunnel}
use Rattle.g_diagram.specs.declared.node.Tunnel.TheVariants as line
use Rattle.g_diagram.specs.Lines.{Wire}
use Rattle.g_listing_grammar.specs.declared.Border.{Border}
use Rattle.g_listing_grammar.specs.declared.Border.TheVariants as border
use Rattle.g_listing_grammar.specs.declared.LineWord.{LineWord}
use Rattle.g_listing_grammar.specs.declared.LineWord.TheVariants as form
use Rattle.g_listing_grammar.specs.Words.{word_in, word}
use Rattle.g_listing_grammar.specs.Borders.{register_rest, result_end, line_rest, line_or_end, lines_of, lines_to}
use Rattle.g_listing_laws.proofs.Gives.{Either, Ended}
use Rattle.g_listing_laws.proofs.TypesGiven.{type_given}
use Rattle.g_print_laws.proofs.Parts.{IsGood}
use Rattle.g_print_laws.proofs.Tables.{by_test}
use Rattle.g_listing_listable.specs.Listable.{IsWire, form_of, has_form, HasOperands, IsLine}
use Rattle.g_listing_listable.proofs.ReadPhrases.{Reads, Any, reads_give, reads_bind, reads_after, reads_any, reads_loop}
use Rattle.g_listing_listable.proofs.ReadTokens.{row_known, either_known, any_known, wire_read, field_read, last_wire_read, across_read, turned_read, through_read}

-- a line of this form
abbrev IsFormed : LineWord → Tunnel → Type 0
IsFormed w l = (form_of l ≡ w) × HasOperands l

register_read : (w : Wire) → IsWire w → Reads (IsFormed form.Register) (register_rest w)
register_read (Some n) is = reads_bind through_read λ w ws. reads_give (line.Register (Some n) w.0 w.1 w.2) (refl, (is, ws.0, ws.1, ws.2))
register_read None is = reads_bind (reads_any type_given) λ t so. reads_bind through_read λ w ws. reads_give (line.Kept t w.0 w.1 w.2) (refl, (so, ws.0, ws.1, ws.2))

result_read : (w : Wire) → IsWire w → (d : Bool) → Reads (IsFormed form.Result) (result_end w d)
result_read w is true = reads_after λ e. reads_give (line.Result w true) (refl, is)
result_read w is false = reads_give (line.Result w false) (refl, is)

line_read : (w : LineWord) → Reads (IsFormed w) (line_rest w)
line_read form.Tunnel = reads_bind across_read λ w ws. reads_give (line.Tunnel w.0 w.1) (refl, ws)
line_read form.Register = reads_bind wire_read register_read
line_read form.Last = reads_bind across_read λ w ws. reads_give (line.Last w.0 w.1) (refl, ws)
line_read form.Gather = reads_bind across_read λ w ws. reads_give (line.Gather w.0 w.1) (refl, ws)
line_read form.Index = reads_bind across_read λ w ws. reads_give (line.Index w.0 w.1) (refl, ws)
line_read form.Result = reads_bind wire_read λ w is. reads_after (result_read w is)
line_read form.Carry = reads_bind across_read λ w ws. reads_give (line.Carry w.0 w.1) (refl, ws)
line_read form.Ref =
    reads_bind wire_read λ r is.
    reads_bind turned_read λ w ws.
    reads_after λ x.
    reads_bind wire_read λ same so.
    reads_bind last_wire_read λ code also.
    reads_give (line.Ref r w.0 w.1 same code) (refl, (is, ws.0, ws.1, so, also))
line_read form.Element =
    reads_bind wire_read λ a is. reads_bind wire_read λ i so. reads_bind through_read λ w ws. reads_give (line.Element a i w.0 w.1 w.2) (refl, (is, so, ws.0, ws.1, ws.2))
line_read form.Field =
    reads_bind field_read λ k is. reads_bind wire_read λ c so. reads_bind through_read λ w ws. reads_give (line.Field k c w.0 w.1 w.2) (refl, (is, so, ws.0, ws.1, ws.2))

abbrev Has : Border → LineWord → Type 0
Has b w = has_form b w ≡ true

rows_have : (b : Border) → list_all (λ row. has_form b row.1) (lines_of b) ≡ true
rows_have border.For = refl
rows_have border.While = refl
rows_have border.Case = refl
rows_have border.FirstFrame = refl
rows_have border.Frame = refl
rows_have border.InPlace = refl

form_known : (b : Border) (t : Token) (w : LineWord) → IsGood t → word_in (lines_of b) t ≡ Some w → Has b w
form_known b = row_known (Has b) (lines_of b) (by_test (λ u w. has_form b w) (lines_of b) (rows_have b))

or_end_read : (b : Border) (c : LineWord ⊎ Unit {0}) → Either (Has b) Any c → Reads (Either (IsLine b) Any) (line_or_end c)
or_end_read b (inl w) has = reads_bind (line_read w) λ l is. reads_give (inl l) (record { form = subst (Has b) (sym is.0) has; operands = is.1 })
or_end_read b (inr u) has = reads_give (inr u) tt

pub lines_read : (b : Border) (stop : List ℕ) → Reads (Ended (IsLine b) Any) (lines_to b stop)
lines_read b stop =
    reads_loop (Either (Has b) Any) (IsLine b) Any (or_else (word_in (lines_of b)) (word stop)) line_or_end
    (either_known (Has b) Any (word_in (lines_of b)) (word stop) (form_known b) (any_known (word stop))) (or_end_read b)
