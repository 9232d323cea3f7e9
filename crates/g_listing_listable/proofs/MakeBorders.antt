-- Tokens that have lines at the border of a structure.
use Rattle.std.proofs.Common.{◌≡◌, ℕ, Bool, true, false, List, get_or, Some, None, refl, codes, inl, inr}
use Rattle.std.specs.List.{All}
use Rattle.g_grammar.specs.Grammar.{or_else}
use Rattle.g_tokens.specs.declared.token.Token.TheVariants as token
use Rattle.g_diagram.specs.declared.node.Tunnel.{Tunnel}
use Rattle.g_diagram.specs.declared.node.Tunnel.TheVariants as line
use Rattle.g_diagram.specs.Lines.{Wire}
use Rattle.g_listing_words.specs.Operations.{lookup}
use Rattle.g_listing_grammar.specs.declared.Border.{Border}
use Rattle.g_listing_grammar.specs.declared.Border.TheVariants as border
use Rattle.g_listing_grammar.specs.declared.LineWord.{LineWord}
use Rattle.g_listing_grammar.specs.declared.LineWord.TheVariants as form
use Rattle.g_listing_grammar.specs.Words.{word_in, word}
use Rattle.g_listing_grammar.specs.Borders.{line_rest, line_or_end, lines_of, lines_to}
use Rattle.g_print_laws.proofs.BorderParts.{line_word}
use Rattle.g_listing_listable.specs.Listable.{IsName, IsWire, form_of, has_form, HasOperands, IsLine}
use Rattle.g_listing_listable.proofs.MakePhrases.{Makes, Begins, makes_give, makes_take, makes_bind, makes_loop, first_one, second_one}
use Rattle.g_listing_listable.proofs.MakeTokens.{word_is, makes_word, makes_eol, makes_wire, makes_element, makes_last_wire, makes_arrow, makes_across, makes_turned, makes_through}
use Rattle.g_listing_listable.proofs.MakeTypes.{makes_type}

result_made : (w : Wire) (default : Bool) → IsWire w → Makes (line_rest form.Result) (line.Result w default)
result_made w true is = makes_bind (makes_wire w is) (makes_bind (makes_word (codes "default") true refl refl) (makes_bind makes_eol (makes_give (line.Result w true))))
result_made w false is = makes_bind (makes_wire w is) (makes_bind (makes_take token.Eol false tt refl) (makes_give (line.Result w false)))

line_made : (l : Tunnel) → HasOperands l → Makes (line_rest (form_of l)) l
line_made (line.Tunnel a b) is = makes_bind (makes_across a b is.0 is.1) (makes_give (line.Tunnel a b))
line_made (line.Register None a b c) is = absurd is.0
line_made (line.Register (Some n) a b c) is = makes_bind (makes_wire (Some n) is.0) (makes_bind (makes_through a b c is.1 is.2 is.3) (makes_give (line.Register (Some n) a b c)))
line_made (line.Kept t a b c) is = makes_bind (makes_wire None tt) (makes_bind (makes_type t is.0) (makes_bind (makes_through a b c is.1 is.2 is.3) (makes_give (line.Kept t a b c))))
line_made (line.Last a b) is = makes_bind (makes_across a b is.0 is.1) (makes_give (line.Last a b))
line_made (line.Gather a b) is = makes_bind (makes_across a b is.0 is.1) (makes_give (line.Gather a b))
line_made (line.Index a b) is = makes_bind (makes_across a b is.0 is.1) (makes_give (line.Index a b))
line_made (line.Result w default) is = result_made w default is
line_made (line.Carry a b) is = makes_bind (makes_across a b is.0 is.1) (makes_give (line.Carry a b))
line_made (line.Ref r a b same code) is =
    makes_bind (makes_wire r is.0)
    (makes_bind (makes_turned a b is.1 is.2) (makes_bind makes_arrow (makes_bind (makes_wire same is.3) (makes_bind (makes_last_wire code is.4) (makes_give (line.Ref r a b same code))))))
line_made (line.Element x i a b c) is = makes_bind (makes_wire x is.0) (makes_bind (makes_wire i is.1) (makes_bind (makes_through a b c is.2 is.3 is.4) (makes_give (line.Element x i a b c))))
line_made (line.Field k x a b c) is = makes_bind (makes_element k is.0) (makes_bind (makes_wire x is.1) (makes_bind (makes_through a b c is.2 is.3 is.4) (makes_give (line.Field k x a b c))))

-- ---- the first word

named : (w : LineWord) → IsName (line_word w)
named form.Tunnel = refl
named form.Register = refl
named form.Last = refl
named form.Gather = refl
named form.Index = refl
named form.Result = refl
named form.Carry = refl
named form.Ref = refl
named form.Element = refl
named form.Field = refl

found : (b : Border) (w : LineWord) → has_form b w ≡ true → lookup (lines_of b) (line_word w) ≡ Some w
found border.For form.Tunnel e = refl
found border.For form.Register e = refl
found border.For form.Last e = refl
found border.For form.Gather e = refl
found border.For form.Index e = refl
found border.For _ e = absurd cc
found border.While form.Tunnel e = refl
found border.While form.Register e = refl
found border.While form.Last e = refl
found border.While form.Gather e = refl
found border.While _ e = absurd cc
found border.Case form.Tunnel e = refl
found border.Case form.Result e = refl
found border.Case _ e = absurd cc
found border.FirstFrame form.Tunnel e = refl
found border.FirstFrame form.Last e = refl
found border.FirstFrame _ e = absurd cc
found border.Frame form.Tunnel e = refl
found border.Frame form.Last e = refl
found border.Frame form.Carry e = refl
found border.Frame _ e = absurd cc
found border.InPlace form.Tunnel e = refl
found border.InPlace form.Last e = refl
found border.InPlace form.Ref e = refl
found border.InPlace form.Element e = refl
found border.InPlace form.Field e = refl
found border.InPlace _ e = absurd cc

line_begun : (b : Border) (stop : List ℕ) (l : Tunnel) → IsLine b l → Begins (or_else (word_in (lines_of b)) (word stop)) line_or_end (inl l)
line_begun b stop l is =
    let w : LineWord = form_of l in
    record {
      token = token.Word (line_word w);
      good = word_is (line_word w) (named w);
      first = inl w;
      is = first_one (word_in (lines_of b)) (word stop) (token.Word (line_word w)) w (found b w is.form);
      rest = makes_bind (line_made l is.operands) (makes_give (inl l));
    }

-- lines up to a word that begins none
pub makes_lines : (b : Border) (stop : List ℕ) → IsName stop → lookup (lines_of b) stop ≡ None → word stop (token.Word stop) ≡ Some tt → (ls : List Tunnel) → All (IsLine b) ls → Makes (lines_to b stop) (ls, tt)
makes_lines b stop name none here ls all =
    makes_loop ls tt (λ k d lt. line_begun b stop (get_or ls k d) (all k d lt))
    (record { token = token.Word stop; good = word_is stop name; first = inr tt; is = second_one (word_in (lines_of b)) (word stop) (token.Word stop) tt none here; rest = makes_give (inr tt) })

no_do : (b : Border) → lookup (lines_of b) (codes "do") ≡ None
no_do border.For = refl
no_do border.While = refl
no_do border.Case = refl
no_do border.FirstFrame = refl
no_do border.Frame = refl
no_do border.InPlace = refl

pub makes_lines_do : (b : Border) (ls : List Tunnel) → All (IsLine b) ls → Makes (lines_to b (codes "do")) (ls, tt)
makes_lines_do b = makes_lines b (codes "do") refl (no_do b) refl
