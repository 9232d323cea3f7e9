use Rattle.std.proofs.Common.{◌≡◌, ℕ, List, subst, rules}
use Rattle.std.specs.Prelude.{codes}
use Rattle.g_grammar.specs.Grammar.{read}
use Rattle.g_grammar.specs.Reads.{Gives}
use Rattle.g_listing_grammar.specs.declared.Border.TheVariants as border
use Rattle.g_listing_grammar.specs.Borders.{lines_to}
use Rattle.g_listing.proofs.diagrams.lines_to_when.Goals as goal

pub returns : goal.returns
returns c =
    let e : c.as_slice.result.now ≡ codes "when" = search rules in
    subst (λ (w : List ℕ). Gives c.lines.result (read (lines_to border.Case w) c.args.tokens.now)) e c.lines.ensures
