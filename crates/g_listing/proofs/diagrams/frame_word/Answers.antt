use Rattle.std.proofs.Common.{◌≡◌, ℕ, List, subst, rules}
use Rattle.std.specs.Prelude.{codes}
use Rattle.g_grammar.specs.Grammar.{read, take}
use Rattle.g_grammar.specs.Reads.{Passes}
use Rattle.g_listing_grammar.specs.Words.{word}
use Rattle.g_listing.proofs.diagrams.frame_word.Goals as goal

pub returns : goal.returns
returns c =
    let e : c.as_slice.result.now ≡ codes "frame" = search rules in
    subst (λ (w : List ℕ). Passes c.keyword.result (read (take (word w)) c.args.tokens.now)) e c.keyword.ensures
