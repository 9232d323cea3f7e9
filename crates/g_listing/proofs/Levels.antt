-- Nodes, by the levels that are left.
use Rattle.std.proofs.Common.{◌≡◌, ℕ, zero, suc, ◌-◌, ◌<◌, List, [], ◌∷◌, Bor, refl, arith}
use Rattle.std.specs.Prelude.{Result, Err}
use Rattle.g_grammar.specs.Grammar.{read}
use Rattle.g_grammar.specs.Reads.{Gives}
use Rattle.g_grammar.specs.declared.Stop.{Stop}
use Rattle.g_diagram.specs.declared.node.Node.{Node}
use Rattle.g_tokens.specs.declared.token.Token.{Token}
use Rattle.g_listing_grammar.specs.declared.PlainWord.{PlainWord}
use Rattle.g_listing_grammar.specs.declared.StructureWord.{StructureWord}
use Rattle.g_listing_grammar.specs.declared.NodeWord.TheVariants as word_of
use Rattle.g_listing_grammar.specs.Nodes.{plain_rest, structure_rest, node_rest, nodes}

pub plain_gives : (v n : ℕ) (w : PlainWord) (ts : List Token) (result : Result (Node × Bor (List Token)) (Stop Token)) → Gives result (read (plain_rest w) ts) → Gives result (read (node_rest v n (word_of.Plain w)) ts)
unfolding node_rest
plain_gives v zero w ts result h = h
plain_gives v (suc n) w ts result h = h

pub no_level : (v n : ℕ) (w : StructureWord) (ts : List Token) → n ≡ 0 → read (node_rest v n (word_of.Structure w)) ts ≡ Err ts
unfolding node_rest
no_level v zero w [] e = refl
no_level v zero w (t ∷ ts) e = refl
no_level v (suc n) w ts e = absurd (omega arith)

pub structure_gives : (v n : ℕ) (w : StructureWord) (ts : List Token) (result : Result (Node × Bor (List Token)) (Stop Token))
    → 0 < n → Gives result (read (structure_rest v (nodes v (n - 1)) w) ts) → Gives result (read (node_rest v n (word_of.Structure w)) ts)
unfolding node_rest
structure_gives v zero w ts result lt h = absurd (omega arith)
structure_gives v (suc n) w ts result lt h = let e : suc n - 1 ≡ n = omega arith in rw e at h
