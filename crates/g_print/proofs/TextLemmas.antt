-- The text of a node and of a literal, by its variants, as the printer uses it.
use Rattle.std.proofs.Common.{◌≡◌, ℕ, List, ◌∷◌, zero, suc, ◌+◌, arith, refl, ap, ◌∙◌}
use Rattle.g_diagram.specs.Text.{indent}
use Rattle.g_print_laws.proofs.TextLemmas.{literal-Number, literal-Truth, literal-Text, literal-Null, literal-Array, literal-Cluster, node-Const, node-Apply, node-Shared, node-Obtain, node-Read, node-Write, node-Call, node-For, node-While, node-Case, node-Sequence, node-InPlace, diagram-nodes, branch-parts, frame-parts}

pub ruleset literals = (literal-Number, literal-Truth, literal-Text, literal-Null, literal-Array, literal-Cluster)

pub ruleset nodes = (node-Const, node-Apply, node-Shared, node-Obtain, node-Read, node-Write, node-Call, node-For, node-While, node-Case, node-Sequence, node-InPlace, diagram-nodes, branch-parts, frame-parts)

pub indent_more : (depth : ℕ) (rest : List ℕ) → indent (depth + 1) rest ≡ indent depth (32 ∷ 32 ∷ rest)
indent_more zero rest = refl
indent_more (suc depth) rest =
    let e : suc depth + 1 ≡ suc (depth + 1) = omega arith in
    ap (λ n. indent n rest) e ∙ ap (λ more. 32 ∷ 32 ∷ more) (indent_more depth rest)
