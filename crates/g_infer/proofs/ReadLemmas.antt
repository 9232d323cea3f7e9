-- The names among operands.
use Rattle.std.proofs.Common.{◌≡◌, ℕ, List, [], ◌∷◌, ◌++◌, refl, ap, sym, ◌∙◌, append_assoc}
use Rattle.g_diagram.specs.Lines.{Wire}
use Rattle.g_infer.specs.Reads.{named, all_named}

pub named_append : (xs ys : List (ℕ × Wire)) → all_named (xs ++ ys) ≡ all_named xs ++ all_named ys
named_append [] ys = refl
named_append (q ∷ xs) ys = ap (λ ps. named q.0 q.1 ++ ps) (named_append xs ys) ∙ sym (append_assoc (named q.0 q.1) (all_named xs) (all_named ys))
