-- Numbers without their signs, by their words.
use Rattle.std.proofs.Common.{◌≡◌, ℕ, ℤ, List, [], ◌∷◌, map, refl, ap, ◌∙◌}
use Rattle.std.proofs.lemmas.List.Elements.{All-nil, All-cons}
use Rattle.g_types.specs.declared.rep.Rep.{Rep}
use Rattle.g_types.specs.Rep.{wrap}
use Rattle.g_values.specs.Numbers.{AreWords, number, word}
use Rattle.g_values.proofs.Words.{number-word, wrap-wrap}
use Rattle.g_prims_definitions.specs.Arithmetic.{absolute}
use Rattle.g_prims_edits.proofs.WordLemmas.{IsWord}
use Rattle.g_prims_edits.specs.Words.{absolute_word}

number-word_of : (r : Rep) (z : ℤ) → number r (word (wrap r z)) ≡ wrap r z
number-word_of r z = number-word r (wrap r z) ∙ wrap-wrap r z

pub are_words-absolute : (r : Rep) (ws : List ℕ) → AreWords r (map (absolute_word r) ws)
are_words-absolute r [] = All-nil (IsWord r)
are_words-absolute r (w ∷ ws) = All-cons (IsWord r) (absolute_word r w) (map (absolute_word r) ws) (ap word (number-word_of r (absolute (number r w)))) (are_words-absolute r ws)

pub numbers-absolute : (r : Rep) (ws : List ℕ) → map (number r) (map (absolute_word r) ws) ≡ map (λ x. wrap r (absolute x)) (map (number r) ws)
numbers-absolute r [] = refl
numbers-absolute r (w ∷ ws) =
    ap (λ n. n ∷ map (number r) (map (absolute_word r) ws)) (number-word_of r (absolute (number r w)))
    ∙ ap (λ l. wrap r (absolute (number r w)) ∷ l) (numbers-absolute r ws)
