-- Numbers taken together, by their words.
use Rattle.std.proofs.Common.{◌≡◌, ◌<◌, ◌+◌, ◌-◌, ◌*◌, ◌%◌, ◌^◌, ℕ, ℤ, List, [], ◌∷◌, map, refl, sym, ap, ◌∙◌, arith}
use Rattle.std.specs.Int.Bits.{and_lt}
use Rattle.std.proofs.lemmas.Nat.{or_lt, xor_lt}
use Rattle.std.proofs.lemmas.List.Elements.{All-head, All-tail}
use Rattle.g_types.specs.declared.rep.Rep.{Rep}
use Rattle.g_values.specs.Numbers.{AreWords, number, word}
use Rattle.g_values.proofs.Words.{word-pos, word-below}
use Rattle.g_prims_definitions.specs.Arithmetic.{accumulated}
use Rattle.g_prims_edits.specs.declared.words.Operator.{Operator}
use Rattle.g_prims_edits.specs.declared.words.Operator.TheVariants.{Plus, Minus, Times, And, Or, Xor}
use Rattle.g_prims_edits.specs.Words.{on_numbers, on_words}
use Rattle.g_prims_edits.proofs.WordLemmas.{IsWord, word-of_result}
use Rattle.g_prims_evaluation.specs.Accumulated.{accumulated_words}

rest_below : (n : ℕ) → n % 2 ^ 64 < 2 ^ 64
rest_below n = omega arith

below : (o : Operator) (a b : ℕ) → a < 2 ^ 64 → b < 2 ^ 64 → on_words o a b < 2 ^ 64
below Plus a b h k = rest_below (a + b)
below Minus a b h k = rest_below (a + (2 ^ 64 - b))
below Times a b h k = rest_below (a * b)
below And a b h k = and_lt 64 a b h k
below Or a b h k = or_lt 64 a b h k
below Xor a b h k = xor_lt 64 a b h k

on_both : (o : Operator) (x y : ℤ) → word (on_numbers o x y) ≡ on_words o (word x) (word y)
on_both o x y = sym (word-of_result o x y) ∙ word-pos (on_words o (word x) (word y)) (below o (word x) (word y) (word-below x) (word-below y))

pub word-accumulated : (o : Operator) (r : Rep) (n : ℤ) (ws : List ℕ) → AreWords r ws → word (accumulated (on_numbers o) n (map (number r) ws)) ≡ accumulated_words o (word n) ws
word-accumulated o r n [] p = refl
word-accumulated o r n (w ∷ ws) p =
    on_both o (number r w) (accumulated (on_numbers o) n (map (number r) ws))
    ∙ ap (λ v. on_words o v (word (accumulated (on_numbers o) n (map (number r) ws)))) (All-head (IsWord r) w ws p)
    ∙ ap (on_words o w) (word-accumulated o r n ws (All-tail (IsWord r) w ws p))
