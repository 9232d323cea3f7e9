-- Inner: loops over words, eight at a time.
use Rattle.std.specs.Prelude.{ℕ, Bool, true, false, List, ◌++◌, take, drop}
use Rattle.std.specs.Simd.Lanes.{zip2}
use Rattle.g_types.specs.declared.rep.Rep.{Rep}
use Rattle.g_prims_edits.specs.Words.{result_word}
use Rattle.g_prims_edits.specs.declared.words.Operator.{Operator}

-- the first `at` items are done
abbrev pub done : {A B : Type 0} → (A → B → A) → List A → List B → ℕ → List A
done f xs ys at = zip2 f (take at xs) (take at ys) ++ drop at xs

-- a word and a word that stands before or after it
abbrev pub with_word : Operator → Rep → Bool → ℕ → ℕ → ℕ
with_word o r true by w = result_word o r by w
with_word o r false by w = result_word o r w by
