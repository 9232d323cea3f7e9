-- What the loop over the bytes of a listing keeps.
use Rattle.std.proofs.Common.{◌≡◌, ℕ, suc, ◌+◌, ◌-◌, ◌<◌, ◌≤◌, true, List, [], ◌∷◌, ◌++◌, length, take, drop, get_or, map, sym, ap, ◌∙◌, arith, add-one, append_assoc, length-drop}
use Rattle.std.proofs.Math.Seq.{drop-cons}
use Rattle.std.proofs.lemmas.List.{drop_all, take_more, get_or-drop, map-append}
use Rattle.g_tokens.specs.declared.token.Token.{Token}
use Rattle.g_tokens.specs.declared.token.Token.TheVariants as token
use Rattle.g_tokens.specs.declared.token.Spot.{Spot}
use Rattle.g_tokens.specs.Tokens.{lexemes, content, line_tokens, lines, lines_tokens, placed}
use Rattle.g_tokens.proofs.Fronts.{not_equal}
use Rattle.g_tokens.proofs.Gaps.{line_break, line_grows}

module _ {B : Type 0} (f : Token × Spot → B) (bytes : List ℕ) (total : List B) where
  abbrev pub begun : ℕ → ℕ → List ℕ
  begun from i = take (i - from) (drop from bytes)

  abbrev pub line_of : ℕ → List ℕ → List B
  line_of line l = map f (line_tokens line (lexemes true 0 0 (content l)))

  abbrev pub At : ℕ → ℕ → ℕ → List B → Type 0
  At from i line front = front ++ map f (lines_tokens line (lines (begun from i) (drop i bytes))) ≡ total

  drop_at : (i : ℕ) → i < length bytes → drop i bytes ≡ get_or bytes i 0 ∷ drop (i + 1) bytes
  drop_at i lt = drop-cons bytes i 0 lt ∙ ap (λ (k : ℕ). get_or bytes i 0 ∷ drop k bytes) (sym (add-one i))

  begun_more : (from i : ℕ) → from ≤ i → i < length bytes → begun from (i + 1) ≡ begun from i ++ get_or bytes i 0 ∷ []
  begun_more from i le lt =
      let n : (i + 1) - from ≡ (i - from) + 1 = omega arith in
      let short : i - from < length (drop from bytes) = omega (arith, length-drop from bytes) in
      let k : from + (i - from) ≡ i = omega arith in
      ap (λ (k : ℕ). take k (drop from bytes)) n ∙ take_more (drop from bytes) (i - from) 0 short
      ∙ ap (λ (b : ℕ). begun from i ++ b ∷ []) (get_or-drop from bytes (i - from) 0 ∙ ap (λ (k : ℕ). get_or bytes k 0) k)

  pub more_bytes : (from i line : ℕ) (front : List B) → from ≤ i → i < length bytes → (get_or bytes i 0 ≡ 10 → ⊥) → At from i line front → At from (i + 1) line front
  more_bytes from i line front le lt ne so_far =
      let grown : lines (begun from i) (drop i bytes) ≡ lines (begun from (i + 1)) (drop (i + 1) bytes) =
      ap (lines (begun from i)) (drop_at i lt) ∙ line_grows (begun from i) (drop (i + 1) bytes) (get_or bytes i 0) (not_equal (get_or bytes i 0) 10 ne)
      ∙ ap (λ (l : List ℕ). lines l (drop (i + 1) bytes)) (sym (begun_more from i le lt)) in
      ap (λ (ls : List (List ℕ)). front ++ map f (lines_tokens line ls)) (sym grown) ∙ so_far

  pub new_line : (from i line : ℕ) (front next : List B) (l : List ℕ) → i < length bytes → get_or bytes i 0 ≡ 10 → l ≡ content (begun from i)
      → next ≡ front ++ map f (line_tokens line (lexemes true 0 0 l)) → At from i line front → At (i + 1) (i + 1) (line + 1) next
  new_line from i line front next l lt is l-is next-is so_far =
      let z : (i + 1) - (i + 1) ≡ 0 = omega arith in
      let empty : begun (i + 1) (i + 1) ≡ [] = ap (λ (k : ℕ). take k (drop (i + 1) bytes)) z in
      let broken : lines_tokens line (lines (begun from i) (drop i bytes)) ≡ line_tokens line (lexemes true 0 0 (content (begun from i))) ++ lines_tokens (suc line) (lines [] (drop (i + 1) bytes)) =
      ap (λ (w : List ℕ). lines_tokens line (lines (begun from i) w)) (drop_at i lt) ∙ line_break line (begun from i) (drop (i + 1) bytes) (get_or bytes i 0) is in
      let rest : List B = map f (lines_tokens (suc line) (lines [] (drop (i + 1) bytes))) in
      let here : map f (lines_tokens line (lines (begun from i) (drop i bytes))) ≡ line_of line (begun from i) ++ rest = ap (map f) broken ∙ map-append f _ _ in
      let front-is : next ≡ front ++ line_of line (begun from i) = next-is ∙ ap (λ (w : List ℕ). front ++ map f (line_tokens line (lexemes true 0 0 w))) l-is in
      ap (λ (w : List ℕ). next ++ map f (lines_tokens (line + 1) (lines w (drop (i + 1) bytes)))) empty
      ∙ ap (λ (k : ℕ). next ++ map f (lines_tokens k (lines [] (drop (i + 1) bytes)))) (add-one line)
      ∙ ap (λ (u : List B). u ++ rest) front-is ∙ append_assoc front (line_of line (begun from i)) rest ∙ ap (λ (u : List B). front ++ u) (sym here) ∙ so_far

  pub at_end : (from i line : ℕ) (front next last : List B) (l : List ℕ) → length bytes ≤ i → i ≤ length bytes → l ≡ content (begun from (length bytes))
      → next ≡ front ++ map f (line_tokens line (lexemes true 0 0 l)) → last ≡ next ++ f (placed line token.End (length (begun from (length bytes)))) ∷ [] → At from i line front → last ≡ total
  unfolding lines
  at_end from i line front next last l le ge l-is next-is last-is so_far =
      let e : i ≡ length bytes = omega arith in
      let none : drop i bytes ≡ [] = drop_all i bytes le in
      let end : List (Token × Spot) = placed line token.End (length (begun from i)) ∷ [] in
      let here : map f (lines_tokens line (lines (begun from i) (drop i bytes))) ≡ line_of line (begun from i) ++ map f end =
      ap (λ (w : List ℕ). map f (lines_tokens line (lines (begun from i) w))) none ∙ map-append f (line_tokens line (lexemes true 0 0 (content (begun from i)))) end in
      let next2 : next ≡ front ++ line_of line (begun from i) = next-is ∙ ap (λ (w : List ℕ). front ++ map f (line_tokens line (lexemes true 0 0 w))) (l-is ∙ ap (λ (k : ℕ). content (begun from k)) (sym e)) in
      last-is ∙ ap (λ (k : ℕ). next ++ f (placed line token.End (length (begun from k))) ∷ []) (sym e) ∙ ap (λ (u : List B). u ++ map f end) next2
      ∙ append_assoc front (line_of line (begun from i)) (map f end) ∙ ap (λ (u : List B). front ++ u) (sym here) ∙ so_far
