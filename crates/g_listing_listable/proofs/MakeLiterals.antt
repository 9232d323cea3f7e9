-- Tokens that have a literal.
use Rattle.std.proofs.Common.{◌≡◌, ◌≤◌, ◌-◌, ℕ, zero, suc, ℤ, Bool, true, false, List, [], ◌∷◌, length, get_or, Some, refl, sym, subst, arith, codes, inl, inr}
use Rattle.std.specs.Prelude.{nat_lt}
use Rattle.std.specs.List.{All}
use Rattle.std.proofs.lemmas.Bool.{lt-ltb}
use Rattle.std.proofs.lemmas.List.Elements.{All-head, All-tail}
use Rattle.g_tokens.specs.declared.token.Token.TheVariants as token
use Rattle.g_tokens.specs.declared.token.Mark.TheVariants as mark
use Rattle.g_diagram.specs.declared.panel.Lit.{Lit}
use Rattle.g_diagram.specs.declared.panel.Lit.TheOpen.{Lit-F}
use Rattle.g_diagram.specs.declared.panel.Lit.TheVariants as lit
use Rattle.g_diagram.specs.declared.panel.Lit.TheViews.{out-Lit, roll-Lit, roll-out-Lit}
use Rattle.g_listing_grammar.specs.declared.LiteralFirst.TheVariants as begin
use Rattle.g_listing_grammar.specs.Words.{close_bracket, comma_or_bracket}
use Rattle.g_listing_grammar.specs.Literals.{literal_first, next_item, literal_rest, literals}
use Rattle.g_print_laws.specs.Bytes.{IsBytes}
use Rattle.g_listing_listable.specs.Listable.{IsNumeral, IsLiteralAt, IsLiteral, is_array_at}
use Rattle.g_listing_listable.proofs.MakePhrases.{Makes, Begins, makes_give, makes_take, makes_bind, makes_begun, makes_loop, first_one}
use Rattle.g_listing_listable.proofs.MakeTokens.{word_is, makes_mark, above}
use Rattle.g_listing_listable.proofs.MakeTypes.{true_is_not, makes_others}

-- what a literal begins with that has such levels
abbrev Begun : ℕ → Bool → Lit → Type 0
Begun n arrays l = Begins (literal_first n arrays) (literal_rest n) l

above_one : (n : ℕ) → 1 ≤ n → nat_lt 0 (suc n - 1) ≡ true
above_one n h = lt-ltb 0 (suc n - 1) (omega arith)

some_level : (n : ℕ) (l : Lit) → IsLiteral n l → 1 ≤ n
unfolding IsLiteral
some_level zero l is = absurd is
some_level (suc n) l is = omega arith

open_bracket : (n : ℕ) → literal_first (suc n) true (token.Mark mark.OpenBracket) ≡ Some begin.Array
open_bracket n = rw (above (suc n) (omega arith)) refl

open_brace : (n : ℕ) (arrays : Bool) → 1 ≤ n → literal_first (suc n) arrays (token.Mark mark.OpenBrace) ≡ Some begin.Cluster
open_brace n arrays h = rw (above_one n h) refl

module _ (n : ℕ) (inside : (arrays : Bool) (l : Lit) → IsLiteral n l → (arrays ≡ false → is_array_at (out-Lit l) ≡ false) → Begun n arrays l) where
  number_begun : (arrays : Bool) (k : ℤ) → IsNumeral k → Begun (suc n) arrays (lit.Number k)
  unfolding literal_rest
  number_begun arrays k is = record { token = token.Number k; good = is; first = begin.Whole (lit.Number k); is = rw (above (suc n) (omega arith)) refl; rest = makes_give (lit.Number k) }

  truth_begun : (arrays b : Bool) → Begun (suc n) arrays (lit.Truth b)
  unfolding literal_rest
  truth_begun arrays true = record { token = token.Word (codes "TRUE"); good = word_is (codes "TRUE") refl; first = begin.Whole (lit.Truth true); is = rw (above (suc n) (omega arith)) refl; rest = makes_give (lit.Truth true) }
  truth_begun arrays false = record { token = token.Word (codes "FALSE"); good = word_is (codes "FALSE") refl; first = begin.Whole (lit.Truth false); is = rw (above (suc n) (omega arith)) refl; rest = makes_give (lit.Truth false) }

  text_begun : (arrays : Bool) (v : List ℕ) → IsBytes v → Begun (suc n) arrays (lit.Text v)
  unfolding literal_rest
  text_begun arrays v is = record { token = token.Text v; good = is; first = begin.Whole (lit.Text v); is = rw (above (suc n) (omega arith)) refl; rest = makes_give (lit.Text v) }

  null_begun : (arrays : Bool) → Begun (suc n) arrays lit.Null
  unfolding literal_rest
  null_begun arrays = record { token = token.Word (codes "null"); good = word_is (codes "null") refl; first = begin.Whole lit.Null; is = rw (above (suc n) (omega arith)) refl; rest = makes_give lit.Null }

  abbrev IsItem : Lit → Type 0
  IsItem item = IsLiteral n item × (is_array_at (out-Lit item) ≡ false)

  further : (x : Lit) → IsItem x → Begins comma_or_bracket (next_item (literals n false)) (inl x)
  further x is = record { token = token.Mark mark.Comma; good = tt; first = true; is = refl; rest = makes_bind (makes_begun (inside false x is.0 (λ e. is.1))) (makes_give (inl x)) }

  closed : Begins comma_or_bracket (next_item (literals n false)) (inr tt)
  closed = record { token = token.Mark mark.CloseBracket; good = tt; first = false; is = refl; rest = makes_give (inr tt) }

  array_rest_made : (items : List Lit) → All IsItem items → Makes (literal_rest (suc n) begin.Array) (lit.Array items)
  unfolding literal_rest
  array_rest_made [] all = makes_bind (makes_mark mark.CloseBracket (inr tt) refl) (makes_give (lit.Array []))
  array_rest_made (x ∷ xs) all =
      let is = All-head IsItem x xs all in
      let b = inside false x is.0 (λ e. is.1) in
      let more = All-tail IsItem x xs all in
      makes_bind (makes_take b.token (inl b.first) b.good (first_one (literal_first n false) close_bracket b.token b.first b.is))
      (makes_bind b.rest (makes_bind (makes_loop xs tt (λ k d lt. further (get_or xs k d) (more k d lt)) closed) (makes_give (lit.Array (x ∷ xs)))))

  cluster_rest_made : (items : List Lit) → 1 ≤ length items → length items ≤ 64 → All (IsLiteral n) items → Makes (literal_rest (suc n) begin.Cluster) (lit.Cluster items)
  unfolding literal_rest
  cluster_rest_made [] some few all = absurd (omega arith)
  cluster_rest_made (x ∷ xs) some few all =
      let made : All (Makes (literals n true)) (x ∷ xs) = λ k d lt. makes_begun (inside true (get_or (x ∷ xs) k d) (all k d lt) (λ e. absurd (true_is_not e))) in
      makes_bind (All-head (Makes (literals n true)) x xs made) (makes_bind (makes_others 63 xs (omega arith) (All-tail (Makes (literals n true)) x xs made)) (makes_give (lit.Cluster (x ∷ xs))))

  first_level : (items : List Lit) → 1 ≤ length items → All (IsLiteral n) items → 1 ≤ n
  first_level [] some all = absurd (omega arith)
  first_level (x ∷ xs) some all = some_level n x (All-head (IsLiteral n) x xs all)

  level_begun : (arrays : Bool) (x : Lit-F Lit) → IsLiteralAt (IsLiteral n) x → (arrays ≡ false → is_array_at x ≡ false) → Begun (suc n) arrays (roll-Lit x)
  level_begun arrays (Lit-F.Number k) is apart = subst (Begun (suc n) arrays) (sym (lit.rolls-Number k)) (number_begun arrays k is)
  level_begun arrays (Lit-F.Truth b) is apart = subst (Begun (suc n) arrays) (sym (lit.rolls-Truth b)) (truth_begun arrays b)
  level_begun arrays (Lit-F.Text v) is apart = subst (Begun (suc n) arrays) (sym (lit.rolls-Text v)) (text_begun arrays v is)
  level_begun arrays Lit-F.Null is apart = subst (Begun (suc n) arrays) (sym lit.rolls-Null) (null_begun arrays)
  level_begun true (Lit-F.Array items) is apart =
      subst (Begun (suc n) true) (sym (lit.rolls-Array items)) (record { token = token.Mark mark.OpenBracket; good = tt; first = begin.Array; is = open_bracket n; rest = array_rest_made items is })
  level_begun false (Lit-F.Array items) is apart = absurd (true_is_not (apart refl))
  level_begun arrays (Lit-F.Cluster items) is apart =
      subst (Begun (suc n) arrays) (sym (lit.rolls-Cluster items))
      (record { token = token.Mark mark.OpenBrace; good = tt; first = begin.Cluster; is = open_brace n arrays (first_level items is.0 is.2); rest = cluster_rest_made items is.0 is.1 is.2 })

literal_begun : (n : ℕ) (arrays : Bool) (l : Lit) → IsLiteral n l → (arrays ≡ false → is_array_at (out-Lit l) ≡ false) → Begun n arrays l
unfolding IsLiteral
literal_begun zero arrays l is apart = absurd is
literal_begun (suc n) arrays l is apart = subst (Begun (suc n) arrays) (roll-out-Lit l) (level_begun n (literal_begun n) arrays (out-Lit l) is apart)

pub makes_literal : (l : Lit) → IsLiteral 8 l → Makes (literals 8 true) l
makes_literal l is = makes_begun (literal_begun 8 true l is (λ e. absurd (true_is_not e)))
