-- Tokens that have the selectors and the values of a branch.
use Rattle.std.proofs.Common.{◌≡◌, ℕ, zero, suc, ℤ, ◌≤◌, Bool, true, false, List, [], ◌∷◌, length, get_or, Some, refl, arith, codes, inl, inr}
use Rattle.std.specs.List.{All}
use Rattle.std.proofs.lemmas.List.Elements.{All-head, All-tail}
use Rattle.g_grammar.specs.Grammar.{take}
use Rattle.g_tokens.specs.declared.token.Token.TheVariants as token
use Rattle.g_tokens.specs.declared.token.Mark.TheVariants as mark
use Rattle.g_diagram.specs.declared.node.Selector.{Selector}
use Rattle.g_diagram.specs.declared.node.Selector.TheVariants as selector
use Rattle.g_diagram.specs.Lines.{Wire}
use Rattle.g_listing_grammar.specs.declared.SelectorFirst.TheVariants as first
use Rattle.g_listing_grammar.specs.Words.{comma_or_eol}
use Rattle.g_listing_grammar.specs.Nodes.{selector_first, selector_rest, selector_item, selectors, gives}
use Rattle.g_listing_listable.specs.Listable.{IsName, IsWire, IsSelector}
use Rattle.g_listing_listable.proofs.MakePhrases.{Makes, Begins, makes_give, makes_take, makes_bind, begins_bind, turn_of, makes_ended, makes_from_ended}
use Rattle.g_listing_listable.proofs.MakeTokens.{word_is, makes_word, makes_mark, makes_number, makes_eol, makes_exactly}

makes_comma : (more : Bool) → Makes (take comma_or_eol) more
makes_comma true = makes_mark mark.Comma true refl
makes_comma false = makes_take token.Eol false tt refl

-- a number without another
makes_alone : (n : ℤ) (more : Bool) → Makes (selector_rest (first.Number n)) (selector.Number n, more)
makes_alone n true = makes_bind (makes_mark mark.Comma (inr true) refl) (makes_give (selector.Number n, true))
makes_alone n false = makes_bind (makes_take token.Eol (inr false) tt refl) (makes_give (selector.Number n, false))

whole : (u : List ℕ) → IsName u → (s : Selector) → selector_first (token.Word u) ≡ Some (first.Whole s) → (more : Bool) → Begins selector_first selector_rest (s, more)
whole u is s e more = record { token = token.Word u; good = word_is u is; first = first.Whole s; is = e; rest = makes_bind (makes_comma more) (makes_give (s, more)) }

selector_begun : (s : Selector) → IsSelector s → (more : Bool) → Begins selector_first selector_rest (s, more)
selector_begun (selector.Number n) is more = record { token = token.Number n; good = is; first = first.Number n; is = refl; rest = makes_alone n more }
selector_begun (selector.Range low high) is more = record {
  token = token.Number low;
  good = is.0;
  first = first.Number low;
  is = refl;
  rest = makes_bind (makes_mark mark.Dots (inl tt) refl) (makes_bind (makes_number high is.1) (makes_bind (makes_comma more) (makes_give (selector.Range low high, more))));
}
selector_begun (selector.Truth true) is more = whole (codes "TRUE") refl (selector.Truth true) refl more
selector_begun (selector.Truth false) is more = whole (codes "FALSE") refl (selector.Truth false) refl more
selector_begun (selector.Text v) is more = record { token = token.Text v; good = is; first = first.Whole (selector.Text v); is = refl; rest = makes_bind (makes_comma more) (makes_give (selector.Text v, more)) }
selector_begun selector.Default is more = whole (codes "default") refl selector.Default refl more

-- one, after which there are others or not
item_begun : (s : Selector) → IsSelector s → (more : Bool) → Begins selector_first selector_item (turn_of more s)
item_begun s is true = begins_bind (selector_begun s is true) (makes_give (inl s))
item_begun s is false = begins_bind (selector_begun s is false) (makes_give (inr s))

pub selectors_begun : (ss : List Selector) → 1 ≤ length ss → All IsSelector ss → Begins selector_first selectors ss
selectors_begun [] some all = absurd (omega arith)
selectors_begun (s ∷ []) some all = begins_bind (item_begun s (All-head IsSelector s [] all) false) (makes_give (s ∷ []))
selectors_begun (s ∷ t ∷ ts) some all =
    let more = All-tail IsSelector s (t ∷ ts) all in
    begins_bind (item_begun s (All-head IsSelector s (t ∷ ts) all) true)
    (makes_from_ended (λ ss. s ∷ ss) (makes_ended selector_first selector_item t ts (λ k d lt. item_begun (get_or (t ∷ ts) k d) (more k d lt))))

pub makes_gives : (n : ℕ) (ws : List Wire) → length ws ≡ n → All IsWire ws → Makes (gives n) ws
makes_gives zero [] e all = makes_give []
makes_gives zero (w ∷ ws) e all = absurd (omega arith)
makes_gives (suc n) ws e all = makes_bind (makes_word (codes "give") tt refl refl) (makes_bind (makes_exactly (suc n) ws e all) (makes_bind makes_eol (makes_give ws)))
