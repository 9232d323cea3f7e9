-- The place of the refused token.
use Rattle.std.proofs.Common.{◌≡◌, ℕ, suc, ◌-◌, ◌<◌, ◌≤◌, List, [], ◌∷◌, ◌++◌, length, map, Some, refl, sym, ap, subst, ◌∙◌, arith, append_assoc, length-append}
use Rattle.std.proofs.lemmas.Bool.{eqb-true}
use Rattle.std.proofs.lemmas.List.{append-nil, map-append, length-map}
use Rattle.std.specs.Prelude.{Ok, Err, slice_get, ◌==◌, Bool, true, false}
use Rattle.g_grammar.specs.Grammar.{Read, read, all_read, IsRefused, Like}
use Rattle.g_grammar.proofs.Laws.{same}
use Rattle.g_grammar.proofs.Live.{all_ok, all_err}
use Rattle.g_diagram.specs.declared.hierarchy.Hierarchy.{Hierarchy}
use Rattle.g_tokens.specs.declared.token.Token.{Token}
use Rattle.g_tokens.specs.declared.token.Token.TheVariants as token
use Rattle.g_tokens.specs.declared.token.Spot.{Spot}
use Rattle.g_tokens.specs.Tokens.{lines, cut, lines_tokens, line_tokens, lexemes, content, placed, placed_tokens, tokens_of, places_of}
use Rattle.g_listing_grammar.specs.Listing.{listing, HasHierarchy, IsListing}
use Rattle.g_listing_grammar.proofs.LiveListing.{live_listing}
use Rattle.g_listing.specs.declared.listing.ListingRefused.TheVariants as refused
use Rattle.g_listing.specs.Refusal.{IsOnly, IsRefusal}
use Rattle.g_listing.proofs.Lacks.{Ends, listing_ends, nothing_after}

-- ---- the last token is END

abbrev LastIsEnd : List Token → Type 0
LastIsEnd ts = (pre : List Token) × (ts ≡ pre ++ token.End ∷ [])

further_end : (a b : List (Token × Spot)) → LastIsEnd (tokens_of b) → LastIsEnd (tokens_of (a ++ b))
further_end a b h =
    (tokens_of a ++ h.0, map-append (λ (x : Token × Spot). x.0) a b ∙ ap (λ (u : List Token). tokens_of a ++ u) h.1 ∙ sym (append_assoc (tokens_of a) h.0 (token.End ∷ [])))

line_end : (n : ℕ) (l : List ℕ) (ls : List (List ℕ)) → LastIsEnd (tokens_of (lines_tokens n (l ∷ ls)))
line_end n l [] = further_end (line_tokens n (lexemes true 0 0 (content l))) (placed n token.End (length l) ∷ []) ([], refl)
line_end n l (m ∷ ls) = further_end (line_tokens n (lexemes true 0 0 (content l))) (lines_tokens (suc n) (m ∷ ls)) (line_end (suc n) m ls)

cut_end : (n : ℕ) (begun : List ℕ) (b : ℕ) (go : List ℕ → List (List ℕ)) → ((begun : List ℕ) → LastIsEnd (tokens_of (lines_tokens n (go begun)))) → (v : Bool) → LastIsEnd (tokens_of (lines_tokens n (cut v begun b go)))
cut_end n begun b go ih true = line_end n begun (go [])
cut_end n begun b go ih false = ih (begun ++ b ∷ [])

lines_end : (n : ℕ) (begun bytes : List ℕ) → LastIsEnd (tokens_of (lines_tokens n (lines begun bytes)))
unfolding lines
lines_end n begun [] = line_end n begun []
lines_end n begun (b ∷ bytes) = cut_end n begun b (λ l. lines l bytes) (λ l. lines_end n l bytes) (b == 10)

-- ---- tokens with their places

split_map : {A B : Type 0} (f : A → B) (l : List A) (u v : List B) → map f l ≡ u ++ v → (a b : List A) × (l ≡ a ++ b) × (map f a ≡ u) × (map f b ≡ v)
split_map f l [] v e = ([], l, refl, refl, e)
split_map f [] (x ∷ u) v e = absurd cc
split_map {A} {B} f (y ∷ l) (x ∷ u) v e =
    let h : f y ≡ x = cc in
    let t : map f l ≡ u ++ v = cc in
    let r = split_map f l u v t in
    (y ∷ r.0, r.1, ap (λ (m : List A). y ∷ m) r.2, ap (λ (z : B). z ∷ map f r.0) h ∙ ap (λ (m : List B). x ∷ m) r.3, r.4)

at_length : (a b : List (Token × Spot)) (x : Token × Spot) → slice_get (places_of (a ++ x ∷ b)) (length a) ≡ Some x.1
at_length [] b x = refl
at_length (y ∷ a) b x = at_length a b x

place_is : (a b : List (Token × Spot)) (x : Token × Spot) (l : List (Token × Spot)) (spot : Spot) → l ≡ a ++ x ∷ b → slice_get (places_of l) (length (places_of l) - length (x ∷ b)) ≡ Some spot → x.1 ≡ spot
place_is a b x l spot e h =
    let len : length (places_of l) ≡ length l = length-map l (λ (x : Token × Spot). x.1) in
    let n : length (places_of l) - length (x ∷ b) ≡ length a = omega (arith, ap length e, length-append a (x ∷ b)) in
    let g : slice_get (places_of l) (length a) ≡ Some spot = ap (slice_get (places_of l)) (sym n) ∙ h in
    let k : slice_get (places_of l) (length a) ≡ Some x.1 = ap (λ (m : List (Token × Spot)). slice_get (places_of m) (length a)) e ∙ at_length a b x in
    let s : Some x.1 ≡ Some spot = sym k ∙ g in
    cc

like_same : (l : List Token) → Like l l
like_same [] = tt
like_same (t ∷ l) = refl

-- ---- the call

module _ (bytes : List ℕ) (ts : List Token) (places : List Spot) (tokens-are : ts ≡ tokens_of (placed_tokens bytes)) (places-are : places ≡ places_of (placed_tokens bytes)) where
  pub found : (h : Hierarchy) (rest : List Token) → read listing ts ≡ Ok (h, rest) → rest ≡ [] → IsListing bytes h
  found h rest e none =
      let f : read listing ts ≡ Ok (h, []) = e ∙ ap (λ (r : List Token). Ok (h, r)) none in
      subst (λ (l : List Token). HasHierarchy l h) tokens-are (all_ok listing ts h (Ok (h, [])) f refl)

  pub only : (h : Hierarchy) (rest : List Token) → read listing ts ≡ Ok (h, rest) → rest ≡ [] → IsOnly bytes h
  only h rest e none other has = (same listing (tokens_of (placed_tokens bytes)) other h [] [] has (found h rest e none)).0

  -- some token is refused
  some_refused : IsRefused listing ts [] → ⊥
  some_refused s =
      let end = lines_end 1 [] bytes in
      let before : s.before ≡ end.0 ++ token.End ∷ [] = sym (append-nil s.before) ∙ sym s.place ∙ tokens-are ∙ end.1 in
      let whole : Ends ((end.0 ++ token.End ∷ []) ++ s.completion) [] = subst (λ (u : List Token). Ends (u ++ s.completion) []) before (listing_ends (s.before ++ s.completion) [] s.value s.completed) in
      let none : s.completion ≡ [] = nothing_after end.0 s.completion whole in
      s.refused [] s.value tt (subst (λ (u : List Token). HasHierarchy (s.before ++ u) s.value) none s.completed)

  refused_at : (bad : List Token) (r : Read Token Hierarchy) (spot : Spot) → read listing ts ≡ r → all_read r ≡ Err bad → slice_get places (length places - length bad) ≡ Some spot → IsRefusal bytes (refused.Syntax spot)
  refused_at bad r spot e f h = go bad (all_err listing live_listing ts bad r e f) h
    where
      at_token : (bad : List Token) (s : IsRefused listing ts bad) (a b : List (Token × Spot)) (x : Token × Spot) → placed_tokens bytes ≡ a ++ x ∷ b → tokens_of a ≡ s.before → tokens_of (x ∷ b) ≡ bad
          → slice_get places (length places - length bad) ≡ Some spot → IsRefusal bytes (refused.Syntax spot)
      at_token bad s a b x split before rest h =
          let len : length bad ≡ length (x ∷ b) = sym (ap length rest) ∙ length-map (x ∷ b) (λ (x : Token × Spot). x.0) in
          let h2 : slice_get (places_of (placed_tokens bytes)) (length (places_of (placed_tokens bytes)) - length (x ∷ b)) ≡ Some spot =
          subst (λ (n : ℕ). slice_get (places_of (placed_tokens bytes)) (length (places_of (placed_tokens bytes)) - n) ≡ Some spot) len (subst (λ (p : List Spot). slice_get p (length p - length bad) ≡ Some spot) places-are h) in
          let there : x.1 ≡ spot = place_is a b x (placed_tokens bytes) spot split h2 in (
            λ i has. s.refused bad i (like_same bad) (subst (λ (l : List Token). HasHierarchy l i) (sym tokens-are ∙ s.place) has),
            record {
              before = a;
              token = x.0;
              after = b;
              split = split ∙ ap (λ (p : Spot). a ++ (x.0, p) ∷ b) there;
              refused = λ u i has. s.refused (x.0 ∷ u) i (subst (λ (l : List Token). Like l (x.0 ∷ u)) rest refl) (subst (λ (l : List Token). HasHierarchy (l ++ x.0 ∷ u) i) before has);
              completion = s.completion;
              hierarchy = s.value;
              completed = subst (λ (l : List Token). HasHierarchy (l ++ s.completion) s.value) (sym before) s.completed;
            },
          )

      split_at : (bad : List Token) (s : IsRefused listing ts bad) (a b : List (Token × Spot)) → placed_tokens bytes ≡ a ++ b → tokens_of a ≡ s.before → tokens_of b ≡ bad
          → slice_get places (length places - length bad) ≡ Some spot → IsRefusal bytes (refused.Syntax spot)
      split_at bad s a [] split before rest h = absurd (some_refused (subst (λ (l : List Token). IsRefused listing ts l) (sym rest) s))
      split_at bad s a (x ∷ b) split before rest h = at_token bad s a b x split before rest h

      go : (bad : List Token) → IsRefused listing ts bad → slice_get places (length places - length bad) ≡ Some spot → IsRefusal bytes (refused.Syntax spot)
      go bad s h =
          let q = split_map (λ (x : Token × Spot). x.0) (placed_tokens bytes) s.before bad (sym tokens-are ∙ s.place) in
          split_at bad s q.0 q.1 q.2 q.3 q.4 h

  pub refused_after : (h : Hierarchy) (rest : List Token) (spot : Spot) → read listing ts ≡ Ok (h, rest) → (rest ≡ [] → ⊥) → slice_get places (length places - length rest) ≡ Some spot → IsRefusal bytes (refused.Syntax spot)
  refused_after h [] spot e some p = absurd (some refl)
  refused_after h (t ∷ rest) spot e some p = refused_at (t ∷ rest) (Ok (h, t ∷ rest)) spot e refl p

  pub refused_in : (bad : List Token) (spot : Spot) → read listing ts ≡ Err bad → slice_get places (length places - length bad) ≡ Some spot → IsRefusal bytes (refused.Syntax spot)
  refused_in bad spot e p = refused_at bad (Err bad) spot e refl p

  within : (bad : List Token) → IsRefused listing ts bad → length bad ≤ length places
  within bad s =
      omega (arith, ap length s.place, length-append s.before bad, ap length tokens-are, ap length places-are, length-map (placed_tokens bytes) (λ (x : Token × Spot). x.0), length-map (placed_tokens bytes) (λ (x : Token × Spot). x.1))

  pub few_left : (bad : List Token) → read listing ts ≡ Err bad → length bad ≤ length places
  few_left bad e = within bad (all_err listing live_listing ts bad (Err bad) e refl)

  pub some_left : (bad : List Token) → read listing ts ≡ Err bad → 0 < length bad
  some_left [] e = absurd (some_refused (all_err listing live_listing ts [] (Err []) e refl))
  some_left (t ∷ bad) e = omega arith

  pub few_after : (h : Hierarchy) (rest : List Token) → read listing ts ≡ Ok (h, rest) → (rest ≡ [] → ⊥) → length rest ≤ length places
  few_after h [] e some = absurd (some refl)
  few_after h (t ∷ rest) e some = within (t ∷ rest) (all_err listing live_listing ts (t ∷ rest) (Ok (h, t ∷ rest)) e refl)

pub some_after : (rest : List Token) → (rest ≡ [] → ⊥) → 0 < length rest
some_after [] some = absurd (some refl)
some_after (t ∷ rest) some = omega arith

-- ---- what a test of emptiness says

pub empty_of : (l : List Token) → (length l == 0) ≡ true → l ≡ []
empty_of [] e = refl
empty_of (t ∷ l) e = let none : length (t ∷ l) ≡ 0 = eqb-true (length (t ∷ l)) 0 e in absurd (omega arith)

pub some_of : (l : List Token) → (length l == 0) ≡ false → l ≡ [] → ⊥
some_of [] e f = absurd cc
some_of (t ∷ l) e f = absurd cc
