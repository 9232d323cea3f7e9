-- A refusal, said of bytes.
use Rattle.std.proofs.Common.{◌≡◌, ℕ, Bool, true, false, List, [], ◌∷◌, ◌++◌, map, refl, sym, ap, ◌∙◌, subst, append_assoc, inl, inr, ◌⊎◌}
use Rattle.std.specs.Prelude.{Result, Ok, Err}
use Rattle.std.specs.List.{list_all}
use Rattle.std.proofs.lemmas.Bool.{and_parts}
use Rattle.std.proofs.lemmas.List.{append-nil, map-append}
use Rattle.std.proofs.lemmas.List.Folds.{list_all-append}
use Rattle.g_grammar.specs.Grammar.{read, all_read, IsRefused, Like}
use Rattle.g_grammar.proofs.Live.{all_ok}
use Rattle.g_diagram.specs.declared.hierarchy.Hierarchy.{Hierarchy}
use Rattle.g_tokens.specs.declared.token.Token.{Token}
use Rattle.g_tokens.specs.declared.token.Token.TheVariants as token
use Rattle.g_tokens.specs.declared.token.Spot.{Spot}
use Rattle.g_tokens.specs.Tokens.{placed_tokens, tokens_of}
use Rattle.g_listing_grammar.specs.Listing.{listing, HasHierarchy, IsListing}
use Rattle.g_listing.specs.Refusal.{IsRefusal}
use Rattle.g_listing.specs.declared.listing.ListingRefused.TheVariants as refused
use Rattle.g_print_laws.specs.Bytes.{IsBytes}
use Rattle.g_print_laws.proofs.Lexing.{both}
use Rattle.g_print_laws.proofs.Parts.{AreGood}
use Rattle.g_print_laws.proofs.GoodTokens.{tokens_good}
use Rattle.g_listing_completions.specs.Completion.{IsFirstRefusedInBytes}
use Rattle.g_listing_completions.proofs.Places.{aligned, one_front}
use Rattle.g_listing_completions.proofs.Over.{refused_over}
use Rattle.g_listing_completions.proofs.Good.{Good, token_of, goods, are_good}
use Rattle.g_listing_completions.proofs.Forms.{State, fresh, midway, done, lost, step, run, run_both}
use Rattle.g_listing_completions.proofs.BorderForms.{going}
use Rattle.g_listing_completions.proofs.ListingForms.{listing_form}
use Rattle.g_listing_completions.proofs.Lexical.{is_clean}
use Rattle.g_listing_completions.proofs.CutLines.{parted, split_bytes}
use Rattle.g_listing_completions.proofs.Written.{one_byte, lost_stays, written}

-- ---- the tokens of a listing

run_all : (ts : List Token) (h : Hierarchy) → HasHierarchy ts h → run fresh ts ≡ done
run_all ts h has =
    let p = listing_form.runs ts h [] has in
    ap (run fresh) (p.1 ∙ append-nil p.0) ∙ p.2

after_bad : (s : State) → step s token.Bad ≡ lost
after_bad fresh = refl
after_bad midway = refl
after_bad done = refl
after_bad lost = refl

clean_or_bad : (t : Token) → (is_clean t ≡ true) ⊎ (t ≡ token.Bad)
clean_or_bad token.Bad = inr refl
clean_or_bad t = inl refl

clean_run : (s : State) (ts : List Token) → run s ts ≡ done → list_all is_clean ts ≡ true
clean_run s [] e = refl
clean_run s (t ∷ ts) e = elim (clean_or_bad t) [
  | inl h ↦ both (is_clean t) (list_all is_clean ts) h (clean_run (step s t) ts e)
  | inr h ↦ absurd (lost_stays ts (ap (λ (u : State). run u ts) (sym (ap (step s) h ∙ after_bad s)) ∙ e))
]

clean_front : (a b : List Token) → run fresh (a ++ b) ≡ done → list_all is_clean a ≡ true
clean_front a b e = (and_parts (list_all is_clean a) (list_all is_clean b) (sym (list_all-append is_clean a b) ∙ clean_run fresh (a ++ b) e)).0

parted_bytes : (amid : Bool) (bytes : List ℕ) → IsBytes bytes → IsBytes (parted amid bytes)
parted_bytes true bytes h = one_byte 32 bytes refl h
parted_bytes false bytes h = one_byte 10 bytes refl h

-- ---- the refusal

-- a listing goes on from these tokens with such as bytes can have
abbrev GoesOn : List Token → Type 0
GoesOn before = (completion : List Good) × (h : Hierarchy) × HasHierarchy (before ++ map token_of completion) h

module _ (before : List Token) (t : Token) (after : List Token) (none : (more : List Token) (h : Hierarchy) → HasHierarchy (before ++ t ∷ more) h → ⊥)
    (completion : List Token) (h : Hierarchy) (completed : HasHierarchy (before ++ completion) h) where
  -- reading is refused at this very token
  same_front : (ts bad : List Token) (s : IsRefused listing ts bad) → ts ≡ before ++ t ∷ after → s.before ≡ before
  same_front ts bad s e = elim (aligned s.before before bad (t ∷ after) (sym s.place ∙ e)) [
    | inl same ↦ same
    | inr (inl m) ↦
        absurd (s.refused (m.0 ∷ (m.1 ++ completion)) h (subst (λ (l : List Token). Like l (m.0 ∷ (m.1 ++ completion))) (sym m.3) refl)
        (subst (λ (l : List Token). HasHierarchy l h) (ap (λ (l : List Token). l ++ completion) m.2 ∙ append_assoc s.before (m.0 ∷ m.1) completion) completed))
    | inr (inr m) ↦
        let same : t ≡ m.0 = cc in
        absurd (none (m.1 ++ s.completion) s.value
        (subst (λ (l : List Token). HasHierarchy l s.value) (ap (λ (l : List Token). l ++ s.completion) m.2 ∙ append_assoc before (m.0 ∷ m.1) s.completion ∙ ap (λ (u : Token). before ++ u ∷ (m.1 ++ s.completion)) (sym same)) s.completed))
  ]

  goes_on : (ts : List Token) → AreGood ts → ts ≡ before ++ t ∷ after → GoesOn before
  goes_on ts good e = go (all_read (read listing ts)) refl
    where
      go : (r : Result Hierarchy (List Token)) → all_read (read listing ts) ≡ r → GoesOn before
      go (Ok i) f = absurd (none after i (subst (λ (l : List Token). HasHierarchy l i) e (all_ok listing ts i (read listing ts) refl f)))
      go (Err bad) f =
          let gs = goods ts good in
          let q = refused_over token_of listing listing_form.live gs.0 bad (ap (λ (l : List Token). all_read (read listing l)) gs.1 ∙ f) in
          let s = q.0 in
          let same : s.before ≡ before = same_front (map token_of gs.0) bad s (gs.1 ∙ e) in
          (q.1, s.value, subst (λ (l : List Token). HasHierarchy l s.value) (ap (λ (l : List Token). l ++ s.completion) same ∙ ap (λ (l : List Token). before ++ l) q.2) s.completed)

listing_by : (bytes : List ℕ) (ts : List Token) (h : Hierarchy) → tokens_of (placed_tokens bytes) ≡ ts → HasHierarchy ts h → IsListing bytes h
listing_by bytes ts h e has = subst (λ (l : List Token). HasHierarchy l h) (sym e) has

tokens_by : (bytes : List ℕ) (ts : List Token) (h : Hierarchy) → tokens_of (placed_tokens bytes) ≡ ts → IsListing bytes h → HasHierarchy ts h
tokens_by bytes ts h e has = subst (λ (l : List Token). HasHierarchy l h) e has

in_bytes : (bytes : List ℕ) (spot : Spot) → IsBytes bytes → (before after : List (Token × Spot)) (t : Token) → placed_tokens bytes ≡ before ++ (t, spot) ∷ after
    → ((more : List Token) (h : Hierarchy) → HasHierarchy (tokens_of before ++ t ∷ more) h → ⊥)
    → (completion : List Token) (h : Hierarchy) → HasHierarchy (tokens_of before ++ completion) h
    → IsFirstRefusedInBytes bytes spot
in_bytes bytes spot are before after t split none completion h completed =
    let first = tokens_of before in
    let all : tokens_of (placed_tokens bytes) ≡ first ++ t ∷ tokens_of after = ap tokens_of split ∙ map-append (λ (x : Token × Spot). x.0) before ((t, spot) ∷ after) in
    let g = goes_on first t (tokens_of after) none completion h completed (tokens_of (placed_tokens bytes)) (tokens_good bytes are) all in
    let further : List Token = map token_of g.0 in
    let ends : run fresh (first ++ further) ≡ done = run_all (first ++ further) g.1 g.2 in
    let s = split_bytes bytes before after (t, spot) split (clean_front first further ends) in
    let left : run (going s.amid) further ≡ done = ap (λ (u : State). run u further) (sym s.state) ∙ sym (run_both fresh first further) ∙ ends in
    let w = written further s.amid (are_good g.0) left in
    let full = s.goes w.0 further w.2 in
    let kept : tokens_of (placed_tokens (s.front ++ parted s.amid w.0)) ≡ first ++ further = full.lines 1 in
    record {
      before = before;
      token = t;
      after = after;
      split = split;
      refused = λ others more i e has. none more i (tokens_by others (first ++ t ∷ more) i e has);
      front = s.front;
      back = s.back;
      parts = s.parts;
      place = s.there;
      all = s.all;
      only = λ other back e same. one_front other back s.front s.back (sym e ∙ s.parts) (same ∙ sym s.there);
      completion = parted s.amid w.0;
      are_bytes = parted_bytes s.amid w.0 w.1;
      hierarchy = g.1;
      completed = listing_by (s.front ++ parted s.amid w.0) (first ++ further) g.1 kept g.2;
      further = further;
      kept = kept;
    }

pub refused_in_bytes : (bytes : List ℕ) (spot : Spot) → IsBytes bytes → IsRefusal bytes (refused.Syntax spot) → IsFirstRefusedInBytes bytes spot
refused_in_bytes bytes spot are r = let f = r.1 in in_bytes bytes spot are f.before f.after f.token f.split f.refused f.completion f.hierarchy f.completed
