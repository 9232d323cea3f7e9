-- What can be listed is had by its canonical text.
use Rattle.std.proofs.Common.{◌≡◌, ℕ, ◌<◌, ◌≤◌, ◌^◌, List, [], ◌∷◌, ◌++◌, length, pos, Some, refl, sym, subst, codes, inl, inr, arith}
use Rattle.std.specs.Fmt.{decimal}
use Rattle.std.specs.List.{All}
use Rattle.std.proofs.lemmas.Fmt.{decimal_digit}
use Rattle.std.proofs.lemmas.List.Elements.{All-head, All-tail}
use Rattle.g_grammar.specs.Grammar.{Has, Phrases, or_else}
use Rattle.g_tokens.specs.declared.token.Token.{Token}
use Rattle.g_tokens.specs.declared.token.Token.TheVariants as token
use Rattle.g_diagram.specs.declared.hierarchy.Clones.{Clones}
use Rattle.g_diagram.specs.declared.hierarchy.Clones.TheVariants as clones
use Rattle.g_diagram.specs.declared.hierarchy.System.{System}
use Rattle.g_diagram.specs.declared.hierarchy.System.TheVariants as system
use Rattle.g_diagram.specs.declared.hierarchy.Vi.{Vi}
use Rattle.g_diagram.specs.declared.hierarchy.Hierarchy.{Hierarchy}
use Rattle.g_diagram.specs.Text as text
use Rattle.g_diagram.specs.Words.{clones_text, system_text}
use Rattle.g_listing_grammar.specs.declared.HeaderWord.TheVariants as header
use Rattle.g_listing_grammar.specs.declared.ClonesWord.TheVariants as clones_word
use Rattle.g_listing_grammar.specs.Listing.{kind, system_or_eol, after_clones, vi_rest, vi_word, at_end, vi_or_end, vis, HasHierarchy, IsListing}
use Rattle.g_listing_laws.specs.Spelled.{IsPoolSize}
use Rattle.g_print_laws.proofs.Lexing.{Full, Inside, finish, space}
use Rattle.g_print_laws.proofs.NumberPieces.{number_piece}
use Rattle.g_print_laws.proofs.Parts.{Rest, AreGood, a_word, a_feed}
use Rattle.g_print_laws.proofs.BorderParts.{a_line}
use Rattle.g_print_laws.proofs.PanelParts.{body_text, body_says}
use Rattle.g_listing_listable.specs.Listable.{IsName, IsVi, CanBeListed}
use Rattle.g_listing_listable.proofs.MakePhrases.{all_good}
use Rattle.g_listing_listable.proofs.MakeTokens.{word_is, between_is}
use Rattle.g_listing_listable.proofs.MakePanels.{makes_body}

-- ---- the header

pub system_named : (s : System) → IsName (system_text s)
system_named system.Ui = refl
system_named system.Standard = refl
system_named system.Instrument = refl
system_named system.Daq = refl
system_named system.Other1 = refl
system_named system.Other2 = refl
system_named system.Same = refl

system_says : (s : System) → system_or_eol (token.Word (system_text s)) ≡ Some (Some s)
system_says system.Ui = refl
system_says system.Standard = refl
system_says system.Instrument = refl
system_says system.Daq = refl
system_says system.Other1 = refl
system_says system.Other2 = refl
system_says system.Same = refl

system_has : (c : Clones) (s : System) (rest : List Token) → Has (after_clones c) (token.Word (system_text s) ∷ token.Eol ∷ rest) (c, s) rest
system_has c s rest = (Some s, token.Eol ∷ rest, (system_says s, refl), (tt, rest, (refl, refl), (refl, refl)))

-- both words of a header
record HeaderMade (c : Clones) (s : System) : Type 0 where
  tokens : List Token
  good : AreGood tokens
  has : (rest : List Token) → Has kind (tokens ++ rest) (c, s) rest
  written : (bytes : List ℕ) (rest : List Token) → Full bytes rest → Rest (text.word (clones_text c) (text.word (system_text s) (10 ∷ bytes))) (tokens ++ rest)

system_written : (s : System) (bytes : List ℕ) (rest : List Token) → Full bytes rest → Rest (text.word (system_text s) (10 ∷ bytes)) (token.Word (system_text s) ∷ token.Eol ∷ rest)
system_written s bytes rest f = a_word (system_text s) (word_is (system_text s) (system_named s)) (a_feed f)

header_made : (c : Clones) (s : System) → IsPoolSize c → HeaderMade c s
header_made clones.NonReentrant s size =
    let w = word_is (codes "nonreentrant") refl in
    record {
      tokens = token.Word (codes "nonreentrant") ∷ token.Word (system_text s) ∷ token.Eol ∷ [];
      good = (w, (word_is (system_text s) (system_named s), (tt, tt)));
      has = λ rest. (header.Clones clones_word.NonReentrant, token.Word (system_text s) ∷ token.Eol ∷ rest, (refl, refl), system_has clones.NonReentrant s rest);
      written = λ bytes rest f. a_word (codes "nonreentrant") w (system_written s bytes rest f);
    }
header_made clones.Preallocated s size =
    let w = word_is (codes "preallocated") refl in
    record {
      tokens = token.Word (codes "preallocated") ∷ token.Word (system_text s) ∷ token.Eol ∷ [];
      good = (w, (word_is (system_text s) (system_named s), (tt, tt)));
      has = λ rest. (header.Clones clones_word.Preallocated, token.Word (system_text s) ∷ token.Eol ∷ rest, (refl, refl), system_has clones.Preallocated s rest);
      written = λ bytes rest f. a_word (codes "preallocated") w (system_written s bytes rest f);
    }
header_made (clones.Pool n) s size =
    let w = word_is (codes "pool") refl in
    let few : n ≤ 64 = size.1 in
    let short : n < 10 ^ 20 = omega arith in
    record {
      tokens = token.Word (codes "pool") ∷ token.Number (pos n) ∷ token.Word (system_text s) ∷ token.Eol ∷ [];
      good = (w, (short, (word_is (system_text s) (system_named s), (tt, tt))));
      has = λ rest. (
        header.Clones clones_word.Pool,
        token.Number (pos n) ∷ token.Word (system_text s) ∷ token.Eol ∷ rest,
        (refl, refl),
        (n, token.Word (system_text s) ∷ token.Eol ∷ rest, (between_is 1 64 n size.0 size.1, refl), system_has (clones.Pool n) s rest),
      );
      written = λ bytes rest f.
          let r = system_written s bytes rest f in
          a_word (codes "pool") w (record { bound = refl; inside = space (number_piece (pos n) short r.bound r.inside) });
    }

-- ---- VIs

-- a VI after its first word
abbrev vi_tail : Vi → List ℕ → List ℕ
vi_tail vi more = text.word vi.name (text.word (clones_text vi.clones) (text.word (system_text vi.system) (10 ∷ body_text vi more)))

record ViMade (vi : Vi) (bytes : List ℕ) (rest : List Token) : Type 0 where
  tokens : List Token
  has : Has (vi_rest 1) tokens vi rest
  good : AreGood tokens
  written : Rest (vi_tail vi bytes) tokens

vi_made : (vi : Vi) → IsVi vi → (bytes : List ℕ) (rest : List Token) → Full bytes rest → AreGood rest → ViMade vi bytes rest
vi_made vi is bytes rest f good =
    let b = makes_body vi is.panel is.top in
    let h = header_made vi.clones vi.system is.clones in
    let after : List Token = b.tokens ++ rest in
    let after_good : AreGood after = all_good b.tokens rest b.good good in
    let full : Full (body_text vi bytes) after = (body_says 1 vi.name (vi.clones, vi.system)).says after vi rest (b.has rest) after_good bytes f in
    record {
      tokens = token.Word vi.name ∷ (h.tokens ++ after);
      has = (vi.name, h.tokens ++ after, (refl, refl), ((vi.clones, vi.system), after, h.has after, b.has rest));
      good = (word_is vi.name is.name, all_good h.tokens after h.good after_good);
      written = a_word vi.name (word_is vi.name is.name) (h.written (body_text vi bytes) after full);
    }

record VisMade (is : List Vi) : Type 0 where
  tokens : List Token
  has : Phrases (or_else vi_word at_end) (λ c. Has (vi_or_end 1 c)) tokens is tt []
  good : AreGood tokens
  written : Full (text.vis_text is []) tokens

vis_made : (is : List Vi) → All IsVi is → VisMade is
vis_made [] all = record { tokens = token.End ∷ []; has = (inr tt, refl, (refl, refl)); good = (tt, tt); written = finish }
vis_made (x ∷ xs) all =
    let others = vis_made xs (All-tail IsVi x xs all) in
    let vi = vi_made x (All-head IsVi x xs all) (text.vis_text xs []) others.tokens others.written others.good in
    record {
      tokens = token.Word (codes "vi") ∷ vi.tokens;
      has = (inl tt, others.tokens, refl, (x, others.tokens, vi.has, (refl, refl)), others.has);
      good = (word_is (codes "vi") refl, vi.good);
      written = a_line 0 (codes "vi") (word_is (codes "vi") refl) vi.written;
    }

-- ---- a listing

record ListingMade (is : List Vi) : Type 0 where
  tokens : List Token
  has : HasHierarchy tokens (record { vis = is })
  written : Full (text.text_of (record { vis = is })) tokens

listing_made : (is : List Vi) → 1 ≤ length is → All IsVi is → ListingMade is
listing_made [] some all = absurd (omega arith)
listing_made (x ∷ xs) some all =
    let others = vis_made xs (All-tail IsVi x xs all) in
    let vi = vi_made x (All-head IsVi x xs all) (text.vis_text xs []) others.tokens others.written others.good in
    let new : List Token = token.Word (codes "vi") ∷ vi.tokens in
    let vis_has : Has (vis 1) new (x ∷ xs) [] = (tt, vi.tokens, (refl, refl), (x, others.tokens, vi.has, ((xs, tt), [], others.has, (refl, refl)))) in
    let full : Full (text.vis_text (x ∷ xs) []) new = a_line 0 (codes "vi") (word_is (codes "vi") refl) vi.written in
    let digit : decimal 1 ≡ 49 ∷ [] = decimal_digit 1 (omega arith) in
    let r = a_feed full in
    let number : Inside (decimal 1 ++ (10 ∷ text.vis_text (x ∷ xs) [])) (token.Number (pos 1) ∷ token.Eol ∷ new) = number_piece (pos 1) (omega arith) r.bound r.inside in
    let plain : Inside (49 ∷ 10 ∷ text.vis_text (x ∷ xs) []) (token.Number (pos 1) ∷ token.Eol ∷ new) =
    subst (λ (l : List ℕ). Inside (l ++ (10 ∷ text.vis_text (x ∷ xs) [])) (token.Number (pos 1) ∷ token.Eol ∷ new)) digit number in
    record {
      tokens = token.Word (codes "glisting") ∷ token.Number (pos 1) ∷ token.Eol ∷ new;
      has = (tt, token.Number (pos 1) ∷ token.Eol ∷ new, (refl, refl), (1, token.Eol ∷ new, (refl, refl), (tt, new, (refl, refl), (x ∷ xs, [], vis_has, (refl, refl)))));
      written = a_line 0 (codes "glisting") (word_is (codes "glisting") refl) (record { bound = refl; inside = space plain });
    }

pub written : (h : Hierarchy) → CanBeListed h → IsListing (text.text_of h) h
written h can =
    let m = listing_made h.vis can.some can.vis in
    subst (λ (ts : List Token). HasHierarchy ts h) (sym (m.written.lines 1)) m.has
