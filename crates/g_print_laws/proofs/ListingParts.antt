-- Listings: the canonical text of a hierarchy has tokens that have it.
use Rattle.std.proofs.Common.{◌≡◌, ℕ, ◌<◌, ◌≤◌, ◌^◌, Bool, true, false, cond, ◌&&◌, List, [], ◌∷◌, ◌++◌, pos, negsuc, Option, Some, None, refl, sym, ap, ◌∙◌, subst, codes, inl, inr, arith}
use Rattle.std.specs.Prelude.{◌⊎◌, nat_le}
use Rattle.std.specs.Fmt.{decimal}
use Rattle.std.proofs.lemmas.Bool.Decides.{nat_tests}
use Rattle.std.proofs.lemmas.Fmt.{decimal_digit}
use Rattle.g_grammar.specs.Grammar.{Has, Phrases, take, or_else, tail, ◌>>=◌}
use Rattle.g_grammar.proofs.Laws.{first_is, ends, same}
use Rattle.g_tokens.specs.declared.token.Token.{Token}
use Rattle.g_tokens.specs.declared.token.Token.TheVariants as token
use Rattle.g_diagram.specs.declared.hierarchy.Clones.{Clones}
use Rattle.g_diagram.specs.declared.hierarchy.Clones.TheVariants as clones
use Rattle.g_diagram.specs.declared.hierarchy.System.{System}
use Rattle.g_diagram.specs.declared.hierarchy.System.TheVariants as system
use Rattle.g_diagram.specs.declared.hierarchy.Vi.{Vi}
use Rattle.g_diagram.specs.declared.hierarchy.Hierarchy.{Hierarchy}
use Rattle.g_diagram.specs.Text as text
use Rattle.g_diagram.specs.Words.{clones_text, system_text}
use Rattle.g_listing_grammar.specs.declared.HeaderWord.{HeaderWord}
use Rattle.g_listing_grammar.specs.declared.HeaderWord.TheVariants as header
use Rattle.g_listing_grammar.specs.declared.ClonesWord.TheVariants as clones_word
use Rattle.g_listing_grammar.specs.Words.{word, name, eol, between, pool_size, version}
use Rattle.g_listing_grammar.specs.Listing.{Kind, header_word, system_or_eol, system_end, after_clones, kind_rest, vi_rest, vi_word, at_end, vi_or_end, vis, listing, HasHierarchy, IsListing}
use Rattle.g_tokens.specs.Tokens.{tokens_of, placed_tokens}
use Rattle.g_print_laws.specs.Bytes.{IsBytes}
use Rattle.g_print_laws.proofs.Lexing.{Full, Inside, IsWord, finish, space}
use Rattle.g_print_laws.proofs.NumberPieces.{number_piece}
use Rattle.g_print_laws.proofs.Parts.{Rest, IsGood, AreGood, after, a_word, a_feed, stands_name}
use Rattle.g_print_laws.proofs.BorderParts.{a_line, between_is}
use Rattle.g_print_laws.proofs.PanelParts.{body, body_text, body_says}
use Rattle.g_print_laws.proofs.GoodTokens.{tokens_good}

-- ---- the header

-- clones that a listing can name
abbrev IsNamed : Clones → Type 0
IsNamed (clones.Pool n) = between 1 64 n ≡ Some n
IsNamed _ = Unit {0}

abbrev clones_tokens : Clones → List Token → List Token
clones_tokens clones.NonReentrant ts = token.Word (codes "nonreentrant") ∷ ts
clones_tokens clones.Preallocated ts = token.Word (codes "preallocated") ∷ ts
clones_tokens (clones.Pool n) ts = token.Word (codes "pool") ∷ token.Number (pos n) ∷ ts

abbrev header_tokens : Kind → List Token → List Token
header_tokens kind ts = clones_tokens kind.0 (token.Word (system_text kind.1) ∷ token.Eol ∷ ts)

end_is : (c : Clones) (o : Option System) (ts : List Token) (kind : Kind) (rest : List Token) → Has (system_end c o) ts kind rest → c ≡ kind.0
end_is c (Some s) ts kind rest h = ap (λ (k : Kind). k.0) h.3.0
end_is c None ts kind rest h = ap (λ (k : Kind). k.0) h.0

after_is : (c : Clones) (ts : List Token) (kind : Kind) (rest : List Token) → Has (after_clones c) ts kind rest → c ≡ kind.0
after_is c ts kind rest h = end_is c h.0 h.1 kind rest h.3

pool_named : (t : Token) (n : ℕ) → pool_size t ≡ Some n → between 1 64 n ≡ Some n
pool_named (token.Number (pos m)) n e = subst (λ (k : ℕ). between 1 64 k ≡ Some n) (between_is 1 64 m n e) e
pool_named (token.Number (negsuc m)) n e = absurd cc
pool_named (token.Mark m) n e = absurd cc
pool_named (token.Word w) n e = absurd cc
pool_named (token.Text v) n e = absurd cc
pool_named token.Eol n e = absurd cc
pool_named token.End n e = absurd cc
pool_named token.Bad n e = absurd cc

kind_named : (w : HeaderWord) (ts : List Token) (kind : Kind) (rest : List Token) → Has (kind_rest w) ts kind rest → IsNamed kind.0
kind_named (header.Clones clones_word.NonReentrant) ts kind rest h = subst IsNamed (after_is clones.NonReentrant ts kind rest h) tt
kind_named (header.Clones clones_word.Preallocated) ts kind rest h = subst IsNamed (after_is clones.Preallocated ts kind rest h) tt
kind_named (header.Clones clones_word.Pool) ts kind rest h =
    let f = first_is pool_size ts h.0 h.2.0 in
    subst IsNamed (after_is (clones.Pool h.0) h.1 kind rest h.3) (pool_named f.0 h.0 f.2)
kind_named (header.System s) ts kind rest h = subst IsNamed (end_is clones.NonReentrant (Some s) ts kind rest h) tt
kind_named header.Eol ts kind rest h = subst IsNamed (ap (λ (k : Kind). k.0) h.0) tt

system_says : (s : System) → system_or_eol (token.Word (system_text s)) ≡ Some (Some s)
system_says system.Ui = refl
system_says system.Standard = refl
system_says system.Instrument = refl
system_says system.Daq = refl
system_says system.Other1 = refl
system_says system.Other2 = refl
system_says system.Same = refl

system_word : (s : System) → IsWord (system_text s)
system_word system.Ui = record { letter = refl; all = refl; short = omega arith }
system_word system.Standard = record { letter = refl; all = refl; short = omega arith }
system_word system.Instrument = record { letter = refl; all = refl; short = omega arith }
system_word system.Daq = record { letter = refl; all = refl; short = omega arith }
system_word system.Other1 = record { letter = refl; all = refl; short = omega arith }
system_word system.Other2 = record { letter = refl; all = refl; short = omega arith }
system_word system.Same = record { letter = refl; all = refl; short = omega arith }

system_has : (c : Clones) (s : System) (rest : List Token) → Has (after_clones c) (token.Word (system_text s) ∷ token.Eol ∷ rest) (c, s) rest
system_has c s rest = (Some s, token.Eol ∷ rest, (system_says s, refl), (tt, rest, (refl, refl), (refl, refl)))

header_has : (c : Clones) (s : System) → IsNamed c → (rest : List Token) → Has (take header_word >>= kind_rest) (header_tokens (c, s) rest) (c, s) rest
header_has clones.NonReentrant s named rest = (header.Clones clones_word.NonReentrant, token.Word (system_text s) ∷ token.Eol ∷ rest, (refl, refl), system_has clones.NonReentrant s rest)
header_has clones.Preallocated s named rest = (header.Clones clones_word.Preallocated, token.Word (system_text s) ∷ token.Eol ∷ rest, (refl, refl), system_has clones.Preallocated s rest)
header_has (clones.Pool n) s named rest =
    (header.Clones clones_word.Pool, token.Number (pos n) ∷ token.Word (system_text s) ∷ token.Eol ∷ rest, (refl, refl), (n, token.Word (system_text s) ∷ token.Eol ∷ rest, (named, refl), system_has (clones.Pool n) s rest))

pool_short : (n : ℕ) → between 1 64 n ≡ Some n → n < 10 ^ 20
pool_short n e = go (nat_le 1 n && nat_le n 64) refl e
  where
    few : (n : ℕ) → (nat_le 1 n && nat_le n 64) ≡ true → n ≤ 64
    few n h = grind (arith, nat_tests)

    go : (b : Bool) → (nat_le 1 n && nat_le n 64) ≡ b → cond b (Some n) None ≡ Some n → n < 10 ^ 20
    go true f g = let le = few n f in omega arith
    go false f g = absurd cc

header_good : (c : Clones) (s : System) → IsNamed c → (ts : List Token) → AreGood ts → AreGood (header_tokens (c, s) ts)
header_good clones.NonReentrant s named ts g = (record { letter = refl; all = refl; short = omega arith }, (system_word s, (tt, g)))
header_good clones.Preallocated s named ts g = (record { letter = refl; all = refl; short = omega arith }, (system_word s, (tt, g)))
header_good (clones.Pool n) s named ts g = (record { letter = refl; all = refl; short = omega arith }, (pool_short n named, (system_word s, (tt, g))))

header_rest : (c : Clones) (s : System) → IsNamed c → (bytes : List ℕ) (ts : List Token) → Full bytes ts → Rest (text.word (clones_text c) (text.word (system_text s) (10 ∷ bytes))) (header_tokens (c, s) ts)
header_rest clones.NonReentrant s named bytes ts f = a_word (codes "nonreentrant") (record { letter = refl; all = refl; short = omega arith }) (a_word (system_text s) (system_word s) (a_feed f))
header_rest clones.Preallocated s named bytes ts f = a_word (codes "preallocated") (record { letter = refl; all = refl; short = omega arith }) (a_word (system_text s) (system_word s) (a_feed f))
header_rest (clones.Pool n) s named bytes ts f =
    let r = a_word (system_text s) (system_word s) (a_feed f) in
    a_word (codes "pool") (record { letter = refl; all = refl; short = omega arith }) (record { bound = refl; inside = space (number_piece (pos n) (pool_short n named) r.bound r.inside) })

-- ---- a VI

front_good : (front rest : List Token) → AreGood (front ++ rest) → AreGood front
front_good [] rest g = tt
front_good (t ∷ front) rest g = (g.0, front_good front rest g.1)

joined_good : (ts us : List Token) → AreGood ts → AreGood us → AreGood (ts ++ us)
joined_good [] us h k = k
joined_good (t ∷ ts) us h k = (h.0, joined_good ts us h.1 k)

-- a VI after its first word
abbrev vi_tail : Vi → List ℕ → List ℕ
vi_tail vi more = text.word vi.name (text.word (clones_text vi.clones) (text.word (system_text vi.system) (10 ∷ body_text vi more)))

record NewVi (v : ℕ) (vi : Vi) (bytes : List ℕ) (rest : List Token) : Type 0 where
  tokens : List Token
  has : Has (vi_rest v) tokens vi rest
  good : AreGood tokens
  written : Rest (vi_tail vi bytes) tokens

-- a VI that some tokens have is had by those of its canonical text, before any others
new_vi : (v : ℕ) (ts : List Token) (vi : Vi) (rest : List Token) → Has (vi_rest v) ts vi rest → AreGood ts → (bytes : List ℕ) (next : List Token) → Full bytes next → AreGood next → NewVi v vi bytes next
new_vi v ts vi rest h good bytes next q next_good =
    let f = first_is name ts h.0 h.2.0 in
    let t : Token = f.0 in
    let t_good : IsGood t = (subst AreGood f.1 good).0 in
    let n : List ℕ = h.0 in
    let kind : Kind = h.3.0 in
    let words = h.3.2 in
    let good_1 = after (take name) ts n h.1 h.2 good in
    let good_2 = after (take header_word >>= kind_rest) h.1 kind h.3.1 words good_1 in
    let b : Has (body v n kind) h.3.1 vi rest = h.3.3 in
    let e = ends (body v n kind) h.3.1 vi rest b in
    let after_header : List Token = e.0 ++ next in
    let good_body : AreGood after_header = joined_good e.0 next (front_good e.0 rest (subst AreGood e.1 good_2)) next_good in
    let full : Full (body_text vi bytes) after_header = (body_says v n kind).says after_header vi next (e.2 next) good_body bytes q in
    let named : IsNamed kind.0 = kind_named words.0 words.1 kind h.3.1 words.3 in
    let hh = header_has kind.0 kind.1 named after_header in
    let r : Rest (text.word n (text.word (clones_text kind.0) (text.word (system_text kind.1) (10 ∷ body_text vi bytes)))) (t ∷ header_tokens kind after_header) =
    stands_name t n f.2 t_good (text.word (clones_text kind.0) (text.word (system_text kind.1) (10 ∷ body_text vi bytes))) (header_tokens kind after_header) (header_rest kind.0 kind.1 named (body_text vi bytes) after_header full) in
    record {
      tokens = t ∷ header_tokens kind after_header;
      has = (n, header_tokens kind after_header, (f.2, refl), (kind, after_header, hh, e.2 next));
      good = (t_good, header_good kind.0 kind.1 named after_header good_body);
      written = subst (λ (x : Vi). Rest (text.word x.name (text.word (clones_text x.clones) (text.word (system_text x.system) (10 ∷ body_text vi bytes)))) (t ∷ header_tokens kind after_header)) b.3.3.3.0 r;
    }

-- ---- a listing

record NewVis (v : ℕ) (xs : List Vi) : Type 0 where
  tokens : List Token
  has : Phrases (or_else vi_word at_end) (λ c. Has (vi_or_end v c)) tokens xs tt []
  good : AreGood tokens
  written : Full (text.vis_text xs []) tokens

vi_is_word : IsWord (codes "vi")
vi_is_word = record { letter = refl; all = refl; short = omega arith }

left_is : {A B : Type 0} (x y : A) → ◌≡◌ {A = A ⊎ B} (inl x) (inl y) → x ≡ y
left_is x y e = cc

not_left : {A B : Type 0} (x : B) (y : A) → ◌≡◌ {A = A ⊎ B} (inr x) (inl y) → ⊥
not_left x y e = cc

one_more : (v : ℕ) (c : Unit {0} ⊎ Unit {0}) (ts : List Token) (x : Vi) (rest : List Token) → Has (vi_or_end v c) ts (inl x) rest → Has (vi_rest v) ts x rest
one_more v (inl u) ts x rest h = subst (λ (y : Vi). Has (vi_rest v) ts y rest) (left_is h.0 x h.3.0) (subst (λ (r : List Token). Has (vi_rest v) ts h.0 r) h.3.1 h.2)
one_more v (inr u) ts x rest h = absurd (not_left tt x h.0)

new_vis : (v : ℕ) (xs : List Vi) (ts : List Token) (d : Unit {0}) → Phrases (or_else vi_word at_end) (λ c. Has (vi_or_end v c)) ts xs d [] → AreGood ts → NewVis v xs
new_vis v [] ts d h good = record { tokens = token.End ∷ []; has = (inr tt, refl, (refl, refl)); good = (tt, tt); written = finish }
new_vis v (x ∷ xs) ts d h good =
    let whole : Has (take (or_else vi_word at_end) >>= vi_or_end v) ts (inl x) h.1 = (h.0, tail ts, (h.2, refl), h.3) in
    let others = new_vis v xs h.1 d h.4 (after (take (or_else vi_word at_end) >>= vi_or_end v) ts (inl x) h.1 whole good) in
    let tail_good : AreGood (tail ts) = after (take (or_else vi_word at_end)) ts h.0 (tail ts) (h.2, refl) good in
    let vi = new_vi v (tail ts) x h.1 (one_more v h.0 (tail ts) x h.1 h.3) tail_good (text.vis_text xs []) others.tokens others.written others.good in
    record {
      tokens = token.Word (codes "vi") ∷ vi.tokens;
      has = (inl tt, others.tokens, refl, (x, others.tokens, vi.has, (refl, refl)), others.has);
      good = (vi_is_word, vi.good);
      written = a_line 0 (codes "vi") vi_is_word vi.written;
    }

version_is : (t : Token) (v : ℕ) → version t ≡ Some v → v ≡ 1
version_is (token.Number (pos n)) v e = sym (between_is 1 1 n v e) ∙ go (nat_le 1 n && nat_le n 1) refl e
  where
    only : (n : ℕ) → (nat_le 1 n && nat_le n 1) ≡ true → n ≡ 1
    only n h = grind (arith, nat_tests)

    go : (b : Bool) → (nat_le 1 n && nat_le n 1) ≡ b → cond b (Some n) None ≡ Some v → n ≡ 1
    go true f g = only n f
    go false f g = absurd cc
version_is (token.Number (negsuc m)) v e = absurd cc
version_is (token.Mark m) v e = absurd cc
version_is (token.Word w) v e = absurd cc
version_is (token.Text w) v e = absurd cc
version_is token.Eol v e = absurd cc
version_is token.End v e = absurd cc
version_is token.Bad v e = absurd cc

record Rewritten (h : Hierarchy) : Type 0 where
  tokens : List Token
  has : HasHierarchy tokens h
  written : Full (text.text_of h) tokens

record NewListing (is : List Vi) : Type 0 where
  tokens : List Token
  has : Has (vis 1) tokens is []
  written : Full (text.vis_text is []) tokens

new_listing : (ts : List Token) (is : List Vi) → Has (vis 1) ts is [] → AreGood ts → NewListing is
new_listing ts is h good =
    let good_1 = after (take vi_word) ts h.0 h.1 h.2 good in
    let first : Vi = h.3.0 in
    let rest_good = after (vi_rest 1) h.1 first h.3.1 h.3.2 good_1 in
    let loop_at : Phrases (or_else vi_word at_end) (λ c. Has (vi_or_end 1 c)) h.3.1 h.3.3.0.0 h.3.3.0.1 [] =
    subst (λ (r : List Token). Phrases (or_else vi_word at_end) (λ c. Has (vi_or_end 1 c)) h.3.1 h.3.3.0.0 h.3.3.0.1 r) h.3.3.3.1 h.3.3.2 in
    let others = new_vis 1 h.3.3.0.0 h.3.1 h.3.3.0.1 loop_at rest_good in
    let vi = new_vi 1 h.1 first h.3.1 h.3.2 good_1 (text.vis_text h.3.3.0.0 []) others.tokens others.written others.good in
    record {
      tokens = token.Word (codes "vi") ∷ vi.tokens;
      has = (tt, vi.tokens, (refl, refl), (first, others.tokens, vi.has, ((h.3.3.0.0, tt), [], others.has, (h.3.3.3.0, refl))));
      written = subst (λ (l : List Vi). Full (text.vis_text l []) (token.Word (codes "vi") ∷ vi.tokens)) h.3.3.3.0 (a_line 0 (codes "vi") vi_is_word vi.written);
    }

rewritten : (ts : List Token) (h : Hierarchy) → HasHierarchy ts h → AreGood ts → Rewritten h
rewritten ts h has good =
    let good_1 = after (take (word (codes "glisting"))) ts has.0 has.1 has.2 good in
    let good_2 = after (take version) has.1 has.3.0 has.3.1 has.3.2 good_1 in
    let good_3 = after (take eol) has.3.1 has.3.3.0 has.3.3.1 has.3.3.2 good_2 in
    let f = first_is version has.1 has.3.0 has.3.2.0 in
    let one : has.3.0 ≡ 1 = version_is f.0 has.3.0 f.2 in
    let is : List Vi = has.3.3.3.0 in
    let all : Has (vis 1) has.3.3.1 is [] =
    subst (λ (r : List Token). Has (vis 1) has.3.3.1 is r) has.3.3.3.3.1 (subst (λ (v : ℕ). Has (vis v) has.3.3.1 is has.3.3.3.1) one has.3.3.3.2) in
    let new = new_listing has.3.3.1 is all good_3 in
    let digit : decimal 1 ≡ 49 ∷ [] = decimal_digit 1 (omega arith) in
    let number : Inside (decimal 1 ++ (10 ∷ text.vis_text is [])) (token.Number (pos 1) ∷ token.Eol ∷ new.tokens) =
    let r = a_feed new.written in number_piece (pos 1) (omega arith) r.bound r.inside in
    let plain : Inside (49 ∷ 10 ∷ text.vis_text is []) (token.Number (pos 1) ∷ token.Eol ∷ new.tokens) = subst (λ (l : List ℕ). Inside (l ++ (10 ∷ text.vis_text is [])) (token.Number (pos 1) ∷ token.Eol ∷ new.tokens)) digit number in
    record {
      tokens = token.Word (codes "glisting") ∷ token.Number (pos 1) ∷ token.Eol ∷ new.tokens;
      has = (tt, token.Number (pos 1) ∷ token.Eol ∷ new.tokens, (refl, refl), (1, token.Eol ∷ new.tokens, (refl, refl), (tt, new.tokens, (refl, refl), (is, [], new.has, (has.3.3.3.3.0, refl)))));
      written = subst (λ (x : Hierarchy). Full (text.text_of x) (token.Word (codes "glisting") ∷ token.Number (pos 1) ∷ token.Eol ∷ new.tokens)) has.3.3.3.3.0
          (a_line 0 (codes "glisting") (record { letter = refl; all = refl; short = omega arith }) (record { bound = refl; inside = space plain }));
    }

pub one : (bytes : List ℕ) (h g : Hierarchy) → IsListing bytes h → IsListing bytes g → g ≡ h
one bytes h g has other = (same listing (tokens_of (placed_tokens bytes)) g h [] [] other has).0

pub reads_back : (bytes : List ℕ) (h : Hierarchy) → IsBytes bytes → IsListing bytes h → IsListing (text.text_of h) h
reads_back bytes h b has =
    let r = rewritten (tokens_of (placed_tokens bytes)) h has (tokens_good bytes b) in
    subst (λ (ts : List Token). HasHierarchy ts h) (sym (r.written.lines 1)) r.has

pub alone : (bytes : List ℕ) (h g : Hierarchy) → IsBytes bytes → IsListing bytes h → IsListing (text.text_of h) g → g ≡ h
alone bytes h g b has other = (same listing (tokens_of (placed_tokens (text.text_of h))) g h [] [] other (reads_back bytes h b has)).0

pub differ : (bytes others : List ℕ) (h g : Hierarchy) → IsBytes bytes → IsListing bytes h → IsBytes others → IsListing others g → text.text_of g ≡ text.text_of h → g ≡ h
differ bytes others h g b has c other e = alone bytes h g b has (subst (λ (l : List ℕ). IsListing l g) e (reads_back others g c other))
