-- Types in front of bytes.
use Rattle.std.proofs.Common.{◌≡◌, ℕ, zero, suc, Bool, true, false, cond, List, [], ◌∷◌, ◌++◌, map, Option, Some, None, refl, sym, ap, ◌∙◌, subst, append_assoc, codes}
use Rattle.g_types.specs.declared.rep.Rep.{Rep}
use Rattle.g_types.specs.declared.ty.Ty.{Ty}
use Rattle.g_types.specs.declared.ty.Ty.TheVariants as ty
use Rattle.g_types.specs.declared.ty.Ty.TheOpen.{Ty-F}
use Rattle.g_types.specs.declared.ty.Ty.TheFolds.{fold-roll-Ty}
use Rattle.g_types.specs.Ty as types_spec
use Rattle.g_grammar.specs.Grammar.{Grammar, Has, nothing}
use Rattle.g_grammar.proofs.Laws.{first_is}
use Rattle.g_tokens.specs.declared.token.Token.{Token}
use Rattle.g_tokens.specs.declared.token.Token.TheVariants as token
use Rattle.g_tokens.specs.declared.token.Mark.TheVariants as mark
use Rattle.g_diagram.specs.Text as text
use Rattle.g_listing_grammar.specs.declared.TypeWord.{TypeWord}
use Rattle.g_listing_grammar.specs.declared.TypeWord.TheVariants as type
use Rattle.g_listing_grammar.specs.Words.{type_words, close_bracket, close_paren, open_paren, close_brace, comma_or_brace}
use Rattle.g_listing_grammar.specs.Types.{is_above, holds_others, fitting, type_word, type_first, more_others, others, in_parens, type_rest, types}
use Rattle.g_print_laws.proofs.Lexing.{Inside, word_piece, mark_piece}
use Rattle.g_print_laws.proofs.Tables.{by_test, named}
use Rattle.g_print_laws.proofs.Parts.{State, Rest, Rested, Further, Says, Goes, gives, binds, closes, one, Stands, some_is, comma_or_brace_text, stands_close_bracket, stands_close_paren, stands_close_brace, stands_open_paren, stands_comma_or_brace}

abbrev pub written : Ty → List ℕ → List ℕ
written t bytes = types_spec.text t ++ bytes

text-Num : (r : Rep) → types_spec.text (ty.Num r) ≡ types_spec.rep_text r
text-Num r = ap types_spec.text (sym (ty.rolls-Num r)) ∙ fold-roll-Ty (List ℕ) types_spec.text_step (Ty-F.Num r)

text-Bool : types_spec.text ty.Bool ≡ codes "bool"
text-Bool = ap types_spec.text (sym ty.rolls-Bool) ∙ fold-roll-Ty (List ℕ) types_spec.text_step Ty-F.Bool

text-Str : types_spec.text ty.Str ≡ codes "str"
text-Str = ap types_spec.text (sym ty.rolls-Str) ∙ fold-roll-Ty (List ℕ) types_spec.text_step Ty-F.Str

text-Arr : (t : Ty) → types_spec.text (ty.Arr t) ≡ 91 ∷ (types_spec.text t ++ 93 ∷ [])
text-Arr t = ap types_spec.text (sym (ty.rolls-Arr t)) ∙ fold-roll-Ty (List ℕ) types_spec.text_step (Ty-F.Arr t)

text-Cluster : (ts : List Ty) → types_spec.text (ty.Cluster ts) ≡ 123 ∷ (types_spec.joined (map types_spec.text ts) ++ 125 ∷ [])
text-Cluster ts = ap types_spec.text (sym (ty.rolls-Cluster ts)) ∙ fold-roll-Ty (List ℕ) types_spec.text_step (Ty-F.Cluster ts)

text-QueueRef : (t : Ty) → types_spec.text (ty.QueueRef t) ≡ codes "queue(" ++ (types_spec.text t ++ 41 ∷ [])
text-QueueRef t = ap types_spec.text (sym (ty.rolls-QueueRef t)) ∙ fold-roll-Ty (List ℕ) types_spec.text_step (Ty-F.QueueRef t)

text-ValueRef : (t : Ty) → types_spec.text (ty.ValueRef t) ≡ codes "ref(" ++ (types_spec.text t ++ 41 ∷ [])
text-ValueRef t = ap types_spec.text (sym (ty.rolls-ValueRef t)) ∙ fold-roll-Ty (List ℕ) types_spec.text_step (Ty-F.ValueRef t)

after_are : (ts : List Ty) (bytes : List ℕ) → text.after_comma (map written ts) (125 ∷ bytes) ≡ types_spec.after (map types_spec.text ts) ++ 125 ∷ bytes
after_are [] bytes = refl
after_are (t ∷ ts) bytes = ap (λ l. 44 ∷ 32 ∷ (types_spec.text t ++ l)) (after_are ts bytes) ∙ ap (λ l. 44 ∷ 32 ∷ l) (sym (append_assoc (types_spec.text t) (types_spec.after (map types_spec.text ts)) (125 ∷ bytes)))

cluster_is : (t : Ty) (ts : List Ty) (bytes : List ℕ) → 123 ∷ (types_spec.text t ++ text.after_comma (map written ts) (125 ∷ bytes)) ≡ written (ty.Cluster (t ∷ ts)) bytes
cluster_is t ts bytes =
    let rest : List ℕ = types_spec.after (map types_spec.text ts) in
    ap (λ l. 123 ∷ (types_spec.text t ++ l)) (after_are ts bytes)
    ∙ ap (λ l. 123 ∷ l) (sym (append_assoc (types_spec.text t) rest (125 ∷ bytes)) ∙ sym (append_assoc (types_spec.text t ++ rest) (125 ∷ []) bytes))
    ∙ ap (λ l. l ++ bytes) (sym (text-Cluster (t ∷ ts)))

-- ---- the first token

abbrev first_text : TypeWord → List ℕ
first_text (type.Number r) = types_spec.rep_text r
first_text type.Truth = codes "bool"
first_text type.Text = codes "str"
first_text type.Array = codes "["
first_text type.Cluster = codes "{"
first_text type.Queue = codes "queue"
first_text type.Ref = codes "ref"

abbrev First : TypeWord → State
First type.Array = Inside
First type.Cluster = Inside
First _ = Rest

abbrev first_front : TypeWord → List ℕ → List ℕ
first_front w bytes = first_text w ++ bytes

abbrev is_named : TypeWord → Bool
is_named type.Array = false
is_named type.Cluster = false
is_named _ = true

-- what follows a word is no part of it
named_state : (w : TypeWord) → is_named w ≡ true → (bytes : List ℕ) (ts : List Token) → First w bytes ts → Rest bytes ts
named_state (type.Number r) e bytes ts q = q
named_state type.Truth e bytes ts q = q
named_state type.Text e bytes ts q = q
named_state type.Array e bytes ts q = absurd cc
named_state type.Cluster e bytes ts q = absurd cc
named_state type.Queue e bytes ts q = q
named_state type.Ref e bytes ts q = q

stands_type : (arrays : Bool) → Stands First Inside (type_word arrays) first_front
stands_type arrays (token.Word u) w e g bytes ts q =
    let is : u ≡ first_text w = named first_text type_words refl u w e in
    let r : Rest bytes ts = named_state w (by_test (λ v y. is_named y) type_words refl u w e) bytes ts q in
    subst (λ (v : List ℕ). Inside (v ++ bytes) (token.Word u ∷ ts)) is (word_piece u g r.bound r.inside)
stands_type true (token.Mark mark.OpenBracket) w e g bytes ts q =
    let is : type.Array ≡ w = some_is e in
    subst (λ (v : TypeWord). Inside (first_front v bytes) (token.Mark mark.OpenBracket ∷ ts)) is (mark_piece 91 mark.OpenBracket (record { space = refl; comment = refl; inner = refl }) refl (subst (λ (v : TypeWord). First v bytes ts) (sym is) q))
stands_type false (token.Mark mark.OpenBracket) w e g bytes ts q = absurd cc
stands_type arrays (token.Mark mark.OpenBrace) w e g bytes ts q =
    let is : type.Cluster ≡ w = some_is e in
    subst (λ (v : TypeWord). Inside (first_front v bytes) (token.Mark mark.OpenBrace ∷ ts)) is (mark_piece 123 mark.OpenBrace (record { space = refl; comment = refl; inner = refl }) refl (subst (λ (v : TypeWord). First v bytes ts) (sym is) q))
stands_type arrays (token.Mark m) w e g bytes ts q = absurd cc
stands_type arrays (token.Number z) w e g bytes ts q = absurd cc
stands_type arrays (token.Text v) w e g bytes ts q = absurd cc
stands_type arrays token.Eol w e g bytes ts q = absurd cc
stands_type arrays token.End w e g bytes ts q = absurd cc
stands_type arrays token.Bad w e g bytes ts q = absurd cc

fits : (n : ℕ) (o : Option TypeWord) (w : TypeWord) → fitting n o ≡ Some w → o ≡ Some w
fits n None w e = absurd cc
fits n (Some u) w e = go (holds_others u) (is_above n) e
  where
    go : (a b : Bool) → cond a (cond b (Some u) None) (Some u) ≡ Some w → Some u ≡ Some w
    go false b e = e
    go true true e = e
    go true false e = absurd cc

stands_first : (n : ℕ) (arrays : Bool) → Stands First Inside (type_first n arrays) first_front
stands_first n arrays t w e = stands_type arrays t w (fits n (type_word arrays t) w e)

-- ---- types

pub nothing_has : {A : Type 0} (ts : List Token) (a : A) (rest : List Token) → Has nothing ts a rest → ⊥
nothing_has {A} ts a rest h = none (first_is (λ t. None) ts a h.0).2
  where
    none : None ≡ Some a → ⊥
    none e = cc

pub nothing_says : {A : Type 0} {Q : A → State} {R : State} {s : A → List ℕ → List ℕ} → Says Q R nothing s
nothing_says = record { says = λ ts a rest h good bytes q. absurd (nothing_has ts a rest h) }

-- further parts of a cluster
pub others_says : {A : Type 0} (g : Grammar Token A) (s : A → List ℕ → List ℕ) → Says Rested Inside g s → (n : ℕ) → Says Rested Rest (others g n) (λ xs bytes. text.after_comma (map s xs) (125 ∷ bytes))
others_says g s x zero = closes (binds (one close_brace stands_close_brace) (λ u. gives (λ bytes. refl)))
others_says {A} g s x (suc n) = closes (binds (one comma_or_brace stands_comma_or_brace) (more (others_says g s x n)))
  where
    more : Says Rested Rest (others g n) (λ xs bytes. text.after_comma (map s xs) (125 ∷ bytes)) → (further : Bool) → Goes Rested (Further further) (more_others g (others g n) further) (λ w. comma_or_brace_text further w) (λ xs bytes. text.after_comma (map s xs) (125 ∷ bytes))
    more rest true = binds x (λ a. binds rest (λ xs. gives (λ bytes. refl)))
    more rest false = gives (λ bytes. refl)

parens : (n : ℕ) (f : Ty → Ty) (head : List ℕ) → ((t : Ty) → types_spec.text (f t) ≡ (head ++ 40 ∷ []) ++ (types_spec.text t ++ 41 ∷ [])) → Says Rested Inside (types n true) written
    → Goes Rested Rest (in_parens f (types n true)) (λ w. head ++ w) written
parens n f head e x =
    binds (one open_paren stands_open_paren) (λ u. binds x (λ t. binds (one close_paren stands_close_paren) (λ v. gives (λ bytes.
    ap (λ l. head ++ 40 ∷ l) (sym (append_assoc (types_spec.text t) (41 ∷ []) bytes))
    ∙ sym (append_assoc head (40 ∷ []) ((types_spec.text t ++ 41 ∷ []) ++ bytes))
    ∙ sym (append_assoc (head ++ 40 ∷ []) (types_spec.text t ++ 41 ∷ []) bytes)
    ∙ ap (λ l. l ++ bytes) (sym (e t))))))

rest_goes : (n : ℕ) → ((arrays : Bool) → Says Rested Inside (types n arrays) written) → (w : TypeWord) → Goes Rested (First w) (type_rest (types n) w) (first_front w) written
rest_goes n x (type.Number r) = gives (λ bytes. ap (λ l. l ++ bytes) (sym (text-Num r)))
rest_goes n x type.Truth = gives (λ bytes. ap (λ l. l ++ bytes) (sym text-Bool))
rest_goes n x type.Text = gives (λ bytes. ap (λ l. l ++ bytes) (sym text-Str))
rest_goes n x type.Array = binds (x false) (λ t. binds (one close_bracket stands_close_bracket) (λ u. gives (λ bytes. ap (λ l. 91 ∷ l) (sym (append_assoc (types_spec.text t) (93 ∷ []) bytes)) ∙ ap (λ l. l ++ bytes) (sym (text-Arr t)))))
rest_goes n x type.Cluster = binds (x true) (λ t. binds (others_says (types n true) written (x true) 63) (λ ts. gives (λ bytes. cluster_is t ts bytes)))
rest_goes n x type.Queue = parens n (λ (t : Ty). ty.QueueRef t) (codes "queue") text-QueueRef (x true)
rest_goes n x type.Ref = parens n (λ (t : Ty). ty.ValueRef t) (codes "ref") text-ValueRef (x true)

pub types_says : (n : ℕ) (arrays : Bool) → Says Rested Inside (types n arrays) written
unfolding types
types_says zero arrays = nothing_says
types_says (suc n) arrays = closes (binds (one (type_first n arrays) (stands_first n arrays)) (rest_goes n (types_says n)))
