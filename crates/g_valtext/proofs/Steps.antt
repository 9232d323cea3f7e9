-- Reading, one step at a time.
use Rattle.std.proofs.Common.{◌≡◌, Bor, ℤ, List, [], ◌∷◌, map, Option, Some, None, refl, sym, ap, subst, ◌∙◌}
use Rattle.std.specs.Prelude.{Result, Ok}
use Rattle.std.specs.Option.{option_map}
use Rattle.g_grammar.specs.Grammar.{give, take, first, Read, then, taken, read}
use Rattle.g_grammar.specs.Reads.{Gives, Stops}
use Rattle.g_grammar.specs.declared.Stop.{Stop}
use Rattle.g_tokens.specs.declared.token.Token.{Token}
use Rattle.g_types.specs.declared.rep.Rep.{Rep}
use Rattle.g_types.specs.declared.ty.Ty.{Ty, out-Ty}
use Rattle.g_types.specs.declared.ty.Ty.TheVariants as ty
use Rattle.g_types.specs.declared.ty.Ty.TheOpen.{Ty-F}
use Rattle.g_types.specs.declared.ty.Ty.TheFolds.{para-roll-Ty}
use Rattle.g_values.specs.declared.value.Value.{Value}
use Rattle.g_values.specs.declared.value.Value.TheVariants as value
use Rattle.g_values.specs.Number.{num_of}
use Rattle.g_values.specs.Numbers.{Numbers as Several}
use Rattle.g_valtext.proofs.Turns.{stop_at}
use Rattle.g_valtext.specs.Forms.{Form, Forms, Number, Truth, Text, Numbers, Items, Parts, Null, form, form_step, forms_of, items_of, rep_of}
use Rattle.g_valtext.specs.Spellings.{first_of, rest_of, of_form, values, grammars, number, number_within, truth, text_within, null, open_bracket, open_brace, array_rest, parts}

-- ---- forms of types, by the types' variants

pub form-Num : (r : Rep) → form (ty.Num r) ≡ Number r
form-Num r = ap form (sym (ty.rolls-Num r)) ∙ para-roll-Ty Form form_step (Ty-F.Num r)

pub form-Bool : form ty.Bool ≡ Truth
form-Bool = ap form (sym ty.rolls-Bool) ∙ para-roll-Ty Form form_step Ty-F.Bool

pub form-Str : form ty.Str ≡ Text
form-Str = ap form (sym ty.rolls-Str) ∙ para-roll-Ty Form form_step Ty-F.Str

pub form-Arr : (t : Ty) → form (ty.Arr t) ≡ items_of (rep_of (out-Ty t)) t (form t)
form-Arr t = ap form (sym (ty.rolls-Arr t)) ∙ para-roll-Ty Form form_step (Ty-F.Arr t)

pub form-QueueRef : (t : Ty) → form (ty.QueueRef t) ≡ Null (value.Queue (record { elem = t; at = None }))
form-QueueRef t = ap form (sym (ty.rolls-QueueRef t)) ∙ para-roll-Ty Form form_step (Ty-F.QueueRef t)

pub form-ValueRef : (t : Ty) → form (ty.ValueRef t) ≡ Null (value.Cell (record { elem = t; at = None }))
form-ValueRef t = ap form (sym (ty.rolls-ValueRef t)) ∙ para-roll-Ty Form form_step (Ty-F.ValueRef t)

second_of_all : (ts : List Ty) → map (λ (p : Ty × Form). p.1) (map (λ t. (t, form t)) ts) ≡ map form ts
second_of_all [] = refl
second_of_all (t ∷ ts) = ap (λ fs. form t ∷ fs) (second_of_all ts)

pub form-Cluster : (ts : List Ty) → form (ty.Cluster ts) ≡ Parts (forms_of (map form ts))
form-Cluster ts = ap form (sym (ty.rolls-Cluster ts)) ∙ para-roll-Ty Form form_step (Ty-F.Cluster ts) ∙ ap (λ fs. Parts (forms_of fs)) (second_of_all ts)

pub grammars-of : (ts : List Ty) → grammars (forms_of (map form ts)) ≡ map values ts
unfolding rest_of grammars
grammars-of [] = refl
grammars-of (t ∷ ts) = ap (λ gs. values t ∷ gs) (grammars-of ts)

-- ---- values, by their forms

mapped : {A C : Type 0} (o : Option C) (f : C → A) (ts : List Token) → then (taken (option_map f o) ts) (λ a mid. Ok (a, mid)) ≡ then (taken o ts) (λ c mid. Ok (f c, mid))
mapped None f ts = refl
mapped (Some c) f ts = refl

first_mapped : {A C : Type 0} (p : Token → Option C) (f : C → A) (ts : List Token) → then (taken (first (λ t. option_map f (p t)) ts) ts) (λ a mid. Ok (a, mid)) ≡ then (taken (first p ts) ts) (λ c mid. Ok (f c, mid))
first_mapped p f [] = refl
first_mapped p f (t ∷ ts) = mapped (p t) f (t ∷ ts)

taken_twice : {A C : Type 0} (o : Option C) (f : C → A) (ts : List Token) → then (taken o ts) (λ c mid. Ok (f c, mid)) ≡ then (then (taken o ts) (λ c mid. Ok (c, mid))) (λ c mid. Ok (f c, mid))
taken_twice None f ts = refl
taken_twice (Some c) f ts = refl

pub read-Number : (r : Rep) (ts : List Token) → read (of_form (Number r)) ts ≡ then (read (number r) ts) (λ n mid. Ok (value.Num (num_of r n), mid))
unfolding rest_of grammars
read-Number r ts = first_mapped (number_within r) (λ n. value.Num (num_of r n)) ts ∙ taken_twice (first (number_within r) ts) (λ n. value.Num (num_of r n)) ts

pub read-Truth : (ts : List Token) → read (of_form Truth) ts ≡ then (read (take truth) ts) (λ b mid. Ok (value.Bool b, mid))
unfolding rest_of grammars
read-Truth ts = first_mapped truth (λ b. value.Bool b) ts

pub read-Text : (ts : List Token) → read (of_form Text) ts ≡ then (read (take text_within) ts) (λ s mid. Ok (value.Str s, mid))
unfolding rest_of grammars
read-Text ts = first_mapped text_within (λ s. value.Str s) ts

pub read-Null : (v : Value) (ts : List Token) → read (of_form (Null v)) ts ≡ then (read (take null) ts) (λ u mid. Ok (v, mid))
unfolding rest_of grammars
read-Null v ts = first_mapped null (λ u. v) ts

pub read-Numbers : (r : Rep) (ts : List Token) → read (of_form (Numbers r)) ts
    ≡ then (read (take open_bracket) ts) (λ u mid. then (read (array_rest (number_within r) (λ n. give n)) mid) (λ all rest. Ok (value.Nums (record { rep = r; all = all }), rest)))
unfolding rest_of grammars
read-Numbers r ts = refl

pub read-Items : (t : Ty) (f : Form) (ts : List Token) → read (of_form (Items t f)) ts
    ≡ then (read (take open_bracket) ts) (λ u mid. then (read (array_rest (first_of f) (rest_of f)) mid) (λ items rest. Ok (value.Arr (record { elem = t; items = items }), rest)))
unfolding rest_of grammars
read-Items t f ts = refl

pub read-Parts : (fs : Forms) (ts : List Token) → read (of_form (Parts fs)) ts
    ≡ then (read (take open_brace) ts) (λ u mid. then (read (parts (grammars fs)) mid) (λ items rest. Ok (value.Cluster items, rest)))
unfolding rest_of grammars
read-Parts fs ts = refl

pub ruleset by_forms = (read-Number, read-Truth, read-Text, read-Null, read-Numbers, read-Items, read-Parts)

pub by_form : (t : Ty) (f : Form) (ts : List Token) (result : Result (Value × Bor (List Token)) (Stop Token)) → form t ≡ f → Gives result (read (of_form f) ts) → Gives result (read (values t) ts)
by_form t f ts result e g = subst (λ h. Gives result (read (of_form h) ts)) (sym e) g

pub by_elements : (o p : Option Rep) (t : Ty) (f : Form) (ts : List Token) (result : Result (Value × Bor (List Token)) (Stop Token)) → o ≡ p → Gives result (read (of_form (items_of o t f)) ts) → Gives result (read (of_form (items_of p t f)) ts)
by_elements o p t f ts result e g = subst (λ q. Gives result (read (of_form (items_of q t f)) ts)) e g

pub nums_ok : (r : Rep) (ts rest mid : List Token) (xs : Several) → read (take open_bracket) ts ≡ Ok (tt, rest) → xs.rep ≡ r → read (array_rest (number_within r) (λ n. give n)) rest ≡ Ok (xs.all, mid)
    → read (of_form (Numbers r)) ts ≡ Ok (value.Nums xs, mid)
nums_ok r ts rest mid xs a b e =
    let made : List ℤ → List Token → Read Token Value = λ all rest. Ok (value.Nums (record { rep = r; all = all }), rest) in
    read-Numbers r ts
    ∙ ap (λ x. then x (λ u mid. then (read (array_rest (number_within r) (λ n. give n)) mid) made)) a
    ∙ ap (λ x. then x made) e
    ∙ ap (λ q. Ok (value.Nums (record { rep = q; all = xs.all }), mid)) (sym b)

pub nums_stop : (r : Rep) (ts rest : List Token) (e : Stop Token) → read (take open_bracket) ts ≡ Ok (tt, rest) → Stops e (read (array_rest (number_within r) (λ n. give n)) rest) → Stops e (read (of_form (Numbers r)) ts)
nums_stop r ts rest e a h =
    let made : List ℤ → List Token → Read Token Value = λ all rest. Ok (value.Nums (record { rep = r; all = all }), rest) in
    let one = read-Numbers r ts ∙ ap (λ x. then x (λ u mid. then (read (array_rest (number_within r) (λ n. give n)) mid) made)) a in
    subst (λ x. Stops e x) (sym one) (stop_at e (read (array_rest (number_within r) (λ n. give n)) rest) made h)

pub items_ok : (t : Ty) (f : Form) (ts rest mid : List Token) (vs : List Value) → read (take open_bracket) ts ≡ Ok (tt, rest) → read (array_rest (first_of f) (rest_of f)) rest ≡ Ok (vs, mid)
    → read (of_form (Items t f)) ts ≡ Ok (value.Arr (record { elem = t; items = vs }), mid)
items_ok t f ts rest mid vs a e =
    let made : List Value → List Token → Read Token Value = λ items rest. Ok (value.Arr (record { elem = t; items = items }), rest) in
    read-Items t f ts
    ∙ ap (λ x. then x (λ u mid. then (read (array_rest (first_of f) (rest_of f)) mid) made)) a
    ∙ ap (λ x. then x made) e

pub items_stop : (t : Ty) (f : Form) (ts rest : List Token) (e : Stop Token) → read (take open_bracket) ts ≡ Ok (tt, rest) → Stops e (read (array_rest (first_of f) (rest_of f)) rest) → Stops e (read (of_form (Items t f)) ts)
items_stop t f ts rest e a h =
    let made : List Value → List Token → Read Token Value = λ items rest. Ok (value.Arr (record { elem = t; items = items }), rest) in
    let one = read-Items t f ts ∙ ap (λ x. then x (λ u mid. then (read (array_rest (first_of f) (rest_of f)) mid) made)) a in
    subst (λ x. Stops e x) (sym one) (stop_at e (read (array_rest (first_of f) (rest_of f)) rest) made h)

read-cluster : (types : List Ty) (ts : List Token) → read (of_form (Parts (forms_of (map form types)))) ts
    ≡ then (read (take open_brace) ts) (λ u mid. then (read (parts (map values types)) mid) (λ items rest. Ok (value.Cluster items, rest)))
read-cluster types ts =
    read-Parts (forms_of (map form types)) ts
    ∙ ap (λ gs. then (read (take open_brace) ts) (λ u mid. then (read (parts gs) mid) (λ items rest. Ok (value.Cluster items, rest)))) (grammars-of types)

pub cluster_ok : (types : List Ty) (ts rest mid : List Token) (vs : List Value) → read (take open_brace) ts ≡ Ok (tt, rest) → read (parts (map values types)) rest ≡ Ok (vs, mid)
    → read (of_form (Parts (forms_of (map form types)))) ts ≡ Ok (value.Cluster vs, mid)
cluster_ok types ts rest mid vs a e =
    let made : List Value → List Token → Read Token Value = λ items rest. Ok (value.Cluster items, rest) in
    read-cluster types ts
    ∙ ap (λ x. then x (λ u mid. then (read (parts (map values types)) mid) made)) a
    ∙ ap (λ x. then x made) e

pub cluster_stop : (types : List Ty) (ts rest : List Token) (e : Stop Token) → read (take open_brace) ts ≡ Ok (tt, rest) → Stops e (read (parts (map values types)) rest) → Stops e (read (of_form (Parts (forms_of (map form types)))) ts)
cluster_stop types ts rest e a h =
    let made : List Value → List Token → Read Token Value = λ items rest. Ok (value.Cluster items, rest) in
    let one = read-cluster types ts ∙ ap (λ x. then x (λ u mid. then (read (parts (map values types)) mid) made)) a in
    subst (λ x. Stops e x) (sym one) (stop_at e (read (parts (map values types)) rest) made h)

pub cluster_refused : (types : List Ty) (ts : List Token) (e : Stop Token) → Stops e (read (take open_brace) ts) → Stops e (read (of_form (Parts (forms_of (map form types)))) ts)
cluster_refused types ts e h =
    subst (λ x. Stops e x) (sym (read-cluster types ts)) (stop_at e (read (take open_brace) ts) (λ u mid. then (read (parts (map values types)) mid) (λ items rest. Ok (value.Cluster items, rest))) h)
