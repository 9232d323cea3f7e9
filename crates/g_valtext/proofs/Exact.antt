-- What the reader of a text says, from what the grammar reads.
use Rattle.std.proofs.Common.{◌≡◌, ℕ, ◌-◌, ◌≤◌, List, [], length, refl, ap, sym, subst, ◌∙◌, arith, length-append}
use Rattle.std.specs.Prelude.{Result, Ok, Err}
use Rattle.std.specs.List.{slice_index_or}
use Rattle.g_grammar.specs.Grammar.{Has, read, all_read, IsRefused}
use Rattle.g_grammar.proofs.Laws.{again}
use Rattle.g_grammar.proofs.Live.{all_ok, all_err}
use Rattle.g_tokens.specs.declared.token.Token.{Token}
use Rattle.g_types.specs.declared.ty.Ty.{Ty}
use Rattle.g_values.specs.declared.value.Value.{Value}
use Rattle.g_valtext.specs.Spellings.{values, tokens, places, IsSpelling, IsNotOfType}
use Rattle.g_valtext.proofs.LiveValues.{live_values}

pub spelled_by : (t : Ty) (text : List ℕ) (ts : List Token) (v : Value) → ts ≡ tokens text → all_read (read (values t) ts) ≡ Ok v → IsSpelling t text v
spelled_by t text ts v is e = subst (λ ts. Has (values t) ts v []) is (all_ok (values t) ts v (read (values t) ts) refl e)

spells : (t : Ty) (text : List ℕ) (ts : List Token) (v : Value) → ts ≡ tokens text → IsSpelling t text v → all_read (read (values t) ts) ≡ Ok v
spells t text ts v is h = ap all_read (again (values t) ts v [] (subst (λ ts. Has (values t) ts v []) (sym is) h))

pub only_by : (t : Ty) (text : List ℕ) (ts : List Token) (w v : Value) → ts ≡ tokens text → all_read (read (values t) ts) ≡ Ok w → IsSpelling t text v → w ≡ v
only_by t text ts w v is e h =
    let both : ◌≡◌ {A = Result Value (List Token)} (Ok w) (Ok v) = sym e ∙ spells t text ts v is h in
    cc

-- a text spells one value of a type at most
pub one_value : (t : Ty) (text : List ℕ) (v w : Value) → IsSpelling t text v → IsSpelling t text w → v ≡ w
one_value t text v w g h = only_by t text (tokens text) v w refl (spells t text (tokens text) v refl g) h

pub never_by : (t : Ty) (text : List ℕ) (ts bad : List Token) (v : Value) → ts ≡ tokens text → all_read (read (values t) ts) ≡ Err bad → IsSpelling t text v → ⊥
never_by t text ts bad v is e h =
    let both : ◌≡◌ {A = Result Value (List Token)} (Err bad) (Ok v) = sym e ∙ spells t text ts v is h in
    cc

refused : (t : Ty) (ts bad : List Token) → all_read (read (values t) ts) ≡ Err bad → IsRefused (values t) ts bad
refused t ts bad e = all_err (values t) (live_values t) ts bad (read (values t) ts) refl e

pub rest_within : (t : Ty) (ts bad : List Token) → all_read (read (values t) ts) ≡ Err bad → length bad ≤ length ts
rest_within t ts bad e = let r = refused t ts bad e in omega (arith, ap length r.place, length-append r.before bad)

pub refused_by : (t : Ty) (text : List ℕ) (ts bad : List Token) (starts : List ℕ) (byte : ℕ) → ts ≡ tokens text → starts ≡ places text → all_read (read (values t) ts) ≡ Err bad
    → byte ≡ slice_index_or starts (length ts - length bad) (length text) → IsNotOfType t text byte
refused_by t text ts bad starts byte is at e place = record {
  rest = bad;
  refused = subst (λ ts. IsRefused (values t) ts bad) is (refused t ts bad e);
  place = place ∙ ap (λ l. slice_index_or l (length ts - length bad) (length text)) at ∙ ap (λ l. slice_index_or (places text) (length l - length bad) (length text)) is;
}
