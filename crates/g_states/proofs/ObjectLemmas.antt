-- Operations on the object of a number.
use Rattle.std.proofs.Common.{◌≡◌, ◌≤◌, ℕ, zero, suc, List, [], ◌∷◌, length, refl, ap, subst, ◌∙◌}
use Rattle.std.specs.Prelude.{Option, Some, None, slice_get, slice_set}
use Rattle.std.proofs.lemmas.Option.{slice_get_past}
use Rattle.g_values.specs.declared.value.Value.{Value}
use Rattle.g_shared.specs.declared.reply.Reply.{Reply}
use Rattle.g_shared.specs.declared.tried.Tried.{Tried}
use Rattle.g_shared.specs.declared.tried.Tried.TheVariants.{Done, NotYet, Memory}
use Rattle.g_shared.specs.Tried.{IfNotYet}
use Rattle.g_frames.specs.Contents.{Content}
use Rattle.g_frames.specs.State.{FireState}
use Rattle.g_objects.specs.declared.operation.Operation.{Operation}
use Rattle.g_objects.specs.Operations.{Waits, Places}
use Rattle.g_states.specs.States.{with_object, WaitsAt, PlacesAt}

same_content : (a b : Content) (m : Option Content) → m ≡ Some a → m ≡ Some b → a ≡ b
same_content a b m e f = cc

no_content : {A : Type 0} (c : Content) (m : Option Content) → m ≡ None → m ≡ Some c → A
no_content c m e f = absurd cc

waits_at : (choice : Option ℕ) (s : FireState) (k : ℕ) (o : Operation) (before : Content) → slice_get s.objects k ≡ Some before → Waits choice before o → WaitsAt choice s k o
waits_at choice s k o before is waits = λ c here. subst (λ c. Waits choice c o) (same_content before c (slice_get s.objects k) is here) waits

same_items : (cs : List Content) (k : ℕ) (c : Content) → slice_get cs k ≡ Some c → slice_set cs k c ≡ cs
same_items [] k c is = refl
same_items (d ∷ cs) zero c is = ap (λ e. e ∷ cs) cc
same_items (d ∷ cs) (suc k) c is = ap (λ es. d ∷ es) (same_items cs k c is)

-- an operation that has to wait leaves the state as it is
same_state : (s : FireState) (k : ℕ) (before after : Content) → slice_get s.objects k ≡ Some before → after ≡ before → with_object s k after ≡ s
same_state s k before after is same = ap (with_object s k) same ∙ ap (λ cs. record s { objects = cs }) (same_items s.objects k before is)

pub still_waits : (seen old : FireState) → seen ≡ old → (choice : Option ℕ) (k : ℕ) (o : Operation) (before after : Content) (r : Tried Reply Operation) →
    slice_get seen.objects k ≡ Some before → IfNotYet r (λ back. Waits choice before o × (back ≡ o × (after ≡ before))) →
    IfNotYet r (λ back. WaitsAt choice old k o × (back ≡ o × (with_object seen k after ≡ old)))
still_waits seen old e choice k o before after (Done reply) is waits = tt
still_waits seen old e choice k o before after (NotYet back) is waits =
    (subst (λ s. WaitsAt choice s k o) e (waits_at choice seen k o before is waits.0), (waits.1.0, same_state seen k before after is waits.1.1 ∙ e))
still_waits seen old e choice k o before after Memory is waits = tt

pub waits_past : (choice : Option ℕ) (s : FireState) (k : ℕ) (o : Operation) → length s.objects ≤ k → WaitsAt choice s k o
waits_past choice s k o past = λ c here. no_content c (slice_get s.objects k) (slice_get_past s.objects k past) here

pub placed : (seen old : FireState) → seen ≡ old → (k serial : ℕ) (v : Value) (outputs : List Value) (reply : Reply) (before content : Content) →
    slice_get seen.objects k ≡ Some before → Places before serial v outputs reply content → PlacesAt old k serial v outputs reply (with_object seen k content)
placed seen old e k serial v outputs reply before content is places =
    record { before = before; before_is = subst (λ s. slice_get s.objects k ≡ Some before) e is; content = content; places = places; new_is = ap (λ s. with_object s k content) e }
