-- Values come to their sources, by the places of these.
use Rattle.std.proofs.Common.{◌≡◌, ◌+◌, ◌<◌, ℕ, zero, suc, Bool, true, false, List, [], ◌∷◌, ◌++◌, length, drop, refl, sym, ap, ◌∙◌, append_assoc, arith}
use Rattle.std.specs.Prelude.{Option, Some, None, slice_get, slice_set, if◌then◌else◌}
use Rattle.std.specs.Option.{option_map, option_or}
use Rattle.g_values.specs.declared.value.Value.{Value}
use Rattle.g_border.specs.declared.place.WireSource.{WireSource}
use Rattle.g_border.specs.Readers.{same_source}
use Rattle.g_frames.specs.State.{no_values, with_value}
use Rattle.g_vi_tables.specs.Places.{source_place}
use Rattle.g_states.specs.States.{put_in, put_at}

-- at a place, or nowhere
abbrev put_where : Option ℕ → List (Option Value) → Value → List (Option Value)
put_where None vs v = vs
put_where (Some k) vs v = put_at vs k v

nowhere : (m : Option ℕ) (v : Value) → [] ≡ put_where m [] v
nowhere None v = refl
nowhere (Some k) v = refl

first : (w : Option Value) (vs : List (Option Value)) (v : Value) → option_or w (Some v) ∷ vs ≡ put_at (w ∷ vs) 0 v
first None vs v = refl
first (Some u) vs v = refl

later_in : (o : Option (Option Value)) (w : Option Value) (vs : List (Option Value)) (k : ℕ) (v : Value) → w ∷ put_in o vs k v ≡ put_in o (w ∷ vs) (suc k) v
later_in None w vs k v = refl
later_in (Some None) w vs k v = refl
later_in (Some (Some u)) w vs k v = refl

later : (m : Option ℕ) (w : Option Value) (vs : List (Option Value)) (v : Value) → w ∷ put_where m vs v ≡ put_where (option_map suc m) (w ∷ vs) v
later None w vs v = refl
later (Some k) w vs v = later_in (slice_get vs k) w vs k v

beside : (here : Bool) (m : Option ℕ) (w : Option Value) (vs us : List (Option Value)) (v : Value) → us ≡ put_where m vs v →
    (if here then option_or w (Some v) ∷ vs else w ∷ us) ≡ put_where (if here then Some 0 else option_map suc m) (w ∷ vs) v
beside true m w vs us v e = first w vs v
beside false m w vs us v e = ap (λ z. w ∷ z) e ∙ later m w vs v

comes : (qs : List WireSource) (vs : List (Option Value)) (p : WireSource) (v : Value) → with_value qs vs p v ≡ put_where (source_place p qs) vs v
comes [] vs p v = refl
comes (q ∷ qs) [] p v = nowhere (source_place p (q ∷ qs)) v
comes (q ∷ qs) (w ∷ vs) p v = beside (same_source q p) (source_place p qs) w vs (with_value qs vs p v) v (comes qs vs p v)

pub comes_at : (qs : List WireSource) (vs : List (Option Value)) (p : WireSource) (v : Value) (k : ℕ) → Some k ≡ source_place p qs → put_at vs k v ≡ with_value qs vs p v
comes_at qs vs p v k e = ap (λ m. put_where m vs v) e ∙ sym (comes qs vs p v)

pub comes_nowhere : (qs : List WireSource) (vs : List (Option Value)) (p : WireSource) (v : Value) → None ≡ source_place p qs → vs ≡ with_value qs vs p v
comes_nowhere qs vs p v e = ap (λ m. put_where m vs v) e ∙ sym (comes qs vs p v)

-- ---- no values

none_drop : (qs : List WireSource) (k : ℕ) → k < length qs → no_values (drop k qs) ≡ None ∷ no_values (drop (suc k) qs)
none_drop [] k h = absurd (omega arith)
none_drop (q ∷ qs) zero h = refl
none_drop (q ∷ qs) (suc k) h = none_drop qs k (omega arith)

pub none_more : (qs : List WireSource) (k : ℕ) (vs us : List (Option Value)) → k < length qs → us ≡ vs ++ None ∷ [] → us ++ no_values (drop (k + 1) qs) ≡ vs ++ no_values (drop k qs)
none_more qs k vs us h e =
    let next : k + 1 ≡ suc k = omega arith in
    ap (λ n. us ++ no_values (drop n qs)) next
    ∙ (ap (λ ws. ws ++ no_values (drop (suc k) qs)) e
    ∙ (append_assoc vs (None ∷ []) (no_values (drop (suc k) qs)) ∙ ap (λ ws. vs ++ ws) (sym (none_drop qs k h))))

pub ruleset given = (comes_at, comes_nowhere)
