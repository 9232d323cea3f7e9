-- Values that are typed.
use Rattle.std.proofs.Common.{◌≡◌, inl, inr, Bool, true, false, ◌&&◌, ◌||◌, List, [], ◌∷◌, ◌++◌, map, Option, Some, None, refl, ap, sym, ◌∙◌, subst}
use Rattle.std.specs.Prelude.{ℤ}
use Rattle.std.specs.List.{All}
use Rattle.std.proofs.lemmas.List.Elements.{All-nil, All-cons, All-head, All-tail}
use Rattle.g_types.specs.declared.rep.Rep.{Rep}
use Rattle.g_types.specs.declared.ty.Ty.{Ty}
use Rattle.g_types.specs.declared.ty.Ty.TheVariants as ty
use Rattle.g_types.specs.Same.{same_type}
use Rattle.g_types.specs.Ty.{is_num, is_nums, IsAssignable}
use Rattle.g_types.proofs.SameLemmas.{same_type-true}
use Rattle.g_values.specs.declared.num.Num.{Num}
use Rattle.g_values.specs.declared.primitive.Primitive.{Primitive}
use Rattle.g_values.specs.declared.value.Value.{Value}
use Rattle.g_values.specs.declared.value.Value.TheVariants as value
use Rattle.g_values.specs.Coerce.{coerced}
use Rattle.g_values.specs.Default.{default}
use Rattle.g_values.specs.Number.{num_of}
use Rattle.g_values.specs.Proper.{IsProper}
use Rattle.g_values.specs.Spelled.{IsSpelled}
use Rattle.g_values.specs.Typed.{IsOfType}
use Rattle.g_values.specs.Value.{type_of}
use Rattle.g_values.proofs.CoercedValues.{coerced-of_type}
use Rattle.g_values.proofs.DefaultValues.{type-default, proper-default}
use Rattle.g_values.proofs.ProperLemmas.{proper_num, proper_bool}
use Rattle.g_values.proofs.TypesOf.{type-Num, type-Bool}
use Rattle.g_prims_definitions.specs.Arithmetic.{number}
use Rattle.g_prims_definitions.specs.Kinds.{is_assignable}
use Rattle.g_prims_definitions.specs.Rows.{row_of}
use Rattle.g_prims_definitions.specs.Values.{outputs_of}
use Rattle.g_prims_laws.specs.Laws.{AreOfTypes}
use Rattle.g_prims_laws.proofs.RowOutputs.{gives_row}
use Rattle.g_diagram.specs.declared.panel.Lit.{Lit}
use Rattle.g_typing.specs.Literals.{is_value_of, is_default_of}
use Rattle.g_literals.specs.Values.{literal_value}
use Rattle.g_literals.proofs.TypedValues.{typed_literal}
use Rattle.g_reference_laws.specs.References.{references_of, HoldsOnly}
use Rattle.g_reference_laws.proofs.Held.{holds_none, references-Num, references-Bool}
use Rattle.g_reference_laws.proofs.Outputs.{outputs_hold_only}
use Rattle.g_reference_laws.proofs.Plain.{defaults_hold_none, coerced_holds_the_same}
use Rattle.g_reference_laws.proofs.PlainLiterals.{literals_hold_none}
use Rattle.g_frames.specs.Program.{Program}
use Rattle.g_frames.specs.Panels.{default_of}
use Rattle.g_typed_states.specs.Typed.{IsNamed, IsTypedValue, AreTyped, AllTyped}

-- a value may go where one of an assignable type does
pub assignable : (a b : Ty) → is_assignable a b ≡ true → IsAssignable a b
assignable a b h = by (same_type a b) refl h
  where
    by : (s : Bool) → s ≡ same_type a b → (s || ((is_num a && is_num b) || (is_nums a && is_nums b))) ≡ true → IsAssignable a b
    by true e k = inl (same_type-true a b (sym e))
    by false e k = inr k

module _ (p : Program) where
  pub plain_value : (t : Ty) (v : Value) → IsOfType t v → references_of v ≡ [] → IsTypedValue p t v
  plain_value t v is none = record { typed = is; named = holds_none (IsNamed p) v none }

  pub coerced_value : (t u : Ty) (v : Value) → IsTypedValue p t v → is_assignable t u ≡ true → IsTypedValue p u (coerced v u)
  coerced_value t u v is fits = record {
    typed = coerced-of_type v u is.typed.proper (subst (λ a. IsAssignable a u) (sym is.typed.of_type) (assignable t u fits));
    named = subst (All (IsNamed p)) (sym (coerced_holds_the_same v u)) is.named;
  }

  pub default_value : (t : Ty) → IsSpelled t → IsTypedValue p t (default t)
  default_value t s = plain_value t (default t) (record { proper = proper-default t s; of_type = type-default t }) (defaults_hold_none t)

  pub literal_typed : (l : Lit) (t : Ty) → is_value_of l t ≡ true → IsSpelled t → IsTypedValue p t (literal_value l t)
  literal_typed l t is s = plain_value t (literal_value l t) (typed_literal l t is s) (literals_hold_none l t)

  pub default_of_typed : (o : Option Lit) (t : Ty) → is_default_of o t ≡ true → IsSpelled t → IsTypedValue p t (default_of o t)
  default_of_typed None t is s = default_value t s
  default_of_typed (Some l) t is s = literal_typed l t is s

  pub num_value : (x : Num) → IsTypedValue p (ty.Num x.rep) (value.Num x)
  num_value x = plain_value (ty.Num x.rep) (value.Num x) (record { proper = proper_num x; of_type = type-Num x }) (references-Num x)

  pub bool_value : (b : Bool) → IsTypedValue p ty.Bool (value.Bool b)
  bool_value b = plain_value ty.Bool (value.Bool b) (record { proper = proper_bool b; of_type = type-Bool b }) (references-Bool b)

  pub number_value : (r : Rep) (n : ℤ) → IsTypedValue p (ty.Num r) (number r n)
  number_value r n = num_value (num_of r n)

  -- ---- lists of values

  pub all_proper : (ts : List Ty) (vs : List Value) → AreTyped p ts vs → All IsProper vs
  all_proper [] [] are = All-nil IsProper
  all_proper [] (v ∷ vs) are = absurd are
  all_proper (t ∷ ts) [] are = absurd are
  all_proper (t ∷ ts) (v ∷ vs) are = All-cons IsProper v vs are.0.typed.proper (all_proper ts vs are.1)

  pub all_of_types : (ts : List Ty) (vs : List Value) → AreTyped p ts vs → map type_of vs ≡ ts
  all_of_types [] [] are = refl
  all_of_types [] (v ∷ vs) are = absurd are
  all_of_types (t ∷ ts) [] are = absurd are
  all_of_types (t ∷ ts) (v ∷ vs) are = ap (λ u. u ∷ map type_of vs) are.0.typed.of_type ∙ ap (λ us. t ∷ us) (all_of_types ts vs are.1)

  pub all_named : (ts : List Ty) (vs : List Value) → AreTyped p ts vs → All (HoldsOnly (IsNamed p)) vs
  all_named [] [] are = All-nil (HoldsOnly (IsNamed p))
  all_named [] (v ∷ vs) are = absurd are
  all_named (t ∷ ts) [] are = absurd are
  all_named (t ∷ ts) (v ∷ vs) are = All-cons (HoldsOnly (IsNamed p)) v vs are.0.named (all_named ts vs are.1)

  no_type : (v : Value) (vs : List Value) → map type_of (v ∷ vs) ≡ [] → ⊥
  no_type v vs e = cc

  no_value : (t : Ty) (ts : List Ty) → map type_of [] ≡ t ∷ ts → ⊥
  no_value t ts e = cc

  first_is : (a b : Ty) (ts us : List Ty) → a ∷ ts ≡ b ∷ us → a ≡ b
  first_is a b ts us e = cc

  rest_is : (a b : Ty) (ts us : List Ty) → a ∷ ts ≡ b ∷ us → ts ≡ us
  rest_is a b ts us e = cc

  pub are_typed : (ts : List Ty) (vs : List Value) → AreOfTypes ts vs → All (HoldsOnly (IsNamed p)) vs → AreTyped p ts vs
  are_typed [] [] are held = tt
  are_typed [] (v ∷ vs) are held = absurd (no_type v vs are.of_types)
  are_typed (t ∷ ts) [] are held = absurd (no_value t ts are.of_types)
  are_typed (t ∷ ts) (v ∷ vs) are held = (
    record {
      typed = record { proper = All-head IsProper v vs are.proper; of_type = first_is (type_of v) t (map type_of vs) ts are.of_types };
      named = All-head (HoldsOnly (IsNamed p)) v vs held;
    },
    are_typed ts vs (record { proper = All-tail IsProper v vs are.proper; of_types = rest_is (type_of v) t (map type_of vs) ts are.of_types })
        (All-tail (HoldsOnly (IsNamed p)) v vs held),
  )

  -- what a primitive gives is of the types of its row
  pub outputs_typed : (op : Primitive) (ts us : List Ty) (vs : List Value) → AreTyped p ts vs → row_of op ts ≡ Some us → AreTyped p us (outputs_of op vs)
  outputs_typed op ts us vs are row =
      are_typed us (outputs_of op vs)
      (gives_row op vs us (all_proper ts vs are) (ap (row_of op) (all_of_types ts vs are) ∙ row))
      (outputs_hold_only (IsNamed p) op vs (all_named ts vs are))

  pub all_typed_push : (t : Ty) (vs : List Value) (v : Value) → AllTyped p t vs → IsTypedValue p t v → AllTyped p t (vs ++ v ∷ [])
  all_typed_push t [] v all is = (is, tt)
  all_typed_push t (w ∷ vs) v all is = (all.0, all_typed_push t vs v all.1 is)
