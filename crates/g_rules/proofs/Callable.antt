-- Where none of the rules 1 to 14 is broken, each call and MAIN name VIs.
use Rattle.std.proofs.Common.{◌≡◌, ℕ, ◌+◌, ◌<◌, All, Bool, true, false, not, cond, List, [], ◌∷◌, ◌++◌, map, filter, length, Option, Some, None, refl, sym, ◌∙◌, inl}
use Rattle.std.specs.Prelude.{is_some}
use Rattle.std.specs.Option.{option_map}
use Rattle.std.proofs.lemmas.List.Elements.{All-nil, All-cons}
use Rattle.g_diagram.specs.declared.hierarchy.Hierarchy.{Hierarchy}
use Rattle.g_diagram.specs.declared.hierarchy.Vi.{Vi}
use Rattle.g_diagram.specs.declared.place.Break.{Break}
use Rattle.g_diagram.specs.Lines.{Kind, Call, Entry, entries_of}
use Rattle.g_diagram.specs.Ports.{first_vi, ports_of}
use Rattle.g_hier.specs.Outlines.{number_of, outlines_of, AreKnown}
use Rattle.g_hier.proofs.Known.{NamesVi, name_known, calls_known}
use Rattle.g_rules_lines.specs.Arity.{miscounted}
use Rattle.g_rules_lines.specs.Callees.{arity}
use Rattle.g_rules_lines.specs.Lists.{known_of, called_by, structured_by, lined_by}
use Rattle.g_rules_lines.specs.PanelObjects.{unlocated, names_object}
use Rattle.g_rules_lines.specs.Spots.{whole, break}
use Rattle.g_rules_lines.specs.UnknownVis.{names_no_vi, uncalled, absent_main}
use Rattle.g_rules_lines.specs.RepeatedNames.{renamed_items, renamed_vis}
use Rattle.g_wires.specs.Breaks.{IsWiring, named_in, plain_in, each_from, plain_breaks}
use Rattle.g_rules_breaks.proofs.Ordered.{none_in}

pub refute : false ≡ true → ⊥
refute e = absurd cc

nil_parts : {X : Type 0} (xs ys : List X) → xs ++ ys ≡ [] → (xs ≡ []) × (ys ≡ [])
nil_parts [] ys e = (refl, e)
nil_parts (x ∷ xs) ys e = absurd cc

nil_map : {X Y : Type 0} (f : X → Y) (xs : List X) → map f xs ≡ [] → xs ≡ []
nil_map f [] e = refl
nil_map f (x ∷ xs) e = absurd cc

is_some-map : {X Y : Type 0} (f : X → Y) (o : Option X) → is_some (option_map f o) ≡ is_some o
is_some-map f None = refl
is_some-map f (Some x) = refl

kept : (b : Bool) → not b ≡ false → b ≡ true
kept true e = refl
kept false e = absurd cc

-- all that the rules on names and lines find is nothing
nothing_plain : (h : Hierarchy) (main : List ℕ) → IsWiring h main [] → plain_breaks (ports_of h.vis) (known_of h.vis) h.vis ++ absent_main (known_of h.vis).arities (length h.vis) main ≡ []
nothing_plain h main wired = none_in _ (λ b has. refute (wired.each b (inl has)))

-- what a call names
call_named : (vis : List Vi) (k : Kind) → names_no_vi (known_of vis).arities k ≡ false → NamesVi vis k
call_named vis (Call name inputs outputs) e = sym (is_some-map arity (first_vi vis name)) ∙ kept (is_some (option_map arity (first_vi vis name))) e
call_named vis _ e = tt

entries_named : (vis : List Vi) (es : List Entry) → filter (λ e. names_no_vi (known_of vis).arities e.kind) es ≡ [] → All (λ (e : Entry). NamesVi vis e.kind) es
entries_named vis [] h = All-nil (λ (e : Entry). NamesVi vis e.kind)
entries_named vis (e ∷ es) h = by (names_no_vi (known_of vis).arities e.kind) refl h (entries_named vis es)
  where
    rest : List Entry
    rest = filter (λ e. names_no_vi (known_of vis).arities e.kind) es

    by : (b : Bool) → names_no_vi (known_of vis).arities e.kind ≡ b → cond b (e ∷ rest) rest ≡ [] → (rest ≡ [] → All (λ (x : Entry). NamesVi vis x.kind) es)
        → All (λ (x : Entry). NamesVi vis x.kind) (e ∷ es)
    by true is none more = absurd cc
    by false is none more = All-cons (λ (x : Entry). NamesVi vis x.kind) e es (call_named vis e.kind is) (more none)

-- the calls of one VI
vi_named : (vis : List Vi) (number : ℕ) (vi : Vi) → plain_in (ports_of vis) (known_of vis) number vi ≡ [] → All (λ (e : Entry). NamesVi vis e.kind) (entries_of vi)
vi_named vis number vi none =
    let es = entries_of vi in
    let known = known_of vis in
    let lined = (nil_parts (named_in (ports_of vis vi) number) (lined_by known number vi.panel es) none).1 in
    let called = (nil_parts (called_by known.arities number vi.panel es) (structured_by known.queues number es) lined).0 in
    let counted = (nil_parts (map (break number 5) (miscounted known.arities es)) _ called).1 in
    let renamed = (nil_parts (renamed_items number vi.panel) _ counted).1 in
    let located = (nil_parts (map (break number 8) (unlocated (names_object vi.panel) es)) _ renamed).1 in
    let spots = nil_map (break number 9) (uncalled known.arities es) located in
    entries_named vis es (nil_map whole (filter (λ e. names_no_vi known.arities e.kind) es) spots)

vis_named : (vis : List Vi) (number : ℕ) (more : List Vi) → each_from (plain_in (ports_of vis) (known_of vis)) number more ≡ [] → All (λ (vi : Vi). All (λ (e : Entry). NamesVi vis e.kind) (entries_of vi)) more
vis_named vis number [] none = All-nil (λ (vi : Vi). All (λ (e : Entry). NamesVi vis e.kind) (entries_of vi))
vis_named vis number (vi ∷ more) none =
    let parts = nil_parts (plain_in (ports_of vis) (known_of vis) number vi) (each_from (plain_in (ports_of vis) (known_of vis)) (number + 1) more) none in
    All-cons (λ (vi : Vi). All (λ (e : Entry). NamesVi vis e.kind) (entries_of vi)) vi more (vi_named vis number vi parts.0) (vis_named vis (number + 1) more parts.1)

pub calls_named : (h : Hierarchy) (main : List ℕ) → IsWiring h main [] → AreKnown (outlines_of h)
calls_named h main wired =
    let plain = (nil_parts (plain_breaks (ports_of h.vis) (known_of h.vis) h.vis) _ (nothing_plain h main wired)).0 in
    let each = (nil_parts (each_from (plain_in (ports_of h.vis) (known_of h.vis)) 0 h.vis) (renamed_vis h.vis) plain).0 in
    calls_known h (vis_named h.vis 0 h.vis each)

pub main_named : (h : Hierarchy) (main : List ℕ) → IsWiring h main [] → number_of h.vis main < length h.vis
main_named h main wired =
    let absent = (nil_parts (plain_breaks (ports_of h.vis) (known_of h.vis) h.vis) (absent_main (known_of h.vis).arities (length h.vis) main) (nothing_plain h main wired)).1 in
    name_known h.vis main (sym (is_some-map arity (first_vi h.vis main)) ∙ there (is_some (option_map arity (first_vi h.vis main))) _ absent)
  where
    there : (b : Bool) (x : Break) → cond b [] (x ∷ []) ≡ [] → b ≡ true
    there true x e = refl
    there false x e = absurd cc
