-- Whole answers on small listings, computed: usage, a refused token, `print`, `check` with and without a break, and where a run stops before it begins.
use Rattle.std.proofs.Common.{◌≡◌, inl, inr, ℕ, zero, suc, ◌+◌, ◌==◌, ◌&&◌, ◌||◌, ◌*◌, Bool, true, false, List, [], ◌∷◌, ◌++◌, length, Some, None, pos, refl, ap, sym, subst, ◌∙◌, arith}
use Rattle.std.proofs.lemmas.Bool.{eqb-true}
use Rattle.std.specs.Prelude.{codes, slice_get, Err}
use Rattle.std.specs.Fmt.{digits}
use Rattle.std.specs.List.{All, Contains, list_any}
use Rattle.std.specs.List.Sorted.{IsStrictlySortedBy}
use Rattle.g_grammar.specs.Grammar.{read, repeat}
use Rattle.g_grammar.proofs.Laws.{takes}
use Rattle.g_types.proofs.Texts.{texts}
use Rattle.g_values.specs.declared.primitive.Primitive.TheVariants.{Add}
use Rattle.g_prims_definitions.proofs.Folds.{folds}
use Rattle.g_tokens.specs.declared.token.Token.{Token}
use Rattle.g_tokens.specs.declared.token.Token.TheVariants as token
use Rattle.g_tokens.specs.declared.token.Mark.TheVariants as mark
use Rattle.g_tokens.specs.Tokens.{characters, longest, lexemes, lines, placed_tokens, places_of, tokens_of}
use Rattle.g_listing_words.specs.Operations.{operation_of}
use Rattle.g_listing_grammar.specs.Types as type_forms
use Rattle.g_listing_grammar.specs.Literals.{literal_rest}
use Rattle.g_listing_grammar.specs.Nodes.{node_rest}
use Rattle.g_listing_grammar.specs.Listing.{HasHierarchy, IsListing, listing}
use Rattle.g_listing.proofs.Refusals.{refused_in}
use Rattle.g_line.specs.declared.forms.Setting.{Setting}
use Rattle.g_line.specs.declared.forms.Line.TheVariants.{Print}
use Rattle.g_line.specs.Forms.{Sets}
use Rattle.g_line.specs.Reading.{AreRead}
use Rattle.g_line.proofs.Stops.{stops_second}
use Rattle.g_line.proofs.Runs.{stops_word}
use Rattle.g_diagram.specs.declared.hierarchy.Hierarchy.{Hierarchy}
use Rattle.g_diagram.specs.declared.hierarchy.Vi.{Vi}
use Rattle.g_diagram.specs.declared.place.Break.{Break}
use Rattle.g_diagram.specs.Leads.{Walk}
use Rattle.g_diagram.specs.Lines.{Entry, entries_of}
use Rattle.g_diagram.specs.Operands.{control_lines, entries_lines}
use Rattle.g_diagram.specs.Ports.{Port, freedom, has_wire, ports_in, ports_of}
use Rattle.g_diagram.specs.Text.{text_of}
use Rattle.g_diagram.proofs.Trees.{Sketch, same_entries, sketch_entries, vi_of}
use Rattle.g_rules_breaks.specs.Breaks.{ListsEach, has_break}
use Rattle.g_rules_breaks.proofs.Ordered.{has_first, none_held}
use Rattle.g_rules_lines.specs.Callees.{arities}
use Rattle.g_rules_lines.specs.Lists.{known_of, lined_by}
use Rattle.g_rules_lines.specs.Queues.{first_queue, queues_in}
use Rattle.g_rules_lines.specs.RepeatedNames.{renamed_vis}
use Rattle.g_rules_lines.specs.UnknownVis.{absent_main}
use Rattle.g_wires.specs.Cycles.{LeadsToItself}
use Rattle.g_wires.specs.Breaks.{IsWiring, WiringBreak, named_in, plain_breaks}
use Rattle.g_wires.specs.Cycles.{Cycles}
use Rattle.g_typing.specs.Types.{Types}
use Rattle.g_typing.specs.Typing.{AreTypes, Callees, Given, HasGiven, all_given, called_panel}
use Rattle.g_typing.specs.Breaks.{TypeBreak, breaks_with}
use Rattle.g_hier.specs.Answer.{IsTooLarge}
use Rattle.g_hier.specs.Counts.{nodes_in}
use Rattle.g_hier.specs.Outlines.{calls_at, calls_on, outlines_of}
use Rattle.g_hier.specs.Recursion.{IsRecursion}
use Rattle.g_rules.specs.Checked.{IsBreak, IsUnbroken, wires, types, recursion, too_large}
use Rattle.g_print.proofs.TextLemmas.{nodes}
use Rattle.g_diagram.specs.declared.hierarchy.Clones.TheVariants.{NonReentrant}
use Rattle.g_frames.proofs.Compute.{everything}
use Rattle.g_frames.proofs.Words.{i32, control, indicator, operation, sketch}
use Rattle.grun.specs.Settings.{IsWrongSetting, controls}
use Rattle.grun.specs.Answer.{IsAnswer, reply, usage, syntax, printed, checked_ok, checked_broken, runs, control as wrong_control, broken as run_broken}

-- ---- a listing that doubles the value of its control

abbrev bytes : List ℕ
bytes = codes "glisting 1\nvi Main # doubles\ncontrol a i32->a\nindicator r i32<-d\nadd a a->d\nend"

abbrev main : List ℕ
main = codes "Main"

abbrev doubling : Sketch
doubling = sketch main NonReentrant (control (codes "a") i32 ∷ indicator (codes "r") i32 (codes "d") ∷ []) (operation Add (codes "a" ∷ codes "a" ∷ []) (codes "d") ∷ [])

abbrev h : Hierarchy
h = record { vis = vi_of doubling ∷ [] }

abbrev w : List ℕ → Token
w = token.Word

abbrev listed : List Token
listed =
    w (codes "glisting") ∷ token.Number (pos 1) ∷ token.Eol
    ∷ w (codes "vi") ∷ w main ∷ token.Eol
    ∷ w (codes "control") ∷ w (codes "a") ∷ w (codes "i32") ∷ token.Mark mark.Arrow ∷ w (codes "a") ∷ token.Eol
    ∷ w (codes "indicator") ∷ w (codes "r") ∷ w (codes "i32") ∷ token.Mark mark.Feeds ∷ w (codes "d") ∷ token.Eol
    ∷ w (codes "add") ∷ w (codes "a") ∷ w (codes "a") ∷ token.Mark mark.Arrow ∷ w (codes "d") ∷ token.Eol
    ∷ w (codes "end") ∷ token.Eol ∷ token.End ∷ []

same_tokens : tokens_of (placed_tokens bytes) ≡ listed
unfolding longest characters lexemes lines
same_tokens = refl

reads_so : HasHierarchy listed h
unfolding repeat type_forms.types literal_rest node_rest operation_of
reads_so = takes listing listed h [] refl

is_listing : IsListing bytes h
is_listing = subst (λ ts. HasHierarchy ts h) (sym same_tokens) reads_so

-- ---- usage

-- `run` wants the name of a VI
no_main : IsAnswer (codes "run" ∷ []) bytes None (reply 1 (codes "usage at word 2\n"))
unfolding digits
no_main = usage 2 (stops_second (codes "run" ∷ []) refl (λ w is. absurd cc))

or_right : (a b : Bool) → b ≡ true → (a || b) ≡ true
or_right true b e = refl
or_right false b e = e

has_sign : (name text : List ℕ) → list_any (λ b. b == 61) (name ++ (61 ∷ text)) ≡ true
has_sign [] text = refl
has_sign (b ∷ name) text = or_right (b == 61) (list_any (λ b. b == 61) (name ++ (61 ∷ text))) (has_sign name text)

-- `a` has no `=`
no_sign : (name text : List ℕ) → codes "a" ≡ name ++ (61 ∷ text) → ⊥
no_sign name text e = let none : false ≡ true = ap (list_any (λ b. b == 61)) e ∙ has_sign name text in absurd cc

abbrev unset : List (List ℕ)
unset = codes "run" ∷ main ∷ codes "a" ∷ []

third_is_none : AreRead unset 2 [] [] 2
third_is_none = record {
  settings = [];
  joined = refl;
  are = record { right = tt; each = refl; numbered = tt; written = refl };
  within = omega arith;
  other = λ word is s name same. let third : codes "a" ≡ word = cc in no_sign s.name s.text (third ∙ same);
}

-- and then settings
no_setting : IsAnswer unset bytes None (reply 1 (codes "usage at word 3\n"))
unfolding digits
no_setting = usage 3 (stops_word unset main [] 2 (codes "a") refl (record { second = refl; name = refl }) third_is_none refl (λ e. absurd cc))

-- ---- a refused token

abbrev wide : List ℕ
wide = codes "glisting 1\nvi Main\ncontrol a i33 -> a\nend\n"

abbrev wide_tokens : List Token
wide_tokens =
    w (codes "glisting") ∷ token.Number (pos 1) ∷ token.Eol
    ∷ w (codes "vi") ∷ w main ∷ token.Eol
    ∷ w (codes "control") ∷ w (codes "a") ∷ w (codes "i33") ∷ token.Mark mark.Arrow ∷ w (codes "a") ∷ token.Eol
    ∷ w (codes "end") ∷ token.Eol ∷ token.End ∷ []

abbrev wide_rest : List Token
wide_rest = w (codes "i33") ∷ token.Mark mark.Arrow ∷ w (codes "a") ∷ token.Eol ∷ w (codes "end") ∷ token.Eol ∷ token.End ∷ []

same_wide : tokens_of (placed_tokens wide) ≡ wide_tokens
unfolding longest characters lexemes lines
same_wide = refl

stops_there : read listing wide_tokens ≡ Err wide_rest
unfolding repeat type_forms.types literal_rest node_rest operation_of
stops_there = refl

-- no type is called `i33`
no_type : IsAnswer (codes "print" ∷ []) wide None (reply 2 (codes "syntax at 3:11\n"))
unfolding longest characters lexemes lines digits
no_type = syntax Print (record { line = 3; column = 11 }) refl (omega arith)
    (refused_in wide (tokens_of (placed_tokens wide)) (places_of (placed_tokens wide)) refl refl wide_rest (record { line = 3; column = 11 }) (ap (read listing) same_wide ∙ stops_there) refl)

-- ---- `print`

text_is : text_of h ≡ codes "glisting 1\nvi Main nonreentrant same\n  control a i32 -> a\n  indicator r i32 <- d\n  add a a -> d\nend\n"
unfolding digits
text_is = simp (texts, nodes)

prints_it : IsAnswer (codes "print" ∷ []) bytes None (reply 0 (codes "glisting 1\nvi Main nonreentrant same\n  control a i32 -> a\n  indicator r i32 <- d\n  add a a -> d\nend\n"))
prints_it = subst (λ text. IsAnswer (codes "print" ∷ []) bytes None (reply 0 text)) text_is (printed h refl (omega arith) is_listing)

-- ---- names of wires: none is broken

abbrev ports_by : List Entry → List Port
ports_by es = ports_in (control_lines 1 doubling.panel ++ entries_lines (freedom h.vis) es)

abbrev named_by : (main : List ℕ) → List Entry → List Break
named_by main es =
    (((named_in (ports_by es) 0 ++ lined_by (record { arities = arities h.vis; queues = first_queue (queues_in es ++ []) }) 0 doubling.panel es) ++ []) ++ renamed_vis h.vis)
    ++ absent_main (arities h.vis) 1 main

-- all but rule 6
abbrev named : (main : List ℕ) → List Break
named main = plain_breaks (ports_of h.vis) (known_of h.vis) h.vis ++ absent_main (known_of h.vis).arities (length h.vis) main

none_named : named main ≡ []
none_named = ap (named_by main) (same_entries doubling)

abbrev steps : (a b : ℕ) → Bool
steps a b = has_wire (ports_of h.vis (vi_of doubling)) a b

-- the one wire between nodes leads from `add` to the indicator
one_step : (a b : ℕ) → steps a b ≡ true → (a ≡ 3) × (b ≡ 2)
one_step a b e = by (3 == a) (2 == b) (3 == b) refl refl (sym (ap (λ es. has_wire (ports_by es) a b) (same_entries doubling)) ∙ e)
  where
    by : (x y z : Bool) → (3 == a) ≡ x → (2 == b) ≡ y → (list_any (λ (c : Bool × Bool). x && c.0 && c.1) ((y, true) ∷ (z, false) ∷ (z, false) ∷ []) || false) ≡ true → (a ≡ 3) × (b ≡ 2)
    by true true z p q f = (sym (eqb-true 3 a p), sym (eqb-true 2 b q))
    by true false true p q f = absurd cc
    by true false false p q f = absurd cc
    by false y z p q f = absurd cc

last_step : (n a b : ℕ) → Walk steps n a b → b ≡ 2
last_step zero a b walk = (one_step a b walk).1
last_step (suc n) a b walk = (one_step walk.0 b walk.2).1

no_walk : (n line : ℕ) → Walk steps n line line → ⊥
no_walk zero line walk = let e = one_step line line walk in omega (arith, e.0, e.1)
no_walk (suc n) line walk = let e = one_step walk.0 line walk.2 in omega (arith, e.0, last_step n line walk.0 walk.1)

only_vi : (k : ℕ) (vi : Vi) → slice_get h.vis k ≡ Some vi → (k ≡ 0) × (vi_of doubling ≡ vi)
only_vi zero vi e = (refl, cc)
only_vi (suc k) vi e = absurd cc

no_cycle : (b : Break) → Cycles (ports_of h.vis) h.vis b → ⊥
no_cycle b c =
    let leads = subst (λ vi. LeadsToItself (ports_of h.vis vi) b.place.line) (sym (only_vi b.place.vi c.vi c.stands).1) c.leads in
    no_walk leads.0 b.place.line leads.1

no_wiring : (b : Break) → WiringBreak h main b → ⊥
no_wiring b (inl e) = none_held b (subst (λ bs. has_break bs b ≡ true) none_named e)
no_wiring b (inr c) = no_cycle b c

wired : IsWiring h main []
unfolding IsStrictlySortedBy
wired = record { ascending = tt; only = λ b e. absurd (none_held b e); each = λ b e. absurd (no_wiring b e) }

-- ---- types, calls and counts: none is broken

abbrev called : Callees
called = called_panel h.vis

no_given : Given
no_given = record { diagram = 0; name = []; type = None }

none_typed : (typing : Types) (v : ℕ) (b : Break) → AreTypes called doubling.panel (sketch_entries doubling) typing → Contains (breaks_with called doubling.panel typing v (sketch_entries doubling)) b → ⊥
unfolding everything
none_typed typing v b t c =
    let a : typing 0 (codes "a") ≡ Some i32 = t 0 no_given (omega arith) in
    let all : all_given called doubling.panel (sketch_entries doubling) typing ≡ record { diagram = 0; name = codes "a"; type = Some i32 } ∷ record { diagram = 0; name = codes "d"; type = Some i32 } ∷ [] = rw a refl in
    let given = subst (λ gs. All (HasGiven typing) gs) all t in
    let d : typing 0 (codes "d") ≡ Some i32 = given 1 no_given (omega arith) in
    let none : breaks_with called doubling.panel typing v (sketch_entries doubling) ≡ [] = rw (a, d) (simp folds) in
    let held = subst (λ bs. Contains bs b) none c in
    omega (arith, held.1)

no_type_break : (b : Break) → TypeBreak h b → ⊥
no_type_break b t =
    let vi = sym (only_vi b.place.vi t.vi t.stands).1 in
    let types = subst (λ v. AreTypes called v.panel (entries_of v) t.types) vi t.typing.given in
    let held = subst (λ v. Contains (breaks_with called v.panel t.types b.place.vi (entries_of v)) b) vi t.is_broken in
    none_typed t.types b.place.vi b (subst (λ es. AreTypes called doubling.panel es t.types) (same_entries doubling) types)
    (subst (λ es. Contains (breaks_with called doubling.panel t.types b.place.vi es) b) (same_entries doubling) held)

no_calls : (v : ℕ) → calls_at (outlines_of h) v ≡ []
no_calls zero = ap (calls_on h.vis) (same_entries doubling)
no_calls (suc v) = refl

no_recursion : (b : Break) → IsRecursion (outlines_of h) b → ⊥
no_recursion b r = let held = subst (λ cs. Contains cs r.call) (no_calls b.place.vi) r.stands in omega (arith, held.1)

-- two nodes
few : (count : ℕ) → IsTooLarge (outlines_of h) 0 count → ⊥
few count t =
    let two : t.count ≡ 2 = t.counted.count_is ∙ ap (nodes_in (outlines_of h)) t.counted.are ∙ ap (λ es. 1 * length es + 0) (same_entries doubling) in
    omega (arith, two, t.many)

unbroken : IsUnbroken h main
unbroken = record { wired = wired; none = none }
  where
    none : (b : Break) → IsBreak h main b → ⊥
    none b (wires e) = no_wiring b e
    none b (types kept t) = no_type_break b t
    none b (recursion kept r) = no_recursion b r
    none b (too_large kept count t e) = few count t

-- ---- `check`

checks_it : IsAnswer (codes "check" ∷ main ∷ []) bytes None (reply 0 (codes "ok\n"))
checks_it = checked_ok main h (record { written = refl; main_is_name = refl }) (omega arith) is_listing unbroken

abbrev other : List ℕ
other = codes "Other"

abbrev absent : Break
absent = record { place = record { vi = 1; line = 0; operand = 0 }; rule = 9 }

one_named : named other ≡ absent ∷ []
one_named = ap (named_by other) (same_entries doubling)

-- a main VI that isn't there is broken, and nothing else
one_broken : ListsEach (IsBreak h other) (absent ∷ [])
unfolding IsStrictlySortedBy
one_broken = record { ascending = (tt, tt); only = λ b e. wires (inl (held b e)); each = each }
  where
    held : (b : Break) → has_break (absent ∷ []) b ≡ true → has_break (named other) b ≡ true
    held b e = subst (λ bs. has_break bs b ≡ true) (sym one_named) e

    not_kept : IsWiring h other [] → ⊥
    not_kept kept = none_held absent (kept.each absent (inl (held absent (has_first absent []))))

    each : (b : Break) → IsBreak h other b → has_break (absent ∷ []) b ≡ true
    each b (wires (inl e)) = subst (λ bs. has_break bs b ≡ true) one_named e
    each b (wires (inr c)) = absurd (no_cycle b c)
    each b (types kept t) = absurd (not_kept kept)
    each b (recursion kept r) = absurd (not_kept kept)
    each b (too_large kept count t e) = absurd (not_kept kept)

checks_other : IsAnswer (codes "check" ∷ other ∷ []) bytes None (reply 3 (codes "Other:0.0 rule 9\n"))
unfolding digits
checks_other = checked_broken other h (absent ∷ []) (record { written = refl; main_is_name = refl }) (omega arith) is_listing one_broken (λ e. absurd cc)

-- ---- `run`

abbrev set : (name text : List ℕ) → List Setting
set name text = record { word = 3; name = name; text = text } ∷ []

-- the rules come before the settings
runs_other : IsAnswer (codes "run" ∷ other ∷ codes "b=1" ∷ []) bytes None (reply 3 (codes "Other:0.0 rule 9\n"))
unfolding digits
runs_other = runs other (set (codes "b") (codes "1")) 100_000 h None (reply 3 (codes "Other:0.0 rule 9\n"))
    (Sets (record { word = 3; name = codes "b"; text = codes "1" }) ∷ [], record { written = refl; main_is_name = refl; right = (refl, tt); numbered = (refl, tt); once = omega arith; given = refl; limited = refl })
    (omega arith) is_listing (run_broken (absent ∷ []) one_broken (λ e. absurd cc))

-- no control is called `b`
no_control : IsAnswer (codes "run" ∷ main ∷ codes "b=1" ∷ []) bytes None (reply 4 (codes "control at word 3\n"))
unfolding digits
no_control = runs main (set (codes "b") (codes "1")) 100_000 h None (reply 4 (codes "control at word 3\n"))
    (Sets (record { word = 3; name = codes "b"; text = codes "1" }) ∷ [], record { written = refl; main_is_name = refl; right = (refl, tt); numbered = (refl, tt); once = omega arith; given = refl; limited = refl })
    (omega arith) is_listing (wrong_control (vi_of doubling) (record { word = 3; name = codes "b"; text = codes "1" }) unbroken refl unnamed)
  where
    unnamed : IsWrongSetting (controls doubling.panel) (set (codes "b") (codes "1")) (record { word = 3; name = codes "b"; text = codes "1" })
    unnamed = record { before = []; after = []; split = refl; values = []; right = refl; wrong = λ others g. let none = g.1.named in absurd cc }
