-- That an answer is one: the words, the bytes and the trace of a run leave nothing open.
use Rattle.std.proofs.Common.{◌≡◌, ◌≢◌, ◌⊎◌, ℕ, zero, suc, ◌-◌, ◌<◌, ◌≤◌, List, [], ◌∷◌, ◌++◌, length, take, slice_get, inl, inr, Option, Some, codes, refl, sym, ap, ◌∙◌, subst, append_assoc, arith}
use Rattle.std.specs.Fmt.{decimal}
use Rattle.std.proofs.lemmas.Bool.{cases_order}
use Rattle.std.proofs.lemmas.List.{map-append}
use Rattle.g_grammar.proofs.Laws.{same as same_reading}
use Rattle.g_tokens.specs.declared.token.Token.{Token}
use Rattle.g_tokens.specs.declared.token.Spot.{Spot}
use Rattle.g_tokens.specs.Tokens.{placed_tokens, tokens_of}
use Rattle.g_values.specs.declared.value.Value.{Value}
use Rattle.g_diagram.specs.declared.place.Break.{Break}
use Rattle.g_diagram.specs.declared.hierarchy.Hierarchy.{Hierarchy}
use Rattle.g_diagram.specs.declared.hierarchy.Vi.{Vi}
use Rattle.g_diagram.specs.Text.{text_of}
use Rattle.g_listing_grammar.specs.Listing.{HasHierarchy, IsListing, listing}
use Rattle.g_listing.specs.Refusal.{IsFirstRefused, IsRefusal}
use Rattle.g_listing.specs.declared.listing.ListingRefused.TheVariants.{Syntax}
use Rattle.g_line.specs.declared.forms.Setting.{Setting}
use Rattle.g_line.specs.declared.forms.Line.{Line}
use Rattle.g_line.specs.declared.forms.Line.TheVariants.{Run, Check, Print}
use Rattle.g_line.specs.Forms.{Word, HasLine}
use Rattle.g_line.specs.Usage.{BeginsLine, IsFirstWrong}
use Rattle.g_line.proofs.Stops.{only_line}
use Rattle.g_rules_breaks.specs.Breaks.{ListsEach}
use Rattle.g_rules.specs.Checked.{IsBreak, IsUnbroken}
use Rattle.g_hier.specs.Outlines.{number_of}
use Rattle.g_frames.specs.declared.firing.Firing.{Firing}
use Rattle.g_frames.specs.Program.{Program}
use Rattle.g_frames.specs.State.{FireState}
use Rattle.g_frames.specs.Run.{after, end_of}
use Rattle.g_frames.specs.Print.{print}
use Rattle.g_program_laws.specs.Laws.{ProgramsAreOne}
use Rattle.grun.specs.Texts.{line_of, breaks_text, spot_text}
use Rattle.grun.specs.Settings.{Named, Give, IsWrongSetting, controls, control_values}
use Rattle.grun.specs.Answer.{Reply, reply, LIMIT, Runs, status_of, IsRunAnswer, broken, control, ran, IsAnswer, usage, too_long, syntax, printed, checked_broken, checked_ok, runs}
use Rattle.grun.proofs.Split.{Splits, together, ahead, behind, splits}
use Rattle.grun.proofs.Giving.{give_one, wrong_gives, wrong_one}
use Rattle.grun.proofs.Ordered.{one_list, none_listed}

-- ---- words without a line

front_of : (words : List Word) (n m : ℕ) → n ≤ m → (more : List Word) × (take m words ≡ take n words ++ more)
front_of words zero m le = (take m words, refl)
front_of [] (suc n) zero le = absurd (omega (arith, le))
front_of [] (suc n) (suc m) le = ([], refl)
front_of (w ∷ words) (suc n) zero le = absurd (omega (arith, le))
front_of (w ∷ words) (suc n) (suc m) le = let rest = front_of words n m (omega (arith, le)) in (rest.0, ap (λ (l : List Word). w ∷ l) rest.1)

begins_shorter : (words : List Word) (n m : ℕ) → n ≤ m → BeginsLine (take m words) → BeginsLine (take n words)
begins_shorter words n m le b =
    let front = front_of words n m le in
    (front.0 ++ b.0, b.1, subst (λ (l : List Word). HasLine l b.1) (ap (λ (l : List Word). l ++ b.0) front.1 ∙ append_assoc (take n words) front.0 b.0) b.2)

not_less : (words : List Word) (j k : ℕ) → IsFirstWrong words j → IsFirstWrong words k → j < k → ⊥
not_less words j k a b less = a.here (omega (arith, less, b.last)) (begins_shorter words j (k - 1) (omega (arith, less)) b.before)

one_word : (words : List Word) (j k : ℕ) → IsFirstWrong words j → IsFirstWrong words k → j ≡ k
one_word words j k a b = by (cases_order j k)
  where
    by : (j ≡ k) ⊎ ((j < k) ⊎ (k < j)) → j ≡ k
    by (inl same) = same
    by (inr (inl less)) = absurd (not_less words j k a b less)
    by (inr (inr more)) = absurd (not_less words k j b a more)

-- ---- bytes that are no listing

-- a refused token stands at no place that a listing reaches
not_behind : (bytes : List ℕ) (s t : Spot) (a : IsFirstRefused bytes s) (b : IsFirstRefused bytes t) (more : List (Token × Spot)) → b.before ≡ a.before ++ (a.token, s) ∷ more → ⊥
not_behind bytes s t a b more e =
    a.refused (tokens_of more ++ b.completion) b.hierarchy
    (subst (λ (ts : List Token). HasHierarchy ts b.hierarchy)
    (ap (λ (l : List (Token × Spot)). tokens_of l ++ b.completion) e
    ∙ ap (λ (ts : List Token). ts ++ b.completion) (map-append (λ (x : Token × Spot). x.0) a.before ((a.token, s) ∷ more))
    ∙ append_assoc (tokens_of a.before) (a.token ∷ tokens_of more) b.completion) b.completed)

one_spot : (bytes : List ℕ) (s t : Spot) → IsFirstRefused bytes s → IsFirstRefused bytes t → s ≡ t
one_spot bytes s t a b = by (splits a.before b.before (a.token, s) (b.token, t) a.after b.after (sym a.split ∙ b.split))
  where
    by : Splits a.before b.before (a.token, s) (b.token, t) → s ≡ t
    by (together p q) = ap (λ (x : Token × Spot). x.1) q
    by (ahead more p) = absurd (not_behind bytes s t a b more p)
    by (behind more p) = absurd (not_behind bytes t s b a more p)

-- ---- a hierarchy that is checked or run

data IsCheck (main : List ℕ) (h : Hierarchy) (r : Reply) : Type 0 where
  breaks : (bs : List Break) → ListsEach (IsBreak h main) bs → bs ≢ [] → r ≡ reply 3 (breaks_text main h.vis bs) → IsCheck main h r
  ok : IsUnbroken h main → r ≡ reply 0 (line_of (codes "ok")) → IsCheck main h r

one_check : (main : List ℕ) (h : Hierarchy) (r s : Reply) → IsCheck main h r → IsCheck main h s → r ≡ s
one_check main h r s (breaks bs lists some is) (breaks cs listed others at) = is ∙ ap (λ (l : List Break). reply 3 (breaks_text main h.vis l)) (one_list (IsBreak h main) bs cs lists listed) ∙ sym at
one_check main h r s (breaks bs lists some is) (ok unbroken at) = absurd (some (none_listed (IsBreak h main) bs lists unbroken.none))
one_check main h r s (ok unbroken is) (breaks cs listed others at) = absurd (others (none_listed (IsBreak h main) cs listed unbroken.none))
one_check main h r s (ok unbroken is) (ok too at) = is ∙ sym at

-- what the values of controls make of a run
data IsSettled (main : List ℕ) (settings : List Setting) (limit : ℕ) (h : Hierarchy) (vi : Vi) (trace : Option (List Firing)) (r : Reply) : Type 0 where
  wrong : (s : Setting) → IsWrongSetting (controls vi.panel) settings s → r ≡ reply 4 (line_of (codes "control at word " ++ decimal s.word)) → IsSettled main settings limit h vi trace r
  right : (values : Named Value) (fired : List Firing) → Give (controls vi.panel) [] settings values → trace ≡ Some fired
      → Runs h (number_of h.vis main) (control_values vi.panel values) limit fired r → IsSettled main settings limit h vi trace r

-- a program's run shows one thing
one_shown : (p q : Program) (values others : List Value) (limit : ℕ) (fired again : List Firing) (a b : FireState) → p ≡ q → values ≡ others → fired ≡ again
    → after p values limit fired ≡ Some a → after q others limit again ≡ Some b → reply (status_of (end_of p a)) (print p a) ≡ reply (status_of (end_of q b)) (print q b)
one_shown p q values others limit fired again a b programs given trace leads comes =
    let both : Some a ≡ Some b =
    sym leads ∙ ap (λ x. after x values limit fired) programs ∙ ap (λ (vs : List Value). after q vs limit fired) given ∙ ap (λ (xs : List Firing). after q others limit xs) trace ∙ comes in
    let states : a ≡ b = cc in
    ap (λ x. reply (status_of (end_of x a)) (print x a)) programs ∙ ap (λ s. reply (status_of (end_of q s)) (print q s)) states

one_run : ProgramsAreOne → (h : Hierarchy) (main : List ℕ) → IsUnbroken h main → (values others : List Value) (limit : ℕ) (fired again : List Firing) (r s : Reply) → values ≡ others → Some fired ≡ Some again
    → Runs h (number_of h.vis main) values limit fired r → Runs h (number_of h.vis main) others limit again s → r ≡ s
one_run laws h main unbroken values others limit fired again r s given traces a b =
    let trace : fired ≡ again = cc in
    let programs = laws h main unbroken.wired (number_of h.vis main) a.program b.program a.is_program b.is_program in
    a.shown ∙ one_shown a.program b.program values others limit fired again a.state b.state programs given trace a.allowed b.allowed ∙ sym b.shown

one_settled : ProgramsAreOne → (main : List ℕ) (settings : List Setting) (limit : ℕ) (h : Hierarchy) → IsUnbroken h main → (vi : Vi) (trace : Option (List Firing)) (r s : Reply)
    → IsSettled main settings limit h vi trace r → IsSettled main settings limit h vi trace s → r ≡ s
one_settled laws main settings limit h unbroken vi trace r s (wrong x a is) (wrong y b at) =
    is ∙ ap (λ (w : Setting). reply 4 (line_of (codes "control at word " ++ decimal w.word))) (wrong_one (controls vi.panel) settings x y a b) ∙ sym at
one_settled laws main settings limit h unbroken vi trace r s (wrong x a is) (right values fired gives traced run) = absurd (wrong_gives (controls vi.panel) settings x values a gives)
one_settled laws main settings limit h unbroken vi trace r s (right values fired gives traced run) (wrong y b at) = absurd (wrong_gives (controls vi.panel) settings y values b gives)
one_settled laws main settings limit h unbroken vi trace r s (right values fired gives traced run) (right others again given told other) =
    one_run laws h main unbroken (control_values vi.panel values) (control_values vi.panel others) limit fired again r s
    (ap (control_values vi.panel) (give_one (controls vi.panel) [] values others settings gives given)) (sym traced ∙ told) run other

-- the VI that runs is one
settled_by : (main : List ℕ) (settings : List Setting) (limit : ℕ) (h : Hierarchy) (vi other : Vi) → slice_get h.vis (number_of h.vis main) ≡ Some vi → slice_get h.vis (number_of h.vis main) ≡ Some other
    → (trace : Option (List Firing)) (r : Reply) → IsSettled main settings limit h other trace r → IsSettled main settings limit h vi trace r
settled_by main settings limit h vi other stands at trace r settled =
    let both : Some other ≡ Some vi = sym at ∙ stands in
    let same : other ≡ vi = cc in
    subst (λ v. IsSettled main settings limit h v trace r) same settled

data IsKept (main : List ℕ) (settings : List Setting) (limit : ℕ) (h : Hierarchy) (trace : Option (List Firing)) (r : Reply) : Type 0 where
  settled : (vi : Vi) → slice_get h.vis (number_of h.vis main) ≡ Some vi → IsSettled main settings limit h vi trace r → IsKept main settings limit h trace r

one_kept : ProgramsAreOne → (main : List ℕ) (settings : List Setting) (limit : ℕ) (h : Hierarchy) → IsUnbroken h main → (trace : Option (List Firing)) (r s : Reply)
    → IsKept main settings limit h trace r → IsKept main settings limit h trace s → r ≡ s
one_kept laws main settings limit h unbroken trace r s (settled vi stands a) (settled other at b) =
    one_settled laws main settings limit h unbroken vi trace r s a (settled_by main settings limit h vi other stands at trace s b)

data IsDone (main : List ℕ) (settings : List Setting) (limit : ℕ) (h : Hierarchy) (trace : Option (List Firing)) (r : Reply) : Type 0 where
  unkept : (bs : List Break) → ListsEach (IsBreak h main) bs → bs ≢ [] → r ≡ reply 3 (breaks_text main h.vis bs) → IsDone main settings limit h trace r
  kept : IsUnbroken h main → IsKept main settings limit h trace r → IsDone main settings limit h trace r

done_by : (main : List ℕ) (settings : List Setting) (limit : ℕ) (h : Hierarchy) (trace : Option (List Firing)) (r : Reply) → IsRunAnswer main settings limit h trace r → IsDone main settings limit h trace r
done_by main settings limit h trace r (broken bs lists some) = unkept bs lists some refl
done_by main settings limit h trace r (control vi s unbroken stands a) = kept unbroken (settled vi stands (wrong s a refl))
done_by main settings limit h trace r (ran vi values fired x unbroken stands gives run) = kept unbroken (settled vi stands (right values fired gives refl run))

one_done : ProgramsAreOne → (main : List ℕ) (settings : List Setting) (limit : ℕ) (h : Hierarchy) (trace : Option (List Firing)) (r s : Reply)
    → IsDone main settings limit h trace r → IsDone main settings limit h trace s → r ≡ s
one_done laws main settings limit h trace r s (unkept bs lists some is) (unkept cs listed others at) = one_check main h r s (breaks bs lists some is) (breaks cs listed others at)
one_done laws main settings limit h trace r s (unkept bs lists some is) (kept unbroken b) = absurd (some (none_listed (IsBreak h main) bs lists unbroken.none))
one_done laws main settings limit h trace r s (kept unbroken a) (unkept cs listed others at) = absurd (others (none_listed (IsBreak h main) cs listed unbroken.none))
one_done laws main settings limit h trace r s (kept unbroken a) (kept too b) = one_kept laws main settings limit h unbroken trace r s a b

-- ---- words that have a line

abbrev IsDoneBy : Line → Hierarchy → Option (List Firing) → Reply → Type 0
IsDoneBy (Run main settings limit) h trace r = IsDone main settings limit h trace r
IsDoneBy (Check main) h trace r = IsCheck main h r
IsDoneBy Print h trace r = r ≡ reply 0 (text_of h)

one_done_by : ProgramsAreOne → (line : Line) (h : Hierarchy) (trace : Option (List Firing)) (r s : Reply) → IsDoneBy line h trace r → IsDoneBy line h trace s → r ≡ s
one_done_by laws (Run main settings limit) h trace r s a b = one_done laws main settings limit h trace r s a b
one_done_by laws (Check main) h trace r s a b = one_check main h r s a b
one_done_by laws Print h trace r s a b = a ∙ sym b

data IsLined (line : Line) (bytes : List ℕ) (trace : Option (List Firing)) (r : Reply) : Type 0 where
  longer : LIMIT < length bytes → r ≡ reply 10 (line_of (codes "too long")) → IsLined line bytes trace r
  refused : (spot : Spot) → length bytes ≤ LIMIT → IsRefusal bytes (Syntax spot) → r ≡ reply 2 (line_of (codes "syntax at " ++ spot_text spot)) → IsLined line bytes trace r
  listed : (h : Hierarchy) → length bytes ≤ LIMIT → IsListing bytes h → IsDoneBy line h trace r → IsLined line bytes trace r

one_lined : ProgramsAreOne → (line : Line) (bytes : List ℕ) (trace : Option (List Firing)) (r s : Reply) → IsLined line bytes trace r → IsLined line bytes trace s → r ≡ s
one_lined laws line bytes trace r s (longer long is) (longer too at) = is ∙ sym at
one_lined laws line bytes trace r s (longer long is) (refused spot short a at) = absurd (omega (arith, long, short))
one_lined laws line bytes trace r s (longer long is) (listed h short a b) = absurd (omega (arith, long, short))
one_lined laws line bytes trace r s (refused spot short a is) (longer long at) = absurd (omega (arith, long, short))
one_lined laws line bytes trace r s (refused spot short a is) (refused other too b at) = is ∙ ap (λ (x : Spot). reply 2 (line_of (codes "syntax at " ++ spot_text x))) (one_spot bytes spot other a.1 b.1) ∙ sym at
one_lined laws line bytes trace r s (refused spot short a is) (listed h too b done) = absurd (a.0 h b)
one_lined laws line bytes trace r s (listed h short a done) (longer long at) = absurd (omega (arith, long, short))
one_lined laws line bytes trace r s (listed h short a done) (refused spot too b at) = absurd (b.0 h a)
one_lined laws line bytes trace r s (listed h short a done) (listed other too b did) =
    let one : other ≡ h = (same_reading listing (tokens_of (placed_tokens bytes)) other h [] [] b a).0 in
    one_done_by laws line h trace r s done (subst (λ (x : Hierarchy). IsDoneBy line x trace s) one did)

data IsOne (words : List (List ℕ)) (bytes : List ℕ) (trace : Option (List Firing)) (r : Reply) : Type 0 where
  unlined : (k : ℕ) → IsFirstWrong words k → r ≡ reply 1 (line_of (codes "usage at word " ++ decimal k)) → IsOne words bytes trace r
  lined : (line : Line) → HasLine words line → IsLined line bytes trace r → IsOne words bytes trace r

one_by : (words : List (List ℕ)) (bytes : List ℕ) (trace : Option (List Firing)) (r : Reply) → IsAnswer words bytes trace r → IsOne words bytes trace r
one_by words bytes trace r (usage k first) = unlined k first refl
one_by words bytes trace r (too_long line has long) = lined line has (longer long refl)
one_by words bytes trace r (syntax line spot has short a) = lined line has (refused spot short a refl)
one_by words bytes trace r (printed h has short a) = lined Print has (listed h short a refl)
one_by words bytes trace r (checked_broken main h bs has short a lists some) = lined (Check main) has (listed h short a (breaks bs lists some refl))
one_by words bytes trace r (checked_ok main h has short a unbroken) = lined (Check main) has (listed h short a (ok unbroken refl))
one_by words bytes trace r (runs main settings limit h t x has short a answer) = lined (Run main settings limit) has (listed h short a (done_by main settings limit h t x answer))

one_of : ProgramsAreOne → (words : List (List ℕ)) (bytes : List ℕ) (trace : Option (List Firing)) (r s : Reply) → IsOne words bytes trace r → IsOne words bytes trace s → r ≡ s
one_of laws words bytes trace r s (unlined j a is) (unlined k b at) = is ∙ ap (λ (n : ℕ). reply 1 (line_of (codes "usage at word " ++ decimal n))) (one_word words j k a b) ∙ sym at
one_of laws words bytes trace r s (unlined k a is) (lined line has b) = absurd (a.no_line line has)
one_of laws words bytes trace r s (lined line has a) (unlined k b at) = absurd (b.no_line line has)
one_of laws words bytes trace r s (lined line has a) (lined other also b) =
    one_lined laws line bytes trace r s a (subst (λ (l : Line). IsLined l bytes trace s) (only_line words line has other also) b)

pub one_answer : ProgramsAreOne → (words : List (List ℕ)) (bytes : List ℕ) (trace : Option (List Firing)) (r s : Reply) → IsAnswer words bytes trace r → IsAnswer words bytes trace s → r ≡ s
one_answer laws words bytes trace r s a b = one_of laws words bytes trace r s (one_by words bytes trace r a) (one_by words bytes trace s b)
