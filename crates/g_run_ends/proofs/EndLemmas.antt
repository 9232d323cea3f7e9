-- How a run ended, and what is printed of it, by what a scan found.
use Rattle.std.proofs.Common.{◌≡◌, ℕ, ◌+◌, ◌||◌, Bool, true, false, not, List, [], ◌∷◌, ◌++◌, map, filter, cond, append_assoc, refl, sym, ap, ◌∙◌, arith}
use Rattle.std.specs.Prelude.{nat_lt, codes, if◌then◌else◌}
use Rattle.std.specs.List.{list_any}
use Rattle.std.specs.Fmt.{decimal}
use Rattle.g_frames.specs.declared.state.End.{End}
use Rattle.g_frames.specs.declared.state.End.TheVariants.{Complete, Spent, Stalled, Unfinished}
use Rattle.g_frames.specs.declared.state.Frame.{Frame}
use Rattle.g_frames.specs.Panels.{indicator_names}
use Rattle.g_frames.specs.Print.{end_lines, indicator_lines, indicators, print, waiting_lines}
use Rattle.g_frames.specs.Program.{Program}
use Rattle.g_frames.specs.Run.{Standing, all_nodes, end_of, is_at_rest, is_first_complete, is_waiting, with_room}
use Rattle.g_frames.specs.State.{FireState, panel_items}
use Rattle.g_run_ends.specs.declared.verdict.Verdict.{Verdict}
use Rattle.g_run_ends.specs.Verdicts.{goes, judged, lines_by, verdict_lines}

-- ---- rest

goes_of : (p : Program) (room : Bool) (s : FireState) (ns : List Standing) → list_any (λ v. v.goes) (map (judged p room s) ns) ≡ list_any (goes p room s) ns
goes_of p room s [] = refl
goes_of p room s (n ∷ ns) = ap (λ b. goes p room s n || b) (goes_of p room s ns)

abbrev pub scanned : Program → Bool → FireState → List Verdict
scanned p room s = map (judged p room s) (all_nodes p s)

some_of : (p : Program) (room : Bool) (s : FireState) (some : Bool) (vs ws : List Verdict) → some ≡ list_any (λ v. v.goes) ws → ws ≡ vs → vs ≡ scanned p room s
    → list_any (goes p room s) (all_nodes p s) ≡ some
some_of p room s some vs ws is same are =
    sym (is ∙ ap (λ xs. list_any (λ v. v.goes) xs) (same ∙ are) ∙ goes_of p room s (all_nodes p s))

pub rests : (p : Program) (s : FireState) (some : Bool) (vs : List Verdict) → some ≡ list_any (λ v. v.goes) vs → vs ≡ scanned p (nat_lt s.begun s.limit) s
    → is_at_rest p s ≡ not some
rests p s some vs is are = ap not (some_of p (nat_lt s.begun s.limit) s some vs vs is refl are)

has_room : (n : ℕ) → true ≡ nat_lt n (n + 1)
has_room n = grind arith

pub rests_with_room : (p : Program) (s : FireState) (some : Bool) (vs ws : List Verdict) → some ≡ list_any (λ v. v.goes) ws → ws ≡ vs → vs ≡ scanned p true s
    → is_at_rest p (with_room s) ≡ not some
rests_with_room p s some vs ws is same are =
    ap not (ap (λ b. list_any (goes p b s) (all_nodes p s)) (sym (has_room s.begun)) ∙ some_of p true s some vs ws is same are)

-- ---- ends

pub first_is : (fs gs : List Frame) (b c : Bool) → b ≡ is_first_complete gs → gs ≡ fs → b ≡ c → is_first_complete fs ≡ c
first_is fs gs b c is same so = ap is_first_complete (sym same) ∙ sym is ∙ so

pub incomplete : (first rest b : Bool) → first ≡ false → rest ≡ b → (if b then Stalled else Spent) ≡ (if first then Complete else (if rest then Stalled else Spent))
incomplete first rest b lacks is = sym (ap (λ x. if x then Complete else (if rest then Stalled else Spent)) lacks ∙ ap (λ x. if x then Stalled else Spent) is)

abbrev pub at_end : Program → FireState → End
at_end p s = if is_first_complete s.frames then Complete else (if is_at_rest p (with_room s) then Stalled else Spent)

pub ends : (p : Program) (s : FireState) (b : Bool) (e : End) → is_at_rest p s ≡ b → e ≡ (if b then at_end p s else Unfinished) → e ≡ end_of p s
ends p s b e is so = so ∙ ap (λ x. if x then at_end p s else Unfinished) (sym is)

-- ---- text

one_waits : (b : Bool) (n : Standing) (rest : List ℕ) (ms : List Standing) → rest ≡ waiting_lines (map (λ m. (m.number, m.entry.line)) ms)
    → (if b then codes "waiting " ++ (decimal n.number ++ (32 ∷ (decimal n.entry.line ++ (10 ∷ [])))) else []) ++ rest
    ≡ waiting_lines (map (λ m. (m.number, m.entry.line)) (cond b (n ∷ ms) ms))
one_waits true n rest ms h =
    append_assoc (codes "waiting ") (decimal n.number ++ (32 ∷ (decimal n.entry.line ++ (10 ∷ [])))) rest
    ∙ ap (λ l. codes "waiting " ++ l)
    (append_assoc (decimal n.number) (32 ∷ (decimal n.entry.line ++ (10 ∷ []))) rest
    ∙ ap (λ l. decimal n.number ++ (32 ∷ l)) (append_assoc (decimal n.entry.line) (10 ∷ []) rest ∙ ap (λ l. decimal n.entry.line ++ (10 ∷ l)) h))
one_waits false n rest ms h = h

all_wait : (p : Program) (s : FireState) (ns : List Standing)
    → verdict_lines (map (judged p (nat_lt s.begun s.limit) s) ns) ≡ waiting_lines (map (λ n. (n.number, n.entry.line)) (filter (is_waiting p s) ns))
all_wait p s [] = refl
all_wait p s (n ∷ ns) =
    one_waits (is_waiting p s n) n (verdict_lines (map (judged p (nat_lt s.begun s.limit) s) ns)) (filter (is_waiting p s) ns) (all_wait p s ns)

lines_are : (p : Program) (s : FireState) (e : End) → lines_by s.begun (scanned p (nat_lt s.begun s.limit) s) e ≡ end_lines p s e
lines_are p s Complete = refl
lines_are p s Spent = refl
lines_are p s Stalled = ap (λ l. codes "stalled\n" ++ l) (all_wait p s (all_nodes p s))
lines_are p s Unfinished = refl

pub printed : (p : Program) (s : FireState) (begun : ℕ) (vs : List Verdict) (e : End) (text first shown last : List ℕ) → begun ≡ s.begun
    → vs ≡ scanned p (nat_lt s.begun s.limit) s → e ≡ end_of p s → first ≡ []
    → ((rest : List ℕ) → shown ++ rest ≡ first ++ indicator_lines (indicator_names (panel_items p s.main)) (indicators p s) rest)
    → last ≡ shown ++ lines_by begun vs e → text ≡ last → text ≡ print p s
printed p s begun vs e text first shown last count are is none more so same =
    let show : List ℕ → List ℕ = λ l. indicator_lines (indicator_names (panel_items p s.main)) (indicators p s) l in
    same ∙ so ∙ more (lines_by begun vs e)
    ∙ ap (λ l. l ++ show (lines_by begun vs e)) none
    ∙ ap show (ap (λ n. lines_by n vs e) count ∙ ap (λ ws. lines_by s.begun ws e) are ∙ lines_are p s e ∙ ap (end_lines p s) is)
