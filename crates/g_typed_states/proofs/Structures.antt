-- The firings of loops, cases and sequences.
use Rattle.std.proofs.Common.{◌≡◌, inl, inr, ⊎_elim, Bool, true, false, ℕ, ◌+◌, ◌≤◌, List, [], ◌∷◌, ◌++◌, map, length, Option, Some, None, arith, refl, ap, sym, ◌∙◌, subst, eq-eqb}
use Rattle.std.specs.Prelude.{pos, slice_get, is_none, ◌==◌, if◌then◌else◌}
use Rattle.std.specs.Option.{option_map, option_map_or, option_to_list}
use Rattle.std.proofs.lemmas.Bool.{eqb-true}
use Rattle.g_types.specs.declared.rep.Rep.TheVariants.{I32}
use Rattle.g_types.specs.declared.ty.Ty.{Ty}
use Rattle.g_values.specs.declared.value.Value.{Value}
use Rattle.g_values.specs.Spelled.{IsSpelled}
use Rattle.g_prims_definitions.specs.Arithmetic.{number}
use Rattle.g_prims_definitions.specs.Arrays.{or_default}
use Rattle.g_diagram.specs.declared.node.Tunnel.{Tunnel}
use Rattle.g_diagram.specs.declared.node.Tunnel.TheVariants as line
use Rattle.g_diagram.specs.Lines.{Wire, Arm, Part, Entry, Loop, Case, Sequence}
use Rattle.g_diagram.specs.Operands.{Inside, loop_header}
use Rattle.g_border.specs.declared.place.WireSource.{WireSource}
use Rattle.g_border.specs.Readers.{Reader, Given, value_on, given_on, sources_on, place_all}
use Rattle.g_border.specs.Lines.{Entering, entering, lines_inside, Leaving, leaving, lines_outside, latest, values_outside, parts_outside}
use Rattle.g_border.specs.Loops.{has_ended, iteration_inside, kept_registers}
use Rattle.g_border.specs.Cases.{chosen, results_outside, arm_at}
use Rattle.g_frames.specs.declared.program.KeptPlace.{KeptPlace}
use Rattle.g_frames.specs.declared.state.Progress.{Progress}
use Rattle.g_frames.specs.declared.state.Progress.TheVariants as progress
use Rattle.g_frames.specs.declared.state.Frame.{Frame}
use Rattle.g_frames.specs.Program.{FlatVi, Program, vi_at, kept_number}
use Rattle.g_frames.specs.State.{FireState, is_complete, reader_in}
use Rattle.g_frames.specs.Effects.{Effect, gives, opens, guard, Here, inside}
use Rattle.g_frames.specs.Operations.{input_at}
use Rattle.g_frames.specs.Structures.{readers_of, is_complete_at, is_latest_complete, kept_at, kept_now, kept_after, loop_ends, loop_goes_on, loop_effect, branch_opens, branch_results, case_ends, case_effect, part_opens, next_part, sequence_effect}
use Rattle.g_frames.specs.Fire.{here}
use Rattle.g_frames.proofs.RunLemmas.{refute, some_is}
use Rattle.g_typed_states.specs.Places.{Among, first, later, IsSupplied, node_places, lines_places}
use Rattle.g_typed_states.specs.Lines.{AllLines, types_outside, LinesFit}
use Rattle.g_typed_states.specs.Accepted.{AcceptsLoop, AcceptsCase, AcceptsPart, AcceptsParts, HasKept}
use Rattle.g_typed_states.specs.Typed.{IsTypedValue, AreTyped, IsTypedReader, IsFilled, IsInner, IsEnded, AreInner, IsTypedLoop, IsTypedBranch, IsTypedProgress, IsTypedFrame}
use Rattle.g_typed_states.proofs.Lists.{none_is, no_place, among_cases}
use Rattle.g_typed_states.proofs.Wires.{AreFine, GivesAt, gives_both}
use Rattle.g_typed_states.proofs.LineValues.{HasTaken, IsWhole, AllWhole, KeptTyped, latest_whole}
use Rattle.g_typed_states.proofs.Inputs.{AllParts, TakesOf, takes-Loop, takes-Case, takes-Sequence, places_of, places-Loop, places-Case, places-Sequence}
use Rattle.g_typed_states.proofs.LineGives.{EachLine, loop_inside_gives, header_gives, loop_outside_each, loop_outside_gives, case_inside_gives, results_give, part_inside_gives, PartsWhole, parts_give}
use Rattle.g_typed_states.proofs.Objects.{at_map, value_at_place}
use Rattle.g_typed_states.proofs.Frames.{Extends, inner_still, ended_still, all_inner_still, IsFitOpening}
use Rattle.g_typed_states.proofs.Branches.{chosen_among}
use Rattle.g_typed_states.proofs.Fits.{Fits, waits, fires, IsFit, Fires, OpenedIn, complete_filled, accepted_vi, outer_typed, guarded, then_fit, mapped_fit, gives_fit, moves_fit, opens_fit}

-- ---- the frames that a node opened

module _ (fs : List Frame) (v : ℕ) (vi : FlatVi) where
  pub inner_widen : (ds es ks : List ℕ) → AreInner fs v vi ds ks → AreInner fs v vi (ds ++ es) ks
  inner_widen ds es [] are = tt
  inner_widen [] es (k ∷ ks) are = absurd are
  inner_widen (d ∷ ds) es (k ∷ []) are = are
  inner_widen (d ∷ ds) es (k ∷ m ∷ ks) are = (are.0, (are.1.0, inner_widen ds es (m ∷ ks) are.1.1))

  pub inner_push : (ds ks : List ℕ) (n d : ℕ) → AreInner fs v vi ds ks → ((k : ℕ) → latest ks ≡ Some k → IsEnded fs vi k) → slice_get ds (length ks) ≡ Some d → IsInner fs v d n
      → AreInner fs v vi ds (ks ++ n ∷ [])
  inner_push [] [] n d are ended at is = absurd (none_is d at)
  inner_push (x ∷ ds) [] n d are ended at is = subst (λ y. IsInner fs v y n) (sym (some_is x d at)) is
  inner_push [] (k ∷ ks) n d are ended at is = absurd are
  inner_push (x ∷ ds) (k ∷ []) n d are ended at is = (are, (ended k refl, inner_push ds [] n d tt (λ m none. absurd (none_is m none)) at is))
  inner_push (x ∷ ds) (k ∷ m ∷ ks) n d are ended at is = (are.0, (are.1.0, inner_push ds (m ∷ ks) n d are.1.1 ended at is))

  pub latest_inner : (ds ks : List ℕ) (k : ℕ) → AreInner fs v vi ds ks → latest ks ≡ Some k → (d : ℕ) × IsInner fs v d k
  latest_inner ds [] k are at = absurd (none_is k at)
  latest_inner [] (x ∷ ks) k are at = absurd are
  latest_inner (d ∷ ds) (x ∷ []) k are at = (d, subst (IsInner fs v d) (some_is x k at) are)
  latest_inner (d ∷ ds) (x ∷ m ∷ ks) k are at = latest_inner ds (m ∷ ks) k are.1.1 at

  -- all of them have a value on each wire
  abbrev pub AllEnded : List ℕ → List ℕ → Type 0
  AllEnded ds [] = Unit {0}
  AllEnded [] (k ∷ ks) = ⊥
  AllEnded (d ∷ ds) (k ∷ ks) = IsInner fs v d k × (IsEnded fs vi k × AllEnded ds ks)

  pub all_ended : (ds ks : List ℕ) → AreInner fs v vi ds ks → ((k : ℕ) → latest ks ≡ Some k → IsEnded fs vi k) → AllEnded ds ks
  all_ended ds [] are ended = tt
  all_ended [] (k ∷ ks) are ended = absurd are
  all_ended (d ∷ ds) (k ∷ []) are ended = (are, (ended k refl, tt))
  all_ended (d ∷ ds) (k ∷ m ∷ ks) are ended = (are.0, (are.1.0, all_ended ds (m ∷ ks) are.1.1 ended))

body_map : (body n : ℕ) (ks : List ℕ) → map (λ (k : ℕ). body) ks ++ body ∷ [] ≡ map (λ (k : ℕ). body) (ks ++ n ∷ [])
body_map body n [] = refl
body_map body n (k ∷ ks) = ap (λ ds. body ∷ ds) (body_map body n ks)

body_at : (body : ℕ) (ks : List ℕ) → slice_get (map (λ (k : ℕ). body) ks ++ body ∷ []) (length ks) ≡ Some body
body_at body [] = refl
body_at body (k ∷ ks) = body_at body ks

-- ---- kept registers

each_from : (P Q : ℕ → Tunnel → Type 0) (l : ℕ) (ts : List Tunnel) → ((k : ℕ) (t : Tunnel) → l ≤ k → P k t → Q k t) → EachLine P l ts → EachLine Q l ts
each_from P Q l [] f all = tt
each_from P Q l (t ∷ ts) f all = (f l t (itself l) all.0, each_from P Q (l + 1) ts (λ k u more. f k u (less l k more)) all.1)
  where
    itself : (l : ℕ) → l ≤ l
    itself l = omega arith

    less : (l k : ℕ) → l + 1 ≤ k → l ≤ k
    less l k more = omega (arith, more)

module _ (p : Program) where
  -- past a register it makes no difference
  past_register : (l : ℕ) (t : Ty) (rs : List (ℕ × Ty)) (v : Value) (vs : List Value) (k : ℕ) → l + 1 ≤ k → kept_at rs vs k ≡ kept_at ((l, t) ∷ rs) (v ∷ vs) k
  past_register l t rs v vs k more = by (l == k) refl
    where
      by : (b : Bool) → (l == k) ≡ b → kept_at rs vs k ≡ (if b then v else kept_at rs vs k)
      by true is = absurd (let same : l ≡ k = eqb-true l k is in omega (arith, more, same))
      by false is = refl

  kept_is : (v w : Value) (t : Tunnel) → v ≡ w → KeptTyped p v t → KeptTyped p w t
  kept_is v w t same is = subst (λ x. KeptTyped p x t) same is

  -- each kept register has a value of its type
  pub registers_typed : (l : ℕ) (ts : List Tunnel) (vs : List Value) → AreTyped p (map (λ r. r.1) (kept_registers l ts)) vs
      → EachLine (λ k t. KeptTyped p (kept_at (kept_registers l ts) vs k) t) l ts
  registers_typed l [] vs are = tt
  registers_typed l (line.Kept t inner next last ∷ ts) [] are = absurd are
  registers_typed l (line.Kept t inner next last ∷ ts) (v ∷ vs) are = (
    subst (IsTypedValue p t) (ap (λ b. if b then v else kept_at (kept_registers (l + 1) ts) vs l) (sym (eq-eqb l l refl))) are.0,
    each_from (λ k u. KeptTyped p (kept_at (kept_registers (l + 1) ts) vs k) u) (λ k u. KeptTyped p (kept_at ((l, t) ∷ kept_registers (l + 1) ts) (v ∷ vs) k) u) (l + 1) ts
        (λ k u more. kept_is (kept_at (kept_registers (l + 1) ts) vs k) (kept_at ((l, t) ∷ kept_registers (l + 1) ts) (v ∷ vs) k) u (past_register l t (kept_registers (l + 1) ts) v vs k more))
        (registers_typed (l + 1) ts vs are.1),
  )
  registers_typed l (line.Tunnel outer inner ∷ ts) vs are = (tt, registers_typed (l + 1) ts vs are)
  registers_typed l (line.Register initial inner next last ∷ ts) vs are = (tt, registers_typed (l + 1) ts vs are)
  registers_typed l (line.Last inner outer ∷ ts) vs are = (tt, registers_typed (l + 1) ts vs are)
  registers_typed l (line.Gather inner outer ∷ ts) vs are = (tt, registers_typed (l + 1) ts vs are)
  registers_typed l (line.Index array inner ∷ ts) vs are = (tt, registers_typed (l + 1) ts vs are)
  registers_typed l (line.Result outer default ∷ ts) vs are = (tt, registers_typed (l + 1) ts vs are)
  registers_typed l (line.Carry earlier inner ∷ ts) vs are = (tt, registers_typed (l + 1) ts vs are)
  registers_typed l (line.Ref reference inner next same code ∷ ts) vs are = (tt, registers_typed (l + 1) ts vs are)
  registers_typed l (line.Element array index inner next outer ∷ ts) vs are = (tt, registers_typed (l + 1) ts vs are)
  registers_typed l (line.Field k cluster inner next outer ∷ ts) vs are = (tt, registers_typed (l + 1) ts vs are)

module _ (p : Program) (s : FireState) (f : Frame) (frame : IsTypedFrame p s.frames f) (e : Entry) (q : Progress) (fires_now : Fires p s f frame e q) (room : Bool) where
  abbrev vi : FlatVi
  vi = frame.vi

  abbrev r : Reader
  r = reader_in frame.vi f

  abbrev h : Here
  h = here p room s f frame.vi

  abbrev Fit : Option Effect → Type 0
  Fit o = Fits p s f frame.vi e q o

  spelled : (d : ℕ) (name : List ℕ) (t : Ty) → vi.types d name ≡ Some t → IsSpelled t
  spelled = (accepted_vi p s f frame e q fires_now).spelled

  reads : IsTypedReader p (vi.types e.diagram) r
  reads = outer_typed p s f frame e q fires_now

  -- ---- frames inside

  -- another frame of the same VI
  inner_vi : (k : ℕ) (g : Frame) (at : slice_get s.frames k ≡ Some g) → g.vi ≡ f.vi → (fires_now.state.frames k g at).vi ≡ vi
  inner_vi k g at same = some_is (fires_now.state.frames k g at).vi vi (sym (fires_now.state.frames k g at).is ∙ ap (vi_at p) same ∙ frame.is)

  complete_ended : (k : ℕ) (g : Frame) → slice_get s.frames k ≡ Some g → g.vi ≡ f.vi → is_complete g ≡ true → IsEnded s.frames vi k
  complete_ended k g at same done =
      let gt = fires_now.state.frames k g at in
      record {
        frame = g;
        is = at;
        filled = subst (λ (x : FlatVi). IsFilled (x.types g.diagram) (reader_in x g)) (inner_vi k g at same)
            (complete_filled p s.frames g gt (fires_now.accepted.vis g.vi gt.vi gt.is) done);
      }

  pub record InnerWhole (d k : ℕ) : Type 0 where
    pub reader : Reader
    pub is : option_map (reader_in vi) (slice_get s.frames k) ≡ Some reader
    pub whole : IsWhole p vi.types d reader

  whole_at : (d k : ℕ) → IsInner s.frames f.vi d k → IsEnded s.frames vi k → InnerWhole d k
  whole_at d k i ended =
      let g = i.frame in
      let gt = fires_now.state.frames k g i.is in
      let same : ended.frame ≡ g = some_is ended.frame g (sym ended.is ∙ i.is) in
      record {
        reader = reader_in vi g;
        is = ap (option_map (reader_in vi)) i.is;
        whole = record {
          typed = subst (λ d. IsTypedReader p (vi.types d) (reader_in vi g)) i.diagram_is
              (subst (λ (x : FlatVi). IsTypedReader p (x.types g.diagram) (reader_in x g)) (inner_vi k g i.is i.vi_is) gt.typed);
          filled = subst (λ d. IsFilled (vi.types d) (reader_in vi g)) i.diagram_is
              (subst (λ (x : Frame). IsFilled (vi.types x.diagram) (reader_in vi x)) same ended.filled);
        };
      }

  latest_ended : (ds ks : List ℕ) → AreInner s.frames f.vi vi ds ks → is_latest_complete h ks ≡ true → (k : ℕ) → latest ks ≡ Some k → IsEnded s.frames vi k
  latest_ended ds ks are done k at =
      let i = (latest_inner s.frames f.vi vi ds ks k are at).1 in
      complete_ended k i.frame i.is i.vi_is
      (sym (ap (λ o. option_map_or is_complete o false) i.is) ∙ (sym (ap (λ o. option_map_or (is_complete_at h) o true) at) ∙ done))

  one_reader : (d k : ℕ) (ks : List ℕ) (w : InnerWhole d k) → readers_of h (k ∷ ks) ≡ w.reader ∷ readers_of h ks
  one_reader d k ks w = ap (λ o. option_to_list o ++ readers_of h ks) w.is

  loop_readers : (body : ℕ) (ks : List ℕ) → AllEnded s.frames f.vi vi (map (λ (k : ℕ). body) ks) ks → AllWhole p vi.types body (readers_of h ks)
  loop_readers body [] all = tt
  loop_readers body (k ∷ ks) all =
      let w = whole_at body k all.0 all.1.0 in
      subst (AllWhole p vi.types body) (sym (one_reader body k ks w)) (w.whole, loop_readers body ks all.1.1)

  -- ---- openings

  opening_fit : (d k : ℕ) (places : List WireSource) (gs : Given) → GivesAt p vi places gs → IsSupplied vi d places → IsFitOpening p (inside h d k gs)
  opening_fit d k places gs at supplied = record {
    vi = vi;
    is = frame.is;
    space = frame.space;
    typed = at.typed;
    supplied = λ name w source. ⊎_elim (λ l. inl (at.covers d name w l source)) (λ n. inr n) (supplied name w source);
  }

  -- the frame that opens is one of the node's
  opened_inner : (fs : List Frame) (d k : ℕ) (gs : Given) → OpenedIn fs (length s.frames) (Some (inside h d k gs)) → IsInner fs f.vi d (length s.frames)
  opened_inner fs d k gs opened =
      let g = opened (inside h d k gs) refl in
      record { frame = g.0; is = g.1.0; vi_is = g.1.1.0; diagram_is = g.1.1.1 }

  begins_fit : (eff : Effect) → IsFit p s f vi e q eff → IsFit p s f vi e q (record eff { begins = true })
  begins_fit eff fit = record {
    given_typed = fit.given_typed;
    given_all = fit.given_all;
    moves = fit.moves;
    opening = fit.opening;
    change = fit.change;
    keeps = fit.keeps;
  }

  keeps_fit : (eff : Effect) (ks : List (ℕ × Value)) → IsFit p s f vi e q eff
      → ((k : ℕ) (v : Value) → Among (k, v) ks → (place : KeptPlace) → slice_get p.kept k ≡ Some place → IsTypedValue p place.content v) → IsFit p s f vi e q (record eff { keeps = ks })
  keeps_fit eff ks fit keeps = record {
    given_typed = fit.given_typed;
    given_all = fit.given_all;
    moves = fit.moves;
    opening = fit.opening;
    change = fit.change;
    keeps = keeps;
  }

  -- ---- loops

  module _ (count stop : Option Wire) (i : Wire) (lines : List Tunnel) (body : ℕ) (is : e.kind ≡ Loop count stop i lines body) (accepts : AcceptsLoop vi e count stop i lines body)
      (taken : TakesOf r e (Loop count stop i lines body)) (in_space : (l : ℕ) (t : Ty) → Among (l, t) (kept_registers (e.line + 1) lines) → HasKept p f.space l t) where
    abbrev registers : List (ℕ × Ty)
    registers = kept_registers (e.line + 1) lines

    lines_taken : AllLines (HasTaken r) lines
    lines_taken = takes-Loop r e count stop i lines body taken

    -- what the kept registers have
    kept_values : (rs : List (ℕ × Ty)) → ((l : ℕ) (t : Ty) → Among (l, t) rs → HasKept p f.space l t) → AreTyped p (map (λ r. r.1) rs) (kept_now h rs)
    kept_values [] has = tt
    kept_values (x ∷ rs) has =
        let k = has x.0 x.1 first in
        let v = value_at_place p (map (λ k. k.content) p.kept) s.kept (kept_number p f.space x.0) k.register.content fires_now.state.kept
        (at_map (λ (k : KeptPlace). k.content) p.kept (kept_number p f.space x.0) k.register k.is) in
        (subst (λ o. IsTypedValue p x.1 (or_default x.1 o)) (sym v.1.0) (subst (λ t. IsTypedValue p t v.0) k.type v.1.1), kept_values rs (λ l t at. has l t (later at)))

    as_loop : (fs : List Frame) (new : Progress) → IsTypedProgress p fs f.vi vi e (Loop count stop i lines body) new → IsTypedProgress p fs f.vi vi e e.kind new
    as_loop fs new typed = subst (λ kind. IsTypedProgress p fs f.vi vi e kind new) (sym is) typed

    loop_starts : IsFit p s f vi e q (gives (progress.Loop (kept_now h registers) [] false) [])
    loop_starts =
        moves_fit p s f frame e q fires_now (progress.Loop (kept_now h registers) [] false) (λ done. absurd (refute done))
        (λ fs more. as_loop fs (progress.Loop (kept_now h registers) [] false) (record { kept = kept_values registers in_space; inner = tt }))

    module _ (vs : List Value) (ks : List ℕ) (loop : IsTypedLoop p s.frames f.vi vi e lines body vs ks) (done : is_latest_complete h ks ≡ true) where
      ended : (k : ℕ) → latest ks ≡ Some k → IsEnded s.frames vi k
      ended = latest_ended (map (λ (k : ℕ). body) ks) ks loop.inner done

      all_readers : AllWhole p vi.types body (readers_of h ks)
      all_readers = loop_readers body ks (all_ended s.frames f.vi vi (map (λ (k : ℕ). body) ks) ks loop.inner ended)

      kept_typed : EachLine (λ k t. KeptTyped p (kept_at registers vs k) t) (e.line + 1) lines
      kept_typed = registers_typed p (e.line + 1) lines vs loop.kept

      -- an iteration

      abbrev into : Entering
      into = record (entering h.outer) { before = latest (readers_of h ks); iteration = length ks; kept = kept_at registers vs }

      abbrev given_inside : Given
      given_inside = iteration_inside into e.line count stop i lines

      abbrev inside_places : List WireSource
      inside_places = place_all e.line (sources_on Inside 1 (loop_header count stop i)) ++ lines_places Inside (e.line + 1) lines

      inside_gives : GivesAt p vi inside_places given_inside
      inside_gives =
          gives_both p vi (place_all e.line (sources_on Inside 1 (loop_header count stop i))) (lines_places Inside (e.line + 1) lines)
          (given_on Inside e.line (loop_header count stop i) (number I32 (pos (length ks)) ∷ [])) (lines_inside into (e.line + 1) lines)
          (header_gives p vi spelled e.line count stop i (length ks) accepts.header)
          (loop_inside_gives p vi spelled e.diagram body into reads (λ x at. latest_whole p vi.types body (readers_of h ks) x all_readers at) (e.line + 1) lines accepts.forms accepts.fits
          lines_taken kept_typed accepts.inside)

      abbrev next : ℕ
      next = length s.frames

      iteration_moves : (fs : List Frame) → Extends s.frames fs → OpenedIn fs next (Some (inside h body (length ks) given_inside)) → IsTypedLoop p fs f.vi vi e lines body vs (ks ++ next ∷ [])
      iteration_moves fs more opened = record {
        kept = loop.kept;
        inner = subst (λ ds. AreInner fs f.vi vi ds (ks ++ next ∷ [])) (body_map body next ks)
            (inner_push fs f.vi vi (map (λ (k : ℕ). body) ks ++ body ∷ []) ks next body
            (inner_widen fs f.vi vi (map (λ (k : ℕ). body) ks) (body ∷ []) ks (all_inner_still s.frames fs more f.vi vi (map (λ (k : ℕ). body) ks) ks loop.inner))
            (λ k at. ended_still s.frames fs more vi k (ended k at)) (body_at body ks) (opened_inner fs body (length ks) given_inside opened));
      }

      loop_opens : IsFit p s f vi e q (loop_goes_on h e vs ks count stop i lines body)
      loop_opens =
          begins_fit (opens (progress.Loop vs (ks ++ next ∷ []) false) (inside h body (length ks) given_inside))
          (opens_fit p s f frame e q fires_now (progress.Loop vs (ks ++ next ∷ []) false) (inside h body (length ks) given_inside) refl
          (λ fs more opened. as_loop fs (progress.Loop vs (ks ++ next ∷ []) false) (iteration_moves fs more opened))
          (opening_fit body (length ks) inside_places given_inside inside_gives accepts.supplied))

      -- the end

      abbrev out : Leaving
      out = record (leaving h.outer (readers_of h ks) (h.vi.types body)) { kept = kept_at registers vs }

      each_outside : EachLine (λ k t. AreFine p (types_outside vi.types e.diagram body t) (values_outside out k t)) (e.line + 1) lines
      each_outside =
          loop_outside_each p vi spelled e.diagram body r (readers_of h ks) (kept_at registers vs) reads all_readers (e.line + 1) lines accepts.forms accepts.fits lines_taken kept_typed

      outside_gives : GivesAt p vi (node_places e) (lines_outside out (e.line + 1) lines)
      outside_gives =
          subst (λ ws. GivesAt p vi ws (lines_outside out (e.line + 1) lines)) (sym (ap (places_of e) is ∙ places-Loop e count stop i lines body))
          (loop_outside_gives p vi spelled e.diagram body r (readers_of h ks) (kept_at registers vs) (e.line + 1) lines each_outside accepts.outside)

      -- what is written to the kept registers
      kept_written : (l : ℕ) (ts : List Tunnel) → LinesFit vi.types e.diagram body ts → EachLine (λ k t. AreFine p (types_outside vi.types e.diagram body t) (values_outside out k t)) l ts
          → ((k : ℕ) (t : Ty) → Among (k, t) (kept_registers l ts) → HasKept p f.space k t)
          → (n : ℕ) (v : Value) → Among (n, v) (kept_after h out l ts) → (place : KeptPlace) → slice_get p.kept n ≡ Some place → IsTypedValue p place.content v
      kept_written l [] fits fine has n v at place there = absurd (no_place {A = ℕ × Value} (n, v) at)
      kept_written l (line.Kept t inner next_wire last ∷ ts) fits fine has n v at place there =
          ⊎_elim
          (λ same.
          let k = has l t first in
          let number : kept_number p f.space l ≡ n = ap (λ (x : ℕ × Value). x.0) same in
          let value : input_at (values_outside out l (line.Kept t inner next_wire last)) 0 ≡ v = ap (λ (x : ℕ × Value). x.1) same in
          let type : t ≡ place.content = sym k.type ∙ ap (λ (x : KeptPlace). x.content) (some_is k.register place (sym k.is ∙ ap (slice_get p.kept) number ∙ there)) in
          subst (λ u. IsTypedValue p u v) type (subst (IsTypedValue p t) value (fine.0.0 t refl fits.0.spelled)))
          (λ more. kept_written (l + 1) ts fits.1 fine.1 (λ k u a. has k u (later a)) n v more place there)
          (among_cases {A = ℕ × Value} (n, v) (kept_number p f.space l, input_at (values_outside out l (line.Kept t inner next_wire last)) 0) (kept_after h out (l + 1) ts) at)
      kept_written l (line.Tunnel outer inner ∷ ts) fits fine has n v at place there = kept_written (l + 1) ts fits.1 fine.1 has n v at place there
      kept_written l (line.Register initial inner next_wire last ∷ ts) fits fine has n v at place there = kept_written (l + 1) ts fits.1 fine.1 has n v at place there
      kept_written l (line.Last inner outer ∷ ts) fits fine has n v at place there = kept_written (l + 1) ts fits.1 fine.1 has n v at place there
      kept_written l (line.Gather inner outer ∷ ts) fits fine has n v at place there = kept_written (l + 1) ts fits.1 fine.1 has n v at place there
      kept_written l (line.Index array inner ∷ ts) fits fine has n v at place there = kept_written (l + 1) ts fits.1 fine.1 has n v at place there
      kept_written l (line.Result outer default ∷ ts) fits fine has n v at place there = kept_written (l + 1) ts fits.1 fine.1 has n v at place there
      kept_written l (line.Carry earlier inner ∷ ts) fits fine has n v at place there = kept_written (l + 1) ts fits.1 fine.1 has n v at place there
      kept_written l (line.Ref reference inner next_wire same code ∷ ts) fits fine has n v at place there = kept_written (l + 1) ts fits.1 fine.1 has n v at place there
      kept_written l (line.Element array index inner next_wire outer ∷ ts) fits fine has n v at place there = kept_written (l + 1) ts fits.1 fine.1 has n v at place there
      kept_written l (line.Field k cluster inner next_wire outer ∷ ts) fits fine has n v at place there = kept_written (l + 1) ts fits.1 fine.1 has n v at place there

      ended_moves : (fs : List Frame) → Extends s.frames fs → IsTypedLoop p fs f.vi vi e lines body vs ks
      ended_moves fs more = record { kept = loop.kept; inner = all_inner_still s.frames fs more f.vi vi (map (λ (k : ℕ). body) ks) ks loop.inner }

      loop_closes : IsFit p s f vi e q (loop_ends h e vs ks lines body)
      loop_closes =
          keeps_fit (gives (progress.Loop vs ks true) (lines_outside out (e.line + 1) lines)) (kept_after h out (e.line + 1) lines)
          (gives_fit p s f frame e q fires_now (progress.Loop vs ks true) (lines_outside out (e.line + 1) lines)
          (λ fs more. as_loop fs (progress.Loop vs ks true) (ended_moves fs more)) outside_gives)
          (kept_written (e.line + 1) lines accepts.fits each_outside in_space)

    loop_by : (x : Progress) → IsTypedProgress p s.frames f.vi vi e (Loop count stop i lines body) x → Fit (loop_effect h e count stop i lines body x)
    loop_by progress.Idle typed = fires loop_starts
    loop_by progress.Done typed = waits
    loop_by (progress.Loop vs ks over) typed =
        guarded p s f frame e q fires_now (is_latest_complete h ks)
        (if has_ended h.outer count stop lines (length ks) (latest (readers_of h ks)) then Some (loop_ends h e vs ks lines body)
        else guard h.has_room (Some (loop_goes_on h e vs ks count stop i lines body)))
        (λ done. by vs ks (has_ended h.outer count stop lines (length ks) (latest (readers_of h ks))) typed done)
      where
        by : (vs : List Value) (ks : List ℕ) (b : Bool) → IsTypedLoop p s.frames f.vi vi e lines body vs ks → is_latest_complete h ks ≡ true
            → Fit (if b then Some (loop_ends h e vs ks lines body) else guard h.has_room (Some (loop_goes_on h e vs ks count stop i lines body)))
        by vs ks true loop done = fires (loop_closes vs ks loop done)
        by vs ks false loop done = guarded p s f frame e q fires_now h.has_room (Some (loop_goes_on h e vs ks count stop i lines body)) (λ has. fires (loop_opens vs ks loop done))
    loop_by (progress.Case k over) typed = waits
    loop_by (progress.Sequence ks over) typed = waits
    loop_by (progress.Call clone stage) typed = waits

    pub loop_fit : (choice : Option ℕ) → IsTypedProgress p s.frames f.vi vi e (Loop count stop i lines body) q → Fit (guard (is_none choice) (loop_effect h e count stop i lines body q))
    loop_fit choice typed = guarded p s f frame e q fires_now (is_none choice) (loop_effect h e count stop i lines body q) (λ free. loop_by q typed)

  -- ---- cases

  -- the branch of a diagram
  pub record ArmOf (d : ℕ) (arms : List Arm) : Type 0 where
    pub arm : Arm
    pub is : arm_at d arms ≡ Some arm
    pub stands : Among arm arms
    pub body_is : arm.body ≡ d

  arm_of : (arms : List Arm) (arm : Arm) → Among arm arms → ArmOf arm.body arms
  arm_of [] arm at = absurd (no_place arm at)
  arm_of (x ∷ arms) arm at = by (x.body == arm.body) refl (λ l. arm_of arms arm l)
    where
      elsewhere : (x.body == arm.body) ≡ false → Among arm arms
      elsewhere not = ⊎_elim (λ same. absurd (refute (sym not ∙ ap (λ (y : Arm). y.body == arm.body) same ∙ eq-eqb arm.body arm.body refl))) (λ l. l) (among_cases arm x arms at)

      by : (b : Bool) → (x.body == arm.body) ≡ b → (Among arm arms → ArmOf arm.body arms) → ArmOf arm.body (x ∷ arms)
      by true same rest = record {
        arm = x;
        is = ap (λ c. if c then Some x else arm_at arm.body arms) same;
        stands = first;
        body_is = eqb-true x.body arm.body same;
      }
      by false same rest =
          let a = rest (elsewhere same) in
          record { arm = a.arm; is = ap (λ c. if c then Some x else arm_at arm.body arms) same ∙ a.is; stands = later a.stands; body_is = a.body_is }

  module _ (selector : Wire) (lines : List Tunnel) (arms : List Arm) (is : e.kind ≡ Case selector lines arms) (accepts : AcceptsCase vi e selector lines arms)
      (taken : TakesOf r e (Case selector lines arms)) where
    as_case : (fs : List Frame) (new : Progress) → IsTypedProgress p fs f.vi vi e (Case selector lines arms) new → IsTypedProgress p fs f.vi vi e e.kind new
    as_case fs new typed = subst (λ kind. IsTypedProgress p fs f.vi vi e kind new) (sym is) typed

    case_inside : GivesAt p vi (lines_places Inside (e.line + 1) lines) (lines_inside (entering h.outer) (e.line + 1) lines)
    case_inside = case_inside_gives p vi spelled e.diagram (entering h.outer) reads (e.line + 1) lines accepts.forms (takes-Case r e selector lines arms taken).1 accepts.inside

    branch_fit : (arm : Arm) → Among arm arms → IsFit p s f vi e q (branch_opens h e lines arm)
    branch_fit arm at =
        let given = lines_inside (entering h.outer) (e.line + 1) lines in
        opens_fit p s f frame e q fires_now (progress.Case (length s.frames) false) (inside h arm.body 0 given) refl
        (λ fs more opened. as_case fs (progress.Case (length s.frames) false) (record { arm = arm; stands = at; inner = opened_inner fs arm.body 0 given opened }))
        (opening_fit arm.body 0 (lines_places Inside (e.line + 1) lines) given case_inside (accepts.supplied arm at))

    module _ (k : ℕ) (branch : IsTypedBranch s.frames f.vi arms k) where
      branch_moves : (fs : List Frame) → Extends s.frames fs → IsTypedBranch fs f.vi arms k
      branch_moves fs more = record { arm = branch.arm; stands = branch.stands; inner = inner_still s.frames fs more f.vi branch.arm.body k branch.inner }

      branch_gives : (g : Frame) → slice_get s.frames k ≡ Some g → is_complete g ≡ true → GivesAt p vi (node_places e) (branch_results h e lines arms g (arm_at g.diagram arms))
      branch_gives g at done =
          let same : branch.inner.frame ≡ g = some_is branch.inner.frame g (sym branch.inner.is ∙ at) in
          let vi_is : g.vi ≡ f.vi = ap (λ (x : Frame). x.vi) (sym same) ∙ branch.inner.vi_is in
          let diagram_is : g.diagram ≡ branch.arm.body = ap (λ (x : Frame). x.diagram) (sym same) ∙ branch.inner.diagram_is in
          let a = arm_of arms branch.arm branch.stands in
          let w = whole_at a.arm.body k (record { frame = g; is = at; vi_is = vi_is; diagram_is = diagram_is ∙ sym a.body_is }) (complete_ended k g at vi_is done) in
          let reader_is : w.reader ≡ reader_in vi g = some_is w.reader (reader_in vi g) (sym w.is ∙ ap (option_map (reader_in vi)) at) in
          let whole = subst (IsWhole p vi.types a.arm.body) reader_is w.whole in
          subst (λ o. GivesAt p vi (node_places e) (branch_results h e lines arms g o)) (sym (ap (λ d. arm_at d arms) diagram_is ∙ a.is))
          (subst (λ ws. GivesAt p vi ws (results_outside vi.types arms a.arm (reader_in vi g) 0 (e.line + 1) lines)) (sym (ap (places_of e) is ∙ places-Case e selector lines arms))
          (results_give p vi spelled arms a.arm a.stands (reader_in vi g) whole.typed (λ n name u given known. whole.filled name u known) 0 (e.line + 1) lines accepts.forms accepts.gives accepts.outside))

      case_closes : (g : Frame) → slice_get s.frames k ≡ Some g → Fit (case_ends h e lines arms k g)
      case_closes g at =
          guarded p s f frame e q fires_now (is_complete g) (Some (gives (progress.Case k true) (branch_results h e lines arms g (arm_at g.diagram arms))))
          (λ done. fires (gives_fit p s f frame e q fires_now (progress.Case k true) (branch_results h e lines arms g (arm_at g.diagram arms))
          (λ fs more. as_case fs (progress.Case k true) (branch_moves fs more)) (branch_gives g at done)))

    case_by : (x : Progress) → IsTypedProgress p s.frames f.vi vi e (Case selector lines arms) x → Fit (case_effect h e selector lines arms x)
    case_by progress.Idle typed =
        mapped_fit p s f frame e q fires_now (branch_opens h e lines) (chosen (value_on h.outer selector) arms) (λ arm at. branch_fit arm (chosen_among (value_on h.outer selector) arms arm at))
    case_by progress.Done typed = waits
    case_by (progress.Loop vs ks over) typed = waits
    case_by (progress.Case k over) typed = then_fit p s f frame e q fires_now (case_ends h e lines arms k) (slice_get s.frames k) (λ g at. case_closes k typed g at)
    case_by (progress.Sequence ks over) typed = waits
    case_by (progress.Call clone stage) typed = waits

    pub case_fit : (choice : Option ℕ) → IsTypedProgress p s.frames f.vi vi e (Case selector lines arms) q → Fit (guard (is_none choice) (case_effect h e selector lines arms q))
    case_fit choice typed = guarded p s f frame e q fires_now (is_none choice) (case_effect h e selector lines arms q) (λ free. case_by q typed)

  -- ---- sequences

  -- the frame before the next one
  abbrev before_next : Option Reader → List Reader → Option Reader
  before_next o [] = o
  before_next o (x ∷ rs) = latest (x ∷ rs)

  abbrev IsBefore : Option ℕ → Option Reader → Type 0
  IsBefore before o = (b : ℕ) → before ≡ Some b → (x : Reader) × ((o ≡ Some x) × IsWhole p vi.types b x)

  pub record NextPart (d : ℕ) (o : Option Reader) (ks : List ℕ) (part : Part) : Type 0 where
    pub before : Option ℕ
    pub accepts : AcceptsPart vi d before part
    pub taken : AllLines (HasTaken r) part.lines
    pub earlier : IsBefore before (before_next o (readers_of h ks))

  before_more : (o : Option Reader) (x : Reader) (rs : List Reader) → before_next (Some x) rs ≡ before_next o (x ∷ rs)
  before_more o x [] = refl
  before_more o x (y ∷ rs) = refl

  next_facts : (d : ℕ) (before : Option ℕ) (o : Option Reader) (parts : List Part) (ks : List ℕ) (part : Part) → AcceptsParts vi d before parts → AllParts (HasTaken r) parts → IsBefore before o
      → AllEnded s.frames f.vi vi (map (λ (x : Part). x.body) parts) ks → slice_get parts (length ks) ≡ Some part → NextPart d o ks part
  next_facts d before o [] ks part accepts taken earlier all at = absurd (none_is part at)
  next_facts d before o (x ∷ parts) [] part accepts taken earlier all at =
      let same = some_is x part at in
      record {
        before = before;
        accepts = subst (AcceptsPart vi d before) same accepts.0;
        taken = subst (λ (y : Part). AllLines (HasTaken r) y.lines) same taken.0;
        earlier = earlier;
      }
  next_facts d before o (x ∷ parts) (k ∷ ks) part accepts taken earlier all at =
      let w = whole_at x.body k all.0 all.1.0 in
      let rest = next_facts d (Some x.body) (Some w.reader) parts ks part accepts.1 taken.1
      (λ b is. (w.reader, (refl, subst (λ c. IsWhole p vi.types c w.reader) (some_is x.body b is) w.whole))) all.1.1 at in
      record {
        before = rest.before;
        accepts = rest.accepts;
        taken = rest.taken;
        earlier = subst (IsBefore rest.before) (before_more o w.reader (readers_of h ks) ∙ ap (before_next o) (sym (one_reader x.body k ks w))) rest.earlier;
      }

  parts_whole : (parts : List Part) (ks : List ℕ) → AllEnded s.frames f.vi vi (map (λ (x : Part). x.body) parts) ks → slice_get parts (length ks) ≡ None → PartsWhole p vi spelled parts (readers_of h ks)
  parts_whole [] ks all at = tt
  parts_whole (x ∷ parts) [] all at = absurd (none_is x (sym at))
  parts_whole (x ∷ parts) (k ∷ ks) all at =
      let w = whole_at x.body k all.0 all.1.0 in
      subst (PartsWhole p vi spelled (x ∷ parts)) (sym (one_reader x.body k ks w)) (w.whole, parts_whole parts ks all.1.1 at)

  module _ (parts : List Part) (is : e.kind ≡ Sequence parts) (accepts : AcceptsParts vi e.diagram None parts) (taken : TakesOf r e (Sequence parts)) where
    abbrev bodies : List ℕ
    bodies = map (λ (x : Part). x.body) parts

    as_sequence : (fs : List Frame) (new : Progress) → IsTypedProgress p fs f.vi vi e (Sequence parts) new → IsTypedProgress p fs f.vi vi e e.kind new
    as_sequence fs new typed = subst (λ kind. IsTypedProgress p fs f.vi vi e kind new) (sym is) typed

    latest_before : (rs : List Reader) → before_next None rs ≡ latest rs
    latest_before [] = refl
    latest_before (x ∷ rs) = refl

    body_of_part : (xs : List Part) (k : ℕ) (part : Part) → slice_get xs k ≡ Some part → slice_get (map (λ (x : Part). x.body) xs) k ≡ Some part.body
    body_of_part xs k part at = at_map (λ (x : Part). x.body) xs k part at

    module _ (ks : List ℕ) (inner : AreInner s.frames f.vi vi bodies ks) (done : is_latest_complete h ks ≡ true) where
      ended_parts : (k : ℕ) → latest ks ≡ Some k → IsEnded s.frames vi k
      ended_parts = latest_ended bodies ks inner done

      all_parts : AllEnded s.frames f.vi vi bodies ks
      all_parts = all_ended s.frames f.vi vi bodies ks inner ended_parts

      part_fit : (part : Part) → slice_get parts (length ks) ≡ Some part → IsFit p s f vi e q (part_opens h ks part)
      part_fit part at =
          let n = next_facts e.diagram None None parts ks part accepts (takes-Sequence r e parts taken) (λ b none. absurd (none_is b none)) all_parts at in
          let into : Entering = record (entering h.outer) { before = latest (readers_of h ks); iteration = length ks } in
          let given = lines_inside into (part.body + 1) part.lines in
          let next = length s.frames in
          opens_fit p s f frame e q fires_now (progress.Sequence (ks ++ next ∷ []) false) (inside h part.body (length ks) given) refl
          (λ fs more opened.
          as_sequence fs (progress.Sequence (ks ++ next ∷ []) false)
          (inner_push fs f.vi vi bodies ks next part.body (all_inner_still s.frames fs more f.vi vi bodies ks inner) (λ k now. ended_still s.frames fs more vi k (ended_parts k now))
          (body_of_part parts (length ks) part at) (opened_inner fs part.body (length ks) given opened)))
          (opening_fit part.body (length ks) (lines_places Inside (part.body + 1) part.lines) given
          (part_inside_gives p vi spelled e.diagram n.before into reads (subst (IsBefore n.before) (latest_before (readers_of h ks)) n.earlier) (part.body + 1) part.lines n.accepts.forms n.taken n.accepts.inside)
          n.accepts.supplied)

      sequence_closes : slice_get parts (length ks) ≡ None → IsFit p s f vi e q (gives (progress.Sequence ks true) (parts_outside h.outer parts (readers_of h ks) h.vi.types))
      sequence_closes at =
          gives_fit p s f frame e q fires_now (progress.Sequence ks true) (parts_outside h.outer parts (readers_of h ks) h.vi.types)
          (λ fs more. as_sequence fs (progress.Sequence ks true) (all_inner_still s.frames fs more f.vi vi bodies ks inner))
          (subst (λ ws. GivesAt p vi ws (parts_outside h.outer parts (readers_of h ks) h.vi.types)) (sym (ap (places_of e) is ∙ places-Sequence e parts))
          (parts_give p vi spelled e.diagram None r parts (readers_of h ks) accepts (parts_whole parts ks all_parts at)))

      next_fit : (o : Option Part) → slice_get parts (length ks) ≡ o → IsFit p s f vi e q (next_part h ks parts o)
      next_fit None at = sequence_closes at
      next_fit (Some part) at = part_fit part at

    sequence_by : (x : Progress) → IsTypedProgress p s.frames f.vi vi e (Sequence parts) x → Fit (sequence_effect h parts x)
    sequence_by progress.Idle typed = mapped_fit p s f frame e q fires_now (part_opens h []) (slice_get parts 0) (λ part at. part_fit [] tt refl part at)
    sequence_by progress.Done typed = waits
    sequence_by (progress.Loop vs ks over) typed = waits
    sequence_by (progress.Case k over) typed = waits
    sequence_by (progress.Sequence ks over) typed =
        guarded p s f frame e q fires_now (is_latest_complete h ks) (Some (next_part h ks parts (slice_get parts (length ks)))) (λ done. fires (next_fit ks typed done (slice_get parts (length ks)) refl))
    sequence_by (progress.Call clone stage) typed = waits

    pub sequence_fit : (choice : Option ℕ) → IsTypedProgress p s.frames f.vi vi e (Sequence parts) q → Fit (guard (is_none choice) (sequence_effect h parts q))
    sequence_fit choice typed = guarded p s f frame e q fires_now (is_none choice) (sequence_effect h parts q) (λ free. sequence_by q typed)
