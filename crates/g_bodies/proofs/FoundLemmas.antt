-- The values of a diagram's sources give back what is found at the sources of names.
use Rattle.std.proofs.Common.{◌≡◌, ℕ, zero, suc, ◌+◌, ◌<◌, ◌==◌, Bool, true, false, ◌&&◌, List, [], ◌∷◌, ◌++◌, map, length, drop, get_or, refl, sym, ap, ◌∙◌, arith}
use Rattle.std.specs.Prelude.{if◌then◌else◌, Option, Some, None}
use Rattle.std.specs.Option.{option_and_then}
use Rattle.std.proofs.lemmas.Bool.{eq-eqb, eqb-true}
use Rattle.g_values.specs.declared.value.Value.{Value}
use Rattle.g_diagram.specs.Ports.{Port, same_wire}
use Rattle.g_border.specs.declared.place.WireSource.{WireSource}
use Rattle.g_border.specs.Readers.{same_source, source_of}
use Rattle.g_frames.specs.Program.{FlatVi}
use Rattle.g_frames.specs.State.{value_at, sources_in}
use Rattle.g_vi_tables.specs.Tables.{reader_at}
use Rattle.g_bodies.specs.Known.{Found, readers_by}

and_left : (a b : Bool) → (a && b) ≡ true → a ≡ true
and_left true b h = refl
and_left false b h = h

and_right : (a b : Bool) → (a && b) ≡ true → b ≡ true
and_right true b h = h
and_right false b h = cc

source_equal : (p q : WireSource) → same_source p q ≡ true → p ≡ q
source_equal p q h =
    let e : p.line ≡ q.line = eqb-true p.line q.line (and_left (p.line == q.line) (p.operand == q.operand) h) in
    let f : p.operand ≡ q.operand = eqb-true p.operand q.operand (and_right (p.line == q.line) (p.operand == q.operand) h) in
    let made : ℕ → ℕ → WireSource = λ l k. record { line = l; operand = k } in
    ap (λ l. made l p.operand) e ∙ ap (λ k. made q.line k) f

eqb-same : (n : ℕ) → (n == n) ≡ true
eqb-same n = eq-eqb n n refl

same-source : (p : WireSource) → same_source p p ≡ true
same-source p = ap (λ b. b && (p.operand == p.operand)) (eqb-same p.line) ∙ eqb-same p.operand

abbrev here : Port → WireSource
here p = record { line = p.line; operand = p.operand }

placed : (f : Found) (ps : List Port) (d : ℕ) (name : List ℕ) (p : WireSource) → source_of ps d name ≡ Some p
    → value_at (sources_in d ps) (map f (sources_in d ps)) p ≡ f p
placed f [] d name p e = cc
placed f (q ∷ qs) d name p e = by q.is_source (q.diagram == d) (same_wire (Some name) q.wire) (placed f qs d name p) e
  where
    first : (s : WireSource) (qs : List WireSource) → s ≡ p → value_at (s ∷ qs) (map f (s ∷ qs)) p ≡ f p
    first s qs same = ap (λ (b : Bool). if b then f s else value_at qs (map f qs) p) (ap (same_source s) (sym same) ∙ same-source s) ∙ ap f same

    later : (s : WireSource) (qs : List WireSource) (b : Bool) → (b ≡ true → s ≡ p) → value_at qs (map f qs) p ≡ f p
        → (if b then f s else value_at qs (map f qs) p) ≡ f p
    later s qs true same rest = ap f (same refl)
    later s qs false same rest = rest

    by : (b c n : Bool) → (source_of qs d name ≡ Some p → value_at (sources_in d qs) (map f (sources_in d qs)) p ≡ f p)
        → (if b && (c && n) then Some (record { line = q.line; operand = q.operand }) else source_of qs d name) ≡ Some p
        → value_at (if b && c then here q ∷ sources_in d qs else sources_in d qs) (map f (if b && c then here q ∷ sources_in d qs else sources_in d qs)) p ≡ f p
    by true true true rest g = first (here q) (sources_in d qs) (let same : here q ≡ p = cc in same)
    by true true false rest g = later (here q) (sources_in d qs) (same_source (here q) p) (source_equal (here q) p) (rest g)
    by true false n rest g = rest g
    by false c n rest g = rest g

at_name : (f : Found) (ps : List Port) (d : ℕ) (o : Option WireSource) → ((p : WireSource) → o ≡ Some p → value_at (sources_in d ps) (map f (sources_in d ps)) p ≡ f p)
    → option_and_then (value_at (sources_in d ps) (map f (sources_in d ps))) o ≡ option_and_then f o
at_name f ps d None h = refl
at_name f ps d (Some p) h = h p refl

pub reader_found : (vi : FlatVi) (d : ℕ) (f : Found) → reader_at vi d (map f (sources_in d vi.ports)) ≡ readers_by vi.ports f d
reader_found vi d f = λ i name. at_name f vi.ports d (source_of vi.ports d name) (placed f vi.ports d name) i

-- ---- values one after another

drop_first : (i : ℕ) (ps : List WireSource) (d : WireSource) → i < length ps → drop i ps ≡ get_or ps i d ∷ drop (suc i) ps
drop_first zero [] d lt = absurd (omega (arith, lt))
drop_first zero (p ∷ ps) d lt = refl
drop_first (suc i) [] d lt = absurd (omega (arith, lt))
drop_first (suc i) (p ∷ ps) d lt = drop_first i ps d (omega (arith, lt))

joined : (vs : List (Option Value)) (v : Option Value) (ws : List (Option Value)) → (vs ++ v ∷ []) ++ ws ≡ vs ++ v ∷ ws
joined [] v ws = refl
joined (u ∷ vs) v ws = ap (λ xs. u ∷ xs) (joined vs v ws)

pub copied_more : (f : Found) (ps : List WireSource) (vs new : List (Option Value)) (i : ℕ) (d : WireSource) → i < length ps → new ≡ vs ++ f (get_or ps i d) ∷ []
    → vs ++ map f (drop i ps) ≡ map f ps → new ++ map f (drop (i + 1) ps) ≡ map f ps
copied_more f ps vs new i d lt e inv =
    let n : i + 1 ≡ suc i = omega arith in
    ap (λ xs. xs ++ map f (drop (i + 1) ps)) e ∙ joined vs (f (get_or ps i d)) (map f (drop (i + 1) ps)) ∙ ap (λ k. vs ++ f (get_or ps i d) ∷ map f (drop k ps)) n
    ∙ sym (ap (λ qs. vs ++ map f qs) (drop_first i ps d lt)) ∙ inv
