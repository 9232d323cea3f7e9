-- Where types that have no row break off: at the place that their reading tells, and nowhere else.
use Rattle.std.proofs.Common.{◌≡◌, ◌≤◌, ◌<◌, ℕ, zero, suc, ◌+◌, Bool, true, false, List, [], ◌∷◌, ◌++◌, length, take, Option, None, Some, refl, ap, sym, ◌∙◌, arith}
use Rattle.std.proofs.lemmas.List.{append_assoc}
use Rattle.g_types.specs.declared.ty.Ty.{Ty}
use Rattle.g_values.specs.declared.primitive.Primitive.{Primitive}
use Rattle.g_values.specs.declared.primitive.Primitive.TheVariants as op
use Rattle.g_prims_definitions.specs.Begins.{Begins, BreaksOff}
use Rattle.g_prims_definitions.specs.Row.{Row, Stops, Reads, Repeats, read, place}
use Rattle.g_prims_definitions.specs.Rows.{row, row_of, first_refused}
use Rattle.g_prims_definitions.proofs.Beginnings.{BeginsRow, Goes, Found, stopped, found, found_at, begins_all}
use Rattle.g_prims_definitions.proofs.RowBeginnings.{goes}

abbrev is_end : Row → Bool
is_end Stops = true
is_end (Reads outs next) = false
is_end (Repeats most allowed outs) = false

no_end : (p : Primitive) → is_end (row p) ≡ false
no_end op.Add = refl
no_end _ = refl

starts : (r : Row) → Goes r → is_end r ≡ false → (us : List Ty) × (outs : List Ty) × (read r us ≡ Some outs)
starts Stops g e = absurd cc
starts (Reads outs next) g e = (g.0.further, g.0.outs, g.0.row)
starts (Repeats most allowed outs) g e = let b = repeats most allowed outs g in (b.further, b.outs, b.row)
  where
    repeats : (most : ℕ) (allowed : Ty → Bool) (outs : List Ty → List Ty) → Goes (Repeats most allowed outs) → BeginsRow (Repeats most allowed outs) []
    repeats most allowed outs g = begins_all most allowed outs [] g (omega arith) refl

not_both : (o : Option (List Ty)) (us : List Ty) → o ≡ None → o ≡ Some us → ⊥
not_both None us e f = absurd cc
not_both (Some vs) us e f = absurd cc

by_found : (p : Primitive) (ts : List Ty) → row_of p ts ≡ None → Found 0 (row p) ts → BreaksOff p ts (first_refused p ts)
by_found p ts e (stopped f q) = let s = starts (row p) (goes p) (no_end p) in absurd (not_both (read (row p) s.0) s.1 (f s.0) s.2)
by_found p ts e (found n q w b none) = record {
  no_row = e;
  before = n;
  next = q ∙ omega arith;
  within = w;
  begins = record { further = b.further; outs = b.outs; row = b.row };
  breaks = λ l c. let is : first_refused p ts ≡ suc n = q ∙ omega arith in
      none l (record { further = c.further; outs = c.outs; row = sym (ap (λ m. row_of p (take m ts ++ c.further)) is) ∙ c.row });
}

pub breaks_off : (p : Primitive) (ts : List Ty) → row_of p ts ≡ None → BreaksOff p ts (first_refused p ts)
breaks_off p ts e = by_found p ts e (found_at 0 (row p) ts (goes p) e)

-- no other place

split : (m n : ℕ) (ts : List Ty) → m ≤ n → (us : List Ty) × (take n ts ≡ take m ts ++ us)
split zero n ts h = (take n ts, refl)
split (suc m) zero ts h = absurd (omega arith)
split (suc m) (suc n) [] h = ([], refl)
split (suc m) (suc n) (t ∷ ts) h = let s = split m n ts (omega arith) in (s.0, ap (λ l. t ∷ l) s.1)

begins_before : (p : Primitive) (ts : List Ty) (m n : ℕ) → m ≤ n → Begins p (take n ts) → Begins p (take m ts)
begins_before p ts m n h b =
    let s = split m n ts h in
    record { further = s.0 ++ b.further; outs = b.outs; row = ap (row_of p) (sym (append_assoc (take m ts) s.0 b.further) ∙ ap (λ l. l ++ b.further) (sym s.1)) ∙ b.row }

not_before : (p : Primitive) (ts : List Ty) (j k : ℕ) (x : BreaksOff p ts j) (y : BreaksOff p ts k) → x.before < y.before → ⊥
not_before p ts j k x y h =
    let w = y.within in
    let f = x.next in
    x.breaks (omega arith) (begins_before p ts j y.before (omega arith) y.begins)

only_one : (a b : ℕ) → (a < b → ⊥) → (b < a → ⊥) → a ≡ b
only_one zero zero f g = refl
only_one zero (suc b) f g = absurd (f (omega arith))
only_one (suc a) zero f g = absurd (g (omega arith))
only_one (suc a) (suc b) f g = ap suc (only_one a b (λ h. f (omega arith)) (λ h. g (omega arith)))

same_place : (p : Primitive) (ts : List Ty) (j k : ℕ) (x : BreaksOff p ts j) (y : BreaksOff p ts k) → j ≡ k
same_place p ts j k x y =
    let e = only_one x.before y.before (not_before p ts j k x y) (not_before p ts k j y x) in
    let f = x.next in
    let g = y.next in
    omega arith

pub place_is : (p : Primitive) (ts : List Ty) (k : ℕ) → BreaksOff p ts k → first_refused p ts ≡ k
place_is p ts k b = same_place p ts (first_refused p ts) k (breaks_off p ts b.no_row) b
