-- What kept registers had when their loop started, by line and one after another.
use Rattle.std.proofs.Common.{◌≡◌, ◌+◌, ◌≤◌, ◌<◌, ◌==◌, ℕ, zero, suc, Bool, true, false, List, [], ◌∷◌, ◌++◌, drop, map, refl, sym, ap, ◌∙◌, arith}
use Rattle.std.specs.Prelude.{Option, if◌then◌else◌}
use Rattle.std.proofs.lemmas.Bool.Decides.{nat_tests}
use Rattle.g_types.specs.declared.ty.Ty.{Ty}
use Rattle.g_values.specs.declared.value.Value.{Value}
use Rattle.g_prims_definitions.specs.Arithmetic.{nothing}
use Rattle.g_diagram.specs.declared.node.Tunnel.{Tunnel}
use Rattle.g_diagram.specs.declared.node.Tunnel.TheVariants as line
use Rattle.g_border.specs.Lines as border
use Rattle.g_border.specs.Loops.{kept_lines, kept_registers}
use Rattle.g_frames.specs.Effects.{Here}
use Rattle.g_frames.specs.Operations.{input_at}
use Rattle.g_frames.specs.Program.{kept_number}
use Rattle.g_frames.specs.Structures.{kept_after, kept_at}
use Rattle.g_crossing.specs.Crossing.{kept_on, kept_given, written}
use Rattle.g_crossing.specs.Kept.{kept_value, next_kept}

-- without values each line has none
pub none_kept : (rs : List (ℕ × Ty)) (l : ℕ) → nothing ≡ kept_at rs [] l
none_kept [] l = refl
none_kept (r ∷ rs) l = refl

-- From line l on the registers have these values, from number k on
pub record AreKept (kept : ℕ → Value) (l : ℕ) (ts : List Tunnel) (k : ℕ) (vs : List Value) : Type 0 where
  pub at : (m : ℕ) → l ≤ m → kept m ≡ kept_at (kept_registers l ts) (drop k vs) m

same_line : (l : ℕ) → (l == l) ≡ true
same_line l = grind (arith, nat_tests)

other_line : (l m : ℕ) → l < m → (l == m) ≡ false
other_line l m h = grind (arith, nat_tests)

own_line : (l : ℕ) (t : Ty) (rs : List (ℕ × Ty)) (k : ℕ) (vs : List Value) → kept_at ((l, t) ∷ rs) (drop k vs) l ≡ kept_value vs k
own_line l t rs zero [] = refl
own_line l t rs (suc k) [] = refl
own_line l t rs zero (v ∷ vs) = ap (λ (b : Bool). if b then v else kept_at rs vs l) (same_line l)
own_line l t rs (suc k) (v ∷ vs) = own_line l t rs k vs

later_line : (l m : ℕ) (t : Ty) (rs : List (ℕ × Ty)) (k : ℕ) (vs : List Value) → l < m → kept_at ((l, t) ∷ rs) (drop k vs) m ≡ kept_at rs (drop (suc k) vs) m
later_line l m t rs zero [] h = none_kept rs m
later_line l m t rs (suc k) [] h = none_kept rs m
later_line l m t rs zero (v ∷ vs) h = ap (λ (b : Bool). if b then v else kept_at rs vs m) (other_line l m h)
later_line l m t rs (suc k) (v ∷ vs) h = later_line l m t rs k vs h

-- the line of a kept register
pub kept_here : (kept : ℕ → Value) (l : ℕ) (t : Ty) (inner next last : Option (List ℕ)) (ts : List Tunnel) (k : ℕ) (vs : List Value) → AreKept kept l (line.Kept t inner next last ∷ ts) k vs → kept l ≡ kept_value vs k
kept_here kept l t inner next last ts k vs h = h.at l (omega arith) ∙ own_line l t (kept_registers (l + 1) ts) k vs

after_kept : (k : ℕ) → k + 1 ≡ suc k
after_kept k = omega arith

-- and the lines after one
pub kept_later : (kept : ℕ → Value) (l : ℕ) (t : Tunnel) (ts : List Tunnel) (k : ℕ) (vs : List Value) → AreKept kept l (t ∷ ts) k vs → AreKept kept (l + 1) ts (next_kept t k) vs
kept_later kept l (line.Kept t inner next last) ts k vs h = record {
  at = λ m below.
      h.at m (omega (arith, below)) ∙ later_line l m t (kept_registers (l + 1) ts) k vs (omega (arith, below))
      ∙ ap (λ (n : ℕ). kept_at (kept_registers (l + 1) ts) (drop n vs) m) (sym (after_kept k));
}
kept_later kept l (line.Tunnel outer inner) ts k vs h = record { at = λ m below. h.at m (omega (arith, below)) }
kept_later kept l (line.Register initial inner next last) ts k vs h = record { at = λ m below. h.at m (omega (arith, below)) }
kept_later kept l (line.Last inner outer) ts k vs h = record { at = λ m below. h.at m (omega (arith, below)) }
kept_later kept l (line.Gather inner outer) ts k vs h = record { at = λ m below. h.at m (omega (arith, below)) }
kept_later kept l (line.Index array inner) ts k vs h = record { at = λ m below. h.at m (omega (arith, below)) }
kept_later kept l (line.Result outer default) ts k vs h = record { at = λ m below. h.at m (omega (arith, below)) }
kept_later kept l (line.Carry earlier inner) ts k vs h = record { at = λ m below. h.at m (omega (arith, below)) }
kept_later kept l (line.Ref reference inner next same code) ts k vs h = record { at = λ m below. h.at m (omega (arith, below)) }
kept_later kept l (line.Element array index inner next outer) ts k vs h = record { at = λ m below. h.at m (omega (arith, below)) }
kept_later kept l (line.Field field cluster inner next outer) ts k vs h = record { at = λ m below. h.at m (omega (arith, below)) }

kept_line : (h : Here) (e : border.Leaving) (l : ℕ) (t : Tunnel) → map (λ r. (kept_number h.program h.frame.space r.0, input_at (border.values_outside e l t) 0)) (kept_lines l t) ≡ map (written h) (kept_on e l t)
kept_line h e l t = map_twice (kept_lines l t)
  where
    map_twice : (rs : List (ℕ × Ty)) → map (λ r. (kept_number h.program h.frame.space r.0, input_at (border.values_outside e l t) 0)) rs ≡ map (written h) (map (λ r. (r.0, input_at (border.values_outside e l t) 0)) rs)
    map_twice [] = refl
    map_twice (r ∷ rs) = ap (λ ws. (kept_number h.program h.frame.space r.0, input_at (border.values_outside e l t) 0) ∷ ws) (map_twice rs)

map_append : {A B : Type 0} (f : A → B) (xs ys : List A) → map f xs ++ map f ys ≡ map f (xs ++ ys)
map_append f [] ys = refl
map_append f (x ∷ xs) ys = ap (λ zs. f x ∷ zs) (map_append f xs ys)

-- what a loop's end writes is what its kept registers have, by their numbers
pub kept_written : (h : Here) (e : border.Leaving) (l : ℕ) (ts : List Tunnel) → kept_after h e l ts ≡ map (written h) (kept_given e l ts)
kept_written h e l [] = refl
kept_written h e l (t ∷ ts) =
    ap (λ (ws : List (ℕ × Value)). ws ++ kept_after h e (l + 1) ts) (kept_line h e l t)
    ∙ (ap (λ (ws : List (ℕ × Value)). map (written h) (kept_on e l t) ++ ws) (kept_written h e (l + 1) ts)
    ∙ map_append (written h) (kept_on e l t) (kept_given e (l + 1) ts))
