-- A text ends at its first closing quote.
use Rattle.std.proofs.Common.{◌≡◌, ℕ, zero, suc, ◌+◌, ◌<◌, ◌≤◌, List, [], ◌∷◌, ◌++◌, length, take, drop, Some, None, get_or, refl, sym, ap, ◌∙◌, arith, append_assoc, add-one}
use Rattle.std.proofs.Math.Seq.{drop-cons}
use Rattle.std.proofs.lemmas.List.{append-nil}
use Rattle.g_tokens.specs.declared.token.Token.TheVariants as token
use Rattle.g_tokens.specs.declared.texts.Escape.{Escape}
use Rattle.g_tokens.specs.declared.texts.Escape.TheVariants as escape
use Rattle.g_tokens.specs.declared.texts.Step.{Step}
use Rattle.g_tokens.specs.declared.texts.Step.TheVariants as step
use Rattle.g_tokens.specs.Tokens.{in_text, characters, after_step, closed, whole, IsLongest, IsBad, IsFront}
use Rattle.g_tokens.specs.Scan.{End, text_end, until, further, put_before}
use Rattle.g_tokens.proofs.Fronts.{front_is, front_bad}

further_none : (front : List ℕ) (o : End) → further front o ≡ None → o ≡ None
further_none front None e = refl
further_none front (Some x) e = absurd cc

further_some : (front : List ℕ) (o : End) (v : List ℕ) (n : ℕ) → further front o ≡ Some (v, n) → (x : List ℕ × ℕ) × (o ≡ Some x) × (front ++ x.0 ≡ v) × (suc x.1 ≡ n)
further_some front None v n e = absurd cc
further_some front (Some x) v n e =
    let q : ◌≡◌ {A = List ℕ × ℕ} (front ++ x.0, suc x.1) (v, n) = cc in
    (x, refl, ap (λ (y : List ℕ × ℕ). y.0) q, ap (λ (y : List ℕ × ℕ). y.1) q)

no_step : (s : Step) (w : List ℕ) (m : ℕ) → ((e : Escape) → text_end e w ≡ None → characters e (take m w) ≡ None)
    → until s (λ e. text_end e w) ≡ None → after_step s (take m w) (λ e. characters e (take m w)) ≡ None
no_step step.Close w m ih h = absurd cc
no_step (step.Means b) w m ih h = rw (ih escape.Plain (further_none (b ∷ []) (text_end escape.Plain w) h)) refl
no_step (step.Begins e) w m ih h = ih e (further_none [] (text_end e w) h)
no_step step.Refused w m ih h = refl

no_text : (e : Escape) (w : List ℕ) → text_end e w ≡ None → (m : ℕ) → characters e (take m w) ≡ None
unfolding text_end characters
no_text e [] h zero = refl
no_text e [] h (suc m) = refl
no_text e (b ∷ w) h zero = refl
no_text e (b ∷ w) h (suc m) = no_step (in_text e b) w m (λ e k. no_text e w k m) h

pub record EndsAt (e : Escape) (w v : List ℕ) (n : ℕ) : Type 0 where
  pub some : 0 < n
  pub within : n ≤ length w
  pub is : characters e (take n w) ≡ Some v
  pub longest : (m : ℕ) → n < m → m ≤ length w → characters e (take m w) ≡ None

-- what a step makes of what holds after it
record StepEnds (s : Step) (w v : List ℕ) (n : ℕ) : Type 0 where
  pub some : 0 < n
  pub within : n ≤ suc (length w)
  pub is : (k : ℕ) → n ≡ suc k → after_step s (take k w) (λ e. characters e (take k w)) ≡ Some v
  pub longest : (k : ℕ) → n < suc k → k ≤ length w → after_step s (take k w) (λ e. characters e (take k w)) ≡ None

closed_none : (w : List ℕ) (k : ℕ) → 1 < suc k → k ≤ length w → closed (take k w) ≡ None
closed_none w zero lt le = absurd (omega arith)
closed_none [] (suc k) lt le = absurd (omega arith)
closed_none (b ∷ w) (suc k) lt le = refl

a_step : (s : Step) (w v : List ℕ) (n : ℕ) → ((e : Escape) (v : List ℕ) (n : ℕ) → text_end e w ≡ Some (v, n) → EndsAt e w v n)
    → until s (λ e. text_end e w) ≡ Some (v, n) → StepEnds s w v n
a_step step.Close w v n ih h =
    let q : ◌≡◌ {A = List ℕ × ℕ} ([], 1) (v, n) = cc in
    let n-is : 1 ≡ n = ap (λ (y : List ℕ × ℕ). y.1) q in
    let v-is : [] ≡ v = ap (λ (y : List ℕ × ℕ). y.0) q in
    record {
      some = omega (arith, n-is);
      within = omega (arith, n-is);
      is = λ k e. let z : k ≡ 0 = omega (arith, n-is, e) in rw z (ap Some v-is);
      longest = λ k lt le. closed_none w k (omega (arith, n-is, lt)) le;
    }
a_step (step.Means b) w v n ih h =
    let q = further_some (b ∷ []) (text_end escape.Plain w) v n h in
    let r = ih escape.Plain q.0.0 q.0.1 q.1 in
    let s = r.some in
    let t = r.within in
    let u = q.3 in
    record {
      some = omega arith;
      within = omega arith;
      is = λ k e. let z : k ≡ q.0.1 = omega arith in rw (z, r.is) (ap Some q.2);
      longest = λ k lt le. let lt2 : q.0.1 < k = omega arith in rw (r.longest k lt2 le) refl;
    }
a_step (step.Begins e) w v n ih h =
    let q = further_some [] (text_end e w) v n h in
    let r = ih e q.0.0 q.0.1 q.1 in
    let s = r.some in
    let t = r.within in
    let u = q.3 in
    record {
      some = omega arith;
      within = omega arith;
      is = λ k f. let z : k ≡ q.0.1 = omega arith in rw (z, r.is) (ap Some q.2);
      longest = λ k lt le. let lt2 : q.0.1 < k = omega arith in r.longest k lt2 le;
    }
a_step step.Refused w v n ih h = absurd cc

from_step : (e : Escape) (b : ℕ) (w v : List ℕ) (n : ℕ) → StepEnds (in_text e b) w v n → EndsAt e (b ∷ w) v n
unfolding characters
from_step e b w v zero s = absurd (let lt = s.some in omega arith)
from_step e b w v (suc k) s =
    let fits = s.within in
    record { some = s.some; within = omega arith; is = s.is k refl; longest = λ m lt le. longer m lt le }
  where
    longer : (m : ℕ) → suc k < m → m ≤ length (b ∷ w) → characters e (take m (b ∷ w)) ≡ None
    longer zero lt le = absurd (omega arith)
    longer (suc m) lt le = s.longest m lt (omega arith)

pub ends_at : (e : Escape) (w v : List ℕ) (n : ℕ) → text_end e w ≡ Some (v, n) → EndsAt e w v n
unfolding text_end
ends_at e [] v n h = absurd cc
ends_at e (b ∷ w) v n h = from_step e b w v n (a_step (in_text e b) w v n (λ e v n k. ends_at e w v n k) h)

-- ---- with the quote before it

as_text_none : (w : List ℕ) → characters escape.Plain w ≡ None → whole (34 ∷ w) ≡ None
as_text_none w h = rw h refl

pub quoted : (rest v : List ℕ) (n : ℕ) → text_end escape.Plain rest ≡ Some (v, n) → IsLongest (34 ∷ rest) (token.Text v) (suc n)
quoted rest v n h =
    let r = ends_at escape.Plain rest v n h in
    let t = r.within in
    record { some = omega arith; within = omega arith; is = rw r.is refl; longest = λ m lt le. longer m lt le }
  where
    longer : (m : ℕ) → suc n < m → m ≤ length (34 ∷ rest) → whole (take m (34 ∷ rest)) ≡ None
    longer zero lt le = absurd (omega arith)
    longer (suc m) lt le = as_text_none (take m rest) ((ends_at escape.Plain rest v n h).longest m (omega arith) (omega arith))

pub unclosed : (rest : List ℕ) → text_end escape.Plain rest ≡ None → IsBad (34 ∷ rest)
unclosed rest h zero lt le = absurd (omega arith)
unclosed rest h (suc m) lt le = as_text_none (take m rest) (no_text escape.Plain rest h m)

pub quoted_front : (rest v : List ℕ) (n : ℕ) → Some (v, n) ≡ text_end escape.Plain rest → IsFront (34 ∷ rest) (token.Text v) (n + 1)
quoted_front rest v n h =
    let e : n + 1 ≡ suc n = omega arith in
    rw e (front_is (34 ∷ rest) (token.Text v) (suc n) (quoted rest v n (sym h)))

pub unclosed_front : (rest : List ℕ) → None ≡ text_end escape.Plain rest → IsFront (34 ∷ rest) token.Bad (length rest + 1)
unclosed_front rest h = front_bad 34 rest (length rest + 1) (unclosed rest (sym h)) (omega arith)

-- ---- reading along

put_more : (front : List ℕ) (i b : ℕ) (o : End) → put_before front i (further (b ∷ []) o) ≡ put_before (front ++ b ∷ []) (i + 1) o
put_more front i b None = refl
put_more front i b (Some x) =
    let l : front ++ (b ∷ x.0) ≡ (front ++ b ∷ []) ++ x.0 = sym (append_assoc front (b ∷ []) x.0) in
    let n : i + suc x.1 ≡ (i + 1) + x.1 = omega arith in
    rw (l, n) refl

put_on : (front : List ℕ) (i : ℕ) (o : End) → put_before front i (further [] o) ≡ put_before front (i + 1) o
put_on front i None = refl
put_on front i (Some x) = let n : i + suc x.1 ≡ (i + 1) + x.1 = omega arith in rw n refl

-- one byte more, by what it does
module _ (front : List ℕ) (i : ℕ) (e : Escape) (b : ℕ) (w : List ℕ) where
  pub one_means : (c : ℕ) → step.Means c ≡ in_text e b → put_before front i (text_end e (b ∷ w)) ≡ put_before (front ++ c ∷ []) (i + 1) (text_end escape.Plain w)
  unfolding text_end
  one_means c h = rw (sym h) (put_more front i c (text_end escape.Plain w))

  pub one_begins : (f : Escape) → step.Begins f ≡ in_text e b → put_before front i (text_end e (b ∷ w)) ≡ put_before front (i + 1) (text_end f w)
  unfolding text_end
  one_begins f h = rw (sym h) (put_on front i (text_end f w))

  pub one_closes : step.Close ≡ in_text e b → put_before front i (text_end e (b ∷ w)) ≡ Some (front, i + 1)
  unfolding text_end
  one_closes h = rw (sym h, append-nil front) refl

  pub one_refused : step.Refused ≡ in_text e b → put_before front i (text_end e (b ∷ w)) ≡ None
  unfolding text_end
  one_refused h = rw (sym h) refl

pub none_left : (front : List ℕ) (i : ℕ) (e : Escape) (w : List ℕ) → w ≡ [] → put_before front i (text_end e w) ≡ None
unfolding text_end
none_left front i e w h = rw h refl

pub from_start : (w : List ℕ) → put_before [] 0 (text_end escape.Plain w) ≡ text_end escape.Plain w
from_start w = same (text_end escape.Plain w)
  where
    same : (o : End) → put_before [] 0 o ≡ o
    same None = refl
    same (Some x) = let n : 0 + x.1 ≡ x.1 = omega arith in rw n refl

pub text_within : (rest v : List ℕ) (n : ℕ) → Some (v, n) ≡ text_end escape.Plain rest → n ≤ length rest
text_within rest v n h = (ends_at escape.Plain rest v n (sym h)).within

-- at a place of the bytes
module _ (bytes front : List ℕ) (i : ℕ) (e : Escape) (total : End) (lt : i < length bytes) (so_far : put_before front i (text_end e (drop i bytes)) ≡ total) where
  here : put_before front i (text_end e (get_or bytes i 0 ∷ drop (i + 1) bytes)) ≡ total
  here = ap (λ (w : List ℕ). put_before front i (text_end e w)) (sym (drop-cons bytes i 0 lt ∙ ap (λ (k : ℕ). get_or bytes i 0 ∷ drop k bytes) (sym (add-one i)))) ∙ so_far

  pub closes_at : step.Close ≡ in_text e (get_or bytes i 0) → Some (front, i + 1) ≡ total
  closes_at h = sym (one_closes front i e (get_or bytes i 0) (drop (i + 1) bytes) h) ∙ here

  pub refused_at : step.Refused ≡ in_text e (get_or bytes i 0) → None ≡ total
  refused_at h = sym (one_refused front i e (get_or bytes i 0) (drop (i + 1) bytes) h) ∙ here

  pub means_at : (c : ℕ) → step.Means c ≡ in_text e (get_or bytes i 0) → put_before (front ++ c ∷ []) (i + 1) (text_end escape.Plain (drop (i + 1) bytes)) ≡ total
  means_at c h = sym (one_means front i e (get_or bytes i 0) (drop (i + 1) bytes) c h) ∙ here

  pub begins_at : (f : Escape) → step.Begins f ≡ in_text e (get_or bytes i 0) → put_before front (i + 1) (text_end f (drop (i + 1) bytes)) ≡ total
  begins_at f h = sym (one_begins front i e (get_or bytes i 0) (drop (i + 1) bytes) f h) ∙ here
