-- What settings give: one list of values at most, and up to the first wrong one.
use Rattle.std.proofs.Common.{◌≡◌, ℕ, zero, suc, ◌+◌, List, [], ◌∷◌, ◌++◌, take, drop, arith, Option, Some, None, refl, sym, ap, ◌∙◌, subst, append_assoc}
use Rattle.std.specs.Prelude.{MatchOption}
use Rattle.g_types.specs.declared.ty.Ty.{Ty}
use Rattle.g_values.specs.declared.value.Value.{Value}
use Rattle.g_valtext.specs.Spellings.{IsSpelling}
use Rattle.g_valtext.proofs.Exact.{one_value}
use Rattle.g_line.specs.declared.forms.Setting.{Setting}
use Rattle.grun.specs.Settings.{Named, find, IsValueFor, Give, IsWrongSetting}
use Rattle.grun.proofs.Split.{Splits, together, ahead, behind, splits}

-- ---- the value of a setting

-- a setting's value by a list that tells the same types
pub value_known : (es cs : Named Ty) (s : Setting) (v : Value) → find s.name es ≡ find s.name cs → IsValueFor es s v → IsValueFor cs s v
value_known es cs s v e value = record { type = value.type; named = sym e ∙ value.named; spelled = value.spelled }

pub value_type : (cs : Named Ty) (s : Setting) (t : Ty) (v : Value) → find s.name cs ≡ Some t → IsValueFor cs s v → IsSpelling t s.text v
value_type cs s t v at value =
    let both : Some value.type ≡ Some t = sym value.named ∙ at in
    let same : value.type ≡ t = cc in
    subst (λ (u : Ty). IsSpelling u s.text v) same value.spelled

value_one : (cs : Named Ty) (s : Setting) (v w : Value) → IsValueFor cs s v → IsValueFor cs s w → v ≡ w
value_one cs s v w a b = one_value b.type s.text v w (value_type cs s b.type v b.named a) b.spelled

-- what a text spells for the control of a setting
pub value_of : (cs : Named Ty) (s : Setting) (t : Ty) (text : List ℕ) → find s.name cs ≡ Some t → text ≡ s.text → (read : Option Value) → MatchOption read ((v : Value) → IsSpelling t text v → ⊥) (IsSpelling t text)
    → MatchOption read ((v : Value) → IsValueFor cs s v → ⊥) (IsValueFor cs s)
value_of cs s t text at is None never = λ v value. never v (subst (λ (x : List ℕ). IsSpelling t x v) (sym is) (value_type cs s t v at value))
value_of cs s t text at is (Some v) spells = record { type = t; named = at; spelled = subst (λ (x : List ℕ). IsSpelling t x v) is spells }

pub unnamed : (cs : Named Ty) (s : Setting) → find s.name cs ≡ None → (v : Value) → IsValueFor cs s v → ⊥
unnamed cs s at v value = let both : None ≡ Some value.type = sym at ∙ value.named in absurd cc

-- ---- the values of settings

pub give_more : (cs : Named Ty) (before vs : Named Value) (ss : List Setting) (s : Setting) (v : Value) → Give cs before ss vs → IsValueFor cs s v → find s.name vs ≡ None → Give cs before (ss ++ s ∷ []) (vs ++ (s.name, v) ∷ [])
give_more cs before vs [] s v g value new = (v, value, ap (find s.name) g ∙ new, ap (λ b. b ++ (s.name, v) ∷ []) g)
give_more cs before vs (x ∷ ss) s v g value new = (g.0, g.1, g.2, give_more cs (before ++ (x.name, g.0) ∷ []) vs ss s v g.3 value new)

give_front : (cs : Named Ty) (before vs : Named Value) (xs ys : List Setting) → Give cs before (xs ++ ys) vs → (ws : Named Value) × Give cs before xs ws
give_front cs before vs [] ys g = (before, refl)
give_front cs before vs (x ∷ xs) ys g = let rest = give_front cs (before ++ (x.name, g.0) ∷ []) vs xs ys g.3 in (rest.0, (g.0, g.1, g.2, rest.1))

-- settings give one list of values
pub give_one : (cs : Named Ty) (before vs ws : Named Value) (ss : List Setting) → Give cs before ss vs → Give cs before ss ws → vs ≡ ws
give_one cs before vs ws [] g h = sym g ∙ h
give_one cs before vs ws (s ∷ ss) g h =
    let same : g.0 ≡ h.0 = value_one cs s g.0 h.0 g.1 h.1 in
    give_one cs (before ++ (s.name, h.0) ∷ []) vs ws ss (subst (λ (v : Value). Give cs (before ++ (s.name, v) ∷ []) ss vs) same g.3) h.3

-- what the last one of some gives
record Last (cs : Named Ty) (before : Named Value) (ss : List Setting) (s : Setting) : Type 0 where
  values : Named Value
  given : Give cs before ss values
  value : Value
  right : IsValueFor cs s value
  new : find s.name values ≡ None

give_last : (cs : Named Ty) (before ws : Named Value) (ss : List Setting) (s : Setting) → Give cs before (ss ++ s ∷ []) ws → Last cs before ss s
give_last cs before ws [] s g = record { values = before; given = refl; value = g.0; right = g.1; new = g.2 }
give_last cs before ws (x ∷ ss) s g =
    let last = give_last cs (before ++ (x.name, g.0) ∷ []) ws ss s g.3 in
    record { values = last.values; given = (g.0, g.1, g.2, last.given); value = last.value; right = last.right; new = last.new }

-- ---- the first wrong setting

-- it has no new value after those before it
pub wrong_here : (cs : Named Ty) (settings before after : List Setting) (s : Setting) (values : Named Value) → settings ≡ before ++ s ∷ after → Give cs [] before values
    → ((v : Value) → IsValueFor cs s v → find s.name values ≡ None → ⊥) → IsWrongSetting cs settings s
wrong_here cs settings before after s values split right never = record {
  before = before;
  after = after;
  split = split;
  values = values;
  right = right;
  wrong = λ others g.
      let last = give_last cs [] others before s g in
      never last.value last.right (ap (find s.name) (give_one cs [] values last.values before right last.given) ∙ last.new);
}

-- settings that give values with more behind them do without
given_front : (cs : Named Ty) (before : List Setting) (s : Setting) (after all : List Setting) (vs : Named Value) → all ≡ before ++ s ∷ after → Give cs [] all vs → (ws : Named Value) × Give cs [] (before ++ s ∷ []) ws
given_front cs before s after all vs split g =
    give_front cs [] vs (before ++ s ∷ []) after (subst (λ (l : List Setting). Give cs [] l vs) (split ∙ sym (append_assoc before (s ∷ []) after)) g)

-- settings with a wrong one give nothing
pub wrong_gives : (cs : Named Ty) (settings : List Setting) (s : Setting) (vs : Named Value) → IsWrongSetting cs settings s → Give cs [] settings vs → ⊥
wrong_gives cs settings s vs w g = let front = given_front cs w.before s w.after settings vs w.split g in w.wrong front.0 front.1

pub wrong_one : (cs : Named Ty) (settings : List Setting) (s t : Setting) → IsWrongSetting cs settings s → IsWrongSetting cs settings t → s ≡ t
wrong_one cs settings s t v w = by (splits v.before w.before s t v.after w.after (sym v.split ∙ w.split))
  where
    by : Splits v.before w.before s t → s ≡ t
    by (together p q) = q
    by (ahead more p) = let front = given_front cs v.before s more w.before w.values p w.right in absurd (v.wrong front.0 front.1)
    by (behind more p) = let front = given_front cs w.before t more v.before v.values p v.right in absurd (w.wrong front.0 front.1)

-- one setting more of the front
pub front_more : (settings : List Setting) (k : ℕ) (s : Setting) (rest : List Setting) → drop k settings ≡ s ∷ rest → take (k + 1) settings ≡ take k settings ++ s ∷ []
front_more [] zero s rest e = absurd cc
front_more [] (suc k) s rest e = absurd cc
front_more (x ∷ settings) zero s rest e = let same : x ≡ s = cc in ap (λ (y : Setting). y ∷ []) same
front_more (x ∷ settings) (suc k) s rest e =
    let more : suc k + 1 ≡ suc (k + 1) = omega arith in
    ap (λ (n : ℕ). take n (x ∷ settings)) more ∙ ap (λ (l : List Setting). x ∷ l) (front_more settings k s rest e)
