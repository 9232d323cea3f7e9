-- Fewer ports that say of wires what all say.
use Rattle.std.specs.Prelude.{◌≡◌, ◌⊎◌, true, List, [], ◌∷◌, None}
use Rattle.g_diagram.specs.Ports.{Port, are_joined, is_before}

-- a port stands in a list
abbrev pub IsAmong : Port → List Port → Type 0
IsAmong p [] = ⊥
IsAmong p (q ∷ qs) = (q ≡ p) ⊎ IsAmong p qs

-- a source that is among these and joined with a port, and stands before it where another does
pub record Replaces (qs : List Port) (p q : Port) : Type 0 where
  pub by : Port
  pub among : IsAmong by qs
  pub source : by.is_source ≡ true
  pub joined : are_joined by q ≡ true
  pub before : is_before p q ≡ true → is_before by q ≡ true

-- two sources of one wire among these, the second of which stands at the place of p
pub record IsSecond (qs : List Port) (p : Port) : Type 0 where
  pub first : Port
  pub second : Port
  pub among : IsAmong first qs
  pub also : IsAmong second qs
  pub source : first.is_source ≡ true
  pub later : second.is_source ≡ true
  pub before : is_before first second ≡ true
  pub joined : are_joined first second ≡ true
  pub line : second.line ≡ p.line
  pub operand : second.operand ≡ p.operand

-- A free source at a border, for which others stand: what is joined with it has another source, no later one, and where a source of its
-- wire stands before it, that is seen at its place too.
pub record HasStandIn (ps qs : List Port) (p : Port) : Type 0 where
  pub source : p.is_source ≡ true
  pub free : p.is_free ≡ true
  pub border : p.node ≡ None
  pub others : (q : Port) → IsAmong q qs → are_joined p q ≡ true → Replaces qs p q
  pub again : (s : Port) → IsAmong s ps → s.is_source ≡ true → is_before s p ≡ true → are_joined s p ≡ true → IsSecond qs p

-- the ports qs stand for the ports ps
pub record StandFor (ps qs : List Port) : Type 0 where
  pub within : (q : Port) → IsAmong q qs → IsAmong q ps
  pub each : (p : Port) → IsAmong p ps → IsAmong p qs ⊎ HasStandIn ps qs p
