-- Where a rule is broken.
use Rattle.std.specs.Prelude.{ℕ}
use Rattle.g_diagram.specs.declared.place.Break.{Break}
use Rattle.g_diagram.specs.Lines.{Entry}

-- a place in a VI: its line and operand
pub record Spot : Type 0 where
  pub line : ℕ
  pub operand : ℕ

abbrev pub break : (vi rule : ℕ) → Spot → Break
break vi rule s = record { place = record { vi = vi; line = s.line; operand = s.operand }; rule = rule }

-- an operand of a line; a line is its operand 0
abbrev pub spot_at : (line operand : ℕ) → Spot
spot_at l k = record { line = l; operand = k }

abbrev pub whole : Entry → Spot
whole e = spot_at e.line 0
