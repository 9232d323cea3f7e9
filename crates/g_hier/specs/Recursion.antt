-- Rule 19: a call line is broken where the VI that it calls reaches the VI that holds it.
use Rattle.std.specs.Prelude.{ℕ, ◌≡◌, ◌⊎◌, List, Contains}
use Rattle.g_diagram.specs.declared.place.Break.{Break}
use Rattle.g_diagram.specs.Leads.{Leads}
use Rattle.g_hier.specs.declared.linked.CallLine.{CallLine}
use Rattle.g_hier.specs.declared.linked.Outline.{Outline}
use Rattle.g_hier.specs.Outlines.{calls, calls_at}

-- VI a is VI b, or calls lead from a to b
abbrev pub Reaches : List Outline → (a b : ℕ) → Type 0
Reaches os a b = (a ≡ b) ⊎ Leads (calls os) a b

-- a break of rule 19, at the line of a call
pub record IsRecursion (os : List Outline) (b : Break) : Type 0 where
  pub rule : b.rule ≡ 19
  pub whole : b.place.operand ≡ 0
  pub call : CallLine
  pub stands : Contains (calls_at os b.place.vi) call
  pub line : call.line ≡ b.place.line
  pub back : Reaches os call.vi b.place.vi

abbrev pub HasNoRecursion : List Outline → Type 0
HasNoRecursion os = (b : Break) → IsRecursion os b → ⊥
