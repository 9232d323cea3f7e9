-- What holds of the operands of some lines, each in the diagrams of its side, holds of their ports, and the other way round.
use Rattle.std.proofs.Common.{inl, inr, subst, ℕ, ◌+◌, Bool, List, [], ◌∷◌, map}
use Rattle.std.specs.Prelude.{None}
use Rattle.std.specs.List.{AllByRecursion}
use Rattle.g_diagram.specs.Lines.{Wire, Entry}
use Rattle.g_diagram.specs.Operands.{Side, Outside, Inside, Before, Operand, Line, Freedom, kind_lines, entries_lines}
use Rattle.g_diagram.specs.Ports.{Port, port, ports_on, ports_from, ports_in}
use Rattle.g_typing.proofs.Ready.{IsOf}
use Rattle.g_infer_laws.proofs.Facts.{all_both, all_left, all_right}

abbrev pub OnSide : (ℕ → Type 0) → Side → Line → Type 0
OnSide P Outside l = P l.outside
OnSide P Inside l = AllByRecursion P l.inside
OnSide P Before l = AllByRecursion P l.before

module _ (P : (is_source is_free : Bool) → (diagram : ℕ) → Wire → Type 0) where
  abbrev pub OperandHolds : Line → Operand → Type 0
  OperandHolds l o = OnSide (λ d. P o.is_source o.is_free d o.wire) o.side l

  abbrev pub OperandsHold : Line → List Operand → Type 0
  OperandsHold l os = AllByRecursion (OperandHolds l) os

  abbrev pub LineHolds : Line → Type 0
  LineHolds l = OperandsHold l l.operands

  abbrev pub LinesHold : List Line → Type 0
  LinesHold ls = AllByRecursion LineHolds ls

  abbrev pub PortHolds : Port → Type 0
  PortHolds p = P p.is_source p.is_free p.diagram p.wire

  abbrev pub PortsHold : List Port → Type 0
  PortsHold ps = AllByRecursion PortHolds ps

  -- the lines of one node
  pub lines_of_one : (free : Freedom) (es : List Entry) → LinesHold (entries_lines free es) → (e : Entry) → IsOf e es → LinesHold (kind_lines free e e.kind)
  lines_of_one free [] h e is = absurd is
  lines_of_one free (x ∷ es) h e (inl same) =
      subst (λ (y : Entry). LinesHold (kind_lines free y y.kind)) same (all_left LineHolds (kind_lines free x x.kind) (entries_lines free es) h)
  lines_of_one free (x ∷ es) h e (inr is) = lines_of_one free es (all_right LineHolds (kind_lines free x x.kind) (entries_lines free es) h) e is

  module _ (l : Line) (k : ℕ) (o : Operand) where
    abbrev There : ℕ → Type 0
    There d = P o.is_source o.is_free d o.wire

    to_each : (bs : List ℕ) → AllByRecursion There bs → PortsHold (map (port l k o None) bs)
    to_each [] h = tt
    to_each (b ∷ bs) h = (h.0, to_each bs h.1)

    from_each : (bs : List ℕ) → PortsHold (map (port l k o None) bs) → AllByRecursion There bs
    from_each [] h = tt
    from_each (b ∷ bs) h = (h.0, from_each bs h.1)

    to_side : (s : Side) → OnSide There s l → PortsHold (ports_on s l k o)
    to_side Outside h = (h, tt)
    to_side Inside h = to_each l.inside h
    to_side Before h = to_each l.before h

    from_side : (s : Side) → PortsHold (ports_on s l k o) → OnSide There s l
    from_side Outside h = h.0
    from_side Inside h = from_each l.inside h
    from_side Before h = from_each l.before h

  to_operands : (l : Line) (k : ℕ) (os : List Operand) → OperandsHold l os → PortsHold (ports_from l k os)
  to_operands l k [] h = tt
  to_operands l k (o ∷ os) h = all_both PortHolds (ports_on o.side l k o) (ports_from l (k + 1) os) (to_side l k o o.side h.0) (to_operands l (k + 1) os h.1)

  from_operands : (l : Line) (k : ℕ) (os : List Operand) → PortsHold (ports_from l k os) → OperandsHold l os
  from_operands l k [] h = tt
  from_operands l k (o ∷ os) h = (
    from_side l k o o.side (all_left PortHolds (ports_on o.side l k o) (ports_from l (k + 1) os) h),
    from_operands l (k + 1) os (all_right PortHolds (ports_on o.side l k o) (ports_from l (k + 1) os) h),
  )

  pub to_ports : (ls : List Line) → LinesHold ls → PortsHold (ports_in ls)
  to_ports [] h = tt
  to_ports (l ∷ ls) h = all_both PortHolds (ports_from l 1 l.operands) (ports_in ls) (to_operands l 1 l.operands h.0) (to_ports ls h.1)

  pub from_ports : (ls : List Line) → PortsHold (ports_in ls) → LinesHold ls
  from_ports [] h = tt
  from_ports (l ∷ ls) h = (
    from_operands l 1 l.operands (all_left PortHolds (ports_from l 1 l.operands) (ports_in ls) h),
    from_ports ls (all_right PortHolds (ports_from l 1 l.operands) (ports_in ls) h),
  )
