-- Lines and their ports.
use Rattle.std.proofs.Common.{◌≡◌, ℕ, ◌+◌, ◌<◌, List, [], ◌∷◌, ◌++◌, length, get_or, drop, refl, ap, sym, ◌∙◌, append_assoc}
use Rattle.std.proofs.lemmas.List.{at_drop_more}
use Rattle.g_diagram.specs.Operands.{Side, Outside, Inside, Before, Operand, Line}
use Rattle.g_diagram.specs.Ports.{Port, ports_on, ports_from, ports_in}
use Rattle.g_diagram_ports.specs.declared.push.Sides.{Sides}
use Rattle.g_diagram_ports.specs.Sides.{line_by, ports_by}

on_same : (s : Side) (b : Sides) (l k : ℕ) (o : Operand) (xs ys : List Operand) → ports_on s (line_by b l xs) k o ≡ ports_on s (line_by b l ys) k o
on_same Outside b l k o xs ys = refl
on_same Inside b l k o xs ys = refl
on_same Before b l k o xs ys = refl

from_same : (b : Sides) (l k : ℕ) (ops xs ys : List Operand) → ports_from (line_by b l xs) k ops ≡ ports_from (line_by b l ys) k ops
from_same b l k [] xs ys = refl
from_same b l k (o ∷ ops) xs ys =
    ap (λ ps. ps ++ ports_from (line_by b l xs) (k + 1) ops) (on_same o.side b l k o xs ys) ∙ ap (λ ps. ports_on o.side (line_by b l ys) k o ++ ps) (from_same b l (k + 1) ops xs ys)

pub line_ports : (b : Sides) (l : ℕ) (ops : List Operand) → ports_from (line_by b l ops) 1 ops ≡ ports_by b l 1 ops
line_ports b l ops = from_same b l 1 ops ops []

pub ports_append : (xs ys : List Line) → ports_in (xs ++ ys) ≡ ports_in xs ++ ports_in ys
ports_append [] ys = refl
ports_append (l ∷ xs) ys = ap (λ ps. ports_from l 1 l.operands ++ ps) (ports_append xs ys) ∙ sym (append_assoc (ports_from l 1 l.operands) (ports_in xs) (ports_in ys))

pub one_line : (b : Sides) (l : ℕ) (ops : List Operand) (ls : List Line) → ports_in (line_by b l ops ∷ ls) ≡ ports_by b l 1 ops ++ ports_in ls
one_line b l ops ls = ap (λ ps. ps ++ ports_in ls) (line_ports b l ops)

-- one more element, as at a step of a loop
pub one_more : {X : Type 0} (F G : List X → List Port) (g : List Port) (xs : List X) (i : ℕ) (x : X) (a b whole : List Port) → i < length xs → x ≡ get_or xs i x
    → b ≡ a ++ g → F (x ∷ drop (i + 1) xs) ≡ g ++ G (drop (i + 1) xs) → a ++ F (drop i xs) ≡ whole → b ++ G (drop (i + 1) xs) ≡ whole
one_more F G g xs i x a b whole lt is e step h =
    ap (λ ps. ps ++ G (drop (i + 1) xs)) e ∙ append_assoc a g (G (drop (i + 1) xs))
    ∙ ap (λ ps. a ++ ps) (sym (at_drop_more F xs i x lt ∙ ap (λ y. F (y ∷ drop (i + 1) xs)) (sym is) ∙ step)) ∙ h
