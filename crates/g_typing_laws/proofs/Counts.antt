-- How often the lines of a VI give a name of a diagram, and how often its ports do: at least as often.
use Rattle.std.proofs.Common.{◌≡◌, ℕ, ◌+◌, ◌≤◌, ◌==◌, Bool, true, false, ◌&&◌, List, [], ◌∷◌, ◌++◌, map, refl, ap, ◌∙◌, arith}
use Rattle.std.specs.Prelude.{Option, Some, None}
use Rattle.std.specs.Str.{bytes_eq}
use Rattle.g_types.specs.declared.ty.Ty.{Ty}
use Rattle.g_diagram.specs.Lines.{Wire}
use Rattle.g_diagram.specs.Operands.{Side, Outside, Inside, Before, Operand, Line, source}
use Rattle.g_diagram.specs.Ports.{Port, port, ports_on, ports_from, ports_in}
use Rattle.g_typing.specs.Typing.{Given, given, given_each}

abbrev pub hit : Bool → ℕ
hit true = 1
hit false = 0

pub hit_one : (b : Bool) → hit b ≤ 1
hit_one true = omega arith
hit_one false = omega arith

-- a wire of diagram b that has this name of diagram d
abbrev pub wire_hit : (d : ℕ) → (name : List ℕ) → (b : ℕ) → Wire → ℕ
wire_hit d n b None = 0
wire_hit d n b (Some m) = hit ((b == d) && bytes_eq m n)

abbrev pub given_count : (d : ℕ) → (name : List ℕ) → List Given → ℕ
given_count d n [] = 0
given_count d n (g ∷ gs) = hit ((g.diagram == d) && bytes_eq g.name n) + given_count d n gs

-- at a port
abbrev pub port_hit : (source : Bool) → (d : ℕ) → (name : List ℕ) → (b : ℕ) → Wire → ℕ
port_hit true d n b w = wire_hit d n b w
port_hit false d n b w = 0

abbrev pub port_count : (d : ℕ) → (name : List ℕ) → List Port → ℕ
port_count d n [] = 0
port_count d n (p ∷ ps) = port_hit p.is_source d n p.diagram p.wire + port_count d n ps

-- at an operand in each of these diagrams
abbrev pub among_hit : (source : Bool) → (d : ℕ) → (name : List ℕ) → (diagrams : List ℕ) → Wire → ℕ
among_hit s d n [] w = 0
among_hit s d n (b ∷ bs) w = port_hit s d n b w + among_hit s d n bs w

abbrev pub side_hit : Side → (source : Bool) → (d : ℕ) → (name : List ℕ) → Line → Wire → ℕ
side_hit Outside s d n l w = port_hit s d n l.outside w
side_hit Inside s d n l w = among_hit s d n l.inside w
side_hit Before s d n l w = among_hit s d n l.before w

abbrev pub operands_count : (d : ℕ) → (name : List ℕ) → Line → List Operand → ℕ
operands_count d n l [] = 0
operands_count d n l (o ∷ os) = side_hit o.side o.is_source d n l o.wire + operands_count d n l os

abbrev pub lines_count : (d : ℕ) → (name : List ℕ) → List Line → ℕ
lines_count d n [] = 0
lines_count d n (l ∷ ls) = operands_count d n l l.operands + lines_count d n ls

-- sums

pub given_both : (d : ℕ) (n : List ℕ) (xs ys : List Given) → given_count d n (xs ++ ys) ≡ given_count d n xs + given_count d n ys
given_both d n [] ys = omega arith
given_both d n (x ∷ xs) ys = let e : given_count d n (xs ++ ys) ≡ given_count d n xs + given_count d n ys = given_both d n xs ys in omega (arith, e)

ports_both : (d : ℕ) (n : List ℕ) (xs ys : List Port) → port_count d n (xs ++ ys) ≡ port_count d n xs + port_count d n ys
ports_both d n [] ys = omega arith
ports_both d n (x ∷ xs) ys = let e : port_count d n (xs ++ ys) ≡ port_count d n xs + port_count d n ys = ports_both d n xs ys in omega (arith, e)

pub operands_both : (d : ℕ) (n : List ℕ) (l : Line) (xs ys : List Operand) → operands_count d n l (xs ++ ys) ≡ operands_count d n l xs + operands_count d n l ys
operands_both d n l [] ys = omega arith
operands_both d n l (x ∷ xs) ys =
    let e : operands_count d n l (xs ++ ys) ≡ operands_count d n l xs + operands_count d n l ys = operands_both d n l xs ys in omega (arith, e)

pub lines_both : (d : ℕ) (n : List ℕ) (xs ys : List Line) → lines_count d n (xs ++ ys) ≡ lines_count d n xs + lines_count d n ys
lines_both d n [] ys = omega arith
lines_both d n (x ∷ xs) ys = let e : lines_count d n (xs ++ ys) ≡ lines_count d n xs + lines_count d n ys = lines_both d n xs ys in omega (arith, e)

-- the ports of lines

among_ports : (d : ℕ) (n : List ℕ) (l : Line) (k : ℕ) (o : Operand) (bs : List ℕ) → port_count d n (map (port l k o None) bs) ≡ among_hit o.is_source d n bs o.wire
among_ports d n l k o [] = refl
among_ports d n l k o (b ∷ bs) = ap (λ c. port_hit o.is_source d n b o.wire + c) (among_ports d n l k o bs)

side_ports : (d : ℕ) (n : List ℕ) (l : Line) (k : ℕ) (o : Operand) (s : Side) → port_count d n (ports_on s l k o) ≡ side_hit s o.is_source d n l o.wire
side_ports d n l k o Outside = omega arith
side_ports d n l k o Inside = among_ports d n l k o l.inside
side_ports d n l k o Before = among_ports d n l k o l.before

from_ports : (d : ℕ) (n : List ℕ) (l : Line) (k : ℕ) (os : List Operand) → port_count d n (ports_from l k os) ≡ operands_count d n l os
from_ports d n l k [] = refl
from_ports d n l k (o ∷ os) =
    ports_both d n (ports_on o.side l k o) (ports_from l (k + 1) os)
    ∙ ap (λ c. c + port_count d n (ports_from l (k + 1) os)) (side_ports d n l k o o.side)
    ∙ ap (λ c. side_hit o.side o.is_source d n l o.wire + c) (from_ports d n l (k + 1) os)

pub in_ports : (d : ℕ) (n : List ℕ) (ls : List Line) → port_count d n (ports_in ls) ≡ lines_count d n ls
in_ports d n [] = refl
in_ports d n (l ∷ ls) =
    ports_both d n (ports_from l 1 l.operands) (ports_in ls)
    ∙ ap (λ c. c + port_count d n (ports_in ls)) (from_ports d n l 1 l.operands)
    ∙ ap (λ c. operands_count d n l l.operands + c) (in_ports d n ls)

-- wires

pub given_is : (d : ℕ) (n : List ℕ) (b : ℕ) (w : Wire) (t : Option Ty) → given_count d n (given b w t) ≡ wire_hit d n b w
given_is d n b None t = refl
given_is d n b (Some m) t = omega arith

abbrev pub wires_hit : (d : ℕ) → (name : List ℕ) → (b : ℕ) → List Wire → ℕ
wires_hit d n b [] = 0
wires_hit d n b (w ∷ ws) = wire_hit d n b w + wires_hit d n b ws

pub each_is : (d : ℕ) (n : List ℕ) (b : ℕ) (ws : List Wire) (ts : List Ty) → given_count d n (given_each b ws ts) ≡ wires_hit d n b ws
each_is d n b [] ts = refl
each_is d n b (w ∷ ws) [] =
    given_both d n (given b w None) (given_each b ws [])
    ∙ ap (λ c. c + given_count d n (given_each b ws [])) (given_is d n b w None) ∙ ap (λ c. wire_hit d n b w + c) (each_is d n b ws [])
each_is d n b (w ∷ ws) (t ∷ ts) =
    given_both d n (given b w (Some t)) (given_each b ws ts)
    ∙ ap (λ c. c + given_count d n (given_each b ws ts)) (given_is d n b w (Some t)) ∙ ap (λ c. wire_hit d n b w + c) (each_is d n b ws ts)

pub outputs_are : (d : ℕ) (n : List ℕ) (l : Line) (ws : List Wire) → operands_count d n l (map (source Outside) ws) ≡ wires_hit d n l.outside ws
outputs_are d n l [] = refl
outputs_are d n l (w ∷ ws) = ap (λ c. wire_hit d n l.outside w + c) (outputs_are d n l ws)

pub none_among : (s : Bool) (d : ℕ) (n : List ℕ) (bs : List ℕ) → among_hit s d n bs None ≡ 0
none_among s d n [] = refl
none_among true d n (b ∷ bs) = let e : among_hit true d n bs None ≡ 0 = none_among true d n bs in omega (arith, e)
none_among false d n (b ∷ bs) = let e : among_hit false d n bs None ≡ 0 = none_among false d n bs in omega (arith, e)
