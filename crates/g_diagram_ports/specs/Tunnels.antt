-- Inner: the tunnels of cases as branches look them up. A tunnel is a source in each branch of its case; of these ports the ones are kept
-- that a rule can see: all in the first branch, and in each branch the first tunnel of each name that something else there has.
use Rattle.std.specs.Prelude.{ℕ, ◌≡◌, ◌+◌, ◌==◌, Bool, true, false, List, [], ◌∷◌, ◌++◌, map, if◌then◌else◌, Option, Some, None}
use Rattle.std.specs.List.{list_any}
use Rattle.std.specs.Option.{option_or}
use Rattle.std.specs.Str.{bytes_eq}
use Rattle.g_diagram.specs.declared.node.Tunnel.{Tunnel}
use Rattle.g_diagram.specs.declared.node.Tunnel.TheVariants as line
use Rattle.g_diagram.specs.declared.hierarchy.Vi.{Vi}
use Rattle.g_diagram.specs.Lines.{Wire, Arm, Entry, Kind, Case}
use Rattle.g_diagram.specs.Operands.{Operand, Line, Freedom, Outside, consumer, border, plain_line, border_lines, give_line, kind_lines, control_lines}
use Rattle.g_diagram.specs.Ports.{Port, ports_in}

-- a case's border without what its tunnels give inside
abbrev pub outer_border : Tunnel → List Operand
outer_border (line.Tunnel outer inner) = consumer Outside outer ∷ []
outer_border t = border t

-- the ports of all lines but for what tunnels give in branches
abbrev pub outer_lines : Freedom → Entry → Kind → List Line
outer_lines free e (Case selector lines arms) =
    plain_line e (consumer Outside selector ∷ [])
    ∷ (border_lines e (map (λ a. a.body) arms) [] outer_border (e.line + 1) lines ++ map (give_line e) arms)
outer_lines free e k = kind_lines free e k

abbrev pub all_outer_lines : Freedom → List Entry → List Line
all_outer_lines free [] = []
all_outer_lines free (e ∷ es) = outer_lines free e e.kind ++ all_outer_lines free es

abbrev pub outer_ports : Freedom → Vi → List Entry → List Port
outer_ports free vi es = ports_in (control_lines 1 vi.panel ++ all_outer_lines free es)

-- what a tunnel gives in a branch
abbrev pub tunnel_port : (line diagram : ℕ) → Wire → Port
tunnel_port l d w = record { line = l; operand = 2; diagram = d; node = None; is_source = true; is_free = true; wire = w }

-- the wire of a tunnel inside
abbrev pub inner_wire : Tunnel → Option Wire
inner_wire (line.Tunnel outer inner) = Some inner
inner_wire _ = None

abbrev pub tunnel_ports : (line diagram : ℕ) → Option Wire → List Port
tunnel_ports l d None = []
tunnel_ports l d (Some w) = tunnel_port l d w ∷ []

-- what border lines give in a branch, from a line on
abbrev pub tunnels_in : (diagram line : ℕ) → List Tunnel → List Port
tunnels_in d l [] = []
tunnels_in d l (t ∷ ts) = tunnel_ports l d (inner_wire t) ++ tunnels_in d (l + 1) ts

-- the border lines and the branches of a case
abbrev pub case_of : Kind → Option (List Tunnel × List Arm)
case_of (Case selector lines arms) = Some (lines, arms)
case_of _ = None

-- those of a case in its first branch
abbrev pub in_first : (line : ℕ) → List Tunnel → List Arm → List Port
in_first l lines [] = []
in_first l lines (arm ∷ arms) = tunnels_in arm.body l lines

abbrev pub first_by : (line : ℕ) → Option (List Tunnel × List Arm) → List Port
first_by l None = []
first_by l (Some c) = in_first (l + 1) c.0 c.1

abbrev pub first_tunnels : (line : ℕ) → Kind → List Port
first_tunnels l k = first_by l (case_of k)

abbrev pub all_first_tunnels : List Entry → List Port
all_first_tunnels [] = []
all_first_tunnels (e ∷ es) = first_tunnels e.line e.kind ++ all_first_tunnels es

-- the line of the first tunnel of a name, from a line on
abbrev pub named_here : (line : ℕ) → Option Wire → (name : List ℕ) → Option ℕ
named_here l None name = None
named_here l (Some None) name = None
named_here l (Some (Some n)) name = if bytes_eq n name then Some l else None

abbrev pub named_line : (line : ℕ) → List Tunnel → (name : List ℕ) → Option ℕ
named_line l [] name = None
named_line l (t ∷ ts) name = option_or (named_here l (inner_wire t) name) (named_line (l + 1) ts name)

abbrev pub is_arm : List Arm → (diagram : ℕ) → Bool
is_arm arms d = list_any (λ a. a.body == d) arms

-- the line that a name means in a diagram, where the diagram is a branch and its case has a tunnel of this name
abbrev pub LookUp : Type 0
LookUp = (diagram : ℕ) → (name : List ℕ) → Option ℕ

-- after a node
abbrev pub look_by : LookUp → (line : ℕ) → Option (List Tunnel × List Arm) → LookUp
look_by look l None d name = look d name
look_by look l (Some c) d name = if is_arm c.1 d then named_line (l + 1) c.0 name else look d name

abbrev pub look_past : LookUp → (line : ℕ) → Kind → LookUp
look_past look l k = look_by look l (case_of k)

-- after some nodes
abbrev pub look_after : LookUp → List Entry → LookUp
look_after look [] = look
look_after look (e ∷ es) = look_after (look_past look e.line e.kind) es

abbrev pub line_ports : (diagram : ℕ) → Wire → Option ℕ → List Port
line_ports d w None = []
line_ports d w (Some l) = tunnel_port l d w ∷ []

-- the tunnel that the name of a port means
abbrev pub looked_up : LookUp → (diagram : ℕ) → Wire → List Port
looked_up look d None = []
looked_up look d (Some name) = line_ports d (Some name) (look d name)

abbrev pub all_looked_up : LookUp → List Port → List Port
all_looked_up look [] = []
all_looked_up look (p ∷ ps) = looked_up look p.diagram p.wire ++ all_looked_up look ps

abbrev pub nowhere : LookUp
nowhere d name = None

-- the ports that are kept
abbrev pub kept_ports : Freedom → Vi → List Entry → List Port
kept_ports free vi es =
    outer_ports free vi es ++ (all_first_tunnels es ++ all_looked_up (look_after nowhere es) (outer_ports free vi es))

-- which diagrams are branches, after a node
abbrev pub branches_by : (before : ℕ → Bool) → Option (List Tunnel × List Arm) → ℕ → Bool
branches_by before None d = before d
branches_by before (Some c) d = if is_arm c.1 d then true else before d

abbrev pub branches_past : (before : ℕ → Bool) → Kind → ℕ → Bool
branches_past before k = branches_by before (case_of k)

abbrev pub no_branch : ℕ → Bool
no_branch d = false

abbrev pub AreNewBy : (before : ℕ → Bool) → Option (List Tunnel × List Arm) → Type 0
AreNewBy before None = Unit {0}
AreNewBy before (Some c) = (d : ℕ) → is_arm c.1 d ≡ true → before d ≡ false

abbrev pub AreNew : (before : ℕ → Bool) → Kind → Type 0
AreNew before k = AreNewBy before (case_of k)

-- no diagram is a branch of two of these cases, nor of one before
abbrev pub HaveOwnBranches : (before : ℕ → Bool) → List Entry → Type 0
HaveOwnBranches before [] = Unit {0}
HaveOwnBranches before (e ∷ es) = AreNew before e.kind × HaveOwnBranches (branches_past before e.kind) es
