-- A case whose two branches each take another tunnel, computed: which ports are kept, that they stand for all, and that without one they don't.
use Rattle.std.proofs.Common.{◌≡◌, ⊎_elim, inl, inr, ℕ, true, false, ◌==◌, ◌&&◌, ◌++◌, List, [], ◌∷◌, refl}
use Rattle.std.specs.Prelude.{Some, codes}
use Rattle.std.proofs.lemmas.Bool.{and_from}
use Rattle.g_diagram.specs.declared.node.Tunnel.TheVariants.{Tunnel}
use Rattle.g_diagram.specs.Lines.{Arm, Case, Entry, Wire, Write, entry}
use Rattle.g_diagram.specs.Operands.{Freedom, entries_lines}
use Rattle.g_diagram.specs.Ports.{Port, are_joined, ports_in}
use Rattle.g_diagram_ports.specs.Standing.{HasStandIn, IsAmong, Replaces, StandFor}
use Rattle.g_diagram_ports.specs.Tunnels.{HaveOwnBranches, all_first_tunnels, all_looked_up, all_outer_lines, look_after, no_branch, nowhere, tunnel_port}
use Rattle.g_diagram_ports.proofs.Among.{is_had}

abbrev w : List ℕ → Wire
w name = Some name

abbrev arm : (body : ℕ) → Arm
arm body = record { selectors = []; gives = []; body = body }

-- case s, tunnel a -> b, tunnel a -> c; when .., write q <- b; when .., write q <- c
abbrev nodes : List Entry
nodes =
    entry 1 0 (Case (w (codes "s")) (Tunnel (w (codes "a")) (w (codes "b")) ∷ Tunnel (w (codes "a")) (w (codes "c")) ∷ []) (arm 4 ∷ arm 6 ∷ []))
    ∷ entry 5 4 (Write (codes "q") (w (codes "b"))) ∷ entry 7 6 (Write (codes "q") (w (codes "c"))) ∷ []

abbrev none_free : Freedom
none_free name k = false

-- a consumer of a node
abbrev taker : (line operand diagram node : ℕ) → Wire → Port
taker l k d n name = record { line = l; operand = k; diagram = d; node = Some n; is_source = false; is_free = false; wire = name }

abbrev outside : List Port
outside = ports_in (all_outer_lines none_free nodes)

abbrev all : List Port
all = ports_in (entries_lines none_free nodes)

-- each tunnel in each branch
all_told :
    all ≡ taker 1 1 0 1 (w (codes "s")) ∷ taker 2 1 0 1 (w (codes "a")) ∷ tunnel_port 2 4 (w (codes "b")) ∷ tunnel_port 2 6 (w (codes "b")) ∷ taker 3 1 0 1 (w (codes "a"))
    ∷ tunnel_port 3 4 (w (codes "c")) ∷ tunnel_port 3 6 (w (codes "c")) ∷ taker 5 1 4 5 (w (codes "b")) ∷ taker 7 1 6 7 (w (codes "c")) ∷ []
all_told = refl

-- all in the first branch, and what the branches name
kept_told : all_first_tunnels nodes ++ all_looked_up (look_after nowhere nodes) outside ≡ tunnel_port 2 4 (w (codes "b")) ∷ tunnel_port 3 4 (w (codes "c")) ∷ tunnel_port 2 4 (w (codes "b")) ∷ tunnel_port 3 6 (w (codes "c")) ∷ []
kept_told = refl

own_branches : HaveOwnBranches no_branch nodes
own_branches = (λ d is. refl, (tt, (tt, tt)))

-- without the tunnel that the second branch names
abbrev fewer : List Port
fewer = outside ++ all_first_tunnels nodes

abbrev lost : Port
lost = tunnel_port 3 6 (w (codes "c"))

abbrev taken : Port
taken = taker 7 1 6 7 (w (codes "c"))

not_there : IsAmong lost fewer → ⊥
not_there among = let no : false ≡ true = is_had (λ q. q.is_source && (q.diagram == 6)) fewer lost among refl in cc

none_given : Replaces fewer lost taken → ⊥
none_given r =
    let no : false ≡ true = is_had (λ q. q.is_source && are_joined q taken) fewer r.by r.among (and_from r.by.is_source (are_joined r.by taken) r.source r.joined) in cc

not_enough : StandFor all fewer → ⊥
not_enough s = ⊎_elim not_there
    (λ (r : HasStandIn all fewer lost). none_given (r.others taken (inr (inr (inr (inr (inl refl))))) refl))
    (s.each lost (inr (inr (inr (inr (inr (inr (inl refl))))))))
