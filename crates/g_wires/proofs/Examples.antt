-- Rules on small listings, computed: of each rule one that it breaks and one that it doesn't.
use Rattle.std.proofs.Common.{◌≡◌, ℕ, pos, ◌++◌, List, [], ◌∷◌, ap, true, false}
use Rattle.std.specs.Prelude.{Some, None, codes}
use Rattle.g_types.specs.declared.rep.Rep.TheVariants.{I32}
use Rattle.g_types.specs.declared.ty.Ty.TheVariants.{Num}
use Rattle.g_values.specs.declared.primitive.Primitive.TheVariants as op
use Rattle.g_diagram.specs.declared.hierarchy.Clones.TheVariants.{NonReentrant}
use Rattle.g_diagram.specs.declared.hierarchy.System.TheVariants.{Same}
use Rattle.g_diagram.specs.declared.node.Selector.TheVariants.{Number, Default}
use Rattle.g_diagram.specs.declared.node.Tunnel.TheVariants.{Tunnel}
use Rattle.g_diagram.specs.declared.panel.PanelItem.TheVariants.{Control, Indicator}
use Rattle.g_diagram.specs.declared.place.Break.{Break}
use Rattle.g_diagram.specs.Lines.{Wire, Entry}
use Rattle.g_diagram.specs.Operands.{control_lines, entries_lines}
use Rattle.g_diagram.specs.Ports.{Port, ports_in, ports_of, freedom, has_wire}
use Rattle.g_diagram.proofs.Trees.{Sketch, vi_of, same_entries, Trees, none, also, Apply, Call, Case, when, end}
use Rattle.g_wires.specs.Cycles.{LeadsToItself}
use Rattle.g_rules_lines.specs.Spots.{break}
use Rattle.g_wires.specs.Breaks.{named_in, plain_breaks}
use Rattle.g_rules_lines.specs.Lists.{lined_by, known_of}
use Rattle.g_rules_lines.specs.RepeatedNames.{renamed_vis}
use Rattle.g_rules_lines.specs.Callees.{arities}
use Rattle.g_rules_lines.specs.Queues.{first_queue, queues_in}

abbrev w : List ℕ → Wire
w name = Some name

abbrev alone : Sketch → List Port
alone s = ports_of (vi_of s ∷ []) (vi_of s)

abbrev by_entries : Sketch → List Entry → List Port
by_entries s es = ports_in (control_lines 1 s.panel ++ entries_lines (freedom (vi_of s ∷ [])) es)

-- what is broken of a VI that stands alone, but for rule 6
abbrev broken : Sketch → List Break
broken s = plain_breaks (ports_of (vi_of s ∷ [])) (known_of (vi_of s ∷ [])) (vi_of s ∷ [])

abbrev broken_by : Sketch → List Entry → List Break
broken_by s es =
    ((named_in (by_entries s es) 0 ++ lined_by (record { arities = arities (vi_of s ∷ []); queues = first_queue (queues_in es ++ []) }) 0 s.panel es) ++ []) ++ renamed_vis (vi_of s ∷ [])

abbrev at : (rule line operand : ℕ) → Break
at rule line operand = break 0 rule (record { line = line; operand = operand })

-- control a i32 -> a; indicator r i32 <- w; indicator s i32 <- t; and a node
abbrev sums : Trees → Sketch
sums top = record {
  name = codes "Main";
  clones = NonReentrant;
  system = Same;
  panel = Control (codes "a") (Num I32) false None (w (codes "a")) ∷ Indicator (codes "r") (Num I32) (w (codes "w")) ∷ Indicator (codes "s") (Num I32) (w (codes "t")) ∷ [];
  top = top;
}

-- add a w -> w
abbrev looped : Sketch
looped = sums (also (Apply op.Add (w (codes "a") ∷ w (codes "w") ∷ []) (w (codes "w") ∷ [])) none)

looped_broken : broken looped ≡ at 1 3 1 ∷ []
looped_broken = ap (broken_by looped) (same_entries looped)

looped_turns : LeadsToItself (alone looped) 4
looped_turns = (0, ap (λ es. has_wire (by_entries looped es) 4 4) (same_entries looped))

-- add a a -> w; inc w -> t
abbrev straight : Sketch
straight = sums (also (Apply op.Add (w (codes "a") ∷ w (codes "a") ∷ []) (w (codes "w") ∷ [])) (also (Apply op.Inc (w (codes "w") ∷ []) (w (codes "t") ∷ [])) none))

straight_broken : broken straight ≡ []
straight_broken = ap (broken_by straight) (same_entries straight)

straight_forward : has_wire (alone straight) 4 5 ≡ true
straight_forward = ap (λ es. has_wire (by_entries straight es) 4 5) (same_entries straight)

straight_back : has_wire (alone straight) 5 4 ≡ false
straight_back = ap (λ es. has_wire (by_entries straight es) 5 4) (same_entries straight)

abbrev add_to : (first second : Wire) → Wire → Trees → Trees
add_to x y out ts = also (Apply op.Add (x ∷ y ∷ []) (out ∷ [])) ts

abbrev inc_to : Wire → Wire → Trees → Trees
inc_to x out ts = also (Apply op.Inc (x ∷ []) (out ∷ [])) ts

-- 2: inc a -> w; inc a -> w; inc w -> t. The second source is broken, and the third would be too
abbrev twice : Sketch
twice = sums (inc_to (w (codes "a")) (w (codes "w")) (inc_to (w (codes "a")) (w (codes "w")) (inc_to (w (codes "w")) (w (codes "t")) (inc_to (w (codes "w")) (w (codes "w")) none))))

twice_broken : broken twice ≡ at 2 5 2 ∷ at 2 7 2 ∷ []
twice_broken = ap (broken_by twice) (same_entries twice)

-- 3: add a a -> w; inc w -> t; inc t -> u. An output that is left unwired breaks nothing: inc t -> _
abbrev unread : Sketch
unread = sums (add_to (w (codes "a")) (w (codes "a")) (w (codes "w")) (inc_to (w (codes "w")) (w (codes "t")) (inc_to (w (codes "t")) (w (codes "u")) (inc_to (w (codes "t")) None none))))

unread_broken : broken unread ≡ at 3 6 2 ∷ []
unread_broken = ap (broken_by unread) (same_entries unread)

-- a case's tunnel may go unused in a branch, and has a name of its own there: case a; tunnel a -> w; when 1; when default; inc w -> _; end
abbrev chosen : Sketch
chosen = sums (add_to (w (codes "a")) (w (codes "a")) (w (codes "w")) (inc_to (w (codes "w")) (w (codes "t"))
    (also (Case (w (codes "a")) (Tunnel (w (codes "a")) (w (codes "w")) ∷ []) (when (Number (pos 1) ∷ []) [] none (when (Default ∷ []) [] (inc_to (w (codes "w")) None none) end))) none)))

chosen_broken : broken chosen ≡ []
chosen_broken = ap (broken_by chosen) (same_entries chosen)

-- 4: add a _ -> w; inc w -> t
abbrev half : Sketch
half = sums (add_to (w (codes "a")) None (w (codes "w")) (inc_to (w (codes "w")) (w (codes "t")) none))

half_broken : broken half ≡ at 4 4 2 ∷ []
half_broken = ap (broken_by half) (same_entries half)

-- 4, 5, 9: an input whose control isn't required may be left unwired, one beyond the controls may not, and at a call of an unknown VI each
-- may: call Main _ -> w t; call Main _ _; call Other a _
abbrev calling : Sketch
calling = sums (also (Call (codes "Main") (None ∷ []) (w (codes "w") ∷ w (codes "t") ∷ [])) (also (Call (codes "Main") (None ∷ None ∷ []) []) (also (Call (codes "Other") (w (codes "a") ∷ None ∷ []) []) none)))

calling_broken : broken calling ≡ at 4 5 2 ∷ at 5 5 0 ∷ at 9 6 0 ∷ []
calling_broken = ap (broken_by calling) (same_entries calling)
