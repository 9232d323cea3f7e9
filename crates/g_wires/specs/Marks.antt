-- Inner: the rules over ports whose wires are numbers.
use Rattle.std.specs.Prelude.{ℕ, ◌+◌, ◌==◌, nat_lt, Bool, true, false, not, ◌&&◌, ◌||◌, List, [], ◌∷◌, ◌++◌, map, filter, Option, Some, None, is_some, slice_index_or}
use Rattle.std.specs.List.{list_any}
use Rattle.g_diagram.specs.declared.place.Break.{Break}
use Rattle.g_wires.specs.declared.coded.Coded.{Coded}
use Rattle.g_wires.specs.declared.second_sources.First.{First}
use Rattle.g_wires.specs.Coding.{IsBelow}

abbrev pub is_number : Option ℕ → ℕ → Bool
is_number None w = false
is_number (Some v) w = v == w

-- a source of wire w
abbrev pub gives : ℕ → Coded → Bool
gives w c = c.is_source && is_number c.wire w

-- a consumer of wire w
abbrev pub takes : ℕ → Coded → Bool
takes w c = not c.is_source && is_number c.wire w

-- a place, by its line and operand, stands before a port
abbrev pub is_lower : (line operand : ℕ) → Coded → Bool
is_lower l k c = nat_lt l c.line || ((l == c.line) && nat_lt k c.operand)

-- a source of wire w that stands before port c
abbrev pub gives_before : (w : ℕ) → (c : Coded) → Coded → Bool
gives_before w c s = s.is_source && (is_lower s.line s.operand c && is_number s.wire w)

-- 1: a consumer whose wire has no source
abbrev pub is_ungiven : List Coded → Option ℕ → Bool
is_ungiven cs None = false
is_ungiven cs (Some w) = not (list_any (gives w) cs)

abbrev pub has_no_source : List Coded → Coded → Bool
has_no_source cs c = not c.is_source && is_ungiven cs c.wire

-- 2: a source whose wire has a source before it
abbrev pub is_given_before : List Coded → Coded → Option ℕ → Bool
is_given_before cs c None = false
is_given_before cs c (Some w) = list_any (gives_before w c) cs

abbrev pub is_later_source : List Coded → Coded → Bool
is_later_source cs c = c.is_source && is_given_before cs c c.wire

-- 3: a source, but for a free one, whose wire has no consumer
abbrev pub is_untaken : List Coded → Option ℕ → Bool
is_untaken cs None = false
is_untaken cs (Some w) = not (list_any (takes w) cs)

abbrev pub has_no_consumer : List Coded → Coded → Bool
has_no_consumer cs c = c.is_source && (not c.is_free && is_untaken cs c.wire)

-- 4: a consumer without a wire that isn't free
abbrev pub has_no_wire : Coded → Bool
has_no_wire c = not c.is_source && (not (is_some c.wire) && not c.is_free)

abbrev pub coded_break : (vi rule : ℕ) → Coded → Break
coded_break vi rule c = record { place = record { vi = vi; line = c.line; operand = c.operand }; rule = rule }

-- a break of each port that passes a test
abbrev pub coded_breaks : (vi rule : ℕ) → (Coded → Bool) → List Coded → List Break
coded_breaks vi rule test cs = map (coded_break vi rule) (filter test cs)

-- the breaks of rules 1 to 4
abbrev pub coded_named : (vi : ℕ) → List Coded → List Break
coded_named vi cs =
    coded_breaks vi 1 (has_no_source cs) cs
    ++ (coded_breaks vi 2 (is_later_source cs) cs ++ (coded_breaks vi 3 (has_no_consumer cs) cs ++ coded_breaks vi 4 has_no_wire cs))

-- rules 1 and 3 by marks of the wires that have a source, or a consumer
abbrev pub is_marked : List Bool → ℕ → Bool
is_marked marks w = slice_index_or marks w false

abbrev pub is_unmarked : List Bool → Option ℕ → Bool
is_unmarked marks None = false
is_unmarked marks (Some w) = not (is_marked marks w)

abbrev pub lacks_mark : List Bool → Coded → Bool
lacks_mark marks c = not c.is_source && is_unmarked marks c.wire

abbrev pub lacks_taker : List Bool → Coded → Bool
lacks_taker marks c = c.is_source && (not c.is_free && is_unmarked marks c.wire)

-- rule 2 by the first source of each wire
abbrev pub first_at : List (Option First) → ℕ → Option First
first_at firsts w = slice_index_or firsts w None

abbrev pub stands_before : Option First → Coded → Bool
stands_before None c = false
stands_before (Some f) c = is_lower f.line f.operand c

abbrev pub is_after_first : List (Option First) → Coded → Option ℕ → Bool
is_after_first firsts c None = false
is_after_first firsts c (Some w) = stands_before (first_at firsts w) c

abbrev pub follows_source : List (Option First) → Coded → Bool
follows_source firsts c = c.is_source && is_after_first firsts c c.wire

abbrev pub WireBelow : ℕ → Coded → Type 0
WireBelow n c = IsBelow n c.wire

abbrev pub NodeBelow : ℕ → Coded → Type 0
NodeBelow n c = IsBelow n c.node

-- the ends of a port's edge, where nodes stand below `lines` and wires from there on
abbrev pub edge_ends : (lines : ℕ) → (is_source : Bool) → Option ℕ → Option ℕ → Option (ℕ × ℕ)
edge_ends lines s None w = None
edge_ends lines s (Some n) None = None
edge_ends lines true (Some n) (Some w) = Some (n, lines + w)
edge_ends lines false (Some n) (Some w) = Some (lines + w, n)

abbrev pub ends_of : (lines : ℕ) → Coded → Option (ℕ × ℕ)
ends_of lines c = edge_ends lines c.is_source c.node c.wire

abbrev pub are_ends : Option (ℕ × ℕ) → (a b : ℕ) → Bool
are_ends None a b = false
are_ends (Some e) a b = (e.0 == a) && (e.1 == b)

-- the port's edge leads from vertex a to vertex b
abbrev pub is_edge : (lines a b : ℕ) → Coded → Bool
is_edge lines a b c = are_ends (ends_of lines c) a b

-- two ports have one wire
abbrev pub same_number_of : Option ℕ → Option ℕ → Bool
same_number_of None w = false
same_number_of (Some v) None = false
same_number_of (Some v) (Some w) = v == w

abbrev pub coded_feeds : (a b : ℕ) → Coded → Coded → Bool
coded_feeds a b s c = is_number s.node a && is_number c.node b && same_number_of s.wire c.wire

-- a wire leads from node a to node b
abbrev pub coded_wire : List Coded → (a b : ℕ) → Bool
coded_wire cs a b = list_any (λ s. list_any (coded_feeds a b s) (filter (λ c. not c.is_source) cs)) (filter (λ s. s.is_source) cs)

-- the breaks of rule 6, by marks of the lines that lead to themselves
abbrev pub line_break : (vi line : ℕ) → Break
line_break vi line = record { place = record { vi = vi; line = line; operand = 0 }; rule = 6 }

abbrev pub marked_from : (vi line : ℕ) → List Bool → List Break
marked_from vi line [] = []
marked_from vi line (true ∷ marks) = line_break vi line ∷ marked_from vi (line + 1) marks
marked_from vi line (false ∷ marks) = marked_from vi (line + 1) marks
