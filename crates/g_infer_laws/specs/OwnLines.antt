-- The lines that each structure may have at its border. What another line would give, as a `result` of a loop, would have no type.
use Rattle.std.specs.Prelude.{ℕ, Bool, true, false, not, ◌&&◌, IsTrue, List, [], ◌∷◌}
use Rattle.std.specs.List.{All, list_all}
use Rattle.g_diagram.specs.declared.node.Tunnel.{Tunnel}
use Rattle.g_diagram.specs.declared.node.Tunnel.TheVariants as line
use Rattle.g_diagram.specs.declared.hierarchy.Hierarchy.{Hierarchy}
use Rattle.g_diagram.specs.declared.hierarchy.Vi.{Vi}
use Rattle.g_diagram.specs.Lines.{Part, Kind, Loop, Case, Sequence, InPlace, entries_of}
use Rattle.g_listing_grammar.specs.Listing.{IsListing}

-- of a `for`; a `while`, which has no `index` line in a listing, isn't told apart
abbrev pub is_loop_line : Tunnel → Bool
is_loop_line (line.Tunnel outer inner) = true
is_loop_line (line.Register initial inner next last) = true
is_loop_line (line.Kept t inner next last) = true
is_loop_line (line.Last inner outer) = true
is_loop_line (line.Gather inner outer) = true
is_loop_line (line.Index array inner) = true
is_loop_line _ = false

abbrev pub is_case_line : Tunnel → Bool
is_case_line (line.Tunnel outer inner) = true
is_case_line (line.Result outer default) = true
is_case_line _ = false

-- nothing is carried into the first frame
abbrev pub is_frame_line : (first : Bool) → Tunnel → Bool
is_frame_line first (line.Tunnel outer inner) = true
is_frame_line first (line.Last inner outer) = true
is_frame_line first (line.Carry before inner) = not first
is_frame_line first _ = false

abbrev pub is_place_line : Tunnel → Bool
is_place_line (line.Tunnel outer inner) = true
is_place_line (line.Last inner outer) = true
is_place_line (line.Ref reference inner next same code) = true
is_place_line (line.Element array index inner next outer) = true
is_place_line (line.Field k cluster inner next outer) = true
is_place_line _ = false

abbrev pub have_frame_lines : (first : Bool) → List Part → Bool
have_frame_lines first [] = true
have_frame_lines first (p ∷ ps) = list_all (is_frame_line first) p.lines && have_frame_lines false ps

abbrev pub has_own_lines : Kind → Bool
has_own_lines (Loop count stop iteration lines body) = list_all is_loop_line lines
has_own_lines (Case selector lines arms) = list_all is_case_line lines
has_own_lines (Sequence parts) = have_frame_lines true parts
has_own_lines (InPlace lines body finish) = list_all is_place_line lines
has_own_lines _ = true

-- each structure of a VI, at every depth
abbrev pub HasOwnLines : Vi → Type 0
HasOwnLines vi = All (λ e. IsTrue (has_own_lines e.kind)) (entries_of vi)

-- a listing has no others
abbrev pub ReadsOwnLines : Type 0
ReadsOwnLines = (bytes : List ℕ) (h : Hierarchy) → IsListing bytes h → All HasOwnLines h.vis
