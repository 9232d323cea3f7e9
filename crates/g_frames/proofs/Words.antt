-- Short words for programs and runs as data, on which the definitions compute.
use Rattle.std.proofs.Common.{◌≡◌, ap, ◌∙◌}
use Rattle.std.specs.Prelude.{ℕ, ◌==◌, ◌&&◌, false, List, [], ◌∷◌, ◌++◌, map, Option, Some, None, slice_get, ℤ, pos, codes, if◌then◌else◌}
use Rattle.std.specs.Fmt.{signed_decimal}
use Rattle.std.specs.Option.{option_map, option_and_then}
use Rattle.std.specs.Str.{bytes_eq}
use Rattle.g_types.specs.declared.rep.Rep.TheVariants.{I32}
use Rattle.g_types.specs.declared.ty.Ty.{Ty}
use Rattle.g_types.specs.declared.ty.Ty.TheVariants as ty
use Rattle.g_values.specs.declared.value.Value.{Value}
use Rattle.g_values.specs.declared.value.Value.TheVariants as value
use Rattle.g_values.specs.declared.primitive.Primitive.{Primitive}
use Rattle.g_values.specs.Number.{num_of}
use Rattle.g_diagram.specs.declared.hierarchy.Clones.{Clones}
use Rattle.g_diagram.specs.declared.hierarchy.Clones.TheVariants.{NonReentrant}
use Rattle.g_diagram.specs.declared.hierarchy.System.TheVariants.{Same}
use Rattle.g_diagram.specs.declared.hierarchy.Vi.{Vi}
use Rattle.g_diagram.specs.declared.panel.Lit.TheVariants as lit
use Rattle.g_diagram.specs.declared.panel.PanelItem.{PanelItem}
use Rattle.g_diagram.specs.declared.panel.PanelItem.TheVariants.{Control, Indicator}
use Rattle.g_diagram.specs.Lines.{Wire}
use Rattle.g_diagram.specs.Operands.{control_lines, entries_lines}
use Rattle.g_diagram.specs.Ports.{ports_in, freedom}
use Rattle.g_diagram.proofs.Trees.{Sketch, Tree, Trees, none, also, Apply, Const, vi_of, sketch_entries}
use Rattle.g_hier.specs.declared.linked.Space.{Space}
use Rattle.g_typing.specs.Types.{Types}
use Rattle.g_frames.specs.declared.firing.Firing.{Firing}
use Rattle.g_frames.specs.declared.state.End.{End}
use Rattle.g_values.specs.Default.{default}
use Rattle.g_values.proofs.Defaults.{default-Num}
use Rattle.g_values.proofs.TextLemmas.{text-Num}
use Rattle.g_frames.specs.Program.{FlatVi, Program, vi_at, queues_in, first_of_each, in_spaces, cell_on, kept_on, pools_in}
use Rattle.g_frames.specs.State.{FireState, reader_in}
use Rattle.g_frames.specs.Run.{firing, after, end_of, waiting}
use Rattle.g_frames.specs.Print.{indicators, indicator_line, print}
use Rattle.g_frames.proofs.Compute.{everything}

abbrev pub i32 : Ty
i32 = ty.Num I32

abbrev pub w : List ℕ → Wire
w name = Some name

-- `control NAME type -> NAME`, with one name for both
abbrev pub control : List ℕ → Ty → PanelItem
control name t = Control name t false None (Some name)

-- `indicator NAME type <- WIRE`
abbrev pub indicator : (name : List ℕ) → Ty → (wire : List ℕ) → PanelItem
indicator name t wire = Indicator name t (Some wire)

-- `const i32 NUMBER -> OUT`
abbrev pub constant : ℤ → (out : List ℕ) → Tree
constant n out = Const i32 (lit.Number n) (Some out)

-- a primitive with one output
abbrev pub operation : Primitive → (inputs : List (List ℕ)) → (out : List ℕ) → Tree
operation op inputs out = Apply op (map w inputs) (Some out ∷ [])

abbrev pub trees : List Tree → Trees
trees [] = none
trees (t ∷ ts) = also t (trees ts)

-- a VI by its panel and nodes
abbrev pub sketch : (name : List ℕ) → Clones → List PanelItem → List Tree → Sketch
sketch name clones items ts = record { name = name; clones = clones; system = Same; panel = items; top = trees ts }

-- the types that a run looks up, by diagram and name
abbrev pub typed : List ((ℕ × List ℕ) × Ty) → Types
typed [] d name = None
typed (t ∷ ts) d name = if (t.0.0 == d) && bytes_eq t.0.1 name then Some t.1 else typed ts d name

abbrev pub flat_of : List Vi → Types → Sketch → FlatVi
flat_of vis types s = record {
  name = s.name;
  clones = s.clones;
  panel = s.panel;
  entries = sketch_entries s;
  ports = ports_in (control_lines 1 s.panel ++ entries_lines (freedom vis) (sketch_entries s));
  types = types;
}

abbrev pub flats : List Vi → List (Sketch × Types) → List FlatVi
flats vis [] = []
flats vis (s ∷ ss) = flat_of vis s.1 s.0 ∷ flats vis ss

-- the program of VIs, the first of which runs, with these data spaces; all of them are reached
abbrev pub program_of : List (Sketch × Types) → (order : List ℕ) → List Space → Program
program_of ss order spaces =
    let vis = flats (map (λ s. vi_of s.0) ss) ss in
    record {
      vis = vis;
      main = 0;
      spaces = spaces;
      queues = first_of_each (queues_in order 0 vis) [];
      cells = in_spaces (λ space vi e. cell_on vi.types space e e.kind) vis 0 spaces;
      kept = in_spaces (λ space vi e. kept_on space e e.kind) vis 0 spaces;
      pools = pools_in order 0 0 vis;
    }

abbrev pub space : (vi clone : ℕ) → Space
space vi clone = record { vi = vi; clone = clone; caller = None }

-- a program of one VI
abbrev pub only : List PanelItem → List Tree → List ((ℕ × List ℕ) × Ty) → Program
only items ts types = program_of ((sketch (codes "Main") NonReentrant items ts, typed types) ∷ []) (0 ∷ []) (space 0 0 ∷ [])

abbrev pub number : ℤ → Value
number n = value.Num (num_of I32 n)

-- firings without a choice
abbrev pub firings : List (ℕ × ℕ) → List Firing
firings [] = []
firings (x ∷ xs) = firing x.0 x.1 None ∷ firings xs

-- the indicators in a state, how the run ended, and which nodes wait
abbrev pub shown_in : Program → FireState → List Value × (End × List (ℕ × ℕ))
shown_in p s = (indicators p s, (end_of p s, waiting p s))

-- the same after a trace, where it is allowed
abbrev pub shown : Program → List Value → (limit : ℕ) → List Firing → Option (List Value × (End × List (ℕ × ℕ)))
shown p controls limit trace = option_map (shown_in p) (after p controls limit trace)

-- the values on wires of frame 0
abbrev pub wires_in : Program → List (List ℕ) → FireState → Option (List (Option Value))
wires_in p names s = option_and_then (λ f. option_map (λ vi. map (reader_in vi f) names) (vi_at p f.vi)) (slice_get s.frames 0)

-- the same after a trace, where it is allowed
abbrev pub wires : Program → List Value → List Firing → List (List ℕ) → Option (List (Option Value))
wires p controls trace names = option_and_then (wires_in p names) (after p controls 100 trace)

-- what is printed after a trace
abbrev pub printed : Program → List Value → (limit : ℕ) → List Firing → Option (List ℕ)
printed p controls limit trace = option_map (print p) (after p controls limit trace)

-- the line of an indicator that shows a number
pub line-number : (name : List ℕ) (n : ℤ) (rest : List ℕ) → indicator_line name (number n) rest ≡ name ++ (codes " = " ++ (signed_decimal (num_of I32 n).n ++ (10 ∷ rest)))
line-number name n rest = ap (λ t. name ++ (codes " = " ++ (t ++ (10 ∷ rest)))) (text-Num (num_of I32 n))

-- the line of an indicator that shows nothing yet
pub default_line : (name rest : List ℕ) → indicator_line name (default i32) rest ≡ name ++ (codes " = " ++ (codes "0" ++ (10 ∷ rest)))
unfolding everything
default_line name rest = ap (λ v. indicator_line name v rest) (default-Num I32) ∙ line-number name (pos 0) rest
