-- What calls need to know of the VIs that they call.
use Rattle.std.specs.Prelude.{ℕ, Bool, true, false, not, List, if◌then◌else◌, Option, Some, None, Vec}
use Rattle.std.specs.Ordering.{nat_cmp}
use Rattle.std.specs.Cmp.Lexicographic.{slice_cmp}
use Rattle.std.specs.Str.{bytes_eq}
use Rattle.std.specs.Option.{option_map, option_or}
use Rattle.std.specs.BTreeMap.{BTreeMap, get_by}
use Rattle.std.specs.declared.alloc.Global.{Global}
use denote.Ref.{Bor}
use Rattle.g_diagram.specs.declared.hierarchy.Vi.{Vi}
use Rattle.g_diagram.specs.Operands.{Freedom}
use Rattle.g_diagram.specs.Ports.{required_controls, is_optional}

abbrev pub Table : Type 0
Table = BTreeMap (Bor (List ℕ)) (Vec Bool Global)

-- whether each control of the VI of a name is required
abbrev pub required_in : Table → (name : List ℕ) → Option (List Bool)
required_in m name = option_map (λ v. v.items) (get_by (λ k. slice_cmp nat_cmp name k.now) m)

abbrev pub flags_of : Option Vi → Option (List Bool)
flags_of vi = option_map (λ v. required_controls v.panel) vi

-- the first VI of a name stays
abbrev pub required_of : Option (List Bool) → Vi → (name : List ℕ) → Option (List Bool)
required_of before vi name = option_or before (if bytes_eq vi.name name then Some (required_controls vi.panel) else None)

abbrev pub is_free_by : Option (List Bool) → ℕ → Bool
is_free_by None k = true
is_free_by (Some flags) k = is_optional flags k

abbrev pub freedom_by : Table → Freedom
freedom_by m name = is_free_by (required_in m name)

-- a control that is there and isn't required
abbrev pub is_unneeded : Option Bool → Bool
is_unneeded None = false
is_unneeded (Some required) = not required
