-- Inner: the values that are given so far, by their sources.
use Rattle.std.specs.Prelude.{List, Option}
use Rattle.std.specs.Ordering.{ordering_then, nat_cmp}
use Rattle.std.specs.Option.{option_and_then, option_or}
use Rattle.std.specs.BTreeMap.{BTreeMap, get_by}
use Rattle.g_values.specs.declared.value.Value.{Value}
use Rattle.g_diagram.specs.Ports.{Port}
use Rattle.g_border.specs.declared.place.WireSource.{WireSource}
use Rattle.g_border.specs.Bodies.{Readers}
use Rattle.g_border.specs.Readers.{Given, value_given, source_of}
use Rattle.g_frames.specs.Program.{FlatVi}

abbrev pub Known : Type 0
Known = BTreeMap WireSource Value

-- a value at a source
abbrev pub Found : Type 0
Found = WireSource → Option Value

abbrev pub found : Known → Found
found m p = get_by (λ k. ordering_then (nat_cmp p.line k.line) (nat_cmp p.operand k.operand)) m

-- where more is given. A first value stays
abbrev pub with_more : Found → Given → Found
with_more f gs p = option_or (f p) (value_given gs p)

-- the values of diagrams, by those at their sources
abbrev pub readers_by : List Port → Found → Readers
readers_by ports f d name = option_and_then f (source_of ports d name)

abbrev pub known_in : FlatVi → Known → Readers
known_in vi m = readers_by vi.ports (found m)
