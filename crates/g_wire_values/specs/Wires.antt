-- Inner: the values on the wires of a frame, through the numbers of their sources.
use Rattle.std.specs.Prelude.{ℕ, List, [], Option, slice_get}
use Rattle.std.specs.Option.{option_and_then, option_map_or}
use Rattle.g_values.specs.declared.value.Value.{Value}
use Rattle.g_border.specs.Readers.{Reader}
use Rattle.g_wire_values.specs.declared.wires.Wires.{Wires}
use Rattle.g_wire_values.specs.Names.{Numbers, named}

-- the value of the source of a number
abbrev pub in_slot : List (Option Value) → (number : ℕ) → Option Value
in_slot vs k = option_and_then (λ v. v) (slice_get vs k)

abbrev pub reader_by : Numbers → List (Option Value) → Reader
reader_by names vs name = option_and_then (in_slot vs) (named names name)

abbrev pub reader : Wires → Reader
reader w = reader_by (option_map_or (λ n. n.now) w.names []) w.values.now
