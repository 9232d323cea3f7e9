-- What sources and sinks in memory have left, hold and do next.
use Rattle.std.specs.Prelude.{ℕ, ◌≡◌, ◌+◌, ◌-◌, ◌^◌, ◌⊎◌, List, length, take, min, Option, Some, Contains, Result, IfOk}
use Rattle.g_io.specs.declared.memory_source.MemorySource.{MemorySource}
use Rattle.g_io.specs.declared.memory_source.NeverFailsSource.{NeverFailsSource}
use Rattle.g_io.specs.declared.memory_sink.MemorySink.{MemorySink}
use Rattle.g_io.specs.MadeWith.{MadeWith}

abbrev pub source_left : MemorySource → Option (List ℕ)
source_left s = Some s.rest

abbrev pub source_most : MemorySource → ℕ
source_most s = s.most

abbrev pub source_fails : MemorySource → List ℕ
source_fails s = s.fails

-- the number of the next call
abbrev pub source_calls : MemorySource → ℕ
source_calls s = s.calls

abbrev pub source_faults : MemorySource → ℕ
source_faults s = s.faults

-- the next read fails
abbrev pub IsReadFailing : MemorySource → Type 0
IsReadFailing s = Contains s.fails s.calls

-- one call later, which gave as many bytes as there are within its bound
pub record IsNextRead {E : Type 0} (old new : MemorySource) (result : Result ℕ E) (room : ℕ) : Type 0 where
  pub most : new.most ≡ old.most
  pub fails : new.fails ≡ old.fails
  pub calls : new.calls ≡ min (old.calls + 1) (2 ^ 64 - 1)
  pub count : IfOk result (λ n. n ≡ min (min room old.most) (length old.rest))

abbrev pub given_left : NeverFailsSource → Option (List ℕ)
given_left s = Some s.rest

abbrev pub sink_held : MemorySink → Option (List ℕ)
sink_held s = Some (take s.used s.room.items)

abbrev pub sink_made_with : MemorySink → Option MadeWith
sink_made_with s = Some (record { fails = s.fails; room = length s.room.items })

abbrev pub sink_most : MemorySink → ℕ
sink_most s = s.most

-- the number of the next call
abbrev pub sink_calls : MemorySink → ℕ
sink_calls s = s.calls

abbrev pub sink_faults : MemorySink → ℕ
sink_faults s = s.faults

-- the next write fails
abbrev pub IsWriteFailing : MemorySink → Type 0
IsWriteFailing s = Contains s.fails s.calls ⊎ (s.used ≡ length s.room.items)

-- one call later, which took as many bytes as there is room for within its bound
pub record IsNextWrite {E : Type 0} (old new : MemorySink) (result : Result ℕ E) (offered : ℕ) : Type 0 where
  pub most : new.most ≡ old.most
  pub calls : new.calls ≡ min (old.calls + 1) (2 ^ 64 - 1)
  pub count : IfOk result (λ n. n ≡ min (min offered old.most) (length old.room.items - old.used))
