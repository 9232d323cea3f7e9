-- Inner: the `obtain` lines of VIs, and what was met of them.
use Rattle.std.specs.Prelude.{ℕ, ◌≡◌, suc, Bool, List, [], ◌∷◌, ◌++◌, map, if◌then◌else◌, is_some}
use Rattle.std.specs.Ordering.{nat_cmp}
use Rattle.std.specs.Cmp.Lexicographic.{slice_cmp}
use Rattle.std.specs.BTreeMap.{BTreeMap, get_by}
use Rattle.std.specs.BTreeSet.{BTreeSet, contains}
use denote.Ref.{Bor}
use Rattle.g_frames.specs.declared.program.QueueName.{QueueName}
use Rattle.g_frames.specs.Program.{FlatVi, all_on, has_queue, queue_on}
use Rattle.g_program.specs.declared.queues.ObtainLine.{ObtainLine}

abbrev pub seen_queue : ObtainLine → QueueName
seen_queue o = record { name = o.name.now; size = o.size; item = o.item.now }

abbrev pub is_in : BTreeSet ℕ → (vi : ℕ) → Bool
is_in s v = contains nat_cmp s v

-- in listing order, of the VIs that a test finds by their numbers
abbrev pub obtained : (test : ℕ → Bool) → (vi : ℕ) → List FlatVi → List QueueName
obtained test v [] = []
obtained test v (vi ∷ vis) = (if test v then all_on (λ e. queue_on e.kind) vi.entries else []) ++ obtained test (suc v) vis

-- the names of some lines were met
abbrev pub HaveMet : BTreeMap (Bor (List ℕ)) ℕ → List ObtainLine → Type 0
HaveMet met lines = (name : List ℕ) → is_some (get_by (λ k. slice_cmp nat_cmp name k.now) met) ≡ has_queue (map seen_queue lines) name
