-- Data spaces and VIs in link order, and the system of each data space.
use Rattle.std.specs.Prelude.{ℕ, zero, suc, ◌≡◌, ◌⊎◌, ◌<◌, ◌==◌, Bool, true, false, ◌&&◌, List, [], ◌∷◌, ◌++◌, map, length, if◌then◌else◌, Option, Some, None, slice_get}
use Rattle.std.specs.List.{list_any}
use Rattle.g_diagram.specs.declared.hierarchy.Clones.{Clones}
use Rattle.g_diagram.specs.declared.hierarchy.Clones.TheVariants.{NonReentrant, Preallocated, Pool}
use Rattle.g_diagram.specs.declared.hierarchy.System.{System}
use Rattle.g_diagram.specs.declared.hierarchy.System.TheVariants.{Same, Standard}
use Rattle.g_hier.specs.declared.linked.CallLine.{CallLine}
use Rattle.g_hier.specs.declared.linked.Caller.{Caller}
use Rattle.g_hier.specs.declared.linked.Linked.{Linked}
use Rattle.g_hier.specs.declared.linked.Outline.{Outline}
use Rattle.g_hier.specs.declared.linked.Placed.{Placed}
use Rattle.g_hier.specs.declared.linked.Space.{Space}
use Rattle.g_diagram.specs.Leads.{Leads}
use Rattle.g_hier.specs.Outlines.{calls, calls_at}

-- `same` is the system of the caller
abbrev pub system_for : (own caller : System) → System
system_for Same caller = caller
system_for own caller = own

-- clones of a pool, from one on
abbrev pub pool_spaces : (vi first n : ℕ) → List Space
pool_spaces vi first zero = []
pool_spaces vi first (suc n) = record { vi = vi; clone = first; caller = None } ∷ pool_spaces vi (suc first) n

-- the data spaces that a call can enter, clone by clone
abbrev pub enterable : Clones → (vi : ℕ) → Caller → List Space
enterable NonReentrant vi caller = record { vi = vi; clone = 0; caller = None } ∷ []
enterable Preallocated vi caller = record { vi = vi; clone = 0; caller = Some caller } ∷ []
enterable (Pool n) vi caller = pool_spaces vi 0 n

-- there is one: a pool has at least one clone
abbrev pub HasSpaces : Clones → Type 0
HasSpaces (Pool n) = 0 < n
HasSpaces other = Unit {0}

-- whether there is one
abbrev pub is_enterable : Clones → Bool
is_enterable NonReentrant = true
is_enterable Preallocated = true
is_enterable (Pool zero) = false
is_enterable (Pool (suc n)) = true

abbrev pub is_enterable_in : Option Outline → Bool
is_enterable_in None = false
is_enterable_in (Some o) = is_enterable o.clones

-- whether a call line of VI u can enter a data space of VI v
abbrev pub enters : List Outline → (u v : ℕ) → Bool
enters os u v = calls os u v && is_enterable_in (slice_get os v)

-- VI a is VI b, or calls that can enter data spaces lead from a to b
abbrev pub EntersFrom : List Outline → (a b : ℕ) → Type 0
EntersFrom os a b = (a ≡ b) ⊎ Leads (enters os) a b

-- with their system, where the caller has a system
abbrev pub placed_by : Option Outline → (vi : ℕ) → Caller → (system : System) → List Placed
placed_by None vi caller system = []
placed_by (Some o) vi caller system = map (λ s. record { space = s; system = system_for o.system system }) (enterable o.clones vi caller)

-- the data spaces that the call lines of a data space can enter, line by line. The data space is named by its place in link order
abbrev pub entered_by : List Outline → (space : ℕ) → (system : System) → List CallLine → List Placed
entered_by os space system [] = []
entered_by os space system (c ∷ cs) = placed_by (slice_get os c.vi) c.vi (record { space = space; line = c.line }) system ++ entered_by os space system cs

abbrev pub same_caller : (a b : Option Caller) → Bool
same_caller None None = true
same_caller None (Some b) = false
same_caller (Some a) None = false
same_caller (Some a) (Some b) = (a.space == b.space) && (a.line == b.line)

abbrev pub same_space : (a b : Space) → Bool
same_space a b = (a.vi == b.vi) && ((a.clone == b.clone) && same_caller a.caller b.caller)

-- whether a data space was met
abbrev pub has_met : List Placed → Space → Bool
has_met met s = list_any (λ p. same_space p.space s) met

-- Some data spaces are met, then others are entered in turn, and after that these are met, in order.
pub data Enters (os : List Outline) : (met spaces after : List Placed) → Type 0 where
  -- no other is left
  finished : {met : List Placed} → Enters os met [] met
  -- the next was met: it isn't entered again
  passed : {met spaces after : List Placed} {next : Placed} → has_met met next.space ≡ true → Enters os met spaces after → Enters os met (next ∷ spaces) after
  -- the next wasn't met: it is met now, and before the others those are entered that its call lines can enter, line by line and clone by clone
  entered : {met within spaces after : List Placed} {next : Placed} → has_met met next.space ≡ false
      → Enters os (met ++ next ∷ []) (entered_by os (length met) next.system (calls_at os next.space.vi)) within
      → Enters os within spaces after → Enters os met (next ∷ spaces) after

-- MAIN's `same` is standard
abbrev pub main_placed : Option Outline → (main : ℕ) → List Placed
main_placed None main = []
main_placed (Some o) main = record { space = record { vi = main; clone = 0; caller = None }; system = system_for o.system Standard } ∷ []

-- the data spaces that are met where MAIN's is entered
abbrev pub AreInLinkOrder : List Outline → (main : ℕ) → List Placed → Type 0
AreInLinkOrder os main met = Enters os [] (main_placed (slice_get os main) main) met

abbrev pub has_vi : List ℕ → ℕ → Bool
has_vi order v = list_any (λ n. n == v) order

abbrev pub with_vi : List ℕ → ℕ → List ℕ
with_vi order v = if has_vi order v then order else order ++ v ∷ []

-- the VIs of data spaces, each where it is first met, after others
abbrev pub vis_after : List ℕ → List Placed → List ℕ
vis_after order [] = order
vis_after order (p ∷ ps) = vis_after (with_vi order p.space.vi) ps

-- what is linked
pub record IsLinked (os : List Outline) (main : ℕ) (l : Linked) : Type 0 where
  pub met : List Placed
  pub in_order : AreInLinkOrder os main met
  -- there is one order
  pub only : (others : List Placed) → AreInLinkOrder os main others → others ≡ met
  pub main_is : l.main ≡ main
  pub order_is : l.order ≡ vis_after [] met
  pub spaces_are : l.spaces ≡ map (λ p. p.space) met
  pub systems_are : l.systems ≡ map (λ p. p.system) met
