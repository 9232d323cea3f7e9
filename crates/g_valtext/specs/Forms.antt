-- How the values of a type are written.
use Rattle.std.specs.Prelude.{List, [], ◌∷◌, map, Option, Some, None}
use Rattle.g_types.specs.declared.rep.Rep.{Rep}
use Rattle.g_types.specs.declared.ty.Ty.{Ty, out-Ty}
use Rattle.g_types.specs.declared.ty.Ty.TheOpen.{Ty-F}
use Rattle.g_types.specs.declared.ty.Ty.TheFolds.{para-Ty}
use Rattle.g_values.specs.declared.value.Value.{Value}
use Rattle.g_values.specs.declared.value.Value.TheVariants as value

mutual
  pub data Form : Type 0 where
    Number : Rep → Form
    Truth : Form
    Text : Form
    -- an array of numbers
    Numbers : Rep → Form
    -- an array of elements of a type that is no number type, and their form
    Items : Ty → Form → Form
    -- a cluster, by the forms of its parts
    Parts : Forms → Form
    -- a reference, of which only the null reference is written
    Null : Value → Form

  pub data Forms : Type 0 where
    none : Forms
    also : Form → Forms → Forms

abbrev pub forms_of : List Form → Forms
forms_of [] = none
forms_of (f ∷ fs) = also f (forms_of fs)

abbrev pub rep_of : Ty-F Ty → Option Rep
rep_of (Ty-F.Num r) = Some r
rep_of _ = None

abbrev pub items_of : Option Rep → Ty → Form → Form
items_of (Some r) t f = Numbers r
items_of None t f = Items t f

abbrev pub form_step : Ty-F (Ty × Form) → Form
form_step (Ty-F.Num r) = Number r
form_step Ty-F.Bool = Truth
form_step Ty-F.Str = Text
form_step (Ty-F.Arr p) = items_of (rep_of (out-Ty p.0)) p.0 p.1
form_step (Ty-F.Cluster ps) = Parts (forms_of (map (λ p. p.1) ps))
form_step (Ty-F.QueueRef p) = Null (value.Queue (record { elem = p.0; at = None }))
form_step (Ty-F.ValueRef p) = Null (value.Cell (record { elem = p.0; at = None }))

abbrev pub form : Ty → Form
form = para-Ty Form form_step
