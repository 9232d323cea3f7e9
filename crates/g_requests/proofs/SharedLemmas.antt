-- Operations by the reference that an input is.
use Rattle.std.proofs.Common.{◌≡◌, ap, ◌∙◌, map}
use Rattle.std.specs.Prelude.{Option}
use Rattle.g_values.specs.declared.value.Value.{Value, out-Value}
use Rattle.g_operations.specs.declared.shared.SharedOp.{SharedOp}
use Rattle.g_diagram.specs.Lines.{Entry, Wire}
use Rattle.g_border.specs.Readers.{Reader, value_on}
use Rattle.g_frames.specs.Operations.{input_at}
use Rattle.g_effects.specs.declared.plan.Plan.{Plan}
use Rattle.g_effects.specs.Requests.{by_reference}
use Rattle.std.specs.Prelude.{List}

pub by_inputs : (e : Entry) (o : SharedOp) (r s : Reader) (inputs : List Wire) (first second : Value) (plan : Option Plan) →
    r ≡ s → first ≡ input_at (map (value_on r) inputs) 0 → second ≡ input_at (map (value_on r) inputs) 1 → plan ≡ by_reference e o second (out-Value first) →
    plan ≡ by_reference e o (input_at (map (value_on s) inputs) 1) (out-Value (input_at (map (value_on s) inputs) 0))
by_inputs e o r s inputs first second plan same f g is =
    is ∙ (ap (λ v. by_reference e o v (out-Value first)) g
    ∙ (ap (λ v. by_reference e o (input_at (map (value_on r) inputs) 1) (out-Value v)) f
    ∙ ap (λ x. by_reference e o (input_at (map (value_on x) inputs) 1) (out-Value (input_at (map (value_on x) inputs) 0))) same))
