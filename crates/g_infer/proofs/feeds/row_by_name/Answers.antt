use Rattle.std.proofs.Common.{ℕ, ◌||◌, List, ◌++◌, map, ap, ◌∙◌}
use Rattle.g_graph.specs.Graph.{has}
use Rattle.g_typing.proofs.Roles.{nothing}
use Rattle.g_typing.specs.Typing.{Given}
use Rattle.g_infer.specs.declared.giving.Given as given
use Rattle.g_infer.specs.Feeding.{is_reader, leads_to}
use Rattle.g_infer.specs.Gives.{form_gives}
use Rattle.g_infer.specs.Given.{seen_given}
use Rattle.g_rules_types.specs.Known.{types_of}
use Rattle.g_rules_types.specs.Panels.{callees_in, objects_in}
use Rattle.g_infer.specs.Steps.{seen_step}
use Rattle.g_infer.proofs.GivenNames.{form_test}
use Rattle.g_infer.proofs.feeds.row_by_name.Goals as goal

pub returns : goal.returns
returns c = λ called objects b.
    c.in_ok-push_readers.ensures b
    ∙ ap (λ (xs : List ℕ). has xs b || leads_to c.args.readers.now.by_name (map seen_given c.as_slice.result.now) b) c.new-row.ensures.items
    ∙ ap (λ (gs : List given.Given). leads_to c.args.readers.now.by_name (map seen_given gs) b) c.as_slice.ensures.value
    ∙ ap (λ (gs : List Given). leads_to c.args.readers.now.by_name gs b)
    (c.in_ok-push_gives.ensures
    ∙ ap (λ (gs : List given.Given). map seen_given gs ++ form_gives (callees_in c.new-panels.result) (objects_in c.new-objects.result) (types_of c.new-types.result) (seen_step c.args.step)) c.new-givens.ensures.items)
    ∙ form_test (λ d name. is_reader c.args.readers.now.by_name d name b) (callees_in c.new-panels.result) called (objects_in c.new-objects.result) objects (types_of c.new-types.result) nothing (seen_step c.args.step)
