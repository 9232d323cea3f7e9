use Rattle.std.proofs.Common.{List, ◌++◌, map, ap, ◌∙◌}
use Rattle.std.specs.Prelude.{None}
use Rattle.std.specs.Str.{bytes_eq}
use Rattle.g_typing.proofs.Roles.{nothing}
use Rattle.g_typing.specs.Typing.{Given, lines_inside}
use Rattle.g_infer.specs.declared.giving.Given as given
use Rattle.g_infer.specs.Feeding.{gives_name}
use Rattle.g_infer.specs.Given.{seen_given}
use Rattle.g_rules_types.specs.Known.{types_of}
use Rattle.g_infer.proofs.GivenNames.{all_inside}
use Rattle.g_infer.proofs.feeds.branch_names.Goals as goal

pub returns : goal.returns
returns c = λ name.
    c.in_ok-names.ensures name
    ∙ ap (λ (gs : List given.Given). gives_name (map seen_given gs) name) c.as_slice.ensures.value
    ∙ ap (λ (gs : List Given). gives_name gs name)
    (c.in_ok-push_inside.ensures ∙ ap (λ (gs : List given.Given). map seen_given gs ++ lines_inside (types_of c.new-types.result) c.args.outer 0 None c.args.lines.now) c.new-givens.ensures.items)
    ∙ all_inside (λ d n. bytes_eq n name) (types_of c.new-types.result) nothing c.args.outer 0 None c.args.lines.now
