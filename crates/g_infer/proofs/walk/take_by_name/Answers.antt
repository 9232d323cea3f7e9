use Rattle.std.proofs.Common.{◌++◌, List, map, ap, ◌∙◌}
use Rattle.g_typing.specs.Typing.{Given}
use Rattle.g_infer.specs.declared.giving.Given as given
use Rattle.g_infer.specs.Given.{seen_given}
use Rattle.g_infer.specs.Gives.{form_gives}
use Rattle.g_infer.specs.Steps.{seen_step}
use Rattle.g_infer.specs.Walking.{known_after}
use Rattle.g_rules_types.specs.Known.{types_of}
use Rattle.g_rules_types.specs.Panels.{callees_in, objects_in}
use Rattle.g_infer.proofs.WalkLemmas.{adds_fresh}
use Rattle.g_infer.proofs.walk.take_by_name.Goals as goal

pub returns-clause-adds : goal.returns-clause-adds
returns-clause-adds c =
    let gives : List Given = form_gives (callees_in c.args.panels.now) (objects_in c.args.objects.now) (types_of c.args.types.now) (seen_step c.args.step) in
    adds_fresh gives (types_of c.args.types.now) (types_of c.keep_all.new.types) c.requires.fresh
    (λ d n. c.in_ok-keep_all.ensures.types d n
    ∙ ap (λ (gs : List Given). known_after gs d n (types_of c.args.types.now d n))
    (c.in_ok-push_gives.ensures ∙ ap (λ (gs : List given.Given). map seen_given gs ++ gives) c.new-givens.ensures.items))
