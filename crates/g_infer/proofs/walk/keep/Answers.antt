use Rattle.std.proofs.Common.{ap, sym, ◌∙◌}
use Rattle.g_infer.specs.Given.{seen_given}
use Rattle.g_rules_types.specs.Known.{types_of}
use Rattle.g_infer.specs.Walking.{is_to, put}
use Rattle.g_infer.proofs.WalkLemmas.{inserted}
use Rattle.g_infer.proofs.walk.keep.Goals as goal

pub returns-in_ok-insert-in-Some-clause-types : goal.returns-in_ok-insert-in-Some-clause-types
returns-in_ok-insert-in-Some-clause-types c = λ d n.
    c.in_ok-insert-in-Some.ensures.types d n ∙ inserted (is_to (seen_given c.args.given) d n) c.in-Some.ty (types_of c.args.types.now d n)
    ∙ ap (λ t. put (is_to (seen_given c.args.given) d n) t (types_of c.args.types.now d n)) (sym c.in-Some.is)
