use Rattle.std.proofs.Common.{◌≡◌, [], ◌∷◌, subst}
use Rattle.std.specs.List.{All}
use Rattle.std.proofs.lemmas.Result.{IfOk-weaker}
use Rattle.g_values.specs.Proper.{IsProper}
use Rattle.g_prims_definitions.specs.Values.{outputs_of}
use Rattle.g_arrays.specs.Acting.{placed}
use Rattle.g_arrays.proofs.ActLemmas.{proper-placed, proper-value}
use Rattle.g_arrays.proofs.act.act_on.Goals as goal

pub returns-clause-proper : goal.returns-clause-proper
returns-clause-proper c =
    let vs = placed c.args.at c.args.kept c.args.others.now in
    let all : All IsProper vs = proper-placed c.args.at c.args.kept c.args.others.now c.requires.proper (subst (All IsProper) c.as_slice-others.ensures.value c.as_slice-others.ensures.proper) in
    IfOk-weaker c.acted.result (λ v. outputs_of c.args.primitive.now vs ≡ v ∷ []) IsProper (λ v is. proper-value c.args.primitive.now c.args.at vs v all c.requires.acts is) c.acted.ensures.value
