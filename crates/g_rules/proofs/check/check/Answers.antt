use Rattle.std.proofs.Common.{sym, ◌∙◌, true≢false}
use Rattle.g_rules.proofs.Breaking.{wires_alone, not_empty}
use Rattle.g_rules.proofs.check.check.Goals as goal

pub returns : goal.returns
returns c =
    wires_alone c.args.h.now c.args.main.now c.in_ok-breaks.breaks c.in_ok-breaks.ensures
    (not_empty c.in_ok-breaks.breaks (λ none. true≢false (sym (c.is_empty.ensures.1 none) ∙ c.if-is_empty.false)))
