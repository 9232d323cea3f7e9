use Rattle.g_infer.proofs.infer.infer.Goals as goal

pub answer-requires-clause-turns : goal.answer-requires-clause-turns
answer-requires-clause-turns c = c.typable_laws.ensures.turns c.args.h.now c.args._main.now c.requires.wired

pub answer-requires-clause-typable : goal.answer-requires-clause-typable
answer-requires-clause-typable c = c.typable_laws.ensures.typable c.args.h.now c.args._main.now c.requires.wired
