use Rattle.std.proofs.Common.{sym, ◌∙◌}
use Rattle.std.proofs.lemmas.List.{drop_all}
use Rattle.g_tokens.proofs.TextEnds.{closes_at, refused_at, means_at, begins_at, none_left}
use Rattle.g_tokens.proofs.texts.text_at.Goals as goal
use Rattle.g_tokens.proofs.texts.text_at.Goals.{in-Means+in_ok-push-in-Means, in-Begins}

pub returns-in-Close : goal.returns-in-Close
returns-in-Close c = closes_at c.args.bytes.now c.loop-i.meaning c.loop-i.i c.loop-i.escape _ c.loop-i-test.true c.loop-i.invariant c.in-Close.ensures

pub returns-in-Refused : goal.returns-in-Refused
returns-in-Refused c = refused_at c.args.bytes.now c.loop-i.meaning c.loop-i.i c.loop-i.escape _ c.loop-i-test.true c.loop-i.invariant c.in-Refused.ensures

pub loop-i-preserved : goal.loop-i-preserved
loop-i-preserved c = elim c.match-in_text.branch [
  | in-Means+in_ok-push-in-Means w ↦ rw (w.meaning-is, w.escape-is, w.in_ok-push-in-Means.ensures.ok)
      (means_at c.args.bytes.now c.loop-i.meaning c.loop-i.i c.loop-i.escape _ c.loop-i-test.true c.loop-i.invariant w.in-Means.byte w.in-Means.ensures)
  | in-Begins w ↦ rw (w.meaning-is, w.escape-is) (begins_at c.args.bytes.now c.loop-i.meaning c.loop-i.i c.loop-i.escape _ c.loop-i-test.true c.loop-i.invariant w.in-Begins.next w.in-Begins.ensures)
]

pub returns : goal.returns
returns c = sym (none_left c.loop-i.meaning c.loop-i.i c.loop-i.escape _ (drop_all c.loop-i.i c.args.bytes.now c.loop-i-test.false)) ∙ c.loop-i.invariant
