use Rattle.std.proofs.Common.{◌≡◌, ◌++◌, drop}
use Rattle.grun.specs.Texts.{breaks_text}
use Rattle.grun.proofs.texts.breaks_text.Given as goal

abbrev pub invariant-loop-broken : goal.invariant-loop-broken
invariant-loop-broken l = l.out.items ++ breaks_text l.names.main.now l.names.vis.now (drop l.broken-index l.breaks) ≡ breaks_text l.names.main.now l.names.vis.now l.breaks
