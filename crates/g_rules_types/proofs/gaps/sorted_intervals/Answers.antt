use Rattle.std.proofs.Common.{sym, ◌∙◌}
use Rattle.std.proofs.lemmas.List.Sorted.{list_any-IsPermutation}
use Rattle.g_rules_types.specs.Gaps.{has}
use Rattle.g_rules_types.proofs.gaps.sorted_intervals.Goals as goal

pub returns-clause-same : goal.returns-clause-same
returns-clause-same c n = sym (list_any-IsPermutation (has n) c.in_ok-intervals.intervals.items c.sort.new.self.items c.sort.ensures.permutation) ∙ c.in_ok-intervals.ensures n
