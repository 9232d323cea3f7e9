use Rattle.std.proofs.Common.{rules}
use Rattle.std.proofs.lemmas.Cmp.{nat_list_cmp_total}
use Rattle.std.proofs.lemmas.List.Sorted.{ranks_by, answers_always}
use Rattle.g_prims_definitions.specs.Strings.{text}
use Rattle.g_prims_edits.proofs.SortTexts.{below, sorted_strings}
use Rattle.g_prims_edits.proofs.sorting.sort_texts.Goals as goal

pub returns : goal.returns
returns c =
    sorted_strings _ _ c.requires c.sort_unstable_by.ensures.permutation
    (c.sort_unstable_by.ensures.sorted (λ v w. below (text v) (text w)) (ranks_by nat_list_cmp_total text) (answers_always _ _ _ (λ f a r g h. search rules)))
