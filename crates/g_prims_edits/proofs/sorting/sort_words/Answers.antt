use Rattle.std.proofs.Common.{◌∙◌, ap, subst, map, arith}
use Rattle.std.specs.List.Sorted.{IsPermutation}
use Rattle.g_values.specs.Numbers.{number}
use Rattle.g_prims_edits.specs.Words.{key}
use Rattle.g_prims_edits.proofs.SortNumbers.{sorted_words}
use Rattle.g_prims_edits.proofs.ArrayLemmas.{are_words-same}
use Rattle.g_prims_edits.proofs.sorting.sort_words.Goals as goal

pub returns : goal.returns
returns c =
    let r = c.args.rep in
    let ws = c.args.words.now.items in
    let ks = c.sort_unstable.new.self.items in
    let p = subst (λ l. IsPermutation l ks) c.to_keys.ensures c.sort_unstable.ensures.permutation in
    let s = sorted_words r ws ks c.requires p (record { step = λ k d lt. c.sort_unstable.ensures.sorted k d (omega arith) lt }) in
    record {
      words = are_words-same r c.to_keys-2.new.words.items (map (key r) ks) c.to_keys-2.ensures s.0;
      numbers = ap (map (number r)) c.to_keys-2.ensures ∙ s.1;
    }
