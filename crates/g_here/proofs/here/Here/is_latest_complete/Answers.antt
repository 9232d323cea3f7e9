use Rattle.std.proofs.Common.{rules, ◌∙◌, ap, sym, true}
use Rattle.std.specs.Option.{option_map_or}
use Rattle.g_frames.specs.Structures.{is_complete_at}
use Rattle.g_here.proofs.LatestLemmas.{latest_last}
use Rattle.g_here.proofs.here.Here.is_latest_complete.Goals as goal

pub returns : goal.returns
returns c h is = c.is_complete_at.ensures h is ∙ ap (λ o. option_map_or (is_complete_at h) o true) (sym (latest_last c.args.numbers.now _ (search rules)))
