use Rattle.std.proofs.Common.{ℕ, cond, List, ◌++◌, ◌∷◌, [], ap, ◌∙◌}
use Rattle.std.specs.Prelude.{Option, Some, Vec}
use Rattle.std.specs.Ordering.{nat_cmp, is_eq}
use Rattle.std.specs.declared.alloc.Global.{Global}
use Rattle.g_infer.specs.declared.feeds.Reader.{Reader}
use Rattle.g_infer.specs.Feeding.{readers_of}
use Rattle.g_infer.proofs.FeedLemmas.{reader_in_added}
use Rattle.g_infer.proofs.feeds.add_to_diagram.Goals as goal

pub returns : goal.returns
returns c =
    let d : ℕ = c.args.read.diagram in
    let r : Reader = record { name = c.args.read.name; step = c.args.step } in
    let v : Vec Reader Global = c.push.new.self in
    reader_in_added c.args.readers.now c.insert.new.self d r v
    (λ e. ap readers_of (c.in_ok-insert.ensures.updates.0 e ∙ ap (λ (o : Option (Vec Reader Global)). cond (is_eq (nat_cmp d e)) (Some v) o) (c.remove.ensures.updates.0 e)))
    (c.in_ok-push.ensures.items ∙ ap (λ (rs : List Reader). rs ++ r ∷ []) (c.readers_or_none-row.ensures ∙ ap readers_of c.remove.ensures.value))
