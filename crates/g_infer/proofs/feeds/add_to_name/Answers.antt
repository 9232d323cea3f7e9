use Rattle.std.proofs.Common.{ℕ, ◌==◌, ◌||◌, cond, List, ap, ◌∙◌}
use Rattle.std.specs.Prelude.{Option, Some, Vec}
use Rattle.std.specs.declared.alloc.Global.{Global}
use Rattle.g_graph.specs.Graph.{has, row_of}
use Rattle.g_graph.proofs.Search.{has_push}
use Rattle.g_rules_types.proofs.Kept.{is_key}
use Rattle.g_infer.specs.Feeding.{ByName}
use Rattle.g_infer.proofs.FeedLemmas.{kept_for, put_back, reader_added}
use Rattle.g_infer.proofs.feeds.add_to_name.Goals as goal

pub returns : goal.returns
returns c =
    let old : ByName = c.args.readers.now in
    let d : ℕ = c.args.read.diagram in
    let name : List ℕ = c.args.read.name.now in
    let v : Vec ℕ Global = c.push.new.self in
    reader_added old c.insert.new.self d name v c.args.step
    (λ e other.
    c.in_ok-insert.ensures.updates.0 (e, record { ref_ptr = (0, 0); now = other })
    ∙ ap (λ (o : Option (Vec ℕ Global)). cond (is_key d name e other) (Some v) o) (c.remove.ensures.updates.0 (e, record { ref_ptr = (0, 0); now = other }))
    ∙ put_back (is_key d name e other) v (kept_for old e other))
    (λ b.
    has_push v.items c.row_or_none-row.result.items c.args.step b c.in_ok-push.ensures.items
    ∙ ap (λ (xs : List ℕ). has xs b || (c.args.step == b)) (c.row_or_none-row.ensures ∙ ap row_of c.remove.ensures.value))
