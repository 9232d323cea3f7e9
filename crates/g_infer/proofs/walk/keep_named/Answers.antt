use Rattle.std.proofs.Common.{ap, sym, ◌∙◌}
use Rattle.std.specs.Str.{bytes_eq}
use Rattle.std.proofs.lemmas.Map.Text.{btree_map_updates_str}
use Rattle.g_rules_types.specs.Panels.{found}
use Rattle.g_infer.specs.Walking.{put}
use Rattle.g_infer.proofs.WalkLemmas.{inserted}
use Rattle.g_infer.proofs.walk.keep_named.Goals as goal

pub returns-in_ok-insert-in-Some : goal.returns-in_ok-insert-in-Some
returns-in_ok-insert-in-Some c = λ n.
    btree_map_updates_str c.args.given.name.now c.args.scope.now c.insert.new.self _ c.in_ok-insert-in-Some.ensures.updates n
    ∙ inserted (bytes_eq c.args.given.name.now n) c.in-Some.ty (found c.args.scope.now n)
    ∙ ap (λ t. put (bytes_eq c.args.given.name.now n) t (found c.args.scope.now n)) (sym c.in-Some.is)
