use Rattle.std.proofs.Common.{◌≡◌, Bool, true, false, List, [], ◌∷◌, ◌++◌, map, ap, sym, ◌∙◌, subst}
use Rattle.std.specs.Prelude.{if◌then◌else◌, is_some}
use Rattle.std.proofs.lemmas.List.{append-nil, map-append}
use Rattle.std.proofs.lemmas.Map.Text.{btree_map_updates_str}
use Rattle.g_frames.specs.declared.program.QueueName.{QueueName}
use Rattle.g_frames.specs.Program.{has_queue}
use Rattle.g_vi_tables.proofs.KeyLemmas.{by_name}
use Rattle.g_program.specs.Queues.{HaveMet, seen_queue}
use Rattle.g_program.proofs.QueueLemmas.{met_more}
use Rattle.g_program.proofs.queues.add_line.Goals as goal

pub returns-then-contains_key-clause-queues : goal.returns-then-contains_key-clause-queues
returns-then-contains_key-clause-queues c =
    let qs : List QueueName = map seen_queue c.args.queues.now.items in
    let known : true ≡ has_queue qs c.args.line.name.now =
    sym c.if-contains_key.true ∙ c.contains_key.ensures ∙ ap (λ bs. is_some (by_name c.args.met.now bs)) c.as_slice-name.ensures ∙ c.requires c.args.line.name.now in
    sym (append-nil qs) ∙ ap (λ (b : Bool). qs ++ (if b then [] else seen_queue c.args.line ∷ [])) known

pub returns-clause-met : goal.returns-clause-met
returns-clause-met c =
    subst (HaveMet c.insert.new.self) (sym c.in_ok-push.ensures.items)
    (met_more c.args.met.now c.insert.new.self c.args.queues.now.items c.args.line c.as_slice-name.result.now c.len.result c.as_slice-name.ensures
    (btree_map_updates_str c.as_slice-name.result.now c.args.met.now c.insert.new.self _ c.in_ok-insert.ensures.updates) c.requires)

pub returns-clause-queues : goal.returns-clause-queues
returns-clause-queues c =
    let qs : List QueueName = map seen_queue c.args.queues.now.items in
    let known : false ≡ has_queue qs c.args.line.name.now =
    sym c.if-contains_key.false ∙ c.contains_key.ensures ∙ ap (λ bs. is_some (by_name c.args.met.now bs)) c.as_slice-name.ensures ∙ c.requires c.args.line.name.now in
    ap (map seen_queue) c.in_ok-push.ensures.items ∙ map-append seen_queue c.args.queues.now.items (c.args.line ∷ [])
    ∙ ap (λ (b : Bool). qs ++ (if b then [] else seen_queue c.args.line ∷ [])) known
