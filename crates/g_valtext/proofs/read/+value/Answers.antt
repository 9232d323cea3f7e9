use Rattle.std.proofs.Common.{◌<◌, List, [], ◌∷◌, ◌++◌, length, map, drop, ap, sym, ◌∙◌, subst, rules}
use Rattle.std.specs.Prelude.{Ok}
use Rattle.g_grammar.specs.Grammar.{read}
use Rattle.g_grammar.specs.Reads.{Gives, Stops, with_front}
use Rattle.g_types.specs.declared.ty.Ty.{out-Ty}
use Rattle.g_types.specs.declared.ty.Ty.TheVariants as ty
use Rattle.g_values.specs.declared.value.Value.{Value}
use Rattle.g_values.specs.declared.value.Value.TheVariants as value
use Rattle.g_valtext.specs.Forms.{form, rep_of, Truth, Text}
use Rattle.g_valtext.specs.Spellings.{values, further, most_further, first_of, rest_of, part, parts_after}
use Rattle.g_valtext.proofs.Steps.{by_form, by_elements, form-Num, form-Bool, form-Str, form-Arr, form-Cluster, form-QueueRef, form-ValueRef, items_ok, items_stop, cluster_ok, cluster_stop, cluster_refused}
use Rattle.g_valtext.proofs.Turns.{further_more, further_last, further_stops, further_end, further_end_stops, array_closes, array_begins, array_stops, parts_begin, parts_begin_stops, types_more, types_stops, types_end, types_end_stops}
use Rattle.g_valtext.proofs.read.+value.Goals as goal

pub value-returns-in-Num : goal.value-returns-in-Num
value-returns-in-Num t c = by_form c.args.ty.now _ c.args.tokens.now c.number_value.result (ap form c.in-Num.is ∙ form-Num _) c.number_value.ensures

pub value-returns-in-Bool : goal.value-returns-in-Bool
value-returns-in-Bool t c = by_form c.args.ty.now Truth c.args.tokens.now c.truth_value.result (ap form c.in-Bool.is ∙ form-Bool) c.truth_value.ensures

pub value-returns-in-Str : goal.value-returns-in-Str
value-returns-in-Str t c = by_form c.args.ty.now Text c.args.tokens.now c.text_value.result (ap form c.in-Str.is ∙ form-Str) c.text_value.ensures

pub value-returns-in-Arr : goal.value-returns-in-Arr
value-returns-in-Arr t c = by_form c.args.ty.now _ c.args.tokens.now c.array.result (ap form (c.in-Arr.is ∙ ap ty.Arr (sym c.get.ensures)) ∙ form-Arr _) c.array.ensures

pub value-returns-in-Cluster : goal.value-returns-in-Cluster
value-returns-in-Cluster t c = by_form c.args.ty.now _ c.args.tokens.now c.cluster.result (ap form (c.in-Cluster.is ∙ ap ty.Cluster (sym c.as_slice.ensures)) ∙ form-Cluster _) c.cluster.ensures

pub value-returns-in-QueueRef : goal.value-returns-in-QueueRef
value-returns-in-QueueRef t c = by_form c.args.ty.now _ c.args.tokens.now c.null_queue.result (ap form (c.in-QueueRef.is ∙ ap ty.QueueRef (sym c.get-in-QueueRef.ensures)) ∙ form-QueueRef _) c.null_queue.ensures

pub value-returns-in-ValueRef : goal.value-returns-in-ValueRef
value-returns-in-ValueRef t c = by_form c.args.ty.now _ c.args.tokens.now c.null_cell.result (ap form (c.in-ValueRef.is ∙ ap ty.ValueRef (sym c.get-in-ValueRef.ensures)) ∙ form-ValueRef _) c.null_cell.ensures

pub array-returns-in-Some : goal.array-returns-in-Some
array-returns-in-Some t c =
    let elem = c.args.elem.now in
    by_elements _ (rep_of (out-Ty elem)) elem (form elem) c.args.tokens.now c.numbers_value.result (sym c.in-Some.is ∙ c.rep_of.ensures) c.numbers_value.ensures

pub array-returns-in-None : goal.array-returns-in-None
array-returns-in-None t c =
    let elem = c.args.elem.now in
    by_elements _ (rep_of (out-Ty elem)) elem (form elem) c.args.tokens.now c.items_value.result (sym c.in-None.is ∙ c.rep_of.ensures) c.items_value.ensures

pub items_value-returns-in-Err-items : goal.items_value-returns-in-Err-items
items_value-returns-in-Err-items t c = items_stop c.args.elem.now (form c.args.elem.now) c.args.tokens.now c.in-Ok.rest.now c.in-Err-items.stop c.in-Ok.ensures c.in-Err-items.ensures

pub items_value-returns-in_ok-elem-in-Ok-items : goal.items_value-returns-in_ok-elem-in-Ok-items
items_value-returns-in_ok-elem-in-Ok-items t c =
    items_ok c.args.elem.now (form c.args.elem.now) c.args.tokens.now c.in-Ok.rest.now c.in-Ok-items.rest.now c.in-Ok-items.items c.in-Ok.ensures c.in-Ok-items.ensures
    ∙ ap (λ e. Ok (value.Arr (record { elem = e; items = c.in-Ok-items.items }), c.in-Ok-items.rest.now)) (sym c.in_ok-elem-in-Ok-items.ensures)

pub items-returns-in-Some : goal.items-returns-in-Some
items-returns-in-Some t c =
    let f = form c.args.elem.now in
    array_closes (first_of f) (rest_of f) c.args.tokens.now c.in-Some.rest.now c.in-Some.ensures ∙ ap (λ (l : List Value). Ok (l, c.in-Some.rest.now)) (sym c.new-items.ensures)

pub items-returns-in-Err : goal.items-returns-in-Err
items-returns-in-Err t c =
    let f = form c.args.elem.now in
    array_stops (first_of f) (rest_of f) c.in-Err.stop c.args.tokens.now c.in_default.ensures c.in-Err.ensures

pub items-returns : goal.items-returns
items-returns t c =
    let f = form c.args.elem.now in
    let item = c.in-Ok.found.0 in
    let mid = c.in-Ok.found.1.now in
    let pushed = c.in_ok-push.ensures ∙ ap (λ (l : List Value). l ++ item ∷ []) c.new-items.ensures in
    let e = ap (λ (l : List Value). with_front l (read (further (values c.args.elem.now) most_further) mid)) pushed
    ∙ sym (array_begins (first_of f) (rest_of f) c.args.tokens.now mid item c.in_default.ensures c.in-Ok.ensures) in
    subst (λ r. Gives c.further_items.result r) e c.further_items.ensures

pub further_items-returns-in-Err : goal.further_items-returns-in-Err
further_items-returns-in-Err t c =
    further_stops (values c.args.elem.now) c.loop.items most_further c.loop.counter c.loop.rest.now _ c.in-Err.stop c.loop-test.true c.in-Err.ensures c.loop.invariant

pub further_items-returns-in_default : goal.further_items-returns-in_default
further_items-returns-in_default t c =
    let e = rw c.in_default.is at c.in-Ok.ensures in
    further_last (values c.args.elem.now) c.loop.items most_further c.loop.counter c.loop.rest.now _ c.in-Ok.found.1.now c.loop-test.true e c.loop.invariant

pub further_items-loop-preserved : goal.further_items-loop-preserved
further_items-loop-preserved t c =
    let e = rw c.in-Some.is at c.in-Ok.ensures in
    rw c.in_ok-push.ensures (further_more (values c.args.elem.now) c.loop.items most_further c.loop.counter c.loop.rest.now _ c.in-Ok.found.1.now c.in-Some.item c.loop-test.true e c.loop.invariant)

pub further_items-returns-in-Ok-close_bracket : goal.further_items-returns-in-Ok-close_bracket
further_items-returns-in-Ok-close_bracket t c =
    further_end (values c.args.elem.now) c.loop.items most_further c.loop.counter c.loop.rest.now _ c.in-Ok-close_bracket.rest.now c.loop-test.false c.in-Ok-close_bracket.ensures c.loop.invariant

pub further_items-returns : goal.further_items-returns
further_items-returns t c =
    further_end_stops (values c.args.elem.now) c.loop.items most_further c.loop.counter c.loop.rest.now _ c.in-Err-close_bracket.stop c.loop-test.false c.in-Err-close_bracket.ensures c.loop.invariant

pub cluster-returns-in-Err : goal.cluster-returns-in-Err
cluster-returns-in-Err t c = cluster_refused c.args.types.now c.args.tokens.now c.in-Err.stop c.in-Err.ensures

pub cluster-returns-in-Ok-parts : goal.cluster-returns-in-Ok-parts
cluster-returns-in-Ok-parts t c = cluster_ok c.args.types.now c.args.tokens.now c.in-Ok.rest.now c.in-Ok-parts.rest.now c.in-Ok-parts.items c.in-Ok.ensures c.in-Ok-parts.ensures

pub cluster-returns-in-Err-parts : goal.cluster-returns-in-Err-parts
cluster-returns-in-Err-parts t c = cluster_stop c.args.types.now c.args.tokens.now c.in-Ok.rest.now c.in-Err-parts.stop c.in-Ok.ensures c.in-Err-parts.ensures

pub parts-returns-in-Err : goal.parts-returns-in-Err
parts-returns-in-Err t c =
    let first = c.index-types-0.result in
    let some : 0 < length c.args.types.now = search rules in
    parts_begin_stops c.args.types.now first c.args.tokens.now c.in-Err.stop some (subst (λ t. Stops c.in-Err.stop (read (values t) c.args.tokens.now)) c.index-types-0.is c.in-Err.ensures)

pub parts-loop-i-init : goal.parts-loop-i-init
parts-loop-i-init t c =
    let first = c.index-types-0.result in
    let some : 0 < length c.args.types.now = search rules in
    let item = c.in-Ok.found.0 in
    let mid = c.in-Ok.found.1.now in
    let e = ap (λ t. read (values t) c.args.tokens.now) (sym c.index-types-0.is) ∙ c.in-Ok.ensures in
    let pushed = c.in_ok-push.ensures ∙ ap (λ (l : List Value). l ++ item ∷ []) c.new-items.ensures in
    ap (λ (l : List Value). with_front l (read (parts_after (map values (drop 1 c.args.types.now))) mid)) pushed
    ∙ parts_begin c.args.types.now first c.args.tokens.now mid item some e

pub parts-returns-in-Err-next_part : goal.parts-returns-in-Err-next_part
parts-returns-in-Err-next_part t c =
    let stop = c.in-Err-next_part.stop in
    types_stops c.args.types.now c.loop-i.i c.index-types-i.result c.loop-i.items c.loop-i.rest.now _ stop c.loop-i-test.true
    (subst (λ t. Stops stop (read (part (values t)) c.loop-i.rest.now)) c.index-types-i.is c.in-Err-next_part.ensures) c.loop-i.invariant

pub parts-loop-i-preserved : goal.parts-loop-i-preserved
parts-loop-i-preserved t c =
    let e = ap (λ t. read (part (values t)) c.loop-i.rest.now) (sym c.index-types-i.is) ∙ c.in-Ok-next_part.ensures in
    rw c.in_ok-push-2.ensures (types_more c.args.types.now c.loop-i.i c.index-types-i.result c.loop-i.items c.loop-i.rest.now _ c.in-Ok-next_part.found.1.now c.in-Ok-next_part.found.0 c.loop-i-test.true e c.loop-i.invariant)

pub parts-returns-in-Ok-close_brace : goal.parts-returns-in-Ok-close_brace
parts-returns-in-Ok-close_brace t c =
    types_end c.args.types.now c.loop-i.i c.index-types-0.result c.loop-i.items c.loop-i.rest.now _ c.in-Ok-close_brace.rest.now c.loop-i-test.false c.in-Ok-close_brace.ensures c.loop-i.invariant

pub parts-returns : goal.parts-returns
parts-returns t c =
    types_end_stops c.args.types.now c.loop-i.i c.index-types-0.result c.loop-i.items c.loop-i.rest.now _ c.in-Err-close_brace.stop c.loop-i-test.false c.in-Err-close_brace.ensures c.loop-i.invariant
