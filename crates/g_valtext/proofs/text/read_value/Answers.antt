use Rattle.std.proofs.Common.{◌∙◌, ◌-◌, ap, length}
use Rattle.std.specs.List.{slice_index_or}
use Rattle.g_valtext.proofs.Back.{printed_spells}
use Rattle.g_valtext.specs.Spellings.{tokens}
use Rattle.g_valtext.proofs.Kept.{typed, proper, refers_to_nothing}
use Rattle.g_valtext.proofs.Exact.{spelled_by, only_by, never_by, rest_within, refused_by}
use Rattle.g_valtext.proofs.text.read_value.Goals as goal

pub returns-in-Ok-whole_value-clause-spelled : goal.returns-in-Ok-whole_value-clause-spelled
returns-in-Ok-whole_value-clause-spelled c =
    spelled_by c.args.ty.now c.args.text.now c.as_slice-tokens.result.now c.in-Ok-whole_value.value (c.as_slice-tokens.ensures ∙ c.in-Ok.ensures.tokens) c.in-Ok-whole_value.ensures

pub returns-in-Ok-whole_value-clause-only : goal.returns-in-Ok-whole_value-clause-only
returns-in-Ok-whole_value-clause-only c = λ v h.
    only_by c.args.ty.now c.args.text.now c.as_slice-tokens.result.now c.in-Ok-whole_value.value v (c.as_slice-tokens.ensures ∙ c.in-Ok.ensures.tokens) c.in-Ok-whole_value.ensures h

pub overflow_sub-index : goal.overflow_sub-index
overflow_sub-index c = rest_within c.args.ty.now c.as_slice-tokens.result.now c.in-At.rest.now (rw c.in-At.is at c.in-Err-whole_value.ensures)

pub returns-clause-only : goal.returns-clause-only
returns-clause-only c = λ v h.
    never_by c.args.ty.now c.args.text.now c.as_slice-tokens.result.now c.in-At.rest.now v (c.as_slice-tokens.ensures ∙ c.in-Ok.ensures.tokens) (rw c.in-At.is at c.in-Err-whole_value.ensures) h

pub returns-clause-refused : goal.returns-clause-refused
returns-clause-refused c =
    let ts = c.as_slice-tokens.result.now in
    let bad = c.in-At.rest.now in
    let place = c.place_at-byte.ensures ∙ ap (λ l. slice_index_or l (length ts - length bad) (length c.args.text.now)) c.as_slice.ensures in
    refused_by c.args.ty.now c.args.text.now ts bad c.in-Ok.found.places c.place_at-byte.result (c.as_slice-tokens.ensures ∙ c.in-Ok.ensures.tokens) c.in-Ok.ensures.places (rw c.in-At.is at c.in-Err-whole_value.ensures) place

pub returns-in-Ok-whole_value-clause-back : goal.returns-in-Ok-whole_value-clause-back
returns-in-Ok-whole_value-clause-back c = λ v p k h is e.
    only_by c.args.ty.now c.args.text.now c.as_slice-tokens.result.now c.in-Ok-whole_value.value v (c.as_slice-tokens.ensures ∙ c.in-Ok.ensures.tokens) c.in-Ok-whole_value.ensures (printed_spells v c.args.ty.now c.args.text.now p k h is e)

pub returns-clause-back : goal.returns-clause-back
returns-clause-back c = λ v p k h is e.
    never_by c.args.ty.now c.args.text.now c.as_slice-tokens.result.now c.in-At.rest.now v (c.as_slice-tokens.ensures ∙ c.in-Ok.ensures.tokens) (rw c.in-At.is at c.in-Err-whole_value.ensures) (printed_spells v c.args.ty.now c.args.text.now p k h is e)

pub returns-in-Ok-whole_value-clause-typed : goal.returns-in-Ok-whole_value-clause-typed
returns-in-Ok-whole_value-clause-typed c =
    typed c.args.ty.now (tokens c.args.text.now) c.in-Ok-whole_value.value (spelled_by c.args.ty.now c.args.text.now c.as_slice-tokens.result.now c.in-Ok-whole_value.value (c.as_slice-tokens.ensures ∙ c.in-Ok.ensures.tokens) c.in-Ok-whole_value.ensures)

pub returns-in-Ok-whole_value-clause-proper : goal.returns-in-Ok-whole_value-clause-proper
returns-in-Ok-whole_value-clause-proper c = λ is.
    proper c.args.ty.now (tokens c.args.text.now) c.in-Ok-whole_value.value (spelled_by c.args.ty.now c.args.text.now c.as_slice-tokens.result.now c.in-Ok-whole_value.value (c.as_slice-tokens.ensures ∙ c.in-Ok.ensures.tokens) c.in-Ok-whole_value.ensures) is

pub returns-in-Ok-whole_value-clause-null : goal.returns-in-Ok-whole_value-clause-null
returns-in-Ok-whole_value-clause-null c =
    refers_to_nothing c.args.ty.now (tokens c.args.text.now) c.in-Ok-whole_value.value (spelled_by c.args.ty.now c.args.text.now c.as_slice-tokens.result.now c.in-Ok-whole_value.value (c.as_slice-tokens.ensures ∙ c.in-Ok.ensures.tokens) c.in-Ok-whole_value.ensures)
