use Rattle.std.proofs.Common.{sym, ◌∙◌, subst}
use Rattle.g_grammar.specs.Grammar.{read}
use Rattle.g_grammar.specs.Reads.{Stops}
use Rattle.g_listing_grammar.specs.Listing.{listing}
use Rattle.g_listing.proofs.Refusals.{found, only, refused_after, refused_in, few_left, some_left, few_after, empty_of, some_of}
use Rattle.g_listing.proofs.listing.read_listing.Goals as goal

-- ---- all tokens were read

pub returns-then-is_empty-clause-found : goal.returns-then-is_empty-clause-found
returns-then-is_empty-clause-found c =
    let tokens = c.as_slice.ensures ∙ c.in-Ok.ensures.tokens in
    let none = empty_of c.in-Ok-listing.rest.now (sym c.is_empty.ensures ∙ c.if-is_empty.true) in
    found c.args.bytes.now c.as_slice.result.now c.in-Ok.tokens.places tokens c.in-Ok.ensures.places c.in-Ok-listing.hierarchy c.in-Ok-listing.rest.now c.in-Ok-listing.ensures none

pub returns-then-is_empty-clause-only : goal.returns-then-is_empty-clause-only
returns-then-is_empty-clause-only c =
    let tokens = c.as_slice.ensures ∙ c.in-Ok.ensures.tokens in
    let none = empty_of c.in-Ok-listing.rest.now (sym c.is_empty.ensures ∙ c.if-is_empty.true) in
    only c.args.bytes.now c.as_slice.result.now c.in-Ok.tokens.places tokens c.in-Ok.ensures.places c.in-Ok-listing.hierarchy c.in-Ok-listing.rest.now c.in-Ok-listing.ensures none

-- ---- some were left

pub place-requires-clause-within : goal.place-requires-clause-within
place-requires-clause-within c =
    let tokens = c.as_slice.ensures ∙ c.in-Ok.ensures.tokens in
    let places = c.as_slice-in-Ok-listing.ensures ∙ c.in-Ok.ensures.places in
    let some = some_of c.in-Ok-listing.rest.now (sym c.is_empty.ensures ∙ c.if-is_empty.false) in
    few_after c.args.bytes.now c.as_slice.result.now c.as_slice-in-Ok-listing.result.now tokens places c.in-Ok-listing.hierarchy c.in-Ok-listing.rest.now c.in-Ok-listing.ensures some

pub returns-in-Ok-listing-clause-refused : goal.returns-in-Ok-listing-clause-refused
returns-in-Ok-listing-clause-refused c =
    let tokens = c.as_slice.ensures ∙ c.in-Ok.ensures.tokens in
    let places = c.as_slice-in-Ok-listing.ensures ∙ c.in-Ok.ensures.places in
    let some = some_of c.in-Ok-listing.rest.now (sym c.is_empty.ensures ∙ c.if-is_empty.false) in
    refused_after c.args.bytes.now c.as_slice.result.now c.as_slice-in-Ok-listing.result.now tokens places c.in-Ok-listing.hierarchy c.in-Ok-listing.rest.now c.place.result c.in-Ok-listing.ensures some c.place.ensures

-- ---- one was refused

pub place-requires-in-Err-At-clause-some : goal.place-requires-in-Err-At-clause-some
place-requires-in-Err-At-clause-some c =
    let tokens = c.as_slice.ensures ∙ c.in-Ok.ensures.tokens in
    let places = c.as_slice-in-Err-At.ensures ∙ c.in-Ok.ensures.places in
    let stop = subst (λ s. Stops s (read listing c.as_slice.result.now)) c.in-Err-At.field-0-is c.in-Err-At.ensures in
    some_left c.args.bytes.now c.as_slice.result.now c.as_slice-in-Err-At.result.now tokens places c.in-Err-At.bad.now stop

pub place-requires-in-Err-At-clause-within : goal.place-requires-in-Err-At-clause-within
place-requires-in-Err-At-clause-within c =
    let tokens = c.as_slice.ensures ∙ c.in-Ok.ensures.tokens in
    let places = c.as_slice-in-Err-At.ensures ∙ c.in-Ok.ensures.places in
    let stop = subst (λ s. Stops s (read listing c.as_slice.result.now)) c.in-Err-At.field-0-is c.in-Err-At.ensures in
    few_left c.args.bytes.now c.as_slice.result.now c.as_slice-in-Err-At.result.now tokens places c.in-Err-At.bad.now stop

pub returns-clause-refused : goal.returns-clause-refused
returns-clause-refused c =
    let tokens = c.as_slice.ensures ∙ c.in-Ok.ensures.tokens in
    let places = c.as_slice-in-Err-At.ensures ∙ c.in-Ok.ensures.places in
    let stop = subst (λ s. Stops s (read listing c.as_slice.result.now)) c.in-Err-At.field-0-is c.in-Err-At.ensures in
    refused_in c.args.bytes.now c.as_slice.result.now c.as_slice-in-Err-At.result.now tokens places c.in-Err-At.bad.now c.place-in-Err-At.result stop c.place-in-Err-At.ensures
