use Rattle.std.proofs.Common.{◌<◌, List, [], ◌++◌, length, MatchResult, ap, ◌∙◌, subst}
use Rattle.std.specs.Prelude.{Result}
use Rattle.g_diagram.specs.declared.place.Break.{Break}
use Rattle.g_hier.specs.Answer.{Links}
use Rattle.g_hier.specs.Outlines.{number_of, outlines_of}
use Rattle.g_hier.specs.declared.linked.Linked.{Linked}
use Rattle.g_infer.specs.Answer.{IsTyped}
use Rattle.g_infer.specs.declared.typed.Typed.{Typed}
use Rattle.g_typing.specs.Breaks.{TypeBreak}
use Rattle.g_rules_breaks.specs.Breaks.{has_break}
use Rattle.g_rules.specs.Parts.{LinkBreak, Tells}
use Rattle.g_rules.proofs.Breaking.{unbroken, merges, tells_none, no_link_break, longer_front}
use Rattle.g_rules.proofs.check.check_wired.Goals as goal

pub returns-in-Ok-links : goal.returns-in-Ok-links
returns-in-Ok-links c =
    let h = c.args.h.now in
    let main = c.args.main.now in
    let P : Result Typed (List Break) → Type 0 = λ r. MatchResult r (IsTyped h) (λ bs. Tells (TypeBreak h) bs × (0 < length bs)) in
    let Q : Result Linked (List Break) → Type 0 = λ r. MatchResult r (Links (outlines_of h) (number_of h.vis main)) (λ bs. Tells (LinkBreak h main) bs × (0 < length bs)) in
    let types = subst P c.in-Ok.is c.in_ok-types.ensures in
    let links = subst Q c.in-Ok-links.is c.in_ok-links.ensures in
    (unbroken h main c.in-Ok.typed c.in-Ok-links.linked c.requires types links, (types, links))

pub returns-in-Ok : goal.returns-in-Ok
returns-in-Ok c =
    let h = c.args.h.now in
    let main = c.args.main.now in
    let P : Result Typed (List Break) → Type 0 = λ r. MatchResult r (IsTyped h) (λ bs. Tells (TypeBreak h) bs × (0 < length bs)) in
    let Q : Result Linked (List Break) → Type 0 = λ r. MatchResult r (Links (outlines_of h) (number_of h.vis main)) (λ bs. Tells (LinkBreak h main) bs × (0 < length bs)) in
    let types = subst P c.in-Ok.is c.in_ok-types.ensures in
    let links = subst Q c.in-Err-links.is c.in_ok-links.ensures in
    let merged = c.in_ok-merged-in-Err-links.ensures in
    merges h main [] c.in-Err-links.breaks c.in_ok-merged-in-Err-links.field-0 c.requires (tells_none (TypeBreak h) types.unbroken) links.0 links.1 merged.order
    (λ q. merged.same q ∙ ap (λ (xs : List Break). has_break xs q) c.as_slice.ensures)

pub returns-in-Ok-links-2 : goal.returns-in-Ok-links-2
returns-in-Ok-links-2 c =
    let h = c.args.h.now in
    let main = c.args.main.now in
    let P : Result Typed (List Break) → Type 0 = λ r. MatchResult r (IsTyped h) (λ bs. Tells (TypeBreak h) bs × (0 < length bs)) in
    let Q : Result Linked (List Break) → Type 0 = λ r. MatchResult r (Links (outlines_of h) (number_of h.vis main)) (λ bs. Tells (LinkBreak h main) bs × (0 < length bs)) in
    let types = subst P c.in-Err.is c.in_ok-types.ensures in
    let links = subst Q c.in-Ok-links-2.is c.in_ok-links.ensures in
    let merged = c.in_ok-merged-in-Ok-links-2.ensures in
    merges h main c.in-Err.first [] c.in_ok-merged-in-Ok-links-2.field-0 c.requires types.0 (tells_none (LinkBreak h main) (no_link_break h main c.in-Ok-links-2.field-0 links))
    (longer_front c.in-Err.first [] types.1) merged.order
    (λ q. merged.same q ∙ ap (λ (xs : List Break). has_break (xs ++ []) q) c.as_slice-in-Ok-links-2.ensures)

pub returns : goal.returns
returns c =
    let h = c.args.h.now in
    let main = c.args.main.now in
    let P : Result Typed (List Break) → Type 0 = λ r. MatchResult r (IsTyped h) (λ bs. Tells (TypeBreak h) bs × (0 < length bs)) in
    let Q : Result Linked (List Break) → Type 0 = λ r. MatchResult r (Links (outlines_of h) (number_of h.vis main)) (λ bs. Tells (LinkBreak h main) bs × (0 < length bs)) in
    let types = subst P c.in-Err.is c.in_ok-types.ensures in
    let links = subst Q c.in-Err-links-2.is c.in_ok-links.ensures in
    let merged = c.in_ok-merged-in-Err-links-2.ensures in
    merges h main c.in-Err.first c.in-Err-links-2.second c.in_ok-merged-in-Err-links-2.field-0 c.requires types.0 links.0 (longer_front c.in-Err.first c.in-Err-links-2.second types.1) merged.order
    (λ q. merged.same q
    ∙ ap (λ (xs : List Break). has_break (xs ++ c.as_slice-in-Err-links-2-2.result.now) q) c.as_slice-in-Err-links-2.ensures
    ∙ ap (λ (xs : List Break). has_break (c.in-Err.first ++ xs) q) c.as_slice-in-Err-links-2-2.ensures)
