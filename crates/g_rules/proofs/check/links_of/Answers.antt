use Rattle.std.proofs.Common.{◌<◌, List, length, sym, subst, arith}
use Rattle.g_diagram.specs.declared.place.Break.{Break}
use Rattle.g_hier.specs.Answer.{Refuses}
use Rattle.g_hier.specs.Outlines.{number_of, outlines_of}
use Rattle.g_rules.specs.Parts.{LinkBreak, Tells}
use Rattle.g_rules.proofs.Callable.{calls_named, main_named}
use Rattle.g_rules.proofs.Breaking.{tells_recursions, tells_too_large}
use Rattle.g_rules.proofs.check.links_of.Goals as goal

pub link-requires-clause-known : goal.link-requires-clause-known
link-requires-clause-known c = calls_named c.args.h.now c.args.main.now c.requires

pub link-requires-clause-main : goal.link-requires-clause-main
link-requires-clause-main c = main_named c.args.h.now c.args.main.now c.requires

pub returns-in-Err-Recursive : goal.returns-in-Err-Recursive
returns-in-Err-Recursive c =
    let h = c.args.h.now in
    let main = c.args.main.now in
    let refused = subst (Refuses (outlines_of h) (number_of h.vis main)) c.in-Err-Recursive.field-0-is c.in-Err-Recursive.ensures.refused in
    (tells_recursions h main c.in-Err-Recursive.breaks refused.0 refused.1, refused.1)

pub returns-in_ok-too_large-in-Err-TooLarge : goal.returns-in_ok-too_large-in-Err-TooLarge
returns-in_ok-too_large-in-Err-TooLarge c =
    let h = c.args.h.now in
    let main = c.args.main.now in
    let refused = subst (Refuses (outlines_of h) (number_of h.vis main)) c.in-Err-TooLarge.field-0-is c.in-Err-TooLarge.ensures.refused in
    subst (λ (bs : List Break). Tells (LinkBreak h main) bs × (0 < length bs)) (sym c.in_ok-too_large-in-Err-TooLarge.ensures)
    (tells_too_large h main c.in-Err-TooLarge.field-0-0 refused, omega arith)
