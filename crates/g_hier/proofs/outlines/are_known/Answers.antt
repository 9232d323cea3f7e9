use Rattle.std.proofs.Common.{◌<◌, List, length, All, refl, subst, arith}
use Rattle.g_hier.specs.declared.linked.CallLine.{CallLine}
use Rattle.g_hier.specs.declared.linked.Outline.{Outline}
use Rattle.g_hier.proofs.Names.{all_more, all_of}
use Rattle.g_hier.proofs.outlines.are_known.Goals as goal

pub loop-outline-preserved : goal.loop-outline-preserved
loop-outline-preserved c =
    let os = c.args.outlines.now in
    let o : Outline = c.outline-item.result in
    let Q : List CallLine → Type 0 = All (λ (d : CallLine). d.vi < length os) in
    let P : Outline → Type 0 = λ p. All (λ (d : CallLine). d.vi < length os) p.calls in
    all_more P os c.loop-outline.outline-index o (omega arith) c.loop-outline.invariant
    (subst P c.outline-item.is (subst Q c.as_slice.ensures (c.if-not-are_below.ensures.0 refl)))

pub returns : goal.returns
returns c = (λ e. all_of (λ (p : Outline). All (λ (d : CallLine). d.vi < length c.args.outlines.now) p.calls) c.args.outlines.now c.loop-outline.outline-index (omega arith) c.loop-outline.invariant, λ h. refl)
