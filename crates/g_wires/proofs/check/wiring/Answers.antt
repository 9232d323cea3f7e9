use Rattle.std.proofs.Common.{ℕ, length, List, ◌++◌, refl, ap, sym, ◌∙◌, subst}
use Rattle.g_diagram.specs.declared.hierarchy.Vi.{Vi}
use Rattle.g_diagram.specs.declared.place.Break.{Break}
use Rattle.g_diagram.specs.Ports.{Port, ports_of}
use Rattle.g_diagram_ports.specs.Callees.{freedom_by}
use Rattle.g_rules_breaks.specs.Breaks.{ListsEach, has_break}
use Rattle.g_wires.specs.Breaks.{BreaksBy, each_from, plain_in}
use Rattle.g_rules_lines.specs.RepeatedNames.{renamed_vis}
use Rattle.g_rules_lines.specs.UnknownVis.{absent_main}
use Rattle.g_wires.specs.Checked.{ports_with}
use Rattle.g_rules_lines.specs.Lists.{Known, known_of}
use Rattle.g_rules_lines.specs.Names.{known_by}
use Rattle.g_wires.proofs.Cycling.{lists_each}
use Rattle.g_wires.proofs.Codings.{ports_same, known_same}
use Rattle.g_wires.proofs.Standing.{same_more}
use Rattle.g_wires.proofs.check.wiring.Goals as goal

pub returns : goal.returns
returns c =
    let vis : List Vi = c.as_slice-vis.result.now in
    let ports : Vi → List Port = ports_with (freedom_by c.in_ok-callees.field-0) in
    let known : Known = known_by c.in_ok-arities.field-0 c.in_ok-queues.field-0 in
    let main : List ℕ = c.args.main.now in
    let each : List Break = each_from (plain_in ports known) 0 vis in
    let absent : List Break = absent_main known.arities (length vis) main in
    let bs : List Break = c.in_ok-listed.field-0.items in
    let all : List Break = c.extend_from_slice.new.self.items in
    let P : List Break → Type 0 = λ xs. ListsEach (BreaksBy (ports_of c.args.h.now.vis) (known_of c.args.h.now.vis) c.args.h.now.vis main) xs in
    let Q : List Vi → Type 0 = λ vs. ListsEach (BreaksBy (ports_of vs) (known_of vs) vs main) bs in
    let R : (Vi → List Port) → Type 0 = λ ps. ListsEach (BreaksBy ps (known_of vis) vis main) bs in
    let S : Known → Type 0 = λ k. ListsEach (BreaksBy ports k vis main) bs in
    subst P (sym c.from_vec.ensures) (subst Q c.as_slice-vis.ensures (subst R (ports_same c.in_ok-callees.field-0 vis c.in_ok-callees.ensures)
    (subst S (known_same c.in_ok-arities.field-0 c.in_ok-queues.field-0 vis c.in_ok-arities.ensures c.in_ok-queues.ensures)
    (lists_each ports known vis main c.push_absent.new.breaks.items c.in_ok-found.found.cycles.items all bs
    (λ b. ap (λ (xs : List Break). has_break xs b) (c.in_ok-push_absent.ensures ∙ ap (λ (xs : List Break). xs ++ absent) c.in_ok-push_vi_repeats.ensures)
    ∙ same_more (c.in_ok-found.found.plain.items ++ renamed_vis vis) (each ++ renamed_vis vis) absent absent
    (same_more c.in_ok-found.found.plain.items each (renamed_vis vis) (renamed_vis vis) c.in_ok-found.ensures.plain (λ d. refl)) (λ d. refl) b) c.in_ok-found.ensures.cycles
    (c.in_ok-extend_from_slice.ensures.items ∙ ap (λ (xs : List Break). c.push_absent.new.breaks.items ++ xs) c.as_slice.ensures.value)
    c.in_ok-listed.ensures.order (λ b. c.in_ok-listed.ensures.same b ∙ ap (λ (xs : List Break). has_break xs b) c.as_slice-2.ensures.value)))))
