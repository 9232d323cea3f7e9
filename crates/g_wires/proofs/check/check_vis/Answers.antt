use Rattle.std.proofs.Common.{◌≡◌, ℕ, ◌+◌, List, ◌++◌, length, ap, ◌∙◌, refl, subst, arith}
use Rattle.std.proofs.lemmas.Option.{slice_get_read}
use Rattle.g_diagram.specs.declared.hierarchy.Vi.{Vi}
use Rattle.g_diagram.specs.declared.place.Break.{Break}
use Rattle.g_diagram.specs.Ports.{Port}
use Rattle.g_diagram_ports.specs.Callees.{freedom_by}
use Rattle.g_rules_breaks.specs.Breaks.{has_break}
use Rattle.g_wires.specs.Breaks.{plain_in, each_from}
use Rattle.g_rules_lines.specs.Names.{known_by}
use Rattle.g_wires.specs.Checked.{ports_with, AddsCycles, CyclesBelow}
use Rattle.g_wires.proofs.Cycling.{cycles_more, no_cycles, each_more, each_all}
use Rattle.g_wires.proofs.check.check_vis.Goals as goal

pub loop-vi-init : goal.loop-vi-init
loop-vi-init c =
    let f : ℕ → Vi → List Break = plain_in (ports_with (freedom_by c.args.known.now.callees)) (known_by c.args.known.now.arities c.args.known.now.queues) in
    record {
      number = refl;
      plain = λ b. ap (λ (bs : List Break). has_break (bs ++ each_from f 0 c.args.vis.now) b) c.new.ensures.items;
      cycles = no_cycles (ports_with (freedom_by c.args.known.now.callees)) c.args.vis.now c.new-2.result.items c.new-2.ensures.items;
    }

pub loop-vi-preserved : goal.loop-vi-preserved
loop-vi-preserved c =
    let ports : Vi → List Port = ports_with (freedom_by c.args.known.now.callees) in
    let f : ℕ → Vi → List Break = plain_in ports (known_by c.args.known.now.arities c.args.known.now.queues) in
    let P : ℕ → Type 0 = λ n. AddsCycles n (ports c.vi-item.result) c.loop-vi.found.cycles.items c.check_vi.new.found.cycles.items in
    record {
      number = c.in_ok-number.ensures ∙ ap (λ (n : ℕ). n + 1) c.loop-vi.invariant.number;
      plain = each_more f c.args.vis.now c.loop-vi.vi-index c.vi-item.result c.loop-vi.number c.in_ok-number.number c.loop-vi.found.plain.items c.check_vi.new.found.plain.items
          (each_from f 0 c.args.vis.now) c.loop-vi-test.true c.vi-item.is c.in_ok-number.ensures c.in_ok-check_vi.ensures.plain c.loop-vi.invariant.plain;
      cycles = cycles_more ports c.args.vis.now c.loop-vi.vi-index c.vi-item.result c.loop-vi.found.cycles.items c.check_vi.new.found.cycles.items
          (slice_get_read c.args.vis.now (length c.args.vis.now) c.loop-vi.vi-index c.vi-item.result refl c.loop-vi-test.true c.vi-item.is)
          (subst P c.loop-vi.invariant.number c.in_ok-check_vi.ensures.cycles) c.loop-vi.invariant.cycles;
    }

pub returns : goal.returns
returns c =
    let ports : Vi → List Port = ports_with (freedom_by c.args.known.now.callees) in
    let f : ℕ → Vi → List Break = plain_in ports (known_by c.args.known.now.arities c.args.known.now.queues) in
    let P : ℕ → Type 0 = λ n. CyclesBelow ports c.args.vis.now n c.loop-vi.found.cycles.items in
    let end : c.loop-vi.vi-index ≡ length c.args.vis.now = omega (arith, c.loop-vi-test.false, c.loop-vi.auto.vi-index-end) in
    record {
      plain = each_all f c.args.vis.now c.loop-vi.vi-index c.loop-vi.number c.loop-vi.found.plain.items (each_from f 0 c.args.vis.now) c.loop-vi-test.false c.loop-vi.invariant.plain;
      cycles = subst P end c.loop-vi.invariant.cycles;
    }
