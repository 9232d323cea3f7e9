use Rattle.std.proofs.Common.{◌∷◌, ◌++◌, ℕ, Bor, ap, ◌∙◌}
use Rattle.std.specs.Prelude.{pos}
use Rattle.g_types.specs.declared.rep.Rep.TheVariants.{I32}
use Rattle.g_prims_definitions.specs.Arithmetic.{number}
use Rattle.std.specs.Option.{option_map}
use Rattle.g_diagram.specs.Lines.{Wire}
use Rattle.g_border.specs.Readers.{Given}
use Rattle.g_crossing.specs.Kept.{inside_from}
use Rattle.g_crossing.proofs.InsideLemmas.{iteration_given}
use Rattle.g_crossing.proofs.inside.iteration_inside.Goals as goal

pub returns : goal.returns
returns c = λ e is.
    c.in_ok-push_lines.ensures
    ∙ (ap (λ (g : Given). g ++ inside_from c.args.entering.now 0 c.in_ok-first.first c.args.lines.now) c.in_ok-given.ensures
    ∙ (ap (λ (n : ℕ). (record { line = c.args.line; operand = c.iteration_operand-operand.result }, number I32 (pos c.args.entering.now.iteration)) ∷ inside_from c.args.entering.now 0 n c.args.lines.now) c.in_ok-first.ensures
    ∙ iteration_given c.args.line c.iteration_operand-operand.result (option_map (λ (w : Bor Wire). w.now) c.args.count) (option_map (λ (w : Bor Wire). w.now) c.args.stop) c.args.iteration.now c.args.lines.now c.args.entering.now e is
    c.iteration_operand-operand.ensures))
