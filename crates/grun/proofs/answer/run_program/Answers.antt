use Rattle.std.proofs.Common.{refl, ap, ◌∙◌}
use Rattle.grun.specs.Answer.{reply, status_of}
use Rattle.grun.proofs.answer.run_program.Goals as goal

pub print_state-requires : goal.print_state-requires
print_state-requires c =
    let p = c.requires.0 in
    let table = c.requires.1.0 in
    let ran = c.in_ok-ran.ran in
    (p, (table, c.requires.1.1.firings ran.trace ran.state (c.in_ok-ran.ensures p table).after_it))

pub returns : goal.returns
returns c = (
  c.in_ok-ran.ran.trace,
  (
    refl,
    λ p table.
        let run = c.in_ok-ran.ensures p table in
        record {
          state = c.in_ok-ran.ran.state;
          allowed = run.after_it;
          rest = run.rests;
          shown = ap (λ s. reply s c.in_ok-text.text) (c.status_of.ensures ∙ ap status_of run.ends) ∙ ap (reply (status_of _)) (c.in_ok-text.ensures p table);
        },
  ),
)
