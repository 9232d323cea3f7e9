use Rattle.std.proofs.Common.{◌≡◌, ◌<◌, ◌+◌, ℕ, suc, List, ◌++◌, length, take, drop, sym, ap, ◌∙◌, subst, arith}
use Rattle.std.specs.Prelude.{Some, None}
use Rattle.std.proofs.lemmas.Result.{on_ok_weaker}
use Rattle.g_border.specs.Bodies.{is_known}
use Rattle.g_frames.specs.Program.{FlatVi}
use Rattle.g_bodies.specs.declared.steps.Step.{Step}
use Rattle.g_bodies.specs.Known.{Found, found, known_in, with_more}
use Rattle.g_bodies.specs.Steps.{step_of}
use Rattle.g_bodies.specs.Turns.{first_from}
use Rattle.g_bodies.proofs.TurnLemmas.{one_turn, no_turn, taken_fits, others_fit}
use Rattle.g_bodies.proofs.turns.take_turn.Goals as goal

pub returns-in_default-clause-turn : goal.returns-in_default-clause-turn
returns-in_default-clause-turn c = λ vi is m.
    let none : first_from 0 (λ (s : Step). is_known (known_in vi c.args.known.now) (step_of vi.types s)) c.args.steps.now.items ≡ None =
    sym
    (c.first_known.ensures.place vi is
    ∙ ap (first_from 0 (λ (s : Step). is_known (known_in vi c.args.known.now) (step_of vi.types s))) c.as_slice.ensures.value)
    ∙ c.in_default.is in
    no_turn vi c.args.steps.now.items (found c.args.known.now) none m

pub given_by-requires : goal.given_by-requires
given_by-requires c =
    let vi : FlatVi = c.requires.0 in
    let is = c.requires.1.0 in
    let ss : List Step = c.args.steps.now.items in
    let e : first_from 0 (λ (s : Step). is_known (known_in vi c.args.known.now) (step_of vi.types s)) ss ≡ Some c.in-Some.at =
    sym
    (c.first_known.ensures.place vi is
    ∙ ap (first_from 0 (λ (s : Step). is_known (known_in vi c.args.known.now) (step_of vi.types s))) c.as_slice.ensures.value)
    ∙ c.in-Some.is in
    let lt : c.in-Some.at < length ss = subst (λ (xs : List Step). c.in-Some.at < length xs) c.as_slice.ensures.value c.in-Some.ensures.within in (
      vi,
      (
        is,
        taken_fits vi ss (found c.args.known.now) c.in-Some.at c.remove-step.result c.remove-step.result e lt c.remove-step.ensures.value c.requires.1.1,
      ),
    )

pub returns-clause-turn : goal.returns-clause-turn
returns-clause-turn c =
    on_ok_weaker c.give.result
    (λ h vi is m.
    let ss : List Step = c.args.steps.now.items in
    let f : Found = found c.args.known.now in
    let at : ℕ = c.in-Some.at in
    let next : at + 1 ≡ suc at = omega arith in
    let e : first_from 0 (λ (s : Step). is_known (known_in vi c.args.known.now) (step_of vi.types s)) ss ≡ Some at =
    sym
    (c.first_known.ensures.place vi is
    ∙ ap (first_from 0 (λ (s : Step). is_known (known_in vi c.args.known.now) (step_of vi.types s))) c.as_slice.ensures.value)
    ∙ c.in-Some.is in
    let others : c.remove-step.new.self.items ≡ take at ss ++ drop (suc at) ss = c.remove-step.ensures.by_index.2 ∙ ap (λ n. take at ss ++ drop n ss) next in
    one_turn vi ss c.remove-step.new.self.items f (found c.give.new.known) at c.remove-step.result c.remove-step.result e c.remove-step.ensures.value others
    (λ i p. (h p ∙ ap (λ gs. with_more f gs p) (c.in_ok-given.ensures vi is)) i) m)
    c.give.ensures

pub returns-clause-fits : goal.returns-clause-fits
returns-clause-fits c =
    on_ok_weaker c.give.result
    (λ h vi is all.
    let ss : List Step = c.args.steps.now.items in
    let f : Found = found c.args.known.now in
    let at : ℕ = c.in-Some.at in
    let next : at + 1 ≡ suc at = omega arith in
    let e : first_from 0 (λ (s : Step). is_known (known_in vi c.args.known.now) (step_of vi.types s)) ss ≡ Some at =
    sym
    (c.first_known.ensures.place vi is
    ∙ ap (first_from 0 (λ (s : Step). is_known (known_in vi c.args.known.now) (step_of vi.types s))) c.as_slice.ensures.value)
    ∙ c.in-Some.is in
    let others : c.remove-step.new.self.items ≡ take at ss ++ drop (suc at) ss = c.remove-step.ensures.by_index.2 ∙ ap (λ n. take at ss ++ drop n ss) next in
    others_fit vi ss c.remove-step.new.self.items f (found c.give.new.known) at others
    (one_turn vi ss c.remove-step.new.self.items f (found c.give.new.known) at c.remove-step.result c.remove-step.result e c.remove-step.ensures.value others
    (λ i p. (h p ∙ ap (λ gs. with_more f gs p) (c.in_ok-given.ensures vi is)) i))
    all)
    c.give.ensures
