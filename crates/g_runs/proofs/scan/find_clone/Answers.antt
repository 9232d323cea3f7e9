use Rattle.std.proofs.Common.{◌≡◌, Bool, ◌||◌, Option, Some, ℕ, map, drop, ◌+◌, true, false, ap, ◌∙◌, sym}
use Rattle.std.specs.List.{list_any}
use Rattle.std.proofs.lemmas.Bool.{or_left}
use Rattle.g_frames.specs.Run.{from_to}
use Rattle.g_runs.specs.Scans.{fires_with}
use Rattle.g_runs.proofs.ScanLemmas.{any_at, none_left}
use Rattle.g_runs.proofs.scan.find_clone.Goals as goal

pub can_fire-requires : goal.can_fire-requires
can_fire-requires c = let r = c.requires in (r.0, (r.1.0, r.1.1 c.args.frame c.args.node))

pub returns-then-branch : goal.returns-then-branch
returns-then-branch c = λ p are.
    let test : Option ℕ → Bool = fires_with p c.args.has_room c.args.state.now c.args.frame c.args.node in
    let i : ℕ = c.loop-clone.clone in
    let fires : test (Some i) ≡ true = sym (c.in_ok-can_fire.ensures p are) ∙ c.if-branch.true in (
      sym (c.loop-clone.invariant p are) ∙ any_at test c.args.count i c.loop-clone-test.true
          ∙ or_left (test (Some i)) (list_any test (map Some (drop (i + 1) (from_to 0 c.args.count)))) fires,
      fires,
    )

pub loop-clone-preserved : goal.loop-clone-preserved
loop-clone-preserved c = λ p are.
    let test : Option ℕ → Bool = fires_with p c.args.has_room c.args.state.now c.args.frame c.args.node in
    let i : ℕ = c.loop-clone.clone in
    let fails : test (Some i) ≡ false = sym (c.in_ok-can_fire.ensures p are) ∙ c.if-branch.false in
    sym (any_at test c.args.count i c.loop-clone-test.true ∙ ap (λ b. b || list_any test (map Some (drop (i + 1) (from_to 0 c.args.count)))) fails)
    ∙ c.loop-clone.invariant p are

pub returns : goal.returns
returns c = λ p are.
    sym (c.loop-clone.invariant p are)
    ∙ none_left (fires_with p c.args.has_room c.args.state.now c.args.frame c.args.node) 0 c.args.count c.loop-clone.clone c.loop-clone-test.false
