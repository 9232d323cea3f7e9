use Rattle.std.proofs.Common.{◌≡◌, ℕ, ◌||◌, List, drop, map}
use Rattle.g_rules_lines.specs.Names.{has_name}
use Rattle.g_infer.specs.Feeding.{gives_name}
use Rattle.g_infer.specs.Given.{seen_given}
use Rattle.g_infer.proofs.feeds.names_of.Given as goal

abbrev pub invariant-loop-given : goal.invariant-loop-given
invariant-loop-given l =
    (name : List ℕ) → (has_name l.names name || gives_name (map seen_given (drop l.given-index l.givens)) name) ≡ gives_name (map seen_given l.givens) name
