use Rattle.std.proofs.Common.{List, map, refl}
use Rattle.std.specs.Str.{bytes_eq}
use Rattle.g_rules_lines.specs.Names.{has_name}
use Rattle.g_rules_lines.proofs.NameLemmas.{name_added}
use Rattle.g_infer.specs.declared.giving.Given.{Given}
use Rattle.g_infer.specs.Feeding.{gives_name}
use Rattle.g_infer.specs.Given.{seen_given}
use Rattle.g_infer.proofs.FeedLemmas.{tests_more}
use Rattle.g_infer.proofs.feeds.names_of.Goals as goal

pub loop-given-preserved : goal.loop-given-preserved
loop-given-preserved c = λ name.
    tests_more (λ (gs : List Given). gives_name (map seen_given gs) name) (λ (gs : List Given). gives_name (map seen_given gs) name)
    (bytes_eq c.given-item.result.name.now name) c.args.givens.now c.loop-given.given-index c.given-item.result
    (has_name c.insert.new.self name) (has_name c.loop-given.names name) (gives_name (map seen_given c.args.givens.now) name)
    c.loop-given-test.true c.given-item.is refl (name_added c.loop-given.names c.insert.new.self c.given-item.result.name c.in_ok-_is_new.ensures.updates name) (c.loop-given.invariant name)
