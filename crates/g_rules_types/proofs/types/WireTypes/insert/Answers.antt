use Rattle.g_rules_types.specs.Known.{cases_of, first_type, own_type}
use Rattle.g_rules_types.proofs.Kept.{is_key, key_is, own_kept}
use Rattle.std.specs.Prelude.{◌==◌, ◌&&◌}
use Rattle.std.specs.Str.{bytes_eq}
use Rattle.g_rules_types.specs.declared.types.WireTypes.{WireTypes}
use Rattle.g_rules_types.proofs.types.WireTypes.insert.Goals as goal

pub returns-clause-types : goal.returns-clause-types
returns-clause-types c = λ d other.
    let old : WireTypes = c.args.self.now in
    own_kept (is_key c.args.diagram c.args.name.now d other) ((c.args.diagram == d) && bytes_eq c.args.name.now other) c.args.ty (own_type old d other)
    (first_type old.cases.items (cases_of old.branches d) other) _
    (c.in_ok-insert.ensures.updates.0 (d, record { ref_ptr = (0, 0); now = other })) (key_is c.args.diagram c.args.name.now d other)
