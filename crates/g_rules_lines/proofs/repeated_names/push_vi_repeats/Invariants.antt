use Rattle.std.proofs.Common.{◌≡◌, ◌++◌, ℕ, List, [], take, drop}
use Rattle.std.specs.List.{list_any}
use Rattle.std.specs.Str.{bytes_eq}
use Rattle.g_diagram.specs.declared.hierarchy.Vi.{Vi}
use Rattle.g_rules_lines.specs.Spots.{break, spot_at}
use Rattle.g_rules_lines.specs.RepeatedNames.{named_again}
use Rattle.g_rules_lines.specs.Names.{has_name}
use Rattle.g_rules_lines.proofs.repeated_names.push_vi_repeats.Given as goal

abbrev pub invariant-loop-vi : goal.invariant-loop-vi
invariant-loop-vi l = record {
  names : (name : List ℕ) → has_name l.names name ≡ list_any (λ (y : Vi). bytes_eq y.name name) (take l.vi-index l.vis);
  told : l.breaks.items ++ named_again (λ (y : Vi). y.name) (λ number. break number 7 (spot_at 0 0)) l.number (take l.vi-index l.vis) (drop l.vi-index l.vis)
      ≡ l.fn.breaks.items ++ named_again (λ (y : Vi). y.name) (λ number. break number 7 (spot_at 0 0)) 0 [] l.vis;
}
