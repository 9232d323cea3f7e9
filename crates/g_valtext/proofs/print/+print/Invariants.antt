use Rattle.std.proofs.Common.{◌≡◌, take, map, ◌++◌, true}
use Rattle.std.specs.List.{list_all}
use Rattle.g_valtext.specs.Plain.{is_ranged}
use Rattle.g_types.specs.Ty.{joined}
use Rattle.g_values.specs.Text.{text}
use Rattle.g_valtext.proofs.print.+print.Given as goal

abbrev pub invariant-push_values-loop-i : goal.invariant-push_values-loop-i
invariant-push_values-loop-i l = record {
  text : l.out.items ≡ l.fn.out.items ++ joined (map text (take l.i l.items));
  ranged : list_all is_ranged (take l.i l.items) ≡ true;
}
