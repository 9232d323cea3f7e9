use Rattle.std.proofs.Common.{◌≡◌, ◌++◌, List, map}
use Rattle.std.specs.String.{string_bytes}
use Rattle.g_line.specs.declared.forms.Setting.{Setting}
use Rattle.g_line.specs.Reading.{AreSettings}
use Rattle.g_line.proofs.reading.read_settings.Given as goal

abbrev pub invariant-loop-at : goal.invariant-loop-at
invariant-loop-at l = (added : List Setting) × ((l.settings.items ≡ l.initial.settings.items ++ added) × AreSettings (map string_bytes l.words) l.first l.at added)
