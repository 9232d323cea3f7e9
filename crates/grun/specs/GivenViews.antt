-- Inner: what going through settings tells, seen without where it lies in memory.
use Rattle.std.specs.Prelude.{◌≡◌, List, []}
use Rattle.g_types.specs.declared.ty.Ty.{Ty}
use Rattle.g_line.specs.declared.forms.Setting.{Setting}
use Rattle.grun.specs.declared.settings.Given.{Given}
use Rattle.grun.specs.declared.settings.Given.TheVariants as code
use Rattle.grun.specs.Settings.{Named, Give, IsWrongSetting}
use Rattle.grun.specs.Views.{values_in}

-- the word of the first wrong setting, or the values that they give
abbrev pub Tells : Named Ty → List Setting → Given → Type 0
Tells cs settings (code.Wrong word) = (s : Setting) × (word ≡ s.word) × IsWrongSetting cs settings s
Tells cs settings (code.Right values) = Give cs [] settings (values_in values.entries)
