use Rattle.std.proofs.Common.{◌≡◌, true, ap, ◌∙◌}
use Rattle.g_types.specs.Names.{is_word}
use Rattle.g_line.proofs.Cuts.{setting_split}
use Rattle.g_line.proofs.reading.read_setting.Goals as goal

pub returns-in_default : goal.returns-in_default
returns-in_default c s is spelled = let parts = setting_split c.args.word.now s c.split_once.result c.split_once.ensures.cases is spelled in rw c.in_default.is at parts

pub returns-then-not-is_name : goal.returns-then-not-is_name
returns-then-not-is_name c s is spelled =
    let parts = setting_split c.args.word.now s c.split_once.result c.split_once.ensures.cases is spelled in
    let same = rw c.in-Some.is at parts in
    let word : is_word c.as_bytes.result.now ≡ true = ap is_word (c.as_bytes.ensures.value ∙ same.0) ∙ is in
    let refused = c.if-not-is_name.ensures in
    cc
