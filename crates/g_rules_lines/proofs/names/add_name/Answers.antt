use Rattle.std.proofs.Common.{◌≡◌, ◌||◌, ℕ, List, subst}
use Rattle.std.specs.Str.{bytes_eq}
use Rattle.g_rules_lines.specs.Names.{has_name}
use Rattle.g_rules_lines.proofs.NameLemmas.{name_added}
use Rattle.g_rules_lines.proofs.names.add_name.Goals as goal

pub returns : goal.returns
returns c =
    let P : List ℕ → Type 0 = λ bs. (name : List ℕ) → has_name c.insert.new.self name ≡ (has_name c.args.names.now name || bytes_eq bs name) in
    subst P c.as_slice.ensures (name_added c.args.names.now c.insert.new.self c.as_slice.result c.in_ok-_is_new.ensures.updates)
