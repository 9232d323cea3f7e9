use Rattle.std.proofs.Common.{◌≡◌, ◌||◌, ℕ, List, subst}
use Rattle.std.specs.Str.{bytes_eq}
use Rattle.g_rules_selectors.specs.Taken.{has_text}
use Rattle.g_rules_selectors.proofs.Naming.{text_added}
use Rattle.g_rules_selectors.proofs.taken.add_text.Goals as goal

pub returns : goal.returns
returns c =
    let P : List ℕ → Type 0 = λ bs. (text : List ℕ) → has_text c.insert.new.self text ≡ (has_text c.args.texts.now text || bytes_eq bs text) in
    subst P c.as_slice.ensures (text_added c.args.texts.now c.insert.new.self c.as_slice.result c.in_ok-_is_new.ensures.updates)
