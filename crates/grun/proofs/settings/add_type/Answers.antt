use Rattle.std.proofs.Common.{◌≡◌, Some, sym, ap, ◌∙◌}
use Rattle.std.specs.Option.{option_copied}
use Rattle.indexmap.proofs.CallerLemmas.{insert_entry-new}
use Rattle.grun.specs.Settings.{find}
use Rattle.grun.specs.Views.{seen_control, types_in}
use Rattle.grun.proofs.Finding.{find-type, find-known, types_in-more, type_held, some_of, none_of}
use Rattle.grun.proofs.settings.add_type.Goals as goal

pub returns-then-is_some : goal.returns-then-is_some
returns-then-is_some c name =
    let es = c.args.types.now.entries in
    let held = some_of c.get.result (sym c.is_some.ensures ∙ c.if-is_some.true) in
    let found : find c.args.control.name.now (types_in es) ≡ Some held.0.now.now = sym (find-type c.args.control.name.now es) ∙ ap type_held (sym c.get.ensures.value ∙ ap option_copied held.1) in
    sym (find-known name (types_in es) (seen_control c.args.control) held.0.now.now found)

pub returns : goal.returns
returns c name =
    let get = sym c.get.ensures.value ∙ ap option_copied (none_of c.get.result (sym c.is_some.ensures ∙ c.if-is_some.false)) in
    let entries = c.in_ok-insert.ensures.entries ∙ insert_entry-new _ c.args.types.now c.args.control.name c.args.control.ty get in
    ap (λ es. find name (types_in es)) entries ∙ ap (find name) (types_in-more c.args.types.now.entries (c.args.control.name, c.args.control.ty))
