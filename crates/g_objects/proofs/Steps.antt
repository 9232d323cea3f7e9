-- An object's step is its kind's.
use Rattle.std.proofs.Common.{◌≡◌, true, refl, ap, ◌∙◌}
use Rattle.std.specs.Prelude.{Some, None, is_some}
use Rattle.g_shared.specs.declared.reply.Reply.{Reply}
use Rattle.g_shared.specs.Outcome.{Outcome}
use Rattle.g_frames.specs.Contents.{Content, as_content}

pub done_as : {S : Type 0} (form : S → Content) (m : Outcome S) (reply : Reply) (s : S) → m ≡ Some (reply, s) → as_content form m ≡ Some (reply, form s)
done_as form m reply s e = ap (as_content form) e

pub none_as : {S : Type 0} (form : S → Content) (m : Outcome S) → m ≡ None → as_content form m ≡ None
none_as form m e = ap (as_content form) e

pub some_as : {S : Type 0} (form : S → Content) (m : Outcome S) → is_some (as_content form m) ≡ is_some m
some_as form None = refl
some_as form (Some r) = refl

pub can_as : {S : Type 0} (form : S → Content) (m : Outcome S) → is_some m ≡ true → is_some (as_content form m) ≡ true
can_as form m e = some_as form m ∙ e
