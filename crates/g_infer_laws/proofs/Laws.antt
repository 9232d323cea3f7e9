-- Each wire of a listing has a type among those that are told.
use Rattle.std.proofs.Common.{◌≡◌, ℕ, zero, suc, List, [], ◌∷◌, Option, Some, None, subst}
use Rattle.std.proofs.lemmas.Option.{same_Some}
use Rattle.std.specs.Prelude.{slice_get}
use Rattle.std.specs.List.{All}
use Rattle.std.proofs.lemmas.List.Elements.{All-head, All-tail}
use Rattle.g_diagram.specs.declared.hierarchy.Hierarchy.{Hierarchy}
use Rattle.g_diagram.specs.declared.hierarchy.Vi.{Vi}
use Rattle.g_typing.specs.Typing.{IsTyping}
use Rattle.g_infer.specs.Answer.{HasTyping, types_in}
use Rattle.g_infer.specs.declared.typed.ViTypes.{ViTypes}
use Rattle.g_infer_laws.specs.OwnLines.{HasOwnLines}
use Rattle.g_infer_laws.specs.Wires.{EachReadWireTyped}
use Rattle.g_infer_laws.proofs.EachTyped.{each_wire_typed}
use Rattle.g_infer_laws.proofs.OwnGiven.{reads_own_lines}

own_at : (vis : List Vi) (k : ℕ) (vi : Vi) → All HasOwnLines vis → slice_get vis k ≡ Some vi → HasOwnLines vi
own_at [] k vi all at = absurd (let no : None ≡ Some vi = at in cc)
own_at (v ∷ vis) zero vi all at = subst HasOwnLines (same_Some v vi at) (All-head HasOwnLines v vis all)
own_at (v ∷ vis) (suc k) vi all at = own_at vis k vi (All-tail HasOwnLines v vis all) at

told : (h : Hierarchy) (vi : Vi) (o : Option ViTypes) (found : ViTypes) → o ≡ Some found → HasTyping h.vis vi o → IsTyping h.vis vi (types_in found)
told h vi None found same has = absurd has
told h vi (Some f) found same has = subst (λ (x : ViTypes). IsTyping h.vis vi (types_in x)) (same_Some f found same) has.typing

pub each_read_wire_typed : EachReadWireTyped
each_read_wire_typed bytes h main typed listing wiring is k vi found stands there =
    each_wire_typed h main wiring is.unbroken k vi (types_in found) stands (own_at h.vis k vi (reads_own_lines bytes h listing) stands)
    (told h vi (slice_get typed.vis k) found there (is.each k vi stands))
