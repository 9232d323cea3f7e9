-- The state after an effect, by its parts.
use Rattle.std.proofs.Common.{◌≡◌, ℕ, List, ◌++◌, length, refl, ap, ◌∙◌}
use Rattle.std.specs.Prelude.{Option, Some, None}
use Rattle.std.specs.Option.{option_map, option_and_then, option_to_list}
use Rattle.g_values.specs.declared.value.Value.{Value}
use Rattle.g_frames.specs.declared.firing.Firing.{Firing}
use Rattle.g_frames.specs.declared.firing.FrameNode.{FrameNode}
use Rattle.g_frames.specs.declared.state.Frame.{Frame}
use Rattle.g_frames.specs.Program.{Program, vi_at}
use Rattle.g_frames.specs.State.{FireState, opened}
use Rattle.g_frames.specs.Effects.{gives}
use Rattle.g_frames.specs.Fire.{fired_frames, opened_frame, registers_after, begun_after, applied}
use Rattle.g_effects.specs.Advance.{advanced}
use Rattle.g_effects.specs.declared.effect.Effect.{Effect}
use Rattle.g_effects.specs.declared.effect.Opening.{Opening}
use Rattle.g_effects.specs.Effects.{seen, seen_opening}
use Rattle.g_states.specs.States.{progress_at}

abbrev opener : Firing → FrameNode
opener x = record { frame = x.frame; node = x.node }

-- the frames after the node's firing, and the frame that it opens
abbrev fired_ones : Program → FireState → Firing → Effect → List Frame
fired_ones p s x e = fired_frames p x (gives (advanced (progress_at p s.frames x) e.advance (length s.frames)) e.gives) s.frames

abbrev opened_ones : Program → Firing → Option Opening → List Frame
opened_ones p x m = option_to_list (option_and_then (λ o. option_map (opened (Some (opener x)) (seen_opening o)) (vi_at p o.vi)) m)

opens_is : (p : Program) (x : Firing) (m : Option Opening) → opened_ones p x m ≡ option_to_list (option_and_then (opened_frame p x) (option_map seen_opening m))
opens_is p x None = refl
opens_is p x (Some o) = refl

all_is : (p : Program) (s : FireState) (x : Firing) (e : Effect) (fired all : List Frame) → fired ≡ fired_ones p s x e → all ≡ fired ++ opened_ones p x e.opens →
    all ≡ fired_ones p s x e ++ option_to_list (option_and_then (opened_frame p x) (option_map seen_opening e.opens))
all_is p s x e fired all is_fired is_all = is_all ∙ (ap (λ fs. fs ++ opened_ones p x e.opens) is_fired ∙ ap (λ fs. fired_ones p s x e ++ fs) (opens_is p x e.opens))

same_parts : (s : FireState) (fs gs : List Frame) (ks ls : List Value) (n m : ℕ) → fs ≡ gs → ks ≡ ls → n ≡ m →
    record s { frames = fs; kept = ks; begun = n } ≡ record s { frames = gs; kept = ls; begun = m }
same_parts s fs gs ks ls n m f k b =
    ap (λ z. record s { frames = z; kept = ks; begun = n }) f
    ∙ (ap (λ z. record s { frames = gs; kept = z; begun = n }) k ∙ ap (λ z. record s { frames = gs; kept = ls; begun = z }) b)

pub applied_is : (p : Program) (s : FireState) (x : Firing) (e : Effect) (fired all : List Frame) (kept : List Value) (begun : ℕ) →
    fired ≡ fired_ones p s x e → all ≡ fired ++ opened_ones p x e.opens → kept ≡ registers_after s.kept e.keeps → begun ≡ begun_after s.begun e.begins →
    record s { frames = all; kept = kept; begun = begun } ≡ applied p s x (seen (progress_at p s.frames x) (length s.frames) e)
applied_is p s x e fired all kept begun is_fired is_all is_kept is_begun =
    same_parts s all (fired_ones p s x e ++ option_to_list (option_and_then (opened_frame p x) (option_map seen_opening e.opens)))
    kept (registers_after s.kept e.keeps) begun (begun_after s.begun e.begins) (all_is p s x e fired all is_fired is_all) is_kept is_begun
