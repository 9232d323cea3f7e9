-- What a firing does, as the code has it: how its node goes on stands in place of what the node has done afterwards.
use Rattle.std.specs.Prelude.{ℕ, false, [], Some, None}
use Rattle.std.specs.Option.{option_map}
use Rattle.g_border.specs.Readers.{Given}
use Rattle.g_frames.specs.declared.state.Progress.{Progress}
use Rattle.g_frames.specs.State as state
use Rattle.g_frames.specs.Effects as effects
use Rattle.g_effects.specs.declared.advance.Advance.{Advance}
use Rattle.g_effects.specs.declared.effect.Effect.{Effect}
use Rattle.g_effects.specs.Advance.{advanced}
use Rattle.g_effects.specs.declared.effect.Opening.{Opening}

abbrev pub seen_opening : Opening → state.Opening
seen_opening o = record { vi = o.vi; space = o.space; diagram = o.diagram; iteration = o.iteration; gives = o.gives }

-- the effect of a firing of a node that had done `old`, where the next frame gets this number; it changes no object
abbrev pub seen : (old : Progress) → (next : ℕ) → Effect → effects.Effect
seen old next e = record {
  progress = advanced old e.advance next;
  gives = e.gives;
  opens = option_map seen_opening e.opens;
  changes = None;
  keeps = e.keeps;
  begins = e.begins;
}

abbrev pub gives_with : Advance → Given → Effect
gives_with a given = record { advance = a; gives = given; opens = None; keeps = []; begins = false }

abbrev pub opens_with : Advance → Opening → Effect
opens_with a opening = record { advance = a; gives = []; opens = Some opening; keeps = []; begins = false }
