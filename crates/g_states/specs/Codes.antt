-- The code of states, by which proofs tell them apart: each is stored as the tuple of its fields.
use Rattle.std.specs.Prelude.{ℕ, List, refl}
use Rattle.std.specs.Coded.{Coded, code_by, coded×, coded_ℕ, coded_list}
use Rattle.g_values.specs.declared.value.Value.{Value}
use Rattle.g_values.specs.contracts.value.Value as value
use Rattle.g_frames.specs.declared.state.Frame.{Frame}
use Rattle.g_frames.specs.contracts.state.Frame as frame
use Rattle.g_frames.specs.declared.state.DiagramSources.{DiagramSources}
use Rattle.g_frames.specs.contracts.state.DiagramSources as sources
use Rattle.g_frames.specs.Contents.{Content}
use Rattle.g_frames.specs.State.{FireState}
use Rattle.g_objects.specs.Codes.{content_code}

abbrev Stored : Type 0
Stored = ℕ × (ℕ × (List Frame × (List Content × (List Value × (ℕ × List DiagramSources)))))

abbrev stored : FireState → Stored
stored s = (s.main, (s.limit, (s.frames, (s.objects, (s.kept, (s.begun, s.sources))))))

abbrev restored : Stored → FireState
restored c = record {
  main = c.0;
  limit = c.1.0;
  frames = c.1.1.0;
  objects = c.1.1.1.0;
  kept = c.1.1.1.1.0;
  begun = c.1.1.1.1.1.0;
  sources = c.1.1.1.1.1.1;
}

abbrev pub state_code : Coded FireState
state_code =
    code_by Stored
    (coded× coded_ℕ (coded× coded_ℕ (coded× (coded_list frame.the_row.coded) (coded× (coded_list content_code)
    (coded× (coded_list value.the_row.coded) (coded× coded_ℕ (coded_list sources.the_row.coded)))))))
    stored restored (λ _. refl)
