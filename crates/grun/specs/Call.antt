-- What a call does to its source and its sink.
use Rattle.std.specs.Prelude.{◌≡◌, ℕ, ◌<◌, ◌==◌, Bool, false, ◌||◌, List, [], ◌∷◌, ◌++◌, Option, Some, None, take, length, codes, bytes_eq}
use Rattle.std.specs.Fmt.{decimal}
use Rattle.std.specs.Io.KnownBytes.{Appends, Keeps}
use Rattle.g_io.specs.Causes.{Rose}
use Rattle.g_frames.specs.declared.firing.Firing.{Firing}
use Rattle.g_line.specs.declared.forms.Line.{Line}
use Rattle.g_line.specs.Forms.{HasLine}
use Rattle.grun.specs.Texts.{line_of}
use Rattle.grun.specs.Answer.{Reply, IsAnswer, reply}

abbrev pub read_fault : List ℕ
read_fault = codes "read fault"

-- what a sink held before and after, where it tells it, and its count of faults: the reply was written whole with its status; or a proper
-- front of it with status 8, and then the count rose
pub data Delivers (before after : Option (List ℕ)) (old new : ℕ) (r : Reply) (status : ℕ) : Type 0 where
  whole : status ≡ r.status → Appends before after r.text → Delivers before after old new r status
  part : status ≡ 8 → Rose old new → (n : ℕ) → n < length r.text → Appends before after (take n r.text) → Delivers before after old new r status

-- the answer to the words and to the bytes that the source had left; to some bytes, where it doesn't tell them
abbrev pub Answers : List (List ℕ) → Option (List ℕ) → Option (List Firing) → Reply → Type 0
Answers words None trace r = (bytes : List ℕ) × IsAnswer words bytes trace r
Answers words (Some bytes) trace r = IsAnswer words bytes trace r

-- whether the words are those of a run, rightly spelled or not
abbrev pub begins_run : List (List ℕ) → Bool
begins_run [] = false
begins_run (word ∷ words) = bytes_eq word (codes "run")

-- the statuses that say that the input was read to its end
abbrev pub has_read : ℕ → Bool
has_read n = (n == 0) || ((n == 2) || ((n == 3) || ((n == 4) || ((n == 5) || (n == 6)))))

-- what is answered: the answer, or, to words that have a line, that the source failed, whose count rose
pub data Found (words : List (List ℕ)) (left : Option (List ℕ)) (source_old source_new : ℕ) (trace : Option (List Firing)) (r : Reply) : Type 0 where
  answer : Answers words left trace r → Found words left source_old source_new trace r
  fault : (line : Line) → HasLine words line → trace ≡ None → Rose source_old source_new → r ≡ reply 7 (line_of read_fault) → Found words left source_old source_new trace r

-- how a call ends, and no other way is there: `left` is what the source had left, where it tells it; then come what the sink held and the
-- counts of faults, of the source and of the sink
pub data Ending (words : List (List ℕ)) (left before after : Option (List ℕ)) (source_old source_new sink_old sink_new : ℕ) (trace : Option (List Firing)) (status : ℕ) : Type 0 where
  -- with the answer, or with a fault of the source
  answered : (r : Reply) → Found words left source_old source_new trace r → Delivers before after sink_old sink_new r status → Ending words left before after source_old source_new sink_old sink_new trace status
  -- for want of memory, with nothing written
  out_of_memory : trace ≡ None → status ≡ 9 → Keeps before after → Ending words left before after source_old source_new sink_old sink_new trace status

-- how a call ends whose words cannot be taken: it says that no line has this word there, or memory is wanting and nothing is written
pub data Refuses (word : ℕ) (before after : Option (List ℕ)) (old new status : ℕ) : Type 0 where
  told : Delivers before after old new (reply 1 (line_of (codes "usage at word " ++ decimal word))) status → Refuses word before after old new status
  untold : status ≡ 9 → Keeps before after → Refuses word before after old new status
