-- What each answer of the code says, in the words of the rules. Assumes nothing.
use Rattle.std.specs.Prelude.{ℕ, Result, Option as Perhaps, None, Some}
use Rattle.text.specs.Answers.{span_of}
use Rattle.tables.specs.declared.Refusal as refusalᵈ
use Rattle.tables.specs.Refusal.{Answer}
use Rattle.tables.specs.Answers.{answer}
use Rattle.cue_file.specs.declared.Found as foundᵈ
use Rattle.cue_file.specs.Read.{Found, found, Cursor, cursor, Step, done, clip}
use Rattle.cue_reader.specs.declared.all.Cues as cuesᵈ
use Rattle.cue_reader.specs.declared.all.Cue as cueᵈ

abbrev pub clips_of : Result ℕ refusalᵈ.Refusal → Answer ℕ
clips_of = answer (λ n. n)

abbrev pub clip_found : foundᵈ.Found → Found
clip_found c = found c.start (span_of c.uri) c.clips

abbrev pub found_of : Result foundᵈ.Found refusalᵈ.Refusal → Answer Found
found_of = answer clip_found

abbrev pub cursor_of : cuesᵈ.Cues → Cursor
cursor_of s = cursor s.clips s.clip s.place

abbrev pub opened_of : Result cuesᵈ.Cues refusalᵈ.Refusal → Answer Cursor
opened_of = answer cursor_of

abbrev pub clip_of : Perhaps (cueᵈ.Cue × cuesᵈ.Cues) → Step
clip_of None = done
clip_of (Some s) = clip s.0.clip s.0.start (span_of s.0.uri) (cursor_of s.1)

abbrev pub step_of : Result (Perhaps (cueᵈ.Cue × cuesᵈ.Cues)) refusalᵈ.Refusal → Answer Step
step_of = answer clip_of
