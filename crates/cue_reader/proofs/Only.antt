-- No second result fits a public call's promise: each view has a way back. Rests on `answer_only` of `tables`. Assumes nothing.
use Rattle.std.specs.Prelude.{◌≡◌, refl, Result, Option as Perhaps, None, Some}
use Rattle.text.specs.Nom.{Span, span}
use Rattle.text.specs.declared.Span as spanᵈ
use Rattle.tables.specs.declared.Refusal as refusalᵈ
use Rattle.tables.specs.Refusal.{Answer}
use Rattle.tables.proofs.Refusals.{answer_only}
use Rattle.cue_file.specs.declared.Found as foundᵈ
use Rattle.cue_file.specs.Read.{Found, found, Cursor, cursor, Step, done, clip}
use Rattle.cue_reader.specs.declared.all.Cues as cuesᵈ
use Rattle.cue_reader.specs.declared.all.Cue as cueᵈ
use Rattle.cue_reader.specs.Answers.{clip_found, found_of, cursor_of, opened_of, clip_of, step_of}

span_from : Span → spanᵈ.Span
span_from (span start end) = record { start = start; end = end }

-- `read`
found_from : Found → foundᵈ.Found
found_from (found start uri clips) = record { start = start; uri = span_from uri; clips = clips }

found_back : (c : foundᵈ.Found) → found_from (clip_found c) ≡ c
unfolding found_from span_from
found_back c = refl

pub found_only : (x : Answer Found) (a b : Result foundᵈ.Found refusalᵈ.Refusal) → found_of a ≡ x → found_of b ≡ x → a ≡ b
found_only = answer_only clip_found found_from found_back

-- `Cues::new`
cues_from : Cursor → cuesᵈ.Cues
cues_from (cursor n k place) = record { clips = n; clip = k; place = place }

cues_back : (s : cuesᵈ.Cues) → cues_from (cursor_of s) ≡ s
unfolding cues_from
cues_back s = refl

pub opened_only : (x : Answer Cursor) (a b : Result cuesᵈ.Cues refusalᵈ.Refusal) → opened_of a ≡ x → opened_of b ≡ x → a ≡ b
opened_only = answer_only cursor_of cues_from cues_back

-- `Cues::next`
clip_from : Step → Perhaps (cueᵈ.Cue × cuesᵈ.Cues)
clip_from done = None
clip_from (clip k start uri s) = Some (record { clip = k; start = start; uri = span_from uri }, cues_from s)

clip_back : (s : Perhaps (cueᵈ.Cue × cuesᵈ.Cues)) → clip_from (clip_of s) ≡ s
unfolding clip_from span_from cues_from
clip_back None = refl
clip_back (Some s) = refl

pub step_only : (x : Answer Step) (a b : Result (Perhaps (cueᵈ.Cue × cuesᵈ.Cues)) refusalᵈ.Refusal) → step_of a ≡ x → step_of b ≡ x → a ≡ b
step_only = answer_only clip_of clip_from clip_back
