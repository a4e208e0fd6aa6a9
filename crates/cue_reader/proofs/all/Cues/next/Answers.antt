-- `Cues::next`: its ways out are `next_done`, `next_21_clip`, `next_21_uri` and `next_clip`. The file's size is divided and differences are compared, since the
-- numbers of a cursor may make sums overflow. Assumes nothing.
use native.Mathlib.Omega.{arith}
use mathlib.Core.Path.{sym}
use Rattle.cue_file.specs.Format.{version1}
use Rattle.cue_file.proofs.Pass.{next_done, next_21_clip, next_21_uri}
use Rattle.cue_reader.proofs.Laws.{next_clip}
use Rattle.cue_reader.proofs.all.Cues.next.Goals as goal

pub returns-then-self-clip : goal.returns-then-self-clip
returns-then-self-clip c = sym (next_done version1 _ _ _ _ (omega arith))

pub returns-then-file-clip : goal.returns-then-file-clip
returns-then-file-clip c = sym (next_21_clip version1 _ _ _ _ (omega arith) (omega arith))

pub returns-then-file-place : goal.returns-then-file-place
returns-then-file-place c = sym (next_21_uri version1 _ _ _ _ (omega arith) (omega (arith, c.uri_length-length.ensures.0)))

pub returns-then-file-place-2 : goal.returns-then-file-place-2
returns-then-file-place-2 c = sym (next_21_uri version1 _ _ _ _ (omega arith) (omega (arith, c.uri_length-length.ensures.0)))

pub returns : goal.returns
returns c =
    let u = c.uri_length-length.ensures.0 in
    sym (next_clip version1 _ _ _ _ _ _ (omega arith) (omega arith) c.start.ensures (omega (arith, u)) (omega arith))
