-- `read_list`: each exit by what is said there (`Exits`). Assumes nothing.
use mathlib.Core.Path.{◌≡◌, sym, ap, ◌∙◌}
use lib.ListN.{length}
use borrow.Author.Rules.{rules}
use Rattle.media.specs.Answers.{parse_answer}
use Rattle.printing.proofs.Exits.{said_refused, sends_refused}
use Rattle.cue.specs.File.{clip_room, tag_room, file_room}
use Rattle.cue.proofs.Exits.{too_long, not_read, was_read}
use Rattle.cue.proofs.read_list.Goals as goal

pub returns-then-text-gt-TEXT_SIZE : goal.returns-then-text-gt-TEXT_SIZE
returns-then-text-gt-TEXT_SIZE g c =
    let why = too_long c.args.text.now (search rules) in
    record {
      says = said_refused _ _ 0 c.number.ensures why c.refuse.ensures.aside c.refuse.ensures.puts;
      sent = sends_refused g.O.Write.contents g.E.Write.contents _ _ 0 c.number.ensures why c.refuse.ensures.aside c.refuse.ensures.sent;
    }

pub returns-in-Err : goal.returns-in-Err
returns-in-Err g c =
    let a = c.args in
    let l : length a.memory.now.clips ≡ clip_room = search rules in
    let m : length a.memory.now.tags ≡ tag_room = search rules in
    let e = sym c.parse_media_playlist.ensures.answered ∙ ap parse_answer c.in-Err.is in
    let why = not_read a.text.now (search rules) _ _ (rw (l, m) at e) in
    record {
      says = said_refused _ _ _ c.number-in-Err.ensures why c.refuse-in-Err.ensures.aside c.refuse-in-Err.ensures.puts;
      sent = sends_refused g.O.Write.contents g.E.Write.contents _ _ _ c.number-in-Err.ensures why c.refuse-in-Err.ensures.aside c.refuse-in-Err.ensures.sent;
    }

pub returns-in-Ok : goal.returns-in-Ok
returns-in-Ok g c =
    let a = c.args in
    let l : length a.memory.now.clips ≡ clip_room = search rules in
    let m : length a.memory.now.tags ≡ tag_room = search rules in
    let o : length a.memory.now.file ≡ file_room = search rules in
    let e = sym c.parse_media_playlist.ensures.answered ∙ ap parse_answer c.in-Ok.is in
    let w = c.parse_media_playlist.ensures.clips_after in
    let said = was_read a.text.now (search rules) c.in-Ok.read (rw (l, m) at e) _ _ a.memory.now.file o (rw (l, m) at w) in
    record { says = rw said at c.make_file.ensures.says; sent = rw said at c.make_file.ensures.sent }
