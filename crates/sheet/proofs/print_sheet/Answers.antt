-- `print_sheet`: each exit by what is printed there (`Exits`). Assumes nothing.
use Prim.Native.Nat.{ℕ}
use mathlib.Core.Path.{◌≡◌, sym, ap, ◌∙◌}
use lib.ListN.{length}
use borrow.Author.Rules.{rules}
use Rattle.media.specs.Answers.{parse_answer}
use Rattle.output.proofs.Laws.{puts_as, sends_as}
use Rattle.printing.specs.Lines.{refused_line}
use Rattle.sheet.specs.Sheet.{clip_room, tag_room}
use Rattle.sheet.proofs.Exits.{too_long, not_read, was_read}
use Rattle.sheet.proofs.print_sheet.Goals as goal

pub returns-then-text-gt-TEXT_SIZE : goal.returns-then-text-gt-TEXT_SIZE
returns-then-text-gt-TEXT_SIZE g c =
    let why = ap (λ (n : ℕ). refused_line n 0) c.number.ensures ∙ too_long c.args.text.now (search rules) in
    record { puts = puts_as why c.refused.ensures.puts; sent = sends_as g.O.Write.contents why c.refused.ensures.sent }

pub returns-in-Err : goal.returns-in-Err
returns-in-Err g c =
    let a = c.args in
    let l : length a.tables.now.clips ≡ clip_room = search rules in
    let m : length a.tables.now.tags ≡ tag_room = search rules in
    let e = sym c.parse_media_playlist.ensures.answered ∙ ap parse_answer c.in-Err.is in
    let why = ap (λ (n : ℕ). refused_line n c.in-Err.r.place) c.number-in-Err.ensures ∙ not_read a.text.now (search rules) _ _ (rw (l, m) at e) in
    record { puts = puts_as why c.refused-in-Err.ensures.puts; sent = sends_as g.O.Write.contents why c.refused-in-Err.ensures.sent }

pub returns-in-Ok : goal.returns-in-Ok
returns-in-Ok g c =
    let a = c.args in
    let l : length a.tables.now.clips ≡ clip_room = search rules in
    let m : length a.tables.now.tags ≡ tag_room = search rules in
    let e = sym c.parse_media_playlist.ensures.answered ∙ ap parse_answer c.in-Ok.is in
    let w = c.parse_media_playlist.ensures.clips_after in
    let what = was_read a.text.now (search rules) c.in-Ok.read (rw (l, m) at e) _ _ (rw (l, m) at w) in
    record { puts = puts_as what c.print_clips.ensures.puts; sent = sends_as g.O.Write.contents what c.print_clips.ensures.sent }
