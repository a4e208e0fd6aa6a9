-- `put_byte`: a buffer with room takes the byte, a full one starts anew. Rests on `byte_with_room`, `byte_when_full`. Assumes nothing.
use mathlib.Core.Path.{refl}
use native.Mathlib.Omega.{arith}
use Rattle.std.proofs.Common.{length-take-le}
use borrow.Author.Rules.{rules}
use Rattle.output.proofs.Laws.{byte_with_room, byte_when_full, more_wait, sends_with_room, sends_when_full}
use Rattle.output.proofs.Output.put_byte.Goals as goal

pub returns-then-self-lt-ROOM : goal.returns-then-self-lt-ROOM
returns-then-self-lt-ROOM g c =
    let o = c.args.self.now in
    let waiting = byte_with_room o.buffer o.count c.args.byte (search rules) (search rules) in
    record {
      puts = record { waiting = waiting; stays = λ h. refl; room_left = λ h. (more_wait _ _ _ waiting h, refl) };
      sent = record { grows = λ h. sends_with_room (g.W.Write.contents o.to.to) o.buffer o.count c.args.byte (search rules) };
    }

pub returns : goal.returns
returns g c =
    let o = c.args.self.now in
    let full = length-take-le o.count o.buffer (search rules) in
    record {
      puts = record {
        waiting = byte_when_full o.buffer o.count c.args.byte (search rules) (search rules);
        stays = λ h. search rules;
        room_left = λ h. absurd (omega (arith, h, full, c.if-self-lt-ROOM.false));
      };
      sent = record { grows = λ h. sends_when_full _ o.buffer o.count c.args.byte _ (search rules) (search rules) (search rules) };
    }
