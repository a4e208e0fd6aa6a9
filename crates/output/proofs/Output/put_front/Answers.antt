-- `put_front`: what fits is laid behind what waits. Rests on `piece_waits`, `puts_piece`, `appends_waiting`. Assumes nothing.
use mathlib.Core.Path.{◌≡◌, refl}
use Prim.Native.Nat.{◌+◌, ◌-◌, ◌≤◌}
use native.Mathlib.Omega.{arith}
use lib.ListN.{length, take}
use borrow.Author.Rules.{rules}
use Rattle.std.proofs.Common.{length-take-le}
use Rattle.output.specs.Waiting.{room}
use Rattle.output.proofs.Laws.{piece_waits, puts_piece, appends_waiting}
use Rattle.output.proofs.Output.put_front.Goals as goal

pub returns : goal.returns
returns g c =
    let o = c.args.self.now in
    let piece = c.copy_from_slice.new.self in
    let fit = c.min-fit.result in
    let long : length piece ≡ fit = search rules in
    let here : o.count ≤ length o.buffer = search rules in
    let room_left : length (take o.count o.buffer) + length piece ≤ room = omega (arith, long, length-take-le o.count o.buffer here, c.min-fit.ensures) in
    let waiting = piece_waits o.buffer piece o.count fit (o.count + fit - o.count) here long in
    (piece, search rules, puts_piece piece room_left waiting refl, record { grows = λ h. appends_waiting (g.W.Write.contents o.to.to) (take o.count o.buffer) _ piece waiting })
