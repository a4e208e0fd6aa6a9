-- `put_bytes`: a front of the bytes is put. Rests on `puts_then`, `sends_then`, `front_grows`, `front_whole`. Assumes nothing.
use mathlib.Core.Path.{◌≡◌}
use mathlib.Core.List.{◌∷◌}
use lib.ListN.{length}
use borrow.Author.Rules.{rules}
use Rattle.output.proofs.Laws.{puts_then, puts_as, sends_then, sends_as, rest_smaller, front_grows, front_whole}
use Rattle.output.proofs.Output.put_bytes.Goals as goal

pub loop-byte-smaller : goal.loop-byte-smaller
loop-byte-smaller g c =
    let first : c.loop-byte.rest.now ≡ c.in-Some.byte.now ∷ c.in-Some.more.now = search rules in
    let next = c.put_front-rest-in-Some.ensures in
    rest_smaller _ _ next.0 _ _ first next.1

pub loop-byte-preserved : goal.loop-byte-preserved
loop-byte-preserved g c =
    let contents = g.W.Write.contents in
    let so_far = c.loop-byte.invariant in
    let byte = c.put_byte.ensures in
    let next = c.put_front-rest-in-Some.ensures in
    let first : c.loop-byte.rest.now ≡ c.in-Some.byte.now ∷ c.in-Some.more.now = search rules in
    let more = puts_then byte.puts next.2 in
    (_, front_grows _ _ next.0 _ _ first next.1 _ so_far.0 so_far.1, puts_then so_far.2 more, sends_then contents more so_far.3 (sends_then contents next.2 byte.sent next.3))

pub returns-clause-puts : goal.returns-clause-puts
returns-clause-puts g c =
    let so_far = c.loop-byte.invariant in
    let none : length c.loop-byte.rest.now ≡ 0 = search rules in
    puts_as (front_whole _ so_far.0 _ so_far.1 none) so_far.2

pub returns-clause-sent : goal.returns-clause-sent
returns-clause-sent g c =
    let so_far = c.loop-byte.invariant in
    let none : length c.loop-byte.rest.now ≡ 0 = search rules in
    sends_as g.W.Write.contents (front_whole _ so_far.0 _ so_far.1 none) so_far.3
