-- `uris_in`: the spans of the clips passed so far lie within the text; the first that does not decides. Assumes nothing.
use borrow.Author.Rules.{rules}
use native.Mathlib.Omega.{arith}
use mathlib.Core.Path.{sym}
use Rattle.tables.specs.Layout.{uri_start, uri_end}
use Rattle.tables.specs.Table.{clip_word}
use Rattle.tables.proofs.Every.{every_none, every_step, every_fails}
use Rattle.cue_file.proofs.Kept.{span_passes}
use Rattle.cue_writer.proofs.Weighed.{span_in_lem, span_falls, span_long}
use Rattle.cue_writer.proofs.uris_in.Goals as goal

pub loop-k-init : goal.loop-k-init
loop-k-init c = (search rules, every_none _)

pub returns-then-end-clip_word : goal.returns-then-end-clip_word
returns-then-end-clip_word c =
    let a = c.args in
    let t = a.words.now in
    let k = c.loop-k.k in
    let start = c.clip_word.ensures in
    let end = c.clip_word-end.ensures in
    let falls = span_falls a.text.now (clip_word t k uri_start) (clip_word t k uri_end) (omega (arith, start, end)) in
    sym (every_fails (span_passes a.text.now t) k a.clips (search rules) falls)

pub returns-then-text-end : goal.returns-then-text-end
returns-then-text-end c =
    let a = c.args in
    let t = a.words.now in
    let k = c.loop-k.k in
    let end = c.clip_word-end.ensures in
    let long = span_long a.text.now (clip_word t k uri_start) (clip_word t k uri_end) (omega (arith, end)) in
    sym (every_fails (span_passes a.text.now t) k a.clips (search rules) long)

pub loop-k-preserved : goal.loop-k-preserved
loop-k-preserved c =
    let a = c.args in
    let t = a.words.now in
    let k = c.loop-k.k in
    let start = c.clip_word.ensures in
    let end = c.clip_word-end.ensures in
    let in-text = span_in_lem a.text.now (clip_word t k uri_start) (clip_word t k uri_end) (omega (arith, start, end)) (omega (arith, end)) in
    (search rules, every_step (span_passes a.text.now t) k c.loop-k.invariant.1 in-text)
