-- `State::step` meets its contract: a URI and an EXTINF by what `common_line` ensures, any other tag by what `media_playlist_tag` does, each with the blanks
-- behind it. A URI stores its clip and no tag, an EXTINF stores nothing. The counts fit, as the step ends beyond them. Only `media_playlist_tag`
-- writes to the memory. Assumes nothing.
use mathlib.Core.Path.{◌≡◌, refl, sym, ◌∙◌, ap}
use Prim.Native.Nat.{ℕ}
use native.Mathlib.Omega.{arith}
use Rattle.text.specs.Nom.{ok, run_end, is_multispace}
use Rattle.text.specs.Answers.{span_of}
use Rattle.lengths.specs.Answers.{extinf_of}
use Rattle.tags.specs.Tags.{timed, Tag, of_clip, uri, media_playlist_tag, step}
use Rattle.tags.specs.Answers.{tag_of, tag_res}
use Rattle.tags.proofs.Takes.{takes_step}
use Rattle.steps.proofs.MostLines.{common_takes}
use Rattle.media.proofs.Passes.{TookTo, took_on}
use Rattle.media.proofs.Steps.{took_to, no_step}
use Rattle.media.proofs.state.State.step.Goals as goal
use Rattle.media.proofs.state.State.step.Goals.{In-Extinf, In-Ok, In-Uri}

-- ---- the step that each kind of line takes, up to the place behind its blanks
abbrev tag-uri : In-Uri → Tag
tag-uri c = uri (span_of c.in-Uri.u)

took-uri : (c : In-Uri) (n : ℕ) → n ≡ run_end is_multispace c.args.text.now c.in-Uri.after
    → TookTo step c.args.text.now c.args.self.counts.at (tag-uri c) n
took-uri c n =
    let said : media_playlist_tag c.args.text.now c.args.self.counts.at ≡ ok (tag-uri c) c.in-Uri.after = rw c.in-Uri.is at (common_takes _ _ c.common_line.ensures) in
    took_to _ _ _ _ n said

abbrev tag-extinf : In-Extinf → Tag
tag-extinf c = of_clip (timed (extinf_of c.in-Extinf.e))

took-extinf : (c : In-Extinf) (n : ℕ) → n ≡ run_end is_multispace c.args.text.now c.in-Extinf.after
    → TookTo step c.args.text.now c.args.self.counts.at (tag-extinf c) n
took-extinf c n =
    let said : media_playlist_tag c.args.text.now c.args.self.counts.at ≡ ok (tag-extinf c) c.in-Extinf.after = rw c.in-Extinf.is at (common_takes _ _ c.common_line.ensures) in
    took_to _ _ _ _ n said

took-tag : (c : In-Ok) (n : ℕ) → n ≡ run_end is_multispace c.args.text.now c.in-Ok.after
    → TookTo step c.args.text.now c.args.self.counts.at (tag_of c.in-Ok.t) n
took-tag c n = took_to _ _ _ _ n (sym (c.media_playlist_tag.ensures c.requires.remembers_maps).0 ∙ ap tag_res c.in-Ok.is)

pub after_uri-requires : goal.after_uri-requires
after_uri-requires c =
    let pre = c.requires.counting in
    let on = took_on takes_step (took-uri (goal.at.after_uri-requires c).In-Uri _ c.multispace0-next.ensures) in
    (omega (arith, on, pre.clips), omega (arith, on, pre.tags))

pub put-requires : goal.put-requires
put-requires c = omega (arith, c.requires.counting.tags)

pub next-requires : goal.next-requires
next-requires c =
    let pre = c.requires.counting in
    let on = took_on takes_step (took-tag (goal.at.next-requires c).In-Ok _ c.multispace0-next-in-Ok.ensures) in
    (omega (arith, on, pre.clips), omega (arith, on, pre.tags))

pub returns-in-Uri : goal.returns-in-Uri
returns-in-Uri c =
    let t = (goal.at.returns-in-Uri c).In-Uri in record {
      step_says = (
        tag-uri t,
        record {
          takes = (took-uri t _ (c.after_uri.ensures.0 ∙ c.multispace0-next.ensures)).taken;
          goes_on = c.after_uri.ensures.1 (span_of c.in-Uri.u);
          clips_put_lem = c.put_clip.ensures;
          tags_put_lem = refl;
        },
      );
      remembers_maps_2 = c.requires.remembers_maps;
    }

pub returns-in-Extinf : goal.returns-in-Extinf
returns-in-Extinf c =
    let t = (goal.at.returns-in-Extinf c).In-Extinf in record {
      step_says = (
        tag-extinf t,
        record {
          takes = (took-extinf t _ (c.after_extinf.ensures.0 ∙ c.multispace0-next-in-Extinf.ensures)).taken;
          goes_on = c.after_extinf.ensures.1;
          clips_put_lem = refl;
          tags_put_lem = refl;
        },
      );
      remembers_maps_2 = c.requires.remembers_maps;
    }

pub returns-in-Err : goal.returns-in-Err
returns-in-Err c =
    let read = c.media_playlist_tag.ensures c.requires.remembers_maps in
    record {
      step_says = (_, no_step _ _ _ (sym read.0 ∙ ap tag_res c.in-Err.is), refl, refl);
      remembers_maps_2 = read.1;
    }

pub returns-in-Ok : goal.returns-in-Ok
returns-in-Ok c =
    let put = c.put.ensures in record {
      step_says = (
        tag_of c.in-Ok.t,
        record {
          takes = (took-tag (goal.at.returns-in-Ok c).In-Ok _ (c.next.ensures.0 ∙ c.multispace0-next-in-Ok.ensures)).taken;
          goes_on = c.next.ensures.1;
          clips_put_lem = put.clips_after;
          tags_put_lem = put.tags_after;
        },
      );
      remembers_maps_2 = (c.media_playlist_tag.ensures c.requires.remembers_maps).1;
    }
