-- `Counts::step` meets its contract: a URI and an EXTINF by what `common_end` ensures, any other tag by what `media_playlist_tag` does, each with the blanks
-- behind it. The counts fit, as the step ends beyond them. Only `media_playlist_tag` writes to the memory. Assumes nothing.
use mathlib.Core.Path.{◌≡◌, refl, sym, ◌∙◌, ap}
use mathlib.Core.List.{List}
use Prim.Native.Nat.{ℕ}
use native.Mathlib.Omega.{arith}
use Rattle.text.specs.Nom.{Span, ok, run_end, is_multispace}
use Rattle.lengths.specs.Duration.{Extinf, is_long}
use Rattle.tags.specs.Tags.{timed, Tag, of_clip, uri, media_playlist_tag, step}
use Rattle.steps.specs.Inside.Answers.{common_end_of}
use Rattle.tags.specs.Answers.{tag_of, tag_res}
use Rattle.tags.proofs.Takes.{takes_step}
use Rattle.steps.proofs.MostLines.{common_ends}
use Rattle.assembly.specs.Assembly.{counts_after}
use Rattle.media.specs.declared.state.Counts.{Counts}
use Rattle.media.specs.declared.reading.CountStep.{CountStep}
use Rattle.media.specs.declared.reading.CountStep.TheVariants as stepᵛ
use Rattle.media.specs.Inside.Passes.{counts_seen, OnSays, CountSays}
use Rattle.media.proofs.Passes.{TookTo, took_on}
use Rattle.media.proofs.Steps.{took_to, no_step, long_refused, short_taken, other_untimed}
use Rattle.media.proofs.state.Counts.step.Goals as goal
use Rattle.media.proofs.state.Counts.step.Goals.{In-Extinf, In-Ok, In-Uri}

-- what is made of a tag that was taken says all that a step does
handed-on : (r : CountStep) (c d : Counts) (text : List ℕ) (t : Tag) → TookTo step text c.at t d.at → counts_seen d ≡ counts_after (counts_seen c) t → OnSays r t d → CountSays step r c text
handed-on stepᵛ.Stop c d text t k go on = absurd on
handed-on (stepᵛ.Refused r) c d text t k go on = (t, d.at, k.taken, on)
handed-on (stepᵛ.Next e) c d text t k go on = (t, rw on.0 k.taken, rw on.0 go, on.1, on.2)
handed-on (stepᵛ.Told h e) c d text t k go on = (rw (on.0, ← on.1) k.taken, rw on.0 (go ∙ ap (counts_after (counts_seen c)) on.1))

-- ---- the step that each kind of line takes, up to the place behind its blanks
said-uri : (c : In-Uri) → (u : Span) × (media_playlist_tag c.args.text.now c.args.self.at ≡ ok (uri u) c.in-Uri.after)
said-uri c = rw c.in-Uri.is at (common_ends _ _ c.common_end.ensures)

took-uri : (c : In-Uri) (n : ℕ) → n ≡ run_end is_multispace c.args.text.now c.in-Uri.after
    → TookTo step c.args.text.now c.args.self.at (uri (said-uri c).0) n
took-uri c n = took_to _ _ _ _ n (said-uri c).1

said-extinf : (c : In-Extinf)
    → (e : Extinf) × (media_playlist_tag c.args.text.now c.args.self.at ≡ ok (of_clip (timed e)) c.in-Extinf.after) × (c.in-Extinf.too_many ≡ is_long e)
said-extinf c = rw c.in-Extinf.is at (common_ends _ _ c.common_end.ensures)

took-extinf : (c : In-Extinf) (n : ℕ) → n ≡ run_end is_multispace c.args.text.now c.in-Extinf.after
    → TookTo step c.args.text.now c.args.self.at (of_clip (timed (said-extinf c).0)) n
took-extinf c n = took_to _ _ _ _ n (said-extinf c).1

said-tag : (c : In-Ok) → media_playlist_tag c.args.text.now c.args.self.at ≡ ok (tag_of c.in-Ok.t) c.in-Ok.after
said-tag c = sym (c.media_playlist_tag.ensures c.requires.remembers_maps).0 ∙ ap tag_res c.in-Ok.is

took-tag : (c : In-Ok) (n : ℕ) → n ≡ run_end is_multispace c.args.text.now c.in-Ok.after
    → TookTo step c.args.text.now c.args.self.at (tag_of c.in-Ok.t) n
took-tag c n = took_to _ _ _ _ n (said-tag c)

pub after_uri-requires : goal.after_uri-requires
after_uri-requires c =
    let pre = c.requires.counting in
    let on = took_on takes_step (took-uri (goal.at.after_uri-requires c).In-Uri _ c.multispace0-next.ensures) in
    (omega (arith, on, pre.clips), omega (arith, on, pre.tags))

pub returns-then-too_many : goal.returns-then-too_many
returns-then-too_many c =
    let said = said-extinf (goal.at.returns-then-too_many c).In-Extinf in
    record {
      count_says = (of_clip (timed said.0), _, (took-extinf (goal.at.returns-then-too_many c).In-Extinf _ refl).taken, long_refused said.0 (sym said.2 ∙ c.if-too_many.true));
      remembers_maps_2 = c.requires.remembers_maps;
    }

pub next-requires : goal.next-requires
next-requires c =
    let pre = c.requires.counting in
    let on = took_on takes_step (took-tag (goal.at.next-requires c).In-Ok _ c.multispace0-next-in-Ok.ensures) in
    (omega (arith, on, pre.clips), omega (arith, on, pre.tags))

pub counted_on-requires : goal.counted_on-requires
counted_on-requires c = other_untimed _ _ _ _ (ap common_end_of (sym c.in-Other.is) ∙ c.common_end.ensures) (said-tag (goal.at.counted_on-requires c).In-Ok)

pub returns-in-Uri : goal.returns-in-Uri
returns-in-Uri c =
    let u = (said-uri (goal.at.returns-in-Uri c).In-Uri).0 in
    record {
      count_says = (uri u, (took-uri (goal.at.returns-in-Uri c).In-Uri _ (c.after_uri.ensures.0 ∙ c.multispace0-next.ensures)).taken, c.after_uri.ensures.1 u, refl, λ h. refl);
      remembers_maps_2 = c.requires.remembers_maps;
    }

pub returns-else-too_many : goal.returns-else-too_many
returns-else-too_many c =
    let said = said-extinf (goal.at.returns-else-too_many c).In-Extinf in
    let fine = short_taken said.0 (sym said.2 ∙ c.if-too_many.false) in
    record {
      count_says = (of_clip (timed said.0), (took-extinf (goal.at.returns-else-too_many c).In-Extinf _ c.multispace0.ensures).taken, refl, fine, λ h. refl);
      remembers_maps_2 = c.requires.remembers_maps;
    }

pub returns-in-Err : goal.returns-in-Err
returns-in-Err c =
    let read = c.media_playlist_tag.ensures c.requires.remembers_maps in
    record {
      count_says = (_, no_step _ _ _ (sym read.0 ∙ ap tag_res c.in-Err.is));
      remembers_maps_2 = read.1;
    }

pub returns-in-Ok : goal.returns-in-Ok
returns-in-Ok c =
    let k = took-tag (goal.at.returns-in-Ok c).In-Ok _ (c.next.ensures.0 ∙ c.multispace0-next-in-Ok.ensures) in
    record {
      count_says = handed-on c.counted_on.result c.args.self c.next.result c.args.text.now _ k c.next.ensures.1 c.counted_on.ensures;
      remembers_maps_2 = (c.media_playlist_tag.ensures c.requires.remembers_maps).1;
    }
