-- Tables of `most_clips` and `most_tags` records are never too short, by any rule of a step for which a URI takes two bytes, unless the text ends with it,
-- and an unknown tag seven: so the text's length bounds how many there are. By induction along the steps. Assumes nothing.
use Prim.Native.Nat.{ℕ, zero, suc, ◌+◌, ◌-◌, ◌*◌, ◌/◌, ◌≤◌, ◌<◌}
use mathlib.Core.Path.{◌≡◌, refl}
use mathlib.Core.Bool.{Bool, true, false}
use mathlib.Core.List.{List, [], ◌∷◌}
use mathlib.Core.Option.{Option, none, some}
use native.Mathlib.Omega.{arith}
use lib.Dec.{leb, ltb, eqb}
use lib.ListN.{length}
use borrow.Author.Tests.{leb-true, le-leb, ltb-true, ltb-false}
use Rattle.text.specs.Nom.{Res, fail, ok, Parser, Span, tagged, is_multispace}
use Rattle.text.specs.Utf8.{utf8_end}
use Rattle.text.specs.Many.{many0, many_turns, go_on, items}
use Rattle.text.specs.BasicTags.{ExtTag}
use Rattle.text.proofs.Laws.{run_from}
use Rattle.text.proofs.Many.{items_push}
use Rattle.text.proofs.Takes.{Takes}
use Rattle.text.proofs.Blanks.{NotBlank, not_blank_after}
use Rattle.lengths.specs.Duration.{Extinf, ns, extinf}
use Rattle.lengths.specs.Duration as lengths
use Rattle.tables.specs.Layout.{clip_words, tag_words}
use Rattle.tables.specs.Refusal.{Answer, refused, given, or_refuse, answer_number, text_too_long, not_utf8, no_header, clip_table_short, tag_table_short}
use Rattle.verdict.specs.Verdict.{Verdict, master, media}
use Rattle.tables.specs.Layout.{text_limit}
use Rattle.verdict.specs.Calls.{header, admitted, and_then, verdict_of}
use Rattle.tags.specs.Tags.{timed_of, Tag, of_head, of_clip, unknown, comment, uri, left_out, Taken, took}
use Rattle.tags.specs.Tags as tags
use Rattle.tags.proofs.Takes.{takes_step}
use Rattle.tags.proofs.Least.{step_ends, uri_takes_two, unknown_takes_seven}
use Rattle.assembly.specs.Assembly.{State, begin, next, clip_in, tag_in, last_of, clip_count, kept_tags}
use Rattle.assembly.proofs.Counts.{met_tags, next_clips, next_tags, kept_met}
use Rattle.media.specs.Calls.{first_step, steps_by, stop_by, steps_of, stop_of, unless_master, refused_extinf, refused_tag, unless, unless_met, Read, read_from, unless_short, answer_by, parse_media_playlist}
use Rattle.media.specs.Most.{least_clip, least_tag, most_clips, most_tags}

-- ---- the fewest bytes that a step takes: it moves on within the text and ends where no blank stands; and those of a URI and of an unknown tag
pub record Least (step : Parser Taken) : Type 0 where
  pub moves : Takes 1 step
  pub ends : (text : List ℕ) (at n from : ℕ) (t : Tag) → step text at ≡ ok (took from t) n → NotBlank text n
  pub of_uri : (text : List ℕ) (at n from : ℕ) (u : Span) → step text at ≡ ok (took from (uri u)) n → NotBlank text at → n < length text → at + least_clip ≤ n
  pub of_unknown : (text : List ℕ) (at n from : ℕ) (t : ExtTag) → step text at ≡ ok (took from (unknown t)) n → at + least_tag ≤ n

pub least_step : Least tags.step
least_step = record { moves = takes_step; ends = step_ends; of_uri = uri_takes_two; of_unknown = unknown_takes_seven }

-- ---- what the text's length bounds
module _ (step : Parser Taken) (least : Least step) (text : List ℕ) where
  -- the step from `at` takes t, up to n
  abbrev Took : ℕ → Tag → ℕ → Type 0
  Took at t n = (from : ℕ) × (step text at ≡ ok (took from t) n)

  -- a count that grows by no more than a step takes off the room ahead of it
  module _ (count : State → ℕ) (room : ℕ → ℕ) (pays : (at n : ℕ) (s : State) (t : Tag) → NotBlank text at → Took at t n → count (next s t) + room n ≤ count s + room at) where
    turns_bound : (f at : ℕ) (s : State) → NotBlank text at → count (last_of s (items (many_turns step text f at))) ≤ count s + room at
    unfolding many_turns last_of
    turns_bound zero at s b = omega arith
    turns_bound (suc f) at s b = go (step text at) refl (turns_bound f)
      where
        go : (r : Res Taken) → step text at ≡ r → ((n : ℕ) (s : State) → NotBlank text n → count (last_of s (items (many_turns step text f n))) ≤ count s + room n)
            → count (last_of s (items (go_on r at (λ n. many_turns step text f n)))) ≤ count s + room at
        go (fail why) e ih = omega arith
        go (ok (took from t) n) e ih =
            rw (items_push (took from t) (many_turns step text f n)) (omega (arith, ih n (next s t) (least.ends text at n from t e), pays at n s t b (from, e)))

    steps_bound : count (last_of begin (steps_by step text)) ≤ count begin + room (first_step text)
    unfolding first_step many0
    steps_bound = turns_bound (length text - first_step text) (first_step text) begin (not_blank_after text (length header))

  -- for how many clips, and for how many unknown tags, there is room from a place on; at the text's end for none
  abbrev clips_ahead : ℕ → ℕ
  clips_ahead at = (length text + 1 - at) / least_clip

  abbrev tags_ahead : ℕ → ℕ
  tags_ahead at = (length text - at) / least_tag

  module _ (at n : ℕ) where
    moves : (t : Tag) → Took at t n → (at < n) × (n ≤ length text)
    moves t k = let w = least.moves text at n (took k.0 t) k.1 in (omega (arith, w.0), w.1 (omega (arith, w.0)))

    clip_pays : (s : State) (t : Tag) → NotBlank text at → Took at t n → length (clip_in s t) + clips_ahead n ≤ clips_ahead at
    clip_pays s (of_head t) b k = omega (arith, (moves (of_head t) k).0)
    clip_pays s (of_clip t) b k = omega (arith, (moves (of_clip t) k).0)
    clip_pays s (unknown t) b k = omega (arith, (moves (unknown t) k).0)
    clip_pays s (comment t) b k = omega (arith, (moves (comment t) k).0)
    clip_pays s (left_out t) b k = omega (arith, (moves (left_out t) k).0)
    clip_pays s (uri u) b k = go (ltb n (length text)) refl
      where
        go : (more : Bool) → ltb n (length text) ≡ more → 1 + clips_ahead n ≤ clips_ahead at
        go true q = omega (arith, least.of_uri text at n k.0 u k.1 b (ltb-true n (length text) q), (moves (uri u) k).1)
        go false q = omega (arith, ltb-false n (length text) q, (moves (uri u) k).0, (moves (uri u) k).1)

    tag_pays : (t : Tag) → Took at t n → length (tag_in t) + tags_ahead n ≤ tags_ahead at
    tag_pays (of_head t) k = omega (arith, (moves (of_head t) k).0)
    tag_pays (of_clip t) k = omega (arith, (moves (of_clip t) k).0)
    tag_pays (unknown t) k = omega (arith, least.of_unknown text at n k.0 t k.1, (moves (unknown t) k).1)
    tag_pays (comment t) k = omega (arith, (moves (comment t) k).0)
    tag_pays (uri u) k = omega (arith, (moves (uri u) k).0)
    tag_pays (left_out t) k = omega (arith, (moves (left_out t) k).0)

  first_behind : length header ≤ first_step text
  unfolding first_step
  first_behind = run_from is_multispace text (length header)

  -- for every text
  pub clips_bound : least_clip * clip_count (last_of begin (steps_by step text)) ≤ length text + 1 - length header
  clips_bound =
      let paid = steps_bound clip_count clips_ahead (λ at n s t b k. omega (arith, next_clips s t, clip_pays at n s t b k)) in
      omega (arith, paid, first_behind)

  pub tags_bound : least_tag * kept_tags (last_of begin (steps_by step text)) ≤ length text - length header
  tags_bound =
      let met = steps_bound met_tags tags_ahead (λ at n s t b k. omega (arith, next_tags s t, tag_pays at n t k)) in
      omega (arith, met, first_behind, kept_met (last_of begin (steps_by step text)))

-- ---- the refusals before the tables' are 1 to 6
abbrev pub Early : {A : Type 0} → Answer A → Type 0
Early x = answer_number x < 7

module _ {A : Type 0} (y : Answer A) where
  pub early_admitted : (text : List ℕ) → (length text ≤ text_limit → Early y) → Early (and_then (admitted text) y)
  unfolding admitted
  early_admitted text k = go (leb (length text) text_limit) (eqb (utf8_end text 0) (length text)) (tagged header text 0) refl
    where
      go : (a b c : Bool) → leb (length text) text_limit ≡ a
          → Early (and_then (or_refuse a text_too_long 0 (or_refuse b not_utf8 (utf8_end text 0) (or_refuse c no_header 0 (given tt)))) y)
      go false b c q = omega arith
      go true false c q = omega arith
      go true true false q = omega arith
      go true true true q = k (leb-true (length text) text_limit q)

  module _ (early : Early y) where
    pub early_media : (v : Verdict) → Early (unless_master v y)
    early_media (master hash) = omega arith
    early_media media = early

    early_extinf : (e : Option Extinf) (at : ℕ) → Early (unless (refused_extinf e) at y)
    early_extinf none at = early
    early_extinf (some (extinf (ns x) title)) at = early
    early_extinf (some (extinf lengths.too_many_digits title)) at = omega arith

    early_tag : (t : Tag) (at : ℕ) → Early (unless (refused_tag t) at y)
    early_tag (of_head t) at = early
    early_tag (of_clip t) at = early_extinf (timed_of t) at
    early_tag (unknown t) at = early
    early_tag (comment t) at = early
    early_tag (uri u) at = early
    early_tag (left_out t) at = omega arith

pub early_met : {A : Type 0} (y : Answer A) → Early y → (ts : List Taken) → Early (unless_met ts y)
unfolding unless_met
early_met y early [] = early
early_met y early (took at t ∷ ts) = early_tag (unless_met ts y) (early_met y early ts) t at

-- ---- tables of that many records have room for all of it
module _ (step : Parser Taken) (least : Least step) (text : List ℕ) (clipRoom tagRoom : ℕ) (clips-fit : most_clips * clip_words ≤ clipRoom) (tags-fit : most_tags * tag_words ≤ tagRoom) where
  enough_room : {A : Type 0} (answer : Answer A) → length text ≤ text_limit → unless_short (last_of begin (steps_by step text)) clipRoom tagRoom answer ≡ answer
  enough_room answer short =
      let s = last_of begin (steps_by step text) in
      let clips : clip_count s * clip_words ≤ clipRoom = omega (arith, clips_bound step least text) in
      let tags : kept_tags s * tag_words ≤ tagRoom = omega (arith, tags_bound step least text) in
      rw (le-leb (clip_count s * clip_words) clipRoom clips, le-leb (kept_tags s * tag_words) tagRoom tags)

  below_seven : Early (answer_by step text clipRoom tagRoom)
  below_seven =
      let answer : Answer Read = given (read_from (last_of begin (steps_by step text)) (stop_by step text)) in
      early_admitted _ text (λ short. early_media _ (early_met _ (rw (enough_room answer short) (omega arith)) (steps_by step text)) (verdict_of text))

  -- a text above the limit is refused by 1
  pub never_refused : (place : ℕ) → (answer_by step text clipRoom tagRoom ≡ refused clip_table_short place → ⊥) × (answer_by step text clipRoom tagRoom ≡ refused tag_table_short place → ⊥)
  never_refused place =
      let few = below_seven in
      (λ e. omega (arith, rw e at few), λ e. omega (arith, rw e at few))

-- by the call's own step
pub never_short : (text : List ℕ) (clipRoom tagRoom : ℕ) → most_clips * clip_words ≤ clipRoom → most_tags * tag_words ≤ tagRoom
    → (place : ℕ) → (parse_media_playlist text clipRoom tagRoom ≡ refused clip_table_short place → ⊥) × (parse_media_playlist text clipRoom tagRoom ≡ refused tag_table_short place → ⊥)
unfolding parse_media_playlist steps_of stop_of
never_short = never_refused tags.step least_step
