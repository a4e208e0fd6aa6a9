-- The call's own step, as the passes make it: where there is no tag there is none, and else it is the tag with the blanks behind it. What is no common
-- line holds no EXTINF. Assumes nothing.
use mathlib.Core.Path.{◌≡◌, refl}
use mathlib.Core.Bool.{Bool, true, false}
use mathlib.Core.List.{List}
use mathlib.Core.Option.{Option, none, some}
use Prim.Native.Nat.{ℕ}
use Rattle.text.specs.Why.{Why}
use Rattle.text.specs.Nom.{fail, ok, bytes, tagged, run_end, is_multispace}
use Rattle.lengths.specs.Duration.{Extinf, extinf, ns, is_long}
use Rattle.lengths.specs.Duration as lengths
use Rattle.tables.specs.Refusal.{too_many_digits}
use Rattle.tags.specs.Tags.{timed, timed_of, Tag, of_head, of_clip, unknown, comment, uri, left_out, media_playlist_tag, step}
use Rattle.steps.specs.Inside.Common.{common_clip, common_in, common_at, end_in, ends_other}
use Rattle.media.specs.Calls.{refused_tag}
use Rattle.media.specs.Inside.Passes.{timed_in}
use Rattle.media.proofs.Passes.{TookTo}

module _ (text : List ℕ) (at : ℕ) where
  pub took_to : (t : Tag) (end n : ℕ) → media_playlist_tag text at ≡ ok t end → n ≡ run_end is_multispace text end → TookTo step text at t n
  unfolding step
  took_to t end n e p = record { taken = rw (e, p) }

  pub no_step : (why : Why) → media_playlist_tag text at ≡ fail why → step text at ≡ fail why
  unfolding step
  no_step why e = rw e

-- an EXTINF is refused where its length has too many digits, and only there
pub long_refused : (e : Extinf) → is_long e ≡ true → refused_tag (of_clip (timed e)) ≡ some too_many_digits
long_refused (extinf (ns x) title) h = cc
long_refused (extinf lengths.too_many_digits title) h = refl

pub short_taken : (e : Extinf) → is_long e ≡ false → refused_tag (of_clip (timed e)) ≡ none
short_taken (extinf (ns x) title) h = refl
short_taken (extinf lengths.too_many_digits title) h = cc

-- what is told as other is no EXTINF
other_clip : (o : Option Extinf) (n : ℕ) → ends_other ≡ end_in (common_clip o n) → o ≡ none
other_clip none n e = refl
other_clip (some x) n e = cc

other_in : (hash : Bool) (t : Tag) (n : ℕ) → ends_other ≡ end_in (common_in hash (ok t n)) → timed_in t ≡ none
other_in hash (of_head t) n e = refl
other_in hash (of_clip t) n e = other_clip (timed_of t) n e
other_in hash (unknown t) n e = refl
other_in hash (comment t) n e = refl
other_in hash (uri u) n e = refl
other_in hash (left_out t) n e = refl

pub other_untimed : (text : List ℕ) (at : ℕ) (t : Tag) (n : ℕ) → ends_other ≡ end_in (common_at text at) → media_playlist_tag text at ≡ ok t n → timed_in t ≡ none
other_untimed text at t n e q = other_in (tagged (bytes "#") text at) t n (rw q at e)
