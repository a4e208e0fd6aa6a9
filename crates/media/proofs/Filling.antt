-- What the loop of `fill` keeps, by any rule of a step that moves on within the text: what is left, laid from here, is the whole. Rests on what one step
-- lays (`Fills`) and on where it goes (`Passes`). Assumes nothing.
use mathlib.Core.Path.{◌≡◌, refl, ◌∙◌}
use mathlib.Core.List.{List}
use Prim.Native.Nat.{ℕ, ◌+◌, ◌-◌, ◌*◌, ◌≤◌}
use native.Mathlib.Nat.{sub-zero}
use native.Mathlib.Omega.{arith}
use lib.ListN.{length, take, length-append}
use lib.Seq.{sets, length-sets, take-nil}
use Rattle.text.specs.Why.{Why}
use Rattle.text.specs.Nom.{Parser, fail}
use Rattle.text.proofs.Many.{many_stop}
use Rattle.text.proofs.Takes.{Takes, takes_falls}
use Rattle.tables.specs.Layout.{clip_words, tag_words}
use Rattle.tags.specs.Tags.{Tag, Taken}
use Rattle.assembly.specs.Assembly.{State, begin, next, clip_in, tag_in, clips_of, tags_of, clip_count}
use Rattle.assembly.specs.Words.{clips_words, tags_words}
use Rattle.assembly.proofs.Records.{clips_words_length}
use Rattle.assembly.proofs.Counts.{met_tags, next_clips}
use Rattle.media.specs.Calls.{first_step}
use Rattle.media.specs.Inside.Passes.{held_of, clips_put, tags_put, clips_laid, tags_laid, Fillable, Filled}
use Rattle.media.proofs.Fills.{clip_put, tag_put, clips_took, clips_lay, tags_lay}
use Rattle.media.proofs.Passes.{steps_from, TookTo, took_steps, Within, within_begin, within_next}

module _ (step : Parser Taken) where
  -- the words that are left at a state and a place: of the clips, and of the tags that are kept
  abbrev pub clips_left : List ℕ → State → ℕ → List ℕ
  clips_left text s at = clips_words (clips_of s (steps_from step text at))

  abbrev pub tags_left : List ℕ → ℕ → State → ℕ → List ℕ
  tags_left text kept s at = tags_words (take (kept - met_tags s) (tags_of (steps_from step text at)))

  -- the counts are within the place, the tables as long as they were, with room for what is left; and that, laid from here, is the whole
  pub record Filling (text clips₀ tags₀ : List ℕ) (kept : ℕ) (clips tags : List ℕ) (s : State) (at : ℕ) : Type 0 where
    pub within : Within at s
    pub clips_length : length clips ≡ length clips₀
    pub tags_length : length tags ≡ length tags₀
    pub clips_room : clip_count s * clip_words + length (clips_left text s at) ≤ length clips
    pub tags_room : kept * tag_words ≤ length tags
    pub clips_left_lem : sets clips (clip_count s * clip_words) (clips_left text s at) ≡ sets clips₀ 0 (clips_laid step text)
    pub tags_left_lem : sets tags (met_tags s * tag_words) (tags_left text kept s at) ≡ sets tags₀ 0 (tags_laid step text kept)

pub filling_starts : {step : Parser Taken} {text clips tags : List ℕ} {at kept : ℕ} → at ≡ first_step text → Fillable step text kept clips tags → Filling step text clips tags kept clips tags begin at
filling_starts {at = at} p f = record {
  within = within_begin at;
  clips_length = refl;
  tags_length = refl;
  clips_room = rw p (omega (arith, f.clips_room));
  tags_room = f.tags_room;
  clips_left_lem = rw p;
  tags_left_lem = rw (p, sub-zero);
}

module _ {step : Parser Taken} (takes : Takes 1 step) {text clips₀ tags₀ : List ℕ} {kept : ℕ} {clips tags : List ℕ} {s : State} {at : ℕ} (f : Filling step text clips₀ tags₀ kept clips tags s at) where
  module _ {t : Tag} {n : ℕ} (k : TookTo step text at t n) where
    words_more : length (clips_left step text s at) ≡ length (clips_words (clip_in s t)) + length (clips_left step text (next s t) n)
    words_more = rw (took_steps takes k, clips_took, length-append)

    pub filling_on : {clips' tags' : List ℕ} → clips' ≡ clips_put (held_of s) t clips → tags' ≡ tags_put (held_of s) kept t tags
        → Filling step text clips₀ tags₀ kept clips' tags' (next s t) n
    filling_on {clips'} {tags'} x y =
        let p : clips' ≡ sets clips (clip_count s * clip_words) (clips_words (clip_in s t)) = x ∙ clip_put s t clips (omega (arith, f.clips_room, words_more)) in
        let q : tags' ≡ sets tags (met_tags s * tag_words) (tags_words (take (kept - met_tags s) (tag_in t))) = y ∙ tag_put s kept tags f.tags_room t in
        let clips_same : length clips' ≡ length clips = rw p (length-sets clips (clip_count s * clip_words) (clips_words (clip_in s t))) in
        let tags_same : length tags' ≡ length tags = rw q (length-sets tags (met_tags s * tag_words) (tags_words (take (kept - met_tags s) (tag_in t)))) in
        record {
          within = within_next takes k f.within;
          clips_length = clips_same ∙ f.clips_length;
          tags_length = tags_same ∙ f.tags_length;
          clips_room = omega (arith, f.clips_room, words_more, next_clips s t, clips_words_length (clip_in s t));
          tags_room = omega (arith, f.tags_room);
          clips_left_lem = rw (p, ← clips_lay s at t) (rw (took_steps takes k) at f.clips_left_lem);
          tags_left_lem = rw (q, ← tags_lay s at t) (rw (took_steps takes k) at f.tags_left_lem);
        }

  pub filling_ends : (why : Why) → step text at ≡ fail why → Filled step text kept clips₀ tags₀ clips tags
  unfolding clips_of tags_of clips_words tags_words
  filling_ends why e =
      let none = many_stop step text (takes_falls 0 step takes text) at why e in
      record { clips_filled = rw none at f.clips_left_lem; tags_filled = rw (none, take-nil (kept - met_tags s)) at f.tags_left_lem }
