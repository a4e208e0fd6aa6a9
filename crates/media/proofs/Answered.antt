-- What a call answers, by any rule of a step, from what it knows at each exit: each refusal in its turn leaves both tables, and what is given has filled
-- them. Rests on chains of refusals (`tables`, `Refusals`) and on what the passes come to. Assumes nothing.
use mathlib.Core.Path.{◌≡◌, refl, sym, ◌∙◌}
use mathlib.Core.Bool.{true, false}
use mathlib.Core.List.{List, [], ◌∷◌}
use mathlib.Core.Option.{Option, none, some}
use Prim.Native.Nat.{ℕ, ◌≤◌}
use native.Mathlib.Omega.{arith}
use lib.ListN.{length, take, length-take}
use Rattle.text.specs.Nom.{Parser}
use Rattle.text.specs.BasicTags.{ExtTag}
use Rattle.tables.specs.Layout.{clip_words, tag_words}
use Rattle.tables.specs.Refusal.{Refusal, Answer, refused, given, clip_table_short, tag_table_short}
use Rattle.tables.specs.Table.{clips_fit, tags_fit, fits}
use Rattle.tables.proofs.Records.{fits_words}
use Rattle.tables.proofs.Refusals.{Front, front_then, given_refuses}
use Rattle.tables.proofs.Sets.{sets_over}
use Rattle.verdict.specs.Verdict.{Verdict, master, media}
use Rattle.verdict.specs.Calls.{admitted, and_then, verdict_of}
use Rattle.tags.specs.Tags.{Taken, took, step}
use Rattle.assembly.specs.Assembly.{Head, State, begin, last_of, Clip, clips_of, tags_of, clip_count, kept_tags}
use Rattle.assembly.specs.Words.{tags_words}
use Rattle.assembly.proofs.Records.{clips_words_length, tags_words_length}
use Rattle.assembly.proofs.Counts.{count_clips}
use Rattle.media.specs.Calls.{steps_by, stop_by, steps_of, stop_of, unless_master, refused_tag, unless, unless_met, Read, read, read_from, unless_short, answer_by, parse_media_playlist, clips_read, tags_read, ReadingAs, ParsedAs, ParsedBy}
use Rattle.media.specs.Inside.Passes.{first_pass, weighed, clips_laid, Fillable, Filled}

-- ---- the steps' refusals stand before whatever answer follows
pub NoneMet : List Taken → Type 0
NoneMet [] = Unit
NoneMet (took at t ∷ ts) = (refused_tag t ≡ none) × NoneMet ts

front_unless : (o : Option Refusal) (at : ℕ) → Front (λ A x. unless o at x) (o ≡ none)
front_unless none at = record { on = λ x h. refl; passed = λ x a e. (refl, e); refuses = λ x y f. f }
front_unless (some r) at = record { on = λ x h. cc; passed = λ x a e. (cc, cc); refuses = λ x y f q k e. cc }

pub front_met : (ts : List Taken) → Front (λ A x. unless_met ts x) (NoneMet ts)
unfolding unless_met NoneMet
front_met [] = record { on = λ x h. refl; passed = λ x a e. (tt, e); refuses = λ x y f. f }
front_met (took at t ∷ ts) = front_then _ _ (front_unless (refused_tag t) at) (front_met ts)

-- ---- 1 to 6, before whatever answer follows
front_admitted : (a : Answer (Unit {0})) → Front (λ A x. and_then a x) (a ≡ given tt)
front_admitted (refused r p) = record { on = λ x h. cc; passed = λ x a e. (cc, cc); refuses = λ x y f q k e. cc }
front_admitted (given tt) = record { on = λ x h. refl; passed = λ x a e. (refl, e); refuses = λ x y f. f }

front_media : (v : Verdict) → Front (λ A x. unless_master v x) (v ≡ media)
front_media (master hash) = record { on = λ x h. cc; passed = λ x a e. (cc, cc); refuses = λ x y f q k e. cc }
front_media media = record { on = λ x h. refl; passed = λ x a e. (refl, e); refuses = λ x y f. f }

front_text : (text : List ℕ) → Front (λ A x. and_then (admitted text) (unless_master (verdict_of text) x)) ((admitted text ≡ given tt) × (verdict_of text ≡ media))
front_text text = front_then _ _ (front_admitted (admitted text)) (front_media (verdict_of text))

module _ (step : Parser Taken) (text : List ℕ) where
  -- what the first pass comes to, with refusals 1 to 4 before it
  abbrev pub Passed : Answer Read → Type 0
  Passed x = and_then (admitted text) (unless_master (verdict_of text) (first_pass step text)) ≡ x

  pub weighed_on : {x : Answer Read} → weighed text ≡ given tt → first_pass step text ≡ x → Passed x
  weighed_on k e = (front_text text).on _ ((front_text text).passed _ _ k).0 ∙ e

  pub weighed_refused : {ρ : Refusal} {p : ℕ} → weighed text ≡ refused ρ p → Passed (refused ρ p)
  weighed_refused {ρ} {p} k = (front_text text).refuses _ _ (given_refuses _ _) ρ p k

  abbrev pub Fine : Type 0
  Fine = (admitted text ≡ given tt) × ((verdict_of text ≡ media) × NoneMet (steps_by step text))

  pub front_weighed : Front (λ A x. and_then (admitted text) (unless_master (verdict_of text) (unless_met (steps_by step text) x))) Fine
  front_weighed = front_then _ _ (front_admitted (admitted text)) (front_then _ _ (front_media (verdict_of text)) (front_met (steps_by step text)))

  abbrev pub last : State
  last = last_of begin (steps_by step text)

  module _ {h : Head} {made kept n : ℕ} (k : Passed (given (read h made kept n))) where
    pub weighed_read : Fine × (◌≡◌ {A = Answer Read} (given (read_from last (stop_by step text))) (given (read h made kept n)))
    unfolding first_pass
    weighed_read = front_weighed.passed _ _ k

    pub weighed_clips : clip_count last ≡ made
    weighed_clips = let e = weighed_read.1 in cc

    pub weighed_tags : kept_tags last ≡ kept
    weighed_tags = let e = weighed_read.1 in cc

    -- 7 and 8 are left
    weighed_answer : (clipRoom tagRoom : ℕ) → answer_by step text clipRoom tagRoom ≡ unless_short last clipRoom tagRoom (given (read h made kept n))
    weighed_answer clipRoom tagRoom = front_weighed.on _ weighed_read.0 ∙ rw weighed_read.1

    -- tables that fit have room for all words
    pub weighed_fillable : (clips tags : List ℕ) → clips_fit clips made ≡ true → tags_fit tags kept ≡ true → Fillable step text kept clips tags
    weighed_fillable clips tags e f = record {
      clips_room = omega (arith, weighed_clips, count_clips begin (steps_by step text), fits_words clip_words made clips e, clips_words_length (clips_of begin (steps_by step text)));
      tags_room = fits_words tag_words kept tags f;
    }

-- ---- the exits
module _ {R : Type 0} (view : R → Answer Read) {clips tags : List ℕ} {r : R} where
  refuses : {answer : Answer Read} {cs : List Clip} {gs : List ExtTag} (ρ : Refusal) (p : ℕ) → view r ≡ refused ρ p → answer ≡ refused ρ p → ReadingAs view answer cs gs clips tags clips tags r
  refuses ρ p e q = record { answered = e ∙ sym q; clips_after = rw q; tags_after = rw q }

module _ (step : Parser Taken) {R : Type 0} (view : R → Answer Read) (text : List ℕ) {clips tags : List ℕ} {r : R} where
  pub refused_first : {ρ : Refusal} {p : ℕ} → Passed step text (refused ρ p) → view r ≡ refused ρ p → ParsedBy step view text clips tags clips tags r
  unfolding first_pass
  refused_first {ρ} {p} q e = refuses view ρ p e ((front_weighed step text).refuses _ _ (given_refuses _ _) ρ p q)

  module _ {h : Head} {made kept n : ℕ} (k : Passed step text (given (read h made kept n))) where
    pub clips_short : clips_fit clips made ≡ false → view r ≡ refused clip_table_short 0 → ParsedBy step view text clips tags clips tags r
    unfolding fits
    clips_short f e = refuses view clip_table_short 0 e (weighed_answer step text k (length clips) (length tags) ∙ rw (weighed_clips step text k, f))

    pub tags_short : clips_fit clips made ≡ true → tags_fit tags kept ≡ false → view r ≡ refused tag_table_short 0 → ParsedBy step view text clips tags clips tags r
    unfolding fits
    tags_short f g e = refuses view tag_table_short 0 e (weighed_answer step text k (length clips) (length tags) ∙ rw (weighed_clips step text k, weighed_tags step text k, f, g))

    pub gives : {clips' tags' : List ℕ} → clips_fit clips made ≡ true → tags_fit tags kept ≡ true → view r ≡ given (read h made kept n) → Filled step text kept clips tags clips' tags'
        → ParsedBy step view text clips tags clips' tags' r
    unfolding fits
    gives {clips'} {tags'} f g e w =
        let a : answer_by step text (length clips) (length tags) ≡ given (read h made kept n) = weighed_answer step text k (length clips) (length tags) ∙ rw (weighed_clips step text k, weighed_tags step text k, f, g) in
        let ts = take kept (tags_of (steps_by step text)) in
        let room : length (tags_words ts) ≤ length tags = omega (arith, fits_words tag_words kept tags g, tags_words_length ts, length-take kept (tags_of (steps_by step text))) in
        record {
          answered = e ∙ sym a;
          clips_after = rw a (w.clips_filled ∙ sets_over clips (clips_laid step text) (weighed_fillable step text k clips tags f g).clips_room);
          tags_after = rw (a, weighed_tags step text k) (w.tags_filled ∙ sets_over tags (tags_words ts) room);
        }

-- by the call's own step
pub parsed : {R : Type 0} (view : R → Answer Read) (text : List ℕ) {clips₀ tags₀ clips tags : List ℕ} {r : R} → ParsedBy step view text clips₀ tags₀ clips tags r → ParsedAs view text clips₀ tags₀ clips tags r
unfolding steps_of stop_of parse_media_playlist clips_read tags_read
parsed view text p = p
