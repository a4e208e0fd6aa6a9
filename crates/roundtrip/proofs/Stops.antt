-- Where a reading stops: at the text's end, or where the URI, the last of the alternatives, fails by a lone CR. Assumes nothing.
use Prim.Native.Nat.{ℕ, zero, suc, ◌-◌, ◌≤◌, ◌<◌}
use mathlib.Core.Path.{◌≡◌, refl, sym, ◌∙◌, ap}
use mathlib.Core.Bool.{Bool, true, false, not, ◌&&◌, ◌||◌}
use mathlib.Core.List.{List}
use mathlib.Core.Option.{Option}
use native.Mathlib.Omega.{arith}
use lib.Dec.{ltb}
use lib.ListN.{length}
use borrow.Author.Tests.{ltb-true, ltb-false}
use Rattle.text.specs.Why.{Why, lone_cr}
use Rattle.text.specs.Nom.{Res, fail, ok, Parser, Span, span, bytes, tagged, tag, run_end, is_multispace, when, or_else, or_none, bind, opt, alt}
use Rattle.text.specs.Many.{many0, many_turns, go_on, stop}
use Rattle.text.specs.Util.{consume_line}
use Rattle.text.proofs.Laws.{tagged_within}
use Rattle.text.proofs.Many.{stop_push}
use Rattle.text.proofs.Takes.{Takes, fail_not_ok, went_run, went_within}
use Rattle.tables.specs.Refusal.{given}
use Rattle.verdict.specs.Calls.{header}
use Rattle.tags.specs.Tags.{unknown_tag, comment_line, uri_line, playlist_tag, segment_tag, other_tag, media_segment_tag, media_playlist_tag, step}
use Rattle.tags.proofs.Begins.{head_first}
use Rattle.tags.proofs.Takes.{takes_step}
use Rattle.assembly.specs.Assembly.{Head}
use Rattle.media.specs.Calls.{first_step, stop_of, read, parse_media_playlist}
use Rattle.roundtrip.specs.Stops.{line_end, at_lone_cr, Stops, lone, end}
use Rattle.roundtrip.proofs.Taken.{admitted_text}
use Rattle.roundtrip.proofs.Accepted.{accepted_parts}

-- ---- a rule again and again stops where it fails, or at the text's end
data Fails {A : Type 0} (p : Parser A) (text : List ℕ) (n : ℕ) : Type 0 where
  fails : n ≤ length text → (why : Why) → p text n ≡ fail why → Fails p text n
  ends : n ≡ length text → Fails p text n

module _ {A : Type 0} (p : Parser A) (takes : Takes 1 p) (text : List ℕ) where
  turns_fail : (f at : ℕ) → at ≤ length text → length text - at ≤ f → Fails p text (stop (many_turns p text f at))
  unfolding many_turns
  turns_fail zero at l h = ends (omega arith)
  turns_fail (suc f) at l h = go (p text at) refl (turns_fail f)
    where
      go : (r : Res A) → p text at ≡ r → ((n : ℕ) → n ≤ length text → length text - n ≤ f → Fails p text (stop (many_turns p text f n))) → Fails p text (stop (go_on r at (λ n. many_turns p text f n)))
      go (fail why) e ih = fails l why e
      go (ok a n) e ih =
          let w = takes text at n a e in
          rw (stop_push a (many_turns p text f n)) (ih n (w.1 (omega (arith, w.0))) (omega (arith, w.0)))

  many_fails : (at : ℕ) → at ≤ length text → Fails p text (stop (many0 p text at))
  unfolding many0
  many_fails at l = turns_fail (length text - at) at l (omega arith)

-- ---- why a step fails where a byte is there
or_fails : {A : Type 0} (r q : Res A) (why : Why) → or_else r q ≡ fail why → q ≡ fail why
or_fails (fail w) q why e = e
or_fails (ok a n) q why e = absurd (fail_not_ok why a n (sym e))

-- a value that is only changed
map_fails : {A B : Type 0} (r : Res A) (f : A → B) (g : ℕ → ℕ) (why : Why) → bind r (λ a n. ok (f a) (g n)) ≡ fail why → r ≡ fail why
map_fails (fail w) f g why e = cc
map_fails (ok a n) f g why e = absurd (fail_not_ok why (f a) (g n) (sym e))

-- a line's end, perhaps absent, always succeeds
abbrev line_break : Parser (Option (Unit {0}))
line_break = opt (alt (tag (bytes "\n")) (tag (bytes "\r\n")))

break_there : (l : Span) (text : List ℕ) (n : ℕ) (why : Why) → bind (line_break text n) (λ _ k. ok l k) ≡ fail why → ⊥
break_there l text n why = go (alt (tag (bytes "\n")) (tag (bytes "\r\n")) text n)
  where
    go : (x : Res (Unit {0})) → bind (or_none x n) (λ _ k. ok l k) ≡ fail why → ⊥
    go (fail w) e = fail_not_ok why l n (sym e)
    go (ok a m) e = fail_not_ok why l m (sym e)

-- a test, and then what always succeeds
test_fails : {A B : Type 0} (a b : Bool) (l : A) (m : ℕ) (k : A → ℕ → Res B) (why : Why) → (k l m ≡ fail why → ⊥)
    → bind (when (not a || b) lone_cr (ok l m)) k ≡ fail why → (why ≡ lone_cr) × ((a && not b) ≡ true)
test_fails true true l m k why on e = absurd (on e)
test_fails true false l m k why on e = (cc, refl)
test_fails false b l m k why on e = absurd (on e)

module _ (text : List ℕ) (at : ℕ) where
  step_fails : (why : Why) → step text at ≡ fail why → media_playlist_tag text at ≡ fail why
  unfolding step
  step_fails why e = map_fails (media_playlist_tag text at) _ (run_end is_multispace text) why e

  uri_fails : at < length text → (why : Why) → media_playlist_tag text at ≡ fail why → uri_line text at ≡ fail why
  unfolding media_segment_tag other_tag
  uri_fails h why e =
      let a = or_fails (playlist_tag text at) (media_segment_tag text at) why (head_first text at h ∙ e) in
      let b = or_fails (segment_tag text at) (other_tag text at) why a in
      let c = or_fails (unknown_tag text at) _ why b in
      or_fails (comment_line text at) (uri_line text at) why c

  -- a line is not taken where its end is a CR that no LF follows, and only there
  line_fails : (why : Why) → consume_line text at ≡ fail why → (why ≡ lone_cr) × (at_lone_cr text at ≡ true)
  unfolding consume_line
  line_fails why e =
      let m = line_end text at in
      test_fails (tagged (bytes "\r") text m) (tagged (bytes "\r\n") text m) (span at m) m (λ line n. bind (line_break text n) (λ _ k. ok line k)) why (break_there (span at m) text m why) e

-- ---- the reading of a text that begins with the header
module _ (text : List ℕ) where
  stops_at : (n : ℕ) → Fails step text n → Stops text n
  stops_at n (ends e) = end e
  stops_at n (fails l why e) = go (ltb n (length text)) refl
    where
      go : (b : Bool) → ltb n (length text) ≡ b → Stops text n
      go true q =
          let u = uri_fails text n (ltb-true n (length text) q) why (step_fails text n why e) in
          let c = line_fails text n why (map_fails (consume_line text n) _ (λ m. m) why u) in
          lone c.1 (u ∙ ap fail c.0)
      go false q = end (omega (arith, ltb-false n (length text) q))

  pub reading_stops : tagged header text 0 ≡ true → Stops text (stop_of text)
  unfolding stop_of first_step
  reading_stops h =
      let l = tagged_within header text 0 (omega arith) h in
      stops_at _ (many_fails step takes_step text (first_step text) (went_within text 7 0 _ (went_run text 7 is_multispace) l))

-- the stopping place that the call gives
pub call_stops : (text : List ℕ) (clipRoom tagRoom : ℕ) (h : Head) (n m stop : ℕ) → parse_media_playlist text clipRoom tagRoom ≡ given (read h n m stop) → Stops text stop
call_stops text clipRoom tagRoom h n m stop e =
    let k = accepted_parts text clipRoom tagRoom (read h n m stop) e in
    let q = k.answer in
    let z : stop_of text ≡ stop = cc in
    rw (← z) (reading_stops text (admitted_text text k.admits).begins_so)
