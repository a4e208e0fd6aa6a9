-- A text that is `#EXTM3U`, LF and lines that fit is read line by line: the steps say what the lines say, and stop at the text's end. Assumes nothing.
use Prim.Native.Nat.{ℕ}
use mathlib.Core.Path.{◌≡◌, refl, ◌∙◌, ap}
use mathlib.Core.List.{List, [], ◌∷◌, ◌++◌, map as map_list, append_assoc, append-nil}
use native.Mathlib.Omega.{arith}
use lib.ListN.{length, drop}
use Rattle.text.specs.Why.{missing_byte}
use Rattle.text.specs.Nom.{fail, bytes, is_multispace}
use Rattle.text.specs.Lines.{unlines, AllFit}
use Rattle.text.proofs.Ahead.{Every, Stops, out_ahead, run_ahead}
use Rattle.text.proofs.Lines.{AllRead, run_all}
use Rattle.tags.specs.Tags.{media_playlist_tag, step}
use Rattle.tags.proofs.Takes.{falls_step}
use Rattle.media.specs.Calls.{first_step, steps_of, stop_of}
use Rattle.playlist.specs.Lines.{Line, header_line, independent_segments_line, i_frames_only_line, discontinuity_line, end_list_line, version_line, target_duration_line, media_sequence_line, discontinuity_sequence_line, playlist_type_line, map_line, byte_range_line, unknown_line, extinf_line, uri_line, line_bytes}
use Rattle.roundtrip.proofs.Said.{taken_says, line_says, Clean, Fits}
use Rattle.roundtrip.proofs.ReadLines.{reads}

-- no line begins with a blank: it begins with `#`, or is a URI that does not
pub no_blank : (l : Line) (xs : List ℕ) → Clean l → Stops is_multispace (line_bytes l ++ xs)
no_blank header_line xs c = refl
no_blank (version_line n) xs c = refl
no_blank independent_segments_line xs c = refl
no_blank (target_duration_line n) xs c = refl
no_blank (media_sequence_line n) xs c = refl
no_blank (discontinuity_sequence_line n) xs c = refl
no_blank (playlist_type_line t) xs c = refl
no_blank i_frames_only_line xs c = refl
no_blank (map_line u r) xs c = refl
no_blank (byte_range_line r) xs c = refl
no_blank discontinuity_line xs c = refl
no_blank (unknown_line name rest) xs c = refl
no_blank (extinf_line l t) xs c = refl
no_blank (uri_line []) xs c = absurd c.0
no_blank (uri_line (x ∷ u)) xs c = c.1.1.0
no_blank end_list_line xs c = refl

-- nor do clean lines, if what follows them does not
pub none_blank : (F : Line → List ℕ → Type 0) → ((l : Line) (xs : List ℕ) → F l xs → Clean l) → (ls : List Line) (xs : List ℕ) → Stops is_multispace xs → AllFit line_bytes F ls xs
    → Stops is_multispace (unlines line_bytes ls ++ xs)
unfolding unlines AllFit
none_blank F clean [] xs s f = s
none_blank F clean (l ∷ ls) xs s f = rw (append_assoc (line_bytes l) (unlines line_bytes ls) xs) (no_blank l (unlines line_bytes ls ++ xs) (clean l _ f.0))

-- a step needs a byte
step_ends : (text : List ℕ) (n : ℕ) → drop n text ≡ [] → step text n ≡ fail missing_byte
unfolding step media_playlist_tag
step_ends text n h = rw (out_ahead text n h)

module _ (w : List ℕ) (ls : List Line) (e : w ≡ line_bytes header_line ++ unlines line_bytes ls) (fit : AllFit line_bytes Fits ls []) where
  -- behind the LF of the header
  pub first_step_lem : first_step w ≡ 8
  unfolding first_step Every
  first_step_lem =
      let s : Stops is_multispace (unlines line_bytes ls) = rw append-nil at (none_blank Fits (λ l xs f. f.0) ls [] tt fit) in
      rw e (run_ahead (line_bytes header_line ++ unlines line_bytes ls) 7 is_multispace (bytes "\n") (unlines line_bytes ls) (refl, tt) s refl)

  all_read : AllRead step w line_bytes (taken_says w) line_says ls 8
  all_read = run_all step w line_bytes (taken_says w) line_says (falls_step w) Fits (reads w) ls 8 missing_byte fit (ap (drop 8) e) (step_ends w)

  -- what the steps say, each in its turn
  pub steps_say : map_list (taken_says w) (steps_of w) ≡ map_list line_says ls
  unfolding steps_of
  steps_say = rw first_step_lem all_read.0

  -- and where they stop
  pub stops_at_end : stop_of w ≡ length w
  unfolding stop_of
  stops_at_end = rw first_step_lem (all_read.1 ∙ omega (arith, ap length e))
