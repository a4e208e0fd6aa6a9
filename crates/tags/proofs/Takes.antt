-- How far a step goes: each alternative takes at least a byte where one is there, and stays within the text. Assumes nothing.
use Prim.Native.Nat.{ℕ, ◌+◌, ◌<◌}
use mathlib.Core.Path.{◌≡◌, refl}
use mathlib.Core.Bool.{Bool, true}
use mathlib.Core.List.{List, []}
use native.Mathlib.Omega.{arith}
use lib.Dec.{ltb}
use lib.ListN.{length}
use borrow.Author.Tests.{ltb-true}
use Rattle.text.specs.Why.{other_text, missing_byte}
use Rattle.text.specs.Nom.{Res, fail, ok, Parser, tag, place, or_else, alt, map, preceded, multispace0, peek_take1}
use Rattle.text.specs.Util.{consume_line}
use Rattle.text.specs.BasicTags.{ext_tag, comment_tag}
use Rattle.text.proofs.Many.{Falls}
use Rattle.text.proofs.Takes.{Went, Takes, when_ok, bind_ok, takes_tag, takes_place, takes_done, takes_bind, takes_less, takes_alt, takes_map, takes_falls, fail_not_ok, line_takes, takes_ext, takes_comment, takes_multispace0}
use Rattle.tags.specs.Tags.{Tag, unknown, comment, marks, Row, row, mark, literal, reads, first_of, playlist_rows, segment_rows, clips_from, unknown_tag, comment_line, uri_line, playlist_tag, segment_tag, other_tag, media_segment_tag, media_playlist_tag, took, step}
use Rattle.tags.proofs.Rows.{of_rows, Facts, head_facts, clip_facts}

-- a rule behind a fixed text, and a fixed text alone
module _ (t : List ℕ) (some : 0 < length t) where
  takes_after : {A : Type 0} (j : ℕ) (f : A → Tag) (p : Parser A) → Takes j p → Takes 1 (map f (preceded (tag t) p))
  takes_after j f p w = takes_map 1 f _ (takes_less 1 (length t + j) (omega arith) (preceded (tag t) p) (takes_bind (length t) j (tag t) (λ _. p) (takes_tag t) (λ _. w)))

  takes_mark : (x : Tag) → Takes 1 (marks x (tag t))
  takes_mark x = takes_map 1 (λ _. x) (tag t) (takes_less 1 (length t) (omega arith) (tag t) (takes_tag t))

-- ---- the known tags, by their rows
abbrev some_text : Row → Bool
some_text r = ltb 0 (length (literal r))

takes_row : (k : ℕ) (r : Row) → some_text r ≡ true → Facts k r → Takes 1 (reads r)
takes_row k (row t p f) l h = takes_after t (ltb-true 0 (length t) l) h.least f p h.takes
takes_row k (mark t x) l h = takes_mark t (ltb-true 0 (length t) l) x

takes_none : Takes 1 (first_of [])
takes_none text at n a e = absurd (fail_not_ok other_text a n e)

pub takes_playlist_tag : Takes 1 playlist_tag
unfolding playlist_tag
takes_playlist_tag = of_rows (Takes 1) takes_none (takes_alt 1) Facts some_text takes_row 0 playlist_rows refl head_facts

pub takes_segment_tag : Takes 1 segment_tag
unfolding segment_tag
takes_segment_tag = of_rows (Takes 1) takes_none (takes_alt 1) Facts some_text takes_row clips_from segment_rows refl clip_facts

-- ---- and what else may stand there: a URI takes a byte only where one is there
pub takes_unknown : Takes 7 unknown_tag
takes_unknown = takes_map 7 unknown ext_tag takes_ext

pub takes_comment_line : Takes 2 comment_line
takes_comment_line = takes_map 2 comment comment_tag takes_comment

module _ (text : List ℕ) (at : ℕ) (h : at < length text) where
  abbrev pub Moves : Res Tag → Type 0
  Moves r = (n : ℕ) (a : Tag) → r ≡ ok a n → Went 1 text at n

  moves_alt : (r q : Res Tag) → Moves r → Moves q → Moves (or_else r q)
  moves_alt (fail why) q hr hq = hq
  moves_alt (ok b m) q hr hq = hr

  pub uri_moves : Moves (uri_line text at)
  uri_moves n a e =
      let f = bind_ok (consume_line text at) _ a n e in
      let z : f.1 ≡ n = cc f.3 in
      rw (← z) (line_takes text at f.1 f.0 h f.2)

  pub other_moves : Moves (other_tag text at)
  unfolding other_tag
  other_moves =
      moves_alt (unknown_tag text at) _ (takes_less 1 7 (omega arith) unknown_tag takes_unknown text at)
      (moves_alt (comment_line text at) _ (takes_less 1 2 (omega arith) comment_line takes_comment_line text at)
      uri_moves)

  pub media_segment_moves : Moves (media_segment_tag text at)
  unfolding media_segment_tag
  media_segment_moves = moves_alt (segment_tag text at) (other_tag text at) (takes_segment_tag text at) other_moves

  tags_move : Moves (alt playlist_tag media_segment_tag text at)
  tags_move = moves_alt (playlist_tag text at) (media_segment_tag text at) (takes_playlist_tag text at) media_segment_moves

pub takes_media_playlist_tag : Takes 1 media_playlist_tag
unfolding media_playlist_tag
takes_media_playlist_tag text at n a e =
    let f = bind_ok (peek_take1 text at) _ a n e in
    let w = when_ok (ltb at (length text)) missing_byte tt f.0 at f.1 f.2 in
    tags_move text at (ltb-true at (length text) w.0) n a (rw (← w.2) at f.3)

-- ---- a step
pub takes_step : Takes 1 step
unfolding step
takes_step =
    takes_bind 0 1 place _ takes_place (λ from.
    takes_bind 1 0 media_playlist_tag _ takes_media_playlist_tag (λ t.
    takes_bind 0 0 multispace0 _ takes_multispace0 (λ _.
    takes_done (took from t))))

pub falls_step : (text : List ℕ) → Falls step text
falls_step = takes_falls 0 step takes_step
