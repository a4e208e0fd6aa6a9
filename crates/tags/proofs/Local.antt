-- A step does the same with more text before it, further on: each law is the rule written again, by the laws of text's `Local`. Assumes nothing.
use Prim.Native.Nat.{ℕ}
use mathlib.Core.Path.{◌≡◌, refl}
use mathlib.Core.Bool.{true}
use mathlib.Core.List.{List, []}
use Rattle.text.specs.Nom.{Parser, run_end, tag, map, preceded, alt, is_multispace}
use Rattle.text.specs.BasicTags.{ext_tag, comment_tag}
use Rattle.text.proofs.Local.{Local, still, shift, mv_span, mv_opt, mv_ext, run_moves, done_moves, alt_moves, bind_moves, tag_local, line_local, ext_local, comment_local, peek_one_local}
use Rattle.tags.specs.Tags.{Tag, unknown, comment, uri, marks, Row, row, mark, reads, first_of, playlist_rows, segment_rows, clips_from, uri_line, playlist_tag, segment_tag, other_tag, media_segment_tag, media_playlist_tag, took, step}
pub use Rattle.tags.proofs.Moves.{mv_head, mv_clip, mv_tag, mv_taken}
use Rattle.tags.proofs.Rows.{of_rows, Facts, head_facts, clip_facts}

-- ---- a rule made to a tag; behind a fixed text; a fixed text alone
module _ {A : Type 0} (mv : ℕ → A → A) (f : A → Tag) (p : Parser A) (same : (k : ℕ) (a : A) → f (mv k a) ≡ mv_tag k (f a)) (l : Local mv p) where
  made_local : Local mv_tag (map f p)
  made_local pre xs n = bind_moves mv mv_tag _ _ _ _ _ (l pre xs n) (λ a m. rw (same _ a) (done_moves mv_tag _ (f a) m))

  after_local : (t : List ℕ) → Local mv_tag (map f (preceded (tag t) p))
  after_local t pre xs n = bind_moves mv mv_tag _ _ _ _ _ (bind_moves still mv _ _ _ _ _ (tag_local t pre xs n) (λ _ m. l pre xs m)) (λ a m. rw (same _ a) (done_moves mv_tag _ (f a) m))

mark_local : (x : Tag) → ((k : ℕ) → x ≡ mv_tag k x) → (t : List ℕ) → Local mv_tag (marks x (tag t))
mark_local x same t = made_local still (λ _. x) (tag t) (λ k _. same k) (tag_local t)

-- ---- the known tags, by their rows
row_local : (k : ℕ) (r : Row) → true ≡ true → Facts k r → Local mv_tag (reads r)
row_local k (row t p f) _ h = after_local h.move f p h.same h.moves t
row_local k (mark t x) _ h = mark_local x h.same t

none_local : Local mv_tag (first_of [])
unfolding shift
none_local pre xs n = refl

alts_local : (p q : Parser Tag) → Local mv_tag p → Local mv_tag q → Local mv_tag (alt p q)
alts_local p q lp lq pre xs n = alt_moves mv_tag _ _ _ _ _ (lp pre xs n) (lq pre xs n)

pub playlist_tag_local : Local mv_tag playlist_tag
unfolding playlist_tag
playlist_tag_local = of_rows (Local mv_tag) none_local alts_local Facts (λ r. true) row_local 0 playlist_rows refl head_facts

pub segment_tag_local : Local mv_tag segment_tag
unfolding segment_tag
segment_tag_local = of_rows (Local mv_tag) none_local alts_local Facts (λ r. true) row_local clips_from segment_rows refl clip_facts

-- ---- and what else may stand there
pub uri_line_local : Local mv_tag uri_line
uri_line_local = made_local mv_span uri _ (λ k a. refl) line_local

pub other_tag_local : Local mv_tag other_tag
unfolding other_tag
other_tag_local pre xs n =
    alt_moves mv_tag _ _ _ _ _ (made_local mv_ext unknown ext_tag (λ k a. refl) ext_local pre xs n)
    (alt_moves mv_tag _ _ _ _ _ (made_local (mv_opt mv_span) comment comment_tag (λ k a. refl) comment_local pre xs n)
    (uri_line_local pre xs n))

pub media_segment_tag_local : Local mv_tag media_segment_tag
unfolding media_segment_tag
media_segment_tag_local pre xs n = alt_moves mv_tag _ _ _ _ _ (segment_tag_local pre xs n) (other_tag_local pre xs n)

pub media_playlist_tag_local : Local mv_tag media_playlist_tag
unfolding media_playlist_tag
media_playlist_tag_local pre xs n =
    bind_moves still mv_tag _ _ _ _ _ (peek_one_local pre xs n) (λ _ n.
    alt_moves mv_tag _ _ _ _ _ (playlist_tag_local pre xs n) (media_segment_tag_local pre xs n))

-- ---- a step
pub step_local : Local mv_taken step
unfolding step
step_local pre xs n =
    bind_moves mv_tag mv_taken _ _ _ _ _ (media_playlist_tag_local pre xs n) (λ t m.
    rw (run_moves pre xs m is_multispace) (done_moves mv_taken _ (took n t) (run_end is_multispace xs m)))
