-- How far the rules of the verdict go: a tag takes a byte at least, and so does a line. Assumes nothing.
use Prim.Native.Nat.{ℕ, ◌+◌, ◌<◌}
use mathlib.Core.Path.{◌≡◌, refl}
use mathlib.Core.Bool.{Bool, true, false}
use mathlib.Core.List.{List, [], ◌∷◌}
use native.Mathlib.Omega.{arith}
use lib.Dec.{ltb}
use lib.ListN.{length}
use borrow.Author.Tests.{ltb-true, ltb-false}
use Rattle.text.specs.Why.{other_text, missing_byte}
use Rattle.text.specs.Nom.{Span, bytes, tag, is_one_of, run_end, opt, alt, ok}
use Rattle.text.specs.Util.{consume_line}
use Rattle.text.proofs.Takes.{Went, Takes, went_run, went_on, fail_not_ok, when_ok, bind_ok, takes_tag, takes_is_not, takes_bind, takes_less, takes_alt, takes_opt, takes_map, takes_line, line_takes}
use Rattle.verdict.specs.Verdict.{Row, fixed, undashed, reads, first_of, master_names, playlist_names, segment_names, master_kind, playlist_kind, segment_kind, media_kind, is_master_playlist_tag_line}
use Rattle.verdict.proofs.Rows.{longer, hold_all, holds_first, hold_rest}

takes_row : (r : Row) → longer 0 r ≡ true → Takes 1 (reads r)
takes_row (fixed t k) l = takes_less 1 (length t) (ltb-true 0 (length t) l) _ (takes_map (length t) (λ _. k) (tag t) (takes_tag t))
takes_row (undashed t k) l =
    let run = takes_bind (length t) 1 (tag t) _ (takes_tag t) (λ _. takes_is_not missing_byte (bytes "-")) in
    takes_less 1 (length t + 1) (omega arith) _ (takes_map (length t + 1) (λ _. k) _ run)

takes_rows : (rs : List Row) → hold_all (longer 0) rs ≡ true → Takes 1 (first_of rs)
takes_rows [] h = λ text at n a e. absurd (fail_not_ok other_text a n e)
takes_rows (r ∷ []) h = takes_row r (holds_first (longer 0) r [] h)
takes_rows (r ∷ q ∷ rs) h = takes_alt 1 (reads r) (first_of (q ∷ rs)) (takes_row r (holds_first (longer 0) r (q ∷ rs) h)) (takes_rows (q ∷ rs) (hold_rest (longer 0) r (q ∷ rs) h))

takes_kind : Takes 1 (alt master_kind media_kind)
unfolding master_kind media_kind playlist_kind segment_kind
takes_kind = takes_alt 1 _ _ (takes_rows master_names refl) (takes_alt 1 _ _ (takes_rows playlist_names refl) (takes_rows segment_names refl))

module _ (text : List ℕ) (at : ℕ) (h : at < length text) where
  -- the rest of a line, after what stood before it there
  rest_takes : (m n : ℕ) (line : Span) → Went 0 text at m → consume_line text m ≡ ok line n → Went 1 text at n
  rest_takes m n line w e = go (ltb at m) refl
    where
      go : (b : Bool) → ltb at m ≡ b → Went 1 text at n
      go true q = let x = went_on text at 0 0 m n w (takes_line text m n line e) in (omega (arith, ltb-true at m q, (takes_line text m n line e).0), x.1)
      go false q = let z : m ≡ at = omega (arith, ltb-false at m q, w.0) in line_takes text at n line h (rw z at e)

pub takes_tag_line : Takes 1 is_master_playlist_tag_line
unfolding is_master_playlist_tag_line
takes_tag_line text at n s e =
    let there = bind_ok _ _ s n e in
    let w = when_ok (ltb at (length text)) missing_byte tt there.0 at there.1 there.2 in
    let hash = run_end (is_one_of (bytes "\r\n")) text at in
    let kinds = bind_ok (opt (alt master_kind media_kind) text hash) _ s n (rw (← w.2) at there.3) in
    let line = bind_ok (consume_line text kinds.1) _ s n kinds.3 in
    let z : line.1 ≡ n = cc line.3 in
    let tags = takes_opt 1 _ takes_kind text hash kinds.1 kinds.0 kinds.2 in
    let past = went_on text at 0 0 hash kinds.1 (went_run text at (is_one_of (bytes "\r\n"))) tags in
    rest_takes text at (ltb-true _ _ w.0) kinds.1 n line.0 past (rw z at line.2)
