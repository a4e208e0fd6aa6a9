-- Each rule of a length does the same with more text before it, by the laws of `text`. Assumes nothing.
use Prim.Native.Nat.{ℕ, ◌+◌, ◌-◌}
use mathlib.Core.Path.{◌≡◌, refl}
use mathlib.Core.Option.{Option, none, some}
use native.Mathlib.Omega.{arith}
use lib.ListN.{length}
use Rattle.text.specs.Nom.{bytes, is_none_of, after_tag, run_end, span_or}
use Rattle.text.proofs.Local.{still, mv_span, mv_opt, Local, run_moves, after_moves, span_or_moves, tag_local, one_local, digits_local, done_moves, opt_moves, bind_moves}
use Rattle.lengths.specs.Duration.{Digits, digits, counted, length_of, float, Extinf, extinf, duration_title_tag}
use Rattle.lengths.proofs.Sides.{after_point}

abbrev pub mv_extinf : ℕ → Extinf → Extinf
mv_extinf k (extinf duration title) = extinf duration (mv_opt mv_span k title)

pub counted_local : Local still counted
unfolding counted
counted_local pre xs n =
    bind_moves still still _ _ _ _ _ (digits_local pre xs n) (λ v to.
    let z : length pre + to - (length pre + n) ≡ to - n = omega arith in
    rw z (done_moves still _ (digits v (to - n)) to))

after_point_local : Local still after_point
after_point_local pre xs n = bind_moves still still _ _ _ _ _ (tag_local (bytes ".") pre xs n) (λ _ n. counted_local pre xs n)

right_still : (k : ℕ) (right : Option Digits) → mv_opt still k right ≡ right
right_still k none = refl
right_still k (some d) = refl

pub float_local : Local still float
unfolding float
float_local pre xs n =
    bind_moves still still _ _ _ _ _ (counted_local pre xs n) (λ left n.
    bind_moves (mv_opt still) still _ _ _ _ _ (opt_moves still _ n _ _ (after_point_local pre xs n)) (λ right n.
    rw (right_still (length pre) right) (done_moves still _ (length_of left right) n)))

pub duration_title_local : Local mv_extinf duration_title_tag
unfolding duration_title_tag
duration_title_local pre xs n =
    bind_moves still mv_extinf _ _ _ _ _ (float_local pre xs n) (λ duration n.
    let m = after_tag (bytes ",") xs n in
    let e = run_end (is_none_of (bytes "\r\n,")) xs m in
    rw (after_moves pre xs n (bytes ","), run_moves pre xs m (is_none_of (bytes "\r\n,")), span_or_moves (length pre) m e)
    (bind_moves still mv_extinf _ _ _ _ _ (one_local pre xs e) (λ _ n.
    rw (after_moves pre xs n (bytes ",")) (done_moves mv_extinf _ (extinf duration (span_or m e)) (after_tag (bytes ",") xs n)))))
