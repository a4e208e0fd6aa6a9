-- A head's numbers and the way back: `head_numbers` and `head_of` are inverse to each other. Assumes nothing.
use mathlib.Core.Path.{◌≡◌, refl, sym, ◌∙◌, ap}
use mathlib.Core.Bool.{Bool, true, false, cond, ◌&&◌, and_assoc}
use mathlib.Core.Option.{Option, none, some}
use Prim.Native.Nat.{ℕ, zero, suc, ◌<◌}
use native.Mathlib.Omega.{arith}
use lib.Dec.{eqb}
use borrow.Author.Tests.{leb-true, eqb-true}
use Rattle.text.proofs.Laws.{and_left, and_right}
use Rattle.text.specs.Nom.{span}
use Rattle.text.specs.BasicTags.{PlaylistType, event, vod, other}
use Rattle.assembly.specs.Assembly.{Head}
use Rattle.ledgerfern.specs.declared.Head as headᵈ
use Rattle.ledgerfern.specs.Numbers.{mark, present_number, version_number, type_number, type_start, type_end, head_numbers}
use Rattle.ledgerfern.specs.Heads.{is_mark, is_version, is_type, is_head, mark_from, version_from, type_from, head_from, head_of}

-- ---- a number that is not the least: what it is the number of
pub mark_more : (n : ℕ) → 0 < n → mark_from n ≡ true
mark_more zero h = absurd (omega (arith, h))
mark_more (suc n) h = refl

pub version_more : (n v : ℕ) → 0 < n → version_from n v ≡ some v
version_more zero v h = absurd (omega (arith, h))
version_more (suc n) v h = refl

pub type_more : (n a b : ℕ) → 2 < n → type_from n a b ≡ some (other (span a b))
type_more zero a b h = absurd (omega (arith, h))
type_more (suc zero) a b h = absurd (omega (arith, h))
type_more (suc (suc zero)) a b h = absurd (omega (arith, h))
type_more (suc (suc (suc n))) a b h = refl

-- ---- which numbers a head has: five tests, joined from the left by the code and from the right by the rule
five : (a b c d e : Bool) → (a && b && c && d && e) ≡ (a && (b && (c && (d && e))))
five true true c d e = and_assoc c d e
five true false c d e = refl
five false b c d e = refl

pub head_tested : (h : headᵈ.Head) {v t e i n : Bool} → v ≡ is_version h.version_present h.version → t ≡ is_type h.playlist_type h.type_start h.type_end
    → e ≡ is_mark h.end_list → i ≡ is_mark h.i_frames_only → n ≡ is_mark h.independent_segments → (v && t && e && i && n) ≡ is_head h
unfolding is_head
head_tested h {v} {t} {e} {i} {n} p q r s u = five v t e i n ∙ rw (p, q, r, s, u)

-- ---- out and in again
pub mark_in : (b : Bool) → (is_mark (mark b) ≡ true) × (mark_from (mark b) ≡ b)
mark_in true = (refl, refl)
mark_in false = (refl, refl)

version_in : (v : Option ℕ) → (is_version (present_number v) (version_number v) ≡ true) × (version_from (present_number v) (version_number v) ≡ v)
unfolding is_version
version_in none = (refl, refl)
version_in (some v) = (refl, refl)

type_in : (t : Option PlaylistType) → (is_type (type_number t) (type_start t) (type_end t) ≡ true) × (type_from (type_number t) (type_start t) (type_end t) ≡ t)
unfolding is_type
type_in none = (refl, refl)
type_in (some event) = (refl, refl)
type_in (some vod) = (refl, refl)
type_in (some (other (span a b))) = (refl, refl)

pub numbers_in : (h : Head) → head_from (head_numbers h) ≡ h
numbers_in hd = rw ((version_in hd.version).1, (type_in hd.type).1, (mark_in hd.ended).1, (mark_in hd.i_frames).1, (mark_in hd.independent).1)

is_head_lem : (h : Head) → is_head (head_numbers h) ≡ true
unfolding is_head
is_head_lem hd = rw ((version_in hd.version).0, (type_in hd.type).0, (mark_in hd.ended).0, (mark_in hd.i_frames).0, (mark_in hd.independent).0)

-- a head's numbers give that head
pub head_in : (h : Head) → head_of (head_numbers h) ≡ some h
unfolding head_of
head_in h = rw (is_head_lem h, numbers_in h)

-- ---- in and out again
mark_out : (n : ℕ) → is_mark n ≡ true → mark (mark_from n) ≡ n
mark_out zero e = refl
mark_out (suc zero) e = refl
mark_out (suc (suc n)) e = absurd (omega (arith, leb-true (suc (suc n)) 1 e))

version_out : (n v : ℕ) → is_version n v ≡ true → (present_number (version_from n v) ≡ n) × (version_number (version_from n v) ≡ v)
unfolding is_version
version_out zero v e = (refl, sym (eqb-true v 0 e))
version_out (suc zero) v e = (refl, refl)
version_out (suc (suc n)) v e = absurd (omega (arith, leb-true (suc (suc n)) 1 (and_left _ _ e)))

-- only another text has a span
module _ (a b : ℕ) where
  no_span : (eqb a 0 && eqb b 0) ≡ true → (0 ≡ a) × (0 ≡ b)
  no_span e = (sym (eqb-true a 0 (and_left (eqb a 0) (eqb b 0) e)), sym (eqb-true b 0 (and_right (eqb a 0) (eqb b 0) e)))

  type_out : (n : ℕ) → is_type n a b ≡ true → (type_number (type_from n a b) ≡ n) × ((type_start (type_from n a b) ≡ a) × (type_end (type_from n a b) ≡ b))
  unfolding is_type
  type_out zero e = (refl, no_span e)
  type_out (suc zero) e = (refl, no_span e)
  type_out (suc (suc zero)) e = (refl, no_span e)
  type_out (suc (suc (suc zero))) e = (refl, (refl, refl))
  type_out (suc (suc (suc (suc n)))) e = absurd (omega (arith, leb-true (suc (suc (suc (suc n)))) 3 (and_left _ _ e)))

-- numbers that a head has are that head's
numbers_out : (h : headᵈ.Head) → is_head h ≡ true → head_numbers (head_from h) ≡ h
unfolding is_head
numbers_out h e =
    let typed = and_right (is_version h.version_present h.version) _ e in
    let marked = and_right (is_type h.playlist_type h.type_start h.type_end) _ typed in
    let v = version_out h.version_present h.version (and_left _ _ e) in
    let t = type_out h.type_start h.type_end h.playlist_type (and_left _ _ typed) in
    let end = mark_out h.end_list (and_left _ _ marked) in
    let more = and_right (is_mark h.end_list) _ marked in
    let frames = mark_out h.i_frames_only (and_left _ _ more) in
    let independent = mark_out h.independent_segments (and_right (is_mark h.i_frames_only) _ more) in
    λ i. record {
      version_present = v.0 i;
      version = v.1 i;
      target_duration = h.target_duration;
      media_sequence = h.media_sequence;
      discontinuity_sequence = h.discontinuity_sequence;
      playlist_type = t.0 i;
      type_start = t.1.0 i;
      type_end = t.1.1 i;
      end_list = end i;
      i_frames_only = frames i;
      independent_segments = independent i;
    }

-- a head that numbers give has those numbers
pub head_out : (n : headᵈ.Head) (h : Head) → head_of n ≡ some h → head_numbers h ≡ n
unfolding head_of
head_out n h e = go (is_head n) (numbers_out n) e
  where
    go : (b : Bool) → (b ≡ true → head_numbers (head_from n) ≡ n) → cond b (some (head_from n)) none ≡ some h → head_numbers h ≡ n
    go true f e = let q : h ≡ head_from n = cc in ap head_numbers q ∙ f refl
    go false f e = cc
