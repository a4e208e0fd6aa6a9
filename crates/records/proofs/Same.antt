-- `same_list` is equality of what is shown: a list is the same as itself, and lists that are the same show the same. Over any test of elements.
-- Assumes nothing.
use mathlib.Core.Path.{◌≡◌, refl, ap}
use mathlib.Core.Bool.{Bool, true, false, ◌&&◌}
use mathlib.Core.List.{[], ◌∷◌}
use mathlib.Core.Option.{none, some}
use lib.Dec.{eqb}
use borrow.Author.Tests.{eq-eqb, eqb-true}
use Rattle.text.specs.Util.{range}
use Rattle.text.specs.Spans.{same_all, same_bytes}
use Rattle.text.proofs.Laws.{and_left, and_right}
use Rattle.records.specs.Same.{event_shown, vod_shown, other_shown, head_shown, tag_shown, map_shown, clip_shown, list_shown, same_option, same_mark, same_type, same_head, same_range, same_map, same_tag, same_clip, same_list}

-- ---- the same as itself
abbrev pub Reflexive : {A : Type 0} → (A → A → Bool) → Type 0
Reflexive {A} same = (a : A) → same a a ≡ true

-- two tests that hold
both : {a b : Bool} → a ≡ true → b ≡ true → a && b ≡ true
both e f = rw (e, f)

module _ {A : Type 0} (same : A → A → Bool) (h : Reflexive same) where
  pub option_refl : Reflexive (same_option same)
  unfolding same_option
  option_refl none = refl
  option_refl (some a) = h a

  pub all_refl : Reflexive (same_all same)
  unfolding same_all
  all_refl [] = refl
  all_refl (a ∷ xs) = both (h a) (all_refl xs)

number_refl : Reflexive eqb
number_refl n = eq-eqb n n refl

pub bytes_refl : Reflexive same_bytes
bytes_refl = all_refl eqb number_refl

mark_refl : Reflexive same_mark
mark_refl true = refl
mark_refl false = refl

type_refl : Reflexive same_type
type_refl event_shown = refl
type_refl vod_shown = refl
type_refl (other_shown b) = bytes_refl b

pub head_refl : Reflexive same_head
head_refl (head_shown v d m c p e i n) =
    both (option_refl eqb number_refl v)
    (both (number_refl d)
    (both (number_refl m)
    (both (number_refl c)
    (both (option_refl same_type type_refl p)
    (both (mark_refl e)
    (both (mark_refl i)
    (mark_refl n)))))))

range_refl : Reflexive same_range
range_refl (range n o) = both (number_refl n) (option_refl eqb number_refl o)

map_refl : Reflexive same_map
map_refl (map_shown u r) = both (bytes_refl u) (option_refl same_range range_refl r)

pub tag_refl : Reflexive same_tag
tag_refl (tag_shown a r) = both (bytes_refl a) (option_refl same_bytes bytes_refl r)

pub clip_refl : Reflexive same_clip
clip_refl (clip_shown u l t r d m f n ts) =
    both (bytes_refl u)
    (both (number_refl l)
    (both (option_refl same_bytes bytes_refl t)
    (both (option_refl same_range range_refl r)
    (both (mark_refl d)
    (both (option_refl same_map map_refl m)
    (both (number_refl f)
    (both (number_refl n)
    (all_refl same_tag tag_refl ts))))))))

pub same_refl : Reflexive same_list
unfolding same_list
same_refl (list_shown h cs) = both (head_refl h) (all_refl same_clip clip_refl cs)

-- ---- what is the same is equal
abbrev pub Tells : {A : Type 0} → (A → A → Bool) → Type 0
Tells {A} same = (a b : A) → same a b ≡ true → a ≡ b

module _ {A : Type 0} (same : A → A → Bool) (h : Tells same) where
  pub option_equal : Tells (same_option same)
  unfolding same_option
  option_equal none none e = refl
  option_equal none (some b) e = cc
  option_equal (some a) none e = cc
  option_equal (some a) (some b) e = ap some (h a b e)

  pub all_equal : Tells (same_all same)
  unfolding same_all
  all_equal [] [] e = refl
  all_equal [] (b ∷ ys) e = cc
  all_equal (a ∷ xs) [] e = cc
  all_equal (a ∷ xs) (b ∷ ys) e =
      let p = h a b (and_left _ _ e) in let q = all_equal xs ys (and_right (same a b) _ e) in
      λ i. p i ∷ q i

bytes_equal : Tells same_bytes
bytes_equal = all_equal eqb eqb-true

mark_equal : Tells same_mark
mark_equal true true e = refl
mark_equal true false e = cc
mark_equal false true e = cc
mark_equal false false e = refl

type_equal : Tells same_type
type_equal event_shown event_shown e = refl
type_equal event_shown vod_shown e = cc
type_equal event_shown (other_shown b) e = cc
type_equal vod_shown event_shown e = cc
type_equal vod_shown vod_shown e = refl
type_equal vod_shown (other_shown b) e = cc
type_equal (other_shown a) event_shown e = cc
type_equal (other_shown a) vod_shown e = cc
type_equal (other_shown a) (other_shown b) e = ap other_shown (bytes_equal a b e)

head_equal : Tells same_head
head_equal (head_shown v d m c p e i n) (head_shown w f o b q g j k) z =
    let z₁ = and_right (same_option eqb v w) _ z in
    let z₂ = and_right (eqb d f) _ z₁ in
    let z₃ = and_right (eqb m o) _ z₂ in
    let z₄ = and_right (eqb c b) _ z₃ in
    let z₅ = and_right (same_option same_type p q) _ z₄ in
    let z₆ = and_right (same_mark e g) _ z₅ in
    let version = option_equal eqb eqb-true v w (and_left _ _ z) in
    let target = eqb-true d f (and_left _ _ z₁) in
    let sequence = eqb-true m o (and_left _ _ z₂) in
    let discontinuities = eqb-true c b (and_left _ _ z₃) in
    let type = option_equal same_type type_equal p q (and_left _ _ z₄) in
    let end = mark_equal e g (and_left _ _ z₅) in
    let frames = mark_equal i j (and_left _ _ z₆) in
    let independent = mark_equal n k (and_right (same_mark i j) _ z₆) in
    λ x. head_shown (version x) (target x) (sequence x) (discontinuities x) (type x) (end x) (frames x) (independent x)

range_equal : Tells same_range
range_equal (range n o) (range m p) z =
    let length = eqb-true n m (and_left _ _ z) in
    let offset = option_equal eqb eqb-true o p (and_right (eqb n m) _ z) in
    λ x. range (length x) (offset x)

map_equal : Tells same_map
map_equal (map_shown u r) (map_shown w s) z =
    let uri = bytes_equal u w (and_left _ _ z) in
    let range = option_equal same_range range_equal r s (and_right (same_bytes u w) _ z) in
    λ x. map_shown (uri x) (range x)

tag_equal : Tells same_tag
tag_equal (tag_shown a r) (tag_shown b s) z =
    let name = bytes_equal a b (and_left _ _ z) in
    let rest = option_equal same_bytes bytes_equal r s (and_right (same_bytes a b) _ z) in
    λ x. tag_shown (name x) (rest x)

clip_equal : Tells same_clip
clip_equal (clip_shown u l t r d m f n ts) (clip_shown w k s q e o g j us) z =
    let z₁ = and_right (same_bytes u w) _ z in
    let z₂ = and_right (eqb l k) _ z₁ in
    let z₃ = and_right (same_option same_bytes t s) _ z₂ in
    let z₄ = and_right (same_option same_range r q) _ z₃ in
    let z₅ = and_right (same_mark d e) _ z₄ in
    let z₆ = and_right (same_option same_map m o) _ z₅ in
    let z₇ = and_right (eqb f g) _ z₆ in
    let uri = bytes_equal u w (and_left _ _ z) in
    let length = eqb-true l k (and_left _ _ z₁) in
    let title = option_equal same_bytes bytes_equal t s (and_left _ _ z₂) in
    let range = option_equal same_range range_equal r q (and_left _ _ z₃) in
    let discontinuity = mark_equal d e (and_left _ _ z₄) in
    let map = option_equal same_map map_equal m o (and_left _ _ z₅) in
    let first = eqb-true f g (and_left _ _ z₆) in
    let count = eqb-true n j (and_left _ _ z₇) in
    let tags = all_equal same_tag tag_equal ts us (and_right (eqb n j) _ z₇) in
    λ x. clip_shown (uri x) (length x) (title x) (range x) (discontinuity x) (map x) (first x) (count x) (tags x)

pub same_equal : Tells same_list
unfolding same_list
same_equal (list_shown h cs) (list_shown k ds) z =
    let head = head_equal h k (and_left _ _ z) in
    let clips = all_equal same_clip clip_equal cs ds (and_right (same_head h k) _ z) in
    λ x. list_shown (head x) (clips x)
