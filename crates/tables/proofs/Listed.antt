-- Entries listed from one index on: how many there are, the first, some and then others, a run of them. Over any entry. And a list of words that is filled with them.
-- Assumes nothing.
use mathlib.Core.Path.{◌≡◌, refl, ap, ◌∙◌}
use mathlib.Core.List.{List, [], ◌∷◌, ◌++◌, append-nil}
use Prim.Native.Nat.{ℕ, zero, suc, ◌+◌, ◌-◌, ◌≤◌, ◌<◌}
use native.Mathlib.Nat.{zero-add, add-zero, sub-zero}
use native.Mathlib.Numerals.{add-one}
use native.Mathlib.Omega.{arith}
use lib.ListN.{set, length, take, drop, get_or, drop_of_length-le}
use lib.Seq.{sets, take_at, drop_at, drop-cons}
use Rattle.tables.specs.Table.{listed}
use Rattle.tables.proofs.Sets.{sets_over}

module _ {A : Type 0} (at : ℕ → A) where
  pub listed_none : (k : ℕ) → listed at k 0 ≡ []
  unfolding listed
  listed_none k = refl

  pub listed_length : (k n : ℕ) → length (listed at k n) ≡ n
  unfolding listed
  listed_length k zero = refl
  listed_length k (suc n) = ap suc (listed_length (suc k) n)

  -- the first, then those after it
  pub listed_first : (k n : ℕ) → listed at k (n + 1) ≡ at k ∷ listed at (k + 1) n
  unfolding listed
  listed_first k n = rw (add-one n, add-one k)

  -- what is left of n from entry k on: entry k, then what is left from the next one on
  pub listed_left : (k n : ℕ) → k < n → listed at k (n - k) ≡ at k ∷ listed at (k + 1) (n - (k + 1))
  listed_left k n h =
      let e : n - k ≡ n - (k + 1) + 1 = omega arith in
      rw e (listed_first k (n - (k + 1)))

  -- nothing is left
  pub listed_over : (k n : ℕ) → n ≤ k → listed at k (n - k) ≡ []
  listed_over k n h =
      let e : n - k ≡ 0 = omega arith in
      rw e (listed_none k)

  -- some, then others
  pub listed_append : (k n m : ℕ) → listed at k (n + m) ≡ listed at k n ++ listed at (k + n) m
  unfolding listed
  listed_append k zero m = rw (zero-add m, add-zero k)
  listed_append k (suc n) m =
      let e : suc n + m ≡ suc (n + m) = omega arith in
      let f : k + suc n ≡ suc k + n = omega arith in
      rw (e, f, listed_append (suc k) n m)

  -- the same, at a place within
  pub listed_split : (f m : ℕ) → f ≤ m → listed at 0 m ≡ listed at 0 f ++ listed at f (m - f)
  listed_split f m h =
      let e : m ≡ f + (m - f) = omega arith in
      ap (λ (n : ℕ). listed at 0 n) e ∙ listed_append 0 f (m - f) ∙ rw (zero-add f)

  pub listed_drop : (f m : ℕ) → f ≤ m → drop f (listed at 0 m) ≡ listed at f (m - f)
  listed_drop f m h = rw (listed_split f m h) (drop_at (listed at 0 f) (listed at f (m - f)) f (listed_length 0 f))

  pub listed_take : (k n r : ℕ) → take n (listed at k (n + r)) ≡ listed at k n
  listed_take k n r = rw (listed_append k n r) (take_at (listed at k n) (listed at (k + n) r) n (listed_length k n))

  -- a run of them
  pub listed_run : (f n m : ℕ) → f + n ≤ m → take n (drop f (listed at 0 m)) ≡ listed at f n
  listed_run f n m h =
      let e : m - f ≡ n + (m - f - n) = omega arith in
      rw (listed_drop f m (omega arith), e) (listed_take f n (m - f - n))

-- a run of words, word by word
pub listed_words : (l : List ℕ) (at n m : ℕ) → m ≡ n → at + n ≤ length l → take m (drop at l) ≡ listed (λ i. get_or l (at + i) 0) 0 n
unfolding listed
listed_words l at n m d h = let e : at ≡ at + 0 = omega arith in ap (λ (k : ℕ). take k (drop at l)) d ∙ ap (λ (q : ℕ). take n (drop q l)) e ∙ go 0 n (omega arith)
  where
    go : (k n : ℕ) → at + k + n ≤ length l → take n (drop (at + k) l) ≡ listed (λ i. get_or l (at + i) 0) k n
    go k zero b = refl
    go k (suc n) b =
        let first : drop (at + k) l ≡ get_or l (at + k) 0 ∷ drop (suc (at + k)) l = drop-cons l (at + k) 0 (omega arith) in
        let next : suc (at + k) ≡ at + suc k = omega arith in
        ap (take (suc n)) first ∙ ap (λ (q : ℕ). get_or l (at + k) 0 ∷ take n (drop q l)) next ∙ ap (λ (r : List ℕ). get_or l (at + k) 0 ∷ r) (go (suc k) n (omega arith))

-- a list of words that is filled one by one: those that are left, laid from here on, make the whole
pub record Filling (at : ℕ → ℕ) (n : ℕ) (l : List ℕ) (k : ℕ) : Type 0 where
  pub turn : k ≤ n
  pub laid : sets l k (listed at k (n - k)) ≡ listed at 0 n

module _ (at : ℕ → ℕ) (n : ℕ) (l : List ℕ) where
  -- nothing is laid yet
  pub filling_none : length l ≡ n → Filling at n l 0
  filling_none e =
      let long : length (listed at 0 n) ≡ n = listed_length at 0 n in
      let over : drop (length (listed at 0 n)) l ≡ [] = drop_of_length-le l {i = length (listed at 0 n)} (omega arith) in
      record { turn = omega arith; laid = rw (sub-zero n, sets_over l (listed at 0 n) (omega arith), over) (append-nil (listed at 0 n)) }

  module _ (k : ℕ) (h : Filling at n l k) where
    -- one more
    pub filling_more : (a : ℕ) → a ≡ at k → k < n → Filling at n (set l k a) (k + 1)
    filling_more a e b = record { turn = omega arith; laid = rw (e, add-one k) (rw (listed_left at k n b, add-one k) at h.laid) }

    -- all are laid
    pub filling_end : n ≤ k → l ≡ listed at 0 n
    filling_end b = rw (listed_over at k n b) at h.laid
