-- The digits of a fraction, three at a turn, what is left being held in billionths. Assumes nothing.
use mathlib.Core.Path.{◌≡◌, refl, ap, sym, ◌∙◌}
use mathlib.Core.List.{List, ◌++◌}
use Prim.Native.Nat.{ℕ, zero, suc, ◌+◌, ◌-◌, ◌*◌, ◌/◌, ◌%◌, ◌^◌, ◌≤◌, ◌<◌}
use native.Mathlib.Nat.{mod-lt, one-le-pow, mul_assoc, mul-div-mul_left, mod_def, mul-sub}
use native.Mathlib.Omega.{arith}
use lib.Dec.{lit<}
use lib.Pow.{pow-add}
use lib.ListN.{length, length-append}
use Rattle.tables.specs.Layout.{second}
use Rattle.digits.specs.Digits.{fraction_by}
use Rattle.digits.proofs.Length.{fraction_none}
use Rattle.put.specs.Put.{Puts}
use Rattle.put.specs.Inside.Room.{Room}
use Rattle.put.proofs.Putting.{Left, left_all, left_as, left_on, left_none, fit_place}
use Rattle.numerals.specs.Inside.Front.{front_by}
use Rattle.numerals.proofs.Front.{none_left, front_one, front_rest}

-- both sides of a division by the same number more
mod_times : {m : ℕ} (n d : ℕ) → 0 < m → m * n % (m * d) ≡ m * (n % d)
mod_times {m} n d h = mod_def (m * n) (m * d) ∙ rw (mul-div-mul_left n d h, mul_assoc, ← mul-sub, ← mod_def n d)

-- what is left, held in billionths: its next three digits, and what is left then
module _ (m r : ℕ) (h : 3 + m ≤ 9) where
  unit : 10 ^ (9 - m) * 10 ^ m ≡ second
  unit = let e : 9 - m + m ≡ 9 = omega arith in sym (pow-add 10 (9 - m) m) ∙ ap (λ (n : ℕ). 10 ^ n) e

  thousandfold : 1000 * (10 ^ (9 - (3 + m)) * r) ≡ 10 ^ (9 - m) * r
  thousandfold = let e : 9 - m ≡ 3 + (9 - (3 + m)) = omega arith in rw (e, pow-add 10 3 (9 - (3 + m)), mul_assoc)

  unit_some : 0 < 10 ^ (9 - m)
  unit_some = one-le-pow (9 - m) 10 (lit< tt)

  scaled_three : 1000 * (10 ^ (9 - (3 + m)) * r) / second ≡ r / 10 ^ m
  scaled_three = rw (thousandfold, ← unit) (mul-div-mul_left r (10 ^ m) unit_some)

  scaled_rest : 1000 * (10 ^ (9 - (3 + m)) * r) % second ≡ 10 ^ (9 - m) * (r % 10 ^ m)
  scaled_rest = rw (thousandfold, ← unit) (mod_times r (10 ^ m) unit_some)

-- at each turn: `rest` is what `more` digits can write, and `left` holds it in billionths
pub record Fraction (out₀ : List ℕ) (at₀ f : ℕ) (out : List ℕ) (at left : ℕ) : Type 0 where
  pub more : ℕ
  pub rest : ℕ
  pub few : more ≤ 9
  pub threes : more % 3 ≡ 0
  pub low : left < second
  pub below : rest < 10 ^ more
  pub scaled : left ≡ 10 ^ (9 - more) * rest
  pub fits : at₀ + length (fraction_by 9 f) ≤ length out₀
  pub here : at + length (fraction_by more rest) ≡ at₀ + length (fraction_by 9 f)
  pub digits : Left out₀ at₀ (fraction_by 9 f) out at (fraction_by more rest)

pub fraction_begin : (out : List ℕ) (at f : ℕ) → f < second → at + length (fraction_by 9 f) ≤ length out → Fraction out at f out at f
fraction_begin out at f h k =
    record { more = 9; rest = f; few = omega arith; threes = refl; low = h; below = h; scaled = omega arith; fits = k; here = refl; digits = left_all out at (fraction_by 9 f) }

module _ {out₀ : List ℕ} {at₀ f : ℕ} {out : List ℕ} {at left : ℕ} where
  pub fraction_done : Fraction out₀ at₀ f out at left → left ≡ 0 → Puts out₀ at₀ (fraction_by 9 f) out at
  fraction_done h e =
      let z : h.rest ≡ 0 = none_left (10 ^ (9 - h.more)) h.rest (one-le-pow (9 - h.more) 10 (lit< tt)) (sym h.scaled ∙ e) in
      left_none (left_as (rw (z, fraction_none h.more)) h.digits)

  -- three digits more, or fewer
  module _ (s : left ≡ 0 → ⊥) (h : Fraction out₀ at₀ f out at left) where
    -- so many can be written behind them
    abbrev m : ℕ
    m = h.more - 3

    enough : h.more ≡ 3 + m
    enough = go h.more h.below h.threes h.scaled
      where
        go : (n : ℕ) → h.rest < 10 ^ n → n % 3 ≡ 0 → left ≡ 10 ^ (9 - n) * h.rest → n ≡ 3 + (n - 3)
        go zero b t e = absurd (s (omega arith))
        go (suc n) b t e = omega arith

    scaled : left ≡ 10 ^ (9 - (3 + m)) * h.rest
    scaled = h.scaled ∙ ap (λ (n : ℕ). 10 ^ (9 - n) * h.rest) enough

    abbrev pub front : List ℕ
    front = front_by 3 (1000 * left / second) (1000 * left % second)

    three : 1000 * left / second ≡ h.rest / 10 ^ m
    three = ap (λ (n : ℕ). 1000 * n / second) scaled ∙ scaled_three m h.rest (omega (arith, enough, h.few))

    behind : 1000 * left % second ≡ 10 ^ (9 - m) * (h.rest % 10 ^ m)
    behind = ap (λ (n : ℕ). 1000 * n % second) scaled ∙ scaled_rest m h.rest (omega (arith, enough, h.few))

    parts : fraction_by h.more h.rest ≡ front ++ fraction_by m (h.rest % 10 ^ m)
    parts =
        ap (λ (n : ℕ). fraction_by n h.rest) enough
        ∙ front_rest m (10 ^ (9 - m)) (one-le-pow (9 - m) 10 (lit< tt)) 3 h.rest (rw (← enough) h.below)
        ∙ (rw (three, behind))

    long : length (fraction_by h.more h.rest) ≡ length front + length (fraction_by m (h.rest % 10 ^ m))
    long = ap length parts ∙ length-append front (fraction_by m (h.rest % 10 ^ m))

    -- they have room
    pub front_room : Room out at front
    front_room = omega (arith, long, h.here, h.fits, h.digits.long)

    -- there is one, and then it holds of what is behind them
    module _ {out' : List ℕ} {n : ℕ} (p : Puts out at front out' n) where
      pub front_on : (at < n) × (n ≤ at₀ + length (fraction_by 9 f))
      front_on =
          let e = front_one (1000 * left / second) (1000 * left % second) (omega arith) in
          (omega (arith, ap length e, fit_place p front_room), omega (arith, long, h.here, fit_place p front_room))

      pub fraction_turn : Fraction out₀ at₀ f out' n (1000 * left % second)
      fraction_turn =
          record {
            more = m;
            rest = h.rest % 10 ^ m;
            few = omega (arith, h.few);
            threes = omega (arith, enough, h.threes);
            low = mod-lt (1000 * left) (lit< tt);
            below = mod-lt h.rest (one-le-pow m 10 (lit< tt));
            scaled = behind;
            fits = h.fits;
            here = omega (arith, long, h.here, fit_place p front_room);
            digits = left_on (left_as parts h.digits) p;
          }
