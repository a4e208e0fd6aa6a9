-- A pass over the steps, by any rule of a step that moves on within the text: what is left, done from here, is the whole. Rests on the laws of `many0`.
-- Assumes nothing.
use mathlib.Core.Path.{◌≡◌}
use mathlib.Core.List.{List, ◌∷◌}
use mathlib.Core.Option.{none, some}
use Prim.Native.Nat.{ℕ, ◌-◌, ◌≤◌, ◌<◌}
use native.Mathlib.Omega.{arith}
use lib.ListN.{length}
use Rattle.text.specs.Why.{Why}
use Rattle.text.specs.Nom.{Parser, fail, ok}
use Rattle.text.specs.Many.{many0, items, stop}
use Rattle.text.proofs.Many.{many_stop, items_step, stop_step}
use Rattle.text.proofs.Takes.{Takes, takes_falls}
use Rattle.tables.specs.Refusal.{Refusal, Answer, refused, given}
use Rattle.tags.specs.Tags.{Tag, Taken, took}
use Rattle.assembly.specs.Assembly.{State, begin, next, last_of, counts_of, clip_count}
use Rattle.assembly.proofs.Counts.{met_tags, counts_back, next_clips, next_tags, clip_in_one, tag_in_one}
use Rattle.media.specs.declared.state.Counts.{Counts}
use Rattle.media.specs.Calls.{first_step, refused_tag, unless_met, Read, read_from}
use Rattle.media.specs.Inside.Passes.{counts_seen, Counting, first_pass}

-- the steps from a place on
abbrev pub steps_from : Parser Taken → List ℕ → ℕ → List Taken
steps_from step text at = items (many0 step text at)

-- the step from a place takes t, up to n
pub record TookTo (step : Parser Taken) (text : List ℕ) (at : ℕ) (t : Tag) (n : ℕ) : Type 0 where
  pub taken : step text at ≡ ok (took at t) n

module _ {step : Parser Taken} (takes : Takes 1 step) {text : List ℕ} {at : ℕ} {t : Tag} {n : ℕ} (k : TookTo step text at t n) where
  -- it ends beyond its place, nearer to the text's end
  pub took_on : at < n
  took_on = let m = takes text at n (took at t) k.taken in omega (arith, m.0)

  pub took_less : length text - n < length text - at
  took_less = takes_falls 0 step takes text at n (took at t) k.taken

  -- what is left to take: t, and what is left from n on
  pub took_steps : steps_from step text at ≡ took at t ∷ steps_from step text n
  took_steps = items_step step text (takes_falls 0 step takes text) at n (took at t) k.taken

-- ---- no count is above the place
pub record Within (at : ℕ) (s : State) : Type 0 where
  pub clips : clip_count s ≤ at
  pub tags : met_tags s ≤ at

pub within_begin : (at : ℕ) → Within at begin
within_begin at = record { clips = omega arith; tags = omega arith }

pub within_next : {step : Parser Taken} (takes : Takes 1 step) {text : List ℕ} {at : ℕ} {s : State} {t : Tag} {n : ℕ} → TookTo step text at t n → Within at s → Within n (next s t)
within_next takes {s = s} {t} k w =
    let on = took_on takes k in
    record { clips = omega (arith, on, w.clips, next_clips s t, clip_in_one s t); tags = omega (arith, on, w.tags, next_tags s t, tag_in_one t) }

pub within_counts : {s : State} {c : Counts} → Within c.at s → counts_seen c ≡ counts_of s → Counting c
within_counts {s = s} w e =
    let b = counts_back s e in
    record { clips = omega (arith, w.clips, b.0); tags = omega (arith, w.tags, b.2) }

-- ---- the first pass: what is counted from here
module _ (step : Parser Taken) where
  abbrev pub counted_from : List ℕ → ℕ → State → Answer Read
  counted_from text at s = unless_met (steps_from step text at) (given (read_from (last_of s (steps_from step text at)) (stop (many0 step text at))))

  pub record CountsOn (text : List ℕ) (at : ℕ) (s : State) : Type 0 where
    pub rest : first_pass step text ≡ counted_from text at s
    pub within : Within at s

  pub count_starts : {text : List ℕ} {at : ℕ} → at ≡ first_step text → CountsOn text at begin
  unfolding first_pass
  count_starts {at = at} p = record { rest = rw p; within = within_begin at }

module _ {step : Parser Taken} (takes : Takes 1 step) {text : List ℕ} {at : ℕ} {s : State} (c : CountsOn step text at s) where
  pub count_ends : (why : Why) → step text at ≡ fail why → given (read_from s at) ≡ first_pass step text
  unfolding unless_met last_of
  count_ends why e = rw (c.rest, many_stop step text (takes_falls 0 step takes text) at why e)

  module _ {t : Tag} {n : ℕ} (k : TookTo step text at t n) where
    pub count_goes_on : refused_tag t ≡ none → CountsOn step text n (next s t)
    unfolding unless_met last_of
    count_goes_on e = record {
      rest = rw (c.rest, took_steps takes k, stop_step step text (takes_falls 0 step takes text) at n (took at t) k.taken, e);
      within = within_next takes k c.within;
    }

    pub count_refuses : (r : Refusal) → refused_tag t ≡ some r → refused r at ≡ first_pass step text
    unfolding unless_met
    count_refuses r e = rw (c.rest, took_steps takes k, e)
