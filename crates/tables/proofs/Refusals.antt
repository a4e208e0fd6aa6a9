-- Chains of `or_refuse`, as fronts that stand before an answer; and why no second result fits a promise `view r ≡ answer`.
-- Assumes nothing.
use Rattle.std.specs.Prelude.{Result, Ok, Err}
use mathlib.Core.Path.{◌≡◌, refl, sym, ap, ◌∙◌}
use mathlib.Core.Bool.{Bool, true, false}
use mathlib.Core.List.{List, [], ◌∷◌}
use Prim.Native.Nat.{ℕ, ◌-◌, ◌<◌}
use native.Mathlib.Omega.{arith}
use lib.ListN.{get_or}
use Rattle.tables.specs.declared.Refusal as refusalᵈ
use Rattle.tables.specs.declared.Refusal.TheVariants as refusalᵛ
use Rattle.tables.specs.Refusal.{Refusal, text_too_long, not_utf8, no_header, is_master, left_out_tag, too_many_digits, clip_table_short, tag_table_short, broken_table, output_short, total_too_long, bad_rate, turn_too_late, no_such_clip, window_too_far, no_range_before, nothing_plays, tick_too_late, file_too_short, other_version, not_exact, bad_start, too_wide, number_of, Answer, refused, given, or_refuse}
use Rattle.tables.specs.declared.Refused as refusedᵈ
use Rattle.tables.specs.Answers.{refusal_of, answer, answer_at}

-- where one is refused, so is the other, by the same row and at the same place
abbrev pub RefusesAs : {A B : Type 0} → Answer A → Answer B → Type 0
RefusesAs x y = (r : Refusal) (p : ℕ) → x ≡ refused r p → y ≡ refused r p

-- what was given refuses nothing
pub given_refuses : {A B : Type 0} (a : A) (y : Answer B) → RefusesAs (given a) y
given_refuses a y r p e = cc

-- ---- fronts: tests that stand before whatever answer follows, and ask P
pub record Front (f : (A : Type 0) → Answer A → Answer A) (P : Type 0) : Type 1 where
  -- where P holds, what follows decides
  pub on : {A : Type 0} (x : Answer A) → P → f A x ≡ x
  -- what was given has passed, so P holds
  pub passed : {A : Type 0} (x : Answer A) (a : A) → f A x ≡ given a → P × (x ≡ given a)
  -- whatever follows, the front refuses alike
  pub refuses : {A B : Type 0} (x : Answer A) (y : Answer B) → RefusesAs x y → RefusesAs (f A x) (f B y)

-- one test
module _ (r : Refusal) (p : ℕ) where
  or_on : {A : Type 0} (b : Bool) (x : Answer A) → b ≡ true → or_refuse b r p x ≡ x
  or_on b x e = rw e

  or_passed : {A : Type 0} (b : Bool) (x : Answer A) (a : A) → or_refuse b r p x ≡ given a → (b ≡ true) × (x ≡ given a)
  or_passed true x a e = (refl, e)
  or_passed false x a e = (cc, cc)

  or_refuses : {A B : Type 0} (b : Bool) (x : Answer A) (y : Answer B) → RefusesAs x y → RefusesAs (or_refuse b r p x) (or_refuse b r p y)
  or_refuses true x y f q k e = f q k e
  or_refuses false x y f q k e = cc

  pub front_or : (b : Bool) → Front (λ A x. or_refuse b r p x) (b ≡ true)
  front_or b = record { on = or_on b; passed = or_passed b; refuses = or_refuses b }

-- one front before another
pub front_then : {P Q : Type 0} (f g : (A : Type 0) → Answer A → Answer A) → Front f P → Front g Q → Front (λ A x. f A (g A x)) (P × Q)
front_then f g F G = record {
  on = λ {A} x h. F.on (g A x) h.0 ∙ G.on x h.1;
  passed = λ {A} x a e. let u = F.passed (g A x) a e in let v = G.passed x a u.1 in ((u.0, v.0), v.1);
  refuses = λ {A} {B} x y s. F.refuses (g A x) (g B y) (G.refuses x y s);
}

-- the same front, with P in other words
pub front_as : {P Q : Type 0} (f : (A : Type 0) → Answer A → Answer A) → (P → Q) → (Q → P) → Front f P → Front f Q
front_as f to from F = record {
  on = λ x h. F.on x (from h);
  passed = λ x a e. let u = F.passed x a e in (to u.0, u.1);
  refuses = λ x y s. F.refuses x y s;
}

-- ---- no second result fits: a view that has a way back tells results apart
pub only_one : {A B : Type 0} (view : A → B) (back : B → A) → ((a : A) → back (view a) ≡ a) → (x : B) (a b : A) → view a ≡ x → view b ≡ x → a ≡ b
only_one view back e x a b p q = sym (e a) ∙ (ap back (p ∙ sym q) ∙ e b)

-- the way back from a refusal's name
abbrev pub named : Refusal → refusalᵈ.Refusal
named text_too_long = refusalᵛ.TextTooLong
named not_utf8 = refusalᵛ.NotUtf8
named no_header = refusalᵛ.NoHeader
named is_master = refusalᵛ.IsMaster
named left_out_tag = refusalᵛ.LeftOutTag
named too_many_digits = refusalᵛ.TooManyDigits
named clip_table_short = refusalᵛ.ClipTableShort
named tag_table_short = refusalᵛ.TagTableShort
named broken_table = refusalᵛ.BrokenTable
named output_short = refusalᵛ.OutputShort
named total_too_long = refusalᵛ.TotalTooLong
named bad_rate = refusalᵛ.BadRate
named turn_too_late = refusalᵛ.TurnTooLate
named no_such_clip = refusalᵛ.NoSuchClip
named window_too_far = refusalᵛ.WindowTooFar
named no_range_before = refusalᵛ.NoRangeBefore
named nothing_plays = refusalᵛ.NothingPlays
named tick_too_late = refusalᵛ.TickTooLate
named file_too_short = refusalᵛ.FileTooShort
named other_version = refusalᵛ.OtherVersion
named not_exact = refusalᵛ.NotExact
named bad_start = refusalᵛ.BadStart
named too_wide = refusalᵛ.TooWide

pub named_back : (r : refusalᵈ.Refusal) → named (refusal_of r) ≡ r
named_back refusalᵛ.TextTooLong = refl
named_back refusalᵛ.NotUtf8 = refl
named_back refusalᵛ.NoHeader = refl
named_back refusalᵛ.IsMaster = refl
named_back refusalᵛ.LeftOutTag = refl
named_back refusalᵛ.TooManyDigits = refl
named_back refusalᵛ.ClipTableShort = refl
named_back refusalᵛ.TagTableShort = refl
named_back refusalᵛ.BrokenTable = refl
named_back refusalᵛ.OutputShort = refl
named_back refusalᵛ.TotalTooLong = refl
named_back refusalᵛ.BadRate = refl
named_back refusalᵛ.TurnTooLate = refl
named_back refusalᵛ.NoSuchClip = refl
named_back refusalᵛ.WindowTooFar = refl
named_back refusalᵛ.NoRangeBefore = refl
named_back refusalᵛ.NothingPlays = refl
named_back refusalᵛ.TickTooLate = refl
named_back refusalᵛ.FileTooShort = refl
named_back refusalᵛ.OtherVersion = refl
named_back refusalᵛ.NotExact = refl
named_back refusalᵛ.BadStart = refl
named_back refusalᵛ.TooWide = refl

-- so does a call's answer, where its value's view has one; a refusal alone has place 0
module _ {A B : Type 0} (view : A → B) (back : B → A) (h : (a : A) → back (view a) ≡ a) where
  pub answer_from : Answer B → Result A refusalᵈ.Refusal
  answer_from (refused r p) = Err (named r)
  answer_from (given b) = Ok (back b)

  pub answer_back : (a : Result A refusalᵈ.Refusal) → answer_from (answer view a) ≡ a
  unfolding answer_from
  answer_back (Err r) = ap Err (named_back r)
  answer_back (Ok a) = ap Ok (h a)

  pub answer_only : (x : Answer B) (a b : Result A refusalᵈ.Refusal) → answer view a ≡ x → answer view b ≡ x → a ≡ b
  answer_only = only_one (answer view) answer_from answer_back

  answer_at_from : Answer B → Result A refusedᵈ.Refused
  answer_at_from (refused r p) = Err (record { refusal = named r; place = p })
  answer_at_from (given b) = Ok (back b)

  answer_at_back : (a : Result A refusedᵈ.Refused) → answer_at_from (answer_at view a) ≡ a
  unfolding answer_at_from
  answer_at_back (Err r) = ap (λ (q : refusalᵈ.Refusal). Err (record { refusal = q; place = r.place })) (named_back r.refusal)
  answer_at_back (Ok a) = ap Ok (h a)

  pub answer_at_only : (x : Answer B) (a b : Result A refusedᵈ.Refused) → answer_at view a ≡ x → answer_at view b ≡ x → a ≡ b
  answer_at_only = only_one (answer_at view) answer_at_from answer_at_back

-- ---- a refusal and its number: 01's rows in order, then 02's without a gap; behind the gap stands 33
abbrev rows : List Refusal
rows = text_too_long ∷ not_utf8 ∷ no_header ∷ is_master ∷ left_out_tag ∷ too_many_digits ∷ clip_table_short ∷ tag_table_short ∷ broken_table ∷ output_short ∷ total_too_long ∷ bad_rate ∷ turn_too_late ∷ no_such_clip ∷ window_too_far ∷ no_range_before ∷ nothing_plays ∷ tick_too_late ∷ file_too_short ∷ other_version ∷ not_exact ∷ bad_start ∷ []

abbrev pub by_number_lem : ℕ → Refusal
by_number_lem n = get_or rows (n - 1) too_wide

pub by_number : (r : Refusal) → by_number_lem (number_of r) ≡ r
by_number text_too_long = refl
by_number not_utf8 = refl
by_number no_header = refl
by_number is_master = refl
by_number left_out_tag = refl
by_number too_many_digits = refl
by_number clip_table_short = refl
by_number tag_table_short = refl
by_number broken_table = refl
by_number output_short = refl
by_number total_too_long = refl
by_number bad_rate = refl
by_number turn_too_late = refl
by_number no_such_clip = refl
by_number window_too_far = refl
by_number no_range_before = refl
by_number nothing_plays = refl
by_number tick_too_late = refl
by_number file_too_short = refl
by_number other_version = refl
by_number not_exact = refl
by_number bad_start = refl
by_number too_wide = refl

-- and none has the number of an accepted answer
pub number_above : (r : Refusal) → 0 < number_of r
number_above text_too_long = omega arith
number_above not_utf8 = omega arith
number_above no_header = omega arith
number_above is_master = omega arith
number_above left_out_tag = omega arith
number_above too_many_digits = omega arith
number_above clip_table_short = omega arith
number_above tag_table_short = omega arith
number_above broken_table = omega arith
number_above output_short = omega arith
number_above total_too_long = omega arith
number_above bad_rate = omega arith
number_above turn_too_late = omega arith
number_above no_such_clip = omega arith
number_above window_too_far = omega arith
number_above no_range_before = omega arith
number_above nothing_plays = omega arith
number_above tick_too_late = omega arith
number_above file_too_short = omega arith
number_above other_version = omega arith
number_above not_exact = omega arith
number_above bad_start = omega arith
number_above too_wide = omega arith
