-- What most lines are, by how they begin: a line that does not begin with `#` is a URI or fails, and only one that begins with `#EXTINF:` can be taken as
-- an EXTINF, as only that alternative gives one (`numbered`). And back: what is told of a line is what the step takes there. Assumes nothing.
use Prim.Native.Nat.{ℕ, ◌+◌, ◌<◌}
use mathlib.Core.Path.{◌≡◌, refl, sym, ◌∙◌, ap, subst}
use mathlib.Core.Bool.{Bool, true, false, cond, false≢true}
use mathlib.Core.List.{List, []}
use mathlib.Core.Option.{Option, none, some}
use lib.Dec.{ltb}
use lib.ListN.{length, get_or}
use borrow.Author.Tests.{ltb-true, lt-ltb, eq-eqb}
use Rattle.text.specs.Why.{Why, other_text}
use Rattle.text.specs.Nom.{Res, fail, ok, Span, bytes, tagged, bind}
use Rattle.text.specs.Util.{consume_line}
use Rattle.text.proofs.Laws.{tagged_byte, tagged_not}
use Rattle.text.proofs.Takes.{fail_not_ok}
use Rattle.lengths.specs.Duration.{Extinf, is_long, duration_title_tag}
use Rattle.lengths.specs.Answers.{end_of}
use Rattle.tags.specs.Tags.{timed, timed_of, Tag, of_head, of_clip, unknown, comment, uri, left_out, reads, media_playlist_tag, literal, extinf_row}
use Rattle.steps.specs.Inside.Common.{Kind, uri_kind, extinf_kind, other_kind, kind_at, Common, takes_uri, takes_extinf, takes_other, common_clip, common_in, common_at, CommonEnd, ends_uri, ends_extinf, ends_other, end_in}
use Rattle.steps.specs.declared.common.Kind as kindᵈ
use Rattle.steps.specs.Inside.Answers.{kind_of}
use Rattle.tags.proofs.Begins.{timed_back, not_hash, extinf_taken}
use Rattle.tags.proofs.Numbered.{numbered}

-- ---- the kind of a line, by the tests of how it begins
module _ (text : List ℕ) (at : ℕ) where
  pub kind_uri : at < length text → (get_or text at 0 ≡ 35 → ⊥) → uri_kind ≡ kind_at text at
  kind_uri h not_so = rw (lt-ltb at (length text) h, tagged_not 35 [] text at not_so)

  pub kind_hash : at < length text → get_or text at 0 ≡ 35 → {b : Bool} → tagged (literal extinf_row) text at ≡ b → cond b extinf_kind other_kind ≡ kind_at text at
  kind_hash h is e = rw (lt-ltb at (length text) h, tagged_byte 35 text at h, eq-eqb _ _ is, e)

  -- and back, for the place after `#EXTINF:`
  pub extinf_there : kind_at text at ≡ extinf_kind → tagged (literal extinf_row) text at ≡ true
  extinf_there = go (ltb at (length text)) (tagged (bytes "#") text at) (tagged (literal extinf_row) text at)
    where
      go : (l hash x : Bool) → cond l (cond hash (cond x extinf_kind other_kind) uri_kind) other_kind ≡ extinf_kind → x ≡ true
      go false hash x e = cc
      go true false x e = cc
      go true true false e = cc
      go true true true e = refl

-- ---- what is told of a line by its kind, from its own rule
abbrev pub uri_in : Res Span → Common
uri_in (fail why) = takes_other
uri_in (ok s n) = takes_uri s n

abbrev pub extinf_in : Res Extinf → Common
extinf_in (fail why) = takes_other
extinf_in (ok e n) = takes_extinf e n

abbrev pub by_kind : List ℕ → ℕ → Kind → Common
by_kind text at uri_kind = uri_in (consume_line text at)
by_kind text at extinf_kind = extinf_in (duration_title_tag text (at + length (literal extinf_row)))
by_kind text at other_kind = takes_other

-- a URI's rule
in_uri : (r : Res Span) → uri_in r ≡ common_in false (bind r (λ s n. ok (uri s) n))
in_uri (fail why) = refl
in_uri (ok s n) = refl

-- behind `#`, what is no EXTINF is told as other
in_other : (r : Res Tag) → ((e : Extinf) (n : ℕ) → r ≡ ok (of_clip (timed e)) n → ⊥) → takes_other ≡ common_in true r
in_other (fail why) h = refl
in_other (ok (of_head t) n) h = refl
in_other (ok (of_clip t) n) h = go (timed_of t) refl
  where
    go : (o : Option Extinf) → timed_of t ≡ o → takes_other ≡ common_clip o n
    go none q = refl
    go (some e) q = absurd (h e n (rw (timed_back t e q)))
in_other (ok (unknown t) n) h = refl
in_other (ok (comment c) n) h = refl
in_other (ok (uri s) n) h = refl
in_other (ok (left_out t) n) h = refl

module _ (text : List ℕ) (at : ℕ) where
  -- no line is left
  past_end : ltb at (length text) ≡ false → (hash : Bool) → takes_other ≡ common_in hash (media_playlist_tag text at)
  unfolding media_playlist_tag
  past_end e hash = rw e

  -- one that does not begin with `#`
  uri_line : ltb at (length text) ≡ true → tagged (bytes "#") text at ≡ false → uri_in (consume_line text at) ≡ common_in false (media_playlist_tag text at)
  uri_line l e =
      let h = ltb-true at (length text) l in
      let not_so : get_or text at 0 ≡ 35 → ⊥ = λ q. false≢true (sym e ∙ tagged_byte 35 text at h ∙ eq-eqb _ _ q) in
      rw (not_hash text at not_so h) (in_uri (consume_line text at))

  -- one that does, and is no EXTINF that reads: no other alternative gives one
  no_extinf : (why : Why) → reads extinf_row text at ≡ fail why → takes_other ≡ common_in true (media_playlist_tag text at)
  no_extinf why f = in_other (media_playlist_tag text at) (λ e n q. fail_not_ok why (of_clip (timed e)) n (sym f ∙ (numbered text at n (of_clip (timed e)) q).holds))

  -- one that begins with `#EXTINF:`
  begins_extinf : tagged (literal extinf_row) text at ≡ true → extinf_in (duration_title_tag text (at + length (literal extinf_row))) ≡ common_in true (media_playlist_tag text at)
  begins_extinf there = go (duration_title_tag text (at + length (literal extinf_row))) refl
    where
      go : (r : Res Extinf) → duration_title_tag text (at + length (literal extinf_row)) ≡ r → extinf_in r ≡ common_in true (media_playlist_tag text at)
      go (fail why) q = no_extinf why (rw (there, q))
      go (ok e n) q = rw (extinf_taken text at there e n q)

  -- a line is told by its kind
  by_kind_lem : by_kind text at (kind_at text at) ≡ common_at text at
  by_kind_lem = go (ltb at (length text)) refl (tagged (bytes "#") text at) refl (tagged (literal extinf_row) text at) refl
    where
      go : (l : Bool) → ltb at (length text) ≡ l → (hash : Bool) → tagged (bytes "#") text at ≡ hash → (x : Bool) → tagged (literal extinf_row) text at ≡ x
          → by_kind text at (cond l (cond hash (cond x extinf_kind other_kind) uri_kind) other_kind) ≡ common_in hash (media_playlist_tag text at)
      go false l hash h x e = past_end l hash
      go true l false h x e = uri_line l h
      go true l true h false e = no_extinf other_text (rw e)
      go true l true h true e = begins_extinf e

  -- one that the code found
  pub of_kind : {k l : kindᵈ.Kind} → kind_of k ≡ kind_at text at → k ≡ l → by_kind text at (kind_of l) ≡ common_at text at
  of_kind h e = ap (by_kind text at) (ap kind_of (sym e) ∙ h) ∙ by_kind_lem

-- ---- without the values
abbrev pub extinf_end_in : Option (Bool × ℕ) → CommonEnd
extinf_end_in none = ends_other
extinf_end_in (some (long, n)) = ends_extinf long n

extinf_end_in_lem : (r : Res Extinf) → extinf_end_in (end_of r) ≡ end_in (extinf_in r)
extinf_end_in_lem (fail why) = refl
extinf_end_in_lem (ok e n) = refl

module _ (text : List ℕ) (at : ℕ) where
  pub extinf_ends : {x : Option (Bool × ℕ)} {c : Common} → x ≡ end_of (duration_title_tag text at) → extinf_in (duration_title_tag text at) ≡ c → extinf_end_in x ≡ end_in c
  extinf_ends e h = ap extinf_end_in e ∙ extinf_end_in_lem (duration_title_tag text at) ∙ ap end_in h

-- ---- what is told of a line is what the step takes there
abbrev pub TakenAs : Common → Res Tag → Type 0
TakenAs (takes_uri s n) r = r ≡ ok (uri s) n
TakenAs (takes_extinf e n) r = r ≡ ok (of_clip (timed e)) n
TakenAs takes_other r = Unit

in_takes : (hash : Bool) (r : Res Tag) → TakenAs (common_in hash r) r
in_takes hash (fail why) = tt
in_takes hash (ok (of_head t) n) = tt
in_takes hash (ok (of_clip t) n) = go (timed_of t) refl
  where
    go : (o : Option Extinf) → timed_of t ≡ o → TakenAs (common_clip o n) (ok (of_clip t) n)
    go none q = tt
    go (some e) q = rw (timed_back t e q)
in_takes hash (ok (unknown t) n) = tt
in_takes hash (ok (comment c) n) = tt
in_takes true (ok (uri s) n) = tt
in_takes false (ok (uri s) n) = refl
in_takes hash (ok (left_out t) n) = tt

abbrev pub EndsAs : CommonEnd → Res Tag → Type 0
EndsAs (ends_uri n) r = (s : Span) × (r ≡ ok (uri s) n)
EndsAs (ends_extinf long n) r = (e : Extinf) × (r ≡ ok (of_clip (timed e)) n) × (long ≡ is_long e)
EndsAs ends_other r = Unit

in_ends : (c : Common) (r : Res Tag) → TakenAs c r → EndsAs (end_in c) r
in_ends (takes_uri s n) r h = (s, h)
in_ends (takes_extinf e n) r h = (e, h, refl)
in_ends takes_other r h = tt

module _ (text : List ℕ) (at : ℕ) where
  pub common_takes : {c : Common} → c ≡ common_at text at → TakenAs c (media_playlist_tag text at)
  common_takes e = subst (λ (c : Common). TakenAs c (media_playlist_tag text at)) (sym e) (in_takes (tagged (bytes "#") text at) (media_playlist_tag text at))

  pub common_ends : {c : CommonEnd} → c ≡ end_in (common_at text at) → EndsAs c (media_playlist_tag text at)
  common_ends e = subst (λ (c : CommonEnd). EndsAs c (media_playlist_tag text at)) (sym e) (in_ends (common_at text at) (media_playlist_tag text at) (common_takes refl))
