-- Where the verdict from one place is the verdict from the next: at bytes of lines that say nothing. Assumes nothing.
use Prim.Native.Nat.{ℕ, suc, ◌+◌, ◌≤◌, ◌<◌}
use mathlib.Core.Path.{◌≡◌, refl, sym, ◌∙◌, ap}
use mathlib.Core.Bool.{Bool, true, false, not, ◌&&◌, ◌||◌, false≢true}
use mathlib.Core.List.{List, [], ◌∷◌}
use mathlib.Core.Option.{Option, none}
use native.Mathlib.Nat.{add-zero}
use native.Mathlib.Numerals.{add-one}
use native.Mathlib.Omega.{arith}
use lib.Dec.{eqb}
use lib.ListN.{length, get_or}
use lib.Seq.{drop-cons}
use borrow.Author.Tests.{lt-ltb, eq-eqb, eqb-true}
use Rattle.text.specs.Why.{lone_cr}
use Rattle.text.specs.Nom.{Res, fail, ok, Span, span, bytes, is_one_of, is_none_of, run_end, tag, tagged, after_tag, opt, alt, bind, when}
use Rattle.text.specs.Util.{consume_line}
use Rattle.text.proofs.Laws.{run_step, run_stop, tagged_not, tagged_byte, and_left, and_right}
use Rattle.text.proofs.Stretches.{All, more, same}
use Rattle.text.proofs.Line.{ending_two}
use Rattle.verdict.specs.Verdict.{Says, nothing, master_kind, media_kind, is_master_playlist_tag_line, verdict_from}
use Rattle.verdict.specs.Inside.Letters.{rows}
use Rattle.verdict.specs.Inside.Quiet.{quiet_at}
use Rattle.verdict.proofs.Letters.{told_none}
use Rattle.verdict.proofs.FirstSaid.{verdict_stop, verdict_step}

abbrev is_end : ℕ → Bool
is_end = is_one_of (bytes "\r\n")

-- what is answered of a line does not tell where it began
any_rest : (s t : Span) (r : Res (Option (Unit {0}))) → bind (bind r (λ _ m. ok s m)) (λ _ n. ok nothing n) ≡ bind (bind r (λ _ m. ok t m)) (λ _ n. ok nothing n)
any_rest s t (fail why) = refl
any_rest s t (ok a n) = refl

any_line : (s t : Span) (b : Bool) (e : ℕ) (end : ℕ → Res (Option (Unit {0})))
    → bind (bind (when b lone_cr (ok s e)) (λ line n. bind (end n) (λ _ m. ok line m))) (λ _ n. ok nothing n)
    ≡ bind (bind (when b lone_cr (ok t e)) (λ line n. bind (end n) (λ _ m. ok line m))) (λ _ n. ok nothing n)
any_line s t true e end = any_rest s t (end e)
any_line s t false e end = refl

not_it : (a x : ℕ) → not (eqb a x) ≡ true → x ≡ a → ⊥
not_it a x e q = false≢true (sym (ap not (eq-eqb a x (sym q))) ∙ e)

-- a tag of two bytes
tagged_two : (a b : ℕ) (text : List ℕ) (at : ℕ) → at + 1 < length text → get_or text at 0 ≡ a → get_or text (at + 1) 0 ≡ b → tagged (a ∷ b ∷ []) text at ≡ true
unfolding tagged
tagged_two a b text at h e f =
    let g : get_or text (suc at) 0 ≡ b = ap (λ i. get_or text i 0) (sym (add-one at)) ∙ f in
    rw (drop-cons text at 0 (omega arith), drop-cons text (suc at) 0 (omega arith), eq-eqb _ _ e, eq-eqb _ _ g)

module _ (text : List ℕ) where
  -- the same line from two places
  same_line : (a b : ℕ) → is_master_playlist_tag_line text a ≡ is_master_playlist_tag_line text b → verdict_from text a ≡ verdict_from text b
  same_line a b e = go (is_master_playlist_tag_line text b) refl
    where
      go : (r : Res Says) → is_master_playlist_tag_line text b ≡ r → verdict_from text a ≡ verdict_from text b
      go (fail why) q = verdict_stop text a why (e ∙ q) ∙ sym (verdict_stop text b why q)
      go (ok s n) q = verdict_step text a n s (e ∙ q) ∙ sym (verdict_step text b n s q)

  -- CR and LF are skipped
  past_end : (j : ℕ) → j + 1 < length text → is_end (get_or text j 0) ≡ true → verdict_from text j ≡ verdict_from text (j + 1)
  unfolding is_master_playlist_tag_line
  past_end j h e = same_line j (j + 1) (rw (lt-ltb j (length text) (omega arith), lt-ltb (j + 1) (length text) h, run_step is_end text j (omega arith) e))

  -- where no `#` stands no tag does
  no_kind : (j : ℕ) → (get_or text j 0 ≡ 35 → ⊥) → opt (alt master_kind media_kind) text j ≡ ok none j
  no_kind j ne = sym (told_none text j 0 rows refl refl (get_or text j 0) (ap (λ i. get_or text i 0) (add-zero j)) (bytes "#") (tt, ne) refl)

  -- the rest of a line that says nothing
  abbrev rest : ℕ → Res Says
  rest j = bind (consume_line text j) (λ _ n. ok nothing n)

  silent : (j : ℕ) → j < length text → is_end (get_or text j 0) ≡ false → (get_or text j 0 ≡ 35 → ⊥) → is_master_playlist_tag_line text j ≡ rest j
  unfolding is_master_playlist_tag_line
  silent j h e ne = rw (lt-ltb j (length text) h, run_stop is_end text j h e, no_kind j ne)

  -- it is the same from each place of the line
  same_rest : (a b : ℕ) → run_end (is_none_of (bytes "\r\n")) text a ≡ run_end (is_none_of (bytes "\r\n")) text b → rest a ≡ rest b
  unfolding consume_line
  same_rest a b e =
      let n = run_end (is_none_of (bytes "\r\n")) text b in
      rw e (any_line (span a n) (span b n) (not (tagged (bytes "\r") text n) || tagged (bytes "\r\n") text n) n (opt (alt (tag (bytes "\n")) (tag (bytes "\r\n"))) text))

  -- a byte of a line, with another behind it
  past_byte : (j : ℕ) → j + 1 < length text → is_end (get_or text j 0) ≡ false → (get_or text j 0 ≡ 35 → ⊥) → is_end (get_or text (j + 1) 0) ≡ false → (get_or text (j + 1) 0 ≡ 35 → ⊥)
      → verdict_from text j ≡ verdict_from text (j + 1)
  past_byte j h e ne e' ne' =
      same_line j (j + 1) (silent j (omega arith) e ne ∙ same_rest j (j + 1) (run_step (is_none_of (bytes "\r\n")) text j (omega arith) (ap not e)) ∙ sym (silent (j + 1) h e' ne'))

  -- with the line's end behind it
  module _ (j : ℕ) (h : j + 3 < length text) (e : is_end (get_or text j 0) ≡ false) (ne : get_or text j 0 ≡ 35 → ⊥) (e' : is_end (get_or text (j + 1) 0) ≡ true) where
    line_end : run_end (is_none_of (bytes "\r\n")) text j ≡ j + 1
    line_end = run_step (is_none_of (bytes "\r\n")) text j (omega arith) (ap not e) ∙ run_stop (is_none_of (bytes "\r\n")) text (j + 1) (omega arith) (ap not e')

    past_lf : get_or text (j + 1) 0 ≡ 10 → verdict_from text j ≡ verdict_from text (j + 1)
    unfolding consume_line after_tag
    past_lf lf =
        let no_cr : tagged (bytes "\r") text (j + 1) ≡ false = tagged_not 13 [] text (j + 1) (λ q. omega (arith, lf, q)) in
        let its_lf : tagged (bytes "\n") text (j + 1) ≡ true = tagged_byte 10 text (j + 1) (omega arith) ∙ eq-eqb _ _ lf in
        let z : j + 1 + 1 ≡ j + 2 = omega arith in
        let here : is_master_playlist_tag_line text j ≡ ok nothing (j + 2) = silent j (omega arith) e ne ∙ rw (line_end, no_cr, its_lf, z) in
        verdict_step text j (j + 2) nothing here ∙ ap (verdict_from text) (sym z) ∙ sym (past_end (j + 1) (omega arith) e')

    past_cr_lf : get_or text (j + 1) 0 ≡ 13 → get_or text (j + 2) 0 ≡ 10 → verdict_from text j ≡ verdict_from text (j + 1)
    unfolding consume_line
    past_cr_lf cr lf =
        let its_cr : tagged (bytes "\r") text (j + 1) ≡ true = tagged_byte 13 text (j + 1) (omega arith) ∙ eq-eqb _ _ cr in
        let both = tagged_two 13 10 text (j + 1) (omega arith) cr (ap (λ i. get_or text i 0) z ∙ lf) in
        let here : is_master_playlist_tag_line text j ≡ ok nothing (j + 3) = silent j (omega arith) e ne ∙ rw (line_end, its_cr, both, ending_two text (j + 1) both, z') in
        verdict_step text j (j + 3) nothing here ∙ sym (past_end (j + 1) (omega arith) e' ∙ ap (verdict_from text) z ∙ past_end (j + 2) (omega arith) (rw lf) ∙ ap (verdict_from text) z'')
      where
        z : j + 1 + 1 ≡ j + 2
        z = omega arith

        z' : j + 1 + 2 ≡ j + 3
        z' = omega arith

        z'' : j + 2 + 1 ≡ j + 3
        z'' = omega arith

  -- a byte of a line, by the two behind it
  module _ (j : ℕ) (h : j + 3 < length text) (e : is_end (get_or text j 0) ≡ false) (ne : get_or text j 0 ≡ 35 → ⊥) where
    past_any : (not (eqb 35 (get_or text (j + 1) 0))) ≡ true → (not (eqb 13 (get_or text (j + 1) 0)) || eqb 10 (get_or text (j + 2) 0)) ≡ true → verdict_from text j ≡ verdict_from text (j + 1)
    past_any no-tag ends = go (eqb 13 (get_or text (j + 1) 0)) (eqb 10 (get_or text (j + 1) 0)) refl refl ends
      where
        go : (c l : Bool) → eqb 13 (get_or text (j + 1) 0) ≡ c → eqb 10 (get_or text (j + 1) 0) ≡ l → (not c || eqb 10 (get_or text (j + 2) 0)) ≡ true → verdict_from text j ≡ verdict_from text (j + 1)
        go true l q r s = past_cr_lf j h e ne (rw q) (sym (eqb-true 13 _ q)) (sym (eqb-true 10 _ s))
        go false true q r s = past_lf j h e ne (rw (q, r)) (sym (eqb-true 10 _ r))
        go false false q r s = past_byte j (omega arith) e ne (rw (q, r)) (not_it 35 _ no-tag)

  -- the verdict from a quiet byte is the verdict from the next
  past_quiet : (j : ℕ) → j + 3 < length text → quiet_at text j ≡ true → verdict_from text j ≡ verdict_from text (j + 1)
  past_quiet j h = go (eqb 13 (get_or text j 0)) (eqb 10 (get_or text j 0)) refl refl
    where
      go : (c l : Bool) → eqb 13 (get_or text j 0) ≡ c → eqb 10 (get_or text j 0) ≡ l
          → ((c || l) || ((not (eqb 35 (get_or text j 0)) && not (eqb 35 (get_or text (j + 1) 0))) && (not (eqb 13 (get_or text (j + 1) 0)) || eqb 10 (get_or text (j + 2) 0)))) ≡ true
          → verdict_from text j ≡ verdict_from text (j + 1)
      go true l q r s = past_end j (omega arith) (rw q)
      go false true q r s = past_end j (omega arith) (rw (q, r))
      go false false q r s =
          let tags = and_left (not (eqb 35 (get_or text j 0)) && not (eqb 35 (get_or text (j + 1) 0))) (not (eqb 13 (get_or text (j + 1) 0)) || eqb 10 (get_or text (j + 2) 0)) s in
          let ends = and_right (not (eqb 35 (get_or text j 0)) && not (eqb 35 (get_or text (j + 1) 0))) (not (eqb 13 (get_or text (j + 1) 0)) || eqb 10 (get_or text (j + 2) 0)) s in
          past_any j h (rw (q, r)) (not_it 35 _ (and_left (not (eqb 35 (get_or text j 0))) (not (eqb 35 (get_or text (j + 1) 0))) tags))
          (and_right (not (eqb 35 (get_or text j 0))) (not (eqb 35 (get_or text (j + 1) 0))) tags) ends

  -- and over a stretch of them
  abbrev pub Quiet : ℕ → Type 0
  Quiet j = quiet_at text j ≡ true

  pub past_all : (a b : ℕ) → a ≤ b → b + 3 ≤ length text → All Quiet a b → verdict_from text a ≡ verdict_from text b
  past_all a b m l h = same (verdict_from text) a b m (λ j n k. past_quiet j (omega arith) (h j n k))

  -- one more byte is tested
  pub quiet_on : (a b : ℕ) (w : Bool) → (w ≡ true → All Quiet a b) → (w && quiet_at text b) ≡ true → All Quiet a (b + 1)
  quiet_on a b w h e = more Quiet a b (h (and_left w (quiet_at text b) e)) (and_right w (quiet_at text b) e)
