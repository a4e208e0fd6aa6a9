-- What is kept, saved with what is new: it is true if its parts are. And a list that meets a chain. Assumes nothing.
use Prim.Native.Nat.{ℕ, ◌+◌, ◌*◌, ◌/◌, ◌≤◌}
use mathlib.Core.Path.{◌≡◌, refl, sym, ◌∙◌, ap}
use mathlib.Core.Bool.{true, ◌&&◌, false≢true}
use mathlib.Core.List.{List, map}
use mathlib.Core.Option.{Option, none, some}
use native.Mathlib.Omega.{arith}
use lib.Dec.{leb}
use lib.ListN.{length, replicate, length-replicate}
use lib.Seq.{sets, length-sets}
use borrow.Author.Tests.{leb-true}
use Rattle.text.specs.Nom.{ok, Span, span, run_end, is_space}
use Rattle.text.proofs.Laws.{and_left, and_right}
use Rattle.tables.specs.Table.{listed}
use Rattle.attributes.specs.Pairs.{QuotedOrUnquoted, Pair, pair, next_pair, key_value_pair, words as wordsOfNames}
use Rattle.attributes.specs.Held.{attr_words, attr_at, laid, LastOfEach}
use Rattle.attributes.proofs.Laid.{laid_nothing, laid_length}
use Rattle.attributes.specs.Inside.Insert.{inserted_from}
use Rattle.chains.specs.Inside.Kept.{has, begun, start_of, end_of, later, Leads, Chain, Known, TrueChain, Forward, present, begins_name, joins, Failing, TrueFailing, Memory, memory, overlaid, place_words, memory_of, memory_words, kept_at, TrueParts, TrueMemory, ListFrom}
use Rattle.chains.proofs.Pairs.{next_pair_lem, pair_inside}
use Rattle.chains.proofs.Leads.{leads_none, leads_on, chain_begun}
use Rattle.chains.proofs.Overlaid.{list_met, list_step}
use Rattle.chains.proofs.Words.{saved_back, saved_kept, places_aside, first_laid, second_aside, second_laid, first_aside}

module _ (text : List ℕ) (names : List (List ℕ)) where
  -- ---- a list that comes to a place of a chain that is kept goes on like it
  module _ (c : Chain) (kept held₀ held : List ℕ) (b : ℕ) (t : TrueChain text names c kept) (leads : Leads text c.next b) (e : length kept ≡ length held₀) where
    pub list_joins : present c.value ≡ true → held ≡ overlaid (listed (λ n. later b (attr_at kept n)) 0 (length held₀ / attr_words)) 0 held₀ → ListFrom text names b held₀ held c.end
    list_joins h q = go c.value refl h
      where
        met : (v : QuotedOrUnquoted) → Known text names c v kept → ListFrom text names b held₀ held c.end
        met v k = list_met text names k.from b c.end kept held₀ held (leads_on text k.from c.next b k.leads leads) (sym k.ends ∙ leads.ends) k.holds e q

        go : (x : Option QuotedOrUnquoted) → c.value ≡ x → present x ≡ true → ListFrom text names b held₀ held c.end
        go none z p = absurd (false≢true p)
        go (some v) z p = met v (t v z)

  -- a list whose first name begins within that of the chain's pair
  module _ (c : Chain) (v : QuotedOrUnquoted) (kept held₀ held₁ held : List ℕ) (name at : ℕ) (t : TrueChain text names c kept) (e : length kept ≡ length held₁) where
    pub list_joined : c.value ≡ some v → joins text name c ≡ true → name ≡ run_end is_space text at
        → held₁ ≡ inserted_from text (pair (span name (end_of c.name)) v) 0 names held₀
        → held ≡ overlaid (listed (λ n. later c.next (attr_at kept n)) 0 (length held₁ / attr_words)) 0 held₁ → ListFrom text names at held₀ held c.end
    list_joined z j q i o =
        let k = t v z in
        let within = and_right (present c.value) (begins_name text name && (leb (start_of c.name) name && leb name (end_of c.name))) j in
        let begins = and_left (begins_name text name) (leb (start_of c.name) name && leb name (end_of c.name)) within in
        let both = and_right (begins_name text name) (leb (start_of c.name) name && leb name (end_of c.name)) within in
        let lo = leb-true (start_of c.name) name (and_left (leb (start_of c.name) name) (leb name (end_of c.name)) both) in
        let hi = leb-true name (end_of c.name) (and_right (leb (start_of c.name) name) (leb name (end_of c.name)) both) in
        let there : key_value_pair text (start_of c.name) ≡ ok (pair (span (start_of c.name) (end_of c.name)) v) c.next = rw (span_back c.name) k.read in
        let read : next_pair text at ≡ ok (pair (span name (end_of c.name)) v) c.next =
        next_pair_lem text at ∙ rw (← q) (pair_inside text (start_of c.name) (end_of c.name) name c.next v there lo hi begins) in
        list_step text names at c.next c.end (pair (span name (end_of c.name)) v) held₀ held₁ held read i
        (list_joins c kept held₁ held c.next t (leads_none text c.next) e (rw z) o)
      where
        span_back : (s : Span) → span (start_of s) (end_of s) ≡ s
        span_back (span a b) = refl

  -- ---- saved
  module _ (room : ℕ) (m : List ℕ) (h : place_words + 2 * room ≤ length m) where
    pub saved_true : (p : Memory) → TrueParts text names p room m → TrueMemory text names room (sets m 0 (memory_words p))
    saved_true p t =
        rw (saved_back m p (omega arith))
        (record { first = rw (saved_kept m p (omega arith) room 0) t.first; second = rw (saved_kept m p (omega arith) room 1) t.second; fails = t.fails })

    module _ (a b c : Chain) (f : Failing) (held : List ℕ) (e : length held ≡ room) (t : TrueParts text names (memory a b f) room m) (new : TrueChain text names c held) where
      abbrev one : Memory
      one = memory a c f

      abbrev two : Memory
      two = memory c b f

      pub renewed_second : TrueMemory text names room (sets (sets m 0 (memory_words (memory a c f))) (place_words + room) held)
      renewed_second =
          let s = sets m 0 (memory_words one) in
          let l : place_words + 2 * room ≤ length s = rw (length-sets m 0 (memory_words one)) h in
          rw (places_aside s held room e (place_words + room) (omega arith), saved_back m one (omega arith))
          (record {
            first = rw (first_aside s held room e l, saved_kept m one (omega arith) room 0) t.first;
            second = rw (second_laid s held room e l) new;
            fails = t.fails;
          })

      pub renewed_first : TrueMemory text names room (sets (sets m 0 (memory_words (memory c b f))) place_words held)
      renewed_first =
          let s = sets m 0 (memory_words two) in
          let l : place_words + 2 * room ≤ length s = rw (length-sets m 0 (memory_words two)) h in
          rw (places_aside s held room e place_words (omega arith), saved_back m two (omega arith))
          (record {
            first = rw (first_laid s held room e l) new;
            second = rw (second_aside s held room e l, saved_kept m two (omega arith) room 1) t.second;
            fails = t.fails;
          })

  -- ---- where nothing was held before a list, what it has is held
  pub all_held : (at end : ℕ) (held₀ held : List ℕ) → held₀ ≡ replicate (length held₀) 0 → ListFrom text names at held₀ held end → held ≡ laid (length held₀) (map (has text at) names)
  all_held at end held₀ held z l = l.holds (λ _. none) (z ∙ sym (laid_nothing (length held₀) names))

  -- a list with a chain of its own
  pub own_chain : (at k end : ℕ) (p : Pair) (held₀ held : List ℕ) → next_pair text at ≡ ok p k → held₀ ≡ replicate (length held₀) 0 → ListFrom text names at held₀ held end
      → TrueChain text names (begun p k end) held
  own_chain at k end p held₀ held r z l =
      let h = all_held at end held₀ held z l in
      let same : length held ≡ length held₀ = ap length h ∙ laid_length (length held₀) (map (has text at) names) in
      chain_begun text names at k end p held r l.ends (h ∙ rw same)

  -- the same chains, with other names that make no pair
  pub parts_with : (room : ℕ) (m : List ℕ) (p : Memory) (f : Failing) → TrueParts text names p room m → TrueFailing text f → TrueParts text names (memory p.first p.second f) room m
  parts_with room m p f t x = record { first = t.first; second = t.second; fails = x }

  -- what a list with a chain of its own leaves, where it was renewed by so many words
  pub held_length : (at end : ℕ) (held₀ held : List ℕ) → held₀ ≡ replicate (length held₀) 0 → ListFrom text names at held₀ held end → length held ≡ length held₀
  held_length at end held₀ held z l = ap length (all_held at end held₀ held z l) ∙ laid_length (length held₀) (map (has text at) names)

  -- a chain under another name
  pub chain_same : (c d : Chain) (kept : List ℕ) → c ≡ d → TrueChain text names d kept → TrueChain text names c kept
  chain_same c d kept e t = rw e t

  -- what is loaded, brought forward
  pub loaded : (room : ℕ) (words : List ℕ) (l f : Memory) → l ≡ memory_of words → Forward text l.first f.first → Forward text l.second f.second → f.fails ≡ l.fails
      → TrueMemory text names room words → TrueParts text names f room words
  loaded room words l f e one two x t =
      let u : TrueParts text names l room words = rw e t in
      record { first = one names (kept_at room 0 words) u.first; second = two names (kept_at room 1 words) u.second; fails = rw x u.fails }

  -- a list that was read from nothing on
  pub last_of_each : (at end : ℕ) (held₀ held₁ held sizes names₁ : List ℕ) → names ≡ wordsOfNames names₁ sizes → held₁ ≡ replicate (length held₀) 0 → ListFrom text names at held₁ held end
      → LastOfEach text at names₁ sizes held₀ held end
  last_of_each at end held₀ held₁ held sizes names₁ n z l =
      let long : length held₁ ≡ length held₀ = ap length z ∙ length-replicate (length held₀) 0 in
      let nothing : held₁ ≡ replicate (length held₁) 0 = z ∙ rw long in
      record { ends = l.ends; holds = all_held at end held₁ held nothing l ∙ rw (long, n) }
