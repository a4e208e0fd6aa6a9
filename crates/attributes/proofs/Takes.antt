-- How far each rule of the attributes goes: the rule written again, with the laws of text's `Takes`. Assumes nothing.
use native.Mathlib.Omega.{arith}
use Rattle.text.specs.Why.{missing_byte}
use Rattle.text.specs.Nom.{bytes, tag, opt_tag, is_not, peek_none_of, take_until, alt, space0}
use Rattle.text.proofs.Takes.{Takes, takes_tag, takes_opt_tag, takes_is_not, takes_peek, takes_until, takes_done, takes_bind, takes_less, takes_alt, takes_map, takes_many, takes_space0}
use Rattle.attributes.specs.Pairs.{bare, in_quotes, pair, quoted, unquoted, key_value_pair, next_pair, key_value_pairs}

pub takes_quoted : Takes 3 quoted
unfolding quoted
takes_quoted =
    takes_bind 1 2 (tag (bytes "\"")) _ (takes_tag (bytes "\"")) (λ _.
    takes_bind 1 1 (is_not missing_byte (bytes "\"")) _ (takes_is_not missing_byte (bytes "\"")) (λ s.
    takes_bind 1 0 (tag (bytes "\"")) _ (takes_tag (bytes "\"")) (λ _.
    takes_done (in_quotes s))))

pub takes_unquoted : Takes 1 unquoted
unfolding unquoted
takes_unquoted = takes_map 1 bare (is_not missing_byte (bytes ",\r\n")) (takes_is_not missing_byte (bytes ",\r\n"))

takes_value : Takes 1 (alt quoted unquoted)
takes_value = takes_alt 1 quoted unquoted (takes_less 1 3 (omega arith) quoted takes_quoted) takes_unquoted

pub takes_key_value_pair : Takes 2 key_value_pair
unfolding key_value_pair
takes_key_value_pair =
    takes_bind 0 2 (peek_none_of (bytes "\r\n")) _ (takes_peek (bytes "\r\n")) (λ _.
    takes_bind 0 2 (take_until (bytes "=")) _ (takes_until (bytes "=")) (λ left.
    takes_bind 1 1 (tag (bytes "=")) _ (takes_tag (bytes "=")) (λ _.
    takes_bind 1 0 (alt quoted unquoted) _ takes_value (λ right.
    takes_bind 0 0 (opt_tag (bytes ",")) _ (takes_opt_tag (bytes ",")) (λ _.
    takes_done (pair left right))))))

pub takes_next_pair : Takes 2 next_pair
unfolding next_pair
takes_next_pair = takes_bind 0 2 space0 _ takes_space0 (λ _. takes_key_value_pair)

pub takes_key_value_pairs : Takes 0 key_value_pairs
unfolding key_value_pairs
takes_key_value_pairs = takes_many 2 next_pair takes_next_pair
