-- Worked examples, by computation: for each rule a text that it takes and one that it refuses. Assumes nothing.
use Rattle.std.specs.Prelude.{◌≡◌, refl, true, false, [], ◌∷◌}
use Rattle.std.proofs.Math.Option.{none, some}
use Rattle.text.specs.Why.{no_digits, missing_byte}
use Rattle.text.specs.Nom.{fail, ok, span, bytes, is_digit, begins, tagged, after_tag, run, run_end, decimal}
use Rattle.lengths.specs.Duration.{counted, ns, too_many_digits, float, extinf, duration_title_tag}
use Rattle.lengths.specs.Binary32.{seconds_bits}
use Rattle.lengths.specs.Answers.{end_of}

-- ---- lengths
whole : float (bytes "9,") 0 ≡ ok (ns 9000000000) 1
unfolding float counted is_digit run_end run decimal tagged begins
whole = refl

fraction : float (bytes "9.009,") 0 ≡ ok (ns 9009000000) 5
unfolding float counted is_digit run_end run decimal tagged begins
fraction = refl

-- a point without digits is left standing
point : float (bytes "9.,t") 0 ≡ ok (ns 9000000000) 1
unfolding float counted is_digit run_end run decimal tagged begins
point = refl

largest_length : float (bytes "999999999.999999999") 0 ≡ ok (ns 999999999999999999) 19
unfolding float counted is_digit run_end run decimal tagged begins
largest_length = refl

nine_digits : float (bytes "000000009,") 0 ≡ ok (ns 9000000000) 9
unfolding float counted is_digit run_end run decimal tagged begins
nine_digits = refl

ten_digits : float (bytes "0000000009,") 0 ≡ ok too_many_digits 10
unfolding float counted is_digit run_end run decimal tagged begins
ten_digits = refl

ten_after : float (bytes "1.0000000000,") 0 ≡ ok too_many_digits 12
unfolding float counted is_digit run_end run decimal tagged begins
ten_after = refl

no_length : float (bytes ".5") 0 ≡ fail no_digits
unfolding float counted is_digit run_end run decimal tagged begins
no_length = refl

-- ---- EXTINF, behind its colon
title : duration_title_tag (bytes "9,a,b\nx\n") 0 ≡ ok (extinf (ns 9000000000) (some (span 2 3))) 4
unfolding duration_title_tag float counted is_digit run_end run decimal tagged after_tag begins
title = refl

-- the title is what stands before a comma; one byte is taken, and a comma after it
title_comma : duration_title_tag (bytes "9,a, ,b\n") 0 ≡ ok (extinf (ns 9000000000) (some (span 2 3))) 4
unfolding duration_title_tag float counted is_digit run_end run decimal tagged after_tag begins
title_comma = refl

title_point : duration_title_tag (bytes "9.,t\nx\n") 0 ≡ ok (extinf (ns 9000000000) (some (span 1 2))) 3
unfolding duration_title_tag float counted is_digit run_end run decimal tagged after_tag begins
title_point = refl

comma_next : duration_title_tag (bytes "9,\n,x\n") 0 ≡ ok (extinf (ns 9000000000) none) 4
unfolding duration_title_tag float counted is_digit run_end run decimal tagged after_tag begins
comma_next = refl

comma_after_cr : duration_title_tag (bytes "9,\r\n,x\n") 0 ≡ ok (extinf (ns 9000000000) none) 3
unfolding duration_title_tag float counted is_digit run_end run decimal tagged after_tag begins
comma_after_cr = refl

no_byte : duration_title_tag (bytes "0000000000") 0 ≡ fail missing_byte
unfolding duration_title_tag float counted is_digit run_end run decimal tagged after_tag begins
no_byte = refl

-- without its values, nine digits on each side and one more
nine_told : end_of (duration_title_tag (bytes "123456789.123456789,\n") 0) ≡ some (false, 21)
unfolding duration_title_tag float counted is_digit run_end run decimal tagged after_tag begins
nine_told = refl

ten_told : end_of (duration_title_tag (bytes "1.1234567891,\n") 0) ≡ some (true, 14)
unfolding duration_title_tag float counted is_digit run_end run decimal tagged after_tag begins
ten_told = refl

-- ---- "bits: 0.1 s 3DCCCCCD, 9 s 41100000, 16777217 s as 16777216, 999999999.999999999 s 4E6E6B28"; in the list of edges (`media`) they stand as a text
bits :
    seconds_bits 100000000 ∷ seconds_bits 9000000000 ∷ seconds_bits 16777217000000000 ∷ seconds_bits 16777216000000000 ∷ seconds_bits 999999999999999999 ∷ []
    ≡ 0x3DCCCCCD ∷ 0x41100000 ∷ 0x4B800000 ∷ 0x4B800000 ∷ 0x4E6E6B28 ∷ []
unfolding seconds_bits
bits = refl

-- "Tempting and wrong: .. rounding via a second float type": a binary64 would make 16777217 s of this, and the binary32 of that is 16777216 s
rounded_once : seconds_bits 16777217000000001 ≡ 0x4B800001
unfolding seconds_bits
rounded_once = refl

-- "0 s is all zero bits"
pub zero_bits : seconds_bits 0 ≡ 0
unfolding seconds_bits
zero_bits = refl
