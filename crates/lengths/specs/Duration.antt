-- parser.rs, `float` and `duration_title_tag`, side by side with the Rust. Assumes nothing.
use Rattle.std.specs.Prelude.{ℕ, ◌+◌, ◌-◌, ◌*◌, ◌^◌, Bool, true, false, cond, ◌&&◌, leb}
use Rattle.std.proofs.Math.Option.{Option, none, some}
use Rattle.text.specs.Nom.{Parser, Span, bytes, tag, opt_tag, opt_is_not, take1, digit1, place, opt, preceded, ◌>>=◌, done}
use Rattle.tables.specs.Layout.{second}

-- what digits write, and how many they are
pub data Digits : Type 0 where
  digits : ℕ → ℕ → Digits

-- take_while1(is_digit)
unfoldable pub counted : Parser Digits
counted =
    place >>= λ from.
    digit1 >>= λ v.
    place >>= λ to.
    done (digits v (to - from))

-- "an EXTINF that reads has over 9 digits before or after the point"
abbrev pub side_digits : ℕ
side_digits = 9

-- a length: "ns is the digits times 10^9, exact", or more digits than that allows
pub data Length : Type 0 where
  ns : ℕ → Length
  too_many_digits : Length

abbrev pub length_of : Digits → Option Digits → Length
length_of (digits v n) none = cond (leb n side_digits) (ns (v * second)) too_many_digits
length_of (digits v n) (some (digits w m)) = cond (leb n side_digits && leb m side_digits) (ns (v * second + w * 10 ^ (9 - m))) too_many_digits

-- fn float = map_res(pair(take_while1(is_digit), opt(preceded(char('.'), take_while1(is_digit)))), |(left, right)| .. n.parse())
unfoldable pub float : Parser Length
float =
    counted >>= λ left.
    opt (preceded (tag (bytes ".")) counted) >>= λ right.
    done (length_of left right)

-- SegmentTag::Extinf(f32, Option<String>)
pub data Extinf : Type 0 where
  extinf : Length → Option Span → Extinf

-- whether its length has too many digits
abbrev pub is_long : Extinf → Bool
is_long (extinf (ns x) title) = false
is_long (extinf too_many_digits title) = true

-- fn duration_title_tag = map(tuple((float, opt(char(',')), opt(is_not("\r\n,")), take(1), opt(char(',')))), |(duration, _, title, _, _)| (duration, title))
unfoldable pub duration_title_tag : Parser Extinf
duration_title_tag =
    float >>= λ duration.
    opt_tag (bytes ",") >>= λ _.
    opt_is_not (bytes "\r\n,") >>= λ title.
    take1 >>= λ _.
    opt_tag (bytes ",") >>= λ _.
    done (extinf duration title)
