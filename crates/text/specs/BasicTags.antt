-- parser.rs, "Basic tags", and `playlist_type`, side by side with the Rust. Assumes nothing.
use Rattle.std.specs.Prelude.{ℕ, cond, List}
use Rattle.std.proofs.Math.Option.{Option}
use Rattle.text.specs.Why.{name_empty, type_empty}
use Rattle.text.specs.Nom.{ok, Parser, Span, bytes, tag, opt_tag, is_not, opt_is_not, take1, ◌>>=◌, done}
use Rattle.text.specs.Util.{spells}

-- fn m3u_tag = map(tag("#EXTM3U"), |_| ())
unfoldable pub m3u_tag : Parser (Unit {0})
m3u_tag = tag (bytes "#EXTM3U")

-- struct ExtTag { tag: String, rest: Option<String> }
pub data ExtTag : Type 0 where
  ext : Span → Option Span → ExtTag

-- fn ext_tag = tuple((tag("#EXT-"), is_not("\r\n:"), opt(char(':')), opt(is_not("\r\n")), take(1)))
unfoldable pub ext_tag : Parser ExtTag
ext_tag =
    tag (bytes "#EXT-") >>= λ _.
    is_not name_empty (bytes "\r\n:") >>= λ name.
    opt_tag (bytes ":") >>= λ _.
    opt_is_not (bytes "\r\n") >>= λ rest.
    take1 >>= λ _.
    done (ext name rest)

-- fn comment_tag = pair(preceded(char('#'), opt(is_not("\r\n"))), take(1))
unfoldable pub comment_tag : Parser (Option Span)
comment_tag =
    tag (bytes "#") >>= λ _.
    opt_is_not (bytes "\r\n") >>= λ text.
    take1 >>= λ _.
    done text

-- enum MediaPlaylistType { Event, Vod, Other(String) }
pub data PlaylistType : Type 0 where
  event vod : PlaylistType
  other : Span → PlaylistType

-- MediaPlaylistType::from_str: "EVENT" => Event, "VOD" => Vod, _ => Other(s)
abbrev pub from_str : List ℕ → Span → PlaylistType
from_str text typ = cond (spells text typ (bytes "EVENT")) event (cond (spells text typ (bytes "VOD")) vod (other typ))

-- fn playlist_type = map_res(tuple((is_not("\r\n"), take(1))), |(typ, _)| MediaPlaylistType::from_str(typ))
unfoldable pub playlist_type : Parser PlaylistType
playlist_type =
    is_not type_empty (bytes "\r\n") >>= λ typ.
    take1 >>= λ _.
    λ text at. ok (from_str text typ) at
