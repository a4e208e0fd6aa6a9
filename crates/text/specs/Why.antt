-- Why a rule fails: the first thing met, in the order of 01's rules. Assumes nothing.

pub data Why : Type 0 where
  -- the fixed text is not there
  other_text : Why
  -- no digits where a number is due
  no_digits : Why
  -- a number above 2^64 - 1
  too_large : Why
  -- a byte is due, and the text is at its end or goes on with one that can't stand there
  missing_byte : Why
  -- a PLAYLIST-TYPE of no bytes
  type_empty : Why
  -- an unknown tag with a name of no bytes
  name_empty : Why
  -- a MAP without URI
  no_uri : Why
  -- a MAP whose URI is not quoted
  uri_not_quoted : Why
  -- a MAP whose BYTERANGE is not quoted
  range_not_quoted : Why
  -- a MAP whose BYTERANGE is not begun by a byte range
  range_bad : Why
  -- a CR that no LF follows, in a line that is taken as a URI
  lone_cr : Why
