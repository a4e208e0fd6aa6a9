-- what lines and tags say, spans by their bytes
pub mod Said
-- what a reading says: head and clips out of what its steps say
pub mod Assembled
-- the lines of a list say the list
pub mod Told
-- places between characters
pub mod Edges
-- what a rule gives when it succeeds
pub mod Gives
-- a step where a line's fixed text is ahead
pub mod Steps
-- numbers that were written read back
pub mod Numbers
-- each kind of line reads back
pub mod HeadLines
pub mod ClipLines
pub mod MapLines
pub mod ReadLines
-- a text of such lines is read line by line
pub mod Written
-- the lines of a list fit
pub mod Fitting
-- what the rules behind a tag give
pub mod Values
-- rules whose failing depends on the line alone
pub mod Alike
-- a name and the byte behind it
pub mod Named
-- what is sound of a tag
pub mod Sounds
-- what each known tag brings to the round trip
pub mod Rows
-- what the reader guarantees of the tag that a step takes
pub mod Sound
-- and for the whole reading
pub mod Taken
-- nothing that lines say is refused
pub mod Refused
-- a text that says the same is read as the same list
pub mod Again
-- what the reader guarantees of the list that it gives
pub mod Guaranteed
-- a list that keeps the premises is clean
pub mod Premised
-- the text of a list that was read is UTF-8
pub mod Spelled
-- an accepted reading, part by part
pub mod Accepted
-- its verdict is media
pub mod Media
-- these laws at work
pub mod ListExample
-- an unknown tag is unknown again when it is written
pub mod Unknown
-- UTF-8 of parts
pub mod Utf8
-- the round trip
pub mod Round
-- what the reader gives keeps rule 9
pub mod Keeps
-- what an accepted reading leaves in its tables
pub mod Held
-- what was read can be written
pub mod Writing
-- the same list has the same float bits
pub mod Bits
-- the round trip by what the calls promise
pub mod Calls
-- and by what the face promises
pub mod Face
-- where a reading stops
pub mod Stops
