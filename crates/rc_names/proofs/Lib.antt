-- The lemmas of rc_names, in reading order.

-- What adding a name answers at each of its exits.
mod Adding
-- What a table shows once `insert_sorted` put a new name in.
mod Inserting
-- What a table shows after a name that comes last went in.
mod Appending
-- What a table's keys say of the texts that it shows: `bytes` reads a key, and the texts are the
-- keys' bytes.
mod Finding
-- What a list of names is once a name went in at the place where it is missing.
pub mod Growth
-- What a search by a text finds in a list that shows names in byte order.
pub mod Search
