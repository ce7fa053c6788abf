-- The file of a session and its run log, and what a program that is killed can leave of them.
use Rattle.std.specs.Prelude.{◌≡◌, ◌⊎◌, ◌++◌, ◌∷◌, [], ℕ, List}

-- the bytes of the two files
pub record Files : Type 0 where
  pub file : List ℕ
  pub log : List ℕ

-- a write: bytes are appended to the log by one call; the file is replaced whole, by a rename; or
-- the log is emptied
pub data Write : Type 0 where
  Append : (bytes : List ℕ) → Write
  Replace : (text : List ℕ) → Write
  Empty : Write

-- the two files after a write
abbrev pub after : Files → Write → Files
after f (Append bytes) = record { file = f.file; log = f.log ++ bytes }
after f (Replace text) = record { file = text; log = f.log }
after f Empty = record { file = f.file; log = [] }

-- bytes begin with this part
abbrev pub IsFront : (part bytes : List ℕ) → Type 0
IsFront part bytes = (rest : List ℕ) × (bytes ≡ part ++ rest)

-- what a write leaves that a crash cuts short: bytes are appended up to some point; a rename and
-- an emptying are done or not
abbrev pub Torn : Files → Write → Files → Type 0
Torn f (Append bytes) g =
    (part : List ℕ) × IsFront part bytes × (g ≡ record { file = f.file; log = f.log ++ part })
Torn f (Replace text) g = g ≡ f
Torn f Empty g = g ≡ f

-- what a crash leaves at some point of these writes, made in this order: before the first, within
-- one, or after the last
abbrev pub AfterCrash : List Write → Files → Files → Type 0
AfterCrash [] f g = g ≡ f
AfterCrash (w ∷ ws) f g = (g ≡ f) ⊎ Torn f w g ⊎ AfterCrash ws (after f w) g
