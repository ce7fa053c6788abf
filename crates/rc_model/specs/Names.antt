-- Names of services and bundles, their byte order, and sets of services.
use Rattle.std.specs.Prelude.{◌≢◌, ◌<◌, ◌≤◌, ℕ, List, length, All, IsTrue, slice_index, codes}
use Rattle.std.specs.Prelude.{nat_eq, ◌≡◌, AllPairs, Bool, true, false, slice_index_or, ◌↔◌}
use Rattle.std.specs.Str.{IsUtf8}
use Rattle.std.specs.List.{starts_with}
use Rattle.std.specs.Cmp.Lexicographic.{slice_cmp}
use Rattle.std.specs.Ordering.{nat_cmp}
use Rattle.std.specs.declared.cmp.Ordering.TheVariants.{Less}
use Rattle.rc_model.specs.declared.TheConstants.{MAX_NAMES}

-- a byte that may stand in a name: above the space, and neither a slash nor 127
abbrev pub IsNameByte : ℕ → Type 0
IsNameByte byte = (32 < byte) × (byte ≢ 47) × (byte ≢ 127)

-- text of allowed bytes that begins with neither `-` (45) nor `#` (35)
pub record HasNameBytes (text : List ℕ) : Type 0 where
  pub each : All IsNameByte text
  pub no_option : slice_index text 0 ≢ 45
  pub no_comment : slice_index text 0 ≢ 35

-- text that begins with `s6rc-`, a prefix that is reserved, as in s6-rc
abbrev pub IsReserved : List ℕ → Type 0
IsReserved text = IsTrue (starts_with nat_eq text (codes "s6rc-"))

-- 1 to 255 bytes of UTF-8, each of them allowed, the first neither `-` nor `#`, and not reserved
pub record IsName (text : List ℕ) : Type 0 where
  pub some : 0 < length text
  pub short : length text ≤ 255
  pub bytes : HasNameBytes text
  pub unreserved : IsReserved text → ⊥
  pub utf8 : IsUtf8 text

-- a text stands before another in byte order
abbrev pub IsBefore : List ℕ → List ℕ → Type 0
IsBefore a b = slice_cmp nat_cmp a b ≡ Less

-- each text stands before all later ones, so each stands once
abbrev pub IsInByteOrder : List (List ℕ) → Type 0
IsInByteOrder texts = AllPairs IsBefore texts

-- what the services of a database are called: names, in byte order, at most 4,096 (`MAX_NAMES`)
pub record AreNames (texts : List (List ℕ)) : Type 0 where
  pub order : IsInByteOrder texts
  pub each : All IsName texts
  pub few : length texts ≤ MAX_NAMES

-- a set is a list of truth values, one for each service, and its bound is the length of that list;
-- it has a service, which is a number (its id, its place among the names), where true stands there
abbrev pub Has : List Bool → ℕ → Type 0
Has set s = slice_index_or set s false ≡ true

-- the set has exactly the services of which this holds
abbrev pub Holds : List Bool → (ℕ → Type 0) → Type 0
Holds set P = (s : ℕ) → Has set s ↔ P s

-- each id is below all later ones, so each stands once
abbrev pub IsAscending : List ℕ → Type 0
IsAscending ids = AllPairs (λ a b. a < b) ids
