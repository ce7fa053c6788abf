-- The text of a database: what it gives, its lines and their bytes, and what may be spelled.
use Rattle.std.specs.Prelude.{◌≡◌, ◌≤◌, ◌<◌, ◌^◌, ℕ, Bool, true, false, List, [], ◌∷◌, ◌++◌, length}
use Rattle.std.specs.Prelude.{All, Option, Some, None, IfSome, codes}
use Rattle.std.specs.List.{flat_map}
use Rattle.std.specs.Fmt.{decimal}
use Rattle.rc_model.specs.declared.Kind.{Kind}
use Rattle.rc_model.specs.declared.Kind.TheVariants as kinds
use Rattle.rc_model.specs.Names.{IsName}
use Rattle.rc_db.specs.Service.{IsScript}
pub use Rattle.rc_dbtext.specs.Words.{BundleText, line_of_words}
use Rattle.rc_dbtext.specs.Form as form

-- what the first line of a service says
pub record Head : Type 0 where
  pub name : List ℕ
  pub kind : Kind
  pub essential : Bool
  pub limit_up : ℕ
  pub limit_down : ℕ

-- what follows the needs of a service: the longrun that a longrun feeds, or the texts of a oneshot,
-- of which the second may be missing
pub data Body : Type 0 where
  OfLongrun : (producer_for : Option (List ℕ)) → Body
  OfOneshot : (up : List ℕ) → (down : Option (List ℕ)) → Body

-- a service as the text gives it, others by their names
pub record ServiceText : Type 0 where
  pub head : Head
  pub needs : List (List ℕ)
  pub body : Body

-- a database as its text gives it
pub record DbText : Type 0 where
  pub services : List ServiceText
  pub bundles : List BundleText

-- a line by what it says; the text of a oneshot is of one line with
-- the one that says how long it is
pub data Line : Type 0 where
  First : Line
  ServiceCount : (count : ℕ) → Line
  OfService : (head : Head) → Line
  OfNeeds : (names : List (List ℕ)) → Line
  OfProducer : (producer_for : Option (List ℕ)) → Line
  OfUp : (text : List ℕ) → Line
  OfDown : (text : Option (List ℕ)) → Line
  BundleCount : (count : ℕ) → Line
  OfBundle : (bundle : BundleText) → Line
  Last : Line

abbrev pub kind_word : Kind → List ℕ
kind_word kinds.Oneshot = codes "oneshot"
kind_word kinds.Longrun = codes "longrun"
kind_word kinds.Bundle = codes "bundle"

abbrev pub flag_word : Bool → List ℕ
flag_word true = codes "essential"
flag_word false = codes "plain"

-- the name, or a dash for none
abbrev pub or_dash : Option (List ℕ) → List ℕ
or_dash (Some name) = name
or_dash None = codes "-"

-- how long the text is, or a dash for none
abbrev pub length_word : Option (List ℕ) → List ℕ
length_word (Some text) = decimal (length text)
length_word None = codes "-"

-- the words of a line
abbrev pub words : Line → List (List ℕ)
words First = codes "undorc-db" ∷ codes "1" ∷ []
words (ServiceCount count) = codes "services" ∷ decimal count ∷ []
words (OfService s) = codes "service" ∷ s.name ∷ kind_word s.kind ∷ flag_word s.essential
    ∷ decimal s.limit_up ∷ decimal s.limit_down ∷ []
words (OfNeeds names) = codes "needs" ∷ names
words (OfProducer producer_for) = codes "producer" ∷ or_dash producer_for ∷ []
words (OfUp text) = codes "up" ∷ decimal (length text) ∷ []
words (OfDown text) = codes "down" ∷ length_word text ∷ []
words (BundleCount count) = codes "bundles" ∷ decimal count ∷ []
words (OfBundle b) = codes "bundle" ∷ b.name ∷ b.members
words Last = codes "end" ∷ []

-- the text of a oneshot, with its newline
abbrev pub text_behind : Line → List ℕ
text_behind (OfUp text) = text ++ 10 ∷ []
text_behind (OfDown (Some text)) = text ++ 10 ∷ []
text_behind other = []

-- the bytes of a line
abbrev pub spell : Line → List ℕ
spell line = line_of_words (words line) ++ text_behind line

-- the bytes of lines
abbrev pub spells : List Line → List ℕ
spells lines = form.spells spell lines

abbrev pub body_lines : Body → List Line
body_lines (OfLongrun producer_for) = OfProducer producer_for ∷ []
body_lines (OfOneshot up down) = OfUp up ∷ OfDown down ∷ []

abbrev pub service_lines : ServiceText → List Line
service_lines s = OfService s.head ∷ OfNeeds s.needs ∷ body_lines s.body

abbrev pub bundle_lines : BundleText → List Line
bundle_lines b = OfBundle b ∷ []

-- how many there are, and the lines of each
abbrev pub count_and_lines : {A : Type 0} → (ℕ → Line) → (A → List Line) → List A → List Line
count_and_lines count lines values = count (length values) ∷ flat_map lines values

-- the lines of a database text
abbrev pub db_lines : DbText → List Line
db_lines t = First ∷ (count_and_lines ServiceCount service_lines t.services
    ++ (count_and_lines BundleCount bundle_lines t.bundles ++ Last ∷ []))

-- the text of a database, all of it
abbrev pub db_text : DbText → List ℕ
db_text t = spells (db_lines t)

-- a name, a kind of service, and limits of 32 bits
pub record IsHead (head : Head) : Type 0 where
  pub name : IsName head.name
  pub kind : (head.kind ≡ kinds.Bundle) → ⊥
  pub limit_up : head.limit_up < 2 ^ 32
  pub limit_down : head.limit_down < 2 ^ 32

-- what follows fits the kind, and is of names and texts
abbrev pub IsBody : Kind → Body → Type 0
IsBody kind (OfLongrun producer_for) = (kind ≡ kinds.Longrun) × IfSome producer_for IsName
IsBody kind (OfOneshot up down) = (kind ≡ kinds.Oneshot) × IsScript up × IfSome down IsScript

pub record IsServiceText (s : ServiceText) : Type 0 where
  pub head : IsHead s.head
  pub needs : All IsName s.needs
  pub body : IsBody s.head.kind s.body

pub record IsBundleText (b : BundleText) : Type 0 where
  pub name : IsName b.name
  pub members : All IsName b.members

-- at most 4,096 values, all of them such
pub record AreFew {A : Type 0} (Is : A → Type 0) (values : List A) : Type 0 where
  pub few : length values ≤ 4096
  pub each : All Is values

-- what may be spelled
pub record IsDbText (t : DbText) : Type 0 where
  pub services : AreFew IsServiceText t.services
  pub bundles : AreFew IsBundleText t.bundles
