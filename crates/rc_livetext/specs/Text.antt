-- The text of a session: what it gives, its lines and their bytes, and what may be spelled.
use Rattle.std.specs.Prelude.{◌≤◌, ◌<◌, ◌^◌, ℕ, Bool, true, false, codes}
use Rattle.std.specs.Prelude.{List, [], ◌∷◌, ◌++◌, length, map, All, Option, Some, None, IfSome}
use Rattle.std.specs.List.{flat_map}
use Rattle.std.specs.Fmt.{decimal}
use Rattle.rc_model.specs.Names.{IsName, IsInByteOrder}
use Rattle.rc_dbtext.specs.Words.{BundleText, line_of_words}
use Rattle.rc_dbtext.specs.Form.{spells}

-- a state as the text gives it: the names of the services that are up, and the bundles
pub record StateText : Type 0 where
  pub live : List (List ℕ)
  pub bundles : List BundleText

-- a line of states as its text gives it: the names of all services, how many states there may be,
-- which the older form does not say, the states before the current one, the current one, and those
-- after it
pub record LiveText : Type 0 where
  pub services : List (List ℕ)
  pub bound : Option ℕ
  pub before : List StateText
  pub current : StateText
  pub after : List StateText

-- a line of text by what it says
pub data Line : Type 0 where
  First : (bounded : Bool) → Line
  OfServices : (names : List (List ℕ)) → Line
  OfBound : (bound : ℕ) → Line
  OfState : (current : Bool) → (names : List (List ℕ)) → Line
  OfBundle : (bundle : BundleText) → Line
  Last : Line

-- the number of the form: the older one has no bound
abbrev pub version_word : Bool → List ℕ
version_word true = codes "2"
version_word false = codes "1"

-- how the line of a state begins
abbrev pub state_word : Bool → List ℕ
state_word true = codes "now"
state_word false = codes "up"

-- the words of a line
abbrev pub words : Line → List (List ℕ)
words (First bounded) = codes "undorc-live" ∷ version_word bounded ∷ []
words (OfServices names) = codes "services" ∷ names
words (OfBound bound) = codes "bound" ∷ decimal bound ∷ []
words (OfState current names) = state_word current ∷ names
words (OfBundle b) = codes "bundle" ∷ b.name ∷ b.members
words Last = codes "end" ∷ []

-- the bytes of a line
abbrev pub spell : Line → List ℕ
spell line = line_of_words (words line)

-- the lines of a state, its bundles after it
abbrev pub state_lines : Bool → StateText → List Line
state_lines current s = OfState current s.live ∷ map OfBundle s.bundles

-- the lines in front of the states
abbrev pub head_lines : List (List ℕ) → Option ℕ → List Line
head_lines services (Some bound) = First true ∷ OfServices services ∷ OfBound bound ∷ []
head_lines services None = First false ∷ OfServices services ∷ []

-- the lines of a live text
abbrev pub live_lines : LiveText → List Line
live_lines t =
    head_lines t.services t.bound
    ++ (flat_map (state_lines false) t.before
    ++ (state_lines true t.current
    ++ (flat_map (state_lines false) t.after
    ++ Last ∷ [])))

-- a live text, all of it
abbrev pub live_text : LiveText → List ℕ
live_text t = spells spell (live_lines t)

-- names in byte order, each once
pub record AreAscending (names : List (List ℕ)) : Type 0 where
  pub order : IsInByteOrder names
  pub each : All IsName names

-- a bundle that may be spelled: its members in byte order
pub record IsBundleText (b : BundleText) : Type 0 where
  pub name : IsName b.name
  pub members : AreAscending b.members

-- a state that may be spelled: at most 4,096 bundles, their names in byte order
pub record IsStateText (s : StateText) : Type 0 where
  pub live : AreAscending s.live
  pub order : IsInByteOrder (map (λ b. b.name) s.bundles)
  pub few : length s.bundles ≤ 4096
  pub each : All IsBundleText s.bundles

-- how many states there may be: at least three, and a number of 32 bits
abbrev pub IsBound : ℕ → Type 0
IsBound bound = (3 ≤ bound) × (bound < 2 ^ 32)

-- what may be spelled
pub record IsLiveText (t : LiveText) : Type 0 where
  pub services : AreAscending t.services
  pub bound : IfSome t.bound IsBound
  pub before : All IsStateText t.before
  pub current : IsStateText t.current
  pub after : All IsStateText t.after
