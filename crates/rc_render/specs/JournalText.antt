-- The journal of a line, as text: where the line stands, and what each entry altered.
use Rattle.std.specs.Prelude.{◌≡◌, ℕ, suc, Bool, true, false, List, [], ◌∷◌, ◌++◌, length, Option}
use Rattle.std.specs.Prelude.{Some, None, codes}
use Rattle.std.specs.List.{flat_map, join_with_byte}
use Rattle.std.specs.Fmt.{decimal}
use Rattle.rc_model.specs.Names.{Holds}
use Rattle.rc_model.specs.Line.{Alteration, IsEdit, State, Entry, IsEntry, IsGained, Line, states}
use Rattle.rc_model.specs.Line.{cursor}
use Rattle.rc_render.specs.Lines.{line}
use Rattle.rc_render.specs.Names.{names_in}

-- a service that came up, or went down, from one state to the next; one that stayed is not shown
abbrev pub sign : List ℕ → Bool → Bool → List ℕ
sign name false true = codes " +" ++ name
sign name true false = codes " -" ++ name
sign name true true = []
sign name false false = []

-- the services that came up or went down from one set to the next, in byte order
abbrev pub signs : List (List ℕ) → List Bool → List Bool → List ℕ
signs [] from to = []
signs (name ∷ names) [] to = []
signs (name ∷ names) (a ∷ from) [] = []
signs (name ∷ names) (a ∷ from) (b ∷ to) = sign name a b ++ signs names from to

-- the value of a bundle: its members in brackets with a comma between them, or
-- none where the name is no bundle
abbrev pub value_text : List (List ℕ) → Option (List Bool) → List ℕ
value_text names None = codes "none"
value_text names (Some set) = codes "[" ++ join_with_byte 44 (names_in names set) ++ codes "]"

-- a bundle that altered, with both values
abbrev pub alteration_text : List (List ℕ) → Alteration → List ℕ
alteration_text names a = codes " " ++ a.name ++ codes ":" ++ value_text names a.before ++ codes ">"
    ++ value_text names a.after

-- the line of the entry from one state to another: its place, the services that
-- moved, the bundles that altered
abbrev pub IsEntryLine : List (List ℕ) → ℕ → State → State → List ℕ → Type 0
IsEntryLine names place from to text = (edit : List Alteration) × IsEdit from.table to.table edit
    × (text ≡ line (decimal place ++ signs names from.live to.live
    ++ flat_map (alteration_text names) edit))

-- the lines of the entries between states, the first with this place
abbrev pub AreEntryLines : List (List ℕ) → ℕ → List State → List ℕ → Type 0
AreEntryLines names place [] text = text ≡ []
AreEntryLines names place (a ∷ []) text = text ≡ []
AreEntryLines names place (a ∷ b ∷ rest) text =
    (first : List ℕ) × (others : List ℕ) × IsEntryLine names place a b first
    × AreEntryLines names (suc place) (b ∷ rest) others × (text ≡ first ++ others)

-- the number of the current state, and how many states there are
abbrev pub place_text : (at count : ℕ) → List ℕ
place_text at count = line (codes "at " ++ decimal at ++ codes " of " ++ decimal count)

-- where the cursor of a line stands, and how many states the line has
abbrev pub place_line : Line → List ℕ
place_line l = place_text (cursor l) (length (states l))

-- the journal of a line: where it stands, and its entries
abbrev pub IsJournalText : List (List ℕ) → Line → List ℕ → Type 0
IsJournalText names l text =
    (entries : List ℕ) × AreEntryLines names 0 (states l) entries × (text ≡ place_line l ++ entries)

-- the entry from one state to another, both with sets of this bound
pub record IsEntryBelow (bound : ℕ) (from to : State) (entry : Entry) : Type 0 where
  pub before : length from.live ≡ bound
  pub after : length to.live ≡ bound
  pub exact : IsEntry from to entry

-- of two sets, the one has what is gained from one set to another, and the other what is lost
pub record AreMoves (from to gained lost : List Bool) : Type 0 where
  pub up : Holds gained (IsGained from to)
  pub down : Holds lost (IsGained to from)
  pub before : length from ≡ length gained
  pub after : length to ≡ length gained
