-- Which history the bytes of a text give, with a mark for each of its places.
use Rattle.std.specs.Prelude.{◌≡◌, ◌||◌, ℕ, Bool, false, List, [], ◌∷◌, ◌++◌, All}
use Rattle.rc_model.specs.Line.{State, states}
use Rattle.rc_db.specs.Database.{IsWritable}
use Rattle.rc_history.specs.History.{Generation, History, generations}
use Rattle.rc_historytext.specs.Text.{GenerationText, HistoryText, IsHistoryText, history_text}
use Rattle.rc_historytext.specs.Telling.{Tells}

-- the marks of the states behind the first one of a generation: all but the last one are stops
abbrev pub later_marks : (last : Bool) → List State → List Bool
later_marks last [] = []
later_marks last (s ∷ []) = last ∷ []
later_marks last (s ∷ next ∷ rest) = false ∷ later_marks last (next ∷ rest)

-- the marks of all its states, oldest first; a state that is the only one is both ends
abbrev pub marks_within : (first last : Bool) → List State → List Bool
marks_within first last [] = []
marks_within first last (s ∷ []) = (first || last) ∷ []
marks_within first last (s ∷ next ∷ rest) = first ∷ later_marks last (next ∷ rest)

-- the marks of the states of all generations, as their texts have them
abbrev pub all_marks : List GenerationText → List Generation → List Bool
all_marks [] generations = []
all_marks (g ∷ gs) [] = []
all_marks (g ∷ gs) (generation ∷ rest) =
    marks_within g.first_passed g.last_passed (states generation.line) ++ all_marks gs rest

-- the bytes are the text of a history: this is what it gives, each of its databases can be written
-- as text, and these are the marks of its places
pub record GivesHistory (bytes : List ℕ) (h : History) (marks : List Bool) : Type 0 where
  pub t : HistoryText
  pub is : IsHistoryText t
  pub spelled : bytes ≡ history_text t
  pub tells : Tells t h
  pub writable : All (λ (generation : Generation). IsWritable generation.base) (generations h)
  pub marked : marks ≡ all_marks t.generations (generations h)
