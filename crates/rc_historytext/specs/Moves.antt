-- The moves of a history, on what its text gives.
use Rattle.std.specs.Prelude.{◌+◌, ◌-◌, ◌==◌, ℕ, zero, suc, Bool, List, [], ◌∷◌, ◌++◌, length}
use Rattle.std.specs.Prelude.{take, drop}
use Rattle.std.specs.Prelude.{if◌then◌else◌}
use Rattle.rc_historytext.specs.Text.{GenerationText, HistoryText}

-- the border before the present generation is crossed
abbrev pub crossed_back : HistoryText → HistoryText
crossed_back t = record t { present = t.present - 1 }

-- the border after it is crossed
abbrev pub crossed_on : HistoryText → HistoryText
crossed_on t = record t { present = t.present + 1 }

-- the generations after the present one are dropped
abbrev pub without_later : HistoryText → HistoryText
without_later t = record t { generations = take (t.present + 1) t.generations }

-- to the oldest generation no update led
abbrev pub as_oldest : List GenerationText → List GenerationText
as_oldest [] = []
as_oldest (g ∷ rest) = record g { renames = [] } ∷ rest

-- the generations before the present one are dropped
abbrev pub without_earlier : HistoryText → HistoryText
without_earlier t =
    record { present = 0; generations = as_oldest (drop t.present t.generations) }

-- the generation at a place has another session, and other marks
abbrev pub with_session_at : ℕ → List GenerationText → List ℕ → (first last : Bool) →
    List GenerationText
with_session_at place [] session first last = []
with_session_at zero (g ∷ rest) session first last =
    record g { session = session; first_passed = first; last_passed = last } ∷ rest
with_session_at (suc place) (g ∷ rest) session first last =
    g ∷ with_session_at place rest session first last

-- the present one has
abbrev pub with_session : HistoryText → List ℕ → (first last : Bool) → HistoryText
with_session t session first last =
    record t { generations = with_session_at t.present t.generations session first last }

-- the oldest generation is dropped
abbrev pub without_oldest : HistoryText → HistoryText
without_oldest t =
    record { present = t.present - 1; generations = as_oldest (drop 1 t.generations) }

-- the oldest of eight generations is dropped
abbrev pub with_room : HistoryText → HistoryText
with_room t = if length t.generations == 8 then without_oldest t else t

-- a generation is added at the end, and is the present one
abbrev pub with_last : HistoryText → GenerationText → HistoryText
with_last t g = record { present = t.present + 1; generations = t.generations ++ g ∷ [] }

-- a generation begins after the present one, in the place of those that came after it; the oldest
-- of eight is dropped
abbrev pub begun : HistoryText → GenerationText → HistoryText
begun t g = with_last (with_room (without_later t)) g
