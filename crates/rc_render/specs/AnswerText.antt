-- The answers to commands, as text.
use Rattle.std.specs.Prelude.{ℕ, List, [], ◌∷◌, ◌++◌, Result, Ok, Err}
use Rattle.rc_model.specs.declared.Refusal.{Refusal}
use Rattle.rc_model.specs.Session.{Command, Change, Undo, Redo, Add, Delete, Reported}
use Rattle.rc_render.specs.ReportText.{report_text}
use Rattle.rc_render.specs.RefusalText.{refusal_text}

-- the words of a command, at the places that refusals tell
abbrev pub words_of : Command → List (List ℕ)
words_of (Change ask events) = ask.words
words_of (Undo limit events) = []
words_of (Redo limit events) = []
words_of (Add name contents force) = name ∷ contents
words_of (Delete words force) = words

-- what is answered to a command
abbrev pub answer_text : List (List ℕ) → Command → Result Reported Refusal → List ℕ
answer_text names command (Ok told) = report_text names told
answer_text names command (Err refusal) = refusal_text (words_of command) refusal

-- what is answered to commands, one after the other
abbrev pub answers_text : List (List ℕ) → List Command → List (Result Reported Refusal) → List ℕ
answers_text names [] answers = []
answers_text names (command ∷ commands) [] = []
answers_text names (command ∷ commands) (answer ∷ answers) =
    answer_text names command answer ++ answers_text names commands answers
