-- The text of a line of states, in the form of now and in the older one.
use Rattle.std.specs.Prelude.{◌≡◌, ◌⊎◌, max, ℕ, List, length, map, Option, Some, None}
use Rattle.rc_model.specs.Database.{Database}
use Rattle.rc_model.specs.Line.{State, Line, states}
use Rattle.rc_dbtext.specs.Spelling.{bundle_text, members, name_at}
use Rattle.rc_livetext.specs.Text.{LiveText, StateText, live_text}

-- a state by the names of the services that are up, and its bundles
abbrev pub state_text : List (List ℕ) → State → StateText
state_text names s = record {
  live = map (name_at names) (members s.live);
  bundles = map (bundle_text names) s.table;
}

-- a line as a text gives it that says this of its bound
abbrev pub text_with : Option ℕ → Database → Line → LiveText
text_with bound d line = record {
  services = d.names;
  bound = bound;
  before = map (state_text d.names) line.before;
  current = state_text d.names line.current;
  after = map (state_text d.names) line.after;
}

-- a line as its text gives it
abbrev pub text_of : Database → Line → LiveText
text_of d line = text_with (Some line.bound) d line

-- a line as the older text gives it, which does not say how many states there may be
abbrev pub old_text_of : Database → Line → LiveText
old_text_of d line = text_with None d line

-- the text of a line
unfoldable pub spelling : Database → Line → List ℕ
spelling d line = live_text (text_of d line)

-- the older text of a line
unfoldable pub old_spelling : Database → Line → List ℕ
old_spelling d line = live_text (old_text_of d line)

-- how many states there may be where an older text was read
abbrev pub usual_bound : Line → ℕ
usual_bound line = max 1024 (length (states line))

-- the bytes are the text of the line, or its older text and the bound is the usual one
abbrev pub Spells : Database → List ℕ → Line → Type 0
Spells d bytes line =
    (bytes ≡ spelling d line) ⊎ ((bytes ≡ old_spelling d line) × (line.bound ≡ usual_bound line))
