-- The history in which a command keeps its session.
use Rattle.std.specs.Prelude.{◌≡◌, ℕ, Bool, true, false, List, Option, None, Some, option_map}
use Rattle.rc_args.specs.declared.session_command.SessionCommand.{SessionCommand}
use Rattle.rc_args.specs.declared.session_command.SessionCommand.TheVariants.{Line, Lines}
use Rattle.rc_historytext.specs.Updating.{IsBegun}
use Rattle.rc_launch.specs.HeldHistory.{IsAlone, history_found, history_in}
use Rattle.rc_launch.specs.Loading.{bytes_in}
use Rattle.rc_launch.specs.Logs.{text_in}
use Rattle.rc_launch.specs.declared.live_store.Frame.{Frame}
use Rattle.rc_launch.specs.declared.live_store.Frame.TheVariants.{Begins}
use Rattle.rc_launch.specs.declared.opened.Opened.{Opened}

-- the state to which a command goes back, if it names one
abbrev pub state_of : SessionCommand → Option ℕ
state_of (Line request) = request.to
state_of other = None

-- a history that begins with this database and this session, if there is one
abbrev pub IsFrameBack : (database : List ℕ) → (session : Option (List ℕ)) → Frame → Type 0
IsFrameBack database None frame = history_in frame ≡ None
IsFrameBack database (Some session) frame =
    (whole : List ℕ) × (history_in frame ≡ Some whole) × IsBegun database session whole

-- a history is to begin with this database
abbrev pub IsToBegin : (database : List ℕ) → Frame → Type 0
IsToBegin database (Begins given) = given.now ≡ database
IsToBegin database other = ⊥

-- a command serves the lines of an input, and leaves a session alone that was kept so
abbrev pub serves_lines : SessionCommand → Bool
serves_lines (Lines request) = true
serves_lines other = false

-- where no history was found, any other command begins one with its database, if one was read; if
-- it goes back to a state, the session that was found stands in that
abbrev pub IsNewFrame : (to : Option ℕ) → (lines : Bool) → (base : Option (List ℕ))
    → (session : Option (List ℕ)) → Frame → Type 0
IsNewFrame to lines None session frame = IsAlone frame
IsNewFrame (Some state) lines (Some base) session frame = IsFrameBack base session frame
IsNewFrame None true (Some base) session frame = IsAlone frame
IsNewFrame None false (Some base) session frame = IsToBegin base frame

-- a session is kept in the history that was found
abbrev pub IsFrameBy : (found : Option (List ℕ)) → (to : Option ℕ) → (lines : Bool)
    → (base : Option (List ℕ)) → (session : Option (List ℕ)) → Frame → Type 0
IsFrameBy (Some whole) to lines base session frame = history_in frame ≡ Some whole
IsFrameBy None to lines base session frame = IsNewFrame to lines base session frame

-- the same of a command whose files are opened
abbrev pub IsFrameOf : Opened → Frame → Type 0
IsFrameOf opened frame = IsFrameBy (history_found opened.live) (state_of opened.loaded.command)
    (serves_lines opened.loaded.command) (option_map bytes_in opened.loaded.base)
    (text_in (λ bytes. bytes.items) opened.live.found) frame
