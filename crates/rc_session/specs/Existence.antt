-- What can be done where a line stands.
use Rattle.std.specs.Prelude.{◌≢◌, ◌⊎◌, ℕ, List, [], Ok}
use Rattle.rc_model.specs.Names.{IsName}
use Rattle.rc_model.specs.Database.{Database}
use Rattle.rc_model.specs.declared.Event.{Event}
use Rattle.rc_model.specs.Line.{Line, IsNext}
use Rattle.rc_model.specs.declared.Refusal.{Refusal}
use Rattle.rc_model.specs.Session.{Command, Undo, Redo, Add, Reported, Does, IsOwnFault}
use Rattle.rc_session.specs.Commands.{with_events}
use Rattle.rc_model.specs.Headline.{WentWell}

-- some events carry the command out with nothing failing, and then the line is this one
abbrev pub CanGoWell : Database → Line → Command → Line → Type 0
CanGoWell d line command new = (events : List Event) × (told : Reported)
    × Does d line (with_events command events) told new × WentWell (Ok told)

-- where there is a state before the current one an undo can go well, and stands on that state then
abbrev pub WaysBack : Database → Line → Type 0
WaysBack d line = (limit : ℕ) → line.before ≢ [] →
    (back : Line) × IsNext back line × CanGoWell d line (Undo limit []) back

-- where there is one after it so can a redo
abbrev pub WaysOn : Database → Line → Type 0
WaysOn d line = (limit : ℕ) → line.after ≢ [] →
    (on : Line) × IsNext line on × CanGoWell d line (Redo limit []) on

-- what a command defines has a name
abbrev pub HasName : Command → Type 0
HasName (Add name contents force) = IsName name
HasName other = Unit {0}

-- each command cannot be begun for a fault of its own, or can go well
abbrev pub EachIsAnswered : Database → Line → Type 0
EachIsAnswered d line = (command : Command) → HasName command →
    ((refusal : Refusal) × IsOwnFault d line command refusal)
    ⊎ ((new : Line) × CanGoWell d line command new)
