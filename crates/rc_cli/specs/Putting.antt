-- Which texts are put into the store of a session, and in which order.
use Rattle.std.specs.Prelude.{◌≡◌, ◌⊎◌, ℕ, List, [], Option, None, Some}
use Rattle.clap.specs.Words.{Text as Path}
use Rattle.rc_model.specs.Database.{Database}
use Rattle.rc_model.specs.declared.Event.{Event}
use Rattle.rc_model.specs.declared.Refusal.{Refusal}
use Rattle.rc_model.specs.Line.{Line}
use Rattle.rc_model.specs.Session.{Change, Command, Does, IsOwnFault, Reported}
use Rattle.rc_session.specs.Commands.{with_events}
use Rattle.rc_session.specs.Holding.{Holding}
use Rattle.rc_script.specs.Says.{SaysDry, SaysStep}
use Rattle.rc_livetext.specs.Spelling.{spelling}
use Rattle.rc_serve.specs.declared.ending.Ending.{Ending}
use Rattle.rc_serve.specs.declared.ending.Ending.TheVariants.{Done, Refused, Hindered}
use Rattle.rc_serve.specs.Ending.{ending_of}
use Rattle.rc_serve.specs.Keeping.{IsKeptOnce}
use Rattle.rc_args.specs.OnceAsked.{OnceSaying, Said}

-- what a put of a text into a store leaves
abbrev pub Putting : Type 0 → Type 1
Putting S = S → List ℕ → S → Type 0

-- the text of a line of states is put where the line stands, and that of the new line after it,
-- but only if the line was altered
abbrev pub KeptTwice : {S : Type 0} → Putting S → Database → (here line : Line) → (was is : S)
    → Type 0
KeptTwice {S} Put d here line was is = (first : S) × Put was (spelling d here) first
    × IsKeptOnce (λ old e after new. Put old (spelling e after) new) d here line first is

-- where no file is named, the store is left alone
abbrev pub PutsBy : {S : Type 0} → Putting S → Option Path → Database → (here line : Line)
    → (was is : S) → Type 0
PutsBy Put None d here line was is = is ≡ was
PutsBy Put (Some path) d here line was is = KeptTwice Put d here line was is

-- one line was served: the line of states is put so if it is a command, and else the store is left
-- alone
abbrev pub PutsLine : {S : Type 0} → Putting S → Option Path → Database → OnceSaying
    → (here line : Line) → (was is : S) → Type 0
PutsLine Put path d (Said (SaysStep command)) here line was is = PutsBy Put path d here line was is
PutsLine Put path d other here line was is = is ≡ was

-- a command was carried out on a line of states, and ends so
abbrev pub IsRunAs : Ending → Database → Line → Command → Line → Type 0
IsRunAs ending d here command new = (events : List Event) × (told : Reported)
    × Does d here (with_events command events) told new × (ending_of told ≡ ending)

-- all of one line is done: of a command what was planned, with some events; and what is no command
-- alters nothing
abbrev pub IsLineDone : Database → Line → OnceSaying → Line → Type 0
IsLineDone d here (Said (SaysStep command)) new = IsRunAs Done d here command new
IsLineDone d here other new = new ≡ here

-- not all of one line is done: it is a command, which was carried out
abbrev pub IsLineHindered : Database → Line → OnceSaying → Line → Type 0
IsLineHindered d here (Said (SaysStep command)) new = IsRunAs Hindered d here command new
IsLineHindered d here other new = ⊥

-- one line is refused: what it says has a fault of its own, if it is a change, an undo or a redo,
-- or an edit
abbrev pub IsLineFault : Database → Line → OnceSaying → Type 0
IsLineFault d here (Said (SaysStep command)) =
    (refusal : Refusal) × IsOwnFault d here command refusal
IsLineFault d here (Said (SaysDry ask)) =
    (refusal : Refusal) × IsOwnFault d here (Change ask []) refusal
IsLineFault d here other = Unit {0}

-- on this session it has none
abbrev pub IsLineSound : Holding → OnceSaying → Type 0
IsLineSound session what = IsLineFault session.database session.line what → ⊥

-- one line ended so
abbrev pub IsLineEnded : Ending → Database → Line → OnceSaying → Line → Type 0
IsLineEnded Done d here what new = IsLineDone d here what new
IsLineEnded Refused d here what new = IsLineFault d here what × (new ≡ here)
IsLineEnded Hindered d here what new = IsLineHindered d here what new

-- one line ended so, and has led its store so
abbrev pub LeadsLine : {S : Type 0} → Putting S → Option Path → Ending → Database → OnceSaying
    → (here new : Line) → (was is : S) → Type 0
LeadsLine Put path ending d what here new was is =
    IsLineEnded ending d here what new × PutsLine Put path d what here new was is

-- the first of two lines is done, and the second one ended so, on another session, which was
-- announced between them; and they have led their store so
pub record LeadsBoth {S : Type 0} (Put : Putting S) (Enters : S → S → Type 0)
    (path : Option Path) (ending : Ending) (what then : OnceSaying) (from to : Holding)
    (was is : S) : Type 0 where
  pub middle : Line
  pub after : Line
  pub left : S
  pub entered : S
  pub first : LeadsLine Put path Done from.database what from.line middle was left
  pub enters : Enters left entered
  pub second : LeadsLine Put path ending to.database then to.line after entered is

-- two lines, neither of which has a fault of its own, ended so, and have led their store so: both
-- are done; or not all of the first one is, with nothing of the second; or not all of the second
abbrev pub LeadsSteps : {S : Type 0} → Putting S → (Enters : S → S → Type 0) → Option Path
    → Ending → (what then : OnceSaying) → (from to : Holding) → (was is : S) → Type 0
LeadsSteps Put Enters path Done what then from to was is =
    LeadsBoth Put Enters path Done what then from to was is
LeadsSteps Put Enters path Refused what then from to was is = ⊥
LeadsSteps Put Enters path Hindered what then from to was is =
    ((middle : Line) × LeadsLine Put path Hindered from.database what from.line middle was is)
    ⊎ LeadsBoth Put Enters path Hindered what then from to was is
