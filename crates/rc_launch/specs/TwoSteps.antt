-- What an update and a restart make of a history: both first take back what was cut short.
use Rattle.std.specs.Prelude.{◌≡◌, ◌≢◌, ◌⊎◌, ◌&&◌, ℕ, Bool, true, false, not, List, [], Option}
use Rattle.std.specs.Prelude.{None, Some}
use Rattle.rc_model.specs.Database.{Database, IsDatabase}
use Rattle.rc_model.specs.Line.{Line}
use Rattle.rc_model.specs.Names.{Has}
use Rattle.rc_model.specs.Session.{IsLineOf}
use Rattle.rc_db.specs.Database.{IsWritable}
use Rattle.rc_update.specs.Carrying.{AreNamesOf, IsAlteredUp}
use Rattle.rc_update.specs.Conversions.{Conversion, conversions_of}
use Rattle.rc_dbtext.specs.Spelling.{spelling as database_text}
use Rattle.rc_livetext.specs.Spelling.{Spells, spelling}
use Rattle.rc_historytext.specs.Halting.{Halts}
use Rattle.rc_historytext.specs.Present.{IsPresent, StandingText, StandsAt, has_inside, passes}
use Rattle.rc_historytext.specs.Present.{passes_next}
use Rattle.rc_historytext.specs.Travelling.{GoesOn, Travels}
use Rattle.rc_historytext.specs.Updates.{CarriesOver, KeepsTwice, StandsOn, UpdatesTo}
use Rattle.rc_serve.specs.declared.ending.Ending.{Ending}
use Rattle.rc_serve.specs.declared.ending.Ending.TheVariants.{Done, Refused, Hindered}
use Rattle.rc_args.specs.SessionAsked.{session_ask_of}
use Rattle.rc_args.specs.declared.update_words.UpdateRequest.{UpdateRequest}
use Rattle.rc_cli.specs.Putting.{IsLineEnded, IsLineHindered}
use Rattle.rc_cli.specs.Restarting.{coming_back, ending_with}
use Rattle.rc_cli.specs.Steps.{ending_behind, lowering}
use Rattle.rc_launch.specs.Halted.{IsRefusedOn}
use Rattle.rc_launch.specs.HeldHistory.{history_held}
use Rattle.rc_launch.specs.Putting.{manner_of, stepping}
use Rattle.rc_launch.specs.declared.live_store.LiveStore.{LiveStore}
use Rattle.rc_launch.specs.declared.live_store.Next.{Next}

-- an update is not only shown, and its session is kept in a file that is named
abbrev pub IsKeptUpdate : UpdateRequest → Type 0
IsKeptUpdate request = ((session_ask_of request.session).live ≢ None) × (request.dry ≡ false)

-- an undo leads there, or the history is as it was
abbrev pub IsTaken : (taken : Bool) → (was is : List ℕ) → Type 0
IsTaken true was is = Travels false was is
IsTaken false was is = is ≡ was

-- an undo is done first, where it goes on from where the history stands
abbrev pub TakesBack : (taken : Bool) → (was is : List ℕ) → Type 0
TakesBack taken was is = GoesOn false was taken × IsTaken taken was is

-- what an undo that came first leaves that ended so, and is not done
abbrev pub IsLeftBack : Ending → (was is : List ℕ) → Type 0
IsLeftBack Done was is = ⊥
IsLeftBack Refused was is = IsRefusedOn false was is
IsLeftBack Hindered was is = Halts false was is

-- it came first where this test says so, and was not done, so nothing follows it
abbrev pub StopsTakingBack : Ending → (Goes : List ℕ → Bool → Type 0) → (was is : List ℕ) → Type 0
StopsTakingBack ending Goes was is = Goes was true × IsLeftBack ending was is

-- how a command ends whose last step ends so, if something was taken back before it
abbrev pub ending_after : (taken : Bool) → Ending → Ending
ending_after true ending = ending_behind ending
ending_after false ending = ending

-- whether an undo from the passed state on which a history stands ends in the present generation
abbrev pub GoesBackInside : (bytes : List ℕ) → Bool → Type 0
GoesBackInside bytes goes = (at : StandingText) × StandsAt bytes at
    × (goes ≡ (passes at && (has_inside false at && not (passes_next false at))))

-- an undo is done first, where that is so
abbrev pub TakesBackInside : (taken : Bool) → (was is : List ℕ) → Type 0
TakesBackInside taken was is = GoesBackInside was taken × IsTaken taken was is

-- the present generation has this database already, there are no conversions, and nothing is done
abbrev pub IsUpToDate : (new : List ℕ) → List Conversion → (bytes is : List ℕ) → Type 0
IsUpToDate new list bytes is =
    (list ≡ []) × ((session : List ℕ) × IsPresent bytes new session) × (is ≡ bytes)

-- the present session has the form in which lines are written now
abbrev pub IsInForm : (bytes : List ℕ) → Type 0
IsInForm bytes = (base : Database) (line : Line) (session : List ℕ)
    → IsPresent bytes (database_text base) session → Spells base session line
    → session ≡ spelling base line

-- an update to the database of this text
abbrev pub CarriesTo : (new : List ℕ) → List Conversion → (bytes is : List ℕ) → Type 0
CarriesTo new list bytes is = (d : Database) × IsDatabase d × (new ≡ database_text d)
    × (IsInForm bytes → UpdatesTo list d bytes is)

-- the first half of an update is carried out, and not all of it is done: what is lowered then, with
-- all that depends on it, is kept
pub record StopsLowering (list : List Conversion) (d : Database) (bytes is : List ℕ)
    : Type 0 where
  pub base : Database
  pub line : Line
  pub middle : Line
  pub names : List (List ℕ)
  pub stands : StandsOn bytes base line
  pub words : AreNamesOf base (IsAlteredUp base d list (Has line.current.live)) names
  pub hindered : IsLineHindered base line (lowering false names) middle
  pub kept : KeepsTwice base line middle bytes is

-- an update to the database of this text, not all of which is done: it has stopped in its first
-- half, or it is carried over, and not all of its second half is done
abbrev pub StopsCarrying : (new : List ℕ) → List Conversion → (bytes is : List ℕ) → Type 0
StopsCarrying new list bytes is = (d : Database) × IsDatabase d × (new ≡ database_text d)
    × (IsInForm bytes → StopsLowering list d bytes is ⊎ CarriesOver list d bytes is)

-- an update that ended so: all of it is done, or there was nothing to do; or it is refused, and the
-- history is as it was; or not all of it is done
abbrev pub CarriesBy : Ending → (new : List ℕ) → List Conversion → (bytes is : List ℕ) → Type 0
CarriesBy Done new list bytes is = IsUpToDate new list bytes is ⊎ CarriesTo new list bytes is
CarriesBy Refused new list bytes is = is ≡ bytes
CarriesBy Hindered new list bytes is = StopsCarrying new list bytes is

-- an update from where a history stands ended so: what was cut short is taken back first
abbrev pub UpdatesFrom : Ending → (new : List ℕ) → List Conversion → (was is : List ℕ) → Type 0
UpdatesFrom ending new list was is = StopsTakingBack ending (GoesOn false) was is
    ⊎ ((taken : Bool) × (between : List ℕ) × TakesBack taken was between
    × (last : Ending) × (ending ≡ ending_after taken last) × CarriesBy last new list between is)

-- a store puts what comes next as by an update to the database of this text
abbrev pub IsToUpdate : (new : List ℕ) → List Conversion → LiveStore → Type 0
IsToUpdate new list store = (next : Next) × (next.database.now ≡ new)
    × (conversions_of next.list.now ≡ list) × (manner_of store ≡ stepping (Some next))

-- a store holds a history, and puts what comes next so
abbrev pub HoldsFor : Option Next → LiveStore → (bytes : List ℕ) → Type 0
HoldsFor next store bytes = (history_held store ≡ Some bytes) × (manner_of store ≡ stepping next)

-- a restart in the present generation ended so: these names are lowered, with all that depends on
-- them, and that is kept; and if it is not refused and has moved something, one undo follows, which
-- is kept
pub record Restarts (ending : Ending) (names : List (List ℕ)) (bytes is : List ℕ) : Type 0 where
  pub base : Database
  pub line : Line
  pub session : List ℕ
  pub first : Ending
  pub middle : Line
  pub half : List ℕ
  pub there : IsPresent bytes (database_text base) session
  pub is_database : IsDatabase base
  pub writable : IsWritable base
  pub is_line : IsLineOf base line
  pub begins : Spells base session line
  pub lowered : IsLineEnded first base line (lowering false names) middle
  pub kept : KeepsTwice base line middle bytes half
  pub back : ((ending ≡ first) × (middle.current.live ≡ line.current.live) × (is ≡ half))
      ⊎ ((first ≢ Refused) × (middle.current.live ≢ line.current.live) × (second : Ending)
      × (ending ≡ ending_with first second) × (new : Line)
      × IsLineEnded second base middle coming_back new × KeepsTwice base middle new half is)

-- one that is refused before it begins leaves the history as it was
abbrev pub RestartsBy : Ending → (names : List (List ℕ)) → (bytes is : List ℕ) → Type 0
RestartsBy ending names bytes is =
    ((ending ≡ Refused) × (is ≡ bytes)) ⊎ Restarts ending names bytes is

-- a restart from where a history stands ended so: what an undo takes back inside is taken back
-- first
abbrev pub RestartsFrom : Ending → (names : List (List ℕ)) → (was is : List ℕ) → Type 0
RestartsFrom ending names was is = StopsTakingBack ending GoesBackInside was is
    ⊎ ((taken : Bool) × (between : List ℕ) × TakesBackInside taken was between
    × (last : Ending) × (ending ≡ ending_after taken last) × RestartsBy last names between is)
