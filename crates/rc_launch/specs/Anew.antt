-- What an update makes of a file that held no history: it begins one.
use Rattle.std.specs.Prelude.{◌≡◌, ◌⊎◌, ℕ, List}
use Rattle.rc_model.specs.Database.{Database, IsDatabase}
use Rattle.rc_model.specs.Line.{Line}
use Rattle.rc_model.specs.Session.{IsLineOf}
use Rattle.rc_db.specs.Database.{IsWritable}
use Rattle.rc_update.specs.Conversions.{Conversion, conversions_of}
use Rattle.rc_dbtext.specs.Spelling.{spelling as database_text}
use Rattle.rc_livetext.specs.Spelling.{spelling}
use Rattle.rc_historytext.specs.Updates.{CarriesOver, UpdatesTo}
use Rattle.rc_historytext.specs.Updating.{IsBegun}
use Rattle.rc_serve.specs.declared.ending.Ending.{Ending}
use Rattle.rc_serve.specs.declared.ending.Ending.TheVariants.{Done, Refused, Hindered}
use Rattle.rc_args.specs.declared.update_words.UpdateRequest.{UpdateRequest}
use Rattle.rc_cli.specs.Filing.{BeginsBy}
use Rattle.rc_cli.specs.declared.sessions.keeping.LiveFile.{LiveFile}
use Rattle.rc_launch.specs.HeldHistory.{LeadsOn}
use Rattle.rc_launch.specs.Loading.{bytes_of}
use Rattle.rc_launch.specs.Serving.{IsReadAs}
use Rattle.rc_launch.specs.TwoSteps.{StopsLowering}
use Rattle.rc_launch.specs.declared.live_store.Frame.{Frame}
use Rattle.rc_launch.specs.declared.live_store.LiveStore.{LiveStore}
use Rattle.rc_launch.specs.declared.opened.Opened.{Opened}

-- a history of one generation, with the database of this text, in which a session begins so
abbrev pub IsBegunBy : (base : List ℕ) → (bound : ℕ) → LiveFile → (first : List ℕ) → Type 0
IsBegunBy base bound file first = (d : Database) × (start : Line) × (base ≡ database_text d)
    × IsDatabase d × IsWritable d × IsLineOf d start × BeginsBy d bound file start
    × IsBegun base (spelling d start) first

-- an update of this history to a database, by its steps, ended so
abbrev pub StepsFirst : Ending → List Conversion → Database → (first is : List ℕ) → Type 0
StepsFirst Done list d first is = UpdatesTo list d first is
StepsFirst Refused list d first is = ⊥
StepsFirst Hindered list d first is = StopsLowering list d first is ⊎ CarriesOver list d first is

-- and so to the database of this text
abbrev pub CarriesFirst : Ending → (new : List ℕ) → List Conversion → (first is : List ℕ) → Type 0
CarriesFirst ending new list first is =
    (d : Database) × IsDatabase d × (new ≡ database_text d) × StepsFirst ending list d first is

-- an update that was to begin a history ended so: it is refused, and none has begun; or it leads on
-- from one that begins so
abbrev pub LeadsAnew : Ending → (Begins : List ℕ → Type 0) → (By : List ℕ → List ℕ → Type 0)
    → (was : Frame) → (is : LiveStore) → Type 0
LeadsAnew ending Begins By was is = ((ending ≡ Refused) × (is.frame ≡ was))
    ⊎ ((first : List ℕ) × Begins first × LeadsOn first is By)

-- an update on the files that were opened for it ended so: the history begins with their database,
-- where their session begins
abbrev pub UpdatesAnew : Opened → UpdateRequest → Ending → (was : Frame) → (is : LiveStore)
    → Type 0
UpdatesAnew opened request ending was is =
    (file : LiveFile) × IsReadAs (λ bytes. bytes.items) opened.live.found file
    × LeadsAnew ending (IsBegunBy (bytes_of opened.loaded.base) request.session.bound file)
    (CarriesFirst ending (bytes_of opened.loaded.new) (conversions_of request.conversions.items))
    was is
