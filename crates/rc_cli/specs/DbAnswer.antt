-- What is printed for a question, and when it is refused.
use Rattle.std.specs.Prelude.{◌≡◌, ◌⊎◌, ◌∷◌, ℕ, Bool, true, false, List, [], All, Option, None}
use Rattle.std.specs.Prelude.{Some, codes, slice_get}
use Rattle.std.specs.Fmt.{decimal}
use Rattle.clap.specs.Words.{Text}
use Rattle.rc_model.specs.declared.Kind.{Kind}
use Rattle.rc_model.specs.declared.Kind.TheVariants.{Oneshot, Longrun, Bundle}
use Rattle.rc_model.specs.Names.{Has}
use Rattle.rc_graph.specs.declared.Way.{Way}
use Rattle.rc_model.specs.Database.{value_of, Database, IsKnown, Selected, Service}
use Rattle.rc_db.specs.Pipeline.{InPipelineOf}
use Rattle.rc_names.specs.Names.{ListsNames}
use Rattle.rc_db.specs.Queries.{IsKindOf, IsNextTo, IsServiceNamed, IsShown, IsWithAll}
use Rattle.rc_db.specs.Service.{limit_of, script_of}
use Rattle.rc_db.specs.QueryFaults.{AnyName, Asked, IsNamesFault, IsQueryFault, OfBundle, OfLongrun}
use Rattle.rc_db.specs.QueryFaults.{OfOneshot, OfService}
use Rattle.rc_db.specs.declared.fault.QueryFault.{QueryFault}
use Rattle.rc_db.specs.declared.which.Which.{Which}
use Rattle.rc_model.specs.Line.{Line, Lists}
use Rattle.rc_livetext.specs.LiveFaults.{IsLiveFault}
use Rattle.rc_livetext.specs.declared.fault.LiveFault.{LiveFault}
use Rattle.rc_livetext.specs.Spelling as texts
use Rattle.rc_render.specs.DotText.{dot_text}
use Rattle.rc_render.specs.Lines.{line, name_lines, names_at}
use Rattle.rc_dbtext.specs.Base.{Spells}
use Rattle.rc_args.specs.DbAsked.{AsksDb, DbAsk}
use Rattle.rc_args.specs.Query.{Check, Dot, ListOf, OfName, OfNames, Question}
use Rattle.rc_args.specs.declared.cmdline.query_words.NameQuery.{NameQuery}
use Rattle.rc_args.specs.declared.cmdline.query_words.NameQuery.TheVariants as of_name
use Rattle.rc_args.specs.declared.cmdline.query_words.NamesQuery.{NamesQuery}
use Rattle.rc_args.specs.declared.cmdline.query_words.NamesQuery.TheVariants as of_names
use Rattle.rc_streams.specs.declared.input.Failure.TheVariants.{Memory}
use Rattle.rc_cli.specs.Faults.{IsFromLive}
use Rattle.rc_cli.specs.DbFaults.{IsFromQuery, OrMemory}
use Rattle.rc_cli.specs.declared.fault.Fault.{Fault}
use Rattle.rc_cli.specs.declared.fault.Fault.TheVariants.{Device}

-- the names of the services of which this holds, one a line, in byte order
abbrev pub IsListed : Database → (ℕ → Type 0) → List ℕ → Type 0
IsListed d P text = (ids : List ℕ) × Lists P ids × (text ≡ name_lines (names_at d.names ids))

-- the word of a kind
abbrev pub kind_word : Kind → List ℕ
kind_word Oneshot = codes "oneshot"
kind_word Longrun = codes "longrun"
kind_word Bundle = codes "bundle"

-- the line of an essential service, and of no other
abbrev pub flag_lines : Bool → List ℕ
flag_lines true = line (codes "essential")
flag_lines false = []

-- the kind of a name
abbrev pub IsKindText : Database → Text → List ℕ → Type 0
IsKindText d name text = (kind : Kind) × IsKindOf d name kind × (text ≡ line (kind_word kind))

-- the limit of a service on its way
abbrev pub IsLimitText : Database → Way → Text → List ℕ → Type 0
IsLimitText d way name text = (service : Service) × IsServiceNamed d name service
    × (text ≡ line (decimal (limit_of service way)))

-- the flags of a service
abbrev pub IsFlagsText : Database → Text → List ℕ → Type 0
IsFlagsText d name text =
    (service : Service) × IsServiceNamed d name service × (text ≡ flag_lines service.essential)

-- the services of a bundle
abbrev pub IsContentsText : Database → Text → List ℕ → Type 0
IsContentsText d name text =
    (set : List Bool) × (value_of d.table name ≡ Some set) × IsListed d (Has set) text

-- the longruns of a longrun's pipeline
abbrev pub IsPipelineText : Database → Text → List ℕ → Type 0
IsPipelineText d name text = IsKindOf d name Longrun
    × ((s : ℕ) × (slice_get d.names s ≡ Some name) × IsListed d (InPipelineOf d s) text)

-- the bytes that are run for a oneshot on its way, as they stand
abbrev pub IsScriptText : Database → Way → Text → List ℕ → Type 0
IsScriptText d way name text = IsKindOf d name Oneshot
    × ((service : Service) × IsServiceNamed d name service × (text ≡ script_of service way))

-- the answer of a query of one name
abbrev pub IsNameAnswer : Database → Way → NameQuery → Text → List ℕ → Type 0
IsNameAnswer d way of_name.Kind = IsKindText d
IsNameAnswer d way of_name.Limit = IsLimitText d way
IsNameAnswer d way of_name.Flags = IsFlagsText d
IsNameAnswer d way of_name.Contents = IsContentsText d
IsNameAnswer d way of_name.Pipeline = IsPipelineText d
IsNameAnswer d way of_name.Script = IsScriptText d way

-- what a query asks of its one name
abbrev pub asked_by : NameQuery → Asked
asked_by of_name.Kind = AnyName
asked_by of_name.Limit = OfService
asked_by of_name.Flags = OfService
asked_by of_name.Contents = OfBundle
asked_by of_name.Pipeline = OfLongrun
asked_by of_name.Script = OfOneshot

-- the services that a query finds for those that names stand for
abbrev pub IsFound : Database → Way → NamesQuery → (ℕ → Type 0) → ℕ → Type 0
IsFound d way of_names.Atomics In = In
IsFound d way of_names.Dependencies In = IsNextTo d.needs way In
IsFound d way of_names.AllDependencies In = IsWithAll d.needs way In

-- the answer of a query of any number of names: each is one, and the services that it finds are
-- listed
pub record IsNamesAnswer (d : Database) (way : Way) (query : NamesQuery) (names : List Text)
    (text : List ℕ) : Type 0 where
  pub known : All (IsKnown d.names d.table) names
  pub found : IsListed d (IsFound d way query (Selected d.names d.table names)) text

-- what is live where the text of a session stands, and nothing without one
abbrev pub IsLiveBy : Database → Option (List ℕ) → List Bool → Type 0
IsLiveBy d None live = live ≡ []
IsLiveBy d (Some bytes) live =
    (line : Line) × texts.Spells d bytes line × (live ≡ line.current.live)

-- the picture, with what is live filled
abbrev pub IsPicture : Database → Option (List ℕ) → List ℕ → Type 0
IsPicture d shown text = (live : List Bool) × IsLiveBy d shown live × (text ≡ dot_text d live)

-- the names of one sort, in byte order
abbrev pub IsListText : Database → Which → List ℕ → Type 0
IsListText d which text =
    (names : List Text) × ListsNames (IsShown d which) names × (text ≡ name_lines names)

-- the answer of a question that is asked so: nothing, the picture, names, or that of its query
abbrev pub IsAnswerOf : Database → DbAsk → Option (List ℕ) → Question → List ℕ → Type 0
IsAnswerOf d ask shown Check text = text ≡ []
IsAnswerOf d ask shown Dot text = IsPicture d shown text
IsAnswerOf d ask shown (ListOf which) text = IsListText d which text
IsAnswerOf d ask shown (OfName query name) text = IsNameAnswer d ask.way query name text
IsAnswerOf d ask shown (OfNames query names) text = IsNamesAnswer d ask.way query names text

-- the answer of what is asked
abbrev pub IsAnswerTo : Database → DbAsk → Option (List ℕ) → List ℕ → Type 0
IsAnswerTo d ask shown text = IsAnswerOf d ask shown ask.question text

-- a fault of the text of the session that is to be shown: it is none of the database; or out of
-- memory
abbrev pub IsShownFault : Database → Option (List ℕ) → Fault → Type 0
IsShownFault d None fault = fault ≡ Device Memory
IsShownFault d (Some bytes) fault = (fault ≡ Device Memory)
    ⊎ ((wrong : LiveFault) × IsLiveFault d bytes wrong × IsFromLive wrong fault)

-- when a question has no answer in a database: a picture where the session that it is to show is
-- refused, a query of names where they are, and each where memory runs out
abbrev pub IsUnanswered : Database → Option (List ℕ) → Question → Fault → Type 0
IsUnanswered d shown Check fault = fault ≡ Device Memory
IsUnanswered d shown Dot fault = IsShownFault d shown fault
IsUnanswered d shown (ListOf which) fault = fault ≡ Device Memory
IsUnanswered d shown (OfName query name) fault = (wrong : QueryFault)
    × OrMemory (IsQueryFault d (asked_by query) name) wrong × IsFromQuery wrong (name ∷ []) fault
IsUnanswered d shown (OfNames query names) fault = (wrong : QueryFault)
    × OrMemory (IsNamesFault d.names d.table names) wrong × IsFromQuery wrong names fault

-- what is written for what is asked, in the database that is spelled, where this is
-- the text of the session to show
pub record IsAnswerFor (ask : DbAsk) (base shown : Option (List ℕ))
    (input output : List ℕ) : Type 0 where
  pub database : Database
  pub rest : List ℕ
  pub spelled : Spells base input database rest
  pub text : IsAnswerTo database ask shown output

-- the same, of the words that ask
abbrev pub IsDbAnswer : List Text → (base shown : Option (List ℕ)) → List ℕ → List ℕ → Type 0
IsDbAnswer words base shown input output =
    (ask : DbAsk) × AsksDb words ask × IsAnswerFor ask base shown input output
