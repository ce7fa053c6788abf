-- Whether services are where a session says, as `check` prints it.
use Rattle.std.specs.Prelude.{◌≡◌, ◌⊎◌, ◌∷◌, ◌++◌, ◌<◌, ℕ, Bool, List, [], Option, Some, All}
use Rattle.std.specs.Prelude.{true, false, not, zero, suc, codes, length, map, slice_get}
use Rattle.std.specs.Prelude.{slice_index_or, string_bytes, if◌then◌else◌}
use Rattle.std.specs.Io.KnownBytes.{Appends}
use Rattle.rc_model.specs.declared.Kind.TheVariants.{Longrun}
use Rattle.rc_model.specs.declared.Refusal.TheVariants.{Unknown}
use Rattle.rc_model.specs.Database.{Bundles, Database, IsKind, IsKnown, IsUnknownAt, Selected}
use Rattle.rc_model.specs.Line.{Line}
use Rattle.rc_model.specs.Names.{Has, Holds}
use Rattle.rc_set.specs.Next.{HasNoneFrom, IsNextFrom}
use Rattle.rc_render.specs.Lines.{line}
use Rattle.rc_render.specs.RefusalText.{refusal_text}
use Rattle.rc_dbtext.specs.Base.{Spells}
use Rattle.rc_runner.specs.declared.asking.Found.{Found}
use Rattle.rc_runner.specs.declared.asking.Found.TheVariants as found
use Rattle.rc_streams.specs.Input.{AppendsFront}
use Rattle.rc_serve.specs.declared.fault.ServeFault.TheVariants.{Memory, Write}
use Rattle.rc_args.specs.NamedAsked.{NamedAsk}
use Rattle.rc_args.specs.Programs.{ByPrograms, ByTable, MakingAsk, controller_in}
use Rattle.rc_args.specs.SessionAsked.{SessionAsk}
use Rattle.rc_cli.specs.Controlled.{LacksController}
use Rattle.rc_cli.specs.Filing.{BeginsBy, file_named}
use Rattle.rc_cli.specs.SessionFaults.{IsFileFault, IsTold, IsUnspelled}
use Rattle.rc_cli.specs.declared.checking.Findings.{Findings}
use Rattle.rc_cli.specs.declared.sessions.keeping.LiveFile.{LiveFile}
use Rattle.rc_cli.specs.declared.sessions.session_fault.SessionFault.{SessionFault}
use Rattle.rc_cli.specs.declared.sessions.session_fault.SessionFault.TheVariants.{Failed}
use Rattle.rc_cli.specs.declared.sessions.session_fault.SessionFault.TheVariants.{NoController}

-- a service was found where the session says: up where it is live, and down where it is not. Of a
-- oneshot that is not known nothing else is said
abbrev pub is_there : (longrun live : Bool) → Found → Bool
is_there longrun live found.Up = live
is_there longrun live found.Down = not live
is_there longrun live found.Unknown = not longrun

-- what a line says: where the session has a service, and where the service was found
abbrev pub live_word : Bool → List ℕ
live_word true = codes " live, but "
live_word false = codes " not live, but "

abbrev pub found_word : Found → List ℕ
found_word found.Up = codes "up"
found_word found.Down = codes "down"
found_word found.Unknown = codes "unknown"

-- the line of a service: none where it was found where the session says
abbrev pub line_by : (name : List ℕ) → (longrun live : Bool) → Found → List ℕ
line_by name longrun live found =
    if is_there longrun live found then [] else line (name ++ live_word live ++ found_word found)

-- the answer about a service, of which there is one about each
abbrev pub answer_at : (answers : List Found) → ℕ → Found
answer_at answers s = slice_index_or answers s found.Up

-- the line of a service, by its answer, where it is asked about
abbrev pub line_of : (names : List (List ℕ)) → (asked longruns live : List Bool) → Found → ℕ
    → List ℕ
line_of names asked longruns live found s = if slice_index_or asked s false
    then line_by (slice_index_or names s []) (slice_index_or longruns s false)
    (slice_index_or live s false) found else []

-- the lines of those of the first services that are asked about, in byte order, by these answers
abbrev pub lines_to : (names : List (List ℕ)) → (asked longruns live : List Bool)
    → (answers : List Found) → (count : ℕ) → List ℕ
lines_to names asked longruns live answers zero = []
lines_to names asked longruns live answers (suc s) = lines_to names asked longruns live answers s
    ++ line_of names asked longruns live (answer_at answers s) s

-- a service is a stray (`up`), up and not live; or it has fallen, live and down
abbrev pub is_elsewhere : (up live : Bool) → Found → Bool
is_elsewhere true live found.Up = not live
is_elsewhere false live found.Down = live
is_elsewhere up live other = false

-- the same of one that is asked about
abbrev pub is_elsewhere_at : (up : Bool) → (asked live : List Bool) → (answers : List Found) → ℕ
    → Bool
is_elsewhere_at up asked live answers s = if slice_index_or asked s false
    then is_elsewhere up (slice_index_or live s false) (answer_at answers s) else false

-- the name of a service, where it is one of those that are listed
abbrev pub name_if : (names : List (List ℕ)) → Bool → ℕ → List (List ℕ)
name_if names true s = slice_index_or names s [] ∷ []
name_if names false s = []

-- the names of the strays (`up`) among the first services, or of the fallen ones
abbrev pub names_to : (up : Bool) → (names : List (List ℕ)) → (asked live : List Bool)
    → (answers : List Found) → (count : ℕ) → List (List ℕ)
names_to up names asked live answers zero = []
names_to up names asked live answers (suc s) = names_to up names asked live answers s
    ++ name_if names (is_elsewhere_at up asked live answers s) s

-- an answer says nothing
abbrev pub is_unknown : Found → Bool
is_unknown found.Unknown = true
is_unknown other = false

-- a longrun among the first services is not known
abbrev pub is_unknown_to : (longruns : List Bool) → (answers : List Found) → (count : ℕ) → Bool
is_unknown_to longruns answers zero = false
is_unknown_to longruns answers (suc s) = if slice_index_or longruns s false
    then (if is_unknown (answer_at answers s) then true else is_unknown_to longruns answers s)
    else is_unknown_to longruns answers s

-- the services that are meant: all where there is no name, and else those that the names stand for
abbrev pub IsMeant : Database → Bundles → (words : List (List ℕ)) → ℕ → Type 0
IsMeant d table [] s = s < length d.names
IsMeant d table (word ∷ words) s = Selected d.names table (word ∷ words) s

-- the longruns among those
abbrev pub IsMeantLongrun : Database → Bundles → (words : List (List ℕ)) → ℕ → Type 0
IsMeantLongrun d table words s = IsMeant d table words s × IsKind d s Longrun

-- these services are asked about, those that are meant, and these are the longruns among them
pub record AreAsked (d : Database) (table : Bundles) (words : List (List ℕ))
    (asked longruns : List Bool) : Type 0 where
  pub meant : Holds asked (IsMeant d table words)
  pub among : Holds longruns (IsMeantLongrun d table words)

-- the words of the controller, which are none where programs are not started
abbrev pub controller_by : MakingAsk → List (List ℕ)
controller_by (ByTable failing) = []
controller_by (ByPrograms runner controller limit) = controller_in controller

-- there is a controller where a longrun is asked about
abbrev pub CanAsk : SessionAsk → (longruns : List Bool) → Type 0
CanAsk ask longruns = LacksController ask → HasNoneFrom (Has longruns) 0

-- the status: 3 where a line is printed
abbrev pub status_by : (text : List ℕ) → ℕ
status_by [] = 0
status_by (byte ∷ rest) = 3

-- what a check finds: its status and what it prints; the names of what is live and was found down,
-- and of what was found up and is not live; and whether a longrun is not known
pub record Finding : Type 0 where
  pub status : ℕ
  pub text : List ℕ
  pub fallen : List (List ℕ)
  pub strays : List (List ℕ)
  pub unknown : Bool

abbrev pub finding_of : Findings → Finding
finding_of findings = record {
  status = findings.status;
  text = findings.text.items;
  fallen = map string_bytes findings.fallen.items;
  strays = map string_bytes findings.strays.items;
  unknown = findings.is_unknown;
}

-- what is found of these services by these answers
abbrev pub found_by : (names : List (List ℕ)) → (asked longruns live : List Bool)
    → (answers : List Found) → Finding
found_by names asked longruns live answers = record {
  status = status_by (lines_to names asked longruns live answers (length names));
  text = lines_to names asked longruns live answers (length names);
  fallen = names_to false names asked live answers (length names);
  strays = names_to true names asked live answers (length names);
  unknown = is_unknown_to longruns answers (length names);
}

-- what is found of these services, by any answers
abbrev pub Checks : Database → (asked longruns live : List Bool) → Finding → Type 0
Checks d asked longruns live finding = (answers : List Found)
    × (length answers ≡ length d.names)
    × (finding ≡ found_by d.names asked longruns live answers)

-- the answer of `check`, where each name is known
abbrev pub AnswersKnown : Database → Line → NamedAsk → Finding → Type 0
AnswersKnown d here ask finding = (asked : List Bool) × (longruns : List Bool)
    × AreAsked d here.current.table ask.names asked longruns × CanAsk ask.session longruns
    × All (IsKnown d.names here.current.table) ask.names
    × Checks d asked longruns here.current.live finding

-- the answer that a name is unknown, with which nothing is found
abbrev pub refused_by : (text : List ℕ) → Finding
refused_by text =
    record { status = 1; text = text; fallen = []; strays = []; unknown = false }

-- the answer of `check`: that; or that the first name which is none is refused
abbrev pub AnswersCheck : Database → Line → NamedAsk → Finding → Type 0
AnswersCheck d here ask finding = AnswersKnown d here ask finding
    ⊎ ((place : ℕ) × IsUnknownAt d.names here.current.table ask.names place
    × (finding ≡ refused_by (refusal_text ask.names (Unknown place))))

-- the fault of this service says that no program controls it, or that memory ran out
abbrev pub IsNamedBy : Database → ℕ → SessionFault → Type 0
IsNamedBy d s (NoController name) = slice_get d.names s ≡ Some (string_bytes name)
IsNamedBy d s (Failed fault) = fault ≡ Memory
IsNamedBy d s other = ⊥

-- why these services can't be asked about: no program controls them, of which the first is told; or
-- out of memory
abbrev pub IsUnasked : Database → (longruns : List Bool) → SessionAsk → SessionFault → Type 0
IsUnasked d longruns ask (NoController name) = LacksController ask
    × ((s : ℕ) × IsNextFrom (Has longruns) 0 s × (slice_get d.names s ≡ Some (string_bytes name)))
IsUnasked d longruns ask (Failed fault) = fault ≡ Memory
IsUnasked d longruns ask other = ⊥

-- why there is no answer about a session: each name is known, and that
abbrev pub IsUnmet : Database → Line → NamedAsk → SessionFault → Type 0
IsUnmet d here ask fault = ((longruns : List Bool)
    × Holds longruns (IsMeantLongrun d here.current.table ask.names)
    × All (IsKnown d.names here.current.table) ask.names
    × IsUnasked d longruns ask.session fault) ⊎ (fault ≡ Failed Memory)

-- the answer by what stood in the file of the session
abbrev pub ChecksOn : Database → NamedAsk → LiveFile → Finding → Type 0
ChecksOn d ask live finding = (here : Line)
    × BeginsBy d ask.session.bound (file_named ask.session.live live) here
    × AnswersCheck d here ask finding

-- the same by the text of the database
abbrev pub ChecksText : (base : List ℕ) → NamedAsk → LiveFile → Finding → Type 0
ChecksText base ask live finding =
    (d : Database) × Spells (Some base) [] d [] × ChecksOn d ask live finding

-- why there is no answer by that file: its text is refused, or it can't be read; or else what
-- stands there gives none
abbrev pub IsUncheckedOn : Database → NamedAsk → LiveFile → SessionFault → Type 0
IsUncheckedOn d ask live fault = IsFileFault (file_named ask.session.live live) d fault
    ⊎ ((here : Line) × BeginsBy d ask.session.bound (file_named ask.session.live live) here
    × IsUnmet d here ask fault)

-- the same by the text of the database, which is refused first
abbrev pub IsUnchecked : (base : List ℕ) → NamedAsk → LiveFile → SessionFault → Type 0
IsUnchecked base ask live fault = IsUnspelled (Some base) [] fault
    ⊎ ((d : Database) × Spells (Some base) [] d [] × IsUncheckedOn d ask live fault)

-- and what is written then: nothing, or where the writer has failed a prefix of the answer
abbrev pub FailsCheck : (base : List ℕ) → NamedAsk → LiveFile → SessionFault → (writer : Type 0)
    → (written gained : Option (List ℕ)) → Type 0
FailsCheck base ask live fault writer written gained =
    (IsUnchecked base ask live fault × (gained ≡ written))
    ⊎ ((fault ≡ Failed Write) × writer × ((finding : Finding)
    × ChecksText base ask live finding × AppendsFront written gained finding.text))

-- the answer was written whole
abbrev pub ShowsCheck : (base : List ℕ) → NamedAsk → LiveFile → Finding
    → (written gained before after : Option (List ℕ)) → Type 0
ShowsCheck base ask live finding written gained before after =
    ChecksText base ask live finding × Appends written gained finding.text × (after ≡ before)

-- a fault is told
abbrev pub TellsNoCheck : (base : List ℕ) → NamedAsk → LiveFile → (status : ℕ) → (writer : Type 0)
    → (written gained before after : Option (List ℕ)) → Type 0
TellsNoCheck base ask live status writer written gained before after =
    (fault : SessionFault) × FailsCheck base ask live fault writer written gained
    × IsTold fault status before after

-- the answer was written whole, with its status; or a fault is told
abbrev pub TellsCheck : (base : List ℕ) → NamedAsk → LiveFile → (status : ℕ) → (writer : Type 0)
    → (written gained before after : Option (List ℕ)) → Type 0
TellsCheck base ask live status writer written gained before after =
    ((finding : Finding) × (status ≡ finding.status)
    × ShowsCheck base ask live finding written gained before after)
    ⊎ TellsNoCheck base ask live status writer written gained before after
