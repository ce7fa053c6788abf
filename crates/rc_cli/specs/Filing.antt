-- Where a session begins, and what its file holds in the end.
use Rattle.std.specs.Prelude.{◌≡◌, ◌≢◌, ◌⊎◌, ℕ, List, Option, None, Some, IfSome}
use Rattle.clap.specs.Words.{Text as Path}
use Rattle.rc_model.specs.Database.{Database}
use Rattle.rc_model.specs.Line.{Line}
use Rattle.rc_model.specs.Session.{IsLineOf}
use Rattle.rc_session.specs.Holding.{first_line}
use Rattle.rc_livetext.specs.Spelling.{Spells, spelling}
use Rattle.rc_livetext.specs.LiveFaults.{IsLiveFault}
use Rattle.rc_livetext.specs.declared.fault.LiveFault.{LiveFault}
use Rattle.rc_livetext.specs.declared.fault.LiveFault.TheVariants as live
use Rattle.rc_serve.specs.declared.fault.ServeFault.{ServeFault}
use Rattle.rc_serve.specs.declared.fault.ServeFault.TheVariants.{Memory}
use Rattle.rc_serve.specs.Keeping.{of_keeping}
use Rattle.rc_args.specs.SessionAsked.{SessionAsk}
use Rattle.rc_cli.specs.declared.sessions.keeping.LiveFile.{LiveFile}
use Rattle.rc_cli.specs.declared.sessions.keeping.LiveFile.TheVariants.{Missing, Text, Unread}

-- how many states a fresh session has at most; the file that is named, if one is,
-- and what stood in it; and what the store of that file held before and
-- holds in the end, where that is known
pub record Filing : Type 0 where
  pub bound : ℕ
  pub path : Option Path
  pub file : LiveFile
  pub was : Option (List ℕ)
  pub is : Option (List ℕ)

-- what stood in the file that is named; where none is, nothing did
abbrev pub file_named : Option Path → LiveFile → LiveFile
file_named None file = Missing
file_named (Some path) file = file

-- what is asked of where a session begins, with what stood in the file, and
-- with what its store held and holds
abbrev pub filing_of : SessionAsk → LiveFile → (was is : Option (List ℕ)) → Filing
filing_of ask file was is = record {
  bound = ask.bound;
  path = ask.live;
  file = file_named ask.live file;
  was = was;
  is = is;
}

-- the line of states that a session begins with: where there is no file the database's own with
-- this bound; where there is a text, a line of the database that the text is of; and where the
-- file could not be read, none
abbrev pub BeginsBy : Database → (bound : ℕ) → LiveFile → Line → Type 0
BeginsBy d bound Missing line = line ≡ first_line d bound
BeginsBy d bound (Text bytes) line = IsLineOf d line × Spells d bytes.now line
BeginsBy d bound (Unread fault) line = ⊥

abbrev pub BeginsWith : Database → Filing → Line → Type 0
BeginsWith d filing line = BeginsBy d filing.bound filing.file line

-- the store holds the text of this line, so far as it is known what it holds; where no
-- file is named it is left alone
abbrev pub HoldsBy : Option Path → (was is : Option (List ℕ)) → Database → Line → Type 0
HoldsBy None was is d line = is ≡ was
HoldsBy (Some path) was is d line = IfSome is (λ bytes. bytes ≡ spelling d line)

-- a text that stands in the file is refused
abbrev pub IsFileRefused : Database → LiveFile → LiveFault → Type 0
IsFileRefused d Missing fault = ⊥
IsFileRefused d (Text bytes) fault = (fault ≢ live.Memory) × IsLiveFault d bytes.now fault
IsFileRefused d (Unread unread) fault = ⊥

-- why a session does not begin where this stood in its file, but for a text that is refused: it
-- could not be read, and that very fault comes; or out of memory
abbrev pub FailsToBegin : LiveFile → ServeFault → Type 0
FailsToBegin Missing fault = fault ≡ Memory
FailsToBegin (Text bytes) fault = fault ≡ Memory
FailsToBegin (Unread unread) fault = fault ≡ of_keeping unread

-- a file could not be read
abbrev pub IsUnread : LiveFile → Type 0
IsUnread Missing = ⊥
IsUnread (Text bytes) = ⊥
IsUnread (Unread fault) = Unit {0}

-- a session can't be kept: a file is named, and it could not be read or its store has failed
abbrev pub CannotKeep : SessionAsk → LiveFile → (failed : Type 0) → Type 0
CannotKeep ask file failed = (ask.live ≢ None) × (IsUnread file ⊎ failed)
