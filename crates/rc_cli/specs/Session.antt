-- What a session of the program is, and what goes through its devices.
use Rattle.std.specs.Prelude.{◌≡◌, ℕ, List, [], Option, None, Some}
use Rattle.rc_model.specs.Database.{Database}
use Rattle.rc_streams.specs.Exchange.{Exchange, exchanged}
use Rattle.rc_streams.specs.declared.noted.Noted.{Noted}
use Rattle.rc_dbtext.specs.Base.{Spells}
use Rattle.rc_dbtext.specs.Opening.{Reads}
use Rattle.rc_args.specs.SessionAsked.{SessionAsk}
use Rattle.rc_cli.specs.Filing.{Filing, filing_of}
use Rattle.rc_cli.specs.Services.{RunsFor, Served}
use Rattle.rc_cli.specs.Storing.{store_of}
use Rattle.rc_cli.specs.declared.sessions.keeping.LiveFile.{LiveFile}
use Rattle.rc_cli.specs.declared.sessions.service.Outputs.{Outputs}

-- what is asked of a session, the text of its database, where that is one of its own, and what
-- stood in its file
pub record Asked : Type 0 where
  pub ask : SessionAsk
  pub base : Option (List ℕ)
  pub file : LiveFile

abbrev pub asked_with : SessionAsk → (base : Option (List ℕ)) → LiveFile → Asked
asked_with ask base file = record { ask = ask; base = base; file = file }

-- what went through a reader and a writer, and what the store of a session held and holds
pub record Dealing : Type 0 where
  pub io : Exchange
  pub was : Option (List ℕ)
  pub is : Option (List ℕ)

-- what went through these devices, of which these say what is left to read, what was written and
-- what is held
abbrev pub dealt : {R W S : Type 0} → (R → Option (List ℕ)) → (W → Option (List ℕ))
    → (S → Option (List ℕ)) → (reader left : Noted R) → (old new : Outputs W S) → Dealing
dealt remaining contents holds reader left old new = record {
  io = exchanged remaining contents reader left old.writer new.writer;
  was = holds (store_of old.keeper);
  is = holds (store_of new.keeper);
}

-- where a session begins, and what its store held and holds
abbrev pub filing_by : Asked → Dealing → Filing
filing_by asked deal = filing_of asked.ask asked.file deal.was deal.is

-- a session on a database was served
abbrev pub RunsOn : Served → Asked → Database → Dealing → Type 0
RunsOn Comes asked d deal =
    RunsFor Comes (filing_by asked deal) d asked.ask.workers asked.ask.making deal.io

-- the session's own input, and what is left of it: with a base that of the reader; without one
-- what is after the database's text
abbrev pub Opens : Option (List ℕ) → (remaining after : Option (List ℕ)) → Database →
    (input left : Option (List ℕ)) → Type 0
Opens (Some base) remaining after d input left =
    Spells (Some base) [] d [] × (input ≡ remaining) × (left ≡ after)
Opens None remaining after d input left = (all : List ℕ) × (rest : List ℕ)
    × Reads None remaining after all × Spells None all d rest × (input ≡ Some rest)

-- there is a database, and a session on it was served
pub record Runs (Comes : Served) (asked : Asked) (deal : Dealing) : Type 0 where
  pub database : Database
  pub input : Option (List ℕ)
  pub left : Option (List ℕ)
  pub opened : Opens asked.base deal.io.input deal.io.left database input left
  pub run : RunsOn Comes asked database (record deal {
    io = record { input = input; left = left; written = deal.io.written; gained = deal.io.gained };
  })
