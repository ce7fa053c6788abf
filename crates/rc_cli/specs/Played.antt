-- What a script comes to.
use Rattle.std.specs.Prelude.{◌≡◌, ◌++◌, false, ℕ, List, Result}
use Rattle.rc_model.specs.Database.{Database}
use Rattle.rc_model.specs.declared.Refusal.{Refusal}
use Rattle.rc_model.specs.Session.{Command, Reported}
use Rattle.rc_session.specs.Holding.{Holding, ObeysAll, first_line}
use Rattle.rc_script.specs.Script.{IsScript}
use Rattle.rc_render.specs.Names.{live_text}
use Rattle.rc_render.specs.AnswerText.{answers_text}
use Rattle.rc_render.specs.JournalText.{IsJournalText}

-- a session on a database, in which nothing is live yet
abbrev pub fresh : Database → Holding
fresh d = record { database = d; line = first_line d 1024; begun = false; spoiled = false }

-- the answers to commands, then what is live after them, then the journal
pub record IsTold (d : Database) (commands : List Command)
    (answers : List (Result Reported Refusal)) (left : Holding) (text : List ℕ) : Type 0 where
  pub journal : List ℕ
  pub lines : IsJournalText d.names left.line journal
  pub all : text ≡ answers_text d.names commands answers ++ live_text d.names left.line.current.live
      ++ journal

-- what commands come to on a database: they are carried out one after the other, from
-- nothing, each with its own events
pub record IsPlayed (d : Database) (commands : List Command) (text : List ℕ) : Type 0 where
  pub answers : List (Result Reported Refusal)
  pub left : Holding
  pub obeyed : ObeysAll (fresh d) commands answers left
  pub told : IsTold d commands answers left text

-- what a script comes to on a database
abbrev pub IsReplay : Database → (script text : List ℕ) → Type 0
IsReplay d script text =
    (commands : List Command) × IsScript d.names script commands × IsPlayed d commands text
