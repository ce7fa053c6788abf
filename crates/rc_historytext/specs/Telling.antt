-- Which history a text tells.
use Rattle.std.specs.Prelude.{◌≡◌, ℕ, false, List, [], ◌∷◌, length, map, Result}
use Rattle.rc_model.specs.declared.Refusal.{Refusal}
use Rattle.rc_model.specs.Session.{Command, Reported}
use Rattle.rc_update.specs.Conversions.{Conversion}
use Rattle.rc_dbtext.specs.Spelling.{spelling}
use Rattle.rc_livetext.specs.Spelling.{Spells}
use Rattle.rc_history.specs.History.{Generation, History, generations}
use Rattle.rc_history.specs.Moves.{MovesInside}
use Rattle.rc_historytext.specs.Text.{RenameText, GenerationText, HistoryText}

-- the conversions of renames: none of them restarts a service
abbrev pub conversion_of : RenameText → Conversion
conversion_of r = record { old = r.old; new = r.new; restart = false }

-- the texts are those of the database and of its line
pub record TellsStates (g : GenerationText) (generation : Generation) : Type 0 where
  pub database : g.database ≡ spelling generation.base
  pub session : Spells generation.base g.session generation.line

-- and the renames are those of the update that led to it
pub record TellsAll (g : GenerationText) (generation : Generation) : Type 0 where
  pub states : TellsStates g generation
  pub renames : generation.by ≡ map conversion_of g.renames

-- each text of a list tells the generation at its place
abbrev pub TellEach : List GenerationText → List Generation → Type 0
TellEach [] [] = Unit {0}
TellEach (g ∷ gs) (generation ∷ rest) = TellsAll g generation × TellEach gs rest
TellEach gs others = ⊥

-- the same, but that nothing is told of an update that led to the first one
abbrev pub TellFromOldest : List GenerationText → List Generation → Type 0
TellFromOldest [] [] = Unit {0}
TellFromOldest (g ∷ gs) (generation ∷ rest) = TellsStates g generation × TellEach gs rest
TellFromOldest gs others = ⊥

-- what a text gives is the history
pub record Tells (t : HistoryText) (h : History) : Type 0 where
  pub place : t.present ≡ length h.earlier
  pub each : TellFromOldest t.generations (generations h)

-- a command moves inside the present generation, and this is the text of its line then
pub record IsMovedInside (h new : History) (session : List ℕ) : Type 0 where
  pub command : Command
  pub answer : Result Reported Refusal
  pub moves : MovesInside h command answer new
  pub spells : Spells new.present.base session new.present.line
