-- The moves of a history: a command inside a generation, a border that is crossed, and the step of
-- an update that makes one.
use Rattle.std.specs.Prelude.{◌≡◌, ◌⊎◌, ℕ, zero, suc, List, [], ◌∷◌, ◌++◌, length, Result}
use Rattle.rc_model.specs.Names.{Has, Holds}
use Rattle.rc_model.specs.Database.{Database, IsDatabase}
use Rattle.rc_model.specs.declared.Refusal.{Refusal}
use Rattle.rc_model.specs.Line.{IsBound}
use Rattle.rc_model.specs.Session.{Command, Reported, Answers}
use Rattle.rc_model.specs.Headline.{IsUndo, IsRedo, WentWell}
use Rattle.rc_update.specs.Conversions.{Conversion}
use Rattle.rc_update.specs.Carrying.{Carried, IsUnaltered}
use Rattle.rc_update.specs.Distinct.{AreDistinct}
use Rattle.rc_history.specs.History.{Generation, History, first_state, last_state}

-- the oldest state of the present generation is still there
abbrev pub StaysFirst : History → History → Type 0
StaysFirst h new = first_state new.present.line ≡ first_state h.present.line

-- what is beyond a dropped state is dropped with it: the earlier generations stay where the oldest
-- state of the present one does
abbrev pub KeepsEarlier : History → History → Type 0
KeepsEarlier h new = (StaysFirst h new × (new.earlier ≡ h.earlier))
    ⊎ ((StaysFirst h new → ⊥) × (new.earlier ≡ []))

-- the last state of the present generation is still there, and the command is an undo or a redo, or
-- did nothing: a change or an edit that does something cuts off what comes after
abbrev pub StaysLast : History → Command → History → Type 0
StaysLast h command new = (last_state new.present.line ≡ last_state h.present.line)
    × (IsUndo command ⊎ IsRedo command ⊎ (new.present.line ≡ h.present.line))

abbrev pub KeepsLater : History → Command → History → Type 0
KeepsLater h command new = (StaysLast h command new × (new.later ≡ h.later))
    ⊎ ((StaysLast h command new → ⊥) × (new.later ≡ []))

-- a command of the present generation, as its database and its line have it
pub record MovesInside (h : History) (command : Command) (answer : Result Reported Refusal)
    (new : History) : Type 0 where
  pub answers : Answers h.present.base h.present.line command answer new.present.line
  pub base : new.present.base ≡ h.present.base
  pub by : new.present.by ≡ h.present.by
  pub earlier : KeepsEarlier h new
  pub later : KeepsLater h command new

-- the second history is the first one with the border behind the present generation crossed: it
-- stood on its last state, and the next one is on its first; no service moves
pub record IsAcross (h next : History) : Type 0 where
  pub left : next.earlier ≡ h.earlier ++ h.present ∷ []
  pub reached : h.later ≡ next.present ∷ next.later
  pub at_last : h.present.line.after ≡ []
  pub at_first : next.present.line.before ≡ []

-- one step back: a border is crossed, or an undo in the present generation goes well
abbrev pub StepsBack : History → History → Type 0
StepsBack h new = IsAcross new h
    ⊎ ((command : Command) × (answer : Result Reported Refusal) × IsUndo command × WentWell answer
    × MovesInside h command answer new)

-- one step on: a border is crossed, or a redo in the present generation goes well
abbrev pub StepsOn : History → History → Type 0
StepsOn h new = IsAcross h new
    ⊎ ((command : Command) × (answer : Result Reported Refusal) × IsRedo command × WentWell answer
    × MovesInside h command answer new)

-- so many steps back in a row
abbrev pub SeveralBack : ℕ → History → History → Type 0
SeveralBack zero h new = new ≡ h
SeveralBack (suc n) h new = (next : History) × StepsBack h next × SeveralBack n next new

abbrev pub SeveralOn : ℕ → History → History → Type 0
SeveralOn zero h new = new ≡ h
SeveralOn (suc n) h new = (next : History) × StepsOn h next × SeveralOn n next new

-- the generation without what comes after its current state
abbrev pub cut_after : Generation → Generation
cut_after g = record g { line = record g.line { after = [] } }

-- an update enters a database, once what is live goes on unaltered in it: a generation of one
-- state is put behind the present one, in the place of what came after. No service moves
pub record Enters (h : History) (list : List Conversion) (d : Database) (new : History)
    : Type 0 where
  pub database : IsDatabase d
  pub distinct : AreDistinct list
  pub unaltered : (s : ℕ) → Has h.present.line.current.live s
      → IsUnaltered h.present.base d list s
  pub earlier : new.earlier ≡ h.earlier ++ cut_after h.present ∷ []
  pub later : new.later ≡ []
  pub base : new.present.base ≡ d
  pub by : new.present.by ≡ list
  pub before : new.present.line.before ≡ []
  pub after : new.present.line.after ≡ []
  pub bound : IsBound new.present.line.bound
  pub table : new.present.line.current.table ≡ d.table
  pub length : length new.present.line.current.live ≡ length d.names
  pub live : Holds new.present.line.current.live
      (Carried h.present.base d list (Has h.present.line.current.live))
