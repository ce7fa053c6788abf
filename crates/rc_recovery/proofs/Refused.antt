-- What a session answers to a command that was cut short.
use Rattle.std.proofs.Common.{◌≡◌, ◌≢◌, ℕ, List, Ok, Err, inl, inr, subst}
use Rattle.rc_model.specs.declared.Refusal.{Refusal}
use Rattle.rc_model.specs.declared.Refusal.TheVariants.{Memory}
use Rattle.rc_model.specs.Database.{Database}
use Rattle.rc_model.specs.Line.{Line}
use Rattle.rc_model.specs.Session.{Command, IsLineOf, Reported}
use Rattle.rc_session.specs.Holding.{Holding}
use Rattle.rc_livetext.specs.Spelling.{Spells}
use Rattle.rc_recovery.specs.Recovering.{Enters, Recovers}
use Rattle.rc_recovery.specs.RunLog.{IsRefusedIn, session_on}

-- what a session refuses leaves it as it was
enters_nothing : (old : Holding) (command : Command) (r : Refusal) (new : Holding)
    → Enters old command (Err r) new → new ≡ old
enters_nothing old command r new (inl done) = done.0.1
enters_nothing old command r new (inr stopped) = stopped.3.1

-- a session on a line recovers as the session that is that one
pub recovers_on : (old : Holding) (command : Command) (report : Reported) (new : Holding)
    → old ≡ session_on old.database old.line → Recovers old command (Ok report) new
    → Recovers (session_on old.database old.line) command (Ok report) new
recovers_on old command report new fresh recovers =
    let P : Holding → Type 0 = λ h. Recovers h command (Ok report) new in subst P fresh recovers

-- a refusal other than for memory is one of the command
pub refused_in : (old : Holding) (command : Command) (r : Refusal) (new : Holding) (text : List ℕ)
    → r ≢ Memory → old ≡ session_on old.database old.line → IsLineOf old.database old.line
    → Spells old.database text old.line
    → Recovers old command (Err r) new → IsRefusedIn old.database text command
refused_in old command r new text other fresh line_of spells (inl enters) =
    let same : Holding → Type 0 = λ n. Enters old command (Err r) n in
    let on : Holding → Type 0 = λ h. Enters h command (Err r) h in (
      old.line,
      line_of,
      spells,
      (r, other, subst on fresh (subst same (enters_nothing old command r new enters) enters)),
    )
refused_in old command r new text other fresh line_of spells (inr memory) =
    absurd (other (let e = memory.0 in cc))

-- what a session promises of each text of its line is promised of this one
pub by_text : (P : Database → List ℕ → Type 0) (d : Database) (line : Line) (s : Holding)
    (text : List ℕ) → s ≡ session_on d line → Spells d text line
    → ((any : List ℕ) → Spells s.database any s.line → P s.database any) → P d text
by_text P d line s text same spells each =
    let Q : Holding → Type 0 = λ h. (Spells h.database text h.line → P h.database text) in
    subst Q same (each text) spells
