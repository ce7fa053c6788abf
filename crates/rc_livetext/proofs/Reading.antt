-- What was read of bytes, as a line and as a refusal.
use Rattle.std.proofs.Common.{◌≡◌, ◌∙◌, inl, inr, ℕ, ◌+◌, ◌-◌, ◌≤◌, List, [], ◌∷◌, Option, Some}
use Rattle.std.proofs.Common.{None, length, length-append, ap, arith}
use Rattle.std.proofs.lemmas.List.{append-nil}
use Rattle.rc_model.specs.Database.{Database}
use Rattle.rc_model.specs.Line.{Line}
use Rattle.rc_livetext.specs.Text.{LiveText, live_text}
use Rattle.rc_livetext.specs.Refusals.{BeginsWith}
use Rattle.rc_livetext.specs.declared.fault.LiveFault.{LiveFault}
use Rattle.rc_livetext.specs.declared.fault.LiveFault.TheVariants.{Bad, Version, Unknown, NotClosed}
use Rattle.rc_livetext.specs.declared.fault.LiveFault.TheVariants.{SameState, OtherDb, Memory}
use Rattle.rc_livetext.specs.declared.fault.LiveFault.TheVariants.{OverBound}
use Rattle.rc_livetext.specs.LiveFaults.{IsLiveFault, IsMeaningFault}
use Rattle.rc_livetext.specs.Parts.{IsTextOf}
use Rattle.rc_livetext.specs.Spelling.{Spells, spelling, old_spelling}

module _ (d : Database) (bytes : List ℕ) (t : LiveText) (begins : BeginsWith bytes t []) where
  whole : bytes ≡ live_text t
  whole = begins.1 ∙ append-nil (live_text t)

  -- the bytes spell the line that their text says
  pub spelled : (line : Line) (said : Option ℕ) → IsTextOf d t line said → Spells d bytes line
  unfolding spelling old_spelling
  spelled line (Some bound) is = inl (whole ∙ ap live_text is)
  spelled line None is = inr (whole ∙ ap live_text is.0, is.1)

  -- what refuses the text refuses the bytes
  pub refused : (fault : LiveFault) → IsMeaningFault d t fault → IsLiveFault d bytes fault
  refused (Bad offset) told = absurd told
  refused Version told = absurd told
  refused OtherDb told = (t, begins, told)
  refused Unknown told = (t, begins, told)
  refused (NotClosed place) told = (t, begins, told)
  refused SameState told = (t, begins, told)
  refused OverBound told = (t, begins, told)
  refused Memory told = tt

-- nothing follows
pub nothing_behind : (bytes rest : List ℕ) (t : LiveText) → length rest ≡ 0
    → BeginsWith bytes t rest → BeginsWith bytes t []
nothing_behind bytes [] t none begins = begins
nothing_behind bytes (b ∷ rest) t none begins = absurd (omega arith)

-- more bytes follow
pub more_behind : (d : Database) (bytes rest : List ℕ) (t : LiveText) → (length rest ≡ 0 → ⊥)
    → BeginsWith bytes t rest → IsLiveFault d bytes (Bad (length bytes - length rest))
more_behind d bytes rest t some begins =
    let long : length bytes ≡ length (live_text t) + length rest =
    ap length begins.1 ∙ length-append (live_text t) rest in
    inr (t, rest, begins, (λ none. some (ap length none)), omega arith)

-- what follows is no longer than the bytes
pub rest_within : (bytes rest : List ℕ) (t : LiveText) → BeginsWith bytes t rest
    → length rest ≤ length bytes
rest_within bytes rest t begins =
    let long : length bytes ≡ length (live_text t) + length rest =
    ap length begins.1 ∙ length-append (live_text t) rest in omega arith
