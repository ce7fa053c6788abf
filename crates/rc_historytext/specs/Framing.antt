-- A history in which a session is kept.
use Rattle.std.specs.Prelude.{◌≡◌, ◌⊎◌, List, ℕ}
use Rattle.rc_historytext.specs.declared.keeping.Keeping.{Keeping}
use Rattle.rc_historytext.specs.Keeping.{IsKept, StandsThere}

-- a history as it was before, the session that was kept last and how, and the history with it
pub record FramedText : Type 0 where
  pub base : List ℕ
  pub keeping : Keeping
  pub kept : List ℕ
  pub whole : List ℕ

-- the history is what keeping the session makes of the one before, or the session stood there, and
-- the history is as it was
abbrev pub IsFraming : FramedText → Type 0
IsFraming f =
    (StandsThere f.base f.kept × (f.whole ≡ f.base)) ⊎ IsKept f.keeping f.base f.kept f.whole

-- nothing was kept yet in this history
abbrev pub BeginsOn : (bytes : List ℕ) → Keeping → FramedText → Type 0
BeginsOn bytes keeping f = (f.base ≡ bytes) × (f.keeping ≡ keeping) × (f.whole ≡ bytes)

-- a session was kept in this history, and so
abbrev pub KeepsOn : (bytes session : List ℕ) → Keeping → FramedText → Type 0
KeepsOn bytes session keeping f =
    (f.base ≡ bytes) × (f.keeping ≡ keeping) × (f.kept ≡ session)
