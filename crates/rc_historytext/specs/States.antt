-- What the session of a generation says, by names.
use Rattle.std.specs.Prelude.{◌≡◌, ◌-◌, ℕ, List, [], ◌∷◌, length, get_or}
use Rattle.rc_livetext.specs.Text.{LiveText, StateText, IsLiveText, live_text}

-- the bytes are the text of a session that says this
pub record IsSession (bytes : List ℕ) (s : LiveText) : Type 0 where
  pub is : IsLiveText s
  pub spelled : bytes ≡ live_text s

-- the first of the states that end in this one
abbrev pub first_of : List StateText → StateText → StateText
first_of [] s = s
first_of (a ∷ rest) s = a

-- the oldest state of a session
abbrev pub oldest_state : LiveText → StateText
oldest_state s = first_of s.before s.current

-- the newest one: the last of those that come after the current one, or that
abbrev pub newest_state : LiveText → StateText
newest_state s = get_or s.after (length s.after - 1) s.current

-- a session without what comes after its current state
abbrev pub cut_behind : LiveText → LiveText
cut_behind s = record s { after = [] }

-- the second text is that of the session that the first one says, without what comes after its
-- current state
abbrev pub Cuts : List ℕ → List ℕ → Type 0
Cuts bytes cut = (s : LiveText) × IsSession bytes s × IsSession cut (cut_behind s)

-- the session that the bytes say has so many states before its current one, and so many after it
abbrev pub StandsBetween : List ℕ → ℕ → ℕ → Type 0
StandsBetween bytes before after =
    (s : LiveText) × IsSession bytes s × (before ≡ length s.before) × (after ≡ length s.after)
