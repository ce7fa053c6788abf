-- The history that the store of a session holds.
use Rattle.std.specs.Prelude.{◌≡◌, ◌&&◌, ℕ, Bool, not, List, Option, None, Some, option_map}
use Rattle.rc_historytext.specs.Framing.{IsFraming}
use Rattle.rc_historytext.specs.Keeping.{StandsThere}
use Rattle.rc_historytext.specs.Present.{StandingText, StandsAt, crosses, has_inside}
use Rattle.rc_historytext.specs.declared.keeping.Keeping.TheVariants.{Way}
use Rattle.rc_launch.specs.declared.live_store.Frame.{Frame}
use Rattle.rc_launch.specs.declared.live_store.Frame.TheVariants.{Alone, History}
use Rattle.rc_launch.specs.declared.live_store.LiveStore.{LiveStore}
use Rattle.rc_launch.specs.declared.texts.LiveText.{LiveText}

-- a session is kept alone
abbrev pub IsAlone : Frame → Type 0
IsAlone (Alone found) = Unit {0}
IsAlone other = ⊥

-- the history in which a session is kept, if it is kept in one
abbrev pub history_in : Frame → Option (List ℕ)
history_in (History framed) = Some framed.whole
history_in other = None

-- the session that was kept in it last
abbrev pub session_in : Frame → Option (List ℕ)
session_in (History framed) = Some framed.kept
session_in other = None

-- the same of a store
abbrev pub history_held : LiveStore → Option (List ℕ)
history_held store = history_in store.frame

abbrev pub session_kept : LiveStore → Option (List ℕ)
session_kept store = session_in store.frame

-- a store holds a history to which this one leads
abbrev pub LeadsOn : (was : List ℕ) → LiveStore → (By : List ℕ → List ℕ → Type 0) → Type 0
LeadsOn was store By = (is : List ℕ) × (history_held store ≡ Some is) × By was is

-- if a store held a history, it holds one to which that one leads
abbrev pub Leads : (old new : LiveStore) → (By : List ℕ → List ℕ → Type 0) → Type 0
Leads old new By = (was : List ℕ) → history_held old ≡ Some was → LeadsOn was new By

-- a history is this one after an undo or a redo of one line, or this one
abbrev pub IsLedFrom : (was : List ℕ) → Frame → Type 0
IsLedFrom was (History framed) =
    (framed.base ≡ was) × (framed.keeping ≡ Way) × IsFraming framed
IsLedFrom was other = ⊥

abbrev pub WasLedFrom : LiveStore → (was : List ℕ) → Type 0
WasLedFrom store was = IsLedFrom was store.frame

-- the session that a store kept last stands in this history
abbrev pub KeepsIn : (was : List ℕ) → LiveStore → Type 0
KeepsIn was store = (kept : List ℕ) → session_kept store ≡ Some kept → StandsThere was kept

-- it stands in the history that the store holds
abbrev pub KeepsThere : LiveStore → Type 0
KeepsThere store = (was : List ℕ) → history_held store ≡ Some was → KeepsIn was store

-- whether the next step of an undo (not `on`) or a redo crosses a border, from where a history
-- stands
abbrev pub MeetsBorder : (on : Bool) → (history : List ℕ) → Bool → Type 0
MeetsBorder on history meets = (at : StandingText) × StandsAt history at
    × (meets ≡ (not (has_inside on at) && crosses on at))

-- the history that was read from the file of a session, if one stood there
abbrev pub history_found : LiveText → Option (List ℕ)
history_found live = option_map (λ history. history.text.items) live.history
