-- What a text that is put into the store of a session makes of its history.
use Rattle.std.specs.Prelude.{◌≡◌, ◌⊎◌, ℕ, Bool, false, List, Option, None, Some}
use Rattle.std.specs.Prelude.{if◌then◌else◌, is_some}
use Rattle.rc_update.specs.Conversions.{conversions_of}
use Rattle.rc_historytext.specs.Keeping.{IsKept, StandsThere}
use Rattle.rc_historytext.specs.Updating.{IsBegun, IsEntered}
use Rattle.rc_historytext.specs.declared.keeping.Keeping.{Keeping}
use Rattle.rc_historytext.specs.declared.keeping.Keeping.TheVariants.{Step}
use Rattle.rc_launch.specs.HeldHistory.{history_in}
use Rattle.rc_launch.specs.declared.live_store.Frame.{Frame}
use Rattle.rc_launch.specs.declared.live_store.Frame.TheVariants.{Alone, Begins, History}
use Rattle.rc_launch.specs.declared.live_store.LiveStore.{LiveStore}
use Rattle.rc_launch.specs.declared.live_store.Next.{Next}

-- how a store puts what comes next: what that does to the states; whether it stands in place of
-- what was put last; whether an update has entered its database; and which one that is
pub record Manner : Type 0 where
  pub keeping : Keeping
  pub of_line : Bool
  pub entering : Bool
  pub next : Option Next

abbrev pub manner_of : LiveStore → Manner
manner_of store = record {
  keeping = store.keeping;
  of_line = store.is_of_line;
  entering = store.is_entering;
  next = store.next;
}

-- the generation that begins with what comes next, if one does
abbrev pub begins_next : Manner → Option Next
begins_next manner = if manner.entering then manner.next else None

-- a generation is entered once
abbrev pub entered_once : (entering : Bool) → Manner → Manner
entered_once entering manner =
    if entering then record manner { entering = false; next = None } else manner

abbrev pub behind : Manner → Manner
behind manner = entered_once manner.entering manner

-- an update has entered its database, if there is one
abbrev pub announced : Manner → Manner
announced manner = record manner { entering = is_some manner.next }

-- a session stands in a history already, or is kept there
abbrev pub IsKeptThere : Keeping → (was text is : List ℕ) → Type 0
IsKeptThere keeping was text is =
    (StandsThere was text × (is ≡ was)) ⊎ IsKept keeping was text is

-- the text of a history in which a session is put: in a generation that begins, or kept so
abbrev pub IsPutAs : Option Next → Keeping → (was text is : List ℕ) → Type 0
IsPutAs (Some next) keeping was text is =
    IsEntered was next.database.now text (conversions_of next.list.now) is
IsPutAs None keeping was text is = IsKeptThere keeping was text is

-- what a put leaves of what the session was kept in, where it stands in place of nothing
abbrev pub IsPutIn : Frame → Manner → (text is : List ℕ) → Type 0
IsPutIn (Alone found) manner text is = Unit {0}
IsPutIn (Begins database) manner text is = IsBegun database.now text is
IsPutIn (History framed) manner text is =
    manner.of_line ≡ false → IsPutAs (begins_next manner) manner.keeping framed.whole text is

-- a text was put there: the history is that, and what comes next is put as behind it
abbrev pub HoldsPut : Frame → Manner → (text : List ℕ) → Frame → Manner → Type 0
HoldsPut was manner text frame left = (left ≡ behind manner)
    × ((is : List ℕ) × (history_in frame ≡ Some is) × IsPutIn was manner text is)

abbrev pub IsPutBy : Frame → Manner → (text : List ℕ) → Frame → Manner → Type 0
IsPutBy (Alone found) manner text frame left = Unit {0}
IsPutBy (Begins database) manner text frame left =
    HoldsPut (Begins database) manner text frame left
IsPutBy (History framed) manner text frame left =
    HoldsPut (History framed) manner text frame left

-- a text was put into a store, and left it so
abbrev pub Puts : LiveStore → (text : List ℕ) → LiveStore → Type 0
Puts old text new = IsPutBy old.frame (manner_of old) text new.frame (manner_of new)

-- an update was announced to a store
abbrev pub Announces : (old new : LiveStore) → Type 0
Announces old new = (new.frame ≡ old.frame) × (manner_of new ≡ announced (manner_of old))

-- what comes next is put as by a command of several steps, of which an update leads there
abbrev pub stepping : Option Next → Manner
stepping next = record { keeping = Step; of_line = false; entering = false; next = next }
