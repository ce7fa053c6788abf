-- What is put into a store, one text after the other, as an update and a restart put theirs.
use Rattle.std.proofs.Common.{◌≡◌, ◌≢◌, ℕ, false, List, Option, None, Some}
use Rattle.std.proofs.Common.{Result, Ok, Err, OnOk, inl, inr, refl, subst, sym}
use Rattle.std.proofs.lemmas.Option.{none-some, same_Some}
use Rattle.rc_model.specs.Database.{Database}
use Rattle.rc_model.specs.Line.{Line}
use Rattle.rc_update.specs.Conversions.{conversions_of}
use Rattle.rc_livetext.specs.Spelling.{spelling}
use Rattle.rc_historytext.specs.Framing.{FramedText, IsFraming}
use Rattle.rc_historytext.specs.Keeping.{IsKept}
use Rattle.rc_historytext.specs.Updates.{KeepsLeft, KeepsTwice}
use Rattle.rc_historytext.specs.Updating.{IsBegun, IsEntered}
use Rattle.rc_historytext.specs.declared.keeping.Keeping.{Keeping}
use Rattle.rc_historytext.specs.declared.keeping.Keeping.TheVariants.{Step}
use Rattle.rc_historytext.proofs.Presents.{first_stands}
use Rattle.rc_serve.specs.Keeping.{IsKeptOnce}
use Rattle.rc_cli.specs.Putting.{KeptTwice, PutsBy}
use Rattle.rc_launch.specs.Frames.{IsToBegin}
use Rattle.rc_launch.specs.HeldHistory.{IsAlone, history_held, history_in}
use Rattle.rc_launch.specs.Putting.{IsKeptThere, IsPutAs, IsPutBy, IsPutIn, Manner, Puts}
use Rattle.rc_launch.specs.Putting.{announced, begins_next, behind, manner_of, stepping}
use Rattle.rc_launch.specs.TwoSteps.{HoldsFor}
use Rattle.rc_launch.specs.declared.live_store.Frame.{Frame}
use Rattle.rc_launch.specs.declared.live_store.Frame.TheVariants.{Alone, Begins, History}
use Rattle.rc_launch.specs.declared.live_store.LiveStore.{LiveStore}
use Rattle.rc_launch.specs.declared.live_store.Next.{Next}

-- nothing is said of a session that is kept alone
pub put_alone : {T E : Type 0} (result : Result T E) (was : Frame) (manner : Manner)
    (text : List ℕ) (frame : Frame) (left : Manner) → IsAlone was
    → OnOk result (IsPutBy was manner text frame left)
put_alone (Ok value) (Alone found) manner text frame left alone = tt
put_alone (Ok value) (Begins database) manner text frame left alone = absurd alone
put_alone (Ok value) (History framed) manner text frame left alone = absurd alone
put_alone (Err fault) was manner text frame left alone = tt

-- a history that was made and put into the file
pub put_framed : {T E : Type 0} (result : Result T E) (was : Frame) (manner : Manner)
    (text : List ℕ) (framed : FramedText) (frame : Frame) (left : Manner)
    → IsPutIn was manner text framed.whole → OnOk result (frame ≡ History framed)
    → OnOk result (left ≡ behind manner)
    → OnOk result (IsPutBy was manner text frame left)
put_framed (Ok value) (Alone found) manner text framed frame left put is same = tt
put_framed (Ok value) (Begins database) manner text framed frame left put is same = (
  same,
  (
    framed.whole,
    subst (λ (f : Frame). history_in f ≡ Some framed.whole) (sym is) refl,
    put,
  ),
)
put_framed (Ok value) (History before) manner text framed frame left put is same = (
  same,
  (
    framed.whole,
    subst (λ (f : Frame). history_in f ≡ Some framed.whole) (sym is) refl,
    put,
  ),
)
put_framed (Err fault) was manner text framed frame left put is same = tt

-- what a put makes of the history that is held
put_held : (was : Frame) (manner : Manner) (text : List ℕ) (frame : Frame) (left : Manner)
    (bytes : List ℕ) → IsPutBy was manner text frame left → history_in was ≡ Some bytes
    → manner.of_line ≡ false
    → (left ≡ behind manner) × ((is : List ℕ) × (history_in frame ≡ Some is)
    × IsPutAs (begins_next manner) manner.keeping bytes text is)
put_held (Alone found) manner text frame left bytes put held line =
    absurd (none-some bytes held)
put_held (Begins database) manner text frame left bytes put held line =
    absurd (none-some bytes held)
put_held (History framed) manner text frame left bytes put held line = (
  put.0,
  (
    put.1.0,
    put.1.1,
    subst (λ (b : List ℕ). IsPutAs (begins_next manner) manner.keeping b text put.1.0)
        (same_Some framed.whole bytes held) (put.1.2 line),
  ),
)

-- what a put begins
put_begun : (was : Frame) (manner : Manner) (text : List ℕ) (frame : Frame) (left : Manner)
    (base : List ℕ) → IsPutBy was manner text frame left → IsToBegin base was
    → (left ≡ behind manner) × ((first : List ℕ) × (history_in frame ≡ Some first)
    × IsBegun base text first)
put_begun (Alone found) manner text frame left base put begins = absurd begins
put_begun (Begins database) manner text frame left base put begins = (
  put.0,
  (
    put.1.0,
    put.1.1,
    subst (λ (b : List ℕ). IsBegun b text put.1.0) begins put.1.2,
  ),
)
put_begun (History framed) manner text frame left base put begins = absurd begins

-- what a frame holds of which these are the history before, the way and the session
pub kept_there : (f : FramedText) (was text : List ℕ) (keeping : Keeping) → f.base ≡ was
    → f.keeping ≡ keeping → f.kept ≡ text → IsFraming f → IsKeptThere keeping was text f.whole
kept_there f was text keeping base way same framing =
    subst (λ (t : List ℕ). IsKeptThere keeping was t f.whole) same
    (subst (λ (k : Keeping). IsKeptThere k was f.kept f.whole) way
    (subst (λ (b : List ℕ). IsKeptThere f.keeping b f.kept f.whole) base framing))

-- a step is kept so, too, where its session stands there
step_kept : (was text is : List ℕ) → IsKeptThere Step was text is → IsKept Step was text is
step_kept was text is (inl stands) = inl stands
step_kept was text is (inr kept) = kept

-- a step of a command of several steps puts a text
pub puts_step : (next : Option Next) (old new : LiveStore) (text bytes : List ℕ)
    → Puts old text new → HoldsFor next old bytes
    → (is : List ℕ) × IsKept Step bytes text is × HoldsFor next new is
puts_step next old new text bytes puts holds =
    let put = put_held old.frame (stepping next) text new.frame (manner_of new) bytes
    (subst (λ (m : Manner). IsPutBy old.frame m text new.frame (manner_of new)) holds.1 puts)
    holds.0 refl in
    (put.1.0, step_kept bytes text put.1.0 put.1.2, (put.1.1, put.0))

-- a step of such a command puts the text with which a history begins
puts_first : (next : Option Next) (old new : LiveStore) (base text : List ℕ)
    → Puts old text new → IsToBegin base old.frame → manner_of old ≡ stepping next
    → (first : List ℕ) × IsBegun base text first × HoldsFor next new first
puts_first next old new base text puts begins is =
    let put = put_begun old.frame (stepping next) text new.frame (manner_of new) base
    (subst (λ (m : Manner). IsPutBy old.frame m text new.frame (manner_of new)) is puts) begins in
    (put.1.0, put.1.2, (put.1.1, put.0))

-- a text is put where an update has entered its database
pub puts_entered : (next : Next) (old new : LiveStore) (text bytes : List ℕ)
    → Puts old text new → history_held old ≡ Some bytes
    → manner_of old ≡ announced (stepping (Some next))
    → (is : List ℕ) × IsEntered bytes next.database.now text (conversions_of next.list.now) is
    × HoldsFor None new is
puts_entered next old new text bytes puts held is =
    let put = put_held old.frame (announced (stepping (Some next))) text new.frame (manner_of new)
    bytes
    (subst (λ (m : Manner). IsPutBy old.frame m text new.frame (manner_of new)) is puts)
    held refl in
    (put.1.0, put.1.2, (put.1.1, put.0))

-- what a step leaves of a line is put, if it altered that
pub keeps_left : (next : Option Next) (d : Database) (here line : Line) (old new : LiveStore)
    (bytes : List ℕ)
    → IsKeptOnce (λ before e after then. Puts before (spelling e after) then) d here line old new
    → HoldsFor next old bytes
    → (is : List ℕ) × KeepsLeft d here line bytes is × HoldsFor next new is
keeps_left next d here line old new bytes (inl stays) holds = (
  bytes,
  inl (stays.0, refl),
  subst (λ (s : LiveStore). HoldsFor next s bytes) (sym stays.1) holds,
)
keeps_left next d here line old new bytes (inr moved) holds =
    let put = puts_step next old new (spelling d line) bytes moved.1 holds in
    (put.0, inr put.1, put.2)

-- a line is put where it stands, and then what a step leaves of it
pub keeps_twice : (next : Option Next) (d : Database) (here line : Line) (old new : LiveStore)
    (bytes : List ℕ) → KeptTwice Puts d here line old new → HoldsFor next old bytes
    → (is : List ℕ) × KeepsTwice d here line bytes is × HoldsFor next new is
keeps_twice next d here line old new bytes twice holds =
    let first = puts_step next old twice.0 (spelling d here) bytes twice.1 holds in
    let left = keeps_left next d here line twice.0 new first.0 twice.2 first.2 in
    (left.0, (first.0, first.1, left.1), left.2)

-- a history begins with a line where it stands, and what a step leaves of that is put there
pub begins_twice : (next : Option Next) (d : Database) (here line : Line) (old new : LiveStore)
    (base : List ℕ) → KeptTwice Puts d here line old new → IsToBegin base old.frame
    → manner_of old ≡ stepping next
    → (first : List ℕ) × IsBegun base (spelling d here) first
    × ((is : List ℕ) × KeepsTwice d here line first is × HoldsFor next new is)
begins_twice next d here line old new base twice begins is =
    let first = puts_first next old twice.0 base (spelling d here) twice.1 begins is in
    let there = first_stands base (spelling d here) first.0 first.1 in
    let left = keeps_left next d here line twice.0 new first.0 twice.2 first.2 in (
      first.0,
      first.1,
      (left.0, (first.0, inl (there, refl), left.1), left.2),
    )

-- where a file is named
pub puts_twice : (path : Option (List ℕ)) (d : Database) (here line : Line) (old new : LiveStore)
    → path ≢ None → PutsBy Puts path d here line old new → KeptTwice Puts d here line old new
puts_twice None d here line old new named puts = absurd (named refl)
puts_twice (Some path) d here line old new named puts = puts
