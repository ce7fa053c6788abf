-- A whole session: what each turn leaves, and what the session comes to at its end.
use Rattle.std.proofs.Common.{◌≡◌, ◌∙◌, ◌⊎◌, ◌↔◌, ◌≤◌, inl, inr, ℕ, Bool, true, false, List, []}
use Rattle.std.proofs.Common.{Option}
use Rattle.std.proofs.Common.{Result, Ok, Err, IfErr, OnOk, refl, sym, subst, arith}
use Rattle.std.specs.Prelude.{MatchResult}
use Rattle.std.specs.Io.KnownBytes.{Appends}
use Rattle.std.proofs.KnownBytes.{Consumes-nil}
use Rattle.rc_graph.specs.declared.Way.{Way}
use Rattle.rc_model.specs.Database.{Database, IsDatabase}
use Rattle.rc_model.specs.declared.Outcome.{Outcome}
use Rattle.rc_model.specs.Session.{IsLineOf}
use Rattle.rc_session.specs.Holding.{Holding}
use Rattle.rc_streams.specs.Exchange.{Exchange}
use Rattle.rc_streams.specs.Input.{ConsumesAtMost}
use Rattle.rc_streams.specs.Noting.{HasFailed, IsFlushed, inner_of}
use Rattle.rc_streams.specs.Taking.{HandsNothing, Held, fresh}
use Rattle.rc_streams.specs.declared.noted.Noted.{Noted}
use Rattle.rc_script.specs.Says.{Saying}
use Rattle.rc_board.specs.Crew.{IsCrew}
use Rattle.rc_serve.specs.declared.ending.Ending.{Ending}
use Rattle.rc_serve.specs.declared.fault.ServeFault.{ServeFault}
use Rattle.rc_serve.specs.declared.fault.ServeFault.TheVariants.{Read, Write, Workers, Io}
use Rattle.rc_serve.specs.declared.keeper.KeepFault.{KeepFault}
use Rattle.rc_serve.specs.Ending.{Ends, IsDoneAs, StopsOnce}
use Rattle.rc_serve.specs.Faults.{IsOfAnswer, IsServeFault, IsSpoiledBy, Spoils}
use Rattle.rc_serve.specs.Keeping.{AltersNone, IsKeptUp, Keeping, ServesFrontFailingKept}
use Rattle.rc_serve.specs.Keeping.{ServesFrontKept}
use Rattle.rc_serve.specs.Meeting.{Doing, IsDoneBy}
use Rattle.rc_serve.specs.Playing.{PlaysInput}
use Rattle.rc_serve.specs.Serving.{HandsSaying, IsServing, ServesAll, StandsUnread, Stays}
use Rattle.rc_serve.specs.SessionText.{FailsExactly, IsDoneFailing, IsTimeless, ServesFailing}
use Rattle.rc_serve.proofs.Failing.{front_text_failing, text_failing}
use Rattle.rc_serve.proofs.Keeping.{kept_more, kept_none}
use Rattle.rc_serve.proofs.Lines.{ServesNext, StopsAt, none_kept, over, serves_all, serves_front}
use Rattle.rc_serve.proofs.Lines.{serving_none, serving_on, spoils_on, takes_all, takes_next}
use Rattle.rc_serve.proofs.Lines.{takes_stop, unaltered_all, unaltered_front, unaltered_so}
use Rattle.rc_serve.proofs.Playing.{plays_input, plays_unread}
use Rattle.rc_serve.proofs.Turns.{device_as, fault_is, no_fault, said_served, said_stops}
use Rattle.rc_serve.proofs.Turns.{unread_spoils, unread_stops, workers_alone}

-- what carries a session out: workers and gate, and what is known of reader, writer and keeper
pub record Means (R W K : Type 0) : Type 1 where
  pub workers : ℕ
  pub answers : ℕ → Way → Outcome → Type 0
  pub gives : ℕ → Type 0
  pub remaining : R → Option (List ℕ)
  pub contents : W → Option (List ℕ)
  pub keeps : K → Keeping
  pub failed : K → Type 0
  pub fails : KeepFault → Type 0

-- the devices and the session at one moment
pub record Moment (R W K : Type 0) : Type 0 where
  pub reader : Noted R
  pub writer : Noted W
  pub keeper : K
  pub session : Holding

-- how its commands are done
abbrev pub does : {R W K : Type 0} → Means R W K → Doing
does m = IsDoneBy m.workers m.answers m.gives

-- what was read and written between two moments
abbrev pub passed : {R W K : Type 0} → Means R W K → (old new : Moment R W K) → Exchange
passed m old new =
    over (m.remaining (inner_of old.reader)) (m.remaining (inner_of new.reader))
    (m.contents (inner_of old.writer)) (m.contents (inner_of new.writer))

-- what was kept between them
abbrev pub Kept : {R W K : Type 0} → Means R W K → (old new : Moment R W K) → Type 0
Kept m old new =
    IsKeptUp (m.keeps old.keeper) (m.keeps new.keeper) old.session.database old.session.line
    new.session.line

-- all that a session has come to: the clauses of `serve_kept`
abbrev pub ComesTo : {R W K : Type 0} → Means R W K → (old new : Moment R W K)
    → Result (Unit {0}) ServeFault → Type 0
ComesTo m old new result = record {
  done : OnOk result (ServesAll (does m) (passed m old new) old.session new.session);
  kept : OnOk result (Kept m old new);
  unaltered : AltersNone (does m) (m.remaining (inner_of old.reader)) old.session.database
      old.session.line → new.keeper ≡ old.keeper;
  begun : IfErr result (λ fault. ServesFrontKept (does m) fault m.fails (m.keeps old.keeper)
      (m.keeps new.keeper) (passed m old new) old.session new.session);
  text : (fails : ℕ → Way → Bool) → FailsExactly m.answers fails
      → IsTimeless m.gives (m.remaining (inner_of old.reader))
      → OnOk result (ServesFailing fails (passed m old new) old.session new.session);
  front : (fails : ℕ → Way → Bool) → FailsExactly m.answers fails
      → IsTimeless m.gives (m.remaining (inner_of old.reader))
      → IfErr result (λ fault. ServesFrontFailingKept fault m.fails (m.keeps old.keeper)
      (m.keeps new.keeper) fails (passed m old new) old.session new.session);
  play : PlaysInput (m.remaining (inner_of old.reader)) (m.remaining (inner_of new.reader))
      old.session new.session;
  flushed : MatchResult result (λ _. IsFlushed old.writer → IsFlushed new.writer)
      (λ fault. IsOfAnswer fault ⊎ (IsFlushed old.writer → IsFlushed new.writer));
  crew : OnOk result (IsCrew m.workers);
  workers : (result ≡ Err Workers) ↔ (IsCrew m.workers → ⊥);
  unread : result ≡ Err Workers → new.reader ≡ old.reader;
  unwritten : result ≡ Err Workers → new.writer ≡ old.writer;
  same : result ≡ Err Workers → new.session ≡ old.session;
  unkept : result ≡ Err Workers → new.keeper ≡ old.keeper;
  sound : OnOk result ((HasFailed new.reader → ⊥) × (HasFailed new.writer → ⊥));
  read : result ≡ Err Read → HasFailed new.reader;
  told : HasFailed new.reader → result ≡ Err Read;
  written : result ≡ Err Write → HasFailed new.writer;
  io : result ≡ Err Io → m.failed new.keeper;
  whole : IsSpoiledBy result old.session new.session;
  stays : Stays old.session new.session;
  taken : ConsumesAtMost (m.remaining (inner_of old.reader)) (m.remaining (inner_of new.reader))
      16777217;
}

-- a session goes on: the lines before were met and answered, and what they altered is kept
pub record GoesOn {R W K : Type 0} (m : Means R W K) (old now : Moment R W K) (held : Held)
    : Type 0 where
  pub database : IsDatabase old.session.database
  pub states : IsLineOf old.session.database old.session.line
  pub crew : IsCrew m.workers
  pub reads : HasFailed now.reader → ⊥
  pub writes : HasFailed now.writer → ⊥
  pub flushed : IsFlushed old.writer → IsFlushed now.writer
  pub serving : IsServing (does m) (passed m old now) held old.session now.session
  pub unaltered : AltersNone (does m) (m.remaining (inner_of old.reader)) old.session.database
      old.session.line → now.keeper ≡ old.keeper
  pub kept : Kept m old now

-- a turn without a fault: a line was answered, or none was left
pub record Advances {R W K : Type 0} (m : Means R W K) (now new : Moment R W K) (held after : Held)
    (more : Bool) : Type 0 where
  pub served : ServesNext (does m) more (passed m now new) held after now.session new.session
  pub within : after.taken ≤ 16777217
  pub reads : HasFailed new.reader → ⊥
  pub writes : HasFailed new.writer → ⊥
  pub flushed : IsFlushed now.writer → IsFlushed new.writer
  pub kept : Kept m now new
  pub unaltered : new.session.line ≡ now.session.line → new.keeper ≡ now.keeper
  pub stays : Stays now.session new.session
  pub whole : new.session.spoiled ≡ now.session.spoiled

-- a turn with a fault
pub record Breaks {R W K : Type 0} (m : Means R W K) (now new : Moment R W K) (held after : Held)
    (fault : ServeFault) : Type 0 where
  pub stops : StopsAt (does m) fault m.fails (m.keeps now.keeper) (m.keeps new.keeper)
      (passed m now new) held after now.session new.session
  pub within : after.taken ≤ 16777217
  pub device : IsServeFault (HasFailed new.reader) (HasFailed new.writer) (m.failed new.keeper)
      fault
  pub told : HasFailed new.reader → ◌≡◌ {A = Result (Unit {0}) ServeFault} (Err fault) (Err Read)
  pub flushed : IsOfAnswer fault ⊎ (IsFlushed now.writer → IsFlushed new.writer)
  pub unaltered : new.session.line ≡ now.session.line → new.keeper ≡ now.keeper
  pub stays : Stays now.session new.session
  pub whole : Spoils fault now.session new.session

-- before the first line is read, all of `GoesOn` holds
pub session_begins : {R W K : Type 0} {m : Means R W K} {old : Moment R W K} {held : Held}
    → IsDatabase old.session.database → IsLineOf old.session.database old.session.line
    → IsCrew m.workers → (HasFailed old.reader → ⊥) → (HasFailed old.writer → ⊥)
    → old.session.begun ≡ false → held ≡ fresh → GoesOn m old old held
session_begins {R} {W} {K} {m} {old} database states crew reads writes closed none =
    subst (λ (h : Held). GoesOn m old old h) (sym none) (record {
      database = database;
      states = states;
      crew = crew;
      reads = reads;
      writes = writes;
      flushed = λ was. was;
      serving =
          serving_none (does m) (m.remaining (inner_of old.reader))
          (m.contents (inner_of old.writer)) old.session closed;
      unaltered = λ none. refl;
      kept = kept_none (m.keeps old.keeper) old.session.database old.session.line;
    })

-- with a wrong number of workers nothing is done, and the session ends with `Workers`
pub session_refused : {R W K : Type 0} (m : Means R W K) (old : Moment R W K)
    → IsDatabase old.session.database → IsLineOf old.session.database old.session.line
    → (IsCrew m.workers → ⊥) → (HasFailed old.reader → ⊥) → old.session.begun ≡ false
    → ComesTo m old old (Err Workers)
session_refused m old database states crew reads closed =
    let input = m.remaining (inner_of old.reader) in
    let written = m.contents (inner_of old.writer) in
    record {
      done = tt;
      kept = tt;
      unaltered = λ none. refl;
      begun = none_kept (does m) m.fails (m.keeps old.keeper) input written old.session;
      text = λ fails exact timeless. tt;
      front = λ fails exact timeless.
          none_kept (IsDoneFailing fails) m.fails (m.keeps old.keeper) input written old.session;
      play = plays_unread m.workers m.answers m.gives input written old.session database states;
      flushed = inr (λ was. was);
      crew = tt;
      workers = (λ is. crew, λ none. refl);
      unread = λ is. refl;
      unwritten = λ is. refl;
      same = λ is. refl;
      unkept = λ is. refl;
      sound = tt;
      read = λ is. absurd (workers_alone Read tt is);
      told = λ failed. absurd (reads failed);
      written = λ is. absurd (workers_alone Write tt is);
      io = λ is. absurd (workers_alone Io tt is);
      whole = refl;
      stays = (refl, closed);
      taken = ([], omega arith, Consumes-nil input);
    }

module _ {R W K : Type 0} {m : Means R W K} {old now : Moment R W K} {held : Held}
    (going : GoesOn m old now held) where
  -- what is kept after one more turn
  kept_since : (new : Moment R W K) → Kept m now new → Kept m old new
  kept_since new kept =
      kept_more (m.keeps old.keeper) (m.keeps now.keeper) (m.keeps new.keeper) old.session.database
      old.session.line now.session.line new.session.line going.kept
      (subst (λ (d : Database). IsKeptUp (m.keeps now.keeper) (m.keeps new.keeper) d
      now.session.line new.session.line) going.serving.stays.0 kept)

  -- where no lines alter the line of states, those before did not
  line_since : AltersNone (does m) (m.remaining (inner_of old.reader)) old.session.database
      old.session.line → now.session.line ≡ old.session.line
  line_since none =
      unaltered_so (does m) _ old.session none _ held _ _ now.session going.serving

module _ {R W K : Type 0} {m : Means R W K} {old now new : Moment R W K} {held after : Held} where
  -- after a turn that answered a line with its newline, the session goes on
  pub session_goes_on : GoesOn m old now held → Advances m now new held after true
      → GoesOn m old new after
  session_goes_on going turn =
      let so : IsServing (does m) (passed m old new) after old.session new.session =
      serving_on (does m) _ _ _ held after _ _ _ old.session now.session new.session going.serving
      turn.served turn.stays turn.whole turn.within in
      record {
        database = going.database;
        states = going.states;
        crew = going.crew;
        reads = turn.reads;
        writes = turn.writes;
        flushed = λ was. turn.flushed (going.flushed was);
        serving = so;
        unaltered = λ none.
            turn.unaltered (unaltered_so (does m) _ old.session none _ after _ _ new.session so
            ∙ sym (line_since going none)) ∙ going.unaltered none;
        kept = kept_since going new turn.kept;
      }

  -- after a turn that answered the last line or found none, the session ends without a fault
  pub session_ends : GoesOn m old now held → Advances m now new held after false
      → ComesTo m old new (Ok tt)
  session_ends going turn =
      let result : Result (Unit {0}) ServeFault = Ok tt in
      let all : ServesAll (does m) (passed m old new) old.session new.session =
      serves_all (does m) _ _ _ held after _ _ _ old.session now.session new.session going.serving
      turn.served in
      record {
        done = all;
        kept = kept_since going new turn.kept;
        unaltered = λ none.
            turn.unaltered (unaltered_all (does m) _ old.session none _ _ _ new.session all
            ∙ sym (line_since going none)) ∙ going.unaltered none;
        begun = tt;
        text = λ fails exact timeless.
            text_failing fails m.workers m.answers m.gives exact result (passed m old new)
            old.session new.session going.database going.states timeless all;
        front = λ fails exact timeless. tt;
        play =
            plays_input m.workers m.answers m.gives result m.fails (m.keeps old.keeper)
            (m.keeps new.keeper) (passed m old new) old.session new.session going.database
            going.states all tt;
        flushed = λ was. turn.flushed (going.flushed was);
        crew = going.crew;
        workers = (λ is. absurd (no_fault tt Workers is), λ none. absurd (none going.crew));
        unread = λ is. absurd (no_fault tt Workers is);
        unwritten = λ is. absurd (no_fault tt Workers is);
        same = λ is. absurd (no_fault tt Workers is);
        unkept = λ is. absurd (no_fault tt Workers is);
        sound = (turn.reads, turn.writes);
        read = λ is. absurd (no_fault tt Read is);
        told = λ failed. absurd (turn.reads failed);
        written = λ is. absurd (no_fault tt Write is);
        io = λ is. absurd (no_fault tt Io is);
        whole = turn.whole ∙ going.serving.whole;
        stays = (turn.stays.0 ∙ going.serving.stays.0, turn.stays.1);
        taken =
            takes_all (does m) _ _ _ held after _ _ old.session now.session going.serving
            (takes_next (does m) false (passed m now new) held after now.session new.session
            turn.served) turn.within;
      }

  -- after a turn with a fault, the session ends with that fault
  pub session_breaks : {fault : ServeFault} → GoesOn m old now held
      → Breaks m now new held after fault → ComesTo m old new (Err fault)
  session_breaks {fault} going turn =
      let result : Result (Unit {0}) ServeFault = Err fault in
      let device : ServeFault → Type 0 =
      IsServeFault (HasFailed new.reader) (HasFailed new.writer) (m.failed new.keeper) in
      let front : ServesFrontKept (does m) fault m.fails (m.keeps old.keeper) (m.keeps new.keeper)
      (passed m old new) old.session new.session =
      serves_front (does m) fault m.fails (m.keeps old.keeper) (m.keeps now.keeper)
      (m.keeps new.keeper) _ _ _ held after _ _ _ old.session now.session new.session going.serving
      going.kept turn.stops in
      record {
        done = tt;
        kept = tt;
        unaltered = λ none.
            turn.unaltered
            (unaltered_front (does m) _ old.session none fault _ _ _ new.session front.0
            ∙ sym (line_since going none)) ∙ going.unaltered none;
        begun = front;
        text = λ fails exact timeless. tt;
        front = λ fails exact timeless.
            front_text_failing fails m.workers m.answers m.gives exact result m.fails
            (m.keeps old.keeper) (m.keeps new.keeper) (passed m old new) old.session new.session
            going.database going.states timeless front;
        play =
            plays_input m.workers m.answers m.gives result m.fails (m.keeps old.keeper)
            (m.keeps new.keeper) (passed m old new) old.session new.session going.database
            going.states tt front;
        flushed = elim turn.flushed [
          | inl answer ↦ inl answer
          | inr was ↦ inr (λ first. was (going.flushed first))
        ];
        crew = tt;
        workers = (
          λ is. absurd (fault_is device result Workers turn.device is),
          λ none. absurd (none going.crew),
        );
        unread = λ is. absurd (fault_is device result Workers turn.device is);
        unwritten = λ is. absurd (fault_is device result Workers turn.device is);
        same = λ is. absurd (fault_is device result Workers turn.device is);
        unkept = λ is. absurd (fault_is device result Workers turn.device is);
        sound = tt;
        read = λ is. fault_is device result Read turn.device is;
        told = turn.told;
        written = λ is. fault_is device result Write turn.device is;
        io = λ is. fault_is device result Io turn.device is;
        whole = spoils_on fault old.session now.session new.session going.serving.whole turn.whole;
        stays = (turn.stays.0 ∙ going.serving.stays.0, turn.stays.1);
        taken =
            takes_all (does m) _ _ _ held after _ _ old.session now.session going.serving
            (takes_stop (does m) fault m.fails (m.keeps now.keeper) (m.keeps new.keeper)
            (passed m now new) held after now.session new.session turn.stops) turn.within;
      }

module _ {R W K : Type 0} {m : Means R W K} {now : Moment R W K} {held : Held} (left : Noted R)
    (after : Held) where
  -- a turn that finds no line left has no fault
  pub none_left : HandsNothing (m.remaining (inner_of now.reader)) (m.remaining (inner_of left))
      held after → after.taken ≤ 16777217 → (HasFailed left → ⊥) → (HasFailed now.writer → ⊥)
      → now.session.begun ≡ false → Advances m now (record now { reader = left }) held after false
  none_left nothing within reads writes closed = record {
    served = inr (nothing, refl, refl);
    within = within;
    reads = reads;
    writes = writes;
    flushed = λ was. was;
    kept = kept_none (m.keeps now.keeper) now.session.database now.session.line;
    unaltered = λ same. refl;
    stays = (refl, closed);
    whole = refl;
  }

  -- a turn whose line cannot be read has that fault
  pub line_unread : {fault : ServeFault}
      → StandsUnread fault (m.remaining (inner_of now.reader)) (m.remaining (inner_of left)) held
      after → after.taken ≤ 16777217 → IsServeFault (HasFailed left) ⊥ ⊥ fault
      → (HasFailed left → ◌≡◌ {A = Result (Unit {0}) ServeFault} (Err fault) (Err Read))
      → now.session.begun ≡ false → Breaks m now (record now { reader = left }) held after fault
  line_unread {fault} stands within device told closed = record {
    stops =
        unread_stops (does m) fault m.fails (m.keeps now.keeper)
        (m.remaining (inner_of now.reader)) (m.remaining (inner_of left)) held after
        (m.contents (inner_of now.writer)) now.session stands;
    within = within;
    device = device_as fault (λ failed. failed) (λ none. absurd none) (λ none. absurd none) device;
    told = told;
    flushed = inr (λ was. was);
    unaltered = λ same. refl;
    stays = (refl, closed);
    whole = unread_spoils fault _ _ now.session stands.1;
  }

module _ {R W K : Type 0} {m : Means R W K} {now : Moment R W K} {held : Held}
    (new : Moment R W K) (after : Held) (ends : Bool) (saying : Saying)
    (said : HandsSaying ends (m.remaining (inner_of now.reader)) (m.remaining (inner_of new.reader))
    held after saying) (within : after.taken ≤ 16777217) (reads : HasFailed new.reader → ⊥)
    (unaltered : new.session.line ≡ now.session.line → new.keeper ≡ now.keeper)
    (stays : Stays now.session new.session) where
  -- a turn whose line was met, kept and answered has no fault
  pub line_answered : (ending : Ending) (more : Bool) → ends ≡ more
      → ((text : List ℕ) × Ends (IsDoneAs m.workers m.answers m.gives) ending
      now.session.database now.session.line saying text new.session.line
      × Appends (m.contents (inner_of now.writer)) (m.contents (inner_of new.writer)) text)
      → Kept m now new → (HasFailed new.writer → ⊥) → IsFlushed new.writer
      → new.session.spoiled ≡ now.session.spoiled → Advances m now new held after more
  line_answered ending more is ended kept writes flushed whole = record {
    served =
        said_served m.workers m.answers m.gives ending ends more (passed m now new) held after
        saying now.session new.session is said ended;
    within = within;
    reads = reads;
    writes = writes;
    flushed = λ was. flushed;
    kept = kept;
    unaltered = unaltered;
    stays = stays;
    whole = whole;
  }

  -- a turn whose line came to a fault has that fault
  pub line_broken : {fault : ServeFault}
      → StopsOnce (does m) fault m.fails (m.keeps now.keeper) (m.keeps new.keeper) saying
      (m.contents (inner_of now.writer)) (m.contents (inner_of new.writer)) now.session new.session
      → IsServeFault ⊥ (HasFailed new.writer) (m.failed new.keeper) fault
      → IsOfAnswer fault ⊎ (IsFlushed now.writer → IsFlushed new.writer)
      → Spoils fault now.session new.session → Breaks m now new held after fault
  line_broken {fault} stopped device flushed whole = record {
    stops =
        said_stops (does m) fault m.fails (m.keeps now.keeper) (m.keeps new.keeper)
        (HasFailed new.writer) (m.failed new.keeper) ends (passed m now new) held after saying
        now.session new.session said device stopped;
    within = within;
    device =
        device_as fault (λ none. absurd none) (λ failed. failed) (λ failed. failed) device;
    told = λ failed. absurd (reads failed);
    flushed = flushed;
    unaltered = unaltered;
    stays = stays;
    whole = whole;
  }
