-- An update and a restart keep their lines in the history of their store, however they end.
use Rattle.std.proofs.Common.{◌≡◌, ◌≢◌, ◌∙◌, ◌⊎◌, ℕ, Bool, false, List, [], Option, None, Some}
use Rattle.std.proofs.Common.{inl, inr, refl, subst, sym, ap, map}
use Rattle.std.specs.Borrow.{Bor}
use Rattle.std.specs.String.{string_bytes}
use Rattle.rc_model.specs.declared.Mode.TheVariants.{DownAll, Up}
use Rattle.rc_model.specs.Database.{Database, IsDatabase}
use Rattle.rc_model.specs.Line.{IsBound, Line}
use Rattle.rc_model.specs.Session.{Change, IsLineOf}
use Rattle.rc_db.specs.Database.{IsWritable}
use Rattle.rc_update.specs.Conversions.{Conversion, conversions_of}
use Rattle.rc_dbtext.specs.Spelling.{spelling as database_text}
use Rattle.rc_livetext.specs.Spelling.{Spells, spelling}
use Rattle.rc_historytext.specs.Present.{IsPresent}
use Rattle.rc_historytext.specs.Updates.{CarriesOver, KeepsTwice, StandsOn}
use Rattle.rc_historytext.specs.Updating.{IsBegun, IsEntered}
use Rattle.rc_historytext.proofs.UpdatedBegins.{begun_stands}
use Rattle.rc_session.proofs.Beginning.{first_is_line}
use Rattle.rc_serve.specs.declared.ending.Ending.{Ending}
use Rattle.rc_serve.specs.declared.ending.Ending.TheVariants.{Done, Refused, Hindered}
use Rattle.rc_args.specs.SessionAsked.{SessionAsk}
use Rattle.rc_args.specs.UpdateAsked.{UpdateAsk}
use Rattle.rc_cli.specs.Filing.{BeginsBy}
use Rattle.rc_cli.specs.Launching.{LeadsLaunched}
use Rattle.rc_cli.specs.Putting.{IsRunAs, LeadsBoth, LeadsLine, LeadsSteps, PutsBy}
use Rattle.rc_cli.specs.Restarting.{LeadsBack}
use Rattle.rc_cli.specs.Serving.{session_on}
use Rattle.rc_cli.specs.Session.{asked_with}
use Rattle.rc_cli.specs.Steps.{lowering, raising, step_ask}
use Rattle.rc_cli.specs.UpdateEnds.{LeadsOn as LeadsUpdateOn}
use Rattle.rc_cli.specs.Updating.{IsUpdate, Parts, carried_line, session_with}
use Rattle.rc_cli.specs.declared.sessions.keeping.LiveFile.{LiveFile}
use Rattle.rc_cli.specs.declared.sessions.keeping.LiveFile.TheVariants.{Missing, Text, Unread}
use Rattle.rc_cli.specs.declared.sessions.service.Service.{Service}
use Rattle.rc_cli.specs.declared.sessions.service.Service.TheVariants.{Restart}
use Rattle.rc_launch.specs.Anew.{IsBegunBy}
use Rattle.rc_launch.specs.Frames.{IsToBegin}
use Rattle.rc_launch.specs.HeldHistory.{LeadsOn, history_held, history_in}
use Rattle.rc_launch.specs.Putting.{Announces, Puts, announced, manner_of, stepping}
use Rattle.rc_launch.specs.TwoSteps.{HoldsFor, IsInForm, Restarts, RestartsBy, StopsLowering}
use Rattle.rc_launch.specs.declared.live_store.LiveStore.{LiveStore}
use Rattle.rc_launch.specs.declared.live_store.Next.{Next}
use Rattle.rc_launch.proofs.Arriving.{change_arrives}
use Rattle.rc_launch.proofs.PuttingLemmas.{begins_twice, keeps_left, keeps_twice, puts_entered}
use Rattle.rc_launch.proofs.PuttingLemmas.{puts_twice}
use Rattle.rc_launch.proofs.TravelLemmas.{named_file}

-- what the steps of an update leave of a history, if this holds
abbrev pub StepsLeft : (Form : Type 0) → Ending → List Conversion → Database
    → (bytes done : List ℕ) → Type 0
StepsLeft Form Done list d bytes done = Form → CarriesOver list d bytes done
StepsLeft Form Refused list d bytes done = ⊥
StepsLeft Form Hindered list d bytes done =
    Form → StopsLowering list d bytes done ⊎ CarriesOver list d bytes done

-- the steps of an update from where its session begins
module _ (ask : UpdateAsk) (next : Next) (from to : Database) (was is : LiveStore)
    (from_is : IsDatabase from) (to_is : IsDatabase to) (to_writes : IsWritable to)
    (named : ask.session.live ≢ None) (database : next.database.now ≡ database_text to)
    (list : conversions_of next.list.now ≡ ask.conversions) (start : Line)
    (is_line : IsLineOf from start) (parts : Parts)
    (update : IsUpdate from to ask.conversions start parts) where
  abbrev begin : Line
  begin = carried_line to parts.kept start.bound

  -- the first one is put, and leads on from this history
  abbrev Half : (bytes : List ℕ) (middle : Line) (left : LiveStore) → Type 0
  Half bytes middle left = (half : List ℕ) × KeepsTwice from start middle bytes half
      × HoldsFor (Some next) left half

  abbrev Both : Ending → Type 0
  Both ending = LeadsBoth Puts Announces ask.session.live ending (lowering false parts.lower)
      (raising false parts.raise) (session_on from start)
      (session_with to parts (session_on from start)) was is

  abbrev Steps : Ending → Type 0
  Steps ending = LeadsSteps Puts Announces ask.session.live ending (lowering false parts.lower)
      (raising false parts.raise) (session_on from start)
      (session_with to parts (session_on from start)) was is

  abbrev Stops : (middle : Line) → Type 0
  Stops middle = LeadsLine Puts ask.session.live Hindered from (lowering false parts.lower) start
      middle was is

  -- the session stands in this history, if it has this form
  module _ (bytes : List ℕ) (Form : Type 0) (stands : Form → StandsOn bytes from start) where
    -- the first one is not all done, and is kept
    half_stops : (middle : Line) → Stops middle → Half bytes middle is
        → (done : List ℕ) × (history_held is ≡ Some done)
        × (Form → StopsLowering ask.conversions to bytes done)
    half_stops middle leads half = (
      half.0,
      half.2.0,
      (λ form. record {
        base = from;
        line = start;
        middle = middle;
        names = parts.lower;
        stands = stands form;
        words = update.lower;
        hindered = leads.0;
        kept = half.1;
      }),
    )

    -- the second one has run behind the border, however it ended
    both_carry : (ending : Ending) (both : Both ending)
        → IsRunAs ending to begin (Change (step_ask Up parts.raise) []) both.after
        → Half bytes both.middle both.left → (done : List ℕ) × (history_held is ≡ Some done)
        × (Form → CarriesOver ask.conversions to bytes done)
    both_carry ending both run half =
        let twice = puts_twice ask.session.live to begin both.after both.entered is named
        both.second.1 in
        let manner : manner_of both.entered ≡ announced (stepping (Some next)) =
        both.enters.1 ∙ ap announced half.2.1 in
        let held : history_held both.entered ≡ Some half.0 =
        ap history_in both.enters.0 ∙ half.2.0 in
        let entered = puts_entered next both.entered twice.0 (spelling to begin) half.0 twice.1 held
        manner in
        let done = keeps_left None to begin both.after twice.0 is entered.0 twice.2 entered.2 in
        let is_entered : IsEntered half.0 (database_text to) (spelling to begin) ask.conversions
        entered.0 =
        subst (λ (l : List Conversion). IsEntered half.0 (database_text to) (spelling to begin) l
        entered.0) list
        (subst (λ (b : List ℕ). IsEntered half.0 b (spelling to begin)
        (conversions_of next.list.now) entered.0) database entered.1) in
        let lowered = both.first.0 in (
          done.0,
          done.2.0,
          (λ form. record {
            base = from;
            line = start;
            start = begin;
            half = half.0;
            entered = entered.0;
            lowers = record {
              new = both.middle;
              ask = step_ask DownAll parts.lower;
              events = lowered.0;
              report = lowered.1;
              stands = stands form;
              mode = refl;
              named = refl;
              words = update.lower;
              does = lowered.2;
              arrives = change_arrives from start (step_ask DownAll parts.lower) lowered.0 lowered.1
                  both.middle from_is is_line lowered.2 lowered.3;
              keeps = half.1;
            };
            enters = record {
              is_database = to_is;
              writable = to_writes;
              before = refl;
              after = refl;
              bound = refl;
              table = refl;
              length = update.bound;
              live = update.kept;
              enters = is_entered;
            };
            raises = record {
              new = both.after;
              ask = step_ask Up parts.raise;
              events = run.0;
              report = run.1;
              does = run.2;
              keeps = done.1;
            };
          }),
        )

  -- a history is held, in which the session stands if it has the form of today
  module _ (bytes : List ℕ) (stands : IsInForm bytes → StandsOn bytes from start)
      (holds : HoldsFor (Some next) was bytes) where
    half_on : (middle : Line) (left : LiveStore) → PutsBy Puts ask.session.live from start middle
        was left → Half bytes middle left
    half_on middle left puts = keeps_twice (Some next) from start middle was left bytes
        (puts_twice ask.session.live from start middle was left named puts) holds

    both_on : (ending : Ending) (both : Both ending)
        → IsRunAs ending to begin (Change (step_ask Up parts.raise) []) both.after
        → (done : List ℕ) × (history_held is ≡ Some done)
        × (IsInForm bytes → CarriesOver ask.conversions to bytes done)
    both_on ending both run = both_carry bytes (IsInForm bytes) stands ending both run
        (half_on both.middle both.left both.first.1)

    steps_carry : (ending : Ending) → Steps ending
        → (done : List ℕ) × (history_held is ≡ Some done)
        × StepsLeft (IsInForm bytes) ending ask.conversions to bytes done
    steps_carry Done both = both_on Done both both.second.0
    steps_carry Refused leads = absurd leads
    steps_carry Hindered (inl half) =
        let there = half_stops bytes (IsInForm bytes) stands half.0 half.1
        (half_on half.0 is half.1.1) in
        (there.0, there.1, λ form. inl (there.2 form))
    steps_carry Hindered (inr both) =
        let there = both_on Hindered both both.second.0 in
        (there.0, there.1, λ form. inr (there.2 form))

  -- a history begins with the session
  module _ (base : List ℕ) (same : base ≡ database_text from) (from_writes : IsWritable from)
      (begins : IsToBegin base was.frame) (manner : manner_of was ≡ stepping (Some next)) where
    abbrev First : (Left : (first done : List ℕ) → Type 0) → Type 0
    First Left = (first : List ℕ) × IsBegun base (spelling from start) first
        × ((done : List ℕ) × (history_held is ≡ Some done) × Left first done)

    stands_first : (first : List ℕ) → IsBegun base (spelling from start) first → Unit {0}
        → StandsOn first from start
    stands_first first begun always =
        begun_stands from start first from_is from_writes is_line
        (subst (λ (b : List ℕ). IsBegun b (spelling from start) first) same begun)

    half_first : (middle : Line) (left : LiveStore) → PutsBy Puts ask.session.live from start middle
        was left → (first : List ℕ) × IsBegun base (spelling from start) first
        × Half first middle left
    half_first middle left puts = begins_twice (Some next) from start middle was left base
        (puts_twice ask.session.live from start middle was left named puts) begins manner

    both_first : (ending : Ending) (both : Both ending)
        → IsRunAs ending to begin (Change (step_ask Up parts.raise) []) both.after
        → First (λ first done. Unit {0} → CarriesOver ask.conversions to first done)
    both_first ending both run =
        let half = half_first both.middle both.left both.first.1 in (
          half.0,
          half.1,
          both_carry half.0 (Unit {0}) (stands_first half.0 half.1) ending both run half.2,
        )

    steps_begin : (ending : Ending) → Steps ending
        → First (λ first done. StepsLeft (Unit {0}) ending ask.conversions to first done)
    steps_begin Done both = both_first Done both both.second.0
    steps_begin Refused leads = absurd leads
    steps_begin Hindered (inl stops) =
        let half = half_first stops.0 is stops.1.1 in
        let there = half_stops half.0 (Unit {0}) (stands_first half.0 half.1) stops.0 stops.1
        half.2 in
        (half.0, half.1, (there.0, there.1, λ always. inl (there.2 always)))
    steps_begin Hindered (inr both) =
        let there = both_first Hindered both both.second.0 in
        (there.0, there.1, (there.2.0, there.2.1, λ always. inr (there.2.2 always)))

-- a line with which a session begins is one of its database
begins_line : (d : Database) (bound : ℕ) (file : LiveFile) (start : Line) → IsBound bound
    → IsDatabase d → BeginsBy d bound file start → IsLineOf d start
begins_line d bound Missing start fits is begins =
    subst (λ (line : Line). IsLineOf d line) (sym begins) (first_is_line d bound fits is)
begins_line d bound (Text bytes) start fits is begins = begins.0
begins_line d bound (Unread fault) start fits is begins = absurd begins

-- what leads an update that is not only shown
takes_steps : (ask : UpdateAsk) (ending : Ending) (from to : Database) (start : Line)
    (parts : Parts) (was is : LiveStore) → ask.dry ≡ false
    → LeadsSteps Puts Announces ask.session.live ending (lowering ask.dry parts.lower)
    (raising ask.dry parts.raise) (session_on from start)
    (session_with to parts (session_on from start)) was is
    → LeadsSteps Puts Announces ask.session.live ending (lowering false parts.lower)
    (raising false parts.raise) (session_on from start)
    (session_with to parts (session_on from start)) was is
takes_steps ask ending from to start parts was is dry leads =
    subst (λ (d : Bool). LeadsSteps Puts Announces ask.session.live ending (lowering d parts.lower)
    (raising d parts.raise) (session_on from start)
    (session_with to parts (session_on from start)) was is) dry leads

-- an update leaves so of a history that its store held, before its end is made a stop
pub carries_over : (ask : UpdateAsk) (ending : Ending) (next : Next) (from to : Database)
    (session : Bor (List ℕ)) (bytes : List ℕ) (was is : LiveStore)
    → IsDatabase from → IsWritable from → IsDatabase to → IsWritable to
    → ask.dry ≡ false → ask.session.live ≢ None
    → next.database.now ≡ database_text to → conversions_of next.list.now ≡ ask.conversions
    → IsPresent bytes (database_text from) session.now → HoldsFor (Some next) was bytes
    → LeadsUpdateOn Puts Announces ask (Text session) ending from to was is
    → (done : List ℕ) × (history_held is ≡ Some done)
    × StepsLeft (IsInForm bytes) ending ask.conversions to bytes done
carries_over ask ending next from to session bytes was is from_is from_writes to_is to_writes dry
    named database list present holds leads =
    let start = leads.0 in
    let begins : IsLineOf from start × Spells from session.now start =
    subst (λ (f : LiveFile). BeginsBy from ask.session.bound f start)
    (named_file ask.session.live (Text session) named) leads.1 in
    let stands : IsInForm bytes → StandsOn bytes from start =
    λ form. record {
      there = subst (λ (s : List ℕ). IsPresent bytes (database_text from) s)
          (form from start session.now present begins.1) present;
      is_database = from_is;
      writable = from_writes;
      is_line = begins.0;
    } in
    let parts = leads.2.0 in
    steps_carry ask next from to was is from_is to_is to_writes named database list start begins.0
    parts leads.2.1 bytes stands holds ending
    (takes_steps ask ending from to start parts was is dry leads.2.2)

-- and so of a history that it begins
pub carries_first : (ask : UpdateAsk) (ending : Ending) (next : Next) (from to : Database)
    (file : LiveFile) (base : List ℕ) (was is : LiveStore) → IsBound ask.session.bound
    → IsDatabase from → IsWritable from → IsDatabase to → IsWritable to
    → ask.dry ≡ false → ask.session.live ≢ None
    → next.database.now ≡ database_text to → conversions_of next.list.now ≡ ask.conversions
    → base ≡ database_text from → IsToBegin base was.frame
    → manner_of was ≡ stepping (Some next)
    → LeadsUpdateOn Puts Announces ask file ending from to was is
    → (first : List ℕ) × IsBegunBy base ask.session.bound file first
    × ((done : List ℕ) × (history_held is ≡ Some done)
    × StepsLeft (Unit {0}) ending ask.conversions to first done)
carries_first ask ending next from to file base was is fits from_is from_writes to_is to_writes dry
    named database list same to_begin manner leads =
    let start = leads.0 in
    let begins : BeginsBy from ask.session.bound file start =
    subst (λ (f : LiveFile). BeginsBy from ask.session.bound f start)
    (named_file ask.session.live file named) leads.1 in
    let is_line = begins_line from ask.session.bound file start fits from_is begins in
    let parts = leads.2.0 in
    let there = steps_begin ask next from to was is from_is to_is to_writes named database list
    start is_line parts leads.2.1 base same from_writes to_begin manner ending
    (takes_steps ask ending from to start parts was is dry leads.2.2) in
    (there.0, (from, start, same, from_is, from_writes, is_line, begins, there.1), there.2)

-- the service is a restart of these names
abbrev pub IsRestartOf : (names : List (List ℕ)) → Service → Type 0
IsRestartOf names (Restart given) = map string_bytes given.now ≡ names
IsRestartOf names other = ⊥

-- both steps of a restart, or the first one
lowers_back : (names : List (List ℕ)) (ask : SessionAsk) (ending : Ending) (d : Database)
    (start : Line) (session : Bor (List ℕ)) (bytes : List ℕ) (was is : LiveStore)
    → ask.live ≢ None → IsDatabase d → IsWritable d → IsLineOf d start
    → Spells d session.now start → IsPresent bytes (database_text d) session.now
    → HoldsFor None was bytes
    → LeadsBack Puts ask.live ending (lowering false names) d start was is
    → (done : List ℕ) × (history_held is ≡ Some done) × Restarts ending names bytes done
lowers_back names ask ending d start session bytes was is named is_db writes of spells there holds
    back =
    let half = keeps_twice None d start back.middle was back.left bytes
    (puts_twice ask.live d start back.middle was back.left named back.first.1) holds in
    elim back.back [
      | inl still ↦ (
        half.0,
        subst (λ (s : LiveStore). history_held s ≡ Some half.0) (sym still.2) half.2.0,
        record {
          base = d;
          line = start;
          session = session.now;
          first = back.lowered;
          middle = back.middle;
          half = half.0;
          there = there;
          is_database = is_db;
          writable = writes;
          is_line = of;
          begins = spells;
          lowered = back.first.0;
          kept = half.1;
          back = inl (still.0, still.1, refl);
        },
      )
      | inr moved ↦
          let both = keeps_twice None d back.middle moved.4 back.left is half.0
          (puts_twice ask.live d back.middle moved.4 back.left is named moved.5.1) half.2 in (
            both.0,
            both.2.0,
            record {
              base = d;
              line = start;
              session = session.now;
              first = back.lowered;
              middle = back.middle;
              half = half.0;
              there = there;
              is_database = is_db;
              writable = writes;
              is_line = of;
              begins = spells;
              lowered = back.first.0;
              kept = half.1;
              back = inr (moved.0, moved.1, moved.2, moved.3, moved.4, moved.5.0, both.1);
            },
          )
    ]

pub restarts : (service : Service) (names : List (List ℕ)) (ask : SessionAsk) (ending : Ending)
    (database : List ℕ) (session : Bor (List ℕ)) (bytes : List ℕ)
    (live : LiveFile) (remaining after : Option (List ℕ)) (was is : LiveStore)
    → IsRestartOf names service → ask.live ≢ None → live ≡ Text session
    → IsPresent bytes database session.now → HoldsFor None was bytes
    → LeadsLaunched Puts service (asked_with ask (Some database) live) ending remaining after was is
    → LeadsOn bytes is (RestartsBy ending names)
restarts service names ask ending database session bytes live remaining after was is same named
    text present holds (inl refused) = (
      bytes,
      subst (λ (s : LiveStore). history_held s ≡ Some bytes) (sym refused.1) holds.0,
      inl (refused.0, refl),
    )
restarts (Restart given) names ask ending database session bytes live remaining after was is same
    named text present holds (inr leads) =
    let d = leads.0 in
    let opens = leads.3 in
    let start = leads.4 in
    let begins : IsLineOf d start × Spells d session.now start =
    subst (λ (f : LiveFile). BeginsBy d ask.bound f start)
    (named_file ask.live live named ∙ text) leads.5 in
    let there : IsPresent bytes (database_text d) session.now =
    subst (λ (b : List ℕ). IsPresent bytes b session.now) opens.0.2 present in
    let back = lowers_back names ask ending d start session bytes was is named opens.0.0 opens.0.1
    begins.0 begins.1 there holds
    (subst (λ (n : List (List ℕ)). LeadsBack Puts ask.live ending (lowering false n) d start was is)
    same leads.6) in
    (back.0, back.1, inr back.2)
restarts other names ask ending database session bytes live remaining after was is same named text
    present holds (inr leads) = absurd same

-- one that is done was not refused
pub restarts_done : (names : List (List ℕ)) (bytes : List ℕ) (is : LiveStore)
    → LeadsOn bytes is (RestartsBy Done names) → LeadsOn bytes is (Restarts Done names)
restarts_done names bytes is (done, held, inl refused) =
    let bad : Done ≡ Refused = refused.0 in cc
restarts_done names bytes is (done, held, inr restarts) = (done, held, restarts)
