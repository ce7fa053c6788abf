-- Files that hold the log of a command.
use Rattle.std.proofs.Common.{◌≡◌, ◌≢◌, ◌∙◌, ◌⊎◌, inl, inr, ℕ, List, [], ◌∷◌, ◌++◌, Option, Some}
use Rattle.std.proofs.Common.{None, Ok, Err, length, arith, refl, ap, sym, subst, append_assoc}
use Rattle.std.specs.List.{concat}
use Rattle.std.proofs.lemmas.List.{append-nil, append_cancel_left}
use Rattle.std.proofs.lemmas.List.Elements.{recursion_from_All}
use Rattle.rc_model.specs.declared.Event.{Event}
use Rattle.rc_model.specs.Database.{Database}
use Rattle.rc_model.specs.Headline.{HasRun}
use Rattle.rc_model.specs.Line.{Line}
use Rattle.rc_model.specs.Session.{Command, Change, Undo, Redo, Add, Delete, IsLineOf, Reported}
use Rattle.rc_model.specs.Session.{events_of}
use Rattle.rc_model.proofs.ByteOrder.{same_or_other}
use Rattle.rc_session.specs.Commands.{with_events}
use Rattle.rc_session.specs.Holding.{Holding}
use Rattle.rc_livetext.specs.LiveFaults.{IsLiveFault}
use Rattle.rc_livetext.specs.Spelling.{Spells, spelling}
use Rattle.rc_script.specs.RunLines.{least_limited}
use Rattle.rc_script.specs.Script.{IsScript}
use Rattle.rc_script.specs.declared.script.ScriptFault.TheVariants as script_fault
use Rattle.rc_recovery.specs.Recovering.{Enters, IsCutShort}
use Rattle.rc_recovery.specs.RunLog.{HasNothing, HasScript, IsEntered, IsEnteredAs, IsRefusedIn}
use Rattle.rc_recovery.specs.RunLog.{IsUnfit, IsUnfitFor, LogsAll, session_on}
use Rattle.rc_recovery.specs.Files.{Files}
use Rattle.rc_recovery.specs.Logging.{BeginsRun, HoldEvents, IsLogged, Logged}
use Rattle.rc_recovery.specs.Recoveries.{AreCutRecoveries, EndsIn, IsAtRest, IsCutRecovery}
use Rattle.rc_recovery.specs.Recoveries.{IsLineAfter, Makes, text_after}
use Rattle.rc_recovery.proofs.Bytes.{one_longer, one_whole}
use Rattle.rc_recovery.proofs.Cut.{begins_cut, front_begins}
use Rattle.rc_recovery.proofs.Entered.{entered_line, entered_on, is_entered, never_refused, one_end}
use Rattle.rc_recovery.proofs.Known.{Laws}
use Rattle.rc_recovery.proofs.Reading.{events_are, least_has_run, says_events, says_whole}
use Rattle.rc_recovery.proofs.Resting.{bare_rests, empty_rests, files, still}

-- a command that begins a run has one
pub has_run : (d : Database) (line : Line) (command : Command) (events : List Event)
    → BeginsRun d line command events → HasRun command
has_run d line (Change ask old) events begins = tt
has_run d line (Undo limit old) events begins = tt
has_run d line (Redo limit old) events begins = tt
has_run d line (Add name contents force) events begins = begins.3
has_run d line (Delete words force) events begins = begins.3

with_has_run : (c : Command) (events : List Event) → HasRun c → HasRun (with_events c events)
with_has_run (Change ask old) events run = tt
with_has_run (Undo limit old) events run = tt
with_has_run (Redo limit old) events run = tt
with_has_run (Add name contents force) events run = run
with_has_run (Delete words force) events run = run

abbrev first_of : Command → List Command → Command
first_of c [] = c
first_of c (first ∷ rest) = first

same_command : (a b : Command) → a ∷ [] ≡ b ∷ [] → a ≡ b
same_command a b same = ap (first_of a) same

module _ (laws : Laws) (d : Database) (line : Line) (l : Logged) (logged : IsLogged d line l) where
  -- the texts of two lines are one, or neither begins with the other
  pub apart : (end : Line) (x y : List ℕ) → IsLineOf d end
      → spelling d end ++ x ≡ spelling d line ++ y → spelling d end ≡ spelling d line
  apart end x y of same = elim (one_longer (spelling d end) (spelling d line) x y same) [
    | inl (r, is) ↦
        let none : r ≡ [] = laws.apart d d end line r logged.database logged.database of
        logged.line_of is in
        sym (append-nil (spelling d end)) ∙ ap (λ (z : List ℕ). spelling d end ++ z) (sym none) ∙ is
    | inr (r, is) ↦
        let none : r ≡ [] = laws.apart d d line end r logged.database logged.database
        logged.line_of of is in
        sym is ∙ ap (λ (z : List ℕ). spelling d line ++ z) none ∙ append-nil (spelling d line)
  ]

  run : HasRun l.command
  run = has_run d line l.command l.events logged.begins

  -- the command with the events of the log
  abbrev entered_command : List Event → Command
  entered_command events = with_events (least_limited l.command) events

  module _ (events : List Event) (g : Files) (held : HoldEvents d line l events g) where
    same_file : g.file ≡ spelling d line
    same_file = ap (λ (x : Files). x.file) held.files

    log_is : g.log ≡ spelling d line ++ ((l.step ++ concat held.lines) ++ held.part)
    log_is = ap (λ (x : Files). x.log) held.files
        ∙ append_assoc (spelling d line) (l.step ++ concat held.lines) held.part

    says : IsScript d.names (l.step ++ concat held.lines) (entered_command events ∷ [])
    says = says_events d.names l.command l.marked l.step events held.lines run logged.step_is
        held.lines_are

    -- the script of the log is these lines
    script_is : (script : List ℕ) → HasScript g.file g.log script
        → script ≡ l.step ++ concat held.lines
    script_is script (rest, at, are) =
        let lines : List ℕ = l.step ++ concat held.lines in
        let behind : lines ++ held.part ≡ rest =
        append_cancel_left (spelling d line) (lines ++ held.part) rest
        (sym log_is ∙ at ∙ ap (λ (t : List ℕ). t ++ rest) same_file)
        in
        one_whole script are.part lines held.part (sym are.bytes_are ∙ sym behind) are.ends
        (says_whole d.names l.command l.marked l.step events held.lines logged.step_is
        held.lines_are)
        (recursion_from_All (λ byte. byte ≢ 10) are.part are.torn)
        (recursion_from_All (λ byte. byte ≢ 10) held.part held.torn)

    -- so it says the one command
    commands_are : (commands : List Command) → LogsAll d g.file g.log commands
        → commands ≡ entered_command events ∷ []
    commands_are commands (script, has, is) =
        let P : List ℕ → Type 0 = λ s. IsScript d.names s commands in
        laws.scripts.one d.names (l.step ++ concat held.lines) commands
        (entered_command events ∷ [])
        (subst P (script_is script has) is) says

    says_in : (script : List ℕ) → HasScript g.file g.log script
        → IsScript d.names script (entered_command events ∷ [])
    says_in script has =
        let P : List ℕ → Type 0 = λ s. IsScript d.names s (entered_command events ∷ []) in
        subst P (sym (script_is script has)) says

    the_command : (commands : List Command) (command : Command) → LogsAll d g.file g.log commands
        → commands ≡ command ∷ [] → command ≡ entered_command events
    the_command commands command logs is =
        same_command command (entered_command events) (sym is ∙ commands_are commands logs)

    events_of_it : (command : Command) → command ≡ entered_command events
        → events_of command ≡ events
    events_of_it command is = ap events_of is ∙ events_are l.command events run

    begins : BeginsRun d line l.command events
    begins = front_begins d line l.command l.events events held.left held.front logged.begins

    has : HasRun (entered_command events)
    has = with_has_run (least_limited l.command) events (least_has_run l.command run)

    the_line : (other : Line) → IsLineOf d other → Spells d g.file other → other ≡ line
    the_line other of spells =
        laws.one_line d (spelling d line) other line logged.database of logged.line_of
        (subst (λ (t : List ℕ). Spells d t other) same_file spells) (inl refl)

    -- a line in which the command is entered
    abbrev IsEnd : Line → Type 0
    IsEnd end = (report : Reported)
        × Enters (session_on d line) (entered_command events) (Ok report) (session_on d end)

    end_of : (command : Command) (entered told : List ℕ) → command ≡ entered_command events
        → IsEnteredAs d g.file command entered told
        → (end : Line) × IsLineOf d end × IsEnd end × (entered ≡ spelling d end)
    end_of command entered told is one =
        let same : one.line ≡ line = the_line one.line one.line_of one.spells in
        let enters : Enters (session_on d line) (entered_command events) (Ok one.report) one.new =
        subst (λ (c : Command). Enters (session_on d line) c (Ok one.report) one.new) is
        (subst (λ (x : Line). Enters (session_on d x) command (Ok one.report) one.new) same
        (is_entered (session_on d one.line) command one.report one.new one.enters))
        in
        let on : one.new ≡ session_on d one.new.line =
        entered_on d line (entered_command events) one.report one.new enters
        in
        let done = subst (Enters (session_on d line) (entered_command events)
        (Ok one.report)) on enters
        in (
          one.new.line,
          entered_line laws d line
              (entered_command events) one.report one.new.line logged.line_of done,
          (one.report, done),
          one.entered_is ∙ ap (λ (h : Holding). spelling h.database h.line) on,
        )

    -- what is entered of the files: events were logged, and it is their command
    pub entered_of : (entered told : List ℕ) → IsEntered d g.file g.log entered told
        → (events ≢ []) × ((end : Line) × IsLineOf d end × IsEnd end × (entered ≡ spelling d end))
    entered_of entered told (commands, logs, (command, is, some, one)) =
        let same : command ≡ entered_command events = the_command commands command logs is in
        (λ none. some (events_of_it command same ∙ none), end_of command entered told same one)

    -- the session does not refuse it
    fits_line : (command : Command) → command ≡ entered_command events → events_of command ≢ []
        → IsRefusedIn d g.file command → ⊥
    fits_line command is some (other, of, spells, (refused, no_want, enters)) =
        let same : other ≡ line = the_line other of spells in
        let R : Line → Command → Type 0 =
        λ x c. Enters (session_on d x) c (Err refused) (session_on d x)
        in
        let here : R line (entered_command events) =
        subst (R line) is (subst (λ (x : Line). R x command) same enters)
        in
        let (start, plan, deadline, task, is_run, fresh) = begins in
        never_refused laws d line l.command start plan deadline events refused task has
        (cut_short_at events begins (λ none. some (events_of_it command is ∙ none))) no_want here
      where
        cut_short_at : (es : List Event) → BeginsRun d line l.command es → es ≢ []
            → IsCutShort d line (entered_command es)
        cut_short_at [] begun some = absurd (some refl)
        cut_short_at (first ∷ more) begun some = begins_cut d line l.command first more begun

    fits_command : (command : Command) → command ≡ entered_command events
        → events_of command ≢ [] → IsUnfitFor d g.file command → ⊥
    fits_command command is some (inl (fault, no_want, wrong)) =
        no_want (laws.readable d line fault logged.database logged.line_of
        (subst (λ (t : List ℕ). IsLiveFault d t fault) same_file wrong))
    fits_command command is some (inr refused) = fits_line command is some refused

    -- and nothing is wrong with the log
    pub fits : IsUnfit d g.file g.log → ⊥
    fits (inl (script, number, has_script, wrong)) =
        let fault : script_fault.BadLine number ≡ script_fault.Memory =
        laws.scripts.right d.names script (entered_command events ∷ [])
        (script_fault.BadLine number) (says_in script has_script) wrong
        in cc
    fits (inr (commands, logs, inl many)) =
        let one : length commands ≡ 1 = ap length (commands_are commands logs) in
        absurd (omega (arith, many, one))
    fits (inr (commands, logs, inr (command, is, some, unfit))) =
        fits_command command (the_command commands command logs is) some unfit

    -- there is something to enter, where events were logged
    pub something : events ≢ [] → HasNothing d g.file g.log → ⊥
    something some (inl other) =
        other ((l.step ++ concat held.lines) ++ held.part)
        (log_is ∙ ap (λ (t : List ℕ). t ++ ((l.step ++ concat held.lines) ++ held.part))
        (sym same_file))
    something some (inr (commands, logs, inl none)) =
        let one : commands ≡ entered_command events ∷ [] = commands_are commands logs in cc
    something some (inr (commands, logs, inr (command, is, none))) =
        some (sym (events_of_it command (the_command commands command logs is)) ∙ none)

  -- where no event was logged, nothing is entered
  pub none_rests : (g : Files) → HoldEvents d line l [] g → IsAtRest d g
  none_rests g held = record {
    nothing = λ entered told is. (entered_of [] g held entered told is).0 refl;
    fits = λ unfit. fits [] g held unfit;
  }

  -- a log of the line is none of another text
  pub other_rests : (end : Line) (log behind : List ℕ) → IsLineOf d end
      → spelling d end ≢ spelling d line → log ≡ spelling d line ++ behind
      → IsAtRest d (files (spelling d end) log)
  other_rests end log behind of differ is =
      bare_rests laws.scripts d (spelling d end) log
      (λ rest at. absurd (differ (apart end rest behind of (sym at ∙ is))))

  -- what recoveries leave of files that hold the log of events: the files themselves, or files in
  -- which the command is entered
  abbrev IsKept : Event → List Event → Files → Files → Type 0
  IsKept first more g h = (h ≡ g)
      ⊎ ((end : Line) × IsLineOf d end × IsLineAfter d line l.command (first ∷ more) end
      × (h.file ≡ spelling d end) × IsAtRest d h)

  module _ (first : Event) (more : List Event) (g : Files)
      (held : HoldEvents d line l (first ∷ more) g) where
    some : first ∷ more ≢ []
    some is = cc

    replaced : (h : Files) (end : Line) (text : List ℕ) → IsLineOf d end
        → IsLineAfter d line l.command (first ∷ more) end → text ≡ spelling d end
        → h ≡ files text g.log → IsKept first more g h
    replaced h end text of is spelled at =
        let there : h ≡ files (spelling d end) g.log =
        at ∙ ap (λ (t : List ℕ). files t g.log) spelled
        in
        elim (same_or_other (spelling d end) (spelling d line)) [
          | inl same ↦ inl (there ∙ ap (λ (t : List ℕ). files t g.log)
              (same ∙ sym (same_file (first ∷ more) g held)))
          | inr differ ↦ inr (
            end,
            of,
            is,
            ap (λ (x : Files). x.file) there,
            subst (IsAtRest d) (sym there) (other_rests end g.log
                ((l.step ++ concat held.lines) ++ held.part) of differ
                (log_is (first ∷ more) g held)),
          )
        ]

    emptied : (h : Files) (end : Line) (text : List ℕ) → IsLineOf d end
        → IsLineAfter d line l.command (first ∷ more) end → text ≡ spelling d end
        → h ≡ files text [] → IsKept first more g h
    emptied h end text of is spelled at =
        inr (
          end,
          of,
          is,
          ap (λ (x : Files). x.file) at ∙ spelled,
          subst (IsAtRest d) (sym at) (empty_rests laws.scripts d text),
        )

    cut : (h : Files) → IsCutRecovery d g h → IsKept first more g h
    cut h (inl same) = inl same
    cut h (inr (None, made, crash)) = absurd (something (first ∷ more) g held some made)
    cut h (inr (Some text, made, crash)) =
        let (end, of, is, spelled) = (entered_of (first ∷ more) g held text made.0 made.1).1 in
        elim crash [
          | inl same ↦ inl same
          | inr (inl same) ↦ inl same
          | inr (inr (inl at)) ↦ replaced h end text of is spelled at
          | inr (inr (inr (inl at))) ↦ replaced h end text of is spelled at
          | inr (inr (inr (inr at))) ↦ emptied h end text of is spelled at
        ]

    kept_on : (f h : Files) → IsKept first more g f → IsCutRecovery d f h → IsKept first more g h
    kept_on f h (inl same) next = cut h (subst (λ (x : Files). IsCutRecovery d x h) same next)
    kept_on f h (inr (end, of, is, spelled, rest)) next =
        let on = still laws.scripts d f h rest next in
        inr (end, of, is, on.0 ∙ spelled, on.1)

    all_kept : (f : Files) (left : List Files) (h : Files) → IsKept first more g f
        → AreCutRecoveries d f left h → IsKept first more g h
    all_kept f [] h kept same = subst (IsKept first more g) (sym same) kept
    all_kept f (x ∷ left) h kept (next, others) =
        all_kept x left h (kept_on f x kept next) others

    -- no recovery finds a log that can't be entered
    pub kept_fits : (left : List Files) (h : Files) → AreCutRecoveries d g left h
        → IsUnfit d h.file h.log → ⊥
    kept_fits left h recoveries unfit = elim (all_kept g left h (inl refl) recoveries) [
      | inl same ↦ fits (first ∷ more) g held
          (subst (λ (x : Files). IsUnfit d x.file x.log) same unfit)
      | inr (end, of, is, spelled, rest) ↦ rest.fits unfit
    ]

    -- the text in the end is that of a line in which the command is entered
    abbrev IsEndText : List ℕ → Type 0
    IsEndText text = (end : Line) × IsLineOf d end
        × IsLineAfter d line l.command (first ∷ more) end × (text ≡ spelling d end)

    made_at : (made : Option (List ℕ)) → Makes d g made → IsEndText (text_after g made)
    made_at None makes = absurd (something (first ∷ more) g held some makes)
    made_at (Some text) makes = (entered_of (first ∷ more) g held text makes.0 makes.1).1

    made_there : (h : Files) (end : Line) (made : Option (List ℕ)) → h.file ≡ spelling d end
        → IsAtRest d h → Makes d h made → text_after h made ≡ spelling d end
    made_there h end None spelled rest makes = spelled
    made_there h end (Some text) spelled rest makes = absurd (rest.nothing text makes.0 makes.1)

    pub kept_ends : (text : List ℕ) → EndsIn d g text → IsEndText text
    kept_ends text (left, h, recoveries, (made, makes, is)) =
        elim (all_kept g left h (inl refl) recoveries) [
          | inl same ↦
              let M : Files → Type 0 = λ x. Makes d x made in
              let there : IsEndText (text_after g made) = made_at made (subst M same makes) in
              let E : Files → Type 0 = λ x. text ≡ text_after x made in
              (there.0, there.1, there.2, subst E same is ∙ there.3)
          | inr (end, of, after, spelled, rest) ↦
              (end, of, after, is ∙ made_there h end made spelled rest makes)
        ]

    pub one_end_text : (text other : List ℕ) → IsEndText text → IsEndText other → text ≡ other
    one_end_text text other (a, of_a, (r, is_a), at_a) (b, of_b, (s, is_b), at_b) =
        let same : a ≡ b =
        one_end laws d line (entered_command (first ∷ more)) r s a b is_a is_b
        in
        at_a ∙ ap (spelling d) same ∙ sym at_b
