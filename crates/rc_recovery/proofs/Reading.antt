-- What the script of a run log says.
use Rattle.std.proofs.Common.{◌≡◌, ◌∙◌, ◌==◌, inl, inr, ℕ, Bool, true, false, All, List, [], ◌∷◌}
use Rattle.std.proofs.Common.{◌++◌, Some, codes}
use Rattle.std.proofs.Common.{refl, ap, sym, subst, append_assoc}
use Rattle.std.specs.List.{AllByRecursion, AllZip, concat}
use Rattle.std.proofs.lemmas.Bool.{ne_eqb}
use Rattle.std.proofs.lemmas.List.{append-nil}
use Rattle.std.proofs.lemmas.List.Elements.{All-from_recursion}
use Rattle.std.proofs.lemmas.List.Splits.{slice_split_at}
use Rattle.rc_model.specs.declared.Event.{Event}
use Rattle.rc_model.specs.Headline.{HasRun}
use Rattle.rc_model.specs.Session.{Command, Change, Undo, Redo, Add, Delete, events_of}
use Rattle.rc_session.specs.Commands.{with_events}
use Rattle.rc_script.specs.RunLines.{IsEventLine, IsHead, IsLine, IsStepLine, least_limited}
use Rattle.rc_script.specs.RunLines.{mark_of, step_mark}
use Rattle.rc_script.specs.Says.{SaysNothing, SaysStep}
use Rattle.rc_script.specs.Script.{Happens, IsScript, Reads, Skipped, Starts, lines_in, with_item}
use Rattle.rc_recovery.specs.RunLog.{EndsWhole}
use Rattle.rc_recovery.proofs.Bytes.{Bare, bare_line, whole}

no_newline : (line : List ℕ) → Bare line → AllByRecursion (λ byte. (byte == 10) ≡ false) line
no_newline [] bare = tt
no_newline (x ∷ xs) bare = (ne_eqb x 10 bare.0, no_newline xs bare.1)

-- the first line of a text that begins with it
lines_first : (text line rest : List ℕ) → IsLine text line
    → lines_in (text ++ rest) ≡ line ∷ lines_in rest
lines_first text line rest is =
    let test = λ (byte : ℕ). byte == 10 in
    let apart : All (λ byte. (byte == 10) ≡ false) line =
    All-from_recursion (λ byte. (byte == 10) ≡ false) line (no_newline line (bare_line line is.1))
    in
    ap (λ (l : List ℕ). lines_in (l ++ rest)) is.0 ∙ ap lines_in (append_assoc line (10 ∷ []) rest)
    ∙ slice_split_at test line 10 rest apart refl

-- no bytes say nothing
pub reads_none : (names : List (List ℕ)) (commands : List Command)
    → Reads names (lines_in []) commands commands
reads_none names commands = (commands, (Skipped, (SaysNothing, inl (refl, refl), refl), refl), refl)

takes_event : (c : Command) (old : List Event) (event : Event) → HasRun c
    → with_item (with_events c old ∷ []) (Happens event)
    ≡ Some (with_events c (old ++ event ∷ []) ∷ [])
takes_event (Change ask events) old event run = refl
takes_event (Undo limit events) old event run = refl
takes_event (Redo limit events) old event run = refl
takes_event (Add name contents force) old event run = absurd run
takes_event (Delete words force) old event run = absurd run

abbrev ReadsOn : List (List ℕ) → Command → (old : List Event) → List (List ℕ) → List Event → Type 0
ReadsOn names c old lines new = Reads names lines (with_events c old ∷ []) (with_events c new ∷ [])

reads_events : (names : List (List ℕ)) (c : Command) → HasRun c → (events old : List Event)
    (lines : List (List ℕ)) → AllZip (IsEventLine names) events lines
    → ReadsOn names c old (lines_in (concat lines)) (old ++ events)
reads_events names c run [] old [] are =
    subst (ReadsOn names c old (lines_in [])) (sym (append-nil old))
    (reads_none names (with_events c old ∷ []))
reads_events names c run [] old (t ∷ lines) are = absurd are
reads_events names c run (e ∷ events) old [] are = absurd are
reads_events names c run (e ∷ events) old (t ∷ lines) are =
    let is = are.0 in
    let next : List Event = old ++ e ∷ [] in
    subst (λ (ls : List (List ℕ)). ReadsOn names c old ls (old ++ e ∷ events))
    (sym (lines_first t is.0 (concat lines) is.1)) (
      with_events c next ∷ [],
      (Happens e, is.2, takes_event c old e run),
      subst (ReadsOn names c next (lines_in (concat lines))) (append_assoc old (e ∷ []) events)
          (reads_events names c run events next lines are.1),
    )

pub least_has_run : (c : Command) → HasRun c → HasRun (least_limited c)
least_has_run (Change ask events) run = tt
least_has_run (Undo limit events) run = tt
least_has_run (Redo limit events) run = tt
least_has_run (Add name contents force) run = absurd run
least_has_run (Delete words force) run = absurd run

no_events : (c : Command) → HasRun c → with_events (least_limited c) [] ≡ least_limited c
no_events (Change ask events) run = refl
no_events (Undo limit events) run = refl
no_events (Redo limit events) run = refl
no_events (Add name contents force) run = absurd run
no_events (Delete words force) run = absurd run

pub events_are : (c : Command) (events : List Event) → HasRun c
    → events_of (with_events (least_limited c) events) ≡ events
events_are (Change ask old) events run = refl
events_are (Undo limit old) events run = refl
events_are (Redo limit old) events run = refl
events_are (Add name contents force) events run = absurd run
events_are (Delete words force) events run = absurd run

-- the mark is a comment
mark_line : IsLine step_mark (codes "# step")
mark_line = (refl, whole (codes "# step") refl)

reads_mark : (names : List (List ℕ)) (marked : Bool) (lines : List ℕ) (old new : List Command)
    → Reads names (lines_in lines) old new
    → Reads names (lines_in (mark_of marked ++ lines)) old new
reads_mark names false lines old new reads = reads
reads_mark names true lines old new reads =
    subst (λ (ls : List (List ℕ)). Reads names ls old new)
    (sym (lines_first step_mark (codes "# step") lines mark_line))
    (old, (Skipped, (SaysNothing, inl (refl, refl), refl), refl), reads)

-- the line of a step, its mark and lines of events say the command with these events
pub says_events : (names : List (List ℕ)) (c : Command) (marked : Bool) (step : List ℕ)
    (events : List Event) (lines : List (List ℕ)) → HasRun c → IsHead c marked step
    → AllZip (IsEventLine names) events lines
    → IsScript names (step ++ concat lines) (with_events (least_limited c) events ∷ [])
says_events names c marked step events lines run (line, is, head) are =
    let least : Command = least_limited c in
    let all : List Command = with_events least events ∷ [] in
    let behind : List ℕ = mark_of marked ++ concat lines in
    subst (λ (ls : List (List ℕ)). Reads names ls [] all)
    (sym (ap (λ (t : List ℕ). lines_in (t ++ concat lines)) head
    ∙ ap lines_in (append_assoc line (mark_of marked) (concat lines))
    ∙ lines_first line is.0 behind is.1)) (
      least ∷ [],
      (Starts least, (SaysStep least, is.2, refl), refl),
      reads_mark names marked (concat lines) (least ∷ []) all
          (subst (λ (first : Command). Reads names (lines_in (concat lines)) (first ∷ []) all)
          (no_events c run)
          (reads_events names least (least_has_run c run) events [] lines are)),
    )

pub ends_line : (x text line : List ℕ) → IsLine text line → EndsWhole (x ++ text)
ends_line x text line is =
    inr (x ++ line, ap (λ (l : List ℕ). x ++ l) is.0 ∙ sym (append_assoc x line (10 ∷ [])))

ends_lines : (names : List (List ℕ)) (x : List ℕ) (events : List Event) (lines : List (List ℕ))
    → AllZip (IsEventLine names) events lines → EndsWhole x → EndsWhole (x ++ concat lines)
ends_lines names x [] [] are whole = subst EndsWhole (sym (append-nil x)) whole
ends_lines names x [] (t ∷ lines) are whole = absurd are
ends_lines names x (e ∷ events) [] are whole = absurd are
ends_lines names x (e ∷ events) (t ∷ lines) are whole =
    subst EndsWhole (append_assoc x t (concat lines))
    (ends_lines names (x ++ t) events lines are.1 (ends_line x t are.0.0 are.0.1))

-- the line of a step and its mark are whole lines
pub ends_head : (c : Command) (marked : Bool) (step : List ℕ) → IsHead c marked step
    → EndsWhole step
ends_head c false step (line, is, head) =
    subst EndsWhole (sym (head ∙ append-nil line)) (ends_line [] line is.0 is.1)
ends_head c true step (line, is, head) =
    subst EndsWhole (sym head) (ends_line line step_mark (codes "# step") mark_line)

-- and are whole lines with those of events
pub says_whole : (names : List (List ℕ)) (c : Command) (marked : Bool) (step : List ℕ)
    (events : List Event) (lines : List (List ℕ)) → IsHead c marked step
    → AllZip (IsEventLine names) events lines → EndsWhole (step ++ concat lines)
says_whole names c marked step events lines is are =
    ends_lines names step events lines are (ends_head c marked step is)
