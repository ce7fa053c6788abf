-- The failures that are remembered beside the file of a session: their text, and what a run log
-- makes of them.
use Rattle.std.specs.Prelude.{◌++◌, ◌∷◌, ◌==◌, ◌&&◌, ◌||◌, ℕ, Bool, List, [], Option, None, Some}
use Rattle.std.specs.Prelude.{◌≡◌, IfSome, codes, filter, map, not, option_map, if◌then◌else◌}
use Rattle.std.specs.List.{flat_map, list_any, slice_split}
use Rattle.std.specs.Option.{option_map_or}
use Rattle.std.specs.Str.{bytes_eq}
use Rattle.rc_script.specs.Words.{words_in}
use Rattle.rc_cli.specs.declared.failures.Failure.{Failure as GivenFailure}
use Rattle.rc_cli.specs.declared.failures.End.{End as GivenEnd}

-- a transition that did not succeed: of which service, which way, how it ended, when that was
-- entered, and from which state of the journal it went
pub record Failure : Type 0 where
  pub name : List ℕ
  pub way : List ℕ
  pub outcome : List ℕ
  pub time : List ℕ
  pub state : List ℕ

-- the end of a transition of a service: its failure, or none where it succeeded
pub record End : Type 0 where
  pub name : List ℕ
  pub failure : Option Failure

-- the same of what the program has
abbrev pub failure_of : GivenFailure → Failure
failure_of given = record {
  name = given.name.now;
  way = given.way.now;
  outcome = given.front.now ++ given.outcome.now;
  time = given.time.now;
  state = given.state.now;
}

abbrev pub failures_of : List GivenFailure → List Failure
failures_of given = map failure_of given

abbrev pub end_of : GivenEnd → End
end_of given =
    record { name = given.name.now; failure = option_map failure_of given.failure }

abbrev pub ends_of : List GivenEnd → List End
ends_of given = map end_of given

-- the words about a failure
abbrev pub about : Failure → List ℕ
about f = f.way ++ 32 ∷ f.outcome ++ 32 ∷ f.time ++ 32 ∷ f.state

-- its line
abbrev pub failure_line : Failure → List ℕ
failure_line f = f.name ++ 32 ∷ about f ++ 10 ∷ []

-- the text of failures: a head, and a line for each
abbrev pub text_of : List Failure → List ℕ
text_of failures = codes "undorc-failed 1" ++ 10 ∷ flat_map failure_line failures

-- the failures of a line of these words behind those before: a line of five words says one, and one
-- without words none
abbrev pub read_line : List Failure → List (List ℕ) → Option (List Failure)
read_line before [] = Some before
read_line before (name ∷ way ∷ outcome ∷ time ∷ state ∷ []) = Some (before ++ record {
  name = name;
  way = way;
  outcome = outcome;
  time = time;
  state = state;
} ∷ [])
read_line before other = None

-- the failures of lines behind those before, if each line says one or none
abbrev pub read_lines : List Failure → List (List ℕ) → Option (List Failure)
read_lines before [] = Some before
read_lines before (line ∷ more) =
    option_map_or (λ now. read_lines now more) (read_line before (words_in line)) None

-- the failures of lines that begin with the head
abbrev pub headed : List (List ℕ) → Option (List Failure)
headed [] = None
headed (head ∷ more) =
    if bytes_eq head (codes "undorc-failed 1") then read_lines [] more else None

-- the failures of a text, if it is one
abbrev pub failures_in : List ℕ → Option (List Failure)
failures_in text = headed (slice_split (λ byte. byte == 10) text)

-- the failures of a text, and none where it is no such text
abbrev pub listed : List ℕ → List Failure
listed text = option_map_or (λ found. found) (failures_in text) []

-- whether an end is of a service of this name
abbrev pub has_ended : List End → List ℕ → Bool
has_ended ends name = list_any (λ e. bytes_eq e.name name) ends

-- the failures of some services: the last end of each, where that is one
abbrev pub last_failures : List End → List Failure
last_failures [] = []
last_failures (e ∷ more) =
    (if has_ended more e.name then [] else option_map_or (λ f. f ∷ []) e.failure [])
    ++ last_failures more

-- failures of services that no end is of
abbrev pub kept : List Failure → List End → List Failure
kept before ends = filter (λ f. not (has_ended ends f.name)) before

-- the failures after ends: those of other services, and then the last of each service that has one
abbrev pub remembered : List Failure → List End → List Failure
remembered before ends = kept before ends ++ last_failures ends

-- the way of a service that was up before, or was not
abbrev pub way_from : (up : Bool) → List ℕ
way_from up = if up then codes "down" else codes "up"

-- a failure of a service that was up before, or was not
abbrev pub failed_at : (up : Bool) → (time state name outcome : List ℕ) → End
failed_at up time state name outcome = record {
  name = name;
  failure = Some (record {
    name = name;
    way = way_from up;
    outcome = outcome;
    time = time;
    state = state;
  });
}

-- how the word of a run log for an outcome is written
abbrev pub outcome_by : List ℕ → List ℕ
outcome_by word = if bytes_eq word (codes "timeout") then codes "timed-out"
    else if bytes_eq word (codes "nostart") then codes "not-started" else word

-- the end of a service by the word of a run log for it
abbrev pub done_by : (up : Bool) → (time state name word : List ℕ) → End
done_by up time state name word = if bytes_eq word (codes "ok")
    then record { name = name; failure = None } else failed_at up time state name (outcome_by word)

-- whether a name is among these
abbrev pub is_among : List (List ℕ) → List ℕ → Bool
is_among names name = list_any (λ n. bytes_eq n name) names

-- what the words of a line of a run log say of an end, where these services were up before the run:
-- a transition that has begun is cut short unless a later line says how it ended
abbrev pub end_by : (ups : List (List ℕ)) → (time state : List ℕ) → List (List ℕ) → Option End
end_by ups time state (verb ∷ worker ∷ name ∷ []) = if bytes_eq verb (codes "take")
    then Some (failed_at (is_among ups name) time state name (codes "cut-short")) else None
end_by ups time state (verb ∷ worker ∷ name ∷ word ∷ []) = if bytes_eq verb (codes "done")
    then Some (done_by (is_among ups name) time state name word) else None
end_by ups time state (verb ∷ worker ∷ name ∷ word ∷ number ∷ []) =
    if bytes_eq verb (codes "done")
    then Some (failed_at (is_among ups name) time state name (codes "failed:" ++ number)) else None
end_by ups time state other = None

-- the ends that lines of a run log say behind those before
abbrev pub logged_ends : (ups : List (List ℕ)) → (time state : List ℕ) → List End
    → (lines : List (List ℕ)) → List End
logged_ends ups time state before [] = before
logged_ends ups time state before (line ∷ more) = logged_ends ups time state
    (option_map_or (λ e. before ++ e ∷ []) (end_by ups time state (words_in line)) before) more

-- what was remembered in a text: nothing where there is none, and None where it is no such text
abbrev pub failures_before : List ℕ → Option (List Failure)
failures_before [] = Some []
failures_before text = failures_in text

-- the text of failures, and nothing where there is none
abbrev pub text_if : List Failure → List ℕ
text_if [] = []
text_if (f ∷ more) = text_of (f ∷ more)

-- the text of what is remembered after the ends in lines of a run log, where the text was a text of
-- failures
abbrev pub entered : (before : List ℕ) → (ups : List (List ℕ)) → (time state : List ℕ)
    → (lines : List (List ℕ)) → Option (List ℕ)
entered before ups time state lines = option_map
    (λ old. text_if (remembered old (logged_ends ups time state [] lines)))
    (failures_before before)

-- the first failure of a service, if there is one
abbrev pub failure_for : List Failure → List ℕ → Option Failure
failure_for [] name = None
failure_for (f ∷ more) name = if bytes_eq f.name name then Some f else failure_for more name

-- the failure of a service that is down
abbrev pub failure_at : List Failure → (name word : List ℕ) → Option Failure
failure_at failures name word =
    if bytes_eq word (codes "down") then failure_for failures name else None

-- whether a word says that a service is moving
abbrev pub is_moving : List ℕ → Bool
is_moving word = bytes_eq word (codes "rising") || bytes_eq word (codes "sinking")

-- the word that is shown for a service which this word says to be somewhere: where the command that
-- was moving it was cut short, it is not known where it is
abbrev pub said_word : (cut : Bool) → (word : List ℕ) → List ℕ
said_word cut word = if cut && is_moving word then codes "unknown" else word

-- whether a word says that a service has failed, or is unknown
abbrev pub is_missed : List ℕ → Bool
is_missed word = bytes_eq word (codes "failed") || bytes_eq word (codes "unknown")

-- the line of a service that has no failure, or that is not down: where only failures are shown, it
-- is that of a service which failed in the command that is under way, or is unknown
abbrev pub plain_line : (only : Bool) → (name word : List ℕ) → List ℕ
plain_line only name word = if only && not (is_missed word)
    then [] else name ++ 32 ∷ word ++ 10 ∷ []

-- whether how a transition ended is not known, since its command was cut short
abbrev pub is_cut_short : Failure → Bool
is_cut_short f = bytes_eq f.outcome (codes "cut-short")

-- the word for a service with its failure
abbrev pub failed_word : Failure → List ℕ
failed_word f = if is_cut_short f then codes " unknown " else codes " failed "

-- the line of a service with its failure
abbrev pub failed_line : List ℕ → Failure → List ℕ
failed_line name f = name ++ failed_word f ++ about f ++ 10 ∷ []

-- what is shown of a line of a name and a word, where the command that was moving services was cut
-- short, or was not
abbrev pub shown_line : (only cut : Bool) → List Failure → List (List ℕ) → List ℕ
shown_line only cut failures (name ∷ word ∷ []) = option_map_or (failed_line name)
    (failure_at failures name word) (plain_line only name (said_word cut word))
shown_line only cut failures other = []

-- what is shown of lines, behind what is shown so far
abbrev pub shown_lines : (only cut : Bool) → List Failure → List ℕ → (lines : List (List ℕ))
    → List ℕ
shown_lines only cut failures before [] = before
shown_lines only cut failures before (line ∷ more) =
    shown_lines only cut failures (before ++ shown_line only cut failures (words_in line)) more

-- what is shown of a text whose lines have a name and a word each
abbrev pub shown_text : (only cut : Bool) → List Failure → List ℕ → List ℕ
shown_text only cut failures text =
    shown_lines only cut failures [] (slice_split (λ byte. byte == 10) text)

-- what is known of a service after ends, where this was known before: what the last end of it says
abbrev pub last_known : (name : List ℕ) → List End → (before : Option Failure) → Option Failure
last_known name [] before = before
last_known name (e ∷ more) before =
    last_known name more (if bytes_eq e.name name then e.failure else before)

-- the failure of each end is of its service
abbrev pub AreOwn : List End → Type 0
AreOwn [] = Unit {0}
AreOwn (e ∷ more) = IfSome e.failure (λ f. f.name ≡ e.name) × AreOwn more
