-- What a session line says.
use Rattle.std.specs.Prelude.{◌≡◌, ◌⊎◌, All, ℕ, Bool, true, false, List, [], ◌∷◌, Option, None}
use Rattle.std.specs.Prelude.{Some, codes, if◌then◌else◌}
use Rattle.std.specs.Option.{option_map_or}
use Rattle.std.specs.Str.{IsUtf8, bytes_eq}
use Rattle.rc_model.specs.Names.{IsName}
use Rattle.rc_model.specs.Plan.{Ask}
use Rattle.rc_select.specs.Ask.{ask_of}
use Rattle.rc_model.specs.Session.{Command, Change, Undo, Redo, Add, Delete}
use Rattle.rc_session.specs.Commands.{plain_of}
use Rattle.rc_script.specs.declared.line.SessionLine.{SessionLine}
use Rattle.rc_script.specs.declared.line.SessionLine.TheVariants as line
use Rattle.rc_script.specs.declared.verb.Verb.{Verb}
use Rattle.rc_script.specs.declared.verb.Verb.TheVariants as verb
use Rattle.rc_select.specs.declared.request.Choice.{Choice}
use Rattle.rc_script.specs.Words.{words_in, is_silent}
use Rattle.rc_script.specs.Options.{front_of, ask_chosen, only_limit}

-- what a session line says: nothing, nothing that has a form, a command without events, that the
-- plan of a change is wanted, or what is wanted to be shown
pub data Saying : Type 0 where
  SaysNothing : Saying
  SaysWrong : Saying
  SaysStep : (command : Command) → Saying
  SaysDry : (ask : Ask) → Saying
  SaysLive : Saying
  SaysBundles : Saying
  SaysJournal : Saying

-- what a line says, as it was read
abbrev pub saying_of : SessionLine → Saying
saying_of line.Nothing = SaysNothing
saying_of line.Wrong = SaysWrong
saying_of (line.Command command) = SaysStep (plain_of command)
saying_of (line.Dry request) = SaysDry (ask_of request)
saying_of line.Live = SaysLive
saying_of line.Bundles = SaysBundles
saying_of line.Journal = SaysJournal

-- what the word after the options tells to do
abbrev pub verb_of : List ℕ → Option Verb
verb_of word =
    if bytes_eq word (codes "change") then Some verb.Change
    else if bytes_eq word (codes "dry") then Some verb.Dry
    else if bytes_eq word (codes "undo") then Some verb.Undo
    else if bytes_eq word (codes "redo") then Some verb.Redo
    else if bytes_eq word (codes "add") then Some verb.Add
    else if bytes_eq word (codes "delete") then Some verb.Delete
    else if bytes_eq word (codes "live") then Some verb.Live
    else if bytes_eq word (codes "bundles") then Some verb.Bundles
    else if bytes_eq word (codes "journal") then Some verb.Journal
    else None

-- a bundle with this name and these contents
abbrev pub addition_of : (force : Bool) → List (List ℕ) → Saying
addition_of force [] = SaysWrong
addition_of force (name ∷ contents) = SaysStep (Add name contents force)

-- these names are no bundles any more
abbrev pub deletion_of : (force : Bool) → List (List ℕ) → Saying
deletion_of force [] = SaysWrong
deletion_of force (name ∷ names) = SaysStep (Delete (name ∷ names) force)

-- whether `-f` stands in front of words
abbrev pub is_forced : List (List ℕ) → Bool
is_forced [] = false
is_forced (word ∷ words) = bytes_eq word (codes "-f")

-- words without the `-f` in front of them
abbrev pub unforced : List (List ℕ) → List (List ℕ)
unforced [] = []
unforced (word ∷ words) = if bytes_eq word (codes "-f") then words else word ∷ words

-- what is said with nothing after it
abbrev pub alone : Saying → List (List ℕ) → Saying
alone saying [] = saying
alone saying (word ∷ words) = SaysWrong

-- what is said with no choices in front of it
abbrev pub plain : Saying → List Choice → Saying
plain saying [] = saying
plain saying (choice ∷ choices) = SaysWrong

-- the limit in front of a word, where nothing else stands beside it
abbrev pub limit_alone : List Choice → List (List ℕ) → Option ℕ
limit_alone choices [] = only_limit choices
limit_alone choices (word ∷ words) = None

-- what a verb says with choices in front of it and words after; an undo and a redo may have one
-- limit in front, and nothing else
abbrev pub said : Verb → List Choice → List (List ℕ) → Saying
said verb.Change choices words =
    option_map_or (λ ask. SaysStep (Change ask [])) (ask_chosen choices words) SaysWrong
said verb.Dry choices words =
    option_map_or (λ ask. SaysDry ask) (ask_chosen choices words) SaysWrong
said verb.Undo choices words =
    option_map_or (λ limit. SaysStep (Undo limit [])) (limit_alone choices words) SaysWrong
said verb.Redo choices words =
    option_map_or (λ limit. SaysStep (Redo limit [])) (limit_alone choices words) SaysWrong
said verb.Add choices words = plain (addition_of (is_forced words) (unforced words)) choices
said verb.Delete choices words = plain (deletion_of (is_forced words) (unforced words)) choices
said verb.Live choices words = plain (alone SaysLive words) choices
said verb.Bundles choices words = plain (alone SaysBundles words) choices
said verb.Journal choices words = plain (alone SaysJournal words) choices

-- what words say after choices
abbrev pub behind : List Choice → List (List ℕ) → Saying
behind choices [] = SaysWrong
behind choices (word ∷ words) = option_map_or (λ v. said v choices words) (verb_of word) SaysWrong

-- what words say
abbrev pub sentence : List (List ℕ) → Saying
sentence words =
    option_map_or (λ front. behind front.choices front.words) (front_of false words) SaysWrong

-- a name that is said to be defined is a name
abbrev pub HasName : Saying → Type 0
HasName (SaysStep (Add name contents force)) = IsName name
HasName other = Unit {0}

-- each word of a line is text, and a name that it defines is a name
pub record IsRight (line : List ℕ) : Type 0 where
  pub text : All IsUtf8 (words_in line)
  pub name : HasName (sentence (words_in line))

-- what a line says: an empty line and a comment nothing, whatever their bytes; another one what its
-- words say; and one without a form, or that is not right, is wrong
abbrev pub Says : List ℕ → Saying → Type 0
Says line saying = ((is_silent (words_in line) ≡ true) × (saying ≡ SaysNothing))
    ⊎ ((is_silent (words_in line) ≡ false) × IsRight line × (saying ≡ sentence (words_in line)))
    ⊎ ((is_silent (words_in line) ≡ false) × (IsRight line → ⊥) × (saying ≡ SaysWrong))

-- what is said, but that a name that is none is wrong
abbrev pub IsSaid : Saying → Saying → Type 0
IsSaid wanted saying =
    (HasName wanted × (saying ≡ wanted)) ⊎ ((HasName wanted → ⊥) × (saying ≡ SaysWrong))
