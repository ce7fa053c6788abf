-- Where services stand, and how that is printed.
use Rattle.std.proofs.Common.{◌≡◌, ◌≢◌, ◌∙◌, ◌<◌, ◌==◌, ◌+◌, ◌++◌, ◌∷◌, suc, arith, ℕ, Bool, true}
use Rattle.std.proofs.Common.{false, List, [], Result, Ok, Err, IfOk, Bor, ap}
use Rattle.std.proofs.Common.{inl, inr, length, map, refl, sym, subst, true≢false}
use Rattle.rc_model.specs.declared.Event.{Event}
use Rattle.rc_model.specs.Names.{Holds}
use Rattle.rc_model.specs.declared.Refusal.TheVariants.{Unknown}
use Rattle.rc_model.specs.Database.{Bundles, Database, IsUnknownAt, Selected}
use Rattle.rc_model.specs.Line.{Line}
use Rattle.rc_session.specs.Holding.{Holding}
use Rattle.rc_db.specs.QueryFaults.{IsNamesFault}
use Rattle.rc_db.specs.declared.fault.QueryFault.{QueryFault}
use Rattle.rc_db.specs.declared.fault.QueryFault.TheVariants as fault_is
use Rattle.rc_render.specs.RefusalText.{refusal_text}
use Rattle.rc_recovery.specs.Logged.{AreLogged}
use Rattle.rc_args.specs.NamedAsked.{NamedAsk}
use Rattle.rc_cli.specs.Filing.{BeginsBy, file_named}
use Rattle.rc_cli.specs.Serving.{session_on}
use Rattle.rc_cli.specs.declared.sessions.keeping.LiveFile.{LiveFile}
use Rattle.rc_cli.specs.declared.sessions.keeping.LiveFile.TheVariants as file
use Rattle.rc_cli.specs.Status.{AnswersAt, AnswersOn, AnswersStatus, AreOfFile, IsTextOf, IsUpAs}
use Rattle.rc_cli.specs.Status.{Stands, line_of, lines_to}
use Rattle.rc_cli.specs.declared.status.Shown.{Shown}
use Rattle.rc_cli.specs.declared.status.Shown.TheVariants as shown

-- an answer from where a session begins is one of its file
pub answers_on : (d : Database) (ask : NamedAsk) (file live : LiveFile) (log : List ℕ)
    (session : Holding) (names : List (List ℕ)) (ending : Shown) (text : List ℕ)
    → live ≡ file_named ask.session.live file → names ≡ ask.names
    → ((start : Line) × BeginsBy d ask.session.bound (file_named ask.session.live file) start
    × (session ≡ session_on d start))
    → AnswersAt session.database session.line live log names ending text
    → AnswersOn d ask.session.bound (file_named ask.session.live file) log ask.names ending text
answers_on d ask file live log session names ending text is same (start, begins, stands) answers = (
  start,
  begins,
  subst (λ (f : LiveFile). AnswersAt d start f log ask.names ending text) is
      (subst (λ (h : Holding). AnswersAt h.database h.line live log ask.names ending text) stands
      (subst (λ (ns : List (List ℕ)).
      AnswersAt session.database session.line live log ns ending text) same answers)),
)

-- services that are named are those of the names, where there is a name
pub named_stand : (d : Database) (here : Line) (events : List Event) (asked : List (List ℕ))
    (ending : Shown) (wanted : List Bool) (text : List ℕ) → asked ≢ []
    → Holds wanted (Selected d.names here.current.table asked)
    → text ≡ lines_to d.names wanted here.current.live events (length d.names)
    → IsUpAs ending wanted here.current.live events → Stands d here events asked ending text
named_stand d here events [] ending wanted text some holds is up = absurd (some refl)
named_stand d here events (word ∷ words) ending wanted text some holds is up =
    (wanted, holds, is, up)

-- and all are where there is none
pub all_stand : (d : Database) (here : Line) (events : List Event) (asked : List (List ℕ))
    (ending : Shown) (text : List ℕ) → asked ≡ [] → ending ≡ shown.Up
    → IsTextOf d here.current.live events (λ s. s < length d.names) text
    → Stands d here events asked ending text
all_stand d here events asked ending text none up is =
    subst (λ (words : List (List ℕ)). Stands d here events words ending text) (sym none) (up, is)

-- the lines of one service more
pub lines_next : (names : List (List ℕ)) (wanted live : List Bool) (events : List Event) (s : ℕ)
    → lines_to names wanted live events (s + 1)
    ≡ lines_to names wanted live events s ++ line_of names wanted live events s
lines_next names wanted live events s =
    let next : s + 1 ≡ suc s = omega arith in ap (lines_to names wanted live events) next

-- what is not empty is not empty by its texts
pub not_empty : {A : Type 0} (f : A → List ℕ) (xs : List A) (empty : Bool)
    → empty ≡ (length xs == 0) → empty ≡ false → map f xs ≢ []
not_empty f [] empty is false_is none = true≢false (sym is ∙ false_is)
not_empty f (x ∷ xs) empty is false_is none = let bad : f x ∷ map f xs ≡ [] = none in cc

-- the answer about services that are named, by a database and a state that are known by other names
pub named_answers : (d x : Database) (here : Line) (table : Bundles) (events : List Event)
    (asked : List (List ℕ)) (live wanted : List Bool) (ending : Shown) (text : List ℕ) → x ≡ d
    → table ≡ here.current.table → live ≡ here.current.live → asked ≢ []
    → Holds wanted (Selected x.names table asked)
    → text ≡ lines_to x.names wanted live events (length x.names)
    → IsUpAs ending wanted live events → AnswersStatus d here events asked ending text
named_answers d x here table events asked live wanted ending text same stands lives some holds is
    up =
    inl (named_stand d here events asked ending wanted text some
    (subst (λ (y : Database). Holds wanted (Selected y.names here.current.table asked)) same
    (subst (λ (t : Bundles). Holds wanted (Selected x.names t asked)) stands holds))
    (subst (λ (y : Database). text ≡ lines_to y.names wanted here.current.live events
    (length y.names)) same
    (subst (λ (l : List Bool). text ≡ lines_to x.names wanted l events (length x.names)) lives is))
    (subst (λ (l : List Bool). IsUpAs ending wanted l events) lives up))

-- what holds of an answer twice holds of it
pub both_of : {A E : Type 0} (result : Result A E) (P Q : A → Type 0) → IfOk result P
    → IfOk result Q → IfOk result (λ x. P x × Q x)
both_of (Ok x) P Q p q = (p, q)
both_of (Err e) P Q p q = tt

-- the answer that the first name which is none is refused
pub unknown_answers : (d x : Database) (here : Line) (table : Bundles) (events : List Event)
    (asked : List (List ℕ)) (fault : QueryFault) (place : ℕ) (text : List ℕ) → x ≡ d
    → table ≡ here.current.table → fault ≡ fault_is.Unknown place
    → IsNamesFault x.names table asked fault → text ≡ refusal_text asked (Unknown place)
    → AnswersStatus d here events asked shown.Refused text
unknown_answers d x here table events asked fault place text same stands is fails told =
    let at : IsNamesFault x.names table asked (fault_is.Unknown place) =
    subst (λ (f : QueryFault). IsNamesFault x.names table asked f) is fails in inr (
      place,
      subst (λ (y : Database). IsUnknownAt y.names here.current.table asked place) same
          (subst (λ (t : Bundles). IsUnknownAt x.names t asked place) stands at),
      refl,
      told,
    )

-- what the log beside a file says is what that of its text says
pub file_logged : (d : Database) (names : List (List ℕ)) (live : LiveFile)
    (bytes : Bor (List ℕ)) (log : List ℕ) (events : List Event) → live ≡ file.Text bytes
    → names ≡ d.names → AreLogged names bytes.now log events → AreOfFile d live log events
file_logged d names live bytes log events is same logged =
    subst (λ (f : LiveFile). AreOfFile d f log events) (sym is)
    (subst (λ (ns : List (List ℕ)). AreLogged ns bytes.now log events) same logged)
