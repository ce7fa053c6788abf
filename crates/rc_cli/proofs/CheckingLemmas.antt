-- Whether services are where a session says, and how that is printed.
use Rattle.std.proofs.Common.{◌≡◌, ◌≢◌, ◌∙◌, ◌<◌, ◌≤◌, ◌==◌, ◌+◌, ◌++◌, ◌⊎◌, zero, suc, arith, ℕ}
use Rattle.std.proofs.Common.{Bool, true, false, List, [], ◌∷◌, Result, Ok, Err, IfOk, OnOk, Option}
use Rattle.std.proofs.Common.{All, Some, if◌then◌else◌, inl, inr, length, map, refl, ap, sym, subst}
use Rattle.std.proofs.lemmas.Bool.{cases_lt}
use Rattle.rc_model.specs.Database.{Bundles, Database, IsKnown, IsUnknownAt, Selected}
use Rattle.rc_model.specs.declared.Refusal.TheVariants.{Unknown}
use Rattle.rc_model.specs.Line.{Line}
use Rattle.rc_model.specs.Names.{Has, Holds}
use Rattle.rc_set.specs.Next.{IsNextFrom}
use Rattle.rc_session.specs.Holding.{Holding}
use Rattle.rc_db.specs.QueryFaults.{IsNamesFault}
use Rattle.rc_db.specs.declared.fault.QueryFault.{QueryFault}
use Rattle.rc_db.specs.declared.fault.QueryFault.TheVariants as fault_is
use Rattle.rc_render.specs.RefusalText.{refusal_text}
use Rattle.rc_runner.specs.declared.asking.Found.{Found}
use Rattle.rc_args.specs.NamedAsked.{NamedAsk}
use Rattle.rc_args.specs.SessionAsked.{SessionAsk}
use Rattle.rc_cli.specs.Checking.{AnswersCheck, AreAsked, CanAsk, Checks, Finding, IsUnasked}
use Rattle.rc_cli.specs.Checking.{IsMeant, IsMeantLongrun, IsNamedBy, IsUnmet, answer_at, found_by}
use Rattle.rc_cli.specs.Checking.{is_elsewhere_at, line_of, lines_to, name_if, names_to}
use Rattle.rc_cli.specs.Checking.{refused_by}
use Rattle.rc_cli.specs.Controlled.{LacksController}
use Rattle.rc_cli.specs.Filing.{BeginsBy}
use Rattle.rc_cli.specs.Serving.{session_on}
use Rattle.rc_cli.specs.declared.sessions.keeping.LiveFile.{LiveFile}
use Rattle.rc_cli.specs.declared.sessions.session_fault.SessionFault.{SessionFault}
use Rattle.rc_cli.specs.declared.sessions.session_fault.SessionFault.TheVariants as failing

-- the lines of one service more
pub lines_more : (names : List (List ℕ)) (asked longruns live : List Bool) (answers : List Found)
    (s : ℕ) (text more : List ℕ) → text ≡ lines_to names asked longruns live answers s
    → more ≡ text ++ line_of names asked longruns live (answer_at answers s) s
    → more ≡ lines_to names asked longruns live answers (s + 1)
lines_more names asked longruns live answers s text more is adds =
    let next : suc s ≡ s + 1 = omega arith in
    adds ∙ (ap (λ (t : List ℕ). t ++ line_of names asked longruns live (answer_at answers s) s) is
    ∙ ap (lines_to names asked longruns live answers) next)

-- the names of one service more
pub names_more : (up : Bool) (names : List (List ℕ)) (asked live : List Bool)
    (answers : List Found) (s : ℕ) (one : Bool) (list more : List (List ℕ))
    → one ≡ is_elsewhere_at up asked live answers s
    → list ≡ names_to up names asked live answers s → more ≡ list ++ name_if names one s
    → more ≡ names_to up names asked live answers (s + 1)
names_more up names asked live answers s one list more same is adds =
    let next : suc s ≡ s + 1 = omega arith in
    adds ∙ (ap (λ (b : Bool). list ++ name_if names b s) same
    ∙ (ap (λ (l : List (List ℕ)). l
    ++ name_if names (is_elsewhere_at up asked live answers s) s) is
    ∙ ap (names_to up names asked live answers) next))

-- what was found of services of a database, by names that are those of it
pub checks_by : (d : Database) (names : List (List ℕ)) (asked longruns live : List Bool)
    (answers : List Found) (finding : Finding) → names ≡ d.names
    → length answers ≡ length d.names → finding ≡ found_by names asked longruns live answers
    → Checks d asked longruns live finding
checks_by d names asked longruns live answers finding same counts is = (
  answers,
  counts,
  is ∙ ap (λ (ns : List (List ℕ)). found_by ns asked longruns live answers) same,
)

-- the first longrun that no program controls is told
pub told_first : (d : Database) (asked : List Bool) (ask : SessionAsk) (s : ℕ)
    (fault : SessionFault) → LacksController ask → IsNextFrom (Has asked) 0 s
    → IsNamedBy d s fault → IsUnasked d asked ask fault
told_first d asked ask s (failing.NoController name) lacks next named = (lacks, (s, next, named))
told_first d asked ask s (failing.Failed why) lacks next named = named
told_first d asked ask s (failing.OfText why) lacks next named = named
told_first d asked ask s (failing.Unknown word) lacks next named = named
told_first d asked ask s (failing.OfLive why) lacks next named = named

-- what holds of where a session begins holds of its file
pub on_file : (P : Database → Line → Type 0) (d : Database) (bound : ℕ) (file : LiveFile)
    (session : Holding)
    → ((start : Line) × BeginsBy d bound file start × (session ≡ session_on d start))
    → P session.database session.line → (here : Line) × BeginsBy d bound file here × P d here
on_file P d bound file session (start, begins, stands) holds = (
  start,
  begins,
  subst (λ (h : Holding). P h.database h.line) stands holds,
)

-- what holds of an answer, and what holds where there is one
pub with_ok : {A E : Type 0} (result : Result A E) (P : A → Type 0) (Q : Type 0) → IfOk result P
    → OnOk result Q → IfOk result (λ x. P x × Q)
with_ok (Ok x) P Q p q = (p, q)
with_ok (Err e) P Q p q = tt

module _ (d x : Database) (here : Line) (ask : NamedAsk) (words : List (List ℕ))
    (longruns : List Bool) where
  -- an answer about services, by a database, a state and names that are known by other names
  pub known_answer : (asked live : List Bool) (finding : Finding) → x ≡ d
      → live ≡ here.current.live → words ≡ ask.names
      → AreAsked d here.current.table words asked longruns
      → All (IsKnown d.names here.current.table) words → Checks x asked longruns live finding
      → CanAsk ask.session longruns → AnswersCheck d here ask finding
  known_answer asked live finding same lives are holds known checks can = inl (
    asked,
    longruns,
    subst (λ (ws : List (List ℕ)). AreAsked d here.current.table ws asked longruns) are holds,
    can,
    subst (λ (ws : List (List ℕ)). All (IsKnown d.names here.current.table) ws) are known,
    subst (λ (y : Database). Checks y asked longruns here.current.live finding) same
        (subst (λ (l : List Bool). Checks x asked longruns l finding) lives checks),
  )

  -- why there is none
  pub unmet_answer : (asked : List Bool) (fault : SessionFault) → x ≡ d → words ≡ ask.names
      → AreAsked d here.current.table words asked longruns
      → All (IsKnown d.names here.current.table) words → IsUnasked x longruns ask.session fault
      → IsUnmet d here ask fault
  unmet_answer asked fault same are holds known unasked = inl (
    longruns,
    subst (λ (ws : List (List ℕ)). Holds longruns (IsMeantLongrun d here.current.table ws)) are
        holds.among,
    subst (λ (ws : List (List ℕ)). All (IsKnown d.names here.current.table) ws) are known,
    subst (λ (y : Database). IsUnasked y longruns ask.session fault) same unasked,
  )

-- the answer that the first name which is none is refused
pub unknown_word : (d : Database) (here : Line) (ask : NamedAsk) (words : List (List ℕ))
    (fault : QueryFault) (place : ℕ) (finding : Finding) (shown : List (List ℕ))
    → words ≡ ask.names → shown ≡ ask.names → fault ≡ fault_is.Unknown place
    → IsNamesFault d.names here.current.table words fault
    → finding ≡ refused_by (refusal_text shown (Unknown place))
    → AnswersCheck d here ask finding
unknown_word d here ask words fault place finding shown are same is fails told =
    let at : IsNamesFault d.names here.current.table words (fault_is.Unknown place) =
    subst (λ (f : QueryFault). IsNamesFault d.names here.current.table words f) is fails in inr (
      place,
      subst (λ (ws : List (List ℕ)). IsUnknownAt d.names here.current.table ws place) are at,
      subst (λ (ws : List (List ℕ)). finding ≡ refused_by (refusal_text ws (Unknown place))) same
          told,
    )

-- services that are named are meant, where there is a name
pub meant_named : (d x : Database) (table other : Bundles) (words : List (List ℕ))
    (set : List Bool) → x ≡ d → other ≡ table → words ≢ []
    → Holds set (Selected x.names other words) → Holds set (IsMeant d table words)
meant_named d x table other [] set same stands some holds = absurd (some refl)
meant_named d x table other (word ∷ words) set same stands some holds =
    subst (λ (y : Database). Holds set (Selected y.names table (word ∷ words))) same
    (subst (λ (t : Bundles). Holds set (Selected x.names t (word ∷ words))) stands holds)

-- the members below one number more, where that one is none, and where it is added
pub kept_below : (set : List Bool) (P : ℕ → Type 0) (n : ℕ) → Holds set (λ s. (s < n) × P s)
    → (P n → ⊥) → Holds set (λ s. (s < n + 1) × P s)
kept_below set P n holds none s = (
  λ has. let both = (holds s).0 has in (let low : s < n = both.0 in omega (arith, low), both.1),
  λ both. elim (cases_lt s n) [
    | inl low ↦ (holds s).1 (low, both.1)
    | inr high ↦ (let same : s ≡ n = omega (arith, high, both.0) in
        absurd (none (subst P same both.1)))
  ],
)

pub added_below : (set new : List Bool) (P : ℕ → Type 0) (n : ℕ)
    → Holds set (λ s. (s < n) × P s) → P n → Holds new (λ s. Has set s ⊎ (s ≡ n))
    → Holds new (λ s. (s < n + 1) × P s)
added_below set new P n holds one adds s = (
  λ has. elim ((adds s).0 has) [
    | inl before ↦ (let both = (holds s).0 before in
        (let low : s < n = both.0 in omega (arith, low), both.1))
    | inr same ↦ (omega (arith, same), subst P (sym same) one)
  ],
  λ both. elim (cases_lt s n) [
    | inl low ↦ (adds s).1 (inl ((holds s).1 (low, both.1)))
    | inr high ↦ (let same : s ≡ n = omega (arith, high, both.0) in (adds s).1 (inr same))
  ],
)

-- the members below a number that is above all
pub all_below : (set : List Bool) (P : ℕ → Type 0) (n : ℕ) → ((s : ℕ) → P s → s < n)
    → Holds set (λ s. (s < n) × P s) → Holds set P
all_below set P n below holds s =
    (λ has. ((holds s).0 has).1, λ one. (holds s).1 (below s one, one))

-- those of a set that are among others
pub asked_among : (asked wanted : List Bool) (P Q : ℕ → Type 0) → Holds wanted P
    → Holds asked (λ s. Has wanted s × Q s) → Holds asked (λ s. P s × Q s)
asked_among asked wanted P Q meant holds s = (
  λ has. (let both = (holds s).0 has in ((meant s).0 both.0, both.1)),
  λ both. (holds s).1 ((meant s).1 both.0, both.1),
)
