-- What the head of a run log says: how its command has left the states of the session.
use Rattle.std.proofs.Common.{◌≡◌, ◌∙◌, ◌↔◌, inl, inr, ℕ, suc, Bool, true, false, IsTrue, Contains}
use Rattle.std.proofs.Common.{List, [], ◌∷◌, ◌++◌, arith, codes, refl, sym, ap, subst, append_assoc}
use Rattle.std.specs.List.{AllZip, concat}
use Rattle.std.proofs.lemmas.List.{append_cancel_left}
use Rattle.rc_model.specs.declared.Event.{Event}
use Rattle.rc_model.specs.Database.{Database}
use Rattle.rc_model.specs.Line.{Line}
use Rattle.rc_model.specs.Session.{Command, Change, Undo, Redo, Add, Delete}
use Rattle.rc_livetext.specs.Spelling.{spelling}
use Rattle.rc_script.specs.RunLines.{IsEventLine, IsStepLine, least_limited, mark_of, step_mark}
use Rattle.rc_script.specs.Says.{Saying, Says, SaysNothing, SaysStep}
use Rattle.rc_script.specs.Script.{Happens, IsItemSaying, Skipped}
use Rattle.rc_recovery.proofs.Bytes.{whole}
use Rattle.rc_recovery.specs.Files.{Files}
use Rattle.rc_recovery.specs.Logging.{HoldEvents, IsLogged, Logged}
use Rattle.rc_cli.specs.Begun.{BeginsWith, LogsStep, LogsWay, SaysWay}
use Rattle.rc_historytext.specs.declared.keeping.Keeping.{Keeping}
use Rattle.rc_launch.specs.HistoryRecoveries.{beside}
use Rattle.rc_cli.proofs.BegunLemmas.{read_once}
use Rattle.rc_launch.specs.Keeping.{KeepsAs, is_way, keeping_by, keeping_of}
use Rattle.rc_launch.proofs.PutTexts.{same_flag}

-- a log says one thing of the states
pub keeps_once : (text log : List ℕ) (a b : Keeping) → KeepsAs text log a → KeepsAs text log b
    → a ≡ b
keeps_once text log a b one other =
    let step = same_flag (LogsStep text log) one.step other.step one.marked other.marked in
    let way = same_flag (LogsWay text log) one.way other.way one.logs other.logs in
    one.is ∙ (λ i. keeping_by (step i) (way i)) ∙ sym other.is

abbrev head_of : List ℕ → ℕ
head_of [] = 0
head_of (x ∷ xs) = x

abbrev tail_of : List ℕ → List ℕ
tail_of [] = []
tail_of (x ∷ xs) = xs

-- bytes have one first line
front_once : (a b x y : List ℕ) → (Contains a 10 → ⊥) → (Contains b 10 → ⊥)
    → a ++ 10 ∷ x ≡ b ++ 10 ∷ y → (a ≡ b) × (x ≡ y)
front_once [] [] x y torn bare same = (refl, ap tail_of same)
front_once [] (b ∷ v) x y torn bare same =
    absurd (bare (0, omega arith, sym (ap head_of same)))
front_once (a ∷ u) [] x y torn bare same = absurd (torn (0, omega arith, ap head_of same))
front_once (a ∷ u) (b ∷ v) x y torn bare same =
    let rest = front_once u v x y (λ h. torn (suc h.0, omega (arith, h.1), h.2))
    (λ h. bare (suc h.0, omega (arith, h.1), h.2)) (ap tail_of same) in (
      ap (λ (z : ℕ). z ∷ u) (ap head_of same) ∙ ap (λ (l : List ℕ). b ∷ l) rest.0,
      rest.1,
    )

-- a command is an undo or a redo, whatever its limit
least_way : (c : Command) → is_way (least_limited c) ≡ is_way c
least_way (Change ask events) = refl
least_way (Undo limit events) = refl
least_way (Redo limit events) = refl
least_way (Add name contents force) = refl
least_way (Delete words force) = refl

-- the line of an undo or a redo says so
says_way : (c : Command) (step rest : List ℕ) → is_way c ≡ true → IsStepLine c step
    → SaysWay (step ++ rest)
says_way (Change ask events) step rest way is = absurd (let bad : false ≡ true = way in cc)
says_way (Undo limit events) step rest way is = inl (step, rest, refl, is)
says_way (Redo limit events) step rest way is = inr (step, rest, refl, is)
says_way (Add name contents force) step rest way is =
    absurd (let bad : false ≡ true = way in cc)
says_way (Delete words force) step rest way is = absurd (let bad : false ≡ true = way in cc)

-- a line says one thing
abbrev pub SaysOnce : Type 0
SaysOnce = (line : List ℕ) (a b : Saying) → Says line a → Says line b → a ≡ b

module _ (one : SaysOnce) where
  -- the line that bytes begin with says the first command
  says_it : (bytes body rest : List ℕ) (c command : Command) → (Contains body 10 → ⊥)
      → Says body (SaysStep (least_limited c)) → bytes ≡ body ++ 10 ∷ rest
      → BeginsWith command bytes → least_limited c ≡ least_limited command
  says_it bytes body rest c command bare says is (step, more, at, (line, (spelled, torn), said)) =
      let same = front_once body line rest more bare torn
      (sym is ∙ at ∙ ap (λ (t : List ℕ). t ++ more) spelled
      ∙ append_assoc line (10 ∷ []) more) in
      read_once (least_limited c) (least_limited command)
      (one line (SaysStep (least_limited c)) (SaysStep (least_limited command))
      (subst (λ (l : List ℕ). Says l (SaysStep (least_limited c))) same.0 says) said)

  -- a line of an event is no mark
  no_mark : (names : List (List ℕ)) (event : Event) (line rest more : List ℕ)
      → IsEventLine names event line → line ++ rest ≡ step_mark ++ more → ⊥
  no_mark names event line rest more (body, (spelled, bare), (saying, says, item)) same =
      let mark : List ℕ = codes "# step" in
      let fronts = front_once body mark rest more bare (whole mark refl)
      (sym (append_assoc body (10 ∷ []) rest) ∙ ap (λ (t : List ℕ). t ++ rest) (sym spelled)
      ∙ same ∙ append_assoc mark (10 ∷ []) more) in
      let silent : saying ≡ SaysNothing =
      one mark saying SaysNothing (subst (λ (l : List ℕ). Says l saying) fronts.0 says)
      (inl (refl, refl)) in
      let bad : Happens event ≡ Skipped =
      subst (λ (s : Saying). IsItemSaying names body s (Happens event)) silent item in
      cc

  module _ (d : Database) (line : Line) (l : Logged) (first : Event) (more : List Event)
      (g : Files) (logged : IsLogged d line l)
      (holds : HoldEvents d line l (first ∷ more) (beside (spelling d line) g)) where
    abbrev body : List ℕ
    body = logged.step_is.1.0

    -- what stands in the log behind the line of the step
    abbrev behind : List ℕ
    behind = mark_of l.marked ++ (concat holds.lines ++ holds.part)

    log_is : g.log ≡ spelling d line ++ (body ++ 10 ∷ behind)
    log_is =
        let text : List ℕ = spelling d line in
        let step : List ℕ = logged.step_is.0 in
        let lines : List ℕ = concat holds.lines in
        ap (λ (x : Files). x.log) holds.files ∙ append_assoc text (l.step ++ lines) holds.part
        ∙ ap (λ (x : List ℕ). text ++ x)
        (append_assoc l.step lines holds.part
        ∙ ap (λ (x : List ℕ). x ++ (lines ++ holds.part)) logged.step_is.2
        ∙ append_assoc step (mark_of l.marked) (lines ++ holds.part)
        ∙ ap (λ (x : List ℕ). x ++ behind) logged.step_is.1.1.0
        ∙ append_assoc body (10 ∷ []) behind)

    rest_is : (rest : List ℕ) → g.log ≡ spelling d line ++ rest → rest ≡ body ++ 10 ∷ behind
    rest_is rest at = append_cancel_left (spelling d line) rest (body ++ 10 ∷ behind)
        (sym at ∙ log_is)

    way_says : (command : Command) (rest : List ℕ) → is_way command ≡ true
        → g.log ≡ spelling d line ++ rest → BeginsWith command rest → is_way l.command ≡ true
    way_says command rest way at begins =
        sym (least_way l.command)
        ∙ ap is_way (says_it rest body behind l.command command logged.step_is.1.1.1
        logged.step_is.1.2 (rest_is rest at) begins)
        ∙ least_way command ∙ way

    is_way_logged : IsTrue (is_way l.command) ↔ LogsWay (spelling d line) g.log
    is_way_logged = (
      λ way. (
        logged.step_is.0 ++ behind,
        log_is ∙ ap (λ (x : List ℕ). spelling d line ++ x)
            (sym (append_assoc body (10 ∷ []) behind)
            ∙ ap (λ (x : List ℕ). x ++ behind) (sym logged.step_is.1.1.0)),
        says_way l.command logged.step_is.0 behind way logged.step_is.1,
      ),
      λ (rest, at, says). elim says [
        | inl undo ↦ way_says (Undo 1 []) rest refl at undo
        | inr redo ↦ way_says (Redo 1 []) rest refl at redo
      ],
    )

    unmarked : (marked : Bool) (names : List (List ℕ)) (lines : List (List ℕ))
        (part more_of : List ℕ) (events : List Event)
        → AllZip (IsEventLine names) (first ∷ events) lines
        → mark_of marked ++ (concat lines ++ part) ≡ step_mark ++ more_of → marked ≡ true
    unmarked true names lines part more_of events are same = refl
    unmarked false names [] part more_of events are same = absurd are
    unmarked false names (t ∷ lines) part more_of events are same =
        absurd (no_mark names first t (concat lines ++ part) more_of are.0
        (sym (append_assoc t (concat lines) part) ∙ same))

    is_marked : IsTrue l.marked ↔ LogsStep (spelling d line) g.log
    is_marked = (
      λ marked. (
        body ++ 10 ∷ behind,
        log_is,
        (
          body,
          concat holds.lines ++ holds.part,
          ap (λ (b : Bool). body ++ 10 ∷ (mark_of b ++ (concat holds.lines ++ holds.part)))
              marked,
          logged.step_is.1.1.1,
        ),
      ),
      λ (rest, at, (other, more_of, is, bare)).
          let fronts = front_once body other behind (step_mark ++ more_of)
          logged.step_is.1.1.1 bare (sym (rest_is rest at) ∙ is) in
          unmarked l.marked d.names holds.lines holds.part more_of more holds.lines_are fronts.1,
    )

    -- what is entered of a log is kept as its command does
    pub head_keeps : (keeping : Keeping) → KeepsAs (spelling d line) g.log keeping
        → keeping ≡ keeping_of l
    head_keeps keeping by =
        let step = same_flag (LogsStep (spelling d line) g.log) by.step l.marked by.marked
        is_marked in
        let way = same_flag (LogsWay (spelling d line) g.log) by.way (is_way l.command) by.logs
        is_way_logged in
        by.is ∙ (λ i. keeping_by (step i) (way i))
