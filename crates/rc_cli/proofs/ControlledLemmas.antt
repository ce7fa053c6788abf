-- What a command would move, and that there is no other.
use Rattle.std.proofs.Common.{◌≡◌, ◌≢◌, ◌∙◌, ℕ, Bool, false, List, Option, Some, ap, inl}
use Rattle.std.proofs.Common.{inr, string_bytes}
use Rattle.std.proofs.Common.{Result, Ok, Err, None, IfNone, IfOk, IfSome, subst, sym}
use Rattle.rc_model.specs.Database.{Database, IsDatabase}
use Rattle.rc_model.specs.Line.{Line}
use Rattle.rc_model.specs.Names.{Has}
use Rattle.rc_model.specs.Plan.{PlanSets}
use Rattle.rc_model.specs.Session.{Command, IsLineOf, IsOwnFault, IsTask}
use Rattle.rc_model.specs.declared.Refusal.{Refusal}
use Rattle.rc_model.specs.declared.Refusal.TheVariants as refusal
use Rattle.rc_session.specs.Holding.{Holding, IsBegun, IsHindrance, Task, with_line, with_run}
use Rattle.rc_session.proofs.Excluding.{one_set, one_task, task_not_own}
use Rattle.rc_session.proofs.Obeying.{own_of}
use Rattle.rc_script.specs.Says.{saying_of}
use Rattle.rc_args.specs.OnceAsked.{OnceSaying, Said}
use Rattle.rc_args.specs.UpdateAsked.{UpdateAsk}
use Rattle.rc_livetext.specs.Spelling.{Spells as SpellsLine}
use Rattle.rc_cli.specs.Filing.{BeginsBy, file_named}
use Rattle.rc_cli.specs.Serving.{session_on}
use Rattle.rc_cli.specs.Session.{Asked}
use Rattle.rc_cli.specs.SessionFaults.{IsControlled}
use Rattle.rc_cli.specs.UpdateEnds.{AreFoundInBoth, IsControlledUpdate, IsNoneAhead}
use Rattle.rc_cli.specs.UpdateEnds.{IsUnreadyUpdate}
use Rattle.rc_cli.specs.declared.sessions.session_fault.SessionFault.{SessionFault}
use Rattle.rc_cli.specs.declared.sessions.session_fault.SessionFault.TheVariants.{OfText, Unknown}
use Rattle.rc_cli.specs.declared.sessions.session_fault.SessionFault.TheVariants.{OfLive, Failed}
use Rattle.rc_cli.specs.declared.sessions.session_fault.SessionFault.TheVariants.{NoController}
use Rattle.rc_cli.specs.declared.sessions.keeping.LiveFile.{LiveFile}
use Rattle.rc_cli.specs.declared.sessions.keeping.LiveFile.TheVariants.{Missing, Text, Unread}
use Rattle.rc_cli.specs.declared.sessions.service.Service.{Service}
use Rattle.rc_cli.specs.declared.updating.Ahead.{Ahead}
use Rattle.rc_update.specs.Carrying.{AreNamesOf, Carried, StaysUp}
use Rattle.rc_update.specs.Conversions.{Conversion}
use Rattle.rc_update.specs.Knowing.{AreKnown}
use Rattle.rc_cli.specs.Controlled.{IsLongrunOf, IsUncontrolled, IsUncontrolledUpdate}
use Rattle.rc_cli.specs.Controlled.{LacksController, MovesAhead, MovesByParts, MovesByService}
use Rattle.rc_cli.specs.Controlled.{MovesBySaying, MovesByUpdate, MovesLongrunOn}
use Rattle.rc_cli.specs.Updating.{IsAhead, IsUpdate, Parts, carried_line}
use Rattle.rc_model.proofs.ByteOrder.{same_names}

-- the names of services are one list
one_list : (d : Database) (In : ℕ → Type 0) (xs ys : List (List ℕ)) → AreNamesOf d In xs
    → AreNamesOf d In ys → xs ≡ ys
one_list d In xs ys first second =
    same_names xs ys first.order second.order
    (λ n. (
      λ h. (second.same n).1 ((first.same n).0 h),
      λ h. (first.same n).1 ((second.same n).0 h),
    ))

-- a session whose run was given up is as before
pub given_up : (old new : Holding) → old.begun ≡ false
    → new ≡ with_line (with_run old) (with_run old).line → new ≡ old
given_up old new closed is = is ∙ ap (λ (b : Bool). record {
  database = old.database;
  line = old.line;
  begun = b;
  spoiled = old.spoiled;
}) (sym closed)

-- what follows where there is none, or some
pub none_weaker : {A E : Type 0} (r : Result (Option A) E) (P Q : Type 0) → (P → Q)
    → IfOk r (λ found. IfNone found P) → IfOk r (λ found. IfNone found Q)
none_weaker (Ok None) P Q more is = more is
none_weaker (Ok (Some x)) P Q more is = is
none_weaker (Err e) P Q more is = is

pub some_weaker : {A E : Type 0} (r : Result (Option A) E) (P Q : A → Type 0)
    → ((x : A) → P x → Q x) → IfOk r (λ found. IfSome found P) → IfOk r (λ found. IfSome found Q)
some_weaker (Ok None) P Q more is = is
some_weaker (Ok (Some x)) P Q more is = more x is
some_weaker (Err e) P Q more is = is

-- what follows where there is none, since that was refused
pub refused_none : {A E : Type 0} (r : Result (Option A) E) (X Q : Type 0) → (X → Q)
    → IfOk r (λ found. (found ≡ None) × X) → IfOk r (λ found. IfNone found Q)
refused_none (Ok None) X Q more is = more is.1
refused_none (Ok (Some x)) X Q more is = tt
refused_none (Err e) X Q more is = tt

pub refused_some : {A E : Type 0} (r : Result (Option A) E) (X : Type 0) (P : A → Type 0)
    → IfOk r (λ found. (found ≡ None) × X) → IfOk r (λ found. IfSome found P)
refused_some (Ok None) X P is = tt
refused_some (Ok (Some x)) X P is = let clash : Some x ≡ None = is.0 in cc
refused_some (Err e) X P is = tt

-- a session begins on one line
pub begins_once : (d : Database) (bound : ℕ) (file : LiveFile) (a b : Line) → IsDatabase d
    → ((d : Database) (bytes : List ℕ) (a b : Line) → IsDatabase d → IsLineOf d a → IsLineOf d b
    → SpellsLine d bytes a → SpellsLine d bytes b → a ≡ b)
    → BeginsBy d bound file a → BeginsBy d bound file b → a ≡ b
begins_once d bound Missing a b is one first second = first ∙ sym second
begins_once d bound (Text bytes) a b is one first second =
    one d bytes.now a b is first.0 second.0 first.1 second.1
begins_once d bound (Unread why) a b is one first second = absurd first

-- what is refused moves nothing
pub refused_moves : (h : Holding) (command : Command) (why : Refusal) → h.spoiled ≡ false
    → why ≢ refusal.Memory → IsHindrance (IsOwnFault h.database h.line command) h why
    → (name : List ℕ) → MovesLongrunOn h.database h.line command name → ⊥
refused_moves h command why whole other is name moves =
    task_not_own h.database h.line command 0 moves.0 moves.1 why moves.2
    (own_of (IsOwnFault h.database h.line command) h why whole other is)

-- a command moves what its one plan does
pub plan_moves : (d : Database) (line : Line) (command : Command) (plan : PlanSets)
    (deadline : Option ℕ) → IsTask d line command 0 plan deadline
    → ((name : List ℕ) → IsLongrunOf d plan name → ⊥)
    → (name : List ℕ) → MovesLongrunOn d line command name → ⊥
plan_moves d line command plan deadline task none name moves =
    none name (subst (λ (p : PlanSets). IsLongrunOf d p name)
    (one_task d line command 0 moves.0 plan moves.1 deadline moves.2 task).0 moves.3)

-- the same of the plan of a run that was begun
pub begun_moves : (old new : Holding) (task : Task) (command : Command) (d : Database)
    (plan : PlanSets) → new ≡ with_run old → IsBegun new command 0 task → d ≡ new.database
    → plan ≡ task.plan → ((name : List ℕ) → IsLongrunOf d plan name → ⊥)
    → (name : List ℕ) → MovesLongrunOn old.database old.line command name → ⊥
begun_moves old new task command d plan is begun same also none =
    plan_moves old.database old.line command task.plan task.deadline
    (subst (λ (h : Holding). IsTask h.database h.line command 0 task.plan task.deadline) is
    begun.asked)
    (λ name on. none name (subst (λ (x : Database). IsLongrunOf x plan name) (sym same)
    (subst (λ (p : PlanSets). IsLongrunOf new.database p name) (sym also)
    (subst (λ (h : Holding). IsLongrunOf h.database task.plan name) (sym is) on))))

-- an update has the same parts, whatever shows it
parts_once : (d e : Database) (list : List Conversion) (line : Line) (p q : Parts)
    → IsUpdate d e list line p → IsUpdate d e list line q → p ≡ q
parts_once d e list line p q first second =
    let lower = one_list d _ p.lower q.lower first.lower second.lower in
    let kept = one_set
    (Carried d e list (StaysUp d e list (Has line.current.live)))
    p.kept q.kept (first.bound ∙ sym second.bound) first.kept second.kept in
    let raise = one_list e _ p.raise q.raise first.raise second.raise in
    λ k. record { lower = lower k; kept = kept k; raise = raise k }

-- what a service would move from where a session stands that has begun, is what it would move
pub uncontrolled_here : (service : Service) (asked : Asked) (d : Database) (h : Holding)
    (name : List ℕ)
    → ((start : Line) × BeginsBy d asked.ask.bound (file_named asked.ask.live asked.file) start
    × (h ≡ session_on d start))
    → (asked.base ≢ None) × LacksController asked.ask
    × MovesByService service h.database h.line name
    → IsUncontrolled service asked d name
uncontrolled_here service asked d h name begun moves = record {
  base = moves.0;
  lacks = moves.1;
  line = begun.0;
  begins = begun.1;
  moves = subst (λ (k : Holding). MovesByService service k.database k.line name) begun.2 moves.2;
}

-- and where that is nothing it moves nothing
pub controlled_here : (service : Service) (asked : Asked) (d : Database) (h : Holding)
    → IsDatabase d
    → ((d : Database) (bytes : List ℕ) (a b : Line) → IsDatabase d → IsLineOf d a → IsLineOf d b
    → SpellsLine d bytes a → SpellsLine d bytes b → a ≡ b)
    → ((start : Line) × BeginsBy d asked.ask.bound (file_named asked.ask.live asked.file) start
    × (h ≡ session_on d start))
    → (asked.base ≢ None → LacksController asked.ask → (name : List ℕ)
    → MovesByService service h.database h.line name → ⊥)
    → IsControlled service asked d
controlled_here service asked d h is same begun none name un =
    none un.base un.lacks name
    (subst (λ (k : Holding). MovesByService service k.database k.line name) (sym begun.2)
    (subst (λ (l : Line). MovesByService service d l name)
    (begins_once d asked.ask.bound (file_named asked.ask.live asked.file) un.line begun.0 is same
    un.begins begun.1) un.moves))

-- the same of an update, by what is ahead of it
pub uncontrolled_ahead : (old new : Database) (ask : UpdateAsk) (file : LiveFile) (from : Holding)
    (ahead : Ahead) (name : List ℕ)
    → ((start : Line) × BeginsBy old ask.session.bound (file_named ask.session.live file) start
    × (from ≡ session_on old start))
    → IsAhead ask from new ahead → LacksController ask.session × MovesAhead from ahead name
    → IsUncontrolledUpdate old new ask file name
uncontrolled_ahead old new ask file from ahead name (start, begins, stands) there both = record {
  lacks = both.0;
  line = start;
  begins = begins;
  moves =
      let on : IsAhead ask (session_on old start) new ahead =
      subst (λ (h : Holding). IsAhead ask h new ahead) stands there in
      let moves : MovesAhead (session_on old start) ahead name =
      subst (λ (h : Holding). MovesAhead h ahead name) stands both.1 in (
        on.parts,
        on.update,
        elim moves [
          | inl low ↦ inl (subst (λ (w : OnceSaying). MovesBySaying old start w name) on.lowers low)
          | inr up ↦ inr (subst (λ (w : OnceSaying). MovesBySaying new
              (carried_line new on.parts.kept start.bound) w name) on.raises
              (subst (λ (h : Holding). MovesBySaying h.database h.line
              (Said (saying_of ahead.raising)) name) on.to up))
        ],
      );
}

-- so why there is nothing ahead of an update is why it is not begun
pub ahead_unready : (fault : SessionFault) (old new : Database) (ask : UpdateAsk)
    (file : LiveFile) (from : Holding) → AreKnown old.names new.names ask.conversions
    → AreFoundInBoth old new ask.session.making
    → ((start : Line) × BeginsBy old ask.session.bound (file_named ask.session.live file) start
    × (from ≡ session_on old start))
    → IsNoneAhead ask from new fault → IsUnreadyUpdate ask file old new fault
ahead_unready (OfText fault) old new ask file from known found begun is = absurd is
ahead_unready (Unknown word) old new ask file from known found begun is = absurd is
ahead_unready (OfLive fault) old new ask file from known found begun is = absurd is
ahead_unready (NoController name) old new ask file from known found begun is = (
  known,
  found,
  uncontrolled_ahead old new ask file from is.0 (string_bytes name) begun is.1
      (is.2, is.3),
)
ahead_unready (Failed fault) old new ask file from known found begun is = inl is

-- and where neither step moves one the update moves none
pub controlled_ahead : (old new : Database) (ask : UpdateAsk) (file : LiveFile) (from : Holding)
    (ahead : Ahead) → IsDatabase old
    → ((d : Database) (bytes : List ℕ) (a b : Line) → IsDatabase d → IsLineOf d a → IsLineOf d b
    → SpellsLine d bytes a → SpellsLine d bytes b → a ≡ b)
    → ((start : Line) × BeginsBy old ask.session.bound (file_named ask.session.live file) start
    × (from ≡ session_on old start))
    → IsAhead ask from new ahead
    → (LacksController ask.session → (name : List ℕ) → MovesAhead from ahead name → ⊥)
    → IsControlledUpdate old new ask file
controlled_ahead old new ask file from ahead is same (start, begins, stands) there none name un =
    let on : IsAhead ask (session_on old start) new ahead =
    subst (λ (h : Holding). IsAhead ask h new ahead) stands there in
    let moved : MovesByUpdate old new ask start name =
    subst (λ (l : Line). MovesByUpdate old new ask l name)
    (begins_once old ask.session.bound (file_named ask.session.live file) un.line start is same
    un.begins begins) un.moves in
    let by : MovesByParts old new ask start on.parts name =
    subst (λ (p : Parts). MovesByParts old new ask start p name)
    (parts_once old new ask.conversions start moved.0 on.parts moved.1 on.update)
    moved.2 in
    none un.lacks name (subst (λ (h : Holding). MovesAhead h ahead name) (sym stands)
    (elim by [
      | inl low ↦ inl (subst (λ (w : OnceSaying). MovesBySaying old start w name)
          (sym on.lowers) low)
      | inr up ↦ inr (subst (λ (h : Holding). MovesBySaying h.database h.line
          (Said (saying_of ahead.raising)) name) (sym on.to)
          (subst (λ (w : OnceSaying). MovesBySaying new
          (carried_line new on.parts.kept start.bound) w name) (sym on.raises) up))
    ]))
