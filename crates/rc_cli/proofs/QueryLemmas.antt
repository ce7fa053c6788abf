-- What a query comes to, and what is printed for it.
use Rattle.std.proofs.Common.{◌≡◌, ◌⊎◌, ◌≤◌, ◌-◌, ◌∙◌, ℕ, Bool, true, false, List, [], Option, None}
use Rattle.std.proofs.Common.{Some, Result, Ok, Err, IfSome, IfOk, IfErr, IsSome, length, drop}
use Rattle.std.proofs.Common.{take, inl, inr, refl, sym, ap, subst, arith}
use Rattle.std.proofs.lemmas.List.{take_rest}
use Rattle.std.specs.Global.{Vec}
use Rattle.std.specs.Borrow.{Bor}
use Rattle.std.specs.Io.KnownBytes.{IsAtEnd}
use Rattle.rc_model.specs.Database.{Database}
use Rattle.rc_model.specs.Plan.{Ask}
use Rattle.rc_model.specs.declared.PlanFault.{PlanFault}
use Rattle.rc_model.specs.declared.PlanFault.TheVariants as plan
use Rattle.rc_db.specs.declared.fault.QueryFault.{QueryFault}
use Rattle.rc_db.specs.declared.fault.QueryFault.TheVariants as query
use Rattle.rc_args.specs.Query.{Question, Check, Dot, ListOf, OfName, OfNames}
use Rattle.rc_dbtext.specs.Base.{Spells, bytes_of}
use Rattle.rc_dbtext.specs.Opening.{IsOpenFault, IsWrongBase, Opens}
use Rattle.rc_dbtext.specs.declared.opening.OpenFault.{OpenFault}
use Rattle.rc_dbtext.specs.declared.opening.OpenFault.TheVariants as unopened
use Rattle.rc_script.specs.declared.script.ScriptFault.TheVariants as script
use Rattle.rc_streams.specs.Input.{AppendsFront, FailsWith, IsCause, TellsFailure, WritesAll}
use Rattle.rc_streams.specs.Input.{WritesFront, failure_text, fault_line}
use Rattle.rc_streams.specs.declared.input.Failure.{Failure}
use Rattle.rc_streams.specs.declared.input.Failure.TheVariants.{TooLong, Read, Write, Memory}
use Rattle.rc_cli.specs.DbAnswer.{IsUnanswered}
use Rattle.rc_cli.specs.DbFaults.{IsFromQuery}
use Rattle.rc_cli.specs.Faults.{IsFromName, IsFromOpen, fault_status, fault_word}
use Rattle.rc_cli.specs.PlanFaults.{IsFromPlan}
use Rattle.rc_cli.specs.declared.fault.Fault.{Fault}
use Rattle.rc_cli.specs.declared.fault.Fault.TheVariants.{Device}
use Rattle.rc_cli.specs.Queries.{HasOutcome, IsAnswerAt, IsAnswerIn, IsAnswerOf, IsFaultIn}
use Rattle.rc_cli.specs.Queries.{IsPrinted, IsRefusalAt, IsRefusalOf, IsWritten, OfDb, OfPlan}
use Rattle.rc_cli.specs.Queries.{OfReplay, QueryAsk, ReadsNothing, TellsRefusal, input_of}
use Rattle.rc_cli.proofs.OpenedLemmas.{base_right, cause_wider, failed_alone, input_within}
use Rattle.rc_cli.proofs.OpenedLemmas.{refused_end, refused_text, refused_within, told_undone}
use Rattle.rc_cli.proofs.OpenedLemmas.{wrong_base}

-- what follows of the value of an option
pub if_some_then : {T : Type 0} (o : Option T) (P Q : T → Type 0) → ((x : T) → P x → Q x)
    → IfSome o P → IfSome o Q
if_some_then None P Q then h = tt
if_some_then (Some x) P Q then h = then x h

-- where it is read, the input is not nothing
pub read_something : (reads : Bool) (base : Option (Bor (List ℕ))) → reads ≡ true
    → ReadsNothing reads (bytes_of base) → ⊥
read_something true base is nothing = nothing
read_something false base is nothing = let no : ⊥ = cc in no

pub none_something : (reads : Bool) (base : Option (Bor (List ℕ))) → base ≡ None
    → ReadsNothing reads (bytes_of base) → ⊥
none_something true base none nothing = nothing
none_something false None none nothing = nothing
none_something false (Some bytes) none nothing = let no : ⊥ = cc in no

-- a fault is a failure, or a refusal
fault_sorts : (fault : Fault) → ((failure : Failure) × (fault ≡ Device failure))
    ⊎ (fault_status fault ≡ 1)
fault_sorts (Device failure) = inl (failure, refl)
fault_sorts refusal = inr refl

-- of a database alone the only failure is that memory runs out
name_memory : (name : List ℕ) (failure : Failure) → IsFromName name (Device failure)
    → failure ≡ Memory
name_memory name failure (inl (held, is, same)) = let no : ⊥ = cc in absurd no
name_memory name failure (inr is) = cc

query_memory : (fault : QueryFault) (names : List (List ℕ)) (failure : Failure)
    → IsFromQuery fault names (Device failure) → failure ≡ Memory
query_memory (query.Unknown place) names failure is = name_memory _ failure is
query_memory query.NotAtomic names failure is = let no : ⊥ = cc in absurd no
query_memory query.NotBundle names failure is = let no : ⊥ = cc in absurd no
query_memory query.NotLongrun names failure is = let no : ⊥ = cc in absurd no
query_memory query.NotOneshot names failure is = let no : ⊥ = cc in absurd no
query_memory query.Memory names failure is = cc

plan_memory : (fault : PlanFault) (ask : Ask) (failure : Failure)
    → IsFromPlan fault ask (Device failure) → failure ≡ Memory
plan_memory plan.PruneNeedsUp ask failure is = let no : ⊥ = cc in absurd no
plan_memory (plan.Unknown place) ask failure (word, at, is) = name_memory word failure is
plan_memory plan.Memory ask failure is = cc

db_memory : (d : Database) (shown : Option (List ℕ)) (question : Question) (failure : Failure)
    → IsUnanswered d shown question (Device failure) → failure ≡ Memory
db_memory d shown Check failure is = cc
db_memory d None Dot failure is = cc
db_memory d (Some bytes) Dot failure (inl is) = cc
db_memory d (Some bytes) Dot failure (inr (fault, why, inl (short, is))) = cc
db_memory d (Some bytes) Dot failure (inr (fault, why, inr (other, is))) =
    let no : ⊥ = cc in absurd no
db_memory d shown (ListOf which) failure is = cc
db_memory d shown (OfName query name) failure (fault, why, is) = query_memory fault _ failure is
db_memory d shown (OfNames query names) failure (fault, why, is) = query_memory fault _ failure is

only_memory : (ask : QueryAsk) (d : Database) (rest : List ℕ) (failure : Failure)
    → IsFaultIn ask d rest (Device failure) → failure ≡ Memory
only_memory (OfPlan ask) d rest failure (inl (inl (inl (word, first, is)))) =
    name_memory word failure is
only_memory (OfPlan ask) d rest failure (inl (inl (inr is))) = cc
only_memory (OfPlan ask) d rest failure (inl (inr (is, known, lacking))) =
    let no : ⊥ = cc in absurd no
only_memory (OfPlan ask) d rest failure (inr (up, (fault, why, is))) =
    plan_memory fault ask failure is
only_memory OfReplay d rest failure (script.BadLine number, why, is) =
    let no : ⊥ = cc in absurd no
only_memory OfReplay d rest failure (script.Memory, why, is) = cc
only_memory (OfDb ask shown) d rest failure is = db_memory d shown ask.question failure is

-- what a query comes to
module _ (ask : QueryAsk) (base known after : Option (List ℕ)) (reader : Type 0) where
  pub came : (o : Result (Vec ℕ) Fault) (d : Database) (input bytes : List ℕ) (start : ℕ)
      → bytes ≡ input → Opens base known after d input start
      → IfOk o (λ t. IsAnswerIn ask d (take (length bytes - start) (drop start bytes)) t.items)
      → IfErr o (IsFaultIn ask d (take (length bytes - start) (drop start bytes)))
      → HasOutcome ask base known after reader o
  came (Ok answer) d input bytes start same opens is none = (
    d,
    input,
    start,
    opens,
    subst (λ (x : List ℕ). IsAnswerIn ask d (drop start x) answer.items) same
        (subst (λ (x : List ℕ). IsAnswerIn ask d x answer.items) (take_rest bytes start) is),
  )
  came (Err fault) d input bytes start same opens none is =
      let refused : IsFaultIn ask d (drop start input) fault =
      subst (λ (x : List ℕ). IsFaultIn ask d (drop start x) fault) same
      (subst (λ (x : List ℕ). IsFaultIn ask d x fault) (take_rest bytes start) is) in
      elim (fault_sorts fault) [
        | inl failed ↦
            let why = subst (IsFaultIn ask d (drop start input)) failed.1 refused in
            let memory = only_memory ask d (drop start input) failed.0 why in
            inr (failed.0, failed.1, subst (IsCause known reader ⊥) (sym memory) tt)
        | inr one ↦ inl (one, inr (d, input, start, opens, refused))
      ]

  pub open_came : (unread : OpenFault) (fault : Fault) → IsOpenFault base known after reader unread
      → IsFromOpen unread fault → HasOutcome ask base known after reader (Err fault)
  open_came (unopened.OfText wrong) fault why (inl memory) = inr (Memory, memory.1, tt)
  open_came (unopened.OfText wrong) fault why (inr told) =
      inl (ap fault_status told.1, inl (wrong, why, told.0, told.1))
  open_came (unopened.Failed failure) fault why is = inr (failure, is, why.1)

abbrev fault_result : Fault → Result (Vec ℕ) Fault
fault_result fault = Err fault

pub open_told : {T P : Type 0} (r : Result T OpenFault) (unread : OpenFault) (fault : Fault)
    → r ≡ Err unread → IsFromOpen unread fault → P ⊎ (r ≡ Err (unopened.Failed Read))
    → P ⊎ (fault_result fault ≡ fault_result (Device Read))
open_told r unread fault is from (inl before) = inl before
open_told r (unopened.OfText wrong) fault is from (inr read) = let no : ⊥ = cc in absurd no
open_told r (unopened.Failed failure) fault is from (inr read) =
    let same : failure ≡ Read = cc in
    inr (ap fault_result (from ∙ ap (λ (f : Failure). Device f) same))

-- an answer, or a refusal, is one of what was read, if that is known
answer_spelled : (ask : QueryAsk) (base : Option (List ℕ)) (input rest answer : List ℕ)
    (d : Database) → Spells base input d rest → IsAnswerIn ask d rest answer
    → IsAnswerOf ask base input answer
answer_spelled (OfPlan ask) base input rest answer d spelled is =
    record { database = d; rest = rest; spelled = spelled; text = is }
answer_spelled OfReplay base input rest answer d spelled is = (d, rest, spelled, is)
answer_spelled (OfDb ask shown) base input rest answer d spelled is =
    record { database = d; rest = rest; spelled = spelled; text = is }

spelled_known : (base known after : Option (List ℕ)) (d : Database) (input : List ℕ) (start : ℕ)
    → Opens base known after d input start
    → IfSome known (λ all. Spells base all d (drop start input))
spelled_known base None after d input start opens = tt
spelled_known base (Some all) after d input start opens =
    subst (λ (x : List ℕ). Spells base x d (drop start input)) opens.reads.0 opens.spelled

answer_known : (ask : QueryAsk) (base known after : Option (List ℕ)) (answer : List ℕ)
    → IsAnswerAt ask base known after answer
    → IfSome known (λ input. IsAnswerOf ask base input answer)
answer_known ask base known after answer (d, input, start, opens, is) =
    if_some_then known _ _
    (λ all spelled. answer_spelled ask base all (drop start input) answer d spelled is)
    (spelled_known base known after d input start opens)

refusal_known : (ask : QueryAsk) (base known after : Option (List ℕ)) (reader : Type 0)
    (fault : Fault) → IsRefusalAt ask base known after reader fault
    → IfSome known (λ input. IsRefusalOf ask base input fault)
refusal_known ask base known after reader fault (one, inl (wrong, why, other, is)) =
    if_some_then known _ _ (λ all refused. (one, inl (wrong, refused, other, is)))
    (refused_text base known after reader wrong why)
refusal_known ask base known after reader fault (one, inr (d, input, start, opens, is)) =
    if_some_then known _ _ (λ all spelled. (one, inr (d, drop start input, spelled, is)))
    (spelled_known base known after d input start opens)

-- how a query ends: its answer is written, or a prefix of it; or it is refused; or it has failed
pub data Ends (ask : QueryAsk) (base known after : Option (List ℕ)) (reader : Type 0) (status : ℕ)
    (before writer : Type 0) (old new told_old told_new : Option (List ℕ)) : Type 0 where
  Written : (answer : List ℕ) → IsAnswerAt ask base known after answer
      → IsWritten answer status before writer old new told_old told_new
      → Ends ask base known after reader status before writer old new told_old told_new
  Refused : (fault : Fault) → IsRefusalAt ask base known after reader fault
      → (status ≡ 1) × (new ≡ old) × (writer → before)
      × AppendsFront told_old told_new (fault_line (fault_word fault))
      → Ends ask base known after reader status before writer old new told_old told_new
  Failed : (failure : Failure) → IsCause known reader ⊥ failure
      → (status ≡ 111) × (new ≡ old) × (writer → before)
      × AppendsFront told_old told_new (fault_line (failure_text failure))
      → Ends ask base known after reader status before writer old new told_old told_new

module _ {ask : QueryAsk} {base known after : Option (List ℕ)} {reader : Type 0} {status : ℕ}
    {before writer : Type 0} {old new told_old told_new : Option (List ℕ)} where
  pub ends : (o : Result (Vec ℕ) Fault) → HasOutcome ask base known after reader o
      → IsPrinted o status before writer old new told_old told_new
      → Ends ask base known after reader status before writer old new told_old told_new
  ends (Ok answer) at c = Written answer.items at c
  ends (Err fault) (inl at) (same, sound, inl told) =
      Refused fault at (told.0 ∙ at.0, same, sound, told.1)
  ends (Err fault) (inl at) (same, sound, inr short) =
      Failed Memory tt (short.1, same, sound, short.2)
  ends (Err fault) (inr (failure, is, cause)) (same, sound, inl told) = Failed failure cause (
    told.0 ∙ ap fault_status is,
    same,
    sound,
    subst (λ (f : Fault). AppendsFront told_old told_new (fault_line (fault_word f))) is told.1,
  )
  ends (Err fault) (inr (failure, is, cause)) (same, sound, inr short) =
      let one : 111 ≡ 1 = sym (ap fault_status is) ∙ short.0 in
      let no : ⊥ = omega (arith, one) in absurd no

  pub statuses : Ends ask base known after reader status before writer old new told_old told_new
      → (status ≡ 0) ⊎ (status ≡ 1) ⊎ (status ≡ 111)
  statuses (Written answer at (inl c)) = inl c.0
  statuses (Written answer at (inr c)) = inr (inr c.0)
  statuses (Refused fault at c) = inr (inl c.0)
  statuses (Failed failure cause c) = inr (inr c.0)

  pub done : Ends ask base known after reader status before writer old new told_old told_new
      → status ≡ 0 → IfSome known (λ input. WritesAll (IsAnswerOf ask base input) old new)
  done (Written answer at (inl c)) zero =
      if_some_then known _ _ (λ all is. (answer, is, c.1))
      (answer_known ask base known after answer at)
  done (Written answer at (inr c)) zero = absurd (failed_alone status c.0 (inl zero))
  done (Refused fault at c) zero = absurd (told_undone status (inl c.0) zero)
  done (Failed failure cause c) zero = absurd (failed_alone status c.0 (inl zero))

  pub untold : Ends ask base known after reader status before writer old new told_old told_new
      → status ≡ 0 → told_new ≡ told_old
  untold (Written answer at (inl c)) zero = c.2
  untold (Written answer at (inr c)) zero = absurd (failed_alone status c.0 (inl zero))
  untold (Refused fault at c) zero = absurd (told_undone status (inl c.0) zero)
  untold (Failed failure cause c) zero = absurd (failed_alone status c.0 (inl zero))

  pub refused : Ends ask base known after reader status before writer old new told_old told_new
      → status ≡ 1 → IfSome known (λ input. TellsRefusal ask base input told_old told_new)
  refused (Written answer at (inl c)) one = absurd (told_undone status (inl one) c.0)
  refused (Written answer at (inr c)) one = absurd (failed_alone status c.0 (inr one))
  refused (Refused fault at c) one =
      if_some_then known _ _ (λ all is. (fault, is, c.3))
      (refusal_known ask base known after reader fault at)
  refused (Failed failure cause c) one = absurd (failed_alone status c.0 (inr one))

  pub failed : Ends ask base known after reader status before writer old new told_old told_new
      → status ≡ 111 → TellsFailure known reader writer told_old told_new
  failed (Written answer at (inl c)) ended = absurd (failed_alone status ended (inl c.0))
  failed (Written answer at (inr c)) ended = (Write, c.3, c.2)
  failed (Refused fault at c) ended = absurd (failed_alone status ended (inr c.0))
  failed (Failed failure cause c) ended =
      (failure, c.3, cause_wider known reader writer failure cause)

  pub written : Ends ask base known after reader status before writer old new told_old told_new
      → writer → before ⊎ FailsWith Write status told_old told_new
  written (Written answer at (inl c)) has = inl (c.3 has)
  written (Written answer at (inr c)) has = inr (c.0, c.3)
  written (Refused fault at c) has = inl (c.2 has)
  written (Failed failure cause c) has = inl (c.2 has)

  pub begun : Ends ask base known after reader status before writer old new told_old told_new
      → status ≡ 111 → (new ≡ old)
      ⊎ IfSome known (λ input. WritesFront (IsAnswerOf ask base input) old new)
  begun (Written answer at (inl c)) ended = absurd (failed_alone status ended (inl c.0))
  begun (Written answer at (inr c)) ended =
      inr (if_some_then known _ _ (λ all is. (answer, is, c.1))
      (answer_known ask base known after answer at))
  begun (Refused fault at c) ended = inl c.1
  begun (Failed failure cause c) ended = inl c.1

  pub unwritten : Ends ask base known after reader status before writer old new told_old told_new
      → status ≡ 1 → new ≡ old
  unwritten (Written answer at (inl c)) one = absurd (told_undone status (inl one) c.0)
  unwritten (Written answer at (inr c)) one = absurd (failed_alone status c.0 (inr one))
  unwritten (Refused fault at c) one = c.1
  unwritten (Failed failure cause c) one = c.1

  pub based : Ends ask base known after reader status before writer old new told_old told_new
      → status ≡ 0 → IsWrongBase base → ⊥
  based (Written answer (d, input, start, opens, is) c) zero bad =
      base_right base known after d input start opens bad
  based (Refused fault at c) zero bad = told_undone status (inl c.0) zero
  based (Failed failure cause c) zero bad = failed_alone status c.0 (inl zero)

  pub untrue : Ends ask base known after reader status before writer old new told_old told_new
      → status ≡ 1 → IsWrongBase base → TellsRefusal ask base [] told_old told_new
  untrue (Written answer at (inl c)) one bad = absurd (told_undone status (inl one) c.0)
  untrue (Written answer at (inr c)) one bad = absurd (failed_alone status c.0 (inr one))
  untrue (Refused fault (refusal, inl (wrong, why, other, is)) c) one bad = (
    fault,
    (refusal, inl (wrong, wrong_base base known after reader wrong why bad, other, is)),
    c.3,
  )
  untrue (Refused fault (refusal, inr (d, input, start, opens, is)) c) one bad =
      absurd (base_right base known after d input start opens bad)
  untrue (Failed failure cause c) one bad = absurd (failed_alone status c.0 (inr one))

  pub within : Ends ask base known after reader status before writer old new told_old told_new
      → (status ≡ 0) ⊎ (status ≡ 1)
      → IsWrongBase base ⊎ IfSome known (λ input. length input ≤ 16777216)
  within (Written answer (d, input, start, opens, is) c) ended =
      inr (input_within base known after d input start opens)
  within (Refused fault (refusal, inl (wrong, why, other, is)) c) ended =
      refused_within base known after reader wrong why other
  within (Refused fault (refusal, inr (d, input, start, opens, is)) c) ended =
      inr (input_within base known after d input start opens)
  within (Failed failure cause c) ended = absurd (failed_alone status c.0 ended)

  pub end : Ends ask base known after reader status before writer old new told_old told_new
      → (status ≡ 0) ⊎ (status ≡ 1) → IsWrongBase base ⊎ IsAtEnd after
  end (Written answer (d, input, start, opens, is) c) ended = inr opens.reads.2
  end (Refused fault (refusal, inl (wrong, why, other, is)) c) ended =
      refused_end base known after reader wrong why other
  end (Refused fault (refusal, inr (d, input, start, opens, is)) c) ended = inr opens.reads.2
  end (Failed failure cause c) ended = absurd (failed_alone status c.0 ended)

-- a read that has failed is reported as that
pub read_reported : {P : Type 0} (o : Result (Vec ℕ) Fault) (status : ℕ) (before writer : Type 0)
    (old new told_old told_new : Option (List ℕ))
    → IsPrinted o status before writer old new told_old told_new
    → P ⊎ (o ≡ Err (Device Read)) → P ⊎ FailsWith Read status told_old told_new
read_reported o status before writer old new told_old told_new c (inl was) = inl was
read_reported o status before writer old new told_old told_new c (inr is) =
    let printed = subst (λ (x : Result (Vec ℕ) Fault).
    IsPrinted x status before writer old new told_old told_new) is c in
    elim printed.2 [
      | inl told ↦ inr told
      | inr short ↦ (let no : ⊥ = omega (arith, short.0) in absurd no)
    ]

-- what is so of a query of the database alone
pub alone_within : (base known : Option (List ℕ))
    → IsWrongBase base ⊎ IfSome (input_of false base known) (λ input. length input ≤ 16777216)
    → IfSome (input_of false base known) (λ input. length input ≤ 16777216)
alone_within (Some bytes) known h = let low : 0 ≤ 16777216 = omega arith in low
alone_within None known (inl bad) = absurd bad
alone_within None known (inr h) = h

pub alone_end : (base after : Option (List ℕ))
    → IsWrongBase base ⊎ IsAtEnd (input_of false base after) → base ≡ None → IsAtEnd after
alone_end (Some bytes) after h none = absurd (let no : ⊥ = cc in no)
alone_end None after (inl bad) none = absurd bad
alone_end None after (inr h) none = h

pub alone_unread : (base : Option (List ℕ)) → IsSome base → ReadsNothing false base
alone_unread (Some bytes) some = tt
alone_unread None some = absurd (let bad : false ≡ true = some in cc)

alone_cause : (base known : Option (List ℕ)) (reader writer : Type 0) (failure : Failure)
    → IsCause (input_of false base known) reader writer failure
    → IsCause known reader writer failure
alone_cause None known reader writer failure h = h
alone_cause (Some bytes) known reader writer TooLong h =
    let no : ⊥ = omega (arith, h) in absurd no
alone_cause (Some bytes) known reader writer Read h = h
alone_cause (Some bytes) known reader writer Write h = h
alone_cause (Some bytes) known reader writer Memory h = h

pub alone_failed : (base known : Option (List ℕ)) (reader writer : Type 0)
    (old new : Option (List ℕ)) → TellsFailure (input_of false base known) reader writer old new
    → TellsFailure known reader writer old new
alone_failed base known reader writer old new (failure, told, cause) =
    (failure, told, alone_cause base known reader writer failure cause)
