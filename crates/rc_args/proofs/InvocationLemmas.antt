-- What the words ask, by the matches that `clap` makes of them.
use Rattle.std.proofs.Common.{◌≡◌, ◌≢◌, ◌∙◌, Bool, List, IfErr, IfSome, OnErr, Option, None, Some}
use Rattle.std.proofs.Common.{Result, Ok, Err, inr}
use Rattle.std.proofs.Common.{false, true, if◌then◌else◌, refl, ap, sym, subst, codes}
use Rattle.std.proofs.lemmas.Slice.Eq.{bytes_eq-Decides}
use Rattle.std.specs.Str.{bytes_eq}
use Rattle.clap.specs.Words.{Row, Text}
use Rattle.rc_args.specs.Words.{rows_for, rows_named}
use Rattle.rc_args.specs.CommandWords.{Meaning}
use Rattle.rc_args.specs.Defaults.{DefaultsAsk}
use Rattle.rc_args.specs.OnceAsked.{OnceAsk}
use Rattle.rc_args.specs.Invocation.{InvokesEntered, InvokesMeant, InvokesNothing, Invokes}
use Rattle.rc_args.specs.Invocation.{OfCheck, OfCompile, OfDb, OfOnce, OfPlan, OfReplay, OfRestart}
use Rattle.rc_args.specs.Invocation.{OfSeal}
use Rattle.rc_args.specs.Invocation.{OfSession, OfStatus, OfCancel, OfUpdate, OfVersion}
use Rattle.rc_args.specs.Invocation.{InvocationAsk, IsUsageFault, LacksItsFile, invocation_by}
use Rattle.rc_args.specs.Invocation.{wanted_files}
use Rattle.rc_args.specs.declared.asked.WordsFault.{WordsFault}
use Rattle.rc_args.specs.declared.asked.WordsFault.TheVariants.{Memory}

-- the command that was entered has its matches, and is the one that has them
named_self : (name : Text) (rows : List Row) → rows_named name (Some (name, rows)) ≡ Some rows
named_self name rows =
    ap (λ (b : Bool). if b then Some rows else None) ((bytes_eq-Decides name name).1 refl)

named_by : (name given : Text) (found rows : List Row) (same : Bool) → bytes_eq given name ≡ same
    → (if same then Some found else None) ≡ Some rows
    → ◌≡◌ {A = Option (Text × List Row)} (Some (given, found)) (Some (name, rows))
named_by name given found rows true is e =
    let one : found ≡ rows = cc in
    ap (λ (n : Text). Some (n, found)) ((bytes_eq-Decides given name).0 is)
    ∙ ap (λ (rs : List Row). Some (name, rs)) one
named_by name given found rows false is e = cc

named_back : (name : Text) (entered : Option (Text × List Row)) (rows : List Row)
    → rows_named name entered ≡ Some rows → entered ≡ Some (name, rows)
named_back name None rows is = cc
named_back name (Some e) rows is = named_by name e.0 e.1 rows (bytes_eq e.0 name) refl is

-- what is said of the rows of a command is said of the same rows
pub same_rows : (Says : List Row → Type 0) (found : Option (List Row)) (rows other : List Row)
    → found ≡ Some rows → found ≡ Some other → Says other → Says rows
same_rows Says found rows other is too =
    subst (λ (o : Option (List Row)). IfSome o Says) (sym too ∙ is)

-- what was entered asks what the words ask, where they have no fault
pub entered_right : (words : List Text) (entered : Option (Text × List Row)) (ask : InvocationAsk)
    → ((name : Text) → rows_for name words ≡ rows_named name entered)
    → InvokesEntered entered ask → Invokes words ask
entered_right words entered ask same asks = (
  asks.0,
  asks.1,
  same asks.0 ∙ (ap (rows_named asks.0) asks.2 ∙ named_self asks.0 asks.1),
  asks.3,
)

pub entered_back : (words : List Text) (entered : Option (Text × List Row)) (ask : InvocationAsk)
    → ((name : Text) → rows_for name words ≡ rows_named name entered)
    → Invokes words ask → InvokesEntered entered ask
entered_back words entered ask same asks = (
  asks.0,
  asks.1,
  named_back asks.0 entered asks.1 (sym (same asks.0) ∙ asks.2),
  asks.3,
)

-- a wrong line asks nothing
pub wrong_asks : (words : List Text) → ((name : Text) → rows_for name words ≡ None)
    → InvokesNothing words
wrong_asks words wrong ask asks =
    let both : None ≡ Some asks.1 = sym (wrong asks.0) ∙ asks.2 in cc

-- two names are apart
pub apart : (name other : Text) → bytes_eq name other ≡ false → name ≡ other → ⊥
apart name other no_test is =
    let yes : bytes_eq name other ≡ true = (bytes_eq-Decides name other).1 is in
    let both : true ≡ false = sym yes ∙ no_test in cc

-- matches that ask for no session of one line ask nothing, where their command has none of the
-- other names
pub others_none : (meaning : Meaning) (rows : List Row) → (meaning.command ≡ codes "compile" → ⊥)
    → (meaning.command ≡ codes "db" → ⊥) → (meaning.command ≡ codes "plan" → ⊥)
    → (meaning.command ≡ codes "replay" → ⊥) → (meaning.command ≡ codes "session" → ⊥)
    → (meaning.command ≡ codes "update" → ⊥) → (meaning.command ≡ codes "restart" → ⊥)
    → (meaning.command ≡ codes "seal" → ⊥) → (meaning.command ≡ codes "status" → ⊥)
    → (meaning.command ≡ codes "check" → ⊥) → (meaning.command ≡ codes "cancel" → ⊥)
    → (meaning.command ≡ codes "version" → ⊥)
    → ((ask : OnceAsk) (file : Option Text) → InvokesMeant meaning rows (OfOnce ask file) → ⊥)
    → (ask : InvocationAsk) → InvokesMeant meaning rows ask → ⊥
others_none meaning rows compile db plan replay session update restart seal status check cancel
    version none ask =
    elim ask as (λ (a : InvocationAsk). InvokesMeant meaning rows a → ⊥) [
      | OfCompile ask ↦ λ asks. compile asks.0
      | OfDb ask file ↦ λ asks. db asks.0
      | OfPlan ask file ↦ λ asks. plan asks.0
      | OfReplay file ↦ λ asks. replay asks.0
      | OfSession ask file ↦ λ asks. session asks.0
      | OfOnce ask file ↦ λ asks. none ask file asks
      | OfUpdate ask file ↦ λ asks. update asks.0
      | OfRestart ask file ↦ λ asks. restart asks.0
      | OfSeal ask file ↦ λ asks. seal asks.0
      | OfStatus ask file ↦ λ asks. status asks.0
      | OfCheck ask file ↦ λ asks. check asks.0
      | OfCancel kills file ↦ λ asks. cancel asks.0
      | OfVersion ↦ λ asks. version asks.0
    ]

-- a command that lacks a file which it needs is refused as one
pub lacking_is_usage : {X : Type 0} (result : Result X WordsFault) (defaults : DefaultsAsk)
    (words : List Text) (said : InvocationAsk) → Invokes words said
    → OnErr result (LacksItsFile (invocation_by defaults said))
    → IfErr result (λ fault. fault ≡ wanted_files (invocation_by defaults said))
    → IfErr result (λ fault. fault ≢ Memory → IsUsageFault defaults words fault)
lacking_is_usage (Ok x) defaults words said asked lacks is = tt
lacking_is_usage (Err fault) defaults words said asked lacks is =
    λ other. inr (said, asked, lacks, is)
