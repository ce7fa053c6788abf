-- What came of a command, as it is told.
use Rattle.std.specs.Prelude.{◌≡◌, ℕ, List, ◌++◌, Result, Ok, Err}
use Rattle.rc_model.specs.Plan.{PlanSets}
use Rattle.rc_model.specs.declared.Refusal.{Refusal}
use Rattle.rc_session.specs.declared.report.Report.{Report}
use Rattle.rc_session.specs.Report.{told_of}
use Rattle.rc_board.specs.declared.fault.Fault.{Fault}
use Rattle.rc_board.specs.declared.fault.Fault.TheVariants as faults
use Rattle.rc_render.specs.Names.{ok_line}
use Rattle.rc_render.specs.PlanText.{IsPlanText}
use Rattle.rc_render.specs.ReportText.{report_text}
use Rattle.rc_render.specs.RefusalText.{refusal_text}
use Rattle.rc_serve.specs.declared.ending.Ending.{Ending}
use Rattle.rc_serve.specs.declared.ending.Ending.TheVariants.{Done, Refused}
use Rattle.rc_serve.specs.Ending.{ending_of}
use Rattle.rc_serve.specs.Meeting.{IsAnswered}

-- what came of a command that workers carry out, as it is told
abbrev pub IsToldAs : List (List ℕ) → List (List ℕ) → Result Report Fault → Ending → List ℕ
    → Type 0
IsToldAs names words (Ok report) ending text =
    (text ≡ report_text names (told_of report)) × (ending ≡ ending_of (told_of report))
IsToldAs names words (Err (faults.Refused refusal)) ending text =
    IsAnswered refusal × (text ≡ refusal_text words refusal) × (ending ≡ Refused)
IsToldAs names words (Err faults.Workers) ending text = ⊥
IsToldAs names words (Err faults.NoThread) ending text = ⊥
IsToldAs names words (Err faults.Strange) ending text = ⊥

-- what came of an edit, as it is told
abbrev pub IsEditToldAs : {A : Type 0} → List (List ℕ) → Result A Refusal → Ending → List ℕ
    → Type 0
IsEditToldAs words (Ok done) ending text = (text ≡ ok_line) × (ending ≡ Done)
IsEditToldAs words (Err refusal) ending text =
    IsAnswered refusal × (text ≡ refusal_text words refusal) × (ending ≡ Refused)

-- what came of a plan that is wanted, as it is told
abbrev pub IsPlanToldAs : List (List ℕ) → List (List ℕ) → Result PlanSets Refusal → Ending
    → List ℕ → Type 0
IsPlanToldAs names words (Ok plan) ending text = (lines : List ℕ) × IsPlanText names plan lines
    × (text ≡ lines ++ ok_line) × (ending ≡ Done)
IsPlanToldAs names words (Err refusal) ending text =
    IsAnswered refusal × (text ≡ refusal_text words refusal) × (ending ≡ Refused)
