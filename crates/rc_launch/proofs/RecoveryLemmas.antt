-- What comes of a run log that was read.
use Rattle.std.proofs.Common.{◌≡◌, ◌↔◌, ℕ, Bool, IsTrue, List, Option, Some, option_map, subst, sym}
use Rattle.rc_cli.specs.Begun.{LogsStep, LogsWay}
use Rattle.rc_historytext.specs.declared.keeping.Keeping.{Keeping}
use Rattle.rc_recovery.specs.Files.{Files}
use Rattle.rc_launch.specs.Keeping.{KeepsAs, keeping_by}
use Rattle.rc_launch.specs.Recovered.{Comes, ComesBy, ComesFor}
use Rattle.rc_launch.specs.Loading.{bytes_in}
use Rattle.rc_launch.specs.declared.loading.Loaded.{Loaded}
use Rattle.rc_launch.specs.declared.recovered.Came.{Came}
use Rattle.rc_launch.specs.declared.texts.FileText.{FileText}

-- what comes by the database of a session
pub came_by : (command : Loaded) (base : FileText) (bytes : List ℕ) (old new : Files)
    (came : Came) → command.base ≡ Some base → bytes ≡ bytes_in base
    → ComesBy bytes old new came → ComesFor command old new came
came_by command base bytes old new came is same by =
    subst (λ (b : Option FileText). Comes (option_map bytes_in b) old new came) (sym is)
    (subst (λ (t : List ℕ). ComesBy t old new came) same by)

-- what was read of a log says how its command keeps the states of the session
pub keeps_as : (text log t l s m : List ℕ) (step way : Bool) (keeping : Keeping) → t ≡ text
    → l ≡ log → s ≡ text → m ≡ log → (IsTrue step ↔ LogsStep t l) → (IsTrue way ↔ LogsWay s m)
    → keeping ≡ keeping_by step way → KeepsAs text log keeping
keeps_as text log t l s m step way keeping of_text of_log text_of log_of marked logs is = record {
  step = step;
  way = way;
  marked =
      subst (λ (x : List ℕ). IsTrue step ↔ LogsStep x log) of_text
      (subst (λ (x : List ℕ). IsTrue step ↔ LogsStep t x) of_log marked);
  logs =
      subst (λ (x : List ℕ). IsTrue way ↔ LogsWay x log) text_of
      (subst (λ (x : List ℕ). IsTrue way ↔ LogsWay s x) log_of logs);
  is = is;
}
