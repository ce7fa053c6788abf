-- Files of which nothing is entered.
use Rattle.std.proofs.Common.{◌≡◌, ◌≢◌, ◌∙◌, ◌⊎◌, inl, inr, ℕ, List, [], ◌∷◌, ◌++◌, Option, Some}
use Rattle.std.proofs.Common.{None, length, arith, refl, ap, sym, subst}
use Rattle.std.proofs.lemmas.List.Elements.{recursion_from_All}
use Rattle.rc_model.specs.Database.{Database}
use Rattle.rc_model.specs.Session.{Command}
use Rattle.rc_script.specs.Script.{IsScript}
use Rattle.rc_script.specs.declared.script.ScriptFault.TheVariants as script_fault
use Rattle.rc_recovery.specs.RunLog.{HasScript, IsEntered, IsUnfit, LogsAll}
use Rattle.rc_recovery.specs.Files.{AfterCrash, Files}
use Rattle.rc_recovery.specs.Logging.{unlogged_writes}
use Rattle.rc_recovery.specs.Recoveries.{AreCutRecoveries, EndsIn, IsAtRest, IsCutRecovery, Makes}
use Rattle.rc_recovery.specs.Recoveries.{text_after}
use Rattle.rc_recovery.proofs.Bytes.{Bare, nothing, one_whole}
use Rattle.rc_recovery.proofs.Known.{Scripts}
use Rattle.rc_recovery.proofs.Reading.{reads_none}

abbrev pub files : (text log : List ℕ) → Files
files text log = record { file = text; log = log }

-- what stands behind the text in a log has no newline
abbrev pub IsBareLog : (text log : List ℕ) → Type 0
IsBareLog text log = (rest : List ℕ) → log ≡ text ++ rest → Bare rest

no_script : (text log script : List ℕ) → IsBareLog text log → HasScript text log script
    → script ≡ []
no_script text log script bare (rest, at, are) =
    one_whole script are.part [] rest (sym are.bytes_are) are.ends (inl refl)
    (recursion_from_All (λ byte. byte ≢ 10) are.part are.torn) (bare rest at)

module _ (scripts : Scripts) (d : Database) where
  says_none : (script : List ℕ) (commands : List Command) → script ≡ []
      → IsScript d.names script commands → commands ≡ []
  says_none script commands none is =
      let P : List ℕ → Type 0 = λ s. IsScript d.names s commands in
      scripts.one d.names [] commands [] (subst P none is) (reads_none d.names [])

  logs_none : (text log : List ℕ) (commands : List Command) → IsBareLog text log
      → LogsAll d text log commands → commands ≡ []
  logs_none text log commands bare (script, has, is) =
      says_none script commands (no_script text log script bare has) is

  bare_nothing : (text log entered told : List ℕ) → IsBareLog text log
      → IsEntered d text log entered told → ⊥
  bare_nothing text log entered told bare (commands, logs, one) =
      let none : commands ≡ [] = logs_none text log commands bare logs in
      let some : commands ≡ one.0 ∷ [] = one.1 in
      cc

  bare_fits : (text log : List ℕ) → IsBareLog text log → IsUnfit d text log → ⊥
  bare_fits text log bare (inl (script, number, has, wrong)) =
      let none : script ≡ [] = no_script text log script bare has in
      let commands : List Command = wrong.commands in
      let fault : script_fault.BadLine number ≡ script_fault.Memory =
      scripts.right d.names script [] (script_fault.BadLine number)
      (subst (λ (s : List ℕ). IsScript d.names s []) (sym none) (reads_none d.names [])) wrong
      in cc
  bare_fits text log bare (inr (commands, logs, inl many)) =
      let none : length commands ≡ 0 = ap length (logs_none text log commands bare logs) in
      absurd (omega (arith, many, none))
  bare_fits text log bare (inr (commands, logs, inr one)) =
      let none : commands ≡ [] = logs_none text log commands bare logs in
      let some : commands ≡ one.0 ∷ [] = one.1 in
      cc

  pub bare_rests : (text log : List ℕ) → IsBareLog text log → IsAtRest d (files text log)
  bare_rests text log bare = record {
    nothing = λ entered told is. bare_nothing text log entered told bare is;
    fits = λ unfit. bare_fits text log bare unfit;
  }

  pub empty_rests : (text : List ℕ) → IsAtRest d (files text [])
  empty_rests text =
      bare_rests text [] (λ rest at. subst Bare (sym (nothing text rest (sym at)).1) tt)

  -- recoveries leave such files so
  abbrev IsStill : Files → Files → Type 0
  IsStill f g = (g.file ≡ f.file) × IsAtRest d g

  as_it_was : (f g : Files) → IsAtRest d f → g ≡ f → IsStill f g
  as_it_was f g rest same =
      (ap (λ (x : Files). x.file) same, subst (IsAtRest d) (sym same) rest)

  pub still : (f g : Files) → IsAtRest d f → IsCutRecovery d f g → (g.file ≡ f.file) × IsAtRest d g
  still f g rest (inl same) = as_it_was f g rest same
  still f g rest (inr (None, made, inl same)) = as_it_was f g rest same
  still f g rest (inr (None, made, inr (inl same))) = as_it_was f g rest same
  still f g rest (inr (None, made, inr (inr done))) =
      (ap (λ (x : Files). x.file) done, subst (IsAtRest d) (sym done) (empty_rests f.file))
  still f g rest (inr (Some text, made, crash)) = absurd (rest.nothing text made.0 made.1)

  pub all_still : (f : Files) (left : List Files) (g : Files) → IsAtRest d f
      → AreCutRecoveries d f left g → (g.file ≡ f.file) × IsAtRest d g
  all_still f [] g rest same = as_it_was f g rest same
  all_still f (h ∷ left) g rest (first, more) =
      let one = still f h rest first in
      let others = all_still h left g one.1 more in
      (others.0 ∙ one.0, others.1)

  made_still : (f : Files) (made : Option (List ℕ)) → IsAtRest d f → Makes d f made
      → text_after f made ≡ f.file
  made_still f None rest makes = refl
  made_still f (Some text) rest makes = absurd (rest.nothing text makes.0 makes.1)

  pub ends_still : (f : Files) (text : List ℕ) → IsAtRest d f → EndsIn d f text → text ≡ f.file
  ends_still f text rest (left, g, cut, (made, makes, is)) =
      let last = all_still f left g rest cut in
      is ∙ made_still g made last.1 makes ∙ last.0

  -- a command that logs nothing
  ends_as : (file text : List ℕ) (g : Files) → g ≡ files file [] → EndsIn d g text → text ≡ file
  ends_as file text g same ends =
      ends_still g text (subst (IsAtRest d) (sym same) (empty_rests file)) ends
      ∙ ap (λ (x : Files). x.file) same

  pub unlogged : (old new text : List ℕ) (g : Files)
      → AfterCrash (unlogged_writes new) (files old []) g → EndsIn d g text
      → (text ≡ old) ⊎ (text ≡ new)
  unlogged old new text g (inl same) ends = inl (ends_as old text g same ends)
  unlogged old new text g (inr (inl same)) ends = inl (ends_as old text g same ends)
  unlogged old new text g (inr (inr same)) ends = inr (ends_as new text g same ends)
