use Rattle.std.proofs.Common.{◌≡◌, ℕ, List, [], refl}
use Rattle.rc_model.specs.Session.{Command}
use Rattle.rc_script.specs.Script.{IsScript, IsScriptFault, lines_in}
use Rattle.rc_script.specs.declared.script.ScriptFault.{ScriptFault}
use Rattle.rc_script.specs.declared.script.ScriptFault.TheVariants.{BadLine, Memory}
use Rattle.rc_script.proofs.OneScript.{reads_once, scripts_are_right}
use Rattle.rc_script.proofs.laws.scripts_give_one_list.Goals as goal

pub returns-clause-value : goal.returns-clause-value
returns-clause-value c = λ names text a b x y. reads_once names (lines_in text) [] a b x y

refused : (names : List (List ℕ)) (text : List ℕ) (commands : List Command) (fault : ScriptFault)
    → IsScript names text commands → IsScriptFault names text fault → fault ≡ Memory
refused names text commands Memory is wrong = refl
refused names text commands (BadLine n) is wrong =
    absurd (scripts_are_right names text commands n is wrong)

pub returns-clause-fault : goal.returns-clause-fault
returns-clause-fault c = refused
