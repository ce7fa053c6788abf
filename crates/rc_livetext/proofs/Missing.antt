-- Lines that do not stand here.
use Rattle.std.proofs.Common.{ℕ, List}
use Rattle.rc_livetext.specs.declared.form_fault.FormFault.{FormFault}
use Rattle.rc_livetext.specs.declared.form_fault.FormFault.TheVariants.{Bad, Version, Memory}
use Rattle.rc_livetext.specs.Text.{Line}
use Rattle.rc_livetext.specs.Saying.{IsSaid}
use Rattle.rc_livetext.specs.Held.{IsMissing}

-- where no line stands that may be said, none of one kind does
pub missing_one : {A : Type 0} {Is : A → Type 0} (line : A → Line)
    → ((value : A) → Is value → IsSaid (line value)) → (bytes : List ℕ) (fault : FormFault)
    → IsMissing IsSaid (λ l. l) bytes fault → IsMissing Is line bytes fault
missing_one line said bytes (Bad left) missing =
    (missing.0, λ value tail is same. missing.1 (line value) tail (said value is) same)
missing_one line said bytes Version missing = missing
missing_one line said bytes Memory missing = missing
