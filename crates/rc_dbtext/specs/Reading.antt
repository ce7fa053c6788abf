-- Values that are read line by line: where reading succeeds, where it is stuck, and what refuses
-- it.
use Rattle.std.specs.Prelude.{◌≡◌, ◌≢◌, ◌<◌, ℕ, List, [], ◌∷◌, length, All, codes}
use Rattle.std.specs.Str.Parse.{digits_value}
use Rattle.rc_dbtext.specs.declared.syntax.fault.FormFault.{FormFault}
use Rattle.rc_dbtext.specs.declared.syntax.fault.FormFault.TheVariants.{Bad, Version, TooMany}
use Rattle.rc_dbtext.specs.declared.syntax.fault.FormFault.TheVariants.{Memory}
pub use Rattle.rc_dbtext.specs.Words.{IsNumber, HasNumber}
use Rattle.rc_dbtext.specs.Form as form
use Rattle.rc_dbtext.specs.Text.{Line, First, ServiceCount, BundleCount, spell}

-- the lines of a value that is one line
abbrev pub one : {A : Type 0} → (A → Line) → A → List Line
one line value = line value ∷ []

-- so many values, all of them such
abbrev pub AreSo : {A : Type 0} → (A → Type 0) → ℕ → List A → Type 0
AreSo Is n values = (length values ≡ n) × All Is values

-- the value is such, and its lines stand in front of the rest
abbrev pub IsRead : {A : Type 0} → (A → Type 0) → (A → List Line) → List ℕ → A → List ℕ → Type 0
IsRead Is lines bytes value rest = form.IsRead spell Is lines bytes value rest

-- the lines of some value stand at the beginning up to the one that is due, where the rest begins,
-- and no value has one line more there
abbrev pub IsStuck : {A : Type 0} → (A → Type 0) → (A → List Line)
    → List ℕ → List ℕ → Line → Type 0
IsStuck Is lines bytes rest due = form.IsStuck spell Is lines bytes rest due

-- there is no line of a word and a number here, unless memory ran out
abbrev pub IsNoNumber : List ℕ → List ℕ → FormFault → Type 0
IsNoNumber word bytes (Bad left) =
    (left ≡ length bytes) × (HasNumber word (λ _. Unit {0}) bytes → ⊥)
IsNoNumber word bytes Version = ⊥
IsNoNumber word bytes TooMany = ⊥
IsNoNumber word bytes Memory = Unit {0}

-- there is no such line here, or one with a number above 4,096
abbrev pub IsNoCount : List ℕ → List ℕ → FormFault → Type 0
IsNoCount word bytes TooMany = HasNumber word (λ number. 4096 < digits_value 10 number) bytes
IsNoCount word bytes fault = IsNoNumber word bytes fault

-- the first line is due, and stands here with another number
abbrev pub HasOtherVersion : Line → List ℕ → Type 0
HasOtherVersion First rest = HasNumber (codes "undorc-db") (λ number. number ≢ codes "1") rest
HasOtherVersion other rest = ⊥

-- a count is due, and stands here with more than 4,096
abbrev pub HasTooMany : Line → List ℕ → Type 0
HasTooMany (ServiceCount count) rest =
    HasNumber (codes "services") (λ number. 4096 < digits_value 10 number) rest
HasTooMany (BundleCount count) rest =
    HasNumber (codes "bundles") (λ number. 4096 < digits_value 10 number) rest
HasTooMany other rest = ⊥

-- when reading is refused where it is stuck; a bad line is told by how many bytes are left there,
-- and out of memory may come at any place
abbrev pub IsFaultWhere : (List ℕ → Line → Type 0) → FormFault → Type 0
IsFaultWhere Stuck (Bad left) = (rest : List ℕ) × (due : Line) × Stuck rest due
    × (left ≡ length rest) × (HasOtherVersion due rest → ⊥) × (HasTooMany due rest → ⊥)
IsFaultWhere Stuck Version =
    (rest : List ℕ) × (due : Line) × Stuck rest due × HasOtherVersion due rest
IsFaultWhere Stuck TooMany = (rest : List ℕ) × (due : Line) × Stuck rest due × HasTooMany due rest
IsFaultWhere Stuck Memory = Unit {0}

-- when the lines of a value are refused at the beginning of bytes
abbrev pub IsRefused : {A : Type 0} → (A → Type 0) → (A → List Line) → List ℕ → FormFault → Type 0
IsRefused Is lines bytes fault = IsFaultWhere (IsStuck Is lines bytes) fault
