-- What was read of bytes, as a database and as a refusal.
use Rattle.std.proofs.Common.{◌≡◌, ◌∙◌, ◌+◌, ◌-◌, ◌++◌, ℕ, inr, List, [], length, arith, sym, ap}
use Rattle.std.proofs.Common.{subst, length-append}
use Rattle.std.proofs.lemmas.List.{nil_from_length}
use Rattle.rc_model.specs.Database.{Database}
use Rattle.rc_dbtext.specs.Text.{DbText, db_text}
use Rattle.rc_dbtext.specs.declared.fault.TextFault.{TextFault}
use Rattle.rc_dbtext.specs.declared.fault.TextFault.TheVariants.{Bad, Version, NotSorted, Cyclic}
use Rattle.rc_dbtext.specs.declared.fault.TextFault.TheVariants.{TooMany, Dangling, Memory}
use Rattle.rc_dbtext.specs.Spelling.{spelling, text_of}
use Rattle.rc_dbtext.specs.TextFaults.{BeginsWith, IsFrontFault, IsMeaningFault, IsWholeFault}

-- the text of a database that says this
pub spelled : (d : Database) (t : DbText) → text_of d ≡ t → db_text t ≡ spelling d
unfolding spelling
spelled d t says = ap db_text (sym says)

pub spelled_front : (d : Database) (t : DbText) (bytes rest : List ℕ) → text_of d ≡ t
    → bytes ≡ db_text t ++ rest → bytes ≡ spelling d ++ rest
spelled_front d t bytes rest says begins =
    begins ∙ ap (λ (l : List ℕ). l ++ rest) (spelled d t says)

pub spelled_length : (d : Database) (bytes rest : List ℕ) → bytes ≡ spelling d ++ rest
    → length bytes ≡ length (spelling d) + length rest
spelled_length d bytes rest begins = ap length begins ∙ length-append (spelling d) rest

pub front_fault : (bytes rest : List ℕ) (t : DbText) (fault : TextFault) → BeginsWith bytes t rest
    → IsMeaningFault t fault → IsFrontFault bytes fault
front_fault bytes rest t (Bad offset) begins told = absurd told
front_fault bytes rest t Version begins told = absurd told
front_fault bytes rest t NotSorted begins told = (t, rest, begins, told)
front_fault bytes rest t Cyclic begins told = (t, rest, begins, told)
front_fault bytes rest t TooMany begins told = absurd told
front_fault bytes rest t Dangling begins told = (t, rest, begins, told)
front_fault bytes rest t Memory begins told = tt

pub whole_fault : (bytes : List ℕ) (t : DbText) (fault : TextFault) → BeginsWith bytes t []
    → IsMeaningFault t fault → IsWholeFault bytes fault
whole_fault bytes t (Bad offset) begins told = absurd told
whole_fault bytes t Version begins told = absurd told
whole_fault bytes t NotSorted begins told = (t, begins, told)
whole_fault bytes t Cyclic begins told = (t, begins, told)
whole_fault bytes t TooMany begins told = absurd told
whole_fault bytes t Dangling begins told = (t, begins, told)
whole_fault bytes t Memory begins told = tt

-- nothing follows
pub nothing_behind : (bytes rest : List ℕ) (t : DbText) → length rest ≡ 0 → BeginsWith bytes t rest
    → BeginsWith bytes t []
nothing_behind bytes rest t none begins =
    subst (BeginsWith bytes t) (nil_from_length rest none) begins

-- more bytes follow, from this offset on
pub more_behind : (bytes rest : List ℕ) (t : DbText) → (length rest ≡ 0 → ⊥)
    → BeginsWith bytes t rest → IsWholeFault bytes (Bad (length bytes - length rest))
more_behind bytes rest t some begins =
    let long : length bytes ≡ length (db_text t) + length rest =
    ap length begins.1 ∙ length-append (db_text t) rest in
    inr (t, rest, begins, (λ none. some (ap length none)), omega arith)
