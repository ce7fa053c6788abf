-- A database with its input, and a refused text as why there is none.
use Rattle.std.proofs.Common.{◌≡◌, ◌∙◌, ◌⊎◌, ◌++◌, ℕ, List, [], Option, None, Some, IfSome, IfErr}
use Rattle.std.proofs.Common.{Result, Ok, Err, arith, inl, inr, length, refl, subst, sym}
use Rattle.std.specs.Result.{IsErrAnd}
use Rattle.rc_model.specs.Database.{Database, IsDatabase}
use Rattle.rc_db.specs.Database.{IsWritable}
use Rattle.rc_dbtext.specs.Spelling.{spelling}
use Rattle.rc_dbtext.specs.declared.fault.TextFault.{TextFault}
use Rattle.rc_streams.specs.declared.input.Failure.TheVariants.{Read}
use Rattle.rc_dbtext.specs.Base.{IsTextFault}
use Rattle.rc_dbtext.specs.Opening.{IsBaseFault, IsInputFault, IsOpenFault, IsWrongBase, Opens}
use Rattle.rc_dbtext.specs.Opening.{Reads}
use Rattle.rc_dbtext.specs.Opening.{ReadsAll}
use Rattle.rc_dbtext.specs.declared.opening.OpenFault.{OpenFault}
use Rattle.rc_dbtext.specs.declared.opening.OpenFault.TheVariants.{OfText, Failed}
use Rattle.rc_dbtext.proofs.FrontLemmas.{front_within, rest_after}

-- a refused base is one before anything is read
pub base_refused : (base : List ℕ) (remaining : Option (List ℕ)) (failed : Type 0)
    (fault : OpenFault) → IsBaseFault base fault
    → IsOpenFault (Some base) remaining remaining failed fault
base_refused base remaining failed (OfText wrong) h =
    ([], (refl, refl), h.0, λ other. inr (h.1 other))
base_refused base remaining failed (Failed failure) h = absurd h

-- and so where a question mark hands it on
pub base_handed : {T : Type 0} (result : Result T OpenFault) (base : List ℕ)
    (remaining : Option (List ℕ)) (failed : Type 0) (fault : OpenFault) → IsBaseFault base fault
    → IsErrAnd result (λ e. e ≡ fault)
    → IfErr result (IsOpenFault (Some base) remaining remaining failed)
base_handed (Ok x) base remaining failed fault h is = absurd is
base_handed (Err e) base remaining failed fault h is =
    subst (IsOpenFault (Some base) remaining remaining failed) (sym is)
    (base_refused base remaining failed fault h)

-- what refuses a text refuses it in the input that a reader has, if that is known
pub refused_in : (base remaining after : Option (List ℕ)) (wrong : TextFault) (input : List ℕ)
    → Reads base remaining after input → IsTextFault base input wrong
    → IfSome remaining (λ all. IsTextFault base all wrong)
refused_in base None after wrong input reads fault = tt
refused_in (Some bytes) (Some all) after wrong input reads fault = fault
refused_in None (Some all) after wrong input reads fault =
    subst (λ (bytes : List ℕ). IsTextFault None bytes wrong) reads.0 fault

-- an input that was not read whole is why there is no database with it, where no base is wrong
pub input_handed : {T : Type 0} (result : Result T OpenFault)
    (base remaining after : Option (List ℕ)) (failed : Type 0) (fault : OpenFault)
    → (IsWrongBase base → ⊥) → IsInputFault remaining failed fault
    → IsErrAnd result (λ e. e ≡ fault)
    → IfErr result (IsOpenFault base remaining after failed)
input_handed (Ok x) base remaining after failed fault right h is = absurd is
input_handed (Err e) base remaining after failed (OfText wrong) right h is = absurd h
input_handed (Err e) base remaining after failed (Failed failure) right h is =
    subst (IsOpenFault base remaining after failed) (sym is) (right, h)

-- and a read that has failed is handed on as that
pub read_handed : {T U P : Type 0} (result : Result T OpenFault) (fault : OpenFault)
    → IsErrAnd result (λ e. e ≡ fault)
    → P ⊎ (◌≡◌ {A = Result U OpenFault} (Err fault) (Err (Failed Read)))
    → P ⊎ (result ≡ Err (Failed Read))
read_handed result fault is (inl before) = inl before
read_handed (Ok x) fault is (inr read) = absurd is
read_handed (Err e) fault is (inr read) = inr cc

-- an input that was read had no read that failed
pub read_sound : {T E P Q : Type 0} (value : T) (fault : E) → P ⊎ (Ok value ≡ Err fault) → P ⊎ Q
read_sound value fault (inl before) = inl before
read_sound value fault (inr read) = let no : ⊥ = cc in absurd no

-- the database at the beginning of an input, with what is after it
pub front_opens : (remaining after : Option (List ℕ)) (d : Database) (held bytes rest : List ℕ)
    (start : ℕ) → held ≡ bytes → IsDatabase d → IsWritable d → start ≡ length (spelling d)
    → held ≡ spelling d ++ rest → ReadsAll remaining after bytes
    → Opens None remaining after d bytes start
front_opens remaining after d held bytes rest start same database writable at is reads = record {
  within = front_within (spelling d) rest bytes start (sym same ∙ is) at;
  reads = reads;
  spelled = (database, writable, rest_after (spelling d) rest bytes start (sym same ∙ is) at);
}

-- the database of a base, and all of an input
pub base_opens : (remaining after : Option (List ℕ)) (d : Database) (base input : List ℕ)
    → IsDatabase d × IsWritable d × (base ≡ spelling d) → ReadsAll remaining after input
    → Opens (Some base) remaining after d input 0
base_opens remaining after d base input spelled reads = record {
  within = omega arith;
  reads = reads;
  spelled = (spelled.0, spelled.1, spelled.2, refl);
}
