-- What is so of a database with its input, and where there is none.
use Rattle.std.proofs.Common.{◌≡◌, ◌≢◌, ◌⊎◌, ◌≤◌, ℕ, List, [], Option, None, Some, Result, Ok, Err}
use Rattle.std.proofs.Common.{IfSome, ◌-◌, length, subst, arith, inl, inr}
use Rattle.std.specs.Io.KnownBytes.{IsAtEnd}
use Rattle.rc_model.specs.Database.{Database}
use Rattle.rc_dbtext.specs.declared.fault.TextFault.{TextFault}
use Rattle.rc_dbtext.specs.declared.fault.TextFault.TheVariants as text
use Rattle.rc_streams.specs.Input.{IsCause}
use Rattle.rc_streams.specs.declared.input.Failure.{Failure}
use Rattle.rc_streams.specs.declared.input.Failure.TheVariants as failures
use Rattle.rc_dbtext.specs.Base.{IsTextFault}
use Rattle.rc_dbtext.specs.Opening.{IsOpenFault, IsWrongBase, Opens}
use Rattle.rc_dbtext.specs.declared.opening.OpenFault.TheVariants.{OfText}
use Rattle.rc_dbtext.proofs.OpeningLemmas.{refused_in}

-- what refuses the text refuses it in the input that a reader has, if that is known
pub refused_text : (base remaining after : Option (List ℕ)) (failed : Type 0) (wrong : TextFault)
    → IsOpenFault base remaining after failed (OfText wrong)
    → IfSome remaining (λ all. IsTextFault base all wrong)
refused_text base remaining after failed wrong (input, reads, refused, other) =
    refused_in base remaining after wrong input reads refused

-- the base of a database is not wrong
pub base_right : (base remaining after : Option (List ℕ)) (d : Database) (held : List ℕ) (start : ℕ)
    → Opens base remaining after d held start → IsWrongBase base → ⊥
base_right None remaining after d held start opens wrong = wrong
base_right (Some bytes) remaining after d held start opens wrong =
    wrong d opens.spelled.0 opens.spelled.1 opens.spelled.2

-- an input that was read is within the bound
pub input_within : (base remaining after : Option (List ℕ)) (d : Database) (held : List ℕ)
    (start : ℕ) → Opens base remaining after d held start
    → IfSome remaining (λ input. length input ≤ 16777216)
input_within base None after d held start opens = tt
input_within base (Some all) after d held start opens =
    subst (λ (x : List ℕ). length x ≤ 16777216) opens.reads.0 opens.reads.1

-- a text is refused for a wrong base, or where all was read within the bound, or where memory runs
-- out
pub refused_within : (base remaining after : Option (List ℕ)) (failed : Type 0)
    (wrong : TextFault) → IsOpenFault base remaining after failed (OfText wrong)
    → wrong ≢ text.Memory → IsWrongBase base ⊎ IfSome remaining (λ input. length input ≤ 16777216)
refused_within None None after failed wrong h other = inr tt
refused_within None (Some all) after failed wrong (input, reads, refused, why) other =
    inr (subst (λ (x : List ℕ). length x ≤ 16777216) reads.0 reads.1)
refused_within (Some base) remaining after failed wrong (input, reads, refused, why) other =
    elim (why other) [ inl none ↦ (let no : ⊥ = cc in absurd no) | inr bad ↦ inl bad ]

-- a command that failed neither ended well nor refused
pub failed_alone : (status : ℕ) → status ≡ 111 → (status ≡ 0) ⊎ (status ≡ 1) → ⊥
failed_alone status failed (inl zero) = omega (arith, zero, failed)
failed_alone status failed (inr refused) = omega (arith, refused, failed)

-- one whose fault was told did not end well
pub told_undone : (status : ℕ) → (status ≡ 1) ⊎ (status ≡ 111) → status ≡ 0 → ⊥
told_undone status (inl refused) zero = omega (arith, refused, zero)
told_undone status (inr failed) zero = omega (arith, failed, zero)

-- a reader that failed while the input was opened had failed before, where there is an input
pub opened_sound : {T E P Q : Type 0} (r : Result T E) (x : T) (e : E) → r ≡ Ok x
    → P ⊎ (r ≡ Err e) → P ⊎ Q
opened_sound r x e is (inl before) = inl before
opened_sound r x e is (inr read) = let no : ⊥ = cc in absurd no

-- an input that was not read whole has a cause, whatever the writer does
pub cause_wider : (remaining : Option (List ℕ)) (reader writer : Type 0) (failure : Failure)
    → IsCause remaining reader ⊥ failure → IsCause remaining reader writer failure
cause_wider remaining reader writer failures.TooLong h = h
cause_wider remaining reader writer failures.Read h = h
cause_wider remaining reader writer failures.Write h = absurd h
cause_wider remaining reader writer failures.Memory h = tt

-- where the base is wrong its text is refused, whatever the input has
pub wrong_base : (base remaining after : Option (List ℕ)) (failed : Type 0) (wrong : TextFault)
    → IsOpenFault base remaining after failed (OfText wrong) → IsWrongBase base
    → IsTextFault base [] wrong
wrong_base None remaining after failed wrong h bad = absurd bad
wrong_base (Some base) remaining after failed wrong (input, reads, refused, why) bad = refused

-- a text is refused for a wrong base, or where all was read to the end, or where memory runs out
pub refused_end : (base remaining after : Option (List ℕ)) (failed : Type 0) (wrong : TextFault)
    → IsOpenFault base remaining after failed (OfText wrong) → wrong ≢ text.Memory
    → IsWrongBase base ⊎ IsAtEnd after
refused_end None remaining after failed wrong (input, reads, refused, why) other = inr reads.2
refused_end (Some base) remaining after failed wrong (input, reads, refused, why) other =
    elim (why other) [ inl none ↦ (let no : ⊥ = cc in absurd no) | inr bad ↦ inl bad ]
