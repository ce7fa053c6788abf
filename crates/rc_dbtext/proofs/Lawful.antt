-- No text of a database is refused, and each is that of one database.
use Rattle.std.proofs.Common.{◌≡◌, ◌≢◌, ◌∙◌, ◌++◌, inl, inr, ℕ, List, [], refl, sym, subst}
use Rattle.std.proofs.lemmas.List.{append-nil}
use Rattle.rc_model.specs.Database.{Database, IsDatabase}
use Rattle.rc_db.specs.Database.{IsWritable}
use Rattle.rc_dbtext.specs.declared.syntax.fault.FormFault.{FormFault}
use Rattle.rc_dbtext.specs.declared.syntax.fault.FormFault.TheVariants as form
use Rattle.rc_dbtext.specs.Text.{DbText, IsDbText, db_lines, db_text}
use Rattle.rc_dbtext.specs.Reading.{IsRefused}
use Rattle.rc_dbtext.specs.declared.fault.TextFault.{TextFault}
use Rattle.rc_dbtext.specs.declared.fault.TextFault.TheVariants.{Bad, Version, NotSorted, Cyclic}
use Rattle.rc_dbtext.specs.declared.fault.TextFault.TheVariants.{TooMany, Dangling, Memory}
use Rattle.rc_dbtext.specs.Meaning.{IsComplete, IsCyclic, IsSorted}
use Rattle.rc_dbtext.specs.Spelling.{spelling, text_of}
use Rattle.rc_dbtext.specs.TextFaults.{BeginsWith, IsFrontFault, IsWholeFault}
use Rattle.rc_dbtext.proofs.Spelled.{can_be_spelled, has_no_cycle, is_complete, is_sorted}

-- what is known of texts by their form alone
pub record FormLaws : Type 0 where
  pub front : (a b : DbText) (rest : List ℕ) → IsDbText a → IsDbText b
      → db_text a ++ rest ≡ db_text b → rest ≡ []
  pub value : (a b : DbText) (x y : List ℕ) → IsDbText a → IsDbText b
      → db_text a ++ x ≡ db_text b ++ y → a ≡ b
  pub refused : (t : DbText) (rest : List ℕ) (fault : FormFault) → IsDbText t
      → IsRefused IsDbText db_lines (db_text t ++ rest) fault → fault ≡ form.Memory

module _ (laws : FormLaws) (d : Database) (is : IsDatabase d) (writable : IsWritable d) where
  same_text : (rest other : List ℕ) (t : DbText) → BeginsWith (db_text (text_of d) ++ rest) t other
      → text_of d ≡ t
  same_text rest other t begins =
      laws.value (text_of d) t rest other (can_be_spelled d is writable) begins.0 begins.1

  no_form_fault : (rest : List ℕ) (fault : FormFault) → fault ≢ form.Memory
      → IsRefused IsDbText db_lines (db_text (text_of d) ++ rest) fault → ⊥
  no_form_fault rest fault other refused =
      other (laws.refused (text_of d) rest fault (can_be_spelled d is writable) refused)

  unsorted : (rest other : List ℕ) (t : DbText) → BeginsWith (db_text (text_of d) ++ rest) t other
      → (IsSorted t → ⊥) → ⊥
  unsorted rest other t begins not =
      not (subst IsSorted (same_text rest other t begins) (is_sorted d is writable))

  dangling : (rest other : List ℕ) (t : DbText) → BeginsWith (db_text (text_of d) ++ rest) t other
      → (IsComplete t → ⊥) → ⊥
  dangling rest other t begins not =
      not (subst IsComplete (same_text rest other t begins) (is_complete d is writable))

  cyclic : (rest other : List ℕ) (t : DbText) → BeginsWith (db_text (text_of d) ++ rest) t other
      → IsCyclic t.services → ⊥
  cyclic rest other t begins found =
      has_no_cycle d is writable
      (subst (λ (x : DbText). IsCyclic x.services) (sym (same_text rest other t begins)) found)

  front_by_text : (rest : List ℕ) (fault : TextFault)
      → IsFrontFault (db_text (text_of d) ++ rest) fault → fault ≡ Memory
  front_by_text rest (Bad offset) found =
      absurd (no_form_fault rest (form.Bad found.0) (λ same. cc) found.2)
  front_by_text rest Version found = absurd (no_form_fault rest form.Version (λ same. cc) found)
  front_by_text rest NotSorted found = absurd (unsorted rest found.1 found.0 found.2 found.3)
  front_by_text rest Cyclic found = absurd (cyclic rest found.1 found.0 found.2 found.3.2)
  front_by_text rest TooMany found = absurd (no_form_fault rest form.TooMany (λ same. cc) found)
  front_by_text rest Dangling found = absurd (dangling rest found.1 found.0 found.2 found.3.1)
  front_by_text rest Memory found = refl

  more_behind : (t : DbText) (rest : List ℕ) → BeginsWith (db_text (text_of d) ++ []) t rest
      → rest ≡ []
  more_behind t rest begins =
      laws.front t (text_of d) rest begins.0 (can_be_spelled d is writable)
      (sym begins.1 ∙ append-nil (db_text (text_of d)))

  whole_by_text : (fault : TextFault) → IsWholeFault (db_text (text_of d) ++ []) fault
      → fault ≡ Memory
  whole_by_text (Bad offset) found = elim found [
    | inl bad ↦ absurd (no_form_fault [] (form.Bad bad.0) (λ same. cc) bad.2)
    | inr more ↦ absurd (more.3 (more_behind more.0 more.1 more.2))
  ]
  whole_by_text Version found = absurd (no_form_fault [] form.Version (λ same. cc) found)
  whole_by_text NotSorted found = absurd (unsorted [] [] found.0 found.1 found.2)
  whole_by_text Cyclic found = absurd (cyclic [] [] found.0 found.1 found.2.2)
  whole_by_text TooMany found = absurd (no_form_fault [] form.TooMany (λ same. cc) found)
  whole_by_text Dangling found = absurd (dangling [] [] found.0 found.1 found.2.1)
  whole_by_text Memory found = refl

  pub never_at_front : (rest : List ℕ) (fault : TextFault) → IsFrontFault (spelling d ++ rest) fault
      → fault ≡ Memory
  unfolding spelling
  never_at_front rest fault found = front_by_text rest fault found

  pub never_whole : (fault : TextFault) → IsWholeFault (spelling d) fault → fault ≡ Memory
  unfolding spelling
  never_whole fault found =
      whole_by_text fault
      (subst (λ (l : List ℕ). IsWholeFault l fault) (sym (append-nil (db_text (text_of d)))) found)
