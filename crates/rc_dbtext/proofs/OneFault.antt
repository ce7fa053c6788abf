-- What refuses bytes is one, out of memory aside.
use Rattle.std.proofs.Common.{◌≡◌, ◌≢◌, ◌∙◌, ◌+◌, ◌++◌, ◌∷◌, ◌⊎◌, inl, inr, ℕ, List, [], length}
use Rattle.std.proofs.Common.{arith, refl, sym, ap, subst}
use Rattle.rc_dbtext.specs.declared.syntax.fault.FormFault.{FormFault}
use Rattle.rc_dbtext.specs.declared.syntax.fault.FormFault.TheVariants as form
use Rattle.rc_dbtext.specs.Text.{DbText, IsDbText, db_lines, db_text}
use Rattle.rc_dbtext.specs.Reading.{IsRefused}
use Rattle.rc_dbtext.specs.declared.fault.TextFault.{TextFault}
use Rattle.rc_dbtext.specs.declared.fault.TextFault.TheVariants.{Bad, Version, NotSorted, Cyclic}
use Rattle.rc_dbtext.specs.declared.fault.TextFault.TheVariants.{TooMany, Dangling, Memory}
use Rattle.rc_dbtext.specs.TextFaults.{BeginsWith, HasFormFault, IsFrontFault, IsMeaningFault}
use Rattle.rc_dbtext.specs.TextFaults.{IsWholeFault}
use Rattle.rc_dbtext.proofs.Lawful.{FormLaws}

abbrev pub IsOneRefusal : Type 0
IsOneRefusal = (bytes : List ℕ) (a b : FormFault) → IsRefused IsDbText db_lines bytes a
    → IsRefused IsDbText db_lines bytes b → a ≢ form.Memory → b ≢ form.Memory → a ≡ b

-- a refusal for the form, told in bytes from the beginning
abbrev IsTold : List ℕ → FormFault → TextFault → Type 0
IsTold bytes (form.Bad left) fault =
    (offset : ℕ) × (offset + left ≡ length bytes) × (fault ≡ Bad offset)
IsTold bytes form.Version fault = fault ≡ Version
IsTold bytes form.TooMany fault = fault ≡ TooMany
IsTold bytes form.Memory fault = ⊥

abbrev IsOfForm : List ℕ → TextFault → Type 0
IsOfForm bytes fault =
    (of : FormFault) × HasFormFault bytes of × (of ≢ form.Memory) × IsTold bytes of fault

-- a refusal of a text that stands in front, for what follows it or for what it says
abbrev IsOfText : (DbText → List ℕ → TextFault → Type 0) → List ℕ → TextFault → Type 0
IsOfText Why bytes fault =
    (t : DbText) × (rest : List ℕ) × BeginsWith bytes t rest × Why t rest fault

abbrev WhyFront : DbText → List ℕ → TextFault → Type 0
WhyFront t rest fault = IsMeaningFault t fault

abbrev WhyWhole : DbText → List ℕ → TextFault → Type 0
WhyWhole t rest fault =
    ((rest ≢ []) × (fault ≡ Bad (length (db_text t)))) ⊎ ((rest ≡ []) × IsMeaningFault t fault)

told_once : (bytes : List ℕ) (of : FormFault) (a b : TextFault) → IsTold bytes of a
    → IsTold bytes of b → a ≡ b
told_once bytes (form.Bad left) a b told_a told_b =
    let same : told_a.0 ≡ told_b.0 = omega (arith, told_a.1, told_b.1) in
    told_a.2 ∙ ap Bad same ∙ sym told_b.2
told_once bytes form.Version a b told_a told_b = told_a ∙ sym told_b
told_once bytes form.TooMany a b told_a told_b = told_a ∙ sym told_b
told_once bytes form.Memory a b told_a told_b = absurd told_a

-- the tests of what a text says exclude each other
one_meaning : (t : DbText) (a b : TextFault) → IsMeaningFault t a → IsMeaningFault t b → a ≢ Memory
    → b ≢ Memory → a ≡ b
one_meaning t Memory b of_a of_b not_a not_b = absurd (not_a refl)
one_meaning t a Memory of_a of_b not_a not_b = absurd (not_b refl)
one_meaning t NotSorted NotSorted of_a of_b not_a not_b = refl
one_meaning t NotSorted Cyclic of_a of_b not_a not_b = absurd (of_a of_b.0)
one_meaning t NotSorted Dangling of_a of_b not_a not_b = absurd (of_a of_b.0)
one_meaning t Cyclic NotSorted of_a of_b not_a not_b = absurd (of_b of_a.0)
one_meaning t Cyclic Cyclic of_a of_b not_a not_b = refl
one_meaning t Cyclic Dangling of_a of_b not_a not_b = absurd (of_b.1 of_a.1)
one_meaning t Dangling NotSorted of_a of_b not_a not_b = absurd (of_b of_a.0)
one_meaning t Dangling Cyclic of_a of_b not_a not_b = absurd (of_a.1 of_b.1)
one_meaning t Dangling Dangling of_a of_b not_a not_b = refl
one_meaning t NotSorted (Bad offset) of_a of_b not_a not_b = absurd of_b
one_meaning t NotSorted Version of_a of_b not_a not_b = absurd of_b
one_meaning t NotSorted TooMany of_a of_b not_a not_b = absurd of_b
one_meaning t Cyclic (Bad offset) of_a of_b not_a not_b = absurd of_b
one_meaning t Cyclic Version of_a of_b not_a not_b = absurd of_b
one_meaning t Cyclic TooMany of_a of_b not_a not_b = absurd of_b
one_meaning t Dangling (Bad offset) of_a of_b not_a not_b = absurd of_b
one_meaning t Dangling Version of_a of_b not_a not_b = absurd of_b
one_meaning t Dangling TooMany of_a of_b not_a not_b = absurd of_b
one_meaning t (Bad offset) b of_a of_b not_a not_b = absurd of_a
one_meaning t Version b of_a of_b not_a not_b = absurd of_a
one_meaning t TooMany b of_a of_b not_a not_b = absurd of_a

one_front : (t : DbText) (rest : List ℕ) (a b : TextFault) → WhyFront t rest a → WhyFront t rest b
    → a ≢ Memory → b ≢ Memory → a ≡ b
one_front t rest a b of_a of_b not_a not_b = one_meaning t a b of_a of_b not_a not_b

one_whole : (t : DbText) (rest : List ℕ) (a b : TextFault) → WhyWhole t rest a → WhyWhole t rest b
    → a ≢ Memory → b ≢ Memory → a ≡ b
one_whole t rest a b of_a of_b not_a not_b = elim of_a [
  | inl more_a ↦ elim of_b [
    | inl more_b ↦ more_a.1 ∙ sym more_b.1
    | inr said_b ↦ absurd (more_a.0 said_b.0)
  ]
  | inr said_a ↦ elim of_b [
    | inl more_b ↦ absurd (more_b.0 said_a.0)
    | inr said_b ↦ one_meaning t a b said_a.1 said_b.1 not_a not_b
  ]
]

module _ (laws : FormLaws) (one : IsOneRefusal) where
  append-cancel : (text x y : List ℕ) → text ++ x ≡ text ++ y → x ≡ y
  append-cancel [] x y same = same
  append-cancel (c ∷ text) x y same = append-cancel text x y cc

  -- a text stands in front, or its form is refused, and not both
  not_both : (Why : DbText → List ℕ → TextFault → Type 0) (bytes : List ℕ) (a b : TextFault)
      → IsOfForm bytes a → IsOfText Why bytes b → ⊥
  not_both Why bytes a b of_form of_text =
      of_form.2 (laws.refused of_text.0 of_text.1 of_form.0 of_text.2.0
      (subst (λ (l : List ℕ). HasFormFault l of_form.0) of_text.2.1 of_form.1))

  module _ (Why : DbText → List ℕ → TextFault → Type 0)
      (one_why : (t : DbText) (rest : List ℕ) (a b : TextFault) → Why t rest a → Why t rest b
      → a ≢ Memory → b ≢ Memory → a ≡ b) where
    by_text : (bytes : List ℕ) (a b : TextFault) → IsOfText Why bytes a → IsOfText Why bytes b
        → a ≢ Memory → b ≢ Memory → a ≡ b
    by_text bytes a b of_a of_b not_a not_b =
        let (t, rest, begins, why_a) = of_a in
        let (u, other, begins_u, why_b) = of_b in
        let text : t ≡ u =
        laws.value t u rest other begins.0 begins_u.0 (sym begins.1 ∙ begins_u.1) in
        let behind : rest ≡ other = append-cancel (db_text t) rest other
        (sym begins.1 ∙ begins_u.1 ∙ ap (λ (v : DbText). db_text v ++ other) (sym text)) in
        one_why t rest a b why_a
        (subst (λ (l : List ℕ). Why t l b) (sym behind)
        (subst (λ (v : DbText). Why v other b) (sym text) why_b)) not_a not_b

    one_of : (bytes : List ℕ) (a b : TextFault) → IsOfForm bytes a ⊎ IsOfText Why bytes a
        → IsOfForm bytes b ⊎ IsOfText Why bytes b → a ≢ Memory → b ≢ Memory → a ≡ b
    one_of bytes a b of_a of_b not_a not_b = elim of_a [
      | inl form_a ↦ elim of_b [
        | inl form_b ↦
            let same : form_a.0 ≡ form_b.0 =
            one bytes form_a.0 form_b.0 form_a.1 form_b.1 form_a.2 form_b.2 in
            told_once bytes form_a.0 a b form_a.3
            (subst (λ (f : FormFault). IsTold bytes f b) (sym same) form_b.3)
        | inr text_b ↦ absurd (not_both Why bytes a b form_a text_b)
      ]
      | inr text_a ↦ elim of_b [
        | inl form_b ↦ absurd (not_both Why bytes b a form_b text_a)
        | inr text_b ↦ by_text bytes a b text_a text_b not_a not_b
      ]
    ]

  front_side : (bytes : List ℕ) (a : TextFault) → IsFrontFault bytes a → a ≢ Memory
      → IsOfForm bytes a ⊎ IsOfText WhyFront bytes a
  front_side bytes (Bad offset) found other =
      inl (form.Bad found.0, found.2, (λ same. cc), (offset, found.1, refl))
  front_side bytes Version found other = inl (form.Version, found, (λ same. cc), refl)
  front_side bytes TooMany found other = inl (form.TooMany, found, (λ same. cc), refl)
  front_side bytes NotSorted found other = inr found
  front_side bytes Cyclic found other = inr found
  front_side bytes Dangling found other = inr found
  front_side bytes Memory found other = absurd (other refl)

  whole_side : (bytes : List ℕ) (a : TextFault) → IsWholeFault bytes a → a ≢ Memory
      → IsOfForm bytes a ⊎ IsOfText WhyWhole bytes a
  whole_side bytes (Bad offset) found other = elim found [
    | inl bad ↦ inl (form.Bad bad.0, bad.2, (λ same. cc), (offset, bad.1, refl))
    | inr more ↦ inr (more.0, more.1, more.2, inl (more.3, ap Bad more.4))
  ]
  whole_side bytes Version found other = inl (form.Version, found, (λ same. cc), refl)
  whole_side bytes TooMany found other = inl (form.TooMany, found, (λ same. cc), refl)
  whole_side bytes NotSorted found other = inr (found.0, [], found.1, inr (refl, found.2))
  whole_side bytes Cyclic found other = inr (found.0, [], found.1, inr (refl, found.2))
  whole_side bytes Dangling found other = inr (found.0, [], found.1, inr (refl, found.2))
  whole_side bytes Memory found other = absurd (other refl)

  pub one_at_front : (bytes : List ℕ) (a b : TextFault) → IsFrontFault bytes a
      → IsFrontFault bytes b → a ≢ Memory → b ≢ Memory → a ≡ b
  one_at_front bytes a b of_a of_b not_a not_b =
      one_of WhyFront one_front bytes a b (front_side bytes a of_a not_a)
      (front_side bytes b of_b not_b) not_a not_b

  pub one_of_whole : (bytes : List ℕ) (a b : TextFault) → IsWholeFault bytes a
      → IsWholeFault bytes b → a ≢ Memory → b ≢ Memory → a ≡ b
  one_of_whole bytes a b of_a of_b not_a not_b =
      one_of WhyWhole one_whole bytes a b (whole_side bytes a of_a not_a)
      (whole_side bytes b of_b not_b) not_a not_b
