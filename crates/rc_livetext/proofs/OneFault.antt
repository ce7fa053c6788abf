-- What refuses bytes is one, out of memory aside.
use Rattle.std.proofs.Common.{◌≡◌, ◌≢◌, ◌∙◌, ◌+◌, ◌<◌, ◌++◌, ◌∷◌, ◌⊎◌, inl, inr, ℕ, zero, suc, List}
use Rattle.std.proofs.Common.{[], Some, length, take, slice_get, All, arith, refl, sym, ap, subst}
use Rattle.std.proofs.lemmas.List.Elements.{All-head, All-tail}
use Rattle.std.proofs.lemmas.Option.{slice_get_within}
use Rattle.std.proofs.lemmas.List.{append_cancel_left}
use Rattle.rc_model.specs.Database.{Database}
use Rattle.rc_model.proofs.Lists.{all_at}
use Rattle.rc_livetext.specs.declared.form_fault.FormFault.{FormFault}
use Rattle.rc_livetext.specs.declared.form_fault.FormFault.TheVariants as form
use Rattle.rc_livetext.specs.Text.{LiveText, IsLiveText, live_text}
use Rattle.rc_livetext.specs.Refusals.{BeginsWith, IsRefused}
use Rattle.rc_livetext.specs.declared.fault.LiveFault.{LiveFault}
use Rattle.rc_livetext.specs.declared.fault.LiveFault.TheVariants.{Bad, Version, Unknown, NotClosed}
use Rattle.rc_livetext.specs.declared.fault.LiveFault.TheVariants.{SameState, OtherDb, Memory}
use Rattle.rc_livetext.specs.declared.fault.LiveFault.TheVariants.{OverBound}
use Rattle.rc_livetext.specs.Meaning.{IsClosedState, IsFirstNot, all_states}
use Rattle.rc_livetext.specs.LiveFaults.{IsLiveFault, IsMeaningFault}

-- what is known of texts by their form alone
pub record FormLaws : Type 0 where
  pub front : (a b : LiveText) (rest : List ℕ) → IsLiveText a → IsLiveText b
      → live_text a ++ rest ≡ live_text b → rest ≡ []
  pub value : (a b : LiveText) (x y : List ℕ) → IsLiveText a → IsLiveText b
      → live_text a ++ x ≡ live_text b ++ y → a ≡ b
  pub refused : (t : LiveText) (rest : List ℕ) (fault : FormFault) → IsLiveText t
      → IsRefused (live_text t ++ rest) fault → fault ≡ form.Memory

-- at this place stands the first state that is not closed
abbrev pub IsFirstOpen : Database → LiveText → ℕ → Type 0
IsFirstOpen d t place = IsFirstNot (IsClosedState d) (all_states t) place

abbrev pub IsOneRefusal : Type 0
IsOneRefusal = (bytes : List ℕ) (a b : FormFault) → IsRefused bytes a → IsRefused bytes b
    → a ≢ form.Memory → b ≢ form.Memory → a ≡ b

-- what all before a place are, the one at a lower place is
below : {X : Type 0} (P : X → Type 0) (xs : List X) (p q : ℕ) (s : X) → p < q
    → slice_get xs p ≡ Some s → All P (take q xs) → P s
below P [] p q s low there all =
    let none : p < 0 = slice_get_within [] p s there in absurd (omega arith)
below P (x ∷ xs) p zero s low there all = absurd (omega arith)
below P (x ∷ xs) zero (suc q) s low there all = let same : Some x ≡ Some s = there in
    subst P (let is : x ≡ s = cc in is) (All-head P x (take q xs) all)
below P (x ∷ xs) (suc p) (suc q) s low there all =
    below P xs p q s (omega arith) there (All-tail P x (take q xs) all)

-- there is one first state that is not closed
first_once : (d : Database) (t : LiveText) (p q : ℕ) → IsFirstOpen d t p → IsFirstOpen d t q → p ≡ q
first_once d t p q of_p of_q = elim (order p q) [
  | inl same ↦ same
  | inr other ↦ elim other [
    | inl low ↦
        absurd (of_p.2 (below (IsClosedState d) (all_states t) p q of_p.0 low of_p.1 of_q.3))
    | inr high ↦
        absurd (of_q.2 (below (IsClosedState d) (all_states t) q p of_q.0 high of_q.1 of_p.3))
  ]
]
  where
    order : (a b : ℕ) → (a ≡ b) ⊎ ((a < b) ⊎ (b < a))
    order zero zero = inl refl
    order zero (suc b) = inr (inl (omega arith))
    order (suc a) zero = inr (inr (omega arith))
    order (suc a) (suc b) = elim (order a b) [
      | inl same ↦ inl (ap suc same)
      | inr other ↦
          elim other [ inl low ↦ inr (inl (omega arith)) | inr high ↦ inr (inr (omega arith)) ]
    ]

pub not_all_closed : (d : Database) (t : LiveText) (p : ℕ) → IsFirstOpen d t p
    → All (IsClosedState d) (all_states t) → ⊥
not_all_closed d t p first all =
    first.2 (all_at (IsClosedState d) (all_states t) p first.0 first.1 all)

-- the tests of what a text says exclude each other
one_meaning : (d : Database) (t : LiveText) (a b : LiveFault) → IsMeaningFault d t a
    → IsMeaningFault d t b → a ≢ Memory → b ≢ Memory → a ≡ b
one_meaning d t Memory b of_a of_b not_a not_b = absurd (not_a refl)
one_meaning d t a Memory of_a of_b not_a not_b = absurd (not_b refl)
one_meaning d t OtherDb OtherDb of_a of_b not_a not_b = refl
one_meaning d t OtherDb Unknown of_a of_b not_a not_b = absurd (of_a (of_b.0))
one_meaning d t OtherDb (NotClosed q) of_a of_b not_a not_b = absurd (of_a (of_b.0.before))
one_meaning d t OtherDb SameState of_a of_b not_a not_b = absurd (of_a (of_b.0.before.before))
one_meaning d t OtherDb OverBound of_a of_b not_a not_b =
    absurd (of_a (of_b.0.before.before.before))
one_meaning d t Unknown OtherDb of_a of_b not_a not_b = absurd (of_b (of_a.0))
one_meaning d t Unknown Unknown of_a of_b not_a not_b = refl
one_meaning d t Unknown (NotClosed q) of_a of_b not_a not_b = absurd (of_a.1 (of_b.0.known))
one_meaning d t Unknown SameState of_a of_b not_a not_b = absurd (of_a.1 (of_b.0.before.known))
one_meaning d t Unknown OverBound of_a of_b not_a not_b =
    absurd (of_a.1 (of_b.0.before.before.known))
one_meaning d t (NotClosed p) OtherDb of_a of_b not_a not_b = absurd (of_b (of_a.0.before))
one_meaning d t (NotClosed p) Unknown of_a of_b not_a not_b = absurd (of_b.1 (of_a.0.known))
one_meaning d t (NotClosed p) (NotClosed q) of_a of_b not_a not_b =
    ap NotClosed (first_once d t p q of_a.1 of_b.1)
one_meaning d t (NotClosed p) SameState of_a of_b not_a not_b =
    absurd (not_all_closed d t p of_a.1 (of_b.0.closed))
one_meaning d t (NotClosed p) OverBound of_a of_b not_a not_b =
    absurd (not_all_closed d t p of_a.1 (of_b.0.before.closed))
one_meaning d t SameState OtherDb of_a of_b not_a not_b = absurd (of_b (of_a.0.before.before))
one_meaning d t SameState Unknown of_a of_b not_a not_b = absurd (of_b.1 (of_a.0.before.known))
one_meaning d t SameState (NotClosed q) of_a of_b not_a not_b =
    absurd (not_all_closed d t q of_b.1 (of_a.0.closed))
one_meaning d t SameState SameState of_a of_b not_a not_b = refl
one_meaning d t SameState OverBound of_a of_b not_a not_b = absurd (of_a.1 of_b.0.differ)
one_meaning d t OverBound OtherDb of_a of_b not_a not_b =
    absurd (of_b (of_a.0.before.before.before))
one_meaning d t OverBound Unknown of_a of_b not_a not_b =
    absurd (of_b.1 (of_a.0.before.before.known))
one_meaning d t OverBound (NotClosed q) of_a of_b not_a not_b =
    absurd (not_all_closed d t q of_b.1 (of_a.0.before.closed))
one_meaning d t OverBound SameState of_a of_b not_a not_b = absurd (of_b.1 of_a.0.differ)
one_meaning d t OverBound OverBound of_a of_b not_a not_b = refl
one_meaning d t OtherDb (Bad offset) of_a of_b not_a not_b = absurd of_b
one_meaning d t OtherDb Version of_a of_b not_a not_b = absurd of_b
one_meaning d t Unknown (Bad offset) of_a of_b not_a not_b = absurd of_b
one_meaning d t Unknown Version of_a of_b not_a not_b = absurd of_b
one_meaning d t (NotClosed p) (Bad offset) of_a of_b not_a not_b = absurd of_b
one_meaning d t (NotClosed p) Version of_a of_b not_a not_b = absurd of_b
one_meaning d t SameState (Bad offset) of_a of_b not_a not_b = absurd of_b
one_meaning d t SameState Version of_a of_b not_a not_b = absurd of_b
one_meaning d t OverBound (Bad offset) of_a of_b not_a not_b = absurd of_b
one_meaning d t OverBound Version of_a of_b not_a not_b = absurd of_b
one_meaning d t (Bad offset) b of_a of_b not_a not_b = absurd of_a
one_meaning d t Version b of_a of_b not_a not_b = absurd of_a

-- a refusal for the form, told in bytes from the beginning
abbrev IsTold : List ℕ → FormFault → LiveFault → Type 0
IsTold bytes (form.Bad left) fault =
    (offset : ℕ) × (offset + left ≡ length bytes) × (fault ≡ Bad offset)
IsTold bytes form.Version fault = fault ≡ Version
IsTold bytes form.Memory fault = ⊥

abbrev IsOfForm : List ℕ → LiveFault → Type 0
IsOfForm bytes fault =
    (of : FormFault) × IsRefused bytes of × (of ≢ form.Memory) × IsTold bytes of fault

abbrev Why : Database → LiveText → List ℕ → LiveFault → Type 0
Why d t rest fault =
    ((rest ≢ []) × (fault ≡ Bad (length (live_text t)))) ⊎ ((rest ≡ []) × IsMeaningFault d t fault)

-- a refusal of a text that stands in front, for what follows it or for what it says
abbrev IsOfText : Database → List ℕ → LiveFault → Type 0
IsOfText d bytes fault =
    (t : LiveText) × (rest : List ℕ) × BeginsWith bytes t rest × Why d t rest fault

told_once : (bytes : List ℕ) (of : FormFault) (a b : LiveFault) → IsTold bytes of a
    → IsTold bytes of b → a ≡ b
told_once bytes (form.Bad left) a b told_a told_b =
    let same : told_a.0 ≡ told_b.0 = omega (arith, told_a.1, told_b.1) in
    told_a.2 ∙ ap Bad same ∙ sym told_b.2
told_once bytes form.Version a b told_a told_b = told_a ∙ sym told_b
told_once bytes form.Memory a b told_a told_b = absurd told_a

one_why : (d : Database) (t : LiveText) (rest : List ℕ) (a b : LiveFault) → Why d t rest a
    → Why d t rest b → a ≢ Memory → b ≢ Memory → a ≡ b
one_why d t rest a b of_a of_b not_a not_b = elim of_a [
  | inl more_a ↦ elim of_b [
    | inl more_b ↦ more_a.1 ∙ sym more_b.1
    | inr said_b ↦ absurd (more_a.0 said_b.0)
  ]
  | inr said_a ↦ elim of_b [
    | inl more_b ↦ absurd (more_b.0 said_a.0)
    | inr said_b ↦ one_meaning d t a b said_a.1 said_b.1 not_a not_b
  ]
]

module _ (laws : FormLaws) (one : IsOneRefusal) (d : Database) where
  -- a text stands in front, or its form is refused, and not both
  not_both : (bytes : List ℕ) (a b : LiveFault) → IsOfForm bytes a → IsOfText d bytes b → ⊥
  not_both bytes a b of_form of_text =
      of_form.2 (laws.refused of_text.0 of_text.1 of_form.0 of_text.2.0
      (subst (λ (l : List ℕ). IsRefused l of_form.0) of_text.2.1 of_form.1))

  by_text : (bytes : List ℕ) (a b : LiveFault) → IsOfText d bytes a → IsOfText d bytes b
      → a ≢ Memory → b ≢ Memory → a ≡ b
  by_text bytes a b of_a of_b not_a not_b =
      let (t, rest, begins, why_a) = of_a in
      let (u, other, begins_u, why_b) = of_b in
      let text : t ≡ u =
      laws.value t u rest other begins.0 begins_u.0 (sym begins.1 ∙ begins_u.1) in
      let behind : rest ≡ other = append_cancel_left (live_text t) rest other
      (sym begins.1 ∙ begins_u.1 ∙ ap (λ (v : LiveText). live_text v ++ other) (sym text)) in
      one_why d t rest a b why_a
      (subst (λ (l : List ℕ). Why d t l b) (sym behind)
      (subst (λ (v : LiveText). Why d v other b) (sym text) why_b)) not_a not_b

  one_of : (bytes : List ℕ) (a b : LiveFault) → IsOfForm bytes a ⊎ IsOfText d bytes a
      → IsOfForm bytes b ⊎ IsOfText d bytes b → a ≢ Memory → b ≢ Memory → a ≡ b
  one_of bytes a b of_a of_b not_a not_b = elim of_a [
    | inl form_a ↦ elim of_b [
      | inl form_b ↦
          let same : form_a.0 ≡ form_b.0 =
          one bytes form_a.0 form_b.0 form_a.1 form_b.1 form_a.2 form_b.2 in
          told_once bytes form_a.0 a b form_a.3
          (subst (λ (f : FormFault). IsTold bytes f b) (sym same) form_b.3)
      | inr text_b ↦ absurd (not_both bytes a b form_a text_b)
    ]
    | inr text_a ↦ elim of_b [
      | inl form_b ↦ absurd (not_both bytes b a form_b text_a)
      | inr text_b ↦ by_text bytes a b text_a text_b not_a not_b
    ]
  ]

  side : (bytes : List ℕ) (a : LiveFault) → IsLiveFault d bytes a → a ≢ Memory
      → IsOfForm bytes a ⊎ IsOfText d bytes a
  side bytes (Bad offset) found other = elim found [
    | inl bad ↦ inl (form.Bad bad.0, bad.2, (λ same. cc), (offset, bad.1, refl))
    | inr more ↦ inr (more.0, more.1, more.2, inl (more.3, ap Bad more.4))
  ]
  side bytes Version found other = inl (form.Version, found, (λ same. cc), refl)
  side bytes OtherDb found other = inr (found.0, [], found.1, inr (refl, found.2))
  side bytes Unknown found other = inr (found.0, [], found.1, inr (refl, found.2))
  side bytes (NotClosed place) found other = inr (found.0, [], found.1, inr (refl, found.2))
  side bytes SameState found other = inr (found.0, [], found.1, inr (refl, found.2))
  side bytes OverBound found other = inr (found.0, [], found.1, inr (refl, found.2))
  side bytes Memory found other = absurd (other refl)

  pub one_fault : (bytes : List ℕ) (a b : LiveFault) → IsLiveFault d bytes a → IsLiveFault d bytes b
      → a ≢ Memory → b ≢ Memory → a ≡ b
  one_fault bytes a b of_a of_b not_a not_b =
      one_of bytes a b (side bytes a of_a not_a) (side bytes b of_b not_b) not_a not_b
