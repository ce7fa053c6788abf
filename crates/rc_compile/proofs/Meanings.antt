-- What the definition of a name says, where each name has one.
use Rattle.std.proofs.Common.{◌≡◌, ◌≢◌, ◌∙◌, ℕ, ◌⊎◌, inl, inr, List, [], get_or, Contains, refl}
use Rattle.std.proofs.Common.{sym, ap, subst}
use Rattle.std.proofs.lemmas.Bool.{cases_order}
use Rattle.std.proofs.lemmas.List.{get_or_default}
use Rattle.std.proofs.lemmas.List.Elements.{All-contains}
use Rattle.rc_model.specs.declared.Kind.{Kind}
use Rattle.rc_model.specs.declared.Kind.TheVariants.{Oneshot, Longrun, Bundle}
use Rattle.rc_source.specs.Meaning.{Meaning, IsMeaning, AreMeanings}
use Rattle.rc_compile.specs.Pipelines.{IsDefined, IsService, IsLongrun}
use Rattle.rc_compile.specs.Standing.{IsBundle, HasContent, HoldsName}
use Rattle.rc_compile.proofs.Listing.{no_name}

-- the definition of a name is one
pub only_one : (ms : List Meaning) → AreMeanings ms → (P : Meaning → Type 0) (m : Meaning)
    → Contains ms m → IsDefined ms P m.name → P m
only_one ms are P m (i, i_low, at_i) (other, (j, j_low, at_j), called, holds) =
    let here : get_or ms i other ≡ m = get_or_default ms i other m i_low ∙ at_i in
    elim (cases_order i j) [
      | inl same ↦ subst P (sym at_j ∙ ap (λ k. get_or ms k other) (sym same) ∙ here) holds
      | inr (inl below) ↦
          absurd (are.distinct i j other below j_low
          (ap (λ (x : Meaning). x.name) here ∙ sym called
          ∙ ap (λ (x : Meaning). x.name) (sym at_j)))
      | inr (inr above) ↦
          absurd (are.distinct j i other above i_low
          (ap (λ (x : Meaning). x.name) at_j ∙ called ∙ ap (λ (x : Meaning). x.name) (sym here)))
    ]

-- a bundle or not
pub kind_cases : (kind : Kind) → (kind ≡ Bundle) ⊎ (kind ≢ Bundle)
kind_cases Oneshot = inr (λ e. let bad : Oneshot ≡ Bundle = e in cc)
kind_cases Longrun = inr (λ e. let bad : Longrun ≡ Bundle = e in cc)
kind_cases Bundle = inl refl

longrun_differs : (kind : Kind) → kind ≡ Longrun → kind ≢ Bundle
longrun_differs kind is other = let bad : Longrun ≡ Bundle = sym is ∙ other in cc

pub longrun_is_service : (ms : List Meaning) (name : List ℕ) → IsLongrun ms name → IsService ms name
longrun_is_service ms name (m, there, called, is) = (m, there, called, longrun_differs m.kind is)

-- what has contents is a bundle
pub content_of_bundle : (ms : List Meaning) (a b : List ℕ) → AreMeanings ms → HasContent ms a b
    → IsBundle ms a
content_of_bundle ms a b are (m, there, called, has) = elim (kind_cases m.kind) [
  | inl is ↦ inl (m, there, called, is)
  | inr atomic ↦
      let meaning : IsMeaning m = All-contains IsMeaning ms m are.each there in
      let empty : Contains [] b =
      subst (λ (xs : List (List ℕ)). Contains xs b) (meaning.atomic atomic) has in
      absurd (no_name b empty)
]

-- what holds something is a bundle
pub holder_is_bundle : (ms : List Meaning) (a b : List ℕ) → AreMeanings ms → HoldsName ms a b
    → IsBundle ms a
holder_is_bundle ms a b are (inl content) = content_of_bundle ms a b are content
holder_is_bundle ms a b are (inr (m, there, names, within)) = inr (m, there, names)
