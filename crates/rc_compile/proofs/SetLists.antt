-- Lists of sets, one for each bundle, as they are filled.
use Rattle.std.proofs.Common.{◌≡◌, ◌∙◌, ℕ, ◌+◌, ◌<◌, ◌⊎◌, ◌↔◌, inl, inr, Bool, List, [], ◌∷◌, ◌++◌}
use Rattle.std.proofs.Common.{length, set, slice_get, slice_index_or, Some, Contains, Result, Ok}
use Rattle.std.proofs.Common.{Err, IfOk, sym, ap, subst, arith}
use Rattle.std.specs.Global.{Vec}
use Rattle.std.proofs.lemmas.Bool.{cases_lt, cases_eq}
use Rattle.std.proofs.lemmas.List.{get_or-set_same, get_or-set_other, get_or_append_left}
use Rattle.std.proofs.lemmas.List.{get_or_push}
use Rattle.std.proofs.lemmas.List.Elements.{Contains-push, Contains-push_cases}
use Rattle.std.proofs.lemmas.List.Elements.{Contains-append_left}
use Rattle.std.proofs.lemmas.Option.{slice_get_within, same_Some}
use Rattle.rc_model.specs.Names.{IsInByteOrder, Has, Holds}
use Rattle.rc_model.specs.Graph.{Needs, UpFrom}
use Rattle.rc_source.specs.Meaning.{Meaning, AreMeanings}
use Rattle.rc_compile.specs.Pipelines.{IsService, ReadsFrom, NamesPipeline}
use Rattle.rc_compile.specs.Standing.{IsBundle, HasContent, HoldsName, StandsFor}
use Rattle.rc_compile.specs.Mirror.{Mirrors}
use Rattle.rc_compile.specs.Joining.{HasAlong}
use Rattle.rc_compile.specs.Sets.{ArePiped, AreApart, AreSetsOf, IsPipedBy, HasPiped}
use Rattle.rc_model.proofs.ByteOrder.{one_place}
use Rattle.rc_model.proofs.Members.{contains_at, none_contained}
use Rattle.rc_compile.proofs.Stands.{stands_along, piped_held}

-- the sets with those of some more
abbrev pub Gain : (ℕ → ℕ → Type 0) → List (List Bool) → List (List Bool) → Type 0
Gain More old new =
    (b s : ℕ) → Has (slice_index_or new b []) s ↔ (Has (slice_index_or old b []) s ⊎ More b s)

-- the set at the place of a name is joined with one
pub join_at : (bundles : List (List ℕ)) (old : List (List Bool)) (b0 : ℕ) (name : List ℕ)
    (more whole : List Bool) → IsInByteOrder bundles → slice_get bundles b0 ≡ Some name
    → b0 < length old
    → Holds whole (λ s. Has (slice_index_or old b0 []) s ⊎ Has more s)
    → Gain (λ b s. (slice_get bundles b ≡ Some name) × Has more s) old (set old b0 whole)
join_at bundles old b0 name more whole up at low members b s = elim (cases_eq b b0) [
  | inl same ↦
      let put : slice_index_or (set old b0 whole) b [] ≡ whole =
      ap (λ y. slice_index_or (set old b0 whole) y []) same ∙ get_or-set_same old b0 whole [] low in
      let was : slice_index_or old b [] ≡ slice_index_or old b0 [] =
      ap (λ y. slice_index_or old y []) same in
      let at_b : slice_get bundles b ≡ Some name = ap (slice_get bundles) same ∙ at in (
        λ has. elim ((members s).0 (subst (λ x. Has x s) put has)) [
          | inl first ↦ inl (subst (λ x. Has x s) (sym was) first)
          | inr second ↦ inr (at_b, second)
        ],
        λ either. subst (λ x. Has x s) (sym put)
            ((members s).1 (elim either [
              | inl first ↦ inl (subst (λ x. Has x s) was first)
              | inr second ↦ inr second.1
            ])),
      )
  | inr other ↦
      let kept : slice_index_or (set old b0 whole) b [] ≡ slice_index_or old b [] =
      get_or-set_other old b0 b whole [] other in (
        λ has. inl (subst (λ x. Has x s) kept has),
        λ either. subst (λ x. Has x s) (sym kept)
            (elim either [
              | inl first ↦ first
              | inr second ↦ absurd (other (one_place bundles name b b0 up second.0 at))
            ]),
      )
]

-- nothing is gained where nothing is meant
pub gain_none : (More : ℕ → ℕ → Type 0) (sets : List (List Bool)) → ((b s : ℕ) → More b s → ⊥)
    → Gain More sets sets
gain_none More sets none b s =
    (inl, λ either. elim either [ inl has ↦ has | inr more ↦ absurd (none b s more) ])

-- what is gained, said otherwise
pub gain_as : (More Other : ℕ → ℕ → Type 0) (old new : List (List Bool))
    → ((b s : ℕ) → More b s ↔ Other b s) → Gain More old new → Gain Other old new
gain_as More Other old new same gain b s = (
  λ has. elim ((gain b s).0 has) [ inl first ↦ inl first | inr more ↦ inr ((same b s).0 more) ],
  λ either. (gain b s).1
      (elim either [ inl first ↦ inl first | inr other ↦ inr ((same b s).1 other) ]),
)

-- a walk back from the place of a name is one from that name
pub from_place : (services readers : List (List ℕ)) (id s : ℕ) (name : List ℕ)
    → IsInByteOrder services → slice_get services id ≡ Some name
    → UpFrom readers (λ i. i ≡ id) s ↔ UpFrom readers (λ i. slice_get services i ≡ Some name) s
from_place services readers id s name up at = (
  λ from. elim from [
    | inl same ↦ inl (ap (slice_get services) same ∙ at)
    | inr path ↦ inr (path.0, ap (slice_get services) path.1 ∙ at, path.2)
  ],
  λ from. elim from [
    | inl here ↦ inl (one_place services name s id up here at)
    | inr path ↦ inr (path.0, one_place services name path.0 id up path.1 at, path.2)
  ],
)

-- what a definition's pipeline gains
pub pipe_gain : (m : Meaning) (services readers bundles : List (List ℕ)) (name : List ℕ)
    (more : List Bool) (old new : List (List Bool)) → NamesPipeline m name
    → Holds more (UpFrom readers (λ i. slice_get services i ≡ Some m.name))
    → Gain (λ b s. (slice_get bundles b ≡ Some name) × Has more s) old new
    → Gain (λ b s. (n : List ℕ) × (slice_get bundles b ≡ Some n) × IsPipedBy m services readers n s)
    old new
pipe_gain m services readers bundles name more old new names from gain =
    let Found : ℕ → ℕ → Type 0 = λ b s. (slice_get bundles b ≡ Some name) × Has more s in
    let Piped : ℕ → ℕ → Type 0 =
    λ b s. (n : List ℕ) × (slice_get bundles b ≡ Some n) × IsPipedBy m services readers n s in
    gain_as Found Piped old new (λ b s. (
      λ found. (name, found.0, (names, (from s).0 found.1)),
      λ piped.
          let same : piped.0 ≡ name = same_Some piped.0 name (sym piped.2.0.named ∙ names.named) in
          (subst (λ n. slice_get bundles b ≡ Some n) same piped.1, (from s).1 piped.2.1),
    )) gain

-- one more definition's pipeline
pub pipes_more : (ms : List Meaning) (m : Meaning) (services readers bundles : List (List ℕ))
    (old mid new : List (List Bool))
    → Gain (λ b s. (n : List ℕ) × (slice_get bundles b ≡ Some n) × HasPiped ms services readers n s)
    old mid
    → Gain (λ b s. (n : List ℕ) × (slice_get bundles b ≡ Some n) × IsPipedBy m services readers n s)
    mid new
    → Gain (λ b s. (n : List ℕ) × (slice_get bundles b ≡ Some n)
    × HasPiped (ms ++ m ∷ []) services readers n s) old new
pipes_more ms m services readers bundles old mid new before now b s = (
  λ has. elim ((now b s).0 has) [
    | inl in_mid ↦ elim ((before b s).0 in_mid) [
      | inl first ↦ inl first
      | inr piped ↦
          inr (
            piped.0,
            piped.1,
            (piped.2.0, Contains-append_left ms (m ∷ []) piped.2.0 piped.2.1, piped.2.2),
          )
    ]
    | inr piped ↦ inr (piped.0, piped.1, (m, Contains-push ms m, piped.2))
  ],
  λ either. (now b s).1 (elim either [
    | inl first ↦ inl ((before b s).1 (inl first))
    | inr piped ↦ elim (Contains-push_cases ms m piped.2.0 piped.2.1) [
      | inl earlier ↦ inl ((before b s).1 (inr (piped.0, piped.1, (piped.2.0, earlier, piped.2.2))))
      | inr last ↦
          inr (
            piped.0,
            piped.1,
            subst (λ x. IsPipedBy x services readers piped.0 s) (sym last) piped.2.2,
          )
    ]
  ]),
)

pub pipes_none : (services readers bundles : List (List ℕ)) (sets : List (List Bool))
    → Gain (λ b s. (n : List ℕ) × (slice_get bundles b ≡ Some n) × HasPiped [] services readers n s)
    sets sets
pipes_none services readers bundles sets =
    let Piped : ℕ → ℕ → Type 0 =
    λ b s. (n : List ℕ) × (slice_get bundles b ≡ Some n) × HasPiped [] services readers n s in
    gain_none Piped sets (λ b s piped. let k : ℕ = piped.2.1.0 in let low : k < 0 = piped.2.1.1 in
    absurd (omega arith))

-- the set of one more list
pub sets_more : (lists : List (List ℕ)) (old new : List (List Bool)) (i : ℕ) (one : List Bool)
    (list : List ℕ) → length old ≡ i
    → ((s : ℕ) → s < i → Holds (slice_index_or old s []) (Needs lists s)) → new ≡ old ++ one ∷ []
    → Holds one (Contains list) → ((t : ℕ) → Needs lists i t ↔ Contains list t) → (s : ℕ)
    → s < i + 1 → Holds (slice_index_or new s []) (Needs lists s)
sets_more lists old new i one list long before pushed holds lists_i s low = elim (cases_lt s i) [
  | inl earlier ↦
      let there : slice_index_or new s [] ≡ slice_index_or old s [] =
      ap (λ (xs : List (List Bool)). slice_index_or xs s []) pushed
      ∙ get_or_append_left old (one ∷ []) [] s (omega arith) in
      subst (λ x. Holds x (Needs lists s)) (sym there) (before s earlier)
  | inr high ↦
      let here : s ≡ i = omega arith in
      let there : slice_index_or new s [] ≡ one =
      ap (λ (xs : List (List Bool)). slice_index_or xs s []) pushed
      ∙ get_or_push old one [] s (long ∙ sym here) in
      subst (λ x. Holds x (Needs lists s)) (sym there) (λ t. (
        λ has. subst (λ y. Needs lists y t) (sym here) ((lists_i t).1 ((holds t).0 has)),
        λ need. (holds t).1 ((lists_i t).0 (subst (λ y. Needs lists y t) here need)),
      ))
]

-- the set of a list, as far as it was passed
pub set_none : (set : List Bool) → ((s : ℕ) → Has set s → ⊥) → Holds set (Contains [])
set_none set none s = (λ has. absurd (none s has), λ there. absurd (none_contained s there))

pub set_more : (old new : List Bool) (list : List ℕ) (one : ℕ) → Holds old (Contains list)
    → Holds new (λ s. Has old s ⊎ (s ≡ one)) → Holds new (Contains (list ++ one ∷ []))
set_more old new list one before members s = (
  λ has. elim ((members s).0 has) [
    | inl was ↦ Contains-append_left list (one ∷ []) s ((before s).0 was)
    | inr now ↦ subst (Contains (list ++ one ∷ [])) (sym now) (Contains-push list one)
  ],
  λ there. (members s).1 (elim (Contains-push_cases list one s there) [
    | inl earlier ↦ inl ((before s).1 earlier)
    | inr last ↦ inr (sym last)
  ]),
)

-- sets of lists of places are sets of what the lists mirror
pub mirrored_sets : {E : Type 0} (r : Result (Vec (List Bool)) E) (R : List ℕ → List ℕ → Type 0)
    (bundles services lists seen : List (List ℕ)) (n : ℕ) → Mirrors R bundles services lists
    → seen ≡ lists → n ≡ length seen
    → IfOk r (λ sets. (s : ℕ) → s < n → Holds (slice_index_or sets.items s []) (Needs seen s))
    → IfOk r (λ sets. AreSetsOf R bundles services sets.items)
mirrored_sets (Ok sets) R bundles services lists seen n mirrors same long holds =
    λ b s name a at_b at_s.
    let held : Mirrors R bundles services seen =
    subst (Mirrors R bundles services) (sym same) mirrors in
    let low : b < n = omega (arith, slice_get_within bundles b name at_b, held.few, long) in (
      λ has.
          let named = (held.same b s).0 ((holds b low s).0 has) in
          subst (λ x. R x a) (same_Some named.0 name (sym named.2 ∙ at_b))
          (subst (R named.0) (same_Some named.1 a (sym named.3 ∙ at_s)) named.4),
      λ related. (holds b low s).1 ((held.same b s).1 (name, a, at_b, at_s, related)),
    )
mirrored_sets (Err e) R bundles services lists seen n mirrors same long holds = tt

-- the sets of all that bundles hold, contents and pipelines
pub held_sets : (ms : List Meaning) (services bundles readers : List (List ℕ))
    (contents own : List (List Bool)) → IsInByteOrder services → AreMeanings ms → ArePiped ms
    → ((name : List ℕ) → Contains services name ↔ IsService ms name)
    → Mirrors (ReadsFrom ms) services services readers
    → AreSetsOf (HasContent ms) bundles services contents
    → Gain (λ b s. (n : List ℕ) × (slice_get bundles b ≡ Some n) × HasPiped ms services readers n s)
    contents own → AreSetsOf (HoldsName ms) bundles services own
held_sets ms services bundles readers contents own up are piped is_service mirrors first gain b s
    name a at_b at_s = (
      λ has. elim ((gain b s).0 has) [
        | inl content ↦ inl ((first b s name a at_b at_s).0 content)
        | inr pipe ↦
            let same : pipe.0 ≡ name = same_Some pipe.0 name (sym pipe.1 ∙ at_b) in
            inr ((piped_held ms services readers up are piped is_service mirrors name a s at_s).0
            (subst (λ n. HasPiped ms services readers n s) same pipe.2))
      ],
      λ holds. (gain b s).1 (elim holds [
        | inl content ↦ inl ((first b s name a at_b at_s).1 content)
        | inr pipe ↦
            inr (
              name,
              at_b,
              (piped_held ms services readers up are piped is_service mirrors name a s at_s).1 pipe,
            )
      ]),
    )

-- and of all that their names stand for
pub standing_sets : (ms : List Meaning) (services bundles graph : List (List ℕ))
    (own whole : List (List Bool)) → AreMeanings ms → AreApart ms
    → ((name : List ℕ) → Contains services name ↔ IsService ms name)
    → ((name : List ℕ) → Contains bundles name ↔ IsBundle ms name)
    → Mirrors (HasContent ms) bundles bundles graph → AreSetsOf (HoldsName ms) bundles services own
    → length own ≡ length bundles
    → ((b : ℕ) → b < length own → Holds (slice_index_or whole b []) (HasAlong graph own b))
    → AreSetsOf (StandsFor ms) bundles services whole
standing_sets ms services bundles graph own whole are apart is_service is_bundle mirrors held few
    along b s name a at_b at_s =
    let low : b < length own = omega (arith, slice_get_within bundles b name at_b) in
    let service : IsService ms a = (is_service a).0 (contains_at services s a at_s) in
    let is = stands_along ms services bundles graph own are apart is_bundle mirrors held a s at_s b
    name service at_b in
    (λ has. is.0 ((along b low s).0 has), λ stands. (along b low s).1 (is.1 stands))
