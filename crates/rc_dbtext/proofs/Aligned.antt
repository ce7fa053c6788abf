-- Lines of as many of one value as of another, where they stand on the same bytes: what follows
-- them is one rest, before lines of one kind.
use Rattle.std.proofs.Common.{◌≡◌, ◌∙◌, ℕ, ◌-◌, ◌+◌, ◌<◌, ◌≤◌, inl, inr, List, [], ◌∷◌, ◌++◌}
use Rattle.std.proofs.Common.{length, take, get_or, All, IfSome, zero, suc, arith, refl, sym, ap}
use Rattle.std.proofs.Common.{subst, length-append}
use Rattle.std.proofs.lemmas.Bool.{cases_lt}
use Rattle.std.proofs.lemmas.List.{take_all}
use Rattle.std.proofs.Math.ListN.{get_or-append}
use Rattle.std.proofs.Math.Seq.{get_or-append_right}
use Rattle.std.specs.List.{flat_map}
use Rattle.rc_model.specs.declared.Kind.{Kind}
use Rattle.rc_model.specs.declared.Kind.TheVariants as kinds
use Rattle.rc_model.specs.Names.{IsName}
use Rattle.rc_db.specs.Service.{IsScript}
use Rattle.rc_dbtext.specs.Text.{Line, First, ServiceCount, OfService, OfNeeds, OfProducer, OfUp}
use Rattle.rc_dbtext.specs.Text.{OfDown, BundleCount, OfBundle, Last, Body, OfLongrun, OfOneshot}
use Rattle.rc_dbtext.specs.Text.{body_lines, service_lines, bundle_lines, count_and_lines}
use Rattle.rc_dbtext.specs.Text.{db_lines}
use Rattle.rc_dbtext.specs.Text.{spells, IsHead, IsBody, IsServiceText, IsBundleText, AreFew}
use Rattle.rc_dbtext.specs.Text.{IsDbText}
use Rattle.rc_dbtext.specs.Reading.{one, AreSo}
use Rattle.rc_dbtext.proofs.Sequences.{IsSequence, IsOnce, front_two, second_on, cons_sequence}
use Rattle.rc_dbtext.proofs.Sequences.{counted_sequence}
use Rattle.rc_dbtext.proofs.KindLines.{once_first, once_services, once_bundles, once_head}
use Rattle.rc_dbtext.proofs.KindLines.{once_needs, once_producer, once_up, once_bundle}
use Rattle.rc_dbtext.proofs.Grammar.{Always, no_lines, oneshot_sequence, longrun_sequence}
use Rattle.rc_dbtext.proofs.Grammar.{tail_sequence, tail_lines, IsTail, service_sequence}
use Rattle.rc_dbtext.proofs.Grammar.{once_service, end_sequence, end_lines, inner_sequence}
use Rattle.rc_dbtext.proofs.Grammar.{inner_lines, db_sequence, once_all_services}
use Rattle.rc_dbtext.proofs.Grammar.{once_all_bundles}

-- what a line may be refused for, beside its form
pub data Place : Type 0 where
  AtFirst : Place
  AtServices : Place
  AtBundles : Place
  Elsewhere : Place

abbrev pub place : Line → Place
place First = AtFirst
place (ServiceCount count) = AtServices
place (BundleCount count) = AtBundles
place other = Elsewhere

abbrev pub IsAligned : {A : Type 0} → (A → Type 0) → (A → List Line) → Type 0
IsAligned {A} Is lines = (a b : A) (n : ℕ) (x y : List ℕ) → Is a → Is b → n < length (lines a)
    → n < length (lines b) → spells (take n (lines a)) ++ x ≡ spells (take n (lines b)) ++ y
    → (x ≡ y) × (place (get_or (lines a) n Last) ≡ place (get_or (lines b) n Last))

module _ {A B C : Type 0} (IsA : A → Type 0) (lines_a : A → List Line) (IsB : A → B → Type 0)
    (lines_b : B → List Line) (IsC : C → Type 0) (lines_c : C → List Line)
    (seq : IsSequence IsA lines_a IsB lines_b IsC lines_c) where
  lines_of : (c : C) (a : A) (b : B) → IsA a → IsB a b → c ≡ seq.both a b
      → lines_c c ≡ lines_a a ++ lines_b b
  lines_of c a b is_a is_b made = ap lines_c made ∙ seq.lines_both a b is_a is_b

  -- within the first the lines are its own
  line_first : (c : C) (a : A) (b : B) (n : ℕ) → IsA a → IsB a b → c ≡ seq.both a b
      → n < length (lines_a a) → get_or (lines_c c) n Last ≡ get_or (lines_a a) n Last
  line_first c a b n is_a is_b made within =
      ap (λ (ls : List Line). get_or ls n Last) (lines_of c a b is_a is_b made)
      ∙ get_or-append (lines_a a) (lines_b b) Last n within

  front_first : (c : C) (a : A) (b : B) (n : ℕ) (tail : List ℕ) → IsA a → IsB a b → c ≡ seq.both a b
      → n < length (lines_a a)
      → spells (take n (lines_c c)) ++ tail ≡ spells (take n (lines_a a)) ++ tail
  front_first c a b n tail is_a is_b made within =
      let none : n - length (lines_a a) ≡ 0 = omega arith in
      front_two IsA lines_a IsB lines_b IsC lines_c seq c a b n tail is_a is_b made
      ∙ ap (λ (k : ℕ). spells (take n (lines_a a)) ++ (spells (take k (lines_b b)) ++ tail)) none

  -- after it they are those of the second
  line_second : (c : C) (a : A) (b : B) (n : ℕ) → IsA a → IsB a b → c ≡ seq.both a b
      → length (lines_a a) ≤ n
      → get_or (lines_c c) n Last ≡ get_or (lines_b b) (n - length (lines_a a)) Last
  line_second c a b n is_a is_b made behind =
      ap (λ (ls : List Line). get_or ls n Last) (lines_of c a b is_a is_b made)
      ∙ get_or-append_right (lines_a a) (lines_b b) n Last behind

  front_second : (c : C) (a : A) (b : B) (n : ℕ) (tail : List ℕ) → IsA a → IsB a b
      → c ≡ seq.both a b → length (lines_a a) ≤ n
      → spells (take n (lines_c c)) ++ tail ≡ spells (lines_a a)
      ++ (spells (take (n - length (lines_a a)) (lines_b b)) ++ tail)
  front_second c a b n tail is_a is_b made behind =
      front_two IsA lines_a IsB lines_b IsC lines_c seq c a b n tail is_a is_b made
      ∙ ap (λ (ls : List Line). spells ls
      ++ (spells (take (n - length (lines_a a)) (lines_b b)) ++ tail))
      (take_all n (lines_a a) behind)

  -- two values, from their halves
  module _ (c d : C) (a e : A) (b f : B) (n : ℕ) (x y : List ℕ) (is_a : IsA a) (is_e : IsA e)
      (is_b : IsB a b) (is_f : IsB e f) (made : c ≡ seq.both a b) (made_d : d ≡ seq.both e f)
      (same : spells (take n (lines_c c)) ++ x ≡ spells (take n (lines_c d)) ++ y) where
    in_first : IsAligned IsA lines_a → n < length (lines_a a) → n < length (lines_a e)
        → (x ≡ y) × (place (get_or (lines_c c) n Last) ≡ place (get_or (lines_c d) n Last))
    in_first aligned in_a in_e =
        let both = aligned a e n x y is_a is_e in_a in_e
        (sym (front_first c a b n x is_a is_b made in_a) ∙ same
        ∙ front_first d e f n y is_e is_f made_d in_e) in (
          both.0,
          ap place (line_first c a b n is_a is_b made in_a) ∙ both.1
              ∙ ap place (sym (line_first d e f n is_e is_f made_d in_e)),
        )

    -- where all of the first stands, the firsts are one
    one_first : IsOnce IsA lines_a → length (lines_a a) ≤ n
        → (a ≡ e) × (spells (take (n - length (lines_a a)) (lines_b b)) ++ x
        ≡ spells (take (n - length (lines_a a)) (lines_b f)) ++ y)
    one_first once behind =
        second_on IsA lines_a IsB lines_b IsC lines_c seq a e f d n
        (spells (take (n - length (lines_a a)) (lines_b b)) ++ x) y once is_a is_e
        is_f made_d behind
        (sym (front_second c a b n x is_a is_b made behind) ∙ same)

    in_second : IsOnce IsA lines_a → IsAligned (IsB a) lines_b → length (lines_a a) ≤ n
        → n < length (lines_c c) → n < length (lines_c d)
        → (x ≡ y) × (place (get_or (lines_c c) n Last) ≡ place (get_or (lines_c d) n Last))
    in_second once aligned behind in_c in_d =
        let first = one_first once behind in
        let long : length (lines_a a) ≡ length (lines_a e) =
        ap (λ (v : A). length (lines_a v)) first.0 in
        let long_c : length (lines_c c) ≡ length (lines_a a) + length (lines_b b) =
        ap length (lines_of c a b is_a is_b made) ∙ length-append (lines_a a) (lines_b b) in
        let long_d : length (lines_c d) ≡ length (lines_a e) + length (lines_b f) =
        ap length (lines_of d e f is_e is_f made_d) ∙ length-append (lines_a e) (lines_b f) in
        let both = aligned b f (n - length (lines_a a)) x y is_b
        (subst (λ (v : A). IsB v f) (sym first.0) is_f) (omega arith) (omega arith) first.1 in
        let line_d : get_or (lines_c d) n Last ≡ get_or (lines_b f) (n - length (lines_a a)) Last =
        line_second d e f n is_e is_f made_d (omega arith)
        ∙ ap (λ (k : ℕ). get_or (lines_b f) (n - k) Last) (sym long) in (
          both.0,
          ap place (line_second c a b n is_a is_b made behind) ∙ both.1
              ∙ ap place (sym line_d),
        )

  pub aligned_sequence : IsOnce IsA lines_a → IsAligned IsA lines_a
      → ((a : A) → IsAligned (IsB a) lines_b) → IsAligned IsC lines_c
  aligned_sequence once aligned_a aligned_b c d n x y is_c is_d in_c in_d same =
      let (a, b, is_a, is_b, made) = seq.halves c is_c in
      let (e, f, is_e, is_f, made_d) = seq.halves d is_d in
      elim (cases_lt n (length (lines_a a))) [
        | inr behind ↦
            in_second c d a e b f n x y is_a is_e is_b is_f made made_d same once (aligned_b a)
            behind in_c in_d
        | inl in_a ↦ elim (cases_lt n (length (lines_a e))) [
          | inl in_e ↦
              in_first c d a e b f n x y is_a is_e is_b is_f made made_d same aligned_a in_a in_e
          | inr behind ↦ absurd (
              let first = one_first d c e a f b n y x is_e is_a is_f is_b made_d made
              (sym same) once behind in
              omega (arith, ap (λ (v : A). length (lines_a v)) first.0))
        ]
      ]

-- one line, always of one kind
pub aligned_line : {A : Type 0} (Is : A → Type 0) (line : A → Line)
    → ((a b : A) → place (line a) ≡ place (line b)) → IsAligned Is (λ a. line a ∷ [])
aligned_line Is line alike a b zero x y is_a is_b in_a in_b same = (same, alike a b)
aligned_line Is line alike a b (suc n) x y is_a is_b in_a in_b same = absurd (omega arith)

pub aligned_many : {A : Type 0} (Is : A → Type 0) (lines : A → List Line) → IsOnce Is lines
    → IsAligned Is lines → (n : ℕ) → IsAligned (AreSo Is n) (flat_map lines)
aligned_many {A} Is lines once aligned zero =
    λ values others k x y so so_others in_v in_o same. absurd (none values k so.0 in_v)
  where
    none : (values : List A) (k : ℕ) → length values ≡ 0 → k < length (flat_map lines values) → ⊥
    none [] k empty within = omega arith
    none (a ∷ values) k empty within = omega arith
aligned_many Is lines once aligned (suc n) =
    aligned_sequence Is lines (λ _. AreSo Is n) (flat_map lines) (AreSo Is (suc n)) (flat_map lines)
    (cons_sequence Is lines n) once aligned (λ _. aligned_many Is lines once aligned n)

aligned_nothing : IsAligned Always no_lines
aligned_nothing a b n x y is_a is_b in_a in_b same = absurd (omega arith)

aligned_up : IsAligned IsScript (one OfUp)
aligned_up = aligned_line IsScript OfUp (λ a b. refl)

aligned_body : (kind : Kind) → IsAligned (IsBody kind) body_lines
aligned_body kinds.Oneshot =
    aligned_sequence IsScript (one OfUp) (λ _ down. IfSome down IsScript) (one OfDown)
    (IsBody kinds.Oneshot) body_lines oneshot_sequence once_up aligned_up
    (λ _. aligned_line (λ down. IfSome down IsScript) OfDown (λ a b. refl))
aligned_body kinds.Longrun =
    aligned_sequence (λ p. IfSome p IsName) (one OfProducer) (λ _ u. Always u) no_lines
    (IsBody kinds.Longrun) body_lines longrun_sequence once_producer
    (aligned_line (λ p. IfSome p IsName) OfProducer (λ a b. refl)) (λ _. aligned_nothing)
aligned_body kinds.Bundle = λ a b n x y is_a is_b in_a in_b same. absurd (no_body a is_a)
  where
    no_body : (body : Body) → IsBody kinds.Bundle body → ⊥
    no_body (OfLongrun producer_for) is = let bad : kinds.Bundle ≡ kinds.Longrun = is.0 in absurd cc
    no_body (OfOneshot up down) is = let bad : kinds.Bundle ≡ kinds.Oneshot = is.0 in absurd cc

aligned_tail : (kind : Kind) → IsAligned (IsTail kind) tail_lines
aligned_tail kind =
    aligned_sequence (All IsName) (one OfNeeds) (λ _ body. IsBody kind body) body_lines
    (IsTail kind) tail_lines (tail_sequence kind) once_needs
    (aligned_line (All IsName) OfNeeds (λ a b. refl)) (λ _. aligned_body kind)

aligned_service : IsAligned IsServiceText service_lines
aligned_service =
    aligned_sequence IsHead (one OfService) (λ head tail. IsTail head.kind tail) tail_lines
    IsServiceText service_lines service_sequence once_head
    (aligned_line IsHead OfService (λ a b. refl)) (λ head. aligned_tail head.kind)

aligned_services : IsAligned (AreFew IsServiceText) (count_and_lines ServiceCount service_lines)
aligned_services =
    aligned_sequence (λ n. n ≤ 4096) (one ServiceCount) (λ n. AreSo IsServiceText n)
    (flat_map service_lines) (AreFew IsServiceText) (count_and_lines ServiceCount service_lines)
    (counted_sequence IsServiceText ServiceCount service_lines) once_services
    (aligned_line (λ n. n ≤ 4096) ServiceCount (λ a b. refl))
    (λ n. aligned_many IsServiceText service_lines once_service aligned_service n)

aligned_bundles : IsAligned (AreFew IsBundleText) (count_and_lines BundleCount bundle_lines)
aligned_bundles =
    aligned_sequence (λ n. n ≤ 4096) (one BundleCount) (λ n. AreSo IsBundleText n)
    (flat_map bundle_lines) (AreFew IsBundleText) (count_and_lines BundleCount bundle_lines)
    (counted_sequence IsBundleText BundleCount bundle_lines) once_bundles
    (aligned_line (λ n. n ≤ 4096) BundleCount (λ a b. refl))
    (λ n. aligned_many IsBundleText bundle_lines once_bundle
    (aligned_line IsBundleText OfBundle (λ a b. refl)) n)

aligned_end : IsAligned (AreFew IsBundleText) end_lines
aligned_end =
    aligned_sequence (AreFew IsBundleText) (count_and_lines BundleCount bundle_lines)
    (λ _ u. Always u) (one (λ _. Last)) (AreFew IsBundleText) end_lines end_sequence
    once_all_bundles aligned_bundles
    (λ _. aligned_line Always (λ _. Last) (λ a b. refl))

aligned_inner : IsAligned IsDbText inner_lines
aligned_inner =
    aligned_sequence (AreFew IsServiceText) (count_and_lines ServiceCount service_lines)
    (λ _ bundles. AreFew IsBundleText bundles) end_lines IsDbText inner_lines inner_sequence
    once_all_services aligned_services
    (λ _. aligned_end)

pub aligned_db : IsAligned IsDbText db_lines
aligned_db =
    aligned_sequence Always (one (λ _. First)) (λ _ t. IsDbText t) inner_lines IsDbText db_lines
    db_sequence once_first (aligned_line Always (λ _. First) (λ a b. refl)) (λ _. aligned_inner)
