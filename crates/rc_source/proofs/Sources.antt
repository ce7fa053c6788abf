-- The trees of a slice, one by one.
use Rattle.std.proofs.Common.{◌≡◌, ◌∙◌, ℕ, zero, suc, ◌+◌, ◌<◌, List, [], ◌∷◌, length, get_or, drop}
use Rattle.std.proofs.Common.{map, Option, Some, refl, sym, ap, arith}
use Rattle.std.proofs.Math.ListN.{set, length-set}
use Rattle.std.proofs.lemmas.List.{get_or-drop, drop-set-lt, drop-drop, get_or-set_same}
use Rattle.std.proofs.lemmas.Option.{slice_get-map, slice_get-get_or}
use Rattle.std.specs.Option.{option_map}
use Rattle.rc_source.specs.TreeFaults.{HasFailed}
use Rattle.rc_source.specs.Tests.{SomeFailed}
use Rattle.rc_source.specs.Tree.{Source}

-- what a tree tells, where all tell
pub told_at : {X : Type 0} (held : X → Option Source) (trees : List X) (sources : List Source)
    (i : ℕ) (t : X) → i < length trees → held (get_or trees i t) ≡ held t
    → map held trees ≡ map Some sources
    → (source : Source) × (i < length sources) × (source ≡ get_or sources i source)
    × (held t ≡ Some source)
told_at held [] sources i t within here known = absurd (omega arith)
told_at held (x ∷ xs) [] i t within here known = absurd cc
told_at held (x ∷ xs) (s ∷ ss) zero t within here known =
    let first : held x ≡ Some s = cc in (s, omega arith, refl, sym here ∙ first)
told_at held (x ∷ xs) (s ∷ ss) (suc i) t within here known =
    let rest : map held xs ≡ map Some ss = cc in
    let (source, inside, at, tells) = told_at held xs ss i t (omega arith) here rest in
    (source, omega arith, at, tells)

-- as many as tell
pub as_many : {X : Type 0} (held : X → Option Source) (trees : List X) (sources : List Source)
    → map held trees ≡ map Some sources → length trees ≡ length sources
as_many held [] [] known = refl
as_many held [] (s ∷ ss) known = absurd cc
as_many held (x ∷ xs) [] known = absurd cc
as_many held (x ∷ xs) (s ∷ ss) known =
    let rest : map held xs ≡ map Some ss = cc in ap suc (as_many held xs ss rest)

-- the first of what is left of two lists that are left alike
pub at_front : {X : Type 0} (xs ys : List X) (i : ℕ) (d : X) → drop i xs ≡ drop i ys
    → get_or xs i d ≡ get_or ys i d
at_front xs ys i d e =
    let z : i + 0 ≡ i = omega arith in
    sym (get_or-drop i xs 0 d ∙ ap (λ n. get_or xs n d) z) ∙ ap (λ l. get_or l 0 d) e
    ∙ get_or-drop i ys 0 d ∙ ap (λ n. get_or ys n d) z

-- after a place that is written, they stay alike
pub behind_set : {X : Type 0} (xs ys : List X) (i : ℕ) (y : X) → drop i xs ≡ drop i ys
    → drop (i + 1) (set xs i y) ≡ drop (i + 1) ys
behind_set xs ys i y e =
    drop-set-lt (i + 1) xs i y (omega arith) ∙ sym (drop-drop 1 i xs) ∙ ap (drop 1) e
    ∙ drop-drop 1 i ys

-- where one device failed, some did
pub one_failed : {X : Type 0} (failed : X → ℕ) (old now : List X) (i : ℕ) (t new : X)
    → i < length old → i < length now → get_or old i t ≡ t → HasFailed (failed t) (failed new)
    → SomeFailed (map failed old) (map failed (set now i new))
one_failed failed old now i t new in_old in_now here h =
    let n = length-set now i new in (
      i,
      failed t,
      failed new,
      slice_get-map failed old i
          ∙ ap (option_map failed) (slice_get-get_or old i t in_old ∙ ap Some here),
      slice_get-map failed (set now i new) i
          ∙ ap (option_map failed) (slice_get-get_or (set now i new) i new (omega arith)
          ∙ ap Some (get_or-set_same now i new new in_now)),
      h,
    )
