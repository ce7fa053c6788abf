-- What a search by a text finds in a list that shows names in byte order.
use Rattle.std.proofs.Common.{◌≡◌, ℕ, ◌+◌, ◌<◌, ⊎_elim, List, length, get_or, map, slice_get, Some}
use Rattle.std.proofs.Common.{Result, Ok, Err, IfOk, IfErr, arith, sym, ap, subst, ◌∙◌}
use Rattle.std.proofs.lemmas.Cmp.{nat_list_cmp_total}
use Rattle.std.proofs.lemmas.List.{length-map}
use Rattle.std.proofs.lemmas.List.Sorted.{searchable_from_sorted}
use Rattle.std.proofs.lemmas.Option.{slice_get_cases, slice_get-map, get_or_from_slice_get}
use Rattle.std.specs.Cmp.Lexicographic.{slice_cmp}
use Rattle.std.specs.List.Sorted.{IsSorted, IsSearchInRange, IsBinarySearchResult}
use Rattle.std.specs.Option.{option_map}
use Rattle.std.specs.Ordering.{nat_cmp, is_lt, ordering_reverse}
use Rattle.std.specs.declared.cmp.Ordering.TheVariants.{Equal, Greater}
use Rattle.rc_model.proofs.ByteOrder.{same_text}
use Rattle.rc_model.specs.Names.{IsBefore, IsInByteOrder}
use Rattle.rc_model.proofs.Texts.{before_from_after}
use Rattle.rc_names.specs.Names.{IsGap}

module _ {X : Type 0} (bytes : X → List ℕ) (xs : List X) (texts : List (List ℕ))
    (seen : map bytes xs ≡ texts) where
  as_long : length texts ≡ length xs
  as_long = ap length (sym seen) ∙ length-map xs bytes

  -- what stands at a place, and what it shows
  record ShowsAt (k : ℕ) (x : X) : Type 0 where
    stands : (e : X) → get_or xs k e ≡ x
    shows : slice_get texts k ≡ Some (bytes x)
    reads : (d : List ℕ) → get_or texts k d ≡ bytes x

  shown_at : (k : ℕ) → k < length xs → (x : X) × ShowsAt k x
  shown_at k within =
      ⊎_elim
      (λ at.
      let shows : slice_get texts k ≡ Some (bytes at.0) =
      subst (λ ts. slice_get ts k ≡ option_map bytes (slice_get xs k)) seen
      (slice_get-map bytes xs k) ∙ ap (option_map bytes) at.2 in (
        at.0,
        record {
          stands = λ e. get_or_from_slice_get xs k at.0 e at.2;
          shows = shows;
          reads = λ d. get_or_from_slice_get texts k (bytes at.0) d shows;
        },
      ))
      (λ past. absurd (omega arith))
      (slice_get_cases xs k).1

  module _ (order : IsInByteOrder texts) (text : List ℕ) where
    sorted : IsSorted (λ x y. slice_cmp nat_cmp (bytes x) (bytes y)) xs
    sorted = λ k d low within.
        let here : k < length xs = omega arith in
        let one = shown_at k here in
        let next = shown_at (k + 1) within in
        let d' = bytes one.0 in
        let up : IsBefore (get_or texts k d') (get_or texts (k + 1) d') =
        order k (k + 1) d' (omega arith) (omega (arith, as_long)) in
        let before : IsBefore (bytes one.0) (bytes next.0) =
        rw (sym (one.1.reads d'), sym (next.1.reads d')) up in
        let down : is_lt (slice_cmp nat_cmp (bytes next.0) (bytes one.0)) ≡ is_lt Greater =
        ap is_lt (nat_list_cmp_total.antisymm (bytes next.0) (bytes one.0)
        ∙ ap ordering_reverse before) in
        rw (one.1.stands d, next.1.stands d) down

    -- the place of a text, or else that at which it would stand
    pub place_of : (r : Result ℕ ℕ) → IsSearchInRange r (length xs)
        → IsBinarySearchResult (λ x. slice_cmp nat_cmp (bytes x) text) xs r
        → IfOk r (λ place. slice_get texts place ≡ Some text)
        × IfErr r (λ place. IsGap texts text place)
    place_of (Ok place) within equal =
        let at = shown_at place within in
        let same : bytes at.0 ≡ text =
        same_text (bytes at.0) text (subst (λ x. slice_cmp nat_cmp (bytes x) text ≡ Equal)
        (at.1.stands at.0) (equal at.0)) in
        (at.1.shows ∙ ap Some same, tt)
    place_of (Err place) within parted =
        let met = parted (searchable_from_sorted nat_list_cmp_total bytes xs text sorted) in (
          tt,
          record {
            within = omega (arith, as_long, within);
            before = λ k d low inside.
                let at = shown_at k (omega arith) in
                rw (at.1.reads d) (subst (λ x. IsBefore (bytes x) text) (at.1.stands at.0)
                (met.0 k at.0 low inside));
            after = λ k d low inside.
                let here : k < length xs = omega (arith, as_long) in
                let at = shown_at k here in
                rw (at.1.reads d)
                (before_from_after (bytes at.0) text (subst (λ x. slice_cmp nat_cmp
                (bytes x) text ≡ Greater) (at.1.stands at.0) (met.1 k at.0 low here)));
          },
        )
