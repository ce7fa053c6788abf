-- Tables of bundles with the same values are equal.
use Rattle.std.proofs.Common.{◌≡◌, ◌∙◌, ◌<◌, ℕ, suc, Bool, true, false, cond, ◌&&◌, T, List, []}
use Rattle.std.proofs.Common.{◌∷◌, length, slice_index_or, Some, refl, ap, sym, subst, arith}
use Rattle.std.specs.Cmp.Lexicographic.{slice_cmp, nat_list_cmp_total}
use Rattle.std.specs.Ordering.{nat_cmp, is_lt}
use Rattle.std.specs.Str.{bytes_eq}
use Rattle.std.specs.FinMap.{from_sorted, entries, entries-from_sorted, get-from_sorted, same_map}
use Rattle.std.specs.FinMap.{slice_cmp-IsAntisymmetric, nat_cmp-IsAntisymmetric, find, is_sorted}
use Rattle.std.specs.FinMap.Entries.{below_all}
use Rattle.std.proofs.lemmas.Map.Text.{is_eq-slice_cmp}
use Rattle.rc_model.specs.Names.{IsBefore, IsInByteOrder}
use Rattle.rc_model.specs.Database.{Bundles, names_of, value_of, IsTable}

both : (a b : Bool) → T a → T b → T (a && b)
both true b x y = y
both false b x y = absurd x

below : (k : List ℕ) (es : Bundles)
    → ((j : ℕ) (d : List ℕ) → j < length (names_of es)
    → IsBefore k (slice_index_or (names_of es) j d)) → T (below_all (slice_cmp nat_cmp) k es)
below k [] h = tt
below k (e ∷ es) h = both (is_lt (slice_cmp nat_cmp k e.0)) (below_all (slice_cmp nat_cmp) k es)
    (subst (λ o. T (is_lt o)) (sym (h 0 [] (omega arith))) tt)
    (below k es (λ j d bound. h (suc j) d (omega arith)))

pub sorted : (es : Bundles) → IsInByteOrder (names_of es) → T (is_sorted (slice_cmp nat_cmp) es)
sorted [] h = tt
sorted (e ∷ es) h = both (below_all (slice_cmp nat_cmp) e.0 es) (is_sorted (slice_cmp nat_cmp) es)
    (below e.0 es (λ j d bound. h 0 (suc j) d (omega arith) (omega arith)))
    (sorted es (λ i j d first bound. h (suc i) (suc j) d (omega arith) (omega arith)))

pub find_value : (es : Bundles) (q : List ℕ) → find (slice_cmp nat_cmp) q es ≡ value_of es q
find_value [] q = refl
find_value (e ∷ es) q =
    ap (λ b. cond b (Some e.1) (find (slice_cmp nat_cmp) q es)) (is_eq-slice_cmp q e.0)
    ∙ ap (λ r. cond (bytes_eq q e.0) (Some e.1) r) (find_value es q)

-- tables with the same values are one
pub same_table : (a b : Bundles) → IsTable a → IsTable b
    → ((q : List ℕ) → value_of a q ≡ value_of b q) → a ≡ b
same_table a b ta tb alike =
    let sa : T (is_sorted (slice_cmp nat_cmp) a) = sorted a ta.order in
    let sb : T (is_sorted (slice_cmp nat_cmp) b) = sorted b tb.order in
    sym (entries-from_sorted (slice_cmp nat_cmp) a sa)
    ∙ ap entries
    (same_map nat_list_cmp_total (slice_cmp-IsAntisymmetric nat_cmp-IsAntisymmetric) (from_sorted a)
    (from_sorted b)
    (λ q. get-from_sorted (slice_cmp nat_cmp) a q sa ∙ find_value a q ∙ alike q
    ∙ sym (find_value b q) ∙ sym (get-from_sorted (slice_cmp nat_cmp) b q sb)))
    ∙ entries-from_sorted (slice_cmp nat_cmp) b sb
