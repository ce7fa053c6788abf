-- Services by their places, and what one of them is drawn by.
use Rattle.std.proofs.Common.{◌≡◌, ◌∙◌, ◌<◌, ◌+◌, ℕ, Bool, List, [], ◌++◌, Option, Some, length}
use Rattle.std.proofs.Common.{slice_get, slice_index_or, get_or, false, All, ap, sym, arith}
use Rattle.std.proofs.Common.{append_assoc}
use Rattle.std.proofs.lemmas.List.Elements.{Contains-get_or}
use Rattle.std.proofs.lemmas.List.Folds.{flat_map-map}
use Rattle.std.proofs.lemmas.List.FromFn.{map-range_with_len_more}
use Rattle.std.specs.List.{flat_map, range_with_len}
use Rattle.std.specs.Prelude.{map}
use Rattle.rc_model.specs.Database.{Database, IsDatabase, Service}
use Rattle.rc_model.proofs.Lists.{one_more}
use Rattle.rc_render.specs.DotText.{edge_lines, look, need_end, node_line, service_line}
use Rattle.rc_render.specs.DotText.{service_lines}
use Rattle.rc_render.specs.Lines.{names_at}
use Rattle.rc_render.proofs.LineLemmas.{at_place}

-- one more of the pieces that are joined, by its place
pub one_more_place : (f : ℕ → List ℕ) (n : ℕ)
    → flat_map f (range_with_len 0 (n + 1)) ≡ flat_map f (range_with_len 0 n) ++ f n
one_more_place f n =
    let same : (m : ℕ)
    → flat_map f (map (λ x. x) (range_with_len 0 m)) ≡ flat_map f (range_with_len 0 m) =
    λ m. flat_map-map f (λ x. x) (range_with_len 0 m) in
    sym (same (n + 1)) ∙ (ap (flat_map f) (map-range_with_len_more (λ x. x) 0 n n (omega arith))
    ∙ (one_more f (map (λ x. x) (range_with_len 0 n)) n ∙ ap (λ (t : List ℕ). t ++ f n) (same n)))

-- what a service needs is below the number of services
pub needs_below : (d : Database) (s : ℕ) (needs : List ℕ) → IsDatabase d
    → needs ≡ slice_index_or d.needs s [] → All (λ t. t < length d.names) needs
needs_below d s needs is same = rw same (λ k e within.
    let low : get_or (slice_index_or d.needs s []) k e < length d.needs =
    is.needs.known s (get_or (slice_index_or d.needs s []) k e)
    (Contains-get_or (slice_index_or d.needs s []) k e within) in
    omega (arith, is.fit.graph))

-- a service is drawn by its node and by its edges
pub service_drawn : (d : Database) (live : List Bool) (s : ℕ) (name : List ℕ) (service : Service)
    (flag : Bool) (names : List (List ℕ)) (needs old node new : List ℕ)
    → names ≡ d.names → slice_get names s ≡ Some name → slice_get d.services s ≡ Some service
    → needs ≡ slice_index_or d.needs s []
    → flag ≡ slice_index_or live s false
    → node ≡ old ++ node_line name (look service.kind service.essential flag)
    → new ≡ node ++ edge_lines need_end name (names_at names needs)
    → new ≡ old ++ service_lines d live s
service_drawn d live s name service flag names needs old node new same at here listed
    flagged first second =
    let edges : List ℕ → List (List ℕ) → List ℕ → List ℕ =
    λ from ns ids. edge_lines need_end from (names_at ns ids) in
    let line : List ℕ → List ℕ =
    λ from. node_line from (look service.kind service.essential (slice_index_or live s false)) in
    let named : slice_index_or d.names s [] ≡ name =
    ap (λ (ns : List (List ℕ)). slice_index_or ns s []) (sym same) ∙ at_place names s name at in
    second
    ∙ (ap (λ (t : List ℕ). t ++ edges name names needs)
    (first ∙ ap (λ (b : Bool). old ++ node_line name (look service.kind service.essential b))
    flagged) ∙ (append_assoc old (line name) (edges name names needs)
    ∙ ap (λ (t : List ℕ). old ++ t) (
    ap (λ (ns : List (List ℕ)). line name ++ edges name ns needs) same
    ∙ (ap (λ (ids : List ℕ). line name ++ edges name d.names ids) listed
    ∙ (ap (λ (from : List ℕ). line from ++ edges from d.names (slice_index_or d.needs s []))
    (sym named)
    ∙ ap (λ (o : Option Service). service_line (slice_index_or d.names s []) o
    (slice_index_or live s false) ++ edges (slice_index_or d.names s []) d.names
    (slice_index_or d.needs s [])) (sym here))))))
