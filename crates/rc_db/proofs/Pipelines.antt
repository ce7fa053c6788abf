-- Where pipelines end: each service's in one place, found in the order of needs.
use Rattle.std.proofs.Common.{◌≡◌, ◌≢◌, ◌∙◌, ◌+◌, ◌<◌, ◌≤◌, ◌⊎◌, ⊎_elim, inl, inr, ℕ, Bool, List}
use Rattle.std.proofs.Common.{[], ◌∷◌, ◌++◌, length, get_or, set, slice_get, slice_index, Option}
use Rattle.std.proofs.Common.{Some, None, IfSome, sym, ap, subst, arith}
use Rattle.std.proofs.lemmas.Bool.{cases_lt}
use Rattle.std.proofs.lemmas.List.{length-take, get_or-take, get_or-set_same, get_or-set_other}
use Rattle.std.proofs.lemmas.List.Elements.{Contains-get_or}
use Rattle.std.proofs.lemmas.Option.{slice_get-get_or, slice_get_within, get_or_from_slice_get}
use Rattle.rc_model.specs.declared.Kind.TheVariants.{Longrun}
use Rattle.rc_model.specs.Names.{Has, Holds}
use Rattle.rc_model.specs.Graph.{Needs}
use Rattle.rc_graph.specs.Order.{IsOrder}
use Rattle.rc_model.specs.Database.{Service, Database, Feeds, IsKind, IsDatabase}
use Rattle.rc_db.specs.Pipeline.{EachFeedsNext, FlowsTo, IsLastConsumer, InPipelineOf}
use Rattle.rc_db.proofs.Fits.{feeds_one}
use Rattle.rc_model.proofs.Places.{place_of}

-- the number of a kind is one of the services
pub kind_within : (d : Database) (s : ℕ) → IsDatabase d → IsKind d s Longrun → s < length d.names
kind_within d s held kind =
    omega (arith, held.fit.services, slice_get_within d.services s kind.0 kind.1)

-- what a service writes for
pub fed_by : (d : Database) (s : ℕ) (service : Service) (o : Option ℕ) → IsDatabase d
    → slice_get d.services s ≡ Some service → service.producer_for ≡ o
    → IfSome o (λ t. Feeds d s t × (t < length d.names))
fed_by d s service None held there for = tt
fed_by d s service (Some t) held there for =
    ((service, there, for), kind_within d t held (held.fit.fed s t (service, there, for)).0)

-- one step before a flow
pub flows_before : (d : Database) (s t last : ℕ) → Feeds d s t → IsLastConsumer d t last
    → IsLastConsumer d s last
flows_before d s t last feeds (flows, ends) = (
  ⊎_elim
      (λ same. let P : ℕ → Type 0 = λ x. Feeds d s x in inr ([], (subst P same feeds, tt)))
      (λ path. inr (t ∷ path.0, (feeds, path.1)))
      flows,
  ends,
)

-- a flow to where it ends goes on after its first step
go_on : (d : Database) (s t last : ℕ) → Feeds d s t → FlowsTo d s last
    → ((u : ℕ) → Feeds d last u → ⊥) → FlowsTo d t last
go_on d s t last feeds (inl same) ends =
    let P : ℕ → Type 0 = λ x. Feeds d x t in absurd (ends t (subst P same feeds))
go_on d s t last feeds (inr ([], path)) ends = inl (feeds_one d s t last feeds path.0)
go_on d s t last feeds (inr (u ∷ rest, path)) ends =
    let P : ℕ → Type 0 = λ x. EachFeedsNext d (x ∷ (rest ++ last ∷ [])) in
    inr (rest, subst P (sym (feeds_one d s t u feeds path.0)) path.1)

-- what feeds nothing flows nowhere else
stays : (d : Database) (s last : ℕ) → FlowsTo d s last → ((u : ℕ) → Feeds d s u → ⊥) → s ≡ last
stays d s last (inl same) ends = same
stays d s last (inr ([], path)) ends = absurd (ends last path.0)
stays d s last (inr (u ∷ rest, path)) ends = absurd (ends u path.0)

-- a pipeline ends in one place
along : (d : Database) (between : List ℕ) (s a b : ℕ) → EachFeedsNext d (s ∷ (between ++ a ∷ []))
    → ((u : ℕ) → Feeds d a u → ⊥)
    → FlowsTo d s b → ((u : ℕ) → Feeds d b u → ⊥) → a ≡ b
along d [] s a b path a_ends flows b_ends = stays d a b (go_on d s a b path.0 flows b_ends) a_ends
along d (t ∷ rest) s a b path a_ends flows b_ends =
    along d rest t a b path.1 a_ends (go_on d s t b path.0 flows b_ends) b_ends

pub one_end : (d : Database) (s a b : ℕ) → IsLastConsumer d s a → IsLastConsumer d s b → a ≡ b
one_end d s a b (flows_a, a_ends) (flows_b, b_ends) =
    ⊎_elim
    (λ same. let P : ℕ → Type 0 = λ x. (u : ℕ) → Feeds d x u → ⊥ in
    sym same ∙ stays d s b flows_b (subst P (sym same) a_ends))
    (λ path. along d path.0 s a b path.1 a_ends flows_b b_ends)
    flows_a

-- services of one pipeline have one end
pub same_end : (d : Database) (ends : List ℕ) (id s : ℕ) → id < length d.names → s < length d.names
    → ((t : ℕ) → t < length d.names → IsLastConsumer d t (slice_index ends t)) → InPipelineOf d id s
    → slice_index ends id ≡ slice_index ends s
same_end d ends id s id_within s_within each within =
    let last = within.1 in
    one_end d id (slice_index ends id) last.0 (each id id_within) last.1
    ∙ sym (one_end d s (slice_index ends s) last.0 (each s s_within) last.2)

-- where the pipelines of the first services of an order end
abbrev pub EndsUpTo : Database → List ℕ → List ℕ → ℕ → Type 0
EndsUpTo d order ends i =
    (k s : ℕ) → k < i → slice_get order k ≡ Some s → IsLastConsumer d s (slice_index ends s)

module _ (d : Database) (order ends : List ℕ) (i s : ℕ) (ordered : IsOrder d.needs order)
    (there : slice_get order i ≡ Some s) (known : EndsUpTo d order ends i) where
  -- what the next service writes for comes before it
  pub ends_known : IsDatabase d → (t : ℕ) → Feeds d s t → IsLastConsumer d t (slice_index ends t)
  ends_known held t feeds =
      let at : slice_index order i ≡ s = get_or_from_slice_get order i s 0 there in
      let P : ℕ → Type 0 = λ x. Needs d.needs x t in
      let before = ordered.after i t (slice_get_within order i s there)
      (subst P (sym at) (held.fit.fed s t feeds).1) in
      let low : before.0 < i = omega (arith, length-take i order, before.1) in
      let inside : before.0 < length order = omega (arith, length-take i order, before.1) in
      let here : get_or order before.0 t ≡ t =
      sym (get_or-take i order before.0 t low) ∙ before.2 in
      known before.0 t low (slice_get-get_or order before.0 t inside ∙ ap Some here)

  pub ends_next : (end : ℕ) → s < length ends → IsLastConsumer d s end
      → EndsUpTo d order (set ends s end) (i + 1)
  ends_next end within last k t low at =
      ⊎_elim
      (λ (before : k < i).
      let other : t ≢ s = λ same.
      let at_k : get_or order k s ≡ s = get_or_from_slice_get order k t s at ∙ same in
      let at_i : get_or order i s ≡ s = get_or_from_slice_get order i s s there in
      ordered.once k i s before (slice_get_within order i s there) (at_k ∙ sym at_i) in
      let kept : slice_index (set ends s end) t ≡ slice_index ends t =
      get_or-set_other ends s t end 0 other in
      subst (IsLastConsumer d t) (sym kept) (known k t before at))
      (λ high.
      let same_place : k ≡ i = omega arith in
      let same : t ≡ s = cc in
      let put : slice_index (set ends s end) t ≡ end =
      ap (slice_index (set ends s end)) same ∙ get_or-set_same ends s end 0 within in
      let P : ℕ → Type 0 = λ x. IsLastConsumer d x end in
      subst (IsLastConsumer d t) (sym put) (subst P (sym same) last))
      (cases_lt k i)

-- once all are passed
pub ends_all : (d : Database) (order ends : List ℕ) (i : ℕ) → IsOrder d.needs order
    → EndsUpTo d order ends i → length order ≤ i
    → (s : ℕ) → s < length d.needs → IsLastConsumer d s (slice_index ends s)
ends_all d order ends i ordered known past s within =
    let at = place_of order s ((ordered.all s).1 within) in
    known at.0 s (omega (arith, slice_get_within order at.0 s at.1)) at.1

-- one more service, if a fact holds of it
pub one_more_passed : (P : ℕ → Type 0) (old new : List Bool) (i : ℕ)
    → Holds old (λ t. (t < i) × P t) → Holds new (λ t. Has old t ⊎ ((t ≡ i) × P i))
    → Holds new (λ t. (t < i + 1) × P t)
one_more_passed P old new i holds more t = (
  λ has. ⊎_elim
      (λ in_old. let low : t < i = ((holds t).0 in_old).0 in (omega arith, ((holds t).0 in_old).1))
      (λ is. let here : t ≡ i = is.0 in (omega arith, subst P (sym here) is.1))
      ((more t).0 has),
  λ passed. let low : t < i + 1 = passed.0 in ⊎_elim
      (λ before. (more t).1 (inl ((holds t).1 (before, passed.1))))
      (λ high. let here : t ≡ i = omega arith in (more t).1 (inr (here, subst P here passed.1)))
      (cases_lt t i),
)

-- one more service, of which it does not hold
pub left_out : (P : ℕ → Type 0) (set : List Bool) (i : ℕ) → (P i → ⊥)
    → Holds set (λ s. (s < i) × P s) → Holds set (λ s. (s < i + 1) × P s)
left_out P set i fails passed = one_more_passed P set set i passed
    (λ s. (λ has. inl has, λ cases. ⊎_elim (λ in_set. in_set) (λ is. absurd (fails is.1)) cases))

-- what stands in the order is a service
pub order_within : (d : Database) (graph : List (List ℕ)) (order : List ℕ) (i : ℕ) → IsDatabase d
    → graph ≡ d.needs → IsOrder graph order → i < length order
    → get_or order i 0 < length d.names
order_within d graph order i held same ordered within =
    let low : get_or order i 0 < length graph =
    (ordered.all (get_or order i 0)).0 (Contains-get_or order i 0 within) in
    let fits : length d.needs ≡ length d.names = held.fit.graph in
    let long : length graph ≡ length d.needs = ap length same in
    omega arith

-- what is in a pipeline is a service
pub in_pipeline_within : (d : Database) (id s : ℕ) → IsDatabase d → InPipelineOf d id s
    → s < length d.names
in_pipeline_within d id s held within = kind_within d s held within.0

-- a set that has those passed has all, once all services are passed
pub all_passed : (P : ℕ → Type 0) (set : List Bool) (i n : ℕ) → n ≤ i → ((s : ℕ) → P s → s < n)
    → Holds set (λ t. (t < i) × P t) → Holds set P
all_passed P set i n most within holds t = (
  λ has. ((holds t).0 has).1,
  λ is. let low : t < n = within t is in
      (holds t).1 (omega arith, is),
)
