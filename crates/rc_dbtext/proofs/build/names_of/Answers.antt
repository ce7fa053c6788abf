use Rattle.std.proofs.Common.{◌≡◌, ◌∙◌, ◌<◌, ◌+◌, ◌++◌, ◌∷◌, [], ℕ, List, length, get_or, take}
use Rattle.std.proofs.Common.{arith, ap, sym, subst}
use Rattle.std.proofs.lemmas.List.{get_or-map, get_or-take, length-map, length-take, take_more}
use Rattle.rc_dbtext.specs.Text.{ServiceText}
use Rattle.rc_model.specs.Names.{IsBefore}
use Rattle.rc_dbtext.specs.Meaning.{service_names}
use Rattle.rc_dbtext.proofs.build.names_of.Goals as goal

pub append-requires-clause-room : goal.append-requires-clause-room
append-requires-clause-room c = omega (
  arith,
  ap length c.loop-service.invariant,
  length-take c.loop-service.service-index (service_names c.args.services.now),
  length-map c.args.services.now (λ (s : ServiceText). s.head.name),
)

pub append-requires-clause-last : goal.append-requires-clause-last
append-requires-clause-last c = λ k d within.
    let names : List (List ℕ) = service_names c.args.services.now in
    let i : ℕ = c.loop-service.service-index in
    let inside : i < length names =
    omega (arith, length-map c.args.services.now (λ (s : ServiceText). s.head.name)) in
    let low : k < i = omega (arith, ap length c.loop-service.invariant, length-take i names) in
    let first : get_or c.loop-service.names k d ≡ get_or names k d =
    ap (λ (ns : List (List ℕ)). get_or ns k d) c.loop-service.invariant
    ∙ get_or-take i names k d low in
    let here : get_or names i d ≡ c.in-Ok.name =
    get_or-map (λ (s : ServiceText). s.head.name) c.args.services.now i c.service-item.result d
    c.loop-service-test.true
    ∙ (ap (λ (s : ServiceText). s.head.name) (sym c.service-item.is)
    ∙ sym (c.in-Ok.ensures ∙ c.name_of.ensures)) in
    subst (λ (n : List ℕ). IsBefore n c.in-Ok.name) (sym first)
    (subst (IsBefore (get_or names k d)) here (c.requires.sorted k i d low inside))

pub loop-service-preserved : goal.loop-service-preserved
loop-service-preserved c =
    let names : List (List ℕ) = service_names c.args.services.now in
    let i : ℕ = c.loop-service.service-index in
    let within : i < length names =
    omega (arith, length-map c.args.services.now (λ (s : ServiceText). s.head.name)) in
    let here : get_or names i c.in-Ok.name ≡ c.in-Ok.name =
    get_or-map (λ (s : ServiceText). s.head.name) c.args.services.now i c.service-item.result
    c.in-Ok.name c.loop-service-test.true
    ∙ (ap (λ (s : ServiceText). s.head.name) (sym c.service-item.is)
    ∙ sym (c.in-Ok.ensures ∙ c.name_of.ensures)) in
    let more : take (i + 1) names ≡ take i names ++ c.in-Ok.name ∷ [] =
    take_more names i c.in-Ok.name within ∙ ap (λ (n : List ℕ). take i names ++ n ∷ []) here in
    c.in-Ok-append.ensures.added
    ∙ ap (λ (ns : List (List ℕ)). ns ++ c.in-Ok.name ∷ []) c.loop-service.invariant ∙ sym more
