-- What is asked has a plan, or a first fault.
use Rattle.std.proofs.Common.{◌≡◌, ◌∙◌, ◌⊎◌, ◌<◌, ℕ, zero, suc, inl, inr, Bool, true, false, List}
use Rattle.std.proofs.Common.{[], ◌∷◌, ◌++◌, length, take, slice_get, slice_index_or, All, Contains}
use Rattle.std.proofs.Common.{Option, None, Some, refl, ap, sym, subst, arith}
use Rattle.std.proofs.lemmas.List.Elements.{All-nil, All-cons}
use Rattle.std.proofs.lemmas.Option.{slice_get_within, same_Some}
use Rattle.rc_model.specs.Names.{Has, Holds}
use Rattle.rc_model.proofs.SetMembers.{has_or_lacks, has_within}
use Rattle.rc_model.proofs.ByteOrder.{same_or_other}
use Rattle.rc_model.specs.Graph.{Needs, EachNeedsNext, AreServices, IsAcyclic, Reaches, UpFrom}
use Rattle.rc_model.specs.Graph.{DownFrom}
use Rattle.rc_graph.proofs.Inductions.{acyclic_up, acyclic_down}
use Rattle.rc_graph.proofs.Paths.{reaches_one, reaches_first, up_is_closed, down_before}
use Rattle.rc_graph.proofs.RowLemmas.{needer_known}
use Rattle.rc_model.specs.Database.{Bundles, names_of, value_of, HaveBound, Database, IsDatabase}
use Rattle.rc_model.specs.Database.{IsEssential, Service, StandsFor, Selected, IsKnown, IsFirst}
use Rattle.rc_db.proofs.Words.{bound_of_value}
use Rattle.rc_model.specs.declared.Mode.{Mode}
use Rattle.rc_model.specs.declared.Mode.TheVariants.{Up, Down, DownAll}
use Rattle.rc_model.specs.Plan.{Ask, IsWanted, IsEssentialUp, TargetOfAsk, IsPlanOf, PlanSets}
use Rattle.rc_model.specs.Plan.{Target, Kept}
use Rattle.rc_session.proofs.Deciding.{Decided, both, either, not, where_so, some_below}
use Rattle.rc_session.proofs.Deciding.{member_decided, flag_decided, set_of, holds_of}
use Rattle.rc_session.proofs.Deciding.{needs_decided}

-- words of which none is such, or the first one
pub first_or_none : (P : List ℕ → Type 0) → ((word : List ℕ) → Decided (P word))
    → (words : List (List ℕ))
    → All (λ word. P word → ⊥) words ⊎ ((place : ℕ) × IsFirst P words place)
first_or_none P by [] = inl (All-nil (λ word. P word → ⊥))
first_or_none P by (word ∷ words) = elim (by word) [
  | inl here ↦ inr (0, (word, refl, here, All-nil (λ before. P before → ⊥)))
  | inr never ↦ elim (first_or_none P by words) [
    | inl none ↦ inl (All-cons (λ w. P w → ⊥) word words never none)
    | inr found ↦
        inr (
          suc found.0,
          (
            found.1.0,
            found.1.1,
            found.1.2,
            All-cons (λ before. P before → ⊥) word (take found.0 words) never found.1.3,
          ),
        )
  ]
]

pub known_decided : (names : List (List ℕ)) (table : Bundles) (word : List ℕ)
    → Decided (IsKnown names table word)
known_decided names table word =
    either (Contains names word) (Contains (names_of table) word)
    (member_decided names word same_or_other) (member_decided (names_of table) word same_or_other)

-- each word is a name, or there is a first one that is none
pub known_or_first : (names : List (List ℕ)) (table : Bundles) (words : List (List ℕ))
    → All (IsKnown names table) words
    ⊎ ((place : ℕ) × IsFirst (λ word. IsKnown names table word → ⊥) words place)
known_or_first names table words =
    elim (first_or_none (λ word. IsKnown names table word → ⊥)
    (λ word. not (IsKnown names table word) (known_decided names table word)) words) [
      | inr found ↦ inr found
      | inl none ↦
          inl (λ k word within. elim (known_decided names table (slice_index_or words k word)) [
            | inl known ↦ known
            | inr unknown ↦ absurd (none k word within unknown)
          ])
    ]

-- what stands at a place of a list is this, or not
name_at_decided : (names : List (List ℕ)) (s : ℕ) (name : List ℕ)
    → Decided (slice_get names s ≡ Some name)
name_at_decided names s name = by (slice_get names s)
  where
    by : (found : Option (List ℕ)) → Decided (found ≡ Some name)
    by None = inr (λ e. let bad : ◌≡◌ {A = Option (List ℕ)} None (Some name) = e in cc)
    by (Some other) = elim (same_or_other other name) [
      | inl same ↦ inl (ap Some same)
      | inr apart ↦ inr (λ e. apart (same_Some other name e))
    ]

in_bundle_decided : (value : Option (List Bool)) (s : ℕ)
    → Decided ((set : List Bool) × (value ≡ Some set) × Has set s)
in_bundle_decided None s =
    inr (λ h. let bad : ◌≡◌ {A = Option (List Bool)} None (Some h.0) = h.1 in cc)
in_bundle_decided (Some set) s = elim (has_or_lacks set s) [
  | inl has ↦ inl (set, refl, has)
  | inr lacks ↦
      inr (λ h. lacks (subst (λ (x : List Bool). Has x s) (sym (same_Some set h.0 h.1)) h.2))
]

pub stands_decided : (names : List (List ℕ)) (table : Bundles) (name : List ℕ) (s : ℕ)
    → Decided (StandsFor names table name s)
stands_decided names table name s =
    either (slice_get names s ≡ Some name) ((set : List Bool) × (value_of table name ≡ Some set)
    × Has set s) (name_at_decided names s name) (in_bundle_decided (value_of table name) s)

pub selected_decided : (names : List (List ℕ)) (table : Bundles) (words : List (List ℕ)) (s : ℕ)
    → Decided (Selected names table words s)
selected_decided names table words s =
    elim (some_below (λ k. StandsFor names table (slice_index_or words k []) s) (length words)
    (λ k low. stands_decided names table (slice_index_or words k []) s)) [
      | inl found ↦
          inl (
            slice_index_or words found.0 [],
            (
              found.0,
              found.1,
              same_default words found.0 (slice_index_or words found.0 []) [] found.1,
            ),
            found.2,
          )
      | inr none ↦
          inr (λ h. none h.1.0 h.1.1
          (subst (λ (w : List ℕ). StandsFor names table w s)
          (sym (same_default words h.1.0 [] h.0 h.1.1 ∙ h.1.2)) h.2))
    ]
  where
    same_default : (xs : List (List ℕ)) (k : ℕ) (a b : List ℕ) → k < length xs
        → slice_index_or xs k a ≡ slice_index_or xs k b
    same_default [] k a b within = absurd (omega arith)
    same_default (x ∷ xs) zero a b within = refl
    same_default (x ∷ xs) (suc k) a b within = same_default xs k a b (omega arith)

-- what a word stands for is a service
stands_within : (names : List (List ℕ)) (table : Bundles) → HaveBound (length names) table
    → (name : List ℕ) (s : ℕ) → StandsFor names table name s → s < length names
stands_within names table below name s stands = elim stands [
  | inl service ↦ slice_get_within names s name service
  | inr bundle ↦ let low : s < length bundle.0 = has_within bundle.0 s bundle.2 in
      omega (arith, bound_of_value (length names) table name bundle.0 below bundle.1)
]

pub selected_within : (names : List (List ℕ)) (table : Bundles) → HaveBound (length names) table
    → (words : List (List ℕ)) (s : ℕ) → Selected names table words s → s < length names
selected_within names table below words s selected =
    stands_within names table below selected.0 s selected.2

-- the set of what words stand for
pub selected_set : (names : List (List ℕ)) (table : Bundles) → HaveBound (length names) table
    → (words : List (List ℕ)) → (set : List Bool) × (length set ≡ length names)
    × Holds set (Selected names table words)
selected_set names table below words =
    let made = set_of (Selected names table words) (length names)
    (λ s low. selected_decided names table words s) in (
      made.0,
      made.1.bound,
      holds_of (Selected names table words) (length names) made.0 made.1
          (selected_within names table below words),
    )

essential_decided : (d : Database) (s : ℕ) → Decided (IsEssential d s)
essential_decided d s = by (slice_get d.services s)
  where
    by : (found : Option Service)
        → Decided ((service : Service) × (found ≡ Some service) × (service.essential ≡ true))
    by None = inr (λ h. let bad : ◌≡◌ {A = Option Service} None (Some h.0) = h.1 in cc)
    by (Some service) = elim (flag_decided service.essential true) [
      | inl is ↦ inl (service, refl, is)
      | inr never ↦
          inr
          (λ h. never (subst (λ (x : Service). x.essential ≡ true) (sym (same_Some service h.0 h.1))
          h.2))
    ]

-- the first step of a path to a member, and the last of any path
path_next : (needs : List (List ℕ)) (In : ℕ → Type 0) (s t : ℕ) (between : List ℕ) → In t
    → EachNeedsNext needs (s ∷ (between ++ t ∷ []))
    → (x : ℕ) × Needs needs s x × DownFrom needs In x
path_next needs In s t [] member path = (t, path.0, inl member)
path_next needs In s t (x ∷ xs) member path = (x, path.0, inr (t, member, (xs, path.1)))

last_step : (needs : List (List ℕ)) (s : ℕ) (between : List ℕ) (t : ℕ)
    → EachNeedsNext needs (s ∷ (between ++ t ∷ []))
    → (x : ℕ) × Needs needs x t × ((s ≡ x) ⊎ Reaches needs s x)
last_step needs s [] t path = (s, path.0, inl refl)
last_step needs s (y ∷ ys) t path =
    let rest = last_step needs y ys t path.1 in (
      rest.0,
      rest.1,
      inr (elim rest.2 [
        | inl same ↦ reaches_one needs s rest.0 (subst (λ (x : ℕ). Needs needs s x) same path.0)
        | inr more ↦ reaches_first needs s y rest.0 path.0 more
      ]),
    )

-- closures of what can be decided
module _ (needs : List (List ℕ)) (known : AreServices needs) (acyclic : IsAcyclic needs)
    (In : ℕ → Type 0) (by : (s : ℕ) → Decided (In s)) where
  down_next : (s : ℕ) → ((t : ℕ) → Needs needs s t → Decided (DownFrom needs In t))
      → Decided (DownFrom needs In s)
  down_next s rest = elim (by s) [
    | inl member ↦ inl (inl member)
    | inr outside ↦
        elim (some_below (λ t. Needs needs s t × DownFrom needs In t) (length needs)
        (λ t low. elim (needs_decided needs s t) [
          | inl need ↦
              elim (rest t need) [ inl down ↦ inl (need, down) | inr never ↦ inr (λ h. never h.1) ]
          | inr apart ↦ inr (λ h. apart h.0)
        ])) [
          | inl found ↦ inl (down_before needs In s found.0 found.2.0 found.2.1)
          | inr none ↦ inr (λ down. elim down [
            | inl member ↦ outside member
            | inr path ↦ let next = path_next needs In s path.0 path.2.0 path.1 path.2.1 in
                none next.0 (known s next.0 next.1) (next.1, next.2)
          ])
        ]
  ]

  pub down_decided : (s : ℕ) → s < length needs → Decided (DownFrom needs In s)
  down_decided s low =
      acyclic_up needs (λ x. Decided (DownFrom needs In x)) known acyclic
      (λ x within rest. down_next x rest) s low

  up_next : (t : ℕ) → ((s : ℕ) → Needs needs s t → Decided (UpFrom needs In s))
      → Decided (UpFrom needs In t)
  up_next t rest = elim (by t) [
    | inl member ↦ inl (inl member)
    | inr outside ↦
        elim (some_below (λ s. Needs needs s t × UpFrom needs In s) (length needs)
        (λ s low. elim (needs_decided needs s t) [
          | inl need ↦
              elim (rest s need) [ inl up ↦ inl (need, up) | inr never ↦ inr (λ h. never h.1) ]
          | inr apart ↦ inr (λ h. apart h.0)
        ])) [
          | inl found ↦ inl (up_is_closed needs In found.0 t found.2.1 found.2.0)
          | inr none ↦ inr (λ up. elim up [
            | inl member ↦ outside member
            | inr path ↦
                let last = last_step needs path.0 path.2.0 t path.2.1 in
                none last.0 (needer_known needs last.0 t last.1) (
                  last.1,
                  elim last.2 [
                    | inl same ↦ inl (subst In same path.1)
                    | inr more ↦ inr (path.0, path.1, more)
                  ],
                )
          ])
        ]
  ]

  pub up_decided : (s : ℕ) → s < length needs → Decided (UpFrom needs In s)
  up_decided s low =
      acyclic_down needs (λ x. Decided (UpFrom needs In x)) acyclic
      (λ x within rest. up_next x rest) s low

  pub up_within : ((s : ℕ) → In s → s < length needs) → (t : ℕ) → UpFrom needs In t
      → t < length needs
  up_within within t up = elim up [
    | inl member ↦ within t member
    | inr path ↦ let last = last_step needs path.0 path.2.0 t path.2.1 in known last.0 t last.1
  ]

module _ (d : Database) (is_db : IsDatabase d) (table : Bundles)
    (below : HaveBound (length d.names) table) (up : List Bool) (long : length up ≡ length d.names)
    (ask : Ask) where
  abbrev wanted : ℕ → Type 0
  wanted = IsWanted d.names table (Has up) ask

  abbrev essential : ℕ → Type 0
  essential = IsEssentialUp d (Has up)

  abbrev target : ℕ → Type 0
  target = Target d.needs (Has up) essential ask.mode ask.prune wanted

  wanted_decided : (s : ℕ) → Decided (wanted s)
  wanted_decided s =
      either (Selected d.names table ask.words s) ((ask.all ≡ true) × Has up s)
      (selected_decided d.names table ask.words s)
      (both (ask.all ≡ true) (Has up s) (flag_decided ask.all true) (has_or_lacks up s))

  is_essential_decided : (s : ℕ) → Decided (essential s)
  is_essential_decided s =
      both (IsEssential d s) (Has up s) (essential_decided d s) (has_or_lacks up s)

  up_is_within : (s : ℕ) → Has up s → s < length d.needs
  up_is_within s has =
      let low : s < length up = has_within up s has in omega (arith, long, is_db.fit.graph)

  wanted_is_within : (s : ℕ) → wanted s → s < length d.needs
  wanted_is_within s want = elim want [
    | inl named ↦
        let low : s < length d.names = selected_within d.names table below ask.words s named in
        omega (arith, is_db.fit.graph)
    | inr all ↦ up_is_within s all.1
  ]

  wanted_up : (s : ℕ) → s < length d.needs → Decided (UpFrom d.needs wanted s)
  wanted_up s low = up_decided d.needs is_db.needs.known is_db.acyclic wanted wanted_decided s low

  wanted_down : (s : ℕ) → s < length d.needs → Decided (DownFrom d.needs wanted s)
  wanted_down s low =
      down_decided d.needs is_db.needs.known is_db.acyclic wanted wanted_decided s low

  held_up : (s : ℕ) → s < length d.needs → Decided (UpFrom d.needs essential s)
  held_up s low =
      up_decided d.needs is_db.needs.known is_db.acyclic essential is_essential_decided s low

  wanted_up_within : (s : ℕ) → UpFrom d.needs wanted s → s < length d.needs
  wanted_up_within s more =
      up_within d.needs is_db.needs.known is_db.acyclic wanted wanted_decided
      wanted_is_within s more

  held_up_within : (s : ℕ) → UpFrom d.needs essential s → s < length d.needs
  held_up_within s more =
      up_within d.needs is_db.needs.known is_db.acyclic essential is_essential_decided
      (λ x is. up_is_within x is.1) s more

  target_decided : (mode : Mode) (prune : Bool) (s : ℕ) → s < length d.needs
      → Decided (Target d.needs (Has up) essential mode prune wanted s)
  target_decided Up false s low =
      either (Has up s) (UpFrom d.needs wanted s) (has_or_lacks up s) (wanted_up s low)
  target_decided Up true s low =
      either (UpFrom d.needs wanted s) (UpFrom d.needs essential s) (wanted_up s low)
      (held_up s low)
  target_decided Down prune s low =
      both (Has up s) (DownFrom d.needs wanted s → UpFrom d.needs essential s) (has_or_lacks up s)
      (where_so (DownFrom d.needs wanted s) (UpFrom d.needs essential s) (wanted_down s low)
      (held_up s low))
  target_decided DownAll prune s low =
      both (Has up s) (DownFrom d.needs wanted s → ⊥) (has_or_lacks up s)
      (not (DownFrom d.needs wanted s) (wanted_down s low))

  -- of what is up it is decided whether it is to stay
  pub staying_decided : (s : ℕ) → Has up s → Decided (TargetOfAsk d table up ask s)
  staying_decided s has = target_decided ask.mode ask.prune s (up_is_within s has)

  target_is_within : (mode : Mode) (prune : Bool) (s : ℕ)
      → Target d.needs (Has up) essential mode prune wanted s → s < length d.needs
  target_is_within Up false s aimed =
      elim aimed [ inl has ↦ up_is_within s has | inr more ↦ wanted_up_within s more ]
  target_is_within Up true s aimed =
      elim aimed [ inl more ↦ wanted_up_within s more | inr held ↦ held_up_within s held ]
  target_is_within Down prune s aimed = up_is_within s aimed.0
  target_is_within DownAll prune s aimed = up_is_within s aimed.0

  kept_decided : (mode : Mode) (prune : Bool) (s : ℕ) → s < length d.needs
      → Decided (Kept d.needs essential mode prune wanted s)
  kept_decided Up false s low = inr (λ h. h)
  kept_decided Up true s low =
      both (essential s) (UpFrom d.needs wanted s → ⊥) (is_essential_decided s)
      (not (UpFrom d.needs wanted s) (wanted_up s low))
  kept_decided Down prune s low =
      both (essential s) (DownFrom d.needs wanted s) (is_essential_decided s) (wanted_down s low)
  kept_decided DownAll prune s low = inr (λ h. h)

  kept_is_within : (mode : Mode) (prune : Bool) (s : ℕ) → Kept d.needs essential mode prune wanted s
      → s < length d.needs
  kept_is_within Up false s kept = absurd kept
  kept_is_within Up true s kept = up_is_within s kept.0.1
  kept_is_within Down prune s kept = up_is_within s kept.0.1
  kept_is_within DownAll prune s kept = absurd kept

  -- the set of a fact that is decided for services, and holds of those alone
  set_for : (P : ℕ → Type 0) → ((s : ℕ) → s < length d.needs → Decided (P s))
      → ((s : ℕ) → P s → s < length d.needs)
      → (set : List Bool) × (length set ≡ length up) × Holds set P
  set_for P decided within =
      let made = set_of P (length d.needs) decided in (
        made.0,
        made.1.bound ∙ is_db.fit.graph ∙ sym long,
        holds_of P (length d.needs) made.0 made.1 within,
      )

  -- each change that can be planned has a plan
  pub plan_of : (plan : PlanSets) × IsPlanOf d table up ask plan
  plan_of =
      let Goes : ℕ → Type 0 = λ s. Has up s × (target s → ⊥) in
      let Comes : ℕ → Type 0 = λ s. target s × (Has up s → ⊥) in
      let lower =
      set_for Goes
      (λ s low. both (Has up s) (target s → ⊥) (has_or_lacks up s)
      (not (target s) (target_decided ask.mode ask.prune s low))) (λ s h. up_is_within s h.0) in
      let raise =
      set_for Comes
      (λ s low. both (target s) (Has up s → ⊥) (target_decided ask.mode ask.prune s low)
      (not (Has up s) (has_or_lacks up s))) (λ s h. target_is_within ask.mode ask.prune s h.0) in
      let kept = set_for (Kept d.needs essential ask.mode ask.prune wanted)
      (kept_decided ask.mode ask.prune) (kept_is_within ask.mode ask.prune) in (
        record { opening = up; lower = lower.0; raise = raise.0; kept = kept.0 },
        record {
          opening = refl;
          lower = lower.2;
          raise = raise.2;
          kept = kept.2;
          lower_bound =
              lower.1;
          raise_bound = raise.1;
          kept_bound = kept.1;
        },
      )
