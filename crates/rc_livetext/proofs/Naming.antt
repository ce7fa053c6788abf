-- Services that a set has, and their names.
use Rattle.std.proofs.Common.{◌≡◌, ◌∙◌, ◌<◌, ◌↔◌, ℕ, Bool, List, [], length, map, slice_get, Some}
use Rattle.std.proofs.Common.{Contains, All, get_or, arith, ap, subst}
use Rattle.std.proofs.lemmas.List.Elements.{All-map, Contains-get_or}
use Rattle.std.proofs.lemmas.Option.{slice_get-get_or}
use Rattle.rc_model.specs.Names.{Has, IsInByteOrder}
use Rattle.rc_names.specs.Names.{IsNamed}
use Rattle.rc_model.proofs.ByteOrder.{one_place}
use Rattle.rc_model.specs.Graph.{IsClosed}
use Rattle.rc_model.proofs.SetMembers.{has_within}
use Rattle.rc_dbtext.specs.Spelling.{members, name_at}
use Rattle.rc_dbtext.proofs.Bundling.{has_member, member_has}
use Rattle.rc_dbtext.proofs.Naming.{mapped_member, member_mapped}
use Rattle.rc_dbtext.proofs.Unique.{members_low}

module _ (names : List (List ℕ)) (order : IsInByteOrder names) (set : List Bool)
    (long : length set ≡ length names) where
  -- the names of the members are names
  pub members_known : All (Contains names) (map (name_at names) (members set))
  members_known = All-map (Contains names) (name_at names) (members set)
      (λ k e within. Contains-get_or names (get_or (members set) k e) []
      (members_low names order set long k e within))

  -- what the set has is named by its members' names, and nothing else is
  pub has_named : (id : ℕ) → Has set id ↔ IsNamed names (map (name_at names) (members set)) id
  has_named id = (
    λ has.
        let low : id < length set = has_within set id has in (
          name_at names id,
          slice_get-get_or names id [] (omega arith),
          mapped_member (name_at names) (members set) id (member_has set id has),
        ),
    λ (name, at, listed).
        let found = member_mapped (name_at names) (members set) name listed in
        let low : found.0 < length set = has_within set found.0 (has_member set found.0 found.1) in
        let here : slice_get names found.0 ≡ Some name =
        slice_get-get_or names found.0 [] (omega arith) ∙ ap (λ (n : List ℕ). Some n) found.2 in
        subst (Has set) (one_place names name found.0 id order here at)
        (has_member set found.0 found.1),
  )

  -- a set is closed just where its members' names are
  pub closed_named : (needs : List (List ℕ))
      → IsClosed needs (Has set)
      ↔ IsClosed needs (IsNamed names (map (name_at names) (members set)))
  closed_named needs = (
    λ closed a b up need. (has_named b).0 (closed a b ((has_named a).1 up) need),
    λ closed a b has need. (has_named b).1 (closed a b ((has_named a).0 has) need),
  )
