-- The grammar of a database text: which forms are made of which.
use Rattle.std.proofs.Common.{◌≡◌, ℕ, ◌≤◌, List, [], ◌∷◌, ◌++◌, All, Option, None, IfSome, arith}
use Rattle.std.proofs.Common.{refl}
use Rattle.std.specs.List.{flat_map}
use Rattle.rc_model.specs.declared.Kind.{Kind}
use Rattle.rc_model.specs.declared.Kind.TheVariants as kinds
use Rattle.rc_model.specs.Names.{IsName}
use Rattle.rc_db.specs.Service.{IsScript}
use Rattle.rc_dbtext.specs.Text.{Line, First, ServiceCount, OfService, OfNeeds, OfProducer, OfUp}
use Rattle.rc_dbtext.specs.Text.{OfDown, BundleCount, Last, Head, Body, OfLongrun, OfOneshot}
use Rattle.rc_dbtext.specs.Text.{ServiceText, BundleText, DbText, body_lines, service_lines}
use Rattle.rc_dbtext.specs.Text.{bundle_lines, count_and_lines, db_lines, IsHead, IsBody}
use Rattle.rc_dbtext.specs.Text.{IsServiceText, IsBundleText, AreFew, IsDbText}
use Rattle.rc_dbtext.specs.Reading.{one, AreSo}
use Rattle.rc_dbtext.proofs.Sequences.{IsSequence, IsOnce, once_sequence, once_many}
use Rattle.rc_dbtext.proofs.Sequences.{counted_sequence}
use Rattle.rc_dbtext.proofs.KindLines.{once_first, once_services, once_bundles, once_head}
use Rattle.rc_dbtext.proofs.KindLines.{once_needs, once_producer, once_up, once_down, once_bundle}
use Rattle.rc_dbtext.proofs.KindLines.{once_last, IsScript-none, head_kind}

-- nothing
abbrev pub Always : Unit {0} → Type 0
Always u = Unit {0}

abbrev pub no_lines : Unit {0} → List Line
no_lines u = []

once_nothing : IsOnce Always no_lines
once_nothing a b k x y is_a is_b long same = refl

-- what follows the needs of a oneshot
pub oneshot_halves : (body : Body) → IsBody kinds.Oneshot body
    → (up : List ℕ) × (down : Option (List ℕ)) × IsScript up × IfSome down IsScript
    × (body ≡ OfOneshot up down)
oneshot_halves (OfLongrun producer_for) is =
    absurd (let bad : kinds.Oneshot ≡ kinds.Longrun = is.0 in cc)
oneshot_halves (OfOneshot up down) is = (up, down, is.1, is.2, refl)

abbrev pub oneshot_sequence : IsSequence IsScript (one OfUp) (λ _ down. IfSome down IsScript)
    (one OfDown) (IsBody kinds.Oneshot) body_lines
oneshot_sequence = record {
  both = OfOneshot;
  is_both = λ up down is_up is_down. (refl, is_up, is_down);
  lines_both = λ up down is_up is_down. refl;
  halves = oneshot_halves;
}

-- and of a longrun
pub longrun_halves : (body : Body) → IsBody kinds.Longrun body
    → (p : Option (List ℕ)) × (u : Unit {0}) × IfSome p IsName × Unit {0} × (body ≡ OfLongrun p)
longrun_halves (OfLongrun producer_for) is = (producer_for, tt, is.1, tt, refl)
longrun_halves (OfOneshot up down) is =
    absurd (let bad : kinds.Longrun ≡ kinds.Oneshot = is.0 in cc)

abbrev pub longrun_sequence : IsSequence (λ p. IfSome p IsName) (one OfProducer) (λ _ u. Always u)
    no_lines (IsBody kinds.Longrun) body_lines
longrun_sequence = record {
  both = λ p u. OfLongrun p;
  is_both = λ p u is_p is_u. (refl, is_p);
  lines_both = λ p u is_p is_u. refl;
  halves = longrun_halves;
}

pub once_body : (kind : Kind) → IsOnce (IsBody kind) body_lines
once_body kinds.Oneshot =
    once_sequence IsScript (one OfUp) (λ _ down. IfSome down IsScript) (one OfDown)
    (IsBody kinds.Oneshot) body_lines oneshot_sequence once_up (λ _. once_down)
once_body kinds.Longrun =
    once_sequence (λ p. IfSome p IsName) (one OfProducer) (λ _ u. Always u) no_lines
    (IsBody kinds.Longrun) body_lines longrun_sequence once_producer (λ _. once_nothing)
once_body kinds.Bundle = λ a b k x y is_a is_b long same. absurd (no_body a is_a)
  where
    no_body : (body : Body) → IsBody kinds.Bundle body → ⊥
    no_body (OfLongrun producer_for) is = let bad : kinds.Bundle ≡ kinds.Longrun = is.0 in absurd cc
    no_body (OfOneshot up down) is = let bad : kinds.Bundle ≡ kinds.Oneshot = is.0 in absurd cc

-- each kind of service has some body
pub some_body : (kind : Kind) → (kind ≡ kinds.Bundle → ⊥) → (body : Body) × IsBody kind body
some_body kinds.Oneshot is = (OfOneshot [] None, (refl, IsScript-none, tt))
some_body kinds.Longrun is = (OfLongrun None, (refl, tt))
some_body kinds.Bundle is = absurd (is refl)

-- what follows the first line of a service
abbrev pub IsTail : Kind → List (List ℕ) × Body → Type 0
IsTail kind tail = All IsName tail.0 × IsBody kind tail.1

abbrev pub tail_lines : List (List ℕ) × Body → List Line
tail_lines tail = OfNeeds tail.0 ∷ body_lines tail.1

abbrev pub tail_sequence : (kind : Kind)
    → IsSequence (All IsName) (one OfNeeds) (λ _ body. IsBody kind body) body_lines
    (IsTail kind) tail_lines
tail_sequence kind = record {
  both = λ needs body. (needs, body);
  is_both = λ needs body is_needs is_body. (is_needs, is_body);
  lines_both = λ needs body is_needs is_body. refl;
  halves = λ tail is. (tail.0, tail.1, is.0, is.1, refl);
}

pub once_tail : (kind : Kind) → IsOnce (IsTail kind) tail_lines
once_tail kind =
    once_sequence (All IsName) (one OfNeeds) (λ _ body. IsBody kind body) body_lines (IsTail kind)
    tail_lines (tail_sequence kind) once_needs (λ _. once_body kind)

pub some_tail : (head : Head) → IsHead head → (tail : List (List ℕ) × Body) × IsTail head.kind tail
some_tail head is = let body = some_body head.kind is.kind in
    (([], body.0), ((λ k d within. absurd (omega arith)), body.1))

-- a service
abbrev pub service_sequence : IsSequence IsHead (one OfService) (λ head tail. IsTail head.kind tail)
    tail_lines IsServiceText service_lines
service_sequence = record {
  both = λ head tail. record { head = head; needs = tail.0; body = tail.1 };
  is_both =
      λ head tail is_head is_tail. record { head = is_head; needs = is_tail.0; body = is_tail.1 };
  lines_both = λ head tail is_head is_tail. refl;
  halves = λ s is. (s.head, (s.needs, s.body), is.head, (is.needs, is.body), refl);
}

pub once_service : IsOnce IsServiceText service_lines
once_service =
    once_sequence IsHead (one OfService) (λ head tail. IsTail head.kind tail) tail_lines
    IsServiceText service_lines service_sequence once_head (λ head. once_tail head.kind)

pub some_service : (s : ServiceText) × IsServiceText s
some_service =
    let tail = some_tail head_kind.some head_kind.is_some in (
      record { head = head_kind.some; needs = tail.0.0; body = tail.0.1 },
      record { head = head_kind.is_some; needs = tail.1.0; body = tail.1.1 },
    )

-- all services, and all bundles
pub once_all_services : IsOnce (AreFew IsServiceText) (count_and_lines ServiceCount service_lines)
once_all_services =
    once_sequence (λ n. n ≤ 4096) (one ServiceCount) (λ n. AreSo IsServiceText n)
    (flat_map service_lines) (AreFew IsServiceText) (count_and_lines ServiceCount service_lines)
    (counted_sequence IsServiceText ServiceCount service_lines) once_services
    (λ n. once_many IsServiceText service_lines once_service n)

pub once_all_bundles : IsOnce (AreFew IsBundleText) (count_and_lines BundleCount bundle_lines)
once_all_bundles =
    once_sequence (λ n. n ≤ 4096) (one BundleCount) (λ n. AreSo IsBundleText n)
    (flat_map bundle_lines) (AreFew IsBundleText) (count_and_lines BundleCount bundle_lines)
    (counted_sequence IsBundleText BundleCount bundle_lines) once_bundles
    (λ n. once_many IsBundleText bundle_lines once_bundle n)

-- the bundles with the last line
abbrev pub end_lines : List BundleText → List Line
end_lines bundles = count_and_lines BundleCount bundle_lines bundles ++ Last ∷ []

abbrev pub end_sequence : IsSequence (AreFew IsBundleText)
    (count_and_lines BundleCount bundle_lines) (λ _ u. Always u) (one (λ _. Last))
    (AreFew IsBundleText) end_lines
end_sequence = record {
  both = λ bundles u. bundles;
  is_both = λ bundles u is_bundles is_u. is_bundles;
  lines_both = λ bundles u is_bundles is_u. refl;
  halves = λ bundles is. (bundles, tt, is, tt, refl);
}

-- all after the first line
abbrev pub inner_lines : DbText → List Line
inner_lines t = count_and_lines ServiceCount service_lines t.services ++ end_lines t.bundles

abbrev pub inner_sequence : IsSequence (AreFew IsServiceText)
    (count_and_lines ServiceCount service_lines) (λ _ bundles. AreFew IsBundleText bundles)
    end_lines IsDbText inner_lines
inner_sequence = record {
  both = λ services bundles. record { services = services; bundles = bundles };
  is_both = λ services bundles is_services is_bundles. record {
    services = is_services;
    bundles = is_bundles;
  };
  lines_both = λ services bundles is_services is_bundles. refl;
  halves = λ t is. (t.services, t.bundles, is.services, is.bundles, refl);
}

-- a database text
abbrev pub db_sequence : IsSequence Always (one (λ _. First)) (λ _ t. IsDbText t) inner_lines
    IsDbText db_lines
db_sequence = record {
  both = λ u t. t;
  is_both = λ u t is_u is_t. is_t;
  lines_both = λ u t is_u is_t. refl;
  halves = λ t is. (tt, t, tt, is, refl);
}

once_end : IsOnce (AreFew IsBundleText) end_lines
once_end =
    once_sequence (AreFew IsBundleText) (count_and_lines BundleCount bundle_lines) (λ _ u. Always u)
    (one (λ _. Last)) (AreFew IsBundleText) end_lines end_sequence once_all_bundles (λ _. once_last)

once_inner : IsOnce IsDbText inner_lines
once_inner =
    once_sequence (AreFew IsServiceText) (count_and_lines ServiceCount service_lines)
    (λ _ bundles. AreFew IsBundleText bundles) end_lines IsDbText inner_lines inner_sequence
    once_all_services (λ _. once_end)

pub once_db : IsOnce IsDbText db_lines
once_db =
    once_sequence Always (one (λ _. First)) (λ _ t. IsDbText t) inner_lines IsDbText db_lines
    db_sequence once_first (λ _. once_inner)
