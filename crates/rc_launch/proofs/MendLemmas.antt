-- What a check has repaired that ends with status 0.
use Rattle.std.proofs.Common.{◌≡◌, ◌⊎◌, ◌==◌, ℕ, Bool, true, false, List, [], Option, Result}
use Rattle.std.proofs.Common.{◌∙◌, Ok, Err, inl, inr, refl, subst, sym, arith, if◌then◌else◌}
use Rattle.std.proofs.lemmas.Bool.{eqb-true, false≢true}
use Rattle.std.specs.Borrow.{Bor}
use Rattle.rc_args.specs.NamedAsked.{NamedAsk}
use Rattle.rc_args.specs.SessionAsked.{SessionAsk}
use Rattle.rc_historytext.specs.Present.{IsPresent}
use Rattle.rc_cli.specs.Checking.{ChecksText, Finding}
use Rattle.rc_cli.specs.declared.sessions.keeping.LiveFile.{LiveFile}
use Rattle.rc_cli.specs.declared.sessions.keeping.LiveFile.TheVariants.{Text}
use Rattle.rc_serve.specs.declared.ending.Ending.{Ending}
use Rattle.rc_serve.specs.declared.ending.Ending.TheVariants.{Done}
use Rattle.rc_cli.specs.SessionFaults.{IsEndTold}
use Rattle.rc_cli.specs.Straying.{LowersBy, LowersStrays}
use Rattle.rc_cli.specs.declared.sessions.session_fault.SessionFault.{SessionFault}
use Rattle.rc_launch.specs.HeldHistory.{LeadsOn}
use Rattle.rc_launch.specs.Mending.{AreLowered, Mends, Repairs, mended_status}
use Rattle.rc_launch.specs.TwoSteps.{Restarts}
use Rattle.rc_launch.specs.declared.live_store.LiveStore.{LiveStore}
use Rattle.rc_launch.proofs.TravelLemmas.{done_of}

-- strays that were lowered with status 0 are down
pub are_lowered : (base : List ℕ) (ask : SessionAsk) (strays : List (List ℕ)) (status : ℕ)
    (writer : Type 0) (written gained before after : Option (List ℕ)) → status ≡ 0
    → LowersStrays base ask strays status writer written gained before after
    → AreLowered base ask strays
are_lowered base ask strays status writer written gained before after zero lowers =
    let done : lowers.0 ≡ Ok Done = done_of lowers.0 before after
    (subst (λ (s : ℕ). IsEndTold lowers.0 s before after) zero lowers.2) in
    let comes : LowersBy (Ok Done) base ask strays writer written gained =
    subst (λ (e : Result Ending SessionFault). LowersBy e base ask strays writer written gained)
    done lowers.1 in
    elim comes [
      | inl refused ↦ let bad : Ok Done ≡ Err refused.0 = refused.1 in cc
      | inr there ↦ (there.0, there.1, written, gained, there.2)
    ]

-- the tests of the status
tests : (first second unknown : Bool) (status : ℕ) → (first ≡ false → status ≡ 0 → ⊥)
    → (if first then (if second then (if unknown then 3 else 0) else 2) else status) ≡ 0
    → (first ≡ true) × (second ≡ true) × (unknown ≡ false)
tests true true false status other is = (refl, refl, refl)
tests true true true status other is = let no : 3 ≡ 0 = is in absurd (omega (arith, no))
tests true false unknown status other is = let no : 2 ≡ 0 = is in absurd (omega (arith, no))
tests false second unknown status other is = absurd (other refl is)

-- with status 0 both parts have it, and no longrun is unknown
pub all_mended : (restarted lowered : ℕ) (unknown : Bool)
    → mended_status restarted lowered unknown ≡ 0
    → (restarted ≡ 0) × (lowered ≡ 0) × (unknown ≡ false)
all_mended restarted lowered unknown is =
    let parts = tests (restarted == 0) (lowered == 0) unknown restarted
    (λ no zero. false≢true (sym (subst (λ (n : ℕ). (n == 0) ≡ false) zero no))) is in
    (eqb-true restarted 0 parts.0, eqb-true lowered 0 parts.1, parts.2)

-- what was found is repaired
pub repairs : (finding : Finding) (base : List ℕ) (ask : SessionAsk) (restarted lowered status : ℕ)
    (was : List ℕ) (new : LiveStore) → status ≡ mended_status restarted lowered finding.unknown
    → status ≡ 0
    → (lowered ≡ 0 → (finding.strays ≡ []) ⊎ AreLowered base ask finding.strays)
    → (restarted ≡ 0 → LeadsOn was new (λ bytes is. ((finding.fallen ≡ []) × (is ≡ bytes))
    ⊎ Restarts Done finding.fallen bytes is))
    → LeadsOn was new (Repairs finding base ask)
repairs finding base ask restarted lowered status was new is zero strays fallen =
    let all = all_mended restarted lowered finding.unknown (sym is ∙ zero) in
    let there = fallen all.0 in
    (there.0, there.1, (all.2, strays all.1, there.2))

-- and so a check has repaired what it found
pub mends : (asked : NamedAsk) (ask : SessionAsk) (finding : Finding) (base : List ℕ)
    (session : Bor (List ℕ)) (live : LiveFile) (was : List ℕ) (new : LiveStore)
    → live ≡ Text session → IsPresent was base session.now → ChecksText base asked live finding
    → LeadsOn was new (Repairs finding base ask) → LeadsOn was new (Mends asked ask)
mends asked ask finding base session live was new text present found there = (
  there.0,
  there.1,
  (
    base,
    session,
    finding,
    present,
    subst (λ (f : LiveFile). ChecksText base asked f finding) text found,
    there.2,
  ),
)
