-- What stays up needs nothing that does not, in the old database and in the new one.
use Rattle.std.proofs.Common.{◌≡◌, ◌∙◌, ◌≤◌, ◌<◌, inl, inr, ℕ, Bool, List, Some, length, slice_get}
use Rattle.std.proofs.Common.{sym, ap, subst, arith}
use Rattle.std.proofs.lemmas.Option.{slice_get_within, same_Some}
use Rattle.rc_model.specs.Names.{Has, Holds}
use Rattle.rc_model.specs.Graph.{IsClosed, DownFrom}
use Rattle.rc_graph.proofs.Paths.{down_before}
use Rattle.rc_names.specs.Names.{ListsNames}
use Rattle.rc_model.proofs.ByteOrder.{one_place}
use Rattle.rc_model.specs.Database.{Database, IsDatabase}
use Rattle.rc_db.proofs.Listing.{Passed}
use Rattle.rc_update.specs.Conversions.{Conversion, counterpart}
use Rattle.rc_update.specs.Carrying.{AreNamesOf, Carried, IsAlteredUp, IsTwin, IsUnaltered}
use Rattle.rc_update.specs.Carrying.{NeedTwins, StaysUp}

-- a twin is a service of the new database
pub twin_within : (old new : Database) (list : List Conversion) (s t : ℕ) → IsTwin old new list s t
    → t < length new.names
twin_within old new list s t is = slice_get_within new.names t is.1 is.4

-- a service goes on as one
pub one_twin : (old new : Database) (list : List Conversion) (s t u : ℕ) → IsDatabase new
    → IsTwin old new list s t → IsTwin old new list s u → t ≡ u
one_twin old new list s t u nd (a, x, at_old, on, at_new) (b, y, bt_old, also, bt_new) =
    let one : a ≡ b = same_Some a b (sym at_old ∙ bt_old) in
    let same : x ≡ y = same_Some x y (sym on ∙ ap (counterpart list) one ∙ also) in
    one_place new.names y t u nd.names.order (at_new ∙ ap Some same) bt_new

-- what stays up needs in the new database only what stays up
pub kept_closed : (old new : Database) (list : List Conversion) (IsUp : ℕ → Type 0)
    → IsDatabase new → IsClosed old.needs IsUp
    → ((s : ℕ) → StaysUp old new list IsUp s → IsUnaltered old new list s)
    → IsClosed new.needs (Carried old new list (StaysUp old new list IsUp))
kept_closed old new list IsUp nd closed unaltered t u (s, stays, twin) need =
    let same = (unaltered s stays).same in
    let is : same.0 ≡ t = one_twin old new list s same.0 t nd same.1.twin twin in
    let needs : NeedTwins old new list s t =
    subst (NeedTwins old new list s) is same.1.needs in
    let from = needs.back u need in
    let down = down_before old.needs (IsAlteredUp old new list IsUp) s from.0 from.1 in
    (from.0, (closed s from.0 stays.0 from.1, λ goes. stays.1 (down goes)), from.2)

-- what is said of services by a set is said by what the set holds
pub carried_holds : (old new : Database) (list : List Conversion) (set carried : List Bool)
    (P : ℕ → Type 0) → Holds set P → Holds carried (Carried old new list (Has set))
    → Holds carried (Carried old new list P)
carried_holds old new list set carried P holds are t = (
  λ has. let c = (are t).0 has in (c.0, (holds c.0).0 c.1, c.2),
  λ c. (are t).1 (c.0, (holds c.0).1 c.1, c.2),
)

pub names_hold : (d : Database) (names : List (List ℕ)) (set : List Bool) (P : ℕ → Type 0)
    (listed : List (List ℕ)) → names ≡ d.names → Holds set P
    → ListsNames (λ name. (s : ℕ) × (slice_get names s ≡ Some name) × Has set s) listed
    → AreNamesOf d P listed
names_hold d names set P listed is holds lists = record {
  order = lists.order;
  same = λ name. (
    λ there.
        let at = (lists.same name).0 there in (
          at.0,
          ap (λ (ns : List (List ℕ)). slice_get ns at.0) (sym is) ∙ at.1,
          (holds at.0).0 at.2,
        ),
    λ at. (lists.same name).1 (
      at.0,
      ap (λ (ns : List (List ℕ)). slice_get ns at.0) is ∙ at.1,
      (holds at.0).1 at.2,
    ),
  );
}

-- what stays is what is up and is not among what goes down
pub stays_holds : (old new : Database) (list : List Conversion) (live altered stays : List Bool)
    → Holds altered (IsAlteredUp old new list (Has live))
    → Holds stays (λ s. Has live s × (DownFrom old.needs (Has altered) s → ⊥))
    → Holds stays (StaysUp old new list (Has live))
stays_holds old new list live altered stays are left s = (
  λ has. let at = (left s).0 has in (at.0, λ goes. at.1 (down_as goes)),
  λ at. (left s).1 (at.0, λ goes. at.1 (down_back goes)),
)
  where
    down_as : DownFrom old.needs (IsAlteredUp old new list (Has live)) s
        → DownFrom old.needs (Has altered) s
    down_as (inl member) = inl ((are s).1 member)
    down_as (inr r) = inr (r.0, (are r.0).1 r.1, r.2)

    down_back : DownFrom old.needs (Has altered) s
        → DownFrom old.needs (IsAlteredUp old new list (Has live)) s
    down_back (inl member) = inl ((are s).0 member)
    down_back (inr r) = inr (r.0, (are r.0).0 r.1, r.2)

-- what is left, by the calls that find it
pub left_by : (needs graph : List (List ℕ)) (live altered down before stays : List Bool)
    → graph ≡ needs → before ≡ live → Holds down (DownFrom graph (Has altered))
    → Holds stays (λ s. Has before s × (Has down s → ⊥))
    → Holds stays (λ s. Has live s × (DownFrom needs (Has altered) s → ⊥))
left_by needs graph live altered down before stays is same closure left s =
    let falls = subst (λ (g : List (List ℕ)). Holds down (DownFrom g (Has altered))) is closure in
    let rest =
    subst (λ (b : List Bool). Holds stays (λ k. Has b k × (Has down k → ⊥))) same left in (
      λ has. let at = (rest s).0 has in (at.0, λ goes. at.1 ((falls s).1 goes)),
      λ at. (rest s).1 (at.0, λ goes. at.1 ((falls s).0 goes)),
    )

-- once all places are passed, the names of the services of a set are listed
pub all_passed : (names : List (List ℕ)) (set : List Bool) (i : ℕ) (out : List (List ℕ))
    → length names ≤ i → Passed (Has set) names i out
    → ListsNames (λ name. (s : ℕ) × (slice_get names s ≡ Some name) × Has set s) out
all_passed names set i out whole passed = record {
  order = passed.order;
  same = λ name. (
    λ there. let at = (passed.same name).0 there in (at.0, at.2, at.3),
    λ at. (passed.same name).1 (
      at.0,
      omega (arith, slice_get_within names at.0 name at.1),
      at.1,
      at.2,
    ),
  );
}

-- what stays up is unaltered, where each that is up and not altered is
pub kept_unaltered : (old new : Database) (list : List Conversion) (live altered : List Bool)
    → Holds altered (IsAlteredUp old new list (Has live))
    → ((s : ℕ) → Has live s → (Has altered s → ⊥) → IsUnaltered old new list s)
    → (s : ℕ) → StaysUp old new list (Has live) s → IsUnaltered old new list s
kept_unaltered old new list live altered are spared s stays =
    spared s stays.0 (λ has. stays.1 (inl ((are s).0 has)))

-- a set that holds what is closed is closed
pub closed_by : (needs : List (List ℕ)) (set : List Bool) (P : ℕ → Type 0) → Holds set P
    → IsClosed needs P → IsClosed needs (Has set)
closed_by needs set P holds closed s t has need =
    (holds t).1 (closed s t ((holds s).0 has) need)
