-- What the steps of an update move.
use Rattle.std.proofs.Common.{◌≡◌, ◌↔◌, ◌<◌, inl, inr, ℕ, true, false, List, [], Some, length}
use Rattle.std.proofs.Common.{slice_get, subst, arith}
use Rattle.std.proofs.lemmas.Option.{slice_get-get_or}
use Rattle.rc_model.specs.Names.{Has}
use Rattle.rc_model.proofs.SetMembers.{has_within}
use Rattle.rc_model.specs.Graph.{UpFrom}
use Rattle.rc_model.proofs.ByteOrder.{one_place}
use Rattle.rc_model.proofs.Members.{contains_at}
use Rattle.rc_model.specs.Database.{Bundles, AreApart, Database, IsDatabase}
use Rattle.rc_db.proofs.Values.{named_by_value}
use Rattle.rc_model.specs.Line.{Line}
use Rattle.rc_model.specs.Plan.{IsPlanOf, IsWanted, PlanSets}
use Rattle.rc_model.specs.declared.Mode.{Mode}
use Rattle.rc_model.specs.declared.Mode.TheVariants.{DownAll, Up}
use Rattle.rc_model.specs.Session.{IsLineOf}
use Rattle.rc_model.proofs.Closures.{up_more, down_more}
use Rattle.rc_session.proofs.States.{current_state}
use Rattle.rc_update.specs.Carrying.{AreNamesOf, Carried, IsAlteredUp, StaysUp}
use Rattle.rc_update.specs.Conversions.{Conversion}
use Rattle.rc_cli.specs.Steps.{step_ask}
use Rattle.rc_cli.specs.Updating.{IsUpdate, Parts}

-- the services that the names of services stand for are those services
module _ (d : Database) (table : Bundles) (P IsUp : ℕ → Type 0) (mode : Mode)
    (names : List (List ℕ)) where
  pub wanted_in : IsDatabase d → AreApart d.names table → AreNamesOf d P names → (s : ℕ)
      → IsWanted d.names table IsUp (step_ask mode names) s → P s
  wanted_in is apart lists s (inl (word, there, inl at)) =
      let named = (lists.same word).0 there in
      subst P (one_place d.names word named.0 s is.names.order named.1 at) named.2
  wanted_in is apart lists s (inl (word, there, inr (set, value, has))) =
      let named = (lists.same word).0 there in
      absurd (apart word (contains_at d.names named.0 word named.1)
      (named_by_value table word set value))
  wanted_in is apart lists s (inr (all, up)) = let bad : false ≡ true = all in cc

  pub wanted_back : AreNamesOf d P names → (s : ℕ) (name : List ℕ) → slice_get d.names s ≡ Some name
      → P s → IsWanted d.names table IsUp (step_ask mode names) s
  wanted_back lists s name at holds = inl (name, (lists.same name).1 (s, at, holds), inl at)

-- the first step
module _ (old new : Database) (list : List Conversion) (line : Line) (parts : Parts)
    (plan : PlanSets) where
  altered_wanted : IsLineOf old line → IsUpdate old new list line parts → (t : ℕ)
      → IsAlteredUp old new list (Has line.current.live) t
      → IsWanted old.names line.current.table (Has line.current.live) (step_ask DownAll parts.lower)
      t
  altered_wanted of update t altered =
      let low : t < length line.current.live = has_within line.current.live t altered.0 in
      let bound = (current_state old line of).bound in
      wanted_back old line.current.table (IsAlteredUp old new list (Has line.current.live))
      (Has line.current.live) DownAll parts.lower update.lower t _
      (slice_get-get_or old.names t [] (omega (arith, low, bound))) altered

  pub lowers : IsDatabase old → IsLineOf old line → IsUpdate old new list line parts
      → IsPlanOf old line.current.table line.current.live (step_ask DownAll parts.lower) plan
      → (s : ℕ) → Has plan.lower s
      ↔ (Has line.current.live s × (StaysUp old new list (Has line.current.live) s → ⊥))
  lowers is of update planned s =
      let altered = IsAlteredUp old new list (Has line.current.live) in
      let wanted = IsWanted old.names line.current.table (Has line.current.live)
      (step_ask DownAll parts.lower) in
      let apart = (current_state old line of).apart in (
        λ has. let goes = (planned.lower s).0 has in (
          goes.0,
          λ stays. goes.1 (
            stays.0,
            λ down. stays.1
                (down_more old.needs wanted altered
                (wanted_in old line.current.table altered (Has line.current.live) DownAll
                parts.lower is apart update.lower) s down),
          ),
        ),
        λ goes. (planned.lower s).1 (
          goes.0,
          λ stays. goes.1 (
            stays.0,
            λ down. stays.1
                (down_more old.needs altered wanted (altered_wanted of update) s down),
          ),
        ),
      )

  pub lowers_alone : IsPlanOf old line.current.table line.current.live
      (step_ask DownAll parts.lower) plan → (s : ℕ) → Has plan.raise s → ⊥
  lowers_alone planned s has = let comes = (planned.raise s).0 has in comes.1 comes.0.0

-- the second step
module _ (old new : Database) (list : List Conversion) (line : Line) (parts : Parts)
    (plan : PlanSets) where
  carried_wanted : IsUpdate old new list line parts → (t : ℕ)
      → Carried old new list (Has line.current.live) t
      → IsWanted new.names new.table (Has parts.kept) (step_ask Up parts.raise) t
  carried_wanted update t (s, up, (name, other, at_old, on, at_new)) =
      wanted_back new new.table (Carried old new list (Has line.current.live)) (Has parts.kept) Up
      parts.raise update.raise t other at_new (s, up, (name, other, at_old, on, at_new))

  pub raises : IsDatabase new → IsUpdate old new list line parts
      → IsPlanOf new new.table parts.kept (step_ask Up parts.raise) plan
      → (s : ℕ) → Has plan.raise s ↔
      (UpFrom new.needs (Carried old new list (Has line.current.live)) s × (Has parts.kept s → ⊥))
  raises is update planned s =
      let carried = Carried old new list (Has line.current.live) in
      let wanted = IsWanted new.names new.table (Has parts.kept) (step_ask Up parts.raise) in (
        λ has. let comes = (planned.raise s).0 has in (
          elim comes.0 [
            | inl up ↦ absurd (comes.1 up)
            | inr from ↦
                up_more new.needs wanted carried
                (wanted_in new new.table carried (Has parts.kept) Up parts.raise is is.fit.apart
                update.raise) s from
          ],
          comes.1,
        ),
        λ comes. (planned.raise s).1
            (inr (up_more new.needs carried wanted (carried_wanted update) s comes.0), comes.1),
      )

  pub raises_alone : IsPlanOf new new.table parts.kept (step_ask Up parts.raise) plan → (s : ℕ)
      → Has plan.lower s → ⊥
  raises_alone planned s has = let goes = (planned.lower s).0 has in goes.1 (inl goes.0)
