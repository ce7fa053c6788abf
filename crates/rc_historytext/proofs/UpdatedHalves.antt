-- What is live after the first half of an update, and that it goes on unaltered.
use Rattle.std.proofs.Common.{◌≡◌, ◌∙◌, ◌⊎◌, ◌<◌, inl, inr, ℕ, Bool, false, List}
use Rattle.std.proofs.Common.{[], length, Some, slice_get, get_or, arith, sym, subst}
use Rattle.std.proofs.lemmas.Bool.{false≢true}
use Rattle.std.proofs.lemmas.Option.{slice_get-get_or}
use Rattle.rc_model.specs.declared.Event.{Event}
use Rattle.rc_model.specs.declared.Mode.{Mode}
use Rattle.rc_model.specs.declared.Mode.TheVariants.{DownAll}
use Rattle.rc_model.specs.Names.{Has, Holds}
use Rattle.rc_model.specs.Database.{Database, IsDatabase}
use Rattle.rc_model.specs.Headline.{TargetOfCommand}
use Rattle.rc_model.specs.Line.{Line}
use Rattle.rc_model.specs.Plan.{Ask, IsEssentialUp, IsWanted, Target}
use Rattle.rc_model.specs.Session.{Change, IsLineOf}
use Rattle.rc_model.proofs.ByteOrder.{one_place}
use Rattle.rc_model.proofs.Members.{contains_at}
use Rattle.rc_model.proofs.SetMembers.{has_within}
use Rattle.rc_model.proofs.Closures.{down_more}
use Rattle.rc_db.proofs.Values.{named_by_value}
use Rattle.rc_session.proofs.States.{current_state}
use Rattle.rc_update.specs.Carrying.{AreNamesOf, Carried, IsAlteredUp, IsUnaltered, StaysUp}
use Rattle.rc_update.specs.Conversions.{Conversion}

module _ (old new : Database) (list : List Conversion) (line : Line) (ask : Ask)
    (is : IsDatabase old) (of : IsLineOf old line)
    (words : AreNamesOf old (IsAlteredUp old new list (Has line.current.live)) ask.words) where
  Altered : ℕ → Type 0
  Altered = IsAlteredUp old new list (Has line.current.live)

  Wanted : ℕ → Type 0
  Wanted = IsWanted old.names line.current.table (Has line.current.live) ask

  altered_wanted : (t : ℕ) → Altered t → Wanted t
  unfolding Altered Wanted
  altered_wanted t altered =
      let bound : length line.current.live ≡ length old.names = (current_state old line of).bound in
      let low : t < length old.names =
      omega (arith, bound, has_within line.current.live t altered.0) in
      let at : slice_get old.names t ≡ Some (get_or old.names t []) =
      slice_get-get_or old.names t [] low in
      inl (get_or old.names t [], (words.same (get_or old.names t [])).1 (t, at, altered), inl at)

  wanted_altered : ask.all ≡ false → (t : ℕ) → Wanted t → Altered t
  unfolding Altered Wanted
  wanted_altered alone t (inl (word, there, inl at)) =
      let named = (words.same word).0 there in
      subst (IsAlteredUp old new list (Has line.current.live))
      (one_place old.names word named.0 t is.names.order named.1 at) named.2
  wanted_altered alone t (inl (word, there, inr (set, value, has))) =
      let named = (words.same word).0 there in
      absurd ((current_state old line of).apart word (contains_at old.names named.0 word named.1)
      (named_by_value line.current.table word set value))
  wanted_altered alone t (inr (all, up)) = absurd (false≢true (sym alone ∙ all))

  -- what stays up is live, and nothing else
  module _ (mode : ask.mode ≡ DownAll) (alone : ask.all ≡ false) (events : List Event)
      (live : List Bool)
      (arrives : Holds live (TargetOfCommand old line (Change ask events))) where
    pub left_live : Holds live (StaysUp old new list (Has line.current.live))
    unfolding Altered Wanted
    left_live s = (
      λ has.
          let there : Target old.needs (Has line.current.live)
          (IsEssentialUp old (Has line.current.live)) DownAll ask.prune
          (IsWanted old.names line.current.table (Has line.current.live) ask) s =
          subst (λ (m : Mode). Target old.needs (Has line.current.live)
          (IsEssentialUp old (Has line.current.live)) m ask.prune
          (IsWanted old.names line.current.table (Has line.current.live) ask) s) mode
          ((arrives s).0 has) in (
            there.0,
            λ down. there.1 (down_more old.needs
                (IsAlteredUp old new list (Has line.current.live))
                (IsWanted old.names line.current.table (Has line.current.live) ask)
                altered_wanted s down),
          ),
      λ stays. (arrives s).1
          (subst (λ (m : Mode). Target old.needs (Has line.current.live)
          (IsEssentialUp old (Has line.current.live)) m ask.prune
          (IsWanted old.names line.current.table (Has line.current.live) ask) s) (sym mode) (
            stays.0,
            λ down. stays.1 (down_more old.needs
                (IsWanted old.names line.current.table (Has line.current.live) ask)
                (IsAlteredUp old new list (Has line.current.live))
                (wanted_altered alone) s down),
          )),
    )

    pub left_unaltered : ((s : ℕ) → IsUnaltered old new list s
        ⊎ (IsUnaltered old new list s → ⊥)) → (s : ℕ) → Has live s → IsUnaltered old new list s
    left_unaltered decided s has =
        let stays = (left_live s).0 has in elim (decided s) [
          | inl unaltered ↦ unaltered
          | inr altered ↦ absurd (stays.1 (inl (stays.0, altered)))
        ]

  -- the services as which what is live goes on are those as which what stays up does
  pub carried_left : (live carried : List Bool)
      → Holds live (StaysUp old new list (Has line.current.live))
      → Holds carried (Carried old new list (StaysUp old new list (Has line.current.live)))
      → Holds carried (Carried old new list (Has live))
  carried_left live carried left holds t = (
    λ has. let on = (holds t).0 has in (on.0, (left on.0).1 on.1, on.2),
    λ on. (holds t).1 (on.0, (left on.0).0 on.1, on.2),
  )
