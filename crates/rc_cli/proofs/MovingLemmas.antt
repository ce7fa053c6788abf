-- What an update moves, where the old database and what is live are known by other names.
use Rattle.std.proofs.Common.{◌≡◌, Bool, IfOk, List, Result, Ok, Err, length, map, string_bytes}
use Rattle.std.proofs.Common.{subst}
use Rattle.rc_model.specs.Names.{Has, Holds}
use Rattle.rc_model.specs.Database.{Database}
use Rattle.rc_model.specs.Line.{Line}
use Rattle.rc_update.specs.Carrying.{AreNamesOf, Carried, IsAlteredUp, StaysUp}
use Rattle.rc_update.specs.Conversions.{Conversion}
use Rattle.rc_update.specs.declared.carrying.Update.{Update}
use Rattle.rc_cli.specs.Updating.{IsUpdate, Parts, parts_of}

-- what an update does, where the old database and what is live are known by other names
pub moves : (old d new : Database) (list : List Conversion) (live : List Bool) (line : Line)
    (parts : Parts) → d ≡ old → live ≡ line.current.live
    → AreNamesOf d (IsAlteredUp d new list (Has live)) parts.lower
    → Holds parts.kept (Carried d new list (StaysUp d new list (Has live)))
    → length parts.kept ≡ length new.names
    → AreNamesOf new (Carried d new list (Has live)) parts.raise
    → IsUpdate old new list line parts
moves old d new list live line parts is also lower kept bound raise =
    subst (λ (e : Database). IsUpdate e new list line parts) is (record {
      lower = subst (λ (set : List Bool).
          AreNamesOf d (IsAlteredUp d new list (Has set)) parts.lower) also lower;
      kept = subst (λ (set : List Bool).
          Holds parts.kept (Carried d new list (StaysUp d new list (Has set)))) also kept;
      bound = bound;
      raise = subst (λ (set : List Bool). AreNamesOf new (Carried d new list (Has set)) parts.raise)
          also raise;
    })

-- what is carried over, if anything is, is what an update does
pub carried : {E : Type 0} (result : Result Update E) (old d new : Database)
    (list : List Conversion) (live : List Bool) (line : Line)
    → d ≡ old → live ≡ line.current.live
    → IfOk result (λ update. AreNamesOf d (IsAlteredUp d new list (Has live))
    (map string_bytes update.lower.items))
    → IfOk result (λ update. Holds update.kept
    (Carried d new list (StaysUp d new list (Has live))))
    → IfOk result (λ update. length update.kept ≡ length new.names)
    → IfOk result (λ update. AreNamesOf new (Carried d new list (Has live))
    (map string_bytes update.raise.items))
    → IfOk result (λ update. IsUpdate old new list line (parts_of update))
carried (Ok update) old d new list live line is also lower kept bound raise =
    moves old d new list live line (parts_of update) is also lower kept bound raise
carried (Err fault) old d new list live line is also lower kept bound raise = tt
