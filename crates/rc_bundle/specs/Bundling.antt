-- An edit that leads to a table with a given property.
use Rattle.std.specs.Prelude.{List}
use Rattle.rc_model.specs.Database.{Bundles, IsTable}
use Rattle.rc_model.specs.Line.{Alteration, IsEdit}

-- the edit leads from the old table to one of which this holds
pub record LeadsWhere (Wanted : Bundles → Type 0) (old : Bundles)
    (edit : List Alteration) : Type 0 where
  pub table : Bundles
  pub is_table : IsTable table
  pub wanted : Wanted table
  pub made : IsEdit old table edit
