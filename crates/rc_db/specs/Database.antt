-- Databases that can be written as text.
use Rattle.std.specs.Prelude.{All}
use Rattle.rc_db.specs.Service.{IsWritableService}
use Rattle.rc_model.specs.Database.{Database}

-- each service can be written as text
abbrev pub IsWritable : Database → Type 0
IsWritable d = All IsWritableService d.services
