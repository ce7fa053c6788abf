-- The database that its parts make.
use Rattle.rc_db.specs.declared.parts.Parts.{Parts}
use Rattle.rc_model.specs.Database.{Database}

-- the database that parts make
abbrev pub database_of : Parts → Database
database_of p =
    record { names = p.names; services = p.services.items; needs = p.graph; table = p.table }
