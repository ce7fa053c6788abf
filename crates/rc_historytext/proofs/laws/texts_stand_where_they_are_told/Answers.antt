use Rattle.rc_historytext.proofs.Standings.{database_stands, session_stands}
use Rattle.rc_historytext.proofs.laws.texts_stand_where_they_are_told.Goals as goal

pub returns : goal.returns
returns c = record { database = database_stands; session = session_stands }
