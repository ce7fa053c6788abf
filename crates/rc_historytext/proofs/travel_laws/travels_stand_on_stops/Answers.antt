use Rattle.rc_historytext.proofs.travel_laws.travels_stand_on_stops.Goals as goal

pub returns-clause-undo : goal.returns-clause-undo
returns-clause-undo c bytes next h marks is gives travels =
    let done = c.travels_undo_and_redo.ensures.undo bytes next h marks is gives travels in
    (done.0, done.1, done.2, c.undos_stand_on_stops.ensures.undo h done.0 marks is done.3)

pub returns-clause-redo : goal.returns-clause-redo
returns-clause-redo c bytes next h marks is gives travels =
    let done = c.travels_undo_and_redo.ensures.redo bytes next h marks is gives travels in
    (done.0, done.1, done.2, c.undos_stand_on_stops.ensures.redo h done.0 marks is done.3)
