use Rattle.std.proofs.Common.{[], ◌∷◌, Result, Ok, Err, OnOk, append_assoc, codes, refl, subst, sym}
use Rattle.std.proofs.lemmas.List.{append-nil}
use Rattle.std.specs.Io.KnownBytes.{Appends}
use Rattle.std.proofs.KnownBytes.{Appends-kept, Appends-trans}
use Rattle.rc_streams.specs.Input.{fault_line}
use Rattle.rc_streams.proofs.InputLemmas.{AppendsFront-first, AppendsFront-last, AppendsFront-split}
use Rattle.rc_streams.proofs.input.write_fault.Goals as goal

-- what holds whatever a call answers
whatever : {T E P : Type 0} (r : Result T E) → P → OnOk r P
whatever (Ok x) holds = holds
whatever (Err e) holds = tt

pub returns-in_err-write_every-clause-front : goal.returns-in_err-write_every-clause-front
returns-in_err-write_every-clause-front g c =
    AppendsFront-first _ _ (codes "undorc: ") _ c.write_every.ensures.front

pub returns-in_err-write_every-2-clause-front : goal.returns-in_err-write_every-2-clause-front
returns-in_err-write_every-2-clause-front g c =
    AppendsFront-last _ _ _ _ (codes "undorc: ") _ refl c.in_ok-write_every.ensures.whole
    (AppendsFront-first _ _ c.args.what.now (10 ∷ []) (c.write_every-2.ensures.front))

pub returns-in_err-write_every-3-clause-front : goal.returns-in_err-write_every-3-clause-front
returns-in_err-write_every-3-clause-front g c =
    AppendsFront-last _ _ _ _ (codes "undorc: ") _ refl c.in_ok-write_every.ensures.whole
    (AppendsFront-last _ _ _ _ c.args.what.now _ refl c.in_ok-write_every-2.ensures.whole
    c.write_every-3.ensures.front)

pub returns-clause-whole : goal.returns-clause-whole
returns-clause-whole g c =
    let all =
    Appends-trans _ _ _ _ _
    (Appends-trans _ _ _ _ _ c.in_ok-write_every.ensures.whole c.in_ok-write_every-2.ensures.whole)
    c.in_ok-write_every-3.ensures.whole in
    whatever _ (Appends-kept _ _ _ _
    (subst (Appends _ _) (append_assoc (codes "undorc: ") c.args.what.now (10 ∷ [])) all)
    c.flush.ensures.bytes)

pub returns-clause-front : goal.returns-clause-front
returns-clause-front g c =
    let all =
    Appends-trans _ _ _ _ _
    (Appends-trans _ _ _ _ _ c.in_ok-write_every.ensures.whole c.in_ok-write_every-2.ensures.whole)
    c.in_ok-write_every-3.ensures.whole in
    AppendsFront-split _ _ (fault_line c.args.what.now) (fault_line c.args.what.now) []
    (sym (append-nil (fault_line c.args.what.now)))
    (Appends-kept _ _ _ _
    (subst (Appends _ _) (append_assoc (codes "undorc: ") c.args.what.now (10 ∷ [])) all)
    c.flush.ensures.bytes)
