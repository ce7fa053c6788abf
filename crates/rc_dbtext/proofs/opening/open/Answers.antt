use Rattle.std.proofs.Common.{◌≡◌, ℕ, List, Option, IfErr, IfOk, ap, subst, sym}
use Rattle.rc_streams.specs.Noting.{HasFailed, inner_of}
use Rattle.rc_dbtext.specs.Base.{bytes_of}
use Rattle.rc_dbtext.specs.Opening.{IsOpenFault, IsWrongBase, Opens}
use Rattle.rc_dbtext.proofs.opening.open.Goals as goal

pub returns-in-Some-clause-fault : goal.returns-in-Some-clause-fault
returns-in-Some-clause-fault g c =
    subst (λ (base : Option (List ℕ)). IfErr c.open_base.result
    (IsOpenFault base (g.R.Read.remaining (inner_of c.args.reader.now))
    (g.R.Read.remaining (inner_of c.open_base.new.reader)) (HasFailed c.open_base.new.reader)))
    (ap bytes_of (sym c.in-Some.is)) c.open_base.ensures.fault

pub returns-in-Some-clause-opened : goal.returns-in-Some-clause-opened
returns-in-Some-clause-opened g c =
    subst (λ (base : Option (List ℕ)). IfOk c.open_base.result
    (λ opened. Opens base (g.R.Read.remaining (inner_of c.args.reader.now))
    (g.R.Read.remaining (inner_of c.open_base.new.reader)) opened.db
    opened.input.items opened.start))
    (ap bytes_of (sym c.in-Some.is)) c.open_base.ensures.opened

pub returns-in-Some-clause-first : goal.returns-in-Some-clause-first
returns-in-Some-clause-first g c =
    subst (λ (base : Option (List ℕ)). IsWrongBase base
    → c.open_base.new.reader ≡ c.args.reader.now) (ap bytes_of (sym c.in-Some.is))
    c.open_base.ensures.first

pub returns-in-Some-clause-told : goal.returns-in-Some-clause-told
returns-in-Some-clause-told g c = c.open_base.ensures.told

pub returns-in-Some-clause-taken : goal.returns-in-Some-clause-taken
returns-in-Some-clause-taken g c = c.open_base.ensures.taken

pub returns-in-None-clause-opened : goal.returns-in-None-clause-opened
returns-in-None-clause-opened g c =
    subst (λ (base : Option (List ℕ)). IfOk c.open_front.result
    (λ opened. Opens base (g.R.Read.remaining (inner_of c.args.reader.now))
    (g.R.Read.remaining (inner_of c.open_front.new.reader)) opened.db
    opened.input.items opened.start))
    (ap bytes_of (sym c.in-None.is)) c.open_front.ensures.opened

pub returns-in-None-clause-fault : goal.returns-in-None-clause-fault
returns-in-None-clause-fault g c =
    subst (λ (base : Option (List ℕ)). IfErr c.open_front.result
    (IsOpenFault base (g.R.Read.remaining (inner_of c.args.reader.now))
    (g.R.Read.remaining (inner_of c.open_front.new.reader)) (HasFailed c.open_front.new.reader)))
    (ap bytes_of (sym c.in-None.is)) c.open_front.ensures.fault

pub returns-in-None-clause-first : goal.returns-in-None-clause-first
returns-in-None-clause-first g c wrong = absurd (subst IsWrongBase (ap bytes_of c.in-None.is) wrong)

pub returns-in-None-clause-told : goal.returns-in-None-clause-told
returns-in-None-clause-told g c = c.open_front.ensures.told

pub returns-in-None-clause-taken : goal.returns-in-None-clause-taken
returns-in-None-clause-taken g c = c.open_front.ensures.taken
