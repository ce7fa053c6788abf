use Rattle.std.proofs.Common.{◌∙◌, ⊎_elim, Contains, List, ℕ, refl, ap, sym, subst, true≢false}
use Rattle.std.proofs.lemmas.Result.{err_from_is_err_and}
use Rattle.rc_model.specs.Database.{value_of}
use Rattle.rc_db.proofs.Values.{named_by_value}
use Rattle.rc_db.proofs.Words.{unnamed}
use Rattle.rc_db.proofs.db.Db.contents.Goals as goal

pub returns-in_err-ids-in-Some-clause-fault : goal.returns-in_err-ids-in-Some-clause-fault
returns-in_err-ids-in-Some-clause-fault c =
    let memory = err_from_is_err_and c.from_residual.result c.from_residual.ensures.1 in
    rw (memory.1, memory.2)
    (named_by_value c.args.self.now.table c.args.name.now c.in-Some.set.now
    (ap (λ table. value_of table c.args.name.now) (sym c.table.ensures.table)
    ∙ sym c.in-Some.ensures))

pub returns-else-has_name-clause-fault : goal.returns-else-has_name-clause-fault
returns-else-has_name-clause-fault c =
    let Named : List (List ℕ) → Type 0 = λ names. Contains names c.args.name.now in (
      refl,
      λ known. ⊎_elim
          (λ service. true≢false
          (sym (c.has_name.ensures.1 (subst Named (sym c.names.ensures.names) service))
          ∙ c.if-has_name.false))
          (λ bundle. unnamed c.args.self.now.table c.args.name.now
          (ap (λ table. value_of table c.args.name.now) (sym c.table.ensures.table)
          ∙ sym c.in-None.ensures) bundle)
          known,
    )
