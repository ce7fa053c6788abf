use Rattle.std.proofs.Common.{ℕ, List, map, refl, subst, sym}
use Rattle.rc_args.specs.Listed.{SpellsList}
use Rattle.rc_args.specs.Reading.{listed_of}
use Rattle.rc_args.proofs.SessionWordsLemmas.{listed_none}
use Rattle.rc_args.proofs.program_words.table_in.Goals as goal

pub returns-in-Ok-clause-asked : goal.returns-in-Ok-clause-asked
returns-in-Ok-clause-asked c = λ runner controller limit.
    subst (λ (text : List ℕ). SpellsList text (map listed_of c.in-Ok.failing.items))
    c.as_bytes.ensures.value c.in-Ok.ensures.list

pub returns-in-Err-Form-clause-wrong : goal.returns-in-Err-Form-clause-wrong
returns-in-Err-Form-clause-wrong c = λ _ runner controller limit ask makes.
    let wrong = rw c.in-Err-Form.field-0-is at c.in-Err-Form.ensures.wrong in
    listed_none c.args.list.now runner controller limit
    (λ all spells. wrong refl all
    (subst (λ (text : List ℕ). SpellsList text all) (sym c.as_bytes.ensures.value) spells))
    ask makes
