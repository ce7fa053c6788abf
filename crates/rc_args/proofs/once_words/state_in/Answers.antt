use Rattle.std.proofs.Common.{◌≢◌, ℕ, Bool, Option, IfErr, IfOk, codes, subst}
use Rattle.clap.specs.Words.{Text, first_of, found_of, rows_of}
use Rattle.rc_args.specs.Limits.{IsStateIn}
use Rattle.rc_args.specs.declared.asked.WordsFault.TheVariants.{Memory}
use Rattle.rc_args.proofs.SessionWordsLemmas.{found_as}
use Rattle.rc_args.proofs.once_words.state_in.Goals as goal

pub returns-clause-asked : goal.returns-clause-asked
returns-clause-asked c =
    let rows = rows_of (found_of c.args.matches.now) in
    subst (λ (dry : Bool). IfOk c.state_of.result (IsStateIn (first_of (codes "to") rows) dry))
    c.is_on.ensures
    (found_as (λ (given : Option Text). IfOk c.state_of.result (IsStateIn given c.is_on.result))
    c.args.matches.now (codes "to") _ c.get_str.ensures c.state_of.ensures.asked)

pub returns-clause-wrong : goal.returns-clause-wrong
returns-clause-wrong c =
    let rows = rows_of (found_of c.args.matches.now) in
    subst (λ (dry : Bool). IfErr c.state_of.result (λ fault. fault ≢ Memory → (to : Option ℕ)
    → IsStateIn (first_of (codes "to") rows) dry to → ⊥))
    c.is_on.ensures
    (found_as (λ (given : Option Text). IfErr c.state_of.result (λ fault. fault ≢ Memory
    → (to : Option ℕ) → IsStateIn given c.is_on.result to → ⊥))
    c.args.matches.now (codes "to") _ c.get_str.ensures c.state_of.ensures.wrong)
