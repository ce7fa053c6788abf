use Rattle.rc_model.specs.Database.{IsBundle}
use Rattle.std.proofs.Common.{◌∙◌, rules, string_bytes, subst, sym, arith, true≢false}
use Rattle.rc_db.proofs.Words.{mapped_at}
use Rattle.rc_bundle.proofs.GoneOver.{all_next, all_end}
use Rattle.rc_bundle.proofs.words.first_missing.Goals as goal

pub returns-then-not-has_bundle-clause-some : goal.returns-then-not-has_bundle-clause-some
returns-then-not-has_bundle-clause-some c = (
  string_bytes c.index-words-place.result,
  mapped_at string_bytes c.args.words.now c.loop-place.place c.index-words-place.result
      (omega arith) c.index-words-place.is,
  λ there. true≢false
      (sym (c.has_bundle.ensures.1
      (subst (IsBundle c.args.table.now) (sym c.as_str.ensures.value) there))
      ∙ c.if-not-has_bundle.true),
  λ k d within not_there. not_there (c.loop-place.invariant k d within),
)

pub loop-place-preserved : goal.loop-place-preserved
loop-place-preserved c =
    all_next string_bytes _ (IsBundle c.args.table.now) _ _ (omega arith) c.index-words-place.is
    c.loop-place.invariant
    (subst (IsBundle c.args.table.now) c.as_str.ensures.value
    (c.has_bundle.ensures.0 (search rules)))

pub returns-clause-none : goal.returns-clause-none
returns-clause-none c =
    all_end string_bytes _ (IsBundle c.args.table.now) _ (omega arith) c.loop-place.invariant
