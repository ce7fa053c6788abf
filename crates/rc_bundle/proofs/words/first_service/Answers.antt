use Rattle.std.proofs.Common.{Contains, List, ℕ, string_bytes, subst, sym, arith, true≢false, ◌∙◌}
use Rattle.rc_db.proofs.Words.{mapped_at}
use Rattle.rc_bundle.proofs.GoneOver.{all_next, all_end}
use Rattle.rc_bundle.proofs.words.first_service.Goals as goal

pub returns-then-has_name-clause-some : goal.returns-then-has_name-clause-some
returns-then-has_name-clause-some c = (
  string_bytes c.index-words-place.result,
  mapped_at string_bytes c.args.words.now c.loop-place.place c.index-words-place.result
      (omega arith) c.index-words-place.is,
  subst (λ (names : List (List ℕ)). Contains names (string_bytes c.index-words-place.result))
      c.names.ensures.names
      (subst (λ (word : List ℕ). Contains c.names.result.now word) c.as_str.ensures.value
      (c.has_name.ensures.0 c.if-has_name.true)),
  c.loop-place.invariant,
)

pub loop-place-preserved : goal.loop-place-preserved
loop-place-preserved c =
    all_next string_bytes _ (λ word. Contains c.args.db.now.names word → ⊥) _ _ (omega arith)
    c.index-words-place.is c.loop-place.invariant
    (subst (λ (word : List ℕ). Contains c.args.db.now.names word → ⊥) c.as_str.ensures.value
    (λ there. true≢false
    (sym (c.has_name.ensures.1
    (subst (λ (names : List (List ℕ)). Contains names c.as_str.result.now)
    (sym c.names.ensures.names) there)) ∙ c.if-has_name.false)))

pub returns-clause-none : goal.returns-clause-none
returns-clause-none c =
    all_end string_bytes _ (λ word. Contains c.args.db.now.names word → ⊥) _ (omega arith)
    c.loop-place.invariant
