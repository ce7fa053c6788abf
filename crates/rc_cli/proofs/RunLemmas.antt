-- A command that runs for what is asked, as it runs for the words that ask it.
use Rattle.std.proofs.Common.{◌≡◌, ◌⊎◌, ℕ, List, Option, None, Some, inl, inr, sym, arith, ◌∙◌}
use Rattle.rc_model.specs.Plan.{Ask}
use Rattle.rc_streams.specs.Input.{WritesAll, WritesFront}
use Rattle.rc_args.specs.Asked.{plan_asked}
use Rattle.rc_args.specs.DbAsked.{AsksDb, DbAsk}
use Rattle.rc_cli.specs.DbAnswer.{IsAnswerFor, IsDbAnswer}
use Rattle.rc_cli.specs.PlanText.{IsAnswer, IsPlanFor}

-- what is asked is never a wrong command line
pub status_wider : (s : ℕ) → (s ≡ 0) ⊎ (s ≡ 1) ⊎ (s ≡ 111)
    → (s ≡ 0) ⊎ (s ≡ 1) ⊎ (s ≡ 100) ⊎ (s ≡ 111)
status_wider s (inl zero) = inl zero
status_wider s (inr (inl one)) = inr (inl one)
status_wider s (inr (inr failed)) = inr (inr (inr failed))

pub never_wrong : (s : ℕ) → (s ≡ 0) ⊎ (s ≡ 1) ⊎ (s ≡ 111) → s ≡ 100 → ⊥
never_wrong s (inl is) wrong = let bad : ⊥ = omega arith in bad
never_wrong s (inr (inl is)) wrong = let bad : ⊥ = omega arith in bad
never_wrong s (inr (inr is)) wrong = let bad : ⊥ = omega arith in bad

pub some_asked : (found : Option Ask) (ask : Ask) → found ≡ Some ask → found ≡ None → ⊥
some_asked found ask some none = let both : Some ask ≡ None = sym some ∙ none in cc

-- what is written for what is asked is written for the words
pub plan_written : (words : List (List ℕ)) (ask : Ask) (base : Option (List ℕ)) (input : List ℕ)
    (old new : Option (List ℕ)) → plan_asked words ≡ Some ask
    → WritesAll (IsPlanFor ask base input) old new → WritesAll (IsAnswer words base input) old new
plan_written words ask base input old new asked h = (h.0, (ask, asked, h.1), h.2)

pub plan_begun : (words : List (List ℕ)) (ask : Ask) (base : Option (List ℕ)) (input : List ℕ)
    (old new : Option (List ℕ)) → plan_asked words ≡ Some ask
    → WritesFront (IsPlanFor ask base input) old new
    → WritesFront (IsAnswer words base input) old new
plan_begun words ask base input old new asked h = (h.0, (ask, asked, h.1), h.2)

pub answer_written : (words : List (List ℕ)) (ask : DbAsk) (base shown : Option (List ℕ))
    (input : List ℕ) (old new : Option (List ℕ)) → AsksDb words ask
    → WritesAll (IsAnswerFor ask base shown input) old new
    → WritesAll (IsDbAnswer words base shown input) old new
answer_written words ask base shown input old new asked h = (h.0, (ask, asked, h.1), h.2)

pub answer_begun : (words : List (List ℕ)) (ask : DbAsk) (base shown : Option (List ℕ))
    (input : List ℕ) (old new : Option (List ℕ)) → AsksDb words ask
    → WritesFront (IsAnswerFor ask base shown input) old new
    → WritesFront (IsDbAnswer words base shown input) old new
answer_begun words ask base shown input old new asked h = (h.0, (ask, asked, h.1), h.2)
