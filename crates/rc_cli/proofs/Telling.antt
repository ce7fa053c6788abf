-- Answers, one after the other.
use Rattle.std.proofs.Common.{◌≡◌, ◌∙◌, ◌<◌, ◌≤◌, ◌+◌, ℕ, zero, suc, List, [], ◌∷◌, ◌++◌, Result}
use Rattle.std.proofs.Common.{length, map, drop, get_or, arith, refl, sym, ap, append_assoc}
use Rattle.std.proofs.lemmas.List.{append-nil}
use Rattle.std.proofs.Math.ListN.{drop_of_length-le}
use Rattle.rc_model.specs.declared.Refusal.{Refusal}
use Rattle.rc_model.specs.Session.{Command, Reported}
use Rattle.rc_render.specs.AnswerText.{answer_text, answers_text}

module _ {S A : Type 0} (f : S → Command) (g : A → Result Reported Refusal)
    (names : List (List ℕ)) where
  abbrev from : List S → List A → ℕ → List ℕ
  from steps answers i = answers_text names (map f (drop i steps)) (map g (drop i answers))

  -- one answer more
  one : (steps : List S) (answers : List A) (i : ℕ) (ds : S) (da : A) → i < length steps
      → i < length answers
      → from steps answers i ≡ answer_text names (f (get_or steps i ds)) (g (get_or answers i da))
      ++ from steps answers (suc i)
  one [] answers i ds da within told = absurd (omega arith)
  one (step ∷ steps) [] i ds da within told = absurd (omega arith)
  one (step ∷ steps) (answer ∷ answers) zero ds da within told = refl
  one (step ∷ steps) (answer ∷ answers) (suc i) ds da within told =
      one steps answers i ds da (omega arith) (omega arith)

  -- one answer more
  pub told_more : (steps : List S) (answers : List A) (i : ℕ) (step : S) (answer : A)
      (whole so_far next line : List ℕ) → i < length steps → i < length answers
      → get_or steps i step ≡ step → get_or answers i answer ≡ answer
      → so_far ++ from steps answers i ≡ whole → line ≡ answer_text names (f step) (g answer)
      → next ≡ so_far ++ line
      → next ++ from steps answers (i + 1) ≡ whole
  told_more steps answers i step answer whole so_far next line within told at_step at_answer
      is said added =
      let here : line ≡ answer_text names (f (get_or steps i step)) (g (get_or answers i answer)) =
      said ∙ ap (λ (s : S). answer_text names (f s) (g answer)) (sym at_step)
      ∙ ap (λ (a : A). answer_text names (f (get_or steps i step)) (g a)) (sym at_answer) in
      ap (λ (n : ℕ). next ++ from steps answers n) (let e : i + 1 ≡ suc i = omega arith in e)
      ∙ ap (λ (t : List ℕ). t ++ from steps answers (suc i))
      (added ∙ ap (λ (t : List ℕ). so_far ++ t) here)
      ∙ append_assoc so_far
      (answer_text names (f (get_or steps i step)) (g (get_or answers i answer)))
      (from steps answers (suc i))
      ∙ ap (λ (t : List ℕ). so_far ++ t) (sym (one steps answers i step answer within told)) ∙ is

  -- no commands are left
  pub told_each : (steps : List S) (answers : List A) (i : ℕ) (whole so_far : List ℕ)
      → length steps ≤ i → so_far ++ from steps answers i ≡ whole → so_far ≡ whole
  told_each steps answers i whole so_far past is =
      let none : from steps answers i ≡ [] =
      ap (λ (l : List S). answers_text names (map f l) (map g (drop i answers)))
      (drop_of_length-le steps past) in
      sym (append-nil so_far) ∙ ap (λ (t : List ℕ). so_far ++ t) (sym none) ∙ is
