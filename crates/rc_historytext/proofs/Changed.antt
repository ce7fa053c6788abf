-- What calls make of the generations: with another session, and without the earlier ones.
use Rattle.std.proofs.Common.{◌≡◌, ◌∙◌, ℕ, ◌-◌, ◌<◌, zero, suc, Bool, List, [], ◌∷◌, length, drop}
use Rattle.std.proofs.Common.{get_or, arith, refl, sym, ap}
use Rattle.std.proofs.Math.ListN.{set}
use Rattle.rc_historytext.specs.Text.{GenerationText, HistoryText, oldest_renames}
use Rattle.rc_historytext.specs.Moves.{as_oldest, with_session_at, without_earlier}

-- a generation that is changed where it stands
pub put_is : (k : ℕ) (gs : List GenerationText) (old new : GenerationText) (session : List ℕ)
    (first last : Bool) → k < length gs → old ≡ get_or gs k old
    → new ≡ record old { session = session; first_passed = first; last_passed = last }
    → set gs k new ≡ with_session_at k gs session first last
put_is k [] old new session first last low is changed = absurd (omega arith)
put_is zero (g ∷ gs) old new session first last low is changed =
    ap (λ (h : GenerationText). h ∷ gs)
    (changed ∙ ap (λ (h : GenerationText).
    record h { session = session; first_passed = first; last_passed = last }) is)
put_is (suc k) (g ∷ gs) old new session first last low is changed =
    ap (λ (hs : List GenerationText). g ∷ hs)
    (put_is k gs old new session first last (omega arith) is changed)

-- one more that is dropped
drop_next : (n : ℕ) (gs : List GenerationText)
    → as_oldest (drop n (as_oldest (drop 1 gs))) ≡ as_oldest (drop (suc n) gs)
drop_next zero [] = refl
drop_next (suc n) [] = refl
drop_next zero (g ∷ []) = refl
drop_next (suc n) (g ∷ []) = refl
drop_next zero (g ∷ f ∷ gs) = refl
drop_next (suc n) (g ∷ f ∷ gs) = refl

pub drop_more : (n : ℕ) (gs : List GenerationText) → 0 < n
    → as_oldest (drop (n - 1) (as_oldest (drop 1 gs))) ≡ as_oldest (drop n gs)
drop_more zero gs some = absurd (omega arith)
drop_more (suc n) gs some =
    let less : suc n - 1 ≡ n = omega arith in
    ap (λ (k : ℕ). as_oldest (drop k (as_oldest (drop 1 gs)))) less ∙ drop_next n gs

as_oldest_same : (gs : List GenerationText) → oldest_renames gs ≡ [] → gs ≡ as_oldest gs
as_oldest_same [] none = refl
as_oldest_same (g ∷ gs) none = λ i. record g { renames = none i } ∷ gs

-- all of them are
pub all_dropped_then : (t start : HistoryText) → t.present ≡ 0 → oldest_renames t.generations ≡ []
    → as_oldest (drop t.present t.generations) ≡ as_oldest (drop start.present start.generations)
    → t ≡ without_earlier start
all_dropped_then t start first none same =
    let generations : t.generations ≡ as_oldest (drop start.present start.generations) =
    as_oldest_same t.generations none
    ∙ ap (λ (k : ℕ). as_oldest (drop k t.generations)) (sym first) ∙ same in
    λ i. record { present = first i; generations = generations i }
