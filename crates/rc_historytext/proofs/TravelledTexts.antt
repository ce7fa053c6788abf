-- Generations of a history: lists of them, what the text at a place tells, and a border.
use Rattle.std.proofs.Common.{◌≡◌, List, [], ◌∷◌, ◌++◌, length, All, Some, slice_get}
use Rattle.std.proofs.Common.{subst}
use Rattle.std.proofs.lemmas.List.Elements.{All-cons, All-head, All-tail}
use Rattle.std.proofs.lemmas.Option.{none-some, same_Some}
use Rattle.rc_history.specs.History.{Generation}
use Rattle.rc_historytext.specs.Text.{GenerationText}
use Rattle.rc_historytext.specs.Telling.{TellEach, TellFromOldest, TellsStates}

pub with_middle : {A : Type 0} (P : A → Type 0) (xs : List A) (y z : A) (ys : List A) → P z
    → All P (xs ++ y ∷ ys) → All P (xs ++ z ∷ ys)
with_middle P [] y z ys is all = All-cons P z ys is (All-tail P y ys all)
with_middle P (x ∷ xs) y z ys is all =
    All-cons P x (xs ++ z ∷ ys) (All-head P x (xs ++ y ∷ ys) all)
    (with_middle P xs y z ys is (All-tail P x (xs ++ y ∷ ys) all))

-- the text at a place tells the generation there
each_told : (gs : List GenerationText) (hs : List Generation) (k : Generation)
    (ks : List Generation) (g : GenerationText) → TellEach gs (hs ++ k ∷ ks)
    → slice_get gs (length hs) ≡ Some g → TellsStates g k
each_told [] hs k ks g tell there = absurd (none-some g there)
each_told (f ∷ gs) [] k ks g tell there =
    subst (λ (x : GenerationText). TellsStates x k) (same_Some f g there) tell.0.states
each_told (f ∷ gs) (h ∷ hs) k ks g tell there = each_told gs hs k ks g tell.1 there

pub first_told : (gs : List GenerationText) (hs : List Generation) (k : Generation)
    (ks : List Generation) (g : GenerationText) → TellFromOldest gs (hs ++ k ∷ ks)
    → slice_get gs (length hs) ≡ Some g → TellsStates g k
first_told [] hs k ks g tell there = absurd (none-some g there)
first_told (f ∷ gs) [] k ks g tell there =
    subst (λ (x : GenerationText). TellsStates x k) (same_Some f g there) tell.0
first_told (f ∷ gs) (h ∷ hs) k ks g tell there = each_told gs hs k ks g tell.1 there
