-- Texts that tell generations, in parts.
use Rattle.std.proofs.Common.{◌≡◌, ◌∙◌, ℕ, ◌+◌, ◌<◌, zero, suc, Bool, List, [], ◌∷◌, ◌++◌, length}
use Rattle.std.proofs.Common.{take}
use Rattle.std.proofs.Common.{drop, arith, refl, sym, ap, length-append, append_assoc}
use Rattle.std.proofs.lemmas.List.{take_at}
use Rattle.rc_dbtext.specs.Spelling.{spelling}
use Rattle.rc_livetext.specs.Spelling.{Spells}
use Rattle.rc_history.specs.History.{Generation}
use Rattle.rc_historytext.specs.Text.{GenerationText}
use Rattle.rc_historytext.specs.Moves.{as_oldest, with_session_at}
use Rattle.rc_historytext.specs.Telling.{TellEach, TellFromOldest, TellsStates}

each_count : (gs : List GenerationText) (hs : List Generation) → TellEach gs hs
    → length gs ≡ length hs
each_count [] [] tell = refl
each_count [] (h ∷ hs) tell = absurd tell
each_count (g ∷ gs) [] tell = absurd tell
each_count (g ∷ gs) (h ∷ hs) tell = ap suc (each_count gs hs tell.1)

pub first_count : (gs : List GenerationText) (hs : List Generation) → TellFromOldest gs hs
    → length gs ≡ length hs
first_count [] [] tell = refl
first_count [] (h ∷ hs) tell = absurd tell
first_count (g ∷ gs) [] tell = absurd tell
first_count (g ∷ gs) (h ∷ hs) tell = ap suc (each_count gs hs tell.1)

-- some from the first one on
each_take : (n : ℕ) (gs : List GenerationText) (hs : List Generation) → TellEach gs hs
    → TellEach (take n gs) (take n hs)
each_take zero gs hs tell = tt
each_take (suc n) [] [] tell = tt
each_take (suc n) [] (h ∷ hs) tell = absurd tell
each_take (suc n) (g ∷ gs) [] tell = absurd tell
each_take (suc n) (g ∷ gs) (h ∷ hs) tell = (tell.0, each_take n gs hs tell.1)

pub first_take : (n : ℕ) (gs : List GenerationText) (hs : List Generation) → TellFromOldest gs hs
    → TellFromOldest (take n gs) (take n hs)
first_take zero gs hs tell = tt
first_take (suc n) [] [] tell = tt
first_take (suc n) [] (h ∷ hs) tell = absurd tell
first_take (suc n) (g ∷ gs) [] tell = absurd tell
first_take (suc n) (g ∷ gs) (h ∷ hs) tell = (tell.0, each_take n gs hs tell.1)

-- others after them
each_join : (gs fs : List GenerationText) (hs ks : List Generation) → TellEach gs hs
    → TellEach fs ks → TellEach (gs ++ fs) (hs ++ ks)
each_join [] fs [] ks tell more = more
each_join [] fs (h ∷ hs) ks tell more = absurd tell
each_join (g ∷ gs) fs [] ks tell more = absurd tell
each_join (g ∷ gs) fs (h ∷ hs) ks tell more = (tell.0, each_join gs fs hs ks tell.1 more)

pub first_join : (gs fs : List GenerationText) (hs ks : List Generation) → 0 < length hs
    → TellFromOldest gs hs → TellEach fs ks → TellFromOldest (gs ++ fs) (hs ++ ks)
first_join [] fs [] ks some tell more = absurd (omega arith)
first_join [] fs (h ∷ hs) ks some tell more = absurd tell
first_join (g ∷ gs) fs [] ks some tell more = absurd tell
first_join (g ∷ gs) fs (h ∷ hs) ks some tell more =
    (tell.0, each_join gs fs hs ks tell.1 more)

-- without the first one
pub first_drop : (gs : List GenerationText) (h : Generation) (hs : List Generation)
    → TellFromOldest gs (h ∷ hs) → TellFromOldest (as_oldest (drop 1 gs)) hs
first_drop [] h hs tell = absurd tell
first_drop (g ∷ []) h [] tell = tt
first_drop (g ∷ []) h (k ∷ hs) tell = absurd tell.1
first_drop (g ∷ f ∷ gs) h [] tell = absurd tell.1
first_drop (g ∷ f ∷ gs) h (k ∷ hs) tell = (
  record { database = tell.1.0.states.database; session = tell.1.0.states.session },
  tell.1.1,
)

-- without those before one of them
each_drop_to : (gs : List GenerationText) (hs : List Generation) (h : Generation)
    (ks : List Generation) → TellEach gs (hs ++ h ∷ ks)
    → TellFromOldest (as_oldest (drop (length hs) gs)) (h ∷ ks)
each_drop_to [] [] h ks tell = absurd tell
each_drop_to [] (k ∷ hs) h ks tell = absurd tell
each_drop_to (g ∷ gs) [] h ks tell = (
  record { database = tell.0.states.database; session = tell.0.states.session },
  tell.1,
)
each_drop_to (g ∷ gs) (k ∷ hs) h ks tell = each_drop_to gs hs h ks tell.1

pub first_drop_to : (gs : List GenerationText) (hs : List Generation) (h : Generation)
    (ks : List Generation) → TellFromOldest gs (hs ++ h ∷ ks)
    → TellFromOldest (as_oldest (drop (length hs) gs)) (h ∷ ks)
first_drop_to [] [] h ks tell = absurd tell
first_drop_to [] (k ∷ hs) h ks tell = absurd tell
first_drop_to (g ∷ gs) [] h ks tell =
    (record { database = tell.0.database; session = tell.0.session }, tell.1)
first_drop_to (g ∷ gs) (k ∷ hs) h ks tell = each_drop_to gs hs h ks tell.1

-- another line in the place of one of them
module _ (old new : Generation) (base : new.base ≡ old.base) (by : new.by ≡ old.by)
    (session : List ℕ) (spells : Spells new.base session new.line) (first last : Bool) where
  states_put : (g : GenerationText) → TellsStates g old
      → TellsStates (record g { session = session; first_passed = first; last_passed = last }) new
  states_put g tells =
      record { database = tells.database ∙ ap spelling (sym base); session = spells }

  each_put : (gs : List GenerationText) (hs ks : List Generation) → TellEach gs (hs ++ old ∷ ks)
      → TellEach (with_session_at (length hs) gs session first last) (hs ++ new ∷ ks)
  each_put [] [] ks tell = absurd tell
  each_put [] (h ∷ hs) ks tell = absurd tell
  each_put (g ∷ gs) [] ks tell =
      (record { states = states_put g tell.0.states; renames = by ∙ tell.0.renames }, tell.1)
  each_put (g ∷ gs) (h ∷ hs) ks tell = (tell.0, each_put gs hs ks tell.1)

  pub first_put : (gs : List GenerationText) (hs ks : List Generation)
      → TellFromOldest gs (hs ++ old ∷ ks)
      → TellFromOldest (with_session_at (length hs) gs session first last) (hs ++ new ∷ ks)
  first_put [] [] ks tell = absurd tell
  first_put [] (h ∷ hs) ks tell = absurd tell
  first_put (g ∷ gs) [] ks tell = (states_put g tell.0, tell.1)
  first_put (g ∷ gs) (h ∷ hs) ks tell = (tell.0, each_put gs hs ks tell.1)

-- a list up to one of its values
pub take_up_to : {A : Type 0} (xs : List A) (x : A) (ys : List A) (n : ℕ) → n ≡ length xs + 1
    → take n (xs ++ x ∷ ys) ≡ xs ++ x ∷ []
take_up_to xs x ys n is =
    ap (take n) (sym (append_assoc xs (x ∷ []) ys))
    ∙ take_at (xs ++ x ∷ []) ys n (length-append xs (x ∷ []) ∙ sym is)

-- a list by its last value
pub by_last : {A : Type 0} (xs : List A) → 0 < length xs
    → (front : List A) × (last : A) × (xs ≡ front ++ last ∷ [])
by_last [] some = absurd (omega arith)
by_last (x ∷ []) some = ([], x, refl)
by_last {A} (x ∷ y ∷ xs) some =
    let rest = by_last (y ∷ xs) (omega arith) in
    (x ∷ rest.0, rest.1, ap (λ (l : List A). x ∷ l) rest.2)
