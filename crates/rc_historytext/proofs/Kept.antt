-- Each move leaves what has a text.
use Rattle.std.proofs.Common.{◌≡◌, ◌∙◌, ℕ, ◌+◌, ◌-◌, ◌<◌, zero, suc, Bool, List, [], ◌∷◌, ◌++◌}
use Rattle.std.proofs.Common.{length, take, drop, All, arith, refl, length-append}
use Rattle.std.proofs.Common.{ap}
use Rattle.std.proofs.lemmas.List.{length-take, length-drop}
use Rattle.std.proofs.lemmas.List.Elements.{All-nil, All-cons, All-head, All-tail, All-push}
use Rattle.rc_historytext.specs.Text.{GenerationText, HistoryText, IsRename, IsGenerationText}
use Rattle.rc_historytext.specs.Text.{IsHistoryText, IsShort, oldest_renames}
use Rattle.rc_historytext.specs.Moves.{begun, crossed_back, crossed_on, with_last}
use Rattle.rc_historytext.specs.Moves.{without_earlier, without_later, without_oldest, as_oldest}
use Rattle.rc_historytext.specs.Moves.{with_session, with_session_at}
use Rattle.rc_historytext.proofs.Moving.{eight_or_not}

pub back_kept : (t : HistoryText) → IsHistoryText t → IsHistoryText (crossed_back t)
back_kept t is = record {
  present = omega (arith, is.present);
  few = is.few;
  each = is.each;
  oldest = is.oldest;
}

pub on_kept : (t : HistoryText) → IsHistoryText t → t.present + 1 < length t.generations
    → IsHistoryText (crossed_on t)
on_kept t is there =
    record { present = there; few = is.few; each = is.each; oldest = is.oldest }

all_taken : (n : ℕ) (gs : List GenerationText) → All IsGenerationText gs
    → All IsGenerationText (take n gs)
all_taken zero gs each = All-nil IsGenerationText
all_taken (suc n) [] each = All-nil IsGenerationText
all_taken (suc n) (g ∷ gs) each =
    All-cons IsGenerationText g (take n gs) (All-head IsGenerationText g gs each)
    (all_taken n gs (All-tail IsGenerationText g gs each))

oldest_taken : (n : ℕ) (gs : List GenerationText) → oldest_renames gs ≡ []
    → oldest_renames (take n gs) ≡ []
oldest_taken zero gs none = refl
oldest_taken (suc n) [] none = refl
oldest_taken (suc n) (g ∷ gs) none = none

pub later_kept : (t : HistoryText) → IsHistoryText t → IsHistoryText (without_later t)
later_kept t is = record {
  present = omega (arith, is.present, length-take (t.present + 1) t.generations);
  few = omega (arith, is.few, length-take (t.present + 1) t.generations);
  each = all_taken (t.present + 1) t.generations is.each;
  oldest = oldest_taken (t.present + 1) t.generations is.oldest;
}

-- all but the first one
pub as_oldest_count : (gs : List GenerationText) → length (as_oldest (drop 1 gs)) ≡ length gs - 1
as_oldest_count [] = refl
as_oldest_count (g ∷ []) = refl
as_oldest_count (g ∷ f ∷ gs) = omega arith

as_oldest_each : (gs : List GenerationText) → All IsGenerationText gs
    → All IsGenerationText (as_oldest (drop 1 gs))
as_oldest_each [] each = All-nil IsGenerationText
as_oldest_each (g ∷ []) each = All-nil IsGenerationText
as_oldest_each (g ∷ f ∷ gs) each =
    let rest = All-tail IsGenerationText g (f ∷ gs) each in
    let is = All-head IsGenerationText f gs rest in
    All-cons IsGenerationText (record f { renames = [] }) gs
    (record {
      database = is.database;
      session = is.session;
      few = omega arith;
      each = All-nil IsRename;
    })
    (All-tail IsGenerationText f gs rest)

pub as_oldest_none : (gs : List GenerationText) → oldest_renames (as_oldest gs) ≡ []
as_oldest_none [] = refl
as_oldest_none (g ∷ gs) = refl

pub oldest_kept : (t : HistoryText) → IsHistoryText t → 0 < t.present
    → IsHistoryText (without_oldest t)
oldest_kept t is some = record {
  present = omega (arith, is.present, as_oldest_count t.generations);
  few = omega (arith, is.few, as_oldest_count t.generations);
  each = as_oldest_each t.generations is.each;
  oldest = as_oldest_none (drop 1 t.generations);
}

-- one more at the end
oldest_of_more : (gs : List GenerationText) (g : GenerationText) → 0 < length gs
    → oldest_renames gs ≡ [] → oldest_renames (gs ++ g ∷ []) ≡ []
oldest_of_more [] g some none = absurd (omega arith)
oldest_of_more (f ∷ gs) g some none = none

last_kept : (t : HistoryText) (g : GenerationText) → IsHistoryText t → IsGenerationText g
    → t.present + 1 ≡ length t.generations → length t.generations < 8
    → IsHistoryText (with_last t g)
last_kept t g is own last few = record {
  present = omega (arith, last, length-append t.generations (g ∷ []));
  few = omega (arith, few, length-append t.generations (g ∷ []));
  each = All-push IsGenerationText t.generations g is.each own;
  oldest = oldest_of_more t.generations g (omega arith) is.oldest;
}

pub begun_kept : (t : HistoryText) (g : GenerationText) → IsHistoryText t → IsGenerationText g
    → IsHistoryText (begun t g)
begun_kept t g is own =
    eight_or_not (λ kept. IsHistoryText (with_last kept g)) (without_later t)
    (λ eight.
    let some : 0 < t.present =
    omega (arith, eight, length-take (t.present + 1) t.generations) in
    last_kept (without_oldest (without_later t)) g (oldest_kept (without_later t) cut some) own
    (omega (arith, eight, last, as_oldest_count (without_later t).generations))
    (omega (arith, eight, as_oldest_count (without_later t).generations)))
    (λ other. last_kept (without_later t) g cut own last (omega (arith, cut.few)))
  where
    cut : IsHistoryText (without_later t)
    cut = later_kept t is

    last : t.present + 1 ≡ length (without_later t).generations
    last = omega (arith, is.present, length-take (t.present + 1) t.generations)

-- those from a place on
as_oldest_all : (gs : List GenerationText) → All IsGenerationText gs
    → All IsGenerationText (as_oldest gs)
as_oldest_all [] each = each
as_oldest_all (g ∷ gs) each =
    let is = All-head IsGenerationText g gs each in
    All-cons IsGenerationText (record g { renames = [] }) gs
    (record {
      database = is.database;
      session = is.session;
      few = omega arith;
      each = All-nil IsRename;
    })
    (All-tail IsGenerationText g gs each)

all_dropped : (n : ℕ) (gs : List GenerationText) → All IsGenerationText gs
    → All IsGenerationText (drop n gs)
all_dropped zero gs each = each
all_dropped (suc n) [] each = each
all_dropped (suc n) (g ∷ gs) each = all_dropped n gs (All-tail IsGenerationText g gs each)

as_oldest_long : (gs : List GenerationText) → length (as_oldest gs) ≡ length gs
as_oldest_long [] = refl
as_oldest_long (g ∷ gs) = refl

pub earlier_kept : (t : HistoryText) → IsHistoryText t → IsHistoryText (without_earlier t)
earlier_kept t is =
    let long : length (as_oldest (drop t.present t.generations))
    ≡ length t.generations - t.present =
    as_oldest_long (drop t.present t.generations) ∙ length-drop t.present t.generations in
    record {
      present = omega (arith, is.present, long);
      few = omega (arith, is.few, long);
      each =
          as_oldest_all (drop t.present t.generations)
          (all_dropped t.present t.generations is.each);
      oldest = as_oldest_none (drop t.present t.generations);
    }

-- another session
put_long : (k : ℕ) (gs : List GenerationText) (session : List ℕ) (first last : Bool)
    → length (with_session_at k gs session first last) ≡ length gs
put_long k [] session first last = refl
put_long zero (g ∷ gs) session first last = refl
put_long (suc k) (g ∷ gs) session first last = ap suc (put_long k gs session first last)

put_each : (k : ℕ) (gs : List GenerationText) (session : List ℕ) (first last : Bool)
    → IsShort session → All IsGenerationText gs
    → All IsGenerationText (with_session_at k gs session first last)
put_each k [] session first last short each = each
put_each zero (g ∷ gs) session first last short each =
    let is = All-head IsGenerationText g gs each in
    All-cons IsGenerationText
    (record g { session = session; first_passed = first; last_passed = last }) gs
    (record { database = is.database; session = short; few = is.few; each = is.each })
    (All-tail IsGenerationText g gs each)
put_each (suc k) (g ∷ gs) session first last short each =
    All-cons IsGenerationText g (with_session_at k gs session first last)
    (All-head IsGenerationText g gs each)
    (put_each k gs session first last short (All-tail IsGenerationText g gs each))

put_none : (k : ℕ) (gs : List GenerationText) (session : List ℕ) (first last : Bool)
    → oldest_renames gs ≡ [] → oldest_renames (with_session_at k gs session first last) ≡ []
put_none k [] session first last none = refl
put_none zero (g ∷ gs) session first last none = none
put_none (suc k) (g ∷ gs) session first last none = none

pub session_kept : (t : HistoryText) (session : List ℕ) (first last : Bool) → IsHistoryText t
    → IsShort session → IsHistoryText (with_session t session first last)
session_kept t session first last is short =
    let long = put_long t.present t.generations session first last in
    record {
      present = omega (arith, is.present, long);
      few = omega (arith, is.few, long);
      each = put_each t.present t.generations session first last short is.each;
      oldest = put_none t.present t.generations session first last is.oldest;
    }
