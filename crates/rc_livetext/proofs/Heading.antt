-- What refuses the head of a text.
use Rattle.std.proofs.Common.{◌≡◌, ◌∙◌, ℕ, ◌≤◌, Bool, true, false, List, [], ◌∷◌, ◌++◌}
use Rattle.std.proofs.Common.{length, get_or, Option, Some, None, IfSome, refl, sym, ap, arith}
use Rattle.std.specs.Prelude.{codes}
use Rattle.std.proofs.lemmas.List.Elements.{All-nil, All-cons}
use Rattle.rc_dbtext.specs.Words.{IsNumber, HasNumber, line_of_words}
use Rattle.rc_dbtext.specs.Form.{spells}
use Rattle.rc_dbtext.proofs.LineWords.{words_once}
use Rattle.rc_dbtext.proofs.NumberWords.{plain_numbered}
use Rattle.rc_dbtext.proofs.Plain.{plain_from}
use Rattle.rc_livetext.specs.declared.form_fault.FormFault.{FormFault}
use Rattle.rc_livetext.specs.declared.form_fault.FormFault.TheVariants.{Bad, Version, Memory}
use Rattle.rc_livetext.specs.Text.{Line, First, OfServices, OfBound, OfState, Last}
use Rattle.rc_livetext.specs.Text.{LiveText, IsLiveText, IsStateText, AreAscending}
use Rattle.rc_livetext.specs.Text.{IsBound, version_word, words, spell}
use Rattle.rc_livetext.specs.Refusals.{IsRefused, IsStuckAt}
use Rattle.rc_livetext.specs.Following.{AtFirst, AtServices, AtBound, IsNoLineHere}
use Rattle.rc_livetext.specs.Held.{IsMissing}
use Rattle.rc_livetext.proofs.LineWords.{plain_line}
use Rattle.rc_livetext.proofs.ManyLines.{first_apart}
use Rattle.rc_livetext.proofs.Follows.{stuck_here}
use Rattle.rc_livetext.proofs.PartLemmas.{nothing_up, nothing_up_is}

-- the lines that stand in front, one or two
pub front_one : (l : Line) (bytes rest : List ℕ) → bytes ≡ spell l ++ rest
    → bytes ≡ spells spell (l ∷ []) ++ rest
front_one l bytes rest same = same ∙ sym (first_apart l [] rest)

pub front_two : (l m : Line) (bytes rest behind : List ℕ) → bytes ≡ spell l ++ rest
    → rest ≡ spell m ++ behind → bytes ≡ spells spell (l ∷ m ∷ []) ++ behind
front_two l m bytes rest behind first second =
    first ∙ ap (λ (x : List ℕ). spell l ++ x) (front_one m rest behind second)
    ∙ sym (first_apart l (m ∷ []) behind)

-- a text of one state, in which nothing is up
abbrev plain_text : List (List ℕ) → Option ℕ → LiveText
plain_text services bound = record {
  services = services;
  bound = bound;
  before = [];
  current = nothing_up;
  after = [];
}

plain_text_is : (services : List (List ℕ)) (bound : Option ℕ) → AreAscending services
    → IfSome bound IsBound → IsLiveText (plain_text services bound)
plain_text_is services bound ascend is = record {
  services = ascend;
  bound = is;
  before = All-nil IsStateText;
  current = nothing_up_is;
  after = All-nil IsStateText;
}

three_is : IsBound 3
three_is = (omega arith, omega arith)

-- where no first line stands, reading is stuck at once
first_stuck : (bytes : List ℕ)
    → ((bounded : Bool) (tail : List ℕ) → bytes ≡ spell (First bounded) ++ tail → ⊥)
    → IsStuckAt bytes bytes (First false)
first_stuck bytes none =
    stuck_here bytes bytes [] (OfServices [] ∷ OfState true [] ∷ Last ∷ []) (First false)
    (plain_text [] None) refl (plain_text_is [] None nothing_up_is.live tt) refl here
  where
    here : IsNoLineHere AtFirst bytes
    here (First bounded) tail may same = none bounded tail same
    here other tail may same = absurd may

number_version : (bounded : Bool) → IsNumber (version_word bounded)
number_version true = record {
  some = omega arith;
  each = All-cons (λ digit. (48 ≤ digit) × (digit ≤ 57)) 50 [] (omega arith, omega arith)
      (All-nil (λ digit. (48 ≤ digit) × (digit ≤ 57)));
  plain = λ longer zero. omega arith;
}
number_version false = record {
  some = omega arith;
  each = All-cons (λ digit. (48 ≤ digit) × (digit ≤ 57)) 49 [] (omega arith, omega arith)
      (All-nil (λ digit. (48 ≤ digit) × (digit ≤ 57)));
  plain = λ longer zero. omega arith;
}

-- no line of a version stands here
pub no_version_line : (bytes : List ℕ)
    → (HasNumber (codes "undorc-live") (λ _. Unit {0}) bytes → ⊥)
    → IsRefused bytes (Bad (length bytes))
no_version_line bytes none = (
  bytes,
  First false,
  first_stuck bytes
      (λ bounded tail same. none (version_word bounded, tail, number_version bounded, tt, same)),
  refl,
  λ has. none (has.0, has.1, has.2, tt, has.4),
)

-- another version stands here
pub other_version : (bytes number rest : List ℕ) → IsNumber number
    → bytes ≡ line_of_words (codes "undorc-live" ∷ number ∷ []) ++ rest
    → ((bounded : Bool) → number ≡ version_word bounded → ⊥) → IsRefused bytes Version
other_version bytes number rest is here none = (
  bytes,
  First false,
  first_stuck bytes (λ bounded tail same. none bounded (version_here bounded tail same)),
  (number, rest, is, (none false, none true), here),
)
  where
    version_here : (bounded : Bool) (tail : List ℕ) → bytes ≡ spell (First bounded) ++ tail
        → number ≡ version_word bounded
    version_here bounded tail same =
        let both = words_once (codes "undorc-live" ∷ number ∷ []) (words (First bounded)) rest tail
        (plain_numbered (codes "undorc-live") number (plain_from (codes "undorc-live") refl) is)
        (plain_line (First bounded) tt) (sym here ∙ same) in
        ap (λ (ws : List (List ℕ)). get_or ws 1 []) both.0

-- the services are due and do not stand here
pub no_services : (bounded : Bool) (bytes rest : List ℕ) (fault : FormFault)
    → bytes ≡ spell (First bounded) ++ rest → IsMissing AreAscending OfServices rest fault
    → IsRefused bytes fault
no_services bounded bytes rest Memory front missing = tt
no_services bounded bytes rest Version front missing = absurd missing
no_services bounded bytes rest (Bad left) front missing =
    (rest, OfServices [], stuck bounded front, missing.0, λ bad. bad)
  where
    here : (bounded : Bool) → IsNoLineHere (AtServices bounded) rest
    here bounded (OfServices names) tail may same = missing.1 names tail may same
    here bounded other tail may same = absurd may

    stuck : (bounded : Bool) → bytes ≡ spell (First bounded) ++ rest
        → IsStuckAt bytes rest (OfServices [])
    stuck true first =
        stuck_here bytes rest (First true ∷ []) (OfBound 3 ∷ OfState true [] ∷ Last ∷ [])
        (OfServices []) (plain_text [] (Some 3)) (front_one (First true) bytes rest first)
        (plain_text_is [] (Some 3) nothing_up_is.live three_is) refl (here true)
    stuck false first =
        stuck_here bytes rest (First false ∷ []) (OfState true [] ∷ Last ∷ [])
        (OfServices []) (plain_text [] None) (front_one (First false) bytes rest first)
        (plain_text_is [] None nothing_up_is.live tt) refl (here false)

-- the bound is due and does not stand here
pub no_bound : (services : List (List ℕ)) (bytes middle rest : List ℕ) (fault : FormFault)
    → AreAscending services → bytes ≡ spell (First true) ++ middle
    → middle ≡ spell (OfServices services) ++ rest → IsMissing IsBound OfBound rest fault
    → IsRefused bytes fault
no_bound services bytes middle rest Memory ascend first second missing = tt
no_bound services bytes middle rest Version ascend first second missing = absurd missing
no_bound services bytes middle rest (Bad left) ascend first second missing =
    (rest, OfBound 3, stuck, missing.0, λ bad. bad)
  where
    here : IsNoLineHere AtBound rest
    here (OfBound bound) tail may same = missing.1 bound tail may same
    here other tail may same = absurd may

    stuck : IsStuckAt bytes rest (OfBound 3)
    stuck =
        stuck_here bytes rest (First true ∷ OfServices services ∷ []) (OfState true [] ∷ Last ∷ [])
        (OfBound 3) (plain_text services (Some 3))
        (front_two (First true) (OfServices services) bytes middle rest first second)
        (plain_text_is services (Some 3) ascend three_is) refl here
