-- States one after another, and what may stand after them.
use Rattle.std.proofs.Common.{◌≡◌, ◌∙◌, ℕ, Bool, true, false, List, [], ◌∷◌, ◌++◌, map, All}
use Rattle.std.proofs.Common.{refl, sym, ap, subst, append_assoc, Vec, Global}
use Rattle.std.proofs.lemmas.List.Elements.{All-push}
use Rattle.rc_dbtext.specs.Words.{BundleText}
use Rattle.rc_dbtext.specs.Form.{spells}
use Rattle.rc_livetext.specs.Text.{Line, First, OfServices, OfBound, OfState, OfBundle, Last}
use Rattle.rc_livetext.specs.Text.{StateText, IsStateText, AreAscending, IsBundleText, state_lines}
use Rattle.rc_livetext.specs.Text.{spell}
use Rattle.rc_livetext.specs.Following.{Place, AtFirst, AtServices, AtBound, AtStates, InState}
use Rattle.rc_livetext.specs.Following.{May, place_after, IsNoLineHere}
use Rattle.rc_livetext.specs.Held.{AreBundles, HasBundles, HasNoMore, HasNo, HasStates}
use Rattle.rc_livetext.specs.Held.{HasNoBundle, IsMissing, Stops, states_lines}
use Rattle.rc_livetext.specs.declared.form_fault.FormFault.{FormFault}
use Rattle.rc_livetext.specs.declared.form_fault.FormFault.TheVariants.{Bad, Version, Memory}
use Rattle.rc_livetext.specs.Saying.{IsSaid}
use Rattle.rc_livetext.specs.FormText.{line_text}
use Rattle.rc_livetext.specs.declared.lines.LineForm.{LineForm}
use Rattle.rc_livetext.specs.declared.lines.LineForm.TheVariants as form
use Rattle.rc_dbtext.specs.declared.lexer.name_word.NameWord.{NameWord}
use Rattle.rc_livetext.proofs.ManyLines.{first_once, first_apart}
use Rattle.rc_dbtext.proofs.Stuck.{spells-append}
use Rattle.rc_livetext.proofs.PartLemmas.{lines_push}
use Rattle.rc_livetext.proofs.Follows.{IsOpenTo, reached_join, state_may, states_may, open_still}

-- lines after lines
pub joins : (ls ms : List Line) (bytes x y : List ℕ) → bytes ≡ spells spell ls ++ x
    → x ≡ spells spell ms ++ y → bytes ≡ spells spell (ls ++ ms) ++ y
joins ls ms bytes x y first second =
    first ∙ ap (λ (t : List ℕ). spells spell ls ++ t) second
    ∙ sym (append_assoc (spells spell ls) (spells spell ms) y)
    ∙ ap (λ (t : List ℕ). t ++ y) (sym (spells-append spell ls ms))

-- the lines of a state: its own, and its bundles
pub state_front : (current : Bool) (s : StateText) (bytes rest behind : List ℕ)
    → bytes ≡ spell (OfState current s.live) ++ rest
    → rest ≡ spells spell (map OfBundle s.bundles) ++ behind
    → bytes ≡ spells spell (state_lines current s) ++ behind
state_front current s bytes rest behind first second =
    first ∙ ap (λ (t : List ℕ). spell (OfState current s.live) ++ t) second
    ∙ sym (first_apart (OfState current s.live) (map OfBundle s.bundles) behind)

pub state_is : (s : StateText) → AreAscending s.live → AreBundles s.bundles → IsStateText s
state_is s live bundles = record {
  live = live;
  order = bundles.order;
  few = bundles.few;
  each = bundles.each;
}

-- one state more
pub one_state : (s : StateText) (states : List StateText) (bytes rest middle behind : List ℕ)
    → HasStates bytes states rest → AreAscending s.live
    → rest ≡ spell (OfState false s.live) ++ middle
    → HasBundles middle s.bundles behind → HasStates bytes (states ++ s ∷ []) behind
one_state s states bytes rest middle behind has live line bundles = (
  All-push IsStateText states s has.0 (state_is s live bundles.0),
  joins (states_lines states) (state_lines false s) bytes rest behind has.1
      (state_front false s rest middle behind line bundles.1)
      ∙ ap (λ (ls : List Line). spells spell ls ++ behind) (sym (lines_push states s)),
)

-- after a state that is not the current one
pub behind_state : (seen : Bool) (place : Place) (states : List StateText) (s : StateText)
    → IsOpenTo seen place → All IsStateText states → IsStateText s
    → place_after place (states_lines (states ++ s ∷ [])) ≡ InState seen s.bundles
behind_state seen place states s opens each is =
    let there = (states_may place seen states opens each).1 in
    let one = state_may (place_after place (states_lines states)) seen false s there
    (λ _ bad. (let no : false ≡ true = bad in cc)) is in
    ap (place_after place) (lines_push states s)
    ∙ reached_join place (states_lines states) (state_lines false s)
    ∙ one.1 ∙ ap (λ (b : Bool). InState b s.bundles) (open_still seen)

-- where no more bundles of the last state stand
pub none_behind : (seen : Bool) (place : Place) (states : List StateText) (s : StateText)
    (rest : List ℕ) → IsOpenTo seen place → All IsStateText states → IsStateText s
    → HasNoMore s.bundles rest
    → HasNoBundle (place_after place (states_lines (states ++ s ∷ []))) rest
none_behind seen place states s rest opens each is none =
    let F : Place → Type 0 = λ p. HasNoBundle p rest in
    subst F (sym (behind_state seen place states s opens each is)) none

-- what may stand somewhere may be said
pub may_said : (place : Place) (l : Line) → May place l → IsSaid l
may_said AtFirst (First bounded) may = tt
may_said (AtServices bounded) (OfServices names) may = may
may_said AtBound (OfBound bound) may = may
may_said AtStates (OfState current names) may = may
may_said (InState seen bundles) (OfState current names) may = may.0
may_said (InState seen bundles) (OfBundle b) may = may.is
may_said (InState seen bundles) Last may = tt
may_said place l may = absurd may

-- no line stands here
pub no_line : (place : Place) (rest : List ℕ) → HasNo IsSaid (λ l. l) rest → IsNoLineHere place rest
no_line place rest none l tail may same = none l tail (may_said place l may) same

-- another line stands here than one that may
pub other_line : (place : Place) (line : Line) (rest behind : List ℕ) → IsSaid line
    → rest ≡ spell line ++ behind → (May place line → ⊥) → IsNoLineHere place rest
other_line place line rest behind said here apart l tail may same =
    let both = first_once l line tail behind (may_said place l may) said (sym same ∙ here) in
    apart (subst (May place) both.0 may)

-- a line that was read and is no state's may not stand before the current state
pub not_before : (place : Place) (line : LineForm) (rest behind : List ℕ) → IsOpenTo false place
    → HasNoBundle place rest → rest ≡ spell (line_text line) ++ behind
    → ((current : Bool) (names : Vec NameWord Global) → line ≡ form.State current names → ⊥)
    → May place (line_text line) → ⊥
not_before place (form.State current names) rest behind opens none here other may =
    other current names refl
not_before place (form.Bundle b) rest behind opens none here other may = none b behind may here
not_before AtStates line rest behind opens none here other may = may
not_before (InState seen bundles) form.Last rest behind opens none here other may =
    let bad : false ≡ true = sym opens ∙ may in cc
not_before (InState seen bundles) line rest behind opens none here other may = may
not_before place line rest behind opens none here other may = opens

-- and after it none that is no state's either and not the last one
pub not_behind : (place : Place) (line : LineForm) (rest behind : List ℕ) → IsOpenTo true place
    → HasNoBundle place rest → rest ≡ spell (line_text line) ++ behind → (line ≡ form.Last → ⊥)
    → ((current : Bool) (names : Vec NameWord Global) → line ≡ form.State current names → ⊥)
    → May place (line_text line) → ⊥
not_behind place form.Last rest behind opens none here inner other may = inner refl
not_behind place (form.State current names) rest behind opens none here inner other may =
    other current names refl
not_behind place (form.Bundle b) rest behind opens none here inner other may =
    none b behind may here
not_behind AtStates line rest behind opens none here inner other may = may
not_behind (InState seen bundles) line rest behind opens none here inner other may = may
not_behind place line rest behind opens none here inner other may = opens

-- nor a second current one
pub not_again : (place : Place) (names : List (List ℕ)) → IsOpenTo true place
    → May place (OfState true names) → ⊥
not_again AtStates names opens may = let bad : true ≡ false = opens in cc
not_again (InState seen bundles) names opens may = may.1 opens refl
not_again place names opens may = opens

-- where no line stands at all, reading states stops
pub stops_here : (place : Place) (bytes rest : List ℕ) (states : List StateText) (fault : FormFault)
    → HasStates bytes states rest → IsMissing IsSaid (λ l. l) rest fault → Stops place bytes fault
stops_here place bytes rest states (Bad left) has missing = record {
  states = states;
  rest = rest;
  has = has;
  size = missing.0;
  none = no_line (place_after place (states_lines states)) rest missing.1;
}
stops_here place bytes rest states Version has missing = absurd missing
stops_here place bytes rest states Memory has missing = tt

-- it may run out of memory anywhere
pub stops_short : (place : Place) (bytes : List ℕ) (fault : FormFault) → fault ≡ Memory
    → Stops place bytes fault
stops_short place bytes fault is = subst (Stops place bytes) (sym is) tt

-- no bundle stands where another line does
pub no_bundle_here : (line : LineForm) (rest behind : List ℕ) → IsSaid (line_text line)
    → rest ≡ spell (line_text line) ++ behind → ((b : BundleText) → line ≡ form.Bundle b → ⊥)
    → HasNo IsBundleText OfBundle rest
no_bundle_here line rest behind said here other b tail is same =
    apart line other
    (first_once (line_text line) (OfBundle b) behind tail said is (sym here ∙ same)).0
  where
    apart : (one : LineForm) → ((c : BundleText) → one ≡ form.Bundle c → ⊥)
        → line_text one ≡ OfBundle b → ⊥
    apart (form.First bounded) differs is = absurd (cc)
    apart (form.Services names) differs is = absurd (cc)
    apart (form.Bound bound) differs is = absurd (cc)
    apart (form.State current names) differs is = absurd (cc)
    apart (form.Bundle c) differs is = differs c refl
    apart form.Last differs is = absurd (cc)
