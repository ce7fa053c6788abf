-- The lines of a text are those that may follow one another; so where no line that may follow
-- stands, reading is stuck.
use Rattle.std.proofs.Common.{◌≡◌, ◌∙◌, ℕ, ◌+◌, ◌<◌, ◌≤◌, ◌||◌, ◌⊎◌, inl, inr, suc, Bool, true}
use Rattle.std.proofs.Common.{false, List, [], ◌∷◌, ◌++◌, length, map, get_or, take, drop, All}
use Rattle.std.proofs.Common.{Option, Some, None, IfSome, refl, sym, ap, subst, arith, append_assoc}
use Rattle.std.proofs.Common.{length-append}
use Rattle.std.proofs.lemmas.Bool.{cases_lt}
use Rattle.std.proofs.lemmas.List.{append-nil, map-append, take-append-drop, take_all, length-take}
use Rattle.std.proofs.lemmas.List.{length-drop, append_cancel_left}
use Rattle.std.proofs.lemmas.List.Elements.{All-head, All-tail, All-nil, All-cons}
use Rattle.std.proofs.Math.ListN.{get_or-append}
use Rattle.std.specs.List.{flat_map}
use Rattle.rc_model.specs.Names.{IsInByteOrder}
use Rattle.rc_model.proofs.Lists.{push_append}
use Rattle.rc_dbtext.specs.Words.{BundleText}
use Rattle.rc_dbtext.specs.Form.{spells}
use Rattle.rc_livetext.specs.Text.{Line, OfBundle, Last, StateText, LiveText, IsStateText}
use Rattle.rc_livetext.specs.Text.{IsLiveText, IsBundleText, IsBound, state_lines, head_lines}
use Rattle.rc_livetext.specs.Text.{live_lines, spell}
use Rattle.rc_livetext.specs.Refusals.{IsStuckAt}
use Rattle.rc_livetext.specs.Following.{Place, AtFirst, AtServices, AtBound, AtStates, InState}
use Rattle.rc_livetext.specs.Following.{AtEnd, May, behind, place_after, AllMay, IsNoLineHere}
use Rattle.rc_livetext.proofs.LineWords.{IsSaid}
use Rattle.rc_livetext.proofs.ManyLines.{AreToLast, first_once, first_apart, inner_front}
use Rattle.rc_livetext.proofs.ManyLines.{not_within}
use Rattle.rc_livetext.proofs.Structure.{body_lines, text_said, text_to_last}

-- lines in two parts
pub may_split : (p : Place) (ls ms : List Line) → AllMay p (ls ++ ms)
    → AllMay p ls × AllMay (place_after p ls) ms
may_split p [] ms all = (tt, all)
may_split p (l ∷ ls) ms all =
    let rest = may_split (behind p l) ls ms all.1 in ((all.0, rest.0), rest.1)

pub may_join : (p : Place) (ls ms : List Line) → AllMay p ls → AllMay (place_after p ls) ms
    → AllMay p (ls ++ ms)
may_join p [] ms first second = second
may_join p (l ∷ ls) ms first second = (first.0, may_join (behind p l) ls ms first.1 second)

pub reached_join : (p : Place) (ls ms : List Line)
    → place_after p (ls ++ ms) ≡ place_after (place_after p ls) ms
reached_join p [] ms = refl
reached_join p (l ∷ ls) ms = reached_join (behind p l) ls ms

-- a prefix of names in order is in order
front_order : (xs ys : List (List ℕ)) → IsInByteOrder (xs ++ ys) → IsInByteOrder xs
front_order xs ys order i j d low within =
    let first : get_or (xs ++ ys) i d ≡ get_or xs i d = get_or-append xs ys d i (omega arith) in
    let second : get_or (xs ++ ys) j d ≡ get_or xs j d = get_or-append xs ys d j within in
    rw (first, second) at (order i j d low (omega (arith, length-append xs ys)))

-- the bundles of a state, after some of them
bundles_may : (seen : Bool) (bs cs : List BundleText) → IsInByteOrder (map (λ b. b.name) (bs ++ cs))
    → length bs + length cs ≤ 4096 → All IsBundleText cs
    → AllMay (InState seen bs) (map OfBundle cs)
    × (place_after (InState seen bs) (map OfBundle cs) ≡ InState seen (bs ++ cs))
bundles_may seen bs [] order few each = (tt, ap (InState seen) (sym (append-nil bs)))
bundles_may seen bs (c ∷ cs) order few each =
    let apart : (bs ++ c ∷ []) ++ cs ≡ bs ++ c ∷ cs = push_append bs c cs in
    let whole : IsInByteOrder (map (λ b. b.name) ((bs ++ c ∷ []) ++ cs)) =
    subst (λ (l : List BundleText). IsInByteOrder (map (λ b. b.name) l)) (sym apart) order in
    let parts : IsInByteOrder (map (λ b. b.name) (bs ++ c ∷ []) ++ map (λ b. b.name) cs) =
    subst IsInByteOrder (map-append (λ (b : BundleText). b.name) (bs ++ c ∷ []) cs) whole in
    let rest = bundles_may seen (bs ++ c ∷ []) cs whole (omega (arith, length-append bs (c ∷ [])))
    (All-tail IsBundleText c cs each) in (
      (
        record {
          is = All-head IsBundleText c cs each;
          few = omega arith;
          order =
              front_order (map (λ b. b.name) (bs ++ c ∷ [])) (map (λ b. b.name) cs) parts;
        },
        rest.0,
      ),
      rest.1 ∙ ap (InState seen) apart,
    )

-- where a state may stand, and whether the current one was seen
abbrev pub IsOpenTo : Bool → Place → Type 0
IsOpenTo seen AtStates = seen ≡ false
IsOpenTo seen (InState was bundles) = was ≡ seen
IsOpenTo seen other = ⊥

-- the place after a state
pub state_may : (place : Place) (seen current : Bool) (s : StateText) → IsOpenTo seen place
    → (seen ≡ true → current ≡ true → ⊥) → IsStateText s
    → AllMay place (state_lines current s)
    × (place_after place (state_lines current s) ≡ InState (seen || current) s.bundles)
state_may AtStates true current s opens once is = absurd (let bad : true ≡ false = opens in cc)
state_may AtStates false current s opens once is =
    let rest = bundles_may current [] s.bundles is.order (omega (arith, is.few)) is.each in
    ((is.live, rest.0), rest.1)
state_may (InState true bundles) true current s opens once is =
    let rest = bundles_may true [] s.bundles is.order (omega (arith, is.few)) is.each in
    ((((is.live, once)), rest.0), rest.1)
state_may (InState false bundles) false current s opens once is =
    let rest = bundles_may current [] s.bundles is.order (omega (arith, is.few)) is.each in
    ((((is.live, once)), rest.0), rest.1)
state_may (InState true bundles) false current s opens once is =
    absurd (let bad : true ≡ false = opens in cc)
state_may (InState false bundles) true current s opens once is =
    absurd (let bad : false ≡ true = opens in cc)
state_may AtFirst seen current s opens once is = absurd opens
state_may (AtServices bounded) seen current s opens once is = absurd opens
state_may AtBound seen current s opens once is = absurd opens
state_may AtEnd seen current s opens once is = absurd opens

-- the place after states that are not the current one
pub open_still : (seen : Bool) → seen || false ≡ seen
open_still true = refl
open_still false = refl

pub states_may : (place : Place) (seen : Bool) (ss : List StateText) → IsOpenTo seen place
    → All IsStateText ss
    → AllMay place (flat_map (state_lines false) ss)
    × IsOpenTo seen (place_after place (flat_map (state_lines false) ss))
states_may place seen [] opens each = (tt, opens)
states_may place seen (s ∷ ss) opens each =
    let first = state_may place seen false s opens (λ is bad. (let no : false ≡ true = bad in cc))
    (All-head IsStateText s ss each) in
    let there : IsOpenTo seen (place_after place (state_lines false s)) =
    subst (IsOpenTo seen) (sym first.1) (open_still seen) in
    let rest = states_may (place_after place (state_lines false s)) seen ss there
    (All-tail IsStateText s ss each) in (
      may_join place (state_lines false s) (flat_map (state_lines false) ss) first.0 rest.0,
      subst (IsOpenTo seen)
          (sym (reached_join place (state_lines false s) (flat_map (state_lines false) ss))) rest.1,
    )

last_may : (place : Place) → IsOpenTo true place → AllMay place (Last ∷ [])
last_may AtStates opens = absurd (let bad : true ≡ false = opens in cc)
last_may (InState seen bundles) opens = (opens, tt)
last_may AtFirst opens = absurd opens
last_may (AtServices bounded) opens = absurd opens
last_may AtBound opens = absurd opens
last_may AtEnd opens = absurd opens

body_may : (t : LiveText) → IsLiveText t → AllMay AtStates (body_lines t)
body_may t is =
    let a : List Line = flat_map (state_lines false) t.before in
    let b : List Line = state_lines true t.current in
    let c : List Line = flat_map (state_lines false) t.after in
    let one = states_may AtStates false t.before refl is.before in
    let two = state_may (place_after AtStates a) false true t.current one.1
    (λ bad is_it. (let no : false ≡ true = bad in cc)) is.current in
    let there : IsOpenTo true (place_after (place_after AtStates a) b) =
    subst (IsOpenTo true) (sym two.1) refl in
    let three = states_may (place_after (place_after AtStates a) b) true t.after there is.after in
    may_join AtStates a (b ++ (c ++ Last ∷ [])) one.0
    (may_join (place_after AtStates a) b (c ++ Last ∷ []) two.0
    (may_join (place_after (place_after AtStates a) b) c (Last ∷ []) three.0 (last_may _ three.1)))

-- the lines of a text may follow one another
pub text_may : (t : LiveText) → IsLiveText t → AllMay AtFirst (live_lines t)
text_may t is = by t.bound is.bound
  where
    by : (bound : Option ℕ) → IfSome bound IsBound
        → AllMay AtFirst (head_lines t.services bound ++ body_lines t)
    by (Some b) is_b = (tt, (is.services, (is_b, body_may t is)))
    by None is_b = (tt, (is.services, body_may t is))

-- so many lines that stand on the same bytes are the same
fronts_same : (ls ms : List Line) (x y : List ℕ) → All IsSaid ls → All IsSaid ms
    → length ls ≤ length ms → spells spell ls ++ x ≡ spells spell (take (length ls) ms) ++ y
    → take (length ls) ms ≡ ls
fronts_same [] ms x y said_l said_m long same = refl
fronts_same (l ∷ ls) [] x y said_l said_m long same = absurd (omega arith)
fronts_same (l ∷ ls) (m ∷ ms) x y said_l said_m long same =
    let both = first_once l m (spells spell ls ++ x) (spells spell (take (length ls) ms) ++ y)
    (All-head IsSaid l ls said_l) (All-head IsSaid m ms said_m)
    (sym (first_apart l ls x) ∙ same ∙ first_apart m (take (length ls) ms) y) in
    let rest = fronts_same ls ms x y (All-tail IsSaid l ls said_l) (All-tail IsSaid m ms said_m)
    (omega arith) both.1 in
    λ k. sym both.0 k ∷ rest k

take_one : (xs : List Line) (y : Line) (ys : List Line)
    → take (length xs + 1) (xs ++ y ∷ ys) ≡ xs ++ y ∷ []
take_one [] y ys = refl
take_one (x ∷ xs) y ys = let more : suc (length xs) + 1 ≡ suc (length xs + 1) = omega arith in
    ap (λ (k : ℕ). take k (x ∷ (xs ++ y ∷ ys))) more
    ∙ ap (λ (l : List Line). x ∷ l) (take_one xs y ys)

spells_push : (xs : List Line) (y : Line) (tail : List ℕ)
    → spells spell (xs ++ y ∷ []) ++ tail ≡ spells spell xs ++ (spell y ++ tail)
spells_push [] y tail = ap (λ (l : List ℕ). l ++ tail) (append-nil (spell y))
spells_push (x ∷ xs) y tail =
    append_assoc (spell x) (spells spell (xs ++ y ∷ [])) tail
    ∙ ap (λ (l : List ℕ). spell x ++ l) (spells_push xs y tail)
    ∙ sym (append_assoc (spell x) (spells spell xs) (spell y ++ tail))

said_front : (xs ys : List Line) → All IsSaid (xs ++ ys) → All IsSaid xs
said_front [] ys h = All-nil IsSaid
said_front (x ∷ xs) ys h =
    All-cons IsSaid x xs (All-head IsSaid x (xs ++ ys) h)
    (said_front xs ys (All-tail IsSaid x (xs ++ ys) h))

-- where lines that may follow one another stand at the beginning, the next line of any text with
-- these lines may follow them
pub next_may : (ls : List Line) (other : LiveText) (rest tail : List ℕ) → All IsSaid ls
    → IsLiveText other → length ls < length (live_lines other)
    → spells spell ls ++ rest ≡ spells spell (take (length ls + 1) (live_lines other)) ++ tail
    → (l : Line) × May (place_after AtFirst ls) l × (rest ≡ spell l ++ tail)
next_may ls other rest tail said is long same = by (drop (length ls) (live_lines other)) refl
  where
    all : List Line
    all = live_lines other

    by : (more : List Line) → drop (length ls) all ≡ more
        → (l : Line) × May (place_after AtFirst ls) l × (rest ≡ spell l ++ tail)
    by [] none = absurd (omega (arith, length-drop (length ls) all, ap length none))
    by (l ∷ more) next =
        let split : all ≡ take (length ls) all ++ l ∷ more = sym (take-append-drop (length ls) all)
        ∙ ap (λ (x : List Line). take (length ls) all ++ x) next in
        let size : length (take (length ls) all) ≡ length ls =
        omega (arith, length-take (length ls) all) in
        let one_more : take (length ls + 1) all ≡ take (length ls) all ++ l ∷ [] =
        ap (take (length ls + 1)) split
        ∙ ap (λ (k : ℕ). take (k + 1) (take (length ls) all ++ l ∷ more)) (sym size)
        ∙ take_one (take (length ls) all) l more in
        let stands : spells spell ls ++ rest ≡ spells spell (take (length ls) all)
        ++ (spell l ++ tail) =
        same ∙ ap (λ (x : List Line). spells spell x ++ tail) one_more
        ∙ spells_push (take (length ls) all) l tail in
        let fronts : take (length ls) all ≡ ls = fronts_same ls all rest (spell l ++ tail) said
        (text_said other is) (omega (arith, long)) stands in
        let may : AllMay AtFirst (ls ++ l ∷ more) =
        subst (AllMay AtFirst) (split ∙ ap (λ (x : List Line). x ++ l ∷ more) fronts)
        (text_may other is) in
        let here : May (place_after AtFirst ls) l = ((may_split AtFirst ls (l ∷ more) may).1).0 in (
          l,
          here,
          append_cancel_left (spells spell ls) rest (spell l ++ tail)
              (stands ∙ ap (λ (x : List Line). spells spell x ++ (spell l ++ tail)) fronts),
        )

-- so reading is stuck where some text has these lines and one more, and no line that may follow
-- them stands
pub stuck_here : (bytes rest : List ℕ) (ls after : List Line) (due : Line) (t : LiveText)
    → bytes ≡ spells spell ls ++ rest → IsLiveText t → live_lines t ≡ ls ++ due ∷ after
    → IsNoLineHere (place_after AtFirst ls) rest → IsStuckAt bytes rest due
stuck_here bytes rest ls after due t front is parts none = record {
  value = t;
  before = ls;
  after = after;
  is = is;
  parts = parts;
  front = front;
  none = λ other tail is_other same. by other tail is_other same
      (cases_lt (length ls) (length (live_lines other)));
}
  where
    said : All IsSaid ls
    said = said_front ls (due ∷ after) (subst (All IsSaid) parts (text_said t is))

    by : (other : LiveText) (tail : List ℕ) → IsLiveText other
        → bytes ≡ spells spell (take (length ls + 1) (live_lines other)) ++ tail
        → (length ls < length (live_lines other)) ⊎ (length (live_lines other) ≤ length ls) → ⊥
    by other tail is_other same (inl long) =
        let found = next_may ls other rest tail said is_other long (sym front ∙ same) in
        none found.0 tail found.1 found.2
    by other tail is_other same (inr short) =
        let whole : take (length ls + 1) (live_lines other) ≡ live_lines other =
        take_all (length ls + 1) (live_lines other) (omega (arith, short)) in
        not_within (live_lines other) ls tail rest (text_said other is_other) said
        (text_to_last other) (inner_front ls due after (subst AreToLast parts (text_to_last t)))
        short
        (ap (λ (x : List Line). spells spell x ++ tail) (sym whole) ∙ sym same ∙ front)
