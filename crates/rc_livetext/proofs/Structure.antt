-- The lines of a live text tell which text it is.
use Rattle.std.proofs.Common.{◌≡◌, ◌∙◌, ℕ, Bool, true, false, List, [], ◌∷◌, ◌++◌, length, map, All}
use Rattle.std.proofs.Common.{Option, Some, None, IfSome, refl, sym, ap, subst, arith, append_assoc}
use Rattle.std.proofs.lemmas.List.Elements.{All-head, All-tail, All-nil, All-cons, All-append}
use Rattle.std.proofs.lemmas.List.Elements.{All-map}
use Rattle.std.specs.List.{flat_map}
use Rattle.rc_dbtext.specs.Words.{BundleText}
use Rattle.rc_livetext.specs.Text.{Line, First, OfServices, OfBound, OfState, OfBundle, Last}
use Rattle.rc_livetext.specs.Text.{StateText, LiveText, IsStateText, IsLiveText, state_lines}
use Rattle.rc_livetext.specs.Text.{head_lines, live_lines}
use Rattle.rc_livetext.proofs.LineWords.{IsSaid}
use Rattle.rc_livetext.proofs.ManyLines.{AreToLast}

-- not the line of a bundle
abbrev NoBundle : List Line → Type 0
NoBundle [] = Unit {0}
NoBundle (OfBundle b ∷ rest) = ⊥
NoBundle (other ∷ rest) = Unit {0}

-- not the line of a state
abbrev NoState : List Line → Type 0
NoState [] = Unit {0}
NoState (OfState c s ∷ rest) = ⊥
NoState (other ∷ rest) = Unit {0}

cons_head : (l m : Line) (ls ms : List Line) → l ∷ ls ≡ m ∷ ms → l ≡ m
cons_head l m ls ms same = cc

cons_tail : (l m : Line) (ls ms : List Line) → l ∷ ls ≡ m ∷ ms → ls ≡ ms
cons_tail l m ls ms same = cc

abbrev bundle_in : Line → BundleText
bundle_in (OfBundle b) = b
bundle_in other = record { name = []; members = [] }

abbrev flag_in : Line → Bool
flag_in (OfState c s) = c
flag_in (First b) = b
flag_in other = false

abbrev names_in : Line → List (List ℕ)
names_in (OfState c s) = s
names_in (OfServices s) = s
names_in other = []

abbrev bound_in : Line → ℕ
bound_in (OfBound b) = b
bound_in other = 0

-- the bundles of a state, up to what is no bundle
bundles_once : (bs cs : List BundleText) (x y : List Line) → NoBundle x → NoBundle y
    → map OfBundle bs ++ x ≡ map OfBundle cs ++ y → (bs ≡ cs) × (x ≡ y)
bundles_once [] [] x y no_x no_y same = (refl, same)
bundles_once [] (c ∷ cs) x y no_x no_y same = absurd (subst NoBundle same no_x)
bundles_once (b ∷ bs) [] x y no_x no_y same = absurd (subst NoBundle (sym same) no_y)
bundles_once (b ∷ bs) (c ∷ cs) x y no_x no_y same =
    let first : b ≡ c =
    ap bundle_in
    (cons_head (OfBundle b) (OfBundle c) (map OfBundle bs ++ x) (map OfBundle cs ++ y) same) in
    let rest = bundles_once bs cs x y no_x no_y
    (cons_tail (OfBundle b) (OfBundle c) (map OfBundle bs ++ x) (map OfBundle cs ++ y) same) in
    ((λ i. first i ∷ rest.0 i), rest.1)

-- states, each with whether it is the current one
abbrev Marked : Type 0
Marked = Bool × StateText

abbrev block : Marked → List Line
block m = state_lines m.0 m.1

abbrev blocks : List Marked → List Line
blocks ms = flat_map block ms

blocks_first : (m : Marked) (ms : List Marked) (x : List Line)
    → blocks (m ∷ ms) ++ x ≡ OfState m.0 m.1.live ∷ (map OfBundle m.1.bundles ++ (blocks ms ++ x))
blocks_first m ms x = append_assoc (block m) (blocks ms) x

blocks_no_bundle : (ms : List Marked) (x : List Line) → NoBundle x → NoBundle (blocks ms ++ x)
blocks_no_bundle [] x none = none
blocks_no_bundle (m ∷ ms) x none = subst NoBundle (sym (blocks_first m ms x)) tt

-- states up to what is no state and no bundle
blocks_once : (ms ns : List Marked) (x y : List Line) → NoBundle x → NoBundle y → NoState x
    → NoState y → blocks ms ++ x ≡ blocks ns ++ y → (ms ≡ ns) × (x ≡ y)
blocks_once [] [] x y no_x no_y none_x none_y same = (refl, same)
blocks_once [] (n ∷ ns) x y no_x no_y none_x none_y same =
    absurd (subst NoState (same ∙ blocks_first n ns y) none_x)
blocks_once (m ∷ ms) [] x y no_x no_y none_x none_y same =
    absurd (subst NoState (sym same ∙ blocks_first m ms x) none_y)
blocks_once (m ∷ ms) (n ∷ ns) x y no_x no_y none_x none_y same =
    let whole = sym (blocks_first m ms x) ∙ same ∙ blocks_first n ns y in
    let own : List Line = map OfBundle m.1.bundles ++ (blocks ms ++ x) in
    let its : List Line = map OfBundle n.1.bundles ++ (blocks ns ++ y) in
    let line : OfState m.0 m.1.live ≡ OfState n.0 n.1.live =
    cons_head (OfState m.0 m.1.live) (OfState n.0 n.1.live) own its whole in
    let flag : m.0 ≡ n.0 = ap flag_in line in
    let live : m.1.live ≡ n.1.live = ap names_in line in
    let behind = bundles_once m.1.bundles n.1.bundles (blocks ms ++ x) (blocks ns ++ y)
    (blocks_no_bundle ms x no_x) (blocks_no_bundle ns y no_y)
    (cons_tail (OfState m.0 m.1.live) (OfState n.0 n.1.live) own its whole) in
    let rest = blocks_once ms ns x y no_x no_y none_x none_y behind.1 in
    ((λ i. (flag i, record { live = live i; bundles = behind.0 i }) ∷ rest.0 i), rest.1)

-- states none of which is the current one, then the current one, then others
abbrev unmarked : List StateText → List Marked
unmarked ss = map (λ s. (false, s)) ss

abbrev all_marked : List StateText → StateText → List StateText → List Marked
all_marked before current after = unmarked before ++ (true, current) ∷ unmarked after

marked_head : (m n : Marked) (ms ns : List Marked) → m ∷ ms ≡ n ∷ ns → m ≡ n
marked_head m n ms ns same = cc

marked_tail : (m n : Marked) (ms ns : List Marked) → m ∷ ms ≡ n ∷ ns → ms ≡ ns
marked_tail m n ms ns same = cc

flags_apart : (s t : StateText) → ◌≡◌ {A = Marked} (true, s) (false, t) → ⊥
flags_apart s t same = let bad : true ≡ false = ap (λ (m : Marked). m.0) same in cc

unmarked_once : (ss ts : List StateText) → unmarked ss ≡ unmarked ts → ss ≡ ts
unmarked_once [] [] same = refl
unmarked_once [] (t ∷ ts) same = absurd (omega (arith, ap length same))
unmarked_once (s ∷ ss) [] same = absurd (omega (arith, ap length same))
unmarked_once (s ∷ ss) (t ∷ ts) same =
    let first : s ≡ t =
    ap (λ (m : Marked). m.1) (marked_head (false, s) (false, t) (unmarked ss) (unmarked ts) same) in
    let rest =
    unmarked_once ss ts (marked_tail (false, s) (false, t) (unmarked ss) (unmarked ts) same) in
    λ i. first i ∷ rest i

current_once : (ss ts : List StateText) (s t : StateText) (us vs : List StateText)
    → all_marked ss s us ≡ all_marked ts t vs → (ss ≡ ts) × (s ≡ t) × (us ≡ vs)
current_once [] [] s t us vs same = (
  refl,
  ap (λ (m : Marked). m.1) (marked_head (true, s) (true, t) (unmarked us) (unmarked vs) same),
  unmarked_once us vs (marked_tail (true, s) (true, t) (unmarked us) (unmarked vs) same),
)
current_once [] (b ∷ ts) s t us vs same =
    absurd (flags_apart s b
    (marked_head (true, s) (false, b) (unmarked us) (all_marked ts t vs) same))
current_once (a ∷ ss) [] s t us vs same =
    absurd (flags_apart t a
    (sym (marked_head (false, a) (true, t) (all_marked ss s us) (unmarked vs) same)))
current_once (a ∷ ss) (b ∷ ts) s t us vs same =
    let first : a ≡ b =
    ap (λ (m : Marked). m.1)
    (marked_head (false, a) (false, b) (all_marked ss s us) (all_marked ts t vs) same) in
    let rest = current_once ss ts s t us vs
    (marked_tail (false, a) (false, b) (all_marked ss s us) (all_marked ts t vs) same) in
    ((λ i. first i ∷ rest.0 i), rest.1, rest.2)

-- the lines of the states of a text, as blocks
blocks_unmarked : (ss : List StateText) → flat_map (state_lines false) ss ≡ blocks (unmarked ss)
blocks_unmarked [] = refl
blocks_unmarked (s ∷ ss) = ap (λ (ls : List Line). state_lines false s ++ ls) (blocks_unmarked ss)

blocks_join : (ms : List Marked) (x : List Marked) (z : List Line)
    → blocks ms ++ (blocks x ++ z) ≡ blocks (ms ++ x) ++ z
blocks_join [] x z = refl
blocks_join (m ∷ ms) x z =
    append_assoc (block m) (blocks ms) (blocks x ++ z) ∙ ap (λ (ls : List Line). block m ++ ls)
    (blocks_join ms x z) ∙ sym (append_assoc (block m) (blocks (ms ++ x)) z)

-- all lines after the head
abbrev pub body_lines : LiveText → List Line
body_lines t =
    flat_map (state_lines false) t.before
    ++ (state_lines true t.current ++ (flat_map (state_lines false) t.after ++ Last ∷ []))

body_blocks : (t : LiveText)
    → body_lines t ≡ blocks (all_marked t.before t.current t.after) ++ Last ∷ []
body_blocks t =
    ap (λ (ls : List Line). ls
    ++ (state_lines true t.current ++ (flat_map (state_lines false) t.after ++ Last ∷ [])))
    (blocks_unmarked t.before)
    ∙ ap (λ (ls : List Line). blocks (unmarked t.before)
    ++ (state_lines true t.current ++ (ls ++ Last ∷ []))) (blocks_unmarked t.after)
    ∙ ap (λ (ls : List Line). blocks (unmarked t.before) ++ ls)
    (sym (append_assoc (state_lines true t.current) (blocks (unmarked t.after)) (Last ∷ [])))
    ∙ blocks_join (unmarked t.before) ((true, t.current) ∷ unmarked t.after) (Last ∷ [])

heads_once : (s t : List (List ℕ)) (a b : Option ℕ) (x y : List Line)
    → head_lines s a ++ x ≡ head_lines t b ++ y → (s ≡ t) × (a ≡ b) × (x ≡ y)
heads_once s t (Some a) (Some b) x y same =
    let one = cons_tail (First true) (First true) (OfServices s ∷ OfBound a ∷ x)
    (OfServices t ∷ OfBound b ∷ y) same in
    let two = cons_tail (OfServices s) (OfServices t) (OfBound a ∷ x) (OfBound b ∷ y) one in (
      ap names_in (cons_head (OfServices s) (OfServices t) (OfBound a ∷ x) (OfBound b ∷ y) one),
      ap (λ (l : Line). Some (bound_in l)) (cons_head (OfBound a) (OfBound b) x y two),
      cons_tail (OfBound a) (OfBound b) x y two,
    )
heads_once s t None None x y same =
    let one = cons_tail (First false) (First false) (OfServices s ∷ x) (OfServices t ∷ y) same in (
      ap names_in (cons_head (OfServices s) (OfServices t) x y one),
      refl,
      cons_tail (OfServices s) (OfServices t) x y one,
    )
heads_once s t (Some a) None x y same =
    absurd
    (let bad : true ≡ false = ap flag_in (cons_head (First true) (First false)
    (OfServices s ∷ OfBound a ∷ x) (OfServices t ∷ y) same) in cc)
heads_once s t None (Some b) x y same =
    absurd
    (let bad : false ≡ true = ap flag_in (cons_head (First false) (First true) (OfServices s ∷ x)
    (OfServices t ∷ OfBound b ∷ y) same) in cc)

-- a text is that of its lines
pub texts_once : (a b : LiveText) → live_lines a ≡ live_lines b → a ≡ b
texts_once a b same =
    let head =
    heads_once a.services b.services a.bound b.bound (body_lines a) (body_lines b) same in
    let body = blocks_once (all_marked a.before a.current a.after)
    (all_marked b.before b.current b.after) (Last ∷ []) (Last ∷ []) tt tt tt tt
    (sym (body_blocks a) ∙ head.2 ∙ body_blocks b) in
    let parts = current_once a.before b.before a.current b.current a.after b.after body.0 in
    λ i. record {
      services = head.0 i;
      bound = head.1 i;
      before = parts.0 i;
      current =
          parts.1 i;
      after = parts.2 i;
    }

-- each line of a text says what it may
state_said : (current : Bool) (s : StateText) → IsStateText s → All IsSaid (state_lines current s)
state_said current s is =
    All-cons IsSaid (OfState current s.live) (map OfBundle s.bundles) is.live
    (All-map IsSaid OfBundle s.bundles is.each)

states_said : (ss : List StateText) → All IsStateText ss
    → All IsSaid (flat_map (state_lines false) ss)
states_said [] each = All-nil IsSaid
states_said (s ∷ ss) each =
    All-append IsSaid (state_lines false s) (flat_map (state_lines false) ss)
    (state_said false s (All-head IsStateText s ss each))
    (states_said ss (All-tail IsStateText s ss each))

body_said : (t : LiveText) → IsLiveText t → All IsSaid (body_lines t)
body_said t is =
    All-append IsSaid (flat_map (state_lines false) t.before)
    (state_lines true t.current ++ (flat_map (state_lines false) t.after ++ Last ∷ []))
    (states_said t.before is.before)
    (All-append IsSaid (state_lines true t.current)
    (flat_map (state_lines false) t.after ++ Last ∷ []) (state_said true t.current is.current)
    (All-append IsSaid (flat_map (state_lines false) t.after) (Last ∷ [])
    (states_said t.after is.after) (All-cons IsSaid Last [] tt (All-nil IsSaid))))

pub text_said : (t : LiveText) → IsLiveText t → All IsSaid (live_lines t)
text_said t is = by t.bound is.bound
  where
    by : (bound : Option ℕ) → IfSome bound (λ b. IsSaid (OfBound b))
        → All IsSaid (head_lines t.services bound ++ body_lines t)
    by (Some b) is_b =
        All-cons IsSaid (First true) (OfServices t.services ∷ OfBound b ∷ body_lines t) tt
        (All-cons IsSaid (OfServices t.services) (OfBound b ∷ body_lines t) is.services
        (All-cons IsSaid (OfBound b) (body_lines t) is_b (body_said t is)))
    by None is_b =
        All-cons IsSaid (First false) (OfServices t.services ∷ body_lines t) tt
        (All-cons IsSaid (OfServices t.services) (body_lines t) is.services (body_said t is))

-- a line that is not the last one
abbrev IsInner : Line → Type 0
IsInner l = l ≡ Last → ⊥

abbrev is_last : Line → Bool
is_last Last = true
is_last other = false

inner : (l : Line) → is_last l ≡ false → IsInner l
inner l is same = let bad : false ≡ true = sym is ∙ ap is_last same in cc

to_last : (ls rest : List Line) → All IsInner ls → AreToLast rest → AreToLast (ls ++ rest)
to_last [] rest each to = to
to_last (l ∷ []) [] each to = absurd to
to_last (l ∷ []) (r ∷ rest) each to = (All-head IsInner l [] each, to)
to_last (l ∷ m ∷ ls) rest each to =
    (All-head IsInner l (m ∷ ls) each, to_last (m ∷ ls) rest (All-tail IsInner l (m ∷ ls) each) to)

state_inner : (current : Bool) (s : StateText) → All IsInner (state_lines current s)
state_inner current s =
    All-cons IsInner (OfState current s.live) (map OfBundle s.bundles)
    (inner (OfState current s.live) refl)
    (All-map IsInner OfBundle s.bundles (λ k d within. inner (OfBundle _) refl))

states_inner : (ss : List StateText) → All IsInner (flat_map (state_lines false) ss)
states_inner [] = All-nil IsInner
states_inner (s ∷ ss) =
    All-append IsInner (state_lines false s) (flat_map (state_lines false) ss) (state_inner false s)
    (states_inner ss)

head_inner : (services : List (List ℕ)) (bound : Option ℕ) → All IsInner (head_lines services bound)
head_inner services (Some b) =
    All-cons IsInner (First true) (OfServices services ∷ OfBound b ∷ []) (inner (First true) refl)
    (All-cons IsInner (OfServices services) (OfBound b ∷ []) (inner (OfServices services) refl)
    (All-cons IsInner (OfBound b) [] (inner (OfBound b) refl) (All-nil IsInner)))
head_inner services None =
    All-cons IsInner (First false) (OfServices services ∷ []) (inner (First false) refl)
    (All-cons IsInner (OfServices services) [] (inner (OfServices services) refl) (All-nil IsInner))

pub text_to_last : (t : LiveText) → AreToLast (live_lines t)
text_to_last t =
    to_last (head_lines t.services t.bound) (body_lines t) (head_inner t.services t.bound)
    (to_last (flat_map (state_lines false) t.before)
    (state_lines true t.current ++ (flat_map (state_lines false) t.after ++ Last ∷ []))
    (states_inner t.before)
    (to_last (state_lines true t.current) (flat_map (state_lines false) t.after ++ Last ∷ [])
    (state_inner true t.current)
    (to_last (flat_map (state_lines false) t.after) (Last ∷ []) (states_inner t.after) refl)))
