-- The text grows state by state.
use Rattle.std.proofs.Common.{◌≡◌, ◌∙◌, ◌==◌, ℕ, suc, ◌+◌, ◌<◌, ◌≤◌, Bool, true, false, List, []}
use Rattle.std.proofs.Common.{◌∷◌, ◌++◌, Some, length, take, map, slice_get, refl, ap, sym, arith}
use Rattle.std.proofs.Common.{append_assoc}
use Rattle.std.proofs.lemmas.Bool.{false_from_ne_true, eqb-true, eq-eqb}
use Rattle.std.proofs.lemmas.List.{append-nil, take_all, length-take}
use Rattle.std.proofs.lemmas.List.Concat.{flat_map-append}
use Rattle.std.proofs.lemmas.Option.{slice_get_within}
use Rattle.std.specs.List.{flat_map}
use Rattle.rc_model.specs.Database.{Bundles, Database}
use Rattle.rc_model.proofs.Places.{take_next}
use Rattle.rc_model.specs.Line.{State, Line, states, cursor}
use Rattle.rc_model.proofs.Lists.{one_more}
use Rattle.rc_dbtext.specs.Form.{spells}
use Rattle.rc_livetext.specs.Text as form
use Rattle.rc_livetext.specs.Text.{OfBundle, Last, spell, state_lines, head_lines}
use Rattle.rc_dbtext.specs.Spelling.{bundle_text}
use Rattle.rc_livetext.specs.Spelling.{state_text, spelling}
use Rattle.rc_livetext.specs.Written.{bundle_bytes, state_bytes}

-- one bundle more
pub bundles_push : (names : List (List ℕ)) (table : Bundles) (b : List ℕ × List Bool)
    → bundle_bytes names (table ++ b ∷ []) ≡ bundle_bytes names table
    ++ spell (OfBundle (bundle_text names b))
bundles_push names [] b = append-nil (spell (OfBundle (bundle_text names b)))
bundles_push names (a ∷ table) b =
    ap (λ (t : List ℕ). spell (OfBundle (bundle_text names a)) ++ t) (bundles_push names table b)
    ∙ sym (append_assoc (spell (OfBundle (bundle_text names a))) (bundle_bytes names table)
    (spell (OfBundle (bundle_text names b))))

-- one state more
pub states_push : (names : List (List ℕ)) (cursor at : ℕ) (ss : List State) (s : State)
    → state_bytes names cursor at (ss ++ s ∷ []) ≡ state_bytes names cursor at ss ++ spells spell
    (state_lines (cursor == (at + length ss)) (state_text names s))
states_push names cursor at [] s =
    let here : at + 0 ≡ at = omega arith in
    append-nil (spells spell (state_lines (cursor == at) (state_text names s)))
    ∙ ap (λ (k : ℕ). spells spell (state_lines (cursor == k) (state_text names s))) (sym here)
states_push names cursor at (a ∷ ss) s =
    let there : suc at + length ss ≡ at + length (a ∷ ss) = omega arith in
    let first : List ℕ = spells spell (state_lines (cursor == at) (state_text names a)) in
    ap (λ (t : List ℕ). first ++ t)
    (states_push names cursor (suc at) ss s
    ∙ ap (λ (k : ℕ). state_bytes names cursor (suc at) ss ++ spells spell
    (state_lines (cursor == k) (state_text names s))) there)
    ∙ sym (append_assoc first (state_bytes names cursor (suc at) ss)
    (spells spell (state_lines (cursor == (at + length (a ∷ ss))) (state_text names s))))

-- the first state
pub states_first : (names : List (List ℕ)) (cursor : ℕ) (ss : List State) (s : State)
    → slice_get ss 0 ≡ Some s
    → state_bytes names cursor 0 (take (0 + 1) ss)
    ≡ spells spell (state_lines (cursor == 0) (state_text names s))
states_first names cursor ss s there =
    ap (state_bytes names cursor 0) (take_next ss 0 s there)
    ∙ append-nil (spells spell (state_lines (cursor == 0) (state_text names s)))

-- the next state
pub states_next : (names : List (List ℕ)) (cursor : ℕ) (ss : List State) (place : ℕ) (s : State)
    → slice_get ss place ≡ Some s
    → state_bytes names cursor 0 (take (place + 1) ss) ≡ state_bytes names cursor 0 (take place ss)
    ++ spells spell (state_lines (cursor == place) (state_text names s))
states_next names cursor ss place s there =
    let within : place < length ss = slice_get_within ss place s there in
    let size : 0 + length (take place ss) ≡ place = omega (arith, length-take place ss, within) in
    ap (state_bytes names cursor 0) (take_next ss place s there)
    ∙ (states_push names cursor 0 (take place ss) s
    ∙ ap (λ (k : ℕ). state_bytes names cursor 0 (take place ss) ++ spells spell
    (state_lines (cursor == k) (state_text names s))) size)

-- all states
pub states_all : (names : List (List ℕ)) (cursor : ℕ) (ss : List State) (n : ℕ) → length ss ≤ n
    → state_bytes names cursor 0 (take n ss) ≡ state_bytes names cursor 0 ss
states_all names cursor ss n all = ap (state_bytes names cursor 0) (take_all n ss all)

apart : (a b : ℕ) → a < b → (a == b) ≡ false
apart a b low =
    false_from_ne_true (a == b) (λ e. let bad : a ≡ b = eqb-true a b e in omega (arith, bad, low))

same : (a b : ℕ) → a ≡ b → (a == b) ≡ true
same a b is = eq-eqb a b is

before : (a b : ℕ) → b < a → (a == b) ≡ false
before a b low =
    false_from_ne_true (a == b) (λ e. let bad : a ≡ b = eqb-true a b e in omega (arith, bad, low))

-- states after the current one
later : (names : List (List ℕ)) (cursor at : ℕ) (ss : List State) → cursor < at
    → state_bytes names cursor at ss
    ≡ spells spell (flat_map (state_lines false) (map (state_text names) ss))
later names cursor at [] past = refl
later names cursor at (s ∷ ss) past =
    ap (λ (flag : Bool). spells spell (state_lines flag (state_text names s)) ++ state_bytes names
    cursor (suc at) ss) (apart cursor at past)
    ∙ (ap (λ (t : List ℕ). spells spell (state_lines false (state_text names s)) ++ t)
    (later names cursor (suc at) ss (omega arith))
    ∙ sym (flat_map-append spell (state_lines false (state_text names s))
    (flat_map (state_lines false) (map (state_text names) ss))))

-- all states, from a place on
whole_from : (names : List (List ℕ)) (cursor at : ℕ) (ss : List State) (s : State)
    (rest : List State) → cursor ≡ at + length ss
    → state_bytes names cursor at (ss ++ s ∷ rest)
    ≡ spells spell
    (flat_map (state_lines false) (map (state_text names) ss)
    ++ (state_lines true (state_text names s) ++ flat_map (state_lines false)
    (map (state_text names) rest)))
whole_from names cursor at [] s rest place =
    let here : cursor ≡ at = omega (arith, place) in
    ap (λ (flag : Bool). spells spell (state_lines flag (state_text names s)) ++ state_bytes names
    cursor (suc at) rest) (same cursor at here)
    ∙ (ap (λ (t : List ℕ). spells spell (state_lines true (state_text names s)) ++ t)
    (later names cursor (suc at) rest (omega (arith, here)))
    ∙ sym (flat_map-append spell (state_lines true (state_text names s))
    (flat_map (state_lines false) (map (state_text names) rest))))
whole_from names cursor at (a ∷ ss) s rest place =
    let past : at < cursor = omega (arith, place) in
    let more : List form.Line = state_lines true (state_text names s)
    ++ flat_map (state_lines false) (map (state_text names) rest) in
    ap (λ (flag : Bool). spells spell (state_lines flag (state_text names a)) ++ state_bytes names
    cursor (suc at) (ss ++ s ∷ rest)) (before cursor at past)
    ∙ (ap (λ (t : List ℕ). spells spell (state_lines false (state_text names a)) ++ t)
    (whole_from names cursor (suc at) ss s rest (omega (arith, place)))
    ∙
    (sym (flat_map-append spell (state_lines false (state_text names a))
    (flat_map (state_lines false) (map (state_text names) ss) ++ more))
    ∙ ap (λ (l : List form.Line). spells spell l)
    (sym (append_assoc (state_lines false (state_text names a))
    (flat_map (state_lines false) (map (state_text names) ss)) more))))

-- the text of a line
pub whole_text : (names : List (List ℕ)) (head : List form.Line) (cursor : ℕ) (ss : List State)
    (s : State) (rest : List State) → cursor ≡ length ss
    → (spells spell head ++ state_bytes names cursor 0 (ss ++ s ∷ rest)) ++ spell Last
    ≡ spells spell
    (head ++ (flat_map (state_lines false) (map (state_text names) ss)
    ++ (state_lines true (state_text names s)
    ++ (flat_map (state_lines false) (map (state_text names) rest) ++ Last ∷ []))))
whole_text names head cursor ss s rest place =
    let a : List form.Line = flat_map (state_lines false) (map (state_text names) ss) in
    let b : List form.Line = state_lines true (state_text names s) in
    let c : List form.Line = flat_map (state_lines false) (map (state_text names) rest) in
    let lines : (head ++ (a ++ (b ++ c))) ++ Last ∷ [] ≡ head ++ (a ++ (b ++ (c ++ Last ∷ []))) =
    append_assoc head (a ++ (b ++ c)) (Last ∷ [])
    ∙ (ap (λ (l : List form.Line). head ++ l) (append_assoc a (b ++ c) (Last ∷ []))
    ∙ ap (λ (l : List form.Line). head ++ (a ++ l)) (append_assoc b c (Last ∷ []))) in
    ap (λ (t : List ℕ). (spells spell head ++ t) ++ spell Last)
    (whole_from names cursor 0 ss s rest (omega (arith, place)))
    ∙ (ap (λ (t : List ℕ). t ++ spell Last) (sym (flat_map-append spell head (a ++ (b ++ c))))
    ∙ (sym (one_more spell (head ++ (a ++ (b ++ c))) Last)
    ∙ ap (λ (l : List form.Line). spells spell l) lines))

-- the bytes that are written are the text
pub line_written : (d : Database) (line : Line)
    → (spells spell (head_lines d.names (Some line.bound)) ++ state_bytes d.names (cursor line) 0
    (states line)) ++ spell Last ≡ spelling d line
unfolding spelling
line_written d line =
    whole_text d.names (head_lines d.names (Some line.bound)) (cursor line) line.before line.current
    line.after refl
