-- States and their texts, side by side.
use Rattle.std.proofs.Common.{◌≡◌, ◌≢◌, ◌∙◌, ◌+◌, ◌-◌, ◌<◌, ◌≤◌, inl, inr, ℕ, zero, suc, Bool, List}
use Rattle.std.proofs.Common.{[], ◌∷◌, ◌++◌, length, map, take, get_or, All, arith, refl, sym, ap}
use Rattle.std.proofs.Common.{subst, add-one, append_assoc}
use Rattle.std.proofs.lemmas.Bool.{cases_lt}
use Rattle.std.proofs.lemmas.List.{get_or-map, length-map, map_push, take_more, take_all}
use Rattle.std.proofs.lemmas.List.Elements.{All-push}
use Rattle.rc_model.specs.Database.{Bundles}
use Rattle.rc_model.specs.Line.{State, DifferInTurn}
use Rattle.rc_line.specs.State.{states_of}
use Rattle.rc_livetext.specs.Text.{StateText}
use Rattle.rc_livetext.specs.Parts.{state_texts}
use Rattle.rc_livetext.specs.Spelling.{state_text}

-- a live set and bundles as a state
abbrev pub state_of : List Bool × Bundles → State
state_of pair = record { live = pair.0; table = pair.1 }

pub states_push : (held : List (List Bool × Bundles)) (pair : List Bool × Bundles)
    → states_of (held ++ pair ∷ []) ≡ states_of held ++ state_of pair ∷ []
states_push held pair = map_push state_of held pair

-- one state more
pub texts_push : (names : List (List ℕ)) (held : List (List Bool × Bundles))
    (pair : List Bool × Bundles) (new : List (List Bool × Bundles)) (text : StateText)
    → new ≡ held ++ pair ∷ [] → state_text names (state_of pair) ≡ text
    → state_texts names new ≡ state_texts names held ++ text ∷ []
texts_push names held pair new text pushed said =
    ap (state_texts names) pushed
    ∙ (ap (map (state_text names)) (states_push held pair)
    ∙ (map_push (state_text names) (states_of held) (state_of pair)
    ∙ ap (λ (t : StateText). state_texts names held ++ t ∷ []) said))

pub all_push : (P : State → Type 0) (held : List (List Bool × Bundles)) (pair : List Bool × Bundles)
    (new : List (List Bool × Bundles)) → new ≡ held ++ pair ∷ [] → All P (states_of held)
    → P (state_of pair) → All P (states_of new)
all_push P held pair new pushed all is =
    subst (λ (ps : List (List Bool × Bundles)). All P (states_of ps)) (sym pushed)
    (subst (All P) (sym (states_push held pair))
    (All-push P (states_of held) (state_of pair) all is))

-- one text more of those that are taken in turn
pub taken_one : (front now more : List StateText) (texts : List StateText) (i : ℕ)
    (text : StateText) → i < length texts → text ≡ get_or texts i text → now ≡ front ++ take i texts
    → more ≡ now ++ text ∷ [] → more ≡ front ++ take (i + 1) texts
taken_one front now more texts i text within here so_far one =
    one ∙ (ap (λ (l : List StateText). l ++ text ∷ []) so_far
    ∙ (assoc ∙ ap (λ (l : List StateText). front ++ l)
    (sym (take_more texts i text within
    ∙ ap (λ (t : StateText). take i texts ++ t ∷ []) (sym here)))))
  where
    assoc : (front ++ take i texts) ++ text ∷ [] ≡ front ++ (take i texts ++ text ∷ [])
    assoc = append_assoc front (take i texts) (text ∷ [])

-- parts of lists that have as long prefixes
pub split : {X : Type 0} (a b x y : List X) → length a ≡ length b → a ++ x ≡ b ++ y
    → (a ≡ b) × (x ≡ y)
split [] [] x y long same = (refl, same)
split [] (d ∷ b) x y long same = absurd (omega arith)
split (c ∷ a) [] x y long same = absurd (omega arith)
split (c ∷ a) (d ∷ b) x y long same =
    let first : c ≡ d = cc in
    let rest : a ++ x ≡ b ++ y = cc in
    let both = split a b x y (omega arith) rest in
    ((λ k. first k ∷ both.0 k), both.1)

-- each differs from the next one, said by their places
pub differ_by_places : (ss : List State)
    → ((k : ℕ) (d : State) → k + 1 < length ss → get_or ss k d ≢ get_or ss (k + 1) d)
    → DifferInTurn ss
differ_by_places [] each = tt
differ_by_places (a ∷ []) each = tt
differ_by_places (a ∷ b ∷ rest) each = (
  each 0 a (omega arith),
  differ_by_places (b ∷ rest)
      (λ k d low. rw add-one (rw add-one at (each (suc k) d (omega arith)))),
)

pub places_differ : (ss : List State) (k : ℕ) (d : State) → DifferInTurn ss → k + 1 < length ss
    → get_or ss k d ≢ get_or ss (k + 1) d
places_differ [] k d differ low = absurd (omega arith)
places_differ (a ∷ []) k d differ low = absurd (omega arith)
places_differ (a ∷ b ∷ rest) zero d differ low = differ.0
places_differ (a ∷ b ∷ rest) (suc k) d differ low =
    rw add-one (rw add-one at (places_differ (b ∷ rest) k d differ.1 (omega arith)))

-- the state at a place is that of the pair there
pub pair_get : (held : List (List Bool × Bundles)) (k : ℕ) (pair : List Bool × Bundles) (d : State)
    → k < length held → pair ≡ get_or held k pair → get_or (states_of held) k d ≡ state_of pair
pair_get held k pair d low here = get_or-map state_of held k pair d low ∙ ap state_of (sym here)

-- what holds of all states holds of the pair at a place
pub pair_at : (P : State → Type 0) (held : List (List Bool × Bundles)) (k : ℕ)
    (pair : List Bool × Bundles) → All P (states_of held) → k < length held
    → pair ≡ get_or held k pair → P (state_of pair)
pair_at P held k pair all low here =
    subst P (pair_get held k pair (state_of pair) low here)
    (all k (state_of pair) (omega (arith, length-map held state_of)))

-- what holds of those so far, and of the next
pub all_more : (P : State → Type 0) (held : List (List Bool × Bundles)) (k : ℕ)
    (pair : List Bool × Bundles) → All P (take k (states_of held)) → k < length held
    → pair ≡ get_or held k pair → P (state_of pair) → All P (take (k + 1) (states_of held))
all_more P held k pair all low here is =
    let more : take (k + 1) (states_of held) ≡ take k (states_of held) ++ state_of pair ∷ [] =
    take_more (states_of held) k (state_of pair) (omega (arith, length-map held state_of))
    ∙ ap (λ (s : State). take k (states_of held) ++ s ∷ [])
    (pair_get held k pair (state_of pair) low here) in
    subst (All P) (sym more) (All-push P (take k (states_of held)) (state_of pair) all is)

pub all_taken : (P : State → Type 0) (held : List (List Bool × Bundles)) (k : ℕ) → length held ≤ k
    → All P (take k (states_of held)) → All P (states_of held)
all_taken P held k past all =
    subst (All P) (take_all k (states_of held) (omega (arith, length-map held state_of))) all

pair_once : (a b : List Bool × Bundles) → state_of a ≡ state_of b → a ≡ b
pair_once a b same = λ k. ((same k).live, (same k).table)

-- one more that differs from the one before it
pub differ_more : (held : List (List Bool × Bundles)) (place : ℕ) (a b : List Bool × Bundles)
    → 0 < place → place < length held → a ≡ get_or held (place - 1) a
    → b ≡ get_or held place b → a ≢ b
    → ((k : ℕ) (d : State) → k + 1 < place
    → get_or (states_of held) k d ≢ get_or (states_of held) (k + 1) d) → (k : ℕ) (d : State)
    → k + 1 < place + 1 → get_or (states_of held) k d ≢ get_or (states_of held) (k + 1) d
differ_more held place a b some low at_a at_b apart so_far k d below same =
    elim (cases_lt (k + 1) place) [
      | inl lower ↦ so_far k d lower same
      | inr upper ↦
          let first : k ≡ place - 1 = omega arith in
          let second : k + 1 ≡ place = omega arith in
          let is_a : get_or (states_of held) k d ≡ state_of a =
          ap (λ (n : ℕ). get_or (states_of held) n d) first
          ∙ pair_get held (place - 1) a d (omega arith) at_a in
          let is_b : get_or (states_of held) (k + 1) d ≡ state_of b =
          ap (λ (n : ℕ). get_or (states_of held) n d) second ∙ pair_get held place b d low at_b in
          apart (pair_once a b (sym is_a ∙ same ∙ is_b))
    ]

-- two neighbours that are the same
pub not_in_turn : (held : List (List Bool × Bundles)) (place : ℕ) (a b : List Bool × Bundles)
    → 0 < place → place < length held → a ≡ get_or held (place - 1) a → b ≡ get_or held place b
    → a ≡ b → DifferInTurn (states_of held) → ⊥
not_in_turn held place a b some low at_a at_b same differ =
    let second : (place - 1) + 1 ≡ place = omega arith in
    let is_a : get_or (states_of held) (place - 1) (state_of a) ≡ state_of a =
    pair_get held (place - 1) a (state_of a) (omega arith) at_a in
    let is_b : get_or (states_of held) ((place - 1) + 1) (state_of a) ≡ state_of b =
    ap (λ (n : ℕ). get_or (states_of held) n (state_of a)) second
    ∙ pair_get held place b (state_of a) low at_b in
    places_differ (states_of held) (place - 1) (state_of a) differ
    (omega (arith, length-map held state_of)) (is_a ∙ ap state_of same ∙ sym is_b)

pub in_turn : (held : List (List Bool × Bundles)) (place : ℕ) → length held ≤ place
    → ((k : ℕ) (d : State) → k + 1 < place
    → get_or (states_of held) k d ≢ get_or (states_of held) (k + 1) d)
    → DifferInTurn (states_of held)
in_turn held place past so_far =
    differ_by_places (states_of held)
    (λ k d low. so_far k d (omega (arith, length-map held state_of)))
