-- What a line is made of, by what is known of the states of a text.
use Rattle.std.proofs.Common.{◌≡◌, ◌∙◌, ℕ, ◌<◌, ◌≤◌, Bool, List, ◌∷◌, All, length, ap, sym, subst}
use Rattle.std.proofs.Common.{arith, length-append}
use Rattle.std.proofs.lemmas.List.{length-map}
use Rattle.rc_model.specs.Database.{Bundles, Database, IsDatabase}
use Rattle.rc_model.specs.Line.{State}
use Rattle.rc_line.specs.State.{states_of}
use Rattle.rc_livetext.specs.Text.{LiveText}
use Rattle.rc_livetext.specs.Meaning.{all_states}
use Rattle.rc_livetext.specs.Parts.{IsWithin, state_texts}
use Rattle.rc_livetext.specs.Spelling.{state_text}

long_states : (held : List (List Bool × Bundles)) → length (states_of held) ≡ length held
long_states held = length-map held _

-- the current state is one of them
pub cursor_within : (names : List (List ℕ)) (held : List (List Bool × Bundles)) (t : LiveText)
    → state_texts names held ≡ all_states t → length t.before < length held
cursor_within names held t same =
    let long : length (all_states t) ≡ length held =
    sym (ap length same) ∙ (length-map (states_of held) (state_text names) ∙ long_states held) in
    omega (arith, long, length-append t.before (t.current ∷ t.after))

-- they are few
pub few_held : (lent held : List (List Bool × Bundles)) (bound : ℕ) → lent ≡ held
    → length (states_of lent) ≤ bound → length held ≤ bound
few_held lent held bound same few =
    subst (λ (n : ℕ). n ≤ bound) (long_states lent ∙ ap length same) few

-- their sets have one bound
pub one_bound : (bound : ℕ) (ss : List State) → All (IsWithin bound) ss
    → All (λ (s : State). length s.live ≡ bound) ss
one_bound bound ss within k e low = (within k e low).live

-- which is the number of services in the graph
pub within_graph : (d : Database) (names : List (List ℕ)) (needs : List (List ℕ))
    (lent held : List (List Bool × Bundles)) → IsDatabase d → names ≡ d.names
    → needs ≡ d.needs → lent ≡ held
    → All (IsWithin (length names)) (states_of held)
    → All (IsWithin (length needs)) (states_of lent)
within_graph d names needs lent held is named needed same within =
    let long : length names ≡ length needs =
    ap length named ∙ (sym is.fit.graph ∙ sym (ap length needed)) in
    subst (λ (ps : List (List Bool × Bundles)). All (IsWithin (length needs)) (states_of ps))
    (sym same)
    (subst (λ (n : ℕ). All (IsWithin n) (states_of held)) long within)
