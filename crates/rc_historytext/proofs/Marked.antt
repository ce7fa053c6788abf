-- The marks of the present generation, once it is left or its state is a stop.
use Rattle.std.proofs.Common.{◌≡◌, ◌∙◌, ◌==◌, ◌&&◌, not, ℕ, Bool, List, length, if◌then◌else◌, ap}
use Rattle.std.proofs.Common.{subst}
use Rattle.std.proofs.lemmas.Option.{get_or_from_slice_get}
use Rattle.rc_livetext.specs.Text.{LiveText}
use Rattle.rc_historytext.specs.Text.{GenerationText, HistoryText, IsGenerationText, IsShort}
use Rattle.rc_historytext.specs.Moves.{with_session}
use Rattle.rc_historytext.specs.Present.{IsAt}
use Rattle.rc_historytext.specs.Updating.{mark_of_cut, settled}

-- the present session has a short text
pub session_short : (bytes : List ℕ) (t : HistoryText) (g : GenerationText) → IsAt bytes t g
    → IsShort g.session
session_short bytes t g at =
    (subst IsGenerationText
    (get_or_from_slice_get t.generations t.present g g at.there)
    (at.is.each t.present g at.is.present)).session

pub left_marked : (t : HistoryText) (cut : List ℕ) (inside g : GenerationText) (s : LiveText)
    (before after : ℕ) (mark : Bool) (new : HistoryText) → inside ≡ g → before ≡ length s.before
    → after ≡ length s.after
    → mark ≡ (if after == 0 then inside.last_passed else (before == 0 && inside.first_passed))
    → new ≡ with_session t cut inside.first_passed mark
    → new ≡ with_session t cut g.first_passed (mark_of_cut g s)
left_marked t cut inside g s before after mark new view b a m put =
    put
    ∙ ap (λ (k : Bool). with_session t cut inside.first_passed k) m
    ∙ ap (λ (n : ℕ). with_session t cut inside.first_passed
    (if n == 0 then inside.last_passed else (before == 0 && inside.first_passed))) a
    ∙ ap (λ (n : ℕ). with_session t cut inside.first_passed
    (if length s.after == 0 then inside.last_passed else (n == 0 && inside.first_passed))) b
    ∙ ap (λ (x : GenerationText). with_session t cut x.first_passed (mark_of_cut x s)) view

pub settled_marked : (t : HistoryText) (inside g : GenerationText) (s : LiveText)
    (before after : ℕ) (first last : Bool) (new : HistoryText) → inside ≡ g
    → before ≡ length s.before → after ≡ length s.after
    → first ≡ (inside.first_passed && not (before == 0))
    → last ≡ (inside.last_passed && not (after == 0))
    → new ≡ with_session t inside.session first last → new ≡ settled t g s
settled_marked t inside g s before after first last new view b a one two put =
    put
    ∙ ap (λ (k : Bool). with_session t inside.session k last) one
    ∙ ap (λ (k : Bool). with_session t inside.session (inside.first_passed && not (before == 0)) k)
    two
    ∙ ap (λ (n : ℕ). with_session t inside.session (inside.first_passed && not (n == 0))
    (inside.last_passed && not (after == 0))) b
    ∙ ap (λ (n : ℕ). with_session t inside.session
    (inside.first_passed && not (length s.before == 0)) (inside.last_passed && not (n == 0))) a
    ∙ ap (λ (x : GenerationText). settled t x s) view
