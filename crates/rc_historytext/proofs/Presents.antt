-- The present generation of a history is one.
use Rattle.std.proofs.Common.{◌≡◌, ◌∙◌, ◌+◌, ◌<◌, ℕ, zero, suc, List, [], ◌∷◌, ◌++◌, length}
use Rattle.std.proofs.Common.{Some, slice_get, ap, arith, refl, sym}
use Rattle.std.proofs.lemmas.List.Elements.{All-nil, All-cons}
use Rattle.std.proofs.lemmas.List.{append-nil, length-take}
use Rattle.rc_historytext.specs.Text.{GenerationText, HistoryText, IsGenerationText, IsHistoryText}
use Rattle.rc_historytext.specs.Text.{IsRename, IsShort, history_text}
use Rattle.rc_historytext.specs.Updating.{BeginsBehind, IsBegun, first_generation, history_of}
use Rattle.rc_historytext.specs.Moves.{begun, without_later, without_oldest}
use Rattle.rc_historytext.specs.Present.{IsAt, IsPresent}
use Rattle.rc_historytext.specs.Keeping.{StandsThere}
use Rattle.rc_historytext.proofs.Kept.{as_oldest_count}
use Rattle.rc_historytext.proofs.Moving.{eight_or_not}
use Rattle.rc_historytext.proofs.OneFault.{text_once}

pub some_once : (g h : GenerationText) → Some g ≡ Some h → g ≡ h
some_once g h same = cc

-- bytes are the text of one history, with one present generation
pub place_once : (bytes : List ℕ) (t u : HistoryText) (g h : GenerationText) → IsAt bytes t g
    → IsAt bytes u h → (t ≡ u) × (g ≡ h)
place_once bytes t u g h one other =
    let same : t ≡ u =
    (text_once t u [] [] one.is other.is
    (append-nil (history_text t) ∙ sym one.spelled ∙ other.spelled
    ∙ sym (append-nil (history_text u)))).0 in (
      same,
      some_once g h
          (sym one.there ∙ ap (λ (v : HistoryText). slice_get v.generations v.present) same
          ∙ other.there),
    )

-- so its session has one text
pub session_once : (bytes database session other-database other : List ℕ)
    → IsPresent bytes database session → IsPresent bytes other-database other → session ≡ other
session_once bytes database session other-database other (t, g, at, is, stands) (
  u,
  h,
  there,
  was,
  reads,
) =
    sym stands ∙ ap (λ (x : GenerationText). x.session) (place_once bytes t u g h at there).1
    ∙ reads

-- a generation stands at each place
pub at_place : (gs : List GenerationText) (k : ℕ) → k < length gs
    → (g : GenerationText) × (slice_get gs k ≡ Some g)
at_place [] k low = absurd (omega (arith, low))
at_place (g ∷ gs) zero low = (g, refl)
at_place (g ∷ gs) (suc k) low = at_place gs k (omega (arith, low))

-- a history of one generation may be spelled
pub first_kept : (database session : List ℕ) → IsShort database → IsShort session
    → IsHistoryText (history_of (first_generation database session))
first_kept database session short few = record {
  present = omega arith;
  few = omega arith;
  each =
      All-cons IsGenerationText (first_generation database session) []
      (record { database = short; session = few; few = omega arith; each = All-nil IsRename })
      (All-nil IsGenerationText);
  oldest = refl;
}

-- it is the present one
pub first_stands : (database session kept : List ℕ) → IsBegun database session kept
    → StandsThere kept session
first_stands database session kept (is, spelled) = (
  database,
  (
    history_of (first_generation database session),
    first_generation database session,
    record { is = is; spelled = spelled; there = refl },
    refl,
    refl,
  ),
)

-- the generation at the end
pub at_end : (gs : List GenerationText) (g : GenerationText) (k : ℕ) → k ≡ length gs
    → slice_get (gs ++ g ∷ []) k ≡ Some g
at_end [] g zero here = refl
at_end [] g (suc k) here = absurd (omega (arith, here))
at_end (f ∷ gs) g zero here = absurd (omega (arith, here))
at_end (f ∷ gs) g (suc k) here = at_end gs g k (omega (arith, here))

-- a generation that begins is the present one
begun_there : (t : HistoryText) (g : GenerationText) → t.present < length t.generations
    → slice_get (begun t g).generations (begun t g).present ≡ Some g
begun_there t g low =
    eight_or_not (λ kept. slice_get (kept.generations ++ g ∷ []) (kept.present + 1) ≡ Some g)
    (without_later t)
    (λ eight.
    at_end (without_oldest (without_later t)).generations g
    ((without_oldest (without_later t)).present + 1)
    (omega (arith, eight, last, as_oldest_count (without_later t).generations)))
    (λ other. at_end (without_later t).generations g (t.present + 1) last)
  where
    last : t.present + 1 ≡ length (without_later t).generations
    last = omega (arith, low, length-take (t.present + 1) t.generations)

pub begun_stands : (bytes kept : List ℕ) (g : GenerationText) → BeginsBehind bytes g kept
    → StandsThere kept g.session
begun_stands bytes kept g (t, is, stands, new, spelled) = (
  g.database,
  (
    begun t g,
    g,
    record { is = new; spelled = spelled; there = begun_there t g is.present },
    refl,
    refl,
  ),
)
