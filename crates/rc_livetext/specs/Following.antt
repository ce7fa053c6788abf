-- Which line may follow which, for reading alone: that it is what the texts say is a lemma. No
-- public contract speaks of it.
use Rattle.std.specs.Prelude.{◌≡◌, ◌<◌, ◌||◌, ℕ, Bool, true, List, [], ◌∷◌, ◌++◌, length, map, All}
use Rattle.std.specs.Prelude.{false, Option, Some, None, IfSome}
use Rattle.std.specs.List.{flat_map}
use Rattle.rc_model.specs.Names.{IsInByteOrder}
use Rattle.rc_dbtext.specs.Words.{BundleText}
use Rattle.rc_livetext.specs.Text.{Line, First, OfServices, OfBound, OfState, OfBundle, Last}
use Rattle.rc_livetext.specs.Text.{StateText, AreAscending, IsBound, IsBundleText, IsStateText}
use Rattle.rc_livetext.specs.Text.{head_lines, state_lines, spell}

-- where reading stands: which line is due or, after the line of a state, whether the current one
-- was seen and which bundles the state has so far
pub data Place : Type 0 where
  AtFirst : Place
  AtServices : (bounded : Bool) → Place
  AtBound : Place
  AtStates : Place
  InState : (seen : Bool) → (bundles : List BundleText) → Place
  AtEnd : Place

-- one bundle more of a state
pub record MayAdd (bundles : List BundleText) (b : BundleText) : Type 0 where
  pub is : IsBundleText b
  pub few : length bundles < 4096
  pub order : IsInByteOrder (map (λ b. b.name) (bundles ++ b ∷ []))

-- the line may stand here
abbrev pub May : Place → Line → Type 0
May AtFirst (First bounded) = Unit {0}
May (AtServices bounded) (OfServices names) = AreAscending names
May AtBound (OfBound bound) = IsBound bound
May AtStates (OfState current names) = AreAscending names
May (InState seen bundles) (OfState current names) =
    AreAscending names × (seen ≡ true → current ≡ true → ⊥)
May (InState seen bundles) (OfBundle b) = MayAdd bundles b
May (InState seen bundles) Last = seen ≡ true
May place line = ⊥

-- where reading stands after it
abbrev pub behind : Place → Line → Place
behind place (First bounded) = AtServices bounded
behind (AtServices true) (OfServices names) = AtBound
behind place (OfServices names) = AtStates
behind place (OfBound bound) = AtStates
behind (InState seen bundles) (OfState current names) = InState (seen || current) []
behind place (OfState current names) = InState current []
behind (InState seen bundles) (OfBundle b) = InState seen (bundles ++ b ∷ [])
behind place (OfBundle b) = AtEnd
behind place Last = AtEnd

-- where reading stands after lines
abbrev pub place_after : Place → List Line → Place
place_after place [] = place
place_after place (l ∷ ls) = place_after (behind place l) ls

-- each of the lines may stand where it does
abbrev pub AllMay : Place → List Line → Type 0
AllMay place [] = Unit {0}
AllMay place (l ∷ ls) = May place l × AllMay (behind place l) ls

-- no line that may stand here does
abbrev pub IsNoLineHere : Place → List ℕ → Type 0
IsNoLineHere place rest = (l : Line) (tail : List ℕ) → May place l → rest ≡ spell l ++ tail → ⊥

-- what was read of a text, its head and states: those before the current one and, once that was
-- read, it and those after it; the last state may get more bundles
pub record Part : Type 0 where
  pub services : List (List ℕ)
  pub bound : Option ℕ
  pub before : List StateText
  pub current : Option (StateText × List StateText)

-- the lines of the current state and of those after it
abbrev pub current_lines : Option (StateText × List StateText) → List Line
current_lines None = []
current_lines (Some read) = state_lines true read.0 ++ flat_map (state_lines false) read.1

-- the lines that were read
abbrev pub part_lines : Part → List Line
part_lines p =
    head_lines p.services p.bound
    ++ (flat_map (state_lines false) p.before ++ current_lines p.current)

-- what may have been read
pub record IsPart (p : Part) : Type 0 where
  pub services : AreAscending p.services
  pub bound : IfSome p.bound IsBound
  pub before : All IsStateText p.before
  pub current : IfSome p.current (λ read. IsStateText read.0 × All IsStateText read.1)
