-- What each line may say, and what its words are. No public contract speaks of it.
use Rattle.std.specs.Prelude.{◌≡◌, ℕ, List}
use Rattle.rc_livetext.specs.Text.{Line, First, OfServices, OfBound, OfState, OfBundle, Last}
use Rattle.rc_livetext.specs.Text.{words, AreAscending, IsBound, IsBundleText}

-- what each line may say
abbrev pub IsSaid : Line → Type 0
IsSaid (First bounded) = Unit {0}
IsSaid (OfServices names) = AreAscending names
IsSaid (OfBound bound) = IsBound bound
IsSaid (OfState current names) = AreAscending names
IsSaid (OfBundle b) = IsBundleText b
IsSaid Last = Unit {0}

-- the line may be said, and these are its words
abbrev pub Says : List (List ℕ) → Line → Type 0
Says ws l = IsSaid l × (ws ≡ words l)

-- no line that may be said has these words
abbrev pub SaysNone : List (List ℕ) → Type 0
SaysNone ws = (l : Line) → IsSaid l → ws ≡ words l → ⊥
