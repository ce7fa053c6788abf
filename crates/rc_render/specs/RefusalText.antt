-- Refusals as text: their names, and the words or numbers that they tell.
use Rattle.std.specs.Prelude.{ℕ, List, [], ◌++◌, codes, slice_index_or}
use Rattle.std.specs.Fmt.{decimal}
use Rattle.rc_model.specs.declared.Refusal.{Refusal}
use Rattle.rc_model.specs.declared.Refusal.TheVariants.{BadEvent, NotSettled, PruneNeedsUp, Unknown}
use Rattle.rc_model.specs.declared.Refusal.TheVariants.{IsAtomic, Exists, Missing, Full}
use Rattle.rc_model.specs.declared.Refusal.TheVariants.{NothingToUndo, NothingToRedo, NotEdit}
use Rattle.rc_model.specs.declared.Refusal.TheVariants.{Strange, Memory}
use Rattle.rc_render.specs.Lines.{line}

-- the place of the word that a refusal speaks of, if it speaks of one; a bundle that is
-- there already is the first word
abbrev pub place_of : Refusal → ℕ
place_of (Unknown place) = place
place_of (IsAtomic place) = place
place_of (Missing place) = place
place_of other = 0

-- a refusal by its name, and the word or the number that it tells
abbrev pub refusal_words : List ℕ → Refusal → List ℕ
refusal_words word (BadEvent place) = codes "BadEvent " ++ decimal place
refusal_words word (NotSettled place) = codes "NotSettled " ++ decimal place
refusal_words word PruneNeedsUp = codes "PruneNeedsUp"
refusal_words word (Unknown place) = codes "Unknown " ++ word
refusal_words word (IsAtomic place) = codes "IsAtomic " ++ word
refusal_words word Exists = codes "Exists " ++ word
refusal_words word (Missing place) = codes "Missing " ++ word
refusal_words word Full = codes "Full"
refusal_words word NothingToUndo = codes "NothingToUndo"
refusal_words word NothingToRedo = codes "NothingToRedo"
refusal_words word NotEdit = codes "NotEdit"
refusal_words word Strange = codes "Strange"
refusal_words word Memory = codes "Memory"

-- the answer to a command that is refused, by its words
abbrev pub refusal_text : List (List ℕ) → Refusal → List ℕ
refusal_text words refusal =
    line (codes "refused " ++ refusal_words (slice_index_or words (place_of refusal) []) refusal)
