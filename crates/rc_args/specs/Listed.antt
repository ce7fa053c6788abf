-- Lists of transitions as an option spells them: the words between commas.
use Rattle.std.specs.Prelude.{◌≡◌, ◌≢◌, ◌==◌, ◌⊎◌, ◌++◌, ◌∷◌, ℕ, List, [], codes}
use Rattle.std.specs.List.{slice_split}
use Rattle.rc_graph.specs.declared.Way.{Way}
use Rattle.rc_graph.specs.declared.Way.TheVariants.{Raise, Lower}

-- a transition by the name of its service
pub record Listed : Type 0 where
  pub way : Way
  pub name : List ℕ

-- what stands in front of the name
abbrev pub front_of : Way → List ℕ
front_of Raise = codes "up:"
front_of Lower = codes "down:"

-- the word of a transition: its way, a colon, and a name that is not empty
abbrev pub IsSpelled : List ℕ → Listed → Type 0
IsSpelled word one = (word ≡ front_of one.way ++ one.name) × (one.name ≢ [])

-- the words of transitions, one for each
abbrev pub AreSpelled : List (List ℕ) → List Listed → Type 0
AreSpelled [] [] = Unit {0}
AreSpelled [] (one ∷ more) = ⊥
AreSpelled (word ∷ words) [] = ⊥
AreSpelled (word ∷ words) (one ∷ more) = IsSpelled word one × AreSpelled words more

-- the words between the commas of a text
abbrev pub words_in : List ℕ → List (List ℕ)
words_in text = slice_split (λ byte. byte == 44) text

-- the text of a list of transitions: `none` where there are none, else their
-- words with commas between them
abbrev pub SpellsList : List ℕ → List Listed → Type 0
SpellsList text all = ((text ≡ codes "none") × (all ≡ [])) ⊎ AreSpelled (words_in text) all
