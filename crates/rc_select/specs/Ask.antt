-- What a request asks, and the options that say so: letters, flags and a limit.
use Rattle.std.specs.Prelude.{◌==◌, ◌||◌, ◌++◌, ℕ, Bool, true, false, List, [], ◌∷◌, Option, None}
use Rattle.std.specs.Prelude.{Some, codes, map, option_map, string_bytes, if◌then◌else◌}
use Rattle.rc_model.specs.declared.Mode.{Mode}
use Rattle.rc_model.specs.declared.Mode.TheVariants as mode
use Rattle.rc_model.specs.Plan.{Ask}
use Rattle.rc_select.specs.declared.request.Request.{Request}
use Rattle.rc_select.specs.declared.request.Choice.{Choice}
use Rattle.rc_select.specs.declared.request.Choice.TheVariants.{Up, Down, DownAll, Prune, All}
use Rattle.rc_select.specs.declared.request.Choice.TheVariants.{Limit}
use Rattle.rc_select.specs.declared.request.Chosen.{Chosen}

-- what a request asks
abbrev pub ask_of : Request → Ask
ask_of r = record {
  mode = r.mode;
  prune = r.prune;
  all = r.all;
  words = map string_bytes r.names.items;
  limit = r.limit;
}

-- names in a mode and under a limit, without other options
abbrev pub plain_ask : Mode → List (List ℕ) → ℕ → Ask
plain_ask mode names limit =
    record { mode = mode; prune = false; all = false; words = names; limit = limit }

-- the letter of a way
abbrev pub way_letter : Mode → ℕ
way_letter mode.Up = 117
way_letter mode.Down = 100
way_letter mode.DownAll = 68

-- the letters of the options that ask this
abbrev pub letters_of : Ask → List ℕ
letters_of ask = (way_letter ask.mode ∷ []) ++ (if ask.prune then 112 ∷ [] else [])
    ++ (if ask.all then 97 ∷ [] else [])

-- what a letter chooses
abbrev pub choice_of : ℕ → Option Choice
choice_of letter =
    if letter == 117 then Some Up
    else if letter == 100 then Some Down
    else if letter == 68 then Some DownAll
    else if letter == 112 then Some Prune
    else if letter == 97 then Some All
    else None

-- nothing chosen
abbrev pub none_chosen : Chosen
none_chosen =
    record { up = false; down = false; down_all = false; prune = false; all = false; limit = 0 }

-- one choice more: a letter again changes nothing, and a limit stands in place of the one before
abbrev pub with_choice : Chosen → Choice → Chosen
with_choice chosen Up = record chosen { up = true }
with_choice chosen Down = record chosen { down = true }
with_choice chosen DownAll = record chosen { down_all = true }
with_choice chosen Prune = record chosen { prune = true }
with_choice chosen All = record chosen { all = true }
with_choice chosen (Limit limit) = record chosen { limit = limit }

-- choices one after the other
abbrev pub with_choices : Chosen → List Choice → Chosen
with_choices chosen [] = chosen
with_choices chosen (choice ∷ choices) = with_choices (with_choice chosen choice) choices

-- what flags choose that are on by their names
abbrev pub chosen_in : (List ℕ → Bool) → Chosen
chosen_in on = record {
  up = on (codes "up");
  down = on (codes "down");
  down_all = on (codes "down-all");
  prune = on (codes "prune");
  all = on (codes "all");
  limit = 0;
}

-- the mode of the three ways, of which one at most may be chosen; up where none is
abbrev pub mode_of : Chosen → Option Mode
mode_of chosen =
    if chosen.down then (if chosen.up || chosen.down_all then None else Some mode.Down)
    else (if chosen.down_all then (if chosen.up then None else Some mode.DownAll) else Some mode.Up)

-- what is asked of these words in a mode
abbrev pub asked_with : Chosen → List (List ℕ) → Mode → Ask
asked_with chosen words mode = record {
  mode = mode;
  prune = chosen.prune;
  all = chosen.all;
  words = words;
  limit = chosen.limit;
}

-- what is asked of these words
abbrev pub asked_by : Chosen → List (List ℕ) → Option Ask
asked_by chosen words = option_map (asked_with chosen words) (mode_of chosen)
