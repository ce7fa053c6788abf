-- Lines that are due, in parts, and those of a history.
use Rattle.std.proofs.Common.{◌≡◌, ◌∙◌, ℕ, ◌+◌, ◌<◌, ◌≤◌, zero, suc, Bool, true, false, List, []}
use Rattle.std.proofs.Common.{◌∷◌, ◌++◌}
use Rattle.std.proofs.Common.{length, map, All, arith, refl, sym, ap, subst}
use Rattle.std.proofs.lemmas.List.Elements.{All-head, All-tail}
use Rattle.std.specs.List.{flat_map}
use Rattle.rc_historytext.specs.Text.{Line, OfRename, Last, RenameText, GenerationText}
use Rattle.rc_historytext.specs.Text.{HistoryText, IsRename, IsGenerationText, IsHistoryText}
use Rattle.rc_historytext.specs.Text.{generation_lines, history_lines, oldest_renames}
use Rattle.rc_historytext.specs.Due.{Place, AtFirst, AtMarks, AtEnd, IsDue, AreDue, behind}
use Rattle.rc_historytext.specs.Due.{place_after, before_generations, before_renames, before_all}
use Rattle.rc_historytext.specs.Due.{most_renames}

-- lines in two parts
pub due_join : (p : Place) (ls ms : List Line) → AreDue p ls → AreDue (place_after p ls) ms
    → AreDue p (ls ++ ms)
due_join p [] ms first second = second
due_join p (l ∷ ls) ms first second = (first.0, due_join (behind p l) ls ms first.1 second)

pub place_join : (p : Place) (ls ms : List Line)
    → place_after p (ls ++ ms) ≡ place_after (place_after p ls) ms
place_join p [] ms = refl
place_join p (l ∷ ls) ms = place_join (behind p l) ls ms

-- lines that are due, and where reading stands after them
pub record Leads (from : Place) (lines : List Line) (to : Place) : Type 0 where
  pub due : AreDue from lines
  pub there : place_after from lines ≡ to

pub leads_on : (p q r : Place) (ls ms : List Line) → Leads p ls q → Leads q ms r
    → Leads p (ls ++ ms) r
leads_on p q r ls ms first second = record {
  due =
      due_join p ls ms first.due
      (subst (λ (place : Place). AreDue place ms) (sym first.there) second.due);
  there =
      place_join p ls ms ∙ ap (λ (place : Place). place_after place ms) first.there
      ∙ second.there;
}

pub leads_one : (p : Place) (l : Line) (ls : List Line) (q : Place) → IsDue p l
    → Leads (behind p l) ls q → Leads p (l ∷ ls) q
leads_one p l ls q due rest = record { due = (due, rest.due); there = rest.there }

-- some renames of so many
pub renames_lead : (rs : List RenameText) (left n more : ℕ) → n ≡ length rs + left
    → All IsRename rs → Leads (before_renames n more) (map OfRename rs) (before_renames left more)
renames_lead [] left n more is each =
    record { due = tt; there = ap (λ (k : ℕ). before_renames k more) (omega arith) }
renames_lead (r ∷ rs) left zero more is each = absurd (omega arith)
renames_lead (r ∷ rs) left (suc n) more is each =
    leads_one (before_renames (suc n) more) (OfRename r) (map OfRename rs)
    (before_renames left more) (All-head IsRename r rs each)
    (renames_lead rs left n more (omega arith) (All-tail IsRename r rs each))

-- a generation
pub generation_leads : (oldest : Bool) (more : ℕ) (g : GenerationText) → IsGenerationText g
    → length g.renames ≤ most_renames oldest
    → Leads (AtMarks oldest more) (generation_lines g) (before_generations more)
generation_leads oldest more g is few =
    let renames = renames_lead g.renames 0 (length g.renames) more (omega arith) is.each in
    record {
      due = (tt, (is.database, (is.session, (few, renames.due))));
      there = renames.there;
    }

-- some generations of so many, none of them the oldest
pub generations_lead : (gs : List GenerationText) (left n : ℕ) → n ≡ length gs + left
    → All IsGenerationText gs
    → Leads (before_generations n) (flat_map generation_lines gs) (before_generations left)
generations_lead [] left n is each =
    record { due = tt; there = ap before_generations (omega arith) }
generations_lead (g ∷ gs) left zero is each = absurd (omega arith)
generations_lead (g ∷ gs) left (suc n) is each =
    let own = All-head IsGenerationText g gs each in
    leads_on (before_generations (suc n)) (before_generations n) (before_generations left)
    (generation_lines g) (flat_map generation_lines gs) (generation_leads false n g own own.few)
    (generations_lead gs left n (omega arith) (All-tail IsGenerationText g gs each))

-- where reading stands after some generations, the first of them the oldest, before so many
abbrev pub place_behind : List GenerationText → ℕ → Place
place_behind [] left = before_all left
place_behind (g ∷ gs) left = before_generations left

pub all_lead : (gs : List GenerationText) (left n : ℕ) → n ≡ length gs + left
    → All IsGenerationText gs → oldest_renames gs ≡ []
    → Leads (before_all n) (flat_map generation_lines gs) (place_behind gs left)
all_lead [] left n is each oldest = record { due = tt; there = ap before_all (omega arith) }
all_lead (g ∷ gs) left zero is each oldest = absurd (omega arith)
all_lead (g ∷ gs) left (suc n) is each oldest =
    leads_on (before_all (suc n)) (before_generations n) (before_generations left)
    (generation_lines g) (flat_map generation_lines gs)
    (generation_leads true n g (All-head IsGenerationText g gs each)
    (omega (arith, ap length oldest)))
    (generations_lead gs left n (omega arith) (All-tail IsGenerationText g gs each))

-- so a history is the lines that are due up to the end
pub history_leads : (t : HistoryText) → IsHistoryText t → Leads AtFirst (history_lines t) AtEnd
history_leads t is = record {
  due = (tt, ((is.present, is.few), all.due));
  there = all.there;
}
  where
    last : (gs : List GenerationText) → 0 < length gs → Leads (place_behind gs 0) (Last ∷ []) AtEnd
    last [] some = absurd (omega arith)
    last (g ∷ gs) some = record { due = (tt, tt); there = refl }

    all : Leads (before_all (length t.generations))
        (flat_map generation_lines t.generations ++ Last ∷ []) AtEnd
    all =
        leads_on (before_all (length t.generations)) (place_behind t.generations 0) AtEnd
        (flat_map generation_lines t.generations) (Last ∷ [])
        (all_lead t.generations 0 (length t.generations) (omega arith) is.each is.oldest)
        (last t.generations (omega (arith, is.present)))
