-- What was read of bytes.
use Rattle.std.proofs.Common.{◌≡◌, ◌∙◌, ℕ, ◌+◌, ◌-◌, ◌<◌, ◌≤◌, suc, inl, inr, Bool}
use Rattle.std.proofs.Common.{List}
use Rattle.std.proofs.Common.{[]}
use Rattle.std.proofs.Common.{◌∷◌, ◌++◌, length, map, All, length-append, refl, sym, ap, arith}
use Rattle.std.proofs.Common.{get_or, subst, append_assoc, ◌==◌}
use Rattle.std.specs.Prelude.{codes}
use Rattle.std.proofs.lemmas.Bool.{ne_eqb}
use Rattle.std.specs.List.{flat_map}
use Rattle.std.proofs.lemmas.List.{append-nil, map-append, nil_from_length}
use Rattle.std.proofs.lemmas.List.Concat.{flat_map-append}
use Rattle.std.proofs.lemmas.List.Elements.{All-push}
use Rattle.std.proofs.lemmas.Fmt.{decimal_digit}
use Rattle.rc_dbtext.specs.Words.{IsNumber, HasNumber, line_of_words}
use Rattle.rc_dbtext.specs.Form.{spells}
use Rattle.rc_dbtext.proofs.LineWords.{words_once}
use Rattle.rc_dbtext.proofs.Numbers.{IsNumber-decimal}
use Rattle.rc_dbtext.proofs.NumberWords.{plain_numbered}
use Rattle.rc_dbtext.proofs.Plain.{plain_from}
use Rattle.rc_dbtext.proofs.Stuck.{spells-append}
use Rattle.rc_historytext.specs.declared.fault.HistoryFault.TheVariants.{Bad}
use Rattle.rc_historytext.specs.declared.lines.LineFault.{LineFault}
use Rattle.rc_historytext.specs.declared.lines.LineFault.TheVariants.{Missing}
use Rattle.rc_historytext.specs.Text.{Line, First, OfPlace, OfRename, RenameCount, Last}
use Rattle.rc_historytext.specs.Text.{RenameText, GenerationText, HistoryText, IsGenerationText}
use Rattle.rc_historytext.specs.Text.{IsHistoryText, IsRename, generation_lines, history_text}
use Rattle.rc_historytext.specs.Text.{oldest_renames, words, spell}
use Rattle.rc_historytext.specs.Faults.{HasOtherVersion, IsBadAt, IsHistoryFault}
use Rattle.rc_historytext.specs.Due.{Place, AtFirst, AtPlace, AtMarks, AtCount, AtRename, AtLast}
use Rattle.rc_historytext.specs.Due.{NoneDue, StopsAt, Stops, before_all, before_renames}
use Rattle.rc_historytext.specs.Due.{most_renames}
use Rattle.rc_historytext.specs.Standing.{Stands, AreRenames, RenamesStand, GenerationsStand}
use Rattle.rc_historytext.proofs.LineWords.{plain_line}
use Rattle.rc_historytext.proofs.Missing.{line_apart}
use Rattle.rc_historytext.proofs.Rows.{renames_lead, all_lead, place_behind}
use Rattle.rc_historytext.proofs.Rests.{same_name, same_name_is}
use Rattle.rc_historytext.proofs.Stopping.{stops_here, stops_behind, stops_one, stuck_there}
use Rattle.rc_historytext.proofs.Once.{first_apart}

-- where the first line stands, its number is one
one_version : (bytes number x y : List ℕ) → IsNumber number
    → bytes ≡ line_of_words (codes "undorc-history" ∷ number ∷ []) ++ x → bytes ≡ spell First ++ y
    → number ≡ codes "1"
one_version bytes number x y is here same =
    ap (λ (ws : List (List ℕ)). get_or ws 1 [])
    (words_once (codes "undorc-history" ∷ number ∷ []) (words First) x y
    (plain_numbered (codes "undorc-history") number (plain_from (codes "undorc-history") refl) is)
    (plain_line AtFirst First tt) (sym here ∙ same ∙ line_apart First y)).0

-- so none of another version does
pub no_other_version : (bytes rest : List ℕ) → bytes ≡ spell First ++ rest → HasOtherVersion bytes
    → ⊥
no_other_version bytes rest first (number, after, is, other, here) =
    other (one_version bytes number after rest is here first)

-- lines behind others, and one line
pub more_lines : (bytes middle rest : List ℕ) (ls ms : List Line)
    → bytes ≡ spells spell ls ++ middle → middle ≡ spells spell ms ++ rest
    → bytes ≡ spells spell (ls ++ ms) ++ rest
more_lines bytes middle rest ls ms first second =
    first ∙ ap (λ (l : List ℕ). spells spell ls ++ l) second
    ∙ sym (append_assoc (spells spell ls) (spells spell ms) rest)
    ∙ ap (λ (l : List ℕ). l ++ rest) (sym (spells-append spell ls ms))

pub one_line : (l : Line) (bytes rest : List ℕ) → bytes ≡ spell l ++ rest
    → bytes ≡ spells spell (l ∷ []) ++ rest
one_line l bytes rest stands =
    stands ∙ ap (λ (t : List ℕ). t ++ rest) (sym (append-nil (spell l)))

-- one rename more
pub more_renames : (bytes middle rest : List ℕ) (rs new : List RenameText) (r : RenameText)
    → RenamesStand bytes rs middle → Stands middle (OfRename r) rest → new ≡ rs ++ r ∷ []
    → RenamesStand bytes new rest
more_renames bytes middle rest rs new r stand one pushed =
    more_lines bytes middle rest (map OfRename rs) (OfRename r ∷ []) stand
    (one_line (OfRename r) middle rest one)
    ∙ ap (λ (ls : List Line). spells spell ls ++ rest)
    (sym (ap (map OfRename) pushed ∙ map-append OfRename rs (r ∷ [])))

pub renames_more : (n : ℕ) (rs new : List RenameText) (r : RenameText) → AreRenames n rs
    → IsRename r → new ≡ rs ++ r ∷ [] → AreRenames (n + 1) new
renames_more n rs new r are is pushed = (
  ap length pushed ∙ length-append rs (r ∷ []) ∙ ap (λ (k : ℕ). k + 1) are.0,
  subst (λ (l : List RenameText). All IsRename l) (sym pushed)
      (All-push IsRename rs r are.1 is),
)

-- a rename is missing after some of so many
pub no_more_renames : (bytes rest : List ℕ) (rs : List RenameText) (n count more : ℕ)
    → AreRenames n rs → RenamesStand bytes rs rest → n < count
    → NoneDue (AtRename (count - (n + 1)) more) rest
    → StopsAt (before_renames count more) bytes (length rest)
no_more_renames bytes rest rs n count more are stand fewer none =
    let left : ℕ = count - (n + 1) in
    stops_behind (before_renames count more) (AtRename left more) (map OfRename rs) bytes rest
    (Missing (length rest))
    (renames_lead rs (suc left) count more (omega (arith, are.0)) are.1) stand
    (stops_here (AtRename left more) (OfRename same_name) rest same_name_is none)

-- or their count is
pub no_renames : (oldest : Bool) (more : ℕ) (bytes : List ℕ) → NoneDue (AtCount oldest more) bytes
    → StopsAt (AtCount oldest more) bytes (length bytes)
no_renames oldest more bytes none =
    stops_here (AtCount oldest more) (RenameCount 0) bytes (omega arith) none

-- or they stop behind it
pub renames_stop : (oldest : Bool) (more count : ℕ) (bytes rest : List ℕ) (fault : LineFault)
    → count ≤ most_renames oldest → Stands bytes (RenameCount count) rest
    → Stops (before_renames count more) rest fault → Stops (AtCount oldest more) bytes fault
renames_stop oldest more count bytes rest fault few stands stops =
    stops_one (AtCount oldest more) (RenameCount count) bytes rest fault few stands stops

-- four lines and others
pub four_lines : (bytes x y z end : List ℕ) (k l m n : Line) (ls : List Line) → Stands bytes k x
    → Stands x l y → Stands y m z → z ≡ spell n ++ (spells spell ls ++ end)
    → bytes ≡ spells spell (k ∷ l ∷ m ∷ n ∷ ls) ++ end
four_lines bytes x y z end k l m n ls first second third fourth =
    first ∙ ap (λ (t : List ℕ). spell k ++ t)
    (second ∙ ap (λ (t : List ℕ). spell l ++ t)
    (third ∙ ap (λ (t : List ℕ). spell m ++ t)
    (fourth ∙ sym (first_apart n ls end))
    ∙ sym (first_apart m (n ∷ ls) end))
    ∙ sym (first_apart l (m ∷ n ∷ ls) end))
    ∙ sym (first_apart k (l ∷ m ∷ n ∷ ls) end)

-- a line is missing where so many bytes are left
bad_there : (bytes : List ℕ) (left offset : ℕ) → StopsAt AtFirst bytes left
    → offset + left ≡ length bytes → IsBadAt bytes offset
bad_there bytes left offset stops at =
    (stops.rest, stops.due, stuck_there bytes left stops, omega (arith, stops.size, at))

pub left_within : (p : Place) (bytes : List ℕ) (left : ℕ) → StopsAt p bytes left
    → left ≤ length bytes
left_within p bytes left stops =
    omega (
      arith,
      stops.size,
      ap length stops.front,
      length-append (spells spell stops.before) stops.rest,
    )

-- no first line stands here
pub no_version_line : (bytes : List ℕ)
    → (HasNumber (codes "undorc-history") (λ _. Unit {0}) bytes → ⊥)
    → IsHistoryFault bytes (Bad 0)
no_version_line bytes none = (
  λ has. none (has.0, has.1, has.2, tt, has.4),
  inl (bad_there bytes (length bytes) 0 (stops_here AtFirst First bytes tt no_first)
      (omega arith)),
)
  where
    number_one : IsNumber (codes "1")
    number_one = subst IsNumber (decimal_digit 1 (omega arith)) (IsNumber-decimal 1 (omega arith))

    no_first : NoneDue AtFirst bytes
    no_first First tail due same =
        none (codes "1", tail, number_one, tt, same ∙ line_apart First tail)
    no_first l tail due same = absurd due

-- a line is missing after the first one
first_behind : (bytes first : List ℕ) (left : ℕ) → Stands bytes First first
    → StopsAt AtPlace first left → StopsAt AtFirst bytes left
first_behind bytes first left stands stops =
    stops_one AtFirst First bytes first (Missing left) tt stands stops

pub missing_within : (bytes first : List ℕ) (left : ℕ) → Stands bytes First first
    → StopsAt AtPlace first left → left ≤ length bytes
missing_within bytes first left stands stops =
    left_within AtFirst bytes left (first_behind bytes first left stands stops)

pub missing_fault : (bytes first : List ℕ) (left : ℕ) → Stands bytes First first
    → StopsAt AtPlace first left → IsHistoryFault bytes (Bad (length bytes - left))
missing_fault bytes first left stands stops = (
  no_other_version bytes first stands,
  inl (bad_there bytes left (length bytes - left) (first_behind bytes first left stands stops)
      (omega (arith, missing_within bytes first left stands stops))),
)

-- more bytes follow a text
pub rest_within : (bytes first rest : List ℕ) (t : HistoryText) → Stands bytes First first
    → spell First ++ first ≡ history_text t ++ rest → length rest ≤ length bytes
rest_within bytes first rest t stands same =
    omega (arith, ap length (stands ∙ same), length-append (history_text t) rest)

pub more_fault : (bytes first rest : List ℕ) (t : HistoryText) → IsHistoryText t
    → Stands bytes First first → spell First ++ first ≡ history_text t ++ rest
    → (length rest ≡ 0 → ⊥) → IsHistoryFault bytes (Bad (length bytes - length rest))
more_fault bytes first rest t is stands same some = (
  no_other_version bytes first stands,
  inr (
    t,
    rest,
    is,
    stands ∙ same,
    (λ none. some (ap length none)),
    omega (arith, ap length (stands ∙ same), length-append (history_text t) rest),
  ),
)

-- one generation more
pub more_generations : (bytes middle rest : List ℕ) (gs new : List GenerationText)
    (g : GenerationText) → GenerationsStand bytes gs middle
    → middle ≡ spells spell (generation_lines g) ++ rest → new ≡ gs ++ g ∷ []
    → GenerationsStand bytes new rest
more_generations bytes middle rest gs new g stand one pushed =
    more_lines bytes middle rest (flat_map generation_lines gs) (generation_lines g) stand one
    ∙ ap (λ (ls : List Line). spells spell ls ++ rest)
    (ap (λ (ls : List Line). flat_map generation_lines gs ++ ls)
    (sym (append-nil (generation_lines g)))
    ∙ sym (ap (flat_map generation_lines) pushed ∙ flat_map-append generation_lines gs (g ∷ [])))

pub oldest_more : (gs new : List GenerationText) (g : GenerationText) (place : ℕ)
    → length gs ≡ place → oldest_renames gs ≡ []
    → length g.renames ≤ most_renames (place == 0) → new ≡ gs ++ g ∷ []
    → oldest_renames new ≡ []
oldest_more [] new g place count none few pushed =
    let zero_few : length g.renames ≤ 0 =
    subst (λ (k : ℕ). length g.renames ≤ most_renames (k == 0)) (sym count) few in
    ap oldest_renames pushed ∙ nil_from_length g.renames (omega arith)
oldest_more (first ∷ gs) new g place count none few pushed = ap oldest_renames pushed ∙ none

-- reading stops in a generation after some of so many
pub generations_stop : (bytes rest : List ℕ) (gs : List GenerationText) (place count : ℕ)
    (fault : LineFault) → length gs ≡ place → All IsGenerationText gs → oldest_renames gs ≡ []
    → GenerationsStand bytes gs rest → place < count
    → ((more : ℕ) → Stops (AtMarks (place == 0) more) rest fault)
    → Stops (before_all count) bytes fault
generations_stop bytes rest gs place count fault is each oldest stand fewer stops =
    stops_behind (before_all count) (place_behind gs (suc left)) (flat_map generation_lines gs)
    bytes rest fault (all_lead gs (suc left) count (omega arith) each oldest) stand (there gs is)
  where
    left : ℕ
    left = count - (place + 1)

    there : (gs : List GenerationText) → length gs ≡ place
        → Stops (place_behind gs (suc (count - (place + 1)))) rest fault
    there [] none =
        subst (λ (k : ℕ). Stops (AtMarks (k == 0) (count - (place + 1))) rest fault) (sym none)
        (stops (count - (place + 1)))
    there (g ∷ gs) some =
        subst (λ (oldest : Bool). Stops (AtMarks oldest (count - (place + 1))) rest fault)
        (ne_eqb (suc (length gs)) 0 (λ same. absurd (omega (arith, same))))
        (subst (λ (k : ℕ). Stops (AtMarks (k == 0) (count - (place + 1))) rest fault) (sym some)
        (stops (count - (place + 1))))

-- the last line is missing after all of them
pub no_last_line : (bytes rest end : List ℕ) (present count : ℕ) (gs : List GenerationText)
    → present < count → count ≤ 8 → Stands bytes (OfPlace present count) rest
    → length gs ≡ count → All IsGenerationText gs → oldest_renames gs ≡ []
    → GenerationsStand rest gs end → NoneDue AtLast end → StopsAt AtPlace bytes (length end)
no_last_line bytes rest end present count gs within few stands is each oldest stand none =
    stops_one AtPlace (OfPlace present count) bytes rest (Missing (length end)) (within, few) stands
    (stops_behind (before_all count) (place_behind gs 0) (flat_map generation_lines gs) rest end
    (Missing (length end)) (all_lead gs 0 count (omega (arith, is)) each oldest)
    stand (there gs is))
  where
    last : StopsAt AtLast end (length end)
    last = stops_here AtLast Last end tt none

    there : (gs : List GenerationText) → length gs ≡ count
        → StopsAt (place_behind gs 0) end (length end)
    there [] is = absurd (omega arith)
    there (g ∷ gs) is = last

-- the lines of a history, all of them
pub whole_text : (bytes rest end : List ℕ) (present count : ℕ) (gs : List GenerationText)
    (tail : List ℕ) → Stands bytes (OfPlace present count) rest → length gs ≡ count
    → GenerationsStand rest gs end → Stands end Last tail
    → spell First ++ bytes
    ≡ history_text (record { present = present; generations = gs }) ++ tail
whole_text bytes rest end present count gs tail stands is stand last =
    let counted : Stands bytes (OfPlace present (length gs)) rest =
    subst (λ (k : ℕ). Stands bytes (OfPlace present k) rest) (sym is) stands in
    let all : rest ≡ spells spell (flat_map generation_lines gs ++ Last ∷ []) ++ tail =
    more_lines rest end tail (flat_map generation_lines gs) (Last ∷ []) stand
    (one_line Last end tail last) in
    let lines : List Line = flat_map generation_lines gs ++ Last ∷ [] in
    ap (λ (l : List ℕ). spell First ++ l)
    (counted ∙ ap (λ (l : List ℕ). spell (OfPlace present (length gs)) ++ l) all
    ∙ sym (first_apart (OfPlace present (length gs)) lines tail))
    ∙ sym (first_apart First (OfPlace present (length gs) ∷ lines) tail)
