-- Where a line is due and others stand, or none.
use Rattle.std.proofs.Common.{◌≡◌, ◌∙◌, ℕ, ◌<◌, ◌≤◌, Bool, List, [], ◌∷◌, ◌++◌, All, length, sym}
use Rattle.std.proofs.Common.{append_assoc, arith}
use Rattle.std.specs.Prelude.{codes}
use Rattle.std.specs.Fmt.{decimal}
use Rattle.std.specs.Str.{IsUtf8}
use Rattle.rc_dbtext.specs.Words.{BeginsWith, IsPlain, line_of_words}
use Rattle.rc_dbtext.proofs.LineWords.{words_once}
use Rattle.rc_historytext.specs.Text.{Line, OfPlace, OfMarks, OfDatabase, OfSession, RenameCount}
use Rattle.rc_historytext.specs.Text.{OfRename, Last, RenameText, IsRename, IsShort, words}
use Rattle.rc_historytext.specs.Text.{text_behind, spell}
use Rattle.rc_historytext.specs.Due.{Place, AtPlace, AtMarks, AtDatabase, AtSession, AtCount}
use Rattle.rc_historytext.specs.Due.{AtRename, AtLast, IsDue, NoneDue, most_renames}
use Rattle.rc_historytext.specs.Standing.{HasNoBlock, block}
use Rattle.rc_historytext.proofs.LineWords.{plain_line, text_line, plain_counted}

-- a line, apart from what follows it
pub line_apart : (l : Line) (tail : List ℕ)
    → spell l ++ tail ≡ line_of_words (words l) ++ (text_behind l ++ tail)
line_apart l tail = append_assoc (line_of_words (words l)) (text_behind l) tail

-- where no line of text stands, none that is due does
pub no_text_here : (p : Place) (bytes : List ℕ)
    → ((ws : List (List ℕ)) (rest : List ℕ) → All IsUtf8 ws → bytes ≡ line_of_words ws ++ rest → ⊥)
    → NoneDue p bytes
no_text_here p bytes none l tail due same =
    none (words l) (text_behind l ++ tail) (text_line p l due) (same ∙ line_apart l tail)

-- nor where a line of other words stands, or other bytes after it
pub other_here : (p : Place) (bytes rest : List ℕ) (ws : List (List ℕ)) → BeginsWith bytes ws rest
    → ((l : Line) (tail : List ℕ) → IsDue p l → ws ≡ words l → rest ≡ text_behind l ++ tail → ⊥)
    → NoneDue p bytes
other_here p bytes rest ws begins other l tail due same =
    let both = words_once ws (words l) rest (text_behind l ++ tail) begins.0 (plain_line p l due)
    (sym begins.1 ∙ same ∙ line_apart l tail) in
    other l tail due both.0 both.1

-- nor the text of a database or a session, where its block does not
pub no_database : (oldest : Bool) (more : ℕ) (bytes : List ℕ) → HasNoBlock (codes "database") bytes
    → NoneDue (AtDatabase oldest more) bytes
no_database oldest more bytes none (OfDatabase text) tail due same = none text tail due same
no_database oldest more bytes none l tail due same = absurd due

pub no_session : (oldest : Bool) (more : ℕ) (bytes : List ℕ) → HasNoBlock (codes "session") bytes
    → NoneDue (AtSession oldest more) bytes
no_session oldest more bytes none (OfSession text) tail due same = none text tail due same
no_session oldest more bytes none l tail due same = absurd due

-- the block of a word stands on the words of its line
pub block_words : (word bytes rest text tail : List ℕ) (ws : List (List ℕ)) → IsPlain word
    → IsShort text → BeginsWith bytes ws rest → bytes ≡ block word text ++ tail
    → (ws ≡ word ∷ decimal (length text) ∷ []) × (rest ≡ text ++ tail)
block_words word bytes rest text tail ws plain short begins same =
    words_once ws (word ∷ decimal (length text) ∷ []) rest (text ++ tail) begins.0
    (plain_counted word (length text) plain (omega arith))
    (sym begins.1 ∙ same ∙ append_assoc (line_of_words (word ∷ decimal (length text) ∷ [])) text
    tail)

-- words of no line of a kind are those of no line that is due where that kind is
pub no_place : (ws : List (List ℕ))
    → ((p n : ℕ) → p < n → n ≤ 8 → ws ≡ words (OfPlace p n) → ⊥)
    → (l : Line) (rest tail : List ℕ) → IsDue AtPlace l → ws ≡ words l
    → rest ≡ text_behind l ++ tail → ⊥
no_place ws none (OfPlace p n) rest tail due same behind = none p n due.0 due.1 same
no_place ws none l rest tail due same behind = absurd due

pub no_marks : (ws : List (List ℕ)) (oldest : Bool) (more : ℕ)
    → ((a b : Bool) → ws ≡ words (OfMarks a b) → ⊥)
    → (l : Line) (rest tail : List ℕ) → IsDue (AtMarks oldest more) l → ws ≡ words l
    → rest ≡ text_behind l ++ tail → ⊥
no_marks ws oldest more none (OfMarks a b) rest tail due same behind = none a b same
no_marks ws oldest more none l rest tail due same behind = absurd due

pub no_count : (ws : List (List ℕ)) (oldest : Bool) (more : ℕ)
    → ((n : ℕ) → n ≤ most_renames oldest → ws ≡ words (RenameCount n) → ⊥)
    → (l : Line) (rest tail : List ℕ) → IsDue (AtCount oldest more) l → ws ≡ words l
    → rest ≡ text_behind l ++ tail → ⊥
no_count ws oldest more none (RenameCount n) rest tail due same behind = none n due same
no_count ws oldest more none l rest tail due same behind = absurd due

pub no_rename : (ws : List (List ℕ)) (left more : ℕ)
    → ((r : RenameText) → IsRename r → ws ≡ words (OfRename r) → ⊥)
    → (l : Line) (rest tail : List ℕ) → IsDue (AtRename left more) l → ws ≡ words l
    → rest ≡ text_behind l ++ tail → ⊥
no_rename ws left more none (OfRename r) rest tail due same behind = none r due same
no_rename ws left more none l rest tail due same behind = absurd due

pub no_last : (ws : List (List ℕ)) → (ws ≡ words Last → ⊥)
    → (l : Line) (rest tail : List ℕ) → IsDue AtLast l → ws ≡ words l
    → rest ≡ text_behind l ++ tail → ⊥
no_last ws none Last rest tail due same behind = none same
no_last ws none l rest tail due same behind = absurd due
