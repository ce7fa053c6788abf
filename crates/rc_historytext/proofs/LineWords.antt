-- The words of a line are words and UTF-8.
use Rattle.std.proofs.Common.{ℕ, ◌+◌, ◌<◌, ◌^◌, Bool, true, false, List, [], ◌∷◌, All, length}
use Rattle.std.proofs.Common.{arith, refl}
use Rattle.std.proofs.lemmas.List.Elements.{All-cons}
use Rattle.std.specs.Prelude.{codes}
use Rattle.std.specs.Fmt.{decimal}
use Rattle.std.specs.Str.{IsUtf8}
use Rattle.rc_dbtext.specs.Words.{ArePlain, IsPlain}
use Rattle.rc_dbtext.proofs.LineWords.{each_cons}
use Rattle.rc_dbtext.proofs.Plain.{plain_from, plain_name, plain_words, plain_decimal, no_words}
use Rattle.rc_dbtext.proofs.Texts.{one_text, text_decimal, text_from}
use Rattle.rc_historytext.specs.Text.{Line, First, OfPlace, OfMarks, OfDatabase, OfSession}
use Rattle.rc_historytext.specs.Text.{RenameCount, OfRename, Last, words, mark_word}
use Rattle.rc_historytext.specs.Due.{Place, AtFirst, AtPlace, AtMarks, AtDatabase, AtSession}
use Rattle.rc_historytext.specs.Due.{AtCount, AtRename, AtLast, IsDue, most_renames}

plain_mark : (passed : Bool) → IsPlain (mark_word passed)
plain_mark true = plain_from (codes "passed") refl
plain_mark false = plain_from (codes "stop") refl

text_mark : (passed : Bool) → IsUtf8 (mark_word passed)
text_mark true = text_from (codes "passed") refl
text_mark false = text_from (codes "stop") refl

-- two and three words
plain_two : (a b : List ℕ) → IsPlain a → IsPlain b → ArePlain (a ∷ b ∷ [])
plain_two a b is_a is_b = plain_words a (b ∷ []) is_a (each_cons b [] is_b no_words)

plain_three : (a b c : List ℕ) → IsPlain a → IsPlain b → IsPlain c → ArePlain (a ∷ b ∷ c ∷ [])
plain_three a b c is_a is_b is_c =
    plain_words a (b ∷ c ∷ []) is_a (each_cons b (c ∷ []) is_b (each_cons c [] is_c no_words))

text_two : (a b : List ℕ) → IsUtf8 a → IsUtf8 b → All IsUtf8 (a ∷ b ∷ [])
text_two a b is_a is_b = All-cons IsUtf8 a (b ∷ []) is_a (one_text b is_b)

-- a word and a number
pub plain_counted : (word : List ℕ) (n : ℕ) → IsPlain word → n < 2 ^ 64
    → ArePlain (word ∷ decimal n ∷ [])
plain_counted word n plain small = plain_two word (decimal n) plain (plain_decimal n small)

pub text_counted : (word : List ℕ) (n : ℕ) → IsUtf8 word → n < 2 ^ 64
    → All IsUtf8 (word ∷ decimal n ∷ [])
text_counted word n text small = text_two word (decimal n) text (text_decimal n small)

pub few_renames : (oldest : Bool) (n : ℕ) → n < most_renames oldest + 1 → n < 2 ^ 64
few_renames true n few = omega arith
few_renames false n few = omega arith

-- the words of a line are words
pub plain_line : (p : Place) (l : Line) → IsDue p l → ArePlain (words l)
plain_line AtFirst First due =
    plain_two (codes "undorc-history") (codes "1") (plain_from (codes "undorc-history") refl)
    (plain_from (codes "1") refl)
plain_line AtPlace (OfPlace present count) due =
    plain_words (codes "at") (decimal present ∷ codes "of" ∷ decimal count ∷ [])
    (plain_from (codes "at") refl)
    (each_cons (decimal present) (codes "of" ∷ decimal count ∷ [])
    (plain_decimal present (omega (arith, due.0, due.1)))
    (each_cons (codes "of") (decimal count ∷ []) (plain_from (codes "of") refl)
    (each_cons (decimal count) [] (plain_decimal count (omega (arith, due.1))) no_words)))
plain_line (AtMarks oldest more) (OfMarks first last) due =
    plain_three (codes "generation") (mark_word first) (mark_word last)
    (plain_from (codes "generation") refl) (plain_mark first) (plain_mark last)
plain_line (AtDatabase oldest more) (OfDatabase text) due =
    plain_counted (codes "database") (length text) (plain_from (codes "database") refl)
    (omega arith)
plain_line (AtSession oldest more) (OfSession text) due =
    plain_counted (codes "session") (length text) (plain_from (codes "session") refl)
    (omega arith)
plain_line (AtCount oldest more) (RenameCount count) due =
    plain_counted (codes "renames") count (plain_from (codes "renames") refl)
    (few_renames oldest count (omega arith))
plain_line (AtRename left more) (OfRename rename) due =
    plain_three (codes "rename") rename.old rename.new (plain_from (codes "rename") refl)
    (plain_name rename.old due.old) (plain_name rename.new due.new)
plain_line AtLast Last due = plain_words (codes "end") [] (plain_from (codes "end") refl) no_words
plain_line p l due = absurd due

-- and UTF-8
pub text_line : (p : Place) (l : Line) → IsDue p l → All IsUtf8 (words l)
text_line AtFirst First due =
    text_two (codes "undorc-history") (codes "1") (text_from (codes "undorc-history") refl)
    (text_from (codes "1") refl)
text_line AtPlace (OfPlace present count) due =
    All-cons IsUtf8 (codes "at") (decimal present ∷ codes "of" ∷ decimal count ∷ [])
    (text_from (codes "at") refl)
    (All-cons IsUtf8 (decimal present) (codes "of" ∷ decimal count ∷ [])
    (text_decimal present (omega (arith, due.0, due.1)))
    (text_counted (codes "of") count (text_from (codes "of") refl) (omega (arith, due.1))))
text_line (AtMarks oldest more) (OfMarks first last) due =
    All-cons IsUtf8 (codes "generation") (mark_word first ∷ mark_word last ∷ [])
    (text_from (codes "generation") refl)
    (text_two (mark_word first) (mark_word last) (text_mark first) (text_mark last))
text_line (AtDatabase oldest more) (OfDatabase text) due =
    text_counted (codes "database") (length text) (text_from (codes "database") refl) (omega arith)
text_line (AtSession oldest more) (OfSession text) due =
    text_counted (codes "session") (length text) (text_from (codes "session") refl) (omega arith)
text_line (AtCount oldest more) (RenameCount count) due =
    text_counted (codes "renames") count (text_from (codes "renames") refl)
    (few_renames oldest count (omega arith))
text_line (AtRename left more) (OfRename rename) due =
    All-cons IsUtf8 (codes "rename") (rename.old ∷ rename.new ∷ [])
    (text_from (codes "rename") refl)
    (text_two rename.old rename.new due.old.utf8 due.new.utf8)
text_line AtLast Last due = one_text (codes "end") (text_from (codes "end") refl)
text_line p l due = absurd due
