-- The first line and the counts: a word and a number.
use Rattle.std.proofs.Common.{◌≡◌, ◌≢◌, ◌∙◌, ℕ, ◌<◌, ◌≤◌, List, [], ◌∷◌, ◌++◌, get_or, arith, refl}
use Rattle.std.proofs.Common.{sym, ap, subst}
use Rattle.std.proofs.lemmas.Fmt.{decimal_digit}
use Rattle.std.proofs.lemmas.List.{append-nil}
use Rattle.std.specs.Prelude.{codes}
use Rattle.std.specs.Fmt.{decimal}
use Rattle.std.specs.Str.Parse.{digits_value}
use Rattle.rc_dbtext.specs.declared.syntax.fault.FormFault.{FormFault}
use Rattle.rc_dbtext.specs.declared.syntax.fault.FormFault.TheVariants.{Bad, Version, TooMany}
use Rattle.rc_dbtext.specs.declared.syntax.fault.FormFault.TheVariants.{Memory}
use Rattle.rc_dbtext.specs.Text.{Line, First, ServiceCount, BundleCount, words, line_of_words}
use Rattle.rc_dbtext.specs.Text.{text_behind, spell}
use Rattle.rc_dbtext.specs.Reading.{IsRefused, IsNumber, HasNumber, IsNoNumber, IsNoCount}
use Rattle.rc_dbtext.specs.Reading.{HasOtherVersion, HasTooMany, one}
use Rattle.rc_dbtext.specs.LineValues.{IsPlain}
use Rattle.rc_dbtext.proofs.Sequences.{stuck_line}
use Rattle.rc_dbtext.proofs.NumberWords.{plain_numbered}
use Rattle.rc_dbtext.proofs.Numbers.{IsNumber-decimal, digits_value-decimal}
use Rattle.rc_dbtext.proofs.LineWords.{words_once}
use Rattle.rc_dbtext.proofs.Plain.{plain_from}

-- lines of one word and a number have one number
one_number : (word number other x y : List ℕ) → IsPlain word → IsNumber number → IsNumber other
    → line_of_words (word ∷ number ∷ []) ++ x ≡ line_of_words (word ∷ other ∷ []) ++ y
    → number ≡ other
one_number word number other x y plain is is_other same =
    ap (λ (l : List (List ℕ)). get_or l 1 [])
    (words_once (word ∷ number ∷ []) (word ∷ other ∷ []) x y (plain_numbered word number plain is)
    (plain_numbered word other plain is_other) same).0

-- a line without a text after it, whole
without_text : (line : Line) (tail : List ℕ) → text_behind line ≡ []
    → spell line ++ tail ≡ line_of_words (words line) ++ tail
without_text line tail none =
    ap (λ (l : List ℕ). (line_of_words (words line) ++ l) ++ tail) none
    ∙ ap (λ (l : List ℕ). l ++ tail) (append-nil (line_of_words (words line)))

IsNumber-one : IsNumber (codes "1")
IsNumber-one = subst IsNumber (decimal_digit 1 (omega arith)) (IsNumber-decimal 1 (omega arith))

pub plain_undorc : IsPlain (codes "undorc-db")
plain_undorc = plain_from (codes "undorc-db") refl

-- no line of a version stands here
pub no_first : (bytes : List ℕ) (fault : FormFault) → IsNoNumber (codes "undorc-db") bytes fault
    → IsRefused (λ (u : Unit {0}). Unit {0}) (one (λ _. First)) bytes fault
no_first bytes (Bad left) none = (
  bytes,
  First,
  stuck_line (λ (u : Unit {0}). Unit {0}) (λ _. First) bytes tt tt
      (λ u tail is same. none.1 (
        codes "1",
        tail,
        IsNumber-one,
        tt,
        same ∙ without_text First tail refl,
      )),
  none.0,
  λ other. none.1 (other.0, other.1, other.2, tt, other.4),
  λ bad. bad,
)
no_first bytes Version none = absurd none
no_first bytes TooMany none = absurd none
no_first bytes Memory none = tt

-- a line of another version stands here
pub other_first : (bytes number rest : List ℕ) → IsNumber number → number ≢ codes "1"
    → bytes ≡ line_of_words (codes "undorc-db" ∷ number ∷ []) ++ rest
    → IsRefused (λ (u : Unit {0}). Unit {0}) (one (λ _. First)) bytes Version
other_first bytes number rest is other stands = (
  bytes,
  First,
  stuck_line (λ (u : Unit {0}). Unit {0}) (λ _. First) bytes tt tt (λ u tail is_u same.
      other (one_number (codes "undorc-db") number (codes "1") rest tail plain_undorc is
      IsNumber-one (sym stands ∙ same ∙ without_text First tail refl))),
  (number, rest, is, other, stands),
)

-- the counts, by the word that their line begins with
pub record IsCount (count : ℕ → Line) (word : List ℕ) : Type 0 where
  pub plain : IsPlain word
  pub words_are : (n : ℕ) → words (count n) ≡ word ∷ decimal n ∷ []
  pub no_text : (n : ℕ) → text_behind (count n) ≡ []
  pub no_version : (bytes : List ℕ) → HasOtherVersion (count 0) bytes → ⊥
  pub many : (bytes : List ℕ) → HasNumber word (λ number. 4096 < digits_value 10 number) bytes
      → HasTooMany (count 0) bytes
  pub from_many : (bytes : List ℕ) → HasTooMany (count 0) bytes
      → HasNumber word (λ number. 4096 < digits_value 10 number) bytes

pub services_count : IsCount ServiceCount (codes "services")
services_count = record {
  plain = plain_from (codes "services") refl;
  words_are = λ n. refl;
  no_text = λ n. refl;
  no_version = λ bytes bad. bad;
  many = λ bytes has. has;
  from_many = λ bytes has. has;
}

pub bundles_count : IsCount BundleCount (codes "bundles")
bundles_count = record {
  plain = plain_from (codes "bundles") refl;
  words_are = λ n. refl;
  no_text = λ n. refl;
  no_version = λ bytes bad. bad;
  many = λ bytes has. has;
  from_many = λ bytes has. has;
}

module _ (count : ℕ → Line) (word : List ℕ) (is : IsCount count word) where
  count_bytes : (n : ℕ) (tail : List ℕ)
      → spell (count n) ++ tail ≡ line_of_words (word ∷ decimal n ∷ []) ++ tail
  count_bytes n tail =
      without_text (count n) tail (is.no_text n)
      ∙ ap (λ (l : List (List ℕ)). line_of_words l ++ tail) (is.words_are n)

  pub count_read : (bytes rest : List ℕ) (n : ℕ)
      → bytes ≡ line_of_words (word ∷ decimal n ∷ []) ++ rest
      → bytes ≡ (spell (count n) ++ []) ++ rest
  count_read bytes rest n stands =
      stands ∙ sym (count_bytes n rest)
      ∙ ap (λ (l : List ℕ). l ++ rest) (sym (append-nil (spell (count n))))

  -- no count stands here, or one above 4,096
  pub no_count : (bytes : List ℕ) (fault : FormFault) → IsNoCount word bytes fault
      → IsRefused (λ n. n ≤ 4096) (one count) bytes fault
  no_count bytes (Bad left) none = (
    bytes,
    count 0,
    stuck_line (λ n. n ≤ 4096) count bytes 0 (omega arith)
        (λ n tail few same. none.1 (
          decimal n,
          tail,
          IsNumber-decimal n (omega arith),
          tt,
          same ∙ count_bytes n tail,
        )),
    none.0,
    is.no_version bytes,
    λ bad. let has = is.from_many bytes bad in none.1 (has.0, has.1, has.2, tt, has.4),
  )
  no_count bytes Version none = absurd none
  no_count bytes TooMany (number, after, is_number, above, stands) = (
    bytes,
    count 0,
    stuck_line (λ n. n ≤ 4096) count bytes 0 (omega arith) (λ n tail few same.
        let written : number ≡ decimal n = one_number word number (decimal n) after tail is.plain
        is_number (IsNumber-decimal n (omega arith)) (sym stands ∙ same ∙ count_bytes n tail) in
        omega (arith, above, ap (digits_value 10) written, digits_value-decimal n (omega arith))),
    is.many bytes (number, after, is_number, above, stands),
  )
  no_count bytes Memory none = tt
