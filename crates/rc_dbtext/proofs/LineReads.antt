-- What is read of a line, and what refuses it, from its words.
use Rattle.std.proofs.Common.{◌≡◌, ◌∙◌, ℕ, List, ◌++◌, length, All, refl, sym, ap, append_assoc}
use Rattle.std.proofs.lemmas.List.{append-nil}
use Rattle.std.specs.Str.{IsUtf8}
use Rattle.rc_dbtext.specs.declared.syntax.fault.FormFault.{FormFault}
use Rattle.rc_dbtext.specs.declared.syntax.fault.FormFault.TheVariants.{Bad, Version, TooMany}
use Rattle.rc_dbtext.specs.declared.syntax.fault.FormFault.TheVariants.{Memory}
use Rattle.rc_dbtext.specs.Text.{Line, words, line_of_words, text_behind, spell}
use Rattle.rc_dbtext.specs.Reading.{IsRead, IsRefused, HasOtherVersion, HasTooMany, one}
use Rattle.rc_dbtext.specs.LineValues.{ArePlain, BeginsWith, IsNoLine}
use Rattle.rc_dbtext.proofs.Sequences.{HasNo, stuck_line}
use Rattle.rc_dbtext.proofs.WordLines.{no_such_line, no_line}

-- a kind of line that is no line of a number: its words are words and UTF-8, and there is one
pub record IsKind {A : Type 0} (Is : A → Type 0) (line : A → Line) : Type 0 where
  pub plain : (a : A) → Is a → ArePlain (words (line a))
  pub text : (a : A) → Is a → All IsUtf8 (words (line a))
  pub some : A
  pub is_some : Is some
  pub no_version : (bytes : List ℕ) → HasOtherVersion (line some) bytes → ⊥
  pub no_count : (bytes : List ℕ) → HasTooMany (line some) bytes → ⊥

-- the line is read, with the text after it
pub read_with_text : {A : Type 0} (Is : A → Type 0) (line : A → Line) (bytes middle rest : List ℕ)
    (ws : List (List ℕ)) (a : A) → BeginsWith bytes ws middle → Is a → ws ≡ words (line a)
    → middle ≡ text_behind (line a) ++ rest → IsRead Is (one line) bytes a rest
read_with_text Is line bytes middle rest ws a begins is same behind = (
  is,
  begins.1 ∙ ap (λ (l : List (List ℕ)). line_of_words l ++ middle) same
      ∙ ap (λ (l : List ℕ). line_of_words (words (line a)) ++ l) behind
      ∙ sym (append_assoc (line_of_words (words (line a))) (text_behind (line a)) rest)
      ∙ ap (λ (l : List ℕ). l ++ rest) (sym (append-nil (spell (line a)))),
)

module _ {A : Type 0} (Is : A → Type 0) (line : A → Line) (kind : IsKind Is line) where
  refused : (bytes : List ℕ) (left : ℕ) → left ≡ length bytes → HasNo Is line bytes
      → IsRefused Is (one line) bytes (Bad left)
  refused bytes left is missing = (
    bytes,
    line kind.some,
    stuck_line Is line bytes kind.some kind.is_some missing,
    is,
    kind.no_version bytes,
    kind.no_count bytes,
  )

  -- other words stand here, or other bytes after them
  pub other_line : (bytes rest : List ℕ) (ws : List (List ℕ)) → BeginsWith bytes ws rest
      → ((a : A) (tail : List ℕ) → Is a → ws ≡ words (line a) → rest ≡ text_behind (line a) ++ tail
      → ⊥)
      → IsRefused Is (one line) bytes (Bad (length bytes))
  other_line bytes rest ws begins other =
      refused bytes (length bytes) refl (no_such_line Is line kind.plain bytes ws rest begins other)

  -- no line stands here
  pub no_line_here : (bytes : List ℕ) (fault : FormFault) → IsNoLine bytes fault
      → IsRefused Is (one line) bytes fault
  no_line_here bytes (Bad left) none =
      refused bytes left none.0 (no_line Is line kind.text bytes none.1)
  no_line_here bytes Version none = absurd none
  no_line_here bytes TooMany none = absurd none
  no_line_here bytes Memory none = tt
