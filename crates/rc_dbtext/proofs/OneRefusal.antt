-- Reading is stuck at one place, so what refuses bytes is one.
use Rattle.std.proofs.Common.{◌≡◌, ◌≢◌, ◌∙◌, ℕ, ◌<◌, List, length, refl, sym, ap, subst}
use Rattle.std.specs.Prelude.{codes}
use Rattle.std.specs.Str.Parse.{digits_value}
use Rattle.rc_dbtext.specs.declared.syntax.fault.FormFault.{FormFault}
use Rattle.rc_dbtext.specs.declared.syntax.fault.FormFault.TheVariants.{Bad, Version, TooMany}
use Rattle.rc_dbtext.specs.declared.syntax.fault.FormFault.TheVariants.{Memory}
use Rattle.rc_dbtext.specs.Text.{Line, First, ServiceCount, BundleCount, Last, spell}
use Rattle.rc_dbtext.specs.Reading.{IsStuck, IsRefused, HasNumber, HasOtherVersion, HasTooMany}
use Rattle.rc_dbtext.proofs.Stuck as stuck_at
use Rattle.rc_dbtext.proofs.Aligned.{Place, AtFirst, AtServices, AtBundles, Elsewhere, place}
use Rattle.rc_dbtext.proofs.Aligned.{IsAligned}

-- another version, and a count above 4,096, by the kind of line that is due
abbrev version_at : Place → List ℕ → Type 0
version_at AtFirst rest = HasNumber (codes "undorc-db") (λ number. number ≢ codes "1") rest
version_at other rest = ⊥

abbrev many_at : Place → List ℕ → Type 0
many_at AtServices rest =
    HasNumber (codes "services") (λ number. 4096 < digits_value 10 number) rest
many_at AtBundles rest = HasNumber (codes "bundles") (λ number. 4096 < digits_value 10 number) rest
many_at other rest = ⊥

version_from : (due : Line) (rest : List ℕ) → HasOtherVersion due rest → version_at (place due) rest
version_from First rest has = has
version_from other rest has = absurd has

to_version : (due : Line) (rest : List ℕ) → version_at (place due) rest → HasOtherVersion due rest
to_version First rest has = has
to_version other rest has = absurd has

many_from : (due : Line) (rest : List ℕ) → HasTooMany due rest → many_at (place due) rest
many_from (ServiceCount count) rest has = has
many_from (BundleCount count) rest has = has
many_from other rest has = absurd has

to_many : (due : Line) (rest : List ℕ) → many_at (place due) rest → HasTooMany due rest
to_many (ServiceCount count) rest has = has
to_many (BundleCount count) rest has = has
to_many other rest has = absurd has

not_both : (at : Place) (rest other : List ℕ) → version_at at rest → many_at at other → ⊥
not_both AtFirst rest other version many = many
not_both AtServices rest other version many = version
not_both AtBundles rest other version many = version
not_both Elsewhere rest other version many = version

module _ {A : Type 0} (Is : A → Type 0) (lines : A → List Line) where
  -- reading is stuck at one place, where a line of one kind is due
  one_place : IsAligned Is lines → (bytes rest other : List ℕ) (due line : Line)
      → IsStuck Is lines bytes rest due → IsStuck Is lines bytes other line
      → (rest ≡ other) × (place due ≡ place line)
  one_place aligned bytes rest other due line stuck more =
      let at = stuck_at.one_place spell Is lines (λ l m. place l ≡ place m) Last aligned bytes rest
      other due line stuck more in
      (at.0, at.1)

  -- at one place stands not both a bad line and another version, or a count above 4,096
  no_version : IsAligned Is lines → (bytes rest other : List ℕ) (due line : Line)
      → IsStuck Is lines bytes rest due → IsStuck Is lines bytes other line
      → (HasOtherVersion due rest → ⊥)
      → HasOtherVersion line other → ⊥
  no_version aligned bytes rest other due line stuck more none has =
      let at = one_place aligned bytes rest other due line stuck more in
      let here : version_at (place due) other =
      subst (λ (p : Place). version_at p other) (sym at.1) (version_from line other has) in
      none (to_version due rest (subst (λ (l : List ℕ). version_at (place due) l) (sym at.0) here))

  no_many : IsAligned Is lines → (bytes rest other : List ℕ) (due line : Line)
      → IsStuck Is lines bytes rest due → IsStuck Is lines bytes other line
      → (HasTooMany due rest → ⊥) → HasTooMany line other → ⊥
  no_many aligned bytes rest other due line stuck more none has =
      let at = one_place aligned bytes rest other due line stuck more in
      let here : many_at (place due) other =
      subst (λ (p : Place). many_at p other) (sym at.1) (many_from line other has) in
      none (to_many due rest (subst (λ (l : List ℕ). many_at (place due) l) (sym at.0) here))

  apart : IsAligned Is lines → (bytes rest other : List ℕ) (due line : Line)
      → IsStuck Is lines bytes rest due → IsStuck Is lines bytes other line
      → HasOtherVersion due rest → HasTooMany line other → ⊥
  apart aligned bytes rest other due line stuck more version many =
      let at = one_place aligned bytes rest other due line stuck more in
      not_both (place due) rest other (version_from due rest version)
      (subst (λ (p : Place). many_at p other) (sym at.1) (many_from line other many))

  -- so what refuses bytes is one, out of memory aside
  pub one_refusal : IsAligned Is lines → (bytes : List ℕ) (a b : FormFault)
      → IsRefused Is lines bytes a → IsRefused Is lines bytes b → a ≢ Memory → b ≢ Memory → a ≡ b
  one_refusal aligned bytes Memory b of_a of_b not_a not_b = absurd (not_a refl)
  one_refusal aligned bytes a Memory of_a of_b not_a not_b = absurd (not_b refl)
  one_refusal aligned bytes (Bad left) (Bad other) of_a of_b not_a not_b =
      let at = one_place aligned bytes of_a.0 of_b.0 of_a.1 of_b.1 of_a.2 of_b.2 in
      ap Bad (of_a.3 ∙ ap length at.0 ∙ sym of_b.3)
  one_refusal aligned bytes (Bad left) Version of_a of_b not_a not_b =
      absurd (no_version aligned bytes of_a.0 of_b.0 of_a.1 of_b.1 of_a.2 of_b.2 of_a.4 of_b.3)
  one_refusal aligned bytes (Bad left) TooMany of_a of_b not_a not_b =
      absurd (no_many aligned bytes of_a.0 of_b.0 of_a.1 of_b.1 of_a.2 of_b.2 of_a.5 of_b.3)
  one_refusal aligned bytes Version (Bad left) of_a of_b not_a not_b =
      absurd (no_version aligned bytes of_b.0 of_a.0 of_b.1 of_a.1 of_b.2 of_a.2 of_b.4 of_a.3)
  one_refusal aligned bytes Version Version of_a of_b not_a not_b = refl
  one_refusal aligned bytes Version TooMany of_a of_b not_a not_b =
      absurd (apart aligned bytes of_a.0 of_b.0 of_a.1 of_b.1 of_a.2 of_b.2 of_a.3 of_b.3)
  one_refusal aligned bytes TooMany (Bad left) of_a of_b not_a not_b =
      absurd (no_many aligned bytes of_b.0 of_a.0 of_b.1 of_a.1 of_b.2 of_a.2 of_b.5 of_a.3)
  one_refusal aligned bytes TooMany Version of_a of_b not_a not_b =
      absurd (apart aligned bytes of_b.0 of_a.0 of_b.1 of_a.1 of_b.2 of_a.2 of_b.3 of_a.3)
  one_refusal aligned bytes TooMany TooMany of_a of_b not_a not_b = refl
