-- What was read of a text, and what refuses the next line, for reading alone. No public contract
-- speaks of it.
use Rattle.std.specs.Prelude.{◌≡◌, ◌≤◌, ℕ, false, List, ◌++◌, length, map, All}
use Rattle.std.specs.List.{flat_map}
use Rattle.rc_model.specs.Names.{IsInByteOrder}
use Rattle.rc_dbtext.specs.Words.{BundleText}
use Rattle.rc_dbtext.specs.Form.{spells}
use Rattle.rc_livetext.specs.declared.form_fault.FormFault.{FormFault}
use Rattle.rc_livetext.specs.declared.form_fault.FormFault.TheVariants.{Bad, Version, Memory}
use Rattle.rc_livetext.specs.Text.{Line, OfBundle, StateText, IsBundleText, IsStateText}
use Rattle.rc_livetext.specs.Text.{spell, state_lines}
use Rattle.rc_livetext.specs.Following.{Place, May, MayAdd, place_after, IsNoLineHere}

-- bundles that a state may have
pub record AreBundles (bundles : List BundleText) : Type 0 where
  pub order : IsInByteOrder (map (λ b. b.name) bundles)
  pub few : length bundles ≤ 4096
  pub each : All IsBundleText bundles

-- the lines of such bundles stand in front of the rest
abbrev pub HasBundles : List ℕ → List BundleText → List ℕ → Type 0
HasBundles bytes bundles rest =
    AreBundles bundles × (bytes ≡ spells spell (map OfBundle bundles) ++ rest)

-- and no more that may follow them
abbrev pub HasNoMore : List BundleText → List ℕ → Type 0
HasNoMore bundles rest =
    (b : BundleText) (tail : List ℕ) → MayAdd bundles b → rest ≡ spell (OfBundle b) ++ tail → ⊥

-- no such line stands here
abbrev pub HasNo : {A : Type 0} → (A → Type 0) → (A → Line) → List ℕ → Type 0
HasNo {A} Is line bytes =
    (value : A) (tail : List ℕ) → Is value → bytes ≡ spell (line value) ++ tail → ⊥

-- no such line stands here, unless memory ran out
abbrev pub IsMissing : {A : Type 0} → (A → Type 0) → (A → Line) → List ℕ → FormFault → Type 0
IsMissing Is line bytes (Bad left) = (left ≡ length bytes) × HasNo Is line bytes
IsMissing Is line bytes Version = ⊥
IsMissing Is line bytes Memory = Unit {0}

-- the lines of states, none of them the current one
abbrev pub states_lines : List StateText → List Line
states_lines states = flat_map (state_lines false) states

-- the lines of such states stand in front of the rest
abbrev pub HasStates : List ℕ → List StateText → List ℕ → Type 0
HasStates bytes states rest =
    All IsStateText states × (bytes ≡ spells spell (states_lines states) ++ rest)

-- no bundle that may stand here does
abbrev pub HasNoBundle : Place → List ℕ → Type 0
HasNoBundle place rest = HasNo (λ b. May place (OfBundle b)) OfBundle rest

-- after states that follow this place no line stands that may, where so many bytes are left
pub record StopsAt (place : Place) (bytes : List ℕ) (left : ℕ) : Type 0 where
  pub states : List StateText
  pub rest : List ℕ
  pub has : HasStates bytes states rest
  pub size : left ≡ length rest
  pub none : IsNoLineHere (place_after place (states_lines states)) rest

-- reading states from this place stops so, unless memory ran out
abbrev pub Stops : Place → List ℕ → FormFault → Type 0
Stops place bytes (Bad left) = StopsAt place bytes left
Stops place bytes Version = ⊥
Stops place bytes Memory = Unit {0}
