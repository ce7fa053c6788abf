-- What the parts of reading an entry say of its tests.
use Rattle.std.proofs.Common.{◌≡◌, ◌≢◌, ◌∙◌, ⊎_elim, inl, inr, ℕ, List, ◌∷◌, map, Contains, refl}
use Rattle.std.proofs.Common.{sym, subst}
use Rattle.std.proofs.lemmas.List.Elements.{All-cons, All-map}
use Rattle.rc_model.specs.Names.{IsName}
use Rattle.rc_source.specs.declared.fault.Flaw.{Flaw}
use Rattle.rc_source.specs.declared.fault.Flaw.TheVariants.{Io, BadName, Twice, Memory}
use Rattle.rc_source.specs.Tree.{Source}
use Rattle.rc_source.specs.Files.{FilePasses, StopsAtFile, FilesPass, StopsInFiles}
use Rattle.rc_source.specs.Tests.{Check, Named, New, File, Test, Passes, StopsAt, AllPass}
use Rattle.rc_source.specs.Tests.{StopsInTests, IsNoNewName, files_of_entry, tests_of_entry}
use Rattle.rc_source.proofs.Stopping.{stops_map}

-- the flaw of a name is none of the device
pub asks_no_device : (before : List (List ℕ)) (name : List ℕ) (flaw : Flaw)
    → (flaw ≢ Memory → IsNoNewName before name flaw) → flaw ≡ Io → ⊥
asks_no_device before name flaw told io =
    ⊎_elim (λ bad. let e : BadName ≡ Io = sym bad.0 ∙ io in absurd cc)
    (λ twice. let e : Twice ≡ Io = sym twice.0 ∙ io in absurd cc)
    (told (λ memory. let e : Io ≡ Memory = sym io ∙ memory in absurd cc))

module _ (before : List (List ℕ)) (source : Source) (name : List ℕ) where
  -- a test of the entry
  abbrev test_of : Check → Test
  test_of check = record { before = before; source = source; name = name; check = check }

  name_passes : IsName name → Passes (test_of Named)
  name_passes is flaw bad = bad.1 is

  new_passes : (Contains before name → ⊥) → Passes (test_of New)
  new_passes free flaw bad = free bad.1

  files_pass : FilesPass source name (files_of_entry source name)
      → AllPass (map test_of (map File (files_of_entry source name)))
  files_pass all =
      All-map Passes test_of (map File (files_of_entry source name))
      (All-map (λ check. Passes (test_of check)) File (files_of_entry source name) all)

  -- the entry passes
  pub entry_passes : IsName name → (Contains before name → ⊥)
      → FilesPass source name (files_of_entry source name)
      → AllPass (tests_of_entry before source name)
  entry_passes is free all =
      All-cons Passes (test_of Named) (map test_of (New ∷ map File (files_of_entry source name)))
      (name_passes is)
      (All-cons Passes (test_of New) (map test_of (map File (files_of_entry source name)))
      (new_passes free) (files_pass all))

  -- reading stops at its name
  stops_at_name : (flaw : Flaw) → flaw ≡ BadName → (IsName name → ⊥)
      → StopsInTests (tests_of_entry before source name) flaw name
  stops_at_name flaw told bad = inl (inl (told, bad), refl)

  -- since its name is not new
  stops_as_twice : IsName name → Contains before name
      → StopsInTests (tests_of_entry before source name) Twice name
  stops_as_twice is there = inr (name_passes is, inl (inl (refl, there), refl))

  -- by either flaw of a name
  pub stops_at_new_name : (flaw : Flaw) → IsNoNewName before name flaw
      → StopsInTests (tests_of_entry before source name) flaw name
  stops_at_new_name flaw (inl bad) = stops_at_name flaw bad.0 bad.1
  stops_at_new_name flaw (inr twice) =
      subst (λ f. StopsInTests (tests_of_entry before source name) f name) (sym twice.0)
      (stops_as_twice twice.1 twice.2)

  -- in its files
  pub stops_in_files : (flaw : Flaw) → IsName name → (Contains before name → ⊥)
      → StopsInFiles source name (files_of_entry source name) flaw
      → StopsInTests (tests_of_entry before source name) flaw name
  stops_in_files flaw is free stops = inr (
    name_passes is,
    inr (
      new_passes free,
      stops_map (λ check. Passes (test_of check))
          (λ check. StopsAt (test_of check) flaw × (name ≡ name)) Passes
          (λ test. StopsAt test flaw × (name ≡ test.name)) test_of (λ check h. h) (λ check h. h)
          (map File (files_of_entry source name))
          (stops_map (FilePasses source name) (λ file. StopsAtFile source name file flaw)
          (λ check. Passes (test_of check)) (λ check. StopsAt (test_of check) flaw × (name ≡ name))
          File (λ file h. h)
          (λ file h. (⊎_elim (λ here. inl here) (λ io. inr (tt, io)) h, refl))
          (files_of_entry source name) stops),
    ),
  )
