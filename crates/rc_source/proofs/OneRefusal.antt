-- What is refused is refused in one way.
use Rattle.std.proofs.Common.{◌≡◌, ◌≢◌, ◌∙◌, ⊎_elim, ℕ, List, [], ◌∷◌, Option, Some, None, sym}
use Rattle.std.proofs.lemmas.List.Elements.{All-head, All-tail}
use Rattle.rc_source.specs.declared.fault.Flaw.{Flaw}
use Rattle.rc_source.specs.declared.fault.Flaw.TheVariants.{Io}
use Rattle.rc_source.specs.Tree.{Source, file_at}
use Rattle.rc_source.specs.Kinds.{Holds, KindWord, UpText, DownText, Anything, Limit, Flag, Names}
use Rattle.rc_source.specs.Kinds.{NameEach, OneName}
use Rattle.rc_source.specs.Files.{IsNoText, IsBadFile, IsReadFlaw, IsFileFlaw}
use Rattle.rc_source.specs.Tests.{Test, Check, Listed, Named, New, File, Passes, StopsAt, AllPass}
use Rattle.rc_source.specs.Tests.{StopsInTests, IsCheckFlaw}

-- bytes that are not looked into have one flaw
one_no_text : (bytes : List ℕ) (a b : Flaw) → IsNoText bytes a → IsNoText bytes b → a ≡ b
one_no_text bytes a b x y = ⊎_elim
    (λ long. ⊎_elim (λ too. long.0 ∙ sym too.0) (λ not. absurd (not.1 long.1)) y)
    (λ no. ⊎_elim (λ long. absurd (no.1 long.1)) (λ too. no.0 ∙ sym too.0) y) x

-- and none that is looked into
not_both : (bytes : List ℕ) (holds : Holds) (a b : Flaw) → IsNoText bytes a
    → IsBadFile holds bytes b → a ≡ b
not_both bytes holds a b x y = ⊎_elim
    (λ no. one_no_text bytes a b x no)
    (λ wrong. ⊎_elim (λ long. absurd (wrong.1 long.1)) (λ no. absurd (no.2 wrong.2)) x) y

one_bad_file : (holds : Holds) (bytes : List ℕ) (a b : Flaw) → IsBadFile holds bytes a
    → IsBadFile holds bytes b → a ≡ b
one_bad_file holds bytes a b x y = ⊎_elim
    (λ no. not_both bytes holds a b no y)
    (λ wrong. ⊎_elim (λ no. absurd (⊎_elim (λ long. wrong.1 long.1) (λ not. not.2 wrong.2) no))
    (λ too. wrong.0 ∙ sym too.0) y) x

one_read : (holds : Holds) (o : Option (List ℕ)) (a b : Flaw) → IsReadFlaw holds o a
    → IsReadFlaw holds o b → a ≡ b
one_read holds None a b x y = cc
one_read holds (Some bytes) a b x y = one_bad_file holds bytes a b x y

-- a file has one flaw
one_file : (source : Source) (name : List ℕ) (file : List ℕ) (holds : Holds) (a b : Flaw)
    → IsFileFlaw source name (file, holds) a → IsFileFlaw source name (file, holds) b → a ≡ b
one_file source name file KindWord a b x y = one_read KindWord (file_at source name file) a b x y
one_file source name file UpText a b x y = one_read UpText (file_at source name file) a b x y
one_file source name file DownText a b x y = one_read DownText (file_at source name file) a b x y
one_file source name file Anything a b x y = x.1 ∙ sym y.1
one_file source name file Limit a b x y = one_read Limit (file_at source name file) a b x y
one_file source name file Flag a b x y = absurd x
one_file source name file Names a b x y = one_read Names (file_at source name file) a b x y
one_file source name file NameEach a b x y = x.0 ∙ sym y.0
one_file source name file OneName a b x y = one_read OneName (file_at source name file) a b x y

-- a check has one flaw
one_check : (test : Test) (check : Check) (a b : Flaw) → IsCheckFlaw test check a
    → IsCheckFlaw test check b → a ≡ b
one_check test Listed a b x y = absurd x
one_check test Named a b x y = x.0 ∙ sym y.0
one_check test New a b x y = x.0 ∙ sym y.0
one_check test (File (file, holds)) a b x y = one_file test.source test.name file holds a b x y

-- a stop that no device made is a flaw
by_files : (test : Test) (flaw : Flaw) → StopsAt test flaw → flaw ≢ Io
    → IsCheckFlaw test test.check flaw
by_files test flaw stops other = ⊎_elim (λ here. here) (λ io. absurd (other io.1)) stops

pub by_device : (tests : List Test) (flaw : Flaw) (name : List ℕ) → AllPass tests
    → StopsInTests tests flaw name → flaw ≡ Io
by_device [] flaw name all stops = absurd stops
by_device (test ∷ tests) flaw name all stops = ⊎_elim
    (λ here. ⊎_elim (λ bad. absurd (All-head Passes test tests all flaw bad)) (λ io. io.1) here.0)
    (λ later. by_device tests flaw name (All-tail Passes test tests all) later.1) stops

pub one_refusal : (tests : List Test) (a b : Flaw) (x y : List ℕ) → StopsInTests tests a x
    → StopsInTests tests b y → a ≢ Io → b ≢ Io → (a ≡ b) × (x ≡ y)
one_refusal [] a b x y first second not_a not_b = absurd first
one_refusal (test ∷ tests) a b x y first second not_a not_b = ⊎_elim
    (λ here. ⊎_elim
    (λ too. (
      one_check test test.check a b (by_files test a here.0 not_a)
          (by_files test b too.0 not_b),
      here.1 ∙ sym too.1,
    ))
    (λ later. absurd (later.0 a (by_files test a here.0 not_a))) second)
    (λ later. ⊎_elim
    (λ here. absurd (later.0 b (by_files test b here.0 not_b)))
    (λ too. one_refusal tests a b x y later.1 too.1 not_a not_b) second)
    first
