-- What is defined of a name, where each name is that of one meaning.
use Rattle.std.proofs.Common.{◌≡◌, ◌≢◌, ◌∙◌, ◌<◌, ℕ, List, [], length, get_or}
use Rattle.std.proofs.Common.{slice_get, Contains, AllPairs, Some, None, sym, ap, subst}
use Rattle.std.proofs.Common.{arith}
use Rattle.std.proofs.lemmas.Option.{slice_get_within, get_or_from_slice_get}
use Rattle.rc_source.specs.Meaning.{Meaning, AreMeanings, IsMeaning}
use Rattle.rc_compile.specs.Pipelines.{IsService, WritesTo, ReadsFrom}

-- two meanings at different places have different names
pub apart : (ms : List Meaning) → AllPairs (λ a b. a.name ≢ b.name) ms → (i j : ℕ) (a b : Meaning)
    → slice_get ms i ≡ Some a → slice_get ms j ≡ Some b → i < j → a.name ≢ b.name
apart ms distinct i j a b at_a at_b low same =
    let within : j < length ms = slice_get_within ms j b at_b in
    let here : get_or ms i a ≡ a = get_or_from_slice_get ms i a a at_a in
    let there : get_or ms j a ≡ b = get_or_from_slice_get ms j b a at_b in
    distinct i j a low within (ap (λ m. m.name) here ∙ same ∙ ap (λ m. m.name) (sym there))

module _ (ms : List Meaning) (are : AreMeanings ms) where
  pub meaning_is : (m : Meaning) → Contains ms m → IsMeaning m
  meaning_is m (k, within, here) = subst IsMeaning here (are.each k m within)

  -- what has a pipe is a service
  pub writer_is_service : (a b : List ℕ) → WritesTo ms a b → IsService ms a
  writer_is_service a b (m, there, named, writes) = (
    m,
    there,
    named,
    λ bundle. let none : m.producer_for ≡ None =
        ((meaning_is m there).bundle bundle).0 in let bad : None ≡ Some b = sym none ∙ writes in cc,
  )

  pub reader_is_service : (a b : List ℕ) → ReadsFrom ms a b → IsService ms a
  reader_is_service a b (m, there, named, reads) = (
    m,
    there,
    named,
    λ bundle.
        let none : m.consumer_for ≡ [] = ((meaning_is m there).bundle bundle).3 in
        let empty : Contains [] b = subst (λ l. Contains l b) none reads in
        let bad : empty.0 < 0 = empty.1 in omega arith,
  )
