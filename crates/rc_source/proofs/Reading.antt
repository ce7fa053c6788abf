-- How far the reading of entries and of sources has come.
use Rattle.std.proofs.Common.{◌≡◌, ◌∙◌, ℕ, ◌+◌, ◌<◌, ◌≤◌, List, [], ◌∷◌, ◌++◌, length, get_or, take}
use Rattle.std.proofs.Common.{drop, map, append_assoc, refl, sym, ap, subst, inr}
use Rattle.std.proofs.lemmas.List.{append-nil, drop_more, drop_all, take_more, take_all, map-append}
use Rattle.std.proofs.lemmas.List.Elements.{All-cons}
use Rattle.std.proofs.lemmas.Grind.{flat_map-append}
use Rattle.std.specs.List.{AllZip}
use Rattle.rc_source.specs.declared.fault.Flaw.{Flaw}
use Rattle.rc_source.specs.Tree.{Source}
use Rattle.rc_source.specs.Meaning.{Meaning, Means, MeanAll, all_entries}
use Rattle.rc_source.specs.Said.{meant}
use Rattle.rc_source.specs.Tests.{Listed, Passes, StopsAt, AllPass, StopsInTests, tests_of_entry}
use Rattle.rc_source.specs.Tests.{tests_of_entries, tests_of_source, all_tests, entries_of}
use Rattle.rc_source.proofs.Stopping.{IsLeft, left_whole, left_more, left_none, left_stops}

-- lists that fit, one after the other
AllZip-append : {A B : Type 0} (R : A → B → Type 0) (xs vs : List A) (ys ws : List B)
    → AllZip R xs ys → AllZip R vs ws → AllZip R (xs ++ vs) (ys ++ ws)
AllZip-append R [] vs [] ws h k = k
AllZip-append R [] vs (y ∷ ys) ws h k = absurd h
AllZip-append R (x ∷ xs) vs [] ws h k = absurd h
AllZip-append R (x ∷ xs) vs (y ∷ ys) ws h k = (h.0, AllZip-append R xs vs ys ws h.1 k)

-- the names of what entries mean are theirs
meant_is : (source : Source) (es : List (List ℕ)) (ms : List Meaning) → AllZip (Means source) es ms
    → meant ms ≡ es
meant_is source [] [] h = refl
meant_is source [] (m ∷ ms) h = absurd h
meant_is source (e ∷ es) [] h = absurd h
meant_is source (e ∷ es) (m ∷ ms) h =
    let first = h.0.name in let rest = meant_is source es ms h.1 in cc

-- the entries of a source mean what they mean beside it
beside : (source : Source) (es : List (List ℕ)) (ms : List Meaning) → AllZip (Means source) es ms
    → MeanAll (map (λ name. (source, name)) es) ms
beside source [] [] h = tt
beside source [] (m ∷ ms) h = absurd h
beside source (e ∷ es) [] h = absurd h
beside source (e ∷ es) (m ∷ ms) h = (h.0, beside source es ms h.1)

-- of these entries of a source so many are read, after what was found before
pub record EntriesRead (source : Source) (before found : List Meaning) (entries : List (List ℕ))
    (i : ℕ) : Type 0 where
  pub left : IsLeft Passes (tests_of_entries (meant before) source entries)
      (tests_of_entries (meant found) source (drop i entries))
  pub read : List Meaning
  pub more : found ≡ before ++ read
  pub means : AllZip (Means source) (take i entries) read

pub no_entry : (source : Source) (before : List Meaning) (entries : List (List ℕ))
    → EntriesRead source before before entries 0
no_entry source before entries = record {
  left = left_whole Passes (tests_of_entries (meant before) source entries);
  read = [];
  more = sym (append-nil before);
  means = tt;
}

module _ (source : Source) (before found : List Meaning) (entries : List (List ℕ)) (i : ℕ)
    (entry : List ℕ) (within : i < length entries) (here : entry ≡ get_or entries i entry)
    (so_far : EntriesRead source before found entries i) where
  next_left : IsLeft Passes (tests_of_entries (meant before) source entries)
      (tests_of_entry (meant found) source entry ++ tests_of_entries (meant found ++ entry ∷ [])
      source (drop (i + 1) entries))
  next_left =
      let first : drop i entries ≡ entry ∷ drop (i + 1) entries =
      drop_more entries i entry within ∙ ap (λ e. e ∷ drop (i + 1) entries) (sym here) in
      subst (λ es. IsLeft Passes (tests_of_entries (meant before) source entries)
      (tests_of_entries (meant found) source es)) first so_far.left

  -- one more entry passes
  pub one_entry : (m : Meaning) (new : List Meaning) → new ≡ found ++ m ∷ [] → Means source entry m
      → AllPass (tests_of_entry (meant found) source entry)
      → EntriesRead source before new entries (i + 1)
  one_entry m new added means passes =
      let names : meant found ++ entry ∷ [] ≡ meant new =
      sym (ap meant added ∙ map-append (λ m. m.name) found (m ∷ [])
      ∙ ap (λ name. meant found ++ name ∷ []) means.name) in record {
        left =
            subst (λ ns. IsLeft Passes (tests_of_entries (meant before) source entries)
            (tests_of_entries ns source (drop (i + 1) entries))) names
            (left_more Passes (tests_of_entries (meant before) source entries)
            (tests_of_entry (meant found) source entry)
            (tests_of_entries (meant found ++ entry ∷ []) source (drop (i + 1) entries))
            next_left passes);
        read = so_far.read ++ m ∷ [];
        more =
            added ∙ ap (λ ms. ms ++ m ∷ []) so_far.more ∙ append_assoc before so_far.read (m ∷ []);
        means =
            subst (λ es. AllZip (Means source) es (so_far.read ++ m ∷ []))
            (sym (take_more entries i entry within ∙ ap (λ e. take i entries ++ e ∷ []) (sym here)))
            (AllZip-append (Means source) (take i entries) (entry ∷ []) so_far.read (m ∷ [])
            so_far.means (means, tt));
      }

  -- reading stops at the next entry
  pub entry_stops : (flaw : Flaw) (name : List ℕ)
      → StopsInTests (tests_of_entry (meant found) source entry) flaw name
      → StopsInTests (tests_of_entries (meant before) source entries) flaw name
  entry_stops flaw name stops =
      left_stops Passes (tests_of_entries (meant before) source entries)
      (λ test. StopsAt test flaw × (name ≡ test.name)) (tests_of_entry (meant found) source entry)
      (tests_of_entries (meant found ++ entry ∷ []) source (drop (i + 1) entries)) next_left stops

module _ (source : Source) (before found : List Meaning) (i : ℕ)
    (all : length (entries_of source) ≤ i)
    (read : EntriesRead source before found (entries_of source) i) where
  -- when all entries are read, the source passes
  pub source_passes : AllPass (tests_of_source (meant before) source)
  source_passes =
      All-cons Passes (record { before = meant before; source = source; name = []; check = Listed })
      (tests_of_entries (meant before) source (entries_of source)) (λ flaw bad. bad)
      (left_none Passes (tests_of_entries (meant before) source (entries_of source))
      (subst (λ es. IsLeft Passes (tests_of_entries (meant before) source (entries_of source))
      (tests_of_entries (meant found) source es)) (drop_all i (entries_of source) all) read.left))

  -- and what was found means what they mean
  pub source_means : (ms : List Meaning) × (found ≡ before ++ ms)
      × AllZip (Means source) (entries_of source) ms
  source_means = (
    read.read,
    read.more,
    subst (λ es. AllZip (Means source) es read.read) (take_all i (entries_of source) all)
        read.means,
  )

-- reading stops in the entries of a source
pub entries_stop : (before : List (List ℕ)) (source : Source) (flaw : Flaw) (name : List ℕ)
    → StopsInTests (tests_of_entries before source (entries_of source)) flaw name
    → StopsInTests (tests_of_source before source) flaw name
entries_stop before source flaw name stops = inr (λ flaw bad. bad, stops)

-- of these sources so many are read
pub record SourcesRead (sources : List Source) (found : List Meaning) (i : ℕ) : Type 0 where
  pub left : IsLeft Passes (all_tests [] sources) (all_tests (meant found) (drop i sources))
  pub means : MeanAll (all_entries (take i sources)) found

module _ (sources : List Source) (found : List Meaning) (i : ℕ) (source : Source)
    (within : i < length sources) (here : source ≡ get_or sources i source)
    (so_far : SourcesRead sources found i) where
  next_source : IsLeft Passes (all_tests [] sources)
      (tests_of_source (meant found) source ++ all_tests (meant found ++ entries_of source)
      (drop (i + 1) sources))
  next_source =
      let first : drop i sources ≡ source ∷ drop (i + 1) sources =
      drop_more sources i source within ∙ ap (λ s. s ∷ drop (i + 1) sources) (sym here) in
      subst (λ ss. IsLeft Passes (all_tests [] sources) (all_tests (meant found) ss))
      first so_far.left

  -- one more source passes
  pub one_source : (new : List Meaning) → (ms : List Meaning) × (new ≡ found ++ ms)
      × AllZip (Means source) (entries_of source) ms
      → AllPass (tests_of_source (meant found) source)
      → SourcesRead sources new (i + 1)
  one_source new (ms, added, means) passes =
      let names : meant found ++ entries_of source ≡ meant new =
      sym (ap meant added ∙ map-append (λ m. m.name) found ms
      ∙ ap (λ ns. meant found ++ ns) (meant_is source (entries_of source) ms means)) in
      let entries : all_entries (take (i + 1) sources) ≡ all_entries (take i sources)
      ++ map (λ name. (source, name)) (entries_of source) =
      ap all_entries
      (take_more sources i source within ∙ ap (λ s. take i sources ++ s ∷ []) (sym here))
      ∙ flat_map-append (λ source. map (λ name. (source, name)) (entries_of source))
      (take i sources) (source ∷ [])
      ∙ ap (λ l. all_entries (take i sources) ++ l)
      (append-nil (map (λ name. (source, name)) (entries_of source))) in record {
        left =
            subst (λ ns. IsLeft Passes (all_tests [] sources) (all_tests ns (drop (i + 1) sources)))
            names
            (left_more Passes (all_tests [] sources) (tests_of_source (meant found) source)
            (all_tests (meant found ++ entries_of source) (drop (i + 1) sources))
            next_source passes);
        means = subst (λ ms. MeanAll (all_entries (take (i + 1) sources)) ms) (sym added)
            (subst (λ es. MeanAll es (found ++ ms)) (sym entries)
            (AllZip-append (λ entry m. Means entry.0 entry.1 m) (all_entries (take i sources))
            (map (λ name. (source, name)) (entries_of source)) found ms so_far.means
            (beside source (entries_of source) ms means)));
      }

  -- reading stops in the next source
  pub source_stops : (flaw : Flaw) (name : List ℕ)
      → StopsInTests (tests_of_source (meant found) source) flaw name
      → StopsInTests (all_tests [] sources) flaw name
  source_stops flaw name stops =
      left_stops Passes (all_tests [] sources) (λ test. StopsAt test flaw × (name ≡ test.name))
      (tests_of_source (meant found) source)
      (all_tests (meant found ++ entries_of source) (drop (i + 1) sources)) next_source stops

module _ (sources : List Source) (found : List Meaning) (i : ℕ) (all : length sources ≤ i)
    (read : SourcesRead sources found i) where
  -- when all sources are read, all tests pass
  pub sources_pass : AllPass (all_tests [] sources)
  sources_pass =
      left_none Passes (all_tests [] sources)
      (subst (λ ss. IsLeft Passes (all_tests [] sources) (all_tests (meant found) ss))
      (drop_all i sources all) read.left)

  -- and what was found means what the entries mean
  pub sources_mean : MeanAll (all_entries sources) found
  sources_mean = subst (λ ss. MeanAll (all_entries ss) found) (take_all i sources all) read.means
