-- The names that a file and a folder give, as they are put together.
use Rattle.std.proofs.Common.{◌≡◌, ◌↔◌, ◌⊎◌, ◌∙◌, ⊎_elim, inl, inr, ℕ, ◌+◌, ◌<◌, Bool, true, false}
use Rattle.std.proofs.Common.{not, All, List, [], ◌∷◌, ◌++◌, length, get_or, take, map, Contains}
use Rattle.std.proofs.Common.{refl, sym, ap, subst, true≢false, Result, Ok, Err}
use Rattle.std.specs.Result.{IfOk, OnOk}
use Rattle.std.proofs.Math.ListN.{get_or-map}
use Rattle.std.proofs.lemmas.List.{length-map}
use Rattle.std.proofs.lemmas.List.Elements.{All-contains, Contains-get_or, Contains-append_cases}
use Rattle.std.proofs.lemmas.List.Elements.{Contains-append_left, Contains-append_right}
use Rattle.rc_model.specs.Names.{IsInByteOrder, IsName, IsBefore}
use Rattle.rc_source.specs.declared.fault.Flaw.{Flaw}
use Rattle.rc_source.specs.declared.fault.Flaw.TheVariants.{BadName}
use Rattle.rc_source.specs.Files.{FilePasses, StopsAtFile}
use Rattle.rc_source.specs.Kinds.{is_hidden, NameEach}
use Rattle.rc_source.specs.Tree.{Source, AreEntries, IsSource, names_next}
use Rattle.rc_source.specs.Tests.{entries_of}
use Rattle.rc_source.specs.Meaning.{ListsNames}
use Rattle.rc_source.proofs.Members.{Contains-here}
use Rattle.rc_model.proofs.ByteOrder.{same_names}
use Rattle.rc_model.proofs.Members.{none_contained, only}
use Rattle.rc_model.proofs.Mapped.{mapped_next}
use Rattle.rc_source.proofs.Filtering.{Contains-filter}
use Rattle.std.proofs.lemmas.List.Kept.{AllPairs-filter}

-- the names of one list
pub lists_one : (P : List ℕ → Type 0) (old new names : List (List ℕ)) → old ≡ [] → names ≡ new
    → IsInByteOrder new
    → ((name : List ℕ) → Contains new name ↔ (Contains old name ⊎ P name)) → ListsNames P names
lists_one P old new names empty e order same = record {
  order = subst IsInByteOrder (sym e) order;
  same = λ name. (
    λ there. ⊎_elim (λ none. absurd (none_contained name (subst (λ l. Contains l name) empty none)))
        (λ p. p) ((same name).0 (subst (λ l. Contains l name) e there)),
    λ p. subst (λ l. Contains l name) (sym e) ((same name).1 (inr p)),
  );
}

-- the names of two lists
pub lists_both : (P Q : List ℕ → Type 0) (old mid new names : List (List ℕ)) → old ≡ []
    → names ≡ new → IsInByteOrder new
    → ((name : List ℕ) → Contains mid name ↔ (Contains old name ⊎ P name))
    → ((name : List ℕ) → Contains new name ↔ (Contains mid name ⊎ Q name))
    → ListsNames (λ name. P name ⊎ Q name) names
lists_both P Q old mid new names empty e order first second =
    lists_one (λ name. P name ⊎ Q name) old new names empty e order (λ name. (
      λ there. ⊎_elim
          (λ earlier. ⊎_elim (λ none. inl none) (λ p. inr (inl p)) ((first name).0 earlier))
          (λ q. inr (inr q))
          ((second name).0 there),
      λ either. ⊎_elim
          (λ none. (second name).1 (inl ((first name).1 (inl none))))
          (λ some. ⊎_elim (λ p. (second name).1 (inl ((first name).1 (inr p))))
          (λ q. (second name).1 (inr q)) some)
          either,
    ))

-- one more of what is shown is pushed
pub push_shown : {X : Type 0} (f : X → List ℕ) (xs : List X) (i : ℕ) (x : X)
    (old new : List (List ℕ)) (name : List ℕ) → i < length xs → x ≡ get_or xs i x
    → new ≡ old ++ name ∷ [] → old ≡ take i (map f xs) → name ≡ f x → new ≡ take (i + 1) (map f xs)
push_shown f xs i x old new name within here pushed before same =
    pushed ∙ ap (λ l. l ++ name ∷ []) before ∙ ap (λ n. take i (map f xs) ++ n ∷ []) same
    ∙ sym (mapped_next f xs i x within here)

-- what is shown at a place
pub shown_at : {X : Type 0} (f : X → List ℕ) (xs : List X) (i : ℕ) (x : X) (e : List ℕ)
    → x ≡ get_or xs i x → e ≡ f x → e ≡ get_or (map f xs) i e
shown_at f xs i x e here same =
    subst (λ n. n ≡ get_or (map f xs) i n) (sym same) (ap f here ∙ sym (get_or-map f xs i x))

-- so it is shown
pub is_shown : {X : Type 0} (f : X → List ℕ) (xs : List X) (i : ℕ) (x : X) → i < length xs
    → x ≡ get_or xs i x → Contains (map f xs) (f x)
is_shown f xs i x within here =
    subst (Contains (map f xs)) (sym (shown_at f xs i x (f x) here refl))
    (Contains-get_or (map f xs) i (f x) (subst (λ n. i < n) (sym (length-map xs f)) within))

-- one more name is looked at, and put in unless it is hidden
pub seen_more : (mid new names : List (List ℕ)) (i : ℕ) (name : List ℕ)
    → take (i + 1) names ≡ take i names ++ name ∷ []
    → ((text : List ℕ)
    → Contains mid text ↔ (Contains (take i names) text × (is_hidden text ≡ false)))
    → ((text : List ℕ)
    → Contains new text ↔ (Contains mid text ⊎ ((text ≡ name) × (is_hidden name ≡ false))))
    → (text : List ℕ)
    → Contains new text ↔ (Contains (take (i + 1) names) text × (is_hidden text ≡ false))
seen_more mid new names i name e before adds text = (
  λ there. ⊎_elim
      (λ earlier. let both = (before text).0 earlier in (
        subst (λ l. Contains l text) (sym e)
            (Contains-append_left (take i names) (name ∷ []) text both.0),
        both.1,
      ))
      (λ last. (
        subst (λ l. Contains l text) (sym e)
            (Contains-append_right (take i names) (name ∷ []) text
            (Contains-here name [] text last.0)),
        ap is_hidden last.0 ∙ last.1,
      ))
      ((adds text).0 there),
  λ both. ⊎_elim
      (λ earlier. (adds text).1 (inl ((before text).1 (earlier, both.1))))
      (λ last. let same = only name text last in
      (adds text).1 (inr (same, sym (ap is_hidden same) ∙ both.1)))
      (Contains-append_cases (take i names) (name ∷ []) text
      (subst (λ l. Contains l text) e both.0)),
)

not_true : (b : Bool) → not b ≡ true ↔ (b ≡ false)
not_true true = (λ e. absurd (true≢false (sym e)), λ e. absurd (true≢false e))
not_true false = (λ _. refl, λ _. refl)

-- what is seen of the names of the directories is what is read
pub entries_seen : (source : Source) (names seen : List (List ℕ)) → IsSource source
    → AreEntries source names → IsInByteOrder seen
    → ((name : List ℕ) → Contains seen name ↔ (Contains names name × (is_hidden name ≡ false)))
    → seen ≡ entries_of source
entries_seen source names seen is_source entries order same =
    same_names seen (entries_of source) order
    (AllPairs-filter IsBefore (λ name. not (is_hidden name)) source.entries is_source.entries)
    (λ name. (
      λ there. let both = (same name).0 there in
          (Contains-filter (λ n. not (is_hidden n)) source.entries name).1
          ((entries name).0 both.0, (not_true (is_hidden name)).1 both.1),
      λ there. let both = (Contains-filter (λ n. not (is_hidden n)) source.entries name).0 there in
          (same name).1 ((entries name).1 both.0, (not_true (is_hidden name)).0 both.1),
    ))

-- what is seen of a folder's names is what it gives
pub folder_gives : (in_folder shown names : List (List ℕ))
    → ((name : List ℕ) → Contains shown name ↔ Contains in_folder name)
    → ((name : List ℕ) → Contains names name ↔ (Contains shown name × (is_hidden name ≡ false)))
    → (name : List ℕ) → Contains names name ↔ (Contains in_folder name × (is_hidden name ≡ false))
folder_gives in_folder shown names listing visible name = (
  λ there. let both = (visible name).0 there in ((listing name).0 both.0, both.1),
  λ both. (visible name).1 ((listing name).1 both.0, both.1),
)

-- a folder whose names are names passes
pub folder_passes : (source : Source) (entry folder : List ℕ) (names : List (List ℕ))
    → ((name : List ℕ)
    → Contains names name
    ↔ (Contains (names_next source entry folder) name × (is_hidden name ≡ false)))
    → All IsName names → FilePasses source entry (folder, NameEach)
folder_passes source entry folder names same each flaw bad =
    let (name, there, shown, not_name) = bad.1 in
    not_name (All-contains IsName names name each ((same name).1 (there, shown)))

-- reading stops at a name in a folder that is none
pub folder_stops : (source : Source) (entry folder : List ℕ) (shown : List (List ℕ))
    → ((name : List ℕ) → Contains shown name ↔ Contains (names_next source entry folder) name)
    → (flaw : Flaw)
    → flaw ≡ BadName → (each : List ℕ) × Contains shown each × (is_hidden each ≡ false)
    × (IsName each → ⊥) → StopsAtFile source entry (folder, NameEach) flaw
folder_stops source entry folder shown listing flaw told (each, there, seen, not_name) =
    inl (told, (each, (listing each).0 there, seen, not_name))

-- what both facts of an answer give
pub on_ok_both : {X E : Type 0} (r : Result X E) (P Q : X → Type 0) (S : Type 0)
    → ((x : X) → P x → Q x → S) → IfOk r P → IfOk r Q → OnOk r S
on_ok_both (Ok x) P Q S f p q = f x p q
on_ok_both (Err e) P Q S f p q = tt
