-- The tables show of an entry what it has.
use Rattle.std.proofs.Common.{◌≡◌, ◌≢◌, ◌∙◌, ◌<◌, ◌⊎◌, ◌↔◌, ⊎_elim, inl, inr, ℕ, List, slice_get}
use Rattle.std.proofs.Common.{Contains, Some, refl, sym, ap, subst, arith}
use Rattle.std.proofs.lemmas.Bool.{cases_lt}
use Rattle.std.proofs.lemmas.Option.{same_Some}
use Rattle.rc_model.specs.declared.Kind.TheVariants.{Longrun, Bundle}
use Rattle.rc_compile.specs.Rows.{rows}
use Rattle.rc_model.proofs.Places.{contains_at, place_of}
use Rattle.rc_source.specs.Meaning.{Meaning, AreMeanings}
use Rattle.rc_compile.specs.Along.{IsLeast}
use Rattle.rc_compile.specs.Pipelines.{IsService, IsLongrun, WritesTo, ReadsFrom, NamesPipeline}
use Rattle.rc_compile.specs.Standing.{IsKnown}
use Rattle.rc_compile.proofs.Meanings.{only_one, longrun_is_service, kind_cases}
use Rattle.rc_compile.specs.declared.book.Book.{Book}
use Rattle.rc_compile.specs.declared.scan.Sought.TheVariants.{Unknown}
use Rattle.rc_compile.specs.declared.tables.Which.TheVariants.{Bundles}
use Rattle.rc_compile.specs.Given.{Gives}
use Rattle.rc_compile.specs.CompileFaults.{HasWrongType, HasNoMatch, HasTakenName, HasUnknown}
use Rattle.rc_compile.specs.CompileFaults.{HasSomeUnknown, Mentions}
use Rattle.rc_compile.specs.Book.{IsBook, IsShared, IsSought, ShowsUnknown, HasNamed, JoinsOther}
use Rattle.rc_compile.specs.Book.{IsUnmatched, IsTaken}
use Rattle.rc_compile.proofs.Defined.{apart, writer_is_service, reader_is_service}

pub same_least : (P Q : List ℕ → Type 0) → ((x : List ℕ) → P x ↔ Q x) → (x : List ℕ)
    → IsLeast P x → IsLeast Q x
same_least P Q same x (holds, least) =
    ((same x).0 holds, λ other q before. least other ((same other).1 q) before)

module _ (ms : List Meaning) (book : Book) (are : AreMeanings ms) (is : IsBook ms book) where
  -- a name stands for something where one of the tables has it
  pub known_same : (name : List ℕ) → (Contains book.services name ⊎ Contains book.bundles name)
      ↔ IsKnown ms name
  known_same name = (
    λ there. ⊎_elim (λ s. inl ((is.service name).0 s)) (λ b. inr ((is.bundle name).0 b)) there,
    λ known. ⊎_elim (λ s. inl ((is.service name).1 s)) (λ b. inr ((is.bundle name).1 b)) known,
  )

  in_services : (name : List ℕ) → IsService ms name → Contains book.services name
  in_services name service = (is.service name).1 service

  longrun_same : (name : List ℕ) → HasNamed book.services book.longruns name ↔ IsLongrun ms name
  longrun_same name = (
    λ (s, at, has). let (m, there, (kind, at_m)) = (is.longrun s).0 has in
        (m, there, same_Some m.name name (sym at_m ∙ at), kind),
    λ (m, there, called, kind).
        let at = place_of book.services name
        (in_services name (longrun_is_service ms name (m, there, called, kind))) in (
          at.0,
          at.1,
          (is.longrun at.0).1 (m, there, (kind, at.1 ∙ ap (λ (x : List ℕ). Some x) (sym called))),
        ),
  )

  -- unknown names of an entry
  pub unknown_same : (m : Meaning) → Contains ms m → (name : List ℕ)
      → (Mentions m name × (Contains book.services name ⊎ Contains book.bundles name → ⊥))
      ↔ HasUnknown ms m.name name
  unknown_same m within name = (
    λ (mentions, not). ((m, within, refl, mentions), λ known. not ((known_same name).1 known)),
    λ (defined, not). (
      only_one ms are (λ x. Mentions x name) m within defined,
      λ there. not ((known_same name).0 there),
    ),
  )

  pub type_same : (m : Meaning) → Contains ms m → JoinsOther book.services book.longruns m
      ↔ HasWrongType ms m.name
  type_same m within = (
    λ (t, names, not). (
      t,
      ⊎_elim (λ w. inl (m, within, refl, w)) (λ r. inr (m, within, refl, r)) names,
      λ both. not (
        only_one ms are (λ x. x.kind ≡ Longrun) m within both.0,
        (longrun_same t).1 both.1,
      ),
    ),
    λ (t, names, not). (
      t,
      ⊎_elim (λ w. inl (only_one ms are (λ x. x.producer_for ≡ Some t) m within w))
          (λ r. inr (only_one ms are (λ x. Contains x.consumer_for t) m within r)) names,
      λ both. not ((m, within, refl, both.0), (longrun_same t).0 both.1),
    ),
  )

  matched_same : (a : List ℕ) → HasNamed book.services book.matched a
      ↔ ((t : List ℕ) × WritesTo ms a t × ReadsFrom ms t a)
  matched_same a = (
    λ (s, at, has).
        let (m, there, (name, reads, at_name, pair)) = (is.matched s).0 has in
        let one : name ≡ a = same_Some name a (sym at_name ∙ at) in (
          m.name,
          subst (λ x. WritesTo ms x m.name) one ((is.writes name m.name).0 pair).2,
          (m, there, refl, subst (Contains m.consumer_for) one reads),
        ),
    λ (t, writes, (m, there, called, reads)).
        let own : WritesTo ms a m.name = subst (WritesTo ms a) (sym called) writes in
        let in_a = in_services a (writer_is_service ms are a m.name own) in
        let at = place_of book.services a in_a in (
          at.0,
          at.1,
          (is.matched at.0).1 (
            m,
            there,
            (
              a,
              reads,
              at.1,
              (is.writes a m.name).1 (
                in_a,
                in_services m.name
                    (reader_is_service ms are m.name a (m, there, refl, reads)),
                own,
              ),
            ),
          ),
        ),
  )

  pub match_same : (m : Meaning) → Contains ms m
      → IsUnmatched book.services (rows book.feeds.items) book.matched m ↔ HasNoMatch ms m.name
  match_same m within = (
    λ (t, cases). (
      t,
      ⊎_elim
          (λ (writes, not).
          let w : WritesTo ms m.name t = (m, within, refl, writes) in
          inl (w, λ reads. not ((matched_same m.name).1 (t, w, reads))))
          (λ (reads, not).
          let r : ReadsFrom ms m.name t = (m, within, refl, reads) in
          inr (
            r,
            λ writes. not
                ((is.writes t m.name).1 (
                  in_services t (writer_is_service ms are t m.name writes),
                  in_services m.name (reader_is_service ms are m.name t r),
                  writes,
                )),
          ))
          cases,
    ),
    λ (t, cases). (
      t,
      ⊎_elim
          (λ (writes, not).
          let here : m.producer_for ≡ Some t =
          only_one ms are (λ x. x.producer_for ≡ Some t) m within writes in
          inl (
            here,
            λ named.
                let (other, also, reads) = (matched_same m.name).0 named in
                let there : m.producer_for ≡ Some other =
                only_one ms are (λ x. x.producer_for ≡ Some other) m within also in
                not (subst (λ x. ReadsFrom ms x m.name) (same_Some other t (sym there ∙ here))
                reads),
          ))
          (λ (reads, not). inr (
            only_one ms are (λ x. Contains x.consumer_for t) m within reads,
            λ pair. not ((is.writes t m.name).0 pair).2,
          ))
          cases,
    ),
  )

  -- two meanings that give a name share it
  shared_by : (a b : Meaning) (name : List ℕ) → Contains ms a → Contains ms b → (a ≢ b)
      → Gives Bundles a name → Gives Bundles b name → IsShared ms name
  shared_by a b name in_a in_b differ gives_a gives_b =
      let at_a = place_of ms a in_a in
      let at_b = place_of ms b in_b in
      ⊎_elim
      (λ (low : at_a.0 < at_b.0). (at_a.0, at_b.0, a, b, low, at_a.1, at_b.1, gives_a, gives_b))
      (λ above. ⊎_elim
      (λ (low : at_b.0 < at_a.0). (at_b.0, at_a.0, b, a, low, at_b.1, at_a.1, gives_b, gives_a))
      (λ below.
      let one : at_b.0 ≡ at_a.0 = omega arith in
      let there : slice_get ms at_a.0 ≡ Some b = subst (λ n. slice_get ms n ≡ Some b) one at_b.1 in
      let here : slice_get ms at_a.0 ≡ Some a = at_a.1 in
      absurd (differ cc))
      (cases_lt at_b.0 at_a.0))
      (cases_lt at_a.0 at_b.0)

  -- another one that gives a name takes it
  taken_by : (m x : Meaning) (name : List ℕ) → Contains ms m → Contains ms x → (x.name ≢ m.name)
      → NamesPipeline m name → Gives Bundles x name → HasTakenName ms m.name
  taken_by m x name in_m in_x differ names gives = (
    name,
    (m, in_m, refl, names),
    ⊎_elim
        (λ (kind, named). inl (x, in_x, named, tt))
        (λ also. inr (x.name, differ, (x, in_x, refl, also)))
        gives,
  )

  pub taken_same : (m : Meaning) → Contains ms m → IsTaken book.services book.bundles book.shared m
      ↔ HasTakenName ms m.name
  taken_same m within = (forth, back)
    where
      forth : IsTaken book.services book.bundles book.shared m → HasTakenName ms m.name
      forth (name, names, inl there) =
          let s = (is.service name).0 there in
          (name, (m, within, refl, names), inl (s.0, s.1, s.2, tt))
      forth (name, names, inr there) = two ((is.twice name).0 there)
        where
          two : IsShared ms name → HasTakenName ms m.name
          two (i, j, a, b, low, at_a, at_b, gives_a, gives_b) =
              let at = place_of ms m within in
              let differ = apart ms are.distinct in
              ⊎_elim
              (λ (below : i < at.0). taken_by m a name within (contains_at ms i a at_a)
              (differ i at.0 a m at_a at.1 below) names gives_a)
              (λ above.
              let lower : at.0 < j = omega arith in
              taken_by m b name within (contains_at ms j b at_b)
              (λ same. differ at.0 j m b at.1 at_b lower (sym same)) names gives_b)
              (cases_lt i at.0)

      back : HasTakenName ms m.name → IsTaken book.services book.bundles book.shared m
      back (name, defined, cases) =
          let names = only_one ms are (λ x. NamesPipeline x name) m within defined in (
            name,
            names,
            ⊎_elim
                (λ (x, there, named, any). ⊎_elim
                (λ kind. inr
                ((is.twice name).1
                (shared_by x m name there within
                (λ same. let bad : Bundle ≡ Longrun = sym kind ∙ ap (λ y. y.kind) same
                ∙ names.longrun in cc) (inl (kind, named)) (inr names))))
                (λ kind. inl (in_services name (x, there, named, kind)))
                (kind_cases x.kind))
                (λ (other, differ, (x, there, named, also)).
                inr ((is.twice name).1
                (shared_by x m name there within
                (λ same. differ (sym named ∙ ap (λ y. y.name) same)) (inr also) (inr names))))
                cases,
          )

  -- an entry has a name that stands for nothing where the tables show it
  pub shown_unknown : (m : Meaning) → Contains ms m → ShowsUnknown book m ↔ HasSomeUnknown ms m.name
  shown_unknown m within = (
    λ (name, mentions, not). (name, (unknown_same m within name).0 (mentions, not)),
    λ (name, unknown). let both = (unknown_same m within name).1 unknown in (name, both.0, both.1),
  )

  -- those of which the tables show one
  pub entries_unknown : (s : List ℕ) → HasSomeUnknown ms s
      → (m : Meaning) × Contains ms m × ((m.name ≡ s) × ShowsUnknown book m)
  entries_unknown s (name, ((m, there, named, mentions), not)) =
      (m, there, (named, (name, mentions, λ known. not ((known_same name).0 known))))

module _ (ms : List Meaning) where
  -- those that are sought for such a name
  pub sought_unknown : (s : List ℕ) → IsSought ms Unknown s ↔ HasSomeUnknown ms s
  sought_unknown s = (
    λ (m, there, named, has). subst (HasSomeUnknown ms) named has,
    λ (name, ((m, there, named, mentions), not)). (
      m,
      there,
      named,
      (name, ((m, there, refl, mentions), not)),
    ),
  )

  -- the least of those that are sought for such a name
  pub least_with_unknown : (s : List ℕ) → IsLeast (IsSought ms Unknown) s
      → IsLeast (HasSomeUnknown ms) s
  least_with_unknown = same_least (IsSought ms Unknown) (HasSomeUnknown ms) sought_unknown
