-- What recoveries of a history leave.
use Rattle.std.proofs.Common.{◌≡◌, ◌∙◌, ◌⊎◌, inl, inr, ℕ, Bool, true, false, List, [], ◌∷◌, ◌++◌}
use Rattle.std.proofs.Common.{Option, Some, None, refl, sym, ap, subst}
use Rattle.rc_model.specs.Database.{Database}
use Rattle.rc_dbtext.specs.Spelling.{spelling as database_text}
use Rattle.rc_livetext.specs.Text.{LiveText, live_text}
use Rattle.rc_historytext.specs.declared.keeping.Keeping.{Keeping}
use Rattle.rc_historytext.specs.Text.{GenerationText}
use Rattle.rc_historytext.specs.Keeping.{StandsThere}
use Rattle.rc_recovery.specs.Files.{Files}
use Rattle.rc_recovery.specs.Recoveries.{IsAtRest, text_after}
use Rattle.rc_recovery.specs.RunLog.{HasScript, IsEntered}
use Rattle.rc_launch.specs.Keeping.{keeping_by}
use Rattle.rc_launch.specs.HistoryRecoveries.{AreCutOf, EndsWithHistory, EntersOnce, HasPresent}
use Rattle.rc_launch.specs.HistoryRecoveries.{IsCutOf, IsKeptFor, MakesBy, MakesOf, beside}
use Rattle.rc_launch.specs.HistoryCrashes.{IsOfRun}
use Rattle.rc_launch.proofs.PutTexts.{PutsOther, TextLaws, has_once, kept_cases, place_once}
use Rattle.rc_launch.proofs.PutTexts.{put_stands}

-- what the laws below say
pub record Laws : Type 0 where
  pub texts : TextLaws
  pub empty : (d : Database) (file : List ℕ) → IsAtRest d (record { file = file; log = [] })

-- a recovery keeps what it enters as a command does that runs
pub run_keeping : (step way : Bool) → IsOfRun (keeping_by step way)
run_keeping true way = tt
run_keeping false true = tt
run_keeping false false = tt

pub found_runs : (session : List ℕ) (f : Files) (text whole : List ℕ)
    → (found : IsKeptFor session f text whole) → IsOfRun found.0
found_runs session f text whole (keeping, by, kept) =
    subst IsOfRun (sym by.is) (run_keeping by.step by.way)

-- nothing is entered of a history, whatever is present in it, and nothing is wrong with its log
abbrev pub RestsIn : Files → Type 0
RestsIn f = (d : Database) (session : List ℕ) → HasPresent f.file d session
    → IsAtRest d (beside session f)

module _ (laws : Laws) where
  pub empty_rests : (f : Files) → f.log ≡ [] → RestsIn f
  empty_rests f none d session has =
      subst (λ (log : List ℕ). IsAtRest d (record { file = session; log = log })) (sym none)
      (laws.empty d session)

  -- the log is one of a session that does not stand there any more
  pub away_rests : (keeping : Keeping) (bytes session text put whole log behind : List ℕ)
      (d : Database) → HasPresent bytes d session → log ≡ session ++ behind
      → PutsOther keeping bytes text whole
      → RestsIn (record { file = whole; log = log })
  away_rests keeping bytes session text put whole log behind d has is puts e other stands = record {
    nothing = λ entered told (commands, (script, script_of, says), one). never script script_of;
    fits = λ unfit. elim unfit [
      | inl bad ↦ never bad.0 bad.2
      | inr logs ↦ never logs.1.0 logs.1.1
    ];
  }
    where
      never : (script : List ℕ) → HasScript other log script → ⊥
      never script (rest, at, lines) =
          let (t, g, new, there, into, spelled) = puts.put in
          let now = put_stands keeping bytes puts.session whole puts.put in
          let (u, h, stood, base, reads) = has.there in
          let (v, k, standing, base_now, reads_now) = stands.there in
          let old : LiveText = into.marks.0 in
          let next : LiveText = into.marks.1 in
          let was : session ≡ live_text old =
          sym reads ∙ ap (λ (x : GenerationText). x.session)
          (place_once laws.texts bytes u t h g stood there).1 ∙ into.marks.2.spelled in
          let is_now : other ≡ puts.session =
          sym reads_now ∙ ap (λ (x : GenerationText). x.session)
          (place_once laws.texts whole v now.0 k now.1 standing now.2).1 ∙ now.4 in
          let both : live_text old ++ behind ≡ live_text next ++ rest =
          ap (λ (x : List ℕ). x ++ behind) (sym was) ∙ sym is ∙ at
          ∙ ap (λ (x : List ℕ). x ++ rest) (is_now ∙ into.marks.3.spelled) in
          let same : session ≡ puts.session =
          was ∙ ap live_text (laws.texts.live old next behind rest into.marks.2.is
          into.marks.3.is both) ∙ sym into.marks.3.spelled in
          puts.new (subst (StandsThere bytes) same (database_text d, has.there))

  -- recoveries leave such files so
  still : (f g : Files) → RestsIn f → IsCutOf f g → (g.file ≡ f.file) × RestsIn g
  still f g rest (inl same) =
      (ap (λ (x : Files). x.file) same, subst RestsIn (sym same) rest)
  still f g rest (inr (None, made, inl same)) =
      (ap (λ (x : Files). x.file) same, subst RestsIn (sym same) rest)
  still f g rest (inr (None, made, inr (inl same))) =
      (ap (λ (x : Files). x.file) same, subst RestsIn (sym same) rest)
  still f g rest (inr (None, made, inr (inr done))) =
      (ap (λ (x : Files). x.file) done, empty_rests g (ap (λ (x : Files). x.log) done))
  still f g rest (inr (Some whole, (d, session, has, (text, told, entered, found)), crash)) =
      absurd ((rest d session has).nothing text told entered)

  pub all_still : (f : Files) (left : List Files) (g : Files) → RestsIn f → AreCutOf f left g
      → (g.file ≡ f.file) × RestsIn g
  all_still f [] g rest same =
      (ap (λ (x : Files). x.file) same, subst RestsIn (sym same) rest)
  all_still f (h ∷ left) g rest (first, more) =
      let one = still f h rest first in
      let others = all_still h left g one.1 more in
      (others.0 ∙ one.0, others.1)

  made_still : (f : Files) (made : Option (List ℕ)) → RestsIn f → MakesOf f made
      → text_after f made ≡ f.file
  made_still f None rest makes = refl
  made_still f (Some whole) rest (d, session, has, (text, told, entered, found)) =
      absurd ((rest d session has).nothing text told entered)

  pub ends_still : (f : Files) (whole : List ℕ) → RestsIn f → EndsWithHistory f whole
      → whole ≡ f.file
  ends_still f whole rest (left, g, cut, (made, makes, is)) =
      let last = all_still f left g rest cut in
      is ∙ made_still g made last.1 makes ∙ last.0

  -- from a history in which this is present
  module _ (d : Database) (session : List ℕ) (f : Files) (has : HasPresent f.file d session) where
    -- recoveries leave the files as they were, or files that are at rest
    abbrev pub Reached : Files → Type 0
    Reached g = (g ≡ f) ⊎ (EntersOnce d session f g.file × RestsIn g)

    by_present : (made : Option (List ℕ)) → MakesOf f made → MakesBy d session f made
    by_present made (e, other, stands, makes) =
        let same = has_once laws.texts f.file e d other session stands has in
        subst (λ (s : List ℕ). MakesBy d s f made) same.1
        (subst (λ (b : Database). MakesBy b other f made) same.0 makes)

    replaced : (text told whole : List ℕ) → IsEntered d session f.log text told
        → IsKeptFor session f text whole → (h : Files)
        → h ≡ record { file = whole; log = f.log } → Reached h
    replaced text told whole entered found h at =
        elim (kept_cases found.0 f.file text whole (found_runs session f text whole found)
        found.2) [
          | inl same ↦
              inl (at ∙ ap (λ (x : List ℕ). record { file = x; log = f.log }) same)
          | inr puts ↦ inr (
            inr (
              text,
              told,
              entered,
              subst (IsKeptFor session f text) (sym (ap (λ (x : Files). x.file) at)) found,
            ),
            subst RestsIn (sym at)
                (away_rests found.0 f.file session text text whole f.log entered.1.1.0 d has
                entered.1.1.1 puts),
          )
        ]

    cut : (h : Files) → IsCutOf f h → Reached h
    cut h (inl same) = inl same
    cut h (inr (None, made, inl same)) = inl same
    cut h (inr (None, made, inr (inl same))) = inl same
    cut h (inr (None, made, inr (inr done))) = inr (
      inl (ap (λ (x : Files). x.file) done, by_present None made),
      empty_rests h (ap (λ (x : Files). x.log) done),
    )
    cut h (inr (Some whole, made, crash)) =
        let (text, told, entered, found) = by_present (Some whole) made in
        elim crash [
          | inl same ↦ inl same
          | inr (inl same) ↦ inl same
          | inr (inr (inl at)) ↦ replaced text told whole entered found h at
          | inr (inr (inr (inl at))) ↦ replaced text told whole entered found h at
          | inr (inr (inr (inr at))) ↦ inr (
            inr (
              text,
              told,
              entered,
              subst (IsKeptFor session f text) (sym (ap (λ (x : Files). x.file) at)) found,
            ),
            empty_rests h (ap (λ (x : Files). x.log) at),
          )
        ]

    on : (g h : Files) → Reached g → IsCutOf g h → Reached h
    on g h (inl same) next = cut h (subst (λ (x : Files). IsCutOf x h) same next)
    on g h (inr (ends, rest)) next =
        let one = still g h rest next in
        inr (subst (EntersOnce d session f) (sym one.0) ends, one.1)

    pub all_reached : (g : Files) (left : List Files) (h : Files) → Reached g → AreCutOf g left h
        → Reached h
    all_reached g [] h reached same = subst Reached (sym same) reached
    all_reached g (x ∷ left) h reached (next, others) =
        all_reached x left h (on g x reached next) others

    makes_once : (made : Option (List ℕ)) → MakesBy d session f made
        → EntersOnce d session f (text_after f made)
    makes_once None makes = inl (refl, makes)
    makes_once (Some whole) (text, told, entered, found) = inr (text, told, entered, found)

    pub enters_once : (end : List ℕ) → EndsWithHistory f end → EntersOnce d session f end
    enters_once end (left, g, recoveries, (made, makes, is)) =
        elim (all_reached f left g (inl refl) recoveries) [
          | inl same ↦
              let M : Files → Type 0 = λ (x : Files). MakesOf x made in
              let E : Files → Type 0 = λ (x : Files). end ≡ text_after x made in
              subst (EntersOnce d session f) (sym (subst E same is))
              (makes_once made (by_present made (subst M same makes)))
          | inr (ends, rest) ↦
              subst (EntersOnce d session f) (sym (is ∙ made_still g made rest makes)) ends
        ]
