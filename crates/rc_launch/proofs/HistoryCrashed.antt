-- What a crash of a command on a history leaves.
use Rattle.std.proofs.Common.{◌≡◌, ◌∙◌, ◌⊎◌, inl, inr, ℕ, List, [], ◌∷◌, ◌++◌, map, Some}
use Rattle.std.proofs.Common.{None, refl, sym, ap, subst, append_assoc}
use Rattle.rc_model.specs.declared.Event.{Event}
use Rattle.rc_model.specs.Database.{Database, IsDatabase}
use Rattle.rc_model.specs.Line.{Line}
use Rattle.rc_model.specs.Session.{IsLineOf}
use Rattle.rc_dbtext.specs.Spelling.{spelling as database_text}
use Rattle.rc_livetext.specs.Spelling.{Spells, spelling, text_of}
use Rattle.rc_livetext.specs.Text.{live_text}
use Rattle.rc_historytext.specs.declared.keeping.Keeping.{Keeping}
use Rattle.rc_historytext.specs.declared.keeping.Keeping.TheVariants.{Command}
use Rattle.rc_historytext.specs.Keeping.{IsKept, StandsThere}
use Rattle.rc_historytext.specs.Updates.{StandsOn}
use Rattle.rc_recovery.specs.Files.{AfterCrash, Append, Empty, Files, IsFront, Replace, Write}
use Rattle.rc_recovery.specs.Files.{after}
use Rattle.rc_recovery.specs.Logging.{Logged, writes_of}
use Rattle.rc_recovery.specs.Recoveries.{EndsIn, EndsInOneLine, EndsOn, IsAtRest, IsCrash}
use Rattle.rc_recovery.specs.RunLog.{IsUnfit}
use Rattle.rc_recovery.specs.UnderWay.{IsMore}
use Rattle.rc_launch.specs.HistoryRecoveries.{AreCutOf, EndsWithHistory, HasPresent}
use Rattle.rc_launch.specs.HistoryRecoveries.{IsKeptFor, beside}
use Rattle.rc_launch.specs.HistoryCrashes.{EndsHistory, EndsInOneHistory, IsHistoryCrash}
use Rattle.rc_launch.specs.HistoryCrashes.{IsHistoryMore}
use Rattle.rc_launch.specs.Keeping.{keeping_of}
use Rattle.rc_launch.proofs.HeadSays.{SaysOnce, head_keeps, keeps_once}
use Rattle.rc_launch.proofs.PutTexts.{has_once, kept_cases, kept_once, kept_stays}
use Rattle.rc_launch.proofs.HistoryEnds.{Laws, RestsIn, all_reached, all_still, away_rests}
use Rattle.rc_launch.proofs.HistoryEnds.{empty_rests, ends_still, enters_once, found_runs}

-- what the laws of sessions say
pub record CrashLaws : Type 0 where
  pub ends : Laws
  pub line : (d : Database) (bytes : List ℕ) (a b : Line) → IsDatabase d → IsLineOf d a
      → IsLineOf d b → Spells d bytes a → Spells d bytes b → a ≡ b
  pub said : SaysOnce
  pub crashes : (d : Database) (line new : Line) (l : Logged) (f g : Files)
      → IsCrash d line new l f g → EndsInOneLine d line new l f g

abbrev files : (file log : List ℕ) → Files
files file log = record { file = file; log = log }

-- where a crash left the two files: the file is as it was; or it was replaced, and the log is empty
-- or has what stood in front before
abbrev IsWhere : (kept : List ℕ) → (f g : Files) → Type 0
IsWhere kept f g = (g.file ≡ f.file)
    ⊎ ((g.file ≡ kept) × ((g.log ≡ []) ⊎ ((behind : List ℕ) × (g.log ≡ f.log ++ behind))))

-- the last writes of a run
abbrev last_writes : (lines : List (List ℕ)) (part new : List ℕ) → List Write
last_writes lines part new = map Append lines ++ Append part ∷ Replace new ∷ Empty ∷ []

-- beside another text, a crash within them leaves the same log, but where that was emptied
last_elsewhere : (session kept new part : List ℕ) (lines : List (List ℕ)) (f g : Files)
    → AfterCrash (last_writes lines part kept) f g
    → (AfterCrash (last_writes lines part new) (beside session f) (beside session g)
    ⊎ (g.log ≡ [])) × IsWhere kept f g
last_elsewhere session kept new part [] f g (inl same) =
    (inl (inl (ap (beside session) same)), inl (ap (λ (x : Files). x.file) same))
last_elsewhere session kept new part [] f g (inr (inl (p, front, at))) =
    (inl (inr (inl (p, front, ap (beside session) at))), inl (ap (λ (x : Files). x.file) at))
last_elsewhere session kept new part [] f g (inr (inr (inl at))) =
    (inl (inr (inr (inl (ap (beside session) at)))), inl (ap (λ (x : Files). x.file) at))
last_elsewhere session kept new part [] f g (inr (inr (inr (inl at)))) =
    (inl (inr (inr (inl (ap (beside session) at)))), inl (ap (λ (x : Files). x.file) at))
last_elsewhere session kept new part [] f g (inr (inr (inr (inr (inl at))))) = (
  inl (inr (inr (inl (ap (beside session) at)))),
  inr (ap (λ (x : Files). x.file) at, inr (part, ap (λ (x : Files). x.log) at)),
)
last_elsewhere session kept new part [] f g (inr (inr (inr (inr (inr (inl at)))))) = (
  inl (inr (inr (inl (ap (beside session) at)))),
  inr (ap (λ (x : Files). x.file) at, inr (part, ap (λ (x : Files). x.log) at)),
)
last_elsewhere session kept new part [] f g (inr (inr (inr (inr (inr (inr at)))))) = (
  inr (ap (λ (x : Files). x.log) at),
  inr (ap (λ (x : Files). x.file) at, inl (ap (λ (x : Files). x.log) at)),
)
last_elsewhere session kept new part (t ∷ lines) f g (inl same) =
    (inl (inl (ap (beside session) same)), inl (ap (λ (x : Files). x.file) same))
last_elsewhere session kept new part (t ∷ lines) f g (inr (inl (p, front, at))) =
    (inl (inr (inl (p, front, ap (beside session) at))), inl (ap (λ (x : Files). x.file) at))
last_elsewhere session kept new part (t ∷ lines) f g (inr (inr later)) =
    let on = last_elsewhere session kept new part lines (after f (Append t)) g later in (
      elim on.0 [
        | inl crash ↦ inl (inr (inr crash))
        | inr none ↦ inr none
      ],
      elim on.1 [
        | inl same ↦ inl same
        | inr (same, inl none) ↦ inr (same, inl none)
        | inr (same, inr (behind, at)) ↦
            inr (same, inr (t ++ behind, at ∙ append_assoc f.log t behind))
      ],
    )

-- the same, where this text stood in front
abbrev IsReplaced : (text kept : List ℕ) → (f g : Files) → Type 0
IsReplaced text kept f g = (g.file ≡ f.file)
    ⊎ ((g.file ≡ kept) × ((g.log ≡ []) ⊎ ((behind : List ℕ) × (g.log ≡ text ++ behind))))

-- beside another text, a crash within the writes of a run leaves the same log
pub elsewhere : (text other kept new : List ℕ) (l : Logged) (f g : Files)
    → AfterCrash (writes_of text l kept) f g
    → AfterCrash (writes_of text l new) (beside other f) (beside other g)
    × IsReplaced text kept f g
elsewhere text other kept new l f g (inl same) =
    (inl (ap (beside other) same), inl (ap (λ (x : Files). x.file) same))
elsewhere text other kept new l f g (inr (inl same)) =
    (inl (ap (beside other) same), inl (ap (λ (x : Files). x.file) same))
elsewhere text other kept new l f g (inr (inr (inl at))) =
    (inr (inr (inl (ap (beside other) at))), inl (ap (λ (x : Files). x.file) at))
elsewhere text other kept new l f g (inr (inr (inr (inl (p, front, at))))) = (
  inr (inr (inr (inl (p, front, ap (beside other) at)))),
  inl (ap (λ (x : Files). x.file) at),
)
elsewhere text other kept new l f g (inr (inr (inr (inr later)))) =
    let on =
    last_elsewhere other kept new l.part l.lines (files f.file (text ++ l.step)) g later in (
      elim on.0 [
        | inl crash ↦ inr (inr (inr (inr crash)))
        | inr none ↦ inr (inr (inl (ap (files other) none)))
      ],
      elim on.1 [
        | inl same ↦ inl same
        | inr (same, inl none) ↦ inr (same, inl none)
        | inr (same, inr (behind, at)) ↦
            inr (same, inr (l.step ++ behind, at ∙ append_assoc text l.step behind))
      ],
    )

-- files are the same by their two texts
files_same : (f g : Files) → g.file ≡ f.file → g.log ≡ f.log → g ≡ f
files_same f g one other i = files (one i) (other i)

module _ (laws : CrashLaws) (d : Database) (line new : Line) (keeping : Keeping) (l : Logged)
    (kept : List ℕ) (f g : Files) (c : IsHistoryCrash d line new keeping l kept f g) where
  present : HasPresent f.file d (spelling d line)
  present = record {
    there = c.stands.there;
    is_database = c.stands.is_database;
    writable = c.stands.writable;
  }

  left : AfterCrash (writes_of (spelling d line) l (spelling d new))
      (beside (spelling d line) f) (beside (spelling d line) g)
      × IsReplaced (spelling d line) kept f g
  left = elsewhere (spelling d line) (spelling d line) kept (spelling d new) l f g c.crash

  one : EndsInOneLine d line new l (beside (spelling d line) f) (beside (spelling d line) g)
  one = laws.crashes d line new l (beside (spelling d line) f)
      (beside (spelling d line) g) (record {
        logged = c.logged;
        new_of = c.new_of;
        file = refl;
        rest = c.rest;
        crash = left.0;
      })

  stands_there : StandsThere f.file (spelling d line)
  stands_there = (database_text d, c.stands.there)

  -- the new line is the one before
  kept_same : spelling d line ≡ spelling d new → kept ≡ f.file
  kept_same same =
      kept_stays keeping f.file (spelling d new) kept c.of_run
      (subst (StandsThere f.file) same stands_there) c.kept_is

  -- the file was not replaced
  module _ (file : g.file ≡ f.file) where
    has_now : HasPresent g.file d (spelling d line)
    has_now = subst (λ (x : List ℕ). HasPresent x d (spelling d line)) (sym file) present

    -- a line that stands there is kept
    found_same : (text whole : List ℕ) → text ≡ spelling d line
        → IsKeptFor (spelling d line) g text whole → whole ≡ g.file
    found_same text whole same found =
        kept_stays found.0 g.file text whole (found_runs (spelling d line) g text whole found)
        (subst (StandsThere g.file) (sym same) (database_text d, has_now.there)) found.2

    begun : (beside (spelling d line) g ≡ beside (spelling d line) f)
        ⊎ IsFront g.log (spelling d line ++ l.step)
        → (g ≡ f) ⊎ IsFront g.log (spelling d line ++ l.step)
    begun (inl same) = inl (files_same f g file (ap (λ (x : Files). x.log) same))
    begun (inr front) = inr front

    stays : (whole : List ℕ) (end : Line) → IsLineOf d end → spelling d line ≡ spelling d end
        → whole ≡ g.file
        → EndsOn d line new l (beside (spelling d line) f) (beside (spelling d line) g) end
        → EndsHistory d line l kept f g whole
    stays whole end of spelled same (inl (is, there, log)) = inl (same ∙ file, file, begun log)
    stays whole end of spelled same (inr (inl (events, holds, is))) = inr (inl (
      events,
      holds,
      file,
      (
        end,
        of,
        is,
        inl (
          laws.line d (spelling d line) end line c.stands.is_database of c.stands.is_line
              (inl spelled) (inl refl),
          same ∙ file,
        ),
      ),
    ))
    stays whole end of spelled same (inr (inr (is, there))) =
        let stood : kept ≡ f.file = kept_same there in
        inr (inr (same ∙ file ∙ sym stood, file ∙ sym stood))

    enters : (text whole : List ℕ) (end : Line) → IsLineOf d end → text ≡ spelling d end
        → IsKeptFor (spelling d line) g text whole
        → EndsOn d line new l (beside (spelling d line) f) (beside (spelling d line) g) end
        → EndsHistory d line l kept f g whole
    enters text whole end of spelled found (inl (is, there, log)) =
        let same : whole ≡ g.file =
        found_same text whole (spelled ∙ ap (spelling d) is) found in
        inl (same ∙ file, file, begun log)
    enters text whole end of spelled found (inr (inl ([], holds, is))) =
        let same : whole ≡ g.file =
        found_same text whole (spelled ∙ ap (spelling d) is) found in
        inr (inl ([], holds, file, (end, of, is, inl (is, same ∙ file))))
    enters text whole end of spelled (own, by, kept_by) (inr (inl (first ∷ more, holds, is))) =
        let same : own ≡ keeping_of l =
        head_keeps laws.said d line l first more g c.logged holds own by in
        let now : IsKept own f.file (spelling d end) whole =
        subst (λ (x : List ℕ). IsKept own x (spelling d end) whole) file
        (subst (λ (x : List ℕ). IsKept own g.file x whole) spelled kept_by) in
        inr (inl (
          first ∷ more,
          holds,
          file,
          (
            end,
            of,
            is,
            inr (subst (λ (k : Keeping). IsKept k f.file (spelling d end) whole) same now),
          ),
        ))
    enters text whole end of spelled found (inr (inr (is, there))) =
        let same : whole ≡ g.file =
        found_same text whole (spelled ∙ ap (spelling d) is ∙ sym there) found in
        let stood : kept ≡ f.file = kept_same there in
        inr (inr (same ∙ file ∙ sym stood, file ∙ sym stood))

    as_it_was : (whole : List ℕ) → EndsWithHistory g whole → EndsHistory d line l kept f g whole
    as_it_was whole ends =
        elim (enters_once laws.ends d (spelling d line) g has_now whole ends) [
          | inl (same, nothing) ↦
              let (end, of, spelled, on) = one.ends (spelling d line)
              ([], beside (spelling d line) g, refl, (None, nothing, refl)) in
              stays whole end of spelled same on
          | inr (text, told, entered, found) ↦
              let (end, of, spelled, on) = one.ends text
              ([], beside (spelling d line) g, refl, (Some text, (told, entered), refl)) in
              enters text whole end of spelled found on
        ]

    -- the text that an alone session would have in the end, which the history keeps
    record EndsAlone (whole : List ℕ) : Type 0 where
      text : List ℕ
      ends : EndsIn d (beside (spelling d line) g) text
      kept_so : ((text ≡ spelling d line) × (whole ≡ g.file))
          ⊎ IsKeptFor (spelling d line) g text whole

    ends_alone : (whole : List ℕ) → EndsWithHistory g whole → EndsAlone whole
    ends_alone whole ends =
        elim (enters_once laws.ends d (spelling d line) g has_now whole ends) [
          | inl (same, nothing) ↦ record {
            text = spelling d line;
            ends = ([], beside (spelling d line) g, refl, (None, nothing, refl));
            kept_so = inl (refl, same);
          }
          | inr (text, told, entered, found) ↦ record {
            text = text;
            ends = ([], beside (spelling d line) g, refl, (Some text, (told, entered), refl));
            kept_so = inr found;
          }
        ]

    found_once : (text a b : List ℕ) → IsKeptFor (spelling d line) g text a
        → IsKeptFor (spelling d line) g text b → a ≡ b
    found_once text a b (own, by, kept_by) (other, also, stood) =
        kept_once laws.ends.texts own g.file text a b kept_by
        (subst (λ (k : Keeping). IsKept k g.file text b)
        (keeps_once (spelling d line) g.log other own also by) stood)

    one_end : (whole other : List ℕ) → EndsWithHistory g whole → EndsWithHistory g other
        → whole ≡ other
    one_end whole other a b =
        let first = ends_alone whole a in
        let second = ends_alone other b in
        let same : first.text ≡ second.text =
        one.one first.text second.text first.ends second.ends in
        elim first.kept_so [
          | inl (is, stays) ↦ elim second.kept_so [
            | inl (at, stood) ↦ stays ∙ sym stood
            | inr found ↦
                stays ∙ sym (found_same second.text other (sym same ∙ is) found)
          ]
          | inr found ↦ elim second.kept_so [
            | inl (at, stood) ↦ found_same first.text whole (same ∙ at) found ∙ sym stood
            | inr more ↦ found_once second.text whole other
                (subst (λ (x : List ℕ). IsKeptFor (spelling d line) g x whole) same found) more
          ]
        ]

    fits_now : (left : List Files) (h : Files) → AreCutOf g left h → (e : Database)
        (other : List ℕ) → HasPresent h.file e other → IsUnfit e other h.log → ⊥
    fits_now left h recoveries e other stands unfit =
        elim (all_reached laws.ends d (spelling d line) g has_now g left h (inl refl)
        recoveries) [
          | inl same ↦
              let there : HasPresent g.file e other =
              subst (λ (x : Files). HasPresent x.file e other) same stands in
              let once = has_once laws.ends.texts g.file e d other (spelling d line) there
              has_now in
              one.fits [] (beside (spelling d line) g) refl
              (subst (λ (x : Files). IsUnfit d (spelling d line) x.log) same
              (subst (λ (s : List ℕ). IsUnfit d s h.log) once.1
              (subst (λ (b : Database). IsUnfit b other h.log) once.0 unfit)))
          | inr (ends, rest) ↦ (rest e other stands).fits unfit
        ]

  -- the file was replaced by another text
  rests_kept : g.file ≡ kept
      → (g.log ≡ []) ⊎ ((behind : List ℕ) × (g.log ≡ spelling d line ++ behind))
      → (g.file ≡ f.file) ⊎ RestsIn g
  rests_kept same (inl none) = inr (empty_rests laws.ends g none)
  rests_kept same (inr (behind, at)) =
      elim (kept_cases keeping f.file (spelling d new) kept c.of_run c.kept_is) [
        | inl stood ↦ inl (same ∙ stood)
        | inr puts ↦ inr (subst (λ (x : List ℕ). RestsIn (files x g.log)) (sym same)
            (away_rests laws.ends keeping f.file (spelling d line) (spelling d new)
            (spelling d new) kept g.log behind d present at puts))
      ]

  as_left : g.file ≡ f.file → EndsInOneHistory d line l kept f g
  as_left file = record {
    ends = as_it_was file;
    one = one_end file;
    fits = fits_now file;
  }

  pub crashed : EndsInOneHistory d line l kept f g
  crashed = elim left.1 [
    | inl file ↦ as_left file
    | inr (same, log) ↦ elim (rests_kept same log) [
      | inl file ↦ as_left file
      | inr rest ↦ record {
        one = λ whole other a b.
            ends_still laws.ends g whole rest a ∙ sym (ends_still laws.ends g other rest b);
        ends = λ whole ends.
            inr (inr (ends_still laws.ends g whole rest ends ∙ same, same));
        fits = λ left h recoveries e other stands unfit.
            ((all_still laws.ends g left h rest recoveries).1 e other stands).fits unfit;
      }
    ]
  ]

-- beside a session that is alone, the same crash
alone : (d : Database) (line new : Line) (keeping : Keeping) (l : Logged) (kept : List ℕ)
    (f g : Files) → IsHistoryCrash d line new keeping l kept f g
    → IsCrash d line new l (beside (spelling d line) f) (beside (spelling d line) g)
alone d line new keeping l kept f g c = record {
  logged = c.logged;
  new_of = c.new_of;
  file = refl;
  rest = c.rest;
  crash =
      (elsewhere (spelling d line) (spelling d line) kept (spelling d new) l f g c.crash).0;
}

-- a line is appended
appended : (text other : List ℕ) (g h : Files) → AfterCrash (Append text ∷ []) g h
    → AfterCrash (Append text ∷ []) (beside other g) (beside other h) × (h.file ≡ g.file)
appended text other g h (inl same) =
    (inl (ap (beside other) same), ap (λ (x : Files). x.file) same)
appended text other g h (inr (inl (p, front, at))) =
    (inr (inl (p, front, ap (beside other) at)), ap (λ (x : Files). x.file) at)
appended text other g h (inr (inr at)) =
    (inr (inr (ap (beside other) at)), ap (λ (x : Files). x.file) at)

-- so what is logged beside a session that is alone is logged beside a history
pub more_logged : (d : Database) (line new : Line) (keeping : Keeping) (l : Logged)
    (kept : List ℕ) (events : List Event) (text : List ℕ) (f g : Files)
    → IsHistoryCrash d line new keeping l kept f g → g.file ≡ f.file
    → (IsCrash d line new l (beside (spelling d line) f) (beside (spelling d line) g)
    → (more : Logged) × IsMore d line new l events text (beside (spelling d line) f)
    (beside (spelling d line) g) more)
    → (more : Logged) × IsHistoryMore d line new keeping l kept events text f g more
more_logged d line new keeping l kept events text f g c file law =
    let (more, is) = law (alone d line new keeping l kept f g c) in (
      more,
      record {
        command = is.command;
        logged = is.logged;
        cut = λ h crash.
            let now = appended text (spelling d line) g h crash in
            let cut = is.cut (beside (spelling d line) h) now.0 in
            let back = (elsewhere (spelling d line) f.file (spelling d new) kept more
            (beside (spelling d line) f) (beside (spelling d line) h) cut.crash).0 in record {
              stands = c.stands;
              logged = cut.logged;
              new_of = c.new_of;
              of_run = c.of_run;
              kept_is = c.kept_is;
              rest = c.rest;
              crash = subst (λ (x : List ℕ). AfterCrash (writes_of (spelling d line) more kept) f
                  (files x h.log)) (sym (now.1 ∙ file)) back;
            };
        holds = is.holds;
        whole = is.whole;
      },
    )

-- what a crash leaves of a session that is alone, one leaves of each history on which it stands
pub of_history : (d : Database) (line : Line) (l : Logged) (bytes : List ℕ) (f g : Files)
    → StandsOn bytes d line → IsCrash d line line l f g
    → IsHistoryCrash d line line Command l bytes (beside bytes f) (beside bytes g)
of_history d line l bytes f g stands c = record {
  stands = stands;
  logged = c.logged;
  new_of = c.new_of;
  of_run = tt;
  kept_is = inl ((database_text d, stands.there), refl);
  rest = subst (λ (x : List ℕ). IsAtRest d (files x f.log)) c.file c.rest;
  crash = (elsewhere (spelling d line) bytes (spelling d line) bytes l f g c.crash).0;
}

-- the text of a line is not empty
some_text : (d : Database) (line : Line) (rest : List ℕ) → [] ≡ spelling d line ++ rest → ⊥
unfolding spelling
some_text d line rest none = let bad : [] ≡ live_text (text_of d line) ++ rest = none in cc

-- a recovery that finds an empty log leaves the history as it was
pub ends_as_it_was : (d : Database) (line : Line) (bytes : List ℕ) → StandsOn bytes d line
    → EndsWithHistory (files bytes []) bytes
ends_as_it_was d line bytes stands = (
  [],
  files bytes [],
  refl,
  (
    None,
    (
      d,
      spelling d line,
      record {
        there = stands.there;
        is_database = stands.is_database;
        writable = stands.writable;
      },
      inl (some_text d line),
    ),
    refl,
  ),
)
