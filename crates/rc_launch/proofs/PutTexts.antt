-- The present generation of a history, and that of one in which a session was put.
use Rattle.std.proofs.Common.{◌≡◌, ◌∙◌, ◌⊎◌, ◌+◌, ◌<◌, ◌≤◌, inl, inr, ℕ, zero, suc, Bool, true}
use Rattle.std.proofs.Common.{false, List, [], ◌∷◌, ◌++◌, take, drop, Some, slice_get, arith, refl}
use Rattle.std.proofs.Common.{sym, ap, subst, ◌↔◌, IsTrue, if◌then◌else◌}
use Rattle.std.proofs.lemmas.List.{append-nil}
use Rattle.std.proofs.lemmas.Option.{none-some, same_Some}
use Rattle.rc_model.specs.Database.{Database, IsDatabase}
use Rattle.rc_db.specs.Database.{IsWritable}
use Rattle.rc_dbtext.specs.Spelling.{spelling as database_text}
use Rattle.rc_livetext.specs.Text.{IsLiveText, LiveText, live_text}
use Rattle.rc_historytext.specs.declared.keeping.Keeping.{Keeping}
use Rattle.rc_historytext.specs.declared.keeping.Keeping.TheVariants.{Command, Way, Step, Seal}
use Rattle.rc_historytext.specs.Text.{GenerationText, HistoryText, IsHistoryText, history_text}
use Rattle.rc_historytext.specs.Moves.{as_oldest, with_session, with_session_at}
use Rattle.rc_historytext.specs.States.{Cuts, IsSession, cut_behind}
use Rattle.rc_historytext.specs.Marking.{AreMarks, KeepsFirst, KeepsLast, first_of_two}
use Rattle.rc_historytext.specs.Marking.{is_alone, last_of_two, mark_alone}
use Rattle.rc_historytext.specs.Present.{IsAt, IsPresent}
use Rattle.rc_historytext.specs.Keeping.{IsKept, IsPut, IsPutOnce, StandsThere, cut_earlier}
use Rattle.rc_historytext.specs.Keeping.{PutsInto, cut_later, left_by}
use Rattle.rc_launch.specs.HistoryRecoveries.{HasPresent}
use Rattle.rc_launch.specs.HistoryCrashes.{IsOfRun}
use Rattle.rc_historytext.proofs.UpdatedTexts.{put_there, taken_there}

-- what the laws of the texts say
pub record TextLaws : Type 0 where
  pub whole : (a b : HistoryText) (x y : List ℕ) → IsHistoryText a → IsHistoryText b
      → history_text a ++ x ≡ history_text b ++ y → a ≡ b
  pub base : (a b : Database) (x y : List ℕ) → IsDatabase a → IsWritable a → IsDatabase b
      → IsWritable b → database_text a ++ x ≡ database_text b ++ y → a ≡ b
  pub live : (a b : LiveText) (x y : List ℕ) → IsLiveText a → IsLiveText b
      → live_text a ++ x ≡ live_text b ++ y → a ≡ b

module _ (laws : TextLaws) where
  -- bytes are the text of one history, with one present generation
  pub place_once : (bytes : List ℕ) (t u : HistoryText) (g h : GenerationText) → IsAt bytes t g
      → IsAt bytes u h → (t ≡ u) × (g ≡ h)
  place_once bytes t u g h one other =
      let same : t ≡ u = laws.whole t u [] [] one.is other.is
      (append-nil (history_text t) ∙ sym one.spelled ∙ other.spelled
      ∙ sym (append-nil (history_text u))) in (
        same,
        same_Some g h
            (sym one.there ∙ ap (λ (v : HistoryText). slice_get v.generations v.present) same
            ∙ other.there),
      )

  pub present_once : (bytes a s b r : List ℕ) → IsPresent bytes a s → IsPresent bytes b r
      → (a ≡ b) × (s ≡ r)
  present_once bytes a s b r (t, g, at, is, stands) (u, h, there, was, reads) =
      let same : g ≡ h = (place_once bytes t u g h at there).1 in (
        sym is ∙ ap (λ (x : GenerationText). x.database) same ∙ was,
        sym stands ∙ ap (λ (x : GenerationText). x.session) same ∙ reads,
      )

  -- one database and one session are present
  pub has_once : (bytes : List ℕ) (d e : Database) (s r : List ℕ) → HasPresent bytes d s
      → HasPresent bytes e r → (d ≡ e) × (s ≡ r)
  has_once bytes d e s r one other =
      let same = present_once bytes (database_text d) s (database_text e) r one.there
      other.there in (
        laws.base d e [] [] one.is_database one.writable other.is_database other.writable
            (ap (λ (x : List ℕ). x ++ []) same.0),
        same.1,
      )

-- those from a place on
dropped_there : (k : ℕ) (gs : List GenerationText) (g : GenerationText) → slice_get gs k ≡ Some g
    → slice_get (as_oldest (drop k gs)) 0 ≡ Some (record g { renames = [] })
dropped_there zero [] g there = absurd (none-some g there)
dropped_there (suc k) [] g there = absurd (none-some g there)
dropped_there zero (f ∷ gs) g there =
    ap (λ (x : GenerationText). Some (record x { renames = [] })) (same_Some f g there)
dropped_there (suc k) (f ∷ gs) g there = dropped_there k gs g there

-- the present generation after a session was put there: its database is as it was, and no more
-- generations come before it
pub record IsLeftAt (t : HistoryText) (g : GenerationText) (session : List ℕ) (first last : Bool)
    (new : HistoryText) : Type 0 where
  pub text : GenerationText
  pub there : slice_get new.generations new.present ≡ Some text
  pub database : text.database ≡ g.database
  pub session_is : text.session ≡ session
  pub first_is : text.first_passed ≡ first
  pub last_is : text.last_passed ≡ last
  pub low : new.present ≤ t.present

later_cut : (kept : Bool) (t : HistoryText) (g : GenerationText)
    → slice_get t.generations t.present ≡ Some g
    → (slice_get (cut_later kept t).generations (cut_later kept t).present ≡ Some g)
    × ((cut_later kept t).present ≡ t.present)
later_cut true t g there = (there, refl)
later_cut false t g there =
    (taken_there (t.present + 1) t.present t.generations (omega arith) ∙ there, refl)

module _ (t : HistoryText) (g : GenerationText) (session : List ℕ)
    (keeps_first keeps_last first last : Bool)
    (there : slice_get t.generations t.present ≡ Some g) where
  abbrev put : HistoryText
  put = with_session t session first last

  abbrev own : GenerationText
  own = record g { session = session; first_passed = first; last_passed = last }

  later : (slice_get (cut_later keeps_last put).generations (cut_later keeps_last put).present
      ≡ Some own) × ((cut_later keeps_last put).present ≡ t.present)
  later =
      later_cut keeps_last put own (put_there t.present t.generations g session first last there)

  earlier : (kept : Bool)
      → IsLeftAt t g session first last (cut_earlier kept (cut_later keeps_last put))
  earlier true = record {
    text = own;
    there = later.0;
    database = refl;
    session_is = refl;
    first_is = refl;
    last_is = refl;
    low = omega (arith, later.1);
  }
  earlier false = record {
    text = record own { renames = [] };
    there =
        dropped_there (cut_later keeps_last put).present (cut_later keeps_last put).generations
        own later.0;
    database = refl;
    session_is = refl;
    first_is = refl;
    last_is = refl;
    low = omega arith;
  }

  pub left_at : IsLeftAt t g session first last
      (cut_earlier keeps_first (cut_later keeps_last put))
  left_at = earlier keeps_first

-- the session that was put stands there
pub put_stands : (keeping : Keeping) (bytes session kept : List ℕ)
    → (put : IsPut keeping bytes session kept)
    → (u : HistoryText) × (h : GenerationText) × IsAt kept u h × (h.database ≡ put.1.database)
    × (h.session ≡ session) × (h.first_passed ≡ put.4.m.first_passed)
    × (u.present ≤ put.0.present)
put_stands keeping bytes session kept (t, g, new, at, puts, spelled) =
    let left =
    left_at t g session puts.m.keeps_first puts.m.keeps_last puts.m.first_passed puts.m.last_passed
    at.there in
    let there : IsLeftAt t g session puts.m.first_passed puts.m.last_passed new =
    subst (IsLeftAt t g session puts.m.first_passed puts.m.last_passed) (sym puts.left) left in (
      new,
      there.text,
      record { is = puts.is; spelled = spelled; there = there.there },
      there.database,
      there.session_is,
      there.first_is,
      there.low,
    )

-- a command that runs keeps a session: the history stays as it was, or a session is put that did
-- not stand there
pub record PutsOther (keeping : Keeping) (bytes text kept : List ℕ) : Type 0 where
  pub session : List ℕ
  pub is : (session ≡ text) ⊎ Cuts text session
  pub new : StandsThere bytes session → ⊥
  pub put : IsPut keeping bytes session kept

pub kept_cases : (keeping : Keeping) (bytes text kept : List ℕ) → IsOfRun keeping
    → IsKept keeping bytes text kept → (kept ≡ bytes) ⊎ PutsOther keeping bytes text kept
kept_cases Command bytes text kept run (inl stays) = inl stays.1
kept_cases Command bytes text kept run (inr other) =
    inr (record { session = text; is = inl refl; new = other.0; put = other.1 })
kept_cases Way bytes text kept run (inl stays) = inl stays.1
kept_cases Way bytes text kept run (inr other) =
    inr (record { session = text; is = inl refl; new = other.0; put = other.1 })
kept_cases Step bytes text kept run (inl stays) = inl stays.1
kept_cases Step bytes text kept run (inr (none, cut, cuts, inl stays)) = inl stays.1
kept_cases Step bytes text kept run (inr (none, cut, cuts, inr other)) =
    inr (record { session = cut; is = inr cuts; new = other.0; put = other.1 })
kept_cases Seal bytes text kept run is = absurd run

-- it stays if the session stands there
pub kept_stays : (keeping : Keeping) (bytes text kept : List ℕ) → IsOfRun keeping
    → StandsThere bytes text → IsKept keeping bytes text kept → kept ≡ bytes
kept_stays Command bytes text kept run there (inl stays) = stays.1
kept_stays Command bytes text kept run there (inr other) = absurd (other.0 there)
kept_stays Way bytes text kept run there (inl stays) = stays.1
kept_stays Way bytes text kept run there (inr other) = absurd (other.0 there)
kept_stays Step bytes text kept run there (inl stays) = stays.1
kept_stays Step bytes text kept run there (inr other) = absurd (other.0 there)
kept_stays Seal bytes text kept run there is = absurd run

-- two flags are the same that say the same
pub same_flag : (P : Type 0) (a b : Bool) → (IsTrue a ↔ P) → (IsTrue b ↔ P) → a ≡ b
same_flag P true true one other = refl
same_flag P false false one other = refl
same_flag P true false one other = sym (other.1 (one.0 refl))
same_flag P false true one other = one.1 (other.0 refl)

module _ (laws : TextLaws) where
  session_once : (bytes : List ℕ) (s r : LiveText) → IsSession bytes s → IsSession bytes r → s ≡ r
  session_once bytes s r one other =
      laws.live s r [] [] one.is other.is
      (ap (λ (x : List ℕ). x ++ []) (sym one.spelled ∙ other.spelled))

  -- a session that is put into a history leaves one, with one set of marks
  left_once : (keeping : Keeping) (t : HistoryText) (g : GenerationText) (session : List ℕ)
      (a b : HistoryText) → PutsInto keeping t g session a → PutsInto keeping t g session b → a ≡ b
  left_once keeping t g session a b puts into =
      let old : LiveText = puts.marks.0 in
      let new : LiveText = puts.marks.1 in
      let Are : LiveText → LiveText → Type 0 = λ s r. AreMarks keeping g s r into.m in
      let one : AreMarks keeping g old new puts.m = puts.marks.4 in
      let other : AreMarks keeping g old new into.m =
      subst (λ (s : LiveText). Are s new)
      (session_once g.session into.marks.0 old into.marks.2 puts.marks.2)
      (subst (λ (r : LiveText). Are into.marks.0 r)
      (session_once session into.marks.1 new into.marks.3 puts.marks.3) into.marks.4) in
      let first_kept : puts.m.keeps_first ≡ into.m.keeps_first =
      same_flag (KeepsFirst keeping old new) puts.m.keeps_first into.m.keeps_first one.keeps_first
      other.keeps_first in
      let last_kept : puts.m.keeps_last ≡ into.m.keeps_last =
      same_flag (KeepsLast keeping old new) puts.m.keeps_last into.m.keeps_last one.keeps_last
      other.keeps_last in
      let first : puts.m.first_passed ≡ into.m.first_passed =
      one.first ∙ (λ i. if is_alone new then mark_alone keeping (record {
        keeps_first = first_kept i;
        keeps_last = last_kept i;
        first_passed = false;
        last_passed = false;
      }) g old new else first_of_two keeping (record {
        keeps_first = first_kept i;
        keeps_last = last_kept i;
        first_passed = false;
        last_passed = false;
      }) g old) ∙ sym other.first in
      let last : puts.m.last_passed ≡ into.m.last_passed =
      one.last ∙ (λ i. if is_alone new then mark_alone keeping (record {
        keeps_first = first_kept i;
        keeps_last = last_kept i;
        first_passed = false;
        last_passed = false;
      }) g old new else last_of_two keeping (record {
        keeps_first = first_kept i;
        keeps_last = last_kept i;
        first_passed = false;
        last_passed = false;
      }) g old new) ∙ sym other.last in
      puts.left ∙ (λ i. left_by (record {
        keeps_first = first_kept i;
        keeps_last = last_kept i;
        first_passed = first i;
        last_passed = last i;
      }) t session) ∙ sym into.left

  put_once : (keeping : Keeping) (bytes session a b : List ℕ) → IsPut keeping bytes session a
      → IsPut keeping bytes session b → a ≡ b
  put_once keeping bytes session a b (t, g, new, at, puts, is) (u, h, other, there, into, was) =
      let place = place_once laws bytes t u g h at there in
      let same : PutsInto keeping t g session other =
      subst (λ (x : HistoryText). PutsInto keeping x g session other) (sym place.0)
      (subst (λ (x : GenerationText). PutsInto keeping u x session other) (sym place.1) into) in
      is ∙ ap history_text (left_once keeping t g session new other puts same) ∙ sym was

  once_once : (keeping : Keeping) (bytes session a b : List ℕ) → IsPutOnce keeping bytes session a
      → IsPutOnce keeping bytes session b → a ≡ b
  once_once keeping bytes session a b (inl stays) (inl stood) = stays.1 ∙ sym stood.1
  once_once keeping bytes session a b (inl stays) (inr other) = absurd (other.0 stays.0)
  once_once keeping bytes session a b (inr puts) (inl stood) = absurd (puts.0 stood.0)
  once_once keeping bytes session a b (inr puts) (inr other) =
      put_once keeping bytes session a b puts.1 other.1

  cut_once : (text a b : List ℕ) → Cuts text a → Cuts text b → a ≡ b
  cut_once text a b (s, says, cut) (r, reads, other) =
      cut.spelled
      ∙ ap (λ (x : LiveText). live_text (cut_behind x)) (session_once text s r says reads)
      ∙ sym other.spelled

  -- a text is kept in one way
  pub kept_once : (keeping : Keeping) (bytes text a b : List ℕ) → IsKept keeping bytes text a
      → IsKept keeping bytes text b → a ≡ b
  kept_once Command bytes text a b one other = once_once Command bytes text a b one other
  kept_once Way bytes text a b one other = once_once Way bytes text a b one other
  kept_once Step bytes text a b (inl stays) (inl stood) = stays.1 ∙ sym stood.1
  kept_once Step bytes text a b (inl stays) (inr other) = absurd (other.0 stays.0)
  kept_once Step bytes text a b (inr puts) (inl stood) = absurd (puts.0 stood.0)
  kept_once Step bytes text a b (inr (new, cut, cuts, one)) (inr (none, out, outs, other)) =
      once_once Step bytes cut a b one
      (subst (λ (x : List ℕ). IsPutOnce Step bytes x b) (cut_once text out cut outs cuts) other)
  kept_once Seal bytes text a b one other = put_once Seal bytes text a b one other
