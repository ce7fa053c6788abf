-- The present generation of a history that is given, and of one that an update has entered.
use Rattle.std.proofs.Common.{◌≡◌, ◌∙◌, ◌+◌, ◌-◌, ◌<◌, ◌==◌, inl, ℕ, zero, suc}
use Rattle.std.proofs.Common.{Bool, true, false, List, [], ◌∷◌, ◌++◌, length, drop, All}
use Rattle.std.proofs.Common.{Some, slice_get, arith, refl, sym, ap, subst, length-append}
use Rattle.std.proofs.Common.{if◌then◌else◌}
use Rattle.std.proofs.lemmas.Bool.{eqb-true}
use Rattle.std.proofs.lemmas.List.{length-take}
use Rattle.std.proofs.lemmas.List.Elements.{All-head, All-tail}
use Rattle.rc_model.specs.Database.{Database, IsDatabase}
use Rattle.rc_model.specs.Line.{Line}
use Rattle.rc_model.specs.Session.{IsLineOf}
use Rattle.rc_db.specs.Database.{IsWritable}
use Rattle.rc_update.specs.Conversions.{Conversion}
use Rattle.rc_dbtext.specs.Spelling.{spelling as database_text}
use Rattle.rc_livetext.specs.Spelling.{Spells, spelling}
use Rattle.rc_history.specs.History.{Generation, History, IsGeneration, IsHistory, place_now}
use Rattle.rc_historytext.specs.Text.{GenerationText, HistoryText}
use Rattle.rc_historytext.specs.Moves.{as_oldest, begun, with_room, without_later, without_oldest}
use Rattle.rc_historytext.specs.Places.{GivesHistory}
use Rattle.rc_historytext.specs.Present.{IsAt, IsPresent}
use Rattle.rc_historytext.specs.Telling.{TellEach, TellFromOldest, TellsStates}
use Rattle.rc_historytext.specs.Updates.{StandsOn}
use Rattle.rc_historytext.specs.Updating.{IsEntered, entered}
use Rattle.rc_launch.specs.HistoryRecoveries.{HasPresent}
use Rattle.rc_launch.specs.UpdateCrashes.{StandsOnPlace}
use Rattle.rc_launch.proofs.PutTexts.{has_once}
use Rattle.rc_launch.proofs.UndoneOnce.{UndoLaws}
use Rattle.rc_historytext.proofs.Kept.{as_oldest_count}
use Rattle.rc_historytext.proofs.Presents.{at_end}
use Rattle.rc_model.proofs.Lists.{all_between}

-- the text at a place tells the generation there
each_told : (gs : List GenerationText) (hs : List Generation) (k : Generation)
    (ks : List Generation) → TellEach gs (hs ++ k ∷ ks)
    → (g : GenerationText) × (slice_get gs (length hs) ≡ Some g) × TellsStates g k
each_told [] [] k ks tell = absurd tell
each_told [] (h ∷ hs) k ks tell = absurd tell
each_told (f ∷ gs) [] k ks tell = (f, refl, tell.0.states)
each_told (f ∷ gs) (h ∷ hs) k ks tell = each_told gs hs k ks tell.1

first_told : (gs : List GenerationText) (hs : List Generation) (k : Generation)
    (ks : List Generation) → TellFromOldest gs (hs ++ k ∷ ks)
    → (g : GenerationText) × (slice_get gs (length hs) ≡ Some g) × TellsStates g k
first_told [] [] k ks tell = absurd tell
first_told [] (h ∷ hs) k ks tell = absurd tell
first_told (f ∷ gs) [] k ks tell = (f, refl, tell.0)
first_told (f ∷ gs) (h ∷ hs) k ks tell = each_told gs hs k ks tell.1

-- what a history that is given stands on
pub record GivenPresent (bytes : List ℕ) (h : History) : Type 0 where
  pub session : List ℕ
  pub has : HasPresent bytes h.present.base session
  pub is_line : IsLineOf h.present.base h.present.line
  pub spells : Spells h.present.base session h.present.line

pub given : (bytes : List ℕ) (h : History) (marks : List Bool) → IsHistory h
    → GivesHistory bytes h marks → GivenPresent bytes h
given bytes h marks is gives =
    let own = all_between IsGeneration h.earlier h.present h.later is.each in
    let told = first_told gives.t.generations h.earlier h.present h.later gives.tells.each in
    record {
      session = told.0.session;
      has = record {
        there = (
          gives.t,
          told.0,
          record {
            is = gives.is;
            spelled = gives.spelled;
            there =
                subst (λ (k : ℕ). slice_get gives.t.generations k ≡ Some told.0)
                (sym gives.tells.place) told.1;
          },
          told.2.database,
          refl,
        );
        is_database = own.database;
        writable =
            all_between (λ (g : Generation). IsWritable g.base) h.earlier h.present h.later
            gives.writable;
      };
      is_line = own.line;
      spells = told.2.session;
    }

pub given_place : (bytes : List ℕ) (h : History) (marks : List Bool) → IsHistory h
    → GivesHistory bytes h marks → StandsOnPlace bytes (place_now h)
given_place bytes h marks is gives =
    let g = given bytes h marks is gives in record {
      line = h.present.line;
      session = g.session;
      there = g.has.there;
      is_line = g.is_line;
      spells = g.spells;
      current = refl;
    }

-- it stands on this line, if its texts are those
module _ (laws : UndoLaws) where
  pub place_is : (bytes : List ℕ) (h : History) (marks : List Bool) → IsHistory h
      → GivesHistory bytes h marks → (d : Database) (line : Line) → StandsOn bytes d line
      → (d ≡ h.present.base) × (line.current ≡ h.present.line.current)
  place_is bytes h marks is gives d line stands =
      let g = given bytes h marks is gives in
      let once = has_once laws.texts bytes d h.present.base (spelling d line) g.session (record {
        there = stands.there;
        is_database = stands.is_database;
        writable = stands.writable;
      }) g.has in
      let Line_is : Database → Type 0 =
      λ b. IsLineOf b line × (spelling d line ≡ spelling b line) in
      let own : Line_is h.present.base = subst Line_is once.0 (stands.is_line, refl) in
      let same : line ≡ h.present.line =
      laws.line h.present.base g.session line h.present.line g.has.is_database own.0 g.is_line
      (inl (sym once.1 ∙ own.1)) g.spells in
      (once.0, ap (λ (l : Line). l.current) same)

-- the present generation is still the last one, once there is room for one more
room_last : (t : HistoryText) → length t.generations ≡ t.present + 1
    → length (with_room t).generations ≡ (with_room t).present + 1
room_last t last = by (length t.generations == 8) refl
  where
    by : (b : Bool) → (length t.generations == 8) ≡ b
        → length (if b then without_oldest t else t).generations
        ≡ (if b then without_oldest t else t).present + 1
    by true eight =
        omega (
          arith,
          last,
          eqb-true (length t.generations) 8 eight,
          as_oldest_count t.generations,
        )
    by false other = last

-- the generation that begins is the present one, and the last
pub record IsLast (t : HistoryText) (g : GenerationText) : Type 0 where
  pub there : slice_get t.generations t.present ≡ Some g
  pub last : length t.generations ≡ t.present + 1

begun_last : (t : HistoryText) (g : GenerationText) → t.present < length t.generations
    → IsLast (begun t g) g
begun_last t g low =
    let cut : length (without_later t).generations ≡ (without_later t).present + 1 =
    omega (arith, low, length-take (t.present + 1) t.generations) in
    let last = room_last (without_later t) cut in record {
      there =
          at_end (with_room (without_later t)).generations g
          ((with_room (without_later t)).present + 1) (sym last);
      last = length-append (with_room (without_later t)).generations (g ∷ [])
          ∙ ap (λ (n : ℕ). n + 1) last;
    }

module _ (laws : UndoLaws) (list : List Conversion) (d : Database) (start : Line)
    (bytes kept : List ℕ) (is : IsDatabase d) (writable : IsWritable d)
    (enters : IsEntered bytes (database_text d) (spelling d start) list kept) where
  abbrev own : GenerationText
  own = entered (database_text d) (spelling d start) list

  abbrev begins : HistoryText
  begins = begun enters.2.0 own

  lasts : IsLast begins own
  lasts = begun_last enters.2.0 own enters.2.1.present

  pub entered_at : IsAt kept begins own
  entered_at = record {
    is = enters.2.3;
    spelled = enters.2.4;
    there = lasts.there;
  }

  pub entered_present : IsPresent kept (database_text d) (spelling d start)
  entered_present = (begins, own, entered_at, refl, refl)
