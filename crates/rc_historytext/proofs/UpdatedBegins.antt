-- A history that begins gives one generation, and so many places are added by an update.
use Rattle.std.proofs.Common.{◌≡◌, ◌∙◌, ◌+◌, ◌&&◌, ◌||◌, ◌==◌, inl, inr, ℕ, Bool, false, List, []}
use Rattle.std.proofs.Common.{length, refl, sym, ap}
use Rattle.std.proofs.lemmas.Bool.{and_right}
use Rattle.std.proofs.lemmas.List.Elements.{All-cons, All-nil}
use Rattle.rc_model.specs.Database.{Database, IsDatabase}
use Rattle.rc_model.specs.Line.{Line}
use Rattle.rc_model.specs.Session.{IsLineOf}
use Rattle.rc_db.specs.Database.{IsWritable}
use Rattle.rc_update.specs.Conversions.{Conversion}
use Rattle.rc_dbtext.specs.Spelling.{spelling as database_text}
use Rattle.rc_livetext.specs.Text.{IsLiveText, LiveText}
use Rattle.rc_livetext.specs.Spelling.{spelling, text_of}
use Rattle.rc_history.specs.History.{Generation, History, generations}
use Rattle.rc_history.specs.Promises.{AddsPlaces, AddsTo, IsUpdate}
use Rattle.rc_historytext.specs.Text.{GenerationText, HistoryText}
use Rattle.rc_historytext.specs.Present.{StandingText, crosses, has_inside, passes, standing}
use Rattle.rc_historytext.specs.Places.{GivesHistory, all_marks}
use Rattle.rc_historytext.specs.Travelling.{GoesOn}
use Rattle.rc_historytext.specs.Updates.{StandsOn, alone_in}
use Rattle.rc_historytext.specs.Updating.{IsBegun, first_generation, history_of}

module _ (d : Database) (line : Line) (bytes : List ℕ) (is : IsDatabase d) (writable : IsWritable d)
    (of : IsLineOf d line) (begun : IsBegun (database_text d) (spelling d line) bytes) where
  pub begun_stands : StandsOn bytes d line
  begun_stands = record {
    there = (
      history_of (first_generation (database_text d) (spelling d line)),
      first_generation (database_text d) (spelling d line),
      record { is = begun.0; spelled = begun.1; there = refl },
      refl,
      refl,
    );
    is_database = is;
    writable = writable;
    is_line = of;
  }

  pub begun_stops : IsLiveText (text_of d line) → GoesOn false bytes false
  unfolding spelling
  begun_stops text =
      let t : HistoryText = history_of (first_generation (database_text d) (spelling d line)) in
      let g : GenerationText = first_generation (database_text d) (spelling d line) in
      let s : LiveText = text_of d line in
      let at : StandingText = standing t g s in
      let free : passes at ≡ false =
      (λ i. and_right (length s.before == 0) false refl i
      || and_right (length s.after == 0) false refl i) in (
        at,
        (
          t,
          g,
          s,
          record { is = begun.0; spelled = begun.1; there = refl },
          record { is = text; spelled = refl },
          refl,
        ),
        ap (λ (b : Bool). b && (has_inside false at || crosses false at)) (sym free),
      )

  pub begun_gives : (marks : List Bool) × GivesHistory bytes (alone_in d line) marks
  begun_gives =
      let t : HistoryText = history_of (first_generation (database_text d) (spelling d line)) in
      let h : History = alone_in d line in (
        all_marks t.generations (generations h),
        record {
          t = t;
          is = begun.0;
          spelled = begun.1;
          tells = record {
            place = refl;
            each = (record { database = refl; session = inl refl }, tt);
          };
          writable =
              All-cons (λ (g : Generation). IsWritable g.base) h.present [] writable
              (All-nil (λ (g : Generation). IsWritable g.base));
          marked = refl;
        },
      )

-- a change adds one number of states
pub adds_once : (line new : Line) (n m : ℕ) → AddsTo line new n → AddsTo line new m → n ≡ m
adds_once line new n m (inl a) (inl b) = a.1 ∙ sym b.1
adds_once line new n m (inl a) (inr b) = absurd (b.0 (ap (λ (l : Line). l.current) a.0))
adds_once line new n m (inr a) (inl b) = absurd (a.0 (ap (λ (l : Line). l.current) b.0))
adds_once line new n m (inr a) (inr b) = a.1 ∙ sym b.1

-- so does an update
pub places_once : (h : History) (list : List Conversion) (d : Database) (new : History)
    (update : IsUpdate h list d new) (n m : ℕ) → AddsPlaces h list d new update n
    → AddsPlaces h list d new update m → n ≡ m
places_once h list d new update n m (a, b, first, second, is) (c, e, one, two, other) =
    let same : a ≡ c =
    adds_once h.present.line update.half.present.line a c first one in
    let also : b ≡ e =
    adds_once update.entered.present.line new.present.line b e second two in
    is ∙ (λ i. same i + 1 + also i) ∙ sym other
