-- What is done on the text is done in the history that it tells.
use Rattle.std.proofs.Common.{◌≡◌, ◌≢◌, ◌∙◌, ℕ, ◌+◌, ◌-◌, ◌<◌, ◌==◌, Bool, true, false, List, []}
use Rattle.std.proofs.Common.{◌∷◌, ◌++◌, length, take, drop, map, All, arith, refl, sym, ap, subst}
use Rattle.std.proofs.Common.{length-append, append_assoc}
use Rattle.std.specs.Prelude.{if◌then◌else◌}
use Rattle.std.proofs.lemmas.Bool.{eqb-true, eq-eqb, false≢true}
use Rattle.std.proofs.lemmas.List.Elements.{All-head, All-tail}
use Rattle.rc_model.specs.Database.{Database}
use Rattle.rc_history.specs.History.{Generation, History, IsHistory, IsLeft, IsAhead, generations}
use Rattle.rc_history.specs.Moves.{Enters, IsAcross, cut_after}
use Rattle.rc_history.specs.Promises.{DropsLater, DropsOldest}
use Rattle.rc_historytext.specs.Text.{GenerationText, HistoryText}
use Rattle.rc_historytext.specs.Moves.{begun, crossed_back, crossed_on, with_last, with_room}
use Rattle.rc_historytext.specs.Moves.{without_earlier, without_later, without_oldest, as_oldest}
use Rattle.rc_historytext.specs.Moves.{with_session, with_session_at}
use Rattle.rc_historytext.specs.Telling.{Tells, TellsStates, TellFromOldest}
use Rattle.rc_historytext.specs.Telling.{IsMovedInside, conversion_of}
use Rattle.rc_historytext.proofs.TellingLemmas.{first_count, first_take, first_join, first_drop}
use Rattle.rc_historytext.proofs.TellingLemmas.{take_up_to, by_last, first_drop_to, first_put}

-- back across a border
pub goes_back : (t : HistoryText) (h : History) → IsHistory h → Tells t h → 0 < t.present
    → h.present.line.before ≡ []
    → (next : History) × Tells (crossed_back t) next × IsAcross next h
goes_back t h is tells some first =
    let split = by_last h.earlier (omega (arith, tells.place)) in
    let next : History =
    record { earlier = split.0; present = split.1; later = h.present ∷ h.later } in
    let same : generations h ≡ generations next =
    ap (λ (l : List Generation). l ++ h.present ∷ h.later) split.2
    ∙ append_assoc split.0 (split.1 ∷ []) (h.present ∷ h.later) in
    let long : length h.earlier ≡ length split.0 + 1 =
    ap length split.2 ∙ length-append split.0 (split.1 ∷ []) in (
      next,
      record {
        place = omega (arith, tells.place, long);
        each = subst (TellFromOldest t.generations) same tells.each;
      },
      record {
        left = split.2;
        reached = refl;
        at_last = last_of_them h.earlier split.0 split.1 split.2 is.left;
        at_first = first;
      },
    )
  where
    last_of_them : (xs front : List Generation) (last : Generation) → xs ≡ front ++ last ∷ []
        → All IsLeft xs → IsLeft last
    last_of_them xs [] last same all =
        All-head IsLeft last [] (subst (All IsLeft) same all)
    last_of_them xs (x ∷ front) last same all =
        last_of_them (front ++ last ∷ []) front last refl
        (All-tail IsLeft x (front ++ last ∷ []) (subst (All IsLeft) same all))

-- and on across the next one
pub goes_on : (t : HistoryText) (h : History) → IsHistory h → Tells t h
    → t.present + 1 < length t.generations → h.present.line.after ≡ []
    → (next : History) × Tells (crossed_on t) next × IsAcross h next
goes_on t h is tells there last = by h.later refl
  where
    by : (later : List Generation) → h.later ≡ later
        → (next : History) × Tells (crossed_on t) next × IsAcross h next
    by [] none =
        absurd (omega (
          arith,
          tells.place,
          there,
          first_count t.generations (generations h) tells.each,
          length-append h.earlier (h.present ∷ h.later),
          ap length none,
        ))
    by (first ∷ rest) some =
        let next : History =
        record { earlier = h.earlier ++ h.present ∷ []; present = first; later = rest } in
        let same : generations h ≡ generations next =
        ap (λ (l : List Generation). h.earlier ++ h.present ∷ l) some
        ∙ sym (append_assoc h.earlier (h.present ∷ []) (first ∷ rest)) in (
          next,
          record {
            place =
                ap (λ (k : ℕ). k + 1) tells.place
                ∙ sym (length-append h.earlier (h.present ∷ []));
            each = subst (TellFromOldest t.generations) same tells.each;
          },
          record {
            left = refl;
            reached = some;
            at_last = last;
            at_first = All-head IsAhead first rest (subst (All IsAhead) some is.ahead);
          },
        )

-- the oldest generation goes
pub oldest_goes : (t : HistoryText) (h new : History) → Tells t h → DropsOldest h new
    → Tells (without_oldest t) new
oldest_goes t h new tells (gone, earlier, present, later) =
    let same : generations h ≡ gone ∷ generations new =
    λ i. earlier i ++ sym present i ∷ sym later i in
    record {
      place = omega (arith, tells.place, ap length earlier);
      each =
          first_drop t.generations gone (generations new)
          (subst (TellFromOldest t.generations) same tells.each);
    }

-- the later ones go
pub later_go : (t : HistoryText) (h new : History) → Tells t h → DropsLater h new
    → Tells (without_later t) new
later_go t h new tells (earlier, present, later) =
    let cut : take (t.present + 1) (generations h) ≡ h.earlier ++ h.present ∷ [] =
    take_up_to h.earlier h.present h.later (t.present + 1)
    (ap (λ (k : ℕ). k + 1) tells.place) in
    let same : h.earlier ++ h.present ∷ [] ≡ generations new =
    λ i. sym earlier i ++ sym present i ∷ sym later i in
    record {
      place = tells.place ∙ ap length (sym earlier);
      each =
          subst (TellFromOldest (take (t.present + 1) t.generations)) (cut ∙ same)
          (first_take (t.present + 1) t.generations (generations h) tells.each);
    }

-- a generation is added
entered : (t : HistoryText) (g : GenerationText) (d : Database) (h new : History)
    → Tells t (record h { present = cut_after h.present })
    → Enters h (map conversion_of g.renames) d new → TellsStates g new.present
    → Tells (with_last (without_later t) g) new
entered t g d h new tells enters states =
    let kept : History = record h { present = cut_after h.present; later = [] } in
    let before : Tells (without_later t) kept =
    later_go t (record h { present = cut_after h.present }) kept tells (refl, refl, refl) in
    let same : generations kept ++ new.present ∷ [] ≡ generations new =
    λ i. sym enters.earlier i ++ new.present ∷ sym enters.later i in
    record {
      place =
          omega (
            arith,
            tells.place,
            ap length enters.earlier,
            length-append h.earlier (cut_after h.present ∷ []),
          );
      each =
          subst (TellFromOldest ((without_later t).generations ++ g ∷ [])) same
          (first_join (without_later t).generations (g ∷ []) (generations kept)
          (new.present ∷ [])
          (omega (arith, length-append h.earlier (cut_after h.present ∷ [])))
          before.each ((record { states = states; renames = enters.by }, tt)));
    }

-- whether there are eight
pub eight_or_not : (P : HistoryText → Type 0) (t : HistoryText)
    → (length t.generations ≡ 8 → P (without_oldest t)) → (length t.generations ≢ 8 → P t)
    → P (with_room t)
eight_or_not P t eight other = by (length t.generations == 8) refl
  where
    by : (b : Bool) → (length t.generations == 8) ≡ b
        → P (if b then without_oldest t else t)
    by true is = eight (eqb-true (length t.generations) 8 is)
    by false is = other (λ same. false≢true (sym is ∙ eq-eqb (length t.generations) 8 same))

-- the oldest of several goes before or after another one is added
front_first : (gs : List GenerationText) (g : GenerationText) → 1 < length gs
    → as_oldest (drop 1 (gs ++ g ∷ [])) ≡ as_oldest (drop 1 gs) ++ g ∷ []
front_first [] g some = absurd (omega arith)
front_first (a ∷ []) g some = absurd (omega arith)
front_first (a ∷ b ∷ gs) g some = refl

-- an update begins a generation
pub begins : (t : HistoryText) (g : GenerationText) (d : Database) (h new : History)
    → Tells t (record h { present = cut_after h.present })
    → Enters h (map conversion_of g.renames) d new → TellsStates g new.present
    → length (without_later t).generations ≢ 8 → Tells (begun t g) new
begins t g d h new tells enters states few =
    eight_or_not (λ kept. Tells (with_last kept g) new) (without_later t)
    (λ eight. absurd (few eight)) (λ other. entered t g d h new tells enters states)

pub begins_full : (t : HistoryText) (g : GenerationText) (d : Database) (h new rest : History)
    → Tells t (record h { present = cut_after h.present })
    → Enters h (map conversion_of g.renames) d new → TellsStates g new.present
    → length (without_later t).generations ≡ 8 → DropsOldest new rest → Tells (begun t g) rest
begins_full t g d h new rest tells enters states full drops =
    eight_or_not (λ kept. Tells (with_last kept g) rest) (without_later t)
    (λ eight. subst (λ (u : HistoryText). Tells u rest) same all)
    (λ other. absurd (other full))
  where
    added : Tells (with_last (without_later t) g) new
    added = entered t g d h new tells enters states

    all : Tells (without_oldest (with_last (without_later t) g)) rest
    all = oldest_goes (with_last (without_later t) g) new rest added drops

    count : t.present + 1 + 1 ≡ length ((without_later t).generations ++ g ∷ [])
    count =
        omega (
          arith,
          tells.place,
          ap length enters.earlier,
          ap length enters.later,
          length-append h.earlier (cut_after h.present ∷ []),
          length-append new.earlier (new.present ∷ new.later),
          first_count ((without_later t).generations ++ g ∷ []) (generations new) added.each,
        )

    same : without_oldest (with_last (without_later t) g)
        ≡ with_last (without_oldest (without_later t)) g
    same =
        let place : t.present + 1 - 1 ≡ t.present - 1 + 1 =
        omega (arith, count, full, length-append (without_later t).generations (g ∷ [])) in
        let gs : as_oldest (drop 1 ((without_later t).generations ++ g ∷ []))
        ≡ as_oldest (drop 1 (without_later t).generations) ++ g ∷ [] =
        front_first (without_later t).generations g (omega arith) in
        λ i. record { present = place i; generations = gs i }

-- the earlier ones go
pub earlier_go : (t : HistoryText) (h new : History) → Tells t h → new.earlier ≡ []
    → new.present ≡ h.present → new.later ≡ h.later → Tells (without_earlier t) new
earlier_go t h new tells none present later =
    let same : h.present ∷ h.later ≡ generations new =
    λ i. sym none i ++ sym present i ∷ sym later i in
    let at : TellFromOldest (as_oldest (drop t.present t.generations)) (h.present ∷ h.later) =
    subst (λ (k : ℕ). TellFromOldest (as_oldest (drop k t.generations)) (h.present ∷ h.later))
    (sym tells.place) (first_drop_to t.generations h.earlier h.present h.later tells.each) in
    record {
      place = sym (ap length none);
      each = subst (TellFromOldest (as_oldest (drop t.present t.generations))) same at;
    }

-- another line stands in the place of the present one, beside the same generations
module _ (t : HistoryText) (session : List ℕ) (first last : Bool) (h new : History)
    (tells : Tells t h) (moved : IsMovedInside h new session) where
  told : Tells (with_session t session first last)
      (record new { earlier = h.earlier; later = h.later })
  told = record {
    place = tells.place;
    each =
        subst
        (λ (k : ℕ). TellFromOldest (with_session_at k t.generations session first last)
        (h.earlier ++ new.present ∷ h.later)) (sym tells.place)
        (first_put h.present new.present moved.moves.base moved.moves.by session moved.spells first
        last t.generations h.earlier h.later tells.each);
  }

  pub replaced : new.earlier ≡ h.earlier → new.later ≡ h.later
      → Tells (with_session t session first last) new
  replaced earlier later = record {
    place = tells.place ∙ ap length (sym earlier);
    each =
        subst (TellFromOldest (with_session_at t.present t.generations session first last))
        (λ i. sym earlier i ++ new.present ∷ sym later i) told.each;
  }

  pub replaced_last : new.earlier ≡ h.earlier → new.later ≡ []
      → Tells (without_later (with_session t session first last)) new
  replaced_last earlier later =
      later_go (with_session t session first last)
      (record new { earlier = h.earlier; later = h.later }) new told (earlier, refl, later)

  pub replaced_first : new.earlier ≡ [] → new.later ≡ h.later
      → Tells (without_earlier (with_session t session first last)) new
  replaced_first earlier later =
      earlier_go (with_session t session first last)
      (record new { earlier = h.earlier; later = h.later }) new told earlier refl later

  pub replaced_alone : new.earlier ≡ [] → new.later ≡ []
      → Tells (without_earlier (without_later (with_session t session first last))) new
  replaced_alone earlier later =
      earlier_go (without_later (with_session t session first last))
      (record new { earlier = h.earlier; later = [] }) new
      (later_go (with_session t session first last)
      (record new { earlier = h.earlier; later = h.later })
      (record new { earlier = h.earlier; later = [] }) told (refl, refl, refl))
      earlier refl later
