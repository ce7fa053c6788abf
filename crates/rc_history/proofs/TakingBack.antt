-- An update is taken back by one, two or three steps.
use Rattle.std.proofs.Common.{◌≡◌, ◌∙◌, ◌≤◌, ◌+◌, ◌-◌, ℕ, suc, List, [], ◌∷◌, ◌++◌, length, map, Ok}
use Rattle.std.proofs.Common.{length-append, Some, slice_get, inl, inr, refl, ap, sym, subst, arith}
use Rattle.std.proofs.lemmas.List.{length-map}
use Rattle.std.proofs.lemmas.Option.{same_Some}
use Rattle.rc_model.specs.declared.Event.{Event}
use Rattle.rc_model.specs.Plan.{Ask}
use Rattle.rc_model.specs.Database.{Database, IsDatabase}
use Rattle.rc_model.specs.Line.{State, Line, states, put_last}
use Rattle.rc_model.proofs.Lines.{cons_tail}
use Rattle.rc_model.specs.Session.{Change, Does, IsLineOf, Reported}
use Rattle.rc_model.proofs.Lists.{push_append}
use Rattle.rc_session.proofs.Promising.{promised}
use Rattle.rc_update.specs.Conversions.{Conversion}
use Rattle.rc_history.specs.History.{Generation, History, Place, IsHistory, places, cursor_of}
use Rattle.rc_history.specs.History.{place_now, place_in, places_before, places_after, all_places}
use Rattle.rc_history.specs.History.{first_state}
use Rattle.rc_history.specs.Moves.{MovesInside, Enters, SeveralBack}
use Rattle.rc_history.specs.Promises.{AddsPlaces, AddsTo, CutUpdatesAreTakenBack, HasRoom}
use Rattle.rc_history.specs.Promises.{IsUpdate, MayDropOldest, UpdatesAreTakenBack}
use Rattle.rc_history.proofs.Lists.{append_nil, append_three, map_append, get_middle}
use Rattle.rc_history.proofs.Ends.{first_push, few_added}
use Rattle.rc_history.proofs.Dropping.{drops_keep}
use Rattle.rc_history.proofs.Inside.{present_of, inside_keeps}
use Rattle.rc_history.proofs.Entering.{entered}
use Rattle.rc_history.proofs.Rows.{steps_back_restore}

-- the places up to the current one
upto : History → List Place
upto h = places_before h ++ place_now h ∷ []

-- the second history has these places more, and keeps all up to where the first one stood
Adds : History → List Place → History → Type 0
Adds h more new = upto new ≡ upto h ++ more

-- where there is room, nothing is lost for it
change_adds : (h new : History) (ask : Ask) (events : List Event) (report : Reported) → IsHistory h
    → HasRoom h → MovesInside h (Change ask events) (Ok report) new
    → (more : List Place) × AddsTo h.present.line new.present.line (length more)
    × Adds h more new
unfolding upto Adds
change_adds h new ask events report of room move =
    let is = present_of h of in
    let at : Database = h.present.base in
    let line : Line = h.present.line in
    let all = promised at line is.database is.line in
    let kept = all.history (Change ask events) report new.present.line move.answers in
    let as_first : first_state new.present.line ≡ first_state line → new.earlier ≡ h.earlier =
    λ first. elim move.earlier [
      | inl stays ↦ stays.1
      | inr lost ↦ absurd (lost.0 first)
    ] in
    let made_of : (l : Line) → new.present.line ≡ l → first_state l ≡ first_state line
    → upto new ≡ (all_places h.earlier ++ map (place_in at) l.before) ++ place_in at
    l.current ∷ [] =
    λ l same first.
    ap (λ (d : Database). (all_places new.earlier ++ map (place_in d) new.present.line.before)
    ++ place_in d new.present.line.current ∷ []) move.base
    ∙ ap (λ (k : Line). (all_places new.earlier ++ map (place_in at) k.before)
    ++ place_in at k.current ∷ []) same
    ∙ ap (λ (gs : List Generation). (all_places gs ++ map (place_in at) l.before)
    ++ place_in at l.current ∷ []) (as_first (ap first_state same ∙ first)) in
    elim (all.changes ask events report new.present.line move.answers).entered [
      | inl same ↦ ([], inl (same, refl), made_of line same refl ∙ sym (append_nil (upto h)))
      | inr moved ↦ elim kept.history [
        | inl same ↦ absurd (moved.0 (ap (λ (l : Line). l.current) same))
        | inr other ↦ elim other [
          | inl undo ↦ absurd undo.0
          | inr rest ↦ elim rest [
            | inl redo ↦ absurd redo.0
            | inr keeps ↦
                let more : Line = put_last line new.present.line.current in
                let long : length (states more) ≡ suc (suc (length line.before)) = omega (
                  arith,
                  length-append line.before (line.current ∷ []),
                  length-append (line.before ++ line.current ∷ []) (new.present.line.current ∷ []),
                ) in
                let made : new.present.line ≡ more = elim keeps [
                  | inl made ↦ made
                  | inr lost ↦ absurd (omega (
                    arith,
                    lost.0,
                    long,
                    room,
                    kept.bound,
                    length-append line.before (line.current ∷ line.after),
                  ))
                ] in (
                  place_in at new.present.line.current ∷ [],
                  inr (moved.0, refl),
                  made_of more made
                      (first_push line.before line.current new.present.line.current)
                      ∙ ap (λ (ps : List Place). ps ++ place_in at new.present.line.current ∷ [])
                      (ap (λ (ps : List Place). all_places h.earlier ++ ps)
                      (map_append (place_in at) line.before (line.current ∷ []))
                      ∙ sym (append_three (all_places h.earlier) (map (place_in at) line.before)
                      (place_in at line.current ∷ []))),
                )
          ]
        ]
      ]
    ]

-- entering a database adds one
enter_adds : (h : History) (list : List Conversion) (d : Database) (new : History) → IsHistory h
    → Enters h list d new → IsHistory new × Adds h (place_now new ∷ []) new
unfolding upto Adds
enter_adds h list d new of enters = let behind = entered h of list d new enters in
    (behind.history, ap (λ (ps : List Place). ps ++ place_now new ∷ []) behind.before)

adds_both : (h half new : History) (first second : List Place) → Adds h first half
    → Adds half second new → Adds h (first ++ second) new
unfolding upto Adds
adds_both h half new first second a b =
    b ∙ ap (λ (ps : List Place). ps ++ second) a ∙ append_three (upto h) first second

-- a list that ends in this, without its first
ends_with : (before fs : List State) (c gone : State) → before ++ c ∷ [] ≡ gone ∷ fs
    → 1 ≤ length fs → (xs : List State) × (fs ≡ xs ++ c ∷ [])
ends_with [] fs c gone same some = let none : [] ≡ fs = cons_tail c gone [] fs same in
    absurd (omega (arith, some, (let lengths : 0 ≡ length fs = ap length none in lengths)))
ends_with (b ∷ bs) fs c gone same some =
    (bs, sym (cons_tail b gone (bs ++ c ∷ []) fs same))

-- the second history stands behind where the first one stood, with these places between, and its
-- own the last of them
IsBehind : History → List Place → History → Type 0
IsBehind h more new = (front : List Place) × (upto new ≡ front ++ place_now h ∷ more)

-- whatever a full line drops, a change leaves where it began: these states are behind that
record IsLineBehind (line new : Line) : Type 0 where
  front : List State
  ends : List State
  adds : AddsTo line new (length ends)
  is : new.before ++ new.current ∷ [] ≡ front ++ line.current ∷ ends

line_behind : (d : Database) (line new : Line) (ask : Ask) (events : List Event)
    (report : Reported) → IsDatabase d → IsLineOf d line
    → Does d line (Change ask events) report new → IsLineBehind line new
line_behind d line new ask events report is_db of does =
    let all = promised d line is_db of in
    let kept = all.history (Change ask events) report new does in
    let more : Line = put_last line new.current in
    elim (all.changes ask events report new does).entered [
      | inl same ↦ record {
        front = line.before;
        ends = [];
        adds = inl (same, refl);
        is = ap (λ (l : Line). l.before ++ l.current ∷ []) same;
      }
      | inr moved ↦
          let back : (xs : List State) × (new.before ≡ xs ++ line.current ∷ []) =
          elim kept.history [
            | inl same ↦ absurd (moved.0 (ap (λ (l : Line). l.current) same))
            | inr other ↦ elim other [
              | inl undo ↦ absurd undo.0
              | inr rest ↦ elim rest [
                | inl redo ↦ absurd redo.0
                | inr keeps ↦ elim keeps [
                  | inl made ↦ (line.before, ap (λ (l : Line). l.before) made)
                  | inr lost ↦ elim lost.1.1 [
                    | inl first ↦
                        ends_with line.before new.before line.current lost.1.0
                        (ap (λ (l : Line). l.before) first.0) first.1
                    | inr last ↦
                        let none : [] ≡ new.after ++ lost.1.0 ∷ [] =
                        ap (λ (l : Line). l.after) last.0 in
                        let lengths : 0 ≡ length (new.after ++ lost.1.0 ∷ []) = ap length none in
                        absurd (omega (arith, lengths, length-append new.after (lost.1.0 ∷ [])))
                  ]
                ]
              ]
            ]
          ] in record {
            front = back.0;
            ends = new.current ∷ [];
            adds = inr (moved.0, refl);
            is =
                ap (λ (b : List State). b ++ new.current ∷ []) back.1
                ∙ push_append back.0 line.current (new.current ∷ []);
          }
    ]

-- so a history of that line stands behind one of this line, whatever comes before both
behind_of : (h new : History) (b : IsLineBehind h.present.line new.present.line)
    → new.present.base ≡ h.present.base → IsBehind h (map (place_in h.present.base) b.ends) new
unfolding upto IsBehind
behind_of h new b base =
    let at : Database = h.present.base in
    let line : Line = new.present.line in
    let before : List Place = all_places new.earlier in (
      before ++ map (place_in at) b.front,
      ap (λ (d : Database). (before ++ map (place_in d) line.before)
          ++ place_in d line.current ∷ []) base
          ∙ append_three before (map (place_in at) line.before) (place_in at line.current ∷ [])
          ∙ ap (λ (ps : List Place). before ++ ps)
          (sym (map_append (place_in at) line.before (line.current ∷ []))
          ∙ ap (map (place_in at)) b.is
          ∙ map_append (place_in at) b.front (h.present.line.current ∷ b.ends))
          ∙ sym (append_three before (map (place_in at) b.front)
          (place_now h ∷ map (place_in at) b.ends)),
    )

-- without its oldest generation, a history has the present one that it had
room_present : (half room : History) → MayDropOldest half room → room.present ≡ half.present
room_present half room (inl same) = ap (λ (h : History). h.present) same
room_present half room (inr (gone, earlier, present, later)) = present

room_is : (half room : History) → MayDropOldest half room → IsHistory half → IsHistory room
room_is half room (inl same) of = subst IsHistory (sym same) of
room_is half room (inr drops) of = drops_keep half room (inl drops) of

-- the first half of an update, and the oldest generation that may be dropped for the new one
record IsHalfBehind (h half room : History) : Type 0 where
  ends : List State
  adds : AddsTo h.present.line half.present.line (length ends)
  history : IsHistory room
  behind : IsBehind h (map (place_in h.present.base) ends) room

half_behind : (h half room : History) (ask : Ask) (events : List Event) (report : Reported)
    → IsHistory h → MovesInside h (Change ask events) (Ok report) half → MayDropOldest half room
    → IsHalfBehind h half room
half_behind h half room ask events report of move drops =
    let is = present_of h of in
    let b = line_behind h.present.base h.present.line half.present.line ask events report
    is.database is.line move.answers in
    let same : room.present ≡ half.present = room_present half room drops in record {
      ends = b.ends;
      adds = b.adds;
      history =
          room_is half room drops
          (inside_keeps h half of (Change ask events) (Ok report) move);
      behind =
          behind_of h room (record {
            front = b.front;
            ends = b.ends;
            adds =
                subst (λ (g : Generation). AddsTo h.present.line g.line (length b.ends))
                (sym same) b.adds;
            is =
                ap (λ (g : Generation). g.line.before ++ g.line.current ∷ []) same ∙ b.is;
          })
          (ap (λ (g : Generation). g.base) same ∙ move.base);
    }

-- what is added behind stands behind
behind_adds : (h half new : History) (first second : List Place) → IsBehind h first half
    → Adds half second new → IsBehind h (first ++ second) new
unfolding upto Adds IsBehind
behind_adds h half new first second b a = (
  b.0,
  a ∙ ap (λ (ps : List Place). ps ++ second) b.1 ∙ append_three b.0 (place_now h ∷ first) second,
)

-- as many places back, the second history has where the first one stood
behind_place : (h new : History) (more : List Place) → IsBehind h more new
    → (length more ≤ cursor_of new)
    × (slice_get (places new) (cursor_of new - length more) ≡ Some (place_now h))
unfolding upto IsBehind
behind_place h new more b =
    let lengths : length (upto new) ≡ length (b.0 ++ place_now h ∷ more) = ap length b.1 in
    let place : length b.0 ≡ cursor_of new - length more = omega (
      arith,
      lengths,
      length-append b.0 (place_now h ∷ more),
      length-append (places_before new) (place_now new ∷ []),
    ) in
    let all : places new ≡ b.0 ++ place_now h ∷ (more ++ places_after new) =
    sym (push_append (places_before new) (place_now new) (places_after new))
    ∙ ap (λ (ps : List Place). ps ++ places_after new) b.1
    ∙ append_three b.0 (place_now h ∷ more) (places_after new) in (
      omega (
        arith,
        lengths,
        length-append b.0 (place_now h ∷ more),
        length-append (places_before new) (place_now new ∷ []),
      ),
      subst (λ k. slice_get (places new) k ≡ Some (place_now h)) place
          (ap (λ (ps : List Place). slice_get ps (length b.0)) all
          ∙ get_middle b.0 (place_now h) (more ++ places_after new)),
    )

-- a database that was just entered has room: its line has one state
entered_room : (h : History) (list : List Conversion) (d : Database) (new : History)
    → Enters h list d new → HasRoom new
entered_room h list d new enters =
    let one : length (states new.present.line) ≡ 1 =
    ap (λ (b : List State). length (b ++ new.present.line.current ∷ new.present.line.after))
    enters.before
    ∙ ap (λ (a : List State). length (new.present.line.current ∷ a)) enters.after in
    omega (arith, one, enters.bound.0)

-- what an update adds
pub record IsAdded (h : History) (list : List Conversion) (d : Database) (new : History)
    (update : IsUpdate h list d new) : Type 0 where
  pub history : IsHistory new
  pub number : ℕ
  pub adds : AddsPlaces h list d new update number
  pub some : 1 ≤ number
  pub few : number ≤ 3
  pub within : number ≤ cursor_of new
  pub place : slice_get (places new) (cursor_of new - number) ≡ Some (place_now h)

pub update_adds : (h : History) (list : List Conversion) (d : Database) (new : History)
    → IsHistory h → (update : IsUpdate h list d new) → IsAdded h list d new update
update_adds h list d new of u =
    let one = half_behind h u.half u.room u.lowering u.lowered u.first of u.lowers u.drops in
    let two = enter_adds u.room u.by d u.entered one.history u.enters in
    let three = change_adds u.entered new u.raising u.raised u.second two.0
    (entered_room u.room u.by d u.entered u.enters) u.raises in
    let first : List Place = map (place_in h.present.base) one.ends in
    let behind : List Place = place_now u.entered ∷ three.0 in
    let more : List Place = first ++ behind in
    let b = behind_adds h u.room new first behind one.behind
    (adds_both u.room u.entered new (place_now u.entered ∷ []) three.0 two.1 three.2) in
    let place = behind_place h new more b in
    let number : length more ≡ length one.ends + 1 + length three.0 = omega (
      arith,
      length-append first behind,
      length-map one.ends (place_in h.present.base),
    ) in record {
      history = inside_keeps u.entered new two.0 (Change u.raising u.raised) (Ok u.second) u.raises;
      number = length more;
      adds = (length one.ends, length three.0, one.adds, three.1, number);
      some = omega (arith, number);
      few = omega (
        arith,
        number,
        few_added h.present.line u.half.present.line (length one.ends) one.adds,
        few_added u.entered.present.line new.present.line (length three.0) three.1,
      );
      within = place.0;
      place = place.1;
    }

pub updates_back : (h : History) → IsHistory h → UpdatesAreTakenBack h
updates_back h of list d new u =
    let added = update_adds h list d new of u in (
      added.number,
      added.some,
      added.few,
      λ old steps.
          let back = steps_back_restore new added.history added.number old steps in
          same_Some (place_now old) (place_now h) (sym back.1.restored ∙ added.place),
    )

-- as many steps back as places were put behind
steps_behind : (h new : History) (more : List Place) → IsHistory new → IsBehind h more new
    → (old : History) → SeveralBack (length more) new old → place_now old ≡ place_now h
steps_behind h new more of behind old steps =
    let back = steps_back_restore new of (length more) old steps in
    same_Some (place_now old) (place_now h)
    (sym back.1.restored ∙ (behind_place h new more behind).1)

pub cut_updates_back : (h : History) → IsHistory h → CutUpdatesAreTakenBack h
cut_updates_back h of list d new cut = elim cut [
  | inl half ↦
      let one = half_behind h new new half.0 half.1 half.2 of half.3 (inl refl) in
      let first : List Place = map (place_in h.present.base) one.ends in (
        length first,
        omega (
          arith,
          length-map one.ends (place_in h.present.base),
          few_added h.present.line new.present.line (length one.ends) one.adds,
        ),
        steps_behind h new first one.history one.behind,
      )
  | inr in_new ↦
      let half : History = in_new.0 in
      let room : History = in_new.1 in
      let one = half_behind h half room in_new.2 in_new.3 in_new.4 of in_new.5 in_new.6 in
      let two = enter_adds room list d new one.history in_new.7 in
      let first : List Place = map (place_in h.present.base) one.ends in
      let more : List Place = first ++ place_now new ∷ [] in (
        length more,
        omega (
          arith,
          length-append first (place_now new ∷ []),
          length-map one.ends (place_in h.present.base),
          few_added h.present.line half.present.line (length one.ends) one.adds,
        ),
        steps_behind h new more two.0
            (behind_adds h room new first (place_now new ∷ []) one.behind two.1),
      )
]
