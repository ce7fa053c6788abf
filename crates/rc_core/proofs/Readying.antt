-- The counts and the queue say what the events say.
use Rattle.std.proofs.Common.{◌≡◌, ◌∙◌, ◌↔◌, ℕ, ◌<◌, ◌≤◌, List, [], ◌∷◌, ◌++◌, Bool, true, false}
use Rattle.std.proofs.Common.{Contains, inl, inr, length, slice_index, slice_index_or, vec_capacity}
use Rattle.std.proofs.Common.{ap, sym, subst, arith}
use Rattle.std.specs.Global.{Vec}
use Rattle.std.proofs.lemmas.Bool.{cases_lt, false_from_ne_true}
use Rattle.std.proofs.lemmas.List.{get_or_past}
use Rattle.std.proofs.lemmas.List.Elements.{Contains-append_left, Contains-append_right}
use Rattle.std.proofs.lemmas.List.Elements.{Contains-append_cases}
use Rattle.rc_model.specs.Names.{Has}
use Rattle.rc_model.proofs.SetMembers.{has_or_lacks, is_set_or_not}
use Rattle.rc_graph.specs.Order.{AreDistinct}
use Rattle.rc_graph.proofs.Unmet.{contains_or_lacks}
use Rattle.rc_graph.proofs.Orders.{distinct_join}
use Rattle.rc_model.specs.declared.Standing.TheVariants.{Down, Up}
use Rattle.rc_model.specs.declared.Outcome.{Outcome}
use Rattle.rc_model.specs.declared.Event.{Event}
use Rattle.rc_model.specs.declared.Event.TheVariants.{Take, Done, Stop}
use Rattle.rc_core.specs.declared.ready.Ready.{Ready}
use Rattle.rc_model.specs.Run.{Course, IsPlanned, is_success, standing_of, WasTaken, IsHeldBy}
use Rattle.rc_model.specs.Run.{CanMove, IsLegal, IsRun}
use Rattle.rc_model.specs.Beside.{IsCourse}
use Rattle.rc_core.specs.Ready.{IsCount, IsMissing, AreReady, IsNext, NotesArrival, TakesOut}
use Rattle.rc_core.specs.Ready.{IsFirstReady, HasQueue, CanNoteReady, NotesReady}
use Rattle.rc_core.proofs.Counted.{same_count, less_count, none_of_zero}
use Rattle.rc_core.proofs.Counted.{zero_of_none, some_counts}
use Rattle.rc_model.proofs.EventLemmas.{still_there, take_then_take, take_then_done, take_then_stop}
use Rattle.rc_model.proofs.RunLemmas.{taken_was_planned}
use Rattle.rc_model.proofs.StandingLemmas.{standing_stop, standing_first_up, standing_first_down}
use Rattle.rc_model.proofs.StandingLemmas.{is_down_or_not}
use Rattle.rc_core.proofs.Missing.{up_or_not, fresh_stands, missing_kept, missing_after_take}
use Rattle.rc_core.proofs.Missing.{missing_after_failure, next_missing, missing_next}
use Rattle.rc_core.proofs.Missing.{missing_after_success}
use Rattle.rc_core.proofs.Noting.{left_after_take}
use Rattle.rc_core.proofs.Places.{move_is_left, planned_within}
use Rattle.rc_core.proofs.Opening.{none_happened}

-- what may be taken is what stands in the queue
pub ready_moves : (c : Course) (events : List Event) (waits queue : List ℕ) → IsCourse c
    → IsRun c events → AreReady c events waits queue → (s : ℕ)
    → Contains queue s ↔ CanMove c events s
ready_moves c events waits queue course run ready s = (
  λ there.
      let h = (ready.ones s).0 there in
      let first = fresh_stands c events s run h.0.1 in
      let none =
      none_of_zero (IsMissing c events s) (slice_index waits s) (ready.counts s h.0.0) h.1 in
      elim h.0.0 [
        | inl lower ↦ inl (record {
          planned = lower;
          up = first ∙ standing_first_up c s (course.falls s lower);
          fresh = h.0.1;
          needed_by_none =
              λ r need.
              elim (is_down_or_not (standing_of c events r)) [
                | inl down ↦ down
                | inr not_down ↦ absurd (none r (inr (lower, need, not_down)))
              ];
        })
        | inr raise ↦ inr (record {
          planned = raise;
          down = first ∙ standing_first_down c s (course.rises s raise);
          fresh = h.0.1;
          needs_up =
              λ t need.
              elim (up_or_not (standing_of c events t)) [
                | inl up ↦ up
                | inr not_up ↦ absurd (none t (inl (raise, need, not_up)))
              ];
        })
      ],
  λ move.
      let left = move_is_left c events s move in
      (ready.ones s).1 (
        left,
        zero_of_none (IsMissing c events s) (slice_index waits s) (ready.counts s left.0)
            (λ t missing. elim move [
              | inl sinks ↦ elim missing [
                | inl rises ↦ course.rises s rises.0 (course.falls s sinks.planned)
                | inr falls ↦ falls.2 (sinks.needed_by_none t falls.1)
              ]
              | inr rises ↦ elim missing [
                | inl high ↦ high.2 (rises.needs_up t high.1)
                | inr falls ↦ course.rises s rises.planned (course.falls s falls.0)
              ]
            ]),
      ),
)

-- after a take
pub ready_after_take : (c : Course) (events : List Event) (w x : ℕ) (old new : Ready) → IsCourse c
    → IsRun c events → CanMove c events x → AreReady c events old.waits.items old.queue.items
    → TakesOut old x new → AreReady c (events ++ Take w x ∷ []) new.waits.items new.queue.items
ready_after_take c events w x old new course run move ready takes =
    let count = λ (s : ℕ). ap (λ (ws : List ℕ). slice_index ws s) takes.waits in
    let zero : slice_index old.waits.items x ≡ 0 =
    ((ready.ones x).0
    ((ready_moves c events old.waits.items old.queue.items course run ready x).1 move)).1 in
    record {
      bound = ap length takes.waits ∙ ready.bound;
      counts =
          λ s planned.
          subst (λ (n : ℕ). IsCount (IsMissing c (events ++ Take w x ∷ []) s) n) (sym (count s))
          (same_count (IsMissing c events s) (IsMissing c (events ++ Take w x ∷ []) s)
          (slice_index old.waits.items s) (missing_after_take c events w x course run move s)
          (ready.counts s planned));
      idle = λ s none. count s ∙ ready.idle s none;
      taken = λ s was. count s ∙ elim (take_then_take events w x was.0 s was.1) [
        | inl before ↦ ready.taken s (was.0, before)
        | inr now ↦ subst (λ (y : ℕ). slice_index old.waits.items y ≡ 0) (sym now.1) zero
      ];
      once = takes.once;
      ones = λ s. (
        λ there.
            let h = (takes.ones s).0 there in
            let was = (ready.ones s).0 h.0 in
            ((left_after_take c events w x s).1 (was.0, h.1), count s ∙ was.1),
        λ h.
            let left = (left_after_take c events w x s).0 h.0 in
            (takes.ones s).1 ((ready.ones s).1 (left.0, sym (count s) ∙ h.1), left.1),
      );
    }

-- after an event that takes nothing and leaves what is missing
pub ready_still : (c : Course) (events : List Event) (e : Event) (waits queue : List ℕ)
    → ((s : ℕ) → WasTaken (events ++ e ∷ []) s → WasTaken events s)
    → ((s t : ℕ) → IsMissing c events s t ↔ IsMissing c (events ++ e ∷ []) s t)
    → AreReady c events waits queue → AreReady c (events ++ e ∷ []) waits queue
ready_still c events e waits queue untaken same ready = record {
  bound = ready.bound;
  counts =
      λ s planned.
      same_count (IsMissing c events s) (IsMissing c (events ++ e ∷ []) s) (slice_index waits s)
      (same s) (ready.counts s planned);
  idle = ready.idle;
  taken = λ s was. ready.taken s (untaken s was);
  once = ready.once;
  ones = λ s. (
    λ there. let h = (ready.ones s).0 there in ((h.0.0, λ was. h.0.1 (untaken s was)), h.1),
    λ h. (ready.ones s).1
        ((h.0.0, λ was. h.0.1 (was.0, still_there events e (Take was.0 s) was.1)), h.1),
  );
}

pub ready_after_failure : (c : Course) (events : List Event) (w x : ℕ) (o : Outcome)
    (waits queue : List ℕ) → IsCourse c → IsRun c events → IsHeldBy events w x
    → is_success o ≡ false → AreReady c events waits queue
    → AreReady c (events ++ Done w x o ∷ []) waits queue
ready_after_failure c events w x o waits queue course run held fails ready =
    ready_still c events (Done w x o) waits queue
    (λ s was. (was.0, take_then_done events w x o was.0 s was.1))
    (missing_after_failure c events w x o course run held fails) ready

pub ready_after_stop : (c : Course) (events : List Event) (w m : ℕ) (waits queue : List ℕ)
    → IsCourse c → AreReady c events waits queue → AreReady c (events ++ Stop w m ∷ []) waits queue
ready_after_stop c events w m waits queue course ready =
    ready_still c events (Stop w m) waits queue
    (λ s was. (was.0, take_then_stop events w m was.0 s was.1))
    (missing_kept c events (events ++ Stop w m ∷ []) course
    (λ t _. (
      λ up. sym (standing_stop c events w m t) ∙ up,
      λ up. standing_stop c events w m t ∙ up,
    ))
    (λ t _. (
      λ down. sym (standing_stop c events w m t) ∙ down,
      λ down. standing_stop c events w m t ∙ down,
    )))
    ready

-- those that wait for one service wait for it
pub next_waits : (c : Course) (events : List Event) (w x : ℕ) (waits queue : List ℕ) → IsCourse c
    → IsRun c events → IsHeldBy events w x → AreReady c events waits queue → (s : ℕ)
    → IsNext c.needs c.lower c.raise x s → 0 < slice_index waits s
next_waits c events w x waits queue course run held ready s next =
    let planned : IsPlanned c s = elim next [ inl falls ↦ inl falls.1 | inr rises ↦ inr rises.1 ] in
    some_counts (IsMissing c events s) (slice_index waits s) x (ready.counts s planned)
    (next_missing c events w x course run held s next)

-- after a transition that succeeded
pub ready_after_success : (c : Course) (events : List Event) (w x : ℕ) (o : Outcome)
    (old new : Ready) → IsCourse c → IsRun c events → IsHeldBy events w x → is_success o ≡ true
    → AreReady c events old.waits.items old.queue.items
    → NotesArrival c.needs c.lower c.raise x old new
    → AreReady c (events ++ Done w x o ∷ []) new.waits.items new.queue.items
ready_after_success c events w x o old new course run held well ready notes =
    let meets = notes.meets in
    let after = missing_after_success c events w x o course run held well in
    let untaken : (s : ℕ) → WasTaken (events ++ Done w x o ∷ []) s → WasTaken events s =
    λ s was. (was.0, take_then_done events w x o was.0 s was.1) in
    record {
      bound = meets.bound ∙ ready.bound;
      counts = λ s planned. elim (contains_or_lacks notes.those s) [
        | inl in' ↦ less_count (IsMissing c events s) (IsMissing c (events ++ Done w x o ∷ []) s)
            (slice_index old.waits.items s) (slice_index new.waits.items s) x
            (next_missing c events w x course run held s ((notes.same s).0 in')) (after s)
            (meets.less s in') (ready.counts s planned)
        | inr out ↦ subst (λ (n : ℕ). IsCount (IsMissing c (events ++ Done w x o ∷ []) s) n)
            (sym (meets.same s out))
            (same_count (IsMissing c events s) (IsMissing c (events ++ Done w x o ∷ []) s)
            (slice_index old.waits.items s) (λ t. (
              λ missing.
                  (after s t).1 (
                    missing,
                    λ same. out
                        ((notes.same s).1
                        (missing_next c events w x course run held s
                        (subst (IsMissing c events s) same missing))),
                  ),
              λ missing. ((after s t).0 missing).0,
            )) (ready.counts s planned))
      ];
      idle = λ s none. elim (contains_or_lacks notes.those s) [
        | inl in' ↦ absurd
            (none (elim ((notes.same s).0 in') [
              | inl falls ↦ inl falls.1
              | inr rises ↦ inr rises.1
            ]))
        | inr out ↦ meets.same s out ∙ ready.idle s none
      ];
      taken = λ s was.
          let zero = ready.taken s (untaken s was) in
          elim (contains_or_lacks notes.those s) [
            | inl in' ↦ absurd (omega (arith, zero, meets.less s in'))
            | inr out ↦ meets.same s out ∙ zero
          ];
      once = subst AreDistinct (sym meets.behind)
          (distinct_join old.queue.items meets.more ready.once meets.once
          (λ s first second.
          omega (arith, ((ready.ones s).0 first).1, ((meets.placed s).0 second).1)));
      ones = λ s. (
        λ there.
            elim (Contains-append_cases old.queue.items meets.more s
            (subst (λ (xs : List ℕ). Contains xs s) meets.behind there)) [
              | inl earlier ↦
                  let h = (ready.ones s).0 earlier in (
                    (h.0.0, λ was. h.0.1 (untaken s was)),
                    elim (contains_or_lacks notes.those s) [
                      | inl in' ↦ absurd (omega (arith, h.1, meets.less s in'))
                      | inr out ↦ meets.same s out ∙ h.1
                    ],
                  )
              | inr now ↦
                  let h = (meets.placed s).0 now in
                  let next = (notes.same s).0 h.0 in (
                    (
                      elim next [ inl falls ↦ inl falls.1 | inr rises ↦ inr rises.1 ],
                      λ was. omega (arith, ready.taken s (untaken s was), h.1),
                    ),
                    omega (arith, h.1, meets.less s h.0),
                  )
            ],
        λ h. subst (λ (xs : List ℕ). Contains xs s) (sym meets.behind)
            (elim (contains_or_lacks notes.those s) [
              | inl in' ↦ Contains-append_right old.queue.items meets.more s
                  ((meets.placed s).1 (in', omega (arith, h.1, meets.less s in')))
              | inr out ↦
                  let fresh : WasTaken events s → ⊥ = λ was.
                  h.0.1 (was.0, still_there events (Done w x o) (Take was.0 s) was.1) in
                  Contains-append_left old.queue.items meets.more s
                  ((ready.ones s).1 ((h.0.0, fresh), sym (meets.same s out) ∙ h.1))
            ]),
      );
    }

-- before the first event
pub ready_first : (c : Course) (planned : List Bool) (r : Ready) → IsCourse c
    → ((s : ℕ) → Has planned s ↔ IsPlanned c s)
    → IsFirstReady c.needs c.up c.lower c.raise planned r
    → AreReady c [] r.waits.items r.queue.items
ready_first c set r course all first = record {
  bound = first.bound;
  counts = λ s planned.
      let low = planned_within c s course planned in
      elim planned [
        | inl lower ↦ same_count _ (IsMissing c [] s) (slice_index r.waits.items s) (λ t. (
          λ h. inr (
            lower,
            h.0,
            λ down. let bad : Up ≡ Down = sym (standing_first_up c t h.1) ∙ down in cc,
          ),
          λ missing. elim missing [
            | inl rises ↦ absurd (course.rises s rises.0 (course.falls s lower))
            | inr falls ↦ (
              falls.1,
              elim (has_or_lacks c.up t) [
                | inl up ↦ up
                | inr lacks ↦ absurd (falls.2 (standing_first_down c t lacks))
              ],
            )
          ],
        )) ((first.counts s low).1 (λ raise. course.rises s raise (course.falls s lower)) lower)
        | inr raise ↦ same_count _ (IsMissing c [] s) (slice_index r.waits.items s) (λ t. (
          λ h. inl (
            raise,
            h.0,
            λ up.
                let lacks : Has c.up t → ⊥ = λ has.
                (let bad : false ≡ true = sym h.1 ∙ has in cc) in
                let bad : Down ≡ Up = sym (standing_first_down c t lacks) ∙ up in cc,
          ),
          λ missing. elim missing [
            | inl rises ↦ (
              rises.1,
              false_from_ne_true (slice_index_or c.up t false)
                  (λ up. rises.2 (standing_first_up c t up)),
            )
            | inr falls ↦ absurd (course.rises s raise (course.falls s falls.0))
          ],
        )) ((first.counts s low).0 raise)
      ];
  idle = λ s none. elim (cases_lt s (length c.needs)) [
    | inl low ↦ (first.counts s low).2 (λ raise. none (inr raise)) (λ lower. none (inl lower))
    | inr past ↦ get_or_past r.waits.items s 0 (omega (arith, first.bound))
  ];
  taken = λ s was. absurd (none_happened _ was.1);
  once = first.queue.once;
  ones = λ s. (
    λ there.
        let h = (first.queue.ones s).0 there in
        (((all s).0 h.0, λ was. none_happened _ was.1), h.1),
    λ h. (first.queue.ones s).1 ((all s).1 h.0.0, h.1),
  );
}

-- the queue of a run has what the calls on it ask for
pub has_queue : (c : Course) (events : List Event) (waits : List ℕ) (queue : Vec ℕ) → IsCourse c
    → AreReady c events waits queue.items → length c.needs ≤ vec_capacity queue
    → HasQueue waits queue
has_queue c events waits queue course ready room = record {
  once = ready.once;
  none = λ s there.
      let h = (ready.ones s).0 there in
      (omega (arith, planned_within c s course h.0.0, ready.bound), h.1);
  room = omega (arith, ready.bound, room);
}

-- what waits for some is to move
waits_are_planned : (c : Course) (events : List Event) (waits queue : List ℕ)
    → AreReady c events waits queue → (s : ℕ) → 0 < slice_index waits s → IsPlanned c s
waits_are_planned c events waits queue ready s some = elim (has_or_lacks c.lower s) [
  | inl low ↦ inl low
  | inr not_low ↦ elim (has_or_lacks c.raise s) [
    | inl high ↦ inr high
    | inr not_high ↦
        let none = ready.idle s (λ planned. elim planned [
          | inl low ↦ not_low low
          | inr high ↦ not_high high
        ]) in
        absurd (omega (arith, some, none))
  ]
]

-- a legal event can be written in
pub can_note_ready : (c : Course) (events : List Event) (old : Ready) (e : Event) → IsCourse c
    → IsRun c events → AreReady c events old.waits.items old.queue.items
    → length c.needs ≤ vec_capacity old.queue → IsLegal c events e
    → CanNoteReady c.needs c.lower c.raise old e
can_note_ready c events old (Take w s) course run ready room legal = (
  (ready_moves c events old.waits.items old.queue.items course run ready s).1 legal.3,
  ready.once,
)
can_note_ready c events old (Done w s o) course run ready room legal = λ well. record {
  known = planned_within c s course (taken_was_planned c events w s run legal.1.0);
  bound = ready.bound;
  missing =
      λ t next.
      next_waits c events w s old.waits.items old.queue.items course run legal.1 ready t next;
  falls = λ t lower need some.
      elim (waits_are_planned c events old.waits.items old.queue.items ready t some) [
        | inl low ↦ low
        | inr high ↦ absurd (course.rises t high (course.opening s t (course.falls s lower) need))
      ];
  rises = λ t not_low need some.
      elim (waits_are_planned c events old.waits.items old.queue.items ready t some) [
        | inl low ↦
            let raise : Has c.raise s =
            elim (taken_was_planned c events w s run legal.1.0) [
              | inl lower ↦ absurd (not_low lower)
              | inr raise ↦ raise
            ] in
            absurd (course.rises s raise (course.opening t s (course.falls t low) need))
        | inr high ↦ high
      ];
  queue = has_queue c events old.waits.items old.queue course ready room;
}
can_note_ready c events old (Stop w m) course run ready room legal = tt

-- and what was written in says what the events say
pub ready_noted : (c : Course) (events : List Event) (old new : Ready) (e : Event) → IsCourse c
    → IsRun c events → AreReady c events old.waits.items old.queue.items
    → length c.needs ≤ vec_capacity old.queue → IsLegal c events e
    → NotesReady c.needs c.lower c.raise old e new
    → AreReady c (events ++ e ∷ []) new.waits.items new.queue.items
    × (length c.needs ≤ vec_capacity new.queue)
ready_noted c events old new (Take w s) course run ready room legal notes = (
  ready_after_take c events w s old new course run legal.3 ready notes,
  omega (arith, room, notes.capacity),
)
ready_noted c events old new (Done w s o) course run ready room legal notes =
    elim (is_set_or_not (is_success o)) [
      | inl well ↦ (let arrival = notes.0 well in (
        ready_after_success c events w s o old new course run legal.1 well ready arrival,
        omega (arith, room, arrival.capacity),
      ))
      | inr not_well ↦ (
          let fails = false_from_ne_true (is_success o) not_well in
          let still = ready_after_failure c events w s o old.waits.items old.queue.items in
          subst (λ (r : Ready). AreReady c (events ++ Done w s o ∷ []) r.waits.items r.queue.items
          × (length c.needs ≤ vec_capacity r.queue)) (sym (notes.1 fails))
          (still course run legal.1 fails ready, room)
          )
    ]
ready_noted c events old new (Stop w m) course run ready room legal notes =
    subst (λ (r : Ready). AreReady c (events ++ Stop w m ∷ []) r.waits.items r.queue.items
    × (length c.needs ≤ vec_capacity r.queue)) (sym notes)
    (ready_after_stop c events w m old.waits.items old.queue.items course ready, room)
