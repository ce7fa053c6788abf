-- A run stays one where its events are logged in another order.
use Rattle.std.proofs.Common.{◌≡◌, ◌≢◌, ◌∙◌, ◌⊎◌, ◌↔◌, ◌==◌, inl, inr, ℕ, List, [], ◌∷◌, ◌++◌}
use Rattle.std.proofs.Common.{Contains, refl, ap, sym, subst, append_assoc}
use Rattle.std.proofs.lemmas.Bool.{cases_eq, cond-false, ne_eqb}
use Rattle.std.proofs.lemmas.List.{append-nil}
use Rattle.std.proofs.lemmas.List.Elements.{Contains-push, Contains-push_cases}
use Rattle.rc_model.specs.declared.Event.{Event}
use Rattle.rc_model.specs.declared.Event.TheVariants.{Take, Done, Stop}
use Rattle.rc_model.specs.declared.Standing.{Standing}
use Rattle.rc_model.specs.declared.Standing.TheVariants.{Sinking, Up}
use Rattle.rc_model.specs.Run.{CanMove, Course, IsLegal, IsLive, IsRun, after_end, after_event}
use Rattle.rc_model.specs.Run.{after_take, is_success, standing_of}
use Rattle.rc_model.proofs.EventLemmas.{still_there, take_then_done, take_then_take}
use Rattle.rc_model.proofs.RunLemmas.{run_push, front_run}
use Rattle.rc_model.proofs.StandingLemmas.{standing_push}
use Rattle.rc_core.proofs.Places.{move_is_left}
use Rattle.rc_core.proofs.Stories.{story_of}
use Rattle.rc_recovery.specs.Reordered.{AreReordered, IsTurned, MayTurn}
use Rattle.rc_recovery.proofs.Swaps.{dones, front, last, take_done, takes}

-- two lists of events that are alike: they hold the same events, and all stands alike after them
record Alike (c : Course) (old new : List Event) : Type 0 where
  has : (e : Event) → Contains old e → Contains new e
  had : (e : Event) → Contains new e → Contains old e
  stands : (s : ℕ) → standing_of c old s ≡ standing_of c new s

moves_alike : (c : Course) (old new : List Event) (s : ℕ) → Alike c old new → CanMove c old s
    → CanMove c new s
moves_alike c old new s alike move = elim move [
  | inl sinks ↦ inl (record {
    planned = sinks.planned;
    up = sym (alike.stands s) ∙ sinks.up;
    fresh = λ taken. sinks.fresh (taken.0, alike.had (Take taken.0 s) taken.1);
    needed_by_none = λ r need. sym (alike.stands r) ∙ sinks.needed_by_none r need;
  })
  | inr rises ↦ inr (record {
    planned = rises.planned;
    down = sym (alike.stands s) ∙ rises.down;
    fresh = λ taken. rises.fresh (taken.0, alike.had (Take taken.0 s) taken.1);
    needs_up = λ t need. sym (alike.stands t) ∙ rises.needs_up t need;
  })
]

legal_alike : (c : Course) (old new : List Event) (e : Event) → Alike c old new → IsLegal c old e
    → IsLegal c new e
legal_alike c old new (Take w s) alike legal = (
  legal.0,
  λ stopped. legal.1 (stopped.0, stopped.1, alike.had (Stop stopped.0 stopped.1) stopped.2),
  λ x held. legal.2 x (
    alike.had (Take w x) held.0,
    λ o done. held.1 o (alike.has (Done w x o) done),
  ),
  moves_alike c old new s alike legal.3,
)
legal_alike c old new (Done w s o) alike legal = (
  legal.0,
  (alike.has (Take w s) legal.1.0, λ p done. legal.1.1 p (alike.had (Done w s p) done)),
)
legal_alike c old new (Stop w m) alike legal = (
  legal.0,
  λ stopped. legal.1 (stopped.0, stopped.1, alike.had (Stop stopped.0 stopped.1) stopped.2),
  legal.2,
)

more_has : (old new : List Event) (e x : Event) → (Contains old x → Contains new x)
    → Contains (old ++ e ∷ []) x → Contains (new ++ e ∷ []) x
more_has old new e x has at = elim (Contains-push_cases old e x at) [
  | inl before ↦ still_there new e x (has before)
  | inr now ↦ subst (λ (y : Event). Contains (new ++ e ∷ []) y) now (Contains-push new e)
]

more_alike : (c : Course) (old new : List Event) (e : Event) → Alike c old new
    → Alike c (old ++ e ∷ []) (new ++ e ∷ [])
more_alike c old new e alike = record {
  has = λ x. more_has old new e x (alike.has x);
  had = λ x. more_has new old e x (alike.had x);
  stands = λ s. standing_push c old e s
      ∙ ap (λ (at : Standing). after_event s at e) (alike.stands s) ∙ sym (standing_push c new e s);
}

-- what goes on after one goes on after the other
goes_on : (c : Course) (rest old new : List Event) → Alike c old new → IsRun c new
    → IsRun c (old ++ rest) → IsRun c (new ++ rest) × Alike c (old ++ rest) (new ++ rest)
goes_on c [] old new alike run whole = (
  subst (IsRun c) (sym (append-nil new)) run,
  subst (λ (l : List Event). Alike c l (new ++ [])) (sym (append-nil old))
      (subst (λ (l : List Event). Alike c old l) (sym (append-nil new)) alike),
)
goes_on c (e ∷ rest) old new alike run whole =
    let split : old ++ e ∷ rest ≡ (old ++ e ∷ []) ++ rest = sym (append_assoc old (e ∷ []) rest) in
    let all : IsRun c ((old ++ e ∷ []) ++ rest) = subst (IsRun c) split whole in
    let legal : IsLegal c old e = last c old e (front_run c (old ++ e ∷ []) rest all) in
    let on = goes_on c rest (old ++ e ∷ []) (new ++ e ∷ []) (more_alike c old new e alike)
    (run_push c new e run (legal_alike c old new e alike legal)) all in
    let P : List Event → List Event → Type 0 = λ l m. IsRun c m × Alike c l m in
    subst (λ (l : List Event). P l (new ++ e ∷ rest)) (sym split)
    (subst (P ((old ++ e ∷ []) ++ rest)) (append_assoc new (e ∷ []) rest) on)

-- the service of an event that begins or ends a transition
abbrev service_of : Event → ℕ
service_of (Take w s) = s
service_of (Done w s o) = s
service_of (Stop w m) = 0

-- a service that an event does not name stands as before
untouched : (r : ℕ) (e : Event) (at : Standing) → service_of e ≢ r → after_event r at e ≡ at
untouched r (Take w s) at other = cond-false (s == r) (after_take at) at (ne_eqb s r other)
untouched r (Done w s o) at other =
    cond-false (s == r) (after_end (is_success o) at) at (ne_eqb s r other)
untouched r (Stop w m) at other = refl

turned_standing : (r : ℕ) (x y : Event) (at : Standing) → service_of x ≢ service_of y
    → after_event r (after_event r at x) y ≡ after_event r (after_event r at y) x
turned_standing r x y at differ = elim (cases_eq (service_of x) r) [
  | inl same ↦
      let other : service_of y ≢ r = λ is. differ (same ∙ sym is) in
      untouched r y (after_event r at x) other
      ∙ ap (λ (z : Standing). after_event r z x) (sym (untouched r y at other))
  | inr other ↦
      ap (λ (z : Standing). after_event r z y) (untouched r x at other)
      ∙ sym (untouched r x (after_event r at y) other)
]

-- the two lists that end in two events, either first, are alike
has_turned : (a : List Event) (x y e : Event) → Contains ((a ++ x ∷ []) ++ y ∷ []) e
    → Contains ((a ++ y ∷ []) ++ x ∷ []) e
has_turned a x y e at = elim (Contains-push_cases (a ++ x ∷ []) y e at) [
  | inl before ↦ elim (Contains-push_cases a x e before) [
    | inl there ↦ still_there (a ++ y ∷ []) x e (still_there a y e there)
    | inr now ↦ subst (λ (z : Event). Contains ((a ++ y ∷ []) ++ x ∷ []) z) now
        (Contains-push (a ++ y ∷ []) x)
  ]
  | inr now ↦ subst (λ (z : Event). Contains ((a ++ y ∷ []) ++ x ∷ []) z) now
      (still_there (a ++ y ∷ []) x y (Contains-push a y))
]

turned_alike : (c : Course) (a : List Event) (x y : Event) → service_of x ≢ service_of y
    → Alike c ((a ++ x ∷ []) ++ y ∷ []) ((a ++ y ∷ []) ++ x ∷ [])
turned_alike c a x y differ = record {
  has = λ e. has_turned a x y e;
  had = λ e. has_turned a y x e;
  stands = λ s.
      standing_push c (a ++ x ∷ []) y s
      ∙ ap (λ (z : Standing). after_event s z y) (standing_push c a x s)
      ∙ turned_standing s x y (standing_of c a s) differ
      ∙ ap (λ (z : Standing). after_event s z x) (sym (standing_push c a y s))
      ∙ sym (standing_push c (a ++ y ∷ []) x s);
}

-- one worker takes a service in a run
one_taker : (c : Course) (a : List Event) (w v s : ℕ) → IsRun c a → Contains a (Take w s)
    → Contains a (Take v s) → w ≡ v
one_taker c a w v s run first second = elim (story_of c a s run) [
  | inl stayed ↦ absurd (stayed.fresh (w, first))
  | inr (inl out) ↦ out.alone w first ∙ sym (out.alone v second)
  | inr (inr back) ↦ back.alone w first ∙ sym (back.alone v second)
]

-- and two events that may change places are of two services
differ_in : (c : Course) (a : List Event) (x y : Event) → MayTurn x y
    → IsRun c ((a ++ x ∷ []) ++ y ∷ []) → service_of x ≢ service_of y
differ_in c a (Take w s) (Take v t) may run =
    let mid : List Event = a ++ Take w s ∷ [] in
    let second : IsLegal c mid (Take v t) = last c mid (Take v t) run in
    λ same. (move_is_left c mid t second.3).1
    (w, subst (λ (x : ℕ). Contains mid (Take w x)) same (Contains-push a (Take w s)))
differ_in c a (Take w s) (Done v t o) may run =
    let mid : List Event = a ++ Take w s ∷ [] in
    let first : IsLegal c a (Take w s) = last c a (Take w s) (front c mid (Done v t o) run) in
    let second : IsLegal c mid (Done v t o) = last c mid (Done v t o) run in
    let held : Contains a (Take v t) = elim (take_then_take a w s v t second.1.0) [
      | inl before ↦ before
      | inr now ↦ absurd (may (sym now.0))
    ] in
    λ same. (move_is_left c a s first.3).1
    (v, subst (λ (x : ℕ). Contains a (Take v x)) (sym same) held)
differ_in c a (Done w s o) (Done v t p) may run =
    let mid : List Event = a ++ Done w s o ∷ [] in
    let begun : IsRun c mid = front c mid (Done v t p) run in
    let first : IsLegal c a (Done w s o) = last c a (Done w s o) begun in
    let second : IsLegal c mid (Done v t p) = last c mid (Done v t p) run in
    let held : Contains a (Take v t) = take_then_done a w s o v t second.1.0 in
    λ same. may (one_taker c a w v s (front c a (Done w s o) begun) first.1.0
    (subst (λ (x : ℕ). Contains a (Take v x)) (sym same) held))
differ_in c a (Take w s) (Stop v m) may run = absurd may
differ_in c a (Done w s o) (Take v t) may run = absurd may
differ_in c a (Done w s o) (Stop v m) may run = absurd may
differ_in c a (Stop w m) y may run = absurd may

turn_last : (c : Course) (a : List Event) (x y : Event) → MayTurn x y
    → IsRun c ((a ++ x ∷ []) ++ y ∷ []) → IsRun c ((a ++ y ∷ []) ++ x ∷ [])
turn_last c a (Take w s) (Take v t) may run = takes c a w s v t may run
turn_last c a (Take w s) (Done v t o) may run = take_done c a w s v t o may run
turn_last c a (Done w s o) (Done v t p) may run = dones c a w s v t o p may run
turn_last c a (Take w s) (Stop v m) may run = absurd may
turn_last c a (Done w s o) (Take v t) may run = absurd may
turn_last c a (Done w s o) (Stop v m) may run = absurd may
turn_last c a (Stop w m) y may run = absurd may

two_more : (a behind : List Event) (x y : Event)
    → a ++ x ∷ y ∷ behind ≡ ((a ++ x ∷ []) ++ y ∷ []) ++ behind
two_more a behind x y =
    sym (append_assoc a (x ∷ []) (y ∷ behind)) ∙ sym (append_assoc (a ++ x ∷ []) (y ∷ []) behind)

-- two neighbours change places
turned : (c : Course) (old new : List Event) → IsTurned old new → IsRun c old
    → IsRun c new × Alike c old new
turned c old new turn run =
    let a = turn.before in let x = turn.first in let y = turn.second in let rest = turn.behind in
    let P : List Event → List Event → Type 0 = λ l m. IsRun c m × Alike c l m in
    let old_is : old ≡ ((a ++ x ∷ []) ++ y ∷ []) ++ rest = turn.old_is ∙ two_more a rest x y in
    let new_is : new ≡ ((a ++ y ∷ []) ++ x ∷ []) ++ rest = turn.new_is ∙ two_more a rest y x in
    let whole : IsRun c (((a ++ x ∷ []) ++ y ∷ []) ++ rest) = subst (IsRun c) old_is run in
    let two : IsRun c ((a ++ x ∷ []) ++ y ∷ []) =
    front_run c ((a ++ x ∷ []) ++ y ∷ []) rest whole in
    let on = goes_on c rest ((a ++ x ∷ []) ++ y ∷ []) ((a ++ y ∷ []) ++ x ∷ [])
    (turned_alike c a x y (differ_in c a x y turn.may two)) (turn_last c a x y turn.may two) whole
    in
    subst (λ (l : List Event). P l new) (sym old_is)
    (subst (P (((a ++ x ∷ []) ++ y ∷ []) ++ rest)) (sym new_is) on)

-- and so any number of times
pub reordered_run : (c : Course) (steps : List (List Event)) (old new : List Event)
    → AreReordered steps old new → IsRun c old → IsRun c new
reordered_run c [] old new same run = subst (IsRun c) (sym same) run
reordered_run c (next ∷ steps) old new (turn, rest) run =
    reordered_run c steps next new rest (turned c old next turn run).0

reordered_stands : (c : Course) (steps : List (List Event)) (old new : List Event)
    → AreReordered steps old new → IsRun c old → (s : ℕ)
    → standing_of c old s ≡ standing_of c new s
reordered_stands c [] old new same run s = ap (λ (l : List Event). standing_of c l s) (sym same)
reordered_stands c (next ∷ steps) old new (turn, rest) run s =
    let is = turned c old next turn run in
    is.1.stands s ∙ reordered_stands c steps next new rest is.0 s

pub live_as : (c : Course) (old new : List Event) (s : ℕ)
    → standing_of c old s ≡ standing_of c new s → IsLive c new s ↔ IsLive c old s
live_as c old new s same =
    let L : Standing → Type 0 = λ z. (z ≡ Up) ⊎ (z ≡ Sinking) in
    (subst L (sym same), subst L same)

pub reordered_live : (c : Course) (steps : List (List Event)) (old new : List Event)
    → AreReordered steps old new → IsRun c old → (s : ℕ) → IsLive c new s ↔ IsLive c old s
reordered_live c steps old new are run s =
    live_as c old new s (reordered_stands c steps old new are run s)
