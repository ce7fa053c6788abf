-- Scripts, line by line.
use Rattle.std.proofs.Common.{◌≡◌, ◌∙◌, ℕ, Bool, true, false, List, [], ◌∷◌, ◌++◌, Option, Some}
use Rattle.std.proofs.Common.{None, Result, Ok, Err, map, take, drop, get_or, length, ◌<◌, ◌+◌}
use Rattle.std.proofs.Common.{refl, sym, ap, subst, arith, append_assoc}
use Rattle.std.specs.Prelude.{IfOk, MatchBool}
use Rattle.std.specs.Option.{option_map}
use Rattle.std.proofs.lemmas.List.{map-append, length-map, take-append-drop, length-take-le}
use Rattle.rc_script.proofs.Texts.{images_more}
use Rattle.rc_model.specs.declared.Event.{Event}
use Rattle.rc_model.specs.Session.{Command}
use Rattle.rc_script.specs.Says.{SaysWrong, Says}
use Rattle.rc_script.specs.Script.{Happens, IsItemSaying, AddsLine, CannotAdd, Reads, IsBadLine}
use Rattle.rc_script.specs.Script.{lines_in, taking, with_event}

twice : {X Y Z : Type 0} (g : Y → Z) (f : X → Y) (o : Option X)
    → option_map g (option_map f o) ≡ option_map (λ x. g (f x)) o
twice g f None = refl
twice g f (Some x) = refl

-- the last command takes the event
last_takes : (commands : List Command) (command : Command) (event : Event)
    → with_event (commands ++ command ∷ []) event ≡ option_map (λ c. commands ++ c ∷ [])
    (taking command event)
last_takes [] command event = refl
last_takes (first ∷ []) command event =
    twice (λ cs. first ∷ cs) (λ c. c ∷ []) (taking command event)
last_takes (first ∷ next ∷ commands) command event =
    ap (option_map (λ cs. first ∷ cs)) (last_takes (next ∷ commands) command event)
    ∙ twice (λ cs. first ∷ cs) (λ c. next ∷ commands ++ c ∷ []) (taking command event)

module _ {S : Type 0} (f : S → Command) (old rest : List S) (last : S) (event : Event)
    (was : old ≡ rest ++ last ∷ []) where
  with_last : with_event (map f old) event ≡ option_map (λ c. map f rest ++ c ∷ [])
      (taking (f last) event)
  with_last =
      ap (λ (l : List S). with_event (map f l) event) was
      ∙ ap (λ (l : List Command). with_event l event) (map-append f rest (last ∷ []))
      ∙ last_takes (map f rest) (f last) event

  pub event_taken : (new : List S) (step : S) → Some (f step) ≡ taking (f last) event
      → new ≡ rest ++ step ∷ [] → with_event (map f old) event ≡ Some (map f new)
  event_taken new step taken is =
      with_last ∙ ap (option_map (λ c. map f rest ++ c ∷ [])) (sym taken)
      ∙ ap Some (sym (map-append f rest (step ∷ [])))
      ∙ ap (λ (l : List S). Some (map f l)) (sym is)

  pub event_not_taken : None ≡ taking (f last) event → with_event (map f old) event ≡ None
  event_not_taken taken = with_last ∙ ap (option_map (λ c. map f rest ++ c ∷ [])) (sym taken)

-- an event line adds its event, where there is a command to take it
pub event_adds : (names : List (List ℕ)) (line : List ℕ) (old new : List Command) (event : Event)
    {E : Type 0} (r : Result Bool E)
    → Says line SaysWrong → IsItemSaying names line SaysWrong (Happens event)
    → IfOk r (λ added. MatchBool added (with_event old event ≡ Some new)
    (with_event old event ≡ None))
    → IfOk r (λ added. MatchBool added (AddsLine names line old new) (CannotAdd names line old))
event_adds names line old new event (Err e) says is with = tt
event_adds names line old new event (Ok true) says is with =
    (Happens event, (SaysWrong, says, is), with)
event_adds names line old new event (Ok false) says is with =
    (Happens event, (SaysWrong, says, is), with)

-- one line more
pub reads_more : (names lines : List (List ℕ)) (line : List ℕ) (old mid new : List Command)
    → Reads names lines old mid → AddsLine names line mid new
    → Reads names (lines ++ line ∷ []) old new
reads_more names [] line old mid new reads adds =
    (new, subst (λ (m : List Command). AddsLine names line m new) reads adds, refl)
reads_more names (first ∷ lines) line old mid new reads adds =
    (reads.0, reads.1, reads_more names lines line reads.0 mid new reads.2 adds)

-- the first line that may not stand where it does
pub first_bad : {X : Type 0} (f : X → List ℕ) (names : List (List ℕ)) (script : List ℕ)
    (xs : List X) (i : ℕ) (d : X) (commands : List Command)
    → map f xs ≡ lines_in script → i < length xs → Reads names (take i (map f xs)) [] commands
    → CannotAdd names (f (get_or xs i d)) commands → IsBadLine names script (i + 1)
first_bad f names script xs i d commands are within reads bad = record {
  before = take i (map f xs);
  line = f (get_or xs i d);
  after = drop (i + 1) (map f xs);
  commands = commands;
  item = bad.0;
  lines =
      sym are ∙ sym (take-append-drop (i + 1) (map f xs))
      ∙ ap (λ (l : List (List ℕ)). l ++ drop (i + 1) (map f xs)) (images_more f xs i d within)
      ∙ append_assoc (take i (map f xs)) (f (get_or xs i d) ∷ []) (drop (i + 1) (map f xs));
  reads = reads;
  is = bad.1;
  bad = bad.2;
  counted =
      let long : length (take i (map f xs)) ≡ i =
      length-take-le i (map f xs) (omega (arith, length-map xs f)) in omega arith;
}
