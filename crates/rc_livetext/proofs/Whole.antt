-- A text from its parts, and what refuses its states.
use Rattle.std.proofs.Common.{◌≡◌, ◌∙◌, ℕ, true, false, List, [], ◌∷◌, ◌++◌}
use Rattle.std.proofs.Common.{Option, Some, None, IfSome, refl, sym, ap, subst}
use Rattle.std.proofs.lemmas.List.{append-nil}
use Rattle.rc_dbtext.specs.Form.{spells}
use Rattle.rc_livetext.specs.declared.form_fault.FormFault.{FormFault}
use Rattle.rc_livetext.specs.declared.form_fault.FormFault.TheVariants.{Bad, Version, Memory}
use Rattle.rc_livetext.specs.Text.{Line, OfState, Last, StateText, AreAscending}
use Rattle.rc_livetext.specs.Text.{IsBound, head_lines, state_lines, spell}
use Rattle.rc_livetext.specs.Refusals.{BeginsWith, IsRefused}
use Rattle.rc_livetext.specs.Following.{Place, AtFirst, AtStates, InState, Part, part_lines}
use Rattle.rc_livetext.specs.Following.{place_after}
use Rattle.rc_livetext.specs.Following.{IsNoLineHere}
use Rattle.rc_livetext.specs.Held.{HasBundles, HasStates, Stops, states_lines}
use Rattle.rc_livetext.proofs.Heading.{front_one}
use Rattle.rc_livetext.proofs.PartLemmas.{part_stuck}
use Rattle.rc_livetext.proofs.Follows.{reached_join, state_may, states_may}
use Rattle.rc_livetext.proofs.StateLines.{joins, state_front, state_is}

head_reached : (services : List (List ℕ)) (bound : Option ℕ)
    → place_after AtFirst (head_lines services bound) ≡ AtStates
head_reached services (Some bound) = refl
head_reached services None = refl

-- the head of a text was read
module _ (services : List (List ℕ)) (bound : Option ℕ) (bytes states_at : List ℕ)
    (services_are : AreAscending services) (bound_is : IfSome bound IsBound)
    (head : bytes ≡ spells spell (head_lines services bound) ++ states_at) where
  -- and reading stops before the current state
  pub stops_before : (fault : FormFault) → Stops AtStates states_at fault → IsRefused bytes fault
  stops_before Memory stops = tt
  stops_before Version stops = absurd stops
  stops_before (Bad left) stops =
      let lines : List Line = states_lines stops.states in
      let p : Part = record {
        services = services;
        bound = bound;
        before = stops.states;
        current = None;
      } in
      let at : place_after AtFirst (part_lines p) ≡ place_after AtStates lines =
      reached_join AtFirst (head_lines services bound) (lines ++ [])
      ∙ ap (λ (q : Place). place_after q (lines ++ [])) (head_reached services bound)
      ∙ ap (place_after AtStates) (append-nil lines) in
      let front : bytes ≡ spells spell (part_lines p) ++ stops.rest =
      joins (head_lines services bound) (lines ++ []) bytes states_at stops.rest head
      (stops.has.1 ∙ ap (λ (ls : List Line). spells spell ls ++ stops.rest)
      (sym (append-nil lines))) in
      let None_here : Place → Type 0 = λ q. IsNoLineHere q stops.rest in
      let stuck = part_stuck p bytes stops.rest
      (record { services = services_are; bound = bound_is; before = stops.has.0; current = tt })
      front (subst None_here (sym at) stops.none) in
      (stops.rest, stuck.0, stuck.1, stops.size, stuck.2)

  -- and the states up to the current one, with its bundles
  module _ (before : List StateText) (current : StateText) (bundles_at behind : List ℕ)
      (has : HasStates states_at before (spell (OfState true current.live) ++ bundles_at))
      (live : AreAscending current.live)
      (bundles : HasBundles bundles_at current.bundles behind) where
    -- the lines so far, and others after them
    front_with : (more : List Line) (rest : List ℕ) → behind ≡ spells spell more ++ rest
        → bytes ≡ spells spell (head_lines services bound
        ++ (states_lines before ++ (state_lines true current ++ more))) ++ rest
    front_with more rest next =
        joins (head_lines services bound)
        (states_lines before ++ (state_lines true current ++ more))
        bytes states_at rest head
        (joins (states_lines before) (state_lines true current ++ more) states_at
        (spell (OfState true current.live) ++ bundles_at) rest has.1
        (joins (state_lines true current) more (spell (OfState true current.live) ++ bundles_at)
        behind rest
        (state_front true current (spell (OfState true current.live) ++ bundles_at) bundles_at
        behind refl bundles.1)
        next))

    -- and reading stops after it
    pub stops_behind : (fault : FormFault) → Stops (InState true current.bundles) behind fault
        → IsRefused bytes fault
    stops_behind Memory stops = tt
    stops_behind Version stops = absurd stops
    stops_behind (Bad left) stops =
        let lines : List Line = states_lines stops.states in
        let own : List Line = state_lines true current in
        let p : Part = record {
          services = services;
          bound = bound;
          before = before;
          current = Some (current, stops.states);
        } in
        let there = (states_may AtStates false before refl has.0).1 in
        let one = state_may (place_after AtStates (states_lines before)) false true current there
        (λ bad _. (let no : false ≡ true = bad in cc)) (state_is current live bundles.0) in
        let at : place_after AtFirst (part_lines p)
        ≡ place_after (InState true current.bundles) lines =
        reached_join AtFirst (head_lines services bound) (states_lines before ++ (own ++ lines))
        ∙ ap (λ (q : Place). place_after q (states_lines before ++ (own ++ lines)))
        (head_reached services bound)
        ∙ reached_join AtStates (states_lines before) (own ++ lines)
        ∙ reached_join (place_after AtStates (states_lines before)) own lines
        ∙ ap (λ (q : Place). place_after q lines) one.1 in
        let None_here : Place → Type 0 = λ q. IsNoLineHere q stops.rest in
        let stuck = part_stuck p bytes stops.rest
        (record {
          services = services_are;
          bound = bound_is;
          before = has.0;
          current = (state_is current live bundles.0, stops.has.0);
        })
        (front_with lines stops.rest stops.has.1) (subst None_here (sym at) stops.none) in
        (stops.rest, stuck.0, stuck.1, stops.size, stuck.2)

    -- and those after it, and the last line
    pub whole : (after : List StateText) (rest : List ℕ)
        → HasStates behind after (spell Last ++ rest)
        → BeginsWith bytes
        (record {
          services = services;
          bound = bound;
          before = before;
          current =
              current;
          after = after;
        }) rest
    whole after rest ends = (
      record {
        services = services_are;
        bound = bound_is;
        before = has.0;
        current = state_is current live bundles.0;
        after = ends.0;
      },
      front_with (states_lines after ++ Last ∷ []) rest
          (joins (states_lines after) (Last ∷ []) behind (spell Last ++ rest) rest ends.1
          (front_one Last (spell Last ++ rest) rest refl)),
    )
