-- A move to a neighbour, ahead or back: from the stack with the entry that lies between to the
-- other one.
use Rattle.std.proofs.Common.{ℕ, ◌≡◌, ◌≢◌, ◌⊎◌, ◌∙◌, ◌+◌, ◌≤◌, ◌<◌, List, [], ◌∷◌, ◌++◌, reverse}
use Rattle.std.proofs.Common.{Bool, true, false, length, length-append, inl, inr, refl, ap}
use Rattle.std.proofs.Common.{subst, sym, arith}
use Rattle.rc_model.specs.Database.{Bundles, IsTable}
use Rattle.rc_model.specs.Line.{Alteration, IsEdit, State, Entry, Line, IsBound, IsNext, states}
use Rattle.rc_model.specs.Line.{within_bound, MovesByUndo, MovesByRedo, put_between, with_live}
use Rattle.rc_model.proofs.Fitting.{fitted_short}
use Rattle.rc_line.specs.declared.aim.Aim.{Aim}
use Rattle.rc_line.specs.Opening.{Opening, table_or, target_of, AimsAt}
use Rattle.rc_line.specs.Keeping.{IsStep, forth, back, Behind, Ahead, line_of, Fits, IsFit, state}
use Rattle.rc_line.specs.Keeping.{aim_of, near_room, far_room, PassesLive, Splits}
use Rattle.rc_line.specs.Keeping.{EndsStep, EndsNearest}
use Rattle.rc_line.proofs.Rewriting.{no_edit}
use Rattle.rc_line.proofs.Steps.{live_step}
use Rattle.rc_line.proofs.Stacks.{size_is, before_is, on_is, next_of, behind_push, ahead_push}
use Rattle.rc_line.proofs.Stacks.{behind_pop, ahead_pop}
use Rattle.rc_line.proofs.Closings.{same_line, fit_shown, same_back, same_on, cursor_shown}
use Rattle.rc_line.proofs.Closings.{after_shown}

-- the line that two stacks show, the one that the move takes its entry from and the other one
abbrev pub line_by : Bool → ℕ → List Entry → List Entry → State → Line
line_by true most from to s = line_of most to from s
line_by false most from to s = line_of most from to s

-- they fit the state between them
abbrev pub FitBy : Bool → List Entry → List Entry → State → Type 0
FitBy true from to s = Fits to from s
FitBy false from to s = Fits from to s

-- they were fit into the bound
abbrev pub IsFitBy : Bool → ℕ → List Entry → List Entry → List Entry → List Entry → Type 0
IsFitBy true most from to new_from new_to = IsFit most to from new_to new_from
IsFitBy false most from to new_from new_to = IsFit most from to new_from new_to

-- the entry lies between here and there
abbrev pub StepBy : Bool → State → State → Entry → Type 0
StepBy true here there e = IsStep here there e
StepBy false here there e = IsStep there here e

abbrev EditBy : Bool → Bundles → Bundles → List Alteration → Type 0
EditBy true here there edit = IsEdit here there edit
EditBy false here there edit = IsEdit there here edit

-- entries lead on beyond there
abbrev BeyondBy : Bool → List Entry → State → Type 0
BeyondBy true rest there = Ahead (reverse rest) there
BeyondBy false rest there = Behind (reverse rest) there

-- where an entry leads
abbrev over : Bool → Entry → State → State
over true e here = forth e here
over false e here = back e here

-- the second line is the first with the cursor on the neighbour
abbrev pub NextBy : Bool → Line → Line → Type 0
NextBy true line there = IsNext line there
NextBy false line there = IsNext there line

-- with a state put between the two
abbrev put_by : Bool → Line → State → Line → Line
put_by true line end there = put_between line end there
put_by false line end there = put_between there end line

abbrev pub MovesBy : Bool → Line → List Bool → Line → Type 0
MovesBy true line live new = MovesByRedo line live new
MovesBy false line live new = MovesByUndo line live new

-- the entry leads there, and the rest of its stack on
pub record StepsTo (ahead : Bool) (rest : List Entry) (e : Entry) (here there : State) :
    Type 0 where
  pub step : StepBy ahead here there e
  pub beyond : BeyondBy ahead rest there

current_by : (ahead : Bool) (most : ℕ) (from to : List Entry) (s : State)
    → (line_by ahead most from to s).current ≡ s
current_by true most from to s = refl
current_by false most from to s = refl

bound_by : (ahead : Bool) (most : ℕ) (from to : List Entry) (s : State)
    → (line_by ahead most from to s).bound ≡ most
bound_by true most from to s = refl
bound_by false most from to s = refl

size_by : (ahead : Bool) (most : ℕ) (from to : List Entry) (s : State)
    → length (states (line_by ahead most from to s)) ≡ length from + length to + 1
size_by true most from to s = omega (arith, size_is most to from s)
size_by false most from to s = size_is most from to s

short_by : (ahead : Bool) (most : ℕ) (from to : List Entry) (s : State)
    → length from + length to + 1 ≤ most
    → within_bound (line_by ahead most from to s) ≡ line_by ahead most from to s
short_by ahead most from to s few =
    fitted_short (line_by ahead most from to s)
    (omega (arith, size_by ahead most from to s, bound_by ahead most from to s))

-- the parts of a step
step_parts : (ahead : Bool) (here there : State) (e : Entry) → StepBy ahead here there e
    → (length there.live ≡ length here.live) × IsTable here.table × IsTable there.table
    × EditBy ahead here.table there.table e.edit
step_parts true here there e step =
    (step.bound, step.from_table, step.to_table, step.entry.edit)
step_parts false here there e step =
    (sym step.bound, step.to_table, step.from_table, step.entry.edit)

step_by : (ahead : Bool) (here there : State) (e : Entry) → length there.live ≡ length here.live
    → here.live ≢ there.live → IsTable here.table → IsTable there.table
    → PassesLive ahead here.live there.live e → EditBy ahead here.table there.table e.edit
    → StepBy ahead here there e
step_by true here there e bound differ here_table there_table passes edit =
    live_step here there e bound differ here_table there_table passes.raised passes.lowered edit
step_by false here there e bound differ here_table there_table passes edit =
    live_step there here e (sym bound) (λ same. differ (sym same)) there_table here_table
    passes.raised passes.lowered edit

no_edit_by : (ahead : Bool) (table : Bundles) → EditBy ahead table table []
no_edit_by true table = no_edit table
no_edit_by false table = no_edit table

-- the entry goes off the one stack
pops : (ahead : Bool) (rest to : List Entry) (e : Entry) (here : State)
    → FitBy ahead (rest ++ e ∷ []) to here → StepsTo ahead rest e here (over ahead e here)
pops true rest to e here fits = let parts = ahead_pop rest e here fits.ahead in
    record { step = parts.0; beyond = parts.1 }
pops false rest to e here fits = let parts = behind_pop rest e here fits.behind in
    record { step = parts.0; beyond = parts.1 }

-- and onto the other
pushes : (ahead : Bool) (from rest to : List Entry) (e : Entry) (here there : State)
    → FitBy ahead from to here → StepsTo ahead rest e here there
    → FitBy ahead rest (to ++ e ∷ []) there
pushes true from rest to e here there fits steps = record {
  behind = behind_push to e here there fits.behind steps.step;
  ahead = steps.beyond;
  table = steps.step.to_table;
}
pushes false from rest to e here there fits steps = record {
  behind = steps.beyond;
  ahead = ahead_push to e there here fits.ahead steps.step;
  table = steps.step.from_table;
}

beyond_push : (ahead : Bool) (rest : List Entry) (e : Entry) (here there : State)
    → BeyondBy ahead rest there → StepBy ahead here there e → BeyondBy ahead (rest ++ e ∷ []) here
beyond_push true rest e here there beyond step = ahead_push rest e here there beyond step
beyond_push false rest e here there beyond step = behind_push rest e there here beyond step

pub next_by : (ahead : Bool) (most : ℕ) (rest to : List Entry) (e : Entry) (here there : State)
    → StepBy ahead here there e
    → NextBy ahead (line_by ahead most (rest ++ e ∷ []) to here)
    (line_by ahead most rest (to ++ e ∷ []) there)
next_by true most rest to e here there step = next_of most to rest e here there step
next_by false most rest to e here there step = next_of most rest to e there here step

same_by : (ahead : Bool) (line a b : Line) → NextBy ahead line a → NextBy ahead line b
    → a.current ≡ b.current
same_by true line a b at_a at_b = same_on line a b at_a at_b
same_by false line a b at_a at_b = same_back line a b at_a at_b

-- the line with a state between the two that an entry leads from and to
put_is : (ahead : Bool) (most : ℕ) (rest to : List Entry) (e near far : Entry)
    (here end there : State) → StepBy ahead here there e → StepBy ahead here end near
    → StepBy ahead end there far
    → line_by ahead most (rest ++ far ∷ []) (to ++ near ∷ []) end
    ≡ put_by ahead (line_by ahead most (rest ++ e ∷ []) to here) end
    (line_by ahead most rest (to ++ e ∷ []) there)
put_is true most rest to e near far here end there step nears fars =
    same_line (line_of most (to ++ near ∷ []) (rest ++ far ∷ []) end) _
    (before_is most to (rest ++ far ∷ []) near here end nears
    ∙ sym (before_is most to rest e here there step)) refl
    (on_is most (to ++ near ∷ []) rest far end there fars
    ∙ sym (on_is most to rest e here there step)) refl
put_is false most rest to e near far here end there step nears fars =
    same_line (line_of most (rest ++ far ∷ []) (to ++ near ∷ []) end) _
    (before_is most rest (to ++ near ∷ []) far there end fars
    ∙ sym (before_is most rest to e there here step)) refl
    (on_is most (rest ++ far ∷ []) to near end here nears
    ∙ sym (on_is most rest to e there here step)) refl

-- each way in which the move ends is one
moves_by : (ahead : Bool) (line there : Line) (live : List Bool) (new : Line)
    → NextBy ahead line there
    → ((live ≡ there.current.live) × (new ≡ there))
    ⊎ ((live ≢ there.current.live) × (live ≡ line.current.live) × (new ≡ line))
    ⊎ ((live ≢ there.current.live) × (live ≢ line.current.live)
    × (new ≡ within_bound (put_by ahead line (with_live line live) there)))
    → MovesBy ahead line live new
moves_by true line there live new next ends = (there, next, ends)
moves_by false line there live new next ends = (there, next, ends)

-- the stacks after the move, which may have one entry too many
record Ended (ahead : Bool) (most : ℕ) (line : Line) (live : List Bool) (from to : List Entry)
    (new : State) : Type 0 where
  fits : FitBy ahead from to new
  few : length from + length to ≤ most
  moves : MovesBy ahead line live (within_bound (line_by ahead most from to new))

-- a move over an entry, with the line before it and the line that the entry leads to
module _ (ahead : Bool) (most : ℕ) (rest to : List Entry) (e : Entry) (here there : State)
    (live : List Bool) (fits : FitBy ahead (rest ++ e ∷ []) to here)
    (few : length (rest ++ e ∷ []) + length to + 1 ≤ most)
    (steps : StepsTo ahead rest e here there) where
  abbrev line_here : Line
  line_here = line_by ahead most (rest ++ e ∷ []) to here

  abbrev line_there : Line
  line_there = line_by ahead most rest (to ++ e ∷ []) there

  is_here : line_here.current.live ≡ here.live
  is_here = ap (λ (s : State). s.live) (current_by ahead most (rest ++ e ∷ []) to here)

  is_there : line_there.current.live ≡ there.live
  is_there = ap (λ (s : State). s.live) (current_by ahead most rest (to ++ e ∷ []) there)

  next : NextBy ahead line_here line_there
  next = next_by ahead most rest to e here there steps.step

  -- it ends where it aimed
  ends_there : there.live ≡ live → Ended ahead most line_here live rest (to ++ e ∷ []) there
  ends_there same = record {
    fits = pushes ahead (rest ++ e ∷ []) rest to e here there fits steps;
    few = omega (arith, few, length-append rest (e ∷ []), length-append to (e ∷ []));
    moves =
        moves_by ahead line_here line_there live _ next
        (inl (
          sym same ∙ sym is_there,
          short_by ahead most rest (to ++ e ∷ []) there
              (omega (arith, few, length-append rest (e ∷ []), length-append to (e ∷ []))),
        ));
  }

  -- it ends where it began
  ends_here : there.live ≢ live → here.live ≡ live
      → Ended ahead most line_here live (rest ++ e ∷ []) to here
  ends_here apart same = record {
    fits = fits;
    few = omega (arith, few);
    moves =
        moves_by ahead line_here line_there live _ next
        (inr (inl (
          (λ at. apart (sym (at ∙ is_there))),
          sym same ∙ sym is_here,
          short_by ahead most (rest ++ e ∷ []) to here few,
        )));
  }

  -- it ends elsewhere
  ends_apart : (near far : Entry) → length live ≡ length here.live → there.live ≢ live
      → here.live ≢ live → Splits ahead here.live there.live live e.edit near far
      → Ended ahead most line_here live (rest ++ far ∷ []) (to ++ near ∷ []) (state live here.table)
  ends_apart near far bound apart other splits =
      let end : State = state live here.table in
      let parts = step_parts ahead here there e steps.step in
      let nears : StepBy ahead here end near = step_by ahead here end near bound other parts.1
      parts.1 splits.near_live
      (subst (EditBy ahead here.table here.table) (sym splits.near_edit)
      (no_edit_by ahead here.table)) in
      let fars : StepBy ahead end there far = step_by ahead end there far (parts.0 ∙ sym bound)
      (λ same. apart (sym same)) parts.1 parts.2 splits.far_live
      (subst (EditBy ahead here.table there.table) (sym splits.far_edit) parts.3) in
      record {
        fits =
            pushes ahead (rest ++ e ∷ []) (rest ++ far ∷ []) to near here end fits
            (record {
              step = nears;
              beyond = beyond_push ahead rest far end there steps.beyond fars;
            });
        few =
            omega (
              arith,
              few,
              length-append rest (e ∷ []),
              length-append rest (far ∷ []),
              length-append to (near ∷ []),
            );
        moves =
            moves_by ahead line_here line_there live _ next
            (inr (inr (
              (λ at. apart (sym (at ∙ is_there))),
              (λ at. other (sym (at ∙ is_here))),
              ap within_bound
                  (put_is ahead most rest to e near far here end there steps.step nears fars
                  ∙ ap (λ (s : State). put_by ahead line_here (state live s.table) line_there)
                  (sym (current_by ahead most (rest ++ e ∷ []) to here))),
            )));
      }

  ends_step : (new_from new_to : List Entry) (new : State) → length live ≡ length here.live
      → EndsStep ahead rest e to here there live new_from new_to new
      → Ended ahead most line_here live new_from new_to new
  ends_step new_from new_to new bound ends = elim ends [
    | inl aimed ↦ rw (aimed.1, aimed.2, aimed.3) (ends_there aimed.0)
    | inr other ↦ elim other [
      | inl began ↦ rw (began.2, began.3, began.4) (ends_here began.0 began.1)
      | inr split ↦
          rw (split.4, split.5, split.6)
          (ends_apart split.0 split.1 bound split.2 split.3 split.7)
    ]
  ]

fit_by : (ahead : Bool) (most : ℕ) (from to new_from new_to : List Entry) (s : State) → 3 ≤ most
    → length from + length to ≤ most → FitBy ahead from to s
    → IsFitBy ahead most from to new_from new_to
    → FitBy ahead new_from new_to s
    × (line_by ahead most new_from new_to s ≡ within_bound (line_by ahead most from to s))
    × (length new_from + length new_to + 1 ≤ most)
fit_by true most from to new_from new_to s three few fits fit =
    let fs = fit_shown most to from new_to new_from s three (omega (arith, few)) fits fit in
    (fs.0, fs.1, omega (arith, fs.2))
fit_by false most from to new_from new_to s three few fits fit =
    fit_shown most from to new_from new_to s three few fits fit

-- where a move aims is a neighbour
aimed_by : (ahead : Bool) (line : Line) (target : State) → AimsAt (aim_of ahead) line target
    → (there : Line) × NextBy ahead line there × (target ≡ there.current)
aimed_by true line target aims = aims
aimed_by false line target aims = aims

-- so there is an entry that leads there
pub some_entry : (ahead : Bool) (most : ℕ) (from to : List Entry) (here : State) (line : Line)
    (target : State) → line_by ahead most from to here ≡ line
    → AimsAt (aim_of ahead) line target → 0 < length from
some_entry true most from to here line target shown aims =
    omega (arith, after_shown most to from here line shown, ap length aims.1.reached)
some_entry false most from to here line target shown aims =
    omega (
      arith,
      cursor_shown most from to here line shown,
      ap length aims.1.left,
      length-append aims.0.before (aims.0.current ∷ []),
    )

last_apart : (es : List Entry) → 0 < length es
    → (rest : List Entry) × (e : Entry) × (es ≡ rest ++ e ∷ [])
last_apart [] some = absurd (omega arith)
last_apart (e ∷ []) some = ([], e, refl)
last_apart (e ∷ f ∷ es) some =
    let less : 0 < length (f ∷ es) = omega arith in
    let last = last_apart (f ∷ es) less in
    (e ∷ last.0, last.1, ap (λ (l : List Entry). e ∷ l) last.2)

-- a move to a neighbour of a line that two stacks show
module _ (ahead : Bool) (most : ℕ) (from to : List Entry) (here : State) (line : Line)
    (opening : Opening) (shown : line_by ahead most from to here ≡ line)
    (fits : FitBy ahead from to here) (aim : opening.aim ≡ aim_of ahead)
    (opened : AimsAt opening.aim line (target_of opening line.current)) where
  abbrev there : State
  there = state opening.live (table_or opening.table here.table)

  aims : AimsAt (aim_of ahead) line (target_of opening line.current)
  aims = subst (λ (a : Aim). AimsAt a line (target_of opening line.current)) aim opened

  shown_over : (rest : List Entry) (e : Entry) → from ≡ rest ++ e ∷ []
      → line_by ahead most (rest ++ e ∷ []) to here ≡ line
  shown_over rest e is = ap (λ (es : List Entry). line_by ahead most es to here) (sym is) ∙ shown

  fits_over : (rest : List Entry) (e : Entry) → from ≡ rest ++ e ∷ []
      → FitBy ahead (rest ++ e ∷ []) to here
  fits_over rest e is = subst (λ (es : List Entry). FitBy ahead es to here) is fits

  steps_over : (rest : List Entry) (e : Entry) → from ≡ rest ++ e ∷ []
      → StepsTo ahead rest e here there
  steps_over rest e is =
      let end : State = over ahead e here in
      let beyond : Line = line_by ahead most rest (to ++ e ∷ []) end in
      let steps = pops ahead rest to e here (fits_over rest e is) in
      let next : NextBy ahead line beyond = subst (λ (l : Line). NextBy ahead l beyond)
      (shown_over rest e is) (next_by ahead most rest to e here end steps.step) in
      let near = aimed_by ahead line (target_of opening line.current) aims in
      let at : here ≡ line.current =
      sym (current_by ahead most from to here) ∙ ap (λ (l : Line). l.current) shown in
      let same : end ≡ there =
      sym (ap (λ (s : State). target_of opening s) at ∙ near.2
      ∙ same_by ahead line near.0 beyond near.1 next
      ∙ current_by ahead most rest (to ++ e ∷ []) end) in
      subst (StepsTo ahead rest e here) same steps

  pub entry_there : 0 < length from
  entry_there = some_entry ahead most from to here line (target_of opening line.current) shown aims

  pub target_bound : length opening.live ≡ length here.live
  target_bound =
      let last = last_apart from entry_there in
      (step_parts ahead here there last.1 (steps_over last.0 last.1 last.2).step).0

  -- how it ends within the bound
  pub closes : (live : List Bool) (new_from new_to fit_from fit_to : List Entry) (new : State)
      → IsBound most → length from + length to + 1 ≤ most → length live ≡ length here.live
      → EndsNearest ahead from to here there live new_from new_to new
      → IsFitBy ahead most new_from new_to fit_from fit_to
      → FitBy ahead fit_from fit_to new
      × MovesBy ahead line live (line_by ahead most fit_from fit_to new)
      × (length fit_from + length fit_to + 1 ≤ most)
  closes live new_from new_to fit_from fit_to new bound few same ends fit =
      let rest : List Entry = ends.0 in
      let e : Entry = ends.1 in
      let less : length (rest ++ e ∷ []) + length to + 1 ≤ most =
      omega (arith, few, ap length ends.2) in
      let ended = ends_step ahead most rest to e here there live (fits_over rest e ends.2) less
      (steps_over rest e ends.2) new_from new_to new same ends.3 in
      let fs = fit_by ahead most new_from new_to fit_from fit_to new bound.0 ended.few ended.fits
      fit in (
        fs.0,
        subst (MovesBy ahead line live) (sym fs.1)
            (subst
            (λ (l : Line). MovesBy ahead l live
            (within_bound (line_by ahead most new_from new_to new)))
            (shown_over rest e ends.2) ended.moves),
        fs.2,
      )

-- the room that an opening has made for such a move
pub rooms_by : (ahead : Bool) (aim : Aim) (bound : ℕ) → aim ≡ aim_of ahead
    → (near_room aim bound ≡ bound) × (far_room aim bound ≡ bound)
rooms_by true aim bound is =
    (ap (λ (a : Aim). near_room a bound) is, ap (λ (a : Aim). far_room a bound) is)
rooms_by false aim bound is =
    (ap (λ (a : Aim). near_room a bound) is, ap (λ (a : Aim). far_room a bound) is)
