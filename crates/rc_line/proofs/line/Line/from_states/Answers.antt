use Rattle.std.proofs.Common.{◌≡◌, ◌∙◌, ◌++◌, ◌∷◌, [], List, Bool, length, arith, length-append, ap}
use Rattle.std.proofs.Common.{sym}
use Rattle.std.proofs.lemmas.List.{nil_from_length, length-map}
use Rattle.rc_model.specs.Database.{Bundles}
use Rattle.rc_line.specs.State.{states_of}
use Rattle.rc_model.specs.Line.{Line, states}
use Rattle.rc_line.specs.Opening.{Journal}
use Rattle.rc_line.specs.Keeping.{state}
use Rattle.rc_line.proofs.Fronts.{one_less, differs_from_next, same_bound, states_of-push}
use Rattle.rc_line.proofs.line.Line.from_states.Goals as goal

pub loop-live-init : goal.loop-live-init
loop-live-init c = record {
  bound = ap (λ (j : Journal). j.line.bound) c.with_bound-line.ensures;
  first = ap (λ (j : Journal). j.line.before) c.with_bound-line.ensures;
  closed = ap (λ (j : Journal). j.is_open) c.with_bound-line.ensures;
  whole =
      ap (λ (j : Journal). states_of c.take_last-live.new.self.items ++ states j.line)
      c.with_bound-line.ensures
      ∙ sym (states_of-push c.take_last-live.new.self.items c.take_last-live.result)
      ∙ ap states_of (sym c.take_last-live.ensures.items);
}

pub prepend-requires-clause-differ : goal.prepend-requires-clause-differ
prepend-requires-clause-differ c =
    let line : Line = c.loop-live.line.line in
    let whole = one_less c.loop-live.held.items c.pop.new.self.items
    (c.in-Some.live, c.in-Some.table) (states_of c.args.held.items) line c.loop-live.invariant.first
    c.loop-live.invariant.whole c.in-Some.ensures.items in
    differs_from_next (states_of c.pop.new.self.items) (state c.in-Some.live c.in-Some.table)
    line.current line.after (states_of c.args.held.items) c.requires.differ whole

pub prepend-requires-clause-bound : goal.prepend-requires-clause-bound
prepend-requires-clause-bound c =
    let line : Line = c.loop-live.line.line in
    let whole = one_less c.loop-live.held.items c.pop.new.self.items
    (c.in-Some.live, c.in-Some.table) (states_of c.args.held.items) line c.loop-live.invariant.first
    c.loop-live.invariant.whole c.in-Some.ensures.items in
    same_bound c.requires.sets.0 (states_of c.pop.new.self.items)
    (state c.in-Some.live c.in-Some.table) line.current line.after (states_of c.args.held.items)
    c.requires.sets.1 whole

pub loop-live-preserved : goal.loop-live-preserved
loop-live-preserved c =
    let line : Line = c.loop-live.line.line in
    let whole = one_less c.loop-live.held.items c.pop.new.self.items
    (c.in-Some.live, c.in-Some.table) (states_of c.args.held.items) line c.loop-live.invariant.first
    c.loop-live.invariant.whole c.in-Some.ensures.items in
    record {
      bound = ap (λ (l : Line). l.bound) c.in_ok-prepend.ensures.line ∙ c.loop-live.invariant.bound;
      first = ap (λ (l : Line). l.before) c.in_ok-prepend.ensures.line;
      closed = c.in_ok-prepend.ensures.closed;
      whole =
          ap (λ (l : Line). states_of c.pop.new.self.items ++ states l) c.in_ok-prepend.ensures.line
          ∙ whole;
    }

pub prepend-requires-clause-few : goal.prepend-requires-clause-few
prepend-requires-clause-few c =
    let line : Line = c.loop-live.line.line in
    let held = c.loop-live.held.items in
    let all : length (states_of held ++ states line) ≡ length (states_of c.args.held.items) =
    ap length c.loop-live.invariant.whole in
    omega (
      arith,
      c.requires.few,
      all,
      length-append (states_of held) (states line),
      length-map held (λ (p : List Bool × Bundles). state p.0 p.1),
      length-map c.args.held.items (λ (p : List Bool × Bundles). state p.0 p.1),
      ap length c.in-Some.ensures.items,
      length-append c.pop.new.self.items ((c.in-Some.live, c.in-Some.table) ∷ []),
      c.loop-live.invariant.bound,
    )

pub take_last-live-requires : goal.take_last-live-requires
take_last-live-requires c = omega (arith, c.requires.cursor)

pub with_bound-line-requires : goal.with_bound-line-requires
with_bound-line-requires c = c.requires.three

pub loop-live-smaller : goal.loop-live-smaller
loop-live-smaller c = omega (arith, c.in-Some.ensures.len)

pub go_to-requires-clause-closed : goal.go_to-requires-clause-closed
go_to-requires-clause-closed c = c.loop-live.invariant.closed

pub go_to-requires-clause-first : goal.go_to-requires-clause-first
go_to-requires-clause-first c = c.loop-live.invariant.first

pub go_to-requires-clause-place : goal.go_to-requires-clause-place
go_to-requires-clause-place c =
    let size : length c.loop-live.held.items ≡ 0 = omega (arith, c.in_default.ensures.cases.0) in
    let none : c.loop-live.held.items ≡ [] = nil_from_length c.loop-live.held.items size in
    let all : states c.loop-live.line.line ≡ states_of c.args.held.items =
    ap (λ (held : List (List Bool × Bundles)). states_of held ++ states c.loop-live.line.line)
    (sym none) ∙ c.loop-live.invariant.whole in
    rw (all, length-map) c.requires.cursor

pub returns-clause-states : goal.returns-clause-states
returns-clause-states c =
    let size : length c.loop-live.held.items ≡ 0 = omega (arith, c.in_default.ensures.cases.0) in
    let none : c.loop-live.held.items ≡ [] = nil_from_length c.loop-live.held.items size in
    c.in_ok-go_to.ensures.states
    ∙ ap (λ (held : List (List Bool × Bundles)). states_of held ++ states c.loop-live.line.line)
    (sym none) ∙ c.loop-live.invariant.whole

pub returns-clause-cursor : goal.returns-clause-cursor
returns-clause-cursor c = c.in_ok-go_to.ensures.cursor

pub returns-clause-bound : goal.returns-clause-bound
returns-clause-bound c = c.in_ok-go_to.ensures.bound ∙ c.loop-live.invariant.bound

pub returns-clause-closed : goal.returns-clause-closed
returns-clause-closed c = c.in_ok-go_to.ensures.closed
