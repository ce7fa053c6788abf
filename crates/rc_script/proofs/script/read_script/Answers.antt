use Rattle.std.proofs.Common.{◌≡◌, ◌∙◌, ◌∷◌, ◌++◌, ◌+◌, [], ℕ, List, map, take, get_or, sym, ap}
use Rattle.std.proofs.Common.{subst}
use denote.Ref.{Bor}
use Rattle.rc_session.specs.Commands.{command_of}
use Rattle.rc_script.proofs.Texts.{images_more, images_all}
use Rattle.rc_script.specs.Script.{Reads, lines_in}
use Rattle.rc_script.proofs.Reading.{reads_more, first_bad}
use Rattle.rc_script.proofs.script.read_script.Goals as goal

abbrev text : Bor (List ℕ) → List ℕ
text b = b.now

-- what stands past the end of the lines
abbrev none : Bor (List ℕ)
none = record { ref_ptr = (0, 0); now = [] }

pub loop-place-preserved : goal.loop-place-preserved
loop-place-preserved c =
    let lines = c.deref-line-items.result.now in
    let i : ℕ = c.loop-place.place in
    let more : take (i + 1) (map text lines) ≡ take i (map text lines) ++ text (get_or lines i none)
    ∷ [] = images_more text lines i none c.loop-place-test.true in
    subst (λ (ls : List (List ℕ)). Reads c.args.names.now ls []
    (map command_of c.add_line.new.steps.items)) (sym more)
    (reads_more c.args.names.now (take i (map text lines)) (text (get_or lines i none)) []
    (map command_of c.loop-place.steps.items) (map command_of c.add_line.new.steps.items)
    c.loop-place.invariant (rw c.if-not-added.false at c.in_ok-added.ensures))

pub returns-then-not-added-clause-fault : goal.returns-then-not-added-clause-fault
returns-then-not-added-clause-fault c =
    first_bad text c.args.names.now c.args.text.now c.deref-line-items.result.now c.loop-place.place
    none (map command_of c.loop-place.steps.items)
    (ap (map text) c.deref-line-items.ensures.value ∙ c.in_ok-lines.ensures) c.loop-place-test.true
    c.loop-place.invariant (rw c.if-not-added.true at c.in_ok-added.ensures)

pub returns-clause-steps : goal.returns-clause-steps
returns-clause-steps c =
    let all : take c.loop-place.place (map text c.deref-line-items.result.now)
    ≡ lines_in c.args.text.now =
    images_all text c.deref-line-items.result.now c.loop-place.place c.loop-place-test.false
    ∙ ap (map text) c.deref-line-items.ensures.value ∙ c.in_ok-lines.ensures in
    subst (λ (ls : List (List ℕ)). Reads c.args.names.now ls []
    (map command_of c.loop-place.steps.items)) all c.loop-place.invariant
