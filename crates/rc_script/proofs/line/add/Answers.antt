use Rattle.std.proofs.Common.{◌≡◌, ◌∙◌, ◌∷◌, [], ℕ, List, map, sym, ap}
use denote.Ref.{Bor}
use Rattle.rc_script.specs.Says.{saying_of}
use Rattle.rc_script.proofs.Sayings.{said_as, plain_as, forced_as, empty_list}
use Rattle.rc_script.proofs.line.add.Goals as goal

abbrev text : Bor (List ℕ) → List ℕ
text b = b.now

pub returns-in-Some : goal.returns-in-Some
returns-in-Some c =
    let none : c.args.choices.now ≡ [] =
    empty_list c.args.choices.now (sym c.is_empty.ensures ∙ c.if-not-is_empty.false) in
    let front : c.in-Some.name.now.now ∷ map text c.in-Some.contents.now
    ≡ map text c.unforced.result.now = sym (ap (map text) c.in-Some.ensures.cases.0) in
    said_as saying_of c.bundle.result _ _
    (plain_as _ _ c.args.choices.now none
    (forced_as (map text c.args.words.now) _ c.is_forced-force.result c.is_forced-force.ensures
    (front ∙ c.unforced.ensures))) c.bundle.ensures
