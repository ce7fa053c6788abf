use Rattle.std.proofs.Common.{◌≡◌, ◌∙◌, ℕ, List, Option, Some, false, map, ap}
use denote.Ref.{Bor}
use Rattle.std.specs.Option.{option_map_or}
use Rattle.rc_select.specs.declared.request.Choice.{Choice}
use Rattle.rc_script.specs.Options.{Front, front_of}
use Rattle.rc_script.specs.Says.{SaysWrong, behind, saying_of}
use Rattle.rc_script.proofs.Sayings.{said_as}
use Rattle.rc_script.proofs.line.sentence.Goals as goal

abbrev text : Bor (List ℕ) → List ℕ
text b = b.now

pub returns-in-Some : goal.returns-in-Some
returns-in-Some c =
    let rest : List (List ℕ) = map text c.in-Some.rest.now in
    let front : Front = record { choices = c.in-Some.choices.items; words = rest } in
    let found : Some front ≡ front_of false (map text c.args.words.now) =
    rw c.in-Some.is at c.in_ok-choices.ensures in
    said_as saying_of c.behind.result _ _
    (ap (λ (choices : List Choice). behind choices rest) c.deref.ensures.value
    ∙ ap (λ (o : Option Front). option_map_or (λ f. behind f.choices f.words) o SaysWrong) found)
    c.behind.ensures
