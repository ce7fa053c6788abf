use Rattle.std.proofs.Common.{rules, ◌≡◌, ◌∙◌, ◌∷◌, ℕ, List, Option, Some, map, sym, ap}
use denote.Ref.{Bor}
use Rattle.std.specs.Option.{option_map_or}
use Rattle.rc_script.specs.declared.verb.Verb.{Verb}
use Rattle.rc_script.specs.Says.{SaysWrong, behind, said, saying_of, verb_of}
use Rattle.rc_script.proofs.Sayings.{said_as}
use Rattle.rc_script.proofs.line.behind.Goals as goal

abbrev text : Bor (List ℕ) → List ℕ
text b = b.now

pub returns-in-Some-of : goal.returns-in-Some-of
returns-in-Some-of c =
    let choices = c.args.choices.now in
    let others : List (List ℕ) = map text c.in-Some.others.now in
    let front : c.in-Some.word.now.now ∷ others ≡ map text c.args.words.now = search rules in
    let found : Some c.in-Some-of.verb ≡ verb_of c.in-Some.word.now.now =
    sym c.in-Some-of.is ∙ c.of.ensures in
    said_as saying_of c.said.result _ _
    (ap (λ (o : Option Verb). option_map_or (λ v. said v choices others) o SaysWrong) found
    ∙ ap (behind choices) front) c.said.ensures
