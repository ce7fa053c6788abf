use Rattle.std.proofs.Common.{◌≡◌, ◌∙◌, ◌∷◌, ℕ, List, [], Bor, ap, codes, map, refl}
use Rattle.std.proofs.lemmas.Result.{IfOk-weaker}
use Rattle.rc_args.proofs.WordsLemmas.{values_found}
use Rattle.rc_args.specs.UpdateAsked.{restart_of}
use Rattle.rc_update.specs.Conversions.{Conversion, conversions_of}
use Rattle.rc_args.proofs.update_words.restarts_in.Goals as goal

-- those of the names, and of what they point to
each_now : (names : List (Bor (List ℕ)))
    → map (λ name. restart_of name.now) names ≡ map restart_of (map (λ name. name.now) names)
each_now [] = refl
each_now (name ∷ more) =
    ap (λ (l : List Conversion). restart_of name.now ∷ l) (each_now more)

pub returns-in-Some : goal.returns-in-Some
returns-in-Some c =
    IfOk-weaker c.restarts_of.result _ _
    (λ list h. h ∙ each_now c.in-Some.names.now
    ∙ ap (map restart_of) (values_found c.args.matches.now (codes "restarts") _ c.in-Some.ensures))
    c.restarts_of.ensures

pub returns-in-None : goal.returns-in-None
returns-in-None c =
    ap conversions_of c.new.ensures.items
    ∙ ap (map restart_of) (values_found c.args.matches.now (codes "restarts") _ c.in-None.ensures)
