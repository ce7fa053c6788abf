use Rattle.std.proofs.Common.{◌∙◌, ◌∷◌, ◌++◌, [], ℕ, List, Bor, ap, map, sym, take}
use Rattle.std.proofs.lemmas.List.{map-append}
use Rattle.rc_model.proofs.Mapped.{mapped_more}
use Rattle.rc_args.specs.UpdateAsked.{restart_of}
use Rattle.rc_update.specs.Conversions.{Conversion, conversion_of}
use Rattle.rc_args.proofs.update_words.restarts_of.Goals as goal

-- what stands past the end of the names
abbrev none : Bor (List ℕ)
none = record { ref_ptr = (0, 0); now = [] }

pub loop-name-preserved : goal.loop-name-preserved
loop-name-preserved c =
    let names = c.args.names.now in
    let i : ℕ = c.loop-name.name-index in
    let all = map (λ (name : Bor (List ℕ)). restart_of name.now) names in
    let one = c.restart_of.result in
    ap (map conversion_of) c.in_ok-push.ensures.items
    ∙ map-append conversion_of c.loop-name.list.items (one ∷ [])
    ∙ ap (λ (l : List Conversion). l ++ conversion_of one ∷ []) c.loop-name.invariant
    ∙ ap (λ (x : Conversion). take i all ++ x ∷ []) c.restart_of.ensures
    ∙ sym (mapped_more (λ name. restart_of name.now) names i none c.loop-name-test.true)
