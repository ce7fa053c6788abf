use Rattle.std.proofs.Common.{◌∙◌, ◌++◌, ◌∷◌, ℕ, List, ap, sym, take, append_assoc}
use Rattle.std.proofs.lemmas.Bool.{eq-eqb, eqb-true, false≢true}
use Rattle.std.proofs.lemmas.List.{take_all}
use Rattle.std.specs.List.{flat_map}
use Rattle.rc_render.specs.Lines.{line, names_at}
use Rattle.rc_render.proofs.LineLemmas.{line_of_none, line_of_some, one_more_id}
use Rattle.rc_render.proofs.lines.line_of.Goals as goal

pub loop-id-preserved : goal.loop-id-preserved
loop-id-preserved c =
    let before : List ℕ = flat_map (λ name. 32 ∷ name)
    (names_at c.args.names.now (take c.loop-id.id-index c.args.ids.now)) in
    c.in_ok-add_name.ensures
    ∙ (ap (λ (n : List ℕ). n ++ 32 ∷ c.name_of.result.now) c.loop-id.invariant
    ∙ (append_assoc c.args.word.now before (32 ∷ c.name_of.result.now)
    ∙ ap (λ (n : List ℕ). c.args.word.now ++ n)
    (sym (one_more_id (λ name. 32 ∷ name) c.args.names.now c.args.ids.now c.loop-id.id-index
    c.name_of.result.now c.loop-id-test.true c.name_of.ensures))))

pub returns-then-is_empty : goal.returns-then-is_empty
returns-then-is_empty c =
    c.new-text.ensures.items
    ∙ sym (line_of_none c.args.word.now c.args.names.now c.args.ids.now
    (eqb-true _ 0 (sym c.is_empty.ensures ∙ c.if-is_empty.true)))

pub name_of-requires : goal.name_of-requires
name_of-requires c = c.requires c.loop-id.id-index 0 c.loop-id-test.true

pub returns : goal.returns
returns c =
    let all = take_all c.loop-id.id-index c.args.ids.now c.loop-id-test.false in
    c.in_ok-push.ensures.items
    ∙
    (ap line (c.loop-id.invariant
    ∙ ap (λ (ids : List ℕ). c.args.word.now ++ flat_map (λ name. 32 ∷ name)
    (names_at c.args.names.now ids)) all)
    ∙ sym (line_of_some c.args.word.now c.args.names.now c.args.ids.now
    (λ none. false≢true (sym c.if-is_empty.false ∙ (c.is_empty.ensures ∙ eq-eqb _ 0 none)))))
