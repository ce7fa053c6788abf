use Rattle.std.proofs.Common.{◌∙◌, [], ◌∷◌, ◌++◌, ℕ, List, ap, sym, take}
use Rattle.std.proofs.lemmas.Bool.{eq-eqb, eqb-true, false≢true}
use Rattle.std.proofs.lemmas.List.{append-nil, take_all}
use Rattle.std.specs.List.{flat_map}
use Rattle.rc_render.specs.Lines.{names_at}
use Rattle.rc_render.proofs.LineLemmas.{line_of_none, line_of_some}
use Rattle.rc_render.proofs.NameLemmas.{ended, grown, one_more_id}
use Rattle.rc_render.proofs.told.add_line.Goals as goal

pub loop-id-preserved : goal.loop-id-preserved
loop-id-preserved c =
    let text : List ℕ → List ℕ = λ name. 32 ∷ name in
    grown c.add_word.new.text.items c.loop-id.text.items c.args.text.now.items c.args.word.now
    (flat_map text (names_at c.args.names.now (take c.loop-id.id-index c.args.ids.now))) _
    (32 ∷ c.name_or_none.result.now)
    c.in_ok-add_word.ensures c.loop-id.invariant
    (one_more_id text c.args.names.now c.args.ids.now c.loop-id.id-index c.loop-id-test.true
    ∙ ap (λ (name : List ℕ). flat_map text
    (names_at c.args.names.now (take c.loop-id.id-index c.args.ids.now)) ++ 32 ∷ name)
    (sym c.name_or_none.ensures))

pub returns-then-is_empty : goal.returns-then-is_empty
returns-then-is_empty c =
    let old : List ℕ = c.args.text.now.items in
    sym (ap (λ (t : List ℕ). old ++ t)
    (line_of_none c.args.word.now c.args.names.now c.args.ids.now
    (eqb-true _ 0 (sym c.is_empty.ensures ∙ c.if-is_empty.true))) ∙ append-nil old)

pub loop-id-init : goal.loop-id-init
loop-id-init c =
    c.in_ok-extend_from_slice.ensures.items ∙ ap (λ (t : List ℕ). c.args.text.now.items ++ t)
    (sym (append-nil c.args.word.now))

pub returns : goal.returns
returns c =
    let told : List ℕ → List ℕ =
    λ ids. flat_map (λ name. 32 ∷ name) (names_at c.args.names.now ids) in
    let all = take_all c.loop-id.id-index c.args.ids.now c.loop-id-test.false in
    ended c.push.new.self.items c.loop-id.text.items c.args.text.now.items c.args.word.now
    (told (take c.loop-id.id-index c.args.ids.now)) (told c.args.ids.now) (10 ∷ [])
    c.in_ok-push.ensures.items c.loop-id.invariant (ap told all)
    ∙ ap (λ (t : List ℕ). c.args.text.now.items ++ t)
    (sym (line_of_some c.args.word.now c.args.names.now c.args.ids.now
    (λ none. false≢true (sym c.if-is_empty.false ∙ (c.is_empty.ensures ∙ eq-eqb _ 0 none)))))
