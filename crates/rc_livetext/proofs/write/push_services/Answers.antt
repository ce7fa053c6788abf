use Rattle.std.proofs.Common.{◌∙◌, [], ◌∷◌, ◌++◌, ℕ, List, ap, take, arith}
use Rattle.std.proofs.lemmas.List.{take_all}
use Rattle.std.specs.Prelude.{codes}
use Rattle.rc_model.proofs.Places.{take_next}
use Rattle.rc_model.proofs.Lists.{one_more, grown}
use Rattle.rc_dbtext.specs.Lines.{words_after_spaces}
use Rattle.rc_dbtext.proofs.LineLemmas.{line_of}
use Rattle.rc_livetext.proofs.write.push_services.Goals as goal

pub loop-id-preserved : goal.loop-id-preserved
loop-id-preserved c =
    grown c.push_word.new.out.items c.loop-id.out.items (c.args.out.now.items ++ codes "services")
    (words_after_spaces (take c.loop-id.id c.args.names.now)) _ (32 ∷ c.name_of.result.now)
    (c.in_ok-push_word.ensures.written ∙ ap (λ (name : List ℕ). c.loop-id.out.items ++ 32 ∷ name)
    (c.as_bytes.ensures.value ∙ c.text.ensures.bytes))
    c.loop-id.invariant
    (ap words_after_spaces
    (take_next c.args.names.now c.loop-id.id c.name_of.result.now c.name_of.ensures)
    ∙ one_more (λ (name : List ℕ). 32 ∷ name) (take c.loop-id.id c.args.names.now)
    c.name_of.result.now)

pub returns : goal.returns
returns c =
    c.in_ok-extend_from_slice-2.ensures.items
    ∙ (ap (λ (t : List ℕ). t ++ 10 ∷ [])
    (c.loop-id.invariant
    ∙ ap (λ (ns : List (List ℕ)). (c.args.out.now.items ++ codes "services") ++ words_after_spaces
    ns) (take_all c.loop-id.id c.args.names.now (omega (arith))))
    ∙ line_of c.args.out.now.items (codes "services") c.args.names.now)
