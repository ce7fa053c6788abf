use Rattle.std.proofs.Common.{◌≡◌, ◌∙◌, ℕ, get_or, arith, sym, ap}
use Rattle.std.proofs.lemmas.Bool.{false≢true}
use Rattle.rc_livetext.proofs.Knowing.{other_names, same_more, same_text}
use Rattle.rc_livetext.proofs.known.are_services.Goals as goal

pub returns-then-ne : goal.returns-then-ne
returns-then-ne c = (
  λ bad. absurd (false≢true bad),
  λ same. absurd
      (other_names c.args.texts.now c.args.names.now c.loop-id.id c.index-texts-from.result
      c.name_of.result.now
      (c.index-texts-from.is ∙ ap (λ (i : ℕ). get_or c.args.texts.now i c.index-texts-from.result)
      c.from-in-loop-id.ensures) c.name_of.ensures c.text.result.now c.text-in-loop-id.result.now
      c.text.ensures.bytes c.text-in-loop-id.ensures.bytes (sym c.ne.ensures ∙ c.if-ne.true) same),
)

pub loop-id-preserved : goal.loop-id-preserved
loop-id-preserved c =
    let same : c.index-texts-from.result ≡ c.name_of.result.now =
    sym c.text.ensures.bytes ∙ same_text c.text.result.now c.text-in-loop-id.result.now
    (sym c.ne.ensures ∙ c.if-ne.false) ∙ c.text-in-loop-id.ensures.bytes in
    same_more c.args.texts.now c.args.names.now c.loop-id.id c.index-texts-from.result
    c.name_of.result.now (omega arith)
    (c.index-texts-from.is ∙ ap (λ (i : ℕ). get_or c.args.texts.now i c.index-texts-from.result)
    c.from-in-loop-id.ensures) c.name_of.ensures same c.loop-id.invariant
