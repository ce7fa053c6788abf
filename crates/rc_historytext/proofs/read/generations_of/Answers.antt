use Rattle.std.proofs.Common.{◌≡◌, ◌∙◌, ◌∷◌, ◌+◌, ◌++◌, [], List, length, length-append, All, ap}
use Rattle.std.proofs.Common.{subst}
use Rattle.std.proofs.Common.{sym, arith, rules}
use Rattle.std.proofs.lemmas.List.Elements.{All-push}
use Rattle.std.proofs.lemmas.Result.{err_from_is_err_and}
use Rattle.rc_historytext.specs.Text.{GenerationText, IsGenerationText}
use Rattle.rc_historytext.proofs.Reading.{generations_stop, more_generations, oldest_more}
use Rattle.rc_historytext.proofs.read.generations_of.Goals as goal

pub returns-in_err-generation-clause-fault : goal.returns-in_err-generation-clause-fault
returns-in_err-generation-clause-fault c =
    let p = err_from_is_err_and c.from_residual.result c.from_residual.ensures.1 in
    let held = c.loop-place.invariant in
    rw (p.1, p.2)
    (generations_stop c.args.bytes.now c.loop-place.rest.now c.loop-place.generations.items
    c.loop-place.place c.args.count c.in_err-generation.field-0.0 held.count held.each held.oldest
    held.front (omega arith) c.in_err-generation.ensures.fault)

pub loop-place-preserved : goal.loop-place-preserved
loop-place-preserved c =
    let held = c.loop-place.invariant in
    let gs : List GenerationText = c.loop-place.generations.items in
    let g : GenerationText = c.in_ok-generation.generation in
    let pushed : c.push.new.self.items ≡ gs ++ g ∷ [] = search rules in
    record {
      count = ap length pushed ∙ length-append gs (g ∷ []) ∙ ap (λ k. k + 1) held.count;
      each =
          subst (λ (l : List GenerationText). All IsGenerationText l) (sym pushed)
          (All-push IsGenerationText gs g held.each c.in_ok-generation.ensures.is);
      oldest =
          oldest_more gs c.push.new.self.items g c.loop-place.place held.count held.oldest
          c.in_ok-generation.ensures.few pushed;
      front =
          more_generations c.args.bytes.now c.loop-place.rest.now c.in_ok-generation.behind.now gs
          c.push.new.self.items g held.front c.in_ok-generation.ensures.front pushed;
    }
