use Rattle.std.proofs.Common.{◌≡◌, ◌∙◌, ℕ, List, Some, map, take, slice_get, refl, sym, subst}
use Rattle.std.proofs.lemmas.List.{take_all}
use Rattle.rc_compile.specs.Rows.{rows}
use Rattle.rc_source.specs.Meaning.{Meaning}
use Rattle.rc_source.specs.Said.{meaning_of}
use Rattle.rc_source.specs.declared.definition.Definition.{Definition}
use Rattle.rc_compile.specs.Sets.{HasPiped}
use Rattle.rc_compile.proofs.Listing.{meanings_more}
use Rattle.rc_compile.proofs.SetLists.{Gain, pipes_none, pipes_more}
use Rattle.rc_compile.proofs.members.pipes.add_pipelines.Goals as goal

pub loop-definition-init : goal.loop-definition-init
loop-definition-init c = record {
  few = refl;
  bounds = c.requires.bounds;
  sets =
      pipes_none c.args.services.now (rows c.args.readers.now) c.args.bundles.now c.args.sets.now;
}

pub loop-definition-preserved : goal.loop-definition-preserved
loop-definition-preserved c =
    let i = c.loop-definition.definition-index in
    record {
      few = c.add_pipeline.ensures.few ∙ c.loop-definition.invariant.few;
      bounds = c.add_pipeline.ensures.bounds;
      sets =
          subst (λ (ms : List Meaning). Gain
          (λ b s. (n : List ℕ) × (slice_get c.args.bundles.now b ≡ Some n)
          × HasPiped ms c.args.services.now (rows c.args.readers.now) n s) c.args.sets.now
          c.add_pipeline.new.sets)
          (sym (meanings_more c.args.definitions.now i c.definition-item.result
          c.loop-definition-test.true c.definition-item.is))
          (pipes_more (map meaning_of (take i c.args.definitions.now))
          (meaning_of c.definition-item.result) c.args.services.now (rows c.args.readers.now)
          c.args.bundles.now c.args.sets.now
          c.loop-definition.sets c.add_pipeline.new.sets c.loop-definition.invariant.sets
          c.in_ok-add_pipeline.ensures.sets);
    }

pub returns-clause-sets : goal.returns-clause-sets
returns-clause-sets c =
    subst (λ (ds : List Definition). Gain
    (λ b s. (n : List ℕ) × (slice_get c.args.bundles.now b ≡ Some n)
    × HasPiped (map meaning_of ds) c.args.services.now (rows c.args.readers.now) n s)
    c.args.sets.now c.loop-definition.sets)
    (take_all c.loop-definition.definition-index c.args.definitions.now
    c.loop-definition-test.false) c.loop-definition.invariant.sets
