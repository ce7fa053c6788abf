use Rattle.std.proofs.Common.{◌≡◌, ℕ, Some, slice_get, sym, subst}
use Rattle.std.proofs.lemmas.Option.{slice_get_within}
use Rattle.std.proofs.lemmas.Result.{IfOk-weaker, IfErr-weaker}
use Rattle.rc_model.specs.Line.{Lists}
use Rattle.rc_model.specs.Names.{Has}
use Rattle.rc_set.proofs.Listing.{lists_as}
use Rattle.rc_db.specs.declared.fault.QueryFault.{QueryFault}
use Rattle.rc_db.specs.declared.fault.QueryFault.TheVariants.{Memory}
use Rattle.rc_db.specs.Pipeline.{InPipelineOf}
use Rattle.rc_db.specs.QueryFaults.{OfLongrun, IsSuch, IsQueryFault}
use Rattle.rc_db.proofs.db.Db.pipeline.Goals as goal
use Rattle.rc_db.proofs.db.Db.pipeline.Goals.{After-ids_of}

pub service-requires : goal.service-requires
service-requires c =
    slice_get_within c.args.self.now.names c.in_ok-id.id c.args.name.now c.in_ok-id.ensures.service

pub pipeline_of-requires : goal.pipeline_of-requires
pipeline_of-requires c =
    slice_get_within c.args.self.now.names c.in_ok-id.id c.args.name.now c.in_ok-id.ensures.service

-- the name is a longrun's
such : (c : After-ids_of) → IsSuch c.args.self.now OfLongrun c.args.name.now
such c = (
  c.service.result.now,
  (c.in_ok-id.id, c.in_ok-id.ensures.service, c.service.ensures),
  c.is_longrun.ensures.0 c.if-not-is_longrun.false,
)

pub returns-clause-ids : goal.returns-clause-ids
returns-clause-ids c =
    let In : ℕ → Type 0 = InPipelineOf c.args.self.now c.in_ok-id.id in
    IfOk-weaker c.ids_of.result (λ ids. Lists (Has c.in_ok-set.set) ids.items)
    (λ ids. (s : ℕ) × (slice_get c.args.self.now.names s ≡ Some c.args.name.now)
    × Lists (InPipelineOf c.args.self.now s) ids.items)
    (λ ids lists. (
      c.in_ok-id.id,
      c.in_ok-id.ensures.service,
      lists_as (Has c.in_ok-set.set) In ids.items c.in_ok-set.ensures lists,
    )) c.ids_of.ensures.ids

pub returns-clause-longrun : goal.returns-clause-longrun
returns-clause-longrun c =
    IfOk-weaker c.ids_of.result _ (λ _. IsSuch c.args.self.now OfLongrun c.args.name.now)
    (λ _ _. such c) c.ids_of.ensures.ids

pub returns-clause-fault : goal.returns-clause-fault
returns-clause-fault c =
    let Fault : QueryFault → Type 0 = IsQueryFault c.args.self.now OfLongrun c.args.name.now in
    IfErr-weaker c.ids_of.result (λ fault. fault ≡ Memory) Fault
    (λ fault is. subst Fault (sym is) (such c)) c.ids_of.ensures.fault
