use Rattle.std.proofs.Common.{◌∙◌, ◌++◌, List, ℕ, ap, map, string_bytes, subst}
use Rattle.rc_model.specs.Database.{Database}
use Rattle.rc_render.specs.Names.{ok_line}
use Rattle.rc_render.specs.PlanText.{IsPlanText}
use Rattle.rc_cli.proofs.ShowingLemmas.{first_opens, second_opens}
use Rattle.rc_cli.proofs.sessions.showing.both_plans.Goals as goal

pub plan_text-raised-requires : goal.plan_text-raised-requires
plan_text-raised-requires c =
    second_opens c.args.session.now.database c.args.session.now.line c.names.result.now
    c.args.plan.now c.in_ok-back.back c.journal-states.ensures.states
    (c.names.ensures.names ∙ ap (λ (held : Database). held.names) c.db.ensures.db)
    c.in_ok-back.ensures

pub plan_text-requires : goal.plan_text-requires
plan_text-requires c =
    first_opens c.args.session.now.database c.args.session.now.line c.names-2.result.now
    (map string_bytes c.args.names.now) c.args.plan.now c.journal-states.ensures.states
    (c.names-2.ensures.names ∙ ap (λ (held : Database). held.names) c.db-2.ensures.db)
    c.requires.plan

pub returns : goal.returns
returns c =
    let lowered : List ℕ = c.in_ok-plan_text.field-0.items in
    let raised : List ℕ = c.in_ok-raised.field-0.items in record {
      plan = c.args.plan.now;
      back = c.in_ok-back.back;
      lowered = lowered;
      raised = raised;
      can = c.requires.can;
      lowers = c.requires.plan;
      raises = c.in_ok-back.ensures;
      first = subst (λ (names : List (List ℕ)). IsPlanText names c.args.plan.now lowered)
          (c.names-2.ensures.names ∙ ap (λ (held : Database). held.names) c.db-2.ensures.db)
          c.in_ok-plan_text.ensures;
      second = subst (λ (names : List (List ℕ)). IsPlanText names c.in_ok-back.back raised)
          (c.names.ensures.names ∙ ap (λ (held : Database). held.names) c.db.ensures.db)
          c.in_ok-raised.ensures;
      all = c.in_ok-extend_from_slice.ensures.items
          ∙ (ap (λ (text : List ℕ). text ++ c.deref.result.now) c.in_ok-text.ensures
          ∙ ap (λ (text : List ℕ). (lowered ++ ok_line) ++ text)
          (c.deref.ensures.value ∙ c.in_ok-raised-2.ensures));
    }
