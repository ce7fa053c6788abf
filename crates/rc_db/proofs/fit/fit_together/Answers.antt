use Rattle.std.proofs.Common.{◌≢◌, ℕ, List, All, refl, sym, subst, true≢false, arith}
use Rattle.rc_model.specs.declared.Kind.TheVariants.{Bundle}
use Rattle.rc_model.specs.Database.{Service, HasLimits, HaveBound, AreApart, FitTogether}
use Rattle.rc_model.specs.Database.{IsDatabase}
use Rattle.rc_db.specs.Parts.{database_of}
use Rattle.rc_db.proofs.Fits.{on_true}
use Rattle.rc_db.proofs.fit.fit_together.Goals as goal
use Rattle.rc_db.proofs.fit.fit_together.Goals.{After-are_apart}

-- what is left once the names are apart
with_apart : (c : After-are_apart) → AreApart c.args.parts.now.names c.args.parts.now.table
    → FitTogether (database_of c.args.parts.now)
with_apart c apart =
    let Bounds : ℕ → Type 0 = λ n. HaveBound n c.args.parts.now.table in
    let Kinds : List Service → Type 0 = λ services. All (λ s. s.kind ≢ Bundle) services in
    record {
      services = omega arith;
      graph = omega arith;
      bounds = subst Bounds c.len-count.ensures.len (c.if-not-are_below.ensures.bounds.0 refl);
      kinds = subst Kinds c.deref.ensures.value (c.if-not-are_services.ensures.services.0 refl);
      fed = c.if-not-all_feed_needed_longruns.ensures.0 refl;
      apart = apart;
    }

pub returns-then-not-are_below-clause-fit : goal.returns-then-not-are_below-clause-fit
returns-then-not-are_below-clause-fit c =
    let Bounds : ℕ → Type 0 = λ n. HaveBound n c.args.parts.now.table in (
      λ no. absurd (true≢false (sym no)),
      λ fit. c.if-not-are_below.ensures.bounds.1
          (subst Bounds (sym c.len-count.ensures.len) fit.bounds),
    )

pub returns-then-not-are_services-clause-fit : goal.returns-then-not-are_services-clause-fit
returns-then-not-are_services-clause-fit c =
    let Kinds : List Service → Type 0 = λ services. All (λ s. s.kind ≢ Bundle) services in (
      λ no. absurd (true≢false (sym no)),
      λ fit. c.if-not-are_services.ensures.services.1
          (subst Kinds (sym c.deref.ensures.value) fit.kinds),
    )

pub returns-then-not-all_feed_needed_longruns-clause-fit :
    goal.returns-then-not-all_feed_needed_longruns-clause-fit
returns-then-not-all_feed_needed_longruns-clause-fit c =
    (λ no. absurd (true≢false (sym no)), λ fit. c.if-not-all_feed_needed_longruns.ensures.1 fit.fed)

pub returns-clause-fit : goal.returns-clause-fit
returns-clause-fit c =
    (λ yes. with_apart c (c.are_apart.ensures.0 yes), λ fit. c.are_apart.ensures.1 fit.apart)

pub returns-clause-database : goal.returns-clause-database
returns-clause-database c =
    let Limits : List Service → Type 0 = λ services. All HasLimits services in
    on_true c.are_apart.result (IsDatabase (database_of c.args.parts.now)) (λ yes. record {
      names = c.len-count.ensures.names;
      needs = c.len-2.ensures.lists;
      acyclic = c.order-order.ensures.acyclic;
      table = c.are_below.ensures.table;
      limits = subst Limits c.deref.ensures.value c.if-not-are_services.ensures.limits;
      fit = with_apart c (c.are_apart.ensures.0 yes);
    })
