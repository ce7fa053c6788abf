-- How the steps of a restart lead a store, and how a session that is launched does.
use Rattle.std.proofs.Common.{◌≡◌, ◌≢◌, ℕ, List, Option, Result, Ok, Err, OnOk, ap, inl, inr}
use Rattle.std.proofs.Common.{refl, subst}
use Rattle.clap.specs.Words.{Text as Path}
use Rattle.rc_model.specs.Database.{Database}
use Rattle.rc_model.specs.Line.{Line}
use Rattle.rc_session.specs.Holding.{Holding}
use Rattle.rc_serve.specs.declared.ending.Ending.{Ending}
use Rattle.rc_serve.specs.declared.ending.Ending.TheVariants.{Refused}
use Rattle.rc_serve.specs.declared.fault.ServeFault.{ServeFault}
use Rattle.rc_args.specs.OnceAsked.{OnceSaying}
use Rattle.rc_cli.specs.declared.sessions.service.Service.{Service}
use Rattle.rc_cli.specs.declared.sessions.session_fault.SessionFault.{SessionFault}
use Rattle.rc_cli.specs.declared.sessions.session_fault.SessionFault.TheVariants.{Failed}
use Rattle.rc_cli.specs.Filing.{BeginsBy, file_named}
use Rattle.rc_cli.specs.Launching.{LeadsFor, LeadsLaunched}
use Rattle.rc_cli.specs.Putting.{LeadsLine, Putting}
use Rattle.rc_cli.specs.Restarting.{LeadsBack, coming_back, ending_with}
use Rattle.rc_cli.specs.Serving.{session_on}
use Rattle.rc_cli.specs.Session.{Asked, Opens}
use Rattle.rc_cli.specs.SessionFaults.{IsEndTold, IsTold, session_end, status_of}
use Rattle.rc_cli.proofs.PuttingLemmas.{one_ending, told_refused}

-- what is only shown leaves a store alone
pub left_alone : {S A E : Type 0} (store : S) (result : Result A E) → OnOk result (store ≡ store)
left_alone store (Ok a) = refl
left_alone store (Err e) = tt

-- what serving came to that is told with the status of an ending
pub end_told : (result : Result Ending ServeFault) (status : ℕ) (before after : Option (List ℕ))
    (ending : Ending) → IsEndTold (session_end result) status before after
    → status ≡ status_of ending → result ≡ Ok ending
end_told (Ok told) status before after ending is same =
    ap Ok (one_ending told ending status is.0 same)
end_told (Err fault) status before after ending is same =
    absurd (told_refused (Failed fault) status before after ending is same).1

-- the steps of a restart, the second one only if the first one is not refused and has moved
-- something
module _ {S : Type 0} (Put : Putting S) (path : Option Path) (what : OnceSaying) (d : Database)
    (here middle : Line) (was left : S) where
  pub leads_refused : LeadsLine Put path Refused d what here middle was left
      → LeadsBack Put path Refused what d here was left
  leads_refused first = record {
    lowered = Refused;
    middle = middle;
    left = left;
    first = first;
    back = inl (refl, ap (λ (line : Line). line.current.live) first.0.1, refl);
  }

  pub leads_still : (ending : Ending) → LeadsLine Put path ending d what here middle was left
      → middle.current.live ≡ here.current.live → LeadsBack Put path ending what d here was left
  leads_still ending first same = record {
    lowered = ending;
    middle = middle;
    left = left;
    first = first;
    back = inl (refl, same, refl);
  }

  pub leads_back : (is : S) (lowered raised ending : Ending) (e : Database) (new : Line)
      → LeadsLine Put path lowered d what here middle was left → e ≡ d
      → middle.current.live ≢ here.current.live → ending ≡ ending_with lowered raised
      → LeadsLine Put path raised e coming_back middle new left is
      → LeadsBack Put path ending what d here was is
  leads_back is lowered raised ending e new first same moved ends second = record {
    lowered = lowered;
    middle = middle;
    left = left;
    first = first;
    back = inr (
      (λ refused. moved (ap (λ (line : Line). line.current.live)
          (subst (λ (l : Ending). LeadsLine Put path l d what here middle was left) refused
          first).0.1)),
      moved,
      raised,
      ends,
      new,
      subst (λ (b : Database). LeadsLine Put path raised b coming_back middle new left is) same
          second,
    );
  }

-- a session that is launched leads its store from where it begins
pub launch_leads : {S : Type 0} (Put : Putting S) (service : Service) (asked : Asked)
    (ending : Ending) (remaining after input left : Option (List ℕ)) (d : Database)
    (session : Holding) (was is : S)
    → Opens asked.base remaining after d input left → ((start : Line)
    × BeginsBy d asked.ask.bound (file_named asked.ask.live asked.file) start
    × (session ≡ session_on d start))
    → LeadsFor Put service asked.ask.live ending session.database session.line was is
    → LeadsLaunched Put service asked ending remaining after was is
launch_leads Put service asked ending remaining after input left d session was is opens
    (start, begins, stands) leads = inr (
      d,
      input,
      left,
      opens,
      start,
      begins,
      subst (λ (h : Holding). LeadsFor Put service asked.ask.live ending h.database h.line was is)
          stands leads,
    )

-- one that is refused before it begins leaves its store alone
pub launch_alone : {S : Type 0} (Put : Putting S) (service : Service) (asked : Asked)
    (ending : Ending) (remaining after : Option (List ℕ)) (store : S) (fault : SessionFault)
    (status : ℕ) (before then : Option (List ℕ)) → IsTold fault status before then
    → status ≡ status_of ending
    → LeadsLaunched Put service asked ending remaining after store store
launch_alone Put service asked ending remaining after store fault status before then told same =
    inl ((told_refused fault status before then ending told same).0, refl)
