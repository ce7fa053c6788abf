-- How the first flaw of definitions is reported, and steps of what names stand for, need and feed.
use Rattle.std.proofs.Common.{◌≡◌, ℕ, inl, List, Contains, refl}
use Rattle.rc_source.specs.Meaning.{Meaning}
use Rattle.rc_compile.specs.declared.CompileFault.{CompileFault}
use Rattle.rc_compile.specs.declared.CompileFault.TheVariants as fault
use Rattle.rc_compile.specs.Pipelines.{IsDefined, IsService, IsLongrun, WritesTo, InPipelineOf}
use Rattle.rc_compile.specs.Standing.{HoldsName, StandsFor, NeedsNamed}
use Rattle.rc_compile.proofs.Stands.{step_leads}
use Rattle.rc_compile.specs.declared.flaws.EntryFlaw.{EntryFlaw}
use Rattle.rc_compile.specs.declared.flaws.EntryFlaw.TheVariants.{PipelineType, PipelineMismatch}
use Rattle.rc_compile.specs.declared.flaws.EntryFlaw.TheVariants.{PipelineName}
use Rattle.rc_compile.specs.CompileFaults.{TooMany, Unknown, BundleCycle, OfEntry, Cycle}
use Rattle.rc_compile.specs.CompileFaults.{HaveNoFlaw, IsCompileFault, IsFirstIn, entry_fault}

pub not_refused : (ms : List Meaning) (f : CompileFault) → HaveNoFlaw ms → IsCompileFault ms f
    → f ≡ fault.Memory
unfolding IsCompileFault
not_refused ms fault.TooMany free h = absurd (free TooMany h.1)
not_refused ms (fault.UnknownIn s name) free h = absurd (free Unknown (s, h.1.0))
not_refused ms (fault.BundleCycle names) free h = absurd (free BundleCycle (names.items, h.1))
not_refused ms (fault.PipelineType s) free h = absurd (free (OfEntry PipelineType) (s, h.1.0))
not_refused ms (fault.PipelineMismatch s) free h =
    absurd (free (OfEntry PipelineMismatch) (s, h.1.0))
not_refused ms (fault.PipelineName s) free h = absurd (free (OfEntry PipelineName) (s, h.1.0))
not_refused ms (fault.Cycle names) free h = absurd (free Cycle (names.items, h.1))
not_refused ms fault.Memory free h = refl

-- the first flaw of entries is told by its fault
pub told_first : (ms : List Meaning) (flaw : EntryFlaw) (s : List ℕ) → IsFirstIn ms flaw s
    → IsCompileFault ms (entry_fault flaw s)
unfolding IsCompileFault
told_first ms PipelineType s first = first
told_first ms PipelineMismatch s first = first
told_first ms PipelineName s first = first

pub through : (ms : List Meaning) (name inner s : List ℕ) → HoldsName ms name inner
    → StandsFor ms inner s → StandsFor ms name s
through ms name inner s h stands = (stands.0, step_leads (HoldsName ms) name inner s h stands.1)

pub needs_all : (ms : List Meaning) (s name t : List ℕ) → IsService ms s
    → IsDefined ms (λ m. Contains m.dependencies name) s → StandsFor ms name t → NeedsNamed ms s t
needs_all ms s name t service (m, within, called, has) stands =
    (service, stands.0, inl (m, within, called, (name, has, stands)))

pub back : (ms : List Meaning) (s p q : List ℕ) → IsLongrun ms p → WritesTo ms p q
    → InPipelineOf ms s q → InPipelineOf ms s p
back ms s p q longrun writes (other, (last, ends, leads)) =
    (longrun, (last, ends, (step_leads (WritesTo ms) p q last writes leads.0, leads.1)))
