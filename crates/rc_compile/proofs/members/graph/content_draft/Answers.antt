use Rattle.std.proofs.Common.{◌∙◌, inl, inr, List, [], ℕ, length, ap}
use Rattle.std.proofs.lemmas.List.{length-replicate}
use Rattle.rc_compile.proofs.Drafts.{none_needed}
use Rattle.rc_compile.proofs.members.graph.content_draft.Goals as goal

pub returns : goal.returns
returns c = record {
  few =
      c.need_listed.ensures.bound ∙ ap length c.in_ok-draft.ensures
      ∙ length-replicate {A = List ℕ} c.len.result [] ∙ c.len.ensures.len;
  same = λ s t. (
    λ need. elim ((c.in_ok-need_listed.ensures.pairs s t).0 need) [
      | inl old ↦
          absurd (none_needed c.in_ok-draft.draft c.len.result c.in_ok-draft.ensures s t old)
      | inr at ↦ at
    ],
    λ at. (c.in_ok-need_listed.ensures.pairs s t).1 (inr at),
  );
}
