use Rattle.std.proofs.Common.{◌∙◌, inl, inr, map, length, sym, ap, subst}
use Rattle.std.proofs.lemmas.Result.{on_ok_weaker}
use Rattle.rc_compile.specs.Rows.{rows}
use Rattle.rc_compile.proofs.RowLemmas.{length-rows}
use Rattle.rc_source.specs.Said.{meaning_of}
use Rattle.rc_compile.specs.Mirror.{HasListed, Mirrors}
use Rattle.rc_compile.proofs.Drafts.{known_among}
use Rattle.rc_compile.proofs.members.graph.need_listed.Goals as goal

pub need_lists-requires-clause-bound : goal.need_lists-requires-clause-bound
need_lists-requires-clause-bound c =
    ap length c.deref.ensures.value ∙ sym (length-rows c.in_ok-lists.lists.items)
    ∙ c.in_ok-lists.ensures.few ∙ sym c.requires

pub need_lists-requires-clause-known : goal.need_lists-requires-clause-known
need_lists-requires-clause-known c =
    known_among (HasListed c.args.which (map meaning_of c.args.definitions.now)) c.args.names.now
    (rows c.in_ok-lists.lists.items) (rows c.deref.result.now) c.in_ok-lists.ensures
    (ap rows c.deref.ensures.value)

pub returns-clause-pairs : goal.returns-clause-pairs
returns-clause-pairs c =
    let names = c.args.names.now in
    let mirror =
    subst (λ v. Mirrors (HasListed c.args.which (map meaning_of c.args.definitions.now)) names names
    (rows v)) (sym c.deref.ensures.value) c.in_ok-lists.ensures in
    on_ok_weaker c.need_lists.result
    (λ pairs s t. (
      λ need. elim ((pairs s t).0 need) [
        | inl old ↦ inl old
        | inr now ↦ inr ((mirror.same s t).0 now)
      ],
      λ either. (pairs s t).1
          (elim either [ inl old ↦ inl old | inr at ↦ inr ((mirror.same s t).1 at) ]),
    )) c.need_lists.ensures.pairs
