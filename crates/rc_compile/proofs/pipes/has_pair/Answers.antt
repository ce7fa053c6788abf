use Rattle.std.proofs.Common.{◌≡◌, ◌∙◌, ◌<◌, ℕ, List, eqb, length, slice_get, Some, Contains, ap}
use Rattle.std.proofs.Common.{sym, subst, true≢false}
use Rattle.std.proofs.lemmas.List.Elements.{contains_decides, Decides-contains}
use Rattle.std.proofs.lemmas.Bool.Decides.{Decides-eqb}
use Rattle.std.proofs.lemmas.Option.{slice_get_within}
use Rattle.rc_model.specs.Graph.{Needs}
use Rattle.rc_compile.specs.Rows.{rows}
use Rattle.rc_compile.proofs.RowLemmas.{row_is, row_needs}
use Rattle.rc_model.proofs.ByteOrder.{one_place}
use Rattle.rc_model.proofs.Places.{contains_at}
use Rattle.rc_compile.proofs.pipes.has_pair.Goals as goal

pub returns-in_default : goal.returns-in_default
returns-in_default c = (
  λ no. absurd (true≢false (sym no)),
  λ (s, t, at_s, at_t, need). absurd (c.in_default.ensures.missing
      (subst (Contains c.args.names.now) (sym c.text.ensures.bytes)
      (contains_at c.args.names.now s c.args.from.now at_s))),
)

pub returns-in_default-find : goal.returns-in_default-find
returns-in_default-find c = (
  λ no. absurd (true≢false (sym no)),
  λ (s, t, at_s, at_t, need). absurd (c.in_default-find.ensures.missing
      (subst (Contains c.args.names.now) (sym c.text-2.ensures.bytes)
      (contains_at c.args.names.now t c.args.to.now at_t))),
)

pub bounds-lists-from : goal.bounds-lists-from
bounds-lists-from c =
    subst (λ n. c.in-Some.from < n) (sym c.requires)
    (slice_get_within c.args.names.now c.in-Some.from c.text.result.now c.in-Some.ensures.found)

pub returns : goal.returns
returns c =
    let names = c.args.names.now in
    let from = c.in-Some.from in
    let to = c.in-Some-find.to in
    let list = c.deref.result.now in
    let at_from : slice_get names from ≡ Some c.args.from.now =
    c.in-Some.ensures.found ∙ ap (λ (x : List ℕ). Some x) c.text.ensures.bytes in
    let at_to : slice_get names to ≡ Some c.args.to.now =
    c.in-Some-find.ensures.found ∙ ap (λ (x : List ℕ). Some x) c.text-2.ensures.bytes in
    let inside : from < length c.args.lists.now =
    subst (λ n. from < n) (sym c.requires) (slice_get_within names from c.args.from.now at_from) in
    let row = row_needs c.args.lists.now from list
    (row_is c.args.lists.now from c.index-lists-from.result list inside c.index-lists-from.is
    c.deref.ensures.value) in
    let decides = Decides-contains list to c.contains.result
    (contains_decides eqb Decides-eqb list to c.contains.result c.contains.ensures.cases) in
    let order = c.len-count.ensures.names.order in (
      λ passed. (from, to, at_from, at_to, (row to).1 (decides.0 passed)),
      λ (s, t, at_s, at_t, need). decides.1 ((row to).0
          (subst (λ (x : ℕ). Needs (rows c.args.lists.now) from x)
          (one_place names c.args.to.now t to order at_t at_to)
          (subst (λ (x : ℕ). Needs (rows c.args.lists.now) x t)
          (one_place names c.args.from.now s from order at_s at_from) need))),
    )
