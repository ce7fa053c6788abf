use Rattle.std.proofs.Common.{◌≡◌, ◌∙◌, ◌+◌, ◌≤◌, ℕ, List, length, map, slice_get, Some, true≢false}
use Rattle.std.proofs.Common.{ap, sym, subst, arith}
use Rattle.rc_model.specs.Database.{IsKind, Service}
use Rattle.rc_db.proofs.Listing.{Passed, kind_listed, none_passed, one_passed, shown_more}
use Rattle.rc_db.proofs.list.names_of_kind.Goals as goal
use Rattle.rc_db.proofs.list.names_of_kind.Goals.{then-is_of+in_ok-push, else-is_of}

pub loop-id-preserved : goal.loop-id-preserved
loop-id-preserved c =
    let P : ℕ → Type 0 = λ k. IsKind c.args.db.now k c.args.kind in
    let names = c.names-names.result.now in
    let shown = map (λ name. name.now) c.loop-id.all.items in
    elim c.if-is_of.branch [
      | then-is_of+in_ok-push w ↦
          let Shows : List (List ℕ) → Type 0 = Passed P names (c.loop-id.id + 1) in
          let pushed = shown_more (λ name. name.now) c.loop-id.all.items w.push.new.self.items
          w.name_of.result w.in_ok-push.ensures.items in
          rw w.all-is (subst Shows (sym pushed)
          (one_passed P names c.loop-id.id shown w.name_of.result.now
          c.len-id-end.ensures.names.order w.name_of.ensures
          (c.service.result.now, c.service.ensures, c.is_of.ensures.0 w.if-is_of.true)
          c.loop-id.invariant))
      | else-is_of w ↦
          rw w.all-is (none_passed P names c.loop-id.id shown
          (λ holds.
          let at : slice_get c.args.db.now.services c.loop-id.id ≡ Some holds.0 = holds.1 in
          let here : slice_get c.args.db.now.services c.loop-id.id ≡ Some c.service.result.now =
          c.service.ensures in
          let same : c.service.result.now ≡ holds.0 = cc (at, here) in
          true≢false (sym (c.is_of.ensures.1 (ap (λ (s : Service). s.kind) same ∙ holds.2))
          ∙ w.if-is_of.false))
          c.loop-id.invariant)
    ]

pub returns : goal.returns
returns c =
    let names = c.names-names.result.now in
    let whole : length names ≤ c.loop-id.id = omega arith in
    let shown = map (λ name. name.now) c.loop-id.all.items in
    let P : List (List ℕ) → Type 0 = λ all. length all ≤ c.loop-id.id in
    let Q : List (List ℕ) → Type 0 =
    λ all. Passed (λ k. IsKind c.args.db.now k c.args.kind) all c.loop-id.id shown in
    kind_listed c.args.db.now c.args.kind c.loop-id.id shown
    (subst P c.names-names.ensures.names whole)
    (subst Q c.names-names.ensures.names c.loop-id.invariant)
