use Rattle.std.proofs.Common.{◌≡◌, ◌∙◌, ◌+◌, ℕ, List, map, Some, true≢false, ap, sym, subst, arith}
use Rattle.std.specs.String.{string_bytes}
use Rattle.rc_model.specs.Names.{Has}
use Rattle.rc_db.proofs.Listing.{Passed, none_passed, one_passed, shown_more}
use Rattle.rc_update.proofs.CarryingLemmas.{all_passed}
use Rattle.rc_update.proofs.carrying.names_of.Goals as goal
use Rattle.rc_update.proofs.carrying.names_of.Goals.{then-contains+in_ok-from_str+in_ok-push}
use Rattle.rc_update.proofs.carrying.names_of.Goals.{else-contains}

pub loop-id-preserved : goal.loop-id-preserved
loop-id-preserved c =
    let P : ℕ → Type 0 = Has c.args.set.now in
    let names = c.args.names.now in
    let shown = map string_bytes c.loop-id.listed.items in
    elim c.if-contains.branch [
      | then-contains+in_ok-from_str+in_ok-push w ↦
          let text : string_bytes w.in_ok-from_str.field-0 ≡ w.name_of.result.now =
          w.in_ok-from_str.ensures.ok ∙ w.text.ensures.bytes in
          let Shows : List (List ℕ) → Type 0 = Passed P names (c.loop-id.id + 1) in
          let pushed = shown_more string_bytes c.loop-id.listed.items w.push.new.self.items
          w.in_ok-from_str.field-0 w.in_ok-push.ensures.items in
          rw w.listed-is (subst Shows (sym pushed)
          (one_passed P names c.loop-id.id shown (string_bytes w.in_ok-from_str.field-0)
          c.len-id-end.ensures.names.order (w.name_of.ensures ∙ ap Some (sym text))
          (c.contains.ensures.0 w.if-contains.true) c.loop-id.invariant))
      | else-contains w ↦
          rw w.listed-is (none_passed P names c.loop-id.id shown
          (λ has. true≢false (sym (c.contains.ensures.1 has) ∙ w.if-contains.false))
          c.loop-id.invariant)
    ]

pub returns : goal.returns
returns c =
    all_passed c.args.names.now c.args.set.now c.loop-id.id
    (map string_bytes c.loop-id.listed.items) (omega arith) c.loop-id.invariant
