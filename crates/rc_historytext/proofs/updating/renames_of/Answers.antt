use Rattle.std.proofs.Common.{◌≡◌, ◌∙◌, ◌+◌, ◌<◌, ◌∷◌, [], ◌++◌, ℕ, List, length, take, get_or, ap}
use Rattle.std.proofs.Common.{sym}
use Rattle.std.proofs.lemmas.List.{take_more, map-append}
use Rattle.std.proofs.lemmas.Result.{err_from_is_err_and}
use Rattle.rc_update.specs.Conversions.{conversion_of, conversions_of}
use Rattle.rc_update.specs.declared.conversion.Conversion.{Conversion as Given}
use Rattle.rc_historytext.specs.Text.{RenameText}
use Rattle.rc_historytext.specs.Updating.{renames_of}
use Rattle.rc_historytext.proofs.Failing.{one_refused, renames_join}
use Rattle.rc_historytext.proofs.updating.renames_of.Goals as goal

-- one conversion more
more : (list : List Given) (i : ℕ) (d : Given) (old new : List RenameText) → i < length list
    → old ≡ renames_of (conversions_of (take i list))
    → new ≡ old ++ renames_of (conversion_of (get_or list i d) ∷ [])
    → new ≡ renames_of (conversions_of (take (i + 1) list))
more list i d old new low so_far added =
    added
    ∙ ap (λ (rs : List RenameText). rs ++ renames_of (conversion_of (get_or list i d) ∷ [])) so_far
    ∙ sym
    (ap (λ (l : List Given). renames_of (conversions_of l)) (take_more list i d low)
    ∙ ap renames_of (map-append conversion_of (take i list) (get_or list i d ∷ []))
    ∙ renames_join (conversions_of (take i list)) (conversion_of (get_or list i d) ∷ []))

pub loop-one-preserved : goal.loop-one-preserved
loop-one-preserved c = record {
  so_far =
      more c.args.list.now c.loop-one.one-index _ c.loop-one.renames.items
      c.add_rename.new.renames.items c.loop-one-test.true c.loop-one.invariant.so_far
      c.in_ok-add_rename.ensures.renames;
  each = c.in_ok-add_rename.ensures.each c.loop-one.invariant.each;
}

pub returns-in_err-add_rename-clause-fault : goal.returns-in_err-add_rename-clause-fault
returns-in_err-add_rename-clause-fault c =
    let p = err_from_is_err_and c.from_residual.result c.from_residual.ensures.1 in
    rw (p.1, p.2)
    (one_refused c.args.list.now c.loop-one.one-index _ c.in_err-add_rename.field-0.0
    c.loop-one-test.true c.in_err-add_rename.ensures.fault)
