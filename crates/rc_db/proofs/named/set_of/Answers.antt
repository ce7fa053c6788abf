use Rattle.std.proofs.Common.{◌≡◌, ◌∙◌, ◌⊎◌, List, ℕ, Bool, map, slice_get, Some, sym, subst, arith}
use Rattle.std.proofs.lemmas.List.{length-map, take_all}
use Rattle.std.specs.String.{string_bytes}
use Rattle.rc_model.specs.Names.{Has, Holds}
use Rattle.rc_model.specs.Database.{HaveBound, value_of, Selected}
use Rattle.rc_db.proofs.Words.{mapped_at, one_more_word}
use Rattle.rc_db.proofs.named.set_of.Goals as goal

pub add_service-requires-clause-bound : goal.add_service-requires-clause-bound
add_service-requires-clause-bound c = c.loop-word.invariant.bound

pub add_bundle-requires : goal.add_bundle-requires
add_bundle-requires c =
    let P : ℕ → Type 0 = λ bound. HaveBound bound c.args.table.now in
    subst P (sym (c.add_service.ensures.bound ∙ c.loop-word.invariant.bound)) c.requires

pub loop-word-preserved : goal.loop-word-preserved
loop-word-preserved c =
    let words = map string_bytes c.args.words.now in
    let here = mapped_at string_bytes c.args.words.now c.loop-word.word-index c.word-item.result
    (omega arith) c.word-item.is in
    let Service : List ℕ
    → Type 0 = λ w. Holds c.add_service.new.set
    (λ s. Has c.loop-word.set s ⊎ (slice_get c.args.names.now s ≡ Some w)) in
    let Bundle : List ℕ
    → Type 0 = λ w. Holds c.add_bundle.new.set
    (λ s. Has c.add_service.new.set s
    ⊎ ((bundle : List Bool) × (value_of c.args.table.now w ≡ Some bundle) × Has bundle s)) in
    record {
      bound =
          c.add_bundle.ensures.bound ∙ c.add_service.ensures.bound ∙ c.loop-word.invariant.bound;
      members =
          one_more_word c.args.names.now c.args.table.now words c.loop-word.word-index
          (string_bytes c.word-item.result)
          c.loop-word.set c.add_service.new.set c.add_bundle.new.set here
          c.loop-word.invariant.members
          (subst Service c.as_str.ensures.value c.add_service.ensures.members)
          (subst Bundle c.as_str-in-loop-word.ensures.value c.add_bundle.ensures.members);
    }

pub returns-clause-members : goal.returns-clause-members
returns-clause-members c =
    let words = map string_bytes c.args.words.now in
    let all = take_all c.loop-word.word-index words
    (omega (arith, length-map c.args.words.now string_bytes)) in
    let P : List (List ℕ) → Type 0 =
    λ ws. Holds c.loop-word.set (Selected c.args.names.now c.args.table.now ws) in
    subst P all c.loop-word.invariant.members
