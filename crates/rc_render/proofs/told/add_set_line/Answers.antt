use Rattle.std.proofs.Common.{◌≡◌, ◌∙◌, ◌<◌, [], ◌∷◌, ◌++◌, ℕ, List, length, ap, sym, take, false}
use Rattle.std.proofs.Common.{true, arith}
use Rattle.std.specs.List.{flat_map}
use Rattle.rc_model.proofs.Lists.{one_more}
use Rattle.rc_render.specs.Names.{names_in}
use Rattle.rc_render.proofs.NameLemmas.{grown, ended, names_in_has, names_in_lacks, names_in_all}
use Rattle.rc_render.proofs.told.add_set_line.Goals as goal
use Rattle.rc_render.proofs.told.add_set_line.Goals.{then-contains+in_ok-add_word, else-contains}

pub loop-id-preserved : goal.loop-id-preserved
loop-id-preserved c =
    let spaced : List ℕ → List ℕ = λ name. 32 ∷ name in
    let low : c.loop-id.id < length c.args.names.now = omega arith in
    let within : c.loop-id.id < length c.args.set.now = omega arith in
    elim c.if-contains.branch [
      | then-contains+in_ok-add_word w ↦ rw w.text-is (
          grown w.add_word.new.text.items c.loop-id.text.items c.args.text.now.items c.args.word.now
          (flat_map spaced
          (names_in (take c.loop-id.id c.args.names.now) (take c.loop-id.id c.args.set.now))) _
          (32 ∷ w.name_of.result.now)
          (w.in_ok-add_word.ensures ∙ ap (λ (name : List ℕ). c.loop-id.text.items ++ 32 ∷ name)
          (w.as_bytes.ensures.value ∙ w.text.ensures.bytes))
          c.loop-id.invariant
          (ap (flat_map spaced)
          (names_in_has c.args.names.now c.args.set.now c.loop-id.id w.name_of.result.now
          w.name_of.ensures (c.contains.ensures.0 w.if-contains.true))
          ∙ one_more spaced
          (names_in (take c.loop-id.id c.args.names.now) (take c.loop-id.id c.args.set.now))
          w.name_of.result.now))
      | else-contains w ↦ rw w.text-is (c.loop-id.invariant
          ∙ ap (λ (names : List (List ℕ)). c.args.text.now.items
          ++ (c.args.word.now ++ flat_map spaced names))
          (sym (names_in_lacks c.args.names.now c.args.set.now c.loop-id.id low within
          (λ has. let bad : false ≡ true = sym w.if-contains.false ∙ c.contains.ensures.1 has in
          cc))))
    ]

pub returns : goal.returns
returns c =
    ended c.push.new.self.items c.loop-id.text.items c.args.text.now.items
    c.args.word.now _ _ (10 ∷ [])
    c.in_ok-push.ensures.items c.loop-id.invariant
    (ap (flat_map (λ name. 32 ∷ name))
    (names_in_all c.args.names.now c.args.set.now c.loop-id.id (λ l w. omega arith)))
