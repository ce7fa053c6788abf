use Rattle.std.proofs.Common.{◌∷◌, ◌∙◌, All, map, sym, ap, subst, string_bytes}
use Rattle.std.proofs.lemmas.List.Elements.{All-push}
use Rattle.rc_model.specs.Names.{IsName}
use Rattle.rc_source.proofs.Members.{moved_on}
use Rattle.rc_source.proofs.TextSets.{IsInByteOrder-from_keys}
use Rattle.rc_source.proofs.sets.names.Goals as goal

pub loop-text-preserved : goal.loop-text-preserved
loop-text-preserved c =
    let same = c.in-Ok.ensures.name.0 ∙ c.as_str.ensures.value in
    let first = ap (map string_bytes) c.in-Some.ensures.steps
    ∙ ap (λ n. n ∷ map string_bytes c.next.new.self) (sym same) in (
      moved_on c.loop-text.names.items c.push.new.self.items
          (map string_bytes c.loop-text.text-iterator) (map string_bytes c.next.new.self)
          (map string_bytes c.args.set.now.keys) c.in-Ok.name
          c.in_ok-push.ensures.items first c.loop-text.invariant.0,
      subst (All IsName) (sym c.in_ok-push.ensures.items)
          (All-push IsName c.loop-text.names.items c.in-Ok.name c.loop-text.invariant.1
          (subst IsName (sym c.in-Ok.ensures.name.0) c.in-Ok.ensures.name.1)),
    )

pub returns-clause-order : goal.returns-clause-order
returns-clause-order c =
    IsInByteOrder-from_keys string_bytes c.args.set.now.keys c.len-count.ensures.ordered
