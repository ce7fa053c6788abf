use Rattle.std.proofs.Common.{◌≡◌, ◌∙◌, ◌+◌, ℕ, List, [], ◌∷◌, ◌++◌, take, sym, ap, subst}
use Rattle.std.proofs.lemmas.List.{take_more, take_all}
use Rattle.rc_compile.proofs.Listing.{Puts, puts_none, puts_more}
use Rattle.rc_compile.proofs.members.rows.add_all.Goals as goal

pub loop-name-init : goal.loop-name-init
loop-name-init c = puts_none c.args.to.now c.args.ids.now.items

pub loop-name-preserved : goal.loop-name-preserved
loop-name-preserved c =
    let names = c.args.names.now in
    let i = c.loop-name.name-index in
    let name = c.name-item.result in
    let next : take (i + 1) names ≡ take i names ++ name ∷ [] =
    take_more names i name c.loop-name-test.true ∙ ap (λ (x : List ℕ). take i names ++ x ∷ [])
    (sym c.name-item.is) in
    subst (λ (ns : List (List ℕ)). Puts c.args.to.now c.args.ids.now.items ns
    c.add_place.new.ids.items) (sym next)
    (puts_more c.args.to.now c.args.ids.now.items c.loop-name.ids.items c.add_place.new.ids.items
    (take i names) name c.loop-name.invariant c.in_ok-add_place.ensures)

pub returns : goal.returns
returns c =
    subst (λ (ns : List (List ℕ)). Puts c.args.to.now c.args.ids.now.items ns c.loop-name.ids.items)
    (take_all c.loop-name.name-index c.args.names.now c.loop-name-test.false) c.loop-name.invariant
