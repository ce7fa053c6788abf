use Rattle.std.proofs.Common.{◌≡◌, ◌≤◌, ℕ, List, [], sym, subst}
use Rattle.std.specs.List.{All}
use Rattle.std.proofs.lemmas.List.Elements.{All-nil, All-push}
use Rattle.rc_board.specs.declared.crew.Tools.{Tools}
use Rattle.rc_board.proofs.crew.tools_of.Goals as goal

abbrev AreEmpty : List Tools → Type 0
AreEmpty all = All (λ tools. tools.pad.notes ≡ []) all

pub loop-init : goal.loop-init
loop-init c =
    subst (λ (all : List Tools). AreEmpty all) (sym c.in_ok-all.ensures.items)
    (All-nil (λ (tools : Tools). tools.pad.notes ≡ []))

pub new-requires : goal.new-requires
new-requires c = subst (λ (n : ℕ). n ≤ 8192) (sym c.planned.ensures) c.requires.few

pub loop-preserved : goal.loop-preserved
loop-preserved c =
    subst (λ (all : List Tools). AreEmpty all) (sym c.in_ok-push.ensures.items)
    (All-push (λ (tools : Tools). tools.pad.notes ≡ []) c.loop.all.items _ c.loop.invariant
    c.in_ok-pad.ensures.empty)

pub returns : goal.returns
returns c = c.loop.invariant
