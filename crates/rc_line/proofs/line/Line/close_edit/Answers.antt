use Rattle.std.proofs.Common.{◌≡◌, ◌≢◌, ◌∙◌, List, [], length, ap, subst, arith}
use Rattle.std.proofs.lemmas.List.{nil_from_length}
use Rattle.rc_model.specs.Line.{Alteration, State, Entry, Line}
use Rattle.rc_line.specs.declared.aim.Aim.{Aim}
use Rattle.rc_line.specs.declared.aim.Aim.TheVariants.{Edit}
use Rattle.rc_line.specs.Opening.{Journal, Opening, AimsAt, table_or, target_of}
use Rattle.rc_line.specs.Keeping.{state}
use Rattle.rc_line.proofs.Closings.{kept_closed, table_here, edit_elsewhere, edit_here}
use Rattle.rc_line.proofs.line.Line.close_edit.Goals as goal

pub returns-then-len-eq0-clause-moved : goal.returns-then-len-eq0-clause-moved
returns-then-len-eq0-clause-moved c =
    let s : State = state c.self.inside.live c.self.inside.table in
    let shown = ap (λ (j : Journal). j.line) c.self.view_is in
    let line : Line = c.args.self.now.line in
    let aimed : AimsAt Edit line (target_of c.args.opening line.current) =
    subst (λ (a : Aim). AimsAt a line (target_of c.args.opening line.current)) c.requires.aim
    c.requires.opened.aim in
    let empty : length c.args.edit ≡ 0 = omega (arith, c.len.ensures.len) in
    edit_here c.self.inside.bound c.self.inside.done.items c.self.inside.undone.items s line shown
    c.args.edit (target_of c.args.opening line.current).table c.self.invariant.fits aimed.1
    c.requires.edit empty

pub invariant_of-self-2 : goal.invariant_of-self-2
invariant_of-self-2 c =
    let s : State = state c.self.inside.live c.self.inside.table in
    let shown = ap (λ (j : Journal). j.line) c.self.view_is in
    let line : Line = c.args.self.now.line in
    let aimed : AimsAt Edit line (target_of c.args.opening line.current) =
    subst (λ (a : Aim). AimsAt a line (target_of c.args.opening line.current)) c.requires.aim
    c.requires.opened.aim in
    let e : Entry = record {
      raised = c.opening.inside.near.raised.items;
      lowered = c.opening.inside.near.lowered.items;
      edit = c.args.edit;
    } in
    let table : c.replace.new.table ≡ (target_of c.args.opening line.current).table =
    c.replace.ensures
    ∙ ap (λ (o : Opening). table_or o.table c.self.inside.table) c.opening.view_is
    ∙ table_here c.self.inside.bound c.self.inside.done.items c.self.inside.undone.items s line
    shown c.args.opening in
    let raised : length e.raised ≡ 0 =
    omega (arith, c.opening.invariant.0.raised.empty, c.opening.inside.near.raised.ok) in
    let lowered : length e.lowered ≡ 0 =
    omega (arith, c.opening.invariant.0.lowered.empty, c.opening.inside.near.lowered.ok) in
    let some : c.args.edit ≢ [] =
    λ none. (let empty : length c.args.edit ≡ 0 =
    ap (λ (edit : List Alteration). length edit) none in omega (arith, c.len.ensures.len)) in
    let fit = rw (c.push_back_reserved.ensures.items, c.spend_all.ensures.items) at c.fit.ensures in
    let m = edit_elsewhere c.self.inside.bound c.self.inside.done.items c.self.inside.undone.items s
    line shown e (target_of c.args.opening line.current).table _ _ c.self.invariant.bound
    (c.self.invariant.fits, c.self.invariant.few) aimed.1 c.requires.edit some
    (nil_from_length _ raised) (nil_from_length _ lowered) fit in
    rw table (kept_closed c.self.inside.bound _ _ _ _ _ c.self.invariant.bound m.0)

pub returns-clause-moved : goal.returns-clause-moved
returns-clause-moved c =
    let s : State = state c.self.inside.live c.self.inside.table in
    let shown = ap (λ (j : Journal). j.line) c.self.view_is in
    let line : Line = c.args.self.now.line in
    let aimed : AimsAt Edit line (target_of c.args.opening line.current) =
    subst (λ (a : Aim). AimsAt a line (target_of c.args.opening line.current)) c.requires.aim
    c.requires.opened.aim in
    let e : Entry = record {
      raised = c.opening.inside.near.raised.items;
      lowered = c.opening.inside.near.lowered.items;
      edit = c.args.edit;
    } in
    let table : c.replace.new.table ≡ (target_of c.args.opening line.current).table =
    c.replace.ensures
    ∙ ap (λ (o : Opening). table_or o.table c.self.inside.table) c.opening.view_is
    ∙ table_here c.self.inside.bound c.self.inside.done.items c.self.inside.undone.items s line
    shown c.args.opening in
    let raised : length e.raised ≡ 0 =
    omega (arith, c.opening.invariant.0.raised.empty, c.opening.inside.near.raised.ok) in
    let lowered : length e.lowered ≡ 0 =
    omega (arith, c.opening.invariant.0.lowered.empty, c.opening.inside.near.lowered.ok) in
    let some : c.args.edit ≢ [] =
    λ none. (let empty : length c.args.edit ≡ 0 =
    ap (λ (edit : List Alteration). length edit) none in omega (arith, c.len.ensures.len)) in
    let fit = rw (c.push_back_reserved.ensures.items, c.spend_all.ensures.items) at c.fit.ensures in
    let m = edit_elsewhere c.self.inside.bound c.self.inside.done.items c.self.inside.undone.items s
    line shown e (target_of c.args.opening line.current).table _ _ c.self.invariant.bound
    (c.self.invariant.fits, c.self.invariant.few) aimed.1 c.requires.edit some
    (nil_from_length _ raised) (nil_from_length _ lowered) fit in
    rw table m.1
