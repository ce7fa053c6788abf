use Rattle.std.proofs.Common.{◌∙◌, ◌++◌, ℕ, List, ap, map, append_assoc}
use Rattle.rc_dbtext.specs.Spelling.{members, name_at}
use Rattle.rc_livetext.specs.Text.{OfState, spell}
use Rattle.rc_livetext.specs.Written.{bundle_bytes}
use Rattle.rc_livetext.proofs.write.push_state.Goals as goal

pub returns : goal.returns
returns c =
    let first : List ℕ =
    spell (OfState c.args.current (map (name_at c.args.names.now) (members c.args.live.now))) in
    let more : List ℕ = bundle_bytes c.args.names.now c.args.table.now in
    c.in_ok-push_bundles.ensures
    ∙ (ap (λ (t : List ℕ). t ++ more) c.in_ok-push_live.ensures
    ∙ append_assoc c.args.out.now.items first more)
