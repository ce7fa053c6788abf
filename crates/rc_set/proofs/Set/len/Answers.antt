use Rattle.std.proofs.Common.{◌*◌, ℕ, List, Bool, length, ap, ◌∙◌, count_by}
use Rattle.rc_set.specs.Words.{flags_of}
use Rattle.rc_set.proofs.Counts.{counted_below}
use Rattle.rc_set.proofs.Set.len.Goals as goal

pub returns : goal.returns
returns c =
    let words = c.self.inside.words.items in
    c.count_of.ensures
    ∙ ap (λ (ws : List ℕ). count_by (λ flag. flag) (flags_of (64 * length ws) ws))
    c.deref.ensures.value
    ∙ counted_below c.self.inside.bound (64 * length words) words c.self.invariant
    c.self.invariant.enough
    ∙ ap (λ (flags : List Bool). count_by (λ flag. flag) flags) c.self.view_is
