use Rattle.std.proofs.Common.{◌≡◌, ◌-◌, ◌≤◌, false, map, drop, length}
use Rattle.rc_script.specs.Options.{front_of, onto}
use Rattle.rc_script.proofs.options.front_of.Given as goal

abbrev pub invariant-loop-alloc : goal.invariant-loop-alloc
invariant-loop-alloc l = (l.start ≤ length l.words)
    × (front_of false (map (λ word. word.now) l.words)
    ≡ onto l.choices.items (front_of false (drop l.start (map (λ word. word.now) l.words))))

abbrev pub decreases-loop-alloc : goal.decreases-loop-alloc
decreases-loop-alloc l = length l.words - l.start
