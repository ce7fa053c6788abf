use Rattle.std.proofs.Common.{◌≡◌, ◌∙◌, ◌<◌, ℕ, false, length, slice_index_or, sym, arith}
use Rattle.rc_graph.proofs.RowLemmas.{short_list}
use Rattle.rc_core.proofs.Arriving.{beq-true, beq-false, all_counted, none_of_them, each_listed}
use Rattle.rc_core.proofs.ready.count_alike.Goals as goal

pub overflow_cast-result : goal.overflow_cast-result
overflow_cast-result c =
    let short =
    short_list c.args.list.now (length c.args.set.now) c.requires.list c.requires.known in
    record { fits = omega (arith, short, c.requires.few) }

pub returns-then-all-inside : goal.returns-then-all-inside
returns-then-all-inside c =
    all_counted (λ s. slice_index_or c.args.set.now s false ≡ c.args.inside) c.args.list.now
    c.requires.list
    (λ s there.
    c.requires.alike s
    (each_listed (λ (t : ℕ). t < length c.args.set.now) c.args.list.now c.requires.known s there)
    ∙ beq-true c.args.all c.args.inside c.if-all-inside.true)

pub returns-else-all-inside : goal.returns-else-all-inside
returns-else-all-inside c =
    none_of_them (λ s. slice_index_or c.args.set.now s false ≡ c.args.inside) c.args.list.now
    (λ s there is.
    beq-false c.args.all c.args.inside c.if-all-inside.false
    (sym (c.requires.alike s
    (each_listed (λ (t : ℕ). t < length c.args.set.now) c.args.list.now c.requires.known s there))
    ∙ is))
