use Rattle.std.proofs.Common.{◌≡◌, ◌≢◌, ◌∙◌, ◌+◌, ◌-◌, ◌<◌, ◌≤◌, ℕ, List, [], Option, Some, vec_len}
use Rattle.std.proofs.Common.{vec_capacity, ap, subst, sym, arith}
use Rattle.std.specs.List.{All}
use Rattle.std.proofs.lemmas.List.Elements.{All-push, All-pop}
use Rattle.rc_board.specs.declared.crew.Tools.{Tools}
use Rattle.rc_board.specs.Pads.{Written, AreSaid}
use Rattle.rc_board.proofs.crew.+start_rest.Goals as goal

-- where the pads of workers have room, one has
room_for_one : (len worker capacity : ℕ) → 1 ≤ worker → len + worker ≤ capacity → len < capacity
room_for_one len worker capacity some room = omega arith

-- what the others leave has room for one more
room_after : (len worker capacity len' capacity' : ℕ) → 1 ≤ worker → len + worker ≤ capacity
    → len' ≤ len + (worker - 1) → capacity' ≡ capacity → len' < capacity'
room_after len worker capacity len' capacity' some room bound same = omega arith

room_for_others : (len worker capacity : ℕ) → len + worker ≤ capacity
    → len + (worker - 1) ≤ capacity
room_for_others len worker capacity room = omega arith

one_of_others : (worker : ℕ) → 1 ≤ worker → worker ≢ 1 → 1 ≤ worker - 1
one_of_others worker some other = omega arith

none_added : (len worker : ℕ) → len ≤ len + worker
none_added len worker = omega arith

one_added : (len len' worker : ℕ) → len' ≡ len + 1 → 1 ≤ worker → len' ≤ len + worker
one_added len len' worker is some = omega arith

last_added : (len worker len' len'' : ℕ) → 1 ≤ worker → len' ≤ len + (worker - 1)
    → len'' ≡ len' + 1 → len'' ≤ len + worker
last_added len worker len' len'' some bound is = omega arith

all_added : (len worker len' len'' : ℕ) → 1 ≤ worker → len' ≡ len + (worker - 1)
    → len'' ≡ len' + 1 → len'' ≡ len + worker
all_added len worker len' len'' some bound is = omega arith

pub returns-in_default-clause-said : goal.returns-in_default-clause-said
returns-in_default-clause-said g t c = c.requires.said

pub returns-in_default-clause-bound : goal.returns-in_default-clause-bound
returns-in_default-clause-bound g t c = none_added (vec_len c.args.pads.now) c.args.worker

pub push_reserved-requires : goal.push_reserved-requires
push_reserved-requires g t c =
    room_for_one (vec_len c.args.pads.now) c.args.worker (vec_capacity c.args.pads.now)
    c.requires.some c.requires.room

pub returns-then-worker-eq1-clause-said : goal.returns-then-worker-eq1-clause-said
returns-then-worker-eq1-clause-said g t c =
    let said : (Written → Type 0) =
    λ pad. AreSaid (g.G.Gate.answers c.args.crew.gate.now) (g.G.Gate.gives c.args.crew.gate.now)
    c.args.crew.shared.now.deadline pad.notes in
    subst (λ (pads : List Written). All said pads) (sym c.push_reserved.ensures.items)
    (All-push said c.args.pads.now.items c.work.result c.requires.said c.work.ensures)

pub returns-then-worker-eq1-clause-bound : goal.returns-then-worker-eq1-clause-bound
returns-then-worker-eq1-clause-bound g t c =
    one_added (vec_len c.args.pads.now) (vec_len c.push_reserved.new.self) c.args.worker
    c.push_reserved.ensures.len c.requires.some

pub returns-then-worker-eq1-clause-all : goal.returns-then-worker-eq1-clause-all
returns-then-worker-eq1-clause-all g t c started =
    c.push_reserved.ensures.len
    ∙ ap (λ (n : ℕ). vec_len c.args.pads.now + n) (sym c.if-worker-eq1.true)

pub returns-in_default-started-clause-said : goal.returns-in_default-started-clause-said
returns-in_default-started-clause-said g t c = c.requires.said

pub returns-in_default-started-clause-bound : goal.returns-in_default-started-clause-bound
returns-in_default-started-clause-bound g t c = none_added (vec_len c.args.pads.now) c.args.worker

pub overflow_sub-worker : goal.overflow_sub-worker
overflow_sub-worker g t c = c.requires.some

pub start_rest-all-requires-clause-some : goal.start_rest-all-requires-clause-some
start_rest-all-requires-clause-some g t c κs within =
    one_of_others c.args.worker c.requires.some c.if-worker-eq1.false

pub start_rest-all-requires-clause-tools : goal.start_rest-all-requires-clause-tools
start_rest-all-requires-clause-tools g t c κs within =
    (All-pop (λ (tools : Tools). tools.pad.notes ≡ []) c.args.rest.now.items c.pop.new.self.items
    (Some c.in-Some.tools) c.in-Some.ensures.items c.requires.tools).0

pub start_rest-all-requires-clause-said : goal.start_rest-all-requires-clause-said
start_rest-all-requires-clause-said g t c κs within = c.requires.said

pub start_rest-all-requires-clause-room : goal.start_rest-all-requires-clause-room
start_rest-all-requires-clause-room g t c κs within =
    room_for_others (vec_len c.args.pads.now) c.args.worker (vec_capacity c.args.pads.now)
    c.requires.room

pub push_reserved-requires-2 : goal.push_reserved-requires-2
push_reserved-requires-2 g t c =
    room_after (vec_len c.args.pads.now) c.args.worker (vec_capacity c.args.pads.now)
    (vec_len c.start_rest-all.new.pads) (vec_capacity c.start_rest-all.new.pads) c.requires.some
    c.requires.room c.start_rest-all.ensures.bound c.start_rest-all.ensures.capacity

pub returns-clause-said : goal.returns-clause-said
returns-clause-said g t c =
    let said : (Written → Type 0) =
    λ pad. AreSaid (g.G.Gate.answers c.args.crew.gate.now) (g.G.Gate.gives c.args.crew.gate.now)
    c.args.crew.shared.now.deadline pad.notes in
    let there : said c.join.result =
    subst (λ gate. AreSaid (g.G.Gate.answers gate) (g.G.Gate.gives gate)
    c.args.crew.shared.now.deadline
    c.join.result.notes)
    c.in-Some-started.ensures.gate
    (subst (λ (deadline : Option ℕ). AreSaid
    (g.G.Gate.answers c.in-Some-started.child.promise.gate.now)
    (g.G.Gate.gives c.in-Some-started.child.promise.gate.now) deadline c.join.result.notes)
    c.in-Some-started.ensures.deadline c.join.ensures) in
    subst (λ (pads : List Written). All said pads) (sym c.push_reserved-2.ensures.items)
    (All-push said c.start_rest-all.new.pads.items c.join.result c.start_rest-all.ensures.said
    there)

pub returns-clause-bound : goal.returns-clause-bound
returns-clause-bound g t c =
    last_added (vec_len c.args.pads.now) c.args.worker (vec_len c.start_rest-all.new.pads)
    (vec_len c.push_reserved-2.new.self) c.requires.some c.start_rest-all.ensures.bound
    c.push_reserved-2.ensures.len

pub returns-clause-all : goal.returns-clause-all
returns-clause-all g t c started =
    all_added (vec_len c.args.pads.now) c.args.worker (vec_len c.start_rest-all.new.pads)
    (vec_len c.push_reserved-2.new.self) c.requires.some (c.start_rest-all.ensures.all started)
    c.push_reserved-2.ensures.len

pub returns-clause-capacity : goal.returns-clause-capacity
returns-clause-capacity g t c =
    c.push_reserved-2.ensures.capacity ∙ c.start_rest-all.ensures.capacity
