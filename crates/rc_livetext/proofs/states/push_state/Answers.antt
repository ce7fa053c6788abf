use Rattle.std.proofs.Common.{◌≡◌, ◌++◌, ◌∷◌, [], length, rules, refl}
use Rattle.std.proofs.lemmas.Bool.{false≢true}
use Rattle.rc_livetext.specs.Parts.{IsWithin}
use Rattle.rc_livetext.proofs.Pairs.{all_push, texts_push}
use Rattle.rc_livetext.proofs.states.push_state.Goals as goal

pub returns-in_default-clause-known : goal.returns-in_default-clause-known
returns-in_default-clause-known c =
    let unknown = rw c.in_default.is at c.in_ok-state.ensures.unknown in
    (λ yes. absurd (false≢true yes), λ known. absurd (unknown known))

pub returns-clause-known : goal.returns-clause-known
returns-clause-known c =
    let known = rw c.in-Some.is at c.in_ok-state.ensures.known in
    (λ yes. known, λ is. refl)

pub returns-clause-says : goal.returns-clause-says
returns-clause-says c = λ yes.
    let pushed : c.push.new.self.items ≡ c.args.held.now.items ++ c.in-Some.state ∷ [] =
    search rules in
    let says = rw c.in-Some.is at c.in_ok-state.ensures.says in
    texts_push c.args.names.now c.args.held.now.items c.in-Some.state c.push.new.self.items
    c.args.form.now pushed says

pub returns-clause-sets : goal.returns-clause-sets
returns-clause-sets c = λ yes.
    let pushed : c.push.new.self.items ≡ c.args.held.now.items ++ c.in-Some.state ∷ [] =
    search rules in
    let sets = rw c.in-Some.is at c.in_ok-state.ensures.sets in
    all_push (IsWithin (length c.args.names.now)) c.args.held.now.items c.in-Some.state
    c.push.new.self.items pushed c.requires.sets sets
