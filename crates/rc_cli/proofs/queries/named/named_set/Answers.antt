use Rattle.std.proofs.Common.{◌≡◌, ◌≤◌, ◌∙◌, ◌∷◌, ◌++◌, ◌+◌, [], ℕ, List, Bor, length, map, take}
use Rattle.std.proofs.Common.{get_or, inl, sym, subst, arith}
use Rattle.std.proofs.lemmas.List.{take_all, length-map}
use Rattle.rc_model.specs.Names.{Holds}
use Rattle.rc_cli.specs.Named.{IsNamed, AreNamed}
use Rattle.rc_cli.proofs.NamedLemmas.{first_unknown, known_one, named_one}
use Rattle.rc_model.proofs.Mapped.{mapped_more}
use Rattle.rc_cli.proofs.queries.named.named_set.Goals as goal

-- what stands past the end of the words
abbrev none : Bor (List ℕ)
none = record { ref_ptr = (0, 0); now = [] }

pub loop-word-preserved : goal.loop-word-preserved
loop-word-preserved c =
    let words : List (List ℕ) = map (λ w. w.now) c.args.words.now in
    let i : ℕ = c.loop-word.word-index in
    let word : List ℕ = (get_or c.args.words.now i none).now in
    let more : take (i + 1) words ≡ take i words ++ word ∷ [] =
    mapped_more (λ w. w.now) c.args.words.now i none c.loop-word-test.true in
    record {
      bound = c.insert.ensures.bound ∙ c.loop-word.invariant.bound;
      members =
          subst (λ (ws : List (List ℕ)). Holds c.insert.new.self (IsNamed c.args.names.now ws))
          (sym more)
          (named_one c.args.names.now (take i words) word c.in-Some.id _ _ c.len.ensures.names.order
          c.in-Some.ensures.found c.loop-word.invariant.members c.insert.ensures.members);
      known =
          subst (AreNamed c.args.names.now) (sym more)
          (known_one c.args.names.now (take i words) word c.in-Some.id c.in-Some.ensures.found
          c.loop-word.invariant.known);
    }

pub returns-in-None-clause-fault : goal.returns-in-None-clause-fault
returns-in-None-clause-fault c =
    let unknown = first_unknown (λ w. w.now) c.args.names.now c.args.words.now
    c.loop-word.word-index none c.loop-word-test.true c.loop-word.invariant.known
    c.in-None.ensures.missing in
    inl (_, unknown, c.unknown_name.ensures)

pub returns-clause-members : goal.returns-clause-members
returns-clause-members c =
    let past : length (map (λ w. w.now) c.args.words.now) ≤ c.loop-word.word-index =
    omega (arith, length-map c.args.words.now (λ w. w.now)) in
    subst (λ (ws : List (List ℕ)). Holds c.loop-word.set (IsNamed c.args.names.now ws))
    (take_all c.loop-word.word-index _ past) c.loop-word.invariant.members

pub returns-clause-known : goal.returns-clause-known
returns-clause-known c =
    let past : length (map (λ w. w.now) c.args.words.now) ≤ c.loop-word.word-index =
    omega (arith, length-map c.args.words.now (λ w. w.now)) in
    subst (AreNamed c.args.names.now) (take_all c.loop-word.word-index _ past)
    c.loop-word.invariant.known
