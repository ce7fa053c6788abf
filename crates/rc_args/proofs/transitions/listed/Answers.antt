use Rattle.std.proofs.Common.{◌≡◌, ◌∙◌, ap, ◌≤◌, ◌+◌, ◌++◌, ◌∷◌, [], ℕ, List, Bor, length, map}
use Rattle.std.proofs.Common.{take, get_or, sym, subst, arith}
use Rattle.std.proofs.lemmas.List.{take_all, length-map}
use Rattle.std.proofs.lemmas.List.{map-append}
use Rattle.rc_args.specs.Listed.{Listed, AreSpelled}
use Rattle.rc_args.specs.Reading.{listed_of}
use Rattle.rc_model.proofs.Mapped.{mapped_more}
use Rattle.rc_args.proofs.Spelling.{not_spelled, spelled_on}
use Rattle.rc_args.proofs.transitions.listed.Goals as goal

-- what stands past the end of the words
abbrev none : Bor (List ℕ)
none = record { ref_ptr = (0, 0); now = [] }

pub loop-word-preserved : goal.loop-word-preserved
loop-word-preserved c =
    let words : List (List ℕ) = map (λ w. w.now) c.args.words.now in
    let i : ℕ = c.loop-word.word-index in
    let word : List ℕ = (get_or c.args.words.now i none).now in
    let one : Listed = listed_of c.in-Some.transition in
    let more : take (i + 1) words ≡ take i words ++ word ∷ [] =
    mapped_more (λ w. w.now) c.args.words.now i none c.loop-word-test.true in
    let grown : map listed_of c.add.new.all.items ≡ map listed_of c.loop-word.all.items ++ one
    ∷ [] =
    ap (map listed_of) c.in_ok-add-in-Some.ensures ∙ map-append listed_of c.loop-word.all.items
    (c.in-Some.transition ∷ []) in
    subst (λ (ws : List (List ℕ)). AreSpelled ws (map listed_of c.add.new.all.items)) (sym more)
    (subst (AreSpelled (take i words ++ word ∷ [])) (sym grown)
    (spelled_on (take i words) (map listed_of c.loop-word.all.items) word one c.loop-word.invariant
    c.in-Some.ensures.some))

pub returns-in-None-clause-wrong : goal.returns-in-None-clause-wrong
returns-in-None-clause-wrong c = λ _. not_spelled (λ w. w.now) c.args.words.now
    c.loop-word.word-index none c.loop-word-test.true c.in-None.ensures.none

pub returns-clause-list : goal.returns-clause-list
returns-clause-list c =
    let past : length (map (λ w. w.now) c.args.words.now) ≤ c.loop-word.word-index =
    omega (arith, length-map c.args.words.now (λ w. w.now)) in
    subst (λ (ws : List (List ℕ)). AreSpelled ws (map listed_of c.loop-word.all.items))
    (take_all c.loop-word.word-index _ past) c.loop-word.invariant
