use Rattle.std.proofs.Common.{◌≡◌, ◌∙◌, ◌+◌, ◌++◌, ◌∷◌, [], ℕ, List, take, append_assoc, ap, sym}
use Rattle.std.proofs.lemmas.Grind.{flat_map-append}
use Rattle.std.proofs.lemmas.List.{append-nil, take_all, take_more}
use Rattle.std.specs.List.{flat_map}
use Rattle.rc_compile.specs.CompileRefusals.{word_with_names}
use Rattle.rc_compile.proofs.command.compile_faults.told_all.Goals as goal

-- one more name
one_more : (word : List ℕ) (before : List (List ℕ)) (name : List ℕ)
    → word_with_names word (before ++ name ∷ []) ≡ word_with_names word before ++ 32 ∷ name
one_more word before name =
    let told : List (List ℕ) → List ℕ = λ names. flat_map (λ n. 32 ∷ n) names in
    ap (λ (t : List ℕ). word ++ t)
    (flat_map-append (λ n. 32 ∷ n) before (name ∷ [])
    ∙ ap (λ (t : List ℕ). told before ++ t) (append-nil (32 ∷ name)))
    ∙ sym (append_assoc word (told before) (32 ∷ name))

pub loop-name-preserved : goal.loop-name-preserved
loop-name-preserved c =
    let names : List (List ℕ) = c.args.names.now in
    let i : ℕ = c.loop-name.name-index in
    let name : List ℕ = c.name-item.result in
    c.in_ok-add_word.ensures
    ∙ (ap (λ (n : List ℕ). c.loop-name.text.items ++ 32 ∷ n) c.text.ensures.bytes
    ∙ (ap (λ (t : List ℕ). t ++ 32 ∷ name) c.loop-name.invariant
    ∙ (sym (one_more c.args.word.now (take i names) name)
    ∙ sym (ap (word_with_names c.args.word.now)
    (take_more names i name c.loop-name-test.true ∙ ap (λ (n : List ℕ). take i names ++ n ∷ [])
    (sym c.name-item.is))))))

pub returns : goal.returns
returns c =
    c.loop-name.invariant
    ∙ ap (word_with_names c.args.word.now)
    (take_all c.loop-name.name-index c.args.names.now c.loop-name-test.false)
