use Rattle.std.proofs.Common.{◌≡◌, ◌∙◌, ◌∷◌, ◌++◌, [], List, ℕ, Contains, map, string_bytes, sym}
use Rattle.std.proofs.Common.{ap, arith, subst}
use Rattle.std.proofs.lemmas.List.{map-append}
use Rattle.rc_names.specs.Names.{Adds}
use Rattle.rc_source.specs.declared.definition.Definition.{Definition}
use Rattle.rc_source.specs.Meaning.{Meaning}
use Rattle.rc_source.specs.Said.{AreFound, meaning_of, meant}
use Rattle.rc_source.proofs.Meant.{added_to}
use Rattle.rc_source.proofs.found.Found.add.Goals as goal

pub invariant_of-self-2 : goal.invariant_of-self-2
invariant_of-self-2 c =
    let d : Definition = c.args.definition in
    let old : List Definition = c.self.inside.definitions.items in
    let names : List (List ℕ) = map string_bytes c.self.inside.names.keys in
    let more : List (List ℕ) = map string_bytes c.add.new.set.keys in
    let items : map meaning_of c.push_reserved.new.self.items ≡ map meaning_of old
    ++ meaning_of d ∷ [] =
    ap (map meaning_of)
    (c.push_reserved.ensures.items ∙ ap (λ (ds : List Definition). ds ++ d ∷ [])
    c.reserve.ensures.items) ∙ map-append meaning_of old (d ∷ []) in
    subst (λ (ms : List Meaning). AreFound ms more) (sym items)
    (added_to (map meaning_of old) (meaning_of d) names more c.self.invariant c.requires.meaning
    (λ there. c.requires.free
    (subst (λ (ms : List Meaning). Contains (meant ms) d.name) c.self.view_is there))
    (subst (λ (text : List ℕ). Adds names text more) c.text.ensures.bytes c.in-Ok-add.ensures.adds))

pub invariant_of-self : goal.invariant_of-self
invariant_of-self c =
    subst (λ (ds : List Definition). AreFound (map meaning_of ds)
    (map string_bytes c.self.inside.names.keys)) (sym c.reserve.ensures.items) c.self.invariant

pub returns-in_default-clause-err : goal.returns-in_default-clause-err
returns-in_default-clause-err c = ap (map meaning_of) c.reserve.ensures.items ∙ c.self.view_is

pub invariant_of-self-in_default-add : goal.invariant_of-self-in_default-add
invariant_of-self-in_default-add c =
    subst (AreFound (map meaning_of c.reserve.new.self.items)) (sym c.in_default-add.ensures.err)
    (subst (λ (ds : List Definition). AreFound (map meaning_of ds)
    (map string_bytes c.self.inside.names.keys)) (sym c.reserve.ensures.items) c.self.invariant)

pub returns-in_default-add-clause-err : goal.returns-in_default-add-clause-err
returns-in_default-add-clause-err c = ap (map meaning_of) c.reserve.ensures.items ∙ c.self.view_is

pub push_reserved-requires : goal.push_reserved-requires
push_reserved-requires c = omega (arith, c.in-Ok.ensures.ok)

pub returns-clause-added : goal.returns-clause-added
returns-clause-added c =
    let d : Definition = c.args.definition in
    let old : List Definition = c.self.inside.definitions.items in
    ap (map meaning_of)
    (c.push_reserved.ensures.items ∙ ap (λ (ds : List Definition). ds ++ d ∷ [])
    c.reserve.ensures.items)
    ∙ (map-append meaning_of old (d ∷ []) ∙ ap (λ (ms : List Meaning). ms ++ meaning_of d ∷ [])
    c.self.view_is)
