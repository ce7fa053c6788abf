use Rattle.std.proofs.Common.{◌≡◌, ◌∙◌, ◌<◌, ◌≤◌, ◌+◌, ◌++◌, ◌∷◌, [], ℕ, List, Result, Ok, Err}
use Rattle.std.proofs.Common.{OnOk, if◌then◌else◌, length, get_or, take, append_assoc, ap, subst}
use Rattle.std.proofs.lemmas.List.{take_all, take_more}
use Rattle.std.specs.List.{flat_map}
use Rattle.std.specs.Result.{is_ok}
use Rattle.rc_model.proofs.Lists.{one_more, grown}
use Rattle.rc_render.specs.DotText.{in_quotes, quoted_byte}
use Rattle.rc_render.proofs.dot.add_quoted.Goals as goal

-- a text that grew to a whole one, if it did
grown_to : {T E : Type 0} (r : Result T E) (new old more whole : List ℕ)
    → new ≡ (if is_ok r then old ++ more else old) → old ++ more ≡ whole → OnOk r (new ≡ whole)
grown_to (Ok x) new old more whole grows is = grows ∙ is
grown_to (Err e) new old more whole grows is = tt

pub loop-byte-preserved : goal.loop-byte-preserved
loop-byte-preserved c =
    let name : List ℕ = c.args.name.now in
    let i : ℕ = c.loop-byte.byte-index in
    let is : c.as_bytes-byte-items.result.now ≡ name =
    c.as_bytes-byte-items.ensures.value ∙ c.text.ensures.bytes in
    let within : i < length name =
    subst (λ (bytes : List ℕ). i < length bytes) is c.loop-byte-test.true in
    grown c.add_byte.new.text.items c.loop-byte.text.items c.args.text.now.items
    (34 ∷ flat_map quoted_byte (take i name)) (34 ∷ flat_map quoted_byte (take (i + 1) name))
    (quoted_byte (get_or name i 0))
    (c.in_ok-add_byte.ensures
    ∙ ap (λ (bytes : List ℕ). c.loop-byte.text.items ++ quoted_byte (get_or bytes i 0)) is)
    c.loop-byte.invariant
    (ap (λ (t : List ℕ). 34 ∷ t) (ap (flat_map quoted_byte) (take_more name i 0 within)
    ∙ one_more quoted_byte (take i name) (get_or name i 0)))

pub returns : goal.returns
returns c =
    let name : List ℕ = c.args.name.now in
    let old : List ℕ = c.args.text.now.items in
    let is : c.as_bytes-byte-items.result.now ≡ name =
    c.as_bytes-byte-items.ensures.value ∙ c.text.ensures.bytes in
    let all : take c.loop-byte.byte-index name ≡ name = take_all c.loop-byte.byte-index name
    (subst (λ (bytes : List ℕ). length bytes ≤ c.loop-byte.byte-index) is c.loop-byte-test.false) in
    grown_to c.extend_from_slice.result c.extend_from_slice.new.self.items c.loop-byte.text.items
    (34 ∷ []) (old ++ in_quotes name) c.extend_from_slice.ensures.items
    (ap (λ (t : List ℕ). t ++ 34 ∷ []) c.loop-byte.invariant
    ∙ (append_assoc old (34 ∷ flat_map quoted_byte (take c.loop-byte.byte-index name)) (34 ∷ [])
    ∙ ap (λ (bytes : List ℕ). old ++ in_quotes bytes) all))
