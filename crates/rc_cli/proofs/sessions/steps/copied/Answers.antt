use Rattle.std.proofs.Common.{◌≡◌, ◌∙◌, ◌+◌, ◌∷◌, ◌++◌, [], ℕ, List, ap, map, string_bytes, sym}
use Rattle.std.proofs.Common.{take}
use Rattle.rc_db.proofs.Listing.{shown_more}
use Rattle.rc_model.proofs.Mapped.{mapped_more}
use Rattle.rc_cli.proofs.sessions.steps.copied.Goals as goal

pub loop-name-preserved : goal.loop-name-preserved
loop-name-preserved c =
    let i : ℕ = c.loop-name.name-index in
    let all : List (List ℕ) = map string_bytes c.args.names.now in
    let name = c.name-item.result in
    let more : take (i + 1) all ≡ take i all ++ string_bytes name ∷ [] =
    mapped_more string_bytes c.args.names.now i name c.loop-name-test.true
    ∙ ap (λ (x : List ℕ). take i all ++ x ∷ []) (ap string_bytes (sym c.name-item.is)) in
    shown_more string_bytes c.loop-name.copy.items c.push.new.self.items c.in_ok-string.string
    c.in_ok-push.ensures.items
    ∙ (ap (λ (xs : List (List ℕ)). xs ++ string_bytes c.in_ok-string.string ∷ [])
    c.loop-name.invariant
    ∙ (ap (λ (x : List ℕ). take i all ++ x ∷ [])
    (c.in_ok-string.ensures.ok ∙ c.as_str.ensures.value)
    ∙ sym more))
