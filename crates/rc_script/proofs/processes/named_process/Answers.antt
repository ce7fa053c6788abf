use Rattle.std.proofs.Common.{◌≡◌, ◌∙◌, ◌++◌, ◌∷◌, ◌+◌, ◌<◌, ◌≤◌, [], ℕ, All, Bor, List, None}
use Rattle.std.proofs.Common.{Option, Some, ap, arith, length, map, refl, slice_index_or, subst}
use Rattle.std.proofs.Common.{sym, take}
use Rattle.std.proofs.lemmas.List.{get_or-map, length-map, take_more, take_all}
use Rattle.std.proofs.lemmas.List.Elements.{All-push}
use Rattle.rc_script.specs.Processes.{IsProcessOf}
use Rattle.rc_script.proofs.processes.named_process.Goals as goal

none_of : {X : Type 0} (found : Option X) → ((x : X) → found ≡ Some x → ⊥) → found ≡ None
none_of None never = refl
none_of (Some x) never = absurd (never x refl)

-- what holds of the texts before a place and of the one there holds of those up to it
up_to : (P : List ℕ → Type 0) (items : List (Bor (List ℕ))) (i : ℕ) (d : Bor (List ℕ))
    → i < length items → All P (take i (map (λ item. item.now) items))
    → P (slice_index_or items i d).now → All P (take (i + 1) (map (λ item. item.now) items))
up_to P items i d low before here =
    let texts : List (List ℕ) = map (λ (item : Bor (List ℕ)). item.now) items in
    let within : i < length texts =
    omega (arith, low, length-map items (λ (item : Bor (List ℕ)). item.now)) in
    let more : take (i + 1) texts ≡ take i texts ++ (slice_index_or items i d).now ∷ [] =
    take_more texts i d.now within
    ∙ ap (λ (text : List ℕ). take i texts ++ text ∷ [])
    (get_or-map (λ (item : Bor (List ℕ)). item.now) items i d d.now low) in
    subst (λ (list : List (List ℕ)). All P list) (sym more) (All-push P (take i texts)
    (slice_index_or items i d).now before here)

pub loop-line-preserved : goal.loop-line-preserved
loop-line-preserved c =
    up_to (λ (line : List ℕ). IsProcessOf c.args.name.now line None) c.deref-line-items.result.now
    c.loop-line.line-index _ c.loop-line-test.true c.loop-line.invariant
    (rw (none_of c.in_ok-process.field-0 c.in_default.not-Some) at c.in_ok-process.ensures)

pub returns : goal.returns
returns c =
    let P : List ℕ → Type 0 = λ line. IsProcessOf c.args.name.now line None in
    let texts : List (Bor (List ℕ)) → List (List ℕ) = map (λ line. line.now) in
    let items : List (Bor (List ℕ)) = c.deref-line-items.result.now in
    let beyond : length (texts items) ≤ c.loop-line.line-index =
    omega (arith, c.loop-line-test.false, length-map items (λ (item : Bor (List ℕ)). item.now)) in
    let all : All P (texts items) = subst (λ (ls : List (List ℕ)). All P ls)
    (take_all c.loop-line.line-index (texts items) beyond) c.loop-line.invariant in
    subst (λ (ls : List (List ℕ)). All P ls)
    (ap texts c.deref-line-items.ensures.value ∙ c.in_ok-lines.ensures) all
